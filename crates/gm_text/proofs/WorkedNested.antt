-- A grammar with a schema within it, as an example: a word, a schema, and the end of the text, where the outer state knows the dimension that was read.
use Rattle.std.proofs.Common.{◌≡◌, ℕ, List, [], Option, Some, None, Result, Ok, Err, refl, codes}
use Rattle.std.specs.Str.{bytes_eq}
use Rattle.std.specs.Prelude.{if◌then◌else◌}
use Rattle.gm_model.specs.declared.limit.LimitKind.TheVariants as limits
use Rattle.gm_model.specs.Symbols.{Symbol, Word, End, marks_of}
use Rattle.gm_text.specs.inner.Machine.{Stop, Ends, Passes, run}
use Rattle.gm_text.specs.inner.Nested.{Nested, Outside, Inside, Nesting, role_at, move}
use Rattle.gm_text.specs.SchemaText.{Role, Fixed, Passed, LimitOf, Again, passed_of}
use Rattle.gm_text.specs.inner.SchemaReading.{State, AtDim, AtTop, AtEmbeds, AtName, AtOrbit, AtLabel, AtKind, is_whole, never}
use Rattle.gm_text.specs.inner.SchemaReading as schema

data Outer : Type 0 where
  -- before the word, behind a schema of this dimension, and behind the end
  AtWord : Outer
  AtEnd : ℕ → Outer
  AtLast : ℕ → Outer

abbrev outer_move : Outer → Symbol → Option (Nested Outer State)
outer_move AtWord (Word word) = if bytes_eq word (codes "begin") then Some (Inside AtDim) else None
outer_move (AtEnd n) End = Some (Outside (AtLast n))
outer_move _ _ = None

abbrev dim_of : State → ℕ
dim_of (AtEmbeds n declared) = n
dim_of _ = 0

abbrev example : Nesting Outer State Role Role
example = record {
  outer_role = λ outer symbol place. Fixed;
  outer_move = outer_move;
  inner_role = schema.role_at;
  inner_move = schema.move;
  wrap = λ role. role;
  is_whole = is_whole;
  behind = λ state. AtEnd (dim_of state);
}

abbrev read : List ℕ → Result (Nested Outer State) (Stop (Nested Outer State) Passed)
read text = run passed_of never (role_at example) (move example) (Outside AtWord) 0 (marks_of text)

a_schema_within : read (codes "begin dim 2 embed pos <1 2> vec3 embed e <> int") ≡ Ok (Outside (AtLast 2))
a_schema_within = refl

-- behind a whole schema the outer grammar goes on, and no other word can stand there
an_end_is_wanted : read (codes "begin dim 2 other") ≡ Err (Ends (Inside (AtEmbeds 2 [])) (record { symbol = Word (codes "other"); place = 12 }))
an_end_is_wanted = refl

-- the places are those of the whole text
a_label_again : read (codes "begin dim 2 embed pos <1 1> vec3") ≡ Err (Passes Again 25)
a_label_again = refl

a_label_above : read (codes "begin dim 2 embed pos <3> vec3") ≡ Err (Passes (LimitOf limits.Label) 23)
a_label_above = refl

-- The duals of a map and a book have one answer at most to their files.
use Rattle.std.proofs.Common.{◌≡◌, ◌⊎◌, ℕ, ◌<◌, ◌≤◌, List, ◌++◌, map, inl, inr, length, codes, sym, subst, ◌∙◌, arith}
use Rattle.gm_book.proofs.OneBook.{one_book}
use Rattle.gm_book.specs.Canonical as books
use Rattle.gm_dual.specs.Duals.{dual_rule, dual_schema}
use Rattle.gm_forms.specs.BookText.{BookText}
use Rattle.gm_lines.specs.Refusing.{TheMap, TheBook, refusal}
use Rattle.gm_mapfile.proofs.OneMap.{one_map}
use Rattle.gm_mapfile.specs.MapText.{ListedMap, MapText, map_of, canonical}
use Rattle.gm_mapfile.specs.declared.version.MapVersion.{MapVersion}
use Rattle.gm_run.proofs.AlikeLemmas.{alike_self}
use Rattle.gm_run.specs.inner.Alike.{AreAlike}
use Rattle.gm_tool.specs.Answer.{most_bytes, Files, Answer, answers}
use Rattle.gm_tool.specs.DualAnswer.{DualNames, DualInputs, HasDualMap, HasDualBook, IsListedDual, IsDualMapText, IsGoodDual, IsDualAnswer, MapFails, BookFails, LongOutput, Done}
use Rattle.gm_tool.specs.RunAnswer.{IsFailing, IsBadMap, IsBadBookText}
use Rattle.gm_tool.proofs.OneBad.{one_bad, no_bad_map, no_bad_book}
use Rattle.gm_tool.proofs.OneFile.{same_bytes, one_failing, no_failing_good}
use Rattle.gm_tool.proofs.SameRows.{same_listed}

-- a map has one dual
one_dual : (listed a b : ListedMap) → IsListedDual listed a → IsListedDual listed b → a ≡ b
one_dual listed a b one other =
    let same : map_of a ≡ map_of b = one.is ∙ sym other.is in
    same_listed a b one.whole other.whole (subst (AreAlike (map_of a)) same (alike_self (map_of a))) one.ascending other.ascending

one_map_text : (version version' : MapVersion) (listed other : ListedMap) (text text' : List ℕ) → version ≡ version' → listed ≡ other → IsDualMapText version listed text → IsDualMapText version' other text' → text ≡ text'
one_map_text version version' listed other text text' v l (dual, is, e) (dual', is', f) =
    let same : dual ≡ dual' = one_dual listed dual dual' is (subst (λ m. IsListedDual m dual') (sym l) is') in
    e ∙ (λ k. canonical (v k) (same k)) ∙ sym f

module _ (files : Files) (named : DualNames) where
  -- what the files stand for
  same_maps : (a b : DualInputs) → HasDualMap files named a → HasDualMap files named b → (a.version ≡ b.version) × (a.map ≡ b.map)
  same_maps a b (bytes, held, stands) (other, there, stands') = one_map bytes a.version b.version a.map b.map stands (subst (λ t. MapText t b.version b.map) (same_bytes files named.map other bytes there.0 held.0) stands')

  same_books : (a b : DualInputs) → HasDualBook files named a → HasDualBook files named b → (a.book_version ≡ b.book_version) × (a.schema ≡ b.schema) × (a.rules ≡ b.rules)
  same_books a b (bytes, held, stands) (other, there, stands') =
      one_book bytes a.book_version b.book_version a.schema b.schema a.rules b.rules stands (subst (λ t. BookText t b.book_version b.schema b.rules) (same_bytes files named.book other bytes there.0 held.0) stands')

  -- one text where both are good
  one_text : (text other : List ℕ) → IsGoodDual files named text → IsGoodDual files named other → text ≡ other
  one_text text other a b =
      let maps = same_maps a.inputs b.inputs a.the_map b.the_map in
      let rules = same_books a.inputs b.inputs a.the_book b.the_book in
      let front : a.is_text.of_map ≡ b.is_text.of_map = one_map_text a.inputs.version b.inputs.version a.inputs.map b.inputs.map a.is_text.of_map b.is_text.of_map maps.0 maps.1 a.is_text.of_map_is b.is_text.of_map_is in
      a.is_text.is ∙ (λ k. front k ++ books.canonical (rules.0 k) (dual_schema (rules.1 k)) (map (dual_rule (rules.1 k).dim) (rules.2 k))) ∙ sym b.is_text.is

  -- ---- one answer where they are good

  abbrev IsPutAs : List ℕ → Answer → Type 0
  IsPutAs text answer = ((most_bytes < length text) × (answer ≡ answers 8 (refusal (codes "size output")))) ⊎ ((length text ≤ most_bytes) × (answer ≡ answers 0 text))

  one_put : (text : List ℕ) (one other : Answer) → IsPutAs text one → IsPutAs text other → one ≡ other
  one_put text one other (inl (long, e)) (inl (long', f)) = e ∙ sym f
  one_put text one other (inl (long, e)) (inr (fits, f)) = absurd (omega (arith, long, fits))
  one_put text one other (inr (fits, e)) (inl (long, f)) = absurd (omega (arith, long, fits))
  one_put text one other (inr (fits, e)) (inr (fits', f)) = e ∙ sym f

  -- ---- a file fails, or something is made of both

  abbrev MapIs : Answer → Type 0
  MapIs answer = IsFailing files TheMap named.map IsBadMap answer

  abbrev BookIs : Answer → Type 0
  BookIs answer = IsFailing files TheBook named.book IsBadBookText answer

  abbrev Comes : Answer → Type 0
  Comes answer = MapIs answer ⊎ (((inputs : DualInputs) × HasDualMap files named inputs × BookIs answer) ⊎ ((text : List ℕ) × IsGoodDual files named text × IsPutAs text answer))

  comes : (answer : Answer) → IsDualAnswer files named answer → Comes answer
  comes answer (MapFails fails) = inl fails
  comes answer (BookFails inputs has fails) = inr (inl (inputs, has, fails))
  comes answer (LongOutput text good long e) = inr (inr (text, good, inl (long, e)))
  comes answer (Done text good fits e) = inr (inr (text, good, inr (fits, e)))

  no_map : (inputs : DualInputs) (answer : Answer) → MapIs answer → HasDualMap files named inputs → ⊥
  no_map inputs answer fails (bytes, held, stands) =
      no_failing_good files named.map TheMap IsBadMap (λ t. MapText t inputs.version inputs.map) (λ t why bad good. no_bad_map t why inputs.version inputs.map bad good) answer fails bytes held stands

  no_book : (inputs : DualInputs) (answer : Answer) → BookIs answer → HasDualBook files named inputs → ⊥
  no_book inputs answer fails (bytes, held, stands) =
      no_failing_good files named.book TheBook IsBadBookText (λ t. BookText t inputs.book_version inputs.schema inputs.rules) (λ t why bad good. no_bad_book t why inputs.book_version inputs.schema inputs.rules bad good) answer fails bytes held stands

  one_coming : (one other : Answer) → Comes one → Comes other → one ≡ other
  one_coming one other (inl f) (inl g) = one_failing files named.map TheMap IsBadMap (λ bytes why more bad worse. one_bad bytes TheMap why more bad worse) one other f g
  one_coming one other (inl f) (inr (inl (inputs, has, g))) = absurd (no_map inputs one f has)
  one_coming one other (inl f) (inr (inr (text, good, put))) = absurd (no_map good.inputs one f good.the_map)
  one_coming one other (inr (inl (inputs, has, f))) (inl g) = absurd (no_map inputs other g has)
  one_coming one other (inr (inl (inputs, has, f))) (inr (inl (inputs', has', g))) = one_failing files named.book TheBook IsBadBookText (λ bytes why more bad worse. one_bad bytes TheBook why more bad worse) one other f g
  one_coming one other (inr (inl (inputs, has, f))) (inr (inr (text, good, put))) = absurd (no_book good.inputs one f good.the_book)
  one_coming one other (inr (inr (text, good, put))) (inl g) = absurd (no_map good.inputs other g good.the_map)
  one_coming one other (inr (inr (text, good, put))) (inr (inl (inputs, has, g))) = absurd (no_book good.inputs other g good.the_book)
  one_coming one other (inr (inr (text, good, put))) (inr (inr (text', good', put'))) = one_put text one other put (subst (λ t. IsPutAs t other) (sym (one_text text text' good good')) put')

  pub one_dual_answer : (one other : Answer) → IsDualAnswer files named one → IsDualAnswer files named other → one ≡ other
  one_dual_answer one other a b = one_coming one other (comes one a) (comes other b)

-- What a table answers of the names that it holds.
use Rattle.std.proofs.Common.{◌≡◌, ◌+◌, inl, inr, Bool, true, false, not, ◌||◌, ltb, if◌then◌else◌, List, [], ◌∷◌, length, refl, sym, ap, arith}
use Rattle.std.proofs.lemmas.Bool.{cases_Bool, ltb-false}
use Rattle.std.proofs.lemmas.List.{map-append}
use Rattle.std.proofs.lemmas.List.Sums.{prefix_len-le-length}
use Rattle.std.specs.List.{list_any, position, position_or_len}
use Rattle.std.specs.Option.{unwrap_or}
use Rattle.std.specs.Str.{bytes_eq}
use Rattle.indexmap.specs.IndexSet.{insert_key}
use Rattle.gm_model.specs.Names.{is_among}
use Rattle.gm_forms.specs.BookText.{with_name}
use Rattle.gm_forms.specs.declared.key.NameKey.{NameKey}
use Rattle.gm_forms.specs.inner.Held.{names_at}

abbrev pub same_bytes : NameKey → NameKey → Bool
same_bytes x y = bytes_eq x.bytes.now y.bytes.now

pub among_held : (keys : List NameKey) (key : NameKey) → list_any (same_bytes key) keys ≡ is_among (names_at keys) key.bytes.now
among_held [] key = refl
among_held (s ∷ keys) key = ap (λ b. bytes_eq key.bytes.now s.bytes.now || b) (among_held keys key)

pub taken_in : (keys : List NameKey) (key : NameKey) → names_at (insert_key same_bytes keys key) ≡ with_name (names_at keys) key.bytes.now
taken_in keys key = by (list_any (same_bytes key) keys) refl
  where
    by : (b : Bool) → list_any (same_bytes key) keys ≡ b → names_at (insert_key same_bytes keys key) ≡ with_name (names_at keys) key.bytes.now
    by true e = rw (e, sym (among_held keys key), e) refl
    by false e = rw (e, sym (among_held keys key), e) (map-append (λ (s : NameKey). s.bytes.now) keys (key ∷ []))

-- the number of a name, or how many there are where it is none
pub numbered : (keys : List NameKey) (key : NameKey) → position_or_len (same_bytes key) keys ≡ position_or_len (bytes_eq key.bytes.now) (names_at keys)
numbered [] key = refl
numbered (s ∷ keys) key = ap (λ n. if not (bytes_eq key.bytes.now s.bytes.now) then 1 + n else 0) (numbered keys key)

pub place_or_count : {X : Type 0} (test : X → Bool) (xs : List X) → unwrap_or (position test xs) (length xs) ≡ position_or_len test xs
place_or_count test xs = elim (cases_Bool (ltb (position_or_len test xs) (length xs))) [
  | inl less ↦ rw less refl
  | inr not_less ↦ rw not_less (omega (arith, ltb-false (position_or_len test xs) (length xs) not_less, prefix_len-le-length (λ x. not (test x)) xs))
]

-- A table that lists no slot has those of the first names, and none behind them.
use Rattle.std.proofs.Common.{◌≡◌, ℕ, suc, Bool, true, false, ◌+◌, ◌-◌, ◌<◌, ◌≤◌, List, [], ◌∷◌, ◌++◌, length, replicate, refl, sym, ap, ◌∙◌, arith, inl, inr}
use Rattle.std.specs.Prelude.{slice_set, Result, Ok, Err, IsOk, OnOk}
use Rattle.std.specs.List.{range_with_len}
use Rattle.std.proofs.lemmas.Bool.{cases_lt, false≢true}
use Rattle.std.proofs.lemmas.List.{append_assoc, get_or_append_left, get_or-append_right, get_or-replicate, get_or_past, length-replicate, length-append, map-id, replicate-append-replicate}
use Rattle.std.proofs.Math.Seq.{set-append_seam}
use Rattle.std.proofs.lemmas.List.FromFn.{get_or-range_with_len, length-range_with_len, map-range_with_len_more}
use Rattle.gm_arena.specs.inner.Inside.{no_slot, slot_in}
use Rattle.gm_arena.specs.inner.Listing.{even, listing, IsListed}

-- as long as there are names
pub length-even : (taken len : ℕ) → taken ≤ len → length (even taken len) ≡ len
length-even taken len within = length-append (range_with_len 0 taken) (replicate (len - taken) no_slot) ∙ omega (arith, within, length-range_with_len 0 taken, length-replicate (len - taken) no_slot)

-- a name that has the slot of its own number
pub slot_taken : (taken len name : ℕ) → name < taken → slot_in (even taken len) name ≡ name
slot_taken taken len name below =
    get_or_append_left (range_with_len 0 taken) (replicate (len - taken) no_slot) no_slot name (rw (length-range_with_len 0 taken) below)
    ∙ (get_or-range_with_len 0 taken name no_slot below ∙ omega arith)

-- a name that has none
pub slot_free : (taken len name : ℕ) → taken ≤ name → slot_in (even taken len) name ≡ no_slot
slot_free taken len name past =
    get_or-append_right (range_with_len 0 taken) (replicate (len - taken) no_slot) taken name no_slot (length-range_with_len 0 taken) past
    ∙ elim (cases_lt (name - taken) (len - taken)) [
      | inl l ↦ get_or-replicate (len - taken) (name - taken) no_slot no_slot l
      | inr l ↦ get_or_past (replicate (len - taken) no_slot) (name - taken) no_slot (rw (length-replicate (len - taken) no_slot) l)
    ]

pub numbers_more : (taken : ℕ) → range_with_len 0 (taken + 1) ≡ range_with_len 0 taken ++ taken ∷ []
numbers_more taken = sym (map-id (range_with_len 0 (taken + 1))) ∙ (map-range_with_len_more (λ x. x) 0 taken taken (omega arith) ∙ ap (λ xs. xs ++ taken ∷ []) (map-id (range_with_len 0 taken)))

-- the next name gets the slot of its own number
pub even_more : (taken len : ℕ) → taken < len → slice_set (even taken len) taken taken ≡ even (taken + 1) len
even_more taken len below =
    let numbers = range_with_len 0 taken in
    let rest = replicate (len - (taken + 1)) no_slot in
    let split : replicate (len - taken) no_slot ≡ no_slot ∷ rest = ap (λ n. replicate n no_slot) (behind taken len below) in
    let last : taken ≡ length numbers = sym (length-range_with_len 0 taken) in
    ap (λ xs. slice_set (numbers ++ xs) taken taken) split
    ∙ (ap (λ n. slice_set (numbers ++ no_slot ∷ rest) n taken) last
    ∙ (set-append_seam numbers no_slot rest taken
    ∙ (sym (append_assoc numbers (taken ∷ []) rest)
    ∙ ap (λ xs. xs ++ rest) (sym (numbers_more taken)))))
  where
    behind : (taken len : ℕ) → taken < len → len - taken ≡ suc (len - (taken + 1))
    behind taken len below = omega (arith, below)

-- more names are reserved
pub even_padded : (taken len names : ℕ) → taken ≤ len → len ≤ names → even taken names ≡ even taken len ++ replicate (names - len) no_slot
even_padded taken len names within more =
    ap (λ xs. range_with_len 0 taken ++ xs) (sym (replicate-append-replicate (len - taken) (names - len) no_slot ∙ ap (λ n. replicate n no_slot) (omega (arith, within, more))))
    ∙ sym (append_assoc (range_with_len 0 taken) (replicate (len - taken) no_slot) (replicate (names - len) no_slot))

-- a table that lists its slots
pub is_listed : (listed : Bool) (slots : List ℕ) (capacity taken len : ℕ) → listed ≡ true → length slots ≡ len → IsListed listed slots capacity taken len
is_listed listed slots capacity taken len told long = record {
  long = λ yes. long;
  none = λ none. absurd (false≢true (sym none ∙ told));
  few = λ none. absurd (false≢true (sym none ∙ told));
  room = λ none. absurd (false≢true (sym none ∙ told));
}

pub length-listing : (listed : Bool) (slots : List ℕ) (capacity taken len : ℕ) → IsListed listed slots capacity taken len → length (listing listed slots taken len) ≡ len
length-listing true slots capacity taken len kept = kept.long refl
length-listing false slots capacity taken len kept = length-even taken len (kept.few refl)

-- what holds of a result that is a value
pub of_ok : {T E : Type 0} {P : Type 0} (result : Result T E) → IsOk result → OnOk result P → P
of_ok (Ok x) ok holds = holds
of_ok (Err e) ok holds = absurd (false≢true ok)

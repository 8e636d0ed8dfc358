-- What a queue and its marks keep when a slot comes or goes, and what a mark tells of its slot.
use Rattle.std.proofs.Common.{◌≡◌, ℕ, zero, suc, ◌+◌, ◌-◌, ◌<◌, ◌≤◌, ◌⊎◌, ◌==◌, List, [], ◌∷◌, ◌++◌, Option, Some, None, cond, length, get_or, set, replicate, slice_get, take, drop, refl, sym, ap, subst, ◌∙◌, inl, inr, le_trans, arith, length-append, length-set, get_or-set_same, get_or-set_other}
use Rattle.std.specs.List.{Contains}
use Rattle.std.specs.Option.{MatchOption, SomeIff}
use Rattle.std.proofs.Math.Seq.{take-append_seam}
use Rattle.std.proofs.lemmas.Bool.{cases_eq, cases_lt, ne_eqb}
use Rattle.std.proofs.lemmas.List.{length-map, length-replicate, get_or_append_left, get_or_push, get_or_past, get_or-map, length_push, get_or-append_right, get_or-replicate}
use Rattle.std.proofs.lemmas.List.Sums.{sum_by-set, sum_by-append}
use Rattle.std.proofs.lemmas.List.Folds.{sum_by-replicate}
use Rattle.std.proofs.lemmas.Option.{slice_get-get_or}
use Rattle.gm_arena.specs.declared.slot.Slot.{Slot}
use Rattle.gm_walk.specs.inner.Marks.{IsKept, IsMarked, numbers, unmarked}

-- a place of a list with one more at its end is a place of the list, or the end
place_cases : (queue : List ℕ) (slot p : ℕ) → p < length (queue ++ slot ∷ []) → (p < length queue) ⊎ (p ≡ length queue)
place_cases queue slot p h = elim (cases_lt p (length queue)) [ inl l ↦ inl l | inr l ↦ inr (omega (arith, length_push queue slot)) ]

module _ (queue marks : List ℕ) (slot : ℕ) where
  -- a slot without a place comes to the end
  pub taken_in : IsMarked queue marks → slot < length marks → get_or marks slot 0 ≡ 0 → IsMarked (queue ++ slot ∷ []) (set marks slot (length queue + 1))
  taken_in m within free = record {
    within = λ p h. elim (place_cases queue slot p h) [
      | inl l ↦ rw (get_or_append_left queue (slot ∷ []) 0 p l, length-set) (m.within p l)
      | inr e ↦ rw (get_or_push queue slot 0 p (sym e), length-set) within
    ];
    marked = λ p h. elim (place_cases queue slot p h) [
      | inl l ↦
          let apart : get_or queue p 0 ≡ slot → ⊥ = λ e. let one : get_or marks slot 0 ≡ p + 1 = ap (λ s. get_or marks s 0) (sym e) ∙ m.marked p l in omega arith in
          rw (get_or_append_left queue (slot ∷ []) 0 p l, get_or-set_other marks slot (get_or queue p 0) (length queue + 1) 0 apart) (m.marked p l)
      | inr e ↦ rw (get_or_push queue slot 0 p (sym e), get_or-set_same marks slot (length queue + 1) 0 within) (ap (λ n. n + 1) (sym e))
    ];
    queued = λ s p h. elim (cases_eq s slot) [
      | inl e ↦
          let here : length queue + 1 ≡ p + 1 = sym (get_or-set_same marks slot (length queue + 1) 0 within) ∙ (ap (λ s. get_or (set marks slot (length queue + 1)) s 0) (sym e) ∙ h) in
          let at : length queue ≡ p = omega arith in
          (omega (arith, length_push queue slot), get_or_push queue slot 0 p at ∙ sym e)
      | inr apart ↦
          let old = m.queued s p (sym (get_or-set_other marks slot s (length queue + 1) 0 apart) ∙ h) in
          (omega (arith, length_push queue slot, old.0), get_or_append_left queue (slot ∷ []) 0 p old.0 ∙ old.1)
    ];
    counted =
        let one : unmarked (set marks slot (length queue + 1)) + cond {A = ℕ} (get_or marks slot 0 == 0) 1 0 ≡ unmarked marks + cond {A = ℕ} (length queue + 1 == 0) 1 0 = sum_by-set (λ mark. cond (mark == 0) 1 0) marks slot (length queue + 1) 0 within in
        let was : cond {A = ℕ} (get_or marks slot 0 == 0) 1 0 ≡ 1 = ap (λ mark. cond (mark == 0) 1 0) free in
        let is : cond {A = ℕ} (length queue + 1 == 0) 1 0 ≡ 0 = ap (λ b. cond b 1 0) (ne_eqb (length queue + 1) 0 (λ e. omega arith)) in
        omega (arith, length_push queue slot, length-set marks slot (length queue + 1), m.counted);
  }

unmarked-replicate : (n : ℕ) → unmarked (replicate n 0) ≡ n
unmarked-replicate n = sum_by-replicate (λ mark. cond (mark == 0) 1 0) n 0 ∙ omega arith

none_there : (n i : ℕ) → get_or {A = ℕ} (replicate n 0) i 0 ≡ 0
none_there n i = elim (cases_lt i n) [ inl l ↦ get_or-replicate n i 0 0 l | inr l ↦ get_or_past (replicate n 0) i 0 (omega (arith, length-replicate {A = ℕ} n 0)) ]

-- more slots that are not in the queue
pub more_marks : (queue marks : List ℕ) (more : ℕ) → IsMarked queue marks → IsMarked queue (marks ++ replicate more 0)
more_marks queue marks more m = record {
  within = λ p h. omega (arith, m.within p h, length-append marks (replicate more 0));
  marked = λ p h. get_or_append_left marks (replicate more 0) 0 (get_or queue p 0) (m.within p h) ∙ m.marked p h;
  queued = λ s p h. elim (cases_lt s (length marks)) [
    | inl l ↦ m.queued s p (sym (get_or_append_left marks (replicate more 0) 0 s l) ∙ h)
    | inr l ↦ let none : 0 ≡ p + 1 = sym (get_or-append_right marks (replicate more 0) (length marks) s 0 refl l ∙ none_there more (s - length marks)) ∙ h in absurd (omega arith)
  ];
  counted = omega (arith, m.counted, length-append marks (replicate more 0), length-replicate {A = ℕ} more 0, sum_by-append (λ mark. cond (mark == 0) 1 0) marks (replicate more 0), unmarked-replicate more);
}

-- ---- clearing

-- before p, the marks of the queue's slots went
pub record IsClearedTo (p : ℕ) (queue marks : List ℕ) : Type 0 where
  pub within : (q : ℕ) → q < length queue → get_or queue q 0 < length marks
  pub left : (slot q : ℕ) → get_or marks slot 0 ≡ q + 1 → (p ≤ q) × (q < length queue) × (get_or queue q 0 ≡ slot)

pub cleared_none : (queue marks : List ℕ) → IsMarked queue marks → IsClearedTo 0 queue marks
cleared_none queue marks m = record { within = m.within; left = λ slot q e. let k = m.queued slot q e in (omega arith, k.0, k.1) }

pub cleared_more : (p : ℕ) (queue marks : List ℕ) → p < length queue → IsClearedTo p queue marks → IsClearedTo (p + 1) queue (set marks (get_or queue p 0) 0)
cleared_more p queue marks here c =
    let gone = get_or queue p 0 in
    record {
      within = λ q h. rw length-set (c.within q h);
      left = λ slot q h. elim (cases_eq slot gone) [
        | inl e ↦ let none : 0 ≡ q + 1 = sym (get_or-set_same marks gone 0 0 (c.within p here)) ∙ (ap (λ s. get_or (set marks gone 0) s 0) (sym e) ∙ h) in absurd (omega arith)
        | inr apart ↦
            let old = c.left slot q (sym (get_or-set_other marks gone slot 0 0 apart) ∙ h) in
            let other : p ≡ q → ⊥ = λ same. apart (sym old.2 ∙ ap (λ k. get_or queue k 0) (sym same)) in
            (elim (cases_eq p q) [ inl same ↦ absurd (other same) | inr differ ↦ omega (arith, old.0) ], old.1, old.2)
      ];
    }

all_zero : (marks : List ℕ) → ((slot q : ℕ) → get_or marks slot 0 ≡ q + 1 → ⊥) → marks ≡ replicate (length marks) 0
all_zero [] none = refl
all_zero (zero ∷ marks) none = ap (λ xs. 0 ∷ xs) (all_zero marks (λ slot q h. none (suc slot) q h))
all_zero (suc x ∷ marks) none = absurd (none 0 x (omega arith))

pub cleared_all : (p : ℕ) (queue marks : List ℕ) → length queue ≤ p → IsClearedTo p queue marks → IsMarked [] marks
cleared_all p queue marks past c = record {
  within = λ q h. absurd (omega arith);
  marked = λ q h. absurd (omega arith);
  queued = λ slot q h. absurd (none slot q h);
  counted = let all : unmarked marks ≡ length marks = ap unmarked (all_zero marks none) ∙ unmarked-replicate (length marks) in omega (arith, all);
}
  where
    none : (slot q : ℕ) → get_or marks slot 0 ≡ q + 1 → ⊥
    none slot q h = let old = c.left slot q h in omega (arith, old.0, old.1)

-- ---- slots

pub same_slot : (a b : Slot) → a.at ≡ b.at → a ≡ b
same_slot a b e = λ i. record { at = e i }

-- a slot that was put behind others is at the place that was their number
pub last_there : (slots : List Slot) (slot : Slot) (p : ℕ) → p ≡ length slots → slice_get (slots ++ slot ∷ []) p ≡ Some slot
last_there slots slot p end = slice_get-get_or (slots ++ slot ∷ []) p slot (omega (arith, end, length_push slots slot)) ∙ ap Some (get_or_push slots slot slot p (sym end))

pub number_at : (slots : List Slot) (p : ℕ) (d : Slot) → p < length slots → get_or (numbers slots) p 0 ≡ (get_or slots p d).at
number_at slots p d h = get_or-map (λ (s : Slot). s.at) slots p d 0 h

module _ (slots : List Slot) (marks : List ℕ) (m : IsMarked (numbers slots) marks) (slot : Slot) where
  -- a slot in the queue has a mark
  pub contained : Contains slots slot → (p : ℕ) × (slot.at < length marks) × (get_or marks slot.at 0 ≡ p + 1)
  contained (p, h, e) =
      let long : p < length (numbers slots) = omega (arith, length-map slots (λ (s : Slot). s.at)) in
      let at : get_or (numbers slots) p 0 ≡ slot.at = number_at slots p slot h ∙ ap (λ (s : Slot). s.at) e in
      (p, subst (λ s. s < length marks) at (m.within p long), ap (λ s. get_or marks s 0) (sym at) ∙ m.marked p long)

  -- and a mark tells the place
  pub placed : (p : ℕ) → get_or marks slot.at 0 ≡ p + 1 → slice_get slots p ≡ Some slot
  placed p e =
      let q = m.queued slot.at p e in
      let long : p < length slots = omega (arith, q.0, length-map slots (λ (s : Slot). s.at)) in
      slice_get-get_or slots p slot long ∙ ap Some (same_slot (get_or slots p slot) slot (sym (number_at slots p slot long) ∙ q.1))

  pub marked_contained : (p : ℕ) → get_or marks slot.at 0 ≡ p + 1 → Contains slots slot
  marked_contained p e =
      let q = m.queued slot.at p e in
      let long : p < length slots = omega (arith, q.0, length-map slots (λ (s : Slot). s.at)) in
      (p, long, same_slot (get_or slots p slot) slot (sym (number_at slots p slot long) ∙ q.1))

  pub not_contained : get_or marks slot.at 0 ≡ 0 → Contains slots slot → ⊥
  not_contained e c = let k = contained c in omega (arith, k.2)

  pub not_within : length marks ≤ slot.at → Contains slots slot → ⊥
  not_within h c = let k = contained c in omega (arith, k.1)

  pub has_mark : (get_or marks slot.at 0 ≡ 0 → ⊥) → Contains slots slot
  has_mark h = marked_contained (get_or marks slot.at 0 - 1) (elim (cases_lt 0 (get_or marks slot.at 0)) [ inl l ↦ omega arith | inr l ↦ absurd (h (omega arith)) ])

  pub mark_tells : (mark : ℕ) → get_or marks slot.at 0 ≡ mark → (mark ≡ 0 → ⊥) → slice_get slots (mark - 1) ≡ Some slot
  mark_tells mark e some = placed (mark - 1) (elim (cases_lt 0 mark) [ inl l ↦ omega (arith, e) | inr l ↦ absurd (some (omega arith)) ])

  -- one less than the mark is the place
  pub place_told : (mark : ℕ) (answer : Option ℕ) → get_or marks slot.at 0 ≡ mark → SomeIff answer (1 ≤ mark) (mark - 1) → MatchOption answer (Contains slots slot → ⊥) (λ place. slice_get slots place ≡ Some slot)
  place_told mark None e told = not_contained (elim (cases_lt 0 mark) [ inl l ↦ absurd (told (omega arith)) | inr l ↦ omega arith ])
  place_told mark (Some place) e told = placed place (omega (arith, told))

-- ---- what is written back

-- as many marks as there were stand for them all
pub written_back : (n : ℕ) (marks before : List ℕ) → length marks ≡ n → take n (marks ++ drop (length marks) before) ≡ marks
written_back n marks before e = ap (λ k. take k (marks ++ drop (length marks) before)) (sym e) ∙ take-append_seam marks (drop (length marks) before)

-- the same queue and marks are kept where there is as much room
pub still_kept : (queue after : List Slot) (marks new : List ℕ) (capacity room : ℕ) → after ≡ queue → new ≡ marks → capacity ≤ room → IsKept queue marks capacity → IsKept after new room
still_kept queue after marks new capacity room e f more k = rw (e, f) (record { marked = k.marked; room = le_trans k.room more; few = k.few })

-- a queue is no longer than its marks
pub queue_short : (queue : List Slot) (marks : List ℕ) (capacity : ℕ) → IsKept queue marks capacity → length queue ≤ length marks
queue_short queue marks capacity k = omega (arith, k.marked.counted, length-map queue (λ (s : Slot). s.at))

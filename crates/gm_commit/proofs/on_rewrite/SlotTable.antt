-- Where the slots of a node stand in the table of all slots.
use Rattle.std.proofs.Common.{◌≡◌, ℕ, zero, suc, ◌+◌, ◌-◌, ◌*◌, ◌<◌, ◌≤◌, List, [], ◌∷◌, ◌++◌, length, take, drop, get_or, refl, sym, ap, ap₂, ◌∙◌, subst, inl, inr, arith, append-nil, length-append, drop_of_length-le, get_or-take, get_or-drop}
use Rattle.std.proofs.lemmas.Bool.{cases_eq, cases_lt, lt-ltb, le-ltb}
use Rattle.std.proofs.lemmas.List.{get_or_append_left, get_or-append-add}
use Rattle.std.proofs.lemmas.Nat.{mul-le}
use Rattle.gm_arena.specs.declared.slot.Slot.{Slot}
use Rattle.gm_commit.specs.inner.InstanceEdits.{RewriteOf, concat_below, slot_in, end_of, left_slots_of, left_slots, made_in, AreSlots}
use Rattle.gm_commit.specs.inner.WrittenMap.{HasSlot, slot_of}
use Rattle.gm_commit.proofs.on_rewrite.JoinedLists.{length_same}

module _ {A : Type 0} (f : ℕ → List A) (k : ℕ) (each : (i : ℕ) → length (f i) ≡ k) where
  before_next : (x p n : ℕ) → x < n → p < k → x * k + p < n * k
  before_next x p n h b =
      let next : (x + 1) * k ≡ x * k + k = grind arith in
      omega (arith, next, mul-le (x + 1) k n k (omega arith) (omega arith))

  -- an element of one of the lists stands behind those of the lists before it
  concat_at : (n x p : ℕ) (none : A) → x < n → p < k → get_or (concat_below f n) (x * k + p) none ≡ get_or (f x) p none
  concat_at zero x p none h b = absurd (omega arith)
  concat_at (suc n) x p none h b = elim (cases_eq x n) [
    | inl e ↦
        let long : length (concat_below f n) ≡ n * k = length_same f n k each in
        let place : x * k + p ≡ length (concat_below f n) + p = ap (λ m. m * k + p) e ∙ ap (λ m. m + p) (sym long) in
        ap (λ m. get_or (concat_below f n ++ f n) m none) place ∙ get_or-append-add (concat_below f n) (f n) p none ∙ ap (λ m. get_or (f m) p none) (sym e)
    | inr apart ↦
        let earlier : x < n = omega arith in
        get_or_append_left (concat_below f n) (f n) none (x * k + p) (omega (arith, length_same f n k each, before_next x p n earlier b)) ∙ concat_at n x p none earlier b
  ]

apart : (x n k p : ℕ) → n ≤ x → x * k + p ≡ n * k + ((x - n) * k + p)
apart x n k p h =
    let whole : x ≡ n + (x - n) = omega arith in
    let parts : (n + (x - n)) * k ≡ n * k + (x - n) * k = grind arith in
    let all : x * k ≡ n * k + (x - n) * k = ap (λ m. m * k) whole ∙ parts in
    omega (arith, all)

-- there is room for one more node's slots
pub one_more : (x left added k room : ℕ) → x < left → (left + added) * k ≤ room → x * k + k ≤ room
one_more x left added k room h most =
    let next : (x + 1) * k ≡ x * k + k = grind arith in
    omega (arith, next, most, mul-le (x + 1) k (left + added) k (omega arith) (omega arith))

pub rest_of_room : (left added k room : ℕ) → (left + added) * k ≤ room → left * k + added * k ≤ room
rest_of_room left added k room most = let both : (left + added) * k ≡ left * k + added * k = grind arith in omega (arith, both, most)

module _ (rewrite : RewriteOf) where
  pub part_long : (x n : ℕ) → length (concat_below (λ p. slot_in rewrite.placed x p ∷ []) n) ≡ n
  part_long x n = let one : length (concat_below (λ p. slot_in rewrite.placed x p ∷ []) n) ≡ n * 1 = length_same (λ p. slot_in rewrite.placed x p ∷ []) n 1 (λ p. refl) in omega (arith, one)

  node_long : (x : ℕ) → length (left_slots_of rewrite x) ≡ rewrite.placed.positions
  node_long x = part_long x rewrite.placed.positions

  pub left_long : length (left_slots rewrite) ≡ rewrite.placed.nodes * rewrite.placed.positions
  left_long = length_same (left_slots_of rewrite) rewrite.placed.nodes rewrite.placed.positions node_long

  -- those of so many nodes
  pub some_long : (n : ℕ) → length (concat_below (left_slots_of rewrite) n) ≡ n * rewrite.placed.positions
  some_long n = length_same (left_slots_of rewrite) n rewrite.placed.positions node_long

  left_at : (x p : ℕ) → x < rewrite.placed.nodes → p < rewrite.placed.positions → get_or (left_slots rewrite) (x * rewrite.placed.positions + p) (record { at = 0 }) ≡ slot_in rewrite.placed x p
  left_at x p h b =
      let one : p * 1 + 0 ≡ p = omega arith in
      concat_at (left_slots_of rewrite) rewrite.placed.positions node_long rewrite.placed.nodes x p (record { at = 0 }) h b
      ∙ ap (λ m. get_or (left_slots_of rewrite x) m (record { at = 0 })) (sym one)
      ∙ concat_at (λ q. slot_in rewrite.placed x q ∷ []) 1 (λ q. refl) rewrite.placed.positions p 0 (record { at = 0 }) b (omega arith)

  -- where nothing is made yet
  pub left_alone : (slots : List Slot) → slots ≡ left_slots rewrite → (made_in rewrite slots ≡ []) × AreSlots rewrite slots
  left_alone slots e =
      let none : made_in rewrite slots ≡ [] = ap (drop (length (left_slots rewrite))) e ∙ drop_of_length-le (left_slots rewrite) (omega arith) in
      (none, e ∙ sym (append-nil (left_slots rewrite)) ∙ ap (λ made. left_slots rewrite ++ made) (sym none))

  -- where more was put behind the slots of the left nodes
  pub with_made : (left slots table : List Slot) → left ≡ left_slots rewrite → slots ≡ left ++ drop (length left) slots → table ≡ slots → (made_in rewrite table ≡ drop (length left) slots) × AreSlots rewrite table
  with_made left slots table e grown is = (ap (made_in rewrite) is ∙ made, is ∙ grown ∙ ap₂ (λ l m. l ++ m) e (sym made) ∙ ap (λ t. left_slots rewrite ++ made_in rewrite t) (sym is))
    where
      made : made_in rewrite slots ≡ drop (length left) slots
      made = ap (λ (l : List Slot). drop (length l) slots) (sym e)

  module _ (slots : List Slot) (are : AreSlots rewrite slots) (x p : ℕ) (b : p < rewrite.placed.positions) where
    long : length slots ≡ rewrite.placed.nodes * rewrite.placed.positions + length (made_in rewrite slots)
    long = ap length are ∙ length-append (left_slots rewrite) (made_in rewrite slots) ∙ ap (λ n. n + length (made_in rewrite slots)) left_long

    behind : rewrite.placed.nodes ≤ x → x * rewrite.placed.positions + p ≡ rewrite.placed.nodes * rewrite.placed.positions + ((x - rewrite.placed.nodes) * rewrite.placed.positions + p)
    behind h = apart x rewrite.placed.nodes rewrite.placed.positions p h

    pub in_table : HasSlot (made_in rewrite slots) (end_of rewrite x p) → x * rewrite.placed.positions + p < length slots
    in_table has = elim (cases_lt x rewrite.placed.nodes) [
      | inl h ↦ omega (arith, long, before_next (left_slots_of rewrite) rewrite.placed.positions node_long x p rewrite.placed.nodes h b)
      | inr h ↦
          let below : (x - rewrite.placed.nodes) * rewrite.placed.positions + p < length (made_in rewrite slots) = rw (le-ltb x rewrite.placed.nodes h) at has in
          omega (arith, long, behind h, below)
    ]

    pub at_place : get_or slots (x * rewrite.placed.positions + p) (record { at = 0 }) ≡ slot_of (made_in rewrite slots) (end_of rewrite x p)
    at_place = elim (cases_lt x rewrite.placed.nodes) [
      | inl h ↦
          rw (lt-ltb x rewrite.placed.nodes h) (
          ap (λ (s : List Slot). get_or s (x * rewrite.placed.positions + p) (record { at = 0 })) are
          ∙ get_or_append_left (left_slots rewrite) (made_in rewrite slots) (record { at = 0 }) (x * rewrite.placed.positions + p) (omega (arith, left_long, before_next (left_slots_of rewrite) rewrite.placed.positions node_long x p rewrite.placed.nodes h b))
          ∙ left_at x p h b
          )
      | inr h ↦
          let there : x * rewrite.placed.positions + p ≡ length (left_slots rewrite) + ((x - rewrite.placed.nodes) * rewrite.placed.positions + p) = behind h ∙ ap (λ n. n + ((x - rewrite.placed.nodes) * rewrite.placed.positions + p)) (sym left_long) in
          rw (le-ltb x rewrite.placed.nodes h) (
          ap (λ (s : List Slot). get_or s (x * rewrite.placed.positions + p) (record { at = 0 })) are
          ∙ ap (λ m. get_or (left_slots rewrite ++ made_in rewrite slots) m (record { at = 0 })) there
          ∙ get_or-append-add (left_slots rewrite) (made_in rewrite slots) ((x - rewrite.placed.nodes) * rewrite.placed.positions + p) (record { at = 0 })
          )
    ]

  -- a part of the table has the slots of the node
  module _ (slots : List Slot) (are : AreSlots rewrite slots) (x k : ℕ) (is : k ≡ rewrite.placed.positions) (has : (p : ℕ) → p < rewrite.placed.positions → HasSlot (made_in rewrite slots) (end_of rewrite x p)) where
    pub part_within : 1 ≤ k → x * k + k ≤ length slots
    part_within some =
        let last : k - 1 < rewrite.placed.positions = omega (arith, some, is) in
        let within : x * k + (k - 1) < length slots = subst (λ n. x * n + (k - 1) < length slots) (sym is) (in_table slots are x (k - 1) last (has (k - 1) last)) in
        omega (arith, some, within)

    pub part_at : (p : ℕ) → p < rewrite.placed.positions → get_or (take (x * k + k - x * k) (drop (x * k) slots)) p (record { at = 0 }) ≡ slot_of (made_in rewrite slots) (end_of rewrite x p)
    part_at p b =
        get_or-take (x * k + k - x * k) (drop (x * k) slots) p (record { at = 0 }) (omega (arith, b, is))
        ∙ get_or-drop (x * k) slots p (record { at = 0 })
        ∙ ap (λ n. get_or slots (x * n + p) (record { at = 0 })) is
        ∙ at_place slots are x p b

-- From the counts of a node's labels to the conditions on its arcs.
use Rattle.std.proofs.Common.{◌≡◌, ℕ, ◌+◌, ◌<◌, ◌≤◌, ◌↔◌, ◌&&◌, not, inl, inr, Bool, true, false, List, get_or, refl, sym, subst, arith}
use Rattle.gm_model.specs.declared.rule.RuleFault.{RuleFault}
use Rattle.gm_model.specs.declared.rule.RuleFault.TheVariants as faults
use Rattle.gm_model.specs.declared.rule.Side.{Side}
use Rattle.gm_model.specs.declared.rule.Side.TheVariants.{Left, Right}
use Rattle.gm_model.specs.Rules.{Rule, has_word}
use Rattle.gm_model.specs.Structure.{AreGood, arcs_at, HasOnce, HasLabel, HasWhereOneSided, HasOnBoth, HasArcs, IsNodeArcFault, TwiceLeft, TwiceRight, Missing, Differs}
use Rattle.gm_incident.specs.inner.Faults.{IsFirstFault}
use Rattle.gm_incident.specs.inner.Ranges.{HasSomeWord}
use Rattle.gm_incident.proofs.Moved.{good_moved, fault_moved}

abbrev pub IsOnce : List ℕ → ℕ → Type 0
IsOnce counts i = get_or counts i 0 ≤ 1

abbrev pub IsThere : List ℕ → ℕ → Type 0
IsThere counts i = 0 < get_or counts i 0

abbrev pub IsOnBoth : List ℕ → List ℕ → ℕ → Type 0
IsOnBoth left right i = IsThere left i ↔ IsThere right i

-- the counts are those of the node
abbrev pub AreCounts : Rule → Side → ℕ → List ℕ → Type 0
AreCounts rule side x counts = (i : ℕ) → i < 8 → get_or counts i 0 ≡ arcs_at rule side x i

-- ---- which sides have the node

and_true : (a b : Bool) → a ≡ true → b ≡ true → (a && b) ≡ true
and_true a b p q = rw (p, q) refl

first_alone : (a b : Bool) → a ≡ true → b ≡ false → (a && not b) ≡ true
first_alone a b p q = rw (p, q) refl

second_alone : (a b : Bool) → a ≡ false → b ≡ true → (not a && b) ≡ true
second_alone a b p q = rw (p, q) refl

not_first : (a b : Bool) → a ≡ true → (not a && b) ≡ true → ⊥
not_first true b p h = cc
not_first false b p h = cc

not_second : (a b : Bool) → b ≡ true → (a && not b) ≡ true → ⊥
not_second true true p h = cc
not_second true false p h = cc
not_second false b p h = cc

not_both : (a b : Bool) → b ≡ false → (a && b) ≡ true → ⊥
not_both true b p h = cc
not_both false b p h = cc

first_missing : (a b : Bool) → a ≡ false → (a && b) ≡ true → ⊥
first_missing true b p h = cc
first_missing false b p h = cc

module _ (n : ℕ) (few : n ≤ 7) (rule : Rule) (x : ℕ) where
  module _ (side : Side) (counts : List ℕ) (c : AreCounts rule side x counts) where
    once_to : (i : ℕ) → i < n + 1 → IsOnce counts i → HasOnce rule side x i
    once_to i b h = rw (← c i (omega arith)) h

    once_from : (i : ℕ) → i < n + 1 → HasOnce rule side x i → IsOnce counts i
    once_from i b h = rw (c i (omega arith)) h

    label_to : (i : ℕ) → i < n + 1 → IsThere counts i → HasLabel rule side x i
    label_to i b h = rw (← c i (omega arith)) h

    label_from : (i : ℕ) → i < n + 1 → HasLabel rule side x i → IsThere counts i
    label_from i b h = rw (c i (omega arith)) h

    pub all_once : AreGood (IsOnce counts) (n + 1) → AreGood (HasOnce rule side x) (n + 1)
    all_once h = good_moved (IsOnce counts) (HasOnce rule side x) (n + 1) once_to h

    pub first_twice : (made : ℕ → RuleFault) (fault : RuleFault) → IsFirstFault (IsOnce counts) (n + 1) made fault → IsFirstFault (HasOnce rule side x) (n + 1) made fault
    first_twice made fault h = fault_moved (IsOnce counts) (HasOnce rule side x) (n + 1) once_to once_from made fault h

  pub twice_left : (fault : RuleFault) → IsFirstFault (HasOnce rule Left x) (n + 1) (λ i. faults.ArcTwice x i Left) fault → IsNodeArcFault n rule x fault
  twice_left fault h = subst (IsNodeArcFault n rule x) (sym h.is) (TwiceLeft h.bad h.first)

  module _ (left : AreGood (HasOnce rule Left x) (n + 1)) where
    pub twice_right : (fault : RuleFault) → IsFirstFault (HasOnce rule Right x) (n + 1) (λ i. faults.ArcTwice x i Right) fault → IsNodeArcFault n rule x fault
    twice_right fault h = subst (IsNodeArcFault n rule x) (sym h.is) (TwiceRight h.bad left h.first)

    module _ (right : AreGood (HasOnce rule Right x) (n + 1)) where
      missing : (fault : RuleFault) → IsFirstFault (HasWhereOneSided rule x) (n + 1) (λ i. faults.ArcMissing x i) fault → IsNodeArcFault n rule x fault
      missing fault h = subst (IsNodeArcFault n rule x) (sym h.is) (Missing h.bad left right h.first)

      differs : (fault : RuleFault) → IsFirstFault (HasOnBoth rule x) (n + 1) (λ i. faults.ArcSetDiffers x i) fault → IsNodeArcFault n rule x fault
      differs fault h = subst (IsNodeArcFault n rule x) (sym h.is) (Differs h.bad left right h.first)

      -- a node with both words
      module _ (has_left : has_word rule Left x ≡ true) (has_right : has_word rule Right x ≡ true) (lefts rights : List ℕ) (lc : AreCounts rule Left x lefts) (rc : AreCounts rule Right x rights) where
        both_to : (i : ℕ) → i < n + 1 → IsOnBoth lefts rights i → HasOnBoth rule x i
        both_to i b h = λ _. ((λ p. label_to Right rights rc i b (h.0 (label_from Left lefts lc i b p))), (λ p. label_to Left lefts lc i b (h.1 (label_from Right rights rc i b p))))

        both_from : (i : ℕ) → i < n + 1 → HasOnBoth rule x i → IsOnBoth lefts rights i
        both_from i b h =
            let k = h (and_true (has_word rule Left x) (has_word rule Right x) has_left has_right) in
            ((λ p. label_from Right rights rc i b (k.0 (label_to Left lefts lc i b p))), (λ p. label_from Left lefts lc i b (k.1 (label_to Right rights rc i b p))))

        pub both_good : AreGood (IsOnBoth lefts rights) (n + 1) → HasArcs n rule x
        both_good h = record {
          left_once = left;
          right_once = right;
          one_sided = λ i b. (
            (λ p. absurd (not_second (has_word rule Left x) (has_word rule Right x) has_right p)),
            (λ p. absurd (not_first (has_word rule Left x) (has_word rule Right x) has_left p)),
          );
          both = good_moved (IsOnBoth lefts rights) (HasOnBoth rule x) (n + 1) both_to h;
        }

        pub both_bad : (fault : RuleFault) → IsFirstFault (IsOnBoth lefts rights) (n + 1) (λ i. faults.ArcSetDiffers x i) fault → IsNodeArcFault n rule x fault
        both_bad fault h = differs fault (fault_moved (IsOnBoth lefts rights) (HasOnBoth rule x) (n + 1) both_to both_from (λ i. faults.ArcSetDiffers x i) fault h)

      -- a node that is removed
      module _ (has_left : has_word rule Left x ≡ true) (has_right : has_word rule Right x ≡ false) (lefts : List ℕ) (lc : AreCounts rule Left x lefts) where
        removed_to : (i : ℕ) → i < n + 1 → IsThere lefts i → HasWhereOneSided rule x i
        removed_to i b h = ((λ _. label_to Left lefts lc i b h), (λ p. absurd (not_first (has_word rule Left x) (has_word rule Right x) has_left p)))

        removed_from : (i : ℕ) → i < n + 1 → HasWhereOneSided rule x i → IsThere lefts i
        removed_from i b h = label_from Left lefts lc i b (h.0 (first_alone (has_word rule Left x) (has_word rule Right x) has_left has_right))

        pub removed_good : AreGood (IsThere lefts) (n + 1) → HasArcs n rule x
        removed_good h = record {
          left_once = left;
          right_once = right;
          one_sided = good_moved (IsThere lefts) (HasWhereOneSided rule x) (n + 1) removed_to h;
          both = λ i b p. absurd (not_both (has_word rule Left x) (has_word rule Right x) has_right p);
        }

        pub removed_bad : (fault : RuleFault) → IsFirstFault (IsThere lefts) (n + 1) (λ i. faults.ArcMissing x i) fault → IsNodeArcFault n rule x fault
        removed_bad fault h = missing fault (fault_moved (IsThere lefts) (HasWhereOneSided rule x) (n + 1) removed_to removed_from (λ i. faults.ArcMissing x i) fault h)

      -- a node that is added
      module _ (has_left : has_word rule Left x ≡ false) (some_word : HasSomeWord rule x) (rights : List ℕ) (rc : AreCounts rule Right x rights) where
        added_right : has_word rule Right x ≡ true
        added_right = elim some_word [ inl p ↦ cc | inr p ↦ p ]

        added_to : (i : ℕ) → i < n + 1 → IsThere rights i → HasWhereOneSided rule x i
        added_to i b h = ((λ p. absurd (not_second (has_word rule Left x) (has_word rule Right x) added_right p)), (λ _. label_to Right rights rc i b h))

        added_from : (i : ℕ) → i < n + 1 → HasWhereOneSided rule x i → IsThere rights i
        added_from i b h = label_from Right rights rc i b (h.1 (second_alone (has_word rule Left x) (has_word rule Right x) has_left added_right))

        pub added_good : AreGood (IsThere rights) (n + 1) → HasArcs n rule x
        added_good h = record {
          left_once = left;
          right_once = right;
          one_sided = good_moved (IsThere rights) (HasWhereOneSided rule x) (n + 1) added_to h;
          both = λ i b p. absurd (first_missing (has_word rule Left x) (has_word rule Right x) has_left p);
        }

        pub added_bad : (fault : RuleFault) → IsFirstFault (IsThere rights) (n + 1) (λ i. faults.ArcMissing x i) fault → IsNodeArcFault n rule x fault
        added_bad fault h = missing fault (fault_moved (IsThere rights) (HasWhereOneSided rule x) (n + 1) added_to added_from (λ i. faults.ArcMissing x i) fault h)

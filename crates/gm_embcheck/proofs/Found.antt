-- From what was found among the nodes of a component to where its value comes from, or to its first fault.
use Rattle.std.proofs.Common.{◌≡◌, ℕ, ◌+◌, ◌<◌, inl, inr, ◌↔◌, Bool, true, false, ◌&&◌, List, refl, sym, subst, ◌∙◌, arith}
use Rattle.std.proofs.lemmas.Bool.{cases_order, true_from_ne_false}
use Rattle.gm_model.specs.declared.rule.RuleFault.{RuleFault}
use Rattle.gm_model.specs.declared.rule.RuleFault.TheVariants as faults
use Rattle.gm_model.specs.declared.rule.Side.TheVariants.{Left, Right}
use Rattle.gm_model.specs.Components.{IsTogether, WereTogether, IsAssigned, IsLeastTogether, IsUnassigned, IsNew, IsKeeper, ComesFromOne, ComesAlong, IsInherited, HasSource, IsComponentFault, Twice, Sourceless, Merged, MergedAlong}
use Rattle.gm_model.specs.Orbits.{Labels}
use Rattle.gm_model.specs.Rules.{Rule, has_word, width}
use Rattle.gm_model.specs.Structure.{AreGood, IsFirstBad, IsJoined}
use Rattle.gm_embcheck.specs.inner.Bounds.{HasBounds}
use Rattle.gm_embcheck.specs.inner.Faults.{IsSecondAssigned}
use Rattle.gm_embcheck.specs.inner.Firsts.{HasNoneFrom, IsFirstFrom}
use Rattle.gm_embcheck.specs.inner.NodeSets.{is_in, IsIn, IsAssignedIn, IsPreservedOutside, IsCovered}

first_true : (a b : Bool) → (a && b) ≡ true → a ≡ true
first_true true b h = refl
first_true false b h = h

-- the set has the nodes of the component of x
module _ (rule : Rule) (e : ℕ) (o : Labels) (x : ℕ) (nodes : List Bool) (same : (y : ℕ) → IsIn nodes y ↔ IsTogether rule o x y) where
  -- ---- assignments

  pub twice : (first : ℕ) (fault : RuleFault) → IsFirstFrom (IsAssignedIn rule e nodes) 0 first → IsSecondAssigned rule e nodes first fault → IsComponentFault rule e o x fault
  twice first fault f h =
      let second : IsLeastTogether rule o x (λ u. first < u) (IsAssigned rule e) h.other = record {
        together = (same h.other).0 h.next.has.0;
        above = omega (arith, h.next.from);
        has = h.next.has.1;
        least = λ z b t above a. h.next.before z (omega (arith, above)) b ((same z).1 t, a);
      } in
      subst (IsComponentFault rule e o x) (sym h.is) (Twice first h.other
      record { together = (same first).0 f.has.0; above = tt; has = f.has.1; least = λ z b t _ a. f.before z (omega arith) b ((same z).1 t, a) }
      second)

  pub once : (first : ℕ) → IsFirstFrom (IsAssignedIn rule e nodes) 0 first → HasNoneFrom (IsAssignedIn rule e nodes) (first + 1) → HasSource rule e o x
  once first f none = record {
    once = λ y z ty tz ay az. is_first y (((same y).1 ty, ay)) ∙ sym (is_first z ((same z).1 tz, az));
    source = inl (first, (same first).0 f.has.0, f.has.1);
  }
    where
      is_first : (y : ℕ) → IsAssignedIn rule e nodes y → y ≡ first
      is_first y h = elim (cases_order y first) [
        | inl is ↦ is
        | inr (inl b) ↦ absurd (f.before y (omega arith) b h)
        | inr (inr b) ↦ absurd (none y (omega arith) h)
      ]

  pub unassigned : HasNoneFrom (IsAssignedIn rule e nodes) 0 → IsUnassigned rule e o x
  unassigned none y t a = none y (omega arith) ((same y).1 t, a)

  module _ (free : IsUnassigned rule e o x) where
    -- ---- the keeper

    pub sourceless : IsNew rule o x → IsComponentFault rule e o x (faults.NoValue e x)
    sourceless none = Sourceless free none

    pub inherited : (keeper : ℕ) → IsInherited rule o x keeper → HasSource rule e o x
    inherited keeper h = record {
      once = λ y z ty tz ay az. absurd (free y ty ay);
      source = inr (free, (keeper, h));
    }

    -- ---- the left component of the keeper

    module _ (keeper : ℕ) (kept : IsKeeper rule o x keeper) (left : List Bool) (reached : (y : ℕ) → IsIn left y ↔ IsJoined rule.left_links o keeper y) where
      were : (y : ℕ) → IsIn left y → WereTogether rule o keeper y
      were y h = (first_true (has_word rule Left keeper) (has_word rule Right keeper) kept.preserved, (reached y).0 h)

      pub merged : (y : ℕ) → IsFirstFrom (IsPreservedOutside rule nodes left) 0 y → IsComponentFault rule e o x (faults.Merge e keeper y)
      merged y f = Merged keeper y free kept record {
        together = (same y).0 f.has.0.0;
        above = λ w. f.has.1 ((reached y).1 w.1);
        has = f.has.0.1;
        least = λ z b t out p. f.before z (omega arith) b (((same z).1 t, p), (λ i. out (were z i)));
      }

      pub from_one : HasNoneFrom (IsPreservedOutside rule nodes left) 0 → ComesFromOne rule o x keeper
      from_one none y t p = were y (true_from_ne_false (is_in left y) (λ out. none y (omega arith) (((same y).1 t, p), (λ i. let wrong : true ≡ false = sym i ∙ out in cc))))

      comes_along : (m : ℕ) → IsCovered rule o nodes left m → ComesAlong rule o x keeper m
      comes_along m covered y t letter = let found = covered (y, (same y).1 t, letter) in (found.0, were found.0 found.1, found.2)

      covered_along : (m : ℕ) → ComesAlong rule o x keeper m → IsCovered rule o nodes left m
      covered_along m along h = let found = along h.0 ((same h.0).0 h.1) h.2 in (found.0, (reached found.0).1 found.1.1, found.2)

      pub merged_along : (m : ℕ) → ComesFromOne rule o x keeper → IsFirstBad (IsCovered rule o nodes left) (width rule) m → IsComponentFault rule e o x (faults.MergeAlong e keeper m)
      merged_along m one f = MergedAlong keeper m free kept one record {
        fails = λ along. f.fails (covered_along m along);
        before = λ m' b. comes_along m' (f.before m' b);
      }

      pub all_inherited : HasBounds rule → ComesFromOne rule o x keeper → AreGood (IsCovered rule o nodes left) (width rule) → IsInherited rule o x keeper
      all_inherited bounds one covered = record {
        kept = kept;
        one = one;
        along = λ m y t letter. comes_along m (covered m (bounds.places Right y m letter.0 letter.1)) y t letter;
      }

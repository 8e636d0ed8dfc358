-- The names of new darts: they differ, are new, and lie below the new next name.
use Rattle.std.proofs.Common.{◌≡◌, ℕ, zero, suc, ◌+◌, ◌*◌, ◌<◌, ◌≤◌, ◌⊎◌, false, not, IsTrue, length, refl, sym, ◌∙◌, subst, inl, inr, arith, mul_comm}
use Rattle.std.proofs.lemmas.Bool.{cases_order}
use Rattle.gm_model.specs.declared.rule.Side.TheVariants.{Left, Right}
use Rattle.gm_model.specs.Maps.{Map}
use Rattle.gm_model.specs.Matches.{Placement}
use Rattle.gm_model.specs.Rules.{Rule, has_word, is_added}
use Rattle.gm_model.specs.Unfolding.{added_before, added_nodes, name_in, scene_of, next_after}
use Rattle.gm_theory.proofs.RuleSteps.{word_below}
use Rattle.gm_theory.proofs.Scenes.{IsRightAt, HasLawfulNames}
use Rattle.gm_theory.proofs.Tests.{and_true, true_not, true_or_false}
use Rattle.gm_theory.specs.inner.Theorem.{HasNamesBelow}

-- an added node is counted before each later one
pub added_step : (rule : Rule) (x : ℕ) → IsTrue (is_added rule x) → added_before rule (suc x) ≡ added_before rule x + 1
added_step rule x a = rw a refl

pub added_rises : (rule : Rule) (x y : ℕ) → x ≤ y → added_before rule x ≤ added_before rule y
added_rises rule x zero h = let e : x ≡ 0 = omega arith in rw e (omega arith)
added_rises rule x (suc y) h = go (cases_order x (suc y)) (λ k. added_rises rule x y k)
  where
    go : (x ≡ suc y) ⊎ ((x < suc y) ⊎ (suc y < x)) → (x ≤ y → added_before rule x ≤ added_before rule y) → added_before rule x ≤ added_before rule (suc y)
    go (inl e) rest = rw e (omega arith)
    go (inr (inl k)) rest = let below : added_before rule x ≤ added_before rule y = rest (omega arith) in omega arith
    go (inr (inr k)) rest = absurd (omega arith)

pub added_earlier : (rule : Rule) (x y : ℕ) → IsTrue (is_added rule x) → x < y → added_before rule x + 1 ≤ added_before rule y
added_earlier rule x y a h = subst (λ n. n ≤ added_before rule y) (added_step rule x a) (added_rises rule (suc x) y h)

-- an earlier block of names lies below a later one
pub block_below : (j j' k p q : ℕ) → j + 1 ≤ j' → p < k → j * k + p < j' * k + q
block_below j j' k p q h b = grind arith

module _ (map : Map) (rule : Rule) (place : Placement) where
  pub is_new : (x : ℕ) → has_word rule Left x ≡ false → IsTrue (has_word rule Right x) → IsTrue (is_added rule x)
  is_new x a r = and_true (not (has_word rule Left x)) (has_word rule Right x) (true_not (has_word rule Left x) a) r

  pub new_name : (x p : ℕ) → IsTrue (is_added rule x) → name_in map rule place x p ≡ map.next + added_before rule x * place.positions + p
  new_name x p a = rw a refl

  pub old_name : (x p : ℕ) → IsTrue (has_word rule Left x) → name_in map rule place x p ≡ place.dart_of x p
  old_name x p l = rw l refl

  pub lawful_names : HasNamesBelow map → HasLawfulNames (scene_of map rule place)
  lawful_names names_below = record {
    kept = old_name;
    fresh = fresh;
    differ = differ;
    below = below;
    live_below = names_below;
  }
    where
      k : ℕ
      k = place.positions

      fresh : (x p : ℕ) → has_word rule Left x ≡ false → IsRightAt (scene_of map rule place) x p → map.live (name_in map rule place x p) ≡ false
      fresh x p a r = go (true_or_false (map.live (name_in map rule place x p)))
        where
          go : IsTrue (map.live (name_in map rule place x p)) ⊎ (map.live (name_in map rule place x p) ≡ false) → map.live (name_in map rule place x p) ≡ false
          go (inl live) = absurd (let old : name_in map rule place x p < map.next = names_below (name_in map rule place x p) live in omega (arith, new_name x p (is_new x a r.0)))
          go (inr none) = none

      differ : (x p y q : ℕ) → has_word rule Left x ≡ false → has_word rule Left y ≡ false → IsRightAt (scene_of map rule place) x p → IsRightAt (scene_of map rule place) y q → name_in map rule place x p ≡ name_in map rule place y q → (x ≡ y) × (p ≡ q)
      differ x p y q a a' r r' e = go (cases_order x y)
        where
          same : map.next + added_before rule x * place.positions + p ≡ map.next + added_before rule y * place.positions + q
          same = sym (new_name x p (is_new x a r.0)) ∙ e ∙ new_name y q (is_new y a' r'.0)

          go : (x ≡ y) ⊎ ((x < y) ⊎ (y < x)) → (x ≡ y) × (p ≡ q)
          go (inl f) = (f, let s : map.next + added_before rule x * place.positions + p ≡ map.next + added_before rule x * place.positions + q = subst (λ z. map.next + added_before rule x * place.positions + p ≡ map.next + added_before rule z * place.positions + q) (sym f) same in omega arith)
          go (inr (inl h)) = absurd (omega (arith, same, block_below (added_before rule x) (added_before rule y) place.positions p q (added_earlier rule x y (is_new x a r.0) h) r.1))
          go (inr (inr h)) = absurd (omega (arith, same, block_below (added_before rule y) (added_before rule x) place.positions q p (added_earlier rule y x (is_new y a' r'.0) h) r'.1))

      below : (x p : ℕ) → has_word rule Left x ≡ false → IsRightAt (scene_of map rule place) x p → name_in map rule place x p < next_after (scene_of map rule place)
      below x p a r =
          let first : added_before rule x + 1 ≤ added_nodes rule = added_earlier rule x (length rule.nodes) (is_new x a r.0) (word_below rule Right x r.0) in
          let block : added_before rule x * place.positions + p < added_nodes rule * place.positions + 0 = block_below (added_before rule x) (added_nodes rule) place.positions p 0 first r.1 in
          omega (arith, new_name x p (is_new x a r.0), mul_comm (added_nodes rule) place.positions)

-- How the first broken step of a node is found, label by label.
use Rattle.std.proofs.Common.{◌≡◌, ℕ, ◌+◌, ◌*◌, ◌<◌, ◌≤◌, inl, inr, Option, Some, None, refl, sym, subst, arith}
use Rattle.std.proofs.lemmas.Bool.{cases_eq}
use Rattle.std.specs.Option.{MatchOption}
use Rattle.gm_model.specs.Matches.{IsMetAt}
use Rattle.gm_model.specs.Rules.{Rule}
use Rattle.gm_model.specs.Structure.{AreGood, IsFirstBad}
use Rattle.gm_arena.specs.inner.ArenaAsMap.{as_map}
use Rattle.gm_arena.specs.inner.ArenaMap.{ArenaMap}
use Rattle.gm_plan.specs.inner.Placed.{Placed}
use Rattle.gm_match.specs.inner.Firsts.{AreMetBy, IsFirstAt}
use Rattle.gm_plan.specs.inner.InArena.{placement_in}

module _ (m : ArenaMap) (rule : Rule) (found : Placed) (x : ℕ) where
  abbrev IsMet : ℕ → ℕ → Type 0
  IsMet p i = IsMetAt (as_map m) rule (placement_in m found) x p i

  -- position p and label i are the first that is broken, of the labels below the count
  pub record IsBrokenAmong (count end p i : ℕ) : Type 0 where
    pub here : p ≡ end
    pub position : p < found.positions
    pub label : i < count
    pub fails : IsMet p i → ⊥
    pub before : (j : ℕ) → j < i → IsMet p j

  -- the steps at the labels below the count are met at each position before the end, where the first of them is broken that is
  pub record IsBrokenSoFar (count end : ℕ) (first : Option (ℕ × ℕ)) : Type 0 where
    pub within : end ≤ found.positions
    pub met : (p i : ℕ) → p < end → i < count → IsMet p i
    pub answer : MatchOption first (end ≡ found.positions) (λ at. IsBrokenAmong count end at.0 at.1)

  pub none_yet : (end : ℕ) → end ≡ found.positions → IsBrokenSoFar 0 end None
  none_yet end all = record { within = omega (arith, all); met = λ p i less none. absurd (omega (arith, none)); answer = all }

  module _ (count end : ℕ) (first : Option (ℕ × ℕ)) (so_far : IsBrokenSoFar count end first) where
    one_more : (p i last : ℕ) → last ≤ end → ((q : ℕ) → q < last → IsMet q count) → p < last → i < count + 1 → IsMet p i
    one_more p i last most met less low = elim (cases_eq i count) [
      | inl same ↦ subst (λ j. IsMet p j) (sym same) (met p less)
      | inr apart ↦ so_far.met p i (omega (arith, less, most)) (omega (arith, low, apart))
    ]

    wider : (o : Option (ℕ × ℕ)) → MatchOption o (end ≡ found.positions) (λ at. IsBrokenAmong count end at.0 at.1) → MatchOption o (end ≡ found.positions) (λ at. IsBrokenAmong (count + 1) end at.0 at.1)
    wider None e = e
    wider (Some at) b = record { here = b.here; position = b.position; label = omega (arith, b.label); fails = b.fails; before = b.before }

    -- the next label is met as far
    pub met_too : AreGood (λ p. IsMet p count) end → IsBrokenSoFar (count + 1) end first
    met_too met = record {
      within = so_far.within;
      met = λ p i. one_more p i end (omega arith) met;
      answer = wider first so_far.answer;
    }

    -- the next label is broken earlier
    pub broken_too : (q : ℕ) → IsFirstBad (λ p. IsMet p count) end q → IsBrokenSoFar (count + 1) q (Some (q, count))
    broken_too q bad = record {
      within = omega (arith, bad.within, so_far.within);
      met = λ p i. one_more p i q (omega (arith, bad.within)) bad.before;
      answer = record {
        here = refl;
        position = omega (arith, bad.within, so_far.within);
        label = omega arith;
        fails = bad.fails;
        before = λ j less. so_far.met q j bad.within less;
      };
    }

  -- after all labels
  pub all_labels : (count end : ℕ) (first : Option (ℕ × ℕ)) → count ≡ m.schema.dim + 1 → IsBrokenSoFar count end first → MatchOption first (AreMetBy m rule found x) (λ at. IsFirstAt m rule found x at.0 at.1)
  all_labels count end None all so_far = λ p less i low. so_far.met p i (omega (arith, less, so_far.answer)) (omega (arith, low, all))
  all_labels count end (Some at) all so_far =
      let b = so_far.answer in
      record {
        position = record {
          within = b.position;
          fails = λ met. b.fails (met at.1 (omega (arith, b.label, all)));
          before = λ p less i low. so_far.met p i (omega (arith, less, b.here)) (omega (arith, low, all));
        };
        label = record { within = omega (arith, b.label, all); fails = b.fails; before = b.before };
      }

-- ---- the steps

pub label_steps : (label positions end start before after : ℕ) → end ≤ positions → before ≤ start + label * positions → after ≤ before + end → after ≤ start + (label + 1) * positions
label_steps label positions end start before after most a b = omega (arith, most, a, b)

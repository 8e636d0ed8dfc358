-- What the made step and the freed step are, by what was told of the nodes' words and of the steps.
use Rattle.std.proofs.Common.{◌≡◌, ℕ, Bool, true, false, refl}
use Rattle.std.specs.Prelude.{if◌then◌else◌, not, ◌&&◌}
use Rattle.gm_model.specs.declared.rule.Side.TheVariants.{Left, Right}
use Rattle.gm_model.specs.declared.step.Step.TheVariants.{Absent}
use Rattle.gm_model.specs.Rules.{Rule, has_word, step}
use Rattle.gm_plan.specs.inner.Changes.{freed_step, is_steady, made_step}

module _ (rule : Rule) (x i : ℕ) where
  pub is_made : has_word rule Right x ≡ true → is_steady rule x i ≡ false → step rule Right x i ≡ made_step rule x i
  is_made word moves = rw (word, moves) refl

  pub none_made : has_word rule Right x ≡ false → Absent ≡ made_step rule x i
  none_made gone = rw gone refl

  pub none_made_steady : is_steady rule x i ≡ true → Absent ≡ made_step rule x i
  none_made_steady stays = go (has_word rule Right x)
    where
      go : (word : Bool) → Absent ≡ (if word && not (is_steady rule x i) then step rule Right x i else Absent)
      go true = rw stays refl
      go false = refl

  -- ---- the freed step

  pub none_freed : has_word rule Left x ≡ false → Absent ≡ freed_step rule x i
  none_freed gone = rw gone refl

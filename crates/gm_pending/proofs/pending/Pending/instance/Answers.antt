use Rattle.std.proofs.Common.{◌≡◌, ◌≢◌, ◌∙◌, ℕ, Option, Some, None, MatchOption, sym, subst}
use Rattle.gm_plan.specs.inner.InArena.{slot_number}
use Rattle.gm_theory.proofs.Scenes.{IsRightAt}
use Rattle.gm_walk.specs.declared.at.At.TheVariants.{Old}
use Rattle.gm_plan.specs.inner.Lookup.{IsWithin, IsAtSlot}
use Rattle.gm_pending.specs.inner.Results.{PendingOf, IsPrepared, IsResultDart, scene_in, name_of}
use Rattle.gm_pending.proofs.on_pending.ResultDarts.{instance_lies, none_lies}
use Rattle.gm_pending.proofs.pending.Pending.instance.Goals as goal

pub returns-in-Old : goal.returns-in-Old
returns-in-Old c = rw is (go c.left_instance.result c.left_instance.ensures.instance)
  where
    app : PendingOf
    app = c.args.self.now

    prepared : IsPrepared app
    prepared = c.left_instance.ensures.prepared

    is : c.args.at ≡ Old c.in-Old.slot
    is = sym c.unpack.ensures ∙ c.in-Old.is

    dart : IsResultDart app (Old c.in-Old.slot)
    dart = subst (IsResultDart app) is c.requires

    go : (o : Option (ℕ × ℕ)) → MatchOption o ((x p : ℕ) → IsWithin app.placed x p → slot_number app.placed x p ≢ c.in-Old.slot.at) (λ i. IsAtSlot app.placed c.in-Old.slot.at i.0 i.1) → MatchOption o
        ((x p : ℕ) → IsRightAt (scene_in app) x p → name_of app (Old c.in-Old.slot) ≡ (scene_in app).name_of x p → ⊥)
        (λ i. IsRightAt (scene_in app) i.0 i.1 × (name_of app (Old c.in-Old.slot) ≡ (scene_in app).name_of i.0 i.1))
    go None none = none_lies app prepared c.in-Old.slot.at dart none
    go (Some i) here = instance_lies app prepared c.in-Old.slot.at dart i.0 i.1 here

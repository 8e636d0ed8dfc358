use Rattle.std.proofs.Common.{◌∙◌, ap}
use Rattle.std.specs.HashMap.{get}
use Rattle.std.specs.Prelude.{nat_eq}
use Rattle.gm_plan.specs.inner.Lookup.{BySlot}
use Rattle.gm_plan.proofs.Looked.{looked_up}
use Rattle.gm_plan.proofs.lookup.Lookup.find.Goals as goal

pub returns : goal.returns
returns c = looked_up c.args.found.now c.args.self.now.instances.value c.args.slot.at c.requires c.copied.result (c.copied.ensures ∙ c.get.ensures.value ∙ ap (λ (m : BySlot). get nat_eq m c.args.slot.at) c.deref.ensures)

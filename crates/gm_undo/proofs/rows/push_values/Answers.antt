use Rattle.std.proofs.Common.{pos, ◌∙◌}
use Rattle.gm_model.specs.declared.value.Value.TheVariants.{Int}
use Rattle.gm_undo.proofs.Flats.{one_put}
use Rattle.gm_undo.proofs.rows.push_values.Goals as goal

pub loop-value-preserved : goal.loop-value-preserved
loop-value-preserved c = record {
  items = one_put c.args.own.now c.loop-value.value-index (Int (pos 0)) c.loop-value-test.true c.args.values.now.items c.loop-value.values.items c.push_reserved.new.self.items c.loop-value.invariant.items c.push_reserved.ensures.items;
  capacity = c.push_reserved.ensures.capacity ∙ c.loop-value.invariant.capacity;
}

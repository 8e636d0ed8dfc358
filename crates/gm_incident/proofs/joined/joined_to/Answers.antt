use Rattle.std.proofs.Common.{refl}
use Rattle.gm_incident.proofs.Marks.{even_along, joined_more}
use Rattle.gm_incident.proofs.joined.joined_to.Goals as goal

pub loop-preserved : goal.loop-preserved
loop-preserved c = record {
  hooks = λ x h. c.spread.ensures.spread.kept x (c.loop.invariant.hooks x h);
  joined = joined_more c.args.links.now c.args.hooks.now c.loop.reached c.spread.new.reached c.spread.ensures.spread c.loop.invariant.joined;
}

pub returns : goal.returns
returns c = λ x. (
  joined_more c.args.links.now c.args.hooks.now c.loop.reached c.spread.new.reached c.spread.ensures.spread c.loop.invariant.joined x,
  (λ h. even_along c.args.links.now c.spread.new.reached (c.loop-test.ensures.done refl) h.0 h.2.0 x h.2.2 (c.spread.ensures.spread.kept h.0 (c.loop.invariant.hooks h.0 h.1))),
)

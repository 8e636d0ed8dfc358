use Rattle.std.proofs.Common.{subst}
use Rattle.gm_pending.specs.inner.ValueSources.{HasSourceNode}
use Rattle.gm_pending.proofs.on_marks.OneMoreMark.{get_within}
use Rattle.gm_pending.proofs.pending.Pending.source.Goals as goal

pub kept_slot-requires-clause-preserved : goal.kept_slot-requires-clause-preserved
kept_slot-requires-clause-preserved c =
    let kept = get_within c.args.self.now.map.schema.embeds c.args.embed c.requires.embed in
    (c.in-Some.ensures kept.0 kept.1).preserved

pub unreachable-requires : goal.unreachable-requires
unreachable-requires c =
    let kept = get_within c.args.self.now.map.schema.embeds c.args.embed c.requires.embed in
    let source = subst (HasSourceNode c.args.self.now kept.0) c.in-New.is (c.requires.keeper kept.0 kept.1) in
    c.in-None.ensures kept.0 kept.1 source.0 source.1.together source.1.preserved

use Rattle.std.proofs.Common.{sym, ◌∙◌, arith}
use Rattle.gm_pending.proofs.pending.Pending.alpha.Goals as goal

pub has-requires : goal.has-requires
has-requires g c = omega (arith, c.requires.label, c.labels.ensures.labels, c.labels.ensures.most)

pub neighbour-requires-clause-kept : goal.neighbour-requires-clause-kept
neighbour-requires-clause-kept g c h = (c.made_labels.ensures c.args.label (omega (arith, c.requires.label, c.labels.ensures.labels, c.labels.ensures.most))).0 (sym c.has.ensures ∙ h)

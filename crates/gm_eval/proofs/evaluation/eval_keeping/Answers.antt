use Rattle.std.proofs.Common.{◌⊎◌, subst}
use Rattle.std.specs.List.{Contains}
use Rattle.gm_model.specs.Trees.{tree_of}
use Rattle.gm_eval.specs.inner.Places.{reading_in}
use Rattle.gm_eval.specs.inner.Keeping.{KeptOf}
use Rattle.gm_eval.specs.inner.Sharing.{IsAtHand, collectors_of}
use Rattle.gm_eval.proofs.Sharing.{model_units}
use Rattle.gm_eval.proofs.evaluation.eval_keeping.Goals as goal

pub returns-clause-cost : goal.returns-clause-cost
returns-clause-cost g c = λ u units. c.value.ensures.read.cost u (model_units (IsAtHand c.kept.inside.entries) (reading_in c.args.arena.now c.args.found.now c.args.position c.args.params.now) (tree_of c.args.expr.now) u units)

pub returns-clause-among : goal.returns-clause-among
returns-clause-among g c = λ x at_hand. subst (λ (kept : KeptOf). IsAtHand kept.entries x ⊎ Contains (collectors_of (tree_of c.args.expr.now)) x) c.kept.view_is (c.value.ensures.read.adds.among x at_hand)

pub value-requires-clause-fits : goal.value-requires-clause-fits
value-requires-clause-fits g c = c.requires.fits

pub returns-clause-value : goal.returns-clause-value
returns-clause-value g c = c.value.ensures.value

pub returns-clause-least : goal.returns-clause-least
returns-clause-least g c = c.value.ensures.read.least

pub returns-clause-room : goal.returns-clause-room
returns-clause-room g c = c.value.ensures.read.room

pub returns-clause-kept : goal.returns-clause-kept
returns-clause-kept g c = c.value.ensures.read.kept

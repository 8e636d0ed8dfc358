use Rattle.std.proofs.Common.{sym, ◌∙◌}
use Rattle.gm_model.specs.Rules.{rule_of}
use Rattle.gm_match.proofs.Stepping.{same_count}
use Rattle.gm_tests.proofs.matching.matched.Goals as goal

pub listed-requires-clause-nodes : goal.listed-requires-clause-nodes
listed-requires-clause-nodes g c = same_count (rule_of c.args.plan.now.table) _ _ c.left_nodes-nodes.ensures.left c.in-Ok.ensures.answer.matched.nodes

pub listed-requires-clause-places : goal.listed-requires-clause-places
listed-requires-clause-places g c = c.places.ensures ∙ sym c.in-Ok.ensures.answer.matched.places

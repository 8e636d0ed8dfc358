use Rattle.std.proofs.Common.{MatchOption, sym, subst, arith}
use Rattle.gm_model.specs.declared.rule.Side.TheVariants.{Right}
use Rattle.gm_model.specs.Components.{IsKeeper, IsNew}
use Rattle.gm_model.specs.Rules.{rule_of}
use Rattle.gm_model.proofs.Nodes.{node_below}
use Rattle.gm_embcheck.specs.inner.Keepers.{keeper_in}
use Rattle.gm_embcheck.specs.inner.Leaders.{leader_in}
use Rattle.gm_embcheck.proofs.Kept.{leader_below, keeper_here}
use Rattle.gm_embcheck.proofs.keepers.keepers_of.Goals as goal

pub first_preserved-first-requires-clause-within : goal.first_preserved-first-requires-clause-within
first_preserved-first-requires-clause-within c = leader_below (rule_of c.args.rule.now) c.requires.bounds c.requires.leaders.0 c.args.leaders.now c.requires.leaders.1

pub bounds-first-leaders : goal.bounds-first-leaders
bounds-first-leaders c =
    let few = c.requires.bounds.nodes in
    let end = c.node_count-node-end.ensures in
    let within = c.loop-node-test.true in
    leader_below (rule_of c.args.rule.now) c.requires.bounds c.requires.leaders.0 c.args.leaders.now c.requires.leaders.1 c.loop-node.node (omega arith)

pub returns : goal.returns
returns c = λ o leaders x on_right.
    let rule = rule_of c.args.rule.now in
    let here = node_below rule Right x on_right in
    let few = c.requires.bounds.nodes in
    let end = c.node_count-node-end.ensures in
    let past = c.loop-node-test.false in
    let below = leader_below rule c.requires.bounds o c.args.leaders.now leaders x (omega arith) in
    subst (λ found. MatchOption found (IsNew rule o x) (IsKeeper rule o x)) (sym (c.loop-node.invariant.done x (omega arith)))
    (keeper_here rule c.requires.bounds o c.args.leaders.now leaders x on_right (keeper_in c.first_preserved-first.result (leader_in c.args.leaders.now x))
    (c.first_preserved-first.ensures (leader_in c.args.leaders.now x) below))

use Rattle.std.proofs.Common.{sym, ◌∙◌, arith, ◌≡◌, length, subst}
use Rattle.std.proofs.lemmas.Bool.{false≢true}
use Rattle.std.proofs.lemmas.Option.{slice_get_within}
use Rattle.gm_pending.proofs.on_deciding.DecidersFound.{decided_reached, node_passed}
use Rattle.gm_pending.specs.inner.ReachedDarts.{IsDecidedUpTo}
use Rattle.gm_pending.specs.inner.Results.{rule_in}
use Rattle.gm_model.proofs.Exits.{never_ok}
use Rattle.gm_pending.proofs.pending.Pending.decide_nodes.Goals as goal
use Rattle.gm_pending.proofs.pending.Pending.decide_nodes.Goals.{then-assigns+in_ok-decide_node, else-assigns}

pub loop-node-preserved : goal.loop-node-preserved
loop-node-preserved g c = elim c.if-assigns.branch [
  | then-assigns+in_ok-decide_node w ↦ rw (w.orbits-is, w.steps-is) record {
    decided = w.in_ok-decide_node.ensures.decided;
    cost = omega (arith, c.loop-node.invariant.cost, w.decide_node.ensures.cost);
    least = omega (arith, c.loop-node.invariant.least, w.decide_node.ensures.least);
  }
  | else-assigns w ↦ rw (w.orbits-is, w.steps-is) record {
    decided = node_passed c.args.self.now c.nodes-nodes.ensures.prepared c.args.embed c.args.declared.now c.requires.embed c.loop-node.orbits.instances.items c.loop-node.orbits.marks c.loop-node.node c.loop-node.invariant.decided
        (λ assigned. false≢true (sym w.if-assigns.false ∙ c.assigns.ensures.1 assigned));
    cost = c.loop-node.invariant.cost;
    least = c.loop-node.invariant.least;
  }
]

pub returns : goal.returns
returns g c =
    record {
      decided = let end : c.loop-node.node ≡ length (rule_in c.args.self.now).nodes = omega (arith, c.loop-node-test.false, c.loop-node.auto.node-end, c.nodes-nodes.ensures.nodes) in
          subst (λ n. IsDecidedUpTo c.args.self.now c.args.embed c.args.declared.now c.loop-node.orbits.instances.items c.loop-node.orbits.marks n 0) end c.loop-node.invariant.decided;
      darts = c.loop-node.invariant.decided.darts;
      reached = decided_reached c.args.self.now c.nodes-nodes.ensures.prepared c.args.embed c.args.declared.now c.requires.embed c.loop-node.orbits.instances.items c.loop-node.orbits.marks c.loop-node.node 0 c.loop-node.invariant.decided;
      cost = c.loop-node.invariant.cost;
      least = c.loop-node.invariant.least;
      prepared = c.nodes-nodes.ensures.prepared;
    }

pub loop-node-init : goal.loop-node-init
loop-node-init g c = record { decided = c.requires.earlier; cost = omega arith; least = omega arith }

pub assigns-requires : goal.assigns-requires
assigns-requires g c =
    record {
      embed = slice_get_within c.args.self.now.map.schema.embeds c.args.embed c.args.declared.now c.requires.embed;
      node = omega (arith, c.loop-node-test.true, c.nodes-nodes.ensures.nodes);
    }

pub decide_node-requires : goal.decide_node-requires
decide_node-requires g c =
    record {
      embed = c.requires.embed;
      assigned = c.assigns.ensures.0 c.if-assigns.true;
      earlier = c.loop-node.invariant.decided;
    }

pub returns-in_err-decide_node : goal.returns-in_err-decide_node
returns-in_err-decide_node g c =
    record {
      decided = never_ok _ c.from_residual.result c.from_residual.ensures.0;
      darts = c.decide_node.ensures.darts;
      reached = c.decide_node.ensures.reached;
      cost = omega (arith, c.loop-node.invariant.cost, c.decide_node.ensures.cost);
      least = omega (arith, c.loop-node.invariant.least, c.decide_node.ensures.least);
      prepared = c.nodes-nodes.ensures.prepared;
    }

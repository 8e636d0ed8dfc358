use Rattle.std.proofs.Common.{◌≡◌, ◌<◌, length, sym, subst, arith}
use Rattle.std.proofs.lemmas.Option.{slice_get_within}
use Rattle.gm_model.specs.declared.rule.Side.TheVariants.{Right}
use Rattle.gm_model.specs.declared.schema.Embed.{Embed}
use Rattle.gm_model.specs.declared.schema.Schema.{Schema}
use Rattle.gm_model.specs.Maps.{IsEmbedAt, type_of}
use Rattle.gm_model.specs.Rules.{rule_of}
use Rattle.gm_theory.proofs.RuleSteps.{word_below}
use Rattle.gm_plan.specs.inner.Sources.{HasExactLetters}
use Rattle.gm_pending.specs.inner.ReachedDarts.{IsDecidedUpTo}
use Rattle.gm_pending.specs.inner.Results.{PendingOf, IsPrepared, rule_in}
use Rattle.gm_pending.proofs.on_deciding.DecidersFound.{decided_reached, node_decided}
use Rattle.gm_pending.proofs.on_deciding.NodesOfOneOrbit.{assigned_within, is_one_orbit, longer_cost}
use Rattle.gm_model.proofs.Exits.{never_ok}
use Rattle.gm_pending.proofs.pending.Pending.decide_node.Goals as goal

pub returns : goal.returns
returns g c =
    record {
      decided = let app = c.args.self.now in
          let orbits = c.loop-position.orbits in
          let end : c.loop-position.position ≡ app.placed.positions = omega (arith, c.loop-position.auto.position-end, c.loop-position-test.false, c.positions-position-end.ensures.positions) in
          node_decided app c.positions-position-end.ensures.prepared c.args.embed c.args.declared.now c.requires.embed orbits.instances.items orbits.marks c.args.node
          (subst (λ p. IsDecidedUpTo app c.args.embed c.args.declared.now orbits.instances.items orbits.marks c.args.node p) end c.loop-position.invariant.decided);
      darts = c.loop-position.invariant.decided.darts;
      reached = decided_reached c.args.self.now c.positions-position-end.ensures.prepared c.args.embed c.args.declared.now c.requires.embed c.loop-position.orbits.instances.items c.loop-position.orbits.marks c.args.node c.loop-position.position c.loop-position.invariant.decided;
      cost = c.loop-position.invariant.cost;
      least = c.loop-position.invariant.least;
    }

pub loop-position-init : goal.loop-position-init
loop-position-init g c = record { decided = c.requires.earlier; cost = omega arith; least = omega arith }

pub decide_instance-requires : goal.decide_instance-requires
decide_instance-requires g c =
    record {
      prepared = c.positions-position-end.ensures.prepared;
      embed = c.requires.embed;
      assigned = c.requires.assigned;
      position = omega (arith, c.loop-position-test.true, c.positions-position-end.ensures.positions);
      earlier = c.loop-position.invariant.decided;
    }

pub returns-in_err-decide_instance : goal.returns-in_err-decide_instance
returns-in_err-decide_instance g c =
    record {
      decided = never_ok _ c.from_residual.result c.from_residual.ensures.0;
      darts = c.decide_instance.ensures.darts;
      reached = c.decide_instance.ensures.reached;
      cost = omega (arith, c.loop-position.invariant.cost, c.decide_instance.ensures.cost);
      least = omega (arith, c.loop-position.invariant.least, c.decide_instance.ensures.least);
    }

pub decide_orbit-requires : goal.decide_orbit-requires
decide_orbit-requires g c =
    record {
      embed = c.requires.embed;
      assigned = c.requires.assigned;
      orbit = let app = c.args.self.now in
          let prepared : IsPrepared app = subst IsPrepared c.self.view_is c.self.invariant.0 in
          let by_plan = subst (λ (s : Schema). (embed : Embed) → IsEmbedAt s c.args.embed embed → HasExactLetters s.dim (rule_of c.self.inside.plan.now.table) (type_of embed) c.args.node) (sym c.self.invariant.1) (c.is_exact.ensures c.if-is_exact.true) in
          let exact = subst (λ (a : PendingOf). (embed : Embed) → IsEmbedAt a.map.schema c.args.embed embed → HasExactLetters a.map.schema.dim (rule_in a) (type_of embed) c.args.node) c.self.view_is by_plan c.args.declared.now c.requires.embed in
          let wide = prepared.planned.accepted.incidence.structured.widths c.args.node (word_below (rule_in app) Right c.args.node exact.right) Right exact.right in
          is_one_orbit app prepared c.args.node exact.right c.args.embed c.args.declared.now c.requires.embed (λ m b. exact.among m (omega (arith, b, wide))) exact.each;
      earlier = c.requires.earlier;
    }

pub returns-then-is_exact : goal.returns-then-is_exact
returns-then-is_exact g c =
    record {
      decided = c.decide_orbit.ensures.decided;
      darts = c.decide_orbit.ensures.darts;
      reached = c.decide_orbit.ensures.reached;
      cost = longer_cost c.args.self.now.map.schema.dim c.args.steps.now (length c.args.orbits.now.marks) (length c.decide_orbit.new.orbits.marks) c.decide_orbit.ensures.longer;
      least = omega arith;
    }

pub is_exact-requires-clause-embed : goal.is_exact-requires-clause-embed
is_exact-requires-clause-embed g c = subst (λ (s : Schema). c.args.embed < length s.embeds) c.self.invariant.1
    (subst (λ (a : PendingOf). c.args.embed < length a.map.schema.embeds) (sym c.self.view_is) (slice_get_within c.args.self.now.map.schema.embeds c.args.embed c.args.declared.now c.requires.embed))

pub is_exact-requires-clause-node : goal.is_exact-requires-clause-node
is_exact-requires-clause-node g c = subst (λ (a : PendingOf). c.args.node < length (rule_in a).nodes) (sym c.self.view_is) (assigned_within (rule_in c.args.self.now) c.args.embed c.args.node c.requires.assigned)

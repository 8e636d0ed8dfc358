use Rattle.std.proofs.Common.{get_or, set, subst, ◌∙◌, arith, length-set}
use Rattle.std.proofs.lemmas.List.Elements.{All-get_or, All-set}
use Rattle.std.proofs.lemmas.Option.{slice_get-get_or}
use Rattle.gm_arena.specs.declared.slot.Slot.{Slot}
use Rattle.gm_arena.specs.inner.ArenaMap.{IsAt, IsLiveSlot, alpha}
use Rattle.gm_model.specs.Rules.{link_from, rule_of}
use Rattle.gm_walk.proofs.NameLemmas.{live_at}
use Rattle.gm_match.specs.inner.Layout.{dart_in}
use Rattle.gm_match.proofs.Paths.{from_within, to_within, low_label, few_links, hooks_reached, hooks_stay, all_forced, link_reached, link_set, dart_stays, row_name}
use Rattle.gm_match.proofs.rows.follow_paths.Goals as goal

pub loop-link-init : goal.loop-link-init
loop-link-init g c = record {
  whole = c.told-row;
  live = c.requires.live;
  reached = hooks_reached c.args.plan.now.schema (rule_of c.args.plan.now.table) c.requires.matchable.planned c.paths-link-items.result.now c.paths-link-items.ensures c.args.arena.now (dart_in c.args.arena.now c.args.row.now);
  cost = omega arith;
}

pub bounds-row-link : goal.bounds-row-link
bounds-row-link g c =
    let links = c.paths-link-items.result.now in
    from_within c.args.plan.now.schema (rule_of c.args.plan.now.table) c.requires.matchable.planned links c.paths-link-items.ensures _ _ (slice_get-get_or links c.loop-link.link-index (link_from 0 0 0) (omega arith))

pub alpha-requires-clause-live : goal.alpha-requires-clause-live
alpha-requires-clause-live g c =
    let links = c.paths-link-items.result.now in
    let link = get_or links c.loop-link.link-index (link_from 0 0 0) in
    let within = from_within c.args.plan.now.schema (rule_of c.args.plan.now.table) c.requires.matchable.planned links c.paths-link-items.ensures _ link (slice_get-get_or links c.loop-link.link-index (link_from 0 0 0) (omega arith)) in
    All-get_or (λ (s : Slot). IsLiveSlot c.args.arena.now s.at) c.loop-link.row link.from (record { at = 0 }) (omega (arith, c.loop-link.invariant.whole, within)) c.loop-link.invariant.live

pub alpha-requires-clause-label : goal.alpha-requires-clause-label
alpha-requires-clause-label g c =
    let links = c.paths-link-items.result.now in
    rw c.requires.matchable.schema (low_label c.args.plan.now.schema (rule_of c.args.plan.now.table) c.requires.matchable.planned links c.paths-link-items.ensures _ _ (slice_get-get_or links c.loop-link.link-index (link_from 0 0 0) (omega arith)))

pub bounds-row-link-in-loop-link : goal.bounds-row-link-in-loop-link
bounds-row-link-in-loop-link g c =
    let links = c.paths-link-items.result.now in
    to_within c.args.plan.now.schema (rule_of c.args.plan.now.table) c.requires.matchable.planned links c.paths-link-items.ensures _ _ (slice_get-get_or links c.loop-link.link-index (link_from 0 0 0) (omega arith))

pub loop-link-preserved : goal.loop-link-preserved
loop-link-preserved g c =
    let planned = c.requires.matchable.planned in
    let i = c.loop-link.invariant in
    let m = c.args.arena.now in
    let schema = c.args.plan.now.schema in
    let rule = rule_of c.args.plan.now.table in
    let links = c.paths-link-items.result.now in
    let are = c.paths-link-items.ensures in
    let link = get_or links c.loop-link.link-index (link_from 0 0 0) in
    let at = slice_get-get_or links c.loop-link.link-index (link_from 0 0 0) (omega arith) in
    let from = row_name m c.loop-link.row link.from (record { at = 0 }) (omega (arith, i.whole, from_within schema rule planned links are _ link at)) in
    record {
      whole = length-set _ _ _ ∙ i.whole;
      live = All-set (λ (s : Slot). IsLiveSlot m s.at) c.loop-link.row link.to c.alpha.result (live_at m c.alpha.result.at _ c.alpha.ensures.neighbour) i.live;
      reached = link_reached schema rule planned links are m (dart_in m c.args.row.now) c.loop-link.link-index link (dart_in m c.loop-link.row) (dart_in m (set c.loop-link.row link.to c.alpha.result)) at i.reached
          (link_set m c.loop-link.row link c.alpha.result (omega (arith, i.whole, to_within schema rule planned links are _ link at)) (subst (λ d. IsAt m c.alpha.result.at (alpha m link.label d)) from c.alpha.ensures.neighbour))
          (λ x left apart. dart_stays m c.loop-link.row link.to c.alpha.result x apart);
      cost = omega (arith, i.cost, c.alpha.ensures.cost);
    }

pub returns-clause-hooks : goal.returns-clause-hooks
returns-clause-hooks g c =
    let links = c.paths-link-items.result.now in
    hooks_stay c.args.plan.now.schema (rule_of c.args.plan.now.table) c.requires.matchable.planned links c.paths-link-items.ensures c.args.arena.now (dart_in c.args.arena.now c.args.row.now) c.loop-link.link-index (dart_in c.args.arena.now c.loop-link.row) (omega arith) c.loop-link.invariant.reached

pub returns-clause-row : goal.returns-clause-row
returns-clause-row g c =
    let links = c.paths-link-items.result.now in
    record {
      long = c.loop-link.invariant.whole;
      live = c.loop-link.invariant.live;
      forced = all_forced c.args.plan.now.schema (rule_of c.args.plan.now.table) c.requires.matchable.planned links c.paths-link-items.ensures c.args.arena.now (dart_in c.args.arena.now c.args.row.now) c.loop-link.link-index (dart_in c.args.arena.now c.loop-link.row) (omega arith) c.loop-link.invariant.reached;
    }

pub returns-clause-cost : goal.returns-clause-cost
returns-clause-cost g c =
    let few = few_links c.args.plan.now.schema (rule_of c.args.plan.now.table) c.requires.matchable.planned c.paths-link-items.result.now c.paths-link-items.ensures in
    omega (arith, c.loop-link.invariant.cost, few)

use Rattle.std.proofs.Common.{◌<◌, get_or, length, ◌∙◌, arith, length-set}
use Rattle.std.proofs.lemmas.List.Elements.{All-get_or, All-set}
use Rattle.std.proofs.lemmas.Option.{slice_get_within}
use Rattle.gm_arena.specs.declared.slot.Slot.{Slot}
use Rattle.gm_arena.specs.inner.ArenaMap.{IsLiveSlot}
use Rattle.gm_model.specs.Rules.{rule_of}
use Rattle.gm_match.proofs.Hooks.{hook_there}
use Rattle.gm_match.proofs.Paths.{hook_within}
use Rattle.gm_match.proofs.Growing.{one_dart}
use Rattle.gm_match.proofs.rows.first_row.Goals as goal

pub loop-index-init : goal.loop-index-init
loop-index-init g c = record {
  whole = c.told-row;
  live = c.requires.row;
  placed = λ t h none at. absurd (omega arith);
}

pub bounds-row-hooks : goal.bounds-row-hooks
bounds-row-hooks g c =
    let at = hook_there c.args.plan.now.table c.rule.result.now c.as_slice-hooks.result.now c.rule.ensures.rule c.as_slice-hooks.ensures c.loop-index.index (omega (arith, c.requires.count, c.loop-index-test.true)) in
    hook_within c.args.plan.now.schema (rule_of c.args.plan.now.table) c.requires.matchable.planned c.loop-index.index _ at

pub loop-index-preserved : goal.loop-index-preserved
loop-index-preserved g c =
    let i = c.loop-index.invariant in
    let planned = c.requires.matchable.planned in
    let rule = rule_of c.args.plan.now.table in
    let at = hook_there c.args.plan.now.table c.rule.result.now c.as_slice-hooks.result.now c.rule.ensures.rule c.as_slice-hooks.ensures c.loop-index.index (omega (arith, c.requires.count, c.loop-index-test.true)) in
    let within : get_or c.as_slice-hooks.result.now c.loop-index.index 0 < length c.loop-index.row = omega (arith, i.whole, hook_within c.args.plan.now.schema rule planned c.loop-index.index _ at) in
    record {
      whole = length-set _ _ _ ∙ i.whole;
      live = All-set (λ (s : Slot). IsLiveSlot c.args.arena.now s.at) c.loop-index.row _ _ (All-get_or (λ (s : Slot). IsLiveSlot c.args.arena.now s.at) c.args.darts.now c.loop-index.index (record { at = 0 }) c.loop-index-test.true c.requires.live) i.live;
      placed = one_dart c.args.arena.now rule.hooks planned.accepted.in_range.hooks_differ c.args.darts.now c.loop-index.row c.loop-index.index _ at within c.loop-index-test.true i.placed;
    }

pub returns-clause-darts : goal.returns-clause-darts
returns-clause-darts g c = λ t h at. c.follow_paths.ensures.hooks t h at ∙ c.loop-index.invariant.placed t h (omega (arith, slice_get_within (rule_of c.args.plan.now.table).hooks t h at, c.requires.count)) at

use Rattle.std.proofs.Common.{◌≡◌, ◌<◌, ◌≤◌, inl, inr, get_or, set, refl, sym, ap, subst, ◌∙◌, arith, length-set}
use Rattle.std.proofs.Math.Nat.{lt_of_le_of_lt}
use Rattle.std.proofs.lemmas.Bool.{cases_eq}
use Rattle.std.proofs.lemmas.List.Elements.{All-set}
use Rattle.std.proofs.lemmas.Option.{slice_get_within, get_or_from_slice_get}
use Rattle.gm_arena.specs.declared.slot.Slot.{Slot}
use Rattle.gm_arena.specs.inner.ArenaMap.{IsLiveSlot}
use Rattle.gm_model.specs.Rules.{rule_of}
use Rattle.gm_match.specs.inner.Layout.{dart_in, stepped}
use Rattle.gm_match.proofs.Costs.{none_between, hooks_cost, hooks_least}
use Rattle.gm_match.proofs.Growing.{one_hook, own_set, other_stays}
use Rattle.gm_match.proofs.Hooks.{hook_there, hooks_long}
use Rattle.gm_match.proofs.Paths.{hook_within}
use Rattle.gm_match.proofs.rows.later_row.Goals as goal

pub loop-index-init : goal.loop-index-init
loop-index-init g c =
    let m = c.args.arena.now in
    let rule = rule_of c.args.plan.now.table in
    let planned = c.requires.matchable.planned in
    let hook = get_or c.as_slice-hooks.result.now 0 0 in
    let at = hook_there c.args.plan.now.table c.rule.result.now c.as_slice-hooks.result.now c.rule.ensures.rule c.as_slice-hooks.ensures 0 c.requires.some in
    let within = subst (λ n. hook < n) (sym c.told-row) (hook_within c.args.plan.now.schema rule planned 0 hook at) in
    record {
      whole = length-set _ _ _ ∙ c.told-row;
      live = All-set (λ (s : Slot). IsLiveSlot m s.at) c.args.row.now hook c.args.first c.requires.first c.requires.row;
      first = λ h first. own_set m rule.hooks planned.accepted.in_range.hooks_differ c.args.row.now 0 hook at c.args.first within 0 h first refl;
      later = λ t h nodes some less at counts. absurd {A = dart_in m (set c.args.row.now hook c.args.first) h ≡ stepped m rule nodes c.args.slots.now c.args.turn h} (none_between some less);
      cost = refl;
    }

pub bounds-row-hooks : goal.bounds-row-hooks
bounds-row-hooks g c =
    let at = hook_there c.args.plan.now.table c.rule.result.now c.as_slice-hooks.result.now c.rule.ensures.rule c.as_slice-hooks.ensures 0 c.requires.some in
    hook_within c.args.plan.now.schema (rule_of c.args.plan.now.table) c.requires.matchable.planned 0 _ at

pub step_hook-requires-clause-turn : goal.step_hook-requires-clause-turn
step_hook-requires-clause-turn g c =
    let long = hooks_long c.args.plan.now.table c.rule.result.now c.as_slice-hooks.result.now c.rule.ensures.rule c.as_slice-hooks.ensures in
    c.requires.turn (lt_of_le_of_lt c.loop-index.auto.index (subst (λ n. c.loop-index.index < n) long c.loop-index-test.true))

pub bounds-row-hook : goal.bounds-row-hook
bounds-row-hook g c =
    let long = hooks_long c.args.plan.now.table c.rule.result.now c.as_slice-hooks.result.now c.rule.ensures.rule c.as_slice-hooks.ensures in
    let at = hook_there c.args.plan.now.table c.rule.result.now c.as_slice-hooks.result.now c.rule.ensures.rule c.as_slice-hooks.ensures c.loop-index.index (subst (λ n. c.loop-index.index < n) long c.loop-index-test.true) in
    hook_within c.args.plan.now.schema (rule_of c.args.plan.now.table) c.requires.matchable.planned c.loop-index.index _ at

pub loop-index-preserved : goal.loop-index-preserved
loop-index-preserved g c =
    let i = c.loop-index.invariant in
    let m = c.args.arena.now in
    let planned = c.requires.matchable.planned in
    let rule = rule_of c.args.plan.now.table in
    let hook = get_or c.as_slice-hooks.result.now c.loop-index.index 0 in
    let long = hooks_long c.args.plan.now.table c.rule.result.now c.as_slice-hooks.result.now c.rule.ensures.rule c.as_slice-hooks.ensures in
    let at = hook_there c.args.plan.now.table c.rule.result.now c.as_slice-hooks.result.now c.rule.ensures.rule c.as_slice-hooks.ensures c.loop-index.index (subst (λ n. c.loop-index.index < n) long c.loop-index-test.true) in
    let within = subst (λ n. hook < n) (sym i.whole) (hook_within c.args.plan.now.schema rule planned c.loop-index.index hook at) in
    record {
      whole = length-set _ _ _ ∙ i.whole;
      live = All-set (λ (s : Slot). IsLiveSlot m s.at) c.loop-index.row hook c.step_hook.result c.step_hook.ensures.live i.live;
      first = λ h first. other_stays m rule.hooks planned.accepted.in_range.hooks_differ c.loop-index.row c.loop-index.index hook at c.step_hook.result 0 h first (λ e. omega (arith, e, c.loop-index.auto.index)) ∙ i.first h first;
      later = λ t h nodes some less there counts. elim (cases_eq t c.loop-index.index) [
        | inl same ↦ own_set m rule.hooks planned.accepted.in_range.hooks_differ c.loop-index.row c.loop-index.index hook at c.step_hook.result within t h there same
            ∙ c.step_hook.ensures.stepped nodes counts
            ∙ ap (stepped m rule nodes c.args.slots.now c.args.turn) (one_hook rule.hooks c.loop-index.index t hook h at there same)
        | inr apart ↦ other_stays m rule.hooks planned.accepted.in_range.hooks_differ c.loop-index.row c.loop-index.index hook at c.step_hook.result t h there apart ∙ i.later t h nodes some (omega (arith, less, apart)) there counts
      ];
      cost = omega (arith, i.cost, c.step_hook.ensures.cost);
    }

pub returns-clause-first : goal.returns-clause-first
returns-clause-first g c = λ h at. c.follow_paths.ensures.hooks 0 h at ∙ c.loop-index.invariant.first h at

pub returns-clause-later : goal.returns-clause-later
returns-clause-later g c =
    let long = hooks_long c.args.plan.now.table c.rule.result.now c.as_slice-hooks.result.now c.rule.ensures.rule c.as_slice-hooks.ensures in
    λ t h nodes some at counts. c.follow_paths.ensures.hooks t h at ∙ c.loop-index.invariant.later t h nodes some (omega (arith, slice_get_within (rule_of c.args.plan.now.table).hooks t h at, long, c.loop-index-test.false)) at counts

pub bounds-hooks-0 : goal.bounds-hooks-0
bounds-hooks-0 g c =
    let long = hooks_long c.args.plan.now.table c.rule.result.now c.as_slice-hooks.result.now c.rule.ensures.rule c.as_slice-hooks.ensures in
    subst (λ n. 0 < n) (sym long) c.requires.some

pub bounds-hooks-index : goal.bounds-hooks-index
bounds-hooks-index g c = c.loop-index-test.true

pub step_hook-requires-clause-matchable : goal.step_hook-requires-clause-matchable
step_hook-requires-clause-matchable g c = c.requires.matchable

pub step_hook-requires-clause-hook : goal.step_hook-requires-clause-hook
step_hook-requires-clause-hook g c =
    let long = hooks_long c.args.plan.now.table c.rule.result.now c.as_slice-hooks.result.now c.rule.ensures.rule c.as_slice-hooks.ensures in
    let within = subst (λ n. c.loop-index.index < n) long c.loop-index-test.true in
    let at = hook_there c.args.plan.now.table c.rule.result.now c.as_slice-hooks.result.now c.rule.ensures.rule c.as_slice-hooks.ensures c.loop-index.index within in
    let hook = get_or c.as_slice-hooks.result.now c.loop-index.index 0 in
    (c.loop-index.index, within, get_or_from_slice_get (rule_of c.args.plan.now.table).hooks c.loop-index.index hook hook at)

pub step_hook-requires-clause-slots : goal.step_hook-requires-clause-slots
step_hook-requires-clause-slots g c = c.requires.slots

pub follow_paths-requires-clause-matchable : goal.follow_paths-requires-clause-matchable
follow_paths-requires-clause-matchable g c = c.requires.matchable

pub follow_paths-requires-clause-live : goal.follow_paths-requires-clause-live
follow_paths-requires-clause-live g c = c.loop-index.invariant.live

pub returns-clause-row : goal.returns-clause-row
returns-clause-row g c = c.follow_paths.ensures.row

pub returns-clause-cost : goal.returns-clause-cost
returns-clause-cost g c =
    let long = hooks_long c.args.plan.now.table c.rule.result.now c.as_slice-hooks.result.now c.rule.ensures.rule c.as_slice-hooks.ensures in
    let most = subst (λ n. c.loop-index.index ≤ n) long (c.loop-index.auto.index-end (subst (λ n. 0 < n) (sym long) c.requires.some)) in
    hooks_cost _ _ _ _ _ _ most c.loop-index.invariant.cost c.follow_paths.ensures.cost

pub returns-clause-least : goal.returns-clause-least
returns-clause-least g c = hooks_least _ _ _ _ c.loop-index.auto.index c.loop-index.invariant.cost c.follow_paths.ensures.least

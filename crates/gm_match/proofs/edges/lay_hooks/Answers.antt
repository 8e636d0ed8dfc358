use Rattle.std.proofs.Common.{◌<◌, ◌≤◌, get_or, length, sym, ap, subst, ◌∙◌, arith, ◌-◌, refl}
use Rattle.gm_model.specs.declared.rule.Side.TheVariants.{Left}
use Rattle.gm_model.specs.Rules.{rule_of, letters, label_at}
use Rattle.gm_arena.specs.inner.ArenaMap.{alpha, name_at}
use Rattle.gm_theory.proofs.Candidates.{hook_left}
use Rattle.gm_walk.specs.inner.Walks.{names_of}
use Rattle.gm_walk.proofs.NameLemmas.{name_there}
use Rattle.gm_match.specs.inner.Layout.{AreHooksLaid}
use Rattle.gm_match.proofs.EdgeRows.{next_laid, first_laid}
use Rattle.gm_match.proofs.Hooks.{hook_there, hooks_long, some_hook, hook_at, hook_among, hook_below}
use Rattle.gm_match.proofs.edges.lay_hooks.Goals as goal

pub loop-index-preserved : goal.loop-index-preserved
loop-index-preserved g c =
    let m = c.args.arena.now in
    let table = c.args.plan.now.table in
    let rule = rule_of table in
    let planned = c.requires.walked.matchable.planned in
    let i = c.loop-index.invariant in
    let index = c.loop-index.index in
    let hook = get_or c.as_slice-hooks.result.now index 0 in
    let long = hooks_long table c.rule.result.now c.as_slice-hooks.result.now c.rule.ensures.rule c.as_slice-hooks.ensures in
    let low = subst (λ n. index < n) long c.loop-index-test.true in
    let at = hook_there table c.rule.result.now c.as_slice-hooks.result.now c.rule.ensures.rule c.as_slice-hooks.ensures index low in
    let dart = sym (name_there m c.args.darts.now index (record { at = 0 }) (omega (arith, low, c.requires.walked.count))) in
    let laid = c.lay_ends-in-loop-index.ensures in
    record {
      long = laid.long ∙ i.long;
      live = laid.live;
      laid = next_laid m rule planned.accepted.in_range.hooks_differ (names_of m c.args.darts.now) (names_of m c.args.walk.now) (length c.args.walk.now) c.args.nodes
          (λ t h there. (c.requires.nodes h).0 (hook_left c.args.plan.now.schema rule planned.accepted.in_range planned.accepted.incidence t h there))
          index hook at c.loop-index.auto.index c.loop-index.slots c.lay_ends-in-loop-index.new.slots laid.stays (laid.one ∙ dart)
          (λ two. laid.other two ∙ c.hook_end-other.ensures.leads ∙ ap (alpha m (label_at (letters rule Left hook) 0)) dart) i.laid;
      cost = omega (arith, i.cost, c.hook_end-other.ensures.cost);
    }

pub returns-clause-laid : goal.returns-clause-laid
returns-clause-laid g c =
    let m = c.args.arena.now in
    let table = c.args.plan.now.table in
    let index = c.loop-index.index in
    let long = hooks_long table c.rule.result.now c.as_slice-hooks.result.now c.rule.ensures.rule c.as_slice-hooks.ensures in
    let some = subst (λ n. 0 < n) c.requires.walked.count c.requires.walked.some in
    let most = subst (λ n. index ≤ n) long (c.loop-index.auto.index-end (subst (λ n. 0 < n) (sym long) some)) in
    subst (λ n. AreHooksLaid m (rule_of table) (names_of m c.args.darts.now) (names_of m c.args.walk.now) (length c.args.walk.now) c.args.nodes n c.loop-index.slots) (omega (arith, most, long, c.loop-index-test.false)) c.loop-index.invariant.laid

pub bounds-hooks-0 : goal.bounds-hooks-0
bounds-hooks-0 g c = some_hook c.args.plan.now.table c.rule.result.now c.as_slice-hooks.result.now _ c.rule.ensures.rule c.as_slice-hooks.ensures c.requires.walked.some c.requires.walked.count

pub bounds-walk-0 : goal.bounds-walk-0
bounds-walk-0 g c = c.requires.walked.some_position

pub bounds-walk-rows : goal.bounds-walk-rows
bounds-walk-rows g c = omega (arith, c.requires.walked.some_position)

pub lay_ends-requires-clause-node : goal.lay_ends-requires-clause-node
lay_ends-requires-clause-node g c = hook_below c.args.plan.now.schema c.args.plan.now.table c.rule.result.now c.as_slice-hooks.result.now c.requires.walked.matchable.planned c.rule.ensures.rule c.as_slice-hooks.ensures 0 (some_hook c.args.plan.now.table c.rule.result.now c.as_slice-hooks.result.now _ c.rule.ensures.rule c.as_slice-hooks.ensures c.requires.walked.some c.requires.walked.count) c.args.nodes c.requires.nodes

pub lay_ends-requires-clause-some : goal.lay_ends-requires-clause-some
lay_ends-requires-clause-some g c = c.requires.walked.some_position

pub lay_ends-requires-clause-short : goal.lay_ends-requires-clause-short
lay_ends-requires-clause-short g c = c.requires.short

pub lay_ends-requires-clause-few : goal.lay_ends-requires-clause-few
lay_ends-requires-clause-few g c = c.requires.few

pub lay_ends-requires-clause-long : goal.lay_ends-requires-clause-long
lay_ends-requires-clause-long g c = c.requires.long

pub lay_ends-requires-clause-one : goal.lay_ends-requires-clause-one
lay_ends-requires-clause-one g c = c.requires.walked.walk_live 0 (record { at = 0 }) c.requires.walked.some_position

pub lay_ends-requires-clause-other : goal.lay_ends-requires-clause-other
lay_ends-requires-clause-other g c = c.requires.walked.walk_live (length c.args.walk.now - 1) (record { at = 0 }) (omega (arith, c.requires.walked.some_position))

pub lay_ends-requires-clause-live : goal.lay_ends-requires-clause-live
lay_ends-requires-clause-live g c =
    c.requires.live

pub loop-index-init : goal.loop-index-init
loop-index-init g c =
    let m = c.args.arena.now in
    let rule = rule_of c.args.plan.now.table in
    let walk = c.args.walk.now in
    let at = hook_at c.args.plan.now.schema c.args.plan.now.table c.rule.result.now c.as_slice-hooks.result.now c.requires.walked.matchable.planned c.rule.ensures.rule c.as_slice-hooks.ensures 0 (some_hook c.args.plan.now.table c.rule.result.now c.as_slice-hooks.result.now _ c.rule.ensures.rule c.as_slice-hooks.ensures c.requires.walked.some c.requires.walked.count) in
    let laid = c.lay_ends.ensures in
    record {
      long = laid.long;
      live = laid.live;
      laid = first_laid m rule c.requires.walked.matchable.planned.accepted.in_range.hooks_differ (names_of m c.args.darts.now) (names_of m walk) (length walk) c.args.nodes _ c.lay_ends.new.slots at c.requires.short
          (laid.one ∙ sym (name_there m walk 0 (record { at = 0 }) c.requires.walked.some_position))
          (λ two. laid.other two ∙ ap (λ k. name_at m (get_or walk k (record { at = 0 })).at) (omega (arith, two, c.requires.short)) ∙ sym (name_there m walk 1 (record { at = 0 }) two));
      cost = refl;
    }

pub bounds-darts-index : goal.bounds-darts-index
bounds-darts-index g c =
    let low = subst (λ n. c.loop-index.index < n) (hooks_long c.args.plan.now.table c.rule.result.now c.as_slice-hooks.result.now c.rule.ensures.rule c.as_slice-hooks.ensures) c.loop-index-test.true in
    omega (arith, low, c.requires.walked.count)

pub bounds-hooks-index : goal.bounds-hooks-index
bounds-hooks-index g c = c.loop-index-test.true

pub hook_end-other-requires-clause-matchable : goal.hook_end-other-requires-clause-matchable
hook_end-other-requires-clause-matchable g c = c.requires.walked.matchable

pub hook_end-other-requires-clause-hook : goal.hook_end-other-requires-clause-hook
hook_end-other-requires-clause-hook g c = hook_among c.args.plan.now.schema c.args.plan.now.table c.rule.result.now c.as_slice-hooks.result.now c.requires.walked.matchable.planned c.rule.ensures.rule c.as_slice-hooks.ensures c.loop-index.index c.loop-index-test.true

pub hook_end-other-requires-clause-one : goal.hook_end-other-requires-clause-one
hook_end-other-requires-clause-one g c =
    c.requires.one

pub hook_end-other-requires-clause-dart : goal.hook_end-other-requires-clause-dart
hook_end-other-requires-clause-dart g c =
    let low = subst (λ n. c.loop-index.index < n) (hooks_long c.args.plan.now.table c.rule.result.now c.as_slice-hooks.result.now c.rule.ensures.rule c.as_slice-hooks.ensures) c.loop-index-test.true in
    c.requires.walked.darts_live c.loop-index.index (record { at = 0 }) (omega (arith, low, c.requires.walked.count))

pub bounds-hooks-index-in-loop-index : goal.bounds-hooks-index-in-loop-index
bounds-hooks-index-in-loop-index g c = c.loop-index-test.true

pub lay_ends-requires-in-loop-index-clause-node : goal.lay_ends-requires-in-loop-index-clause-node
lay_ends-requires-in-loop-index-clause-node g c = hook_below c.args.plan.now.schema c.args.plan.now.table c.rule.result.now c.as_slice-hooks.result.now c.requires.walked.matchable.planned c.rule.ensures.rule c.as_slice-hooks.ensures c.loop-index.index c.loop-index-test.true c.args.nodes c.requires.nodes

pub lay_ends-requires-in-loop-index-clause-some : goal.lay_ends-requires-in-loop-index-clause-some
lay_ends-requires-in-loop-index-clause-some g c = c.requires.walked.some_position

pub lay_ends-requires-in-loop-index-clause-short : goal.lay_ends-requires-in-loop-index-clause-short
lay_ends-requires-in-loop-index-clause-short g c = c.requires.short

pub lay_ends-requires-in-loop-index-clause-few : goal.lay_ends-requires-in-loop-index-clause-few
lay_ends-requires-in-loop-index-clause-few g c = c.requires.few

pub lay_ends-requires-in-loop-index-clause-long : goal.lay_ends-requires-in-loop-index-clause-long
lay_ends-requires-in-loop-index-clause-long g c =
    c.requires.long ∙ sym c.loop-index.invariant.long

pub lay_ends-requires-in-loop-index-clause-one : goal.lay_ends-requires-in-loop-index-clause-one
lay_ends-requires-in-loop-index-clause-one g c =
    let low = subst (λ n. c.loop-index.index < n) (hooks_long c.args.plan.now.table c.rule.result.now c.as_slice-hooks.result.now c.rule.ensures.rule c.as_slice-hooks.ensures) c.loop-index-test.true in
    c.requires.walked.darts_live c.loop-index.index (record { at = 0 }) (omega (arith, low, c.requires.walked.count))

pub lay_ends-requires-in-loop-index-clause-other : goal.lay_ends-requires-in-loop-index-clause-other
lay_ends-requires-in-loop-index-clause-other g c = c.hook_end-other.ensures.live

pub lay_ends-requires-in-loop-index-clause-live : goal.lay_ends-requires-in-loop-index-clause-live
lay_ends-requires-in-loop-index-clause-live g c = c.loop-index.invariant.live

pub returns-clause-long : goal.returns-clause-long
returns-clause-long g c = c.loop-index.invariant.long

pub returns-clause-live : goal.returns-clause-live
returns-clause-live g c =
    c.loop-index.invariant.live

pub returns-clause-cost : goal.returns-clause-cost
returns-clause-cost g c =
    let long = hooks_long c.args.plan.now.table c.rule.result.now c.as_slice-hooks.result.now c.rule.ensures.rule c.as_slice-hooks.ensures in
    let some = some_hook c.args.plan.now.table c.rule.result.now c.as_slice-hooks.result.now _ c.rule.ensures.rule c.as_slice-hooks.ensures c.requires.walked.some c.requires.walked.count in
    let most = c.loop-index.auto.index-end some in
    omega (arith, most, long, c.loop-index-test.false, c.loop-index.invariant.cost)

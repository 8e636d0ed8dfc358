use Rattle.std.proofs.Common.{true, drop, ◌+◌, ◌<◌, ◌≤◌, [], ◌∷◌, arith, length, take, refl, rules, ap, sym, subst, ◌∙◌}
use Rattle.std.proofs.lemmas.List.{length_push}
use Rattle.std.proofs.lemmas.Option.{get_or_from_slice_get, slice_get_within}
use Rattle.std.proofs.lemmas.Result.{err_from_is_err_and}
use Rattle.gm_model.specs.declared.schema.Schema.{Schema}
use Rattle.gm_model.specs.Budgets.{no_entries}
use Rattle.gm_model.specs.Maps.{IsDart}
use Rattle.gm_model.specs.Orbits.{HasCount}
use Rattle.gm_model.specs.Statements.{stat_of}
use Rattle.gm_model.specs.Runs.{start_of, AreInOrder}
use Rattle.gm_arena.specs.inner.ArenaAsMap.{as_map}
use Rattle.gm_arena.proofs.Keys.{darts_counted}
use Rattle.gm_theory.specs.inner.Outcomes.{IsGoodStat}
use Rattle.gm_theory.specs.inner.Suited.{IsSuited}
use Rattle.gm_theory.proofs.RunsFound.{stands_first}
use Rattle.gm_run.specs.declared.standing.Open.TheVariants as opens
use Rattle.gm_run.specs.inner.Standing.{IsAllowed, going}
use Rattle.gm_run.specs.inner.Progress.{rules_of, ArePlansFor}
use Rattle.gm_run.proofs.Telling.{behind}
use Rattle.gm_run.proofs.Sayable.{run_can_be_printed}
use Rattle.gm_run.proofs.Advancing.{never_more}
use Rattle.gm_run.proofs.Advancing.{no_less}
use Rattle.gm_run.proofs.Settled.{enough_behind, going_within, one_going_less}
use Rattle.gm_run.proofs.Through.{IsThrough, allowed, cut_first, is_open, none_through, through_as, order_on, run_bounds, run_least, run_most, run_only, run_told, stat_cut, stat_through, through_all}
use Rattle.std.proofs.Math.Nat.{le_refl, le_trans}
use Rattle.gm_model.proofs.Exits.{unless_ok}
use Rattle.gm_run.proofs.running.run.Goals as goal

-- ---- the loop

pub prove-unreachable-requires : goal.prove-unreachable-requires
prove-unreachable-requires g c = never_more c.args.arena.now c.count.result c.count.ensures.lawful c.count.ensures.count c.if-prove.true

pub loop-index-init : goal.loop-index-init
loop-index-init g c =
    let items = c.in_ok-outcomes.ensures.items in
    record {
      sound = c.requires.sound;
      schema = refl;
      spare = le_refl _;
      reserved = le_refl _;
      long = ap length items;
      capacity = search rules;
      enough = record { reaches = λ _. refl; grouped = λ _. refl };
      reach = c.goings.ensures;
      order = c.requires.order;
      through = subst (λ lines. IsThrough (rules_of c.args.plans.now) (as_map c.args.arena.now) [] lines (record { keeps = record { on = true; reach = c.goings.result }; history = c.new.result; group = opens.Nothing; scratch = c.new-2.result }) c.args.arena.now c.args.steps.now c.args.steps.now) (sym items)
          (none_through (rules_of c.args.plans.now) (as_map c.args.arena.now) c.requires.sound (record { keeps = record { on = true; reach = c.goings.result }; history = c.new.result; group = opens.Nothing; scratch = c.new-2.result }) c.args.arena.now c.args.steps.now refl
          (c.new.ensures.history c.args.arena.now c.count.ensures.lawful c.requires.sound) (c.new.ensures.entries c.args.arena.now.schema.dim) refl);
    }

pub loop-index-preserved : goal.loop-index-preserved
loop-index-preserved g c =
    let before = c.loop-index.invariant in
    let through = through_as (rules_of c.args.plans.now) (as_map c.args.arena.now) c.requires.sound (take c.loop-index.index c.args.script.now.stats) c.loop-index.outcomes.items c.loop-index.standing c.settle.new.self c.loop-index.arena c.args.steps.now c.loop-index.steps
    c.settle.ensures.stands c.loop-index.invariant.through in
    let may_stand : IsAllowed c.loop-index.standing.group (stat_of c.get-stat.result) = allowed c.loop-index.standing.group (stat_of c.get-stat.result) (drop (c.loop-index.index + 1) c.args.script.now.stats)
    (subst (AreInOrder (is_open c.loop-index.standing.group)) (behind c.args.script.now.stats c.loop-index.index (stat_of c.get-stat.result) c.get-stat.ensures) before.order) in
    let within_reach : going (stat_of c.get-stat.result) ≤ c.loop-index.standing.keeps.reach = going_within c.args.script.now.stats c.loop-index.index (stat_of c.get-stat.result) c.get-stat.ensures c.loop-index.standing.keeps.reach before.reach in
    let items = c.push_reserved.ensures.items in
    let long = before.long in
    let room = before.capacity in
    let same = c.push_reserved.ensures.capacity in
    record {
      sound = c.in_ok-outcome.ensures.sound;
      schema = c.in_ok-outcome.ensures.schema ∙ before.schema;
      spare = le_trans before.spare c.in_ok-outcome.ensures.spare_stays;
      reserved = le_trans before.reserved c.in_ok-outcome.ensures.reserved_stays;
      long = ap length items ∙ length_push c.loop-index.outcomes.items c.in_ok-outcome.outcome ∙ ap (λ n. n + 1) long;
      capacity = subst (λ n. c.len-count.result ≤ n) (sym same) room;
      enough = enough_behind (rules_of c.args.plans.now) through.state through.costs (stat_of c.get-stat.result) c.in_ok-outcome.outcome c.settle.new.self c.stat_outcome.new.standing c.loop-index.arena c.stat_outcome.new.arena c.loop-index.steps c.stat_outcome.new.steps
          through.stands (c.in_ok-outcome.ensures.step through.state through.costs through.stands) c.settle.ensures.enough (λ need. c.settle.ensures.needs need may_stand within_reach) c.in_ok-outcome.ensures.keeps c.in_ok-outcome.ensures.reach;
      reach = (let less = one_going_less c.args.script.now.stats c.loop-index.index (stat_of c.get-stat.result) c.get-stat.ensures in let so_far = before.reach in let same = c.settle.ensures.reach in let one = c.in_ok-outcome.ensures.reach in omega (arith, less, so_far, same, one));
      order = order_on (rules_of c.args.plans.now) (as_map c.args.arena.now) c.requires.sound c.args.script.now.stats c.loop-index.index c.loop-index.outcomes.items c.settle.new.self c.stat_outcome.new.standing c.loop-index.arena c.stat_outcome.new.arena
          c.args.steps.now c.loop-index.steps c.stat_outcome.new.steps through (stat_of c.get-stat.result) c.get-stat.ensures
          (subst (λ schema. IsSuited schema (rules_of c.args.plans.now) (stat_of c.get-stat.result)) before.schema c.in_ok-outcome.ensures.suited) c.in_ok-outcome.outcome (drop (c.loop-index.index + 1) c.args.script.now.stats)
          (c.in_ok-outcome.ensures.step through.state through.costs through.stands)
          (subst (λ o. AreInOrder (is_open o) (stat_of c.get-stat.result ∷ drop (c.loop-index.index + 1) c.args.script.now.stats)) (sym c.settle.ensures.group)
          (subst (AreInOrder (is_open c.loop-index.standing.group)) (behind c.args.script.now.stats c.loop-index.index (stat_of c.get-stat.result) c.get-stat.ensures) before.order));
      through = subst (λ lines. IsThrough (rules_of c.args.plans.now) (as_map c.args.arena.now) (take (c.loop-index.index + 1) c.args.script.now.stats) lines c.stat_outcome.new.standing c.stat_outcome.new.arena c.args.steps.now c.stat_outcome.new.steps) (sym items)
          (stat_through (rules_of c.args.plans.now) (as_map c.args.arena.now) c.requires.sound c.args.script.now.stats c.loop-index.index c.loop-index.outcomes.items c.settle.new.self c.stat_outcome.new.standing c.loop-index.arena c.stat_outcome.new.arena
          c.args.steps.now c.loop-index.steps c.stat_outcome.new.steps through (stat_of c.get-stat.result) c.get-stat.ensures
          (subst (λ schema. IsSuited schema (rules_of c.args.plans.now) (stat_of c.get-stat.result)) before.schema c.in_ok-outcome.ensures.suited) c.in_ok-outcome.outcome (c.in_ok-outcome.ensures.step through.state through.costs through.stands));
    }

-- ---- memory is wanting

-- ---- all statements were run

-- ---- what else is owed where memory is wanting

-- ---- and behind the last statement

pub returns-in_err-outcomes : goal.returns-in_err-outcomes
returns-in_err-outcomes g c =
    let p = err_from_is_err_and c.from_residual.result c.from_residual.ensures.1 in
    record {
      run = unless_ok _ c.from_residual.result c.from_residual.ensures.0;
      only = unless_ok _ c.from_residual.result c.from_residual.ensures.0;
      most = λ outcomes after bounds run. no_less c.args.steps.now bounds.most;
      least = unless_ok _ c.from_residual.result c.from_residual.ensures.0;
      bounds = unless_ok _ c.from_residual.result c.from_residual.ensures.0;
      darts = unless_ok _ c.from_residual.result c.from_residual.ensures.0;
      next = unless_ok _ c.from_residual.result c.from_residual.ensures.0;
      printable = unless_ok _ c.from_residual.result c.from_residual.ensures.0;
      cut = rw p.1 (cut_first (rules_of c.args.plans.now) (as_map c.args.arena.now) c.requires.sound c.args.script.now.stats c.args.steps.now);
      sound = c.requires.sound;
      schema = refl;
      spare_stays = le_refl _;
      reserved_stays = le_refl _;
    }

pub settle-requires : goal.settle-requires
settle-requires g c = record { sound = c.loop-index.invariant.sound; enough = c.loop-index.invariant.enough }

pub stat_outcome-requires : goal.stat_outcome-requires
stat_outcome-requires g c =
    let within : c.loop-index.index < length c.args.script.now.stats = slice_get_within c.args.script.now.stats c.loop-index.index (stat_of c.get-stat.result) c.get-stat.ensures in
    let same = get_or_from_slice_get c.args.script.now.stats c.loop-index.index (stat_of c.get-stat.result) (stat_of c.get-stat.result) c.get-stat.ensures in
    let may_stand : IsAllowed c.loop-index.standing.group (stat_of c.get-stat.result) = allowed c.loop-index.standing.group (stat_of c.get-stat.result) (drop (c.loop-index.index + 1) c.args.script.now.stats)
    (subst (AreInOrder (is_open c.loop-index.standing.group)) (behind c.args.script.now.stats c.loop-index.index (stat_of c.get-stat.result) c.get-stat.ensures) c.loop-index.invariant.order) in
    let within_reach : going (stat_of c.get-stat.result) ≤ c.loop-index.standing.keeps.reach = going_within c.args.script.now.stats c.loop-index.index (stat_of c.get-stat.result) c.get-stat.ensures c.loop-index.standing.keeps.reach c.loop-index.invariant.reach in
    record {
      sound = c.loop-index.invariant.sound;
      plans = subst (λ schema. ArePlansFor schema c.args.plans.now) (sym c.loop-index.invariant.schema) c.requires.plans;
      good = subst (λ (schema : Schema). IsGoodStat (rules_of c.args.plans.now) schema.dim (stat_of c.get-stat.result)) (sym c.loop-index.invariant.schema)
          (subst (IsGoodStat (rules_of c.args.plans.now) c.args.arena.now.schema.dim) same (c.requires.good c.loop-index.index (stat_of c.get-stat.result) within));
      stands = let through = through_as (rules_of c.args.plans.now) (as_map c.args.arena.now) c.requires.sound (take c.loop-index.index c.args.script.now.stats) c.loop-index.outcomes.items c.loop-index.standing c.settle.new.self c.loop-index.arena c.args.steps.now c.loop-index.steps
          c.settle.ensures.stands c.loop-index.invariant.through in
          (through.state, through.costs, through.stands);
      allowed = subst (λ o. IsAllowed o (stat_of c.get-stat.result)) (sym c.settle.ensures.group) may_stand;
      needs = λ needs. c.settle.ensures.needs needs may_stand within_reach;
      reach = (let same = c.settle.ensures.reach in omega (arith, within_reach, same));
    }

pub returns-in_err-outcome : goal.returns-in_err-outcome
returns-in_err-outcome g c =
    let p = err_from_is_err_and c.from_residual-in_err-outcome.result c.from_residual-in_err-outcome.ensures.1 in
    let rules = rules_of c.args.plans.now in
    let before = as_map c.args.arena.now in
    record {
      run = unless_ok _ c.from_residual-in_err-outcome.result c.from_residual-in_err-outcome.ensures.0;
      only = unless_ok _ c.from_residual-in_err-outcome.result c.from_residual-in_err-outcome.ensures.0;
      most = let through = through_as (rules_of c.args.plans.now) (as_map c.args.arena.now) c.requires.sound (take c.loop-index.index c.args.script.now.stats) c.loop-index.outcomes.items c.loop-index.standing c.settle.new.self c.loop-index.arena c.args.steps.now c.loop-index.steps
          c.settle.ensures.stands c.loop-index.invariant.through in
          let cut = stat_cut rules before c.requires.sound c.args.script.now.stats c.loop-index.index c.loop-index.outcomes.items c.settle.new.self c.loop-index.arena (as_map c.stat_outcome.new.arena) c.args.steps.now c.loop-index.steps c.stat_outcome.new.steps
          through (stat_of c.get-stat.result) c.get-stat.ensures (c.in_err-outcome.ensures.step through.state through.costs through.stands) in
          cut.most;
      least = unless_ok _ c.from_residual-in_err-outcome.result c.from_residual-in_err-outcome.ensures.0;
      bounds = unless_ok _ c.from_residual-in_err-outcome.result c.from_residual-in_err-outcome.ensures.0;
      darts = unless_ok _ c.from_residual-in_err-outcome.result c.from_residual-in_err-outcome.ensures.0;
      next = unless_ok _ c.from_residual-in_err-outcome.result c.from_residual-in_err-outcome.ensures.0;
      printable = unless_ok _ c.from_residual-in_err-outcome.result c.from_residual-in_err-outcome.ensures.0;
      cut = let through = through_as (rules_of c.args.plans.now) (as_map c.args.arena.now) c.requires.sound (take c.loop-index.index c.args.script.now.stats) c.loop-index.outcomes.items c.loop-index.standing c.settle.new.self c.loop-index.arena c.args.steps.now c.loop-index.steps
          c.settle.ensures.stands c.loop-index.invariant.through in
          let cut = stat_cut rules before c.requires.sound c.args.script.now.stats c.loop-index.index c.loop-index.outcomes.items c.settle.new.self c.loop-index.arena (as_map c.stat_outcome.new.arena) c.args.steps.now c.loop-index.steps c.stat_outcome.new.steps
          through (stat_of c.get-stat.result) c.get-stat.ensures (c.in_err-outcome.ensures.step through.state through.costs through.stands) in
          rw p.1 cut.short;
      sound = c.in_err-outcome.ensures.sound;
      schema = c.in_err-outcome.ensures.schema ∙ c.loop-index.invariant.schema;
      spare_stays = le_trans c.loop-index.invariant.spare c.in_err-outcome.ensures.spare_stays;
      reserved_stays = le_trans c.loop-index.invariant.reserved c.in_err-outcome.ensures.reserved_stays;
    }

pub returns : goal.returns
returns g c =
    let rules = rules_of c.args.plans.now in
    let before = as_map c.args.arena.now in
    let past : length c.args.script.now.stats ≤ c.loop-index.index = subst (λ n. n ≤ c.loop-index.index) c.len-count.ensures c.loop-index-test.false in
    let through = through_all rules before c.requires.sound c.args.script.now.stats c.loop-index.outcomes.items c.new-3.result c.loop-index.index c.loop-index.standing c.loop-index.arena c.args.steps.now c.loop-index.steps past c.new-3.ensures c.loop-index.invariant.through in
    record {
      run = (through.told, through.state, through.tells, through.stands.map, run_told rules before c.requires.sound c.args.script.now.stats c.new-3.result c.loop-index.standing c.loop-index.arena c.args.steps.now c.loop-index.steps through);
      only = run_only rules before c.requires.sound c.args.script.now.stats c.new-3.result c.loop-index.standing c.loop-index.arena c.args.steps.now c.loop-index.steps through;
      most = run_most rules before c.requires.sound c.args.script.now.stats c.new-3.result c.loop-index.standing c.loop-index.arena c.args.steps.now c.loop-index.steps through;
      least = run_least rules before c.requires.sound c.args.script.now.stats c.new-3.result c.loop-index.standing c.loop-index.arena c.args.steps.now c.loop-index.steps through;
      bounds = run_bounds rules before c.requires.sound c.args.script.now.stats c.new-3.result c.loop-index.standing c.loop-index.arena c.args.steps.now c.loop-index.steps through;
      darts = (c.count-2.ensures.count, subst (HasCount (IsDart (as_map c.loop-index.arena))) (sym c.count-2.ensures.count) (darts_counted c.loop-index.arena c.count-2.ensures.lawful));
      next = c.next.ensures.next;
      printable = run_can_be_printed c.args.arena.now.schema rules c.args.script.now.stats (start_of before) through.state no_entries c.new-3.result through.told (stands_first before c.requires.sound) through.suited through.tells
          (run_told rules before c.requires.sound c.args.script.now.stats c.new-3.result c.loop-index.standing c.loop-index.arena c.args.steps.now c.loop-index.steps through);
      cut = tt;
      sound = c.loop-index.invariant.sound;
      schema = c.loop-index.invariant.schema;
      spare_stays = c.loop-index.invariant.spare;
      reserved_stays = c.loop-index.invariant.reserved;
    }

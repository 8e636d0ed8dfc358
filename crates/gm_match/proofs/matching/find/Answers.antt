use Rattle.std.proofs.Common.{◌≡◌, ℕ, ◌<◌, ◌≤◌, Some, length, refl, sym, ap, subst, ◌∙◌, arith}
use Rattle.std.proofs.Math.Nat.{le_trans}
use Rattle.std.proofs.lemmas.Option.{slice_get-get_or}
use Rattle.std.proofs.lemmas.Result.{err_from_is_err_and}
use Rattle.gm_model.specs.declared.rule.RuleTable.{RuleTable}
use Rattle.gm_model.specs.Rules.{rule_of, first_hook}
use Rattle.gm_plan.proofs.Hooks.{few_hooks}
use Rattle.gm_match.specs.inner.Taken.{TakesEachOnce}
use Rattle.gm_match.proofs.Answering.{sound_of, is_nil, not_nil, no_items, none_within, as_many, within_taken, first_same, several_letters, slots_below, first_below, dart_cause, dart_missed, missed_cost, created, begun_with, made_with, named_cost, named_tested_cost, step_cause, step_missed, twice_cause, twice_missed, hook_once, answer}
use Rattle.gm_match.proofs.Costs.{no_cost}
use Rattle.gm_match.proofs.Placing.{hook_has_word, word_is}
use Rattle.gm_match.proofs.Stepping.{same_count}
use Rattle.gm_match.proofs.matching.find.Goals as goal

-- what is past a bound isn't below it
not_past : (at bound most : ℕ) → bound ≤ at → bound ≡ most → at < most → ⊥
not_past at bound most past is below = omega arith

pub prove-unreachable-requires : goal.prove-unreachable-requires
prove-unreachable-requires g c = c.if-prove.true (c.requires.hooks ∙ sym (ap length (c.as_slice.ensures ∙ ap (λ (table : RuleTable). table.hooks) c.rule.ensures.rule)))

pub hook_darts-requires : goal.hook_darts-requires
hook_darts-requires g c = record {
  few = subst (λ n. n ≤ 32) (sym c.requires.hooks) (le_trans (few_hooks c.args.plan.now.schema (rule_of c.args.plan.now.table) c.rule.ensures.planned) c.rule.ensures.planned.within.nodes);
}

-- ---- a hook that names no dart

pub returns-in_err-hook_darts : goal.returns-in_err-hook_darts
returns-in_err-hook_darts g c =
    let rule = rule_of c.args.plan.now.table in
    let sound = sound_of c.args.arena.now c.args.plan.now.schema rule c.requires.map c.requires.schema c.rule.ensures.planned in
    let p = err_from_is_err_and c.from_residual.result c.from_residual.ensures.1 in
    record {
      answer = rw (p.1, p.2) (dart_cause c.args.arena.now rule sound c.args.hooks.now _ c.in_err-hook_darts.ensures.darts);
      none_missed = λ place matched. absurd (dart_missed c.args.arena.now rule sound c.args.hooks.now _ c.in_err-hook_darts.ensures.darts place matched);
      cost = missed_cost c.args.arena.now rule sound c.args.hooks.now _ c.in_err-hook_darts.ensures.darts c.requires.hooks _ _ c.in_err-hook_darts.ensures.cost;
      least = c.hook_darts.ensures.least;
      room = refl;
    }

-- ---- a creation rule

pub with_nodes-requires-clause-slots : goal.with_nodes-requires-clause-slots
with_nodes-requires-clause-slots g c = sym (ap length c.new.ensures.items)

pub with_nodes-requires-clause-turns : goal.with_nodes-requires-clause-turns
with_nodes-requires-clause-turns g c = sym (ap length c.new-then-is_empty.ensures.items)

pub with_nodes-requires-clause-turns_within : goal.with_nodes-requires-clause-turns_within
with_nodes-requires-clause-turns_within g c = none_within c.new-then-is_empty.result.items 1 c.new-then-is_empty.ensures.items

pub returns-then-is_empty : goal.returns-then-is_empty
returns-then-is_empty g c =
    let rule = rule_of c.args.plan.now.table in
    let sound = sound_of c.args.arena.now c.args.plan.now.schema rule c.requires.map c.requires.schema c.rule.ensures.planned in
    let none = is_nil c.args.hooks.now c.is_empty.result c.is_empty.ensures c.if-is_empty.true in
    let made = c.with_nodes.ensures in
    record {
      answer = created c.args.arena.now rule sound c.args.hooks.now (no_items rule.hooks (sym c.requires.hooks ∙ ap length none)) none c.with_nodes.result (made.slots ∙ c.new.ensures.items) made.positions made.nodes made.places;
      none_missed = λ place matched. tt;
      cost = λ params k has. no_cost _ _ _ _ c.in_ok-hook_darts.ensures.cost (ap length none);
      least = c.hook_darts.ensures.least;
      room = refl;
    }

-- ---- the candidate

pub prove-unreachable-requires-2 : goal.prove-unreachable-requires-2
prove-unreachable-requires-2 g c =
    not_past _ c.bound.result c.args.arena.now.bound c.if-prove-2.true c.bound.ensures.bound
    (first_below c.args.arena.now c.args.hooks.now c.hook_darts.new.slots c.bound.ensures.lawful c.in_ok-hook_darts.ensures.darts (not_nil c.args.hooks.now c.is_empty.result c.is_empty.ensures c.if-is_empty.false))

pub slice_bounds-darts-end : goal.slice_bounds-darts-end
slice_bounds-darts-end g c = within_taken (length c.args.hooks.now) c.hook_darts.new.slots (as_many c.args.arena.now c.args.hooks.now _ c.in_ok-hook_darts.ensures.darts)

pub slice_bounds-darts-end-2 : goal.slice_bounds-darts-end-2
slice_bounds-darts-end-2 g c = sym (as_many c.args.arena.now c.args.hooks.now _ c.in_ok-hook_darts.ensures.darts)

pub unwrap-requires : goal.unwrap-requires
unwrap-requires g c = hook_has_word c.args.plan.now.schema c.args.plan.now.table c.rule-3.result.now c.hook_word.result c.rule.ensures.planned (subst (λ n. 0 < n) c.requires.hooks (not_nil c.args.hooks.now c.is_empty.result c.is_empty.ensures c.if-is_empty.false)) c.rule-3.ensures.rule c.hook_word.ensures

pub candidate-requires : goal.candidate-requires
candidate-requires g c =
    let many = as_many c.args.arena.now c.args.hooks.now _ c.in_ok-hook_darts.ensures.darts in
    record {
      matchable = record { lawful = c.bound.ensures.lawful; generalised = c.requires.map; schema = c.requires.schema; planned = c.rule.ensures.planned };
      some = subst (λ n. 0 < n) (sym many) (not_nil c.args.hooks.now c.is_empty.result c.is_empty.ensures c.if-is_empty.false);
      count = many ∙ c.requires.hooks;
      live = c.in_ok-hook_darts.ensures.darts.live;
      fits = c.requires.fits;
    }

pub returns-in_err-found : goal.returns-in_err-found
returns-in_err-found g c =
    let begun = begun_with c.args.arena.now c.args.plan.now.schema (rule_of c.args.plan.now.table) c.args.hooks.now _ _ c.requires.map c.requires.schema c.rule.ensures.planned c.bound.ensures.lawful c.is_empty.ensures c.if-is_empty.false c.requires.hooks c.in_ok-hook_darts.ensures.darts in
    let p = err_from_is_err_and c.from_residual-in_err-found.result c.from_residual-in_err-found.ensures.1 in
    record {
      answer = rw (p.1, p.2) (λ params. tt);
      none_missed = λ place matched. rw (p.1, p.2);
      cost = named_cost _ _ _ begun _ c.in_ok-hook_darts.ensures.darts.names _ _ _ c.in_ok-hook_darts.ensures.cost c.candidate.ensures.cost;
      least = le_trans c.hook_darts.ensures.least c.candidate.ensures.least;
      room = c.candidate.ensures.room;
    }

-- ---- a step that isn't met

pub meet_steps-requires : goal.meet_steps-requires
meet_steps-requires g c = record {
  matchable = record { lawful = c.bound.ensures.lawful; generalised = c.requires.map; schema = c.requires.schema; planned = c.rule.ensures.planned };
  candidate = (_, c.in_ok-found.ensures.candidate);
}

pub returns-in_err-meet_steps : goal.returns-in_err-meet_steps
returns-in_err-meet_steps g c =
    let made = made_with c.args.arena.now c.args.plan.now.schema (rule_of c.args.plan.now.table) c.args.hooks.now _ _ c.in_ok-found.found c.requires.map c.requires.schema c.rule.ensures.planned c.bound.ensures.lawful c.is_empty.ensures c.if-is_empty.false c.requires.hooks c.in_ok-hook_darts.ensures.darts c.in_ok-found.ensures.candidate in
    let p = err_from_is_err_and c.from_residual-in_err-meet_steps.result c.from_residual-in_err-meet_steps.ensures.1 in
    record {
      answer = rw (p.1, p.2) (step_cause _ _ _ made.begun _ made.at _ c.in_err-meet_steps.ensures.steps);
      none_missed = λ place matched. absurd (step_missed _ _ _ made.begun _ made.at _ c.in_err-meet_steps.ensures.steps place matched);
      cost = named_tested_cost _ _ _ made.begun _ made.at _ c.in_ok-hook_darts.ensures.darts.names _ _ _ _ c.in_ok-hook_darts.ensures.cost c.candidate.ensures.cost c.meet_steps.ensures.cost;
      least = le_trans c.hook_darts.ensures.least (le_trans c.candidate.ensures.least c.meet_steps.ensures.least);
      room = c.candidate.ensures.room;
    }

-- ---- a dart that is taken twice

pub take_once-requires : goal.take_once-requires
take_once-requires g c =
    let rule = rule_of c.args.plan.now.table in
    let same = first_same c.args.plan.now.table _ _ c.as_slice-2.ensures c.rule-2.ensures.rule in
    record {
      nodes = same_count rule _ _ c.left_nodes.ensures.left c.in_ok-found.ensures.candidate.laid.nodes;
      room = slots_below c.args.arena.now c.in_ok-found.found.slots _ c.bound.ensures.lawful c.in_ok-found.ensures.candidate.laid.slots (subst (λ n. c.args.arena.now.bound ≤ n) (sym c.candidate.ensures.room) c.requires.fits);
      walked = λ is.
          c.in_ok-found.ensures.walked (several_letters _ _ (c.len-is_walked.ensures.value ∙ ap length (word_is c.args.plan.now.table c.rule-3.result.now c.hook_word.result c.unwrap.result c.rule-3.ensures.rule c.hook_word.ensures c.unwrap.ensures)) is) _ (subst (λ h. first_hook rule ≡ Some h) (sym same) (slice_get-get_or rule.hooks 0 0 (subst (λ n. 0 < n) c.requires.hooks (not_nil c.args.hooks.now c.is_empty.result c.is_empty.ensures c.if-is_empty.false))));
      distinct =
          let made = made_with c.args.arena.now c.args.plan.now.schema rule c.args.hooks.now _ _ c.in_ok-found.found c.requires.map c.requires.schema c.rule.ensures.planned c.bound.ensures.lawful c.is_empty.ensures c.if-is_empty.false c.requires.hooks c.in_ok-hook_darts.ensures.darts c.in_ok-found.ensures.candidate in
          subst (TakesEachOnce c.in_ok-found.found) (sym same) (hook_once _ _ _ made.begun _ made.at);
    }

pub returns-in_err-take_once : goal.returns-in_err-take_once
returns-in_err-take_once g c =
    let made = made_with c.args.arena.now c.args.plan.now.schema (rule_of c.args.plan.now.table) c.args.hooks.now _ _ c.in_ok-found.found c.requires.map c.requires.schema c.rule.ensures.planned c.bound.ensures.lawful c.is_empty.ensures c.if-is_empty.false c.requires.hooks c.in_ok-hook_darts.ensures.darts c.in_ok-found.ensures.candidate in
    let p = err_from_is_err_and c.from_residual-in_err-take_once.result c.from_residual-in_err-take_once.ensures.1 in
    record {
      answer = rw (p.1, p.2) (twice_cause _ _ _ made.begun _ made.at c.in_ok-meet_steps.ensures.steps _ c.in_err-take_once.ensures.once);
      none_missed = λ place matched. absurd (twice_missed _ _ _ made.begun _ made.at _ c.in_err-take_once.ensures.once place matched);
      cost = named_tested_cost _ _ _ made.begun _ made.at _ c.in_ok-hook_darts.ensures.darts.names _ _ _ _ c.in_ok-hook_darts.ensures.cost c.candidate.ensures.cost c.meet_steps.ensures.cost;
      least = le_trans c.hook_darts.ensures.least (le_trans c.candidate.ensures.least c.meet_steps.ensures.least);
      room = c.take_once.ensures.room ∙ c.candidate.ensures.room;
    }

-- ---- a match

pub returns : goal.returns
returns g c =
    let made = made_with c.args.arena.now c.args.plan.now.schema (rule_of c.args.plan.now.table) c.args.hooks.now _ _ c.in_ok-found.found c.requires.map c.requires.schema c.rule.ensures.planned c.bound.ensures.lawful c.is_empty.ensures c.if-is_empty.false c.requires.hooks c.in_ok-hook_darts.ensures.darts c.in_ok-found.ensures.candidate in
    record {
      answer = answer _ _ _ made.begun _ made.at c.in_ok-meet_steps.ensures.steps c.in_ok-take_once.ensures.once;
      none_missed = λ place matched. tt;
      cost = named_tested_cost _ _ _ made.begun _ made.at _ c.in_ok-hook_darts.ensures.darts.names _ _ _ _ c.in_ok-hook_darts.ensures.cost c.candidate.ensures.cost c.meet_steps.ensures.cost;
      least = le_trans c.hook_darts.ensures.least (le_trans c.candidate.ensures.least c.meet_steps.ensures.least);
      room = c.take_once.ensures.room ∙ c.candidate.ensures.room;
    }

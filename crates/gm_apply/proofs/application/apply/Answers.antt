use Rattle.std.proofs.Common.{◌≤◌, length, refl, sym, ap, subst, ◌∙◌}
use Rattle.std.proofs.lemmas.Result.{err_from_is_err_and}
use Rattle.gm_model.proofs.Exits.{unless_ok}
use Rattle.gm_model.specs.declared.rule.RuleTable.{RuleTable}
use Rattle.gm_model.specs.Rules.{rule_of}
use Rattle.gm_match.specs.inner.Outcome.{application_of}
use Rattle.gm_theory.proofs.ValuesKept.{applications_keep_sound_maps}
use Rattle.gm_apply.specs.inner.Outcomes.{AsBefore, ForResult}
use Rattle.gm_apply.proofs.Applying.{refused_match, sound_again, accepted_for, readable_at}
use Rattle.gm_apply.proofs.Budgets.{find_within, find_within_once}
use Rattle.gm_apply.proofs.Readying.{names_there, edits_there, new_is, old_is, done, within_ready, within_ready_once, within_done, within_done_once}
use Rattle.gm_apply.proofs.Sums.{stays, no_less, rises_twice, rises_thrice, rises_to_the_end, steps_of_darts, names_reserved, still_above, room_reserved, spare_then, spare_stays, spare_stays_then}
use Rattle.gm_apply.proofs.application.apply.Goals as goal

pub prove-unreachable-requires : goal.prove-unreachable-requires
prove-unreachable-requires g c = c.if-prove.true (ap length (c.as_slice.ensures ∙ ap (λ (table : RuleTable). table.hooks) c.rule.ensures.rule) ∙ sym c.requires.hooks)

pub returns-in_err-fit : goal.returns-in_err-fit
returns-in_err-fit g c =
    let p = err_from_is_err_and c.from_residual.result c.from_residual.ensures.1 in
    record {
      outcome = rw (p.1, p.2) (tt, refl);
      sound = c.requires.sound;
      schema = refl;
      most = λ most budget. no_less _ _;
      once = λ most budget. no_less _ _;
      least = unless_ok _ c.from_residual.result c.from_residual.ensures.0;
      rises = stays _;
      room = c.fit.ensures.kept;
      spare = unless_ok _ c.from_residual.result c.from_residual.ensures.0;
      reserved = unless_ok _ c.from_residual.result c.from_residual.ensures.0;
      no_more = rw p.1 (AsBefore refl);
      untouched = rw p.1 (λ apart. refl);
      spare_stays = stays _;
      reserved_stays = stays _;
    }

pub find-requires : goal.find-requires
find-requires g c = record {
  map = c.requires.sound.generalised;
  schema = c.requires.schema;
  hooks = c.requires.hooks;
  fits = c.in_ok-fit.ensures.fits;
}

pub returns-in_err-found : goal.returns-in_err-found
returns-in_err-found g c =
    let p = err_from_is_err_and c.from_residual-in_err-found.result c.from_residual-in_err-found.ensures.1 in
    record {
      outcome = rw (p.1, p.2) (refused_match (application_of c.args.arena.now (rule_of c.args.plan.now.table) c.args.hooks.now c.args.params.now) c.in_err-found.field-0.0 (c.in_err-found.ensures.answer c.args.params.now), refl);
      sound = c.requires.sound;
      schema = refl;
      most = λ most budget. find_within c.args.arena.now (rule_of c.args.plan.now.table) c.args.hooks.now c.args.params.now most c.args.steps.now c.find.new.steps budget (c.in_err-found.ensures.cost c.args.params.now);
      once = λ most budget. find_within_once c.args.arena.now (rule_of c.args.plan.now.table) c.args.hooks.now c.args.params.now most c.args.steps.now c.find.new.steps (accepted_for c.args.arena.now c.args.plan.now.schema (rule_of c.args.plan.now.table) c.requires.schema c.rule.ensures.planned) budget (c.in_err-found.ensures.cost c.args.params.now);
      least = unless_ok _ c.from_residual-in_err-found.result c.from_residual-in_err-found.ensures.0;
      rises = c.in_err-found.ensures.least;
      room = still_above _ _ _ c.fit.ensures.kept c.find.ensures.room;
      spare = unless_ok _ c.from_residual-in_err-found.result c.from_residual-in_err-found.ensures.0;
      reserved = unless_ok _ c.from_residual-in_err-found.result c.from_residual-in_err-found.ensures.0;
      no_more = rw p.1 (AsBefore refl);
      untouched = rw p.1 (λ apart. refl);
      spare_stays = stays _;
      reserved_stays = stays _;
    }

pub ready-requires : goal.ready-requires
ready-requires g c = record {
  readable = (c.args.hooks.now, readable_at _ _ c.requires.sound c.requires.schema c.rule.ensures.planned c.requires.params c.in_ok-found.ensures.answer);
  fits = subst (λ n. c.args.arena.now.bound ≤ n) (sym c.find.ensures.room) c.in_ok-fit.ensures.fits;
}

pub returns-in_err-applied : goal.returns-in_err-applied
returns-in_err-applied g c =
    let readable = readable_at _ _ c.requires.sound c.requires.schema c.rule.ensures.planned c.requires.params c.in_ok-found.ensures.answer in
    let refused = c.in_err-applied.ensures.ready c.args.hooks.now readable in
    let p = err_from_is_err_and c.from_residual-in_err-applied.result c.from_residual-in_err-applied.ensures.1 in
    record {
      outcome = rw (p.1, p.2) (refused.refused, refl);
      sound = c.requires.sound;
      schema = refl;
      most = λ most budget. refused.within most c.args.steps.now budget (c.in_ok-found.ensures.cost c.args.params.now);
      once = λ most budget. refused.once most c.args.steps.now budget (c.in_ok-found.ensures.cost c.args.params.now);
      least = unless_ok _ c.from_residual-in_err-applied.result c.from_residual-in_err-applied.ensures.0;
      rises = rises_twice _ _ _ c.in_ok-found.ensures.least refused.rises;
      room = still_above _ _ _ c.fit.ensures.kept (c.ready.ensures.room ∙ c.find.ensures.room);
      spare = unless_ok _ c.from_residual-in_err-applied.result c.from_residual-in_err-applied.ensures.0;
      reserved = unless_ok _ c.from_residual-in_err-applied.result c.from_residual-in_err-applied.ensures.0;
      no_more = rw p.1 (AsBefore refl);
      untouched = rw p.1 (λ apart. refl);
      spare_stays = stays _;
      reserved_stays = stays _;
    }

pub reserve-requires : goal.reserve-requires
reserve-requires g c =
    let readable = readable_at _ _ c.requires.sound c.requires.schema c.rule.ensures.planned c.requires.params c.in_ok-found.ensures.answer in
    let ready = c.in_ok-applied.ensures.ready c.args.hooks.now readable in
    record {
      darts = ready.few;
      names = names_there _ _ readable _ _ _ _ _ ready _ refl;
    }

pub returns-in_err-reserve : goal.returns-in_err-reserve
returns-in_err-reserve g c =
    let readable = readable_at _ _ c.requires.sound c.requires.schema c.rule.ensures.planned c.requires.params c.in_ok-found.ensures.answer in
    let ready = c.in_ok-applied.ensures.ready c.args.hooks.now readable in
    let p = err_from_is_err_and c.from_residual-in_err-reserve.result c.from_residual-in_err-reserve.ensures.1 in
    record {
      outcome = rw (p.1, p.2) (tt, c.reserve.ensures.rows);
      sound = sound_again c.args.arena.now c.reserve.new.arena c.reserve.ensures.rows c.requires.sound;
      schema = ap (λ m. m.schema) c.reserve.ensures.rows;
      most = λ most budget. within_ready _ _ readable _ _ _ _ _ ready c.reserve.ensures.lawful.schema most c.args.steps.now budget (c.in_ok-found.ensures.cost c.args.params.now);
      once = λ most budget. within_ready_once _ _ readable _ _ _ _ _ ready c.reserve.ensures.lawful.schema most c.args.steps.now budget (c.in_ok-found.ensures.cost c.args.params.now);
      least = unless_ok _ c.from_residual-in_err-reserve.result c.from_residual-in_err-reserve.ensures.0;
      rises = rises_thrice _ _ _ _ c.in_ok-found.ensures.least ready.rises ready.edited.rises;
      room = still_above _ _ _ c.fit.ensures.kept (c.ready.ensures.room ∙ c.find.ensures.room);
      spare = unless_ok _ c.from_residual-in_err-reserve.result c.from_residual-in_err-reserve.ensures.0;
      reserved = unless_ok _ c.from_residual-in_err-reserve.result c.from_residual-in_err-reserve.ensures.0;
      no_more = rw p.1 (ForResult _ _ _ ready.room c.reserve.ensures.spare_most c.reserve.ensures.reserved_most);
      untouched = rw p.1 (λ apart. absurd (apart p.2));
      spare_stays = spare_stays c.args.arena.now.count c.args.arena.now.spare _ _ (ap (λ m. m.count) c.reserve.ensures.rows) c.reserve.ensures.spare_stays;
      reserved_stays = c.reserve.ensures.reserved_stays;
    }

pub commit-left-requires : goal.commit-left-requires
commit-left-requires g c =
    let readable = readable_at _ _ c.requires.sound c.requires.schema c.rule.ensures.planned c.requires.params c.in_ok-found.ensures.answer in
    let ready = c.in_ok-applied.ensures.ready c.args.hooks.now readable in
    record {
      edits = edits_there _ _ readable _ _ _ _ _ ready c.reserve.new.arena c.in_ok-reserve.ensures.rows;
      names = names_reserved c.args.arena.now.next c.args.arena.now.reserved c.in_ok-applied.applied.added _ _ _ (new_is _ _ readable _ _ _ _ _ ready) (ap (λ m. m.next) c.in_ok-reserve.ensures.rows) c.in_ok-reserve.ensures.reserved;
      room = room_reserved c.args.arena.now.spare c.in_ok-applied.applied.added c.in_ok-applied.applied.removed _ _ _ (new_is _ _ readable _ _ _ _ _ ready) (old_is _ _ readable _ _ _ _ _ ready) c.in_ok-reserve.ensures.spare;
    }

pub returns : goal.returns
returns g c =
    let readable = readable_at _ _ c.requires.sound c.requires.schema c.rule.ensures.planned c.requires.params c.in_ok-found.ensures.answer in
    let ready = c.in_ok-applied.ensures.ready c.args.hooks.now readable in
    record {
      outcome = done _ _ readable _ _ _ _ _ ready c.reserve.new.arena c.commit-left.new.arena c.in_ok-reserve.ensures.rows c.commit-left.ensures.unfolded;
      sound = applications_keep_sound_maps (application_of c.args.arena.now (rule_of c.args.plan.now.table) c.args.hooks.now c.args.params.now) _ _ _ c.reserve.ensures.lawful.schema c.requires.sound (accepted_for c.args.arena.now c.args.plan.now.schema (rule_of c.args.plan.now.table) c.requires.schema c.rule.ensures.planned) c.requires.params
          (done _ _ readable _ _ _ _ _ ready c.reserve.new.arena c.commit-left.new.arena c.in_ok-reserve.ensures.rows c.commit-left.ensures.unfolded);
      schema = c.commit-left.ensures.schema ∙ ap (λ m. m.schema) c.in_ok-reserve.ensures.rows;
      most = λ most budget. within_done _ _ readable _ _ _ _ _ ready c.reserve.ensures.lawful.schema most c.args.steps.now budget (c.in_ok-found.ensures.cost c.args.params.now) c.commit-left.new.steps c.commit-left.ensures.most;
      once = λ most budget. within_done_once _ _ readable _ _ _ _ _ ready c.reserve.ensures.lawful.schema most c.args.steps.now budget (c.in_ok-found.ensures.cost c.args.params.now) c.commit-left.new.steps c.commit-left.ensures.most;
      least = steps_of_darts _ _ _ _ _ _ _ _ _ c.in_ok-found.ensures.least ready.rises ready.edited.rises c.commit-left.ensures.least (new_is _ _ readable _ _ _ _ _ ready) (old_is _ _ readable _ _ _ _ _ ready);
      rises = rises_to_the_end _ _ _ _ _ _ _ c.in_ok-found.ensures.least ready.rises ready.edited.rises c.commit-left.ensures.least;
      room = still_above _ _ _ c.fit.ensures.kept (ap (λ room. room.bound) (c.keep_rows.ensures ∙ c.keep_room.ensures) ∙ c.ready.ensures.room ∙ c.find.ensures.room);
      spare = spare_then c.args.arena.now.spare c.in_ok-applied.applied.added c.in_ok-applied.applied.removed _ _ _ _ (new_is _ _ readable _ _ _ _ _ ready) (old_is _ _ readable _ _ _ _ _ ready) c.in_ok-reserve.ensures.spare c.commit-left.ensures.spare;
      reserved = c.commit-left.ensures.reserved ∙ c.in_ok-reserve.ensures.reserved;
      no_more = tt;
      untouched = tt;
      spare_stays = spare_stays_then c.args.arena.now.count c.args.arena.now.spare _ _ _ _ _ _ (ap (λ m. m.count) c.in_ok-reserve.ensures.rows) c.in_ok-reserve.ensures.spare_stays c.commit-left.ensures.count c.commit-left.ensures.spare;
      reserved_stays = still_above _ _ _ c.in_ok-reserve.ensures.reserved_stays c.commit-left.ensures.reserved;
    }

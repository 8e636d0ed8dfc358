use Rattle.std.proofs.Common.{◌≤◌, length, refl, sym, ap, subst, ◌∙◌}
use Rattle.std.proofs.lemmas.Result.{err_from_is_err_and}
use Rattle.gm_model.proofs.Exits.{unless_ok}
use Rattle.gm_model.specs.declared.rule.RuleTable.{RuleTable}
use Rattle.gm_model.specs.Rules.{rule_of}
use Rattle.gm_match.specs.inner.Outcome.{application_of}
use Rattle.gm_apply.specs.inner.Outcomes.{AsBefore, ForResult}
use Rattle.gm_theory.proofs.ValuesKept.{applications_keep_sound_maps}
use Rattle.gm_apply.proofs.Applying.{refused_match, accepted_for, readable_at}
use Rattle.gm_apply.proofs.Budgets.{find_within}
use Rattle.gm_apply.proofs.Preparing.{prepared, few_rows, few_touched, rows_within}
use Rattle.gm_apply.proofs.Readying.{names_there, edits_there, new_is, old_is, within_ready, within_kept}
use Rattle.gm_apply.proofs.Sums.{stays, no_less, rises_twice, rises_thrice, names_reserved, room_reserved, still_above}
use Rattle.gm_apply.proofs.preparation.prepare.Goals as goal

pub prove-unreachable-requires : goal.prove-unreachable-requires
prove-unreachable-requires g c = c.if-prove.true (ap length (c.as_slice.ensures ∙ ap (λ (table : RuleTable). table.hooks) c.rule.ensures.rule) ∙ sym c.requires.hooks)

pub returns-in_err-fit : goal.returns-in_err-fit
returns-in_err-fit g c =
    let p = err_from_is_err_and c.from_residual.result c.from_residual.ensures.1 in
    record {
      outcome = rw (p.1, p.2) tt;
      rows = refl;
      untouched = rw p.1 (λ apart. refl);
      most = λ most budget. no_less _ _;
      left = λ most budget. unless_ok _ c.from_residual.result c.from_residual.ensures.0;
      few = λ most budget. unless_ok _ c.from_residual.result c.from_residual.ensures.0;
      touched = λ k reached read positions work. unless_ok _ c.from_residual.result c.from_residual.ensures.0;
      rises = stays _;
      room = c.fit.ensures.kept;
      spare = unless_ok _ c.from_residual.result c.from_residual.ensures.0;
      reserved = unless_ok _ c.from_residual.result c.from_residual.ensures.0;
      no_more = AsBefore refl;
      spare_stays = stays _;
      reserved_stays = stays _;
    }

pub find-requires : goal.find-requires
find-requires g c = record {
  map = c.requires.sound.generalised;
  schema = c.requires.schema;
  hooks = c.requires.hooks;
  fits = c.in_ok-fit.ensures.fits;
}

pub returns-in_err-found : goal.returns-in_err-found
returns-in_err-found g c =
    let p = err_from_is_err_and c.from_residual-in_err-found.result c.from_residual-in_err-found.ensures.1 in
    record {
      outcome = rw (p.1, p.2) (refused_match (application_of c.args.arena.now (rule_of c.args.plan.now.table) c.args.hooks.now c.args.params.now) c.in_err-found.field-0.0 (c.in_err-found.ensures.answer c.args.params.now));
      rows = refl;
      untouched = rw p.1 (λ apart. refl);
      most = λ most budget. find_within c.args.arena.now (rule_of c.args.plan.now.table) c.args.hooks.now c.args.params.now most c.args.steps.now c.find.new.steps budget (c.in_err-found.ensures.cost c.args.params.now);
      left = λ most budget. unless_ok _ c.from_residual-in_err-found.result c.from_residual-in_err-found.ensures.0;
      few = λ most budget. unless_ok _ c.from_residual-in_err-found.result c.from_residual-in_err-found.ensures.0;
      touched = λ k reached read positions work. unless_ok _ c.from_residual-in_err-found.result c.from_residual-in_err-found.ensures.0;
      rises = c.in_err-found.ensures.least;
      room = still_above _ _ _ c.fit.ensures.kept c.find.ensures.room;
      spare = unless_ok _ c.from_residual-in_err-found.result c.from_residual-in_err-found.ensures.0;
      reserved = unless_ok _ c.from_residual-in_err-found.result c.from_residual-in_err-found.ensures.0;
      no_more = AsBefore refl;
      spare_stays = stays _;
      reserved_stays = stays _;
    }

pub ready-requires : goal.ready-requires
ready-requires g c = record {
  readable = (c.args.hooks.now, readable_at _ _ c.requires.sound c.requires.schema c.rule.ensures.planned c.requires.params c.in_ok-found.ensures.answer);
  fits = subst (λ n. c.args.arena.now.bound ≤ n) (sym c.find.ensures.room) c.in_ok-fit.ensures.fits;
}

pub returns-in_err-applied : goal.returns-in_err-applied
returns-in_err-applied g c =
    let readable = readable_at _ _ c.requires.sound c.requires.schema c.rule.ensures.planned c.requires.params c.in_ok-found.ensures.answer in
    let refused = c.in_err-applied.ensures.ready c.args.hooks.now readable in
    let p = err_from_is_err_and c.from_residual-in_err-applied.result c.from_residual-in_err-applied.ensures.1 in
    record {
      outcome = rw (p.1, p.2) refused.refused;
      rows = refl;
      untouched = rw p.1 (λ apart. refl);
      most = λ most budget. refused.within most c.args.steps.now budget (c.in_ok-found.ensures.cost c.args.params.now);
      left = λ most budget. unless_ok _ c.from_residual-in_err-applied.result c.from_residual-in_err-applied.ensures.0;
      few = λ most budget. unless_ok _ c.from_residual-in_err-applied.result c.from_residual-in_err-applied.ensures.0;
      touched = λ k reached read positions work. unless_ok _ c.from_residual-in_err-applied.result c.from_residual-in_err-applied.ensures.0;
      rises = rises_twice _ _ _ c.in_ok-found.ensures.least refused.rises;
      room = still_above _ _ _ c.fit.ensures.kept (c.ready.ensures.room ∙ c.find.ensures.room);
      spare = unless_ok _ c.from_residual-in_err-applied.result c.from_residual-in_err-applied.ensures.0;
      reserved = unless_ok _ c.from_residual-in_err-applied.result c.from_residual-in_err-applied.ensures.0;
      no_more = AsBefore refl;
      spare_stays = stays _;
      reserved_stays = stays _;
    }

pub reserve-requires : goal.reserve-requires
reserve-requires g c =
    let readable = readable_at _ _ c.requires.sound c.requires.schema c.rule.ensures.planned c.requires.params c.in_ok-found.ensures.answer in
    let ready = c.in_ok-applied.ensures.ready c.args.hooks.now readable in
    record {
      darts = ready.few;
      names = names_there _ _ readable _ _ _ _ _ ready _ refl;
    }

pub returns-in_err-reserve : goal.returns-in_err-reserve
returns-in_err-reserve g c =
    let readable = readable_at _ _ c.requires.sound c.requires.schema c.rule.ensures.planned c.requires.params c.in_ok-found.ensures.answer in
    let ready = c.in_ok-applied.ensures.ready c.args.hooks.now readable in
    let p = err_from_is_err_and c.from_residual-in_err-reserve.result c.from_residual-in_err-reserve.ensures.1 in
    record {
      outcome = rw (p.1, p.2) tt;
      rows = c.reserve.ensures.rows;
      untouched = rw p.1 (λ apart. absurd (apart p.2));
      most = λ most budget. within_ready _ _ readable _ _ _ _ _ ready c.reserve.ensures.lawful.schema most c.args.steps.now budget (c.in_ok-found.ensures.cost c.args.params.now);
      left = λ most budget. unless_ok _ c.from_residual-in_err-reserve.result c.from_residual-in_err-reserve.ensures.0;
      few = λ most budget. unless_ok _ c.from_residual-in_err-reserve.result c.from_residual-in_err-reserve.ensures.0;
      touched = λ k reached read positions work. unless_ok _ c.from_residual-in_err-reserve.result c.from_residual-in_err-reserve.ensures.0;
      rises = rises_thrice _ _ _ _ c.in_ok-found.ensures.least ready.rises ready.edited.rises;
      room = still_above _ _ _ c.fit.ensures.kept (c.ready.ensures.room ∙ c.find.ensures.room);
      spare = unless_ok _ c.from_residual-in_err-reserve.result c.from_residual-in_err-reserve.ensures.0;
      reserved = unless_ok _ c.from_residual-in_err-reserve.result c.from_residual-in_err-reserve.ensures.0;
      no_more = ForResult _ _ _ ready.room c.reserve.ensures.spare_most c.reserve.ensures.reserved_most;
      spare_stays = c.reserve.ensures.spare_stays;
      reserved_stays = c.reserve.ensures.reserved_stays;
    }

pub into_edits-requires : goal.into_edits-requires
into_edits-requires g c =
    let readable = readable_at _ _ c.requires.sound c.requires.schema c.rule.ensures.planned c.requires.params c.in_ok-found.ensures.answer in
    let ready = c.in_ok-applied.ensures.ready c.args.hooks.now readable in
    record {
      here = edits_there _ _ readable _ _ _ _ _ ready c.reserve.new.arena c.in_ok-reserve.ensures.rows;
      added = sym (new_is _ _ readable _ _ _ _ _ ready);
      removed = sym (old_is _ _ readable _ _ _ _ _ ready);
    }

pub returns-in_err-edits : goal.returns-in_err-edits
returns-in_err-edits g c =
    let readable = readable_at _ _ c.requires.sound c.requires.schema c.rule.ensures.planned c.requires.params c.in_ok-found.ensures.answer in
    let ready = c.in_ok-applied.ensures.ready c.args.hooks.now readable in
    let p = err_from_is_err_and c.from_residual-in_err-edits.result c.from_residual-in_err-edits.ensures.1 in
    record {
      outcome = rw (p.1, p.2) tt;
      rows = c.reserve.ensures.rows;
      untouched = rw p.1 (λ apart. absurd (apart p.2));
      most = λ most budget. within_ready _ _ readable _ _ _ _ _ ready c.reserve.ensures.lawful.schema most c.args.steps.now budget (c.in_ok-found.ensures.cost c.args.params.now);
      left = λ most budget. unless_ok _ c.from_residual-in_err-edits.result c.from_residual-in_err-edits.ensures.0;
      few = λ most budget. unless_ok _ c.from_residual-in_err-edits.result c.from_residual-in_err-edits.ensures.0;
      touched = λ k reached read positions work. unless_ok _ c.from_residual-in_err-edits.result c.from_residual-in_err-edits.ensures.0;
      rises = rises_thrice _ _ _ _ c.in_ok-found.ensures.least ready.rises ready.edited.rises;
      room = rises_twice _ _ _ c.fit.ensures.kept (subst (λ n. n ≤ c.into_edits.new.scratch.bound) (c.ready.ensures.room ∙ c.find.ensures.room) c.into_edits.ensures.room);
      spare = unless_ok _ c.from_residual-in_err-edits.result c.from_residual-in_err-edits.ensures.0;
      reserved = unless_ok _ c.from_residual-in_err-edits.result c.from_residual-in_err-edits.ensures.0;
      no_more = ForResult _ _ _ ready.room c.reserve.ensures.spare_most c.reserve.ensures.reserved_most;
      spare_stays = c.reserve.ensures.spare_stays;
      reserved_stays = c.reserve.ensures.reserved_stays;
    }

pub returns : goal.returns
returns g c =
    let readable = readable_at _ _ c.requires.sound c.requires.schema c.rule.ensures.planned c.requires.params c.in_ok-found.ensures.answer in
    let ready = c.in_ok-applied.ensures.ready c.args.hooks.now readable in
    record {
      outcome = prepared _ _ readable _ _ _ _ _ ready c.reserve.new.arena c.in_ok-edits.edits c.in_ok-reserve.ensures.rows c.in_ok-edits.ensures.edits (names_reserved c.args.arena.now.next c.args.arena.now.reserved c.in_ok-applied.applied.added _ _ _ (new_is _ _ readable _ _ _ _ _ ready) (ap (λ m. m.next) c.in_ok-reserve.ensures.rows) c.in_ok-reserve.ensures.reserved) (room_reserved c.args.arena.now.spare c.in_ok-applied.applied.added c.in_ok-applied.applied.removed _ _ _ (new_is _ _ readable _ _ _ _ _ ready) (old_is _ _ readable _ _ _ _ _ ready) c.in_ok-reserve.ensures.spare) c.in_ok-edits.ensures.touched
          (λ after is_done. applications_keep_sound_maps (application_of c.args.arena.now (rule_of c.args.plan.now.table) c.args.hooks.now c.args.params.now) _ _ _ c.reserve.ensures.lawful.schema c.requires.sound (accepted_for c.args.arena.now c.args.plan.now.schema (rule_of c.args.plan.now.table) c.requires.schema c.rule.ensures.planned) c.requires.params is_done);
      rows = c.reserve.ensures.rows;
      untouched = tt;
      most = λ most budget. within_ready _ _ readable _ _ _ _ _ ready c.reserve.ensures.lawful.schema most c.args.steps.now budget (c.in_ok-found.ensures.cost c.args.params.now);
      left = λ most budget. within_kept _ _ readable _ _ _ _ _ ready c.reserve.ensures.lawful.schema most c.args.steps.now budget (c.in_ok-found.ensures.cost c.args.params.now) _ (rows_within _ _ readable _ _ _ _ _ ready c.in_ok-edits.edits c.in_ok-edits.ensures.edits c.in_ok-edits.ensures.few);
      few = λ most budget. few_rows _ _ readable _ _ _ _ _ ready c.reserve.ensures.lawful.schema most budget c.in_ok-edits.edits c.in_ok-edits.ensures.edits c.in_ok-edits.ensures.few;
      touched = λ k reached read positions work. few_touched _ _ readable _ _ _ _ _ ready c.reserve.ensures.lawful.schema k reached read _ c.in_ok-edits.ensures.few positions work;
      rises = rises_thrice _ _ _ _ c.in_ok-found.ensures.least ready.rises ready.edited.rises;
      room = still_above _ _ _ (rises_twice _ _ _ c.fit.ensures.kept (subst (λ n. n ≤ c.into_edits.new.scratch.bound) (c.ready.ensures.room ∙ c.find.ensures.room) c.into_edits.ensures.room)) (ap (λ room. room.bound) c.keep_rows.ensures);
      spare = rw (c.in_ok-edits.ensures.edits, new_is _ _ readable _ _ _ _ _ ready, old_is _ _ readable _ _ _ _ _ ready) c.in_ok-reserve.ensures.spare;
      reserved = rw (c.in_ok-edits.ensures.edits, new_is _ _ readable _ _ _ _ _ ready) c.in_ok-reserve.ensures.reserved;
      no_more = ForResult _ _ _ ready.room c.reserve.ensures.spare_most c.reserve.ensures.reserved_most;
      spare_stays = c.reserve.ensures.spare_stays;
      reserved_stays = c.reserve.ensures.reserved_stays;
    }

use Rattle.std.proofs.lemmas.Result.{err_from_is_err_and}
use Rattle.gm_apply.proofs.Readying.{refused_before, refused_behind}
use Rattle.gm_apply.proofs.application.ready.Goals as goal

pub meet_pre-requires-clause-readable : goal.meet_pre-requires-clause-readable
meet_pre-requires-clause-readable g c = c.requires.readable

pub returns-in_err-meet_pre-clause-ready : goal.returns-in_err-meet_pre-clause-ready
returns-in_err-meet_pre-clause-ready g c hooks readable =
    let p = err_from_is_err_and c.from_residual.result c.from_residual.ensures.1 in
    rw (p.1, p.2) (refused_before c.args.reading.now hooks readable _ _ _ (c.in_err-meet_pre.ensures.pre hooks readable) c.in_err-meet_pre.ensures.least (c.in_err-meet_pre.ensures.cost hooks))

pub room-requires-clause-schema : goal.room-requires-clause-schema
room-requires-clause-schema g c = c.requires.readable.1.schema

pub room-requires-clause-found : goal.room-requires-clause-found
room-requires-clause-found g c = (c.requires.readable.0, c.requires.readable.1.answer)

pub returns-in_err-applied-clause-ready : goal.returns-in_err-applied-clause-ready
returns-in_err-applied-clause-ready g c hooks readable =
    let p = err_from_is_err_and c.from_residual-in_err-applied.result c.from_residual-in_err-applied.ensures.1 in
    rw (p.1, p.2) (refused_before c.args.reading.now hooks readable _ _ _ (c.in_err-applied.ensures.room hooks c.args.reading.now.params.now readable.answer (c.in_ok-meet_pre.ensures.pre hooks readable)) c.in_ok-meet_pre.ensures.least (c.in_ok-meet_pre.ensures.cost hooks))

pub changes-requires-clause-readable : goal.changes-requires-clause-readable
changes-requires-clause-readable g c = c.requires.readable

pub returns-in_err-changes-clause-ready : goal.returns-in_err-changes-clause-ready
returns-in_err-changes-clause-ready g c hooks readable =
    let p = err_from_is_err_and c.from_residual-in_err-changes.result c.from_residual-in_err-changes.ensures.1 in
    let room = c.in_ok-applied.ensures.room hooks c.args.reading.now.params.now readable.answer (c.in_ok-meet_pre.ensures.pre hooks readable) in
    rw (p.1, p.2) (refused_behind c.args.reading.now hooks readable _ _ _ _ c.count.ensures.lawful.schema room.ready c.in_ok-meet_pre.ensures.least (c.in_ok-meet_pre.ensures.cost hooks) (c.in_err-changes.ensures.edits hooks readable))

pub returns-clause-ready : goal.returns-clause-ready
returns-clause-ready g c hooks readable = record {
  room = c.in_ok-applied.ensures.room hooks c.args.reading.now.params.now readable.answer (c.in_ok-meet_pre.ensures.pre hooks readable);
  few = c.in_ok-applied.ensures.fits;
  read = c.meet_pre.new.steps;
  rises = c.in_ok-meet_pre.ensures.least;
  pre = c.in_ok-meet_pre.ensures.cost hooks;
  edited = c.in_ok-changes.ensures.edits hooks readable;
}

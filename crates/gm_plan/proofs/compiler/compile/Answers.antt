use Rattle.std.proofs.lemmas.Result.{err_from_is_err_and}
use Rattle.gm_model.specs.Acceptance.{Incidence, Cycle, Embedding}
use Rattle.gm_plan.specs.inner.Refusals.{Faulty, NoMemory}
use Rattle.gm_plan.proofs.compiler.compile.Goals as goal

pub returns-in_err-check : goal.returns-in_err-check
returns-in_err-check c =
    let p = err_from_is_err_and c.from_residual.result c.from_residual.ensures.1 in
    rw (p.1, p.2) (Faulty _ (Incidence c.in_err-check.ensures))

pub returns-in_err-check-2 : goal.returns-in_err-check-2
returns-in_err-check-2 c =
    let p = err_from_is_err_and c.from_residual-in_err-check-2.result c.from_residual-in_err-check-2.ensures.1 in
    rw (p.1, p.2) (Faulty _ (Cycle c.in_ok-check.ensures c.in_err-check-2.ensures))

pub returns-in_err-check-3 : goal.returns-in_err-check-3
returns-in_err-check-3 c =
    let p = err_from_is_err_and c.from_residual-in_err-check-3.result c.from_residual-in_err-check-3.ensures.1 in
    rw (p.1, p.2) (Faulty _ (Embedding c.in_ok-check.ensures c.in_ok-check-2.ensures c.in_err-check-3.ensures))

pub returns : goal.returns
returns c = (
  c.in_ok-new.ensures,
  record {
    embeds = c.requires.embeds;
    accepted = record { in_range = c.requires.in_range; typed = c.requires.typed; incidence = c.in_ok-check.ensures; squares = c.in_ok-check-2.ensures; sources = c.in_ok-check-3.ensures };
    within = c.requires.within;
  },
)

pub check-requires-3-clause-incidence : goal.check-requires-3-clause-incidence
check-requires-3-clause-incidence c = c.in_ok-check.ensures

pub returns-in_err-new : goal.returns-in_err-new
returns-in_err-new c =
    let p = err_from_is_err_and c.from_residual-in_err-new.result c.from_residual-in_err-new.ensures.1 in
    rw (p.1, p.2)
    (NoMemory (record {
      embeds = c.requires.embeds;
      accepted = record { in_range = c.requires.in_range; typed = c.requires.typed; incidence = c.in_ok-check.ensures; squares = c.in_ok-check-2.ensures; sources = c.in_ok-check-3.ensures };
      within = c.requires.within;
    }))

pub check-requires-clause-in_range : goal.check-requires-clause-in_range
check-requires-clause-in_range c = c.requires.in_range

pub check-requires-clause-within : goal.check-requires-clause-within
check-requires-clause-within c = c.requires.within

pub check-requires-2-clause-in_range : goal.check-requires-2-clause-in_range
check-requires-2-clause-in_range c = c.requires.in_range

pub check-requires-2-clause-within : goal.check-requires-2-clause-within
check-requires-2-clause-within c = c.requires.within

pub check-requires-3-clause-embeds : goal.check-requires-3-clause-embeds
check-requires-3-clause-embeds c = c.requires.embeds

pub check-requires-3-clause-in_range : goal.check-requires-3-clause-in_range
check-requires-3-clause-in_range c = c.requires.in_range

pub check-requires-3-clause-within : goal.check-requires-3-clause-within
check-requires-3-clause-within c = c.requires.within

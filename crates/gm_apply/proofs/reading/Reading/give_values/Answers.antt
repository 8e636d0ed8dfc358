use Rattle.std.proofs.Common.{sym}
use Rattle.std.proofs.lemmas.Result.{err_from_is_err_and}
use Rattle.gm_apply.proofs.Asking.{asked_more}
use Rattle.gm_apply.proofs.Giving.{ended_asking}
use Rattle.gm_apply.proofs.reading.Reading.give_values.Goals as goal

pub returns-in_err-count-clause-given : goal.returns-in_err-count-clause-given
returns-in_err-count-clause-given g c hooks start readable read =
    let p = err_from_is_err_and c.from_residual.result c.from_residual.ensures.1 in
    rw (p.1, p.2) (ended_asking c.args.self.now hooks c.args.pending.now c.args.embed start c.args.steps.now c.deciding.new.steps read c.requires.embed c.deciding.ensures.cost c.deciding.ensures.least)

pub read_values-requires-clause-count : goal.read_values-requires-clause-count
read_values-requires-clause-count g c = sym c.in_ok-count.ensures.count

pub read_values-requires-clause-read : goal.read_values-requires-clause-read
read_values-requires-clause-read g c = (
  c.requires.read.0,
  c.requires.read.1,
  c.requires.read.2,
  asked_more c.args.self.now c.requires.read.0 c.args.pending.now c.deciding.new.self c.args.embed c.requires.read.1 c.args.steps.now c.deciding.new.steps c.requires.read.3 c.requires.embed c.in_ok-count.ensures.asked c.in_ok-count.ensures.deciders c.in_ok-count.ensures.cost c.in_ok-count.ensures.least,
)

pub returns-clause-given : goal.returns-clause-given
returns-clause-given g c hooks start readable read =
    c.read_values.ensures.given hooks start readable
    (asked_more c.args.self.now hooks c.args.pending.now c.deciding.new.self c.args.embed start c.args.steps.now c.deciding.new.steps read c.requires.embed c.in_ok-count.ensures.asked c.in_ok-count.ensures.deciders c.in_ok-count.ensures.cost c.in_ok-count.ensures.least)

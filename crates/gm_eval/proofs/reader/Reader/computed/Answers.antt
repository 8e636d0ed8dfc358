use Rattle.std.proofs.Common.{subst, arith}
use Rattle.gm_eval.specs.inner.Keeping.{collector_at}
use Rattle.gm_eval.specs.inner.Readers.{IsReady}
use Rattle.gm_eval.proofs.Keeping.{as_least}
use Rattle.std.proofs.lemmas.Int.{ints}
use Rattle.gm_model.specs.Trees.{Least, Greatest}
use Rattle.gm_eval.proofs.Parts.{int_as}
use Rattle.gm_eval.proofs.reader.Reader.computed.Goals as goal

pub returns-in-Count-clause-value : goal.returns-in-Count-clause-value
returns-in-Count-clause-value g c = rw c.in-Count.is c.count.ensures.value

pub returns-in-Sum-clause-value : goal.returns-in-Sum-clause-value
returns-in-Sum-clause-value g c = rw c.in-Sum.is c.sum_and_count.ensures.sum

pub count-requires-clause-ready : goal.count-requires-clause-ready
count-requires-clause-ready g c = subst (λ form. IsReady c.args.self.now (collector_at form c.args.mask c.args.term.now c.args.embed)) c.in-Count.is c.requires.ready

pub count-requires-clause-fits : goal.count-requires-clause-fits
count-requires-clause-fits g c = c.requires.fits

pub returns-in-Count-clause-cost : goal.returns-in-Count-clause-cost
returns-in-Count-clause-cost g c = rw c.in-Count.is c.count.ensures.cost

pub returns-in-Count-clause-room : goal.returns-in-Count-clause-room
returns-in-Count-clause-room g c = c.count.ensures.room

pub returns-in-Count-clause-walked : goal.returns-in-Count-clause-walked
returns-in-Count-clause-walked g c = c.count.ensures.walked

pub returns-in-Count-clause-least : goal.returns-in-Count-clause-least
returns-in-Count-clause-least g c = c.count.ensures.least

pub sum_and_count-requires-clause-ready : goal.sum_and_count-requires-clause-ready
sum_and_count-requires-clause-ready g c = subst (λ form. IsReady c.args.self.now (collector_at form c.args.mask c.args.term.now c.args.embed)) c.in-Sum.is c.requires.ready

pub sum_and_count-requires-clause-fits : goal.sum_and_count-requires-clause-fits
sum_and_count-requires-clause-fits g c = c.requires.fits

pub returns-in-Sum-clause-cost : goal.returns-in-Sum-clause-cost
returns-in-Sum-clause-cost g c = rw c.in-Sum.is c.sum_and_count.ensures.cost

pub returns-in-Sum-clause-room : goal.returns-in-Sum-clause-room
returns-in-Sum-clause-room g c = c.sum_and_count.ensures.room

pub returns-in-Sum-clause-walked : goal.returns-in-Sum-clause-walked
returns-in-Sum-clause-walked g c = c.sum_and_count.ensures.walked

pub returns-in-Sum-clause-least : goal.returns-in-Sum-clause-least
returns-in-Sum-clause-least g c = c.sum_and_count.ensures.least

pub extremes-least-requires-clause-ready : goal.extremes-least-requires-clause-ready
extremes-least-requires-clause-ready g c = subst (λ form. IsReady c.args.self.now (collector_at form c.args.mask c.args.term.now c.args.embed)) c.in-Least.is c.requires.ready

pub extremes-least-requires-clause-fits : goal.extremes-least-requires-clause-fits
extremes-least-requires-clause-fits g c = c.requires.fits

pub returns-in-Least-clause-cost : goal.returns-in-Least-clause-cost
returns-in-Least-clause-cost g c = rw c.in-Least.is c.extremes-least.ensures.cost

pub returns-in-Least-clause-room : goal.returns-in-Least-clause-room
returns-in-Least-clause-room g c = c.extremes-least.ensures.room

pub returns-in-Least-clause-walked : goal.returns-in-Least-clause-walked
returns-in-Least-clause-walked g c = c.extremes-least.ensures.walked

pub returns-in-Least-clause-least : goal.returns-in-Least-clause-least
returns-in-Least-clause-least g c = c.extremes-least.ensures.not_less

pub extremes-greatest-requires-clause-fits : goal.extremes-greatest-requires-clause-fits
extremes-greatest-requires-clause-fits g c = c.requires.fits

pub returns-in-Greatest-clause-room : goal.returns-in-Greatest-clause-room
returns-in-Greatest-clause-room g c = c.extremes-greatest.ensures.room

pub returns-in-Greatest-clause-walked : goal.returns-in-Greatest-clause-walked
returns-in-Greatest-clause-walked g c = c.extremes-greatest.ensures.walked

pub returns-in-Greatest-clause-least : goal.returns-in-Greatest-clause-least
returns-in-Greatest-clause-least g c = c.extremes-greatest.ensures.not_less

pub returns-in-Least-clause-value : goal.returns-in-Least-clause-value
returns-in-Least-clause-value g c = rw c.in-Least.is (int_as c.args.self.now (Least c.args.mask c.args.term.now c.args.embed) c.extremes-least.result.0 _ (omega (arith, ints)) c.extremes-least.ensures.least)

pub returns-in-Greatest-clause-value : goal.returns-in-Greatest-clause-value
returns-in-Greatest-clause-value g c = rw c.in-Greatest.is (int_as c.args.self.now (Greatest c.args.mask c.args.term.now c.args.embed) c.extremes-greatest.result.1 _ (omega (arith, ints)) c.extremes-greatest.ensures.greatest)

pub extremes-greatest-requires-clause-ready : goal.extremes-greatest-requires-clause-ready
extremes-greatest-requires-clause-ready g c = as_least c.args.self.now c.args.mask c.args.term.now c.args.embed (subst (λ form. IsReady c.args.self.now (collector_at form c.args.mask c.args.term.now c.args.embed)) c.in-Greatest.is c.requires.ready)

pub returns-in-Greatest-clause-cost : goal.returns-in-Greatest-clause-cost
returns-in-Greatest-clause-cost g c = rw c.in-Greatest.is c.extremes-greatest.ensures.cost

use Rattle.std.proofs.Common.{subst, sym, arith, refl}
use Rattle.gm_eval.specs.inner.Keeping.{collector_at}
use Rattle.gm_eval.specs.inner.Readers.{IsOrbit, IsReady, IsValueThere}
use Rattle.gm_eval.specs.inner.Sharing.{IsAtHand}
use Rattle.gm_eval.proofs.Adding.{own_adds, same_adds}
use Rattle.gm_eval.proofs.Keeping.{found_there, owned}
use Rattle.gm_eval.proofs.Sharing.{not_found, same_kept}
use Rattle.std.proofs.Math.Nat.{le_refl}
use Rattle.gm_eval.proofs.reader.Reader.kept_or_computed.Goals as goal

pub returns-in-Some-clause-value : goal.returns-in-Some-clause-value
returns-in-Some-clause-value g c =
    let reader = c.args.self.now in
    let own = owned c.args.term.now c.requires.own in
    subst (λ term. IsValueThere reader (collector_at c.args.form c.args.mask term c.args.embed) c.in-Some.value) (sym own)
    (found_there reader.arena.now reader.found.now reader.params.now c.args.kept.now _ c.in-Some.value c.requires.kept c.in-Some.ensures.found reader.position c.requires.ready.here.position)

pub returns-in-Some-clause-cost : goal.returns-in-Some-clause-cost
returns-in-Some-clause-cost g c = λ u units. omega arith

pub returns-in-Some-clause-stays : goal.returns-in-Some-clause-stays
returns-in-Some-clause-stays g c = same_kept _

pub returns-in-Some-clause-adds : goal.returns-in-Some-clause-adds
returns-in-Some-clause-adds g c = same_adds _ _

pub returns-in-Some-clause-left : goal.returns-in-Some-clause-left
returns-in-Some-clause-left g c = λ room x own shared.
    let found = c.in-Some.ensures.found in
    subst (IsAtHand c.args.kept.now) (sym own.1) (found.0, found.1, c.in-Some.value, found.2)

pub returns-clause-cost : goal.returns-clause-cost
returns-clause-cost g c = not_found c.args.self.now c.args.kept.now c.args.form c.args.mask c.args.term.now c.args.embed _ _ c.in_default.ensures.known c.computed-value.ensures.cost

pub returns-clause-stays : goal.returns-clause-stays
returns-clause-stays g c = c.keep.ensures.stays

pub returns-clause-adds : goal.returns-clause-adds
returns-clause-adds g c = own_adds c.args.form c.args.mask c.args.term.now c.args.embed _ _ c.requires.own c.keep.ensures.adds

pub returns-clause-left : goal.returns-clause-left
returns-clause-left g c = λ room x own shared. c.keep.ensures.left room x own.1 shared

pub keep-requires-clause-ready : goal.keep-requires-clause-ready
keep-requires-clause-ready g c = subst (λ term. IsReady c.args.self.now (collector_at c.args.form c.args.mask term c.args.embed)) (owned c.args.term.now c.requires.own) c.requires.ready

pub keep-requires-clause-walked : goal.keep-requires-clause-walked
keep-requires-clause-walked g c = subst (λ term. IsOrbit c.args.self.now c.args.mask term c.computed-value.new.scratch.walked) (owned c.args.term.now c.requires.own) c.computed-value.ensures.walked

pub keep-requires-clause-value : goal.keep-requires-clause-value
keep-requires-clause-value g c = subst (λ term. IsValueThere c.args.self.now (collector_at c.args.form c.args.mask term c.args.embed) c.computed-value.result) (owned c.args.term.now c.requires.own) c.computed-value.ensures.value

pub returns-in-Some-clause-least : goal.returns-in-Some-clause-least
returns-in-Some-clause-least g c = le_refl _

pub returns-in-Some-clause-room : goal.returns-in-Some-clause-room
returns-in-Some-clause-room g c = refl

pub returns-in-Some-clause-kept : goal.returns-in-Some-clause-kept
returns-in-Some-clause-kept g c = c.requires.kept

pub computed-value-requires-clause-ready : goal.computed-value-requires-clause-ready
computed-value-requires-clause-ready g c = c.requires.ready

pub computed-value-requires-clause-fits : goal.computed-value-requires-clause-fits
computed-value-requires-clause-fits g c = c.requires.fits

pub keep-requires-clause-open : goal.keep-requires-clause-open
keep-requires-clause-open g c = c.requires.open

pub keep-requires-clause-kept : goal.keep-requires-clause-kept
keep-requires-clause-kept g c = c.requires.kept

pub returns-clause-value : goal.returns-clause-value
returns-clause-value g c = c.computed-value.ensures.value

pub returns-clause-least : goal.returns-clause-least
returns-clause-least g c = c.computed-value.ensures.least

pub returns-clause-room : goal.returns-clause-room
returns-clause-room g c = c.computed-value.ensures.room

pub returns-clause-kept : goal.returns-clause-kept
returns-clause-kept g c = c.keep.ensures.kept

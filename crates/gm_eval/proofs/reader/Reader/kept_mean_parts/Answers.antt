use Rattle.std.proofs.Common.{subst, sym, arith, refl}
use Rattle.gm_model.specs.Trees.{Count, Sum}
use Rattle.gm_eval.specs.inner.Readers.{IsOrbit, IsReady, IsValueThere}
use Rattle.std.proofs.lemmas.Bool.{false≢true}
use Rattle.gm_eval.specs.inner.Sharing.{IsAtHand, IsOwn, own_collector}
use Rattle.gm_eval.proofs.Sharing.{later_kept, mean_within, of_mean_in, same_kept, two_left}
use Rattle.gm_eval.proofs.Adding.{both_adds, own_adds, same_adds}
use Rattle.gm_eval.proofs.Keeping.{as_count, found_there, owned}
use Rattle.std.proofs.Math.Nat.{le_refl}
use Rattle.gm_eval.specs.declared.kept.Form.TheVariants as forms
use Rattle.gm_eval.proofs.reader.Reader.kept_mean_parts.Goals as goal

pub returns-in-Some-clause-sum : goal.returns-in-Some-clause-sum
returns-in-Some-clause-sum g c =
    let reader = c.args.self.now in
    let both = c.in-Some.ensures.found in
    subst (λ term. IsValueThere reader (Sum c.args.mask term c.args.embed) c.in-Some.parts.0) (sym (owned c.args.term.now c.requires.own))
    (found_there reader.arena.now reader.found.now reader.params.now c.args.kept.now _ c.in-Some.parts.0 c.requires.kept (both.0, both.1, both.2) reader.position c.requires.ready.here.position)

pub returns-in-Some-clause-count : goal.returns-in-Some-clause-count
returns-in-Some-clause-count g c =
    let reader = c.args.self.now in
    let both = c.in-Some.ensures.found in
    subst (λ term. IsValueThere reader (Count c.args.mask term) c.in-Some.parts.1) (sym (owned c.args.term.now c.requires.own))
    (found_there reader.arena.now reader.found.now reader.params.now c.args.kept.now _ c.in-Some.parts.1 c.requires.kept (both.0, both.1, both.3) reader.position c.requires.ready.here.position)

pub returns-in-Some-clause-cost : goal.returns-in-Some-clause-cost
returns-in-Some-clause-cost g c = λ u units. omega arith

pub returns-in-Some-clause-stays : goal.returns-in-Some-clause-stays
returns-in-Some-clause-stays g c = same_kept _

pub returns-in-Some-clause-adds : goal.returns-in-Some-clause-adds
returns-in-Some-clause-adds g c = same_adds _ _

pub returns-in-Some-clause-once : goal.returns-in-Some-clause-once
returns-in-Some-clause-once g c = λ u units. omega arith

pub returns-in-Some-clause-left : goal.returns-in-Some-clause-left
returns-in-Some-clause-left g c = λ room x own shared.
    let both = c.in-Some.ensures.found in
    of_mean_in c.args.mask c.args.term.now c.args.embed x c.args.kept.now own (both.0, both.1, c.in-Some.parts.0, both.2) (both.0, both.1, c.in-Some.parts.1, both.3)

pub returns-clause-cost : goal.returns-clause-cost
returns-clause-cost g c = mean_within c.args.self.now c.args.kept.now c.args.mask c.args.term.now c.args.embed _ _
    (λ x y own owned at_hand there. false≢true (c.in_default.ensures.known (subst (IsAtHand c.args.kept.now) own.1 at_hand) (subst (IsAtHand c.args.kept.now) owned.1 there)))
    c.sum_and_count-sum.ensures.cost

pub returns-clause-stays : goal.returns-clause-stays
returns-clause-stays g c = later_kept _ _ _ c.keep.ensures.stays c.keep-2.ensures.stays

pub returns-clause-adds : goal.returns-clause-adds
returns-clause-adds g c =
    both_adds (own_collector forms.Sum c.args.mask c.args.term.now c.args.embed) (own_collector forms.Count c.args.mask c.args.term.now 0) _ _ _
    (own_adds forms.Sum c.args.mask c.args.term.now c.args.embed _ _ c.requires.own c.keep.ensures.adds)
    (own_adds forms.Count c.args.mask c.args.term.now 0 _ _ c.requires.own c.keep-2.ensures.adds)

pub returns-clause-left : goal.returns-clause-left
returns-clause-left g c = λ room x own shared.
    two_left c.args.self.now (IsOwn forms.Sum c.args.mask c.args.term.now c.args.embed) (IsOwn forms.Count c.args.mask c.args.term.now 0) _ _ c.keep-2.ensures.stays
    (λ room x own shared. c.keep.ensures.left room x own.1 shared) (λ room x own shared. c.keep-2.ensures.left room x own.1 shared) room x own shared

pub keep-requires-clause-ready : goal.keep-requires-clause-ready
keep-requires-clause-ready g c = subst (λ term. IsReady c.args.self.now (Sum c.args.mask term c.args.embed)) (owned c.args.term.now c.requires.own) c.requires.ready

pub keep-requires-clause-walked : goal.keep-requires-clause-walked
keep-requires-clause-walked g c = subst (λ term. IsOrbit c.args.self.now c.args.mask term c.sum_and_count-sum.new.scratch.walked) (owned c.args.term.now c.requires.own) c.sum_and_count-sum.ensures.walked

pub keep-requires-clause-value : goal.keep-requires-clause-value
keep-requires-clause-value g c = subst (λ term. IsValueThere c.args.self.now (Sum c.args.mask term c.args.embed) c.sum_and_count-sum.result.0) (owned c.args.term.now c.requires.own) c.sum_and_count-sum.ensures.sum

pub keep-requires-2-clause-ready : goal.keep-requires-2-clause-ready
keep-requires-2-clause-ready g c =
    as_count c.args.self.now forms.Sum c.args.mask _ c.args.embed (subst (λ term. IsReady c.args.self.now (Sum c.args.mask term c.args.embed)) (owned c.args.term.now c.requires.own) c.requires.ready)

pub keep-requires-2-clause-walked : goal.keep-requires-2-clause-walked
keep-requires-2-clause-walked g c = subst (λ term. IsOrbit c.args.self.now c.args.mask term c.sum_and_count-sum.new.scratch.walked) (owned c.args.term.now c.requires.own) c.sum_and_count-sum.ensures.walked

pub keep-requires-2-clause-value : goal.keep-requires-2-clause-value
keep-requires-2-clause-value g c = subst (λ term. IsValueThere c.args.self.now (Count c.args.mask term) c.sum_and_count-sum.result.1) (owned c.args.term.now c.requires.own) c.sum_and_count-sum.ensures.count

pub returns-in-Some-clause-least : goal.returns-in-Some-clause-least
returns-in-Some-clause-least g c = le_refl _

pub returns-in-Some-clause-room : goal.returns-in-Some-clause-room
returns-in-Some-clause-room g c = refl

pub returns-in-Some-clause-kept : goal.returns-in-Some-clause-kept
returns-in-Some-clause-kept g c = c.requires.kept

pub sum_and_count-sum-requires-clause-ready : goal.sum_and_count-sum-requires-clause-ready
sum_and_count-sum-requires-clause-ready g c = c.requires.ready

pub sum_and_count-sum-requires-clause-fits : goal.sum_and_count-sum-requires-clause-fits
sum_and_count-sum-requires-clause-fits g c = c.requires.fits

pub keep-requires-clause-open : goal.keep-requires-clause-open
keep-requires-clause-open g c = c.requires.open

pub keep-requires-clause-kept : goal.keep-requires-clause-kept
keep-requires-clause-kept g c = c.requires.kept

pub keep-requires-2-clause-open : goal.keep-requires-2-clause-open
keep-requires-2-clause-open g c = c.keep.ensures.open

pub keep-requires-2-clause-kept : goal.keep-requires-2-clause-kept
keep-requires-2-clause-kept g c = c.keep.ensures.kept

pub returns-clause-sum : goal.returns-clause-sum
returns-clause-sum g c = c.sum_and_count-sum.ensures.sum

pub returns-clause-count : goal.returns-clause-count
returns-clause-count g c = c.sum_and_count-sum.ensures.count

pub returns-clause-least : goal.returns-clause-least
returns-clause-least g c = c.sum_and_count-sum.ensures.least

pub returns-clause-room : goal.returns-clause-room
returns-clause-room g c = c.sum_and_count-sum.ensures.room

pub returns-clause-once : goal.returns-clause-once
returns-clause-once g c = c.sum_and_count-sum.ensures.cost

pub returns-clause-kept : goal.returns-clause-kept
returns-clause-kept g c = c.keep-2.ensures.kept

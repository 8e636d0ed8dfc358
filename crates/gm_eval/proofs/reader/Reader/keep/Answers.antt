use Rattle.std.proofs.Common.{subst, sym}
use Rattle.gm_eval.proofs.Adding.{one_adds, same_adds}
use Rattle.gm_eval.proofs.Keeping.{everywhere, node_there, one_more, shared_walked}
use Rattle.gm_eval.proofs.Sharing.{same_kept}
use Rattle.gm_eval.specs.inner.Sharing.{IsAtHand, IsShared}
use Rattle.gm_eval.specs.inner.Keeping.{own_term}
use Rattle.gm_eval.proofs.reader.Reader.keep.Goals as goal

pub is_walked-requires : goal.is_walked-requires
is_walked-requires c = record { node = node_there c.args.self.now c.args.collector.form c.args.collector.mask (own_term c.args.collector.node) c.args.collector.embed c.requires.ready }

pub returns-then-is_walked-clause-kept : goal.returns-then-is_walked-clause-kept
returns-then-is_walked-clause-kept c =
    let reader = c.args.self.now in
    let of = c.args.collector in
    one_more reader.arena.now reader.found.now reader.params.now c.args.kept.now c.keep.new.self of c.args.value
    (everywhere reader of.form of.mask of.node of.embed c.requires.ready (c.requires.kept.generalised c.requires.open) c.args.scratch.now.walked c.requires.walked (c.is_walked.ensures.all c.if-is_walked.true) c.args.value c.requires.value)
    c.requires.kept c.keep.ensures.kept

pub returns-then-is_walked-clause-left : goal.returns-then-is_walked-clause-left
returns-then-is_walked-clause-left c = λ room of same shared. subst (IsAtHand c.keep.new.self) (sym same) (c.keep.ensures.room room)

pub returns-else-is_walked-clause-left : goal.returns-else-is_walked-clause-left
returns-else-is_walked-clause-left c = λ room of same shared.
    let reader = c.args.self.now in
    let lacks = c.is_walked.ensures.missing c.if-is_walked.false in
    absurd (lacks.4 (shared_walked reader c.requires.ready.here c.args.collector c.args.scratch.now.walked c.requires.walked (subst (IsShared reader.arena.now reader.found.now reader.position) same shared) lacks.0 lacks.1 lacks.2 lacks.3))

pub returns-else-is_walked-clause-stays : goal.returns-else-is_walked-clause-stays
returns-else-is_walked-clause-stays c = same_kept _

pub returns-then-is_walked-clause-adds : goal.returns-then-is_walked-clause-adds
returns-then-is_walked-clause-adds c = one_adds c.args.kept.now c.keep.new.self c.args.collector c.args.value c.keep.ensures.kept c.keep.ensures.fresh

pub returns-else-is_walked-clause-adds : goal.returns-else-is_walked-clause-adds
returns-else-is_walked-clause-adds c = same_adds _ _

use Rattle.std.proofs.Common.{◌≡◌, refl, ◌∙◌, arith}
use Rattle.std.proofs.lemmas.Bool.{false≢true}
use Rattle.gm_walk.proofs.NameLemmas.{is_new}
use Rattle.gm_match.proofs.Apart.{next_apart, node_passed}
use Rattle.gm_match.proofs.Taking.{slot_below, bound_kept}
use Rattle.gm_match.proofs.repeats.take_apart.Goals as goal

pub take_new-requires : goal.take_new-requires
take_new-requires c = rw c.loop-position.invariant.bound (slot_below c.args.found.now c.args.scratch.now.bound c.requires.room _ _ c.slot.result c.slot.ensures)

pub loop-position-preserved : goal.loop-position-preserved
loop-position-preserved c = record {
  apart = λ hook apart. next_apart c.args.found.now hook _ _ _ (c.loop-position.invariant.apart hook apart) c.slot.result c.slot.ensures _ (is_new _ _ _ _ c.take_new.ensures.taken c.take_new.ensures.new c.if-not-take_new.false);
  bound = bound_kept _ _ _ c.take_new.ensures.taken ∙ c.loop-position.invariant.bound;
}

pub loop-position-init : goal.loop-position-init
loop-position-init c = record { apart = λ hook apart. apart; bound = refl }

pub slot-requires-clause-node : goal.slot-requires-clause-node
slot-requires-clause-node c = c.requires.node

pub returns-then-not-take_new-clause-apart : goal.returns-then-not-take_new-clause-apart
returns-then-not-take_new-clause-apart c = λ yes. absurd (false≢true yes)

pub returns-then-not-take_new-clause-room : goal.returns-then-not-take_new-clause-room
returns-then-not-take_new-clause-room c = bound_kept _ _ _ c.take_new.ensures.taken ∙ c.loop-position.invariant.bound

pub returns-clause-apart : goal.returns-clause-apart
returns-clause-apart c =
    let l = c.loop-position in
    let past : l.position ≡ c.args.found.now.positions = omega (arith, c.loop-position-test.false, l.auto.position-end, c.positions-position-end.ensures.value) in
    λ _ hook apart. node_passed c.args.found.now hook c.args.node l.position l.scratch.walked past (l.invariant.apart hook apart)

pub returns-clause-room : goal.returns-clause-room
returns-clause-room c = c.loop-position.invariant.bound

use Rattle.std.proofs.Common.{◌≡◌, ◌<◌, All, refl, sym, subst, ◌∙◌, arith}
use Rattle.std.proofs.lemmas.Bool.{false≢true}
use Rattle.gm_arena.specs.declared.slot.Slot.{Slot}
use Rattle.gm_match.specs.inner.Taken.{AreApart}
use Rattle.gm_match.proofs.Apart.{one_apart, hook_passed, all_apart}
use Rattle.gm_match.proofs.repeats.take_others.Goals as goal

pub loop-node-init : goal.loop-node-init
loop-node-init c = record { apart = one_apart c.args.found.now c.args.first_hook c.args.scratch.now.walked c.requires.walked c.requires.distinct; bound = refl }

pub loop-node-preserved-then-node-first_hook : goal.loop-node-preserved-then-node-first_hook
loop-node-preserved-then-node-first_hook c = record {
  apart = hook_passed c.args.found.now c.args.first_hook c.loop-node.node c.loop-node.scratch.walked c.if-node-first_hook.true c.loop-node.invariant.apart;
  bound = c.loop-node.invariant.bound;
}

pub take_apart-requires-clause-room : goal.take_apart-requires-clause-room
take_apart-requires-clause-room c = subst (λ bound. All (λ (s : Slot). s.at < bound) c.args.found.now.slots) (sym c.loop-node.invariant.bound) c.requires.room

pub returns-then-not-take_apart-clause-apart : goal.returns-then-not-take_apart-clause-apart
returns-then-not-take_apart-clause-apart c = λ yes. absurd (false≢true yes)

pub returns-then-not-take_apart-clause-room : goal.returns-then-not-take_apart-clause-room
returns-then-not-take_apart-clause-room c = c.take_apart.ensures.room ∙ c.loop-node.invariant.bound

pub loop-node-preserved : goal.loop-node-preserved
loop-node-preserved c = record { apart = c.take_apart.ensures.apart c.if-not-take_apart.false c.args.first_hook c.loop-node.invariant.apart; bound = c.take_apart.ensures.room ∙ c.loop-node.invariant.bound }

pub returns-clause-apart : goal.returns-clause-apart
returns-clause-apart c =
    let l = c.loop-node in
    let past : l.node ≡ c.args.found.now.nodes = omega (arith, c.loop-node-test.false, l.auto.node-end, c.requires.nodes) in
    λ _. all_apart c.args.found.now c.args.first_hook l.scratch.walked (subst (λ n. AreApart c.args.found.now c.args.first_hook n 0 l.scratch.walked) past l.invariant.apart)

pub returns-clause-room : goal.returns-clause-room
returns-clause-room c = c.loop-node.invariant.bound

use Rattle.std.proofs.Common.{◌≡◌, length}
use Rattle.gm_arena.specs.inner.ArenaMap.{name_at}
use Rattle.std.proofs.Common.{ap, ◌∙◌, arith}
use Rattle.gm_arena.proofs.MapLemmas.{name_at-is}
use Rattle.gm_undo.proofs.OneDart.{linked_more, linked_all, named}
use Rattle.gm_arena.specs.inner.Edits.{with_alpha}
use Rattle.gm_undo.proofs.writing.link.Goals as goal

pub loop-label-preserved : goal.loop-label-preserved
loop-label-preserved g c =
    let inv = c.loop-label.invariant in
    let is : name_at c.loop-label.arena c.args.slot.at ≡ name_at c.args.arena.now c.args.slot.at = named c.args.arena.now c.loop-label.arena c.args.slot.at inv.linked.frame in
    record {
      linked = linked_more (name_at c.args.arena.now c.args.slot.at) c.args.arena.now c.args.neighbours.now c.loop-label.arena c.set_alpha.new.self c.loop-label.label (name_at c.loop-label.arena c.in-Some.to.at) inv.linked c.loop-label-test.true
          (name_at-is c.loop-label.arena c.in-Some.to.at _ c.in-Some.ensures.slot)
          (c.set_alpha.ensures.map ∙ ap (λ n. with_alpha c.loop-label.arena n c.loop-label.label (name_at c.loop-label.arena c.in-Some.to.at)) is);
      steps = omega (arith, inv.steps, c.slot_of.ensures.cost, c.set_alpha.ensures.cost);
    }

pub returns-clause-own : goal.returns-clause-own
returns-clause-own g c =
    let whole : c.loop-label.label ≡ length c.args.neighbours.now = omega (arith, c.loop-label-test.false, c.loop-label.auto.label-end) in
    linked_all (name_at c.args.arena.now c.args.slot.at) c.args.arena.now c.args.neighbours.now c.loop-label.arena (rw whole at c.loop-label.invariant.linked)

use Rattle.gm_undo.proofs.Sums.{never_more}
use Rattle.std.proofs.Common.{◌≡◌}
use Rattle.gm_arena.specs.inner.ArenaMap.{name_at}
use Rattle.std.proofs.Common.{ap, ◌∙◌, arith}
use Rattle.gm_arena.proofs.MapLemmas.{name_at-is}
use Rattle.gm_undo.proofs.OneDart.{free_none, free_more, named}
use Rattle.gm_arena.specs.inner.Edits.{with_alpha}
use Rattle.gm_arena.specs.inner.ArenaMap.{ArenaMap}
use Rattle.gm_commit.proofs.on_commit.WholeDarts.{lawful_whole}
use Rattle.gm_undo.proofs.writing.free_row.Goals as goal

pub loop-label-init : goal.loop-label-init
loop-label-init g c = record { freed = free_none c.args.name c.args.arena.now c.requires.live (lawful_whole c.args.arena.now c.count.ensures.lawful); steps = omega (arith, c.in-Some.ensures.cost) }

pub loop-label-preserved : goal.loop-label-preserved
loop-label-preserved g c =
    let inv = c.loop-label.invariant in
    let is : name_at c.loop-label.arena c.in-Some.slot.at ≡ c.args.name = named c.args.arena.now c.loop-label.arena c.in-Some.slot.at inv.freed.frame ∙ name_at-is c.args.arena.now c.in-Some.slot.at c.args.name c.in-Some.ensures.slot in
    let dim : c.loop-label.arena.schema.dim ≡ c.args.arena.now.schema.dim = ap (λ (m : ArenaMap). m.schema.dim) inv.freed.frame in
    record {
      freed = free_more c.args.name c.args.arena.now c.loop-label.arena c.set_alpha.new.self c.loop-label.label inv.freed (omega (arith, c.loop-label-test.true, c.requires.labels, dim)) (c.set_alpha.ensures.map ∙ ap (λ n. with_alpha c.loop-label.arena n c.loop-label.label n) is);
      steps = omega (arith, inv.steps, c.set_alpha.ensures.cost);
    }

pub prove-unreachable-requires : goal.prove-unreachable-requires
prove-unreachable-requires g c = never_more c.args.arena.now c.count.result c.count.ensures.lawful c.count.ensures.count c.if-prove.true

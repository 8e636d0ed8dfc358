use Rattle.std.proofs.Common.{◌≡◌, ◌≢◌, inl, inr, ap, ◌∙◌, arith}
use Rattle.std.proofs.lemmas.Bool.{cases_eq}
use Rattle.gm_arena.specs.inner.ArenaMap.{name_at}
use Rattle.gm_arena.proofs.MapLemmas.{name_at-is, alpha-with_alpha_same, alpha-with_alpha_other, alpha-with_alpha_label}
use Rattle.gm_tests.proofs.arena.set_free.Goals as goal

pub loop-label-preserved : goal.loop-label-preserved
loop-label-preserved g c =
    let m = c.loop-label.arena in
    let slot = c.expect-slot.result.at in
    let name = c.loop-name.name in
    let label = c.loop-label.label in
    let at = c.loop-label.invariant.at in
    let is : name_at m slot ≡ name = name_at-is m slot name at in
    let dim : m.schema.dim ≡ 2 = ap (λ s. s.dim) c.loop-label.invariant.schema ∙ c.requires in
    rw (c.set_alpha.ensures.map, is) (record {
      at = at;
      before = λ other i below within.
          let apart : other ≢ name = omega arith in
          alpha-with_alpha_other m name label name i other apart ∙ c.loop-label.invariant.before other i below within;
      here = λ i below. elim (cases_eq i label) [
        | inl e ↦ rw e (alpha-with_alpha_same m name label name c.bound.ensures.lawful (c.bound.ensures.lawful.live slot name at) (omega arith))
        | inr apart ↦ alpha-with_alpha_label m name label name i apart ∙ c.loop-label.invariant.here i (omega arith)
      ];
      schema = c.loop-label.invariant.schema;
      room = c.loop-label.invariant.room;
      names = c.loop-label.invariant.names;
    })

use Rattle.gm_undo.proofs.Sums.{never_more}
use Rattle.std.proofs.Common.{◌≡◌, ◌≢◌, ℕ, ◌+◌, ◌-◌, ◌*◌}
use Rattle.std.proofs.Math.Nat.{le_antisymm, lt_of_lt_of_le}
use Rattle.std.specs.FinMap.{get}
use Rattle.gm_arena.specs.inner.ArenaMap.{IsLiveName, alpha}
use Rattle.gm_undo.specs.inner.Flat.{row_in}
use Rattle.gm_undo.specs.inner.Writing.{IsFreeRow, IsWritten}
use Rattle.std.proofs.Common.{sym, ap, subst, ◌∙◌, inl, inr, arith}
use Rattle.gm_undo.proofs.Written.{next_outside, written_more, written_none}
use Rattle.gm_undo.proofs.OneDart.{frame_more, no_frame}
use Rattle.gm_undo.proofs.Sides.{none_more, one_more}
use Rattle.gm_arena.specs.inner.ArenaMap.{ArenaMap}
use Rattle.std.proofs.lemmas.Bool.{cases_eq}
use Rattle.gm_undo.proofs.writing.free_rows.Goals as goal

pub loop-index-preserved : goal.loop-index-preserved
loop-index-preserved g c =
    let inv = c.loop-index.invariant in
    let row = row_in c.args.rows.now.rows c.loop-index.index in
    let e : c.name.result ≡ row.name = c.name.ensures in
    let dim : c.loop-index.arena.schema.dim ≡ c.args.arena.now.schema.dim = ap (λ (m : ArenaMap). m.schema.dim) inv.frame in
    let others : (d : ℕ) → d ≢ row.name → get c.free_row.new.arena.darts d ≡ get c.loop-index.arena.darts d = λ d apart. c.free_row.ensures.others d (λ same. apart (same ∙ e)) in
    record {
      written = written_more (IsFreeRow c.args.arena.now.schema.dim) c.args.rows.now.rows c.args.part.start c.args.arena.now c.args.part.end c.loop-index.index c.loop-index.arena c.free_row.new.arena c.requires.once c.loop-index.auto.index c.loop-index-test.true inv.written others
          (subst (IsLiveName c.free_row.new.arena) e c.free_row.ensures.live, λ i h. subst (λ n. alpha c.free_row.new.arena i n ≡ n) e (c.free_row.ensures.free i (omega (arith, h, dim))));
      live = λ d is. elim (cases_eq d row.name) [
        | inl same ↦ subst (IsLiveName c.args.arena.now) (sym same) (c.requires.live c.loop-index.index (c.loop-index.auto.index, c.loop-index-test.true))
        | inr apart ↦ inv.live d (rw (others d apart) at is)
      ];
      frame = frame_more c.args.arena.now c.loop-index.arena c.free_row.new.arena c.free_row.new.arena.darts inv.frame c.free_row.ensures.frame;
      steps =
          let wide : c.loop-index.arena.schema.dim + 2 ≡ c.args.arena.now.schema.dim + 2 = ap (λ n. n + 2) dim in
          omega (arith, inv.steps, c.free_row.ensures.cost, wide, one_more (c.args.arena.now.schema.dim + 2) c.loop-index.index c.args.part.start c.loop-index.auto.index);
    }

pub free_row-requires-clause-labels : goal.free_row-requires-clause-labels
free_row-requires-clause-labels g c =
    let dim : c.loop-index.arena.schema.dim ≡ c.args.arena.now.schema.dim = ap (λ (m : ArenaMap). m.schema.dim) c.loop-index.invariant.frame in
    let top : c.top-labels.result ≡ c.args.arena.now.schema.dim = c.top-labels.ensures.value ∙ ap (λ s. s.dim) c.schema.ensures in
    omega (arith, dim, top)

pub prove-unreachable-requires : goal.prove-unreachable-requires
prove-unreachable-requires g c = never_more c.args.arena.now c.count.result c.count.ensures.lawful c.count.ensures.count c.if-prove.true

pub loop-index-init : goal.loop-index-init
loop-index-init g c = record {
  written = written_none (IsFreeRow c.args.arena.now.schema.dim) c.args.rows.now.rows c.args.part.start c.args.arena.now;
  live = λ d is. is;
  frame = no_frame c.args.arena.now;
  steps = none_more c.args.steps.now (c.args.arena.now.schema.dim + 2) c.args.part.start;
}

pub name-requires : goal.name-requires
name-requires g c = lt_of_lt_of_le c.loop-index-test.true c.requires.end

pub free_row-requires-clause-live : goal.free_row-requires-clause-live
free_row-requires-clause-live g c =
    let rows = c.args.rows.now.rows in
    let index = c.loop-index.index in
    let there = c.loop-index.invariant.written.others (row_in rows index).name (next_outside (IsFreeRow c.args.arena.now.schema.dim) rows c.args.part.start c.args.arena.now c.args.part.end index c.requires.once c.loop-index.auto.index c.loop-index-test.true) in
    subst (IsLiveName c.loop-index.arena) (sym c.name.ensures) (rw there (c.requires.live index (c.loop-index.auto.index, c.loop-index-test.true)))

pub returns : goal.returns
returns g c =
    let all : c.loop-index.index ≡ c.args.part.end = le_antisymm (c.loop-index.auto.index-end c.requires.part) c.loop-index-test.false in
    let inv = c.loop-index.invariant in
    record {
      written = subst (λ end. IsWritten (IsFreeRow c.args.arena.now.schema.dim) c.args.rows.now.rows c.args.part.start end c.args.arena.now c.loop-index.arena) all inv.written;
      live = inv.live;
      frame = inv.frame;
      cost = subst (λ end. c.loop-index.steps ≡ c.args.steps.now + (c.args.arena.now.schema.dim + 2) * (end - c.args.part.start)) all inv.steps;
    }

use Rattle.std.proofs.Common.{◌≡◌, ◌≢◌, ℕ, ◌+◌, ◌-◌, ◌*◌, Some, All, length}
use Rattle.std.proofs.Math.Nat.{le_antisymm, lt_of_lt_of_le}
use Rattle.std.specs.FinMap.{get}
use Rattle.gm_arena.specs.inner.ArenaMap.{IsLiveName}
use Rattle.gm_undo.specs.inner.Flat.{row_in}
use Rattle.gm_undo.specs.inner.Writing.{IsOwnRow, IsWritten}
use Rattle.gm_model.specs.declared.schema.Schema.{Schema}
use Rattle.gm_arena.specs.inner.Lawful.{AreGoodValues}
use Rattle.std.proofs.Common.{sym, ap, ap₂, subst, ◌∙◌, inl, inr, arith}
use Rattle.gm_undo.proofs.Written.{written_more, written_none}
use Rattle.gm_undo.proofs.OneDart.{frame_more, no_frame}
use Rattle.gm_undo.proofs.Sides.{none_more, one_more}
use Rattle.gm_arena.specs.inner.ArenaMap.{ArenaMap}
use Rattle.std.proofs.lemmas.Bool.{cases_eq}
use Rattle.gm_arena.proofs.InsideLemmas.{is_some_at}
use Rattle.gm_undo.proofs.writing.link_rows.Goals as goal

pub loop-index-preserved : goal.loop-index-preserved
loop-index-preserved g c =
    let inv = c.loop-index.invariant in
    let row = row_in c.args.rows.now.rows c.loop-index.index in
    let e : c.name.result ≡ row.name = c.name.ensures in
    let dim : c.loop-index.arena.schema.dim ≡ c.args.arena.now.schema.dim = ap (λ (m : ArenaMap). m.schema.dim) inv.frame in
    let wide : length c.loop-index.arena.schema.embeds ≡ length c.args.arena.now.schema.embeds = ap (λ (m : ArenaMap). length m.schema.embeds) inv.frame in
    let others : (d : ℕ) → d ≢ row.name → get c.link_row.new.arena.darts d ≡ get c.loop-index.arena.darts d = λ d apart. c.link_row.ensures.others d (λ same. apart (same ∙ e)) in
    let own : get c.link_row.new.arena.darts row.name ≡ Some row.dart = ap (get c.link_row.new.arena.darts) (sym e) ∙ c.link_row.ensures.own ∙ ap₂ (λ a v. Some (record { alphas = a; values = v })) c.neighbours.ensures c.values.ensures in
    record {
      written = written_more IsOwnRow c.args.rows.now.rows c.args.part.start c.args.arena.now c.args.part.end c.loop-index.index c.loop-index.arena c.link_row.new.arena c.requires.once c.loop-index.auto.index c.loop-index-test.true inv.written others own;
      frame = frame_more c.args.arena.now c.loop-index.arena c.link_row.new.arena c.link_row.new.arena.darts inv.frame c.link_row.ensures.frame;
      live = λ d is. elim (cases_eq d row.name) [
        | inl same ↦ subst (IsLiveName c.link_row.new.arena) (sym same) (is_some_at (get c.link_row.new.arena.darts row.name) row.dart own)
        | inr apart ↦ rw (others d apart) (inv.live d is)
      ];
      steps = omega (arith, inv.steps, c.link_row.ensures.cost, dim, wide, one_more (2 * (c.args.arena.now.schema.dim + 1) + length c.args.arena.now.schema.embeds + 1) c.loop-index.index c.args.part.start c.loop-index.auto.index);
    }

pub loop-index-init : goal.loop-index-init
loop-index-init g c = record {
  written = written_none IsOwnRow c.args.rows.now.rows c.args.part.start c.args.arena.now;
  frame = no_frame c.args.arena.now;
  live = λ d is. is;
  steps = none_more c.args.steps.now (2 * (c.args.arena.now.schema.dim + 1) + length c.args.arena.now.schema.embeds + 1) c.args.part.start;
}

pub name-requires : goal.name-requires
name-requires g c = lt_of_lt_of_le c.loop-index-test.true c.requires.end

pub neighbours-requires : goal.neighbours-requires
neighbours-requires g c = lt_of_lt_of_le c.loop-index-test.true c.requires.end

pub values-requires : goal.values-requires
values-requires g c = lt_of_lt_of_le c.loop-index-test.true c.requires.end

pub link_row-requires : goal.link_row-requires
link_row-requires g c =
    let inv = c.loop-index.invariant in
    let can = c.requires.can in
    let index = c.loop-index.index in
    let row = row_in c.args.rows.now.rows index in
    let same : c.args.arena.now.schema ≡ c.loop-index.arena.schema = ap (λ (m : ArenaMap). m.schema) (sym inv.frame) in
    record {
      live = subst (IsLiveName c.loop-index.arena) (sym c.name.ensures) (inv.live row.name (can.live index (c.loop-index.auto.index, c.loop-index-test.true)));
      whole = ap length c.neighbours.ensures ∙ can.whole index (c.loop-index.auto.index, c.loop-index-test.true) ∙ ap (λ (schema : Schema). schema.dim + 1) same;
      neighbours = subst (All (IsLiveName c.loop-index.arena)) (sym c.neighbours.ensures) (λ k d h. inv.live _ (can.neighbours index (c.loop-index.auto.index, c.loop-index-test.true) k d h));
      values = subst (λ schema. AreGoodValues schema c.values.result.now) same (subst (AreGoodValues c.args.arena.now.schema) (sym c.values.ensures) (can.values index (c.loop-index.auto.index, c.loop-index-test.true)));
    }

pub returns : goal.returns
returns g c =
    let all : c.loop-index.index ≡ c.args.part.end = le_antisymm (c.loop-index.auto.index-end c.requires.part) c.loop-index-test.false in
    let inv = c.loop-index.invariant in
    record {
      written = subst (λ end. IsWritten IsOwnRow c.args.rows.now.rows c.args.part.start end c.args.arena.now c.loop-index.arena) all inv.written;
      frame = inv.frame;
      cost = subst (λ end. c.loop-index.steps ≡ c.args.steps.now + (2 * (c.args.arena.now.schema.dim + 1) + length c.args.arena.now.schema.embeds + 1) * (end - c.args.part.start)) all inv.steps;
    }

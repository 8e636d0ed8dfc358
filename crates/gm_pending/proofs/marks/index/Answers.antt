use Rattle.std.proofs.Common.{◌≡◌, ℕ, ◌++◌, ◌∷◌, [], None, length, take, sym, ap, ◌∙◌, subst}
use borrow.Author.Count.{falls}
use Rattle.std.proofs.lemmas.List.{take_all, take_more}
use Rattle.gm_theory.proofs.Lists.{contained_at, none_some}
use Rattle.gm_walk.specs.declared.mark.Mark.{Mark}
use Rattle.gm_plan.specs.declared.index.Index.{Index}
use Rattle.gm_plan.specs.inner.Indices.{index_at}
use Rattle.gm_walk.specs.inner.Keys.{key_of}
use Rattle.gm_pending.specs.inner.Marks.{ByKey, HasKey, IsIndex}
use Rattle.gm_pending.proofs.on_marks.OneMoreMark.{put_fresh, fresh_key}
use Rattle.gm_model.proofs.Exits.{unless_ok}
use Rattle.gm_pending.proofs.marks.index.Goals as goal

-- an index without an entry is that of no darts
none_indexed : (by_key : ByKey) → ((key : ℕ) → by_key key ≡ None) → IsIndex [] by_key
none_indexed by_key none = record {
  marked = λ entry among. none_some entry (contained_at [] entry among);
  only = λ key k is. none_some k (sym (none key) ∙ is);
}

pub loop-entry-preserved : goal.loop-entry-preserved
loop-entry-preserved c =
    let reached = c.args.reached.now in
    let i = c.loop-entry.entry-index in
    let entry = c.entry-item.result in
    let absent = subst (λ (e : Mark). HasKey (take i reached) (key_of e.at) → ⊥) (sym c.entry-item.is) (fresh_key reached i entry c.requires.distinct c.loop-entry-test.true) in
    subst (λ xs. IsIndex xs (index_at c.put.new.self)) (sym (take_more reached i entry c.loop-entry-test.true ∙ ap (λ e. take i reached ++ e ∷ []) (sym c.entry-item.is)))
    (put_fresh (take i reached) (index_at c.loop-entry.index) (index_at c.put.new.self) c.loop-entry.invariant entry c.in_ok-put.field-0 (rw c.key.ensures at c.in_ok-put.ensures.had) (rw c.key.ensures at c.in_ok-put.ensures.put) absent)

pub returns-then-room-slots : goal.returns-then-room-slots
returns-then-room-slots c = rw c.in-Some.is at c.requires.index

pub returns-in_err-index : goal.returns-in_err-index
returns-in_err-index c = unless_ok _ c.from_residual.result c.from_residual.ensures.0

pub returns-in_err-put : goal.returns-in_err-put
returns-in_err-put c = unless_ok _ c.from_residual-in_err-put.result c.from_residual-in_err-put.ensures.0

pub returns-in_err-new : goal.returns-in_err-new
returns-in_err-new c = unless_ok _ c.from_residual-in_err-new.result c.from_residual-in_err-new.ensures.0

pub loop-entry-init : goal.loop-entry-init
loop-entry-init c = none_indexed (index_at c.in_ok-index.index) (c.in_ok-index.ensures)

pub returns : goal.returns
returns c =
    let all = subst (λ xs. IsIndex xs (index_at c.loop-entry.index)) (take_all c.loop-entry.entry-index c.args.reached.now c.loop-entry-test.false) c.loop-entry.invariant in
    subst (λ (b : Index). IsIndex c.args.reached.now (index_at b)) (sym c.in_ok-new.ensures.ok) all

pub loop-entry-smaller : goal.loop-entry-smaller
loop-entry-smaller c = falls (length c.args.reached.now) c.loop-entry.entry-index c.loop-entry-test.true

pub bounds-reached-entry-index : goal.bounds-reached-entry-index
bounds-reached-entry-index c = c.loop-entry-test.true

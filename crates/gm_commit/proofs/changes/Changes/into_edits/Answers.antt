use Rattle.std.proofs.Common.{◌≡◌, ℕ, Bool, List, length, ap, subst, sym, ◌∙◌, le_refl}
use Rattle.std.specs.List.{Contains}
use Rattle.std.specs.Option.{option_map}
use Rattle.gm_arena.specs.declared.slot.Slot.{Slot}
use Rattle.gm_model.proofs.Exits.{unless_ok}
use Rattle.gm_model.specs.declared.step.Step.{Step}
use Rattle.gm_plan.specs.inner.Placed.{Placed}
use Rattle.gm_commit.specs.inner.InstanceEdits.{IsFitted, RewriteRows, all_removed, left_slots, rows_at, told_by}
use Rattle.gm_commit.specs.inner.EditLists.{EditLists, AreDistinct}
use Rattle.gm_commit.specs.inner.OldDartValues.{lists_told, values_told}
use Rattle.gm_commit.specs.inner.TouchedSlots.{touched_or}
use Rattle.gm_commit.proofs.on_edits.SlotsTaken.{are_touched, few_touched, matched_live, same_taken, valued_live}
use Rattle.gm_commit.proofs.changes.Changes.into_edits.Goals as goal

pub new_values-requires : goal.new_values-requires
new_values-requires c = rw c.deref.ensures.value c.self.invariant.3

pub touched_slots-requires-clause-matched : goal.touched_slots-requires-clause-matched
touched_slots-requires-clause-matched c slot among =
    let is = c.deref-2.ensures.value ∙ c.self.invariant.0 ∙ ap (λ (e : EditLists). e.matched) c.self.view_is in
    matched_live c.args.arena.now c.args.self c.requires.here slot (subst (λ slots. Contains slots slot) is among)

pub touched_slots-requires-clause-distinct : goal.touched_slots-requires-clause-distinct
touched_slots-requires-clause-distinct c = subst AreDistinct (sym c.deref-2.ensures.value) c.self.invariant.2

pub touched_slots-requires-clause-valued : goal.touched_slots-requires-clause-valued
touched_slots-requires-clause-valued c at among =
    let is = c.deref-3.ensures.value ∙ c.in_ok-values.ensures ∙ ap values_told c.deref.ensures.value ∙ ap (λ (e : EditLists). e.values) c.self.view_is in
    valued_live c.args.arena.now c.args.self c.requires.here at (subst (λ values. Contains values at) is among)

-- the rows that are copied are those of the rewrite
same_rows : (dim goes : ℕ) (removes : Bool) (freed freed_there made made_there : List (List Step)) (placed placed_there : Placed) → freed ≡ freed_there → made ≡ made_there → placed ≡ placed_there → rows_at dim removes goes freed made placed ≡ rows_at dim removes goes freed_there made_there placed_there
same_rows dim goes removes freed freed_there made made_there placed placed_there e f g = rw (e, f, g)

pub invariant_of-result : goal.invariant_of-result
invariant_of-result c =
    let copied = same_rows c.rewrite.inside.dim c.rewrite.inside.goes c.rewrite.inside.removes _ _ _ _ _ _ c.in_ok-from_slice.ensures.items c.in_ok-from_slice-2.ensures.items c.in_ok-copy.ensures in
    let same = copied ∙ c.rewrite.view_is in (
      subst IsFitted (sym copied) c.rewrite.invariant,
      c.self.invariant.0 ∙ ap (λ (rows : RewriteRows). left_slots (told_by rows)) (sym same),
      c.self.invariant.1,
      c.self.invariant.2,
      c.self.invariant.3,
      c.requires.added ∙ sym (ap (λ (e : EditLists). e.added) c.self.view_is),
      c.requires.removed ∙ sym (ap (λ (e : EditLists). length e.removed) c.self.view_is) ∙ ap (λ (rows : RewriteRows). length (all_removed (told_by rows))) (sym same),
    )

pub returns : goal.returns
returns c =
    let copied = same_rows c.rewrite.inside.dim c.rewrite.inside.goes c.rewrite.inside.removes _ _ _ _ _ _ c.in_ok-from_slice.ensures.items c.in_ok-from_slice-2.ensures.items c.in_ok-copy.ensures in
    let matched = c.deref-2.ensures.value ∙ c.self.invariant.0 ∙ ap (λ (e : EditLists). e.matched) c.self.view_is in
    let values = c.deref-3.ensures.value ∙ c.in_ok-values.ensures ∙ ap values_told c.deref.ensures.value ∙ ap (λ (e : EditLists). e.values) c.self.view_is in
    let same = ap (λ (s : List Slot). touched_or s (option_map (λ t. t.items) c.in_ok-touched.touched)) (sym c.deref-2.ensures.value) in
    let taken = same_taken _ c.args.self.matched _ _ _ c.args.self.values matched values same c.in_ok-touched.ensures.taken in
    record {
      edits = ap (λ (rows : RewriteRows). lists_told (told_by rows) c.self.inside.added c.self.inside.added_values.items (values_told c.self.inside.orbits.items)) (copied ∙ c.rewrite.view_is) ∙ c.self.view_is;
      touched = are_touched c.args.arena.now c.args.self c.requires.here _ taken;
      few = λ app reached ok sum. few_touched app c.args.self _ reached taken ok sum;
      room = c.touched_slots.ensures.room;
    }

pub returns-in_err-values : goal.returns-in_err-values
returns-in_err-values c = record {
  edits = unless_ok _ c.from_residual.result c.from_residual.ensures.0;
  touched = unless_ok _ c.from_residual.result c.from_residual.ensures.0;
  few = λ app reached ok sum. unless_ok _ c.from_residual.result c.from_residual.ensures.0;
  room = le_refl _;
}

pub returns-in_err-touched : goal.returns-in_err-touched
returns-in_err-touched c = record {
  edits = unless_ok _ c.from_residual-in_err-touched.result c.from_residual-in_err-touched.ensures.0;
  touched = unless_ok _ c.from_residual-in_err-touched.result c.from_residual-in_err-touched.ensures.0;
  few = λ app reached ok sum. unless_ok _ c.from_residual-in_err-touched.result c.from_residual-in_err-touched.ensures.0;
  room = c.touched_slots.ensures.room;
}

pub returns-in_err-from_slice : goal.returns-in_err-from_slice
returns-in_err-from_slice c = record {
  edits = unless_ok _ c.from_residual-in_err-from_slice.result c.from_residual-in_err-from_slice.ensures.0;
  touched = unless_ok _ c.from_residual-in_err-from_slice.result c.from_residual-in_err-from_slice.ensures.0;
  few = λ app reached ok sum. unless_ok _ c.from_residual-in_err-from_slice.result c.from_residual-in_err-from_slice.ensures.0;
  room = c.touched_slots.ensures.room;
}

pub returns-in_err-from_slice-2 : goal.returns-in_err-from_slice-2
returns-in_err-from_slice-2 c = record {
  edits = unless_ok _ c.from_residual-in_err-from_slice-2.result c.from_residual-in_err-from_slice-2.ensures.0;
  touched = unless_ok _ c.from_residual-in_err-from_slice-2.result c.from_residual-in_err-from_slice-2.ensures.0;
  few = λ app reached ok sum. unless_ok _ c.from_residual-in_err-from_slice-2.result c.from_residual-in_err-from_slice-2.ensures.0;
  room = c.touched_slots.ensures.room;
}

pub returns-in_err-copy : goal.returns-in_err-copy
returns-in_err-copy c = record {
  edits = unless_ok _ c.from_residual-in_err-copy.result c.from_residual-in_err-copy.ensures.0;
  touched = unless_ok _ c.from_residual-in_err-copy.result c.from_residual-in_err-copy.ensures.0;
  few = λ app reached ok sum. unless_ok _ c.from_residual-in_err-copy.result c.from_residual-in_err-copy.ensures.0;
  room = c.touched_slots.ensures.room;
}

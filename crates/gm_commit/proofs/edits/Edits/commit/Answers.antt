use Rattle.std.proofs.Common.{◌≡◌, ◌+◌, ◌-◌, ◌≤◌, List, length, ap, ap₂, subst, sym, ◌∙◌}
use Rattle.gm_model.specs.declared.step.Step.{Step}
use Rattle.gm_commit.specs.inner.InstanceEdits.{rows_at, told_by}
use Rattle.gm_commit.specs.inner.EditLists.{EditLists, AreEditsOf, IsUntouched, cost_of}
use Rattle.gm_commit.specs.inner.OwnEdits.{OwnEdits}
use Rattle.gm_commit.specs.inner.OldDartValues.{lists_told, values_told}
use Rattle.gm_commit.proofs.edits.Edits.commit.Goals as goal

pub commit-requires : goal.commit-requires
commit-requires g c =
    let e = c.self.inside in
    let same = ap₂ (λ (freed made : List (List Step)). lists_told (told_by (rows_at e.dim e.removes e.goes freed made e.found)) e.added e.added_values.items (values_told e.orbits.items)) c.deref.ensures.value c.deref-2.ensures.value ∙ ap (λ (own : OwnEdits). own.lists) c.self.view_is in
    let edits = c.requires.edits in
    record {
      edits = (edits.0, edits.1, subst (AreEditsOf edits.0) (sym same) edits.2);
      names = subst (λ (lists : EditLists). c.args.arena.now.next + lists.added ≤ c.args.arena.now.reserved) (sym same) c.requires.names;
      room = subst (λ (lists : EditLists). lists.added ≤ c.args.arena.now.spare + length lists.removed) (sym same) c.requires.room;
    }

pub returns : goal.returns
returns g c =
    let e = c.self.inside in
    let same = ap₂ (λ (freed made : List (List Step)). lists_told (told_by (rows_at e.dim e.removes e.goes freed made e.found)) e.added e.added_values.items (values_told e.orbits.items)) c.deref.ensures.value c.deref-2.ensures.value ∙ ap (λ (own : OwnEdits). own.lists) c.self.view_is in
    let done = c.commit.ensures in
    record {
      unfolded = λ app rows ok. done.unfolded app rows (subst (AreEditsOf app) (sym same) ok);
      generalised = done.generalised;
      elsewhere = λ d low untouched. done.elsewhere d low (subst (λ (lists : EditLists). IsUntouched c.args.arena.now lists d) (sym same) untouched);
      schema = done.schema;
      count = subst (λ (lists : EditLists). c.commit.new.arena.count ≡ c.args.arena.now.count - length lists.removed + lists.added) same done.count;
      spare = subst (λ (lists : EditLists). c.commit.new.arena.spare + lists.added ≡ c.args.arena.now.spare + length lists.removed) same done.spare;
      reserved = done.reserved;
      cost = subst (λ (lists : EditLists). c.commit.new.steps ≡ c.args.steps.now + cost_of lists) same done.cost;
    }

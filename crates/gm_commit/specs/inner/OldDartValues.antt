-- The lists of edits that are told by a rule's changes and by decided orbits. No public clause cites this module.
use Rattle.std.specs.Prelude.{ℕ, ◌+◌, List, [], ◌∷◌, ◌++◌, Option, None, Some}
use Rattle.gm_model.specs.declared.value.Value.{Value}
use Rattle.gm_commit.specs.declared.changes.ValueAt.{ValueAt}
use Rattle.gm_commit.specs.declared.rewrite.Arcs.TheVariants.{Freed, Made}
use Rattle.gm_walk.specs.declared.at.At.{At}
use Rattle.gm_walk.specs.declared.at.At.TheVariants.{Old, New}
use Rattle.gm_pending.specs.declared.decided_orbits.DecidedOrbits.{DecidedOrbits}
use Rattle.gm_pending.specs.declared.deciding_instance.DecidingInstance.{DecidingInstance}
use Rattle.gm_walk.specs.declared.mark.Mark.{Mark}
use Rattle.gm_commit.specs.inner.InstanceEdits.{RewriteOf, all_arcs, all_removed, left_slots}
use Rattle.gm_commit.specs.inner.EditLists.{EditLists, edit_lists}
use Rattle.gm_pending.specs.inner.ValueSources.{given_of}

abbrev pub lists_told : RewriteOf → ℕ → List Value → List ValueAt → EditLists
lists_told rewrite added added_values values = edit_lists (left_slots rewrite) (all_arcs rewrite Freed) (all_removed rewrite) added added_values (all_arcs rewrite Made) values

-- ---- the values of old darts

-- that of a dart of the result, if it is an old one and its deciding instance has a value
abbrev pub told_at : ℕ → At → Option Value → List ValueAt
told_at e (Old slot) (Some v) = record { slot = slot; embed = e; value = v } ∷ []
told_at e (Old slot) None = []
told_at e (New x p) given = []

-- those of an embedding's marked darts, by their deciding instances
abbrev pub told_of : ℕ → List DecidingInstance → List Mark → List ValueAt
told_of e instances [] = []
told_of e instances (mark ∷ marks) = told_at e mark.at (given_of instances mark.instance) ++ told_of e instances marks

-- those of an embedding, where it was asked for
abbrev pub told_in : ℕ → Option DecidedOrbits → List ValueAt
told_in e None = []
told_in e (Some orbits) = told_of e orbits.instances.items orbits.marks

-- those of the embeddings from one on
abbrev pub told_from : ℕ → List (Option DecidedOrbits) → List ValueAt
told_from e [] = []
told_from e (orbits ∷ later) = told_in e orbits ++ told_from (e + 1) later

abbrev pub values_told : List (Option DecidedOrbits) → List ValueAt
values_told orbits = told_from 0 orbits

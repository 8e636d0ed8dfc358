use Rattle.std.proofs.Common.{◌≡◌, ℕ, ◌<◌, List, length, get_or, Some, ap, sym, subst, ◌∙◌}
use Rattle.std.specs.List.{slice_get}
use Rattle.std.specs.Option.{option_map}
use Rattle.std.proofs.lemmas.List.{length-map}
use Rattle.std.proofs.lemmas.List.Elements.{All-from_recursion}
use Rattle.std.proofs.lemmas.Option.{slice_get-map, slice_get-get_or}
use Rattle.gm_model.specs.declared.script.Entry.{Entry}
use Rattle.gm_model.specs.declared.value.Value.{Value}
use Rattle.gm_model.specs.inner.Entries.{AreEntriesOf, IsEntryOf, stat_at, stats_of}
use Rattle.gm_model.specs.Statements.{Stat, Statements}
use Rattle.gm_model.proofs.script.Script.get.Goals as goal

module _ (hooks : List ℕ) (params : List Value) (entries : List Entry) (i : ℕ) (entry : Entry) (is : entry ≡ get_or entries i entry) where
  -- the statement at a place is that of the entry there
  stat_here : (stats : List Stat) → stats_of hooks params entries ≡ stats → i < length stats → slice_get stats i ≡ Some (stat_at hooks params entry)
  stat_here stats same b =
      let within : i < length entries = rw (← length-map entries (stat_at hooks params), same) b in
      rw (← same) (slice_get-map (stat_at hooks params) entries i ∙ ap (option_map (stat_at hooks params)) (slice_get-get_or entries i entry within ∙ ap Some (sym is)))

  parts_here : (stats : List Stat) → stats_of hooks params entries ≡ stats → i < length stats → AreEntriesOf hooks params entries → IsEntryOf (length hooks) (length params) entry
  parts_here stats same b all =
      let within : i < length entries = rw (← length-map entries (stat_at hooks params), same) b in
      subst (IsEntryOf (length hooks) (length params)) (sym is) (All-from_recursion (IsEntryOf (length hooks) (length params)) entries all i entry within)

pub of-requires : goal.of-requires
of-requires c = rw c.deref.ensures.value (parts_here _ _ _ _ _ c.index-entry.ensures _ (ap (λ (value : Statements). value.stats) c.self.view_is) c.requires c.self.invariant).hooks

pub of-requires-in-Apply : goal.of-requires-in-Apply
of-requires-in-Apply c = rw c.deref-in-Apply.ensures.value (parts_here _ _ _ _ _ c.index-entry.ensures _ (ap (λ (value : Statements). value.stats) c.self.view_is) c.requires c.self.invariant).params

pub of-requires-in-Each : goal.of-requires-in-Each
of-requires-in-Each c = rw c.deref-in-Each.ensures.value (parts_here _ _ _ _ _ c.index-entry.ensures _ (ap (λ (value : Statements). value.stats) c.self.view_is) c.requires c.self.invariant).params

pub returns-in-Apply : goal.returns-in-Apply
returns-in-Apply c =
    let here = stat_here _ _ _ _ _ c.index-entry.ensures _ (ap (λ (value : Statements). value.stats) c.self.view_is) c.requires in
    rw (c.of.ensures, c.of-in-Apply.ensures, c.deref.ensures.value, c.deref-in-Apply.ensures.value) (rw c.in-Apply.is at here)

pub returns-in-Undo : goal.returns-in-Undo
returns-in-Undo c =
    let here = stat_here _ _ _ _ _ c.index-entry.ensures _ (ap (λ (value : Statements). value.stats) c.self.view_is) c.requires in
    rw c.in-Undo.is at here

pub returns-in-Redo : goal.returns-in-Redo
returns-in-Redo c =
    let here = stat_here _ _ _ _ _ c.index-entry.ensures _ (ap (λ (value : Statements). value.stats) c.self.view_is) c.requires in
    rw c.in-Redo.is at here

pub returns-in-Group : goal.returns-in-Group
returns-in-Group c =
    let here = stat_here _ _ _ _ _ c.index-entry.ensures _ (ap (λ (value : Statements). value.stats) c.self.view_is) c.requires in
    rw c.in-Group.is at here

pub returns-in-End : goal.returns-in-End
returns-in-End c =
    let here = stat_here _ _ _ _ _ c.index-entry.ensures _ (ap (λ (value : Statements). value.stats) c.self.view_is) c.requires in
    rw c.in-End.is at here

pub returns-in-Each : goal.returns-in-Each
returns-in-Each c =
    let here = stat_here _ _ _ _ _ c.index-entry.ensures _ (ap (λ (value : Statements). value.stats) c.self.view_is) c.requires in
    rw (c.of-in-Each.ensures, c.deref-in-Each.ensures.value) (rw c.in-Each.is at here)

-- The stages of a commit, over an arena that has the rows of an application's map.
use Rattle.std.proofs.Common.{◌≡◌, ℕ, ◌+◌, ◌-◌, ◌*◌, ◌<◌, ◌≤◌, List, [], length, sym, ap, ◌∙◌, subst, arith}
use Rattle.std.specs.FinMap.{get}
use Rattle.std.specs.List.{Contains}
use Rattle.gm_model.specs.declared.schema.Schema.{Schema}
use Rattle.gm_model.specs.GMap.{IsGMap}
use Rattle.gm_model.specs.Maps.{IsDart, IsGeneralised}
use Rattle.gm_arena.specs.declared.slot.Slot.{Slot}
use Rattle.gm_arena.specs.inner.ArenaAsMap.{as_map}
use Rattle.gm_arena.specs.inner.ArenaMap.{ArenaMap, alpha}
use Rattle.gm_arena.specs.inner.Parts.{part_of}
use Rattle.gm_arena.specs.inner.Lawful.{AreGoodValues}
use Rattle.gm_theory.proofs.Results.{unfolding_generalised}
use Rattle.gm_commit.specs.inner.Arcs.{Arc}
use Rattle.gm_commit.specs.declared.changes.ValueAt.{ValueAt}
use Rattle.gm_pending.specs.inner.Results.{PendingOf, scene_in}
use Rattle.gm_commit.specs.inner.EditLists.{EditLists, HasSameRows, AreEditsOf, IsResultOf, IsUntouched}
use Rattle.gm_commit.specs.inner.WrittenMap.{IsWritable, IsSettable, CanRemove, IsExtended, end_at, with_arcs, with_values, without_darts}
use Rattle.gm_commit.proofs.on_commit.ResultLeft
use Rattle.gm_pending.proofs.on_pending.PreparedIsLawful.{law}
use Rattle.gm_commit.proofs.on_new_darts.ValuesOfKind.{added_good}

-- the arena has the result, and as much room as it had before with that of the removed darts and without that of the added ones
pub record IsCommitted (app : PendingOf) (edits : EditLists) (start m : ArenaMap) : Type 0 where
  pub result : IsResultOf app m
  pub generalised : IsGeneralised (as_map m)
  pub schema : m.schema ≡ start.schema
  pub count : m.count ≡ start.count - length edits.removed + edits.added
  pub spare : m.spare + edits.added ≡ start.spare + length edits.removed
  pub reserved : m.reserved ≡ start.reserved
  pub elsewhere : (d : ℕ) → d < start.next → IsUntouched start edits d → get m.darts d ≡ get start.darts d

module _ (app : PendingOf) (edits : EditLists) (start : ArenaMap) (same : HasSameRows app.map start) (ok : AreEditsOf app edits) where
  pub freeing : (arc : Arc) → Contains edits.freed arc → IsWritable start [] arc
  freeing arc among = subst (λ m. IsWritable m [] arc) (sym same) (ResultLeft.can_free app edits ok start.spare start.reserved arc among)

  module _ (m1 : ArenaMap) (is_freed : m1 ≡ with_arcs (end_at start []) start edits.freed) where
    freed : m1 ≡ ResultLeft.freed app edits ok start.spare start.reserved
    freed = is_freed ∙ ap (λ m. with_arcs (end_at m []) m edits.freed) same

    pub removing : CanRemove m1 edits.removed
    removing = subst (λ m. CanRemove m edits.removed) (sym freed) (ResultLeft.can_go app edits ok start.spare start.reserved)

    module _ (m2 : ArenaMap) (is_fewer : m2 ≡ without_darts m1 edits.removed) where
      fewer : m2 ≡ ResultLeft.fewer app edits ok start.spare start.reserved
      fewer = is_fewer ∙ ap (λ m. without_darts m edits.removed) freed

      adding_schema : m2.schema ≡ app.map.schema
      adding_schema = ap (λ (m : ArenaMap). m.schema) fewer ∙ ResultLeft.fewer_schema app edits ok start.spare start.reserved

      pub adding_long : length edits.added_values ≡ edits.added * length m2.schema.embeds
      adding_long = rw adding_schema ok.added_values.long

      pub adding_values : (number : ℕ) → number < edits.added → AreGoodValues m2.schema (part_of (length m2.schema.embeds) edits.added_values number)
      adding_values number low = rw adding_schema (added_good app ok.prepared edits.added edits.added_values ok.added_values number low)

      pub adding_names : start.next + edits.added ≤ start.reserved → m2.next + edits.added ≤ m2.reserved
      adding_names h = omega (
        arith,
        ap (λ (m : ArenaMap). m.next) fewer,
        ap (λ (m : ArenaMap). m.reserved) fewer,
        ap (λ (m : ArenaMap). m.next) same,
        ResultLeft.fewer_next app edits ok start.spare start.reserved,
        ResultLeft.fewer_reserved app edits ok start.spare start.reserved,
      )

      pub adding_room : edits.added ≤ start.spare + length edits.removed → edits.added ≤ m2.spare
      adding_room h = omega (arith, ap (λ (m : ArenaMap). m.spare) fewer, ResultLeft.fewer_spare app edits ok start.spare start.reserved)

      module _ (made : List Slot) (m3 : ArenaMap) (is_more : IsExtended m2 edits.added_values made m3) (long : length made ≡ edits.added) where
        extended : IsExtended (ResultLeft.fewer app edits ok start.spare start.reserved) edits.added_values made m3
        extended = subst (λ m. IsExtended m edits.added_values made m3) fewer is_more

        pub linking : (arc : Arc) → Contains edits.arcs arc → IsWritable m3 made arc
        linking = ResultLeft.can_link app edits ok start.spare start.reserved made m3 extended long

        module _ (m4 : ArenaMap) (is_linked : m4 ≡ with_arcs (end_at m3 made) m3 edits.arcs) where
          linked : m4 ≡ ResultLeft.linked app edits ok start.spare start.reserved made m3 extended long
          linked = is_linked

          pub setting : (at : ValueAt) → Contains edits.values at → IsSettable m4 at
          setting at among = subst (λ m. IsSettable m at) (sym linked) (ResultLeft.can_set app edits ok start.spare start.reserved made m3 extended long at among)

          module _ (m5 : ArenaMap) (is_valued : m5 ≡ with_values m4 edits.values) where
            valued : m5 ≡ ResultLeft.valued app edits ok start.spare start.reserved made m3 extended long
            valued = is_valued ∙ ap (λ m. with_values m edits.values) linked

            result : IsResultOf app m5
            result = subst (IsResultOf app) (sym valued) (ResultLeft.committed app edits ok start.spare start.reserved made m3 extended long)

            pub committed : IsCommitted app edits start m5
            committed = record {
              result = result;
              generalised = subst (λ (s : Schema). IsGMap s.dim (IsDart (as_map m5)) (alpha m5)) (sym result.schema)
                  (unfolding_generalised (scene_in app) _ _ _ (law app ok.prepared) (IsDart (as_map m5)) (alpha m5) m5.next result.unfolded);
              schema = result.schema ∙ sym (ap (λ (m : ArenaMap). m.schema) same);
              count =
                  ap (λ (m : ArenaMap). m.count) valued ∙ ResultLeft.valued_count app edits ok start.spare start.reserved made m3 extended long
                  ∙ sym (ap (λ (m : ArenaMap). m.count - length edits.removed + edits.added) same);
              spare = ap (λ (m : ArenaMap). m.spare + edits.added) valued ∙ ResultLeft.valued_spare app edits ok start.spare start.reserved made m3 extended long;
              reserved = ap (λ (m : ArenaMap). m.reserved) valued ∙ ResultLeft.valued_reserved app edits ok start.spare start.reserved made m3 extended long;
              elsewhere = subst (λ (s : ArenaMap). (d : ℕ) → d < s.next → IsUntouched s edits d → get m5.darts d ≡ get s.darts d) (sym same) (λ d low untouched.
                  ap (λ (m : ArenaMap). get m.darts d) valued ∙ ResultLeft.elsewhere app edits ok start.spare start.reserved made m3 extended long d low untouched);
            }

-- What was built of numbers and values, said of the darts that these are.
use Rattle.std.proofs.Common.{◌≡◌, ℕ, ◌+◌, ◌*◌, ◌≤◌, List, length, Option, Some, None, refl, sym, ap, subst, ◌∙◌, arith}
use Rattle.gm_model.specs.declared.schema.Schema.{Schema}
use Rattle.gm_model.specs.declared.value.Value.{Value}
use Rattle.gm_arena.specs.inner.ArenaMap.{ArenaMap}
use Rattle.gm_mapfile.specs.declared.fault.MapFault.TheVariants as faults
use Rattle.gm_mapfile.specs.MapText.{Version, First, Second, DartRow, rows_of}
use Rattle.gm_mapfile.specs.MapFaults.{IsLeastTwice, AreNamedOnce, AreBelowStated}
use Rattle.gm_mapfile.specs.inner.Rows.{rows_in, darts_in}
use Rattle.gm_mapfile.specs.inner.Faults.{IsNameFault}
use Rattle.gm_mapfile.specs.inner.Building.{IsNextLeast, IsNextSet, IsLeastNotBelowStated, AreAdded, AreValued, AreLive, IsRelinked, AreLinked, IsFirstLack, IsHeld}
use Rattle.gm_mapfile.proofs.Chunks.{rows_of_darts_in, length_darts_in}
use Rattle.gm_mapfile.proofs.Whole.{link_ready, held_after, lack_after, set_schema}

not_below : (version : Version) (n : ℕ) (darts : List DartRow) (d : ℕ) → AreNamedOnce (rows_of darts) → IsLeastNotBelowStated version (rows_of darts) d → IsNameFault version n darts (faults.Next d)
not_below First n darts d once least = absurd least
not_below (Second next) n darts d once least = (once, least)

module _ (start old : ArenaMap) (numbers : List ℕ) (values : List Value) where
  abbrev darts : List DartRow
  darts = darts_in start.schema numbers values

  rows_are : (s : Schema) → s ≡ start.schema → rows_in s.dim numbers ≡ rows_of darts
  rows_are s same = ap (λ (t : Schema). rows_in t.dim numbers) same ∙ sym (rows_of_darts_in start.schema numbers values)

  many : (s : Schema) → s ≡ start.schema → length (rows_in s.dim numbers) ≡ length darts
  many s same = ap (λ (t : Schema). length (rows_in t.dim numbers)) same ∙ sym (length_darts_in start.schema numbers values)

  pub steps_added : (before after : ℕ) → after ≤ before + 2 * length (rows_in start.schema.dim numbers) → after ≤ before + (2 * start.schema.dim + 5) * length darts
  steps_added before after most = omega (arith, many start.schema refl, most)

  steps_linked : (t : Schema) (before middle after : ℕ) → t ≡ start.schema → middle ≤ before + 2 * length (rows_in start.schema.dim numbers) → after ≤ middle + (2 * t.dim + 3) * length (rows_in t.dim numbers) → after ≤ before + (2 * start.schema.dim + 5) * length darts
  steps_linked t before middle after other first second =
      let linked : after ≤ middle + (2 * start.schema.dim + 3) * length darts = subst (λ (u : Schema). after ≤ middle + (2 * u.dim + 3) * length darts) other (subst (λ k. after ≤ middle + (2 * t.dim + 3) * k) (many t other) second) in
      omega (arith, many start.schema refl, first, linked)

  module _ (old_is : old.schema ≡ start.schema) where
    added_here : (found : Option ℕ) → AreAdded start.schema.dim (rows_in start.schema.dim numbers) old found → AreAdded start.schema.dim (rows_of darts) old found
    added_here found added = subst (λ rows. AreAdded start.schema.dim rows old found) (rows_are start.schema refl) added

    old_rows : rows_in old.schema.dim numbers ≡ rows_of darts
    old_rows = rows_are old.schema old_is

    pub twice_of : (d : ℕ) → AreAdded start.schema.dim (rows_in start.schema.dim numbers) old (Some d) → IsLeastTwice (rows_of darts) d
    twice_of d added = (added_here (Some d) added).twice

    module _ (version : Version) (added : AreAdded start.schema.dim (rows_in start.schema.dim numbers) old None) where
      pub live_of : AreLive (rows_in old.schema.dim numbers) old
      live_of = subst (λ rows. AreLive rows old) (sym old_rows) (added_here None added).live

      pub not_below_of : (d : ℕ) → IsLeastNotBelowStated version (rows_in old.schema.dim numbers) d → IsNameFault version start.schema.dim darts (faults.Next d)
      not_below_of d least = not_below version start.schema.dim darts d (added_here None added).twice.0 (subst (λ rows. IsLeastNotBelowStated version rows d) old_rows least)

      module _ (set : ArenaMap) (next : IsNextSet version old set) where
        same_schema : set.schema ≡ start.schema
        same_schema = set_schema version start.schema darts start old set refl old_is (added_here None added) next

        set_rows : rows_in set.schema.dim numbers ≡ rows_of darts
        set_rows = rows_are set.schema same_schema

        pub link_ready_of : AreAdded set.schema.dim (rows_in set.schema.dim numbers) set None
        link_ready_of = subst (λ rows. AreAdded set.schema.dim rows set None) (sym set_rows) (link_ready version start.schema darts start old set refl old_is (added_here None added) next)

        pub held_of : (new : ArenaMap) → AreValued darts old → IsNextLeast old → IsRelinked set.schema.dim set new → AreLinked set.schema.dim set new (rows_in set.schema.dim numbers) → IsHeld version start.schema darts new
        held_of new valued least relinked linked =
            held_after version start.schema darts start old set refl old_is (added_here None added) next new valued least relinked (subst (AreLinked set.schema.dim set new) set_rows linked)

        pub lack_of : AreBelowStated version (rows_in old.schema.dim numbers) → (d i : ℕ) → IsFirstLack set.schema.dim set (rows_in set.schema.dim numbers) d i → IsNameFault version start.schema.dim darts (faults.NoTarget d i)
        lack_of below d i lack =
            let found = lack_after version start.schema darts start old set refl old_is (added_here None added) next d i (subst (λ rows. IsFirstLack set.schema.dim set rows d i) set_rows lack) in
            (found.0, subst (AreBelowStated version) old_rows below, found.1)

        pub steps_of : (before middle after : ℕ) → middle ≤ before + 2 * length (rows_in start.schema.dim numbers) → after ≤ middle + (2 * set.schema.dim + 3) * length (rows_in set.schema.dim numbers) → after ≤ before + (2 * start.schema.dim + 5) * length darts
        steps_of before middle after = steps_linked set.schema before middle after same_schema

        pub many_of : (before middle after : ℕ) (new : ArenaMap) → IsHeld version start.schema darts new → before + length (rows_in start.schema.dim numbers) ≤ middle → middle ≤ after → before + new.count ≤ after
        many_of before middle after new held first second = omega (arith, many start.schema refl, held.count, first, second)

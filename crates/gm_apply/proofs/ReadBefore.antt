-- What an earlier position read of a collector that is shared, an earlier reading of the embedding read.
use Rattle.std.proofs.Common.{◌≡◌, ℕ, suc, ◌<◌, ◌≤◌, ◌⊎◌, inl, inr, List, Some, slice_get, sym, ap, ap₂, ◌∙◌, arith}
use Rattle.std.specs.Option.{option_map}
use Rattle.std.proofs.lemmas.Bool.{cases_eq, cases_lt}
use Rattle.std.proofs.lemmas.Option.{slice_get-map}
use Rattle.gm_model.specs.Applications.{reading_at}
use Rattle.gm_model.specs.Kinds.{IsTreeInRange}
use Rattle.gm_model.specs.Orbits.{IsPairBefore}
use Rattle.gm_model.specs.Rules.{rule_of}
use Rattle.gm_model.specs.Trees.{Tree}
use Rattle.gm_theory.specs.inner.Theorem.{Unfolded, Unfolds, IsDartOf}
use Rattle.gm_theory.proofs.Lists.{some_same}
use Rattle.gm_arena.specs.inner.ArenaAsMap.{as_map}
use Rattle.gm_eval.specs.declared.kept.Collector.{Collector}
use Rattle.gm_eval.specs.inner.Sharing.{HasUnitsBeside, IsShared}
use Rattle.gm_eval.proofs.Sharing.{units_more}
use Rattle.gm_pending.specs.declared.deciding_instance.DecidingInstance.{DecidingInstance as Entry}
use Rattle.gm_pending.specs.inner.Results.{PendingOf, instances_of, place_of}
use Rattle.gm_apply.specs.declared.reading.Reading.{Reading}
use Rattle.gm_apply.specs.inner.ReadOnce.{IsReadBefore, IsReadOnce}
use Rattle.gm_apply.specs.inner.Readings.{IsExpression, WasRead, places_of, read_at}
use Rattle.gm_apply.specs.inner.Reads.{app_at, place_at, HasRead, IsReadable}
use Rattle.gm_apply.proofs.Giving.{IsEntryAt}
use Rattle.gm_apply.proofs.LikeReadOnce.{reads_in_range}
use Rattle.gm_apply.proofs.ReadValues.{some_embed}
use Rattle.gm_apply.proofs.Seen.{IsEntry, ascending_at, entry_for}

module _ (reading : Reading) (hooks : List ℕ) (readable : IsReadable reading hooks) (pending : PendingOf) (e i start steps : ℕ) (h : HasRead reading hooks pending (suc e) e i start steps)
    (x p : ℕ) (here : IsEntryAt (instances_of pending e) i x p) (result : Unfolded) (unfolds : Unfolds (as_map reading.arena.now) (rule_of reading.plan.now.table) (place_at reading) result) where
  in_range : (tree : Tree) → IsExpression reading e x tree → IsTreeInRange reading.arena.now.schema (rule_of reading.plan.now.table) tree
  in_range tree assigns =
      let few = h.few in
      let embed = some_embed reading.arena.now.schema.embeds e (omega (arith, few)) in
      (readable.accepted.typed.sets x e tree embed.0 assigns embed.1).in_range

  module _ (tree : Tree) (c : Collector) (assigns : IsExpression reading e x tree) (b : IsReadBefore (app_at reading hooks) (place_at reading) (IsDartOf result) result.alpha (record { embed = e; node = x; position = p }) tree c) where
    found : IsEntry reading hooks pending (suc e) e i start steps h result unfolds (record { embed = e; node = x; position = b.position })
    found = entry_for reading hooks pending (suc e) e i start steps h result unfolds (record { embed = e; node = x; position = b.position }) b.decides (omega arith)

    at : slice_get (places_of pending e) found.place ≡ Some (x, b.position)
    at = slice_get-map place_of (instances_of pending e) found.place ∙ ap (option_map place_of) found.at ∙ ap₂ (λ y q. Some (y, q)) found.node_is found.position_is

    not_behind : IsPairBefore here.entry.node here.entry.position found.entry.node found.entry.position → ⊥
    not_behind (inl less) = let first = here.node_is in let second = found.node_is in omega (arith, less, first, second)
    not_behind (inr (same, less)) = let before = b.before in let first = here.position_is in let second = found.position_is in omega (arith, less, before, first, second)

    not_here : found.place ≡ i → ⊥
    not_here same =
        let one : here.entry ≡ found.entry = some_same here.entry found.entry (sym here.at ∙ ap (slice_get (instances_of pending e)) (sym same) ∙ found.at) in
        let position : here.entry.position ≡ found.entry.position = ap (λ (entry : Entry). entry.position) one in
        let before = b.before in
        let first = here.position_is in
        let second = found.position_is in
        omega (arith, position, before, first, second)

    earlier : found.place < i
    earlier = go (cases_lt found.place i) (cases_eq found.place i)
      where
        go : (found.place < i) ⊎ (i ≤ found.place) → (found.place ≡ i) ⊎ (found.place ≡ i → ⊥) → found.place < i
        go (inl less) either = less
        go (inr more) (inl same) = absurd (not_here same)
        go (inr more) (inr apart) = absurd (not_behind (ascending_at reading hooks pending (suc e) e i start steps h result unfolds e i found.place here.entry found.entry (omega (arith, more, apart)) here.at found.at))

    shared : IsShared reading.arena.now reading.found.now b.position c
    shared q within =
        let ranges = reads_in_range reading.arena.now.schema (rule_of reading.plan.now.table) (reading_at (app_at reading hooks) (place_at reading) b.position) tree c (in_range tree assigns) b.reads in
        (readable.answer.matched.live c.node q ((readable.answer.matched.nodes c.node).0 ranges.1.node) within, b.shared q within)

    pub was_read : WasRead reading e (places_of pending e) i x tree c
    was_read = (found.place, b.position, earlier, at, b.reads, shared, b.few)

  -- what reading it once takes, it takes beside what was read before
  pub units_once : (u : ℕ) → IsReadOnce (app_at reading hooks) (place_at reading) (IsDartOf result) result.alpha (record { embed = e; node = x; position = p }) u
      → (tree : Tree) × IsExpression reading e x tree × HasUnitsBeside (WasRead reading e (places_of pending e) i x tree) (read_at reading p) tree u
  units_once u (tree, (assigns, within), units) =
      (tree, assigns, units_more (IsReadBefore (app_at reading hooks) (place_at reading) (IsDartOf result) result.alpha (record { embed = e; node = x; position = p }) tree) (WasRead reading e (places_of pending e) i x tree) (λ c b. was_read tree c assigns b) (read_at reading p) tree u units)

-- What edits, and the end of reading, are for the application.
use Rattle.std.proofs.Common.{ℕ, ◌+◌, ◌*◌, ◌≤◌, List, length, sym, ap, subst, arith}
use Rattle.std.proofs.lemmas.Option.{slice_get_within}
use Rattle.gm_model.specs.declared.schema.Embed.{Embed}
use Rattle.gm_model.specs.declared.value.Value.{Value}
use Rattle.gm_model.specs.Applications.{GivesValue, IsReachedSum, IsReadSum}
use Rattle.gm_model.specs.Maps.{IsEmbedAt}
use Rattle.gm_model.specs.Rules.{rule_of}
use Rattle.gm_arena.specs.inner.ArenaAsMap.{as_map}
use Rattle.gm_arena.specs.inner.ArenaMap.{ArenaMap}
use Rattle.gm_commit.specs.inner.EditLists.{EditLists, AreEditsOf, HasSameRows, IsReachedSumIn}
use Rattle.gm_pending.specs.inner.Results.{PendingOf, IsGivenIn, rule_in}
use Rattle.gm_theory.specs.inner.Theorem.{Unfolded, Unfolds, IsDartOf}
use Rattle.gm_theory.proofs.Lists.{some_same}
use Rattle.gm_apply.specs.declared.reading.Reading.{Reading}
use Rattle.gm_apply.specs.declared.refusal.Refusal.{Refusal}
use Rattle.gm_apply.specs.inner.ReadOnce.{IsReadOnceSum}
use Rattle.gm_apply.specs.inner.Reads.{app_at, place_at, pending_at, HasEdits, IsEnded, IsWithinEdits, IsWithinEditsOnce}

module _ (reading : Reading) (hooks : List ℕ) where
  -- so many steps more: for each instance, for each dart that gets a value, and for each unit that is read
  abbrev pub IsWithinRest : ℕ → ℕ → Type 0
  IsWithinRest start steps =
      (result : Unfolded) → Unfolds (as_map reading.arena.now) (rule_of reading.plan.now.table) (place_at reading) result → (reached read : ℕ)
      → IsReachedSum (app_at reading hooks) (place_at reading) (IsDartOf result) result.alpha reached → IsReadSum (app_at reading hooks) (place_at reading) (IsDartOf result) result.alpha read
      → steps ≤ start + 16 * (reading.arena.now.schema.dim + 1) * (length (rule_of reading.plan.now.table).nodes * reading.found.now.positions + reached + 1) + 6 * (reading.arena.now.schema.dim + 1) * read

  -- and where what is shared is read once
  abbrev pub IsWithinRestOnce : ℕ → ℕ → Type 0
  IsWithinRestOnce start steps =
      (result : Unfolded) → Unfolds (as_map reading.arena.now) (rule_of reading.plan.now.table) (place_at reading) result → (reached read : ℕ)
      → IsReachedSum (app_at reading hooks) (place_at reading) (IsDartOf result) result.alpha reached → IsReadOnceSum (app_at reading hooks) (place_at reading) (IsDartOf result) result.alpha read
      → steps ≤ start + 16 * (reading.arena.now.schema.dim + 1) * (length (rule_of reading.plan.now.table).nodes * reading.found.now.positions + reached + 1) + 6 * (reading.arena.now.schema.dim + 1) * read

  fits : (d n reached : ℕ) → 2 * d * reached + 6 * d * (n + reached + 1) + 4 * d * (n + reached + 1) ≤ 16 * d * (n + reached + 1)
  fits d n reached = omega arith

  kept_fits : (d n reached : ℕ) → 2 * d * reached + 6 * d * (n + reached + 1) + (8 * d * (n + reached + 1) + 2 * d * n) ≤ 16 * d * (n + reached + 1)
  kept_fits d n reached = omega arith

  edits_within : (start steps : ℕ) → IsWithinEdits reading hooks start steps → IsWithinRest start steps
  edits_within start steps within result unfolds reached read sum units =
      let all = within result reached read unfolds sum units in
      let few = fits (reading.arena.now.schema.dim + 1) (length (rule_of reading.plan.now.table).nodes * reading.found.now.positions) reached in
      omega (arith, all, few)

  pub ended_within : (refusal : Refusal) (start steps : ℕ) → IsEnded reading hooks refusal start steps → IsWithinRest start steps
  ended_within refusal start steps h = edits_within start steps h.within

  rest_once : (start steps : ℕ) → IsWithinEditsOnce reading hooks start steps → IsWithinRestOnce start steps
  rest_once start steps within result unfolds reached read sum units =
      let all = within result reached read unfolds sum units in
      let few = fits (reading.arena.now.schema.dim + 1) (length (rule_of reading.plan.now.table).nodes * reading.found.now.positions) reached in
      omega (arith, all, few)

  pub ended_within_once : (refusal : Refusal) (start steps : ℕ) → IsEnded reading hooks refusal start steps → IsWithinRestOnce start steps
  ended_within_once refusal start steps h = rest_once start steps h.once

  module _ (edits : EditLists) (start steps : ℕ) (h : HasEdits reading hooks edits start steps) where
    pub read_within_once : IsWithinRestOnce start steps
    read_within_once = rest_once start steps h.once

    pub read_within : IsWithinRest start steps
    read_within = edits_within start steps h.within

    pub edits_here : AreEditsOf (pending_at reading h.pending) edits
    edits_here = subst (λ p. AreEditsOf p edits) h.is h.edits_of

    pub rows_there : (m : ArenaMap) → HasSameRows reading.arena.now m → HasSameRows h.pending.map m
    rows_there m same = subst (λ n. HasSameRows n m) (sym (ap (λ (p : PendingOf). p.map) h.is)) same

    pub values_right : (e x p : ℕ) (embed : Embed) (v : Value) → IsEmbedAt reading.arena.now.schema e embed → IsGivenIn h.pending e x p v → GivesValue (app_at reading hooks) (place_at reading) e x p v
    values_right e x p embed v at given =
        let right = h.right e _ (slice_get_within reading.arena.now.schema.embeds e embed at) given in
        subst (GivesValue (app_at reading hooks) (place_at reading) e x p) (sym (some_same v right.0 right.1)) right.2

    -- so many steps for each instance and for each dart that gets a value, and two more for each label of each instance
    pub kept_within : (later : ℕ) → ((reached : ℕ) → IsReachedSumIn (pending_at reading h.pending) reached → later ≤ steps + (8 * (reading.arena.now.schema.dim + 1) * (length (rule_of reading.plan.now.table).nodes * reading.found.now.positions + reached + 1) + 2 * (reading.arena.now.schema.dim + 1) * (length (rule_of reading.plan.now.table).nodes * reading.found.now.positions)))
        → IsWithinRest start later
    kept_within later cost result unfolds reached read sum units =
        let in_all : IsReachedSumIn (pending_at reading h.pending) reached = record { result = result; unfolded = unfolds; counts = sum.counts; each = sum.each; counts_are = sum.counts_are; sum_is = sum.sum_is } in
        let last = cost reached in_all in
        let all = h.within result reached read unfolds sum units in
        let few = kept_fits (reading.arena.now.schema.dim + 1) (length (rule_of reading.plan.now.table).nodes * reading.found.now.positions) reached in
        omega (arith, all, last, few)

    pub committed_within : (later : ℕ) → ((app : PendingOf) (reached : ℕ) → AreEditsOf app edits → IsReachedSumIn app reached → later ≤ steps + 4 * (app.map.schema.dim + 1) * (length (rule_in app).nodes * app.placed.positions + reached + 1))
        → IsWithinRest start later
    committed_within later cost result unfolds reached read sum units =
        let in_all : IsReachedSumIn (pending_at reading h.pending) reached = record { result = result; unfolded = unfolds; counts = sum.counts; each = sum.each; counts_are = sum.counts_are; sum_is = sum.sum_is } in
        let last = cost (pending_at reading h.pending) reached edits_here in_all in
        let all = h.within result reached read unfolds sum units in
        let few = fits (reading.arena.now.schema.dim + 1) (length (rule_of reading.plan.now.table).nodes * reading.found.now.positions) reached in
        omega (arith, all, last, few)

    pub committed_within_once : (later : ℕ) → ((app : PendingOf) (reached : ℕ) → AreEditsOf app edits → IsReachedSumIn app reached → later ≤ steps + 4 * (app.map.schema.dim + 1) * (length (rule_in app).nodes * app.placed.positions + reached + 1))
        → IsWithinRestOnce start later
    committed_within_once later cost result unfolds reached read sum units =
        let in_all : IsReachedSumIn (pending_at reading h.pending) reached = record { result = result; unfolded = unfolds; counts = sum.counts; each = sum.each; counts_are = sum.counts_are; sum_is = sum.sum_is } in
        let last = cost (pending_at reading h.pending) reached edits_here in_all in
        let all = h.once result reached read unfolds sum units in
        let few = fits (reading.arena.now.schema.dim + 1) (length (rule_of reading.plan.now.table).nodes * reading.found.now.positions) reached in
        omega (arith, all, last, few)

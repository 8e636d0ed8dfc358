-- Edits that were prepared, and the steps that they leave.
use Rattle.std.proofs.Common.{◌≡◌, ℕ, ◌+◌, ◌*◌, ◌≤◌, List, length, subst, sym, arith}
use Rattle.std.proofs.lemmas.Nat.{mul-le}
use Rattle.gm_model.specs.Applications.{HasPositions, IsBudget, IsDone, IsReachedSum, IsReadSum, IsWork}
use Rattle.gm_model.specs.Maps.{IsSchema, IsSound}
use Rattle.gm_model.specs.Rules.{rule_of}
use Rattle.gm_model.specs.Unfolding.{added_nodes}
use Rattle.gm_arena.specs.inner.ArenaAsMap.{as_map}
use Rattle.gm_arena.specs.inner.ArenaMap.{ArenaMap}
use Rattle.gm_commit.specs.inner.EditLists.{EditLists, AreEditsOf, HasSameRows, IsReachedSumIn}
use Rattle.gm_commit.specs.inner.OwnEdits.{OwnEdits, AreTouched}
use Rattle.gm_pending.specs.inner.Results.{PendingOf, rule_in}
use Rattle.gm_commit.proofs.on_rewrite.EditsOfRule.{few_added}
use Rattle.gm_theory.specs.inner.Theorem.{Unfolded, Unfolds, IsDartOf}
use Rattle.gm_apply.specs.declared.reading.Reading.{Reading}
use Rattle.gm_apply.specs.inner.Prepared.{IsCommittedOf, IsReadyToCommit, cost_with_rows, rows_of}
use Rattle.gm_apply.specs.inner.Reads.{app_at, place_at, pending_at, IsReadable, IsReadyAt}
use Rattle.gm_apply.proofs.Budgets.{positions_here, ready_within, ready_work}
use Rattle.gm_apply.proofs.Readying.{are_here, done, edits_there, new_is, old_is}

few_product : (p a n : ℕ) → a ≤ n → p * a ≤ n * p
few_product p a n h = grind arith

-- no more darts are added than there are instances
few_new : (app : PendingOf) (edits : EditLists) → AreEditsOf app edits → edits.added ≤ length (rule_in app).nodes * app.placed.positions
few_new app edits ok =
    let few : added_nodes (rule_in app) ≤ length (rule_in app).nodes = few_added app ok.prepared (length (rule_in app).nodes) in
    let all : app.placed.positions * added_nodes (rule_in app) ≤ length (rule_in app).nodes * app.placed.positions = few_product app.placed.positions (added_nodes (rule_in app)) (length (rule_in app).nodes) few in
    omega (arith, all, ok.added_is)

-- the touched darts are few, of whichever application these are the edits
abbrev pub AreFew : EditLists → ℕ → Type 0
AreFew edits touched = (app : PendingOf) (reached : ℕ) → AreEditsOf app edits → IsReachedSumIn app reached → touched ≤ length (rule_in app).nodes * app.placed.positions + reached

rows_fit : (d n reached steps edits values touched added : ℕ) → 1 ≤ d → edits ≤ 4 * (d * n) → values ≤ reached → touched ≤ n + reached → added ≤ n
    → steps + (edits + values + 4 * d * touched + 2 * d * added) ≤ steps + (8 * d * (n + reached + 1) + 2 * d * n)
rows_fit d n reached steps edits values touched added some e v t a =
    let values_each : reached ≤ d * reached = grind arith in
    let touched_all : 4 * d * touched ≤ 4 * d * (n + reached) = mul-le (4 * d) touched (4 * d) (n + reached) (omega arith) t in
    let added_all : 2 * d * added ≤ 2 * d * n = mul-le (2 * d) added (2 * d) n (omega arith) a in
    omega (arith, e, v, values_each, touched_all, added_all)

few_fit : (d n reached touched added : ℕ) → touched ≤ n + reached → added ≤ n → 7 * d * (2 * touched + added) ≤ 8 * d * (n + 1) + 16 * d * (n + reached + 1)
few_fit d n reached touched added t a =
    let all : 7 * d * (2 * touched + added) ≤ 7 * d * (2 * (n + reached) + n) = mul-le (7 * d) (2 * touched + added) (7 * d) (2 * (n + reached) + n) (omega arith) (omega (arith, t, a)) in
    omega (arith, all)

module _ (reading : Reading) (hooks : List ℕ) (readable : IsReadable reading hooks) (added removed : ℕ) (lists : EditLists) (start steps : ℕ) (ready : IsReadyAt reading hooks added removed lists start steps) where
  -- a commit, and reading the rows before and behind it
  pub rows_within : (edits : OwnEdits) → edits.lists ≡ lists → AreFew lists (length edits.touched) → (reached : ℕ) → IsReachedSumIn (pending_at reading ready.edited.pending) reached
      → steps + cost_with_rows reading.arena.now.schema.dim edits ≤ steps + (8 * (reading.arena.now.schema.dim + 1) * (length (rule_of reading.plan.now.table).nodes * reading.found.now.positions + reached + 1) + 2 * (reading.arena.now.schema.dim + 1) * (length (rule_of reading.plan.now.table).nodes * reading.found.now.positions))
  rows_within edits same few reached sum =
      let here = are_here reading hooks readable added removed lists start steps ready in
      let all = rows_fit (reading.arena.now.schema.dim + 1) (length (rule_of reading.plan.now.table).nodes * reading.found.now.positions) reached steps (length lists.freed + length lists.removed + lists.added + length lists.arcs) (length lists.values) (length edits.touched) lists.added (omega arith) here.few (here.values.few reached sum)
      (few (pending_at reading ready.edited.pending) reached here sum) (few_new (pending_at reading ready.edited.pending) lists here) in
      rw same (omega (arith, all))

  -- the edits have rows within the budget
  pub few_rows : IsSchema reading.arena.now.schema → (most : ℕ) → IsBudget (app_at reading hooks) most → (edits : OwnEdits) → edits.lists ≡ lists → AreFew lists (length edits.touched) → 7 * (reading.arena.now.schema.dim + 1) * rows_of edits ≤ most
  few_rows of_schema most budget edits same few =
      let d = reading.arena.now.schema.dim + 1 in
      let n = length (rule_of reading.plan.now.table).nodes * reading.found.now.positions in
      let within = ready_within reading.arena.now (rule_of reading.plan.now.table) hooks reading.params.now readable.sound readable.accepted reading.found.now readable.answer of_schema ready.room.ready most 0 (8 * d * (n + 1)) (8 * d * (n + 1)) (7 * d * rows_of edits) budget
      (λ k positions. let is = positions_here reading.arena.now (rule_of reading.plan.now.table) hooks reading.params.now readable.sound readable.accepted reading.found.now readable.answer k positions in rw is (omega arith))
      (λ u units. omega arith) rest in
      omega (arith, within)
    where
      rest : (result : Unfolded) → Unfolds (as_map reading.arena.now) (rule_of reading.plan.now.table) (place_at reading) result → (reached read : ℕ) → IsReachedSum (app_at reading hooks) (place_at reading) (IsDartOf result) result.alpha reached → IsReadSum (app_at reading hooks) (place_at reading) (IsDartOf result) result.alpha read
          → 7 * (reading.arena.now.schema.dim + 1) * rows_of edits ≤ 8 * (reading.arena.now.schema.dim + 1) * (length (rule_of reading.plan.now.table).nodes * reading.found.now.positions + 1) + 16 * (reading.arena.now.schema.dim + 1) * (length (rule_of reading.plan.now.table).nodes * reading.found.now.positions + reached + 1) + 6 * (reading.arena.now.schema.dim + 1) * read
      rest result unfolds reached read sum units =
          let in_all : IsReachedSumIn (pending_at reading ready.edited.pending) reached = record { result = result; unfolded = unfolds; counts = sum.counts; each = sum.each; counts_are = sum.counts_are; sum_is = sum.sum_is } in
          let here = are_here reading hooks readable added removed lists start steps ready in
          let fit = few_fit (reading.arena.now.schema.dim + 1) (length (rule_of reading.plan.now.table).nodes * reading.found.now.positions) reached (length edits.touched) lists.added (few (pending_at reading ready.edited.pending) reached here in_all) (few_new (pending_at reading ready.edited.pending) lists here) in
          rw same (omega (arith, fit))

  -- the touched darts are no more than the instances and the darts that get values
  pub few_touched : IsSchema reading.arena.now.schema → (k reached read touched : ℕ) → AreFew lists touched → HasPositions (app_at reading hooks) k → IsWork (app_at reading hooks) reached read → touched ≤ length (rule_of reading.plan.now.table).nodes * k + reached
  few_touched of_schema k reached read touched few positions work =
      let this = ready_work reading.arena.now (rule_of reading.plan.now.table) hooks reading.params.now readable.sound readable.accepted reading.found.now readable.answer of_schema ready.room.ready reached read work in
      let in_all : IsReachedSumIn (pending_at reading ready.edited.pending) reached = record { result = this.result; unfolded = this.unfolds; counts = this.reaches.counts; each = this.reaches.each; counts_are = this.reaches.counts_are; sum_is = this.reaches.sum_is } in
      let here = are_here reading hooks readable added removed lists start steps ready in
      subst (λ n. touched ≤ length (rule_of reading.plan.now.table).nodes * n + reached) (sym (positions_here reading.arena.now (rule_of reading.plan.now.table) hooks reading.params.now readable.sound readable.accepted reading.found.now readable.answer k positions))
      (few (pending_at reading ready.edited.pending) reached here in_all)

  -- the arena is ready for a commit
  pub prepared : (m : ArenaMap) (edits : OwnEdits) → HasSameRows reading.arena.now m → edits.lists ≡ lists → m.next + lists.added ≤ m.reserved → lists.added ≤ m.spare + length lists.removed → AreTouched m lists edits.touched
      → ((after : ArenaMap) → IsDone (app_at reading hooks) (as_map after) added removed → IsSound (as_map after)) → IsReadyToCommit (app_at reading hooks) m edits
  prepared m edits rows same names room touched sound = record {
    here = rw same (edits_there reading hooks readable added removed lists start steps ready m rows);
    names = rw same names;
    room = rw same room;
    done = λ after committed. rw (same, new_is reading hooks readable added removed lists start steps ready, old_is reading hooks readable added removed lists start steps ready) (done_after after committed);
    sound = λ after committed. sound after (done_after after committed);
    touched = rw same touched;
  }
    where
      done_after : (after : ArenaMap) → IsCommittedOf m edits.lists after → IsDone (app_at reading hooks) (as_map after) added removed
      done_after after committed = done reading hooks readable added removed lists start steps ready m after rows (subst (λ l. IsCommittedOf m l after) same committed)

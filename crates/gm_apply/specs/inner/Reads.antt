-- What of an application was read: the values of its deciding instances, embedding by embedding. No public clause cites this module.
use Rattle.std.specs.Prelude.{◌≡◌, ℕ, zero, suc, ◌+◌, ◌*◌, ◌<◌, ◌≤◌, ◌⊎◌, List, [], ◌++◌, map, sum, take, length, slice_get, Some}
use Rattle.std.specs.List.{AllZip, Contains}
use Rattle.gm_model.specs.declared.rule.Set.{Set}
use Rattle.gm_model.specs.declared.schema.Embed.{Embed}
use Rattle.gm_model.specs.declared.value.Value.{Value}
use Rattle.gm_model.specs.Acceptance.{IsAccepted}
use Rattle.gm_model.specs.Applications.{Application, Decider, GivesValue, HasPositions, IsBudget, IsPreUnits, IsReady, IsReadUnits, IsReadSum, IsReachedSum}
use Rattle.gm_model.specs.Kinds.{AreGoodParams}
use Rattle.gm_model.specs.Limits.{most_darts}
use Rattle.gm_model.specs.Maps.{IsEmbedAt, IsSound}
use Rattle.gm_model.specs.Matches.{Placement}
use Rattle.gm_model.specs.Rules.{rule_of}
use Rattle.gm_theory.specs.inner.Theorem.{Unfolded, Unfolds, IsDartOf}
use Rattle.gm_arena.specs.inner.ArenaAsMap.{as_map}
use Rattle.gm_match.specs.inner.Outcome.{application_of, IsAnswer}
use Rattle.gm_pending.specs.declared.deciding_instance.DecidingInstance.{DecidingInstance as Entry}
use Rattle.gm_commit.specs.inner.EditLists.{EditLists, AreEditsOf}
use Rattle.gm_pending.specs.inner.Results.{PendingOf, IsAsked, AreDecidingInstances, instances_of}
use Rattle.gm_plan.specs.inner.InArena.{placement_in}
use Rattle.gm_apply.specs.declared.reading.Reading.{Reading}
use Rattle.gm_apply.specs.declared.refusal.Refusal.{Refusal}
use Rattle.gm_apply.specs.inner.Outcomes.{IsRefusedFor, HasRoom}
use Rattle.gm_apply.specs.inner.ReadOnce.{IsBudgetOnce, IsReadOnce, IsReadOnceSum}

-- ---- where expressions are read

abbrev pub app_at : Reading → List ℕ → Application
app_at reading hooks = application_of reading.arena.now (rule_of reading.plan.now.table) hooks reading.params.now

abbrev pub place_at : Reading → Placement
place_at reading = placement_in reading.arena.now reading.found.now

-- the rule is accepted, its match is found in a sound map at these hook darts, and the parameters have values of their kinds
pub record IsReadable (reading : Reading) (hooks : List ℕ) : Type 0 where
  pub sound : IsSound (as_map reading.arena.now)
  pub schema : reading.arena.now.schema ≡ reading.plan.now.schema
  pub accepted : IsAccepted reading.arena.now.schema (rule_of reading.plan.now.table)
  pub params : AreGoodParams (rule_of reading.plan.now.table) reading.params.now
  pub answer : IsAnswer reading.arena.now (rule_of reading.plan.now.table) hooks reading.found.now

-- an assignment of the list is to the embedding
abbrev pub SetsEmbed : List Set → ℕ → Type 0
SetsEmbed sets e = (k : ℕ) × (s : Set) × (slice_get sets k ≡ Some s) × (s.embed ≡ e)

-- ---- what was read

-- the application that is pending, and what was asked of it
abbrev pub pending_at : Reading → PendingOf → PendingOf
pending_at reading pending = record { map = reading.arena.now; table = reading.plan.now.table; placed = reading.found.now; asked = pending.asked }

-- before anything was asked
abbrev pub unasked_at : Reading → PendingOf
unasked_at reading = record { map = reading.arena.now; table = reading.plan.now.table; placed = reading.found.now; asked = [] }

-- a deciding instance of the embedding
abbrev pub decider_at : ℕ → Entry → Decider
decider_at e entry = record { embed = e; node = entry.node; position = entry.position }

abbrev pub seen_at : PendingOf → ℕ → List Decider
seen_at pending e = map (decider_at e) (instances_of pending e)

-- those of the first embeddings
abbrev pub seen_before : PendingOf → ℕ → List Decider
seen_before pending zero = []
seen_before pending (suc e) = seen_before pending e ++ seen_at pending e

-- those of the first embeddings, and the first of the next
abbrev pub seen_to : PendingOf → ℕ → ℕ → List Decider
seen_to pending e i = seen_before pending e ++ take i (seen_at pending e)

module _ (reading : Reading) (hooks : List ℕ) where
  -- the deciding instance was given the value of its expression
  abbrev pub IsGivenRight : ℕ → Entry → Type 0
  IsGivenRight e entry = (v : Value) × (entry.given ≡ Some v) × GivesValue (app_at reading hooks) (place_at reading) e entry.node entry.position v

  -- from start to steps: 2(n + 1) for each dart that the first embeddings reach, and 6(n + 1) for each unit of what was seen
  abbrev pub IsWithinSeenBy : (Unfolded → Decider → ℕ → Type 0) → List Decider → ℕ → ℕ → ℕ → Type 0
  IsWithinSeenBy IsUnits seen e start steps =
      (result : Unfolded) (count : ℕ) (units : List ℕ) → Unfolds (as_map reading.arena.now) (rule_of reading.plan.now.table) (place_at reading) result
      → (reached : IsReachedSum (app_at reading hooks) (place_at reading) (IsDartOf result) result.alpha count) → AllZip (IsUnits result) seen units
      → steps ≤ start + 2 * (reading.arena.now.schema.dim + 1) * sum (take e reached.counts) + 6 * (reading.arena.now.schema.dim + 1) * sum units

  abbrev pub IsWithinSeen : List Decider → ℕ → ℕ → ℕ → Type 0
  IsWithinSeen seen e start steps = IsWithinSeenBy (λ result. IsReadUnits (app_at reading hooks) (place_at reading)) seen e start steps

  -- where what is shared is read once
  abbrev pub IsWithinSeenOnce : List Decider → ℕ → ℕ → ℕ → Type 0
  IsWithinSeenOnce seen e start steps = IsWithinSeenBy (λ result. IsReadOnce (app_at reading hooks) (place_at reading) (IsDartOf result) result.alpha) seen e start steps

  -- The embeddings below `asked` were asked for. Of those below e each deciding instance has its value, and of e each of the first i.
  pub record HasRead (pending : PendingOf) (asked e i start steps : ℕ) : Type 0 where
    pub is : pending ≡ pending_at reading pending
    pub each : length pending.asked ≡ length reading.arena.now.schema.embeds
    pub few : asked ≤ length reading.arena.now.schema.embeds
    pub known : (k : ℕ) → k < asked → IsAsked pending k
    pub unknown : (k : ℕ) → asked ≤ k → IsAsked pending k → ⊥
    pub deciders : (k : ℕ) (embed : Embed) → k < asked → IsEmbedAt reading.arena.now.schema k embed → AreDecidingInstances (unasked_at reading) k embed (instances_of pending k)
    pub given : (k j : ℕ) (entry : Entry) → slice_get (instances_of pending k) j ≡ Some entry → (k < e) ⊎ ((k ≡ e) × (j < i)) → IsGivenRight k entry
    pub rises : start ≤ steps
    pub within : IsWithinSeen (seen_to pending e i) asked start steps
    pub once : IsWithinSeenOnce (seen_to pending e i) asked start steps

  -- not more steps than what is reached and read takes
  abbrev pub IsWithinRead : ℕ → ℕ → Type 0
  IsWithinRead start steps =
      (result : Unfolded) (count read : ℕ) → Unfolds (as_map reading.arena.now) (rule_of reading.plan.now.table) (place_at reading) result
      → IsReachedSum (app_at reading hooks) (place_at reading) (IsDartOf result) result.alpha count → IsReadSum (app_at reading hooks) (place_at reading) (IsDartOf result) result.alpha read
      → steps ≤ start + 2 * (reading.arena.now.schema.dim + 1) * count + 6 * (reading.arena.now.schema.dim + 1) * read

  -- where what is shared is read once
  abbrev pub IsWithinReadOnce : ℕ → ℕ → Type 0
  IsWithinReadOnce start steps =
      (result : Unfolded) (count read : ℕ) → Unfolds (as_map reading.arena.now) (rule_of reading.plan.now.table) (place_at reading) result
      → IsReachedSum (app_at reading hooks) (place_at reading) (IsDartOf result) result.alpha count → IsReadOnceSum (app_at reading hooks) (place_at reading) (IsDartOf result) result.alpha read
      → steps ≤ start + 2 * (reading.arena.now.schema.dim + 1) * count + 6 * (reading.arena.now.schema.dim + 1) * read

  -- and what edits of that take
  abbrev pub IsWithinEdits : ℕ → ℕ → Type 0
  IsWithinEdits start steps =
      (result : Unfolded) (count read : ℕ) → Unfolds (as_map reading.arena.now) (rule_of reading.plan.now.table) (place_at reading) result
      → IsReachedSum (app_at reading hooks) (place_at reading) (IsDartOf result) result.alpha count → IsReadSum (app_at reading hooks) (place_at reading) (IsDartOf result) result.alpha read
      → steps ≤ start + 2 * (reading.arena.now.schema.dim + 1) * count + 6 * (reading.arena.now.schema.dim + 1) * read
      + 6 * (reading.arena.now.schema.dim + 1) * (length (rule_of reading.plan.now.table).nodes * reading.found.now.positions + count + 1)

  -- where what is shared is read once
  abbrev pub IsWithinEditsOnce : ℕ → ℕ → Type 0
  IsWithinEditsOnce start steps =
      (result : Unfolded) (count read : ℕ) → Unfolds (as_map reading.arena.now) (rule_of reading.plan.now.table) (place_at reading) result
      → IsReachedSum (app_at reading hooks) (place_at reading) (IsDartOf result) result.alpha count → IsReadOnceSum (app_at reading hooks) (place_at reading) (IsDartOf result) result.alpha read
      → steps ≤ start + 2 * (reading.arena.now.schema.dim + 1) * count + 6 * (reading.arena.now.schema.dim + 1) * read
      + 6 * (reading.arena.now.schema.dim + 1) * (length (rule_of reading.plan.now.table).nodes * reading.found.now.positions + count + 1)

  -- it ended with a refusal, as the application is refused where it is ready
  pub record IsEnded (refusal : Refusal) (start steps : ℕ) : Type 0 where
    pub refused : IsReady (app_at reading hooks) (place_at reading) → IsRefusedFor (app_at reading hooks) refusal
    pub rises : start ≤ steps
    pub within : IsWithinEdits start steps
    pub once : IsWithinEditsOnce start steps

  -- the edits are those of the application, where each deciding instance was given the value of its expression
  pub record HasEdits (edits : EditLists) (start steps : ℕ) : Type 0 where
    pub pending : PendingOf
    pub is : pending ≡ pending_at reading pending
    pub right : (k : ℕ) (entry : Entry) → k < length reading.arena.now.schema.embeds → Contains (instances_of pending k) entry → IsGivenRight k entry
    pub edits_of : AreEditsOf pending edits
    pub rises : start ≤ steps
    pub within : IsWithinEdits start steps
    pub once : IsWithinEditsOnce start steps

  -- it is ready: so much is added and removed, from start to read steps the precondition was read, and after that the edits were made
  pub record IsReadyAt (added removed : ℕ) (edits : EditLists) (start steps : ℕ) : Type 0 where
    pub room : HasRoom (app_at reading hooks) (place_at reading) added removed
    pub few : reading.arena.now.count + added ≤ most_darts + removed
    pub read : ℕ
    pub rises : start ≤ read
    pub pre : (u : ℕ) → IsPreUnits (app_at reading hooks) (place_at reading) u → read ≤ start + 6 * (reading.arena.now.schema.dim + 1) * u
    pub edited : HasEdits edits read steps

  -- it is refused, within the budget where the match was found within its part
  pub record IsRefusedAt (refusal : Refusal) (start steps : ℕ) : Type 0 where
    pub refused : IsRefusedFor (app_at reading hooks) refusal
    pub rises : start ≤ steps
    pub within : (most before : ℕ) → IsBudget (app_at reading hooks) most
        → ((k : ℕ) → HasPositions (app_at reading hooks) k → start ≤ before + 8 * (reading.arena.now.schema.dim + 1) * (length (rule_of reading.plan.now.table).nodes * k + 1)) → steps ≤ before + most
    pub once : (most before : ℕ) → IsBudgetOnce (app_at reading hooks) most
        → ((k : ℕ) → HasPositions (app_at reading hooks) k → start ≤ before + 8 * (reading.arena.now.schema.dim + 1) * (length (rule_of reading.plan.now.table).nodes * k + 1)) → steps ≤ before + most

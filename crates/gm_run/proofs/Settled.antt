-- What is kept is enough for each statement, as the run goes on.
use Rattle.std.proofs.Common.{◌≡◌, ◌≢◌, ℕ, ◌+◌, ◌≤◌, Bool, true, false, List, [], ◌∷◌, take, drop, Some, refl, sym, ap, subst, ◌∙◌, arith}
use Rattle.std.specs.List.{sum_by}
use Rattle.std.specs.Prelude.{is_some, slice_get}
use Rattle.std.proofs.lemmas.Bool.{false≢true}
use Rattle.std.proofs.lemmas.List.Sums.{sum_by-append}
use Rattle.gm_model.specs.Budgets.{Entries, no_entries}
use Rattle.gm_model.specs.Histories.{Group, no_history}
use Rattle.gm_model.specs.Rules.{Rule}
use Rattle.gm_model.specs.Runs.{State, IsStatOutcome, IsDoneHere, IsRefusedHere, IsSkipped, GoesBack, HasNoPast, GoesForth, HasNoFuture, Begins, Ends, IsTakenBack, GoesOver, is_done_turn}
use Rattle.gm_model.specs.Runs as runs
use Rattle.gm_model.specs.Statements.{Stat}
use Rattle.gm_model.specs.Statements as statements
use Rattle.std.specs.List.{count_by}
use Rattle.gm_arena.specs.inner.ArenaMap.{ArenaMap}
use Rattle.gm_undo.specs.inner.Costs.{MayTake}
use Rattle.gm_undo.specs.inner.Standing.{StandsFor}
use Rattle.gm_run.specs.declared.outcome.Outcome.{Outcome}
use Rattle.gm_run.specs.declared.standing.Open.{Open}
use Rattle.gm_run.specs.declared.standing.Open.TheVariants as opens
use Rattle.gm_run.specs.declared.standing.Standing.{Standing}
use Rattle.gm_run.specs.inner.Standing.{HasOpen, HasStep, IsAllowed, IsInGroup, KeepsEnough, NeedsHistory, StandsAt, going}
use Rattle.gm_run.proofs.EachSteps.{any_group}
use Rattle.gm_run.proofs.Telling.{behind, last_taken}
use Rattle.gm_run.proofs.Through.{each_open, is_open, open_as, still_open}

-- ---- how many go back or on

pub one_going_more : (stats : List Stat) (k : ℕ) (stat : Stat) → slice_get stats k ≡ Some stat → (all one : ℕ) → all ≡ sum_by going (take k stats) → one ≡ going stat → all + one ≡ sum_by going (take (k + 1) stats)
one_going_more stats k stat at all one so_far is =
    let more = sum_by-append going (take k stats) (stat ∷ []) in
    let same = ap (sum_by going) (last_taken stats k stat at) in
    omega (arith, so_far, is, more, same)

pub one_going_less : (stats : List Stat) (k : ℕ) (stat : Stat) → slice_get stats k ≡ Some stat → sum_by going (drop k stats) ≡ going stat + sum_by going (drop (k + 1) stats)
one_going_less stats k stat at =
    let more = sum_by-append going (stat ∷ []) (drop (k + 1) stats) in
    let same = ap (sum_by going) (behind stats k stat at) in
    omega (arith, more, same)

pub going_within : (stats : List Stat) (k : ℕ) (stat : Stat) → slice_get stats k ≡ Some stat → (reach : ℕ) → reach ≡ sum_by going (drop k stats) → going stat ≤ reach
going_within stats k stat at reach is = let less = one_going_less stats k stat at in omega (arith, is, less)

-- ---- a group is open where one was, or where it begins

in_open : (opened : Open) → IsInGroup opened → is_open opened ≡ true
in_open opens.Nothing inside = absurd inside
in_open opens.Whole inside = refl
in_open opens.Broken inside = refl

open_in : (opened : Open) → is_open opened ≡ true → IsInGroup opened
open_in opens.Nothing e = absurd (false≢true e)
open_in opens.Whole e = tt
open_in opens.Broken e = tt

was_open : (rules : List Rule) (state : State) (stat : Stat) (outcome : runs.Outcome) (after : State) → IsStatOutcome rules state stat outcome after → (NeedsHistory stat → ⊥) → is_some after.history.group ≡ true → is_some state.history.group ≡ true
was_open rules state _ _ _ (IsDoneHere line added removed after whole is) other e = still_open state.history.group ∙ e
was_open rules state _ _ _ (IsRefusedHere line cause whole is) other e = e
was_open rules state _ _ _ (IsSkipped line broken) other e = e
was_open rules state _ _ _ (GoesBack before history is) other e = absurd (other tt)
was_open rules state _ _ _ (HasNoPast outside none) other e = absurd (other tt)
was_open rules state _ _ _ (GoesForth after history is) other e = absurd (other tt)
was_open rules state _ _ _ (HasNoFuture outside none) other e = absurd (other tt)
was_open rules state _ _ _ (Begins outside) other e = absurd (other tt)
was_open rules state _ _ _ (Ends group is whole) other e = absurd (other tt)
was_open rules state _ _ _ (IsTakenBack group is broken) other e = absurd (other tt)
was_open rules state _ _ _ (GoesOver mask index params leads turns after outside are are_turns) other e = each_open state after (count_by is_done_turn turns) ∙ e

module _ (rules : List Rule) (state : State) (entries : Entries) (stat : Stat) (outcome : Outcome) (old new : Standing) (m n : ArenaMap) (start steps : ℕ) (stands : StandsAt old m state entries) (has : HasStep rules state entries stat outcome new n start steps) (enough : KeepsEnough old)
    (needs : NeedsHistory stat → old.keeps.on ≡ true) (on : new.keeps.on ≡ old.keeps.on) (reach : new.keeps.reach + going stat ≡ old.keeps.reach) where
  pub enough_behind : KeepsEnough new
  enough_behind = record {
    reaches = λ some. on ∙ enough.reaches (omega (arith, some, reach));
    grouped = λ inside. on ∙ still stat refl inside;
  }
    where
      other : (NeedsHistory stat → ⊥) → IsInGroup new.group → old.keeps.on ≡ true
      other none inside =
          enough.grouped (open_in old.group (open_as old.group state stands.group ∙ was_open rules state stat has.told has.after has.step none (sym (open_as new.group has.after has.stands.group) ∙ in_open new.group inside)))

      still : (s : Stat) → stat ≡ s → IsInGroup new.group → old.keeps.on ≡ true
      still (statements.Apply line) e inside = other (λ need. subst NeedsHistory e need) inside
      still (statements.Each mask rule params) e inside = other (λ need. subst NeedsHistory e need) inside
      still statements.Undo e inside = needs (subst NeedsHistory (sym e) tt)
      still statements.Redo e inside = needs (subst NeedsHistory (sym e) tt)
      still statements.Group e inside = needs (subst NeedsHistory (sym e) tt)
      still statements.End e inside = needs (subst NeedsHistory (sym e) tt)

-- ---- before a statement

-- where nothing may be taken back, all is forgotten
module _ (old new : Standing) (m : ArenaMap) (outside : old.group ≡ opens.Nothing) (none : old.keeps.reach ≡ 0) (group : new.group ≡ old.group) (reach : new.keeps.reach ≡ old.keeps.reach) where
  pub settled : (state : State) (entries : Entries) → StandsAt old m state entries → StandsFor new.history m no_history → MayTake new.history m.schema.dim no_entries → StandsAt new m state entries
  settled state entries stands history costs =
      let closed : HasOpen opens.Nothing state = subst (λ o. HasOpen o state) outside stands.group in
      record {
        map = stands.map;
        history = λ _. record { past = 0; future = 0; past_far = omega (arith, none, reach); future_far = omega (arith, none, reach); stands = subst (λ g. StandsFor new.history m (record { past = []; future = []; group = g })) (sym closed.0) history };
        costs = λ _. record { past = 0; future = 0; past_far = omega (arith, none, reach); future_far = omega (arith, none, reach); costs = any_group new.history m m.schema.dim no_history [] [] 0 entries.group history refl costs };
        group = subst (λ o. HasOpen o state) (sym group) stands.group;
      }

  pub settled_enough : KeepsEnough new
  settled_enough = record {
    reaches = λ some. absurd (omega (arith, some, none, reach));
    grouped = λ inside. absurd (subst IsInGroup (group ∙ outside) inside);
  }

  pub settled_needs : (stat : Stat) → (on : Bool) → (on ≡ false → stat ≢ statements.Group) → NeedsHistory stat → IsAllowed old.group stat → going stat ≤ old.keeps.reach → on ≡ true
  settled_needs (statements.Apply line) on begins needs allowed within = absurd needs
  settled_needs (statements.Each mask rule params) on begins needs allowed within = absurd needs
  settled_needs statements.Undo on begins needs allowed within = absurd (omega (arith, within, none))
  settled_needs statements.Redo on begins needs allowed within = absurd (omega (arith, within, none))
  settled_needs statements.Group true begins needs allowed within = refl
  settled_needs statements.Group false begins needs allowed within = absurd (begins refl refl)
  settled_needs statements.End on begins needs allowed within = absurd (subst IsInGroup outside allowed)

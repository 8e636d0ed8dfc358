-- What an application comes to by the match, the precondition, the room for its result, and the edits.
use Rattle.std.proofs.Common.{◌≡◌, ◌≢◌, ℕ, true, false, refl, ◌+◌, ◌-◌, ◌*◌, ◌<◌, ◌≤◌, inl, inr, List, None, Some, sym, ap, subst, ◌∙◌, arith}
use Rattle.std.specs.Option.{option_map}
use Rattle.gm_model.specs.declared.value.Value.{Value}
use Rattle.gm_model.specs.declared.value.Kind.TheVariants as kinds
use Rattle.gm_model.specs.declared.value.Value.TheVariants as values
use Rattle.gm_model.specs.declared.schema.Embed.{Embed}
use Rattle.gm_model.specs.declared.schema.Schema.{Schema}
use Rattle.gm_model.specs.Acceptance.{IsAccepted}
use Rattle.gm_model.specs.Applications.{Application, IsRefused, ValuelessPre, FalsePre, NoRoom, NoNames, PreNoValue, PreFalse, FullDarts, FullNames, IsPreUnits, MeetsPre, GivesValue, IsDone}
use Rattle.gm_model.specs.Expressions.{HasValue, HasNoValue, HasUnits}
use Rattle.gm_model.specs.Kinds.{AreGoodParams, HasKind}
use Rattle.gm_model.specs.Limits.{most_darts, most_names}
use Rattle.gm_model.specs.Maps.{IsDart, IsEmbedAt, IsSound, type_of}
use Rattle.gm_model.specs.NewValues.{IsValueAfter, Decided, Kept, Added}
use Rattle.gm_model.specs.Orbits.{HasCount}
use Rattle.gm_model.specs.Rules.{Rule, rule_of}
use Rattle.gm_model.specs.Trees.{Tree, tree_of}
use Rattle.gm_model.specs.Unfolding.{IsGone, scene_of, added_nodes}
use Rattle.gm_model.specs.Values.{IsValueOf}
use Rattle.gm_model.specs.declared.expr.Expr.{Expr}
use Rattle.gm_model.specs.declared.rule.RuleTable.{RuleTable}
use Rattle.gm_arena.specs.inner.ArenaAsMap.{as_map}
use Rattle.gm_arena.specs.inner.ArenaMap.{ArenaMap}
use Rattle.gm_arena.specs.inner.Lawful.{IsLawful}
use Rattle.gm_arena.proofs.Keys.{darts_counted}
use Rattle.gm_match.specs.declared.fault.MatchFault.{MatchFault}
use Rattle.gm_match.specs.declared.fault.MatchFault.TheVariants as faults
use Rattle.gm_eval.specs.inner.Places.{reading_in}
use Rattle.gm_match.specs.inner.Outcome.{application_of, IsAnswer, IsCause}
use Rattle.gm_commit.specs.inner.EditLists.{HasSameRows, IsResultOf}
use Rattle.gm_pending.specs.inner.Results.{PendingOf, IsGivenIn}
use Rattle.gm_plan.specs.inner.Counts.{removed_nodes}
use Rattle.gm_plan.specs.inner.InArena.{placement_in}
use Rattle.gm_plan.specs.inner.Placed.{Placed}
use Rattle.gm_plan.specs.inner.Plans.{IsPlanned}
use Rattle.gm_theory.proofs.Turns.{some_position_walked}
use Rattle.gm_theory.proofs.Lists.{none_some, some_same}
use Rattle.gm_theory.proofs.ReadingsTyped.{values_have_their_kinds}
use Rattle.gm_theory.proofs.ValuesKept.{match_reading}
use Rattle.gm_apply.specs.declared.reading.Reading.{Reading}
use Rattle.gm_apply.specs.inner.Outcomes.{refusal_of_match, IsRefusedFor, HasRoom}
use Rattle.gm_apply.specs.inner.Reads.{IsReadable}
use Rattle.gm_apply.proofs.Counted.{gone_counted, staying_counted}

pub refused_match : (app : Application) (fault : MatchFault) → IsCause app fault → IsRefusedFor app (refusal_of_match fault)
refused_match app (faults.NoDart index) h = h
refused_match app (faults.Arc x p i) h = h
refused_match app (faults.Same x p y q) h = h
refused_match app faults.OutOfMemory h = tt

-- ---- the precondition

-- the precondition of a table
pub pre_is : (table other : RuleTable) (expr : Expr) → other ≡ table → other.pre ≡ Some expr → (rule_of table).pre ≡ Some (tree_of expr)
pre_is table other expr same is = ap (λ (t : RuleTable). option_map tree_of t.pre) (sym same) ∙ ap (option_map tree_of) is

-- and where it has none
pub no_pre : (table other : RuleTable) → other ≡ table → other.pre ≡ None → (rule_of table).pre ≡ None
no_pre table other same is = ap (λ (t : RuleTable). option_map tree_of t.pre) (sym same) ∙ ap (option_map tree_of) is

-- what reading the precondition takes, where there is one
pub pre_units : (m : ArenaMap) (rule : Rule) (params : List Value) (found : Placed) (hooks : List ℕ) (tree : Tree) → rule.pre ≡ Some tree → (u : ℕ) → IsPreUnits (application_of m rule hooks params) (placement_in m found) u → HasUnits (reading_in m found 0 params) tree u
pre_units m rule params found hooks tree is u (inl none) = none_some tree (sym none.0 ∙ is)
pre_units m rule params found hooks tree is u (inr (other, at, units)) = subst (λ t. HasUnits (reading_in m found 0 params) t u) (some_same other tree (sym at ∙ is)) units

module _ (m : ArenaMap) (rule : Rule) (hooks : List ℕ) (params : List Value) (found : Placed) (answer : IsAnswer m rule hooks found) where
  abbrev app : Application
  app = application_of m rule hooks params

  module _ (tree : Tree) (is : rule.pre ≡ Some tree) where
    pub pre_met : (v : Value) → v ≡ values.Bool true → HasValue (reading_in m found 0 params) tree v → MeetsPre app (placement_in m found)
    pre_met v same value other at = subst (λ t. HasValue (reading_in m found 0 params) t (values.Bool true)) (some_same tree other (sym is ∙ at)) (subst (HasValue (reading_in m found 0 params) tree) same value)

    pub pre_valueless : HasNoValue (reading_in m found 0 params) tree → IsRefused app PreNoValue
    pre_valueless none = ValuelessPre (placement_in m found) tree answer.matched.is_match is none

    module _ (sound : IsSound (as_map m)) (good : AreGoodParams rule params) (has_kind : HasKind m.schema rule tree kinds.Bool) where
      of_kind : (v : Value) → HasValue (reading_in m found 0 params) tree v → IsValueOf kinds.Bool v
      of_kind v = values_have_their_kinds rule (reading_in m found 0 params) tree kinds.Bool v (match_reading app (placement_in m found) sound.is_map sound.generalised answer.matched.is_match 0 (some_position_walked (as_map m) rule hooks answer.matched.is_match.walk (placement_in m found) answer.matched.is_match.positions)) good has_kind

      -- a truth that isn't true
      pub pre_false : (v : Value) → (v ≢ values.Bool true) → HasValue (reading_in m found 0 params) tree v → IsRefused app PreFalse
      pre_false v other value = go v other value (of_kind v value)
        where
          go : (v : Value) → (v ≢ values.Bool true) → HasValue (reading_in m found 0 params) tree v → IsValueOf kinds.Bool v → IsRefused app PreFalse
          go (values.Bool false) other value of_kind = FalsePre (placement_in m found) tree answer.matched.is_match is value
          go (values.Bool true) other value of_kind = absurd (other refl)
          go v other value of_kind = absurd (let kind = of_kind.kind_is in cc)

-- ---- room

module _ (m : ArenaMap) (lawful : IsLawful m) (rule : Rule) (hooks : List ℕ) (found : Placed) (answer : IsAnswer m rule hooks found) where
  staying : (found.positions * removed_nodes rule ≤ m.count) × HasCount (λ d. IsDart (as_map m) d × (IsGone (scene_of (as_map m) rule (placement_in m found)) d → ⊥)) (m.count - found.positions * removed_nodes rule)
  staying = staying_counted (as_map m) rule (placement_in m found) answer.matched.is_match.embedded m.count (darts_counted m lawful)

  pub few_go : found.positions * removed_nodes rule ≤ m.count
  few_go = staying.0

  module _ (params : List Value) (met : MeetsPre (application_of m rule hooks params) (placement_in m found)) where
    pub no_room : (live new : ℕ) → live ≡ m.count - found.positions * removed_nodes rule → new ≡ found.positions * added_nodes rule → most_darts < live + new → IsRefused (application_of m rule hooks params) (FullDarts live new)
    no_room live new e f h = rw (e, f) (NoRoom (placement_in m found) (m.count - found.positions * removed_nodes rule) answer.matched.is_match met staying.1 (omega (arith, h, e, f)))

    pub no_names : (live new : ℕ) → live ≡ m.count - found.positions * removed_nodes rule → new ≡ found.positions * added_nodes rule → live + new ≤ most_darts → most_names < m.next + new → IsRefused (application_of m rule hooks params) (FullNames m.next new)
    no_names live new e f h k = rw f (NoNames (placement_in m found) (m.count - found.positions * removed_nodes rule) answer.matched.is_match met staying.1 (omega (arith, h, e, f)) (omega (arith, k, f)))

    pub has_room : (live new gone : ℕ) → live ≡ m.count - found.positions * removed_nodes rule → new ≡ found.positions * added_nodes rule → gone ≡ found.positions * removed_nodes rule → live + new ≤ most_darts → m.next + new ≤ most_names → HasRoom (application_of m rule hooks params) (placement_in m found) new gone
    has_room live new gone e f g h k = record {
      ready = record {
        matched = answer.matched.is_match;
        pre = met;
        live = m.count - found.positions * removed_nodes rule;
        live_is = staying.1;
        darts_fit = omega (arith, h, e, f);
        names_fit = omega (arith, k, f);
      };
      added_is = f;
      removed_is = g;
      gone = subst (HasCount (IsGone (scene_of (as_map m) rule (placement_in m found)))) (sym g) (gone_counted (as_map m) rule (placement_in m found) answer.matched.is_match.embedded);
    }

-- ---- done

-- a map is sound in an arena with the same rows
pub sound_again : (m n : ArenaMap) → HasSameRows m n → IsSound (as_map m) → IsSound (as_map n)
sound_again m n same h = subst (λ k. IsSound (as_map k)) (sym same) h

pub accepted_for : (m : ArenaMap) (schema : Schema) (rule : Rule) → m.schema ≡ schema → IsPlanned schema rule → IsAccepted m.schema rule
accepted_for m schema rule same planned = subst (λ s. IsAccepted s rule) (sym same) planned.accepted

pub readable_at : (reading : Reading) (hooks : List ℕ) → IsSound (as_map reading.arena.now) → reading.arena.now.schema ≡ reading.plan.now.schema → IsPlanned reading.plan.now.schema (rule_of reading.plan.now.table)
    → AreGoodParams (rule_of reading.plan.now.table) reading.params.now → IsAnswer reading.arena.now (rule_of reading.plan.now.table) hooks reading.found.now → IsReadable reading hooks
readable_at reading hooks sound same planned good answer = record {
  sound = sound;
  schema = same;
  accepted = accepted_for reading.arena.now reading.plan.now.schema (rule_of reading.plan.now.table) same planned;
  params = good;
  answer = answer;
}

-- the result has the values of the expressions
pub is_done : (m result : ArenaMap) (table : RuleTable) (hooks : List ℕ) (params : List Value) (found : Placed) (added removed : ℕ) (pending : PendingOf) → pending ≡ record { map = m; table = table; placed = found; asked = pending.asked }
    → ((e x p : ℕ) (embed : Embed) (v : Value) → IsEmbedAt m.schema e embed → IsGivenIn pending e x p v → GivesValue (application_of m (rule_of table) hooks params) (placement_in m found) e x p v)
    → HasRoom (application_of m (rule_of table) hooks params) (placement_in m found) added removed → IsResultOf pending result
    → IsDone (application_of m (rule_of table) hooks params) (as_map result) added removed
is_done m result table hooks params found added removed pending is right room of_pending = record {
  place = placement_in m found;
  ready = room.ready;
  result_is = record {
    schema = this.schema;
    unfolded = this.unfolded;
    values = λ e d embed at live. value_right e d embed at (this.values e d embed at live (record { live = (as_map result).live; alpha = (as_map result).alpha; next = result.next }) this.unfolded);
  };
  added_is = room.added_is;
  removed_is = room.gone;
}
  where
    this : IsResultOf (record { map = m; table = table; placed = found; asked = pending.asked }) result
    this = subst (λ p. IsResultOf p result) is of_pending

    value_right : (e d : ℕ) (embed : Embed) → IsEmbedAt m.schema e embed
        → IsValueAfter (as_map m) (rule_of table) (placement_in m found) (as_map result).alpha e (type_of embed) (IsGivenIn (record { map = m; table = table; placed = found; asked = pending.asked }) e) d ((as_map result).value e d)
        → IsValueAfter (as_map m) (rule_of table) (placement_in m found) (as_map result).alpha e (type_of embed) (GivesValue (application_of m (rule_of table) hooks params) (placement_in m found) e) d ((as_map result).value e d)
    value_right e d embed at (Decided x p decided given) = Decided x p decided (right e x p embed ((as_map result).value e d) at given)
    value_right e d embed at (Kept none live same) = Kept none live same
    value_right e d embed at (Added x p keeper none added within named kept same) = Added x p keeper none added within named kept same

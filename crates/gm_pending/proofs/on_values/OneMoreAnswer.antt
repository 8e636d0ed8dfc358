-- What is pending after one more embedding was asked for, or a value was given.
use Rattle.std.proofs.Common.{◌≡◌, ℕ, zero, suc, ◌<◌, ◌⊎◌, List, [], ◌∷◌, length, set, get_or, Contains, Option, Some, None, slice_get, refl, sym, ◌∙◌, ap, subst, inl, inr, arith}
use Rattle.std.proofs.lemmas.Bool.{cases_eq}
use Rattle.std.proofs.lemmas.Option.{slice_get-get_or}
use Rattle.std.specs.Prelude.{unwrap_or}
use Rattle.std.proofs.lemmas.List.{map-set, length-map, length-set, get_or-set_same, get_or-set_other}
use Rattle.gm_model.specs.declared.schema.Embed.{Embed}
use Rattle.gm_model.specs.declared.rule.RuleTable.{RuleTable}
use Rattle.gm_model.specs.declared.value.Value.{Value}
use Rattle.gm_model.specs.Maps.{IsEmbedAt}
use Rattle.gm_model.specs.Values.{IsValueOf}
use Rattle.gm_arena.specs.inner.ArenaMap.{ArenaMap}
use Rattle.gm_plan.specs.inner.Placed.{Placed}
use Rattle.gm_theory.proofs.Lists.{some_same, none_some}
use Rattle.gm_pending.specs.declared.decided_orbits.DecidedOrbits.{DecidedOrbits}
use Rattle.gm_pending.specs.declared.deciding_instance.DecidingInstance.{DecidingInstance}
use Rattle.gm_walk.specs.declared.mark.Mark.{Mark}
use Rattle.gm_pending.specs.inner.AskedOrbits.{instances_in, pending_as, AreDecidedOrbits}
use Rattle.gm_pending.specs.inner.ReachedDarts.{AreReached}
use Rattle.gm_pending.specs.inner.Results.{PendingOf, IsPrepared, AreDecidingInstances, IsGivenIn, instances_of, deciding_of, with_instances}

module _ {A : Type 0} where
  pub set_there : (xs : List A) (k : ℕ) (x : A) → k < length xs → slice_get (set xs k x) k ≡ Some x
  set_there [] k x h = absurd (omega arith)
  set_there (y ∷ xs) zero x h = refl
  set_there (y ∷ xs) (suc k) x h = set_there xs k x (omega arith)

  pub set_elsewhere : (xs : List A) (k j : ℕ) (x : A) → (j ≡ k → ⊥) → slice_get (set xs k x) j ≡ slice_get xs j
  set_elsewhere [] k j x h = refl
  set_elsewhere (y ∷ xs) zero zero x h = absurd (h refl)
  set_elsewhere (y ∷ xs) zero (suc j) x h = refl
  set_elsewhere (y ∷ xs) (suc k) zero x h = refl
  set_elsewhere (y ∷ xs) (suc k) (suc j) x h = set_elsewhere xs k j x (λ e. h (ap suc e))

-- an element of a list that was read is there
pub read_there : {A : Type 0} (xs ys : List A) (k : ℕ) (x : A) → x ≡ get_or xs k x → xs ≡ ys → k < length ys → slice_get ys k ≡ Some x
read_there xs ys k x is same within = slice_get-get_or ys k x within ∙ ap Some (ap (λ zs. get_or zs k x) (sym same) ∙ sym is)

-- ---- the application

module _ (app : PendingOf) (prepared : IsPrepared app) (e : ℕ) (instances : List DecidingInstance) (within : e < length app.asked) where
  abbrev pub answered : PendingOf
  answered = with_instances app e instances

  pub entry_there : deciding_of answered e ≡ Some instances
  entry_there = get_or-set_same app.asked e (Some instances) None within

  entry_elsewhere : (j : ℕ) → (j ≡ e → ⊥) → deciding_of answered j ≡ deciding_of app j
  entry_elsewhere j other = get_or-set_other app.asked e j (Some instances) None other

  pub prepared_with : ((embed : Embed) → IsEmbedAt app.map.schema e embed → AreDecidingInstances app e embed instances) →
      ((x p : ℕ) (embed : Embed) (v : Value) → IsEmbedAt app.map.schema e embed → Contains instances (record { node = x; position = p; given = Some v }) → IsValueOf embed.kind v) → IsPrepared answered
  prepared_with exact good = record {
    lawful = prepared.lawful;
    planned = prepared.planned;
    sound = prepared.sound;
    hooks = prepared.hooks;
    matched = prepared.matched;
    each = length-set app.asked e (Some instances) ∙ prepared.each;
    instances = λ j embed others at is. are j embed others at is (cases_eq j e);
    values = λ j x p embed v at given. values j x p embed v at given (cases_eq j e);
  }
    where
      again : (j : ℕ) (embed : Embed) (others : List DecidingInstance) → AreDecidingInstances app j embed others → AreDecidingInstances answered j embed others
      again j embed others d = record { ascending = d.ascending; decide = d.decide; all = d.all }

      are : (j : ℕ) (embed : Embed) (others : List DecidingInstance) → IsEmbedAt app.map.schema j embed → deciding_of answered j ≡ Some others → (j ≡ e) ⊎ (j ≡ e → ⊥) → AreDecidingInstances answered j embed others
      are j embed others at is (inr other) = again j embed others (prepared.instances j embed others at (sym (entry_elsewhere j other) ∙ is))
      are j embed others at is (inl same) =
          let here : deciding_of answered e ≡ Some others = subst (λ i. deciding_of answered i ≡ Some others) same is in
          let one : instances ≡ others = some_same instances others (sym entry_there ∙ here) in
          subst (λ i. AreDecidingInstances answered i embed others) (sym same) (subst (AreDecidingInstances answered e embed) one (again e embed instances (exact embed (subst (λ i. IsEmbedAt app.map.schema i embed) same at))))

      values : (j x p : ℕ) (embed : Embed) (v : Value) → IsEmbedAt app.map.schema j embed → IsGivenIn answered j x p v → (j ≡ e) ⊎ (j ≡ e → ⊥) → IsValueOf embed.kind v
      values j x p embed v at given (inr other) = prepared.values j x p embed v at (rw (entry_elsewhere j other) at given)
      values j x p embed v at given (inl same) =
          let here : IsGivenIn answered e x p v = subst (λ i. IsGivenIn answered i x p v) same given in
          good x p embed v (subst (λ i. IsEmbedAt app.map.schema i embed) same at) (rw entry_there at here)

pub good_if_ungiven : (instances : List DecidingInstance) → ((instance : DecidingInstance) → Contains instances instance → instance.given ≡ None) → (x p : ℕ) (embed : Embed) (v : Value) → Contains instances (record { node = x; position = p; given = Some v }) → IsValueOf embed.kind v
good_if_ungiven instances ungiven x p embed v given = none_some v (sym (ungiven (record { node = x; position = p; given = Some v }) given))

-- ---- how it is kept

pub reached_again : (app : PendingOf) (e j : ℕ) (instances others : List DecidingInstance) (embed : Embed) (reached : List Mark) → AreReached app j embed others reached → AreReached (with_instances app e instances) j embed others reached
reached_again app e j instances others embed reached r = record { darts = r.darts; distinct = r.distinct; decided = r.decided; all = r.all }

module _ (m : ArenaMap) (table : RuleTable) (placed : Placed) (answers : List (Option DecidedOrbits)) (e : ℕ) (orbits : DecidedOrbits) where
  abbrev before : PendingOf
  before = pending_as m table placed answers

  pub answered_is : pending_as m table placed (set answers e (Some orbits)) ≡ with_instances before e orbits.instances.items
  answered_is = ap (λ entries. record { map = m; table = table; placed = placed; asked = entries }) (map-set instances_in answers e (Some orbits))

  pub answers_with : e < length answers → AreDecidedOrbits before answers → ((embed : Embed) → IsEmbedAt m.schema e embed → AreReached before e embed orbits.instances.items orbits.marks) → AreDecidedOrbits (pending_as m table placed (set answers e (Some orbits))) (set answers e (Some orbits))
  answers_with within old new = subst (λ a. AreDecidedOrbits a (set answers e (Some orbits))) (sym answered_is) (λ j embed other at there. go j embed other at there (cases_eq j e))
    where
      go : (j : ℕ) (embed : Embed) (other : DecidedOrbits) → IsEmbedAt m.schema j embed → slice_get (set answers e (Some orbits)) j ≡ Some (Some other) → (j ≡ e) ⊎ (j ≡ e → ⊥) → AreReached (with_instances before e orbits.instances.items) j embed other.instances.items other.marks
      go j embed other at there (inr apart) = reached_again before e j orbits.instances.items other.instances.items embed other.marks (old j embed other at (sym (set_elsewhere answers e j (Some orbits) apart) ∙ there))
      go j embed other at there (inl same) =
          let here : slice_get (set answers e (Some orbits)) e ≡ Some (Some other) = subst (λ i. slice_get (set answers e (Some orbits)) i ≡ Some (Some other)) same there in
          let one : orbits ≡ other = some_same orbits other (some_same (Some orbits) (Some other) (sym (set_there answers e (Some orbits) within) ∙ here)) in
          subst (λ i. AreReached (with_instances before e orbits.instances.items) i embed other.instances.items other.marks) (sym same)
          (subst (λ (a : DecidedOrbits). AreReached (with_instances before e orbits.instances.items) e embed a.instances.items a.marks) one
          (reached_again before e e orbits.instances.items orbits.instances.items embed orbits.marks (new embed (subst (λ i. IsEmbedAt m.schema i embed) same at))))

  -- the answer is kept, where it says of the application what it says of itself
  module _ (app : PendingOf) (view : before ≡ app) (prepared : IsPrepared before) (all : AreDecidedOrbits before answers) (within : e < length app.map.schema.embeds) (after : List (Option DecidedOrbits)) (kept : after ≡ set answers e (Some orbits))
      (exact : (embed : Embed) → IsEmbedAt app.map.schema e embed → AreDecidingInstances app e embed orbits.instances.items)
      (reached : (embed : Embed) → IsEmbedAt app.map.schema e embed → AreReached app e embed orbits.instances.items orbits.marks)
      (good : (x p : ℕ) (embed : Embed) (v : Value) → IsEmbedAt app.map.schema e embed → Contains orbits.instances.items (record { node = x; position = p; given = Some v }) → IsValueOf embed.kind v) where
    has_entry : e < length before.asked
    has_entry = let h : e < length before.map.schema.embeds = subst (λ (a : PendingOf). e < length a.map.schema.embeds) (sym view) within in omega (arith, h, prepared.each)

    has_answer : e < length answers
    has_answer = omega (arith, has_entry, length-map answers instances_in)

    pub kept_is : pending_as m table placed after ≡ with_instances app e orbits.instances.items
    kept_is = ap (pending_as m table placed) kept ∙ answered_is ∙ ap (λ a. with_instances a e orbits.instances.items) view

    pub kept_deciders : instances_of (pending_as m table placed after) e ≡ orbits.instances.items
    kept_deciders = ap (λ a. instances_of a e) (ap (pending_as m table placed) kept ∙ answered_is) ∙ ap (λ o. unwrap_or o []) (entry_there before prepared e orbits.instances.items has_entry)

    pub kept_asked : pending_as m table placed after ≡ with_instances app e (instances_of (pending_as m table placed after) e)
    kept_asked = kept_is ∙ ap (with_instances app e) (sym kept_deciders)

    at_before : (embed : Embed) → IsEmbedAt m.schema e embed → IsEmbedAt app.map.schema e embed
    at_before embed at = subst (λ (a : PendingOf). IsEmbedAt a.map.schema e embed) view at

    pub kept_prepared : IsPrepared (pending_as m table placed after)
    kept_prepared = subst IsPrepared (sym (ap (pending_as m table placed) kept ∙ answered_is)) (prepared_with before prepared e orbits.instances.items has_entry
        (λ embed at. subst (λ (a : PendingOf). AreDecidingInstances a e embed orbits.instances.items) (sym view) (exact embed (at_before embed at)))
        (λ x p embed v at given. good x p embed v (at_before embed at) given))

    pub kept_answers : AreDecidedOrbits (pending_as m table placed after) after
    kept_answers = subst (λ a. AreDecidedOrbits (pending_as m table placed a) a) (sym kept) (answers_with has_answer all
        (λ embed at. subst (λ (a : PendingOf). AreReached a e embed orbits.instances.items orbits.marks) (sym view) (reached embed (at_before embed at))))

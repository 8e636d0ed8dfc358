-- How a deciding instance is given its value, or lacks one, and what there is once all are given.
use Rattle.std.proofs.Common.{◌≡◌, ℕ, zero, suc, ◌+◌, ◌*◌, ◌<◌, ◌≤◌, ◌⊎◌, inl, inr, List, [], ◌∷◌, ◌++◌, length, map, take, sum, Some, slice_get, get_or, append_assoc, refl, sym, ap, ap₂, subst, ◌∙◌, arith}
use Rattle.std.specs.Prelude.{IsSome}
use Rattle.std.specs.Option.{unwrap_or}
use Rattle.std.specs.List.{Contains, AllZip}
use Rattle.std.proofs.lemmas.Bool.{cases_eq}
use Rattle.std.proofs.lemmas.List.{length-set, take_more, take_all, length-map}
use Rattle.std.proofs.lemmas.Option.{slice_get_within}
use Rattle.gm_model.specs.declared.schema.Embed.{Embed}
use Rattle.gm_model.specs.declared.value.Value.{Value}
use Rattle.gm_model.specs.Applications.{Decider, GivesValue, IsFirstValueless, IsReady, IsReadUnits, IsRefused, NoValue, Valueless}
use Rattle.gm_model.specs.Components.{IsAssigned}
use Rattle.gm_model.specs.Maps.{IsEmbedAt}
use Rattle.gm_model.specs.Orbits.{IsPairBefore}
use Rattle.gm_model.specs.Rules.{rule_of}
use Rattle.gm_model.specs.Unfolding.{IsUnfolding, scene_of}
use Rattle.gm_theory.specs.inner.Theorem.{Unfolded, Unfolds, IsDartOf}
use Rattle.gm_theory.proofs.Keeps.{rules_keep_generalised_maps}
use Rattle.gm_theory.proofs.Lists.{get_contained, contained_at, none_some, some_same}
use Rattle.gm_arena.specs.inner.ArenaAsMap.{as_map}
use Rattle.gm_pending.specs.declared.deciding_instance.DecidingInstance.{DecidingInstance as Entry}
use Rattle.gm_commit.specs.inner.EditLists.{EditLists, AreEditsOf, IsReachedSumIn}
use Rattle.gm_pending.specs.inner.Results.{PendingOf, AllGiven, IsAsked, IsWithinReach, AreDecidingInstances, IsDecidingIn, instances_of, deciding_of, with_instances, given_at, place_of, rule_in}
use Rattle.gm_apply.specs.declared.reading.Reading.{Reading}
use Rattle.gm_apply.specs.declared.refusal.Refusal.TheVariants as refusals
use Rattle.gm_apply.specs.inner.Reads.{IsReadable, app_at, place_at, pending_at, unasked_at, decider_at, seen_at, seen_before, seen_to, IsGivenRight, IsWithinSeen, IsWithinSeenBy, IsWithinSeenOnce, IsWithinRead, IsWithinReadOnce, IsWithinEdits, IsWithinEditsOnce, IsEnded, HasEdits, HasRead}
use Rattle.gm_apply.specs.inner.ReadOnce.{IsReadOnce}
use Rattle.gm_apply.proofs.Asking.{asked_by, nothing_behind, split_last, entry_same, entry_other, seen_same, is_there, within_asked}
use Rattle.gm_apply.proofs.Seen.{decides, valued_before, within_read, within_read_once}

-- ---- a value in a list of entries

given_places : (e : ℕ) (entries : List Entry) (i : ℕ) (v : Value) → map (decider_at e) (given_at entries i v) ≡ map (decider_at e) entries
given_places e [] i v = refl
given_places e (entry ∷ entries) zero v = refl
given_places e (entry ∷ entries) (suc i) v = ap (λ rest. decider_at e entry ∷ rest) (given_places e entries i v)

pub given_long : (entries : List Entry) (i : ℕ) (v : Value) → length (given_at entries i v) ≡ length entries
given_long [] i v = refl
given_long (entry ∷ entries) zero v = refl
given_long (entry ∷ entries) (suc i) v = ap suc (given_long entries i v)

given_here : (entries : List Entry) (i : ℕ) (v : Value) (entry other : Entry) → slice_get entries i ≡ Some entry → slice_get (given_at entries i v) i ≡ Some other → other ≡ record { node = entry.node; position = entry.position; given = Some v }
given_here [] i v entry other at there = none_some entry at
given_here (first ∷ entries) zero v entry other at there =
    sym (some_same _ other there) ∙ ap (λ (x : Entry). record { node = x.node; position = x.position; given = Some v }) (some_same first entry at)
given_here (first ∷ entries) (suc i) v entry other at there = given_here entries i v entry other at there

given_other : (entries : List Entry) (i j : ℕ) (v : Value) → (j ≡ i → ⊥) → slice_get (given_at entries i v) j ≡ slice_get entries j
given_other [] i j v apart = refl
given_other (first ∷ entries) zero zero v apart = absurd (apart refl)
given_other (first ∷ entries) zero (suc j) v apart = refl
given_other (first ∷ entries) (suc i) zero v apart = refl
given_other (first ∷ entries) (suc i) (suc j) v apart = given_other entries i j v (λ same. apart (ap suc same))

-- an entry that lies where another does
record HasPlaceOf (entries : List Entry) (j : ℕ) (entry : Entry) : Type 0 where
  other : Entry
  at : slice_get entries j ≡ Some other
  node_is : other.node ≡ entry.node
  position_is : other.position ≡ entry.position

place_before : (entries : List Entry) (i j : ℕ) (v : Value) (entry : Entry) → slice_get (given_at entries i v) j ≡ Some entry → HasPlaceOf entries j entry
place_before [] i j v entry at = none_some entry at
place_before (first ∷ entries) zero zero v entry at = record { other = first; at = refl; node_is = ap (λ (x : Entry). x.node) (some_same _ entry at); position_is = ap (λ (x : Entry). x.position) (some_same _ entry at) }
place_before (first ∷ entries) zero (suc j) v entry at = record { other = entry; at = at; node_is = refl; position_is = refl }
place_before (first ∷ entries) (suc i) zero v entry at = record { other = entry; at = at; node_is = refl; position_is = refl }
place_before (first ∷ entries) (suc i) (suc j) v entry at = let rest = place_before entries i j v entry at in record { other = rest.other; at = rest.at; node_is = rest.node_is; position_is = rest.position_is }

place_after : (entries : List Entry) (i j : ℕ) (v : Value) (entry : Entry) → slice_get entries j ≡ Some entry → HasPlaceOf (given_at entries i v) j entry
place_after [] i j v entry at = none_some entry at
place_after (first ∷ entries) zero zero v entry at =
    record { other = record { node = first.node; position = first.position; given = Some v }; at = refl; node_is = ap (λ (x : Entry). x.node) (some_same first entry at); position_is = ap (λ (x : Entry). x.position) (some_same first entry at) }
place_after (first ∷ entries) zero (suc j) v entry at = record { other = entry; at = at; node_is = refl; position_is = refl }
place_after (first ∷ entries) (suc i) zero v entry at = record { other = entry; at = at; node_is = refl; position_is = refl }
place_after (first ∷ entries) (suc i) (suc j) v entry at = let rest = place_after entries i j v entry at in record { other = rest.other; at = rest.at; node_is = rest.node_is; position_is = rest.position_is }

-- they are the same deciding instances
still_deciders : (app : PendingOf) (e : ℕ) (embed : Embed) (entries : List Entry) (i : ℕ) (v : Value) → AreDecidingInstances app e embed entries → AreDecidingInstances app e embed (given_at entries i v)
still_deciders app e embed entries i v are = record {
  ascending = λ k l a b less at there.
      let first = place_before entries i k v a at in
      let second = place_before entries i l v b there in
      let order = are.ascending k l first.other second.other less first.at second.at in
      subst (λ x. IsPairBefore x a.position b.node b.position) first.node_is
      (subst (λ p. IsPairBefore first.other.node p b.node b.position) first.position_is
      (subst (λ y. IsPairBefore first.other.node first.other.position y b.position) second.node_is (subst (λ q. IsPairBefore first.other.node first.other.position second.other.node q) second.position_is order)));
  decide = λ result unfolded entry among.
      let old = place_before entries i among.0 v entry (contained_at (given_at entries i v) entry among) in
      let is = are.decide result unfolded old.other (get_contained entries among.0 old.other old.at) in
      subst (λ x. IsDecidingIn app result e embed x entry.position) old.node_is (subst (λ p. IsDecidingIn app result e embed old.other.node p) old.position_is is);
  all = λ result unfolded x p deciding.
      let old = are.all result unfolded x p deciding in
      let new = place_after entries i old.1.0 v old.0 (contained_at entries old.0 old.1) in
      (new.other, get_contained (given_at entries i v) old.1.0 new.other new.at, new.node_is ∙ old.2, new.position_is ∙ old.3);
}

-- the entry of a place
pub record IsEntryAt (entries : List Entry) (i node position : ℕ) : Type 0 where
  pub entry : Entry
  pub at : slice_get entries i ≡ Some entry
  pub node_is : entry.node ≡ node
  pub position_is : entry.position ≡ position

pub entry_at : (entries : List Entry) (i node position : ℕ) → slice_get (map place_of entries) i ≡ Some (node, position) → IsEntryAt entries i node position
entry_at [] i node position at = none_some (node, position) at
entry_at (entry ∷ entries) zero node position at = let same = some_same (place_of entry) (node, position) at in record { entry = entry; at = refl; node_is = ap (λ p. p.0) same; position_is = ap (λ p. p.1) same }
entry_at (entry ∷ entries) (suc i) node position at = let rest = entry_at entries i node position at in record { entry = rest.entry; at = rest.at; node_is = rest.node_is; position_is = rest.position_is }

module _ (reading : Reading) (hooks : List ℕ) where
  pub within_edits : (start steps : ℕ) → IsWithinRead reading hooks start steps → IsWithinEdits reading hooks start steps
  within_edits start steps within result count read unfolds reached s = let spent = within result count read unfolds reached s in omega (arith, spent)

  edits_once : (start steps : ℕ) → IsWithinReadOnce reading hooks start steps → IsWithinEditsOnce reading hooks start steps
  edits_once start steps within result count read unfolds reached s = let spent = within result count read unfolds reached s in omega (arith, spent)

  -- memory was wanting for the deciding instances of an embedding
  pub ended_building : (start later : ℕ) → later ≡ start → IsEnded reading hooks refusals.OutOfMemory start later
  ended_building start later same = record { refused = λ ready. tt; rises = omega (arith, same); within = λ result count read unfolds reached sum. omega (arith, same); once = λ result count read unfolds reached sum. omega (arith, same) }

  pub ended_asking : (before : PendingOf) (e start steps later : ℕ) → HasRead reading hooks before e e 0 start steps → e < length reading.arena.now.schema.embeds
      → ((embed : Embed) → IsEmbedAt before.map.schema e embed → IsWithinReach before e embed steps later) → steps ≤ later → IsEnded reading hooks refusals.OutOfMemory start later
  ended_asking before e start steps later h within cost rises = record {
    refused = λ ready. tt;
    rises = let first = h.rises in omega (arith, first, rises);
    within = within_edits start later (within_read reading hooks before e e 0 start steps h 0 (suc e) later (omega arith) (within_asked reading hooks before e start steps later h within cost));
    once = edits_once start later (within_read_once reading hooks before e e 0 start steps h 0 (suc e) later (omega arith) (asked_by reading hooks before e start steps later h within cost (λ result. IsReadOnce (app_at reading hooks) (place_at reading) (IsDartOf result) result.alpha) h.once));
  }

  -- memory was wanting before the first of them was read
  pub ended_opening : (before : PendingOf) (e start steps : ℕ) → HasRead reading hooks before (suc e) e 0 start steps → IsEnded reading hooks refusals.OutOfMemory start steps
  ended_opening before e start steps h = record {
    refused = λ ready. tt;
    rises = h.rises;
    within = within_edits start steps (within_read reading hooks before (suc e) e 0 start steps h 0 (suc e) steps (omega arith) h.within);
    once = edits_once start steps (within_read_once reading hooks before (suc e) e 0 start steps h 0 (suc e) steps (omega arith) h.once);
  }

  -- a deciding instance is an assigned one, at a position
  pub assigned_at : (pending : PendingOf) (e i start steps node position : ℕ) → IsReadable reading hooks → HasRead reading hooks pending (suc e) e i start steps → IsEntryAt (instances_of pending e) i node position
      → IsAssigned (rule_of reading.plan.now.table) e node × (position < reading.found.now.positions)
  assigned_at pending e i start steps node position readable h here =
      let kept = rules_keep_generalised_maps (as_map reading.arena.now) (rule_of reading.plan.now.table) hooks (place_at reading) readable.sound.is_map.below readable.sound.generalised readable.accepted readable.answer.matched.is_match in
      let is = decides reading hooks pending (suc e) e i start steps h kept.exists.0 kept.exists.1 e i here.entry here.at in
      (subst (IsAssigned (rule_of reading.plan.now.table) e) here.node_is is.deciding.assigned.0, subst (λ p. p < reading.found.now.positions) here.position_is is.deciding.assigned.1)

  -- ---- one deciding instance is read

  module _ (before : PendingOf) (e i start steps later node position : ℕ) (h : HasRead reading hooks before (suc e) e i start steps) (here : IsEntryAt (instances_of before e) i node position)
      (cost : (u : ℕ) → IsReadUnits (app_at reading hooks) (place_at reading) (record { embed = e; node = node; position = position }) u → later ≤ steps + 6 * (reading.arena.now.schema.dim + 1) * u) where
    within_list : i < length (seen_at before e)
    within_list = let inside = slice_get_within (instances_of before e) i here.entry here.at in let same = length-map (instances_of before e) (decider_at e) in omega (arith, inside, same)

    one_more : seen_to before e (suc i) ≡ seen_to before e i ++ decider_at e here.entry ∷ []
    one_more =
        let on : suc i ≡ i + 1 = omega arith in
        ap (λ n. seen_before before e ++ take n (seen_at before e)) on
        ∙ ap (λ xs. seen_before before e ++ xs) (take_more (seen_at before e) i (decider_at e here.entry) within_list ∙ ap (λ x. take i (seen_at before e) ++ x ∷ []) mapped)
        ∙ sym (append_assoc (seen_before before e) (take i (seen_at before e)) (decider_at e here.entry ∷ []))
      where
        mapped_get : (entries : List Entry) (n : ℕ) → slice_get entries n ≡ Some here.entry → get_or (map (decider_at e) entries) n (decider_at e here.entry) ≡ decider_at e here.entry
        mapped_get [] n at = refl
        mapped_get (entry ∷ entries) zero at = ap (decider_at e) (some_same entry here.entry at)
        mapped_get (entry ∷ entries) (suc n) at = mapped_get entries n at

        mapped : get_or (seen_at before e) i (decider_at e here.entry) ≡ decider_at e here.entry
        mapped = mapped_get (instances_of before e) i here.at

    same_decider : record { embed = e; node = node; position = position } ≡ decider_at e here.entry
    same_decider = ap₂ (λ x p. record { embed = e; node = x; position = p }) (sym here.node_is) (sym here.position_is)

    next_by : (IsUnits : Unfolded → Decider → ℕ → Type 0) → IsWithinSeenBy reading hooks IsUnits (seen_to before e i) (suc e) start steps
        → ((result : Unfolded) → Unfolds (as_map reading.arena.now) (rule_of reading.plan.now.table) (place_at reading) result → (u : ℕ) → IsUnits result (record { embed = e; node = node; position = position }) u → later ≤ steps + 6 * (reading.arena.now.schema.dim + 1) * u)
        → IsWithinSeenBy reading hooks IsUnits (seen_to before e (suc i)) (suc e) start later
    next_by IsUnits so_far spent result count units unfolds reached all =
        let split = split_last (IsUnits result) (seen_to before e i) (decider_at e here.entry) units (subst (λ seen. AllZip (IsUnits result) seen units) one_more all) in
        let first = so_far result count split.first unfolds reached split.are in
        let last = spent result unfolds split.last (subst (λ d. IsUnits result d split.last) (sym same_decider) split.is) in
        let d = reading.arena.now.schema.dim + 1 in
        let spread : 6 * d * sum units ≡ 6 * d * sum split.first + 6 * d * split.last = ap (λ n. 6 * d * n) split.sum_is ∙ omega arith in
        omega (arith, first, last, spread)

    pub within_next : IsWithinSeen reading hooks (seen_to before e (suc i)) (suc e) start later
    within_next = next_by (λ result. IsReadUnits (app_at reading hooks) (place_at reading)) h.within (λ result unfolds. cost)

    -- what reading it takes, where what is shared is read once
    abbrev pub IsCheap : Type 0
    IsCheap = (result : Unfolded) → Unfolds (as_map reading.arena.now) (rule_of reading.plan.now.table) (place_at reading) result → (u : ℕ)
        → IsReadOnce (app_at reading hooks) (place_at reading) (IsDartOf result) result.alpha (record { embed = e; node = node; position = position }) u → later ≤ steps + 6 * (reading.arena.now.schema.dim + 1) * u

    -- it has no value
    module _ (readable : IsReadable reading hooks) (none : (v : Value) → GivesValue (app_at reading hooks) (place_at reading) e node position v → ⊥) (rises : steps ≤ later) where
      refused_here : IsReady (app_at reading hooks) (place_at reading) → IsRefused (app_at reading hooks) (NoValue e here.entry.node)
      refused_here ready =
          let kept = rules_keep_generalised_maps (as_map reading.arena.now) (rule_of reading.plan.now.table) hooks (place_at reading) readable.sound.is_map.below readable.sound.generalised readable.accepted readable.answer.matched.is_match in
          let result = kept.exists.0 in
          let unfolds = kept.exists.1 in
          let first : IsFirstValueless (app_at reading hooks) (place_at reading) (IsDartOf result) result.alpha (decider_at e here.entry) = record {
            here = decides reading hooks before (suc e) e i start steps h result unfolds e i here.entry here.at;
            none = λ v given. none v (subst (λ x. GivesValue (app_at reading hooks) (place_at reading) e x position v) here.node_is (subst (λ p. GivesValue (app_at reading hooks) (place_at reading) e here.entry.node p v) here.position_is given));
            before = valued_before reading hooks before (suc e) e i start steps h result unfolds e i here.entry here.at (inr (refl, omega arith));
          } in
          Valueless (place_at reading) result.live result.alpha (decider_at e here.entry) ready
          (subst (λ n. IsUnfolding (scene_of (as_map reading.arena.now) (rule_of reading.plan.now.table) (place_at reading)) (IsDartOf result) result.alpha n) unfolds.next_is unfolds) first

      pub ended_without : IsCheap → IsEnded reading hooks (refusals.NoValue e node) start later
      ended_without cheap = record {
        refused = λ ready. subst (λ x. IsRefused (app_at reading hooks) (NoValue e x)) here.node_is (refused_here ready);
        rises = let first = h.rises in omega (arith, first, rises);
        within = within_edits start later (within_read reading hooks before (suc e) e i start steps h (suc i) (suc e) later (omega arith) within_next);
        once = edits_once start later (within_read_once reading hooks before (suc e) e i start steps h (suc i) (suc e) later (omega arith) (next_by (λ result. IsReadOnce (app_at reading hooks) (place_at reading) (IsDartOf result) result.alpha) h.once cheap));
      }

    -- it is given its value
    module _ (after : PendingOf) (v : Value) (gives : GivesValue (app_at reading hooks) (place_at reading) e node position v) (changed : after ≡ with_instances before e (given_at (instances_of before e) i v)) (rises : steps ≤ later) where
      long : e < length before.asked
      long = let each = h.each in let few = h.few in omega (arith, each, few)

      other_entry : (k : ℕ) → (k ≡ e → ⊥) → deciding_of after k ≡ deciding_of before k
      other_entry k apart = ap (λ p. deciding_of p k) changed ∙ entry_other before e (given_at (instances_of before e) i v) long k apart

      same_deciders : (k : ℕ) → (k ≡ e → ⊥) → instances_of after k ≡ instances_of before k
      same_deciders k apart = ap (λ o. unwrap_or o []) (other_entry k apart)

      this_entry : deciding_of after e ≡ Some (given_at (instances_of before e) i v)
      this_entry = ap (λ p. deciding_of p e) changed ∙ entry_same before e (given_at (instances_of before e) i v) long

      pub these_deciders : instances_of after e ≡ given_at (instances_of before e) i v
      these_deciders = ap (λ o. unwrap_or o []) this_entry

      same_seen : seen_to after e (suc i) ≡ seen_to before e (suc i)
      same_seen = ap₂ (λ xs ys. xs ++ take (suc i) ys) (seen_same before after e (λ k less. same_deciders k (λ same. omega (arith, less, same)))) (ap (map (decider_at e)) these_deciders ∙ given_places e (instances_of before e) i v)

      pub given_more : IsCheap → HasRead reading hooks after (suc e) e (suc i) start later
      given_more cheap = record {
        is = is_there reading hooks before after e (given_at (instances_of before e) i v) h.is changed;
        each = ap (λ (p : PendingOf). length p.asked) changed ∙ length-set before.asked e (Some (given_at (instances_of before e) i v)) ∙ h.each;
        few = h.few;
        known = λ k less. known k less (cases_eq k e);
        unknown = λ k more there. h.unknown k more (subst IsSome (other_entry k (λ same. omega (arith, more, same))) there);
        deciders = λ k embed less at. decide k embed less at (cases_eq k e);
        given = λ k j entry at early. give k j entry at early (cases_eq k e);
        rises = let first = h.rises in omega (arith, first, rises);
        within = subst (λ seen. IsWithinSeen reading hooks seen (suc e) start later) (sym same_seen) within_next;
        once = subst (λ seen. IsWithinSeenOnce reading hooks seen (suc e) start later) (sym same_seen) (next_by (λ result. IsReadOnce (app_at reading hooks) (place_at reading) (IsDartOf result) result.alpha) h.once cheap);
      }
        where
          known : (k : ℕ) → k < suc e → (k ≡ e) ⊎ (k ≡ e → ⊥) → IsAsked after k
          known k less (inl same) = subst (IsAsked after) (sym same) (subst IsSome (sym this_entry) refl)
          known k less (inr apart) = subst IsSome (sym (other_entry k apart)) (h.known k less)

          decide : (k : ℕ) (embed : Embed) → k < suc e → IsEmbedAt reading.arena.now.schema k embed → (k ≡ e) ⊎ (k ≡ e → ⊥) → AreDecidingInstances (unasked_at reading) k embed (instances_of after k)
          decide k embed less at (inl same) =
              subst (λ n. AreDecidingInstances (unasked_at reading) n embed (instances_of after n)) (sym same)
              (subst (AreDecidingInstances (unasked_at reading) e embed) (sym these_deciders)
              (still_deciders (unasked_at reading) e embed (instances_of before e) i v (h.deciders e embed (omega arith) (subst (λ n. IsEmbedAt reading.arena.now.schema n embed) same at))))
          decide k embed less at (inr apart) = subst (AreDecidingInstances (unasked_at reading) k embed) (sym (same_deciders k apart)) (h.deciders k embed less at)

          right_here : (entry : Entry) → entry ≡ record { node = here.entry.node; position = here.entry.position; given = Some v } → IsGivenRight reading hooks e entry
          right_here entry same = (
            v,
            ap (λ (x : Entry). x.given) same,
            subst (λ (x : Entry). GivesValue (app_at reading hooks) (place_at reading) e x.node x.position v) (sym same)
                (subst (λ x. GivesValue (app_at reading hooks) (place_at reading) e x here.entry.position v) (sym here.node_is) (subst (λ p. GivesValue (app_at reading hooks) (place_at reading) e node p v) (sym here.position_is) gives)),
          )

          in_this : (j : ℕ) (entry : Entry) → slice_get (instances_of after e) j ≡ Some entry → j < suc i → (j ≡ i) ⊎ (j ≡ i → ⊥) → IsGivenRight reading hooks e entry
          in_this j entry at less (inl same) =
              right_here entry (given_here (instances_of before e) i v here.entry entry here.at (subst (λ n. slice_get (given_at (instances_of before e) i v) n ≡ Some entry) same (subst (λ entries. slice_get entries j ≡ Some entry) these_deciders at)))
          in_this j entry at less (inr apart) =
              h.given e j entry (sym (given_other (instances_of before e) i j v apart) ∙ subst (λ entries. slice_get entries j ≡ Some entry) these_deciders at) (inr (refl, omega (arith, less, apart)))

          give : (k j : ℕ) (entry : Entry) → slice_get (instances_of after k) j ≡ Some entry → (k < e) ⊎ ((k ≡ e) × (j < suc i)) → (k ≡ e) ⊎ (k ≡ e → ⊥) → IsGivenRight reading hooks k entry
          give k j entry at early (inl same) =
              subst (λ n. IsGivenRight reading hooks n entry) (sym same)
              (in_this j entry (subst (λ n. slice_get (instances_of after n) j ≡ Some entry) same at) (elim early [ inl less ↦ absurd (omega (arith, less, same)) | inr this ↦ this.1 ]) (cases_eq j i))
          give k j entry at early (inr apart) =
              h.given k j entry (subst (λ entries. slice_get entries j ≡ Some entry) (same_deciders k apart) at) (elim early [ inl less ↦ inl less | inr this ↦ absurd (apart this.0) ])

  -- ---- all of an embedding are given

  pub all_given : (pending : PendingOf) (e i start steps : ℕ) → HasRead reading hooks pending (suc e) e i start steps → length (instances_of pending e) ≤ i → HasRead reading hooks pending (suc e) (suc e) 0 start steps
  all_given pending e i start steps h past = record {
    is = h.is;
    each = h.each;
    few = h.few;
    known = h.known;
    unknown = h.unknown;
    deciders = h.deciders;
    given = λ k j entry at early. give k j entry at early (cases_eq k e);
    rises = h.rises;
    within = subst (λ seen. IsWithinSeen reading hooks seen (suc e) start steps) whole h.within;
    once = subst (λ seen. IsWithinSeenOnce reading hooks seen (suc e) start steps) whole h.once;
  }
    where
      give : (k j : ℕ) (entry : Entry) → slice_get (instances_of pending k) j ≡ Some entry → (k < suc e) ⊎ ((k ≡ suc e) × (j < 0)) → (k ≡ e) ⊎ (k ≡ e → ⊥) → IsGivenRight reading hooks k entry
      give k j entry at early (inl same) =
          let inside = slice_get_within (instances_of pending k) j entry at in
          let long : length (instances_of pending k) ≡ length (instances_of pending e) = ap (λ n. length (instances_of pending n)) same in
          h.given k j entry at (inr (same, omega (arith, inside, long, past)))
      give k j entry at (inl less) (inr apart) = h.given k j entry at (inl (omega (arith, less, apart)))
      give k j entry at (inr none) (inr apart) = absurd (let less = none.1 in omega (arith, less))

      whole : seen_to pending e i ≡ seen_to pending (suc e) 0
      whole =
          let same = length-map (instances_of pending e) (decider_at e) in
          ap (λ xs. seen_before pending e ++ xs) (take_all i (seen_at pending e) (omega (arith, past, same))) ∙ sym (nothing_behind (seen_before pending e ++ seen_at pending e))

  -- ---- all are given

  module _ (pending : PendingOf) (start steps : ℕ) (h : HasRead reading hooks pending (length reading.arena.now.schema.embeds) (length reading.arena.now.schema.embeds) 0 start steps) where
    pub all_right : (k : ℕ) (entry : Entry) → k < length reading.arena.now.schema.embeds → Contains (instances_of pending k) entry → IsGivenRight reading hooks k entry
    all_right k entry less among = h.given k among.0 entry (contained_at (instances_of pending k) entry among) (inl less)

    pub every_one : AllGiven pending
    every_one e less =
        let low : e < length reading.arena.now.schema.embeds = subst (λ n. e < n) (ap (λ (p : PendingOf). length p.map.schema.embeds) h.is) less in
        (h.known e low, λ decider among. let right = all_right e decider low among in subst IsSome (sym right.1) refl)

    pub read_within : IsWithinRead reading hooks start steps
    read_within = within_read reading hooks pending (length reading.arena.now.schema.embeds) (length reading.arena.now.schema.embeds) 0 start steps h 0 (length reading.arena.now.schema.embeds) steps (omega arith) h.within

    module _ (later : ℕ) (rises : steps ≤ later)
        (cost : (reached : ℕ) → IsReachedSumIn pending reached → later ≤ steps + 6 * (pending.map.schema.dim + 1) * (length (rule_in pending).nodes * pending.placed.positions + reached + 1)) where
      cost_here : (reached : ℕ) → IsReachedSumIn (pending_at reading pending) reached
          → later ≤ steps + 6 * (reading.arena.now.schema.dim + 1) * (length (rule_of reading.plan.now.table).nodes * reading.found.now.positions + reached + 1)
      cost_here = subst (λ (p : PendingOf). (reached : ℕ) → IsReachedSumIn p reached → later ≤ steps + 6 * (p.map.schema.dim + 1) * (length (rule_in p).nodes * p.placed.positions + reached + 1)) h.is cost

      all_within : IsWithinEdits reading hooks start later
      all_within result count read unfolds reached s =
          let before_them = read_within result count read unfolds reached s in
          let in_all : IsReachedSumIn (pending_at reading pending) count = record { result = result; unfolded = unfolds; counts = reached.counts; each = reached.each; counts_are = reached.counts_are; sum_is = reached.sum_is } in
          let last = cost_here count in_all in
          omega (arith, before_them, last)

      all_within_once : IsWithinEditsOnce reading hooks start later
      all_within_once result count read unfolds reached s =
          let before_them = within_read_once reading hooks pending (length reading.arena.now.schema.embeds) (length reading.arena.now.schema.embeds) 0 start steps h 0 (length reading.arena.now.schema.embeds) steps (omega arith) h.once result count read unfolds reached s in
          let in_all : IsReachedSumIn (pending_at reading pending) count = record { result = result; unfolded = unfolds; counts = reached.counts; each = reached.each; counts_are = reached.counts_are; sum_is = reached.sum_is } in
          let last = cost_here count in_all in
          omega (arith, before_them, last)

      pub ended_editing : IsEnded reading hooks refusals.OutOfMemory start later
      ended_editing = record { refused = λ ready. tt; rises = let first = h.rises in omega (arith, first, rises); within = all_within; once = all_within_once }

      pub has_edits : (edits : EditLists) → AreEditsOf pending edits → HasEdits reading hooks edits start later
      has_edits edits are = record { pending = pending; is = h.is; right = all_right; edits_of = are; rises = let first = h.rises in omega (arith, first, rises); within = all_within; once = all_within_once }

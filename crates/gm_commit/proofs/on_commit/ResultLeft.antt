-- The stages of a commit make the result: what each needs is there, and what the last leaves is the unfolding.
use Rattle.std.proofs.Common.{◌≡◌, ◌≢◌, ℕ, ◌+◌, ◌-◌, ◌*◌, ◌<◌, ◌≤◌, ◌⊎◌, not, false, List, [], length, get_or, slice_get, unwrap_or, Some, None, is_some, IsTrue, refl, sym, ap, ◌∙◌, subst, inl, inr, arith, mul_comm, pos}
use Rattle.std.specs.FinMap.{get}
use Rattle.std.specs.List.{Contains}
use Rattle.std.specs.Option.{option_map}
use Rattle.std.proofs.lemmas.Bool.{false≢true}
use Rattle.std.proofs.lemmas.Option.{same_Some, slice_get_within}
use Rattle.gm_model.specs.declared.rule.Side.TheVariants.{Left, Right}
use Rattle.gm_model.specs.declared.schema.Embed.{Embed}
use Rattle.gm_model.specs.declared.schema.Schema.{Schema}
use Rattle.gm_model.specs.declared.value.Value.{Value}
use Rattle.gm_model.specs.declared.value.Value.TheVariants.{Int}
use Rattle.gm_model.specs.Maps.{IsDart, IsEmbedAt, type_of}
use Rattle.gm_model.specs.NewValues.{IsUndecided, Kept}
use Rattle.gm_model.specs.Rules.{has_word, is_added}
use Rattle.gm_model.specs.Unfolding.{Scene, IsGone, IsDartAfter, IsCutAt, IsMadeArc, IsArcAfter, IsUnfolding, added_before, added_nodes}
use Rattle.gm_arena.specs.declared.slot.Slot.{Slot}
use Rattle.gm_arena.specs.inner.ArenaAsMap.{as_map, value}
use Rattle.gm_arena.specs.inner.ArenaMap.{ArenaMap, Dart, IsAt, IsLiveName, name_at, alpha}
use Rattle.gm_arena.specs.inner.Edits.{IsAlone}
use Rattle.gm_arena.specs.inner.Parts.{part_of}
use Rattle.gm_arena.proofs.InsideLemmas.{is_some_at, part_long, some_from_map}
use Rattle.gm_arena.proofs.ValueLemmas.{length-values}
use Rattle.gm_arena.proofs.MapLemmas.{name_at-is, IsAt-name_at, IsLiveName-name_at, name_below, alpha-alike}
use Rattle.gm_theory.proofs.Arcs.{cut_back, gone_cut, arc_from, arc_to, one_arc}
use Rattle.gm_theory.proofs.NewNames.{new_name}
use Rattle.gm_theory.proofs.Tests.{both_true, not_both, same_or_not, true_or_false}
use Rattle.gm_theory.proofs.RuleSteps.{word_below}
use Rattle.gm_commit.specs.inner.Arcs.{Arc}
use Rattle.gm_commit.specs.inner.Arcs.{End}
use Rattle.gm_commit.specs.inner.Arcs.End.{Old, New}
use Rattle.gm_commit.specs.declared.changes.ValueAt.{ValueAt}
use Rattle.gm_pending.specs.inner.Results.{PendingOf, IsUnfoldedIn, IsValueIn, rule_in, place_in, scene_in}
use Rattle.gm_commit.specs.inner.EditLists.{EditLists, AreEditsOf, IsOldEnd, IsResultEnd, IsResultOf, IsThere, IsUntouched, Matched, Valued, added_value, end_name}
use Rattle.gm_commit.specs.inner.WrittenMap.{AreWhole, IsWritable, IsLiveEnd, IsSettable, CanRemove, IsExtended, end_at, values_at, with_arcs, with_values, without_darts}
use Rattle.gm_pending.proofs.on_pending.PreparedIsLawful.{law}
use Rattle.gm_pending.proofs.on_pending.MadeArcs.{exists_arc, not_gone}
use Rattle.gm_commit.proofs.on_new_darts.ValuesOfKind.{part_entry, typed}
use Rattle.gm_commit.proofs.on_new_darts.Numbers.{numbered, number_below}
use Rattle.gm_commit.proofs.on_commit.AfterArcs.{arcs_elsewhere, arcs_frame, arcs_live, arcs_values, arcs_whole, arcs_written, AreWritable, IsWrittenOrKept}
use Rattle.gm_commit.proofs.on_old_darts.AfterValues.{AreFitting, AreWide, IsSetOrKept, value_alike, value_among, value_is, values_alpha, values_frame, values_kept, values_live, values_set}
use Rattle.gm_theory.specs.inner.Theorem.{Unfolded}
use Rattle.gm_commit.proofs.on_commit.AfterRemoval.{IsUnnamed, can_remove, dart_stays, dart_goes, slot_stays, without_whole, more_room}

module _ (app : PendingOf) (edits : EditLists) (ok : AreEditsOf app edits) (spare reserved : ℕ) where
  abbrev scene : Scene
  scene = scene_in app

  -- the arena as it is before
  abbrev pub before : ArenaMap
  before = record app.map { spare = spare; reserved = reserved }

  -- ---- the arcs that are freed

  abbrev pub freed : ArenaMap
  freed = with_arcs (end_at before []) before edits.freed

  old_end : (end : End) → IsOldEnd app end → IsLiveEnd before [] end × (end_at before [] end ≡ end_name app end) × IsLiveName before (end_at before [] end)
  old_end (Old slot) live = ((tt, live), refl, IsLiveName-name_at app.map slot.at ok.prepared.lawful live)
  old_end (New number) h = absurd h

  pub can_free : (arc : Arc) → Contains edits.freed arc → IsWritable before [] arc
  can_free arc among = record {
    from = (old_end arc.from (ok.freed.ends arc among).0).0;
    label = ok.freed.labels arc among;
    to = (old_end arc.to (ok.freed.ends arc among).1).0;
  }

  freed_slots : freed.slots ≡ app.map.slots
  freed_slots = ap (λ (m : ArenaMap). m.slots) (arcs_frame (end_at before []) edits.freed before)

  freed_schema : freed.schema ≡ app.map.schema
  freed_schema = ap (λ (m : ArenaMap). m.schema) (arcs_frame (end_at before []) edits.freed before)

  freed_live : (d : ℕ) → is_some (get freed.darts d) ≡ is_some (get app.map.darts d)
  freed_live = arcs_live (end_at before []) edits.freed before

  freed_name : (slot : ℕ) → name_at freed slot ≡ name_at app.map slot
  freed_name slot = ap (λ slots. unwrap_or (get slots slot) 0) freed_slots

  whole_before : AreWhole before
  whole_before name dart is = (ok.prepared.lawful.dart name dart is).whole

  freed_whole : AreWhole freed
  freed_whole = arcs_whole (end_at before []) edits.freed before whole_before

  -- an arc that is cut, and led to a dart that goes
  abbrev IsLost : ℕ → ℕ → Type 0
  IsLost d i = IsCutAt scene d i × IsGone scene (alpha app.map i d)

  -- an arc of the freed map leads back to its own dart, or is as it was
  freed_arc : (d i : ℕ) → i ≤ app.map.schema.dim → (IsLost d i × (alpha freed i d ≡ d)) ⊎ ((IsLost d i → ⊥) × (alpha freed i d ≡ alpha app.map i d))
  freed_arc d i h = go (arcs_written (end_at before []) edits.freed before whole_before fit d i)
    where
      fit : AreWritable (end_at before []) before edits.freed
      fit arc among = ((old_end arc.from (ok.freed.ends arc among).0).2, ok.freed.labels arc among)

      go : IsWrittenOrKept (end_at before []) before edits.freed d i (alpha freed i d) → (IsLost d i × (alpha freed i d ≡ d)) ⊎ ((IsLost d i → ⊥) × (alpha freed i d ≡ alpha app.map i d))
      go (inl w) =
          let ends = ok.freed.ends w.arc w.among in
          let good = ok.freed.good w.arc w.among in
          let from : end_name app w.arc.from ≡ d = sym (old_end w.arc.from ends.0).1 ∙ w.from in
          inl (subst (λ j. IsLost d j) w.label (subst (λ c. IsLost c w.arc.label) from (good.cut, good.gone)), w.leads ∙ (old_end w.arc.to ends.1).1 ∙ good.back ∙ from)
      go (inr (unwritten, same)) = inr (
        λ lost.
            let there = ok.freed.needed d i d (record { cut = lost.0; gone = lost.1; label = h; back = refl }) in
            unwritten there.0 there.1 ((old_end there.0.from (ok.freed.ends there.0 there.1).0).1 ∙ there.2) there.3,
        same,
      )

  -- ---- the darts that are removed

  abbrev pub fewer : ArenaMap
  fewer = without_darts freed edits.removed

  alone : (d : ℕ) → IsGone scene d → IsAlone freed d
  alone d gone other label live apart within leads = go (freed_arc other label h)
    where
      h : label ≤ app.map.schema.dim
      h = rw freed_schema at within

      was : IsTrue (scene.live other)
      was = sym (freed_live other) ∙ live

      go : (IsLost other label × (alpha freed label other ≡ other)) ⊎ ((IsLost other label → ⊥) × (alpha freed label other ≡ alpha app.map label other)) → ⊥
      go (inl (lost, back)) = apart (sym back ∙ leads)
      go (inr (found, same)) =
          let to : alpha app.map label other ≡ d = sym same ∙ leads in
          found (
            cut_back scene _ _ _ (law app ok.prepared) other label was h (subst (λ c. IsCutAt scene c label) (sym to) (gone_cut scene _ _ _ (law app ok.prepared) d label h gone)),
            subst (IsGone scene) (sym to) gone,
          )

  pub can_go : CanRemove freed edits.removed
  can_go = can_remove edits.removed freed ok.removed.distinct (λ slot among. (
    rw freed_slots (ok.removed.live slot among),
    subst (IsAlone freed) (sym (freed_name slot.at)) (alone (name_at app.map slot.at) (ok.removed.gone slot among)),
  ))

  -- a dart stays unless it goes
  unnamed : (d : ℕ) → (IsGone scene d → ⊥) → IsUnnamed freed edits.removed d
  unnamed d stays slot among e = stays (subst (IsGone scene) (sym (freed_name slot.at) ∙ e) (ok.removed.gone slot among))

  fewer_dart : (d : ℕ) → (IsGone scene d → ⊥) → get fewer.darts d ≡ get freed.darts d
  fewer_dart d stays = dart_stays edits.removed freed d ok.removed.distinct (unnamed d stays)

  fewer_live : (d : ℕ) → IsLiveName fewer d → IsTrue (scene.live d) × (IsGone scene d → ⊥)
  fewer_live d live = (sym (freed_live d) ∙ sym (ap is_some (fewer_dart d stays)) ∙ live, stays)
    where
      stays : IsGone scene d → ⊥
      stays gone =
          let there = ok.removed.all d gone in
          let none : get fewer.darts d ≡ None = subst (λ c. get fewer.darts c ≡ None) (freed_name there.0.at ∙ there.2) (dart_goes edits.removed freed there.0 ok.removed.distinct there.1) in
          false≢true (rw none at live)

  fewer_slot : (slot : ℕ) → (IsGone scene (name_at app.map slot) → ⊥) → get fewer.slots slot ≡ get app.map.slots slot
  fewer_slot slot stays =
      slot_stays edits.removed freed slot (λ other among e. stays (subst (λ n. IsGone scene (name_at app.map n)) e (ok.removed.gone other among)))
      ∙ ap (λ slots. get slots slot) freed_slots

  pub fewer_schema : fewer.schema ≡ app.map.schema
  fewer_schema = (more_room edits.removed freed).schema ∙ freed_schema

  pub fewer_next : fewer.next ≡ app.map.next
  fewer_next = (more_room edits.removed freed).next ∙ ap (λ (m : ArenaMap). m.next) (arcs_frame (end_at before []) edits.freed before)

  pub fewer_reserved : fewer.reserved ≡ reserved
  fewer_reserved = (more_room edits.removed freed).reserved ∙ ap (λ (m : ArenaMap). m.reserved) (arcs_frame (end_at before []) edits.freed before)

  fewer_count : fewer.count ≡ app.map.count - length edits.removed
  fewer_count = (more_room edits.removed freed).count ∙ ap (λ (m : ArenaMap). m.count - length edits.removed) (arcs_frame (end_at before []) edits.freed before)

  pub fewer_spare : fewer.spare ≡ spare + length edits.removed
  fewer_spare = (more_room edits.removed freed).spare ∙ ap (λ (m : ArenaMap). m.spare + length edits.removed) (arcs_frame (end_at before []) edits.freed before)

  -- ---- the darts that are added, and the arcs that are made

  module _ (made : List Slot) (more : ArenaMap) (extended : IsExtended fewer edits.added_values made more) (long : length made ≡ edits.added) where
    numbers : edits.added ≡ app.placed.positions * added_nodes (rule_in app)
    numbers = ok.added_is

    more_live : (d : ℕ) → IsDartAfter scene d → IsLiveName more d
    more_live d (inl (live, stays)) =
        let low : d < fewer.next = rw fewer_next (name_below app.map d ok.prepared.lawful live) in
        ap is_some (extended.darts d low) ∙ ap is_some (fewer_dart d stays) ∙ freed_live d ∙ live
    more_live d (inr (x, p, a, b, e)) =
        let right : IsTrue (has_word (rule_in app) Right x) = (both_true (not (has_word (rule_in app) Left x)) (has_word (rule_in app) Right x) a).1 in
        let below : added_before (rule_in app) x * app.placed.positions + p < length made = rw (long, numbers) (number_below (rule_in app) app.placed.positions x p a (word_below (rule_in app) Right x right) b) in
        let name : fewer.next + (added_before (rule_in app) x * app.placed.positions + p) ≡ d = omega (arith, fewer_next, e, new_name (as_map app.map) (rule_in app) (place_in app) x p a) in
        subst (IsLiveName more) name (extended.made_live (added_before (rule_in app) x * app.placed.positions + p) below)

    then_dart : (d : ℕ) → IsLiveName more d → IsDartAfter scene d
    then_dart d live = elim (extended.only d live) [
      | inl old ↦ inl (fewer_live d old)
      | inr (number, h, e) ↦
          let low : number < added_before (rule_in app) (length (rule_in app).nodes) * app.placed.positions = omega (arith, h, long, numbers, mul_comm (added_nodes (rule_in app)) app.placed.positions) in
          let at = numbered (rule_in app) app.placed.positions (length (rule_in app).nodes) number low in
          inr (at.node, at.position, at.added, at.within, omega (arith, e, fewer_next, at.is, new_name (as_map app.map) (rule_in app) (place_in app) at.node at.position at.added))
    ]

    result_end : (end : End) → IsResultEnd app end → IsLiveEnd more made end × (end_at more made end ≡ end_name app end) × IsLiveName more (end_at more made end)
    result_end (Old slot) (live, stays) =
        let at : IsAt more slot.at (name_at app.map slot.at) = extended.slots slot.at (name_at app.map slot.at) (fewer_slot slot.at stays ∙ IsAt-name_at app.map slot.at live) in
        let name : name_at more slot.at ≡ name_at app.map slot.at = name_at-is more slot.at _ at in
        ((tt, is_some_at _ _ at), name, rw name (more_live (name_at app.map slot.at) (inl (IsLiveName-name_at app.map slot.at ok.prepared.lawful live, stays))))
    result_end (New number) h =
        let below : number < length made = rw (long, numbers) h in
        let at = extended.made_at number below in
        let name : name_at more (get_or made number (record { at = 0 })).at ≡ fewer.next + number = name_at-is more _ _ at in
        ((below, is_some_at _ _ at), name ∙ ap (λ n. n + number) fewer_next, rw name (extended.made_live number below))

    more_schema : more.schema ≡ app.map.schema
    more_schema = extended.schema ∙ fewer_schema

    pub can_link : (arc : Arc) → Contains edits.arcs arc → IsWritable more made arc
    can_link arc among = record {
      from = (result_end arc.from (ok.arcs.ends arc among).0).0;
      label = rw more_schema (ok.arcs.labels arc among);
      to = (result_end arc.to (ok.arcs.ends arc among).1).0;
    }

    abbrev pub linked : ArenaMap
    linked = with_arcs (end_at more made) more edits.arcs

    linked_live : (d : ℕ) → is_some (get linked.darts d) ≡ is_some (get more.darts d)
    linked_live = arcs_live (end_at more made) edits.arcs more

    -- the arc of the result
    linked_arc : (d i : ℕ) → IsDartAfter scene d → i ≤ scene.dimension → IsArcAfter scene d i (alpha linked i d)
    linked_arc d i after h = go (arcs_written (end_at more made) edits.arcs more (extended.whole (without_whole edits.removed freed freed_whole)) fit d i) (exists_arc scene _ _ _ (law app ok.prepared) d i h after)
      where
        fit : AreWritable (end_at more made) more edits.arcs
        fit arc among = ((result_end arc.from (ok.arcs.ends arc among).0).2, rw more_schema (ok.arcs.labels arc among))

        stays : IsGone scene d → ⊥
        stays = not_gone scene _ _ _ (law app ok.prepared) d after

        -- an arc of the old map that the result has too is as it was
        as_it_was : (e : ℕ) → IsTrue (scene.live d) → alpha app.map i d ≡ e → IsArcAfter scene d i e → alpha linked i d ≡ alpha more i d → IsArcAfter scene d i (alpha linked i d)
        as_it_was e live leads arc same =
            let low : d < fewer.next = rw fewer_next (name_below app.map d ok.prepared.lawful live) in
            let there : IsGone scene e → ⊥ = not_gone scene _ _ _ (law app ok.prepared) e (arc_to scene _ _ _ (law app ok.prepared) d i e arc) in
            let unfreed : alpha freed i d ≡ alpha app.map i d = elim (freed_arc d i h) [
              | inl (lost, back) ↦ absurd (there (subst (IsGone scene) leads lost.1))
              | inr (found, old) ↦ old
            ] in
            subst (IsArcAfter scene d i) (sym (same ∙ alpha-alike fewer more i d (extended.darts d low) ∙ alpha-alike freed fewer i d (fewer_dart d stays) ∙ unfreed ∙ leads)) arc

        there_or_not : (e : ℕ) → IsThere app d i e ⊎ (IsThere app d i e → ⊥)
        there_or_not e = go (true_or_false (scene.live d)) (same_or_not (alpha app.map i d) e)
          where
            go : IsTrue (scene.live d) ⊎ (scene.live d ≡ false) → (alpha app.map i d ≡ e) ⊎ (alpha app.map i d ≡ e → ⊥) → IsThere app d i e ⊎ (IsThere app d i e → ⊥)
            go (inl live) (inl leads) = inl (live, leads)
            go (inl live) (inr other) = inr (λ there. other there.1)
            go (inr dead) any = inr (λ there. not_both (scene.live d) there.0 dead)

        go : IsWrittenOrKept (end_at more made) more edits.arcs d i (alpha linked i d) → (e : ℕ) × IsArcAfter scene d i e → IsArcAfter scene d i (alpha linked i d)
        go (inl w) any =
            let ends = ok.arcs.ends w.arc w.among in
            let from : end_name app w.arc.from ≡ d = sym (result_end w.arc.from ends.0).1 ∙ w.from in
            let to : end_name app w.arc.to ≡ alpha linked i d = sym (w.leads ∙ (result_end w.arc.to ends.1).1) in
            inr (subst (IsMadeArc scene d i) to (subst (λ j. IsMadeArc scene d j (end_name app w.arc.to)) w.label (subst (λ c. IsMadeArc scene c w.arc.label (end_name app w.arc.to)) from (ok.arcs.good w.arc w.among))))
        go (inr (unwritten, same)) (e, inl arc) = as_it_was e arc.live arc.leads (inl arc) same
        go (inr (unwritten, same)) (e, inr arc) = elim (there_or_not e) [
          | inl (live, leads) ↦ as_it_was e live leads (inr arc) same
          | inr new ↦
              let there = ok.arcs.needed d i e (arc, new) in
              absurd (unwritten there.0 there.1 ((result_end there.0.from (ok.arcs.ends there.0 there.1).0).1 ∙ there.2) there.3)
        ]

    linked_next : linked.next ≡ app.map.next + edits.added
    linked_next = ap (λ (m : ArenaMap). m.next) (arcs_frame (end_at more made) edits.arcs more) ∙ extended.next ∙ omega (arith, fewer_next, long)

    linked_count : linked.count ≡ app.map.count - length edits.removed + edits.added
    linked_count = omega (arith, ap (λ (m : ArenaMap). m.count) (arcs_frame (end_at more made) edits.arcs more), extended.count, long, fewer_count)

    linked_spare : linked.spare + edits.added ≡ spare + length edits.removed
    linked_spare = omega (arith, ap (λ (m : ArenaMap). m.spare) (arcs_frame (end_at more made) edits.arcs more), extended.spare, long, fewer_spare)

    linked_reserved : linked.reserved ≡ reserved
    linked_reserved = ap (λ (m : ArenaMap). m.reserved) (arcs_frame (end_at more made) edits.arcs more) ∙ extended.reserved ∙ fewer_reserved

    linked_schema : linked.schema ≡ app.map.schema
    linked_schema = ap (λ (m : ArenaMap). m.schema) (arcs_frame (end_at more made) edits.arcs more) ∙ more_schema

    to_dart : (d : ℕ) → IsDart (as_map linked) d → IsDartAfter scene d
    to_dart d live = then_dart d (sym (linked_live d) ∙ live)

    from_dart : (d : ℕ) → IsDartAfter scene d → IsDart (as_map linked) d
    from_dart d after = linked_live d ∙ more_live d after

    linked_unfolded : IsUnfolding scene (IsDart (as_map linked)) (alpha linked) linked.next
    linked_unfolded = record {
      darts = λ d. (to_dart d, from_dart d);
      arcs = λ d i e h. (
        λ there. subst (IsArcAfter scene d i) there.1 (linked_arc d i (to_dart d there.0) h),
        λ arc. let after = arc_from scene _ _ _ (law app ok.prepared) d i e arc in (from_dart d after, one_arc scene _ _ _ (law app ok.prepared) d i (alpha linked i d) e (linked_arc d i after h) arc),
      );
      next_is = linked_next ∙ ap (λ n. app.map.next + n) numbers;
    }

    -- ---- the values

    abbrev pub valued : ArenaMap
    valued = with_values linked edits.values

    width : length fewer.schema.embeds ≡ length app.map.schema.embeds
    width = ap (λ (s : Schema). length s.embeds) fewer_schema

    linked_values : (d : ℕ) → values_at linked d ≡ values_at more d
    linked_values = arcs_values (end_at more made) edits.arcs more

    -- a dart that stays has its old values so far
    stayed_values : (d : ℕ) → IsTrue (scene.live d) → (IsGone scene d → ⊥) → values_at linked d ≡ values_at app.map d
    stayed_values d live stays =
        let low : d < fewer.next = rw fewer_next (name_below app.map d ok.prepared.lawful live) in
        linked_values d
        ∙ ap (option_map (λ (dart : Dart). dart.values)) (extended.darts d low ∙ fewer_dart d stays)
        ∙ arcs_values (end_at before []) edits.freed before d

    -- an added dart has those that were given
    added_values : (number : ℕ) → number < edits.added → values_at linked (app.map.next + number) ≡ Some (part_of (length app.map.schema.embeds) edits.added_values number)
    added_values number low = rw (← fewer_next, ← width) (linked_values (fewer.next + number) ∙ extended.valued number (omega (arith, long)))

    -- a dart of the result by its number, where it is added
    numbered_dart : (x p d : ℕ) → IsTrue (is_added (rule_in app) x) → p < app.placed.positions → d ≡ scene.name_of x p → (number : ℕ) × (number < edits.added) × (app.map.next + number ≡ d)
    numbered_dart x p d a b e =
        let right : IsTrue (has_word (rule_in app) Right x) = (both_true (not (has_word (rule_in app) Left x)) (has_word (rule_in app) Right x) a).1 in
        let below : added_before (rule_in app) x * app.placed.positions + p < edits.added = rw numbers (number_below (rule_in app) app.placed.positions x p a (word_below (rule_in app) Right x right) b) in
        (added_before (rule_in app) x * app.placed.positions + p, below, omega (arith, e, new_name (as_map app.map) (rule_in app) (place_in app) x p a))

    linked_wide : AreWide linked
    linked_wide d values is = rw linked_schema (go (then_dart d (ap is_some there.1)))
      where
        there : (dart : Dart) × (get more.darts d ≡ Some dart) × (values ≡ dart.values)
        there = some_from_map (λ (dart : Dart). dart.values) (get more.darts d) values (sym (linked_values d) ∙ is)

        go : IsDartAfter scene d → length values ≡ length app.map.schema.embeds
        go (inl (live, stays)) =
            let was = some_from_map (λ (dart : Dart). dart.values) (get app.map.darts d) values (sym (stayed_values d live stays) ∙ is) in
            ap (λ (list : List Value). length list) was.2 ∙ length-values app.map.schema was.0.values (ok.prepared.lawful.dart d was.0 was.1).valued
        go (inr (x, p, a, b, e)) =
            let at = numbered_dart x p d a b e in
            let own : values ≡ part_of (length app.map.schema.embeds) edits.added_values at.0 = same_Some _ _ (sym is ∙ subst (λ c. values_at linked c ≡ Some (part_of (length app.map.schema.embeds) edits.added_values at.0)) at.2 (added_values at.0 at.1)) in
            ap (λ (list : List Value). length list) own ∙ part_long (length app.map.schema.embeds) edits.added_values edits.added at.0 at.1 (omega (arith, ok.added_values.long))

    linked_slots : linked.slots ≡ more.slots
    linked_slots = ap (λ (m : ArenaMap). m.slots) (arcs_frame (end_at more made) edits.arcs more)

    linked_name : (slot : Slot) → IsResultEnd app (Old slot) → name_at linked slot.at ≡ name_at app.map slot.at
    linked_name slot stays = ap (λ slots. unwrap_or (get slots slot.at) 0) linked_slots ∙ (result_end (Old slot) stays).1

    pub can_set : (at : ValueAt) → Contains edits.values at → IsSettable linked at
    can_set at among =
        let new = ok.values.new at among in
        record {
          live = rw linked_slots (result_end (Old at.slot) new.stays).0.1;
          embed = new.embed;
          embed_at = rw linked_schema new.embed_at;
          value = typed app ok.prepared at.embed (name_at app.map at.slot.at) new.embed at.value new.embed_at new.value;
        }

    fitting : AreFitting linked edits.values
    fitting at among =
        let new = ok.values.new at among in
        let end = result_end (Old at.slot) new.stays in
        (rw (linked_name at.slot new.stays, ← end.1) (linked_live (name_at more at.slot.at) ∙ end.2), rw linked_schema (slice_get_within app.map.schema.embeds at.embed new.embed new.embed_at))

    value_in : (e d : ℕ) (embed : Embed) → IsEmbedAt app.map.schema e embed → IsDartAfter scene d → IsValueIn app e embed d (value valued e d)
    value_in e d embed embed_at after = go (values_set edits.values linked linked_wide fitting e d)
      where
        moved : (k c : ℕ) (other : Embed) (v : Value) → IsEmbedAt app.map.schema k other → k ≡ e → c ≡ d → value valued e d ≡ v → IsValueIn app k other c v → IsValueIn app e embed d (value valued e d)
        moved k c other v other_at number name same is =
            let one : other ≡ embed = same_Some other embed (sym other_at ∙ ap (slice_get app.map.schema.embeds) number ∙ embed_at) in
            subst (IsValueIn app e embed d) (sym same) (subst (λ b. IsValueIn app e embed b v) name (subst (λ m. IsValueIn app e m c v) one (subst (λ j. IsValueIn app j other c v) number is)))

        go : IsSetOrKept linked edits.values e d (value valued e d) → IsValueIn app e embed d (value valued e d)
        go (inl s) =
            let new = ok.values.new s.at s.among in
            moved s.at.embed (name_at app.map s.at.slot.at) new.embed s.at.value new.embed_at s.embed (sym (linked_name s.at.slot new.stays) ∙ s.name) s.value new.value
        go (inr (unset, same)) = kept after
          where
            kept : IsDartAfter scene d → IsValueIn app e embed d (value valued e d)
            kept (inl (live, stays)) = subst (IsValueIn app e embed d) (sym (same ∙ value_alike app.map linked e d (stayed_values d live stays))) (λ result unfolds. Kept (undecided result unfolds) live refl)
              where
                undecided : (result : Unfolded) → IsUnfoldedIn app result → IsUndecided (as_map app.map) (rule_in app) (place_in app) result.alpha e (type_of embed) d
                undecided result unfolds x p assigned lies =
                    let there = ok.values.all result unfolds e d embed embed_at live ((unfolds.darts d).1 (inl (live, stays)), (x, p, assigned, lies)) in
                    unset there.0 there.1 there.2.0 (linked_name there.0.slot (ok.values.new there.0 there.1).stays ∙ there.2.1)
            kept (inr (x, p, a, b, name)) =
                let at = numbered_dart x p d a b name in
                let is : value linked e (app.map.next + at.0) ≡ added_value app.map.schema edits.added_values at.0 e =
                value_is linked e (app.map.next + at.0) ∙ ap (value_among e) (added_values at.0 at.1) ∙ part_entry (length app.map.schema.embeds) edits.added_values at.0 e (Int (pos 0)) (slice_get_within app.map.schema.embeds e embed embed_at) in
                moved e (app.map.next + at.0) embed (added_value app.map.schema edits.added_values at.0 e) embed_at refl at.2 (same ∙ ap (value linked e) (sym at.2) ∙ is) (ok.added_values.given at.0 e embed at.1 embed_at)

    -- ---- the result

    abbrev frame : valued ≡ record linked { darts = valued.darts }
    frame = values_frame edits.values linked

    valued_unfolded : IsUnfolding scene (IsDart (as_map valued)) (alpha valued) valued.next
    valued_unfolded = record {
      darts = λ d. (λ live. (linked_unfolded.darts d).0 (sym (values_live edits.values linked d) ∙ live), λ after. values_live edits.values linked d ∙ (linked_unfolded.darts d).1 after);
      arcs = λ d i e h. (
        λ there. (linked_unfolded.arcs d i e h).0 (sym (values_live edits.values linked d) ∙ there.0, sym (values_alpha edits.values linked i d) ∙ there.1),
        λ arc. let there = (linked_unfolded.arcs d i e h).1 arc in (values_live edits.values linked d ∙ there.0, values_alpha edits.values linked i d ∙ there.1),
      );
      next_is = ap (λ (m : ArenaMap). m.next) frame ∙ linked_unfolded.next_is;
    }

    pub valued_schema : valued.schema ≡ app.map.schema
    valued_schema = ap (λ (m : ArenaMap). m.schema) frame ∙ linked_schema

    pub valued_count : valued.count ≡ app.map.count - length edits.removed + edits.added
    valued_count = ap (λ (m : ArenaMap). m.count) frame ∙ linked_count

    pub valued_spare : valued.spare + edits.added ≡ spare + length edits.removed
    valued_spare = ap (λ (m : ArenaMap). m.spare + edits.added) frame ∙ linked_spare

    pub valued_reserved : valued.reserved ≡ reserved
    valued_reserved = ap (λ (m : ArenaMap). m.reserved) frame ∙ linked_reserved

    pub committed : IsResultOf app valued
    committed = record {
      schema = valued_schema;
      unfolded = valued_unfolded;
      values = λ e d embed at live. value_in e d embed at ((valued_unfolded.darts d).0 live);
    }

    -- a dart that isn't touched keeps its row
    pub elsewhere : (d : ℕ) → d < app.map.next → IsUntouched app.map edits d → get valued.darts d ≡ get app.map.darts d
    elsewhere d low untouched =
        values_kept edits.values linked d (λ at among e. untouched at.slot (Valued at among refl) (sym (linked_name at.slot (ok.values.new at among).stays) ∙ e))
        ∙ arcs_elsewhere (end_at more made) edits.arcs more d (λ arc among. made_from arc.from (ok.arcs.ends arc among).0 (λ slot is. ok.matched.made arc slot among is))
        ∙ extended.darts d (rw fewer_next low)
        ∙ dart_stays edits.removed freed d ok.removed.distinct (λ slot among e. untouched slot (Matched (ok.matched.removed slot among)) (sym (freed_name slot.at) ∙ e))
        ∙ arcs_elsewhere (end_at before []) edits.freed before d (λ arc among. freed_from arc.from (ok.freed.ends arc among).0 (λ slot is. ok.matched.freed arc slot among is))
      where
        freed_from : (end : End) → IsOldEnd app end → ((slot : Slot) → end ≡ Old slot → Contains edits.matched slot) → end_at before [] end ≢ d
        freed_from (Old slot) live matched e = untouched slot (Matched (matched slot refl)) e
        freed_from (New number) h matched e = absurd h

        made_from : (end : End) → IsResultEnd app end → ((slot : Slot) → end ≡ Old slot → Contains edits.matched slot) → end_at more made end ≢ d
        made_from (Old slot) stays matched e = untouched slot (Matched (matched slot refl)) (sym (result_end (Old slot) stays).1 ∙ e)
        made_from (New number) h matched e = absurd (omega (arith, low, sym (result_end (New number) h).1 ∙ e))

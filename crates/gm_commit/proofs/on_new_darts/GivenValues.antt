-- The values of new darts in orbits with a deciding instance, put over kept ones.
use Rattle.std.proofs.Common.{◌≡◌, ℕ, zero, suc, ◌+◌, ◌*◌, ◌<◌, ◌⊎◌, List, [], ◌∷◌, length, set, Some, IsSome, slice_get, mul_comm, refl, sym, ap, ◌∙◌, subst, inl, inr, arith, pos, get_or-set_same, get_or-set_other, length-set}
use Rattle.std.proofs.lemmas.Bool.{cases_eq}
use Rattle.std.proofs.lemmas.Nat.{mul-add-lt, same_from_place}
use Rattle.std.proofs.lemmas.Option.{slice_get_within}
use Rattle.gm_model.specs.declared.schema.Embed.{Embed}
use Rattle.gm_model.specs.declared.value.Value.{Value}
use Rattle.gm_model.specs.declared.value.Value.TheVariants.{Int}
use Rattle.gm_model.specs.Maps.{IsEmbedAt}
use Rattle.gm_model.specs.Unfolding.{added_nodes}
use Rattle.gm_arena.specs.declared.slot.Slot.{Slot}
use Rattle.gm_arena.specs.inner.ArenaMap.{IsLiveSlot, name_at}
use Rattle.gm_arena.proofs.MapLemmas.{name_below}
use Rattle.gm_plan.specs.inner.InArena.{slot_number}
use Rattle.gm_theory.proofs.Lists.{some_same, none_some, contained_at, get_contained}
use Rattle.gm_walk.specs.declared.at.At.TheVariants.{Old, New}
use Rattle.gm_walk.specs.declared.mark.Mark.{Mark}
use Rattle.gm_commit.specs.inner.EditLists.{AreAddedValues, added_value}
use Rattle.gm_commit.specs.inner.NewDartValues.{AreDecidedBelow, AreDecidedFrom, AreKeptValues, IsAmongFirst, IsKeptValue, new_number}
use Rattle.gm_pending.specs.inner.Marks.{HasKey}
use Rattle.gm_walk.specs.inner.Keys.{key_of}
use Rattle.gm_pending.specs.inner.ReachedDarts.{AreReached}
use Rattle.gm_pending.specs.inner.ValueSources.{HasSourceNode, given_of}
use Rattle.gm_pending.specs.inner.Results.{PendingOf, IsPrepared, AreAllGiven, IsResultDart, IsValueIn, instances_of, name_of, rule_in}
use Rattle.gm_commit.proofs.on_new_darts.NodesInTurn.{new_dart_name}
use Rattle.gm_pending.proofs.on_pending.ResultDarts.{live_dart}
use Rattle.gm_pending.proofs.on_marks.OneMoreMark.{get_within}
use Rattle.gm_pending.proofs.on_deciding.OrbitsWalked.{same_name}
use Rattle.gm_pending.proofs.on_values.ValuesOfDarts.{has_given, source_node, value_decided, value_kept}

module _ (app : PendingOf) where
  abbrev HasName : List Mark → ℕ → Type 0
  HasName reached d = (k : ℕ) × (entry : Mark) × (slice_get reached k ≡ Some entry) × (name_of app entry.at ≡ d)

  named_or_not : (reached : List Mark) (d : ℕ) → HasName reached d ⊎ (HasName reached d → ⊥)
  named_or_not [] d = inr (λ (k, entry, there, named). none_some entry there)
  named_or_not (first ∷ reached) d = go (cases_eq (name_of app first.at) d) (named_or_not reached d)
    where
      not_later : (name_of app first.at ≡ d → ⊥) → (HasName reached d → ⊥) → HasName (first ∷ reached) d → ⊥
      not_later other none (zero, entry, there, named) = other (ap (λ (r : Mark). name_of app r.at) (some_same first entry there) ∙ named)
      not_later other none (suc k, entry, there, named) = none (k, entry, there, named)

      go : (name_of app first.at ≡ d) ⊎ (name_of app first.at ≡ d → ⊥) → HasName reached d ⊎ (HasName reached d → ⊥) → HasName (first ∷ reached) d ⊎ (HasName (first ∷ reached) d → ⊥)
      go (inl here) rest = inl (0, first, refl, here)
      go (inr other) (inl (k, entry, there, named)) = inl (suc k, entry, there, named)
      go (inr other) (inr none) = inr (not_later other none)

  -- ---- at first

  pub none_decided : (values : List Value) → AreKeptValues app (app.placed.positions * added_nodes (rule_in app)) values → AreDecidedBelow app 0 values
  none_decided values are = record {
    long = are.long;
    decided = λ number e embed low below. absurd (omega arith);
    kept = λ number e embed low later at. are.kept number e embed low at;
  }

  pub all_decided : (count : ℕ) (values : List Value) → count ≡ length app.map.schema.embeds → AreDecidedBelow app count values → AreAddedValues app (app.placed.positions * added_nodes (rule_in app)) values
  all_decided count values end are = record {
    long = are.long;
    given = λ number e embed low at. are.decided number e embed low (let within = slice_get_within app.map.schema.embeds e embed at in omega (arith, end, within)) at;
  }

module _ (app : PendingOf) (prepared : IsPrepared app) (e : ℕ) (reached : List Mark) (low : e < length app.map.schema.embeds) where
  module _ (are : (embed : Embed) → IsEmbedAt app.map.schema e embed → AreReached app e embed (instances_of app e) reached) (k : ℕ) (entry : Mark) (here : slice_get reached k ≡ Some entry) where
    pub entry_dart : IsResultDart app entry.at
    entry_dart = let kept = get_within app.map.schema.embeds e low in (are kept.0 kept.1).darts entry (get_contained reached k entry here)

    pub entry_given : AreAllGiven app e → IsSome (given_of (instances_of app e) entry.instance)
    entry_given given =
        let kept = get_within app.map.schema.embeds e low in
        has_given app prepared e kept.0 kept.1 reached (are kept.0 kept.1) entry.at entry_dart entry.instance (entry, get_contained reached k entry here, refl, refl) given

    pub entry_value : (v : Value) → given_of (instances_of app e) entry.instance ≡ Some v → (embed : Embed) → IsEmbedAt app.map.schema e embed → IsValueIn app e embed (name_of app entry.at) v
    entry_value v given embed at = value_decided app prepared e embed at reached (are embed at) entry.at entry_dart entry.instance (entry, get_contained reached k entry here, refl, refl) v given

  -- ---- one embedding, entry by entry

  pub none_put_over : (old : List Value) → AreDecidedFrom app e reached 0 old old
  none_put_over old = record {
    long = refl;
    decided = λ number embed (k, entry, below, there, named). absurd (omega (arith, below));
    same = λ number f within other. refl;
  }

  module _ (count : ℕ) (old mid : List Value) (so_far : AreDecidedFrom app e reached count old mid) (entry : Mark) (here : slice_get reached count ≡ Some entry) where
    earlier_or_this : (d : ℕ) → IsAmongFirst app reached (count + 1) d → IsAmongFirst app reached count d ⊎ (name_of app entry.at ≡ d)
    earlier_or_this d (k, other, below, there, named) = elim (cases_eq k count) [
      | inl last ↦ inr (ap (λ (r : Mark). name_of app r.at) (some_same entry other (sym here ∙ ap (slice_get reached) (sym last) ∙ there)) ∙ named)
      | inr earlier ↦ inl (k, other, omega arith, there, named)
    ]

    still_among : (d : ℕ) → IsAmongFirst app reached count d → IsAmongFirst app reached (count + 1) d
    still_among d (k, other, below, there, named) = (k, other, omega arith, there, named)

    -- an old dart has its values elsewhere
    pub old_passed_over : (slot : Slot) → entry.at ≡ Old slot → IsLiveSlot app.map slot.at → AreDecidedFrom app e reached (count + 1) old mid
    old_passed_over slot is live = record {
      long = so_far.long;
      decided = λ number embed among at. elim (earlier_or_this (app.map.next + number) among) [
        | inl earlier ↦ so_far.decided number embed earlier at
        | inr named ↦
            let name : name_at app.map slot.at ≡ app.map.next + number = sym (ap (name_of app) is) ∙ named in
            absurd (omega (arith, name, name_below app.map (name_at app.map slot.at) prepared.lawful (live_dart app prepared slot.at live)))
      ];
      same = λ number f within other. so_far.same number f within (λ own among. other own (still_among (app.map.next + number) among));
    }

    module _ (x p : ℕ) (v : Value) (is : entry.at ≡ New x p) (dart : IsResultDart app (New x p)) (below : new_number app x p < app.placed.positions * added_nodes (rule_in app)) (long : length mid ≡ app.placed.positions * added_nodes (rule_in app) * length app.map.schema.embeds) (given : (embed : Embed) → IsEmbedAt app.map.schema e embed → IsValueIn app e embed (name_of app (New x p)) v) where
      abbrev place : ℕ
      place = new_number app x p * length app.map.schema.embeds + e

      name : name_of app (New x p) ≡ app.map.next + new_number app x p
      name = new_dart_name app prepared x p dart.0

      among_now : (number : ℕ) → number ≡ new_number app x p → IsAmongFirst app reached (count + 1) (app.map.next + number)
      among_now number same = (count, entry, omega arith, here, ap (name_of app) is ∙ name ∙ ap (λ n. app.map.next + n) (sym same))

      written : added_value app.map.schema (set mid place v) (new_number app x p) e ≡ v
      written = get_or-set_same mid place v (Int (pos 0)) (omega (arith, long, mul-add-lt (new_number app x p) (length app.map.schema.embeds) e (app.placed.positions * added_nodes (rule_in app)) below low, mul_comm (length app.map.schema.embeds) (app.placed.positions * added_nodes (rule_in app))))

      unwritten : (number f : ℕ) → f < length app.map.schema.embeds → ((number ≡ new_number app x p) × (f ≡ e) → ⊥) → added_value app.map.schema (set mid place v) number f ≡ added_value app.map.schema mid number f
      unwritten number f within apart = get_or-set_other mid place (number * length app.map.schema.embeds + f) v (Int (pos 0)) (λ same. apart (same_from_place number f (new_number app x p) e (length app.map.schema.embeds) within low same))

      decided : (number : ℕ) (embed : Embed) → IsAmongFirst app reached (count + 1) (app.map.next + number) → IsEmbedAt app.map.schema e embed → IsValueIn app e embed (app.map.next + number) (added_value app.map.schema (set mid place v) number e)
      decided number embed among at = go (cases_eq number (new_number app x p)) (earlier_or_this (app.map.next + number) among)
        where
          go : (number ≡ new_number app x p) ⊎ (number ≡ new_number app x p → ⊥) → IsAmongFirst app reached count (app.map.next + number) ⊎ (name_of app entry.at ≡ app.map.next + number) → IsValueIn app e embed (app.map.next + number) (added_value app.map.schema (set mid place v) number e)
          go (inl same) side =
              subst (λ n. IsValueIn app e embed (app.map.next + n) (added_value app.map.schema (set mid place v) n e)) (sym same)
              (subst (IsValueIn app e embed (app.map.next + new_number app x p)) (sym written) (subst (λ d. IsValueIn app e embed d v) name (given embed at)))
          go (inr apart) (inl earlier) = subst (IsValueIn app e embed (app.map.next + number)) (sym (unwritten number e low (λ both. apart both.0))) (so_far.decided number embed earlier at)
          go (inr apart) (inr named) = absurd (apart (let both : app.map.next + number ≡ app.map.next + new_number app x p = sym named ∙ ap (name_of app) is ∙ name in omega (arith, both)))

      pub given_put_over : AreDecidedFrom app e reached (count + 1) old (set mid place v)
      given_put_over = record {
        long = length-set mid place v ∙ so_far.long;
        decided = decided;
        same = λ number f within other.
            unwritten number f within (λ both. other both.1 (among_now number both.0))
            ∙ so_far.same number f within (λ own among. other own (still_among (app.map.next + number) among));
      }

  -- ---- one embedding more

  module _ (old new : List Value) (count : ℕ) (end : count ≡ length reached) (from : AreDecidedFrom app e reached count old new) (before : AreDecidedBelow app e old) (are : (embed : Embed) → IsEmbedAt app.map.schema e embed → AreReached app e embed (instances_of app e) reached) where
    decided_here : (number : ℕ) (embed : Embed) → number < app.placed.positions * added_nodes (rule_in app) → IsEmbedAt app.map.schema e embed → IsValueIn app e embed (app.map.next + number) (added_value app.map.schema new number e)
    decided_here number embed h at = go (named_or_not app reached (app.map.next + number)) (before.kept number e embed h (omega arith) at)
      where
        go : HasName app reached (app.map.next + number) ⊎ (HasName app reached (app.map.next + number) → ⊥) → IsKeptValue app e embed number (added_value app.map.schema old number e) → IsValueIn app e embed (app.map.next + number) (added_value app.map.schema new number e)
        go (inl (k, entry, there, named)) kept = from.decided number embed (k, entry, omega (arith, end, slice_get_within reached k entry there), there, named) at
        go (inr none) (x, p, dart, is, source) =
            subst (IsValueIn app e embed (app.map.next + number)) (sym (from.same number e low (λ own (k, entry, below, there, named). none (k, entry, there, named))))
            (subst (λ d. IsValueIn app e embed d (added_value app.map.schema old number e)) name
            (value_kept app prepared e embed at reached (are embed at) (New x p) dart absent (slot_number app.placed node.0 p) (added_value app.map.schema old number e) (node.0, node.1, refl) (source (slot_number app.placed node.0 p) (node.0, node.1, refl))))
          where
            name : name_of app (New x p) ≡ app.map.next + number
            name = new_dart_name app prepared x p dart.0 ∙ ap (λ n. app.map.next + n) is

            absent : HasKey reached (key_of (New x p)) → ⊥
            absent (entry, among, key) = none (among.0, entry, contained_at reached entry among, same_name app prepared entry.at (New x p) ((are embed at).darts entry among) dart key ∙ name)

            node : HasSourceNode app embed (New x p)
            node = source_node app prepared e embed at reached (are embed at) (New x p) dart absent

    pub decided_more : AreDecidedBelow app (e + 1) new
    decided_more = record {
      long = from.long ∙ before.long;
      decided = decided;
      kept = λ number f embed h later at.
          let within : f < length app.map.schema.embeds = slice_get_within app.map.schema.embeds f embed at in
          subst (IsKeptValue app f embed number) (sym (from.same number f within (λ own among. omega (arith, own)))) (before.kept number f embed h (omega arith) at);
    }
      where
        decided : (number f : ℕ) (embed : Embed) → number < app.placed.positions * added_nodes (rule_in app) → f < e + 1 → IsEmbedAt app.map.schema f embed → IsValueIn app f embed (app.map.next + number) (added_value app.map.schema new number f)
        decided number f embed h below at = elim (cases_eq f e) [
          | inl own ↦ subst (λ j. IsValueIn app j embed (app.map.next + number) (added_value app.map.schema new number j)) (sym own) (decided_here number embed h (subst (λ j. IsEmbedAt app.map.schema j embed) own at))
          | inr other ↦
              let within : f < length app.map.schema.embeds = slice_get_within app.map.schema.embeds f embed at in
              subst (IsValueIn app f embed (app.map.next + number)) (sym (from.same number f within (λ own among. other own))) (before.decided number f embed h (omega arith) at)
        ]

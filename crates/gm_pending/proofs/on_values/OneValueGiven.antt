-- A value that is given to a deciding instance leaves all else.
use Rattle.std.proofs.Common.{◌≡◌, ℕ, zero, suc, ◌<◌, ◌⊎◌, List, [], ◌∷◌, ◌++◌, length, set, get_or, take, append-nil, drop_of_length-le, Contains, Option, Some, slice_get, refl, sym, ◌∙◌, ap, subst, inl, inr, arith}
use Rattle.std.proofs.lemmas.List.{length-map, length-set, take_all}
use Rattle.std.specs.List.{refill}
use Rattle.std.proofs.lemmas.Option.{slice_get-get_or, slice_get_within}
use Rattle.std.specs.Prelude.{unwrap_or}
use Rattle.gm_model.specs.declared.schema.Embed.{Embed}
use Rattle.gm_model.specs.declared.rule.RuleTable.{RuleTable}
use Rattle.gm_model.specs.declared.value.Value.{Value}
use Rattle.gm_model.specs.Maps.{IsEmbedAt}
use Rattle.gm_model.specs.Orbits.{IsPairBefore}
use Rattle.gm_model.specs.Values.{IsValueOf}
use Rattle.gm_arena.specs.inner.ArenaMap.{ArenaMap}
use Rattle.gm_plan.specs.inner.Placed.{Placed}
use Rattle.gm_theory.proofs.Lists.{some_same, none_some, contained_at, get_contained}
use Rattle.gm_pending.specs.declared.decided_orbits.DecidedOrbits.{DecidedOrbits}
use Rattle.gm_pending.specs.declared.deciding_instance.DecidingInstance.{DecidingInstance}
use Rattle.gm_walk.specs.declared.mark.Mark.{Mark}
use Rattle.gm_pending.specs.inner.AskedOrbits.{instances_in, pending_as, AreDecidedOrbits}
use Rattle.gm_pending.specs.inner.ReachedDarts.{AreReached}
use Rattle.gm_pending.specs.inner.Results.{PendingOf, IsPrepared, AreDecidingInstances, IsDecidedIn, IsDecidingIn, instances_of, deciding_of, given_at, name_of, with_instances}
use Rattle.gm_pending.proofs.on_values.AnswersKept.{answered_at}
use Rattle.gm_pending.proofs.on_values.OneMoreAnswer.{kept_answers, kept_is, kept_prepared}

-- ---- deciders by their index

abbrev pub with_value : DecidingInstance → Value → DecidingInstance
with_value instance v = record { node = instance.node; position = instance.position; given = Some v }

pub given_set : (instances : List DecidingInstance) (k : ℕ) (instance : DecidingInstance) (v : Value) → slice_get instances k ≡ Some instance → set instances k (with_value instance v) ≡ given_at instances k v
given_set [] k instance v e = none_some instance e
given_set (d ∷ instances) zero instance v e = ap (λ c. with_value c v ∷ instances) (sym (some_same d instance e))
given_set (d ∷ instances) (suc k) instance v e = ap (λ rest. d ∷ rest) (given_set instances k instance v e)

-- all elements of a list, written over it
pub refilled : {A : Type 0} (xs ws : List A) → length ws ≡ length xs → refill (length xs) xs ws ≡ ws
refilled xs ws long = ap (λ rest. take (length xs) (ws ++ rest)) (drop_of_length-le xs (omega arith)) ∙ ap (take (length xs)) (append-nil ws) ∙ take_all (length xs) ws (omega arith)

-- the instances of which one got its value, as a slice that was lent
pub written_back : (instances lent : List DecidingInstance) (k : ℕ) (v : Value) (d : DecidingInstance) → lent ≡ instances → k < length instances → refill (length instances) instances (set lent k (with_value (get_or lent k d) v)) ≡ given_at instances k v
written_back instances lent k v d e h = rw e (refilled instances (set instances k (with_value (get_or instances k d) v)) (length-set instances k (with_value (get_or instances k d) v)) ∙ given_set instances k (get_or instances k d) v (slice_get-get_or instances k d h))

-- two deciders at one instance
abbrev pub LieTogether : DecidingInstance → DecidingInstance → Type 0
LieTogether a b = (a.node ≡ b.node) × (a.position ≡ b.position)

pub was_there : (instances : List DecidingInstance) (k : ℕ) (v : Value) (j : ℕ) (a : DecidingInstance) → slice_get (given_at instances k v) j ≡ Some a → (b : DecidingInstance) × (slice_get instances j ≡ Some b) × LieTogether a b × ((a ≡ b) ⊎ (a.given ≡ Some v))
was_there [] k v j a e = none_some a e
was_there (d ∷ instances) zero v zero a e = (d, refl, (ap (λ (c : DecidingInstance). c.node) (sym (some_same (with_value d v) a e)), ap (λ (c : DecidingInstance). c.position) (sym (some_same (with_value d v) a e))), inr (ap (λ (c : DecidingInstance). c.given) (sym (some_same (with_value d v) a e))))
was_there (d ∷ instances) zero v (suc j) a e = (a, e, (refl, refl), inl refl)
was_there (d ∷ instances) (suc k) v zero a e = (a, e, (refl, refl), inl refl)
was_there (d ∷ instances) (suc k) v (suc j) a e = was_there instances k v j a e

pub is_there : (instances : List DecidingInstance) (k : ℕ) (v : Value) (j : ℕ) (b : DecidingInstance) → slice_get instances j ≡ Some b → (a : DecidingInstance) × (slice_get (given_at instances k v) j ≡ Some a) × LieTogether a b
is_there [] k v j b e = none_some b e
is_there (d ∷ instances) zero v zero b e = (with_value d v, refl, (ap (λ (c : DecidingInstance). c.node) (some_same d b e), ap (λ (c : DecidingInstance). c.position) (some_same d b e)))
is_there (d ∷ instances) zero v (suc j) b e = (b, e, (refl, refl))
is_there (d ∷ instances) (suc k) v zero b e = (b, e, (refl, refl))
is_there (d ∷ instances) (suc k) v (suc j) b e = is_there instances k v j b e

module _ (app : PendingOf) (e : ℕ) (embed : Embed) (instances : List DecidingInstance) (k : ℕ) (v : Value) where
  pub given_deciders : AreDecidingInstances app e embed instances → AreDecidingInstances app e embed (given_at instances k v)
  given_deciders are = record {
    ascending = λ i j a b h f g.
        let x = was_there instances k v i a f in
        let y = was_there instances k v j b g in
        before a b x.0 y.0 x.2 y.2 (are.ascending i j x.0 y.0 h x.1 y.1);
    decide = λ result unfolded instance among.
        let x = was_there instances k v among.0 instance (contained_at (given_at instances k v) instance among) in
        subst (λ n. IsDecidingIn app result e embed n instance.position) (sym x.2.0) (subst (λ p. IsDecidingIn app result e embed x.0.node p) (sym x.2.1) (are.decide result unfolded x.0 (get_contained instances among.0 x.0 x.1)));
    all = λ result unfolded x p deciding.
        let old = are.all result unfolded x p deciding in
        let new = is_there instances k v old.1.0 old.0 (contained_at instances old.0 old.1) in
        (new.0, get_contained (given_at instances k v) old.1.0 new.0 new.1, new.2.0 ∙ old.2, new.2.1 ∙ old.3);
  }
    where
      before : (a b c d : DecidingInstance) → LieTogether a c → LieTogether b d → IsPairBefore c.node c.position d.node d.position → IsPairBefore a.node a.position b.node b.position
      before a b c d s t (inl h) = inl (omega (arith, h, s.0, t.0))
      before a b c d s t (inr h) = inr (s.0 ∙ h.0 ∙ sym t.0, omega (arith, h.1, s.1, t.1))

  pub given_reached : (reached : List Mark) → AreReached app e embed instances reached → AreReached app e embed (given_at instances k v) reached
  given_reached reached are = record {
    darts = are.darts;
    distinct = are.distinct;
    decided = λ result unfolded entry among.
        let by = are.decided result unfolded entry among in
        let new = is_there instances k v entry.instance by.0 by.1 in
        (new.0, new.1, subst (λ n. IsDecidedIn app result e embed (name_of app entry.at) n new.0.position) (sym new.2.0) (subst (λ p. IsDecidedIn app result e embed (name_of app entry.at) by.0.node p) (sym new.2.1) by.2));
    all = are.all;
  }

-- ---- how it is kept

module _ (m : ArenaMap) (table : RuleTable) (placed : Placed) (answers : List (Option DecidedOrbits)) (e : ℕ) (orbits : DecidedOrbits) (there : slice_get answers e ≡ Some (Some orbits))
    (prepared : IsPrepared (pending_as m table placed answers)) (all : AreDecidedOrbits (pending_as m table placed answers) answers)
    (k : ℕ) (v : Value) (good : (embed : Embed) → IsEmbedAt m.schema e embed → IsValueOf embed.kind v)
    (after : List (Option DecidedOrbits)) (again : DecidedOrbits) (kept : after ≡ set answers e (Some again))
    (items : again.instances.items ≡ given_at orbits.instances.items k v) (marks : again.marks ≡ orbits.marks) where
  abbrev before : PendingOf
  before = pending_as m table placed answers

  entry : deciding_of before e ≡ Some orbits.instances.items
  entry = answered_at answers e orbits there

  within : e < length m.schema.embeds
  within = omega (arith, slice_get_within answers e (Some orbits) there, length-map answers instances_in, prepared.each)

  exact : (embed : Embed) → IsEmbedAt m.schema e embed → AreDecidingInstances before e embed again.instances.items
  exact embed at = subst (AreDecidingInstances before e embed) (sym items) (given_deciders before e embed orbits.instances.items k v (prepared.instances e embed orbits.instances.items at entry))

  reached : (embed : Embed) → IsEmbedAt m.schema e embed → AreReached before e embed again.instances.items again.marks
  reached embed at = subst (λ ds. AreReached before e embed ds again.marks) (sym items) (subst (AreReached before e embed (given_at orbits.instances.items k v)) (sym marks) (given_reached before e embed orbits.instances.items k v orbits.marks (all e embed orbits at there)))

  goods : (x p : ℕ) (embed : Embed) (w : Value) → IsEmbedAt m.schema e embed → Contains again.instances.items (record { node = x; position = p; given = Some w }) → IsValueOf embed.kind w
  goods x p embed w at given =
      let new : Contains (given_at orbits.instances.items k v) (record { node = x; position = p; given = Some w }) = subst (λ ds. Contains ds (record { node = x; position = p; given = Some w })) items given in
      let old = was_there orbits.instances.items k v new.0 (record { node = x; position = p; given = Some w }) (contained_at (given_at orbits.instances.items k v) (record { node = x; position = p; given = Some w }) new) in
      go old.3 (get_contained orbits.instances.items new.0 old.0 old.1)
    where
      go : {b : DecidingInstance} → (record { node = x; position = p; given = Some w } ≡ b) ⊎ (Some w ≡ Some v) → Contains orbits.instances.items b → IsValueOf embed.kind w
      go {b} (inl same) among =
          let here : Contains orbits.instances.items (record { node = x; position = p; given = Some w }) = subst (Contains orbits.instances.items) (sym same) among in
          prepared.values e x p embed w at (rw entry here)
      go {b} (inr same) among = subst (IsValueOf embed.kind) (sym (some_same w v same)) (good embed at)

  pub given_prepared : IsPrepared (pending_as m table placed after)
  given_prepared = kept_prepared m table placed answers e again before refl prepared all within after kept exact reached goods

  pub given_answers : AreDecidedOrbits (pending_as m table placed after) after
  given_answers = kept_answers m table placed answers e again before refl prepared all within after kept exact reached goods

  pub given_is : pending_as m table placed after ≡ with_instances before e (given_at (instances_of before e) k v)
  given_is = kept_is m table placed answers e again before refl prepared all within after kept exact reached goods
      ∙ ap (with_instances before e) (items ∙ ap (λ ds. given_at ds k v) (sym (ap (λ o. unwrap_or o []) entry)))

-- How a walk along the arcs of an unfolding spreads over an orbit.
use Rattle.std.proofs.Common.{◌≡◌, ℕ, ◌+◌, ◌*◌, ◌<◌, ◌≤◌, ◌⊎◌, not, false, List, [], ◌∷◌, length, Option, Some, None, slice_get, IsTrue, refl, sym, ◌∙◌, ap, subst, inl, inr, arith}
use Rattle.std.proofs.lemmas.Bool.{cases_lt, cases_eq}
use Rattle.std.proofs.lemmas.Option.{slice_get_within}
use Rattle.gm_model.specs.declared.rule.Side.TheVariants.{Left, Right}
use Rattle.gm_model.specs.declared.schema.Embed.{Embed}
use Rattle.gm_model.specs.GMap.{IsGMap}
use Rattle.gm_model.specs.Maps.{IsEmbedAt, type_of}
use Rattle.gm_model.specs.Orbits.{IsInOrbit, IsPathIn, IsPairBefore, follow}
use Rattle.gm_model.specs.Rules.{has_word}
use Rattle.gm_arena.specs.inner.ArenaMap.{name_at}
use Rattle.gm_theory.proofs.Arcs.{same_instance}
use Rattle.gm_theory.proofs.Lists.{some_same, none_some, contained_at, get_contained}
use Rattle.gm_theory.proofs.Results.{unfolding_generalised}
use Rattle.gm_theory.proofs.RuleSteps.{word_below}
use Rattle.gm_theory.proofs.Tests.{both_true, not_true, not_both}
use Rattle.gm_theory.proofs.ValuesReach.{orbit_through}
use Rattle.gm_theory.specs.inner.Theorem.{Unfolded, IsDartOf}
use Rattle.gm_walk.specs.declared.at.At.{At}
use Rattle.gm_walk.specs.declared.at.At.TheVariants.{Old, New}
use Rattle.gm_walk.specs.declared.mark.Mark.{Mark}
use Rattle.gm_pending.specs.inner.Marks.{reached_by, HasKey, IsMarkedMore, HasDistinctKeys}
use Rattle.gm_walk.specs.inner.Keys.{key_of}
use Rattle.gm_pending.specs.inner.ReachedDarts.{AreResultDarts, HasMark, IsAdded, IsClosed, IsGrown, IsSpreadTo}
use Rattle.gm_pending.specs.inner.Results.{PendingOf, IsPrepared, IsResultDart, IsUnfoldedIn, rule_in, scene_in, name_of}
use Rattle.gm_pending.proofs.on_pending.ResultDarts.{same_slot, live_dart, result_dart}
use Rattle.gm_pending.proofs.on_pending.PreparedIsLawful.{law}
use Rattle.gm_pending.proofs.on_marks.OneMoreMark.{kept_at, kept_or_last, last_among, get_within}

module _ (app : PendingOf) (prepared : IsPrepared app) where
  -- ---- darts by their keys

  pub few_nodes : (x : ℕ) → IsTrue (has_word (rule_in app) Right x) → x < 32
  few_nodes x r = let h : x < length (rule_in app).nodes = word_below (rule_in app) Right x r in omega (arith, prepared.planned.within.nodes)

  pub added_sides : (x p : ℕ) → IsResultDart app (New x p) → (has_word (rule_in app) Left x ≡ false) × IsTrue (has_word (rule_in app) Right x)
  added_sides x p dart =
      let sides : IsTrue (not (has_word (rule_in app) Left x)) × IsTrue (has_word (rule_in app) Right x) = both_true (not (has_word (rule_in app) Left x)) (has_word (rule_in app) Right x) dart.0 in
      (not_true (has_word (rule_in app) Left x) sides.0, sides.1)

  never_both : {A : Type 0} (slot y q : ℕ) → IsResultDart app (Old (record { at = slot })) → IsResultDart app (New y q) → name_at app.map slot ≡ name_of app (New y q) → A
  never_both slot y q dart dart' e =
      let sides = added_sides y q dart' in
      not_both ((scene_in app).live (name_at app.map slot)) (live_dart app prepared slot dart.0) (ap (scene_in app).live e ∙ (law app prepared).names.fresh y q sides.0 (sides.1, dart'.1))

  -- darts of the result with one name have one key
  pub same_key : (a b : At) → IsResultDart app a → IsResultDart app b → name_of app a ≡ name_of app b → key_of a ≡ key_of b
  same_key (Old s) (Old t) d d' e = ap (λ n. n * 2) (same_slot app prepared s.at t.at d.0 d'.0 e)
  same_key (Old s) (New y q) d d' e = never_both s.at y q d d' e
  same_key (New x p) (Old t) d d' e = never_both t.at x p d' d (sym e)
  same_key (New x p) (New y q) d d' e =
      let same : (x ≡ y) × (p ≡ q) = same_instance (scene_in app) _ _ _ (law app prepared) x p y q ((added_sides x p d).1, d.1) ((added_sides y q d').1, d'.1) e in
      omega (arith, same.0, same.1)

  -- and with one key, one name
  pub same_name : (a b : At) → IsResultDart app a → IsResultDart app b → key_of a ≡ key_of b → name_of app a ≡ name_of app b
  same_name (Old s) (Old t) d d' e = ap (name_at app.map) (let h : s.at ≡ t.at = omega (arith, e) in h)
  same_name (Old s) (New y q) d d' e = absurd (omega (arith, e, few_nodes y (added_sides y q d').1))
  same_name (New x p) (Old t) d d' e = absurd (omega (arith, e, few_nodes x (added_sides x p d).1))
  same_name (New x p) (New y q) d d' e =
      let h : x ≡ y = omega (arith, e, few_nodes x (added_sides x p d).1, few_nodes y (added_sides y q d').1) in
      let k : p ≡ q = omega (arith, e, h) in
      ap (λ z. (scene_in app).name_of z p) h ∙ ap ((scene_in app).name_of y) k

  -- ---- marks in lists that grow

  pub mark_kept : (before after : List Mark) (d k : ℕ) → ((j : ℕ) (entry : Mark) → slice_get before j ≡ Some entry → slice_get after j ≡ Some entry) → HasMark app before d k → HasMark app after d k
  mark_kept before after d k kept (entry, among, e, f) = (entry, get_contained after among.0 entry (kept among.0 entry (contained_at before entry among)), e, f)

  -- what was marked stays
  pub marked_kept : (before after : List Mark) (at : At) (k : ℕ) (over : Option ℕ) → IsMarkedMore before after at k over → (j : ℕ) (entry : Mark) → slice_get before j ≡ Some entry → slice_get after j ≡ Some entry
  marked_kept before after at k over (inl (there, same)) j entry e = rw same e
  marked_kept before after at k over (inr (absent, same)) j entry e = rw same (kept_at before (reached_by at k over) j entry e)

  pub marked_or_last : (before after : List Mark) (at : At) (k : ℕ) (over : Option ℕ) → IsMarkedMore before after at k over → (j : ℕ) (entry : Mark) → slice_get after j ≡ Some entry → (slice_get before j ≡ Some entry) ⊎ ((j ≡ length before) × (reached_by at k over ≡ entry))
  marked_or_last before after at k over (inl (there, same)) j entry e = inl (rw same at e)
  marked_or_last before after at k over (inr (absent, same)) j entry e = kept_or_last before (reached_by at k over) j entry (rw same at e)

  pub marked_darts : (before after : List Mark) (at : At) (k : ℕ) (over : Option ℕ) → IsMarkedMore before after at k over → IsResultDart app at → AreResultDarts app before → AreResultDarts app after
  marked_darts before after at k over more dart darts entry among = go (marked_or_last before after at k over more among.0 entry (contained_at after entry among))
    where
      go : (slice_get before among.0 ≡ Some entry) ⊎ ((among.0 ≡ length before) × (reached_by at k over ≡ entry)) → IsResultDart app entry.at
      go (inl e) = darts entry (get_contained before among.0 entry e)
      go (inr e) = subst (λ (r : Mark). IsResultDart app r.at) e.1 dart

  -- ---- orbits of the unfolding

  module _ (e : ℕ) (embed : Embed) (at_embed : IsEmbedAt app.map.schema e embed) (result : Unfolded) (unfolded : IsUnfoldedIn app result) where
    pub label_within : (i : ℕ) → IsTrue (type_of embed i) → i ≤ app.map.schema.dim
    label_within i t = prepared.lawful.schema.labels e i embed at_embed t

    pub after_map : IsGMap app.map.schema.dim (IsDartOf result) result.alpha
    after_map = unfolding_generalised (scene_in app) _ _ _ (law app prepared) (IsDartOf result) result.alpha result.next unfolded

    pub dart_after : (a : At) → IsResultDart app a → IsDartOf result (name_of app a)
    dart_after a dart = (unfolded.darts (name_of app a)).1 (result_dart app prepared a dart)

    pub orbit_back : (d c : ℕ) → IsDartOf result d → IsInOrbit result.alpha (type_of embed) d c → IsInOrbit result.alpha (type_of embed) c d
    orbit_back d c live (path, all, f) = go path d live all f
      where
        go : (path : List ℕ) (d : ℕ) → IsDartOf result d → IsPathIn (type_of embed) path → follow result.alpha path d ≡ c → IsInOrbit result.alpha (type_of embed) c d
        go [] d live all f = ([], tt, sym f)
        go (i ∷ path) d live all f =
            let h : i ≤ app.map.schema.dim = label_within i all.0 in
            let rest : IsInOrbit result.alpha (type_of embed) c (result.alpha i d) = go path (result.alpha i d) (after_map.stays d i live h) all.1 f in
            orbit_through result.alpha (type_of embed) c (result.alpha i d) d rest (i ∷ [], (all.0, tt), after_map.back d i live h)

    pub orbit_step : (d c i : ℕ) → IsInOrbit result.alpha (type_of embed) d c → IsTrue (type_of embed i) → IsInOrbit result.alpha (type_of embed) d (result.alpha i c)
    orbit_step d c i orbit t = orbit_through result.alpha (type_of embed) d c (result.alpha i c) orbit (i ∷ [], (t, tt), refl)

    -- a closed list of marks has the same index all over an orbit
    pub closed_along : (reached : List Mark) (d c k : ℕ) → IsClosed app embed result reached → HasMark app reached d k → IsInOrbit result.alpha (type_of embed) d c → HasMark app reached c k
    closed_along reached d c k closed mark (path, all, f) = go path d mark all f
      where
        go : (path : List ℕ) (d : ℕ) → HasMark app reached d k → IsPathIn (type_of embed) path → follow result.alpha path d ≡ c → HasMark app reached c k
        go [] d mark all f = subst (λ b. HasMark app reached b k) f mark
        go (i ∷ path) d mark all f = go path (result.alpha i d) (closed d k i mark all.0) all.1 f

    -- ---- the walk from one instance

    pub nothing_grown : (before : List Mark) (k d : ℕ) → IsGrown app embed result before before k d
    nothing_grown before k d = record { kept = λ j entry f. f; more = λ j entry h f. absurd (omega (arith, h, slice_get_within before j entry f)) }

    pub grown_more : (before after after' : List Mark) (k d : ℕ) (to : At) (over : Option ℕ) → IsGrown app embed result before after k d → IsMarkedMore after after' to k over → IsInOrbit result.alpha (type_of embed) d (name_of app to) → IsGrown app embed result before after' k d
    grown_more before after after' k d to over grown more orbit = record {
      kept = λ j entry f. marked_kept after after' to k over more j entry (grown.kept j entry f);
      more = λ j entry h f. go j entry h (marked_or_last after after' to k over more j entry f);
    }
      where
        go : (j : ℕ) (entry : Mark) → length before ≤ j → (slice_get after j ≡ Some entry) ⊎ ((j ≡ length after) × (reached_by to k over ≡ entry)) → (entry.instance ≡ k) × IsInOrbit result.alpha (type_of embed) d (name_of app entry.at)
        go j entry h (inl f) = grown.more j entry h f
        go j entry h (inr f) = subst (λ (r : Mark). (r.instance ≡ k) × IsInOrbit result.alpha (type_of embed) d (name_of app r.at)) f.1 (refl, orbit)

    -- it begins with the instance's own dart
    pub spread_starts : (before after : List Mark) (at : At) (k : ℕ) → IsClosed app embed result before → (HasKey before (key_of at) → ⊥) → IsMarkedMore before after at k None → IsSpreadTo app embed result before after k (name_of app at) (length before) 0
    spread_starts before after at k closed absent more = record {
      grown = grown_more before before after k (name_of app at) at None (nothing_grown before k (name_of app at)) more ([], tt, refl);
      closed = closed;
      here = here more;
      back = λ j l entry h f o t. first j l entry h (marked_or_last before after at k None more j entry f) o;
      followed = λ j l entry h f b t. absurd (none j l h b);
    }
      where
        here : IsMarkedMore before after at k None → HasMark app after (name_of app at) k
        here (inl (there, same)) = absurd (absent there)
        here (inr (none, same)) = (reached_by at k None, rw same (last_among before (reached_by at k None)), refl, refl)

        -- which was not reached over an arc
        first : (j l : ℕ) (entry : Mark) → length before ≤ j → (slice_get before j ≡ Some entry) ⊎ ((j ≡ length before) × (reached_by at k None ≡ entry)) → entry.over ≡ Some l → HasMark app after (result.alpha l (name_of app entry.at)) k
        first j l entry h (inl f) o = absurd (omega (arith, h, slice_get_within before j entry f))
        first j l entry h (inr f) o = none_some l (ap (λ (r : Mark). r.over) f.1 ∙ o)

        none : (j l : ℕ) → length before ≤ j → IsPairBefore j l (length before) 0 → ⊥
        none j l h (inl b) = omega arith
        none j l h (inr b) = omega (arith, b.1)

    module _ (before after : List Mark) (k d : ℕ) (grown : IsGrown app embed result before after k d) (closed : IsClosed app embed result before) (darts : AreResultDarts app after) (distinct : HasDistinctKeys after) where
      -- the dart of an added entry was not marked before
      not_before : (x j : ℕ) → IsAdded app before after x → HasMark app before x j → ⊥
      not_before x j (n, from, late, there, name) (entry, among, e, f) =
          let here : slice_get after among.0 ≡ Some entry = grown.kept among.0 entry (contained_at before entry among) in
          let within : among.0 < n = omega (arith, late, slice_get_within before among.0 entry (contained_at before entry among)) in
          distinct among.0 n entry from within here there (same_key entry.at from.at (darts entry (get_contained after among.0 entry here)) (darts from (get_contained after n from there)) (e ∙ sym name))

      -- so where its neighbour has a mark, it is one of this walk
      pub marked_now : (x i : ℕ) (to : At) → IsAdded app before after x → IsTrue (type_of embed i) → IsResultDart app to → result.alpha i (name_of app to) ≡ x → HasKey after (key_of to) → HasMark app after (name_of app to) k
      marked_now x i to added t dart returns (entry, among, key) = go (cases_lt among.0 (length before))
        where
          at_m : slice_get after among.0 ≡ Some entry
          at_m = contained_at after entry among

          name : name_of app entry.at ≡ name_of app to
          name = same_name entry.at to (darts entry among) dart key

          go : (among.0 < length before) ⊎ (length before ≤ among.0) → HasMark app after (name_of app to) k
          go (inr h) = (entry, among, name, (grown.more among.0 entry h at_m).0)
          go (inl h) =
              let old = get_within before among.0 h in
              let same : old.0 ≡ entry = some_same old.0 entry (sym (grown.kept among.0 old.0 old.1) ∙ at_m) in
              let mark : HasMark app before (name_of app to) entry.instance = (entry, get_contained before among.0 entry (subst (λ r. slice_get before among.0 ≡ Some r) same old.1), name, refl) in
              absurd (not_before x entry.instance added (subst (λ b. HasMark app before b entry.instance) returns (closed (name_of app to) entry.instance i mark t)))

    module _ (before after : List Mark) (k d n i : ℕ) (from : Mark) (spread : IsSpreadTo app embed result before after k d n i) (late : length before ≤ n) (there : slice_get after n ≡ Some from) where
      -- a label that isn't of the type is passed over
      pub spread_passes : type_of embed i ≡ false → IsSpreadTo app embed result before after k d n (i + 1)
      spread_passes none = record {
        grown = spread.grown;
        closed = spread.closed;
        here = spread.here;
        back = spread.back;
        followed = λ j l entry h f b t. spread.followed j l entry h f (go j l b t) t;
      }
        where
          go : (j l : ℕ) → IsPairBefore j l n (i + 1) → IsTrue (type_of embed l) → IsPairBefore j l n i
          go j l (inl b) t = inl b
          go j l (inr (same, b)) t = side (cases_eq l i)
            where
              side : (l ≡ i) ⊎ (l ≡ i → ⊥) → IsPairBefore j l n i
              side (inl f) = not_both (type_of embed l) t (ap (type_of embed) f ∙ none)
              side (inr f) = inr (same, omega arith)

      -- nor is the label over which the dart was reached
      pub spread_returns : from.over ≡ Some i → IsSpreadTo app embed result before after k d n (i + 1)
      spread_returns over = record {
        grown = spread.grown;
        closed = spread.closed;
        here = spread.here;
        back = spread.back;
        followed = λ j l entry h f b t. go j l entry h f b t;
      }
        where
          go : (j l : ℕ) (entry : Mark) → length before ≤ j → slice_get after j ≡ Some entry → IsPairBefore j l n (i + 1) → IsTrue (type_of embed l) → HasMark app after (result.alpha l (name_of app entry.at)) k
          go j l entry h f (inl b) t = spread.followed j l entry h f (inl b) t
          go j l entry h f (inr (same, b)) t = side (cases_eq l i)
            where
              side : (l ≡ i) ⊎ (l ≡ i → ⊥) → HasMark app after (result.alpha l (name_of app entry.at)) k
              side (inr g) = spread.followed j l entry h f (inr (same, omega arith)) t
              side (inl g) =
                  let one : from ≡ entry = some_same from entry (sym there ∙ ap (slice_get after) (sym same) ∙ f) in
                  spread.back j l entry h f (ap (λ (r : Mark). r.over) (sym one) ∙ over ∙ ap Some (sym g)) t

      module _ (after' : List Mark) (to : At) (t : IsTrue (type_of embed i)) (darts : AreResultDarts app after) (distinct : HasDistinctKeys after) (to_dart : IsResultDart app to) (leads : name_of app to ≡ result.alpha i (name_of app from.at)) (more : IsMarkedMore after after' to k (Some i)) where
        from_live : IsDartOf result (name_of app from.at)
        from_live = dart_after from.at (darts from (get_contained after n from there))

        kept : (j : ℕ) (entry : Mark) → slice_get after j ≡ Some entry → slice_get after' j ≡ Some entry
        kept = marked_kept after after' to k (Some i) more

        returns : result.alpha i (result.alpha i (name_of app from.at)) ≡ name_of app from.at
        returns = after_map.back (name_of app from.at) i from_live (label_within i t)

        reached_now : IsMarkedMore after after' to k (Some i) → HasMark app after' (result.alpha i (name_of app from.at)) k
        reached_now (inl (key, same)) = mark_kept after after' (result.alpha i (name_of app from.at)) k kept
            (subst (λ b. HasMark app after b k) leads (marked_now before after k d spread.grown spread.closed darts distinct (name_of app from.at) i to (n, from, late, there, refl) t to_dart (ap (result.alpha i) leads ∙ returns) key))
        reached_now (inr (absent, same)) = (reached_by to k (Some i), rw same (last_among after (reached_by to k (Some i))), leads, refl)

        -- and from there the arc leads back
        back_now : (l : ℕ) (entry : Mark) → reached_by to k (Some i) ≡ entry → entry.over ≡ Some l → HasMark app after' (result.alpha l (name_of app entry.at)) k
        back_now l entry is over =
            let label : i ≡ l = some_same i l (ap (λ (r : Mark). r.over) is ∙ over) in
            let name : name_of app from.at ≡ result.alpha l (name_of app entry.at) = sym returns ∙ ap (result.alpha i) (sym leads) ∙ ap (λ (r : Mark). result.alpha i (name_of app r.at)) is ∙ ap (λ z. result.alpha z (name_of app entry.at)) label in
            (from, get_contained after' n from (kept n from there), name, (spread.grown.more n from late there).0)

        -- the neighbour along a label of the type is marked
        pub spread_follows : IsSpreadTo app embed result before after' k d n (i + 1)
        spread_follows = record {
          grown = grown_more before after after' k d to (Some i) spread.grown more (subst (IsInOrbit result.alpha (type_of embed) d) (sym leads) (orbit_step d (name_of app from.at) i (spread.grown.more n from late there).1 t));
          closed = spread.closed;
          here = mark_kept after after' d k kept spread.here;
          back = λ j l entry h f o u. back j l entry h (marked_or_last after after' to k (Some i) more j entry f) o u;
          followed = λ j l entry h f b u. go j l entry h (earlier j entry f (up_to j l b)) b u;
        }
          where
            back : (j l : ℕ) (entry : Mark) → length before ≤ j → (slice_get after j ≡ Some entry) ⊎ ((j ≡ length after) × (reached_by to k (Some i) ≡ entry)) → entry.over ≡ Some l → IsTrue (type_of embed l) → HasMark app after' (result.alpha l (name_of app entry.at)) k
            back j l entry h (inl f) o u = mark_kept after after' (result.alpha l (name_of app entry.at)) k kept (spread.back j l entry h f o u)
            back j l entry h (inr f) o u = back_now l entry f.1 o

            up_to : (j l : ℕ) → IsPairBefore j l n (i + 1) → j ≤ n
            up_to j l (inl b) = omega arith
            up_to j l (inr b) = omega (arith, b.0)

            earlier : (j : ℕ) (entry : Mark) → slice_get after' j ≡ Some entry → j ≤ n → slice_get after j ≡ Some entry
            earlier j entry f h = elim (marked_or_last after after' to k (Some i) more j entry f) [
              | inl g ↦ g
              | inr g ↦ absurd (omega (arith, g.0, slice_get_within after n from there))
            ]

            go : (j l : ℕ) (entry : Mark) → length before ≤ j → slice_get after j ≡ Some entry → IsPairBefore j l n (i + 1) → IsTrue (type_of embed l) → HasMark app after' (result.alpha l (name_of app entry.at)) k
            go j l entry h f (inl b) u = mark_kept after after' (result.alpha l (name_of app entry.at)) k kept (spread.followed j l entry h f (inl b) u)
            go j l entry h f (inr (same, b)) u = side (cases_eq l i)
              where
                side : (l ≡ i) ⊎ (l ≡ i → ⊥) → HasMark app after' (result.alpha l (name_of app entry.at)) k
                side (inr g) = mark_kept after after' (result.alpha l (name_of app entry.at)) k kept (spread.followed j l entry h f (inr (same, omega arith)) u)
                side (inl g) =
                    let one : from ≡ entry = some_same from entry (sym there ∙ ap (slice_get after) (sym same) ∙ f) in
                    subst (λ (r : Mark). HasMark app after' (result.alpha l (name_of app r.at)) k) one (subst (λ z. HasMark app after' (result.alpha z (name_of app from.at)) k) (sym g) (reached_now more))

    -- all labels of an entry were followed
    pub spread_next : (before after : List Mark) (k d n : ℕ) → IsSpreadTo app embed result before after k d n (app.map.schema.dim + 1) → IsSpreadTo app embed result before after k d (n + 1) 0
    spread_next before after k d n spread = record {
      grown = spread.grown;
      closed = spread.closed;
      here = spread.here;
      back = spread.back;
      followed = λ j l entry h f b t. spread.followed j l entry h f (go j l b t) t;
    }
      where
        go : (j l : ℕ) → IsPairBefore j l (n + 1) 0 → IsTrue (type_of embed l) → IsPairBefore j l n (app.map.schema.dim + 1)
        go j l (inr (same, b)) t = absurd (omega arith)
        go j l (inl b) t = side (cases_eq j n)
          where
            side : (j ≡ n) ⊎ (j ≡ n → ⊥) → IsPairBefore j l n (app.map.schema.dim + 1)
            side (inl f) = inr (f, let h : l ≤ app.map.schema.dim = label_within l t in omega arith)
            side (inr f) = inl (omega arith)

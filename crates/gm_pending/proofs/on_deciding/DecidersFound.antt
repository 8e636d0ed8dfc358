-- The instances that decide, from one assigned instance to the next, and that in the end no dart is missing.
use Rattle.std.proofs.Common.{◌≡◌, ℕ, suc, ◌+◌, ◌*◌, ◌<◌, ◌≤◌, ◌⊎◌, List, [], ◌∷◌, ◌++◌, length, map, Some, None, slice_get, Contains, IsTrue, MatchOption, Option, Result, Ok, Err, OnOk, false, refl, sym, ◌∙◌, subst, inl, inr, arith, length-append}
use Rattle.std.proofs.lemmas.Bool.{cases_lt, cases_eq, false≢true}
use Rattle.std.specs.Option.{is_some}
use Rattle.std.proofs.lemmas.List.{length-map}
use Rattle.std.proofs.lemmas.Option.{slice_get_within}
use Rattle.gm_model.specs.declared.schema.Embed.{Embed}
use Rattle.gm_model.specs.Components.{IsAssigned}
use Rattle.gm_model.specs.Maps.{IsEmbedAt, type_of}
use Rattle.gm_model.specs.declared.rule.Side.TheVariants.{Right}
use Rattle.gm_model.specs.Rules.{has_word}
use Rattle.gm_model.specs.Orbits.{IsInOrbit, IsPairBefore, HasCount}
use Rattle.gm_theory.proofs.Lists.{some_same, none_some, contained_at, get_contained}
use Rattle.gm_theory.proofs.ValuesFound.{assigned_below}
use Rattle.gm_theory.proofs.ValuesJoined.{pair_same}
use Rattle.gm_theory.proofs.ValuesLists.{IsIn, AreDistinct, in_contained, split_at, in_middle}
use Rattle.gm_theory.proofs.ValuesReach.{orbit_through}
use Rattle.gm_theory.specs.inner.Theorem.{Unfolded, IsDartOf}
use Rattle.gm_walk.specs.declared.at.At.{At}
use Rattle.gm_pending.specs.declared.deciding_instance.DecidingInstance.{DecidingInstance}
use Rattle.gm_walk.specs.declared.mark.Mark.{Mark}
use Rattle.gm_pending.specs.inner.Marks.{HasKey, IsMarkedBy, HasDistinctKeys}
use Rattle.gm_walk.specs.inner.Keys.{key_of}
use Rattle.gm_pending.specs.inner.ReachedDarts.{AreResultDarts, AreReached, AreSomeReached, HaveDistinctNames, HasMark, IsClosed, IsGrown, IsSpreadTo, IsWalkedUpTo, IsDecidedUpTo}
use Rattle.gm_pending.specs.inner.Results.{PendingOf, IsPrepared, AreDecidingInstances, IsResultDart, IsUnfoldedIn, IsDecidedIn, IsDecidingIn, IsReachedIn, IsWithinReach, rule_in, scene_in, name_of}
use Rattle.gm_pending.proofs.on_marks.OneMoreMark.{kept_at, last_at, kept_or_last, get_within}
use Rattle.gm_pending.proofs.on_deciding.OrbitsWalked.{same_key, same_name, mark_kept, dart_after, orbit_back, closed_along}

-- ---- distinct numbers among others are at most as many

pub few_among : (xs ys : List ℕ) → AreDistinct xs → ((z : ℕ) → IsIn z xs → IsIn z ys) → length xs ≤ length ys
few_among [] ys d there = omega arith
few_among (x ∷ xs) ys d there = go (split_at ys x (there x (inl refl))) (λ zs h. few_among xs zs d.1 h)
  where
    go : (us : List ℕ) × (vs : List ℕ) × (ys ≡ us ++ x ∷ vs) → ((zs : List ℕ) → ((z : ℕ) → IsIn z xs → IsIn z zs) → length xs ≤ length zs) → length (x ∷ xs) ≤ length ys
    go (us, vs, e) few =
        let fewer : length xs ≤ length (us ++ vs) = few (us ++ vs) other in
        rw e (omega (arith, fewer, length-append us vs, length-append us (x ∷ vs)))
      where
        other : (z : ℕ) → IsIn z xs → IsIn z (us ++ vs)
        other z i = side (in_middle us vs x z (subst (IsIn z) e (there z (inr i))))
          where
            side : (x ≡ z) ⊎ IsIn z (us ++ vs) → IsIn z (us ++ vs)
            side (inl f) = absurd (d.0 (subst (λ u. IsIn u xs) (sym f) i))
            side (inr j) = j

few_steps : (dim n count : ℕ) → n ≤ count → (dim + 1) * n ≤ 2 * (dim + 1) * count
few_steps dim n count h = grind arith

-- ---- what an answer says of a key

pub key_there : (reached : List Mark) (key : ℕ) (o : Option ℕ) → MatchOption o (HasKey reached key → ⊥) (IsMarkedBy reached key) → IsTrue (is_some o) → HasKey reached key
key_there reached key (Some k) (entry, among, is, same) t = (entry, among, is)
key_there reached key None none t = absurd (false≢true t)

pub key_absent : (reached : List Mark) (key : ℕ) (o : Option ℕ) → MatchOption o (HasKey reached key → ⊥) (IsMarkedBy reached key) → is_some o ≡ false → HasKey reached key → ⊥
key_absent reached key (Some k) there f = absurd (false≢true (sym f))
key_absent reached key None none f = none

pub on_ok : {T E P Q : Type 0} (r : Result T E) → OnOk r P → (P → Q) → OnOk r Q
on_ok (Ok x) p f = f p
on_ok (Err y) p f = p

module _ (app : PendingOf) (prepared : IsPrepared app) where
  abbrev pub name : ℕ → ℕ → ℕ
  name x p = (scene_in app).name_of x p

  abbrev names : List Mark → List ℕ
  names reached = map (λ (r : Mark). name_of app r.at) reached

  in_names : (reached : List Mark) (z : ℕ) → IsIn z (names reached) → (m : ℕ) × (entry : Mark) × (slice_get reached m ≡ Some entry) × (name_of app entry.at ≡ z)
  in_names [] z i = absurd i
  in_names (r ∷ reached) z (inl e) = (0, r, refl, e)
  in_names (r ∷ reached) z (inr i) = let rest = in_names reached z i in (suc rest.0, rest.1, rest.2, rest.3)

  distinct_names : (reached : List Mark) → HaveDistinctNames app reached → AreDistinct (names reached)
  distinct_names [] h = tt
  distinct_names (r ∷ reached) h = (apart, distinct_names reached (λ k l a b less e f. h (suc k) (suc l) a b (omega arith) e f))
    where
      apart : IsIn (name_of app r.at) (names reached) → ⊥
      apart i = let found = in_names reached (name_of app r.at) i in h 0 (suc found.0) r found.1 (omega arith) refl found.2 (sym found.3)

  pub distinct_darts : (reached : List Mark) → AreResultDarts app reached → HasDistinctKeys reached → HaveDistinctNames app reached
  distinct_darts reached darts distinct k l a b less e f same = distinct k l a b less e f (same_key app prepared a.at b.at (darts a (get_contained reached k a e)) (darts b (get_contained reached l b f)) same)

  -- ---- what is reached

  module _ (e : ℕ) (embed : Embed) (at_embed : IsEmbedAt app.map.schema e embed) where
    abbrev IsAssignedAt : ℕ → ℕ → Type 0
    IsAssignedAt x p = IsAssigned (rule_in app) e x × (p < app.placed.positions)

    -- no more darts than there are
    pub few_reached : (reached : List Mark) (result : Unfolded) (count : ℕ) → HaveDistinctNames app reached → AreSomeReached app e embed reached → IsUnfoldedIn app result → HasCount (IsReachedIn app result e embed) count → length reached ≤ count
    few_reached reached result count distinct some unfolded (all, listed, long) =
        omega (arith, long, length-map reached (λ (r : Mark). name_of app r.at), few_among (names reached) all (distinct_names reached distinct) there)
      where
        there : (z : ℕ) → IsIn z (names reached) → IsIn z all
        there z i =
            let found = in_names reached z i in
            in_contained all z ((listed.same z).1 (subst (IsReachedIn app result e embed) found.3 (some result unfolded found.1 (get_contained reached found.0 found.1 found.2))))

    pub some_grown : (before after : List Mark) (k x p : ℕ) (at : At) → IsAssignedAt x p → IsResultDart app at → name_of app at ≡ name x p → AreResultDarts app after → AreSomeReached app e embed before →
        ((result : Unfolded) → IsUnfoldedIn app result → IsGrown app embed result before after k (name_of app at)) → AreSomeReached app e embed after
    some_grown before after k x p at assigned dart named darts some grown result unfolded entry among = go (cases_lt among.0 (length before))
      where
        here : slice_get after among.0 ≡ Some entry
        here = contained_at after entry among

        g : IsGrown app embed result before after k (name_of app at)
        g = grown result unfolded

        go : (among.0 < length before) ⊎ (length before ≤ among.0) → IsReachedIn app result e embed (name_of app entry.at)
        go (inl h) =
            let old = get_within before among.0 h in
            let same : old.0 ≡ entry = some_same old.0 entry (sym (g.kept among.0 old.0 old.1) ∙ here) in
            some result unfolded entry (get_contained before among.0 entry (subst (λ r. slice_get before among.0 ≡ Some r) same old.1))
        go (inr h) =
            let orbit = (g.more among.0 entry h here).1 in (
              dart_after app prepared e embed at_embed result unfolded entry.at (darts entry among),
              (x, p, assigned, subst (IsInOrbit result.alpha (type_of embed) (name_of app entry.at)) named (orbit_back app prepared e embed at_embed result unfolded (name_of app at) (name_of app entry.at) (dart_after app prepared e embed at_embed result unfolded at dart) orbit)),
            )

    pub decided_reached : (instances : List DecidingInstance) (reached : List Mark) (x p : ℕ) → IsDecidedUpTo app e embed instances reached x p → AreSomeReached app e embed reached
    decided_reached instances reached x p so_far result unfolded entry among =
        let by = (so_far.walked result unfolded).decided (name_of app entry.at) entry.instance (entry, among, refl, refl) in
        (dart_after app prepared e embed at_embed result unfolded entry.at (so_far.darts entry among), (by.0.node, by.0.position, by.2.assigned, by.2.lies))

    pub assigned_right : (x : ℕ) → IsAssigned (rule_in app) e x → IsTrue (has_word (rule_in app) Right x)
    assigned_right x (tree, (node, there, among)) = (prepared.planned.accepted.in_range.sets x node _ there among).0

    -- a walk that counts one step for each label of each dart that it reaches
    pub within_reach : (reached : List Mark) (old new : ℕ) → AreResultDarts app reached → HasDistinctKeys reached → AreSomeReached app e embed reached → new ≤ old + (app.map.schema.dim + 1) * length reached → IsWithinReach app e embed old new
    within_reach reached old new darts distinct some h result count unfolded counted =
        let few : length reached ≤ count = few_reached reached result count (distinct_darts reached darts distinct) some unfolded counted in
        omega (arith, h, few_steps app.map.schema.dim (length reached) count few)

    -- ---- from instance to instance

    pub none_decided : IsDecidedUpTo app e embed [] [] 0 0
    none_decided = record {
      darts = λ entry among. absurd (let h : among.0 < 0 = among.1 in omega arith);
      few = omega arith;
      ascending = λ k l a b h f g. none_some a f;
      before = λ k instance f. none_some instance f;
      ungiven = λ k instance f. none_some instance f;
      walked = λ result unfolded. record {
        closed = λ d k i mark t. absurd (let h : mark.1.0 < 0 = mark.1.1 in omega arith);
        decided = λ d k mark. absurd (let h : mark.1.0 < 0 = mark.1.1 in omega arith);
        own = λ k instance f. none_some instance f;
        all = λ y q before assigned b. absurd (none y q before);
      };
    }
      where
        none : (y q : ℕ) → IsPairBefore y q 0 0 → ⊥
        none y q (inl h) = omega arith
        none y q (inr h) = omega (arith, h.1)

    -- where nothing is assigned between, nothing more is asked for
    passed : (instances : List DecidingInstance) (reached : List Mark) (x p y q : ℕ) → IsDecidedUpTo app e embed instances reached x p →
        ((a b : ℕ) → IsPairBefore a b x p → IsPairBefore a b y q) →
        ((result : Unfolded) → IsUnfoldedIn app result → (a b : ℕ) → IsPairBefore a b y q → IsAssignedAt a b → IsPairBefore a b x p ⊎ ((k : ℕ) × HasMark app reached (name a b) k)) →
        IsDecidedUpTo app e embed instances reached y q
    passed instances reached x p y q so_far later between = record {
      darts = so_far.darts;
      few = so_far.few;
      ascending = so_far.ascending;
      before = λ k instance f. later instance.node instance.position (so_far.before k instance f);
      ungiven = so_far.ungiven;
      walked = λ result unfolded.
          let w = so_far.walked result unfolded in
          record {
            closed = w.closed;
            decided = w.decided;
            own = w.own;
            all = λ a b before assigned h. elim (between result unfolded a b before (assigned, h)) [
              | inl earlier ↦ w.all a b earlier assigned h
              | inr mark ↦ mark
            ];
          };
    }

    pub node_passed : (instances : List DecidingInstance) (reached : List Mark) (x : ℕ) → IsDecidedUpTo app e embed instances reached x 0 → (IsAssigned (rule_in app) e x → ⊥) → IsDecidedUpTo app e embed instances reached (x + 1) 0
    node_passed instances reached x so_far none = passed instances reached x 0 (x + 1) 0 so_far later between
      where
        later : (a b : ℕ) → IsPairBefore a b x 0 → IsPairBefore a b (x + 1) 0
        later a b (inl h) = inl (omega arith)
        later a b (inr h) = inl (omega (arith, h.0))

        between : (result : Unfolded) → IsUnfoldedIn app result → (a b : ℕ) → IsPairBefore a b (x + 1) 0 → IsAssignedAt a b → IsPairBefore a b x 0 ⊎ ((k : ℕ) × HasMark app reached (name a b) k)
        between result unfolded a b (inr h) assigned = absurd (omega (arith, h.1))
        between result unfolded a b (inl h) assigned = elim (cases_eq a x) [
          | inl same ↦ absurd (none (subst (IsAssigned (rule_in app) e) same assigned.0))
          | inr other ↦ inl (inl (omega arith))
        ]

    pub node_decided : (instances : List DecidingInstance) (reached : List Mark) (x : ℕ) → IsDecidedUpTo app e embed instances reached x app.placed.positions → IsDecidedUpTo app e embed instances reached (x + 1) 0
    node_decided instances reached x so_far = passed instances reached x app.placed.positions (x + 1) 0 so_far later between
      where
        later : (a b : ℕ) → IsPairBefore a b x app.placed.positions → IsPairBefore a b (x + 1) 0
        later a b (inl h) = inl (omega arith)
        later a b (inr h) = inl (omega (arith, h.0))

        between : (result : Unfolded) → IsUnfoldedIn app result → (a b : ℕ) → IsPairBefore a b (x + 1) 0 → IsAssignedAt a b → IsPairBefore a b x app.placed.positions ⊎ ((k : ℕ) × HasMark app reached (name a b) k)
        between result unfolded a b (inr h) assigned = absurd (omega (arith, h.1))
        between result unfolded a b (inl h) assigned = elim (cases_eq a x) [
          | inl same ↦ inl (inr (same, assigned.1))
          | inr other ↦ inl (inl (omega arith))
        ]

    -- a node of which each instance is marked
    pub node_marked : (instances : List DecidingInstance) (reached : List Mark) (x p : ℕ) → IsDecidedUpTo app e embed instances reached x p → ((result : Unfolded) → IsUnfoldedIn app result → (q : ℕ) → q < app.placed.positions → (k : ℕ) × HasMark app reached (name x q) k) → IsDecidedUpTo app e embed instances reached (x + 1) 0
    node_marked instances reached x p so_far marked = passed instances reached x p (x + 1) 0 so_far later between
      where
        later : (a b : ℕ) → IsPairBefore a b x p → IsPairBefore a b (x + 1) 0
        later a b (inl h) = inl (omega arith)
        later a b (inr h) = inl (omega (arith, h.0))

        between : (result : Unfolded) → IsUnfoldedIn app result → (a b : ℕ) → IsPairBefore a b (x + 1) 0 → IsAssignedAt a b → IsPairBefore a b x p ⊎ ((k : ℕ) × HasMark app reached (name a b) k)
        between result unfolded a b (inr h) assigned = absurd (omega (arith, h.1))
        between result unfolded a b (inl h) assigned = elim (cases_eq a x) [
          | inl same ↦ inr (subst (λ y. (k : ℕ) × HasMark app reached (name y b) k) (sym same) (marked result unfolded b assigned.1))
          | inr other ↦ inl (inl (omega arith))
        ]

    module _ (instances : List DecidingInstance) (reached : List Mark) (x p : ℕ) (at : At) (so_far : IsDecidedUpTo app e embed instances reached x p) (assigned : IsAssignedAt x p) (dart : IsResultDart app at) (named : name_of app at ≡ name x p) where
      mark_of_key : HasKey reached (key_of at) → (k : ℕ) × HasMark app reached (name x p) k
      mark_of_key (entry, among, key) = (entry.instance, (entry, among, same_name app prepared entry.at at (so_far.darts entry among) dart key ∙ named, refl))

      later : (a b : ℕ) → IsPairBefore a b x p → IsPairBefore a b x (p + 1)
      later a b (inl h) = inl h
      later a b (inr h) = inr (h.0, omega (arith, h.1))

      up_to : (a b : ℕ) → IsPairBefore a b x (p + 1) → IsPairBefore a b x p ⊎ ((a ≡ x) × (b ≡ p))
      up_to a b (inl h) = inl (inl h)
      up_to a b (inr h) = elim (cases_eq b p) [
        | inl same ↦ inr (h.0, same)
        | inr other ↦ inl (inr (h.0, omega (arith, h.1)))
      ]

      -- an instance that was reached doesn't decide
      pub instance_passed : HasKey reached (key_of at) → IsDecidedUpTo app e embed instances reached x (p + 1)
      instance_passed there = passed instances reached x p x (p + 1) so_far later (λ result unfolded a b before h. go a b (up_to a b before))
        where
          go : (a b : ℕ) → IsPairBefore a b x p ⊎ ((a ≡ x) × (b ≡ p)) → IsPairBefore a b x p ⊎ ((k : ℕ) × HasMark app reached (name a b) k)
          go a b (inl earlier) = inl earlier
          go a b (inr same) = inr (subst (λ u. (k : ℕ) × HasMark app reached (name u b) k) (sym same.0) (subst (λ v. (k : ℕ) × HasMark app reached (name x v) k) (sym same.1) (mark_of_key there)))

      module _ (after : List Mark) (absent : HasKey reached (key_of at) → ⊥) (darts : AreResultDarts app after) (few : length instances < 4294967295)
          (spread : (result : Unfolded) → IsUnfoldedIn app result → IsSpreadTo app embed result reached after (length instances) (name_of app at) (length after) 0) where
        abbrev this : DecidingInstance
        this = record { node = x; position = p; given = None }

        module _ (result : Unfolded) (unfolded : IsUnfoldedIn app result) where
          abbrev s : IsSpreadTo app embed result reached after (length instances) (name_of app at) (length after) 0
          s = spread result unfolded

          abbrev w : IsWalkedUpTo app e embed result instances reached x p
          w = so_far.walked result unfolded

          here : HasMark app after (name x p) (length instances)
          here = subst (λ d. HasMark app after d (length instances)) named s.here

          -- a mark was there, or is one of this walk
          old_or_new : (d k : ℕ) → HasMark app after d k → HasMark app reached d k ⊎ ((k ≡ length instances) × IsInOrbit result.alpha (type_of embed) (name x p) d)
          old_or_new d k (entry, among, f, g) = go (cases_lt among.0 (length reached))
            where
              at_m : slice_get after among.0 ≡ Some entry
              at_m = contained_at after entry among

              go : (among.0 < length reached) ⊎ (length reached ≤ among.0) → HasMark app reached d k ⊎ ((k ≡ length instances) × IsInOrbit result.alpha (type_of embed) (name x p) d)
              go (inl h) =
                  let old = get_within reached among.0 h in
                  let same : old.0 ≡ entry = some_same old.0 entry (sym (s.grown.kept among.0 old.0 old.1) ∙ at_m) in
                  inl (entry, get_contained reached among.0 entry (subst (λ r. slice_get reached among.0 ≡ Some r) same old.1), f, g)
              go (inr h) =
                  let new = s.grown.more among.0 entry h at_m in
                  inr (sym g ∙ new.0, subst (λ c. IsInOrbit result.alpha (type_of embed) c d) named (subst (IsInOrbit result.alpha (type_of embed) (name_of app at)) f new.1))

          kept : (d k : ℕ) → HasMark app reached d k → HasMark app after d k
          kept d k mark = mark_kept app prepared reached after d k s.grown.kept mark

          closed : IsClosed app embed result after
          closed d k i (entry, among, f, g) t = go (cases_lt among.0 (length reached))
            where
              at_m : slice_get after among.0 ≡ Some entry
              at_m = contained_at after entry among

              go : (among.0 < length reached) ⊎ (length reached ≤ among.0) → HasMark app after (result.alpha i d) k
              go (inl h) =
                  let old = get_within reached among.0 h in
                  let same : old.0 ≡ entry = some_same old.0 entry (sym (s.grown.kept among.0 old.0 old.1) ∙ at_m) in
                  kept (result.alpha i d) k (w.closed d k i (entry, get_contained reached among.0 entry (subst (λ r. slice_get reached among.0 ≡ Some r) same old.1), f, g) t)
              go (inr h) =
                  let new = s.grown.more among.0 entry h at_m in
                  let mark = s.followed among.0 i entry h at_m (inl (slice_get_within after among.0 entry at_m)) t in
                  subst (λ c. HasMark app after (result.alpha i c) k) f (subst (HasMark app after (result.alpha i (name_of app entry.at))) (sym new.0 ∙ g) mark)

          name_live : (y q : ℕ) (k : ℕ) → HasMark app reached (name y q) k → IsDartOf result (name y q)
          name_live y q k (entry, among, f, g) = subst (IsDartOf result) f (dart_after app prepared e embed at_embed result unfolded entry.at (so_far.darts entry among))

          here_live : IsDartOf result (name x p)
          here_live = subst (IsDartOf result) named (dart_after app prepared e embed at_embed result unfolded at dart)

          unmarked : (k : ℕ) → HasMark app reached (name x p) k → ⊥
          unmarked k (entry, among, f, g) = absent (entry, among, same_key app prepared entry.at at (so_far.darts entry among) dart (f ∙ sym named))

          -- the orbit of an instance that wasn't reached has no earlier one
          first : (y q : ℕ) → IsPairBefore y q x p → IsAssignedAt y q → IsInOrbit result.alpha (type_of embed) (name x p) (name y q) → ⊥
          first y q before a orbit =
              let old = w.all y q before a.0 a.1 in
              let back = orbit_back app prepared e embed at_embed result unfolded (name x p) (name y q) here_live orbit in
              unmarked old.0 (closed_along app prepared e embed at_embed result unfolded reached (name y q) (name x p) old.0 w.closed old.1 back)

          decided : (d k : ℕ) → HasMark app after d k → (instance : DecidingInstance) × (slice_get (instances ++ this ∷ []) k ≡ Some instance) × IsDecidedIn app result e embed d instance.node instance.position
          decided d k mark = go (old_or_new d k mark)
            where
              go : HasMark app reached d k ⊎ ((k ≡ length instances) × IsInOrbit result.alpha (type_of embed) (name x p) d) → (instance : DecidingInstance) × (slice_get (instances ++ this ∷ []) k ≡ Some instance) × IsDecidedIn app result e embed d instance.node instance.position
              go (inl old) = let by = w.decided d k old in (by.0, kept_at instances this k by.0 by.1, by.2)
              go (inr new) = (
                this,
                subst (λ j. slice_get (instances ++ this ∷ []) j ≡ Some this) (sym new.0) (last_at instances this),
                record {
                  assigned = assigned;
                  lies = orbit_back app prepared e embed at_embed result unfolded (name x p) d here_live new.1;
                  least = λ y q before a lies. first y q before a (orbit_through result.alpha (type_of embed) (name x p) d (name y q) new.1 lies);
                },
              )

          walked : IsWalkedUpTo app e embed result (instances ++ this ∷ []) after x (p + 1)
          walked = record {
            closed = closed;
            decided = decided;
            own = λ k instance f. own k instance (kept_or_last instances this k instance f);
            all = λ y q before a b. all y q a b (up_to y q before);
          }
            where
              own : (k : ℕ) (instance : DecidingInstance) → (slice_get instances k ≡ Some instance) ⊎ ((k ≡ length instances) × (this ≡ instance)) → HasMark app after (name instance.node instance.position) k
              own k instance (inl f) = kept (name instance.node instance.position) k (w.own k instance f)
              own k instance (inr f) = subst (λ (c : DecidingInstance). HasMark app after (name c.node c.position) k) f.1 (subst (HasMark app after (name x p)) (sym f.0) here)

              all : (y q : ℕ) → IsAssigned (rule_in app) e y → q < app.placed.positions → IsPairBefore y q x p ⊎ ((y ≡ x) × (q ≡ p)) → (k : ℕ) × HasMark app after (name y q) k
              all y q a b (inl earlier) = let old = w.all y q earlier a b in (old.0, kept (name y q) old.0 old.1)
              all y q a b (inr same) = (length instances, subst (λ u. HasMark app after (name u q) (length instances)) (sym same.0) (subst (λ v. HasMark app after (name x v) (length instances)) (sym same.1) here))

        -- an instance that wasn't reached decides
        pub instance_decides : IsDecidedUpTo app e embed (instances ++ this ∷ []) after x (p + 1)
        instance_decides = record {
          darts = darts;
          few = omega (arith, few, length-append instances (this ∷ []));
          ascending = λ k l a b h f g. ascending k l a b h (kept_or_last instances this k a f) (kept_or_last instances this l b g);
          before = λ k instance f. before k instance (kept_or_last instances this k instance f);
          ungiven = λ k instance f. ungiven k instance (kept_or_last instances this k instance f);
          walked = walked;
        }
          where
            ascending : (k l : ℕ) (a b : DecidingInstance) → k < l → (slice_get instances k ≡ Some a) ⊎ ((k ≡ length instances) × (this ≡ a)) → (slice_get instances l ≡ Some b) ⊎ ((l ≡ length instances) × (this ≡ b)) → IsPairBefore a.node a.position b.node b.position
            ascending k l a b h (inl f) (inl g) = so_far.ascending k l a b h f g
            ascending k l a b h (inl f) (inr g) = subst (λ (c : DecidingInstance). IsPairBefore a.node a.position c.node c.position) g.1 (so_far.before k a f)
            ascending k l a b h (inr f) (inl g) = absurd (omega (arith, f.0, slice_get_within instances l b g))
            ascending k l a b h (inr f) (inr g) = absurd (omega (arith, f.0, g.0))

            before : (k : ℕ) (instance : DecidingInstance) → (slice_get instances k ≡ Some instance) ⊎ ((k ≡ length instances) × (this ≡ instance)) → IsPairBefore instance.node instance.position x (p + 1)
            before k instance (inl f) = later instance.node instance.position (so_far.before k instance f)
            before k instance (inr f) = subst (λ (c : DecidingInstance). IsPairBefore c.node c.position x (p + 1)) f.1 (inr (refl, omega arith))

            ungiven : (k : ℕ) (instance : DecidingInstance) → (slice_get instances k ≡ Some instance) ⊎ ((k ≡ length instances) × (this ≡ instance)) → instance.given ≡ None
            ungiven k instance (inl f) = so_far.ungiven k instance f
            ungiven k instance (inr f) = subst (λ (c : DecidingInstance). c.given ≡ None) f.1 refl

    -- ---- at the end

    module _ (instances : List DecidingInstance) (reached : List Mark) (so_far : IsDecidedUpTo app e embed instances reached (length (rule_in app).nodes) 0) where
      module _ (result : Unfolded) (unfolded : IsUnfoldedIn app result) where
        abbrev end : IsWalkedUpTo app e embed result instances reached (length (rule_in app).nodes) 0
        end = so_far.walked result unfolded

        marked : (x p : ℕ) → IsAssignedAt x p → (k : ℕ) × HasMark app reached (name x p) k
        marked x p a = end.all x p (inl (assigned_below (rule_in app) e x a.0)) a.0 a.1

        decides : (instance : DecidingInstance) → Contains instances instance → IsDecidingIn app result e embed instance.node instance.position
        decides instance among =
            let at_k = contained_at instances instance among in
            let by = end.decided (name instance.node instance.position) among.0 (end.own among.0 instance at_k) in
            let same : by.0 ≡ instance = some_same by.0 instance (sym by.1 ∙ at_k) in
            subst (λ (c : DecidingInstance). IsDecidedIn app result e embed (name instance.node instance.position) c.node c.position) same by.2

        listed : (x p : ℕ) → IsDecidingIn app result e embed x p → (instance : DecidingInstance) × Contains instances instance × (instance.node ≡ x) × (instance.position ≡ p)
        listed x p deciding =
            let mark = marked x p deciding.assigned in
            let by = end.decided (name x p) mark.0 mark.1 in
            let same : (by.0.node ≡ x) × (by.0.position ≡ p) = pair_same by.0.node by.0.position x p
            (λ h. deciding.least by.0.node by.0.position h by.2.assigned by.2.lies)
            (λ h. by.2.least x p h deciding.assigned deciding.lies) in
            (by.0, get_contained instances mark.0 by.0 by.1, same.0, same.1)

        found : (d : ℕ) → IsReachedIn app result e embed d → (entry : Mark) × Contains reached entry × (name_of app entry.at ≡ d)
        found d (live, (x, p, a, lies)) =
            let mark = marked x p a in
            let back = orbit_back app prepared e embed at_embed result unfolded d (name x p) live lies in
            let there = closed_along app prepared e embed at_embed result unfolded reached (name x p) d mark.0 end.closed mark.1 back in
            (there.0, there.1, there.2)

      pub are_deciders : AreDecidingInstances app e embed instances
      are_deciders = record { ascending = so_far.ascending; decide = decides; all = listed }

      pub are_reached : HasDistinctKeys reached → AreReached app e embed instances reached
      are_reached distinct = record {
        darts = so_far.darts;
        distinct = distinct_darts reached so_far.darts distinct;
        decided = λ result unfolded entry among. (end result unfolded).decided (name_of app entry.at) entry.instance (entry, among, refl, refl);
        all = found;
      }

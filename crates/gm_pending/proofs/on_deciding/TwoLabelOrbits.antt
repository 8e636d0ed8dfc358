-- How an orbit of two labels is followed from one of its darts, along one label and then along the other.
use Rattle.std.proofs.Common.{◌≡◌, ◌≢◌, ℕ, ◌+◌, ◌*◌, ◌%◌, ◌^◌, ◌==◌, bit_and, w8, ◌<◌, ◌≤◌, ◌⊎◌, false, List, [], ◌∷◌, length, Option, None, Some, slice_get, IsTrue, refl, sym, ◌∙◌, ap, subst, inl, inr, arith, length-append}
use Rattle.std.proofs.lemmas.Bool.{cases_lt, false≢true}
use Rattle.std.proofs.lemmas.Nat.{and_le_l}
use Rattle.std.proofs.lemmas.Nat.Bits.{bit_at_clear_same}
use Rattle.std.proofs.lemmas.Option.{slice_get_within}
use Rattle.std.specs.Int.{bit_not}
use Rattle.gm_model.specs.declared.schema.Embed.{Embed}
use Rattle.gm_model.specs.declared.word.Mask.{Mask}
use Rattle.gm_model.specs.Maps.{IsEmbedAt, type_of}
use Rattle.gm_model.specs.Orbits.{IsInOrbit}
use Rattle.gm_model.specs.Unfolding.{IsArcAfter}
use Rattle.gm_model.specs.Labels.{has}
use Rattle.gm_theory.proofs.Lists.{some_same, contained_at, get_contained}
use Rattle.gm_theory.specs.inner.Theorem.{Unfolded, IsDartOf}
use Rattle.gm_walk.specs.declared.at.At.{At}
use Rattle.gm_walk.specs.declared.mark.Mark.{Mark}
use Rattle.gm_pending.specs.inner.Marks.{reached_by, HasKey, IsMarkedMore, HasDistinctKeys}
use Rattle.gm_walk.specs.inner.Keys.{key_of}
use Rattle.gm_pending.specs.inner.LabelPairs.{IsPair}
use Rattle.gm_pending.specs.inner.ReachedDarts.{AreResultDarts, HasMark, IsAdded, IsClosed, IsSpreadTo, IsFollowedBut, IsFollowedOut, IsGoneOn}
use Rattle.gm_pending.specs.inner.Results.{PendingOf, IsPrepared, IsResultDart, IsUnfoldedIn, name_of, scene_in}
use Rattle.gm_pending.proofs.on_marks.OneMoreMark.{get_within, key_marked, last_at, last_among}
use Rattle.gm_pending.proofs.on_deciding.OrbitsWalked.{same_key, same_name, mark_kept, marked_kept, marked_or_last, after_map, dart_after, label_within, orbit_step, nothing_grown, grown_more, marked_now}

pub pair_turned : (labels : Mask) (one other : ℕ) → IsPair labels one other → IsPair labels other one
pair_turned labels one other pair = record {
  apart = λ same. pair.apart (sym same);
  has_one = pair.has_other;
  has_other = pair.has_one;
  no_more = λ i few t. elim (pair.no_more i few t) [
    | inl h ↦ inr h
    | inr h ↦ inl h
  ];
}

-- a set without one of its labels has a lesser number
pub fewer_bits : (bits label : ℕ) → label < 8 → IsTrue (has (record { bits = bits }) label) → bit_and bits (bit_not w8 (1 * 2 ^ label % 256)) < bits
fewer_bits bits label few set = elim (cases_lt (bit_and bits (bit_not w8 (1 * 2 ^ label % 256))) bits) [
  | inl h ↦ h
  | inr h ↦
      let same : bit_and bits (bit_not w8 (1 * 2 ^ label % 256)) ≡ bits = omega (arith, h, and_le_l bits (bit_not w8 (1 * 2 ^ label % 256))) in
      absurd (false≢true (sym (ap (λ b. b == 1) (bit_at_clear_same w8 bits label few)) ∙ ap (λ n. has (record { bits = n }) label) same ∙ set))
]

-- a set of which nothing is left without these two
pub pair_found : (labels rest left : Mask) (one other : ℕ) → other < 8 → IsTrue (has labels one) → IsTrue (has rest other) → ((i : ℕ) → i < 8 → IsTrue (has rest i) → IsTrue (has labels i)) → ((i : ℕ) → i < 8 → has rest i ≡ false → (Some one ≡ Some i) ⊎ (has labels i ≡ false)) →
    ((i : ℕ) → i < 8 → Some one ≡ Some i → has rest i ≡ false) → ((i : ℕ) → i < 8 → has left i ≡ false → (Some other ≡ Some i) ⊎ (has rest i ≡ false)) → ((i : ℕ) → i < 8 → has left i ≡ false) → IsPair labels one other
pair_found labels rest left one other few first second among others gone others' none = record {
  apart = λ same. false≢true (sym (gone other few (ap Some same)) ∙ second);
  has_one = first;
  has_other = among other few second;
  no_more = λ i h t. go i h t (others' i h (none i h));
}
  where
    go : (i : ℕ) → i < 8 → IsTrue (has labels i) → (Some other ≡ Some i) ⊎ (has rest i ≡ false) → (i ≡ one) ⊎ (i ≡ other)
    go i h t (inl same) = inr (sym (some_same other i same))
    go i h t (inr unset) = elim (others i h unset) [
      | inl same ↦ inl (sym (some_same one i same))
      | inr not ↦ absurd (false≢true (sym not ∙ t))
    ]

-- one more mark
pub one_longer : (before after : List Mark) (at : At) (k : ℕ) (over : Option ℕ) → IsMarkedMore before after at k over → (HasKey before (key_of at) → ⊥) → length after ≡ length before + 1
one_longer before after at k over (inl (there, same)) absent = absurd (absent there)
one_longer before after at k over (inr (none, same)) absent = rw same (length-append before (reached_by at k over ∷ []))

-- and where it was marked before, none less
pub no_shorter : (before after : List Mark) (at : At) (k : ℕ) (over : Option ℕ) → IsMarkedMore before after at k over → length before ≤ length after
no_shorter before after at k over (inl (there, same)) = rw same (omega arith)
no_shorter before after at k over (inr (none, same)) = rw same (omega (arith, length-append before (reached_by at k over ∷ [])))

pub pair_wide : (dim one other : ℕ) → one ≢ other → one ≤ dim → other ≤ dim → 1 ≤ dim
pair_wide dim one other apart first second = elim (cases_lt 0 dim) [
  | inl h ↦ omega (arith, h)
  | inr h ↦ absurd (apart (omega (arith, h, first, second)))
]

-- what one neighbour more than there are new darts costs
pub pair_cost : (dim old new start end : ℕ) → 1 ≤ dim → old + 1 ≤ new → end + old ≤ start + 1 + new → end + (dim + 1) * old ≤ start + (dim + 1) * new
pair_cost dim old new start end some more cost =
    let wide : dim * (old + 1) ≤ dim * new = grind arith in
    let one : dim * (old + 1) ≡ dim * old + dim = grind arith in
    let left : (dim + 1) * old ≡ dim * old + old = grind arith in
    let right : (dim + 1) * new ≡ dim * new + new = grind arith in
    omega (arith, wide, one, left, right, some, cost)

-- darts of the result with one name have one key
pub by_keys : (app : PendingOf) (prepared : IsPrepared app) (next first last : At) → IsResultDart app next → IsResultDart app first → (key_of next ≡ key_of last) ⊎ (name_of app next ≡ name_of app first) → (key_of next ≡ key_of last) ⊎ (key_of next ≡ key_of first)
by_keys app prepared next first last dart first_dart (inl same) = inl same
by_keys app prepared next first last dart first_dart (inr name) = inr (same_key app prepared next first dart first_dart name)

module _ (app : PendingOf) (prepared : IsPrepared app) (e : ℕ) (embed : Embed) (at_embed : IsEmbedAt app.map.schema e embed) where
  module _ (result : Unfolded) (unfolded : IsUnfoldedIn app result) where
    few : (i : ℕ) → IsTrue (type_of embed i) → i < 8
    few i t = let h : i ≤ app.map.schema.dim = label_within app prepared e embed at_embed result unfolded i t in omega (arith, h, prepared.lawful.dim)

    -- both arcs of the first dart are to be followed
    pub follow_starts : (before after : List Mark) (at : At) (k one other : ℕ) → IsPair embed.mask one other → IsClosed app embed result before → (HasKey before (key_of at) → ⊥) → IsMarkedMore before after at k None → IsFollowedBut app embed result before after k (name_of app at) (name_of app at) one other
    follow_starts before after at k one other pair closed absent more = record {
      grown = grown_more app prepared e embed at_embed result unfolded before before after k (name_of app at) at None (nothing_grown app prepared e embed at_embed result unfolded before k (name_of app at)) more ([], tt, refl);
      closed = closed;
      here = here more;
      end = here more;
      followed = λ j i entry h f t. go j i entry h (marked_or_last app prepared before after at k None more j entry f) t;
    }
      where
        here : IsMarkedMore before after at k None → IsAdded app before after (name_of app at)
        here (inl (there, same)) = absurd (absent there)
        here (inr (none, same)) = (length before, reached_by at k None, omega arith, rw same (last_at before (reached_by at k None)), refl)

        go : (j i : ℕ) (entry : Mark) → length before ≤ j → (slice_get before j ≡ Some entry) ⊎ ((j ≡ length before) × (reached_by at k None ≡ entry)) → IsTrue (type_of embed i) →
            HasMark app after (result.alpha i (name_of app entry.at)) k ⊎ ((name_of app entry.at ≡ name_of app at) × (i ≡ one)) ⊎ ((name_of app entry.at ≡ name_of app at) × (i ≡ other))
        go j i entry h (inl f) t = absurd (omega (arith, h, slice_get_within before j entry f))
        go j i entry h (inr f) t =
            let name : name_of app entry.at ≡ name_of app at = ap (λ (r : Mark). name_of app r.at) (sym f.1) in
            elim (pair.no_more i (few i t) t) [
              | inl h ↦ inr (inl (name, h))
              | inr h ↦ inr (inr (name, h))
            ]

    module _ (before marks after : List Mark) (k d one other m : ℕ) (at to : At) (so_far : IsFollowedBut app embed result before marks k d (name_of app at) one m) (pair : IsPair embed.mask one other) (darts : AreResultDarts app marks) (dart : IsResultDart app at)
        (arc : IsArcAfter (scene_in app) (name_of app at) one (name_of app to)) (more : IsMarkedMore marks after to k None) where
      leads : result.alpha one (name_of app at) ≡ name_of app to
      leads = ((unfolded.arcs (name_of app at) one (name_of app to) (label_within app prepared e embed at_embed result unfolded one pair.has_one)).1 arc).1

      returns : result.alpha one (name_of app to) ≡ name_of app at
      returns =
          let live : IsDartOf result (name_of app at) = dart_after app prepared e embed at_embed result unfolded at dart in
          ap (result.alpha one) (sym leads) ∙ (after_map app prepared e embed at_embed result unfolded).back (name_of app at) one live (label_within app prepared e embed at_embed result unfolded one pair.has_one)

      -- where the neighbour is marked, there is nothing to follow but the other arc of the first dart
      pub follow_ends : HasDistinctKeys marks → IsResultDart app to → ((HasKey marks (key_of to) → ⊥) → ⊥) → IsFollowedBut app embed result before after k d d m m
      follow_ends distinct to_dart there = at_end more
        where
          at_end : IsMarkedMore marks after to k None → IsFollowedBut app embed result before after k d d m m
          at_end (inr (absent, same)) = absurd (there absent)
          at_end (inl (key, same)) = rw same record { grown = so_far.grown; closed = so_far.closed; here = so_far.here; end = so_far.here; followed = λ j i entry h f t. go i entry (so_far.followed j i entry h f t) }
            where
              mark : HasMark app marks (name_of app to) k
              mark = marked_now app prepared e embed at_embed result unfolded before marks k d so_far.grown so_far.closed darts distinct (name_of app at) one to so_far.end pair.has_one to_dart returns key

              go : (i : ℕ) (entry : Mark) → HasMark app marks (result.alpha i (name_of app entry.at)) k ⊎ ((name_of app entry.at ≡ name_of app at) × (i ≡ one)) ⊎ ((name_of app entry.at ≡ d) × (i ≡ m)) →
                  HasMark app marks (result.alpha i (name_of app entry.at)) k ⊎ ((name_of app entry.at ≡ d) × (i ≡ m)) ⊎ ((name_of app entry.at ≡ d) × (i ≡ m))
              go i entry (inl there) = inl there
              go i entry (inr (inl (name, label))) = inl (subst (λ b. HasMark app marks b k) (sym (ap (result.alpha i) name ∙ ap (λ z. result.alpha z (name_of app at)) label ∙ leads)) mark)
              go i entry (inr (inr h)) = inr (inr h)

      kept : (j : ℕ) (entry : Mark) → slice_get marks j ≡ Some entry → slice_get after j ≡ Some entry
      kept = marked_kept app prepared marks after to k None more

      added_kept : (x : ℕ) → IsAdded app before marks x → IsAdded app before after x
      added_kept x (j, entry, late, there, name) = (j, entry, late, kept j entry there, name)

      -- where it wasn't, its other arc is to be followed
      pub follow_goes_on : (HasKey marks (key_of to) → ⊥) → IsFollowedBut app embed result before after k d (name_of app to) other m
      follow_goes_on absent = record {
        grown = grown_more app prepared e embed at_embed result unfolded before marks after k d to None so_far.grown more orbit;
        closed = so_far.closed;
        here = added_kept d so_far.here;
        end = end more;
        followed = λ j i entry h f t. go j i entry h t (marked_or_last app prepared marks after to k None more j entry f);
      }
        where
          from : IsAdded app before marks (name_of app at)
          from = so_far.end

          orbit : IsInOrbit result.alpha (type_of embed) d (name_of app to)
          orbit = subst (IsInOrbit result.alpha (type_of embed) d) (ap (result.alpha one) from.4 ∙ leads)
              (orbit_step app prepared e embed at_embed result unfolded d (name_of app from.1.at) one (so_far.grown.more from.0 from.1 from.2 from.3).1 pair.has_one)

          end : IsMarkedMore marks after to k None → IsAdded app before after (name_of app to)
          end (inl (there, same)) = absurd (absent there)
          end (inr (none, same)) = (length marks, reached_by to k None, omega (arith, from.2, slice_get_within marks from.0 from.1 from.3), rw same (last_at marks (reached_by to k None)), refl)

          to_mark : IsMarkedMore marks after to k None → HasMark app after (name_of app to) k
          to_mark (inl (there, same)) = absurd (absent there)
          to_mark (inr (none, same)) = (reached_by to k None, rw same (last_among marks (reached_by to k None)), refl, refl)

          at_mark : HasMark app after (name_of app at) k
          at_mark = (from.1, get_contained after from.0 from.1 (kept from.0 from.1 from.3), from.4, (so_far.grown.more from.0 from.1 from.2 from.3).0)

          earlier : (i : ℕ) (entry : Mark) → HasMark app marks (result.alpha i (name_of app entry.at)) k ⊎ ((name_of app entry.at ≡ name_of app at) × (i ≡ one)) ⊎ ((name_of app entry.at ≡ d) × (i ≡ m)) → HasMark app after (result.alpha i (name_of app entry.at)) k ⊎ ((name_of app entry.at ≡ name_of app to) × (i ≡ other)) ⊎ ((name_of app entry.at ≡ d) × (i ≡ m))
          earlier i entry (inl mark) = inl (mark_kept app prepared marks after (result.alpha i (name_of app entry.at)) k kept mark)
          earlier i entry (inr (inl (name, label))) = inl (subst (λ b. HasMark app after b k) (sym (ap (result.alpha i) name ∙ ap (λ z. result.alpha z (name_of app at)) label ∙ leads)) (to_mark more))
          earlier i entry (inr (inr h)) = inr (inr h)

          last : (i : ℕ) (entry : Mark) → IsTrue (type_of embed i) → name_of app entry.at ≡ name_of app to → HasMark app after (result.alpha i (name_of app entry.at)) k ⊎ ((name_of app entry.at ≡ name_of app to) × (i ≡ other)) ⊎ ((name_of app entry.at ≡ d) × (i ≡ m))
          last i entry t name = elim (pair.no_more i (few i t) t) [
            | inl h ↦ inl (subst (λ b. HasMark app after b k) (sym (ap (result.alpha i) name ∙ ap (λ z. result.alpha z (name_of app to)) h ∙ returns)) at_mark)
            | inr h ↦ inr (inl (name, h))
          ]

          go : (j i : ℕ) (entry : Mark) → length before ≤ j → IsTrue (type_of embed i) → (slice_get marks j ≡ Some entry) ⊎ ((j ≡ length marks) × (reached_by to k None ≡ entry)) → HasMark app after (result.alpha i (name_of app entry.at)) k ⊎ ((name_of app entry.at ≡ name_of app to) × (i ≡ other)) ⊎ ((name_of app entry.at ≡ d) × (i ≡ m))
          go j i entry h t (inl f) = earlier i entry (so_far.followed j i entry h f t)
          go j i entry h t (inr f) = last i entry t (ap (λ (r : Mark). name_of app r.at) (sym f.1))

      -- From such a dart the other arc leads to a marked dart only where it leads back, or to the first dart: each arc of the others was followed, and none of these led here.
      pub only_ends : (HasKey marks (key_of to) → ⊥) → IsResultDart app to → (next : At) → IsResultDart app next → IsArcAfter (scene_in app) (name_of app to) other (name_of app next) → HasKey after (key_of next) → (key_of next ≡ key_of to) ⊎ (name_of app next ≡ d)
      only_ends absent to_dart next next_dart on (entry, among, key) = go (marked_or_last app prepared marks after to k None more among.0 entry (contained_at after entry among))
        where
          onward : result.alpha other (name_of app to) ≡ name_of app next
          onward = ((unfolded.arcs (name_of app to) other (name_of app next) (label_within app prepared e embed at_embed result unfolded other pair.has_other)).1 on).1

          back : result.alpha other (name_of app next) ≡ name_of app to
          back =
              let live : IsDartOf result (name_of app to) = dart_after app prepared e embed at_embed result unfolded to to_dart in
              ap (result.alpha other) (sym onward) ∙ (after_map app prepared e embed at_embed result unfolded).back (name_of app to) other live (label_within app prepared e embed at_embed result unfolded other pair.has_other)

          unmarked : (j : ℕ) → HasMark app marks (name_of app to) j → ⊥
          unmarked j (mark, there, name, is) = absent (mark, there, same_key app prepared mark.at to (darts mark there) to_dart name)

          before_walk : slice_get marks among.0 ≡ Some entry → among.0 < length before → name_of app entry.at ≡ name_of app next → ⊥
          before_walk f h name =
              let old = get_within before among.0 h in
              let same : old.0 ≡ entry = some_same old.0 entry (sym (so_far.grown.kept among.0 old.0 old.1) ∙ f) in
              let mark : HasMark app before (name_of app next) entry.instance = (entry, get_contained before among.0 entry (subst (λ r. slice_get before among.0 ≡ Some r) same old.1), name, refl) in
              let led : HasMark app before (name_of app to) entry.instance = subst (λ b. HasMark app before b entry.instance) back (so_far.closed (name_of app next) entry.instance other mark pair.has_other) in
              unmarked entry.instance (mark_kept app prepared before marks (name_of app to) entry.instance so_far.grown.kept led)

          by_followed : name_of app entry.at ≡ name_of app next → HasMark app marks (result.alpha other (name_of app entry.at)) k ⊎ ((name_of app entry.at ≡ name_of app at) × (other ≡ one)) ⊎ ((name_of app entry.at ≡ d) × (other ≡ m)) → name_of app next ≡ d
          by_followed name (inl mark) = absurd (unmarked k (subst (λ b. HasMark app marks b k) (ap (result.alpha other) name ∙ back) mark))
          by_followed name (inr (inl (same, label))) = absurd (pair.apart (sym label))
          by_followed name (inr (inr (same, label))) = sym name ∙ same

          go : (slice_get marks among.0 ≡ Some entry) ⊎ ((among.0 ≡ length marks) × (reached_by to k None ≡ entry)) → (key_of next ≡ key_of to) ⊎ (name_of app next ≡ d)
          go (inr f) = inl (sym key ∙ ap (λ (r : Mark). key_of r.at) (sym f.1))
          go (inl f) =
              let name : name_of app entry.at ≡ name_of app next = same_name app prepared entry.at next (darts entry (get_contained marks among.0 entry f)) next_dart key in
              elim (cases_lt among.0 (length before)) [
                | inl h ↦ absurd (before_walk f h name)
                | inr late ↦ inr (by_followed name (so_far.followed among.0 other entry late f pair.has_other))
              ]

    -- nothing is left but the other arc of the first dart, of which the walk is told by another label
    pub follow_other : (before after : List Mark) (k d m l : ℕ) → IsFollowedBut app embed result before after k d d m m → IsFollowedBut app embed result before after k d d m l
    follow_other before after k d m l s = record { grown = s.grown; closed = s.closed; here = s.here; end = s.end; followed = λ j i entry h f t. go i entry (s.followed j i entry h f t) }
      where
        go : (i : ℕ) (entry : Mark) → HasMark app after (result.alpha i (name_of app entry.at)) k ⊎ ((name_of app entry.at ≡ d) × (i ≡ m)) ⊎ ((name_of app entry.at ≡ d) × (i ≡ m)) →
            HasMark app after (result.alpha i (name_of app entry.at)) k ⊎ ((name_of app entry.at ≡ d) × (i ≡ m)) ⊎ ((name_of app entry.at ≡ d) × (i ≡ l))
        go i entry (inl mark) = inl mark
        go i entry (inr (inl h)) = inr (inl h)
        go i entry (inr (inr h)) = inr (inl h)

    -- where nothing is left, the walk has spread over the orbit
    pub follow_spreads : (before after : List Mark) (k d : ℕ) → IsFollowedBut app embed result before after k d d (app.map.schema.dim + 1) (app.map.schema.dim + 1) → IsSpreadTo app embed result before after k d (length after) 0
    follow_spreads before after k d s = record {
      grown = s.grown;
      closed = s.closed;
      here = (s.here.1, get_contained after s.here.0 s.here.1 s.here.3, s.here.4, (s.grown.more s.here.0 s.here.1 s.here.2 s.here.3).0);
      back = λ j i entry h f o t. go i entry t (s.followed j i entry h f t);
      followed = λ j i entry h f b t. go i entry t (s.followed j i entry h f t);
    }
      where
        go : (i : ℕ) (entry : Mark) → IsTrue (type_of embed i) → HasMark app after (result.alpha i (name_of app entry.at)) k ⊎ ((name_of app entry.at ≡ d) × (i ≡ app.map.schema.dim + 1)) ⊎ ((name_of app entry.at ≡ d) × (i ≡ app.map.schema.dim + 1)) → HasMark app after (result.alpha i (name_of app entry.at)) k
        go i entry t (inl mark) = mark
        go i entry t (inr (inl h)) = absurd (let w : i ≤ app.map.schema.dim = label_within app prepared e embed at_embed result unfolded i t in omega (arith, w, h.1))
        go i entry t (inr (inr h)) = absurd (let w : i ≤ app.map.schema.dim = label_within app prepared e embed at_embed result unfolded i t in omega (arith, w, h.1))

-- ---- one step of the walk

module _ (app : PendingOf) (prepared : IsPrepared app) (k i : ℕ) (start at to : At) (old new : List Mark) (darts : AreResultDarts app old) (dart : IsResultDart app at) (to_dart : IsResultDart app to) (arc : IsArcAfter (scene_in app) (name_of app at) i (name_of app to)) (more : IsMarkedMore old new to k None) where
  pub gone_on : IsResultDart app start → (HasKey old (key_of to) → ⊥) → IsGoneOn app k start at i old to new
  gone_on from absent = record {
    dart = to_dart;
    here = key_marked old new to k None more;
    longer = one_longer old new to k None more absent;
    walked = λ e other m embed result before at_embed pair unfolded so_far. (
      follow_goes_on app prepared e embed at_embed result unfolded before old new k (name_of app start) i other m at to so_far pair darts dart arc more absent,
      λ next next_dart on key. by_keys app prepared next start to next_dart from (only_ends app prepared e embed at_embed result unfolded before old new k (name_of app start) i other m at to so_far pair darts dart arc more absent to_dart next next_dart on key),
    );
  }

  pub gone_out : HasDistinctKeys old → ((HasKey old (key_of to) → ⊥) → ⊥) → IsFollowedOut app k start at i old new
  gone_out distinct there e other m embed result before at_embed pair unfolded so_far =
      follow_ends app prepared e embed at_embed result unfolded before old new k (name_of app start) i other m at to so_far pair darts dart arc more distinct to_dart there

-- A right node whose instances are one orbit: which nodes are, and what it gives to mark their instances.
use Rattle.std.proofs.Common.{◌≡◌, ℕ, zero, suc, ◌+◌, ◌*◌, ◌<◌, ◌≤◌, ◌⊎◌, List, [], ◌∷◌, ◌++◌, length, Some, None, slice_get, IsTrue, refl, sym, ◌∙◌, ap, subst, inl, inr, arith}
use Rattle.std.proofs.lemmas.Bool.{cases_lt, cases_eq}
use Rattle.std.proofs.lemmas.Option.{slice_get_within}
use Rattle.gm_model.specs.declared.rule.Side.TheVariants.{Right}
use Rattle.gm_model.specs.declared.schema.Embed.{Embed}
use Rattle.gm_model.specs.declared.step.Step.TheVariants.{Imp}
use Rattle.gm_model.specs.Components.{HasLetterIn, IsAssigned}
use Rattle.gm_model.specs.Maps.{IsEmbedAt, type_of}
use Rattle.gm_model.specs.Matches.{IsFirstTurn}
use Rattle.gm_model.specs.Orbits.{IsInOrbit}
use Rattle.gm_model.specs.Rules.{Rule, has_word, step, width}
use Rattle.gm_arena.specs.inner.ArenaAsMap.{as_map}
use Rattle.gm_theory.proofs.Arcs.{letter_arc, right_dart, same_instance}
use Rattle.gm_theory.proofs.Keeps.{rules_keep_generalised_maps}
use Rattle.gm_theory.proofs.Lists.{some_same, contained_at, get_contained}
use Rattle.gm_theory.proofs.Turns.{first_turn}
use Rattle.gm_theory.proofs.ValuesReadOff.{letter_step}
use Rattle.gm_theory.specs.inner.Theorem.{Unfolded, IsDartOf}
use Rattle.gm_walk.specs.declared.at.At.{At}
use Rattle.gm_walk.specs.declared.mark.Mark.{Mark}
use Rattle.gm_pending.specs.inner.Marks.{reached_by, HasKey}
use Rattle.gm_walk.specs.inner.Keys.{key_of}
use Rattle.gm_pending.specs.inner.ReachedDarts.{AreMarkedTo, AreResultDarts, HasMark, IsAlwaysOneOrbit, IsClosed, IsGrown, IsSpreadTo, IsUnmarked}
use Rattle.gm_pending.specs.inner.Results.{PendingOf, IsPrepared, IsResultDart, IsUnfoldedIn, name_of, place_in, rule_in, scene_in}
use Rattle.gm_pending.proofs.on_pending.PreparedIsLawful.{law}
use Rattle.gm_pending.proofs.on_marks.OneMoreMark.{get_within, kept_at, kept_or_last, last_among}
use Rattle.gm_pending.proofs.on_deciding.OrbitsWalked.{closed_along, label_within, mark_kept, orbit_back, orbit_step, same_key, same_name}

-- no step is counted, and no mark is lost
pub longer_cost : (dim start old new : ℕ) → old ≤ new → start + (dim + 1) * old ≤ start + (dim + 1) * new
longer_cost dim start old new h = grind arith

-- a node with an assignment is a node of the rule
pub assigned_within : (rule : Rule) (e x : ℕ) → IsAssigned rule e x → x < length rule.nodes
assigned_within rule e x (tree, (node, here, held)) = slice_get_within rule.nodes x node here

module _ (app : PendingOf) (prepared : IsPrepared app) (x : ℕ) (right : IsTrue (has_word (rule_in app) Right x)) where
  abbrev name : ℕ → ℕ
  name p = (scene_in app).name_of x p

  -- ---- the marks of one instance after the other

  pub none_marked_yet : (before : List Mark) (k : ℕ) → AreMarkedTo app before before x k 0
  none_marked_yet before k = record {
    kept = λ j entry f. f;
    more = λ j entry h f. absurd (omega (arith, h, slice_get_within before j entry f));
    all = λ q h. absurd (omega arith);
  }

  module _ (before marks : List Mark) (k p : ℕ) (at : At) (so_far : AreMarkedTo app before marks x k p) (named : name_of app at ≡ name p) where
    -- no instance comes twice
    pub next_absent : IsUnmarked app before x → p < app.placed.positions → IsResultDart app at → AreResultDarts app marks → HasKey marks (key_of at) → ⊥
    next_absent unmarked b dart darts (entry, among, key) = go (cases_lt among.0 (length before))
      where
        here : slice_get marks among.0 ≡ Some entry
        here = contained_at marks entry among

        is_name : name_of app entry.at ≡ name p
        is_name = same_name app prepared entry.at at (darts entry among) dart key ∙ named

        go : (among.0 < length before) ⊎ (length before ≤ among.0) → ⊥
        go (inl h) =
            let old = get_within before among.0 h in
            let same : old.0 ≡ entry = some_same old.0 entry (sym (so_far.kept among.0 old.0 old.1) ∙ here) in
            unmarked p entry.instance b (entry, get_contained before among.0 entry (subst (λ r. slice_get before among.0 ≡ Some r) same old.1), is_name, refl)
        go (inr h) =
            let new = so_far.more among.0 entry h here in
            let one : (x ≡ x) × (new.1 ≡ p) = same_instance (scene_in app) _ _ _ (law app prepared) x new.1 x p (right, omega (arith, new.2)) (right, b) (sym new.3 ∙ is_name) in
            omega (arith, new.2, one.1)

    pub next_marked : AreMarkedTo app before (marks ++ reached_by at k None ∷ []) x k (p + 1)
    next_marked = record {
      kept = λ j entry f. kept_at marks (reached_by at k None) j entry (so_far.kept j entry f);
      more = λ j entry h f. more j entry h (kept_or_last marks (reached_by at k None) j entry f);
      all = λ q h. all q h (cases_eq q p);
    }
      where
        more : (j : ℕ) (entry : Mark) → length before ≤ j → (slice_get marks j ≡ Some entry) ⊎ ((j ≡ length marks) × (reached_by at k None ≡ entry)) → (entry.instance ≡ k) × (q : ℕ) × (q < p + 1) × (name_of app entry.at ≡ name q)
        more j entry h (inl f) = let old = so_far.more j entry h f in (old.0, old.1, omega (arith, old.2), old.3)
        more j entry h (inr f) = subst (λ (r : Mark). (r.instance ≡ k) × (q : ℕ) × (q < p + 1) × (name_of app r.at ≡ name q)) f.1 (refl, p, omega arith, named)

        all : (q : ℕ) → q < p + 1 → (q ≡ p) ⊎ (q ≡ p → ⊥) → HasMark app (marks ++ reached_by at k None ∷ []) (name q) k
        all q h (inl same) = (reached_by at k None, last_among marks (reached_by at k None), named ∙ ap name (sym same), refl)
        all q h (inr other) = mark_kept app prepared marks (marks ++ reached_by at k None ∷ []) (name q) k (λ j entry f. kept_at marks (reached_by at k None) j entry f) (so_far.all q (omega arith))

  module _ (e : ℕ) (embed : Embed) (at_embed : IsEmbedAt app.map.schema e embed) where
    -- ---- where each letter of the node is a label of the type, and each label of the type a letter of the node

    module _ (among : (m : ℕ) → m < width (rule_in app) → HasLetterIn (rule_in app) Right (type_of embed) x m) (each : (i : ℕ) → i ≤ app.map.schema.dim → IsTrue (type_of embed i) → (m : ℕ) × (step (rule_in app) Right x i ≡ Imp m)) where
      module _ (result : Unfolded) (unfolded : IsUnfoldedIn app result) where
        -- along a letter lies the instance to whose position its place turns
        turned : (p i m : ℕ) → p < app.placed.positions → i ≤ app.map.schema.dim → step (rule_in app) Right x i ≡ Imp m → result.alpha i (name p) ≡ name ((place_in app).turn p m)
        turned p i m b h is = ((unfolded.arcs (name p) i (name ((place_in app).turn p m)) h).1 (letter_arc (scene_in app) _ _ _ (law app prepared) x p i m (right, b) h is)).1

        closed : (p i : ℕ) → p < app.placed.positions → IsTrue (type_of embed i) → (q : ℕ) × (q < app.placed.positions) × (result.alpha i (name p) ≡ name q)
        closed p i b t =
            let h : i ≤ app.map.schema.dim = label_within app prepared e embed at_embed result unfolded i t in
            let letter = each i h t in
            let low : letter.0 < width (rule_in app) = (law app prepared).steps.right_place x i letter.0 right letter.1 in
            ((place_in app).turn p letter.0, (law app prepared).turns.within p letter.0 b low, turned p i letter.0 b h letter.1)

        -- each position is turned to from an earlier one
        joined : (n p : ℕ) → p < n → p < app.placed.positions → IsInOrbit result.alpha (type_of embed) (name 0) (name p)
        joined zero p h b = absurd (omega arith)
        joined (suc n) zero h b = ([], tt, refl)
        joined (suc n) (suc p) h b =
            go (first_turn (as_map app.map) (rule_in app) (place_in app) prepared.hooks prepared.matched.is_match.walk prepared.matched.is_match.positions (suc p) (omega arith) b)
            (λ q c d. joined n q c d)
          where
            go : (q : ℕ) × (m : ℕ) × (q < suc p) × IsFirstTurn (rule_in app) (place_in app) (suc p) q m → ((q : ℕ) → q < n → q < app.placed.positions → IsInOrbit result.alpha (type_of embed) (name 0) (name q)) → IsInOrbit result.alpha (type_of embed) (name 0) (name (suc p))
            go (q, m, earlier, turn) rest =
                let letter = among m turn.within in
                let low : letter.0 ≤ app.map.schema.dim = label_within app prepared e embed at_embed result unfolded letter.0 letter.2 in
                let is : step (rule_in app) Right x letter.0 ≡ Imp m = letter_step app.map.schema (rule_in app) prepared.planned.accepted.in_range prepared.planned.accepted.incidence Right x letter.0 m right low letter.1 in
                let here : result.alpha letter.0 (name q) ≡ name (suc p) = turned q letter.0 m turn.position low is ∙ ap name turn.turns in
                subst (IsInOrbit result.alpha (type_of embed) (name 0)) here
                (orbit_step app prepared e embed at_embed result unfolded (name 0) (name q) letter.0 (rest q (omega arith) turn.position) letter.2)

      pub is_one_orbit : IsAlwaysOneOrbit app embed x
      is_one_orbit result unfolded = record { closed = closed result unfolded; joined = λ p b. joined result unfolded (suc p) p (omega arith) b }

    -- ---- what is marked of them

    module _ (orbit : IsAlwaysOneOrbit app embed x) where
      module _ (result : Unfolded) (unfolded : IsUnfoldedIn app result) where
        instance_live : (p : ℕ) → p < app.placed.positions → IsDartOf result (name p)
        instance_live p b = (unfolded.darts (name p)).1 (right_dart (scene_in app) _ _ _ (law app prepared) x p (right, b))

        -- where one is marked, each is
        each_marked : (reached : List Mark) (p q k : ℕ) → IsClosed app embed result reached → p < app.placed.positions → q < app.placed.positions → HasMark app reached (name p) k → HasMark app reached (name q) k
        each_marked reached p q k closed b c mark =
            let back = orbit_back app prepared e embed at_embed result unfolded (name 0) (name p) (instance_live 0 (omega arith)) ((orbit result unfolded).joined p b) in
            let first = closed_along app prepared e embed at_embed result unfolded reached (name p) (name 0) k closed mark back in
            closed_along app prepared e embed at_embed result unfolded reached (name 0) (name q) k closed first ((orbit result unfolded).joined q c)

      module _ (reached : List Mark) (at : At) (some : 1 ≤ app.placed.positions) (named : name_of app at ≡ name 0) (dart : IsResultDart app at) (darts : AreResultDarts app reached) where
        pub all_marked : HasKey reached (key_of at) → (result : Unfolded) → IsUnfoldedIn app result → IsClosed app embed result reached → (q : ℕ) → q < app.placed.positions → (k : ℕ) × HasMark app reached (name q) k
        all_marked (entry, among, key) result unfolded closed q c =
            (entry.instance, each_marked result unfolded reached 0 q entry.instance closed (omega arith) c (entry, among, same_name app prepared entry.at at (darts entry among) dart key ∙ named, refl))

        -- where the first isn't marked, none is
        pub none_marked : ((result : Unfolded) → IsUnfoldedIn app result → IsClosed app embed result reached) → (HasKey reached (key_of at) → ⊥) → IsUnmarked app reached x
        none_marked closed absent p k b mark = go (each_marked there.0 there.1 reached p 0 k (closed there.0 there.1) b (omega arith) mark)
          where
            there : (result : Unfolded) × IsUnfoldedIn app result
            there = (rules_keep_generalised_maps (as_map app.map) (rule_in app) prepared.hooks (place_in app) prepared.sound.is_map.below prepared.sound.generalised prepared.planned.accepted prepared.matched.is_match).exists

            go : HasMark app reached (name 0) k → ⊥
            go (entry, among, f, g) = absent (entry, among, same_key app prepared entry.at at (darts entry among) dart (f ∙ sym named))

      module _ (before after : List Mark) (k p : ℕ) (marked : AreMarkedTo app before after x k p) (result : Unfolded) (unfolded : IsUnfoldedIn app result) where
        pub orbit_grown : p ≤ app.placed.positions → IsGrown app embed result before after k (name 0)
        orbit_grown most = record {
          kept = marked.kept;
          more = λ j entry h f.
              let new = marked.more j entry h f in
              (new.0, subst (IsInOrbit result.alpha (type_of embed) (name 0)) (sym new.3) ((orbit result unfolded).joined new.1 (omega (arith, new.2))));
        }

        pub orbit_spread : 1 ≤ p → p ≡ app.placed.positions → IsClosed app embed result before → IsSpreadTo app embed result before after k (name 0) (length after) 0
        orbit_spread some all closed = record {
          grown = orbit_grown (omega (arith, all));
          closed = closed;
          here = marked.all 0 (omega arith);
          back = λ j l entry h f o t. inside j l entry h f t;
          followed = λ j l entry h f b t. inside j l entry h f t;
        }
          where
            inside : (j l : ℕ) (entry : Mark) → length before ≤ j → slice_get after j ≡ Some entry → IsTrue (type_of embed l) → HasMark app after (result.alpha l (name_of app entry.at)) k
            inside j l entry h f t =
                let new = marked.more j entry h f in
                let to = (orbit result unfolded).closed new.1 l (omega (arith, new.2, all)) t in
                subst (λ d. HasMark app after (result.alpha l d) k) (sym new.3) (subst (λ c. HasMark app after c k) (sym to.2) (marked.all to.0 (omega (arith, to.1, all))))

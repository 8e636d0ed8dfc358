-- The triangulation of the square is done, within its budget; and an application whose deciding instance has no value is refused.
use Rattle.std.proofs.Common.{◌≡◌, ℕ, zero, suc, ◌+◌, ◌<◌, ◌≤◌, ◌⊎◌, false, not, ◌&&◌, pos, IsTrue, List, [], ◌∷◌, eqb, ltb, leb, Contains, Some, codes, slice_get, slice_index, refl, sym, ◌∙◌, ap, subst, inl, inr, arith}
use Rattle.std.proofs.lemmas.Bool.{eq-eqb, ltb-true, lt-ltb, leb-true, le-leb, cases_lt}
use Rattle.std.proofs.lemmas.Grind.{get_or_default_zero}
use Rattle.gm_model.specs.declared.expr.BinOp.TheVariants.{Div}
use Rattle.gm_model.specs.declared.rule.Side.TheVariants.{Left, Right}
use Rattle.gm_model.specs.declared.schema.Embed.{Embed}
use Rattle.gm_model.specs.declared.value.Value.{Value}
use Rattle.gm_model.specs.declared.value.Value.TheVariants as values
use Rattle.gm_model.specs.declared.word.Letter.TheVariants.{At}
use Rattle.gm_model.specs.Applications.{Decider, IsReady, IsStaying, IsDone, IsRefused, Valueless, NoValue, IsDeciderBefore, IsValuedBefore, IsRead, IsReadSum, IsReachedAt, IsReachedSum, IsBudget, Of, Candidate, Ready, GivesValue, reading_at}
use Rattle.gm_model.specs.Components.{IsAssigned}
use Rattle.gm_model.specs.Expressions.{HasValue, HasUnits}
use Rattle.gm_model.specs.Labels.{has}
use Rattle.gm_model.specs.Maps.{IsDart, IsEmbedAt, type_of}
use Rattle.gm_model.specs.Matches.{IsCandidate}
use Rattle.gm_model.specs.NewValues.{IsDeciding, LiesIn}
use Rattle.gm_model.specs.Orbits.{HasCount, IsPairBefore}
use Rattle.gm_model.specs.Rules.{Assignment, Assigns, has_word}
use Rattle.gm_model.specs.Trees.{Tree, Field, Number, Binary}
use Rattle.gm_model.specs.Unfolding.{IsGone, scene_of}
use Rattle.gm_theory.proofs.ExamplesCentre.{name, undecided, decided, walk_is_face, triangulated}
use Rattle.gm_theory.proofs.ExamplesChecks.{each_below, each, ◌implies◌, implied, has_number, number_contained}
use Rattle.gm_theory.proofs.ExamplesMatches.{match_shown, candidate_shown}
use Rattle.gm_theory.proofs.ExamplesOutcomes.{one_live, forced_alone, numbers_listed}
use Rattle.gm_theory.proofs.ExamplesTriangulation.{found, unfolded, assigned_new, assigned_there, sets_of, assigns_centre, only_points}
use Rattle.gm_theory.proofs.ExamplesUnfoldings.{unfolding_shown}
use Rattle.gm_theory.proofs.Lists.{some_same, none_some}
use Rattle.gm_theory.proofs.RuleSteps.{word_below}
use Rattle.gm_theory.proofs.Tests.{both_true, not_true, not_both}
use Rattle.gm_theory.proofs.ValuesUnique.{number_made}
use Rattle.gm_theory.specs.inner.Examples.{square, square_walk, on_square, four_triangles, triangulation, triangulating, centre, labels_12, points_of_vertices, kept_node}
use Rattle.gm_theory.specs.inner.ExamplesOutcomes.{spoiling, spoiling_square, on_corner}

-- ---- done

only_a : (x : ℕ) → IsTrue (has_word triangulation Left x) → x ≡ 0
only_a zero w = refl
only_a (suc zero) w = not_both false w refl
only_a (suc (suc zero)) w = not_both false w refl
only_a (suc (suc (suc x))) w = not_both false w refl

none_gone : (d : ℕ) → IsGone (scene_of square triangulation on_square) d → ⊥
none_gone d (zero, p, g, b, e) = not_both false g refl
none_gone d (suc zero, p, g, b, e) = not_both false g refl
none_gone d (suc (suc zero), p, g, b, e) = not_both false g refl
none_gone d (suc (suc (suc x)), p, g, b, e) = not_both false g refl

candidate : IsCandidate square triangulation (0 ∷ []) on_square
candidate = candidate_shown square triangulation on_square 0 square_walk refl refl refl refl (forced_alone triangulation refl only_a square on_square)

ready : IsReady triangulating on_square
ready = record {
  matched = found;
  pre = λ tree e. none_some tree e;
  live = 8;
  live_is = numbers_listed (IsStaying triangulating on_square) 8 (λ d. ((λ s. ltb-true d 8 s.0), (λ h. (lt-ltb d 8 h, none_gone d))));
  darts_fit = omega arith;
  names_fit = omega arith;
}

pub done : IsDone triangulating four_triangles 16 0
done = record {
  place = on_square;
  ready = ready;
  result_is = triangulated;
  added_is = refl;
  removed_is = ([], record { distinct = λ p q b c e. absurd (omega arith); same = λ d. ((λ c. absurd (let b : c.0 < 0 = c.1 in omega arith)), (λ g. absurd (none_gone d g))) }, refl);
}

-- ---- the budget

abbrev centre_decider : Decider
centre_decider = record { embed = 0; node = 2; position = 0 }

assigned_c : (e y : ℕ) → IsAssigned triangulation e y → y ≡ 2
assigned_c e y a = assigned_new (At 1 ∷ At 2 ∷ []) (record { embed = 0; tree = centre } ∷ []) e y a

-- the embedding, node and position of a deciding instance
only_decider : (e : ℕ) (embed : Embed) → IsEmbedAt square.schema e embed → (x p : ℕ) → IsDeciding square triangulation on_square four_triangles.alpha e (type_of embed) x p → (e ≡ 0) × (x ≡ 2) × (p ≡ 0)
only_decider e embed at = only_points (λ e' embed'. (x p : ℕ) → IsDeciding square triangulation on_square four_triangles.alpha e' (type_of embed') x p → (e' ≡ 0) × (x ≡ 2) × (p ≡ 0)) first e embed at
  where
    first : (x p : ℕ) → IsDeciding square triangulation on_square four_triangles.alpha 0 (has labels_12) x p → (Path ℕ 0 0) × (x ≡ 2) × (p ≡ 0)
    first x p by = (refl, node, go p by.assigned.1 refl)
      where
        node : x ≡ 2
        node = assigned_c 0 x by.assigned.0

        go : (q : ℕ) → q < 8 → q ≡ p → p ≡ 0
        go zero b e = sym e
        go (suc q) b e = absurd (by.least 2 0 (inr (sym node, omega arith)) (decided 16 (omega arith) (omega arith)).assigned
            (subst (λ c. LiesIn square triangulation on_square four_triangles.alpha 0 (has labels_12) c 2 0) (let there : 16 + p ≡ name 2 p = refl in there ∙ ap (λ y. name y p) (sym node)) (decided (16 + p) (omega arith) (omega arith)).lies))

reached : (d : ℕ) → IsReachedAt triangulating on_square (IsDart four_triangles) four_triangles.alpha 0 points_of_vertices d → 16 ≤ d
reached d (live, (x, p, a, lies)) = go (cases_lt d 16)
  where
    go : (d < 16) ⊎ (16 ≤ d) → 16 ≤ d
    go (inl h) = absurd (undecided d h x p a lies)
    go (inr h) = h

abbrev new_darts : List ℕ
new_darts = 16 ∷ 17 ∷ 18 ∷ 19 ∷ 20 ∷ 21 ∷ 22 ∷ 23 ∷ []

eight_reached : HasCount (IsReachedAt triangulating on_square (IsDart four_triangles) four_triangles.alpha 0 points_of_vertices) 8
eight_reached = (
  new_darts,
  record {
    distinct = λ p q b c e. not_both (eqb (slice_index new_darts p) (slice_index new_darts q)) (eq-eqb _ _ e) (not_true _ (each q _ (each 8 (λ k. each_below k (λ j. not (eqb (slice_index new_darts j) (slice_index new_darts k)))) refl q c) p b));
    same = λ d. (there d, back d);
  },
  refl,
)
  where
    is_reached : (d : ℕ) → 16 ≤ d → d < 24 → IsReachedAt triangulating on_square (IsDart four_triangles) four_triangles.alpha 0 points_of_vertices d
    is_reached d h b = (lt-ltb d 24 b, (2, 0, (decided d h b).assigned, (decided d h b).lies))

    there : (d : ℕ) → Contains new_darts d → IsReachedAt triangulating on_square (IsDart four_triangles) four_triangles.alpha 0 points_of_vertices d
    there d (k, b, e) =
        let at : slice_index new_darts k ≡ d = sym (get_or_default_zero new_darts k d b) ∙ e in
        let within : IsTrue (leb 16 (slice_index new_darts k) && ltb (slice_index new_darts k) 24) = each 8 (λ j. leb 16 (slice_index new_darts j) && ltb (slice_index new_darts j) 24) refl k b in
        is_reached d (subst (λ c. 16 ≤ c) at (leb-true 16 _ (both_true _ _ within).0)) (subst (λ c. c < 24) at (ltb-true _ 24 (both_true _ _ within).1))

    back : (d : ℕ) → IsReachedAt triangulating on_square (IsDart four_triangles) four_triangles.alpha 0 points_of_vertices d → Contains new_darts d
    back d r = number_contained new_darts d (implied (leb 16 d) (has_number new_darts d) (each 24 (λ c. leb 16 c implies has_number new_darts c) refl d (ltb-true d 24 r.0)) (le-leb 16 d (reached d r)))

reached_sum : IsReachedSum triangulating on_square (IsDart four_triangles) four_triangles.alpha 8
reached_sum = record { counts = 8 ∷ []; each = refl; counts_are = counts; sum_is = refl }
  where
    counts : (e c : ℕ) (embed : Embed) → slice_get (8 ∷ []) e ≡ Some c → IsEmbedAt square.schema e embed → HasCount (IsReachedAt triangulating on_square (IsDart four_triangles) four_triangles.alpha e embed) c
    counts e c embed f at = only_points (λ e' embed'. slice_get (8 ∷ []) e' ≡ Some c → HasCount (IsReachedAt triangulating on_square (IsDart four_triangles) four_triangles.alpha e' embed') c) (λ g. subst (HasCount (IsReachedAt triangulating on_square (IsDart four_triangles) four_triangles.alpha 0 points_of_vertices)) (some_same 8 c g) eight_reached) e embed at f

face_units : HasUnits (reading_at triangulating on_square 0) centre 16
face_units = (8, 8, (8, (square_walk, walk_is_face, refl), refl), (8, (square_walk, walk_is_face, refl), refl), refl)

read_sum : IsReadSum triangulating on_square (IsDart four_triangles) four_triangles.alpha 16
read_sum = record {
  read = centre_decider ∷ [];
  ordered = ordered;
  same = λ decider. (there decider, back decider);
  units = 16 ∷ [];
  units_are = ((centre, (assigns_centre (At 1 ∷ At 2 ∷ []), omega arith), face_units), tt);
  sum_is = refl;
}
  where
    ordered : (k l : ℕ) (a b : Decider) → k < l → slice_get (centre_decider ∷ []) k ≡ Some a → slice_get (centre_decider ∷ []) l ≡ Some b → IsDeciderBefore a b
    ordered k zero a b h e f = absurd (omega arith)
    ordered k (suc l) a b h e f = none_some b f

    valued : IsValuedBefore triangulating on_square (IsDart four_triangles) four_triangles.alpha centre_decider
    valued other before by = absurd (go before)
      where
        which : (other.embed ≡ 0) × (other.node ≡ 2) × (other.position ≡ 0)
        which = only_decider other.embed by.embed by.embed_at other.node other.position by.deciding

        go : IsDeciderBefore other centre_decider → ⊥
        go (inl h) = omega arith
        go (inr (e, inl h)) = omega (arith, which.1)
        go (inr (e, inr (f, h))) = omega arith

    there : (decider : Decider) → Contains (centre_decider ∷ []) decider → IsRead triangulating on_square (IsDart four_triangles) four_triangles.alpha decider
    there decider (zero, b, e) = subst (IsRead triangulating on_square (IsDart four_triangles) four_triangles.alpha) e (record { embed = points_of_vertices; embed_at = refl; deciding = decided 16 (omega arith) (omega arith) }, valued)
    there decider (suc k, b, e) = absurd (omega arith)

    back : (decider : Decider) → IsRead triangulating on_square (IsDart four_triangles) four_triangles.alpha decider → Contains (centre_decider ∷ []) decider
    back decider (by, before) =
        let which : (decider.embed ≡ 0) × (decider.node ≡ 2) × (decider.position ≡ 0) = only_decider decider.embed by.embed by.embed_at decider.node decider.position by.deciding in
        (0, omega arith, ap (λ k. record { embed = k; node = 2; position = 0 }) (sym which.0) ∙ ap (λ k. record { embed = decider.embed; node = k; position = 0 }) (sym which.1) ∙ ap (λ k. record { embed = decider.embed; node = decider.node; position = k }) (sym which.2))

-- three nodes at eight positions, eight darts that get the centre, and sixteen that are read for it
pub budget : IsBudget triangulating 3528
budget = Of 8 8 16 (Candidate on_square (one_live square 0 refl) candidate) (Ready on_square four_triangles.live four_triangles.alpha 8 0 16 ready unfolded reached_sum (inl (refl, refl)) read_sum)

-- ---- a deciding instance without a value

none_spoiled : (d : ℕ) → IsGone (scene_of square spoiling on_corner) d → ⊥
none_spoiled d (zero, p, g, b, e) = not_both false g refl
none_spoiled d (suc x, p, g, b, e) = not_both false g refl

abbrev spoiled : Tree
spoiled = Binary Div (Field (record { node = 0; path = [] }) 0) (Number (pos 0))

assigns_spoiled : Assigns spoiling 0 0 spoiled
assigns_spoiled = (kept_node (codes "a") (At 1 ∷ At 2 ∷ []) (At 1 ∷ At 2 ∷ []) (record { embed = 0; tree = spoiled } ∷ []), refl, (0, omega arith, refl))

spoiling_ready : IsReady spoiling_square on_corner
spoiling_ready = record {
  matched = match_shown square spoiling on_corner 1 (1 ∷ 2 ∷ []) refl refl refl refl;
  pre = λ tree e. none_some tree e;
  live = 8;
  live_is = numbers_listed (IsStaying spoiling_square on_corner) 8 (λ d. ((λ s. ltb-true d 8 s.0), (λ h. (lt-ltb d 8 h, none_spoiled d))));
  darts_fit = omega arith;
  names_fit = omega arith;
}

pub no_value : IsRefused spoiling_square (NoValue 0 0)
no_value = Valueless on_corner square.live square.alpha (record { embed = 0; node = 0; position = 0 }) spoiling_ready
    (unfolding_shown (scene_of square spoiling on_corner) 1 8 square.live square.alpha 8 (λ d h. ltb-true d 8 h) (λ d h. ltb-true d 8 h) (word_below spoiling Left) (word_below spoiling Right) refl refl)
    (record {
      here = record { embed = points_of_vertices; embed_at = refl; deciding = record { assigned = ((spoiled, assigns_spoiled), omega arith); lies = ([], tt, refl); least = λ y q before a lies. first y q before } };
      none = none;
      before = λ other before by. absurd (earlier other before);
    })
  where
    first : (y q : ℕ) → IsPairBefore y q 0 0 → ⊥
    first y q (inl h) = omega arith
    first y q (inr (e, h)) = omega arith

    earlier : (other : Decider) → IsDeciderBefore other (record { embed = 0; node = 0; position = 0 }) → ⊥
    earlier other (inl h) = omega arith
    earlier other (inr (e, b)) = first other.node other.position b

    no_quotient : (v : Value) → HasValue (reading_at spoiling_square on_corner 0) spoiled v → ⊥
    no_quotient v (a, b, field, zero_b, (y, e, nonzero, made)) = nonzero (let f : values.Int y ≡ values.Int (pos 0) = sym e ∙ number_made (pos 0) b zero_b in cc)

    only_tree : (tree : Tree) → Contains (sets_of spoiling 0) (record { embed = 0; tree = tree }) → spoiled ≡ tree
    only_tree tree (zero, b, e) = ap (λ (s : Assignment). s.tree) e
    only_tree tree (suc k, b, e) = absurd (omega arith)

    none : (v : Value) → GivesValue spoiling_square on_corner 0 0 0 v → ⊥
    none v (tree, (a, b), h) = no_quotient v (subst (λ t. HasValue (reading_at spoiling_square on_corner 0) t v) (sym (only_tree tree (assigned_there spoiling 0 0 tree a))) h)

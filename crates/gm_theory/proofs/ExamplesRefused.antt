-- Rules that a condition refuses, each with its first fault; and a map that a refused rule breaks.
use Rattle.std.proofs.Common.{◌≡◌, ℕ, zero, suc, ◌+◌, ◌<◌, ◌≤◌, Bool, false, ◌⊎◌, IsTrue, List, [], ◌∷◌, codes, ltb, leb, Some, None, slice_get, Contains, refl, sym, ◌∙◌, ap, subst, inl, inr, arith}
use Rattle.std.proofs.lemmas.Bool.{ltb-true, leb-true}
use Rattle.gm_model.specs.declared.rule.RuleFault.TheVariants as faults
use Rattle.gm_model.specs.declared.rule.Side.TheVariants.{Left, Right}
use Rattle.gm_model.specs.declared.rule.Side.{Side}
use Rattle.gm_model.specs.declared.schema.Embed.{Embed}
use Rattle.gm_model.specs.declared.value.Kind.TheVariants as kinds
use Rattle.gm_model.specs.declared.step.Step.TheVariants.{Imp}
use Rattle.gm_model.specs.declared.word.Letter.{Letter}
use Rattle.gm_model.specs.declared.word.Letter.TheVariants.{At}
use Rattle.gm_model.specs.Acceptance.{IsFault, Incidence, Cycle, Embedding}
use Rattle.gm_model.specs.Components.{IsTogether, WereTogether, HasLetterIn, ComesAlong, IsAssigned, HasSource, First, Sourceless, Merged, MergedAlong, Twice}
use Rattle.gm_model.specs.Kinds.{IsTyped, HasKind}
use Rattle.gm_model.specs.Labels.{has}
use Rattle.gm_model.specs.Maps.{IsGeneralised}
use Rattle.gm_model.specs.Rules.{Rule, Assignment, has_word, is_preserved}
use Rattle.gm_model.specs.Squares.{IsSquareGood, IsExcused, ClosesRight, IsSquareBefore, OpenSquare}
use Rattle.gm_model.specs.Structure.{HasIncidence, HasArcs, HasOnce, HasWhereOneSided, arcs_at, BadHooks, OfStructure, OfArcs, AtNode, Missing, AreGood}
use Rattle.gm_model.specs.Trees.{Tree, Count}
use Rattle.gm_model.specs.Unfolding.{scene_of}
use Rattle.gm_theory.proofs.ExamplesChecks.{each}
use Rattle.gm_theory.proofs.ExamplesMatches.{match_shown}
use Rattle.gm_theory.proofs.ExamplesRules.{range_shown, structure_shown, arcs_test, arcs_shown, incidence_shown, squares_shown, square_shown, same_part}
use Rattle.gm_theory.proofs.ExamplesTriangulation.{assigned_there, sets_of, part, part_kept, preserved_first, source_a, source_b, typed, sources}
use Rattle.gm_theory.proofs.ExamplesUnfoldings.{unfolding_shown}
use Rattle.gm_theory.proofs.Lists.{none_some}
use Rattle.gm_theory.proofs.RuleSteps.{word_below}
use Rattle.gm_theory.proofs.Tests.{both_true, not_both}
use Rattle.gm_theory.proofs.ValuesJoined.{joined_here, joined_by_link}
use Rattle.gm_theory.specs.inner.Examples.{planar, polygonal, labels_01, labels_12, points_of_vertices, relabelled, pointless, hookless, unfinished, miscounted, kept_node, closing, merging, contradicting, turning, point_of_a, square, square_walk, on_square, twisted, BreaksMaps}

-- ---- a square that doesn't close

incidence_relabelled : HasIncidence 2 relabelled
incidence_relabelled = incidence_shown 2 relabelled 0 refl refl refl

open_at_b : IsSquareGood relabelled 1 0 2 → ⊥
open_at_b good = go (good refl)
  where
    go : IsExcused relabelled 1 0 2 ⊎ ClosesRight relabelled 1 0 2 → ⊥
    go (inl e) = not_both false e.preserved refl
    go (inr c) = let e : Imp 0 ≡ Imp 1 = c in absurd (cc)

pub square_refused : IsFault planar relabelled (faults.Square 1 0 2)
square_refused = Cycle incidence_relabelled (OpenSquare 1 0 2 record { apart = omega arith; label = omega arith; open_here = open_at_b; before = before })
  where
    before : (y i j : ℕ) → IsSquareBefore y i j 1 0 2 → i + 2 ≤ j → j ≤ 2 → IsSquareGood relabelled y i j
    before y i j (inl b) far h = subst (λ u. IsSquareGood relabelled u i j) (let z : 0 ≡ y = omega arith in z) (subst (λ k. IsSquareGood relabelled 0 k j) (let z : 0 ≡ i = omega arith in z) (subst (λ k. IsSquareGood relabelled 0 0 k) (let z : 2 ≡ j = omega arith in z) (square_shown 2 relabelled 0 0 2 refl)))
    before y i j (inr (inl (e, b))) far h = absurd (omega arith)
    before y i j (inr (inr (e, f, b))) far h = absurd (omega arith)

-- and the map that it would break
pub twisted_shown : BreaksMaps square relabelled (0 ∷ []) on_square twisted
twisted_shown = record {
  in_range = range_shown planar relabelled 0 refl refl refl;
  typed = typed (At 2 ∷ At 1 ∷ []);
  incidence = incidence_relabelled;
  sources = sources (At 2 ∷ At 1 ∷ []);
  found = match_shown square relabelled on_square 0 square_walk refl refl refl refl;
  unfolded = unfolding_shown (scene_of square relabelled on_square) 3 24 twisted.live twisted.alpha 24 (λ d h. let b : d < 8 = ltb-true d 8 h in omega arith) (λ d h. ltb-true d 24 h) (word_below relabelled Left) (word_below relabelled Right) refl refl;
  broken = broken;
}
  where
    broken : IsGeneralised twisted → ⊥
    broken g = let e : Path ℕ 18 17 = g.commutes 8 0 2 refl (omega arith) (omega arith) in omega arith

-- ---- an assignment left out

none_assigned : (e y : ℕ) → IsAssigned pointless e y → ⊥
none_assigned e y (tree, a) = go y (assigned_there pointless y e tree a)
  where
    go : (y : ℕ) → Contains (sets_of pointless y) (record { embed = e; tree = tree }) → ⊥
    go zero (k, b, f) = omega arith
    go (suc zero) (k, b, f) = omega arith
    go (suc (suc zero)) (k, b, f) = omega arith
    go (suc (suc (suc y))) (k, b, f) = omega arith

pub value_refused : IsFault planar pointless (faults.NoValue 0 2)
value_refused = Embedding (incidence_shown 2 pointless 0 refl refl refl) (squares_shown 2 pointless refl) (First 0 points_of_vertices 2 record {
  embed_at = refl;
  leader = (refl, leader);
  here = Sourceless (λ y t a. none_assigned 0 y a) (λ y t p. absurd (let e : 1 ≡ part pointless_word [] y = part_kept pointless_word [] 2 y t in let f : y ≡ 0 = preserved_first pointless_word [] y p in new_apart y e f));
  earlier_embeds = λ e embed h. absurd (omega arith);
  earlier_nodes = earlier;
})
  where
    pointless_word : List Letter
    pointless_word = At 1 ∷ At 2 ∷ []

    new_apart : (y : ℕ) → 1 ≡ part pointless_word [] y → y ≡ 0 → ⊥
    new_apart y e f = let g : Path ℕ 1 0 = e ∙ ap (part pointless_word []) f in omega arith

    leader : (y : ℕ) → y < 2 → IsTogether pointless (has labels_12) y 2 → ⊥
    leader zero h t = let e : Path ℕ 0 1 = part_kept pointless_word [] 0 2 t in omega arith
    leader (suc zero) h t = let e : Path ℕ 0 1 = part_kept pointless_word [] 1 2 t in omega arith
    leader (suc (suc y)) h t = omega arith

    earlier : (y : ℕ) → y < 2 → IsTrue (has_word pointless Right y) → HasSource pointless 0 (has labels_12) y
    earlier zero h r = source_a pointless_word []
    earlier (suc zero) h r = source_b pointless_word []
    earlier (suc (suc y)) h r = absurd (omega arith)

-- ---- a label left out, a hook left out, and a value of another kind

pub arc_refused : IsFault planar unfinished (faults.ArcMissing 1 2)
arc_refused = Incidence (OfArcs (structure_shown 2 unfinished 0 refl refl refl) (AtNode 1 (omega arith) first (Missing 2 left right record { within = omega arith; fails = λ h. let b : 0 < 0 = h.1 refl in omega arith; before = before })))
  where
    first : AreGood (HasArcs 2 unfinished) 1
    first x b = subst (HasArcs 2 unfinished) (let z : 0 ≡ x = omega arith in z) (arcs_shown 2 unfinished 0 (λ i c. each 3 (arcs_test 2 unfinished 0) refl i c))

    left : AreGood (HasOnce unfinished Left 1) 3
    left i b = leb-true _ _ (each 3 (λ k. leb (arcs_at unfinished Left 1 k) 1) refl i b)

    right : AreGood (HasOnce unfinished Right 1) 3
    right i b = leb-true _ _ (each 3 (λ k. leb (arcs_at unfinished Right 1 k) 1) refl i b)

    before : (i : ℕ) → i < 2 → HasWhereOneSided unfinished 1 i
    before i b = ((λ r. not_both false r refl), (λ a. ltb-true _ _ (each 2 (λ k. ltb 0 (arcs_at unfinished Right 1 k)) refl i b)))

pub hook_refused : IsFault planar hookless faults.Hooks
hook_refused = Incidence (OfStructure (BadHooks (λ h. let some : 0 < 0 = h.0 0 refl in omega arith)))

pub kind_refused : IsTyped planar miscounted → ⊥
kind_refused h = let k : HasKind planar miscounted count kinds.Vec3 = h.sets 2 0 count points_of_vertices (record { name = codes "c"; left = None; right = Some (At 1 ∷ At 2 ∷ []); sets = record { embed = 0; tree = count } ∷ [] }, refl, (0, omega arith, refl)) refl in
    let e : Some kinds.Int ≡ Some kinds.Vec3 = k.kind_is in absurd (cc)
  where
    count : Tree
    count = Count labels_01 (record { node = 0; path = [] })

-- ---- components of an edge's ends

abbrev ends : ℕ → Bool
ends = has (record { bits = 2 })

abbrev vertex_points : Embed
vertex_points = record { name = codes "pos"; mask = record { bits = 2 }; kind = kinds.Vec3 }

module _ (a_sets b_sets : List Assignment) where
  abbrev ending : Rule
  ending = closing a_sets b_sets

  -- on the left a and b are apart, on the right together
  together : IsTogether ending ends 0 1
  together = (refl, joined_by_link ending.right_links ends 0 1 1 refl (inl (1, omega arith, refl)))

  apart : WereTogether ending ends 0 1 → ⊥
  apart t = let e : Path ℕ 0 1 = same_part ends (λ x. x) ending.left_links refl 0 1 t.1 in omega arith

pub merge_refused : IsFault polygonal merging (faults.Merge 0 0 1)
merge_refused = Embedding (incidence_shown 1 merging 0 refl refl refl) (squares_shown 1 merging refl) (First 0 vertex_points 0 record {
  embed_at = refl;
  leader = (refl, λ y h t. absurd (omega arith));
  here = Merged 0 1 (λ y t a. unassigned y a) record { together = (refl, joined_here merging.right_links ends 0); preserved = refl; least = λ y h t p. absurd (omega arith) }
      record { together = together [] []; above = apart [] []; has = refl; least = least };
  earlier_embeds = λ e embed h. absurd (omega arith);
  earlier_nodes = λ y h. absurd (omega arith);
})
  where
    unassigned : (y : ℕ) → IsAssigned merging 0 y → ⊥
    unassigned y (tree, a) = go y (assigned_there merging y 0 tree a)
      where
        go : (y : ℕ) → Contains (sets_of merging y) (record { embed = 0; tree = tree }) → ⊥
        go zero (k, b, f) = omega arith
        go (suc zero) (k, b, f) = omega arith
        go (suc (suc y)) (k, b, f) = omega arith

    least : (z : ℕ) → z < 1 → IsTogether merging ends 0 z → (WereTogether merging ends 0 z → ⊥) → IsTrue (is_preserved merging z) → ⊥
    least zero h t above p = above (refl, joined_here merging.left_links ends 0)
    least (suc z) h t above p = omega arith

pub twice_refused : IsFault polygonal contradicting (faults.SetTwice 0 0 1)
twice_refused = Embedding (incidence_shown 1 contradicting 0 refl refl refl) (squares_shown 1 contradicting refl) (First 0 vertex_points 0 record {
  embed_at = refl;
  leader = (refl, λ y h t. absurd (omega arith));
  here = Twice 0 1
      record { together = (refl, joined_here contradicting.right_links ends 0); above = tt; has = assigned (codes "a") 0 refl; least = λ z h t u a. omega arith }
      record { together = together (point_of_a ∷ []) (point_of_a ∷ []); above = omega arith; has = assigned (codes "b") 1 refl; least = λ z h t u a. omega arith };
  earlier_embeds = λ e embed h. absurd (omega arith);
  earlier_nodes = λ y h. absurd (omega arith);
})
  where
    assigned : (name : List ℕ) (x : ℕ) → slice_get contradicting.nodes x ≡ Some (kept_node name [] [] (point_of_a ∷ [])) → IsAssigned contradicting 0 x
    assigned name x at = (point_of_a.tree, (kept_node name [] [] (point_of_a ∷ []), at, (0, omega arith, refl)))

pub along_refused : IsFault polygonal turning (faults.MergeAlong 0 0 0)
along_refused = Embedding (incidence_shown 1 turning 0 refl refl refl) (squares_shown 1 turning refl) (First 0 vertex_points 0 record {
  embed_at = refl;
  leader = (refl, λ y h t. absurd (omega arith));
  here = MergedAlong 0 0 (λ y t a. unassigned y a) record { together = (refl, joined_here turning.right_links ends 0); preserved = refl; least = λ y h t p. absurd (omega arith) }
      (λ y t p. subst (WereTogether turning ends 0) (sym (alone Left y (both_true (has_word turning Left y) (has_word turning Right y) p).0)) (refl, joined_here turning.left_links ends 0))
      record { fails = fails; before = λ m h. absurd (omega arith) };
  earlier_embeds = λ e embed h. absurd (omega arith);
  earlier_nodes = λ y h. absurd (omega arith);
})
  where
    alone : (side : Side) (y : ℕ) → IsTrue (has_word turning side y) → y ≡ 0
    alone side y w = let b : y < 1 = word_below turning side y w in omega arith

    unassigned : (y : ℕ) → IsAssigned turning 0 y → ⊥
    unassigned y (tree, a) = go y (assigned_there turning y 0 tree a)
      where
        go : (y : ℕ) → Contains (sets_of turning y) (record { embed = 0; tree = tree }) → ⊥
        go zero (k, b, f) = omega arith
        go (suc y) (k, b, f) = omega arith

    no_letter : (z : ℕ) → HasLetterIn turning Left ends z 0 → ⊥
    no_letter zero (i, g, h) = let e : 0 ≡ i = cc in not_both false (subst (λ k. IsTrue (ends k)) (sym e) h) refl
    no_letter (suc z) (i, g, h) = none_some (At i) g

    fails : ComesAlong turning ends 0 0 0 → ⊥
    fails c = let there : (z : ℕ) × WereTogether turning ends 0 z × HasLetterIn turning Left ends z 0 = c 0 (refl, joined_here turning.right_links ends 0) (1, refl, refl) in no_letter there.0 there.2

-- The triangulation of a face is accepted, matches a square of eight darts, and its unfolding there is the map of four triangles.
use Rattle.std.proofs.Common.{◌≡◌, ℕ, zero, suc, ◌<◌, false, IsTrue, List, [], ◌∷◌, codes, Contains, Some, None, slice_get, refl, sym, ◌∙◌, ap, subst, inl, inr, arith}
use Rattle.std.proofs.lemmas.Bool.{ltb-true}
use Rattle.std.specs.Option.{option_map_or}
use Rattle.gm_model.specs.declared.rule.Side.TheVariants.{Left, Right}
use Rattle.gm_model.specs.declared.schema.Embed.{Embed}
use Rattle.gm_model.specs.declared.value.Kind.TheVariants as kinds
use Rattle.gm_model.specs.declared.word.Letter.{Letter}
use Rattle.gm_model.specs.declared.word.Letter.TheVariants.{At}
use Rattle.gm_model.specs.Acceptance.{IsAccepted}
use Rattle.gm_model.specs.Components.{IsTogether, WereTogether, HasLetterIn, IsAssigned, IsUnassigned, ComesAlong, HasSource, HasSources}
use Rattle.gm_model.specs.Kinds.{IsTyped, HasKind}
use Rattle.gm_model.specs.Labels.{has}
use Rattle.gm_model.specs.Maps.{IsDart, IsEmbedAt, type_of}
use Rattle.gm_model.specs.Matches.{IsMatch}
use Rattle.gm_model.specs.Rules.{Rule, RuleNode, Assignment, Assigns, has_word, is_preserved, letters}
use Rattle.gm_model.specs.Squares.{HasSquares}
use Rattle.gm_model.specs.Structure.{IsInRange, HasIncidence}
use Rattle.gm_model.specs.Trees.{Tree}
use Rattle.gm_model.specs.Unfolding.{IsUnfolding, scene_of}
use Rattle.gm_theory.proofs.ExamplesMaps.{mask_labels}
use Rattle.gm_theory.proofs.ExamplesMatches.{match_shown}
use Rattle.gm_theory.proofs.ExamplesRules.{range_shown, incidence_shown, squares_shown, same_part}
use Rattle.gm_theory.proofs.ExamplesUnfoldings.{unfolding_shown}
use Rattle.gm_theory.proofs.Lists.{some_same, none_some}
use Rattle.gm_theory.proofs.RuleSteps.{word_below}
use Rattle.gm_theory.proofs.Tests.{not_both}
use Rattle.gm_theory.proofs.ValuesJoined.{joined_here, joined_by_link}
use Rattle.gm_theory.specs.inner.Examples.{planar, labels_01, labels_12, points_of_vertices, centre, triangles, triangulation, square, square_walk, on_square, four_triangles}

-- ---- assignments

-- the assignments of a node
abbrev pub sets_of : Rule → ℕ → List Assignment
sets_of rule x = option_map_or (λ (node : RuleNode). node.sets) (slice_get rule.nodes x) []

pub assigned_there : (rule : Rule) (x e : ℕ) (tree : Tree) → Assigns rule x e tree → Contains (sets_of rule x) (record { embed = e; tree = tree })
assigned_there rule x e tree (node, at, c) = rw at c

-- the only embedding is that of the points
pub only_points : (P : ℕ → Embed → Type 0) → P 0 points_of_vertices → (e : ℕ) (embed : Embed) → IsEmbedAt planar e embed → P e embed
only_points P p zero embed at = subst (P 0) (some_same points_of_vertices embed at) p
only_points P p (suc e) embed at = none_some embed at

-- ---- components: a and b, and c alone

module _ (word : List Letter) (sets : List Assignment) where
  abbrev rule : Rule
  rule = triangles word sets

  abbrev pub part : ℕ → ℕ
  part zero = 0
  part (suc zero) = 0
  part (suc (suc x)) = 1

  pub part_kept : (x y : ℕ) → IsTogether rule (has labels_12) x y → part x ≡ part y
  part_kept x y t = same_part (has labels_12) part rule.right_links refl x y t.1

  pub assigned_new : (e y : ℕ) → IsAssigned rule e y → y ≡ 2
  assigned_new e y (tree, a) = go y (assigned_there rule y e tree a)
    where
      go : (y : ℕ) → Contains (sets_of rule y) (record { embed = e; tree = tree }) → y ≡ 2
      go zero (k, b, f) = absurd (omega arith)
      go (suc zero) (k, b, f) = absurd (omega arith)
      go (suc (suc zero)) c = refl
      go (suc (suc (suc y))) (k, b, f) = absurd (omega arith)

  pub preserved_first : (y : ℕ) → IsTrue (is_preserved rule y) → y ≡ 0
  preserved_first zero h = refl
  preserved_first (suc zero) h = not_both false h refl
  preserved_first (suc (suc zero)) h = not_both false h refl
  preserved_first (suc (suc (suc y))) h = not_both false h refl

  -- where a right letter of the type stands, a has a left one: at the second place, where b has 2 and a had 1
  along : (x m : ℕ) → part x ≡ 0 → ComesAlong rule (has labels_12) x 0 m
  along x m e y t (i, g, h) = go y m (sym (part_kept x y t) ∙ e) g
    where
      go : (y m : ℕ) → part y ≡ 0 → slice_get (letters rule Right y) m ≡ Some (At i) → (z : ℕ) × WereTogether rule (has labels_12) 0 z × HasLetterIn rule Left (has labels_12) z m
      go zero zero f g = let zeroth : i ≡ 0 = cc in not_both false (subst (λ k. IsTrue (has labels_12 k)) zeroth h) refl
      go zero (suc zero) f g = absurd (cc)
      go zero (suc (suc m)) f g = none_some (At i) g
      go (suc zero) zero f g = absurd (cc)
      go (suc zero) (suc zero) f g = (0, (refl, joined_here rule.left_links (has labels_12) 0), (1, refl, refl))
      go (suc zero) (suc (suc m)) f g = none_some (At i) g
      go (suc (suc y)) m f g = absurd (omega arith)

  -- a and b take over the value of a
  pub old_source : (x : ℕ) → part x ≡ 0 → IsTogether rule (has labels_12) x 0 → HasSource rule 0 (has labels_12) x
  old_source x e t = record {
    once = λ y z t' u a b. assigned_new 0 y a ∙ sym (assigned_new 0 z b);
    source = inr (unassigned, (0, record { kept = record { together = t; preserved = refl; least = λ y h k p. absurd (omega arith) }; one = one; along = λ m. along x m e }));
  }
    where
      unassigned : IsUnassigned rule 0 (has labels_12) x
      unassigned y u a = absurd (let f : part x ≡ part 2 = part_kept x y u ∙ ap part (assigned_new 0 y a) in omega arith)

      one : (y : ℕ) → IsTogether rule (has labels_12) x y → IsTrue (is_preserved rule y) → WereTogether rule (has labels_12) 0 y
      one y u p = subst (λ z. WereTogether rule (has labels_12) 0 z) (sym (preserved_first y p)) (refl, joined_here rule.left_links (has labels_12) 0)

  pub source_a : HasSource rule 0 (has labels_12) 0
  source_a = old_source 0 refl (refl, joined_here rule.right_links (has labels_12) 0)

  pub source_b : HasSource rule 0 (has labels_12) 1
  source_b = old_source 1 refl (refl, joined_by_link rule.right_links (has labels_12) 1 1 0 refl (inr (0, omega arith, refl)))

-- where c is assigned, its value is that
module _ (word : List Letter) where
  abbrev pointed : Rule
  pointed = triangles word (record { embed = 0; tree = centre } ∷ [])

  pub assigns_centre : Assigns pointed 2 0 centre
  assigns_centre = (record { name = codes "c"; left = None; right = Some word; sets = record { embed = 0; tree = centre } ∷ [] }, refl, (0, omega arith, refl))

  pub only_centre : (x e : ℕ) (tree : Tree) → Assigns pointed x e tree → (e ≡ 0) × (tree ≡ centre)
  only_centre x e tree a = go x (assigned_there pointed x e tree a)
    where
      go : (x : ℕ) → Contains (sets_of pointed x) (record { embed = e; tree = tree }) → (e ≡ 0) × (tree ≡ centre)
      go zero (k, b, f) = absurd (omega arith)
      go (suc zero) (k, b, f) = absurd (omega arith)
      go (suc (suc zero)) (zero, b, f) = (ap (λ (s : Assignment). s.embed) (sym f), ap (λ (s : Assignment). s.tree) (sym f))
      go (suc (suc zero)) (suc k, b, f) = absurd (omega arith)
      go (suc (suc (suc x))) (k, b, f) = absurd (omega arith)

  pub centre_kind : HasKind planar pointed centre kinds.Vec3
  centre_kind = record {
    in_range = (((λ i h. mask_labels 2 labels_01 i (omega arith) h), record { node = refl; path = tt }, omega arith), ((λ i h. mask_labels 2 labels_01 i (omega arith) h), record { node = refl; path = tt }));
    kind_is = refl;
  }

  pub typed : IsTyped planar pointed
  typed = record {
    pre = λ tree e. none_some tree e;
    sets = λ x e tree embed a at. only_points (λ e' embed'. HasKind planar pointed tree embed'.kind) (subst (λ s. HasKind planar pointed s kinds.Vec3) (sym (only_centre x e tree a).1) centre_kind) e embed at;
  }

  pub source_c : HasSource pointed 0 (has labels_12) 2
  source_c = record {
    once = λ y z t u a b. assigned_new word (record { embed = 0; tree = centre } ∷ []) 0 y a ∙ sym (assigned_new word (record { embed = 0; tree = centre } ∷ []) 0 z b);
    source = inl (2, (refl, joined_here pointed.right_links (has labels_12) 2), (centre, assigns_centre));
  }

  pub sources : HasSources planar pointed
  sources e embed at x r = only_points (λ e' embed'. HasSource pointed e' (type_of embed') x) (go x r) e embed at
    where
      go : (x : ℕ) → IsTrue (has_word pointed Right x) → HasSource pointed 0 (has labels_12) x
      go zero r = source_a word (record { embed = 0; tree = centre } ∷ [])
      go (suc zero) r = source_b word (record { embed = 0; tree = centre } ∷ [])
      go (suc (suc zero)) r = source_c
      go (suc (suc (suc x))) r = not_both false r refl

-- ---- the rule, its match, and its unfolding

pub in_range : IsInRange planar triangulation
in_range = range_shown planar triangulation 0 refl refl refl

pub incidence : HasIncidence 2 triangulation
incidence = incidence_shown 2 triangulation 0 refl refl refl

pub squares : HasSquares 2 triangulation
squares = squares_shown 2 triangulation refl

pub accepted : IsAccepted planar triangulation
accepted = record { in_range = in_range; typed = typed (At 1 ∷ At 2 ∷ []); incidence = incidence; squares = squares; sources = sources (At 1 ∷ At 2 ∷ []) }

pub found : IsMatch square triangulation (0 ∷ []) on_square
found = match_shown square triangulation on_square 0 square_walk refl refl refl refl

pub unfolded : IsUnfolding (scene_of square triangulation on_square) (IsDart four_triangles) four_triangles.alpha four_triangles.next
unfolded = unfolding_shown (scene_of square triangulation on_square) 3 24 four_triangles.live four_triangles.alpha 24
    (λ d h. let b : d < 8 = ltb-true d 8 h in omega arith) (λ d h. ltb-true d 24 h) (word_below triangulation Left) (word_below triangulation Right) refl refl

-- The values of the triangulated square: the new vertex lies in the centre, and all else keeps its points.
use Rattle.std.proofs.Common.{◌≡◌, ◌≢◌, ℕ, zero, suc, ◌+◌, ◌-◌, ◌&&◌, ◌<◌, ◌≤◌, Bool, false, true, ◌⊎◌, pos, IsTrue, List, [], ◌∷◌, length, codes, eqb, ltb, leb, Contains, slice_index, slice_index_or, refl, sym, ◌∙◌, ap, subst, inl, inr, arith}
use Rattle.std.proofs.lemmas.Bool.{eqb-true, eq-eqb, ltb-true, lt-ltb, le-leb, cases_lt, or_parts, and_from}
use Rattle.std.proofs.lemmas.List.{get_or_default}
use Rattle.std.specs.List.{list_all, list_any}
use Rattle.gm_model.specs.declared.schema.Embed.{Embed}
use Rattle.gm_model.specs.declared.value.Kind.TheVariants as kinds
use Rattle.gm_model.specs.declared.value.Value.{Value}
use Rattle.gm_model.specs.declared.value.Value.TheVariants as values
use Rattle.gm_model.specs.declared.word.Letter.TheVariants.{At}
use Rattle.gm_model.specs.Applications.{GivesValue, IsResult, reading_at}
use Rattle.gm_model.specs.Components.{IsKeeper}
use Rattle.gm_model.specs.Expressions.{IsCollected, IsMade, IsSum, IsQuotient}
use Rattle.gm_model.specs.Labels.{has}
use Rattle.gm_model.specs.Maps.{Map, IsDart, IsMap, IsSchema, IsWellEmbedded, IsConstantOnOrbits, IsEmbedAt, type_of}
use Rattle.gm_model.specs.Names.{reserved, IsReserved}
use Rattle.gm_model.specs.NewValues.{IsDecidedBy, IsUndecided, IsValueAfter, Decided, Kept, Added}
use Rattle.gm_model.specs.Orbits.{Labels, IsPathIn, IsInOrbit, IsListOf, HasCount, IsPairBefore, follow}
use Rattle.gm_model.specs.Unfolding.{name_in}
use Rattle.gm_model.specs.Values.{IsValueOf}
use Rattle.gm_theory.proofs.ExamplesChecks.{each_below, each, ◌implies◌, implied, has_number, number_contained}
use Rattle.gm_theory.proofs.ExamplesMaps.{mask_labels, table_test, table_shown, constant_by_steps, is_point, small_fits, point_value, same_point, point_shown}
use Rattle.gm_theory.proofs.ExamplesMatches.{walk_shown}
use Rattle.gm_theory.proofs.ExamplesTriangulation.{only_points, assigned_new, assigns_centre, unfolded}
use Rattle.gm_theory.proofs.Tests.{both_true, not_both}
use Rattle.gm_theory.proofs.ValuesJoined.{joined_by_link}
use Rattle.gm_theory.specs.inner.Examples.{neighbour, planar, labels_01, labels_12, centre, triangulation, square, square_table, square_walk, on_square, corners, four_triangles, triangles_table, triangles_points, triangulating, point, origin, map_of, IsLawfulExample}

-- ---- both maps

abbrev same_bytes : List ℕ → List ℕ → Bool
same_bytes [] [] = true
same_bytes [] (y ∷ ys) = false
same_bytes (x ∷ xs) [] = false
same_bytes (x ∷ xs) (y ∷ ys) = eqb x y && same_bytes xs ys

bytes_same : (xs : List ℕ) → IsTrue (same_bytes xs xs)
bytes_same [] = refl
bytes_same (x ∷ xs) = and_from (eqb x x) (same_bytes xs xs) (eq-eqb x x refl) (bytes_same xs)

-- a name that is none of the words isn't reserved
not_word : (words : List (List ℕ)) (name : List ℕ) → list_any (λ word. same_bytes word name) words ≡ false → Contains words name → ⊥
not_word [] name h (k, b, e) = absurd (omega arith)
not_word (word ∷ words) name h (zero, b, e) = not_both (same_bytes word name) (subst (λ w. IsTrue (same_bytes w name)) (sym e) (bytes_same name)) (or_parts _ _ h).0
not_word (word ∷ words) name h (suc k, b, e) = not_word words name (or_parts _ _ h).1 (k, omega arith, e)

pub only_first : (e : ℕ) (embed : Embed) → IsEmbedAt planar e embed → e ≡ 0
only_first e embed at = only_points (λ e' embed'. e' ≡ 0) refl e embed at

planar_schema : IsSchema planar
planar_schema = record {
  count = omega arith;
  kinds = λ e embed at. only_points (λ e' embed'. embed'.kind ≢ kinds.Bool) (λ f. absurd (cc)) e embed at;
  labels = λ e i embed at h. only_points (λ e' embed'. IsTrue (has embed'.mask i) → i ≤ 2) (λ g. mask_labels 2 labels_12 i (omega arith) g) e embed at h;
  free = λ e embed at. only_points (λ e' embed'. IsReserved embed'.name → ⊥) (not_word reserved (codes "pos") refl) e embed at;
  differ = λ e e' embed embed' at at' f. only_first e embed at ∙ sym (only_first e' embed' at');
}

-- a label of a vertex is 1 or 2, of a test below 3
module _ (table : List (List ℕ)) (points : List Value) where
  abbrev planar_map : Map
  planar_map = map_of planar table points

  abbrev points_test : Bool
  points_test = each_below (length table) (λ d. is_point (slice_index_or points d origin))

  shown_map : IsTrue points_test → IsMap planar_map
  shown_map t = record {
    below = λ d live. ltb-true d (length table) live;
    values = λ e d embed at live. only_points (λ e' embed'. IsValueOf embed'.kind (planar_map.value e' d)) (point_value (slice_index_or points d origin) (each (length table) _ t d (ltb-true d (length table) live))) e embed at;
  }

  abbrev constant_test : Bool
  constant_test = each_below (length table) (λ d. each_below 3 (λ i. has labels_12 i implies (ltb (neighbour table i d) (length table) && same_point (slice_index_or points d origin) (slice_index_or points (neighbour table i d) origin))))

  shown_embedded : IsTrue constant_test → IsWellEmbedded planar_map
  shown_embedded t e embed at = only_points (λ e' embed'. IsConstantOnOrbits (IsDart planar_map) planar_map.alpha (planar_map.value e') (type_of embed')) (constant_by_steps (IsDart planar_map) planar_map.alpha (planar_map.value 0) (has labels_12) along) e embed at
    where
      along : (d i : ℕ) → IsDart planar_map d → IsTrue (has labels_12 i) → IsDart planar_map (neighbour table i d) × (planar_map.value 0 d ≡ planar_map.value 0 (neighbour table i d))
      along d i live h =
          let both : IsTrue (ltb (neighbour table i d) (length table)) × IsTrue (same_point (slice_index_or points d origin) (slice_index_or points (neighbour table i d) origin)) =
          both_true (ltb (neighbour table i d) (length table)) (same_point (slice_index_or points d origin) (slice_index_or points (neighbour table i d) origin))
          (implied (has labels_12 i) (ltb (neighbour table i d) (length table) && same_point (slice_index_or points d origin) (slice_index_or points (neighbour table i d) origin))
          (each 3 (λ i. has labels_12 i implies (ltb (neighbour table i d) (length table) && same_point (slice_index_or points d origin) (slice_index_or points (neighbour table i d) origin)))
          (each (length table) (λ d. each_below 3 (λ i. has labels_12 i implies (ltb (neighbour table i d) (length table) && same_point (slice_index_or points d origin) (slice_index_or points (neighbour table i d) origin)))) t d (ltb-true d (length table) live))
          i (let few : i ≤ 2 = mask_labels 2 labels_12 i (omega arith) h in omega arith)) h) in
          (both.0, point_shown _ _ both.1)

  shown_lawful : IsTrue (table_test planar table points) → IsTrue points_test → IsTrue constant_test → IsLawfulExample planar_map
  shown_lawful a b c = record { schema = planar_schema; sound = record { is_map = shown_map b; generalised = table_shown planar table points a; embedded = shown_embedded c } }

pub square_lawful : IsLawfulExample square
square_lawful = shown_lawful square_table corners refl refl refl

pub four_triangles_lawful : IsLawfulExample four_triangles
four_triangles_lawful = shown_lawful triangles_table triangles_points refl refl refl

-- ---- the centre

abbrev paths : List (List ℕ)
paths = [] ∷ (0 ∷ []) ∷ (0 ∷ 1 ∷ []) ∷ (0 ∷ 1 ∷ 0 ∷ []) ∷ (0 ∷ 1 ∷ 0 ∷ 1 ∷ []) ∷ (1 ∷ 0 ∷ 1 ∷ []) ∷ (1 ∷ 0 ∷ []) ∷ (1 ∷ []) ∷ []

abbrev path_test : Labels → (ℕ → ℕ → ℕ) → List ℕ → ℕ → ℕ → Bool
path_test o alpha path d e = list_all o path && eqb (follow alpha path d) e

path_shown : (o : Labels) (alpha : ℕ → ℕ → ℕ) (path : List ℕ) (d e : ℕ) → IsTrue (path_test o alpha path d e) → IsInOrbit alpha o d e
path_shown o alpha path d e t = (path, labels path (both_true _ _ t).0, eqb-true _ _ (both_true _ _ t).1)
  where
    labels : (path : List ℕ) → IsTrue (list_all o path) → IsPathIn o path
    labels [] h = tt
    labels (i ∷ path) h = let both : IsTrue (o i) × IsTrue (list_all o path) = both_true (o i) (list_all o path) h in (both.0, labels path both.1)

-- the darts of the square are those of its walk
pub walk_is_face : IsListOf (λ d. IsInOrbit square.alpha (has labels_01) 0 d) square_walk
walk_is_face = record {
  distinct = (walk_shown (λ d l. square.alpha l d) 2 square_walk 0 refl refl).distinct;
  same = λ d. (there d, back d);
}
  where
    there : (d : ℕ) → Contains square_walk d → IsInOrbit square.alpha (has labels_01) 0 d
    there d (k, b, e) = subst (λ c. IsInOrbit square.alpha (has labels_01) 0 c) e (subst (λ c. IsInOrbit square.alpha (has labels_01) 0 c) (get_or_default square_walk k 0 d b) (path_shown (has labels_01) square.alpha (slice_index_or paths (slice_index square_walk k) []) 0 (slice_index square_walk k) (each 8 (λ k. path_test (has labels_01) square.alpha (slice_index_or paths (slice_index square_walk k) []) 0 (slice_index square_walk k)) refl k b)))

    back : (d : ℕ) → IsInOrbit square.alpha (has labels_01) 0 d → Contains square_walk d
    back d (path, all, e) = number_contained square_walk d (each 8 (has_number square_walk) refl d (subst (λ c. c < 8) e (stays path 0 (omega arith) all)))
      where
        stays : (path : List ℕ) (c : ℕ) → c < 8 → IsPathIn (has labels_01) path → follow square.alpha path c < 8
        stays [] c b all = b
        stays (i ∷ path) c b all = stays path (square.alpha i c) (ltb-true _ _ (square_lawful.sound.generalised.stays c i (lt-ltb c 8 b) (mask_labels 2 labels_01 i (omega arith) all.0))) all.1

centre_value : GivesValue triangulating on_square 0 2 0 (point 2 2)
centre_value = (centre, (assigns_centre (At 1 ∷ At 2 ∷ []), omega arith), (values.Vec3 (pos 16) (pos 16) (pos 0), values.Int (pos 8), sum, count, quotient))
  where
    sum : IsSum (reading_at triangulating on_square 0) labels_01 (record { node = 0; path = [] }) 0 (values.Vec3 (pos 16) (pos 16) (pos 0))
    sum = (square_walk, walk_is_face, kinds.Vec3, refl, record { numbers = λ f. absurd (cc); is_value = point_value (values.Vec3 (pos 16) (pos 16) (pos 0)) refl; parts_are = refl })

    count : (n : ℕ) × HasCount (IsCollected (reading_at triangulating on_square 0) labels_01 (record { node = 0; path = [] })) n × IsMade kinds.Int (pos n ∷ []) (values.Int (pos 8))
    count = (8, (square_walk, walk_is_face, refl), record { numbers = λ f. absurd (cc); is_value = record { kind_is = refl; range = small_fits (pos 8) refl }; parts_are = refl })

    quotient : IsQuotient (values.Vec3 (pos 16) (pos 16) (pos 0)) (values.Int (pos 8)) (point 2 2)
    quotient = (pos 8, refl, (λ f. absurd (cc)), record { numbers = λ f. absurd (cc); is_value = point_value (point 2 2) refl; parts_are = refl })

-- ---- which darts are decided

-- from an old vertex the labels 1 and 2 lead to old vertices alone
stays_old : (path : List ℕ) (d : ℕ) → d < 16 → IsPathIn (has labels_12) path → follow four_triangles.alpha path d < 16
stays_old [] d b all = b
stays_old (i ∷ path) d b all = stays_old path (four_triangles.alpha i d) (ltb-true _ 16 (implied (has labels_12 i) (ltb (neighbour triangles_table i d) 16) (each 3 (λ j. has labels_12 j implies ltb (neighbour triangles_table j d) 16) (each 16 (λ c. each_below 3 (λ j. has labels_12 j implies ltb (neighbour triangles_table j c) 16)) refl d b) i (let few : i ≤ 2 = mask_labels 2 labels_12 i (omega arith) all.0 in omega arith)) all.0)) all.1

abbrev pub name : ℕ → ℕ → ℕ
name x p = name_in square triangulation on_square x p

pub undecided : (d : ℕ) → d < 16 → IsUndecided square triangulation on_square four_triangles.alpha 0 (has labels_12) d
undecided d b x p (a, c) (path, all, e) = absurd (omega (arith, stays_old path d b all, at))
  where
    at : follow four_triangles.alpha path d ≡ 16 + p
    at = e ∙ ap (λ y. name y p) (assigned_new (At 1 ∷ At 2 ∷ []) (record { embed = 0; tree = centre } ∷ []) 0 x a)

abbrev centre_paths : List (List ℕ)
centre_paths = [] ∷ (1 ∷ []) ∷ (2 ∷ []) ∷ (2 ∷ 1 ∷ []) ∷ (1 ∷ 2 ∷ []) ∷ (1 ∷ 2 ∷ 1 ∷ []) ∷ (2 ∷ 1 ∷ 2 ∷ []) ∷ (1 ∷ 2 ∷ 1 ∷ 2 ∷ []) ∷ []

pub decided : (d : ℕ) → 16 ≤ d → d < 24 → IsDecidedBy square triangulation on_square four_triangles.alpha 0 (has labels_12) d 2 0
decided d b c = record {
  assigned = ((centre, assigns_centre (At 1 ∷ At 2 ∷ [])), omega arith);
  lies = path_shown (has labels_12) four_triangles.alpha (slice_index_or centre_paths (d - 16) []) d 16 (implied (leb 16 d) _ (each 24 (λ k. leb 16 k implies path_test (has labels_12) four_triangles.alpha (slice_index_or centre_paths (k - 16) []) k 16) refl d c) (le-leb 16 d b));
  least = λ y q before a lies. least y q before (assigned_new (At 1 ∷ At 2 ∷ []) (record { embed = 0; tree = centre } ∷ []) 0 y a.0);
}
  where
    least : (y q : ℕ) → IsPairBefore y q 2 0 → y ≡ 2 → ⊥
    least y q (inl h) e = omega arith
    least y q (inr (f, h)) e = omega arith

-- ---- the values

old_value : (d : ℕ) → d < 8 → four_triangles.value 0 d ≡ square.value 0 d
old_value d b = point_shown _ _ (each 8 (λ c. same_point (four_triangles.value 0 c) (square.value 0 c)) refl d b)

new_value : (p : ℕ) → p < 8 → four_triangles.value 0 (8 + p) ≡ square.value 0 (on_square.dart_of 0 p)
new_value p b = point_shown _ _ (each 8 (λ q. same_point (four_triangles.value 0 (8 + q)) (square.value 0 (on_square.dart_of 0 q))) refl p b)

keeper : IsKeeper triangulation (has labels_12) 1 0
keeper = record { together = (refl, joined_by_link triangulation.right_links (has labels_12) 1 1 0 refl (inr (0, omega arith, refl))); preserved = refl; least = λ y h t p. absurd (omega arith) }

value_at : (d : ℕ) → d < 24 → IsValueAfter square triangulation on_square four_triangles.alpha 0 (has labels_12) (GivesValue triangulating on_square 0) d (four_triangles.value 0 d)
value_at d b = go (cases_lt d 8) (cases_lt d 16)
  where
    go : (d < 8) ⊎ (8 ≤ d) → (d < 16) ⊎ (16 ≤ d) → IsValueAfter square triangulation on_square four_triangles.alpha 0 (has labels_12) (GivesValue triangulating on_square 0) d (four_triangles.value 0 d)
    go (inl h) side = Kept (undecided d (omega arith)) (lt-ltb d 8 h) (old_value d h)
    go (inr h) (inl k) =
        let at : d ≡ 8 + (d - 8) = omega arith in
        Added 1 (d - 8) 0 (undecided d k) refl (omega arith) at keeper (ap (four_triangles.value 0) at ∙ new_value (d - 8) (omega arith))
    go (inr h) (inr k) = Decided 2 0 (decided d k b) (subst (GivesValue triangulating on_square 0 2 0) (sym (point_shown _ _ (implied (leb 16 d) _ (each 24 (λ c. leb 16 c implies same_point (four_triangles.value 0 c) (point 2 2)) refl d b) (le-leb 16 d k)))) centre_value)

pub triangulated : IsResult triangulating on_square four_triangles
triangulated = record {
  schema = refl;
  unfolded = unfolded;
  values = λ e d embed at live. only_points (λ e' embed'. IsValueAfter square triangulation on_square four_triangles.alpha e' (type_of embed') (GivesValue triangulating on_square e') d (four_triangles.value e' d)) (value_at d (ltb-true d 24 live)) e embed at;
}

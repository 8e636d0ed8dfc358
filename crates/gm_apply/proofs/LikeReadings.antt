-- An expression has the same values, and takes the same units, wherever it reads the same darts, neighbours, values and parameters.
use Rattle.std.proofs.Common.{◌≡◌, ℕ, true, false, suc, ◌+◌, ◌<◌, ◌≤◌, ℤ, inl, inr, ◌↔◌, ◌==◌, List, [], ◌∷◌, length, map, Some, slice_get, IsTrue, refl, sym, ap, ap₂, subst, ◌∙◌, arith}
use Rattle.std.specs.List.{AllByRecursion, Contains}
use Rattle.gm_model.specs.declared.expr.DartTerm.{DartTerm}
use Rattle.gm_model.specs.declared.rule.Side.TheVariants.{Left}
use Rattle.gm_model.specs.declared.schema.Schema.{Schema}
use Rattle.gm_model.specs.declared.value.Value.{Value}
use Rattle.gm_model.specs.declared.value.Value.TheVariants as values
use Rattle.gm_model.specs.declared.word.Mask.{Mask}
use Rattle.gm_model.specs.Expressions.{Reading, HasValue, HasNoValue, HasUnits, IsCollected, IsSum, IsFirstOf, IsMade, components, dart_at, path_units, total}
use Rattle.gm_model.specs.Kinds.{IsTermInRange, IsMaskInRange, IsTreeInRange, sum_kind}
use Rattle.gm_model.specs.Labels.{has}
use Rattle.gm_model.specs.Maps.{IsDart, dimension}
use Rattle.gm_model.specs.Orbits.{IsListOf, HasCount, follow}
use Rattle.gm_model.specs.Rules.{Rule, has_word}
use Rattle.gm_model.specs.Trees.{Tree, Number, Truth, Param, Field, Same, Count, Sum, Least, Greatest, Unary, Binary, If, MakeVec2, MakeVec3, MakeRgb}
use Rattle.gm_model.specs.Values.{kind_of}
use Rattle.gm_theory.specs.inner.Readings.{IsReadingOf}
use Rattle.gm_theory.proofs.ReadingsTyped.{term_live, collected_live}
use Rattle.gm_apply.proofs.LikeOrbits.{labels_low, follow_same}

-- Both are readings of the rule's expressions. They have the same darts, with the same neighbours and values, each
-- left node lies at the same dart, and the parameters have the same values.
pub record AreLikeReadings (rule : Rule) (r s : Reading) : Type 0 where
  pub first : IsReadingOf rule r
  pub second : IsReadingOf rule s
  pub schema : r.map.schema ≡ s.map.schema
  pub darts : (d : ℕ) → IsDart r.map d ↔ IsDart s.map d
  pub arcs : (d i : ℕ) → IsDart r.map d → i ≤ dimension r.map → r.map.alpha i d ≡ s.map.alpha i d
  pub values : (e d : ℕ) → e < length r.map.schema.embeds → IsDart r.map d → r.map.value e d ≡ s.map.value e d
  pub places : (x : ℕ) → IsTrue (has_word rule Left x) → r.place.dart_of x r.position ≡ s.place.dart_of x s.position
  pub params : r.params ≡ s.params

pub readings_back : (rule : Rule) (r s : Reading) → AreLikeReadings rule r s → AreLikeReadings rule s r
readings_back rule r s like = record {
  first = like.second;
  second = like.first;
  schema = sym like.schema;
  darts = λ d. ((like.darts d).1, (like.darts d).0);
  arcs = λ d i live h. sym (like.arcs d i ((like.darts d).1 live) (subst (λ (t : Schema). i ≤ t.dim) (sym like.schema) h));
  values = λ e d h live. sym (like.values e d (subst (λ (t : Schema). e < length t.embeds) (sym like.schema) h) ((like.darts d).1 live));
  places = λ x left. sym (like.places x left);
  params = sym like.params;
}

module _ (rule : Rule) (r s : Reading) (like : AreLikeReadings rule r s) where
  -- ---- darts

  path_same : (path : List ℕ) (d : ℕ) → AllByRecursion (λ i. i ≤ dimension r.map) path → IsDart r.map d → follow r.map.alpha path d ≡ follow s.map.alpha path d
  path_same = follow_same (dimension r.map) (IsDart r.map) r.map.alpha s.map.alpha like.first.stays like.arcs

  term_same : (term : DartTerm) → IsTermInRange r.map.schema rule term → dart_at r term ≡ dart_at s term
  term_same term h = path_same term.path (r.place.dart_of term.node r.position) h.path (like.first.darts term.node h.node) ∙ ap (follow s.map.alpha term.path) (like.places term.node h.node)

  pub collected_there : (mask : Mask) (term : DartTerm) (d : ℕ) → IsMaskInRange r.map.schema rule mask → IsTermInRange r.map.schema rule term → IsCollected r mask term d → IsCollected s mask term d
  collected_there mask term d low h (path, all, e) =
      (path, all, ap (follow s.map.alpha path) (sym (term_same term h)) ∙ sym (path_same path (dart_at r term) (labels_low (dimension r.map) (has mask) low path all) (term_live rule r like.first term h)) ∙ e)

  value_same : (e d : ℕ) → e < length r.map.schema.embeds → (d' : ℕ) → d ≡ d' → IsDart r.map d → r.map.value e d ≡ s.map.value e d'
  value_same e d within d' same live = like.values e d within live ∙ ap (s.map.value e) same

module _ (rule : Rule) (r s : Reading) (like : AreLikeReadings rule r s) where
  back : AreLikeReadings rule s r
  back = readings_back rule r s like

  -- ---- orbits

  mask_there : (mask : Mask) → IsMaskInRange r.map.schema rule mask → IsMaskInRange s.map.schema rule mask
  mask_there mask low = subst (λ t. IsMaskInRange t rule mask) like.schema low

  term_there : (term : DartTerm) → IsTermInRange r.map.schema rule term → IsTermInRange s.map.schema rule term
  term_there term h = subst (λ t. IsTermInRange t rule term) like.schema h

  module _ (mask : Mask) (term : DartTerm) (low : IsMaskInRange r.map.schema rule mask) (h : IsTermInRange r.map.schema rule term) where
    collected_back : (d : ℕ) → IsCollected s mask term d → IsCollected r mask term d
    collected_back d c = collected_there rule s r back mask term d (mask_there mask low) (term_there term h) c

    listed_there : (darts : List ℕ) → IsListOf (IsCollected r mask term) darts → IsListOf (IsCollected s mask term) darts
    listed_there darts list = record { distinct = list.distinct; same = λ d. (λ c. collected_there rule r s like mask term d low h ((list.same d).0 c), λ c. (list.same d).1 (collected_back d c)) }

    counted_there : (count : ℕ) → HasCount (IsCollected r mask term) count → HasCount (IsCollected s mask term) count
    counted_there count (darts, list, long) = (darts, listed_there darts list, long)

    units_counted : (u : ℕ) → (count : ℕ) × HasCount (IsCollected r mask term) count × (u ≡ path_units r term + count) → (count : ℕ) × HasCount (IsCollected s mask term) count × (u ≡ path_units s term + count)
    units_counted u (count, counted, e) = (count, counted_there count counted, e)

    live_there : (d : ℕ) → IsCollected r mask term d → IsDart r.map d
    live_there d c = collected_live rule r like.first mask term d low h c

    -- the components that are summed up
    parts_same : (e : ℕ) → e < length r.map.schema.embeds → (darts : List ℕ) → ((d : ℕ) → Contains darts d → IsDart r.map d) → map (λ d. components (r.map.value e d)) darts ≡ map (λ d. components (s.map.value e d)) darts
    parts_same e within [] live = refl
    parts_same e within (d ∷ darts) live =
        ap₂ (λ (x : List ℤ) xs. x ∷ xs) (ap components (like.values e d within (live d (0, omega arith, refl))))
        (parts_same e within darts (λ d' c. live d' (suc c.0, (let less = c.1 in omega (arith, less)), c.2)))

    sum_there : (e : ℕ) (v : Value) → e < length r.map.schema.embeds → IsSum r mask term e v → IsSum s mask term e v
    sum_there e v within (darts, list, kind, of_kind, made) = (
      darts,
      listed_there darts list,
      kind,
      ap (λ w. sum_kind (kind_of w)) (sym (value_same rule r s like e (dart_at r term) within (dart_at s term) (term_same rule r s like term h) (term_live rule r like.first term h))) ∙ of_kind,
      subst (λ parts. IsMade kind (total parts) v) (parts_same e within darts (λ d c. live_there d ((list.same d).0 c))) made,
    )

    first_there : (before : ℤ → ℤ → Type 0) (e : ℕ) (v : Value) → e < length r.map.schema.embeds → IsFirstOf r before mask term e v → IsFirstOf s before mask term e v
    first_there before e v within (x, is, (d, c, at), all) = (
      x,
      is,
      (d, collected_there rule r s like mask term d low h c, sym (like.values e d within (live_there d c)) ∙ at),
      λ d' y c' at'. all d' y (collected_back d' c') (like.values e d' within (live_there d' (collected_back d' c')) ∙ at'),
    )

  -- ---- values

  pub value_there : (tree : Tree) (v : Value) → IsTreeInRange r.map.schema rule tree → HasValue r tree v → HasValue s tree v
  value_there (Number n) v h is = is
  value_there (Truth b) v h is = is
  value_there (Param k) v h is = subst (λ params. slice_get params k ≡ Some v) like.params is
  value_there (Field d e) v h is = is ∙ value_same rule r s like e (dart_at r d) h.1 (dart_at s d) (term_same rule r s like d h.0) (term_live rule r like.first d h.0)
  value_there (Same d d') v h is = is ∙ ap₂ (λ a b. values.Bool (a == b)) (term_same rule r s like d h.0) (term_same rule r s like d' h.1)
  value_there (Count o d) v h (count, counted, made) = (count, counted_there o d h.0 h.1 count counted, made)
  value_there (Sum o d e) v h is = sum_there o d h.0 h.1 e v h.2 is
  value_there (Least o d e) v h is = first_there o d h.0 h.1 _ e v h.2 is
  value_there (Greatest o d e) v h is = first_there o d h.0 h.1 _ e v h.2 is
  value_there (Unary op a) v h (x, is, u) = (x, value_there a x h is, u)
  value_there (Binary op a b) v h (x, y, is, is', u) = (x, y, value_there a x h.0 is, value_there b y h.1 is', u)
  value_there (If c a b) v h (inl (t, is)) = inl (value_there c (values.Bool true) h.0 t, value_there a v h.1 is)
  value_there (If c a b) v h (inr (t, is)) = inr (value_there c (values.Bool false) h.0 t, value_there b v h.2 is)
  value_there (MakeVec2 a b) v h (x, y, is, is', made) = (x, y, value_there a (values.Int x) h.0 is, value_there b (values.Int y) h.1 is', made)
  value_there (MakeVec3 a b c) v h (x, y, z, is, is', is'', made) = (x, y, z, value_there a (values.Int x) h.0 is, value_there b (values.Int y) h.1 is', value_there c (values.Int z) h.2 is'', made)
  value_there (MakeRgb a b c) v h (x, y, z, is, is', is'', made) = (x, y, z, value_there a (values.Int x) h.0 is, value_there b (values.Int y) h.1 is', value_there c (values.Int z) h.2 is'', made)

module _ (rule : Rule) (r s : Reading) (like : AreLikeReadings rule r s) where
  tree_there : (tree : Tree) → IsTreeInRange r.map.schema rule tree → IsTreeInRange s.map.schema rule tree
  tree_there tree h = subst (λ t. IsTreeInRange t rule tree) like.schema h

  pub no_value_there : (tree : Tree) → IsTreeInRange r.map.schema rule tree → HasNoValue r tree → HasNoValue s tree
  no_value_there tree h none v is = none v (value_there rule s r (readings_back rule r s like) tree v (tree_there tree h) is)

  -- ---- units

  pub units_there : (tree : Tree) (u : ℕ) → IsTreeInRange r.map.schema rule tree → HasUnits r tree u → HasUnits s tree u
  units_there (Number n) u h is = is
  units_there (Truth b) u h is = is
  units_there (Param k) u h is = is
  units_there (Field d e) u h is = is
  units_there (Same d d') u h is = is
  units_there (Count o d) u h is = units_counted rule r s like o d h.0 h.1 u is
  units_there (Sum o d e) u h is = units_counted rule r s like o d h.0 h.1 u is
  units_there (Least o d e) u h is = units_counted rule r s like o d h.0 h.1 u is
  units_there (Greatest o d e) u h is = units_counted rule r s like o d h.0 h.1 u is
  units_there (Unary op a) u h is = units_there a u h is
  units_there (Binary op a b) u h (m, n, is, is', e) = (m, n, units_there a m h.0 is, units_there b n h.1 is', e)
  units_there (If c a b) u h (m, n, is, inl (t, is'), e) = (m, n, units_there c m h.0 is, inl (value_there rule r s like c (values.Bool true) h.0 t, units_there a n h.1 is'), e)
  units_there (If c a b) u h (m, n, is, inr (inl (t, is')), e) = (m, n, units_there c m h.0 is, inr (inl (value_there rule r s like c (values.Bool false) h.0 t, units_there b n h.2 is')), e)
  units_there (If c a b) u h (m, n, is, inr (inr (none, z)), e) = (m, n, units_there c m h.0 is, inr (inr (no_value_there c h.0 none, z)), e)
  units_there (MakeVec2 a b) u h (m, n, is, is', e) = (m, n, units_there a m h.0 is, units_there b n h.1 is', e)
  units_there (MakeVec3 a b c) u h (m, n, o, is, is', is'', e) = (m, n, o, units_there a m h.0 is, units_there b n h.1 is', units_there c o h.2 is'', e)
  units_there (MakeRgb a b c) u h (m, n, o, is, is', is'', e) = (m, n, o, units_there a m h.0 is, units_there b n h.1 is', units_there c o h.2 is'', e)

-- Reading a typed expression takes one number of units.
use Rattle.std.proofs.Common.{◌≡◌, ℕ, ◌+◌, ◌⊎◌, Bool, true, false, Some, refl, sym, ◌∙◌, ap, subst, inl, inr, arith}
use Rattle.gm_model.specs.declared.expr.DartTerm.{DartTerm}
use Rattle.gm_model.specs.declared.value.Kind.{Kind}
use Rattle.gm_model.specs.declared.value.Kind.TheVariants as kinds
use Rattle.gm_model.specs.declared.value.Value.{Value}
use Rattle.gm_model.specs.declared.value.Value.TheVariants as values
use Rattle.gm_model.specs.declared.word.Mask.{Mask}
use Rattle.gm_model.specs.Expressions.{Reading, HasValue, HasNoValue, HasUnits, IsCollected, path_units}
use Rattle.gm_model.specs.Kinds.{binary_kind, unary_kind, choice_kind, of_ints, triple_kind, IsTermInRange, IsMaskInRange, IsTreeInRange, AreGoodParams}
use Rattle.gm_model.specs.Orbits.{HasCount}
use Rattle.gm_model.specs.Rules.{Rule}
use Rattle.gm_model.specs.Trees.{Tree, Number, Truth, Param, Field, Same, Count, Sum, Least, Greatest, Unary, Binary, If, MakeVec2, MakeVec3, MakeRgb}
use Rattle.gm_model.specs.Values.{IsValueOf, kind_of}
use Rattle.gm_theory.proofs.OperatorsDecided.{IsFoundOrNone, truth_or_not}
use Rattle.gm_theory.proofs.ReadingsDecided.{counted, decide_value, not_both_truths}
use Rattle.gm_theory.proofs.ReadingsTyped.{typed, kind_in, then_some, of_two, of_three, choice_truth}
use Rattle.gm_theory.proofs.ValuesUnique.{one_value, one_count}
use Rattle.gm_theory.specs.inner.Readings.{IsReadingOf, ReadingsAreDetermined}

-- ---- one number of units

module _ (reading : Reading) where
  same_count : (mask : Mask) (term : DartTerm) (u u' : ℕ) → (count : ℕ) × HasCount (IsCollected reading mask term) count × (u ≡ path_units reading term + count) → (count : ℕ) × HasCount (IsCollected reading mask term) count × (u' ≡ path_units reading term + count) → u ≡ u'
  same_count mask term u u' (m, h, e) (n, k, f) = let same : m ≡ n = one_count (IsCollected reading mask term) m n h k in omega arith

  one_number : (tree : Tree) (u u' : ℕ) → HasUnits reading tree u → HasUnits reading tree u' → u ≡ u'
  one_number (Number n) u u' h k = h ∙ sym k
  one_number (Truth b) u u' h k = h ∙ sym k
  one_number (Param i) u u' h k = h ∙ sym k
  one_number (Field d e) u u' h k = h ∙ sym k
  one_number (Same d d') u u' h k = h ∙ sym k
  one_number (Count o d) u u' h k = same_count o d u u' h k
  one_number (Sum o d e) u u' h k = same_count o d u u' h k
  one_number (Least o d e) u u' h k = same_count o d u u' h k
  one_number (Greatest o d e) u u' h k = same_count o d u u' h k
  one_number (Unary op a) u u' h k = one_number a u u' h k
  one_number (Binary op a b) u u' (s, t, h, i, e) (s', t', h', i', e') = let f : s ≡ s' = one_number a s s' h h' in let g : t ≡ t' = one_number b t t' i i' in omega arith
  one_number (If c a b) u u' (s, t, h, side, e) (s', t', h', side', e') = let f : s ≡ s' = one_number c s s' h h' in let g : t ≡ t' = go side side' (λ i i'. one_number a t t' i i') (λ i i'. one_number b t t' i i') in omega arith
    where
      go : (HasValue reading c (values.Bool true) × HasUnits reading a t) ⊎ (HasValue reading c (values.Bool false) × HasUnits reading b t) ⊎ (HasNoValue reading c × (t ≡ 0)) →
          (HasValue reading c (values.Bool true) × HasUnits reading a t') ⊎ (HasValue reading c (values.Bool false) × HasUnits reading b t') ⊎ (HasNoValue reading c × (t' ≡ 0)) →
          (HasUnits reading a t → HasUnits reading a t' → t ≡ t') → (HasUnits reading b t → HasUnits reading b t' → t ≡ t') → t ≡ t'
      go (inl (v, i)) (inl (v', i')) left right = left i i'
      go (inr (inl (v, i))) (inr (inl (v', i'))) left right = right i i'
      go (inr (inr (n, i))) (inr (inr (n', i'))) left right = i ∙ sym i'
      go (inl (v, i)) (inr (inl (v', i'))) left right = absurd (not_both_truths reading c v v')
      go (inl (v, i)) (inr (inr (n', i'))) left right = absurd (n' (values.Bool true) v)
      go (inr (inl (v, i))) (inl (v', i')) left right = absurd (not_both_truths reading c v' v)
      go (inr (inl (v, i))) (inr (inr (n', i'))) left right = absurd (n' (values.Bool false) v)
      go (inr (inr (n, i))) (inl (v', i')) left right = absurd (n (values.Bool true) v')
      go (inr (inr (n, i))) (inr (inl (v', i'))) left right = absurd (n (values.Bool false) v')
  one_number (MakeVec2 a b) u u' (s, t, h, i, e) (s', t', h', i', e') = let f : s ≡ s' = one_number a s s' h h' in let g : t ≡ t' = one_number b t t' i i' in omega arith
  one_number (MakeVec3 a b c) u u' (s, t, w, h, i, j, e) (s', t', w', h', i', j', e') = let f : s ≡ s' = one_number a s s' h h' in let g : t ≡ t' = one_number b t t' i i' in let k : w ≡ w' = one_number c w w' j j' in omega arith
  one_number (MakeRgb a b c) u u' (s, t, w, h, i, j, e) (s', t', w', h', i', j', e') = let f : s ≡ s' = one_number a s s' h h' in let g : t ≡ t' = one_number b t t' i i' in let k : w ≡ w' = one_number c w w' j j' in omega arith

-- ---- there is one

module _ (rule : Rule) (reading : Reading) (good : IsReadingOf rule reading) (params : AreGoodParams rule reading.params) where
  abbrev pub IsTypedTree : Tree → Type 0
  IsTypedTree tree = IsTreeInRange reading.map.schema rule tree × ((kind : Kind) × (kind_in rule reading good tree ≡ Some kind))

  collected_units : (mask : Mask) (term : DartTerm) → IsMaskInRange reading.map.schema rule mask → IsTermInRange reading.map.schema rule term → (u : ℕ) × ((count : ℕ) × HasCount (IsCollected reading mask term) count × (u ≡ path_units reading term + count))
  collected_units mask term m r = let c : (count : ℕ) × HasCount (IsCollected reading mask term) count = counted rule reading good mask term m r in (path_units reading term + c.0, (c.0, c.1, refl))

  choice_units : (c a b : Tree) → IsFoundOrNone (HasValue reading c) → ((v : Value) → HasValue reading c v → IsValueOf kinds.Bool v) → (u : ℕ) × HasUnits reading c u → (u : ℕ) × HasUnits reading a u → (u : ℕ) × HasUnits reading b u → (u : ℕ) × HasUnits reading (If c a b) u
  choice_units c a b (inr none) truth (s, h) found found' = (s + 0, (s, 0, h, inr (inr (none, refl)), refl))
  choice_units c a b (inl (v, k)) truth (s, h) (t, i) (t', i') = go (truth_or_not v)
    where
      go : ((w : Bool) × (v ≡ values.Bool w)) ⊎ ((w : Bool) → v ≡ values.Bool w → ⊥) → (u : ℕ) × HasUnits reading (If c a b) u
      go (inl (true, e)) = (s + t, (s, t, h, inl (subst (HasValue reading c) e k, i), refl))
      go (inl (false, e)) = (s + t', (s, t', h, inr (inl (subst (HasValue reading c) e k, i')), refl))
      go (inr other) = absurd (no_other v (truth v k).kind_is other)
        where
          no_other : (v : Value) → kind_of v ≡ kinds.Bool → ((w : Bool) → v ≡ values.Bool w → ⊥) → ⊥
          no_other (values.Bool w) e none = none w refl
          no_other v e none = absurd (cc)

  pub has_units : (tree : Tree) → IsTypedTree tree → (u : ℕ) × HasUnits reading tree u
  has_units (Number n) t = (0, refl)
  has_units (Truth b) t = (0, refl)
  has_units (Param k) t = (0, refl)
  has_units (Field d e) t = (path_units reading d + 1, refl)
  has_units (Same d d') t = (path_units reading d + path_units reading d', refl)
  has_units (Count o d) (r, k) = collected_units o d r.0 r.1
  has_units (Sum o d e) (r, k) = collected_units o d r.0 r.1
  has_units (Least o d e) (r, k) = collected_units o d r.0 r.1
  has_units (Greatest o d e) (r, k) = collected_units o d r.0 r.1
  has_units (Unary op a) (r, (kind, e)) = let p : (i : Kind) × (kind_in rule reading good a ≡ Some i) × (unary_kind op i ≡ Some kind) = then_some (unary_kind op) (kind_in rule reading good a) kind e in has_units a (r, (p.0, p.1))
  has_units (Binary op a b) (r, (kind, e)) =
      let p : (i : Kind) × (j : Kind) × (kind_in rule reading good a ≡ Some i) × (kind_in rule reading good b ≡ Some j) × (binary_kind op i j ≡ Some kind) = of_two (binary_kind op) (kind_in rule reading good a) (kind_in rule reading good b) kind e in
      two (has_units a (r.0, (p.0, p.2))) (has_units b (r.1, (p.1, p.3)))
    where
      two : (u : ℕ) × HasUnits reading a u → (u : ℕ) × HasUnits reading b u → (u : ℕ) × HasUnits reading (Binary op a b) u
      two (s, h) (t, k) = (s + t, (s, t, h, k, refl))
  has_units (If c a b) (r, (kind, e)) =
      let p : (i : Kind) × (j : Kind) × (k : Kind) × (kind_in rule reading good c ≡ Some i) × (kind_in rule reading good a ≡ Some j) × (kind_in rule reading good b ≡ Some k) × (choice_kind i j k ≡ Some kind) = of_three choice_kind (kind_in rule reading good c) (kind_in rule reading good a) (kind_in rule reading good b) kind e in
      choice_units c a b (decide_value rule reading good c r.0) (λ v h. typed rule reading good params c kinds.Bool v r.0 (p.3 ∙ ap Some (choice_truth p.0 p.1 p.2 kind p.6)) h)
      (has_units c (r.0, (p.0, p.3))) (has_units a (r.1, (p.1, p.4))) (has_units b (r.2, (p.2, p.5)))
  has_units (MakeVec2 a b) (r, (kind, e)) =
      let p : (i : Kind) × (j : Kind) × (kind_in rule reading good a ≡ Some i) × (kind_in rule reading good b ≡ Some j) × (of_ints kinds.Vec2 i j ≡ Some kind) = of_two (of_ints kinds.Vec2) (kind_in rule reading good a) (kind_in rule reading good b) kind e in
      two (has_units a (r.0, (p.0, p.2))) (has_units b (r.1, (p.1, p.3)))
    where
      two : (u : ℕ) × HasUnits reading a u → (u : ℕ) × HasUnits reading b u → (u : ℕ) × HasUnits reading (MakeVec2 a b) u
      two (s, h) (t, k) = (s + t, (s, t, h, k, refl))
  has_units (MakeVec3 a b c) (r, (kind, e)) =
      let p : (i : Kind) × (j : Kind) × (k : Kind) × (kind_in rule reading good a ≡ Some i) × (kind_in rule reading good b ≡ Some j) × (kind_in rule reading good c ≡ Some k) × (triple_kind kinds.Vec3 i j k ≡ Some kind) = of_three (triple_kind kinds.Vec3) (kind_in rule reading good a) (kind_in rule reading good b) (kind_in rule reading good c) kind e in
      three (has_units a (r.0, (p.0, p.3))) (has_units b (r.1, (p.1, p.4))) (has_units c (r.2, (p.2, p.5)))
    where
      three : (u : ℕ) × HasUnits reading a u → (u : ℕ) × HasUnits reading b u → (u : ℕ) × HasUnits reading c u → (u : ℕ) × HasUnits reading (MakeVec3 a b c) u
      three (s, h) (t, k) (w, l) = (s + t + w, (s, t, w, h, k, l, refl))
  has_units (MakeRgb a b c) (r, (kind, e)) =
      let p : (i : Kind) × (j : Kind) × (k : Kind) × (kind_in rule reading good a ≡ Some i) × (kind_in rule reading good b ≡ Some j) × (kind_in rule reading good c ≡ Some k) × (triple_kind kinds.Rgb i j k ≡ Some kind) = of_three (triple_kind kinds.Rgb) (kind_in rule reading good a) (kind_in rule reading good b) (kind_in rule reading good c) kind e in
      three (has_units a (r.0, (p.0, p.3))) (has_units b (r.1, (p.1, p.4))) (has_units c (r.2, (p.2, p.5)))
    where
      three : (u : ℕ) × HasUnits reading a u → (u : ℕ) × HasUnits reading b u → (u : ℕ) × HasUnits reading c u → (u : ℕ) × HasUnits reading (MakeRgb a b c) u
      three (s, h) (t, k) (w, l) = (s + t + w, (s, t, w, h, k, l, refl))

pub readings_are_determined : ReadingsAreDetermined
readings_are_determined rule reading tree kind good params has_kind = record {
  has_value_or_none = decide_value rule reading good tree has_kind.in_range;
  one_value = one_value reading tree;
  has_units = has_units rule reading good params tree (has_kind.in_range, (kind, has_kind.kind_is));
  one_number = one_number reading tree;
}

-- A typed expression has a value where it is read, or none, and reading it takes one number of units.
use Rattle.std.proofs.Common.{◌≡◌, ℕ, ◌<◌, ◌≤◌, ◌⊎◌, ℤ, pos, negsuc, ◌≤ℤ◌, Bool, true, false, List, [], ◌∷◌, map, length, Option, Some, None, slice_get, eqb, refl, sym, ◌∙◌, ap, ap₂, subst, inl, inr, arith}
use Rattle.std.proofs.lemmas.Bool.{cases_lt}
use Rattle.std.proofs.lemmas.Int.{ints}
use Rattle.gm_model.specs.declared.expr.DartTerm.{DartTerm}
use Rattle.gm_model.specs.declared.schema.Schema.{Schema}
use Rattle.gm_model.specs.declared.value.Kind.{Kind}
use Rattle.gm_model.specs.declared.value.Kind.TheVariants as kinds
use Rattle.gm_model.specs.declared.value.Value.{Value}
use Rattle.gm_model.specs.declared.value.Value.TheVariants as values
use Rattle.gm_model.specs.declared.word.Mask.{Mask}
use Rattle.gm_model.specs.Expressions.{Reading, HasValue, IsMade, IsUnary, IsBinary, IsSum, IsFirstOf, IsCollected, components, total, dart_at}
use Rattle.gm_model.specs.Kinds.{sum_kind, IsTermInRange, IsMaskInRange, IsTreeInRange}
use Rattle.gm_model.specs.Labels.{has}
use Rattle.gm_model.specs.Maps.{IsDart}
use Rattle.gm_model.specs.Orbits.{IsListOf, HasCount}
use Rattle.gm_model.specs.Rules.{Rule}
use Rattle.gm_model.specs.Trees.{Tree, Number, Truth, Param, Field, Same, Count, Sum, Least, Greatest, Unary, Binary, If, MakeVec2, MakeVec3, MakeRgb}
use Rattle.gm_model.specs.Values.{kind_of}
use Rattle.gm_theory.proofs.Lists.{some_same, none_some}
use Rattle.gm_theory.proofs.OperatorsDecided.{IsFoundOrNone, number_or_not, truth_or_not, decide_made, decide_unary, decide_binary}
use Rattle.gm_theory.proofs.OrbitsListed.{list_all_of}
use Rattle.gm_theory.proofs.ReadingsTyped.{term_live, collected_live}
use Rattle.gm_theory.proofs.ValuesLists.{IsIn, in_contained, contains_in, one_total}
use Rattle.gm_theory.proofs.ValuesReach.{decide_orbit}
use Rattle.gm_theory.proofs.ValuesUnique.{int_same, bool_same, one_value, one_count}
use Rattle.gm_theory.specs.inner.Readings.{IsReadingOf}

-- ---- the first number of a list

ordered : (x y : ℤ) → (x ≤ℤ y) ⊎ (y ≤ℤ x)
ordered (pos m) (pos n) = by_size m n (cases_lt m n)
  where
    by_size : (m n : ℕ) → (m < n) ⊎ (n ≤ m) → (pos m ≤ℤ pos n) ⊎ (pos n ≤ℤ pos m)
    by_size m n (inl h) = inl (omega (arith, ints))
    by_size m n (inr h) = inr (omega (arith, ints))
ordered (negsuc m) (negsuc n) = by_size m n (cases_lt m n)
  where
    by_size : (m n : ℕ) → (m < n) ⊎ (n ≤ m) → (negsuc m ≤ℤ negsuc n) ⊎ (negsuc n ≤ℤ negsuc m)
    by_size m n (inl h) = inr (omega (arith, ints))
    by_size m n (inr h) = inl (omega (arith, ints))
ordered (pos m) (negsuc n) = inr (omega (arith, ints))
ordered (negsuc m) (pos n) = inl (omega (arith, ints))

-- Over an order of numbers, and the values of darts:
module _ (before : ℤ → ℤ → Type 0) (both : (x y : ℤ) → before x y ⊎ before y x) (through : (x y z : ℤ) → before x y → before y z → before x z) (value : ℕ → Value) where
  -- a number of the list that goes before each
  abbrev HasFirst : List ℕ → Type 0
  HasFirst darts = (x : ℤ) × (d : ℕ) × IsIn d darts × (value d ≡ values.Int x) × ((c : ℕ) (y : ℤ) → IsIn c darts → value c ≡ values.Int y → before x y)

  abbrev HasNumber : List ℕ → Type 0
  HasNumber darts = (d : ℕ) × (x : ℤ) × IsIn d darts × (value d ≡ values.Int x)

  reflexive : (x : ℤ) → before x x
  reflexive x = go (both x x)
    where
      go : before x x ⊎ before x x → before x x
      go (inl h) = h
      go (inr h) = h

  first_or_none : (darts : List ℕ) → HasFirst darts ⊎ (HasNumber darts → ⊥)
  first_or_none [] = inr (λ h. h.2)
  first_or_none (d ∷ darts) = go (number_or_not (value d)) (first_or_none darts)
    where
      alone : (x : ℤ) → value d ≡ values.Int x → (HasNumber darts → ⊥) → HasFirst (d ∷ darts)
      alone x e none = (x, d, inl refl, e, all)
        where
          all : (c : ℕ) (y : ℤ) → IsIn c (d ∷ darts) → value c ≡ values.Int y → before x y
          all c y (inl f) g = subst (before x) (int_same x y (sym e ∙ ap value f ∙ g)) (reflexive x)
          all c y (inr i) g = absurd (none (c, y, i, g))

      at_front : (x : ℤ) → value d ≡ values.Int x → (first : HasFirst darts) → before x first.0 → HasFirst (d ∷ darts)
      at_front x e first h = (x, d, inl refl, e, all)
        where
          all : (c : ℕ) (y : ℤ) → IsIn c (d ∷ darts) → value c ≡ values.Int y → before x y
          all c y (inl f) g = subst (before x) (int_same x y (sym e ∙ ap value f ∙ g)) (reflexive x)
          all c y (inr i) g = through x first.0 y h (first.4 c y i g)

      behind : (first : HasFirst darts) → ((x : ℤ) → value d ≡ values.Int x → before first.0 x) → HasFirst (d ∷ darts)
      behind first h = (first.0, first.1, inr first.2, first.3, all)
        where
          all : (c : ℕ) (y : ℤ) → IsIn c (d ∷ darts) → value c ≡ values.Int y → before first.0 y
          all c y (inl f) g = h y (ap value f ∙ g)
          all c y (inr i) g = first.4 c y i g

      compared : (x : ℤ) → value d ≡ values.Int x → (first : HasFirst darts) → before x first.0 ⊎ before first.0 x → HasFirst (d ∷ darts)
      compared x e first (inl h) = at_front x e first h
      compared x e first (inr h) = behind first (λ y f. subst (before first.0) (int_same x y (sym e ∙ f)) h)

      go : ((x : ℤ) × (value d ≡ values.Int x)) ⊎ ((x : ℤ) → value d ≡ values.Int x → ⊥) → HasFirst darts ⊎ (HasNumber darts → ⊥) → HasFirst (d ∷ darts) ⊎ (HasNumber (d ∷ darts) → ⊥)
      go (inl (x, e)) (inl first) = inl (compared x e first (both x first.0))
      go (inl (x, e)) (inr none) = inl (alone x e none)
      go (inr other) (inl first) = inl (behind first (λ x e. absurd (other x e)))
      go (inr other) (inr none) = inr neither
        where
          neither : HasNumber (d ∷ darts) → ⊥
          neither (c, x, inl f, e) = other x (ap value f ∙ e)
          neither (c, x, inr i, e) = none (c, x, i, e)

-- ---- readings

-- a value is not both truths
pub not_both_truths : (reading : Reading) (tree : Tree) → HasValue reading tree (values.Bool true) → HasValue reading tree (values.Bool false) → ⊥
not_both_truths reading tree t f = absurd (let e : true ≡ false = bool_same true false (one_value reading tree (values.Bool true) (values.Bool false) t f) in (cc))

module _ (rule : Rule) (reading : Reading) (good : IsReadingOf rule reading) where
  abbrev schema : Schema
  schema = reading.map.schema

  listed : (mask : Mask) (term : DartTerm) → IsMaskInRange schema rule mask → IsTermInRange schema rule term → (darts : List ℕ) × IsListOf (IsCollected reading mask term) darts
  listed mask term m r = list_all_of (IsCollected reading mask term)
      (λ d. decide_orbit schema.dim reading.map.alpha (has mask) (IsDart reading.map) reading.map.next m good.stays good.is_map.below (dart_at reading term) d (term_live rule reading good term r))
      reading.map.next (λ d c. good.is_map.below d (collected_live rule reading good mask term d m r c))

  pub counted : (mask : Mask) (term : DartTerm) → IsMaskInRange schema rule mask → IsTermInRange schema rule term → (count : ℕ) × HasCount (IsCollected reading mask term) count
  counted mask term m r = let l : (darts : List ℕ) × IsListOf (IsCollected reading mask term) darts = listed mask term m r in (length l.0, (l.0, l.1, refl))

  decide_count : (mask : Mask) (term : DartTerm) → IsMaskInRange schema rule mask → IsTermInRange schema rule term → IsFoundOrNone (HasValue reading (Count mask term))
  decide_count mask term m r = go (counted mask term m r)
    where
      at : (count : ℕ) → HasCount (IsCollected reading mask term) count → IsFoundOrNone (IsMade kinds.Int (pos count ∷ [])) → IsFoundOrNone (HasValue reading (Count mask term))
      at count c (inl (v, made)) = inl (v, (count, c, made))
      at count c (inr none) = inr (λ v h. none v (subst (λ n. IsMade kinds.Int (pos n ∷ []) v) (one_count (IsCollected reading mask term) h.0 count h.1 c) h.2))

      go : (count : ℕ) × HasCount (IsCollected reading mask term) count → IsFoundOrNone (HasValue reading (Count mask term))
      go (count, c) = at count c (decide_made kinds.Int (pos count ∷ []))

  abbrev sum_at : ℕ → List ℕ → List ℤ
  sum_at e darts = total (map (λ d. components (reading.map.value e d)) darts)

  decide_sum : (mask : Mask) (term : DartTerm) (e : ℕ) → IsMaskInRange schema rule mask → IsTermInRange schema rule term → IsFoundOrNone (IsSum reading mask term e)
  decide_sum mask term e m r = go (listed mask term m r)
    where
      of_kind : (darts : List ℕ) → IsListOf (IsCollected reading mask term) darts → (o : Option Kind) → sum_kind (kind_of (reading.map.value e (dart_at reading term))) ≡ o → IsFoundOrNone (IsSum reading mask term e)
      of_kind darts l None f = inr (λ v h. none_some h.2 (sym f ∙ h.3))
      of_kind darts l (Some kind) f = made (decide_made kind (sum_at e darts))
        where
          made : IsFoundOrNone (IsMade kind (sum_at e darts)) → IsFoundOrNone (IsSum reading mask term e)
          made (inl (v, h)) = inl (v, (darts, l, kind, f, h))
          made (inr none) = inr (λ v h. none v (subst (λ k. IsMade k (sum_at e darts) v) (some_same h.2 kind (sym h.3 ∙ f)) (subst (λ parts. IsMade h.2 parts v) (one_total (λ d. components (reading.map.value e d)) (IsCollected reading mask term) h.0 darts h.1 l).1 h.4)))

      go : (darts : List ℕ) × IsListOf (IsCollected reading mask term) darts → IsFoundOrNone (IsSum reading mask term e)
      go (darts, l) = of_kind darts l (sum_kind (kind_of (reading.map.value e (dart_at reading term)))) refl

  decide_first : (before : ℤ → ℤ → Type 0) → ((x y : ℤ) → before x y ⊎ before y x) → ((x y z : ℤ) → before x y → before y z → before x z) →
      (mask : Mask) (term : DartTerm) (e : ℕ) → IsMaskInRange schema rule mask → IsTermInRange schema rule term → IsFoundOrNone (IsFirstOf reading before mask term e)
  decide_first before both through mask term e m r = go (listed mask term m r)
    where
      at : (darts : List ℕ) → IsListOf (IsCollected reading mask term) darts → HasFirst before both through (reading.map.value e) darts ⊎ (HasNumber before both through (reading.map.value e) darts → ⊥) → IsFoundOrNone (IsFirstOf reading before mask term e)
      at darts l (inl (x, d, i, f, all)) = inl (values.Int x, (x, refl, (d, (l.same d).0 (contains_in darts d i), f), λ c y h g. all c y (in_contained darts c ((l.same c).1 h)) g))
      at darts l (inr none) = inr (λ v h. none (h.2.0, h.0, in_contained darts h.2.0 ((l.same h.2.0).1 h.2.1), h.2.2 ∙ h.1))

      go : (darts : List ℕ) × IsListOf (IsCollected reading mask term) darts → IsFoundOrNone (IsFirstOf reading before mask term e)
      go (darts, l) = at darts l (first_or_none before both through (reading.map.value e) darts)

  -- ---- the parts of an expression

  -- an expression has a number as its value, or has none
  number_of : (tree : Tree) → IsFoundOrNone (HasValue reading tree) → ((x : ℤ) × HasValue reading tree (values.Int x)) ⊎ ((x : ℤ) → HasValue reading tree (values.Int x) → ⊥)
  number_of tree (inr none) = inr (λ x h. none (values.Int x) h)
  number_of tree (inl (v, h)) = go (number_or_not v)
    where
      go : ((x : ℤ) × (v ≡ values.Int x)) ⊎ ((x : ℤ) → v ≡ values.Int x → ⊥) → ((x : ℤ) × HasValue reading tree (values.Int x)) ⊎ ((x : ℤ) → HasValue reading tree (values.Int x) → ⊥)
      go (inl (x, e)) = inl (x, subst (HasValue reading tree) e h)
      go (inr other) = inr (λ x k. other x (one_value reading tree v (values.Int x) h k))

  -- two of them are one
  one_of : (tree : Tree) (x y : ℤ) → HasValue reading tree (values.Int x) → HasValue reading tree (values.Int y) → x ≡ y
  one_of tree x y h k = int_same x y (one_value reading tree (values.Int x) (values.Int y) h k)

  decide_choice : (c a b : Tree) → IsFoundOrNone (HasValue reading c) → IsFoundOrNone (HasValue reading a) → IsFoundOrNone (HasValue reading b) → IsFoundOrNone (HasValue reading (If c a b))
  decide_choice c a b (inr none) side side' = inr neither
    where
      neither : (v : Value) → HasValue reading (If c a b) v → ⊥
      neither v (inl (t, h)) = none (values.Bool true) t
      neither v (inr (f, h)) = none (values.Bool false) f
  decide_choice c a b (inl (w, h)) side side' = go (truth_or_not w)
    where
      when_true : HasValue reading c (values.Bool true) → IsFoundOrNone (HasValue reading a) → IsFoundOrNone (HasValue reading (If c a b))
      when_true t (inl (v, k)) = inl (v, inl (t, k))
      when_true t (inr none) = inr neither
        where
          neither : (v : Value) → HasValue reading (If c a b) v → ⊥
          neither v (inl (t', k)) = none v k
          neither v (inr (f, k)) = not_both_truths reading c t f

      when_false : HasValue reading c (values.Bool false) → IsFoundOrNone (HasValue reading b) → IsFoundOrNone (HasValue reading (If c a b))
      when_false f (inl (v, k)) = inl (v, inr (f, k))
      when_false f (inr none) = inr neither
        where
          neither : (v : Value) → HasValue reading (If c a b) v → ⊥
          neither v (inl (t, k)) = not_both_truths reading c t f
          neither v (inr (f', k)) = none v k

      go : ((t : Bool) × (w ≡ values.Bool t)) ⊎ ((t : Bool) → w ≡ values.Bool t → ⊥) → IsFoundOrNone (HasValue reading (If c a b))
      go (inl (true, e)) = when_true (subst (HasValue reading c) e h) side
      go (inl (false, e)) = when_false (subst (HasValue reading c) e h) side'
      go (inr other) = inr neither
        where
          neither : (v : Value) → HasValue reading (If c a b) v → ⊥
          neither v (inl (t, k)) = other true (one_value reading c w (values.Bool true) h t)
          neither v (inr (f, k)) = other false (one_value reading c w (values.Bool false) h f)

  abbrev IsPair : Kind → Tree → Tree → Value → Type 0
  IsPair kind a b v = (x : ℤ) × (y : ℤ) × HasValue reading a (values.Int x) × HasValue reading b (values.Int y) × IsMade kind (x ∷ y ∷ []) v

  decide_pair : (kind : Kind) (a b : Tree) → IsFoundOrNone (HasValue reading a) → IsFoundOrNone (HasValue reading b) → IsFoundOrNone (IsPair kind a b)
  decide_pair kind a b found found' = go (number_of a found) (number_of b found')
    where
      at : (x y : ℤ) → HasValue reading a (values.Int x) → HasValue reading b (values.Int y) → IsFoundOrNone (IsMade kind (x ∷ y ∷ [])) → IsFoundOrNone (IsPair kind a b)
      at x y h k (inl (v, made)) = inl (v, (x, y, h, k, made))
      at x y h k (inr none) = inr (λ v p. none v (subst (λ parts. IsMade kind parts v) (let e : p.0 ≡ x = one_of a p.0 x p.2 h in let f : p.1 ≡ y = one_of b p.1 y p.3 k in ap₂ (λ s t. s ∷ t ∷ []) e f) p.4))

      go : ((x : ℤ) × HasValue reading a (values.Int x)) ⊎ ((x : ℤ) → HasValue reading a (values.Int x) → ⊥) → ((y : ℤ) × HasValue reading b (values.Int y)) ⊎ ((y : ℤ) → HasValue reading b (values.Int y) → ⊥) → IsFoundOrNone (IsPair kind a b)
      go (inr none) side = inr (λ v p. none p.0 p.2)
      go (inl (x, h)) (inr none) = inr (λ v p. none p.1 p.3)
      go (inl (x, h)) (inl (y, k)) = at x y h k (decide_made kind (x ∷ y ∷ []))

  abbrev IsTriple : Kind → Tree → Tree → Tree → Value → Type 0
  IsTriple kind a b c v = (x : ℤ) × (y : ℤ) × (z : ℤ) × HasValue reading a (values.Int x) × HasValue reading b (values.Int y) × HasValue reading c (values.Int z) × IsMade kind (x ∷ y ∷ z ∷ []) v

  decide_triple : (kind : Kind) (a b c : Tree) → IsFoundOrNone (HasValue reading a) → IsFoundOrNone (HasValue reading b) → IsFoundOrNone (HasValue reading c) → IsFoundOrNone (IsTriple kind a b c)
  decide_triple kind a b c found found' found'' = go (number_of a found) (number_of b found') (number_of c found'')
    where
      at : (x y z : ℤ) → HasValue reading a (values.Int x) → HasValue reading b (values.Int y) → HasValue reading c (values.Int z) → IsFoundOrNone (IsMade kind (x ∷ y ∷ z ∷ [])) → IsFoundOrNone (IsTriple kind a b c)
      at x y z h k l (inl (v, made)) = inl (v, (x, y, z, h, k, l, made))
      at x y z h k l (inr none) = inr (λ v p. none v (subst (λ parts. IsMade kind parts v) (same p.0 p.1 p.2 (one_of a p.0 x p.3 h) (one_of b p.1 y p.4 k) (one_of c p.2 z p.5 l)) p.6))
        where
          same : (x' y' z' : ℤ) → x' ≡ x → y' ≡ y → z' ≡ z → x' ∷ y' ∷ z' ∷ [] ≡ x ∷ y ∷ z ∷ []
          same x' y' z' e f g = ap₂ (λ s t. s ∷ t ∷ z' ∷ []) e f ∙ ap (λ t. x ∷ y ∷ t ∷ []) g

      go : ((x : ℤ) × HasValue reading a (values.Int x)) ⊎ ((x : ℤ) → HasValue reading a (values.Int x) → ⊥) → ((y : ℤ) × HasValue reading b (values.Int y)) ⊎ ((y : ℤ) → HasValue reading b (values.Int y) → ⊥) → ((z : ℤ) × HasValue reading c (values.Int z)) ⊎ ((z : ℤ) → HasValue reading c (values.Int z) → ⊥) → IsFoundOrNone (IsTriple kind a b c)
      go (inr none) side side' = inr (λ v p. none p.0 p.3)
      go (inl (x, h)) (inr none) side = inr (λ v p. none p.1 p.4)
      go (inl (x, h)) (inl (y, k)) (inr none) = inr (λ v p. none p.2 p.5)
      go (inl (x, h)) (inl (y, k)) (inl (z, l)) = at x y z h k l (decide_made kind (x ∷ y ∷ z ∷ []))

  -- ---- an expression has a value, or none

  pub decide_value : (tree : Tree) → IsTreeInRange schema rule tree → IsFoundOrNone (HasValue reading tree)
  decide_value (Number n) r = decide_made kinds.Int (n ∷ [])
  decide_value (Truth b) r = inl (values.Bool b, refl)
  decide_value (Param k) r = go (slice_get reading.params k) refl
    where
      go : (o : Option Value) → slice_get reading.params k ≡ o → IsFoundOrNone (HasValue reading (Param k))
      go (Some v) e = inl (v, e)
      go None e = inr (λ v h. none_some v (sym e ∙ h))
  decide_value (Field d e) r = inl (reading.map.value e (dart_at reading d), refl)
  decide_value (Same d d') r = inl (values.Bool (eqb (dart_at reading d) (dart_at reading d')), refl)
  decide_value (Count o d) r = decide_count o d r.0 r.1
  decide_value (Sum o d e) r = decide_sum o d e r.0 r.1
  decide_value (Least o d e) r = decide_first ◌≤ℤ◌ ordered (λ x y z h k. omega (arith, ints)) o d e r.0 r.1
  decide_value (Greatest o d e) r = decide_first (λ x y. y ≤ℤ x) (λ x y. ordered y x) (λ x y z h k. omega (arith, ints)) o d e r.0 r.1
  decide_value (Unary op a) r = go (decide_value a r)
    where
      at : (x : Value) → HasValue reading a x → IsFoundOrNone (IsUnary op x) → IsFoundOrNone (HasValue reading (Unary op a))
      at x h (inl (v, u)) = inl (v, (x, h, u))
      at x h (inr none) = inr (λ v k. none v (subst (λ z. IsUnary op z v) (one_value reading a k.0 x k.1 h) k.2))

      go : IsFoundOrNone (HasValue reading a) → IsFoundOrNone (HasValue reading (Unary op a))
      go (inl (x, h)) = at x h (decide_unary op x)
      go (inr none) = inr (λ v k. none k.0 k.1)
  decide_value (Binary op a b) r = go (decide_value a r.0) (decide_value b r.1)
    where
      at : (x y : Value) → HasValue reading a x → HasValue reading b y → IsFoundOrNone (IsBinary op x y) → IsFoundOrNone (HasValue reading (Binary op a b))
      at x y h h' (inl (v, u)) = inl (v, (x, y, h, h', u))
      at x y h h' (inr none) = inr (λ v k. none v (subst (λ z. IsBinary op z y v) (one_value reading a k.0 x k.2 h) (subst (λ z. IsBinary op k.0 z v) (one_value reading b k.1 y k.3 h') k.4)))

      go : IsFoundOrNone (HasValue reading a) → IsFoundOrNone (HasValue reading b) → IsFoundOrNone (HasValue reading (Binary op a b))
      go (inl (x, h)) (inl (y, h')) = at x y h h' (decide_binary op x y)
      go (inr none) side = inr (λ v k. none k.0 k.2)
      go (inl (x, h)) (inr none) = inr (λ v k. none k.1 k.3)
  decide_value (If c a b) r = decide_choice c a b (decide_value c r.0) (decide_value a r.1) (decide_value b r.2)
  decide_value (MakeVec2 a b) r = decide_pair kinds.Vec2 a b (decide_value a r.0) (decide_value b r.1)
  decide_value (MakeVec3 a b c) r = decide_triple kinds.Vec3 a b c (decide_value a r.0) (decide_value b r.1) (decide_value c r.2)
  decide_value (MakeRgb a b c) r = decide_triple kinds.Rgb a b c (decide_value a r.0) (decide_value b r.1) (decide_value c r.2)

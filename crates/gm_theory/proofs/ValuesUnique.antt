-- An expression has at most one value where it is read.
use Rattle.std.proofs.Common.{◌≡◌, ◌≢◌, ℕ, ◌↔◌, ℤ, pos, negsuc, ◌-ℤ◌, ◌*ℤ◌, ◌≤ℤ◌, Bool, true, false, not, IsTrue, List, [], ◌∷◌, map, refl, sym, ◌∙◌, ap, ap₂, subst, inl, inr, arith}
use Rattle.std.proofs.lemmas.Int.{ints}
use Rattle.std.proofs.Math.IntN.{*ℤ_comm}
use Rattle.gm_model.specs.declared.expr.BinOp.{BinOp}
use Rattle.gm_model.specs.declared.expr.BinOp.TheVariants as ops
use Rattle.gm_model.specs.declared.expr.DartTerm.{DartTerm}
use Rattle.gm_model.specs.declared.expr.UnOp.{UnOp}
use Rattle.gm_model.specs.declared.expr.UnOp.TheVariants as unary
use Rattle.gm_model.specs.declared.value.Kind.{Kind}
use Rattle.gm_model.specs.declared.value.Kind.TheVariants as kinds
use Rattle.gm_model.specs.declared.value.Value.{Value}
use Rattle.gm_model.specs.declared.value.Value.TheVariants as values
use Rattle.gm_model.specs.declared.word.Mask.{Mask}
use Rattle.gm_model.specs.Expressions.{Reading, HasValue, IsMade, IsUnary, IsBinary, IsComponent, IsScaled, IsProduct, IsQuotient, IsRemainder, IsTest, IsLogic, IsSum, IsFirstOf, IsCollected, components, floor}
use Rattle.gm_model.specs.Orbits.{HasCount}
use Rattle.gm_model.specs.Trees.{Tree, Number, Truth, Param, Field, Same, Count, Sum, Least, Greatest, Unary, Binary, If, MakeVec2, MakeVec3, MakeRgb}
use Rattle.gm_model.specs.Values.{kind_of}
use Rattle.gm_theory.proofs.ValuesLists.{one_total}

-- ---- values by kind and components

abbrev pub nat_of : ℤ → ℕ
nat_of (pos n) = n
nat_of (negsuc n) = 0

abbrev pub first : List ℤ → ℤ
first [] = pos 0
first (x ∷ xs) = x

abbrev pub rest : List ℤ → List ℤ
rest [] = []
rest (x ∷ xs) = xs

-- what has the kind and these components, if anything has
abbrev pub made : Kind → List ℤ → Value
made kinds.Int parts = values.Int (first parts)
made kinds.Bool parts = values.Bool false
made kinds.Vec2 parts = values.Vec2 (first parts) (first (rest parts))
made kinds.Vec3 parts = values.Vec3 (first parts) (first (rest parts)) (first (rest (rest parts)))
made kinds.Rgb parts = values.Rgb (nat_of (first parts)) (nat_of (first (rest parts))) (nat_of (first (rest (rest parts))))

pub by_parts : (v : Value) → kind_of v ≢ kinds.Bool → v ≡ made (kind_of v) (components v)
by_parts (values.Int x) h = refl
by_parts (values.Bool b) h = absurd (h refl)
by_parts (values.Vec2 x y) h = refl
by_parts (values.Vec3 x y z) h = refl
by_parts (values.Rgb r g b) h = refl

pub made_same : (kind kind' : Kind) (parts parts' : List ℤ) (v w : Value) → kind ≡ kind' → parts ≡ parts' → IsMade kind parts v → IsMade kind' parts' w → v ≡ w
made_same kind kind' parts parts' v w e f a b =
    by_parts v (λ h. a.numbers (sym a.is_value.kind_is ∙ h)) ∙ ap₂ made (a.is_value.kind_is ∙ e ∙ sym b.is_value.kind_is) (a.parts_are ∙ f ∙ sym b.parts_are) ∙ sym (by_parts w (λ h. b.numbers (sym b.is_value.kind_is ∙ h)))

-- a number is made of itself alone
pub number_made : (n : ℤ) (v : Value) → IsMade kinds.Int (n ∷ []) v → v ≡ values.Int n
number_made n v m = by_parts v (λ h. m.numbers (sym m.is_value.kind_is ∙ h)) ∙ ap₂ made m.is_value.kind_is m.parts_are

pub int_same : (x y : ℤ) → values.Int x ≡ values.Int y → x ≡ y
int_same x y e = cc

pub bool_same : (x y : Bool) → values.Bool x ≡ values.Bool y → x ≡ y
bool_same x y e = cc

-- ---- operators

component_same : (k : ℕ) (a v w : Value) → IsComponent k a v → IsComponent k a w → v ≡ w
component_same k a v w (x, e, f) (y, g, h) = let same : x ≡ y = cc in f ∙ ap values.Int same ∙ sym h

unary_same : (op : UnOp) (a v w : Value) → IsUnary op a v → IsUnary op a w → v ≡ w
unary_same unary.Neg a v w h k = made_same _ _ _ _ v w refl refl h k
unary_same unary.Not a v w (b, e, f) (c, g, h) = f ∙ ap (λ t. values.Bool (not t)) (bool_same b c (sym e ∙ g)) ∙ sym h
unary_same unary.X a v w h k = component_same 0 a v w h k
unary_same unary.Y a v w h k = component_same 1 a v w h k
unary_same unary.Z a v w h k = component_same 2 a v w h k
unary_same unary.Red a v w h k = component_same 0 a v w h k
unary_same unary.Green a v w h k = component_same 1 a v w h k
unary_same unary.Blue a v w h k = component_same 2 a v w h k

scaled_same : (x y : ℤ) (b v w : Value) → x ≡ y → IsScaled x b v → IsScaled y b w → v ≡ w
scaled_same x y b v w e h k = made_same (kind_of b) (kind_of b) (map (λ z. x *ℤ z) (components b)) (map (λ z. y *ℤ z) (components b)) v w refl (ap (λ u. map (λ z. u *ℤ z) (components b)) e) h k

-- x times the number y, and y times the number x
scaled_both : (x y : ℤ) (a b v w : Value) → a ≡ values.Int x → b ≡ values.Int y → IsScaled x b v → IsScaled y a w → v ≡ w
scaled_both x y a b v w e f h k =
    made_same kinds.Int kinds.Int ((x *ℤ y) ∷ []) ((y *ℤ x) ∷ []) v w refl (ap (λ z. z ∷ []) (*ℤ_comm x y))
    (subst (λ c. IsScaled x c v) f h) (subst (λ c. IsScaled y c w) e k)

product_same : (a b v w : Value) → IsProduct a b v → IsProduct a b w → v ≡ w
product_same a b v w (inl (x, e, h)) (inl (y, f, k)) = scaled_same x y b v w (int_same x y (sym e ∙ f)) h k
product_same a b v w (inl (x, e, h)) (inr (y, f, k)) = scaled_both x y a b v w e f h k
product_same a b v w (inr (y, f, h)) (inl (x, e, k)) = sym (scaled_both x y a b w v e f k h)
product_same a b v w (inr (x, e, h)) (inr (y, f, k)) = scaled_same x y a v w (int_same x y (sym e ∙ f)) h k

quotient_same : (a b v w : Value) → IsQuotient a b v → IsQuotient a b w → v ≡ w
quotient_same a b v w (y, e, n, h) (z, f, n', k) = made_same (kind_of a) (kind_of a) (map (λ x. floor x y) (components a)) (map (λ x. floor x z) (components a)) v w refl (ap (λ u. map (λ x. floor x u) (components a)) (int_same y z (sym e ∙ f))) h k

remainder_same : (a b v w : Value) → IsRemainder a b v → IsRemainder a b w → v ≡ w
remainder_same a b v w (x, y, e, f, n, h) (x', y', e', f', n', h') =
    made_same kinds.Int kinds.Int ((x -ℤ (y *ℤ floor x y)) ∷ []) ((x' -ℤ (y' *ℤ floor x' y')) ∷ []) v w refl (ap₂ (λ s t. (s -ℤ (t *ℤ floor s t)) ∷ []) (int_same x x' (sym e ∙ e')) (int_same y y' (sym f ∙ f'))) h h'

test_same : (test : ℤ → ℤ → Bool) (a b v w : Value) → IsTest test a b v → IsTest test a b w → v ≡ w
test_same test a b v w (x, y, e, f, h) (x', y', e', f', h') = h ∙ ap₂ (λ s t. values.Bool (test s t)) (int_same x x' (sym e ∙ e')) (int_same y y' (sym f ∙ f')) ∙ sym h'

logic_same : (test : Bool → Bool → Bool) (a b v w : Value) → IsLogic test a b v → IsLogic test a b w → v ≡ w
logic_same test a b v w (x, y, e, f, h) (x', y', e', f', h') = h ∙ ap₂ (λ s t. values.Bool (test s t)) (bool_same x x' (sym e ∙ e')) (bool_same y y' (sym f ∙ f')) ∙ sym h'

truth_same : (P : Type 0) (r s : Bool) → (IsTrue r ↔ P) → (IsTrue s ↔ P) → r ≡ s
truth_same P true true h k = refl
truth_same P true false h k = sym (k.1 (h.0 refl))
truth_same P false true h k = h.1 (k.0 refl)
truth_same P false false h k = refl

binary_same : (op : BinOp) (a b v w : Value) → IsBinary op a b v → IsBinary op a b w → v ≡ w
binary_same ops.Add a b v w h k = made_same _ _ _ _ v w refl refl h k
binary_same ops.Sub a b v w h k = made_same _ _ _ _ v w refl refl h k
binary_same ops.Mul a b v w h k = product_same a b v w h k
binary_same ops.Div a b v w h k = quotient_same a b v w h k
binary_same ops.Rem a b v w h k = remainder_same a b v w h k
binary_same ops.Eq a b v w (r, e, h) (s, f, k) = e ∙ ap values.Bool (truth_same (a ≡ b) r s h k) ∙ sym f
binary_same ops.Ne a b v w (r, e, h) (s, f, k) = e ∙ ap (λ t. values.Bool (not t)) (truth_same (a ≡ b) r s h k) ∙ sym f
binary_same ops.Lt a b v w h k = test_same _ a b v w h k
binary_same ops.Le a b v w h k = test_same _ a b v w h k
binary_same ops.Gt a b v w h k = test_same _ a b v w h k
binary_same ops.Ge a b v w h k = test_same _ a b v w h k
binary_same ops.And a b v w h k = logic_same _ a b v w h k
binary_same ops.Or a b v w h k = logic_same _ a b v w h k

-- ---- readings

pub one_count : (P : ℕ → Type 0) (m n : ℕ) → HasCount P m → HasCount P n → m ≡ n
one_count P m n (xs, a, e) (ys, b, f) = sym e ∙ (one_total (λ d. []) P xs ys a b).0 ∙ f

module _ (reading : Reading) where
  sum_same : (mask : Mask) (d : DartTerm) (e : ℕ) (v w : Value) → IsSum reading mask d e v → IsSum reading mask d e w → v ≡ w
  sum_same mask d e v w (xs, a, k, f, m) (ys, b, l, g, n) =
      let kind : k ≡ l = cc in
      made_same k l _ _ v w kind (one_total (λ c. components (reading.map.value e c)) (IsCollected reading mask d) xs ys a b).1 m n

  first_same : (before : ℤ → ℤ → Type 0) → ((x y : ℤ) → before x y → before y x → x ≡ y) → (mask : Mask) (d : DartTerm) (e : ℕ) (v w : Value) → IsFirstOf reading before mask d e v → IsFirstOf reading before mask d e w → v ≡ w
  first_same before one mask d e v w (x, f, (c, i, g), all) (x', f', (c', i', g'), all') =
      f ∙ ap values.Int (one x x' (all c' x' i' (g' ∙ f')) (all' c x i (g ∙ f))) ∙ sym f'

  pub one_value : (tree : Tree) (v w : Value) → HasValue reading tree v → HasValue reading tree w → v ≡ w
  one_value (Number n) v w h k = made_same kinds.Int kinds.Int (n ∷ []) (n ∷ []) v w refl refl h k
  one_value (Truth b) v w h k = h ∙ sym k
  one_value (Param i) v w h k = cc
  one_value (Field d e) v w h k = h ∙ sym k
  one_value (Same d d') v w h k = h ∙ sym k
  one_value (Count o d) v w (m, h, e) (n, k, f) = made_same kinds.Int kinds.Int (pos m ∷ []) (pos n ∷ []) v w refl (ap (λ c. pos c ∷ []) (one_count (IsCollected reading o d) m n h k)) e f
  one_value (Sum o d e) v w h k = sum_same o d e v w h k
  one_value (Least o d e) v w h k = first_same ◌≤ℤ◌ (λ x y a b. omega (arith, ints)) o d e v w h k
  one_value (Greatest o d e) v w h k = first_same (λ x y. y ≤ℤ x) (λ x y a b. omega (arith, ints)) o d e v w h k
  one_value (Unary op a) v w (x, h, u) (y, k, t) = unary_same op x v w u (subst (λ z. IsUnary op z w) (one_value a y x k h) t)
  one_value (Binary op a b) v w (x, y, h, h', u) (x', y', k, k', t) =
      binary_same op x y v w u (subst (λ z. IsBinary op z y w) (one_value a x' x k h) (subst (λ z. IsBinary op x' z w) (one_value b y' y k' h') t))
  one_value (If c a b) v w (inl (t, h)) (inl (t', k)) = one_value a v w h k
  one_value (If c a b) v w (inl (t, h)) (inr (f, k)) = absurd (let e : true ≡ false = bool_same true false (one_value c (values.Bool true) (values.Bool false) t f) in (cc))
  one_value (If c a b) v w (inr (f, h)) (inl (t, k)) = absurd (let e : true ≡ false = bool_same true false (one_value c (values.Bool true) (values.Bool false) t f) in (cc))
  one_value (If c a b) v w (inr (f, h)) (inr (f', k)) = one_value b v w h k
  one_value (MakeVec2 a b) v w (x, y, h, i, e) (x', y', h', i', e') =
      let f : x ≡ x' = int_same x x' (one_value a (values.Int x) (values.Int x') h h') in
      let g : y ≡ y' = int_same y y' (one_value b (values.Int y) (values.Int y') i i') in
      made_same kinds.Vec2 kinds.Vec2 (x ∷ y ∷ []) (x' ∷ y' ∷ []) v w refl (cc) e e'
  one_value (MakeVec3 a b c) v w (x, y, z, h, i, j, e) (x', y', z', h', i', j', e') =
      let f : x ≡ x' = int_same x x' (one_value a (values.Int x) (values.Int x') h h') in
      let g : y ≡ y' = int_same y y' (one_value b (values.Int y) (values.Int y') i i') in
      let k : z ≡ z' = int_same z z' (one_value c (values.Int z) (values.Int z') j j') in
      made_same kinds.Vec3 kinds.Vec3 (x ∷ y ∷ z ∷ []) (x' ∷ y' ∷ z' ∷ []) v w refl (cc) e e'
  one_value (MakeRgb a b c) v w (x, y, z, h, i, j, e) (x', y', z', h', i', j', e') =
      let f : x ≡ x' = int_same x x' (one_value a (values.Int x) (values.Int x') h h') in
      let g : y ≡ y' = int_same y y' (one_value b (values.Int y) (values.Int y') i i') in
      let k : z ≡ z' = int_same z z' (one_value c (values.Int z) (values.Int z') j j') in
      made_same kinds.Rgb kinds.Rgb (x ∷ y ∷ z ∷ []) (x' ∷ y' ∷ z' ∷ []) v w refl (cc) e e'

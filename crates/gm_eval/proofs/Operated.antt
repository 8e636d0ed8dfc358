-- What an operator gives, from what is known of its arguments.
use Rattle.std.proofs.Common.{◌≡◌, ℕ, IsSome, ◌∷◌, [], ap, ap₂, ◌∙◌, ◌≢◌, IsTrue, not, ◌↔◌, ◌⊎◌, ℤ, pos, ◌*ℤ◌, ◌-ℤ◌, Bool, Option, Some, None, MatchOption, List, map, refl, sym, subst, inl, inr}
use Rattle.std.proofs.lemmas.Bool.{false≢true}
use Rattle.gm_model.specs.declared.expr.BinOp.{BinOp}
use Rattle.gm_model.specs.declared.expr.UnOp.{UnOp}
use Rattle.gm_model.specs.declared.value.Value.{Value}
use Rattle.gm_model.specs.declared.value.Value.TheVariants as values
use Rattle.gm_model.specs.declared.expr.BinOp.TheVariants as ops
use Rattle.gm_model.specs.declared.value.Kind.TheVariants as kinds
use Rattle.gm_model.specs.Expressions.{IsUnary, IsBinary, IsTest, IsMade, IsQuotient, IsRemainder, by_component, components, floor}
use Rattle.gm_model.specs.Kinds.{numeric, product_kind}
use Rattle.gm_model.specs.Values.{kind_of}
use Rattle.gm_theory.proofs.ValuesUnique.{int_same}
use Rattle.gm_eval.specs.inner.Made.{IsNone}

abbrev pub Found : (Value → Type 0) → Option Value → Type 0
Found P o = MatchOption o (IsNone P) P

-- what has P has Q, and the other way round
pub found_as : (P Q : Value → Type 0) (o : Option Value) → ((v : Value) → P v → Q v) → ((v : Value) → Q v → P v) → Found P o → Found Q o
found_as P Q (Some v) there back h = there v h
found_as P Q None there back h = λ v q. h v (back v q)

pub by_unary : (op op' : UnOp) (a : Value) (o : Option Value) → op ≡ op' → Found (IsUnary op' a) o → Found (IsUnary op a) o
by_unary op op' a o e h = subst (λ x. Found (IsUnary x a) o) (sym e) h

pub by_binary : (op op' : BinOp) (a b : Value) (o : Option Value) → op ≡ op' → Found (IsBinary op' a b) o → Found (IsBinary op a b) o
by_binary op op' a b o e h = subst (λ x. Found (IsBinary x a b) o) (sym e) h

-- a test the other way round
pub turned : (test : ℤ → ℤ → Bool) (a b : Value) (o : Option Value) → Found (IsTest test b a) o → Found (IsTest (λ x y. test y x) a b) o
turned test a b o h = found_as (IsTest test b a) (IsTest (λ x y. test y x) a b) o (λ v (x, y, e, f, g). (y, x, f, e, g)) (λ v (x, y, e, f, g). (y, x, f, e, g)) h

-- either operator means the same
pub by_either : (op op' op'' : UnOp) (a : Value) (o : Option Value) → (op ≡ op') ⊎ (op ≡ op'') → Found (IsUnary op' a) o → Found (IsUnary op'' a) o → Found (IsUnary op a) o
by_either op op' op'' a o (inl e) h k = by_unary op op' a o e h
by_either op op' op'' a o (inr e) h k = by_unary op op'' a o e k

pub three : (x y z x' y' z' : ℤ) → x ≡ x' → y ≡ y' → z ≡ z' → (x ∷ y ∷ z ∷ []) ≡ (x' ∷ y' ∷ z' ∷ [])
three x y z x' y' z' e f g = ap₂ ◌∷◌ e (ap₂ ◌∷◌ f (ap (λ u. u ∷ []) g))

-- each component by itself
pub found_each : (f : ℤ → ℤ) (value value' : Value) (parts : List ℤ) (o : Option Value) → value ≡ value' → parts ≡ map f (components value') → Found (IsMade (kind_of value') parts) o → Found (IsMade (kind_of value) (map f (components value))) o
found_each f value value' parts o e same h = subst (λ v. Found (IsMade (kind_of v) (map f (components v))) o) (sym e) (subst (λ p. Found (IsMade (kind_of value') p) o) same h)

-- quotients by the number that the divisor is
pub found_quotient : (a b : Value) (y : ℤ) (o : Option Value) → b ≡ values.Int y → y ≢ pos 0 → Found (IsMade (kind_of a) (map (λ x. floor x y) (components a))) o → Found (IsQuotient a b) o
found_quotient a b y o e n h = found_as (IsMade (kind_of a) (map (λ x. floor x y) (components a))) (IsQuotient a b) o (λ v m. (y, e, n, m)) back h
  where
    back : (v : Value) → IsQuotient a b v → IsMade (kind_of a) (map (λ x. floor x y) (components a)) v
    back v (z, f, n', m) = subst (λ u. IsMade (kind_of a) (map (λ x. floor x u) (components a)) v) (int_same z y (sym f ∙ e)) m

-- what the quotient leaves
pub found_rest : (a b : Value) (x y r : ℤ) (o : Option Value) → a ≡ values.Int x → b ≡ values.Int y → y ≢ pos 0 → r ≡ x -ℤ (y *ℤ floor x y) → Found (IsMade kinds.Int (r ∷ [])) o → Found (IsRemainder a b) o
found_rest a b x y r o e f n same h = found_as (IsMade kinds.Int (r ∷ [])) (IsRemainder a b) o (λ v made. (x, y, e, f, n, subst (λ z. IsMade kinds.Int (z ∷ []) v) same made)) back h
  where
    back : (v : Value) → IsRemainder a b v → IsMade kinds.Int (r ∷ []) v
    back v (x', y', e', f', n', made) = subst (λ z. IsMade kinds.Int (z ∷ []) v) (ap₂ (λ s t. s -ℤ (t *ℤ floor s t)) (int_same x' x (sym e' ∙ e)) (int_same y' y (sym f' ∙ f)) ∙ sym same) made

-- equality, and its opposite
pub as_equal : (op : BinOp) (a b : Value) (r : Bool) → op ≡ ops.Eq → (IsTrue r ↔ (a ≡ b)) → IsBinary op a b (values.Bool r)
as_equal op a b r e h = subst (λ x. IsBinary x a b (values.Bool r)) (sym e) (r, refl, h)

pub as_different : (op : BinOp) (a b : Value) (r : Bool) → op ≡ ops.Ne → (IsTrue r ↔ (a ≡ b)) → IsBinary op a b (values.Bool (not r))
as_different op a b r e h = subst (λ x. IsBinary x a b (values.Bool (not r))) (sym e) (r, refl, h)

-- component by component
pub found_by_parts : (f : ℤ → ℤ → ℤ) (left right left' right' : Value) (parts : List ℤ) (o : Option Value) → left ≡ left' → right ≡ right' → parts ≡ by_component f (components left') (components right') → Found (IsMade (kind_of left') parts) o → Found (IsMade (kind_of left) (by_component f (components left) (components right))) o
found_by_parts f left right left' right' parts o e g same h =
    subst (λ v. Found (IsMade (kind_of v) (by_component f (components v) (components right))) o) (sym e)
    (subst (λ w. Found (IsMade (kind_of left') (by_component f (components left') (components w))) o) (sym g) (subst (λ p. Found (IsMade (kind_of left') p) o) same h))

-- ---- what the kinds rule out

pub not_numeric : (v : Value) → ((x : Bool) × (v ≡ values.Bool x)) ⊎ ((red : ℕ) × (green : ℕ) × (blue : ℕ) × (v ≡ values.Rgb red green blue)) → IsSome (numeric (kind_of v)) → ⊥
not_numeric v (inl (x, e)) h = false≢true (subst (λ w. IsSome (numeric (kind_of w))) e h)
not_numeric v (inr (red, green, blue, e)) h = false≢true (subst (λ w. IsSome (numeric (kind_of w))) e h)

pub no_product : (a b : Value) → ((x : ℤ) → a ≡ values.Int x → ⊥) → ((x : ℤ) → b ≡ values.Int x → ⊥) → IsSome (product_kind (kind_of a) (kind_of b)) → ⊥
no_product (values.Int x) b left right h = left x refl
no_product a (values.Int y) left right h = right y refl
no_product a b left right h = false≢true h

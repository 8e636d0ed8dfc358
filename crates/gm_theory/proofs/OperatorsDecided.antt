-- An operator has a value at given values, or none.
use Rattle.std.proofs.Common.{◌≡◌, ◌≢◌, ℕ, ◌^◌, ◌<◌, ◌≤◌, ◌⊎◌, ℤ, pos, negsuc, ◌-ℤ◌, ◌*ℤ◌, ◌+ℤ◌, neg_ℤ, FitsSigned, Bool, true, false, not, IsTrue, List, [], ◌∷◌, map, Option, Some, None, slice_get, refl, sym, ◌∙◌, ap, ap₂, subst, inl, inr, arith, w64}
use Rattle.std.proofs.lemmas.Bool.{cases_eq, cases_lt}
use Rattle.std.proofs.lemmas.Int.{ints}
use Rattle.gm_model.specs.declared.expr.BinOp.{BinOp}
use Rattle.gm_model.specs.declared.expr.BinOp.TheVariants as ops
use Rattle.gm_model.specs.declared.expr.UnOp.{UnOp}
use Rattle.gm_model.specs.declared.expr.UnOp.TheVariants as unary
use Rattle.gm_model.specs.declared.value.Kind.{Kind}
use Rattle.gm_model.specs.declared.value.Kind.TheVariants as kinds
use Rattle.gm_model.specs.declared.value.Value.{Value}
use Rattle.gm_model.specs.declared.value.Value.TheVariants as values
use Rattle.gm_model.specs.Expressions.{IsMade, IsUnary, IsBinary, IsComponent, IsScaled, IsProduct, IsQuotient, IsRemainder, IsTest, IsLogic, by_component, components, floor}
use Rattle.gm_model.specs.Values.{IsInValueRange, kind_of}
use Rattle.gm_theory.proofs.Lists.{none_some}
use Rattle.gm_theory.proofs.ValuesReach.{IsDecided}
use Rattle.gm_theory.proofs.ValuesUnique.{made, by_parts, int_same, bool_same}

-- some value has P, or none has
abbrev pub IsFoundOrNone : (Value → Type 0) → Type 0
IsFoundOrNone P = ((v : Value) × P v) ⊎ ((v : Value) → P v → ⊥)

-- ---- numbers, ranges and values

both_decided : (P Q : Type 0) → IsDecided P → IsDecided Q → IsDecided (P × Q)
both_decided P Q (inl p) (inl q) = inl (p, q)
both_decided P Q (inr none) side = inr (λ h. none h.0)
both_decided P Q (inl p) (inr none) = inr (λ h. none h.1)

decide_ints : (x y : ℤ) → IsDecided (x ≡ y)
decide_ints (pos m) (pos n) = go (cases_eq m n)
  where
    go : (m ≡ n) ⊎ (m ≡ n → ⊥) → IsDecided (pos m ≡ pos n)
    go (inl e) = inl (ap pos e)
    go (inr other) = inr (λ e. other (omega (arith, ints)))
decide_ints (negsuc m) (negsuc n) = go (cases_eq m n)
  where
    go : (m ≡ n) ⊎ (m ≡ n → ⊥) → IsDecided (negsuc m ≡ negsuc n)
    go (inl e) = inl (ap negsuc e)
    go (inr other) = inr (λ e. other (omega (arith, ints)))
decide_ints (pos m) (negsuc n) = inr (λ e. absurd (cc))
decide_ints (negsuc m) (pos n) = inr (λ e. absurd (cc))

decide_parts : (xs ys : List ℤ) → IsDecided (xs ≡ ys)
decide_parts [] [] = inl refl
decide_parts [] (y ∷ ys) = inr (λ e. absurd (cc))
decide_parts (x ∷ xs) [] = inr (λ e. absurd (cc))
decide_parts (x ∷ xs) (y ∷ ys) = go (decide_ints x y) (decide_parts xs ys)
  where
    go : IsDecided (x ≡ y) → IsDecided (xs ≡ ys) → IsDecided (x ∷ xs ≡ y ∷ ys)
    go (inl e) (inl f) = inl (ap₂ ◌∷◌ e f)
    go (inr other) side = inr (λ e. other (cc))
    go (inl e) (inr other) = inr (λ f. other (cc))

decide_below : (m n : ℕ) → IsDecided (m < n)
decide_below m n = go (cases_lt m n)
  where
    go : (m < n) ⊎ (n ≤ m) → IsDecided (m < n)
    go (inl h) = inl h
    go (inr h) = inr (λ k. omega arith)

decide_fits : (x : ℤ) → IsDecided (FitsSigned w64 x)
decide_fits (pos n) = go (decide_below n (2 ^ 63))
  where
    go : IsDecided (n < 2 ^ 63) → IsDecided (FitsSigned w64 (pos n))
    go (inl h) = inl (record { sfits = h })
    go (inr none) = inr (λ f. none f.sfits)
decide_fits (negsuc n) = go (decide_below n (2 ^ 63))
  where
    go : IsDecided (n < 2 ^ 63) → IsDecided (FitsSigned w64 (negsuc n))
    go (inl h) = inl (record { sfits = h })
    go (inr none) = inr (λ f. none f.sfits)

decide_range : (v : Value) → IsDecided (IsInValueRange v)
decide_range (values.Int x) = decide_fits x
decide_range (values.Bool b) = inl tt
decide_range (values.Vec2 x y) = both_decided (FitsSigned w64 x) (FitsSigned w64 y) (decide_fits x) (decide_fits y)
decide_range (values.Vec3 x y z) = go (decide_fits x) (decide_fits y) (decide_fits z)
  where
    go : IsDecided (FitsSigned w64 x) → IsDecided (FitsSigned w64 y) → IsDecided (FitsSigned w64 z) → IsDecided (FitsSigned w64 x × FitsSigned w64 y × FitsSigned w64 z)
    go (inl a) (inl b) (inl c) = inl (a, b, c)
    go (inr none) b c = inr (λ h. none h.0)
    go (inl a) (inr none) c = inr (λ h. none h.1)
    go (inl a) (inl b) (inr none) = inr (λ h. none h.2)
decide_range (values.Rgb r g b) = go (decide_below r 256) (decide_below g 256) (decide_below b 256)
  where
    go : IsDecided (r < 256) → IsDecided (g < 256) → IsDecided (b < 256) → IsDecided ((r < 256) × (g < 256) × (b < 256))
    go (inl a) (inl b') (inl c) = inl (a, b', c)
    go (inr none) b' c = inr (λ h. none h.0)
    go (inl a) (inr none) c = inr (λ h. none h.1)
    go (inl a) (inl b') (inr none) = inr (λ h. none h.2)

-- two values of one kind that isn't that of truths
same_kind : (v w : Value) → kind_of v ≢ kinds.Bool → kind_of v ≡ kind_of w → IsDecided (v ≡ w)
same_kind v w numbers e = go (decide_parts (components v) (components w))
  where
    go : IsDecided (components v ≡ components w) → IsDecided (v ≡ w)
    go (inl f) = inl (by_parts v numbers ∙ ap₂ made e f ∙ sym (by_parts w (λ h. numbers (e ∙ h))))
    go (inr other) = inr (λ f. other (ap components f))

decide_truths : (a b : Bool) → IsDecided (values.Bool a ≡ values.Bool b)
decide_truths true true = inl refl
decide_truths false false = inl refl
decide_truths true false = inr (λ e. absurd (let f : true ≡ false = bool_same true false e in (cc)))
decide_truths false true = inr (λ e. absurd (let f : false ≡ true = bool_same false true e in (cc)))

decide_values : (v w : Value) → IsDecided (v ≡ w)
decide_values (values.Int x) (values.Int a) = same_kind (values.Int x) (values.Int a) (λ e. absurd (cc)) refl
decide_values (values.Bool b) (values.Bool c) = decide_truths b c
decide_values (values.Vec2 x y) (values.Vec2 a b) = same_kind (values.Vec2 x y) (values.Vec2 a b) (λ e. absurd (cc)) refl
decide_values (values.Vec3 x y z) (values.Vec3 a b c) = same_kind (values.Vec3 x y z) (values.Vec3 a b c) (λ e. absurd (cc)) refl
decide_values (values.Rgb x y z) (values.Rgb a b c) = same_kind (values.Rgb x y z) (values.Rgb a b c) (λ e. absurd (cc)) refl
decide_values v w = inr (λ e. absurd (cc))

pub number_or_not : (v : Value) → ((x : ℤ) × (v ≡ values.Int x)) ⊎ ((x : ℤ) → v ≡ values.Int x → ⊥)
number_or_not (values.Int x) = inl (x, refl)
number_or_not v = inr (λ x e. absurd (cc))

pub truth_or_not : (v : Value) → ((b : Bool) × (v ≡ values.Bool b)) ⊎ ((b : Bool) → v ≡ values.Bool b → ⊥)
truth_or_not (values.Bool b) = inl (b, refl)
truth_or_not v = inr (λ b e. absurd (cc))

-- ---- what is made

kind_made : (kind : Kind) (parts : List ℤ) → kind_of (made kind parts) ≡ kind
kind_made kinds.Int parts = refl
kind_made kinds.Bool parts = refl
kind_made kinds.Vec2 parts = refl
kind_made kinds.Vec3 parts = refl
kind_made kinds.Rgb parts = refl

numbers_or_truth : (kind : Kind) → (kind ≢ kinds.Bool) ⊎ (kind ≡ kinds.Bool)
numbers_or_truth kinds.Bool = inr refl
numbers_or_truth kind = inl (λ e. absurd (cc))

pub decide_made : (kind : Kind) (parts : List ℤ) → IsFoundOrNone (IsMade kind parts)
decide_made kind parts = go (numbers_or_truth kind) (decide_parts (components (made kind parts)) parts) (decide_range (made kind parts))
  where
    only : (v : Value) → IsMade kind parts v → v ≡ made kind parts
    only v m = by_parts v (λ h. m.numbers (sym m.is_value.kind_is ∙ h)) ∙ ap₂ made m.is_value.kind_is m.parts_are

    go : (kind ≢ kinds.Bool) ⊎ (kind ≡ kinds.Bool) → IsDecided (components (made kind parts) ≡ parts) → IsDecided (IsInValueRange (made kind parts)) → IsFoundOrNone (IsMade kind parts)
    go (inl n) (inl e) (inl r) = inl (made kind parts, record { numbers = n; is_value = record { kind_is = kind_made kind parts; range = r }; parts_are = e })
    go (inr truth) e r = inr (λ v m. m.numbers truth)
    go (inl n) (inr other) r = inr (λ v m. other (ap components (sym (only v m)) ∙ m.parts_are))
    go (inl n) (inl e) (inr out) = inr (λ v m. out (subst IsInValueRange (only v m) m.is_value.range))

-- ---- operators

either : (P Q : Value → Type 0) → IsFoundOrNone P → IsFoundOrNone Q → IsFoundOrNone (λ v. P v ⊎ Q v)
either P Q (inl (v, p)) side = inl (v, inl p)
either P Q (inr none) (inl (v, q)) = inl (v, inr q)
either P Q (inr none) (inr none') = inr neither
  where
    neither : (v : Value) → P v ⊎ Q v → ⊥
    neither v (inl p) = none v p
    neither v (inr q) = none' v q

-- by the number that a value is
by_number : (a : Value) (P : ℤ → Value → Type 0) → ((x : ℤ) → IsFoundOrNone (P x)) → IsFoundOrNone (λ v. (x : ℤ) × (a ≡ values.Int x) × P x v)
by_number a P decide = go (number_or_not a)
  where
    at : (x : ℤ) → a ≡ values.Int x → IsFoundOrNone (P x) → IsFoundOrNone (λ v. (y : ℤ) × (a ≡ values.Int y) × P y v)
    at x e (inl (v, p)) = inl (v, (x, e, p))
    at x e (inr none) = inr (λ v h. none v (subst (λ y. P y v) (int_same h.0 x (sym h.1 ∙ e)) h.2))

    go : ((x : ℤ) × (a ≡ values.Int x)) ⊎ ((x : ℤ) → a ≡ values.Int x → ⊥) → IsFoundOrNone (λ v. (y : ℤ) × (a ≡ values.Int y) × P y v)
    go (inl (x, e)) = at x e (decide x)
    go (inr none) = inr (λ v h. none h.0 h.1)

decide_component : (k : ℕ) (a : Value) → IsFoundOrNone (IsComponent k a)
decide_component k a = go (slice_get (components a) k) refl
  where
    go : (o : Option ℤ) → slice_get (components a) k ≡ o → IsFoundOrNone (IsComponent k a)
    go (Some x) e = inl (values.Int x, (x, e, refl))
    go None e = inr (λ v h. none_some h.0 (sym e ∙ h.1))

decide_not : (a : Value) → IsFoundOrNone (IsUnary unary.Not a)
decide_not a = go (truth_or_not a)
  where
    go : ((b : Bool) × (a ≡ values.Bool b)) ⊎ ((b : Bool) → a ≡ values.Bool b → ⊥) → IsFoundOrNone (IsUnary unary.Not a)
    go (inl (b, e)) = inl (values.Bool (not b), (b, e, refl))
    go (inr none) = inr (λ v h. none h.0 h.1)

pub decide_unary : (op : UnOp) (a : Value) → IsFoundOrNone (IsUnary op a)
decide_unary unary.Neg a = decide_made (kind_of a) (map neg_ℤ (components a))
decide_unary unary.Not a = decide_not a
decide_unary unary.X a = decide_component 0 a
decide_unary unary.Y a = decide_component 1 a
decide_unary unary.Z a = decide_component 2 a
decide_unary unary.Red a = decide_component 0 a
decide_unary unary.Green a = decide_component 1 a
decide_unary unary.Blue a = decide_component 2 a

decide_product : (a b : Value) → IsFoundOrNone (IsProduct a b)
decide_product a b = either _ _ (by_number a (λ x. IsScaled x b) (λ x. decide_made (kind_of b) (map (λ y. x *ℤ y) (components b)))) (by_number b (λ y. IsScaled y a) (λ y. decide_made (kind_of a) (map (λ x. y *ℤ x) (components a))))

decide_unless_zero : (y : ℤ) (P : Value → Type 0) → IsFoundOrNone P → IsFoundOrNone (λ v. (y ≢ pos 0) × P v)
decide_unless_zero y P found = go (decide_ints y (pos 0)) found
  where
    go : IsDecided (y ≡ pos 0) → IsFoundOrNone P → IsFoundOrNone (λ v. (y ≢ pos 0) × P v)
    go (inl e) side = inr (λ v h. h.0 e)
    go (inr n) (inl (v, p)) = inl (v, (n, p))
    go (inr n) (inr none) = inr (λ v h. none v h.1)

decide_quotient : (a b : Value) → IsFoundOrNone (IsQuotient a b)
decide_quotient a b = go (by_number b (λ y v. (y ≢ pos 0) × IsMade (kind_of a) (map (λ x. floor x y) (components a)) v) (λ y. decide_unless_zero y _ (decide_made (kind_of a) (map (λ x. floor x y) (components a)))))
  where
    go : IsFoundOrNone (λ v. (y : ℤ) × (b ≡ values.Int y) × ((y ≢ pos 0) × IsMade (kind_of a) (map (λ x. floor x y) (components a)) v)) → IsFoundOrNone (IsQuotient a b)
    go (inl (v, (y, e, (n, m)))) = inl (v, (y, e, n, m))
    go (inr none) = inr (λ v h. none v (h.0, h.1, (h.2, h.3)))

-- by the numbers that two values are
by_numbers : (a b : Value) (P : ℤ → ℤ → Value → Type 0) → ((x y : ℤ) → IsFoundOrNone (P x y)) → IsFoundOrNone (λ v. (x : ℤ) × (a ≡ values.Int x) × ((y : ℤ) × (b ≡ values.Int y) × P x y v))
by_numbers a b P decide = by_number a (λ x v. (y : ℤ) × (b ≡ values.Int y) × P x y v) (λ x. by_number b (P x) (decide x))

decide_remainder : (a b : Value) → IsFoundOrNone (IsRemainder a b)
decide_remainder a b = go (by_numbers a b (λ x y v. (y ≢ pos 0) × IsMade kinds.Int ((x -ℤ (y *ℤ floor x y)) ∷ []) v) (λ x y. decide_unless_zero y _ (decide_made kinds.Int ((x -ℤ (y *ℤ floor x y)) ∷ []))))
  where
    go : IsFoundOrNone (λ v. (x : ℤ) × (a ≡ values.Int x) × ((y : ℤ) × (b ≡ values.Int y) × ((y ≢ pos 0) × IsMade kinds.Int ((x -ℤ (y *ℤ floor x y)) ∷ []) v))) → IsFoundOrNone (IsRemainder a b)
    go (inl (v, (x, e, (y, f, (n, m))))) = inl (v, (x, y, e, f, n, m))
    go (inr none) = inr (λ v h. none v (h.0, h.2, (h.1, h.3, (h.4, h.5))))

decide_test : (test : ℤ → ℤ → Bool) (a b : Value) → IsFoundOrNone (IsTest test a b)
decide_test test a b = go (by_numbers a b (λ x y v. v ≡ values.Bool (test x y)) (λ x y. inl (values.Bool (test x y), refl)))
  where
    go : IsFoundOrNone (λ v. (x : ℤ) × (a ≡ values.Int x) × ((y : ℤ) × (b ≡ values.Int y) × (v ≡ values.Bool (test x y)))) → IsFoundOrNone (IsTest test a b)
    go (inl (v, (x, e, (y, f, h)))) = inl (v, (x, y, e, f, h))
    go (inr none) = inr (λ v h. none v (h.0, h.2, (h.1, h.3, h.4)))

decide_logic : (test : Bool → Bool → Bool) (a b : Value) → IsFoundOrNone (IsLogic test a b)
decide_logic test a b = go (truth_or_not a) (truth_or_not b)
  where
    go : ((x : Bool) × (a ≡ values.Bool x)) ⊎ ((x : Bool) → a ≡ values.Bool x → ⊥) → ((y : Bool) × (b ≡ values.Bool y)) ⊎ ((y : Bool) → b ≡ values.Bool y → ⊥) → IsFoundOrNone (IsLogic test a b)
    go (inl (x, e)) (inl (y, f)) = inl (values.Bool (test x y), (x, y, e, f, refl))
    go (inr none) side = inr (λ v h. none h.0 h.2)
    go (inl (x, e)) (inr none) = inr (λ v h. none h.1 h.3)

decide_same : (a b : Value) → (r : Bool) × ((IsTrue r → a ≡ b) × (a ≡ b → IsTrue r))
decide_same a b = go (decide_values a b)
  where
    go : IsDecided (a ≡ b) → (r : Bool) × ((IsTrue r → a ≡ b) × (a ≡ b → IsTrue r))
    go (inl e) = (true, ((λ t. e), (λ f. refl)))
    go (inr other) = (false, ((λ t. absurd (let f : false ≡ true = t in (cc))), (λ e. absurd (other e))))

pub decide_binary : (op : BinOp) (a b : Value) → IsFoundOrNone (IsBinary op a b)
decide_binary ops.Add a b = decide_made (kind_of a) (by_component ◌+ℤ◌ (components a) (components b))
decide_binary ops.Sub a b = decide_made (kind_of a) (by_component ◌-ℤ◌ (components a) (components b))
decide_binary ops.Mul a b = decide_product a b
decide_binary ops.Div a b = decide_quotient a b
decide_binary ops.Rem a b = decide_remainder a b
decide_binary ops.Eq a b = let same : (r : Bool) × ((IsTrue r → a ≡ b) × (a ≡ b → IsTrue r)) = decide_same a b in inl (values.Bool same.0, (same.0, refl, (same.1.0, same.1.1)))
decide_binary ops.Ne a b = let same : (r : Bool) × ((IsTrue r → a ≡ b) × (a ≡ b → IsTrue r)) = decide_same a b in inl (values.Bool (not same.0), (same.0, refl, (same.1.0, same.1.1)))
decide_binary ops.Lt a b = decide_test _ a b
decide_binary ops.Le a b = decide_test _ a b
decide_binary ops.Gt a b = decide_test _ a b
decide_binary ops.Ge a b = decide_test _ a b
decide_binary ops.And a b = decide_logic _ a b
decide_binary ops.Or a b = decide_logic _ a b

-- The first number, pair or triple that has a property, where the property can be decided.
use Rattle.std.proofs.Common.{◌≡◌, ℕ, zero, suc, ◌<◌, ◌≤◌, ◌⊎◌, Bool, true, false, ℤ, pos, negsuc, inl, inr, refl, ap, subst, arith}
use Rattle.std.specs.Prelude.{IsTrue}
use Rattle.std.proofs.lemmas.Bool.{cases_eq, cases_lt, cases_order}
use Rattle.gm_model.specs.declared.value.Value.{Value}
use Rattle.gm_model.specs.declared.value.Value.TheVariants as values

-- ---- what can be decided

abbrev pub IsDecided : Type 0 → Type 0
IsDecided A = A ⊎ (A → ⊥)

pub stable : {A : Type 0} → IsDecided A → ((A → ⊥) → ⊥) → A
stable (inl a) f = a
stable (inr no_a) f = absurd (f no_a)

pub decide_both : {A B : Type 0} → IsDecided A → IsDecided B → IsDecided (A × B)
decide_both (inl a) (inl b) = inl (a, b)
decide_both (inl a) (inr no_b) = inr (λ both. no_b both.1)
decide_both (inr no_a) b = inr (λ both. no_a both.0)

pub decide_three : {A B C : Type 0} → IsDecided A → IsDecided B → IsDecided C → IsDecided (A × B × C)
decide_three (inl a) (inl b) (inl c) = inl (a, b, c)
decide_three (inl a) (inl b) (inr no_c) = inr (λ all. no_c all.2)
decide_three (inl a) (inr no_b) c = inr (λ all. no_b all.1)
decide_three (inr no_a) b c = inr (λ all. no_a all.0)

pub decide_four : {A B C D : Type 0} → IsDecided A → IsDecided B → IsDecided C → IsDecided D → IsDecided (A × B × C × D)
decide_four (inl a) (inl b) (inl c) (inl d) = inl (a, b, c, d)
decide_four (inl a) (inl b) (inl c) (inr no_d) = inr (λ all. no_d all.3)
decide_four (inl a) (inl b) (inr no_c) d = inr (λ all. no_c all.2)
decide_four (inl a) (inr no_b) c d = inr (λ all. no_b all.1)
decide_four (inr no_a) b c d = inr (λ all. no_a all.0)

pub decide_not : {A : Type 0} → IsDecided A → IsDecided (A → ⊥)
decide_not (inl a) = inr (λ f. f a)
decide_not (inr no_a) = inl no_a

pub decide_true : (b : Bool) → IsDecided (IsTrue b)
decide_true true = inl refl
decide_true false = inr (λ e. absurd cc)

pub decide_le : (m n : ℕ) → IsDecided (m ≤ n)
decide_le m n = elim (cases_lt n m) [
  | inl more ↦ inr (λ less. omega (arith, more, less))
  | inr less ↦ inl less
]

pub decide_eq : (m n : ℕ) → IsDecided (m ≡ n)
decide_eq m n = cases_eq m n

decide_int : (x y : ℤ) → IsDecided (x ≡ y)
decide_int (pos m) (pos n) = elim (cases_eq m n) [
  | inl same ↦ inl (ap pos same)
  | inr other ↦ inr (λ e. other (cc e))
]
decide_int (negsuc m) (negsuc n) = elim (cases_eq m n) [
  | inl same ↦ inl (ap negsuc same)
  | inr other ↦ inr (λ e. other (cc e))
]
decide_int (pos m) (negsuc n) = inr (λ e. absurd cc)
decide_int (negsuc m) (pos n) = inr (λ e. absurd cc)

decide_bool : (b c : Bool) → IsDecided (b ≡ c)
decide_bool true true = inl refl
decide_bool false false = inl refl
decide_bool true false = inr (λ e. absurd cc)
decide_bool false true = inr (λ e. absurd cc)

decide_vec2 : (x y u v : ℤ) → IsDecided (values.Vec2 x y ≡ values.Vec2 u v)
decide_vec2 x y u v = elim (decide_both (decide_int x u) (decide_int y v)) [
  | inl same ↦ inl (λ i. values.Vec2 (same.0 i) (same.1 i))
  | inr other ↦ inr (λ e. let first : x ≡ u = cc e in let second : y ≡ v = cc e in other (first, second))
]

decide_vec3 : (x y z u v w : ℤ) → IsDecided (values.Vec3 x y z ≡ values.Vec3 u v w)
decide_vec3 x y z u v w = elim (decide_three (decide_int x u) (decide_int y v) (decide_int z w)) [
  | inl same ↦ inl (λ i. values.Vec3 (same.0 i) (same.1 i) (same.2 i))
  | inr other ↦ inr (λ e. let first : x ≡ u = cc e in let second : y ≡ v = cc e in let third : z ≡ w = cc e in other (first, second, third))
]

decide_rgb : (x y z u v w : ℕ) → IsDecided (values.Rgb x y z ≡ values.Rgb u v w)
decide_rgb x y z u v w = elim (decide_three (decide_eq x u) (decide_eq y v) (decide_eq z w)) [
  | inl same ↦ inl (λ i. values.Rgb (same.0 i) (same.1 i) (same.2 i))
  | inr other ↦ inr (λ e. let first : x ≡ u = cc e in let second : y ≡ v = cc e in let third : z ≡ w = cc e in other (first, second, third))
]

pub decide_value : (v w : Value) → IsDecided (v ≡ w)
decide_value (values.Int x) (values.Int y) = elim (decide_int x y) [
  | inl same ↦ inl (ap values.Int same)
  | inr other ↦ inr (λ e. other (cc e))
]
decide_value (values.Bool b) (values.Bool c) = elim (decide_bool b c) [
  | inl same ↦ inl (ap values.Bool same)
  | inr other ↦ inr (λ e. other (cc e))
]
decide_value (values.Vec2 x y) (values.Vec2 u v) = decide_vec2 x y u v
decide_value (values.Vec3 x y z) (values.Vec3 u v w) = decide_vec3 x y z u v w
decide_value (values.Rgb x y z) (values.Rgb u v w) = decide_rgb x y z u v w
decide_value v w = inr (λ e. absurd cc)

-- ---- what comes first

module _ {A : Type 0} (IsBefore : A → A → Type 0) (P : A → Type 0) where
  pub record IsFirst (a : A) : Type 0 where
    pub here : P a
    pub before : (b : A) → IsBefore b a → P b → ⊥

  abbrev pub HasFirst : Type 0
  HasFirst = ((a : A) × IsFirst a) ⊎ ((a : A) → P a → ⊥)

first_below : (P : ℕ → Type 0) → ((n : ℕ) → IsDecided (P n)) → (most : ℕ) → ((n : ℕ) × IsFirst ◌<◌ P n) ⊎ ((n : ℕ) → n < most → P n → ⊥)
first_below P decide zero = inr (λ n less h. omega (arith, less))
first_below P decide (suc most) = go (first_below P decide most)
  where
    none : ((n : ℕ) → n < most → P n → ⊥) → (P most → ⊥) → (n : ℕ) → n < suc most → P n → ⊥
    none nowhere no_last n less h =
        elim (cases_order n most) [
          | inl same ↦ no_last (subst P same h)
          | inr (inl lower) ↦ nowhere n lower h
          | inr (inr higher) ↦ omega (arith, less, higher)
        ]

    go : ((n : ℕ) × IsFirst ◌<◌ P n) ⊎ ((n : ℕ) → n < most → P n → ⊥) → ((n : ℕ) × IsFirst ◌<◌ P n) ⊎ ((n : ℕ) → n < suc most → P n → ⊥)
    go (inl found) = inl found
    go (inr nowhere) = elim (decide most) [
      | inl here ↦ inl (most, record { here = here; before = nowhere })
      | inr no_last ↦ inr (none nowhere no_last)
    ]

pub first_number : (P : ℕ → Type 0) → ((n : ℕ) → IsDecided (P n)) → (most : ℕ) → ((n : ℕ) → P n → n < most) → HasFirst ◌<◌ P
first_number P decide most within =
    elim (first_below P decide most) [
      | inl found ↦ inl found
      | inr nowhere ↦ inr (λ n h. nowhere n (within n h) h)
    ]

-- by a number, and then in the order of what stands beside it
abbrev pub IsBeforeIn : {B : Type 0} → (B → B → Type 0) → ℕ × B → ℕ × B → Type 0
IsBeforeIn IsBefore p q = (p.0 < q.0) ⊎ ((p.0 ≡ q.0) × IsBefore p.1 q.1)

module _ {B : Type 0} (IsBefore : B → B → Type 0) (P : ℕ × B → Type 0) (search : (n : ℕ) → HasFirst IsBefore (λ b. P (n, b))) (most : ℕ) (within : (n : ℕ) (b : B) → P (n, b) → n < most) where
  abbrev FoundAt : ℕ → Type 0
  FoundAt n = (b : B) × IsFirst IsBefore (λ c. P (n, c)) b

  found_or_none : (n : ℕ) → IsDecided (FoundAt n)
  found_or_none n = elim (search n) [
    | inl found ↦ inl found
    | inr nowhere ↦ inr (λ found. nowhere found.0 found.1.here)
  ]

  -- where something is there is a first
  found_at : (n : ℕ) (b : B) → P (n, b) → FoundAt n
  found_at n b h = elim (search n) [
    | inl found ↦ found
    | inr nowhere ↦ absurd (nowhere b h)
  ]

  pub first_beside : HasFirst (IsBeforeIn IsBefore) P
  first_beside = elim (first_number FoundAt found_or_none most (λ n found. within n found.0 found.1.here)) [
    | inl (n, first) ↦ inl ((n, first.here.0), record { here = first.here.1.here; before = λ other. earlier n first other })
    | inr nowhere ↦ inr (λ pair h. nowhere pair.0 (found_at pair.0 pair.1 h))
  ]
    where
      earlier : (n : ℕ) (first : IsFirst ◌<◌ FoundAt n) (other : ℕ × B) → IsBeforeIn IsBefore other (n, first.here.0) → P other → ⊥
      earlier n first other (inl less) h = first.before other.0 less (found_at other.0 other.1 h)
      earlier n first other (inr (same, less)) h = first.here.1.before other.1 less (subst (λ (k : ℕ). P (k, other.1)) same h)

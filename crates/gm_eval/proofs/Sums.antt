-- The exact sum of values of one kind, by its components.
use Rattle.std.proofs.Common.{◌≡◌, ℕ, ◌+◌, ◌*◌, ◌<◌, ◌^◌, ℤ, pos, ◌+ℤ◌, ◌≤ℤ◌, ◌<ℤ◌, negsuc, List, [], ◌∷◌, ◌++◌, length, map, take, get_or, FitsSigned, refl, sym, ap, ap₂, subst, ◌∙◌, arith, w64, to_z, of_z}
use Rattle.std.specs.Int.{w128}
use Rattle.std.specs.List.{AllByRecursion, fold}
use Rattle.std.proofs.lemmas.Int.{ints, to_z-of_z}
use Rattle.std.proofs.lemmas.List.{take_more, map_push, map_more}
use Rattle.std.proofs.lemmas.List.Sums.{fold_push}
use Rattle.gm_model.specs.declared.value.Kind.{Kind}
use Rattle.gm_model.specs.declared.value.Kind.TheVariants as kinds
use Rattle.gm_model.specs.declared.value.Value.{Value}
use Rattle.gm_model.specs.declared.value.Value.TheVariants as values
use Rattle.gm_model.specs.Expressions.{components, total, by_component}
use Rattle.gm_model.specs.Values.{kind_of}
use Rattle.gm_eval.specs.inner.Sums.{part, parts_for, sum_of}

-- one more number
pub sum_push : (xs : List ℤ) (x : ℤ) → sum_of (xs ++ x ∷ []) ≡ sum_of xs +ℤ x
sum_push [] x = omega (arith, ints)
sum_push (y ∷ xs) x = let rest : sum_of (xs ++ x ∷ []) ≡ sum_of xs +ℤ x = sum_push xs x in omega (arith, ints, rest)

pub sum_more : {A : Type 0} (f : A → ℤ) (xs : List A) (index : ℕ) (x : A) → index < length xs → sum_of (map f (take (index + 1) xs)) ≡ sum_of (map f (take index xs)) +ℤ f (get_or xs index x)
sum_more f xs index x h = ap (λ ys. sum_of (map f ys)) (take_more xs index x h) ∙ ap sum_of (map_push f (take index xs) (get_or xs index x)) ∙ sum_push (map f (take index xs)) (f (get_or xs index x))

-- the components of a value of a kind
parts_of : (kind : Kind) (v : Value) → kind_of v ≡ kind → components v ≡ parts_for kind (part 0 v) (part 1 v) (part 2 v)
parts_of kind (values.Int x) e = subst (λ k. (x ∷ []) ≡ parts_for k x (pos 0) (pos 0)) e refl
parts_of kind (values.Bool b) e = subst (λ k. [] ≡ parts_for k (pos 0) (pos 0) (pos 0)) e refl
parts_of kind (values.Vec2 x y) e = subst (λ k. (x ∷ y ∷ []) ≡ parts_for k x y (pos 0)) e refl
parts_of kind (values.Vec3 x y z) e = subst (λ k. (x ∷ y ∷ z ∷ []) ≡ parts_for k x y z) e refl
parts_of kind (values.Rgb r g b) e = subst (λ k. (pos r ∷ pos g ∷ pos b ∷ []) ≡ parts_for k (pos r) (pos g) (pos b)) e refl

-- by components
added : (kind : Kind) (x y z a b c : ℤ) → by_component ◌+ℤ◌ (parts_for kind x y z) (parts_for kind a b c) ≡ parts_for kind (x +ℤ a) (y +ℤ b) (z +ℤ c)
added kinds.Int x y z a b c = refl
added kinds.Bool x y z a b c = refl
added kinds.Vec2 x y z a b c = refl
added kinds.Vec3 x y z a b c = refl
added kinds.Rgb x y z a b c = refl

alone : (kind : Kind) (x y z : ℤ) → parts_for kind x y z ≡ parts_for kind (x +ℤ pos 0) (y +ℤ pos 0) (z +ℤ pos 0)
alone kind x y z =
    let e : x ≡ x +ℤ pos 0 = omega (arith, ints) in
    let f : y ≡ y +ℤ pos 0 = omega (arith, ints) in
    let g : z ≡ z +ℤ pos 0 = omega (arith, ints) in
    λ i. parts_for kind (e i) (f i) (g i)

module _ {A : Type 0} (value : A → Value) (kind : Kind) where
  abbrev sums : List A → List ℤ
  sums xs = parts_for kind (sum_of (map (λ x. part 0 (value x)) xs)) (sum_of (map (λ x. part 1 (value x)) xs)) (sum_of (map (λ x. part 2 (value x)) xs))

  pub total_is : (x : A) (xs : List A) → AllByRecursion (λ y. kind_of (value y) ≡ kind) (x ∷ xs) → total (map (λ y. components (value y)) (x ∷ xs)) ≡ sums (x ∷ xs)
  total_is x [] all = parts_of kind (value x) all.0 ∙ alone kind (part 0 (value x)) (part 1 (value x)) (part 2 (value x))
  total_is x (y ∷ xs) all = ap₂ (by_component ◌+ℤ◌) (parts_of kind (value x) all.0) (total_is y xs all.1) ∙ added kind _ _ _ _ _ _

-- ---- a loop over slots

-- a sum of so many numbers of 64 bits
pub record IsSmall (count : ℕ) (x : ℤ) : Type 0 where
  pub high : x ≤ℤ pos (count * 2 ^ 63)
  pub low : pos 0 ≤ℤ (x +ℤ pos (count * 2 ^ 63))

-- what lies in the range of 128 bits
fits_wide : (z : ℤ) → z <ℤ pos (2 ^ 127) → pos 0 ≤ℤ (z +ℤ pos (2 ^ 127)) → FitsSigned w128 z
fits_wide (pos n) h k = record { sfits = omega (arith, ints, h) }
fits_wide (negsuc n) h k = record { sfits = omega (arith, ints, k) }

-- a number of 64 bits, as the code adds it to a sum of few
module _ (count : ℕ) (old x : ℤ) (few : count < 4294967296) (small : IsSmall count old) (fits : FitsSigned w64 x) where
  abbrev more : ℤ
  more = to_z w128 (of_z w128 old) +ℤ to_z w128 (of_z w128 (to_z w64 (of_z w64 x)))

  more_is : more ≡ old +ℤ x
  more_is = omega (arith, ints, small.high, small.low, few, fits)

  pub more_fits : FitsSigned w128 more
  more_fits = fits_wide more (omega (arith, ints, small.high, few, fits, more_is)) (omega (arith, ints, small.low, few, fits, more_is))

  kept : to_z w128 (of_z w128 more) ≡ old +ℤ x
  kept = to_z-of_z w128 more more_fits ∙ more_is

  pub small_more : IsSmall (count + 1) (to_z w128 (of_z w128 more))
  small_more = record { high = omega (arith, ints, small.high, fits, kept); low = omega (arith, ints, small.low, fits, kept) }

  pub sum_step : {A : Type 0} (f : A → ℤ) (xs : List A) (d : A) → count < length xs → old ≡ sum_of (map f (take count xs)) → x ≡ f (get_or xs count d) → to_z w128 (of_z w128 more) ≡ sum_of (map f (take (count + 1) xs))
  sum_step f xs d h e g = kept ∙ ap₂ ◌+ℤ◌ e g ∙ sym (sum_more f xs count d h)

pub fold_step : {A : Type 0} (op : ℤ → ℤ → ℤ) (a : ℤ) (f : A → ℤ) (xs : List A) (index : ℕ) (d : A) (old x new : ℤ) → index < length xs → old ≡ fold op a (map f (take index xs)) → x ≡ f (get_or xs index d) → new ≡ op old x → new ≡ fold op a (map f (take (index + 1) xs))
fold_step op a f xs index d old x new h e g k = k ∙ ap₂ op e g ∙ sym (ap (fold op a) (map_more f xs index d h) ∙ fold_push op a (map f (take index xs)) (f (get_or xs index d)))

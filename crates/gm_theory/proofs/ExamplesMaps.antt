-- Tests of a map that a table gives, and what they show of it.
use Rattle.std.proofs.Common.{◌≡◌, ℕ, ◌+◌, ◌/◌, ◌^◌, ◌<◌, ◌≤◌, Bool, false, ◌&&◌, ◌⊎◌, IsTrue, List, [], ◌∷◌, length, eqb, ltb, leb, ℤ, pos, negsuc, FitsSigned, refl, ◌∙◌, ap, ap₂, inl, inr, arith, w64}
use Rattle.std.proofs.lemmas.Bool.{eqb-true, ltb-true, lt-ltb, leb-true, le-leb, cases_lt}
use Rattle.std.proofs.lemmas.Int.{fits_signed_from_abs}
use Rattle.std.proofs.Math.Nat.{div-eq_of_lt}
use Rattle.std.proofs.Math.Pow.{pow_mono}
use Rattle.gm_model.specs.declared.schema.Schema.{Schema}
use Rattle.gm_model.specs.declared.value.Kind.TheVariants as kinds
use Rattle.gm_model.specs.declared.value.Value.{Value}
use Rattle.gm_model.specs.declared.value.Value.TheVariants as values
use Rattle.gm_model.specs.declared.word.Mask.{Mask}
use Rattle.gm_model.specs.Labels.{has}
use Rattle.gm_model.specs.Maps.{IsConstantOnOrbits, IsGeneralised}
use Rattle.gm_model.specs.Orbits.{Labels, IsPathIn, follow}
use Rattle.gm_model.specs.Values.{IsInValueRange, IsValueOf, kind_of}
use Rattle.gm_theory.proofs.ExamplesChecks.{each_below, each, ◌implies◌, implied}
use Rattle.gm_theory.proofs.Tests.{both_true, not_both}
use Rattle.gm_theory.specs.inner.Examples.{Table, neighbour, map_of}

-- ---- masks

-- the labels of a mask of few bits are few
pub mask_labels : (n : ℕ) (mask : Mask) (i : ℕ) → mask.bits < 2 ^ (n + 1) → IsTrue (has mask i) → i ≤ n
mask_labels n mask i small h = go (cases_lt n i)
  where
    go : (n < i) ⊎ (i ≤ n) → i ≤ n
    go (inr b) = b
    go (inl b) = let larger : 2 ^ (n + 1) ≤ 2 ^ i = pow_mono (omega arith) in
        let none : mask.bits / 2 ^ i ≡ 0 = div-eq_of_lt (omega arith) in
        not_both false (rw none at h) refl

-- ---- neighbours

module _ (schema : Schema) (table : Table) (points : List Value) where
  abbrev dart_test : ℕ → Bool
  dart_test d = each_below (schema.dim + 1) (λ i. ltb (neighbour table i d) (length table) && eqb (neighbour table i (neighbour table i d)) d && each_below (schema.dim + 1) (λ j. leb (i + 2) j implies eqb (neighbour table i (neighbour table j d)) (neighbour table j (neighbour table i d))))

  abbrev pub table_test : Bool
  table_test = each_below (length table) dart_test

  pub table_shown : IsTrue table_test → IsGeneralised (map_of schema table points)
  table_shown t = record {
    stays = λ d i live h. lt-ltb _ _ (ltb-true _ _ (both_true _ _ (both_true _ _ (each (schema.dim + 1) _ (each (length table) dart_test t d (ltb-true d (length table) live)) i (omega arith))).0).0);
    back = λ d i live h. eqb-true _ _ (both_true _ _ (both_true _ _ (each (schema.dim + 1) _ (each (length table) dart_test t d (ltb-true d (length table) live)) i (omega arith))).0).1;
    commutes = λ d i j live far h. eqb-true _ _ (implied (leb (i + 2) j) _ (each (schema.dim + 1) _ (both_true _ _ (each (schema.dim + 1) _ (each (length table) dart_test t d (ltb-true d (length table) live)) i (omega arith))).1 j (omega arith)) (le-leb (i + 2) j far));
  }

-- ---- values

-- what holds along each arc holds over each orbit
pub constant_by_steps : (IsLive : ℕ → Type 0) (alpha : ℕ → ℕ → ℕ) (value : ℕ → Value) (o : Labels) → ((d i : ℕ) → IsLive d → IsTrue (o i) → IsLive (alpha i d) × (value d ≡ value (alpha i d))) → IsConstantOnOrbits IsLive alpha value o
constant_by_steps IsLive alpha value o step d d' live (path, all, e) = go path d live all ∙ ap value e
  where
    go : (path : List ℕ) (c : ℕ) → IsLive c → IsPathIn o path → value c ≡ value (follow alpha path c)
    go [] c live all = refl
    go (i ∷ path) c live all = let s : IsLive (alpha i c) × (value c ≡ value (alpha i c)) = step c i live all.0 in s.1 ∙ go path (alpha i c) s.0 all.1

-- a point whose numbers are small, and the same point
abbrev pub small : ℤ → Bool
small (pos n) = leb n 1000
small (negsuc n) = false

abbrev pub is_point : Value → Bool
is_point (values.Vec3 x y z) = small x && small y && small z
is_point (values.Int x) = false
is_point (values.Bool b) = false
is_point (values.Vec2 x y) = false
is_point (values.Rgb r g b) = false

pub small_fits : (x : ℤ) → IsTrue (small x) → FitsSigned w64 x
small_fits (pos n) h = let b : n ≤ 1000 = leb-true n 1000 h in fits_signed_from_abs w64 (pos n) (omega arith)
small_fits (negsuc n) h = not_both false h refl

point_kind : (v : Value) → IsTrue (is_point v) → kind_of v ≡ kinds.Vec3
point_kind (values.Vec3 x y z) h = refl
point_kind (values.Int x) h = not_both false h refl
point_kind (values.Bool b) h = not_both false h refl
point_kind (values.Vec2 x y) h = not_both false h refl
point_kind (values.Rgb r g b) h = not_both false h refl

point_range : (v : Value) → IsTrue (is_point v) → IsInValueRange v
point_range (values.Vec3 x y z) h = (small_fits x (both_true _ _ (both_true _ _ h).0).0, small_fits y (both_true _ _ (both_true _ _ h).0).1, small_fits z (both_true _ _ h).1)
point_range (values.Int x) h = not_both false h refl
point_range (values.Bool b) h = not_both false h refl
point_range (values.Vec2 x y) h = not_both false h refl
point_range (values.Rgb r g b) h = not_both false h refl

-- it is a value of the kind of points
pub point_value : (v : Value) → IsTrue (is_point v) → IsValueOf kinds.Vec3 v
point_value v h = record { kind_is = point_kind v h; range = point_range v h }

abbrev same_number : ℤ → ℤ → Bool
same_number (pos m) (pos n) = eqb m n
same_number (pos m) (negsuc n) = false
same_number (negsuc m) y = false

number_shown : (x y : ℤ) → IsTrue (same_number x y) → x ≡ y
number_shown (pos m) (pos n) h = ap pos (eqb-true m n h)
number_shown (pos m) (negsuc n) h = not_both false h refl
number_shown (negsuc m) y h = not_both false h refl

abbrev pub same_point : Value → Value → Bool
same_point (values.Vec3 x y z) (values.Vec3 a b c) = same_number x a && same_number y b && same_number z c
same_point v w = false

pub point_shown : (v w : Value) → IsTrue (same_point v w) → v ≡ w
point_shown (values.Vec3 x y z) (values.Vec3 a b c) h =
    let e : x ≡ a = number_shown x a (both_true _ _ (both_true _ _ h).0).0 in
    let f : y ≡ b = number_shown y b (both_true _ _ (both_true _ _ h).0).1 in
    let g : z ≡ c = number_shown z c (both_true _ _ h).1 in
    ap₂ (λ s t. values.Vec3 s t z) e f ∙ ap (values.Vec3 a b) g
point_shown v w h = not_both false h refl

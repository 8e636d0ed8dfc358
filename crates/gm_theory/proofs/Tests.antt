-- Tests and their answers, and a search below a bound.
use Rattle.std.proofs.Common.{◌≡◌, ℕ, zero, suc, ◌<◌, Bool, true, false, not, ◌&&◌, ◌⊎◌, IsTrue, refl, sym, ◌∙◌, inl, inr, arith, below_more}
use Rattle.std.proofs.lemmas.Bool.Decides.{eqb_tells}

pub both_true : (a b : Bool) → IsTrue (a && b) → IsTrue a × IsTrue b
both_true true true h = (refl, refl)
both_true true false h = (refl, h)
both_true false b h = absurd (let e : false ≡ true = h in (cc))

pub and_true : (a b : Bool) → IsTrue a → IsTrue b → IsTrue (a && b)
and_true true true h k = refl
and_true true false h k = k
and_true false b h k = h

pub not_true : (b : Bool) → IsTrue (not b) → b ≡ false
not_true true h = sym h
not_true false h = refl

pub true_not : (b : Bool) → b ≡ false → IsTrue (not b)
true_not true h = sym h
true_not false h = refl

pub true_or_false : (b : Bool) → IsTrue b ⊎ (b ≡ false)
true_or_false true = inl refl
true_or_false false = inr refl

pub not_both : {A : Type 0} (b : Bool) → b ≡ true → b ≡ false → A
not_both b h k = absurd (let e : true ≡ false = sym h ∙ k in (cc))

pub same_or_not : (a b : ℕ) → (a ≡ b) ⊎ (a ≡ b → ⊥)
same_or_not a b = elim (eqb_tells a b) [ inl h ↦ inl h.1 | inr h ↦ inr h.1 ]

-- some number below the bound has P, or none does
pub search_below : (P : ℕ → Type 0) → ((x : ℕ) → P x ⊎ (P x → ⊥)) → (n : ℕ) → ((x : ℕ) × (x < n) × P x) ⊎ ((x : ℕ) → x < n → P x → ⊥)
search_below P decide zero = inr (λ x h p. absurd (omega arith))
search_below P decide (suc n) = go (decide n) (search_below P decide n)
  where
    go : P n ⊎ (P n → ⊥) → ((x : ℕ) × (x < n) × P x) ⊎ ((x : ℕ) → x < n → P x → ⊥) → ((x : ℕ) × (x < suc n) × P x) ⊎ ((x : ℕ) → x < suc n → P x → ⊥)
    go (inl p) before = inl (n, omega arith, p)
    go (inr none) (inl (x, h, p)) = inl (x, omega arith, p)
    go (inr none) (inr before) = inr (λ x h p. below_more (λ k. P k → ⊥) n before none x (omega arith) p)

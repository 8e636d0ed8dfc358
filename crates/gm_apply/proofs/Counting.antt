-- How many darts a map has, how many of them go, and how many stay.
use Rattle.std.proofs.Common.{◌≡◌, ℕ, zero, suc, ◌+◌, ◌-◌, ◌<◌, ◌≤◌, Bool, true, false, ◌⊎◌, inl, inr, ◌↔◌, List, [], ◌∷◌, length, slice_index, eqb, eqb-true, eq-eqb, refl, sym, ap, subst, ◌∙◌, arith}
use Rattle.std.proofs.lemmas.Bool.{eqb-true}
use Rattle.std.proofs.lemmas.List.{get_or_default}
use Rattle.std.specs.List.{Contains}
use Rattle.gm_model.specs.Orbits.{HasNoRepeats, HasCount}
use Rattle.gm_theory.proofs.ValuesUnique.{one_count}

-- ---- lists without repeats

here : (v : ℕ) (xs : List ℕ) → Contains (v ∷ xs) v
here v xs = (0, omega arith, refl)

later : (v d : ℕ) (xs : List ℕ) → Contains xs d → Contains (v ∷ xs) d
later v d xs (k, within, is) = (suc k, omega (arith, within), is)

either : (v d : ℕ) (xs : List ℕ) → Contains (v ∷ xs) d → (d ≡ v) ⊎ Contains xs d
either v d xs (zero, within, is) = inl (sym is)
either v d xs (suc k, within, is) = inr (k, omega (arith, within), is)

index_contained : (xs : List ℕ) (p : ℕ) → p < length xs → Contains xs (slice_index xs p)
index_contained [] p within = absurd (omega arith)
index_contained (x ∷ xs) zero within = here x xs
index_contained (x ∷ xs) (suc p) within = later x (slice_index xs p) xs (index_contained xs p (omega arith))

no_repeat_more : (v : ℕ) (xs : List ℕ) → (Contains xs v → ⊥) → HasNoRepeats xs → HasNoRepeats (v ∷ xs)
no_repeat_more v xs new distinct p zero before within = absurd (omega arith)
no_repeat_more v xs new distinct zero (suc q) before within = λ e. new (subst (Contains xs) (sym e) (index_contained xs q (omega arith)))
no_repeat_more v xs new distinct (suc p) (suc q) before within = distinct p q (omega arith) (omega arith)

tail_distinct : (v : ℕ) (xs : List ℕ) → HasNoRepeats (v ∷ xs) → HasNoRepeats xs
tail_distinct v xs distinct p q before within = distinct (suc p) (suc q) (omega arith) (omega arith)

head_new : (v : ℕ) (xs : List ℕ) → HasNoRepeats (v ∷ xs) → Contains xs v → ⊥
head_new v xs distinct (k, within, is) = distinct 0 (suc k) (omega arith) (omega arith) (sym (get_or_default xs k 0 v within ∙ is))

-- ---- counts

pub count_none : (P : ℕ → Type 0) → ((d : ℕ) → P d → ⊥) → HasCount P 0
count_none P none = ([], record { distinct = λ p q before within. absurd (omega arith); same = λ d. (λ c. absurd (omega (arith, c.1)), λ p. absurd (none d p)) }, refl)

pub count_same : (P Q : ℕ → Type 0) (n : ℕ) → ((d : ℕ) → P d ↔ Q d) → HasCount P n → HasCount Q n
count_same P Q n same (xs, list, long) = (xs, record { distinct = list.distinct; same = λ d. (λ c. (same d).0 ((list.same d).0 c), λ q. (list.same d).1 ((same d).1 q)) }, long)

-- one more
pub count_more : (P : ℕ → Type 0) (n v : ℕ) → (P v → ⊥) → HasCount P n → HasCount (λ d. (d ≡ v) ⊎ P d) (suc n)
count_more P n v new (xs, list, long) =
    (v ∷ xs, record { distinct = no_repeat_more v xs (λ c. new ((list.same v).0 c)) list.distinct; same = λ d. (to d, back d) }, ap suc long)
  where
    to : (d : ℕ) → Contains (v ∷ xs) d → (d ≡ v) ⊎ P d
    to d c = go (either v d xs c)
      where
        go : (d ≡ v) ⊎ Contains xs d → (d ≡ v) ⊎ P d
        go (inl e) = inl e
        go (inr c) = inr ((list.same d).0 c)

    back : (d : ℕ) → (d ≡ v) ⊎ P d → Contains (v ∷ xs) d
    back d (inl e) = subst (Contains (v ∷ xs)) (sym e) (here v xs)
    back d (inr p) = later v d xs ((list.same d).1 p)

-- those of a list that are in another, and those that aren't
record AreParted (xs gone : List ℕ) : Type 0 where
  some : ℕ
  others : ℕ
  some_are : HasCount (λ d. Contains xs d × Contains gone d) some
  others_are : HasCount (λ d. Contains xs d × (Contains gone d → ⊥)) others
  together : some + others ≡ length xs

is_contained : (xs : List ℕ) (d : ℕ) → Contains xs d ⊎ (Contains xs d → ⊥)
is_contained [] d = inr (λ c. absurd (omega (arith, c.1)))
is_contained (x ∷ xs) d = go (eqb d x) refl (is_contained xs d)
  where
    go : (b : Bool) → eqb d x ≡ b → Contains xs d ⊎ (Contains xs d → ⊥) → Contains (x ∷ xs) d ⊎ (Contains (x ∷ xs) d → ⊥)
    go true e rest = inl (subst (Contains (x ∷ xs)) (sym (eqb-true d x e)) (here x xs))
    go false e (inl c) = inl (later x d xs c)
    go false e (inr none) = inr (λ c. out (either x d xs c))
      where
        out : (d ≡ x) ⊎ Contains xs d → ⊥
        out (inl f) = let both : true ≡ false = sym (eq-eqb d x f) ∙ e in absurd cc
        out (inr c) = none c

one_more : (x : ℕ) (xs gone : List ℕ) → AreParted xs gone → (Contains xs x → ⊥) → Contains gone x ⊎ (Contains gone x → ⊥) → AreParted (x ∷ xs) gone
one_more x xs gone rest new (inl c) = record {
  some = suc rest.some;
  others = rest.others;
  some_are = count_same (λ d. (d ≡ x) ⊎ (Contains xs d × Contains gone d)) (λ d. Contains (x ∷ xs) d × Contains gone d) (suc rest.some) (λ d. (to d, back d)) (count_more (λ d. Contains xs d × Contains gone d) rest.some x (λ h. new h.0) rest.some_are);
  others_are = count_same (λ d. Contains xs d × (Contains gone d → ⊥)) (λ d. Contains (x ∷ xs) d × (Contains gone d → ⊥)) rest.others (λ d. (λ h. (later x d xs h.0, h.1), λ h. (other d (either x d xs h.0) h.1, h.1))) rest.others_are;
  together = let t = rest.together in omega (arith, t);
}
  where
    to : (d : ℕ) → (d ≡ x) ⊎ (Contains xs d × Contains gone d) → Contains (x ∷ xs) d × Contains gone d
    to d (inl e) = subst (λ v. Contains (x ∷ xs) v × Contains gone v) (sym e) (here x xs, c)
    to d (inr h) = (later x d xs h.0, h.1)

    back : (d : ℕ) → Contains (x ∷ xs) d × Contains gone d → (d ≡ x) ⊎ (Contains xs d × Contains gone d)
    back d h = by (either x d xs h.0)
      where
        by : (d ≡ x) ⊎ Contains xs d → (d ≡ x) ⊎ (Contains xs d × Contains gone d)
        by (inl e) = inl e
        by (inr in_xs) = inr (in_xs, h.1)

    other : (d : ℕ) → (d ≡ x) ⊎ Contains xs d → (Contains gone d → ⊥) → Contains xs d
    other d (inl e) none = absurd (none (subst (Contains gone) (sym e) c))
    other d (inr in_xs) none = in_xs
one_more x xs gone rest new (inr none) = record {
  some = rest.some;
  others = suc rest.others;
  some_are = count_same (λ d. Contains xs d × Contains gone d) (λ d. Contains (x ∷ xs) d × Contains gone d) rest.some (λ d. (λ h. (later x d xs h.0, h.1), λ h. (other d (either x d xs h.0) h.1, h.1))) rest.some_are;
  others_are = count_same (λ d. (d ≡ x) ⊎ (Contains xs d × (Contains gone d → ⊥))) (λ d. Contains (x ∷ xs) d × (Contains gone d → ⊥)) (suc rest.others) (λ d. (to d, back d)) (count_more (λ d. Contains xs d × (Contains gone d → ⊥)) rest.others x (λ h. new h.0) rest.others_are);
  together = let t = rest.together in omega (arith, t);
}
  where
    to : (d : ℕ) → (d ≡ x) ⊎ (Contains xs d × (Contains gone d → ⊥)) → Contains (x ∷ xs) d × (Contains gone d → ⊥)
    to d (inl e) = subst (λ v. Contains (x ∷ xs) v × (Contains gone v → ⊥)) (sym e) (here x xs, none)
    to d (inr h) = (later x d xs h.0, h.1)

    back : (d : ℕ) → Contains (x ∷ xs) d × (Contains gone d → ⊥) → (d ≡ x) ⊎ (Contains xs d × (Contains gone d → ⊥))
    back d h = by (either x d xs h.0)
      where
        by : (d ≡ x) ⊎ Contains xs d → (d ≡ x) ⊎ (Contains xs d × (Contains gone d → ⊥))
        by (inl e) = inl e
        by (inr in_xs) = inr (in_xs, h.1)

    other : (d : ℕ) → (d ≡ x) ⊎ Contains xs d → Contains gone d → Contains xs d
    other d (inl e) c = absurd (none (subst (Contains gone) e c))
    other d (inr in_xs) c = in_xs

parted : (xs gone : List ℕ) → HasNoRepeats xs → AreParted xs gone
parted [] gone distinct = record {
  some = 0;
  others = 0;
  some_are = count_none (λ d. Contains [] d × Contains gone d) (λ d c. absurd (omega (arith, c.0.1)));
  others_are = count_none (λ d. Contains [] d × (Contains gone d → ⊥)) (λ d c. absurd (omega (arith, c.0.1)));
  together = refl;
}
parted (x ∷ xs) gone distinct = one_more x xs gone (parted xs gone (tail_distinct x xs distinct)) (head_new x xs distinct) (is_contained gone x)

-- so many are left where some of them go
pub count_left : (P Gone : ℕ → Type 0) (n g : ℕ) → ((d : ℕ) → Gone d → P d) → HasCount P n → HasCount Gone g → (g ≤ n) × HasCount (λ d. P d × (Gone d → ⊥)) (n - g)
count_left P Gone n g among (xs, list, long) (ys, gone, length_is) =
    (omega (arith, parts.together, long, same), subst (HasCount (λ d. P d × (Gone d → ⊥))) left left_are)
  where
    parts : AreParted xs ys
    parts = parted xs ys list.distinct

    some_gone : HasCount Gone parts.some
    some_gone = count_same (λ d. Contains xs d × Contains ys d) Gone parts.some (λ d. (λ h. (gone.same d).0 h.1, λ h. ((list.same d).1 (among d h), (gone.same d).1 h))) parts.some_are

    same : parts.some ≡ g
    same = one_count Gone parts.some g some_gone (ys, gone, length_is)

    left : parts.others ≡ n - g
    left = omega (arith, parts.together, long, same)

    left_are : HasCount (λ d. P d × (Gone d → ⊥)) parts.others
    left_are = count_same (λ d. Contains xs d × (Contains ys d → ⊥)) (λ d. P d × (Gone d → ⊥)) parts.others
        (λ d. (λ h. ((list.same d).0 h.0, λ g. h.1 ((gone.same d).1 g)), λ h. ((list.same d).1 h.0, λ c. h.1 ((gone.same d).0 c)))) parts.others_are

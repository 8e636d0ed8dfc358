-- A walk is determined by where it begins, and leads from live darts to live darts.
use Rattle.std.proofs.Common.{◌≡◌, ℕ, zero, suc, ◌<◌, ◌⊎◌, List, [], ◌∷◌, length, take, Some, slice_get, sym, ◌∙◌, ap, subst, inl, inr, arith, length-take}
use Rattle.std.proofs.lemmas.Bool.{cases_order}
use Rattle.std.proofs.lemmas.List.{get_or_default, get_or-take, ext_get_or}
use Rattle.std.specs.List.{Contains}
use Rattle.std.specs.Prelude.{slice_index}
use Rattle.gm_model.specs.Orbits.{IsPairBefore, IsLeastStep, IsWalk, HasNoRepeats}
use Rattle.gm_theory.proofs.Lists.{some_same, none_some}

pub first_at : (xs : List ℕ) (d : ℕ) → slice_get xs 0 ≡ Some d → slice_index xs 0 ≡ d
first_at [] d e = none_some d e
first_at (x ∷ xs) d e = some_same x d e

-- an element of a list has a place
pub contains_at : (xs : List ℕ) (v : ℕ) → Contains xs v → (k : ℕ) × (k < length xs) × (slice_index xs k ≡ v)
contains_at xs v (k, h, e) = (k, h, get_or_default xs k 0 v h ∙ e)

-- an element of the first p has a place below p
pub contains_before : (xs : List ℕ) (p v : ℕ) → Contains (take p xs) v → (k : ℕ) × (k < p) × (k < length xs) × (slice_index xs k ≡ v)
contains_before xs p v (k, h, e) =
    let b : k < p = omega (arith, length-take p xs) in
    let c : k < length xs = omega (arith, length-take p xs) in
    (k, b, c, get_or_default xs k 0 v c ∙ sym (get_or-take p xs k v b) ∙ e)

-- two places of a list without repeats that hold one dart are one
pub same_place : (xs : List ℕ) (p q : ℕ) → HasNoRepeats xs → p < length xs → q < length xs → slice_index xs p ≡ slice_index xs q → p ≡ q
same_place xs p q distinct h k e = go (cases_order p q)
  where
    go : (p ≡ q) ⊎ ((p < q) ⊎ (q < p)) → p ≡ q
    go (inl same) = same
    go (inr (inl less)) = absurd (distinct p q less k e)
    go (inr (inr more)) = absurd (distinct q p more h (sym e))

-- two pairs are one, or one comes first
pub pair_order : (q l q' l' : ℕ) → ((q ≡ q') × (l ≡ l')) ⊎ (IsPairBefore q l q' l' ⊎ IsPairBefore q' l' q l)
pair_order q l q' l' = go (cases_order q q') (cases_order l l')
  where
    go : (q ≡ q') ⊎ ((q < q') ⊎ (q' < q)) → (l ≡ l') ⊎ ((l < l') ⊎ (l' < l)) → ((q ≡ q') × (l ≡ l')) ⊎ (IsPairBefore q l q' l' ⊎ IsPairBefore q' l' q l)
    go (inr (inl h)) other = inr (inl (inl h))
    go (inr (inr h)) other = inr (inr (inl h))
    go (inl e) (inl f) = inl (e, f)
    go (inl e) (inr (inl h)) = inr (inl (inr (e, h)))
    go (inl e) (inr (inr h)) = inr (inr (inr (sym e, h)))

module _ (next : ℕ → ℕ → ℕ) (width : ℕ) where
  -- each dart of a walk has what its first dart has, and each step keeps
  pub walk_keeps : (P : ℕ → Type 0) (d : ℕ) (walk : List ℕ) → IsWalk next width d walk → P d → ((e l : ℕ) → l < width → P e → P (next e l)) → (n p : ℕ) → p < n → p < length walk → P (slice_index walk p)
  walk_keeps P d walk w first keep zero p h b = absurd (omega arith)
  walk_keeps P d walk w first keep (suc n) zero h b = subst P (sym (first_at walk d w.starts)) first
  walk_keeps P d walk w first keep (suc n) (suc p) h b = go (w.least (suc p) (omega arith) b) (λ q k c. walk_keeps P d walk w first keep n q k c)
    where
      go : (q : ℕ) × (l : ℕ) × IsLeastStep next width walk (suc p) q l → ((q : ℕ) → q < n → q < length walk → P (slice_index walk q)) → P (slice_index walk (suc p))
      go (q, l, s) rest = let a : q < suc p = s.earlier in subst P (sym s.leads) (keep (slice_index walk q) l s.place (rest q (omega arith) (omega arith)))

  -- two walks from one dart agree at each place that both have
  agree : (d : ℕ) (a b : List ℕ) → IsWalk next width d a → IsWalk next width d b → (n p : ℕ) → p < n → p < length a → p < length b → slice_index a p ≡ slice_index b p
  agree d a b u w zero p h ha hb = absurd (omega arith)
  agree d a b u w (suc n) zero h ha hb = first_at a d u.starts ∙ sym (first_at b d w.starts)
  agree d a b u w (suc n) (suc p) h ha hb = go (u.least (suc p) (omega arith) ha) (w.least (suc p) (omega arith) hb) (λ q k c c'. agree d a b u w n q k c c')
    where
      go : (q : ℕ) × (l : ℕ) × IsLeastStep next width a (suc p) q l → (q : ℕ) × (l : ℕ) × IsLeastStep next width b (suc p) q l → ((q : ℕ) → q < n → q < length a → q < length b → slice_index a q ≡ slice_index b q) → slice_index a (suc p) ≡ slice_index b (suc p)
      go (q, l, s) (q', l', s') rest = order (pair_order q l q' l')
        where
          same : (k : ℕ) → k < suc p → slice_index a k ≡ slice_index b k
          same k c = rest k (omega arith) (omega arith) (omega arith)

          order : ((q ≡ q') × (l ≡ l')) ⊎ (IsPairBefore q l q' l' ⊎ IsPairBefore q' l' q l) → slice_index a (suc p) ≡ slice_index b (suc p)
          order (inl (e, f)) = s.leads ∙ ap (λ x. next x l) (same q s.earlier) ∙ ap (next (slice_index b q)) f ∙ ap (λ x. next (slice_index b x) l') e ∙ sym s'.leads
          order (inr (inl before)) = absurd (early (contains_before b (suc p) (next (slice_index b q) l) (s'.least q l before s.place)))
            where
              early : (k : ℕ) × (k < suc p) × (k < length b) × (slice_index b k ≡ next (slice_index b q) l) → ⊥
              early (k, c, c', e) = u.distinct k (suc p) c ha (same k c ∙ e ∙ ap (λ x. next x l) (sym (same q s.earlier)) ∙ sym s.leads)
          order (inr (inr before)) = absurd (early (contains_before a (suc p) (next (slice_index a q') l') (s.least q' l' before s'.place)))
            where
              early : (k : ℕ) × (k < suc p) × (k < length a) × (slice_index a k ≡ next (slice_index a q') l') → ⊥
              early (k, c, c', e) = w.distinct k (suc p) c hb (sym (same k c) ∙ e ∙ ap (λ x. next x l') (same q' s'.earlier) ∙ sym s'.leads)

  no_shorter : (d : ℕ) (a b : List ℕ) → IsWalk next width d a → IsWalk next width d b → length a < length b → ⊥
  no_shorter d a b u w h = go (w.least (length a) positive h)
    where
      positive : 0 < length a
      positive = some_length a d u.starts
        where
          some_length : (xs : List ℕ) (x : ℕ) → slice_get xs 0 ≡ Some x → 0 < length xs
          some_length [] x e = none_some x e
          some_length (y ∷ xs) x e = omega arith

      same : (k : ℕ) → k < length a → slice_index a k ≡ slice_index b k
      same k c = agree d a b u w (suc k) k (omega arith) c (omega arith)

      go : (q : ℕ) × (l : ℕ) × IsLeastStep next width b (length a) q l → ⊥
      go (q, l, s) = end (contains_at a (next (slice_index a q) l) (u.closed q l (inl s.earlier) s.earlier s.place))
        where
          end : (k : ℕ) × (k < length a) × (slice_index a k ≡ next (slice_index a q) l) → ⊥
          end (k, c, e) = w.distinct k (length a) c h (sym (same k c) ∙ e ∙ ap (λ x. next x l) (same q s.earlier) ∙ sym s.leads)

  -- there is one walk from a dart
  pub walk_unique : (d : ℕ) (a b : List ℕ) → IsWalk next width d a → IsWalk next width d b → a ≡ b
  walk_unique d a b u w = go (cases_order (length a) (length b))
    where
      go : (length a ≡ length b) ⊎ ((length a < length b) ⊎ (length b < length a)) → a ≡ b
      go (inl e) = ext_get_or 0 a b e (λ i h. agree d a b u w (suc i) i (omega arith) h (omega arith))
      go (inr (inl h)) = absurd (no_shorter d a b u w h)
      go (inr (inr h)) = absurd (no_shorter d b a w u h)

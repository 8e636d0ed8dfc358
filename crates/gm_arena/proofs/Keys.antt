-- The names of the live darts, ascending: each is among the keys of the map once, and they are as many as the darts.
use Rattle.std.proofs.Common.{◌≡◌, ℕ, zero, suc, ◌<◌, Bool, true, false, List, [], ◌∷◌, T, Less, Equal, Greater, ◌&&◌, length, get_or, map, refl, sym, ap, subst, ◌∙◌, inl, inr, arith}
use Rattle.std.specs.List.{Contains}
use Rattle.std.specs.Ordering.{nat_cmp, eq_by_cmp, is_lt, is_eq}
use Rattle.std.specs.Cmp.{nat_cmp_is}
use Rattle.std.specs.FinMap.{keys, entries, entries_sorted, is_sorted, contains_key-keys, len-entries}
use Rattle.std.specs.FinMap.Entries.{below_all}
use Rattle.std.proofs.lemmas.Bool.{cases_order, false≢true}
use Rattle.std.proofs.lemmas.List.{get_or_default, length-map}
use Rattle.std.proofs.lemmas.List.Folds.{list_any_at}
use Rattle.std.proofs.lemmas.Map.Views.{Contains-from_any}
use Rattle.gm_model.specs.Maps.{IsDart}
use Rattle.gm_model.specs.Orbits.{HasCount}
use Rattle.gm_arena.specs.inner.ArenaAsMap.{as_map}
use Rattle.gm_arena.specs.inner.ArenaMap.{ArenaMap, IsLiveName}
use Rattle.gm_arena.specs.inner.Lawful.{IsLawful}

both : (a b : Bool) → T (a && b) → T a × T b
both true b h = (tt, h)
both false b h = absurd h

less : (a b : ℕ) → T (is_lt (nat_cmp a b)) → a < b
less a b h = elim (cases_order a b) [
  | inl e ↦ absurd (subst (λ r. T (is_lt r)) (sym (nat_cmp_is a b Equal e)) h)
  | inr (inl l) ↦ l
  | inr (inr l) ↦ absurd (subst (λ r. T (is_lt r)) (sym (nat_cmp_is a b Greater l)) h)
]

same : (a b : ℕ) → eq_by_cmp nat_cmp a b ≡ true → a ≡ b
same a b h = elim (cases_order a b) [
  | inl e ↦ e
  | inr (inl l) ↦ absurd (false≢true (ap is_eq (nat_cmp_is a b Less l) ∙ h))
  | inr (inr l) ↦ absurd (false≢true (ap is_eq (nat_cmp_is a b Greater l) ∙ h))
]

above_all : {X : Type 0} (x : ℕ) (es : List (ℕ × X)) → T (below_all nat_cmp x es) → (q : ℕ) → q < length es → x < get_or (map (λ e. e.0) es) q 0
above_all x [] h q k = absurd (omega arith)
above_all x (e ∷ es) h zero k = less x e.0 (both _ _ h).0
above_all x (e ∷ es) h (suc q) k = above_all x es (both _ _ h).1 q (omega arith)

rises : {X : Type 0} (es : List (ℕ × X)) → T (is_sorted nat_cmp es) → (p q : ℕ) → p < q → q < length es → get_or (map (λ e. e.0) es) p 0 < get_or (map (λ e. e.0) es) q 0
rises [] s p q h k = absurd (omega arith)
rises (e ∷ es) s p zero h k = absurd (omega arith)
rises (e ∷ es) s zero (suc q) h k = above_all e.0 es (both _ _ s).0 q (omega arith)
rises (e ∷ es) s (suc p) (suc q) h k = rises es (both _ _ s).1 p q (omega arith) (omega arith)

module _ (m : ArenaMap) where
  pub rising : (p q : ℕ) → p < q → q < length (keys m.darts) → get_or (keys m.darts) p 0 < get_or (keys m.darts) q 0
  rising p q h k = rises (entries m.darts) (entries_sorted m.darts) p q h (omega (arith, length-map (entries m.darts) (λ e. e.0)))

  -- a live name has a place
  pub named : (d : ℕ) → IsLiveName m d → (p : ℕ) × (p < length (keys m.darts)) × (get_or (keys m.darts) p 0 ≡ d)
  named d live =
      let c : Contains (keys m.darts) d = Contains-from_any same d (keys m.darts) (sym (contains_key-keys m.darts d) ∙ live) in
      (c.0, c.1, get_or_default (keys m.darts) c.0 0 d c.1 ∙ c.2)

  pub live : (p d : ℕ) → p < length (keys m.darts) → IsLiveName m (get_or (keys m.darts) p d)
  live p d h = contains_key-keys m.darts _ ∙ list_any_at (eq_by_cmp nat_cmp (get_or (keys m.darts) p d)) (keys m.darts) p d h (ap is_eq (sym (nat_cmp_is (get_or (keys m.darts) p d) (get_or (keys m.darts) p d) Equal refl)))

  -- the live darts are as many as the arena counts
  pub darts_counted : IsLawful m → HasCount (IsDart (as_map m)) m.count
  darts_counted lawful = (keys m.darts, record { distinct = distinct; same = λ d. (to d, back d) }, long)
    where
      distinct : (p q : ℕ) → p < q → q < length (keys m.darts) → get_or (keys m.darts) p 0 ≡ get_or (keys m.darts) q 0 → ⊥
      distinct p q before within e = let l = rising p q before within in omega (arith, l, e)

      to : (d : ℕ) → Contains (keys m.darts) d → IsDart (as_map m) d
      to d (k, within, is) = subst (IsLiveName m) is (live k d within)

      back : (d : ℕ) → IsDart (as_map m) d → Contains (keys m.darts) d
      back d one = let at = named d one in (at.0, at.1, sym (get_or_default (keys m.darts) at.0 0 d at.1) ∙ at.2)

      long : length (keys m.darts) ≡ m.count
      long = length-map (entries m.darts) (λ e. e.0) ∙ sym (len-entries m.darts) ∙ sym lawful.counted

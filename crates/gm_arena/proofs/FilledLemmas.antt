-- What the finite map of a list has at a number.
use Rattle.std.proofs.Common.{◌≡◌, ◌≢◌, ℕ, zero, suc, ◌+◌, ◌-◌, ◌<◌, Bool, true, false, ◌&&◌, T, cond, List, [], ◌∷◌, get_or, map, Option, Some, None, refl, sym, ap, ◌∙◌, inl, inr, arith, add-zero, zero-add}
use Rattle.std.specs.Cmp.{nat_cmp_total, nat_cmp_is}
use Rattle.std.specs.Ordering.{nat_cmp, eq_by_cmp}
use Rattle.std.specs.FinMap.{FinMap, get, keys, find, is_sorted, insert, remove, same_map, nat_cmp-IsAntisymmetric, get-from_sorted, entries-from_sorted, get-insert, get-remove, len, len-insert, len-remove}
use Rattle.std.specs.FinMap.Entries.{below_all}
use Rattle.std.specs.declared.cmp.Ordering.TheVariants.{Less, Equal, Greater}
use Rattle.std.proofs.lemmas.Bool.{cases_lt}
use Rattle.slab.specs.Slab.{entries_from}
use Rattle.gm_arena.specs.inner.Filled.{filled}

less : (x y : ℕ) → x < y → nat_cmp x y ≡ Less
less x y h = sym (nat_cmp_is x y Less h)

tied : (x : ℕ) → nat_cmp x x ≡ Equal
tied x = sym (nat_cmp_is x x Equal refl)

greater : (x y : ℕ) → y < x → nat_cmp x y ≡ Greater
greater x y h = sym (nat_cmp_is x y Greater h)

both : (a b : Bool) → T a → T b → T (a && b)
both true b p q = q
both false b p q = p

apart : {A : Type 0} (x y : ℕ) (a b : A) → x ≢ y → cond (eq_by_cmp nat_cmp x y) a b ≡ b
apart x y a b h = elim (cases_lt x y) [
  | inl l ↦ rw (less x y l) refl
  | inr l ↦ rw (greater x y (omega arith)) refl
]

module _ {X : Type 0} where
  below_entries : (x k : ℕ) (xs : List (Option X)) → x < k → T (below_all nat_cmp x (entries_from k xs))
  below_entries x k [] h = tt
  below_entries x k (None ∷ xs) h = below_entries x (k + 1) xs (omega arith)
  below_entries x k (Some v ∷ xs) h = rw (less x k h) (below_entries x (k + 1) xs (omega arith))

  entries_sorted : (k : ℕ) (xs : List (Option X)) → T (is_sorted nat_cmp (entries_from k xs))
  entries_sorted k [] = tt
  entries_sorted k (None ∷ xs) = entries_sorted (k + 1) xs
  entries_sorted k (Some v ∷ xs) = both _ _ (below_entries k (k + 1) xs (omega arith)) (entries_sorted (k + 1) xs)

  find_below : (q k : ℕ) (xs : List (Option X)) → q < k → find nat_cmp q (entries_from k xs) ≡ None
  find_below q k [] h = refl
  find_below q k (None ∷ xs) h = find_below q (k + 1) xs (omega arith)
  find_below q k (Some v ∷ xs) h = rw (less q k h) (find_below q (k + 1) xs (omega arith))

  find-entries : (k i : ℕ) (xs : List (Option X)) → find nat_cmp (k + i) (entries_from k xs) ≡ get_or xs i None
  find-entries k i [] = refl
  find-entries k zero (None ∷ xs) = rw add-zero (find_below k (k + 1) xs (omega arith))
  find-entries k (suc i) (None ∷ xs) = let e : k + suc i ≡ k + 1 + i = omega arith in rw e (find-entries (k + 1) i xs)
  find-entries k zero (Some v ∷ xs) = rw (add-zero, tied k) refl
  find-entries k (suc i) (Some v ∷ xs) =
      let e : k + suc i ≡ k + 1 + i = omega arith in
      rw (greater (k + suc i) k (omega arith)) (ap (λ q. find nat_cmp q (entries_from (k + 1) xs)) e ∙ find-entries (k + 1) i xs)

  pub get-filled : (xs : List (Option X)) (q : ℕ) → get (filled xs) q ≡ get_or xs q None
  unfolding filled
  get-filled xs q =
      get-from_sorted nat_cmp (entries_from 0 xs) q (entries_sorted 0 xs) ∙ (ap (λ k. find nat_cmp k (entries_from 0 xs)) (sym (zero-add q)) ∙ find-entries 0 q xs)

  -- its keys are the places that hold something
  pub keys-filled : (xs : List (Option X)) → keys (filled xs) ≡ map (λ e. e.0) (entries_from 0 xs)
  unfolding filled
  keys-filled xs = ap (map (λ e. e.0)) (entries-from_sorted nat_cmp (entries_from 0 xs) (entries_sorted 0 xs))

  -- maps that answer alike are equal
  pub same_maps : (m n : FinMap nat_cmp X) → ((q : ℕ) → get m q ≡ get n q) → m ≡ n
  same_maps m n h = same_map nat_cmp_total nat_cmp-IsAntisymmetric m n h

  pub get-insert_same : (m : FinMap nat_cmp X) (k : ℕ) (v : X) → get (insert m k v) k ≡ Some v
  get-insert_same m k v = get-insert nat_cmp_total m k v k ∙ rw (tied k) refl

  pub get-insert_other : (m : FinMap nat_cmp X) (k : ℕ) (v : X) (q : ℕ) → q ≢ k → get (insert m k v) q ≡ get m q
  get-insert_other m k v q h = get-insert nat_cmp_total m k v q ∙ apart q k _ _ h

  pub get-remove_same : (m : FinMap nat_cmp X) (k : ℕ) → get (remove m k) k ≡ None
  get-remove_same m k = get-remove nat_cmp_total m k k ∙ rw (tied k) refl

  pub get-remove_other : (m : FinMap nat_cmp X) (k q : ℕ) → q ≢ k → get (remove m k) q ≡ get m q
  get-remove_other m k q h = get-remove nat_cmp_total m k q ∙ apart q k _ _ h

  -- the number of keys after a change
  pub len-insert_again : (m : FinMap nat_cmp X) (k : ℕ) (v was : X) → get m k ≡ Some was → len (insert m k v) ≡ len m
  len-insert_again m k v was e = len-insert nat_cmp_total m k v ∙ rw e refl

  pub len-insert_new : (m : FinMap nat_cmp X) (k : ℕ) (v : X) → get m k ≡ None → len (insert m k v) ≡ len m + 1
  len-insert_new m k v e = len-insert nat_cmp_total m k v ∙ rw e refl

  pub len-remove_one : (m : FinMap nat_cmp X) (k : ℕ) (was : X) → get m k ≡ Some was → len (remove m k) ≡ len m - 1
  len-remove_one m k was e = len-remove nat_cmp_total m k ∙ rw e refl

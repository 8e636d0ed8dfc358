-- A map with all darts of another has as many at least.
use Rattle.std.proofs.Common.{◌≡◌, ◌≢◌, ℕ, zero, suc, ◌+◌, ◌<◌, ◌≤◌, List, [], ◌∷◌, length, get_or, Some, IsSome, sym, ap, ◌∙◌, subst, inl, inr, arith}
use Rattle.std.specs.FinMap.{FinMap, get, insert, remove, len, keys, entries, len-entries}
use Rattle.std.specs.Ordering.{nat_cmp}
use Rattle.std.specs.List.{Contains}
use Rattle.std.proofs.lemmas.Bool.{cases_eq}
use Rattle.std.proofs.lemmas.List.{get_or_default, length-map}
use Rattle.gm_arena.specs.inner.ArenaMap.{ArenaMap, Dart, IsLiveName}
use Rattle.gm_arena.proofs.FilledLemmas.{same_maps, get-insert_same, get-insert_other, get-remove_same, get-remove_other, len-insert_new}
use Rattle.gm_arena.proofs.InsideLemmas.{some_of}
use Rattle.gm_arena.proofs.Keys.{rising, live}
use Rattle.gm_commit.proofs.ListMembers.{contains_first, contains_later}

-- no element comes twice
abbrev AreApart : List ℕ → Type 0
AreApart [] = Unit {0}
AreApart (k ∷ ks) = ((d : ℕ) → Contains ks d → d ≢ k) × AreApart ks

module _ (m : FinMap nat_cmp Dart) (k : ℕ) (dart : Dart) (here : get m k ≡ Some dart) where
  back : m ≡ insert (remove m k) k dart
  back = same_maps m (insert (remove m k) k dart) (λ q. elim (cases_eq q k) [
    | inl e ↦ rw e (here ∙ sym (get-insert_same (remove m k) k dart))
    | inr apart ↦ sym (get-insert_other (remove m k) k dart q apart ∙ get-remove_other m k q apart)
  ])

  pub len_without : len m ≡ len (remove m k) + 1
  len_without = ap len back ∙ len-insert_new (remove m k) k dart (get-remove_same m k)

pub some_dart : (m : FinMap nat_cmp Dart) (k : ℕ) → IsSome (get m k) → 1 ≤ len m
some_dart m k live = let d = some_of (get m k) live in omega (arith, len_without m k d.0 d.1)

few_keys : (ks : List ℕ) (m : FinMap nat_cmp Dart) → AreApart ks → ((d : ℕ) → Contains ks d → IsSome (get m d)) → length ks ≤ len m
few_keys [] m apart all = omega arith
few_keys (k ∷ ks) m apart all =
    let here = some_of (get m k) (all k (contains_first k ks)) in
    let rest = few_keys ks (remove m k) apart.1 (λ d among. subst IsSome (sym (get-remove_other m k d (apart.0 d among))) (all d (contains_later k ks d among))) in
    omega (arith, rest, len_without m k here.0 here.1)

rising_apart : (ks : List ℕ) → ((p q : ℕ) → p < q → q < length ks → get_or ks p 0 < get_or ks q 0) → AreApart ks
rising_apart [] rise = tt
rising_apart (k ∷ ks) rise = (λ d among e. first d among e, rising_apart ks (λ p q less within. rise (suc p) (suc q) (omega (arith, less)) (omega (arith, within))))
  where
    first : (d : ℕ) → Contains ks d → d ≢ k
    first d (i, within, is) e = go (rise 0 (suc i) (omega arith) (omega (arith, within)))
      where
        go : k < get_or ks i 0 → ⊥
        go less = let same : get_or ks i 0 ≡ d = get_or_default ks i 0 d within ∙ is in omega (arith, less, same, e)

-- with one dart more there are more
pub fewer : (m n : ArenaMap) (x : ℕ) → ((d : ℕ) → IsLiveName m d → IsLiveName n d) → IsLiveName n x → (IsLiveName m x → ⊥) → len m.darts < len n.darts
fewer m n x within there new =
    let all = few_keys (x ∷ keys m.darts) n.darts (λ d among e. new (subst (IsLiveName m) e (is_live d among)), rising_apart (keys m.darts) (rising m)) among in
    omega (arith, all, long)
  where
    is_live : (d : ℕ) → Contains (keys m.darts) d → IsLiveName m d
    is_live d (k, h, is) = subst (IsLiveName m) is (live m k d h)

    among : (d : ℕ) → Contains (x ∷ keys m.darts) d → IsLiveName n d
    among d (zero, h, is) = subst (IsLiveName n) is there
    among d (suc k, h, is) = within d (is_live d (k, omega (arith, h), is))

    long : length (keys m.darts) ≡ len m.darts
    long = length-map (entries m.darts) (λ e. e.0) ∙ sym (len-entries m.darts)

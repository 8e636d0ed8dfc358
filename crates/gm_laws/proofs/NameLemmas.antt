-- The names of the live darts, ascending: each is there, and what holds at the first of them holds before.
use Rattle.std.proofs.Common.{◌≡◌, ℕ, ◌<◌, Option, Some, None, List, length, get_or, sym, ap, subst, ◌∙◌, inl, inr, arith}
use Rattle.std.specs.Option.{MatchOption, IsSome, is_some}
use Rattle.std.specs.FinMap.{get, keys, entries, len-entries}
use Rattle.std.proofs.lemmas.Bool.{cases_lt, false≢true, some_since}
use Rattle.std.proofs.lemmas.List.{length-map}
use Rattle.std.proofs.lemmas.Option.{MatchOption-at_some}
use Rattle.gm_arena.specs.declared.slot.Slot.{Slot}
use Rattle.gm_arena.specs.inner.ArenaMap.{ArenaMap, IsAt, IsLiveName, name_at, IsLiveSlot}
use Rattle.gm_arena.proofs.InsideLemmas.{is_some_at}
use Rattle.gm_arena.specs.inner.Lawful.{IsLawful}
use Rattle.gm_arena.proofs.MapLemmas.{name_at-is}
use Rattle.gm_arena.proofs.Keys.{rising, named, live}
use Rattle.gm_laws.specs.inner.Darts.{IsFirst}

module _ (m : ArenaMap) where
  pub as_many : (names : List ℕ) → IsLawful m → names ≡ keys m.darts → length names ≡ m.count
  as_many names lawful is = omega (arith, ap length is, length-map (entries m.darts) (λ e. e.0), len-entries m.darts, lawful.counted)

  module _ (IsGood : ℕ → Type 0) where
    -- the dart at a place that is not good, where those before are, is the first
    pub first_there : (p : ℕ) → p < length (keys m.darts) → ((q : ℕ) → q < p → IsGood (get_or (keys m.darts) q 0)) → (IsGood (get_or (keys m.darts) p 0) → ⊥) → IsFirst (IsLiveName m) IsGood (get_or (keys m.darts) p 0)
    first_there p h before fails = record {
      one = live m p 0 h;
      fails = fails;
      before = λ d less one.
          let at = named m d one in
          elim (cases_lt at.0 p) [
            | inl l ↦ subst IsGood at.2 (before at.0 l)
            | inr l ↦ absurd (elim (cases_lt p at.0) [ inl k ↦ omega (arith, rising m p at.0 k at.1, at.2) | inr k ↦ (let e : p ≡ at.0 = omega arith in omega (arith, at.2, ap (λ q. get_or (keys m.darts) q 0) e)) ])
          ];
    }

    pub all_there : ((p : ℕ) → p < length (keys m.darts) → IsGood (get_or (keys m.darts) p 0)) → (d : ℕ) → IsLiveName m d → IsGood d
    all_there good d one = let at = named m d one in subst IsGood at.2 (good at.0 at.1)

  -- over the list of the names
  module _ (names : List ℕ) (e : names ≡ keys m.darts) where
    pub live_name : (p d : ℕ) → p < length names → IsLiveName m (get_or names p d)
    live_name p d h = let P : List ℕ → Type 0 = λ ks. p < length ks → IsLiveName m (get_or ks p d) in subst P (sym e) (live m p d) h

    pub first_name : (IsGood : ℕ → Type 0) (p : ℕ) → p < length names → ((q : ℕ) → q < p → IsGood (get_or names q 0)) → (IsGood (get_or names p 0) → ⊥) → IsFirst (IsLiveName m) IsGood (get_or names p 0)
    first_name IsGood p = let P : List ℕ → Type 0 = λ ks. p < length ks → ((q : ℕ) → q < p → IsGood (get_or ks q 0)) → (IsGood (get_or ks p 0) → ⊥) → IsFirst (IsLiveName m) IsGood (get_or ks p 0) in subst P (sym e) (first_there IsGood p)

    pub all_names : (IsGood : ℕ → Type 0) → ((p : ℕ) → p < length names → IsGood (get_or names p 0)) → (d : ℕ) → IsLiveName m d → IsGood d
    all_names IsGood = let P : List ℕ → Type 0 = λ ks. ((p : ℕ) → p < length ks → IsGood (get_or ks p 0)) → (d : ℕ) → IsLiveName m d → IsGood d in subst P (sym e) (all_there IsGood)

    -- and at its slot
    pub has_slot : (p d : ℕ) (o : Option Slot) → p < length names → MatchOption o (get m.darts (get_or names p d) ≡ None) (λ (s : Slot). IsAt m s.at (get_or names p d)) → IsSome o
    has_slot p d o h told = some_since o (get m.darts (get_or names p d) ≡ None) (λ (s : Slot). IsAt m s.at (get_or names p d)) told (λ none. false≢true (sym (ap is_some none) ∙ live_name p d h))

  pub name_of_slot : (name : ℕ) (o : Option Slot) (slot : Slot) → MatchOption o (get m.darts name ≡ None) (λ (s : Slot). IsAt m s.at name) → o ≡ Some slot → name_at m slot.at ≡ name
  name_of_slot name o slot told e = name_at-is m slot.at name (MatchOption-at_some (get m.darts name ≡ None) (λ (s : Slot). IsAt m s.at name) slot e told)

  pub slot_there : (name : ℕ) (o : Option Slot) (slot : Slot) → MatchOption o (get m.darts name ≡ None) (λ (s : Slot). IsAt m s.at name) → o ≡ Some slot → IsLiveSlot m slot.at
  slot_there name o slot told e = is_some_at (get m.slots slot.at) name (MatchOption-at_some (get m.darts name ≡ None) (λ (s : Slot). IsAt m s.at name) slot e told)

-- Where an odd walk leads back to its start there is a least one: of the walks of each length the least can be found.
use Rattle.std.proofs.Common.{◌≡◌, ◌≢◌, ℕ, zero, suc, ◌%◌, ◌<◌, ◌≤◌, ◌⊎◌, List, [], ◌∷◌, length, refl, ap, ◌∙◌, subst, inl, inr, arith}
use Rattle.std.proofs.lemmas.Bool.{cases_eq, cases_lt}
use Rattle.gm_cells.specs.Colours.{LeadsTo, IsOddWalk, IsLeastOddWalk}
use Rattle.gm_model.specs.Matches.{IsSmallerPath}
use Rattle.gm_cells.proofs.LabelOrder.{IsLower, shorter_or_lower}
use Rattle.gm_theory.proofs.ValuesFound.{IsLeast, least_below}
use Rattle.gm_theory.proofs.ValuesReach.{IsDecided}

module _ (n : ℕ) (alpha : ℕ → ℕ → ℕ) (e : ℕ) where
  -- the least walk of this length from d to e
  record IsLeastOf (k d : ℕ) (labels : List ℕ) : Type 0 where
    pub long : length labels ≡ k
    pub leads : LeadsTo n alpha e labels d
    pub least : (others : List ℕ) → length others ≡ k → LeadsTo n alpha e others d → IsLower others labels → ⊥

  abbrev HasLeast : ℕ → ℕ → Type 0
  HasLeast k d = (labels : List ℕ) × IsLeastOf k d labels

  abbrev HasNone : ℕ → ℕ → Type 0
  HasNone k d = (others : List ℕ) → length others ≡ k → LeadsTo n alpha e others d → ⊥

  -- the label leads on, to a dart from which such a walk leads
  abbrev GoesOn : ℕ → ℕ → ℕ → Type 0
  GoesOn k d i = (i ≤ n) × (alpha i d ≢ d) × HasLeast k (alpha i d)

  none_long : (d : ℕ) → (d ≡ e → ⊥) → HasNone 0 d
  none_long d apart [] long at = apart at
  none_long d apart (j ∷ others) long leads = omega arith

  not_lower : (others : List ℕ) → IsLower others [] → ⊥
  not_lower [] lower = lower
  not_lower (j ∷ others) lower = lower

  stays_here : (d : ℕ) → HasLeast 0 d ⊎ HasNone 0 d
  stays_here d = go (cases_eq d e)
    where
      go : (d ≡ e) ⊎ (d ≡ e → ⊥) → HasLeast 0 d ⊎ HasNone 0 d
      go (inl at) = inl ([], record { long = refl; leads = at; least = λ others long leads lower. not_lower others lower })
      go (inr apart) = inr (none_long d apart)

  -- where it is known of walks of length k, one label more
  module _ (k : ℕ) (rest : (x : ℕ) → HasLeast k x ⊎ HasNone k x) (d : ℕ) where
    decide_on : (i : ℕ) → IsDecided (GoesOn k d i)
    decide_on i = by (cases_lt n i) (cases_eq (alpha i d) d) (rest (alpha i d))
      where
        by : (n < i) ⊎ (i ≤ n) → (alpha i d ≡ d) ⊎ (alpha i d ≢ d) → HasLeast k (alpha i d) ⊎ HasNone k (alpha i d) → IsDecided (GoesOn k d i)
        by (inl high) moves walk = inr (λ h. let low : i ≤ n = h.0 in omega arith)
        by (inr low) (inl stays) walk = inr (λ h. h.1 stays)
        by (inr low) (inr moves) (inl walk) = inl (low, moves, walk)
        by (inr low) (inr moves) (inr none) = inr (λ h. none h.2.0 h.2.1.long h.2.1.leads)

    -- a walk goes on with its first label
    goes_on : (j : ℕ) (others : List ℕ) → length others ≡ k → LeadsTo n alpha e (j ∷ others) d → (GoesOn k d j → ⊥) → ⊥
    goes_on j others long leads none = by (rest (alpha j d))
      where
        by : HasLeast k (alpha j d) ⊎ HasNone k (alpha j d) → ⊥
        by (inl walk) = none (leads.0, leads.1, walk)
        by (inr nowhere) = nowhere others long leads.2

    lowest : (i : ℕ) → ((j : ℕ) → j < i → GoesOn k d j → ⊥) → (w : List ℕ) → IsLeastOf k (alpha i d) w → (others : List ℕ) → length others ≡ suc k → LeadsTo n alpha e others d → IsLower others (i ∷ w) → ⊥
    lowest i earlier w is [] long leads lower = omega arith
    lowest i earlier w is (j ∷ others) long leads (inl less) = goes_on j others (omega arith) leads (earlier j less)
    lowest i earlier w is (j ∷ others) long leads (inr (same, lower)) = is.least others (omega arith) (subst (λ l. LeadsTo n alpha e others (alpha l d)) same leads.2) lower

    none_on : ((i : ℕ) → i < suc n → GoesOn k d i → ⊥) → HasNone (suc k) d
    none_on none [] long leads = omega arith
    none_on none (j ∷ others) long leads = goes_on j others (omega arith) leads (none j (let low : j ≤ n = leads.0 in omega arith))

    one_more : HasLeast (suc k) d ⊎ HasNone (suc k) d
    one_more = go (least_below (GoesOn k d) decide_on (suc n))
      where
        go : ((i : ℕ) × (i < suc n) × IsLeast (GoesOn k d) i) ⊎ ((i : ℕ) → i < suc n → GoesOn k d i → ⊥) → HasLeast (suc k) d ⊎ HasNone (suc k) d
        go (inl (i, b, ((low, moves, (w, is)), earlier))) = inl (i ∷ w, record { long = ap suc is.long; leads = (low, moves, is.leads); least = lowest i earlier w is })
        go (inr none) = inr (none_on none)

  least_or_none : (k d : ℕ) → HasLeast k d ⊎ HasNone k d
  least_or_none zero d = stays_here d
  least_or_none (suc k) d = one_more k (least_or_none k) d

-- ---- the least of all lengths

module _ (n : ℕ) (alpha : ℕ → ℕ → ℕ) (d : ℕ) where
  abbrev HasOdd : ℕ → Type 0
  HasOdd k = (k % 2 ≡ 1) × HasLeast n alpha d k d

  decide_odd : (k : ℕ) → IsDecided (HasOdd k)
  decide_odd k = go (cases_eq (k % 2) 1) (least_or_none n alpha d k d)
    where
      go : (k % 2 ≡ 1) ⊎ (k % 2 ≡ 1 → ⊥) → HasLeast n alpha d k d ⊎ HasNone n alpha d k d → IsDecided (HasOdd k)
      go (inl odd) (inl walk) = inl (odd, walk)
      go (inl odd) (inr none) = inr (λ h. none h.1.0 h.1.1.long h.1.1.leads)
      go (inr even) walk = inr (λ h. even h.0)

  has_odd : (labels : List ℕ) → IsOddWalk n alpha d labels → (HasOdd (length labels) → ⊥) → ⊥
  has_odd labels walk none = go (least_or_none n alpha d (length labels) d)
    where
      go : HasLeast n alpha d (length labels) d ⊎ HasNone n alpha d (length labels) d → ⊥
      go (inl least) = none (walk.odd, least)
      go (inr nowhere) = nowhere labels refl walk.leads

  pub least_odd_walk : (labels : List ℕ) → IsOddWalk n alpha d labels → (least : List ℕ) × IsLeastOddWalk n alpha d least
  least_odd_walk labels walk = go (least_below HasOdd decide_odd (suc (length labels)))
    where
      go : ((k : ℕ) × (k < suc (length labels)) × IsLeast HasOdd k) ⊎ ((k : ℕ) → k < suc (length labels) → HasOdd k → ⊥) → (least : List ℕ) × IsLeastOddWalk n alpha d least
      go (inr none) = absurd (has_odd labels walk (none (length labels) (omega arith)))
      go (inl (k, b, ((odd, (w, is)), earlier))) = (w, record { walk = record { odd = ap (λ l. l % 2) is.long ∙ odd; leads = is.leads }; least = least })
        where
          by : (others : List ℕ) → IsOddWalk n alpha d others → (length others < length w) ⊎ ((length others ≡ length w) × IsLower others w) → ⊥
          by others other (inl shorter) = has_odd others other (earlier (length others) (omega (arith, is.long, shorter)))
          by others other (inr (same, lower)) = is.least others (same ∙ is.long) other.leads lower

          least : (others : List ℕ) → IsOddWalk n alpha d others → IsSmallerPath others w → ⊥
          least others other smaller = by others other (shorter_or_lower others w smaller)

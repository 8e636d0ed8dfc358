-- Where the deciding instances have values, each dart of an unfolding has a new value.
use Rattle.std.proofs.Common.{◌≡◌, ℕ, zero, suc, ◌<◌, ◌⊎◌, List, [], ◌∷◌, length, Contains, Option, Some, None, slice_get, refl, sym, ◌∙◌, ap, subst, inl, inr, arith, below_more}
use Rattle.std.proofs.lemmas.Bool.{cases_eq}
use Rattle.std.proofs.lemmas.Option.{slice_get_within}
use Rattle.gm_model.specs.Components.{IsAssigned}
use Rattle.gm_model.specs.Maps.{Map}
use Rattle.gm_model.specs.Matches.{Placement}
use Rattle.gm_model.specs.NewValues.{IsAssignedAt, LiesIn, IsDecidedBy, IsDeciding, IsUndecided}
use Rattle.gm_model.specs.Orbits.{Labels, IsInOrbit, IsPairBefore}
use Rattle.gm_model.specs.Rules.{Rule, RuleNode, Assignment}
use Rattle.gm_model.specs.Unfolding.{name_in}
use Rattle.gm_theory.proofs.Lists.{some_same, none_some}
use Rattle.gm_theory.proofs.ValuesReach.{IsDecided, orbit_through}

-- ---- the least number

abbrev pub IsLeast : (ℕ → Type 0) → ℕ → Type 0
IsLeast P k = P k × ((j : ℕ) → j < k → P j → ⊥)

pub least_below : (P : ℕ → Type 0) → ((k : ℕ) → IsDecided (P k)) → (n : ℕ) → ((k : ℕ) × (k < n) × IsLeast P k) ⊎ ((k : ℕ) → k < n → P k → ⊥)
least_below P decide zero = inr (λ k h p. absurd (omega arith))
least_below P decide (suc n) = go (least_below P decide n) (decide n)
  where
    go : ((k : ℕ) × (k < n) × IsLeast P k) ⊎ ((k : ℕ) → k < n → P k → ⊥) → IsDecided (P n) → ((k : ℕ) × (k < suc n) × IsLeast P k) ⊎ ((k : ℕ) → k < suc n → P k → ⊥)
    go (inl (k, h, least)) side = inl (k, omega arith, least)
    go (inr none) (inl p) = inl (n, omega arith, (p, none))
    go (inr none) (inr p) = inr (λ k h q. below_more (λ j. P j → ⊥) n none p k (omega arith) q)

-- ---- assignments

decide_contained : (sets : List Assignment) (e : ℕ) → IsDecided ((s : Assignment) × Contains sets s × (s.embed ≡ e))
decide_contained [] e = inr (λ h. absurd (let b : h.1.0 < 0 = h.1.1 in omega arith))
decide_contained (s ∷ sets) e = go (cases_eq s.embed e) (decide_contained sets e)
  where
    go : (s.embed ≡ e) ⊎ (s.embed ≡ e → ⊥) → IsDecided ((t : Assignment) × Contains sets t × (t.embed ≡ e)) → IsDecided ((t : Assignment) × Contains (s ∷ sets) t × (t.embed ≡ e))
    go (inl f) side = inl (s, (0, omega arith, refl), f)
    go (inr f) (inl (t, (k, b, g), h)) = inl (t, (suc k, omega arith, g), h)
    go (inr f) (inr none) = inr neither
      where
        neither : (t : Assignment) × Contains (s ∷ sets) t × (t.embed ≡ e) → ⊥
        neither (t, (zero, b, g), h) = f (ap (λ (u : Assignment). u.embed) g ∙ h)
        neither (t, (suc k, b, g), h) = none (t, (k, omega arith, g), h)

pub decide_assigned : (rule : Rule) (e x : ℕ) → IsDecided (IsAssigned rule e x)
decide_assigned rule e x = go (slice_get rule.nodes x) refl
  where
    go : (o : Option RuleNode) → slice_get rule.nodes x ≡ o → IsDecided (IsAssigned rule e x)
    go None f = inr (λ a. none_some a.1.0 (sym f ∙ a.1.1))
    go (Some node) f = sets (decide_contained node.sets e)
      where
        sets : IsDecided ((s : Assignment) × Contains node.sets s × (s.embed ≡ e)) → IsDecided (IsAssigned rule e x)
        sets (inl (s, c, g)) = inl (s.tree, (node, f, subst (λ k. Contains node.sets (record { embed = k; tree = s.tree })) g c))
        sets (inr none) = inr (λ a. none (record { embed = e; tree = a.0 }, subst (λ (m : RuleNode). Contains m.sets (record { embed = e; tree = a.0 })) (some_same a.1.0 node (sym a.1.1 ∙ f)) a.1.2, refl))

pub assigned_below : (rule : Rule) (e x : ℕ) → IsAssigned rule e x → x < length rule.nodes
assigned_below rule e x (tree, (node, at, c)) = slice_get_within rule.nodes x node at

-- ---- the deciding instance of an orbit

module _ (map : Map) (rule : Rule) (place : Placement) (alpha : ℕ → ℕ → ℕ) (e : ℕ) (o : Labels) (d : ℕ) (decide : (c : ℕ) → IsDecided (IsInOrbit alpha o d c)) where
  abbrev IsOneAt : ℕ → ℕ → Type 0
  IsOneAt x p = IsAssignedAt map rule place alpha e o x p × LiesIn map rule place alpha e o d x p

  -- a position at which x is one, the least
  abbrev HasOne : ℕ → Type 0
  HasOne x = (p : ℕ) × (p < place.positions) × IsLeast (λ q. IsAssigned rule e x × LiesIn map rule place alpha e o d x q) p

  decide_one : (x q : ℕ) → IsDecided (IsAssigned rule e x × LiesIn map rule place alpha e o d x q)
  decide_one x q = go (decide_assigned rule e x) (decide (name_in map rule place x q))
    where
      go : IsDecided (IsAssigned rule e x) → IsDecided (LiesIn map rule place alpha e o d x q) → IsDecided (IsAssigned rule e x × LiesIn map rule place alpha e o d x q)
      go (inl a) (inl l) = inl (a, l)
      go (inr a) side = inr (λ h. a h.0)
      go (inl a) (inr l) = inr (λ h. l h.1)

  decide_node : (x : ℕ) → IsDecided (HasOne x)
  decide_node x = go (least_below (λ q. IsAssigned rule e x × LiesIn map rule place alpha e o d x q) (decide_one x) place.positions)
    where
      go : HasOne x ⊎ ((k : ℕ) → k < place.positions → IsAssigned rule e x × LiesIn map rule place alpha e o d x k → ⊥) → IsDecided (HasOne x)
      go (inl h) = inl h
      go (inr none) = inr (λ h. none h.0 h.1 h.2.0)

  has_one : (x q : ℕ) → IsAssigned rule e x → q < place.positions → LiesIn map rule place alpha e o d x q → (HasOne x → ⊥) → ⊥
  has_one x q a b l no_one = go (least_below (λ r. IsAssigned rule e x × LiesIn map rule place alpha e o d x r) (decide_one x) place.positions)
    where
      go : HasOne x ⊎ ((k : ℕ) → k < place.positions → IsAssigned rule e x × LiesIn map rule place alpha e o d x k → ⊥) → ⊥
      go (inl h) = no_one h
      go (inr none) = none q b (a, l)

  pub decided_or_not : ((x : ℕ) × (p : ℕ) × IsDecidedBy map rule place alpha e o d x p) ⊎ IsUndecided map rule place alpha e o d
  decided_or_not = go (least_below HasOne decide_node (length rule.nodes))
    where
      go : ((x : ℕ) × (x < length rule.nodes) × IsLeast HasOne x) ⊎ ((x : ℕ) → x < length rule.nodes → HasOne x → ⊥) → ((x : ℕ) × (p : ℕ) × IsDecidedBy map rule place alpha e o d x p) ⊎ IsUndecided map rule place alpha e o d
      go (inl (x, h, ((p, b, (one, least)), earlier))) = inl (x, p, record { assigned = (one.0, b); lies = one.1; least = before })
        where
          before : (y q : ℕ) → IsPairBefore y q x p → IsAssignedAt map rule place alpha e o y q → LiesIn map rule place alpha e o d y q → ⊥
          before y q (inl k) a l = has_one y q a.0 a.1 l (earlier y k)
          before y q (inr (f, k)) a l = least q k (subst (λ z. IsAssigned rule e z × LiesIn map rule place alpha e o d z q) f (a.0, l))
      go (inr none) = inr (λ x p a l. has_one x p a.0 a.1 l (none x (assigned_below rule e x a.0)))

  -- the instance that decides the orbit of d decides its own orbit
  pub decides_own : (x p : ℕ) → IsDecidedBy map rule place alpha e o d x p → IsDeciding map rule place alpha e o x p
  decides_own x p by = record {
    assigned = by.assigned;
    lies = ([], tt, refl);
    least = λ y q before a lies. by.least y q before a (orbit_through alpha o d (name_in map rule place x p) (name_in map rule place y q) by.lies lies);
  }

-- What the links of the least paths say of one node.
use Rattle.std.proofs.Common.{◌≡◌, ◌≢◌, ℕ, zero, suc, ◌⊎◌, inl, inr, Bool, false, eqb, IsTrue, List, [], ◌∷◌, ◌++◌, map, Some, None, refl, sym, subst, arith}
use Rattle.std.proofs.lemmas.Bool.{eqb-true, eq-eqb}
use Rattle.std.proofs.lemmas.List.Elements.{Contains-append_cases}
use Rattle.std.specs.List.{find, Contains}
use Rattle.gm_model.specs.declared.rule.Link.{Link}
use Rattle.gm_model.specs.declared.rule.Side.TheVariants.{Left}
use Rattle.gm_model.specs.Matches.{IsSmallerPath}
use Rattle.gm_model.specs.Rules.{Rule, has_word, link_from}
use Rattle.gm_plan.specs.inner.Paths.{IsLastLink, ArePaths}
use Rattle.gm_theory.proofs.Lists.{contained_at, find_passes, none_some, some_same}
use Rattle.gm_theory.proofs.Tests.{true_or_false, not_both}

smallest : (p : List ℕ) (i : ℕ) → IsSmallerPath [] (p ++ i ∷ [])
smallest [] i = tt
smallest (j ∷ p) i = tt

-- the least path to a hook has no last link
hook_has_none : (rule : Rule) (link : Link) → IsLastLink rule link → Contains rule.hooks link.to → ⊥
hook_has_none rule link last c = last.to_end.least c.0 link.to [] (contained_at rule.hooks link.to c) refl (inl (smallest last.front link.label))

-- ---- the link to a node

-- what a search finds is in the list
find_contains : {A : Type 0} (p : A → Bool) (xs : List A) (x : A) → find p xs ≡ Some x → Contains xs x
find_contains p [] x e = none_some x e
find_contains p (y ∷ xs) x e = go (true_or_false (p y)) (find_contains p xs x)
  where
    go : IsTrue (p y) ⊎ (p y ≡ false) → (find p xs ≡ Some x → Contains xs x) → Contains (y ∷ xs) x
    go (inl h) rest = (0, omega arith, some_same y x (rw h at e))
    go (inr h) rest = later (rest (rw h at e))
      where
        later : Contains xs x → Contains (y ∷ xs) x
        later (k, b, f) = (suc k, omega arith, f)

-- a node to which a link leads has such a link
end_found : (links : List Link) (x : ℕ) → Contains (map (λ (link : Link). link.to) links) x → find (λ (l : Link). eqb l.to x) links ≢ None
end_found [] x (k, b, f) e = omega arith
end_found (link ∷ links) x c e = go (true_or_false (eqb link.to x)) c (end_found links x)
  where
    go : IsTrue (eqb link.to x) ⊎ (eqb link.to x ≡ false) → Contains (link.to ∷ map (λ (l : Link). l.to) links) x → (Contains (map (λ (l : Link). l.to) links) x → find (λ (l : Link). eqb l.to x) links ≢ None) → ⊥
    go (inl h) d rest = none_some link (sym (rw h at e))
    go (inr h) (zero, b, f) rest = not_both (eqb link.to x) (eq-eqb link.to x f) h
    go (inr h) (suc k, b, f) rest = rest (k, omega arith, f) (rw h at e)

module _ (rule : Rule) (links : List Link) (are : ArePaths rule links) (x : ℕ) where
  pub unlinked : IsTrue (has_word rule Left x) → find (λ (l : Link). eqb l.to x) links ≡ None → Contains rule.hooks x
  unlinked left e = go (Contains-append_cases rule.hooks (map (λ (link : Link). link.to) links) x ((are.nodes.same x).1 left))
    where
      go : Contains rule.hooks x ⊎ Contains (map (λ (link : Link). link.to) links) x → Contains rule.hooks x
      go (inl c) = c
      go (inr c) = absurd (end_found links x c e)

  pub linked : (link : Link) → find (λ (l : Link). eqb l.to x) links ≡ Some link → (Contains rule.hooks x → ⊥) × IsLastLink rule (link_from link.from link.label x)
  linked link e = (subst (λ y. Contains rule.hooks y → ⊥) to (hook_has_none rule link last), subst (λ y. IsLastLink rule (link_from link.from link.label y)) to last)
    where
      to : link.to ≡ x
      to = eqb-true link.to x (find_passes (λ (l : Link). eqb l.to x) links link e)

      last : IsLastLink rule link
      last = let c : Contains links link = find_contains (λ (l : Link). eqb l.to x) links link e in are.ends c.0 link (contained_at links link c)

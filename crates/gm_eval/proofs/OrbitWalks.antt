-- The walk along a mask lists the darts of the orbit over its labels.
use Rattle.std.proofs.Common.{◌≡◌, ℕ, zero, suc, ◌<◌, ◌≤◌, Bool, true, false, List, [], ◌∷◌, Some, IsTrue, cond, length, get_or, map, refl, sym, ap, subst, ◌∙◌, inl, inr, arith}
use Rattle.std.specs.List.{Contains, filter}
use Rattle.std.proofs.lemmas.Bool.{cases_lt}
use Rattle.std.proofs.lemmas.List.{get_or_default, length-map}
use Rattle.std.proofs.lemmas.List.Elements.{filter_passes}
use Rattle.std.proofs.lemmas.Option.{slice_get-get_or, slice_get_within}
use Rattle.gm_model.specs.declared.word.Letter.TheVariants.{At}
use Rattle.gm_model.specs.declared.word.Mask.{Mask}
use Rattle.gm_model.specs.Labels.{has}
use Rattle.gm_model.specs.Orbits.{IsPathIn, IsInOrbit, IsListOf, IsWalk, follow}
use Rattle.gm_arena.specs.inner.ArenaMap.{ArenaMap, alpha}
use Rattle.gm_walk.specs.inner.Walks.{along, label_at, labels_of, letters_of}
use Rattle.gm_theory.proofs.ValuesLists.{IsIn, contains_in}

-- ---- the labels of a mask

in_filter : (p : ℕ → Bool) (xs : List ℕ) (x : ℕ) → IsIn x xs → IsTrue (p x) → IsIn x (filter p xs)
in_filter p [] x i h = absurd i
in_filter p (y ∷ ys) x (inl e) h = subst (λ b. IsIn x (cond b (y ∷ filter p ys) (filter p ys))) (sym (ap p e ∙ h)) (inl e)
in_filter p (y ∷ ys) x (inr i) h = go (p y) (in_filter p ys x i h)
  where
    go : (b : Bool) → IsIn x (filter p ys) → IsIn x (cond b (y ∷ filter p ys) (filter p ys))
    go true i = inr i
    go false i = i

small : (i : ℕ) → i ≤ 7 → IsIn i (0 ∷ 1 ∷ 2 ∷ 3 ∷ 4 ∷ 5 ∷ 6 ∷ 7 ∷ [])
small zero h = inl refl
small (suc zero) h = inr (inl refl)
small (suc (suc zero)) h = inr (inr (inl refl))
small (suc (suc (suc zero))) h = inr (inr (inr (inl refl)))
small (suc (suc (suc (suc zero)))) h = inr (inr (inr (inr (inl refl))))
small (suc (suc (suc (suc (suc zero))))) h = inr (inr (inr (inr (inr (inl refl)))))
small (suc (suc (suc (suc (suc (suc zero)))))) h = inr (inr (inr (inr (inr (inr (inl refl))))))
small (suc (suc (suc (suc (suc (suc (suc zero))))))) h = inr (inr (inr (inr (inr (inr (inr (inl refl)))))))
small (suc (suc (suc (suc (suc (suc (suc (suc i)))))))) h = absurd (omega arith)

labelled : (mask : Mask) (i : ℕ) → i ≤ 7 → IsTrue (has mask i) → Contains (labels_of mask) i
labelled mask i h in_mask = contains_in (labels_of mask) i (in_filter (has mask) (0 ∷ 1 ∷ 2 ∷ 3 ∷ 4 ∷ 5 ∷ 6 ∷ 7 ∷ []) i (small i h) in_mask)

label_there : (labels : List ℕ) (place : ℕ) → place < length labels → label_at (map At labels) place ≡ get_or labels place 0
label_there [] place h = absurd (omega arith)
label_there (i ∷ labels) zero h = refl
label_there (i ∷ labels) (suc place) h = label_there labels place (omega arith)

-- ---- orbits

orbit_step : (next : ℕ → ℕ → ℕ) (o : ℕ → Bool) (path : List ℕ) (d x i : ℕ) → IsPathIn o path → follow next path d ≡ x → IsTrue (o i) → IsInOrbit next o d (next i x)
orbit_step next o [] d x i inside e h = (i ∷ [], (h, tt), ap (next i) e)
orbit_step next o (j ∷ path) d x i inside e h = let rest : IsInOrbit next o (next j d) (next i x) = orbit_step next o path (next j d) x i inside.1 e h in (j ∷ rest.0, (inside.0, rest.1), rest.2)

module _ (m : ArenaMap) (mask : Mask) (few : (i : ℕ) → IsTrue (has mask i) → i ≤ 7) (d : ℕ) (names : List ℕ) (walk : IsWalk (along m (letters_of mask)) (length (letters_of mask)) d names) where
  abbrev InOrbit : ℕ → Type 0
  InOrbit e = IsInOrbit (alpha m) (has mask) d e

  long : length (letters_of mask) ≡ length (labels_of mask)
  long = length-map (labels_of mask) At

  step : (x i : ℕ) → Contains names x → IsTrue (has mask i) → Contains names (alpha m i x)
  step x i c in_mask =
      let place : Contains (labels_of mask) i = labelled mask i (few i in_mask) in_mask in
      let label : label_at (letters_of mask) place.0 ≡ i = label_there (labels_of mask) place.0 place.1 ∙ (get_or_default (labels_of mask) place.0 0 i place.1 ∙ place.2) in
      let there : get_or names c.0 0 ≡ x = get_or_default names c.0 0 x c.1 ∙ c.2 in
      subst (λ a. Contains names (alpha m i a)) there (subst (λ j. Contains names (alpha m j (get_or names c.0 0))) label (walk.closed c.0 place.0 (inl c.1) c.1 (omega (arith, long, place.1))))

  along_path : (path : List ℕ) (x : ℕ) → Contains names x → IsPathIn (has mask) path → Contains names (follow (alpha m) path x)
  along_path [] x c inside = c
  along_path (i ∷ path) x c inside = along_path path (alpha m i x) (step x i c inside.0) inside.1

  pub some_dart : 0 < length names
  some_dart = slice_get_within names 0 d walk.starts

  starts_with : get_or names 0 0 ≡ d
  starts_with = let both : Some (get_or names 0 0) ≡ Some d = sym (slice_get-get_or names 0 0 some_dart) ∙ walk.starts in cc

  pub has_start : Contains names d
  has_start = (0, some_dart, get_or_default names 0 d 0 some_dart ∙ starts_with)

  walk_has : (e : ℕ) → InOrbit e → Contains names e
  walk_has e in_orbit = subst (Contains names) in_orbit.2 (along_path in_orbit.0 d has_start in_orbit.1)

  next_in : (x place : ℕ) → place < length (letters_of mask) → InOrbit x → InOrbit (along m (letters_of mask) x place)
  next_in x place within to =
      let low : place < length (labels_of mask) = omega (arith, long) in
      subst (λ i. InOrbit (alpha m i x)) (sym (label_there (labels_of mask) place low))
      (orbit_step (alpha m) (has mask) to.0 d x (get_or (labels_of mask) place 0) to.1 to.2 (filter_passes (has mask) (0 ∷ 1 ∷ 2 ∷ 3 ∷ 4 ∷ 5 ∷ 6 ∷ 7 ∷ []) place 0 low))

  in_walk : (bound p : ℕ) → p < bound → p < length names → InOrbit (get_or names p 0)
  in_walk zero p h k = absurd (omega arith)
  in_walk (suc bound) p h k = elim (cases_lt 0 p) [
    | inl some ↦
        let s = walk.least p some k in
        let at = s.2 in
        subst InOrbit (sym at.leads) (next_in (get_or names s.0 0) s.1 at.place (in_walk bound s.0 (let less = at.earlier in omega arith) (let less = at.earlier in omega arith)))
    | inr none ↦
        let zero_is : p ≡ 0 = omega arith in
        ([], tt, sym (ap (λ q. get_or names q 0) zero_is ∙ starts_with))
  ]

  walk_in : (e : ℕ) → Contains names e → InOrbit e
  walk_in e c = subst InOrbit (get_or_default names c.0 0 e c.1 ∙ c.2) (in_walk (length names) c.0 c.1 c.1)

  pub walk_lists : IsListOf InOrbit names
  walk_lists = record { distinct = walk.distinct; same = λ e. (walk_in e, walk_has e) }

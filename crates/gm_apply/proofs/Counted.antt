-- How many darts an application removes, and how many stay.
use Rattle.std.proofs.Common.{◌≡◌, ℕ, zero, suc, ◌+◌, ◌-◌, ◌*◌, ◌<◌, ◌≤◌, Bool, true, false, ◌⊎◌, inl, inr, ◌↔◌, length, IsTrue, refl, sym, ap, subst, ◌∙◌, arith}
use Rattle.std.proofs.lemmas.Bool.{cases_lt}
use Rattle.gm_model.specs.declared.rule.Side.TheVariants.{Left}
use Rattle.gm_model.specs.Maps.{Map, IsDart}
use Rattle.gm_model.specs.Matches.{Placement, IsEmbedding}
use Rattle.gm_model.specs.Orbits.{HasCount, IsPairBefore}
use Rattle.gm_model.specs.Rules.{Rule, has_word, is_removed}
use Rattle.gm_model.specs.Unfolding.{IsGone, scene_of}
use Rattle.gm_plan.specs.inner.Counts.{removed_before, removed_nodes}
use Rattle.gm_theory.proofs.RuleSteps.{word_below}
use Rattle.gm_apply.proofs.Counting.{count_none, count_same, count_more, count_left}

-- ---- those that go

module _ (map : Map) (rule : Rule) (place : Placement) (found : IsEmbedding map rule place) where
  -- the dart of a removed node before x, or of x at a position before p
  record GoesBefore (x p d : ℕ) : Type 0 where
    node : ℕ
    position : ℕ
    removed : IsTrue (is_removed rule node)
    within : position < place.positions
    before : IsPairBefore node position x p
    is : d ≡ place.dart_of node position

  left_of : (x : ℕ) → IsTrue (is_removed rule x) → IsTrue (has_word rule Left x)
  left_of x removed = go (has_word rule Left x) refl
    where
      go : (b : Bool) → has_word rule Left x ≡ b → IsTrue (has_word rule Left x)
      go true e = e
      go false e = let none : false ≡ true = rw e at removed in absurd cc

  -- one position more
  position_more : (x p n : ℕ) → IsTrue (is_removed rule x) → p < place.positions → HasCount (GoesBefore x p) n → HasCount (GoesBefore x (suc p)) (suc n)
  position_more x p n removed within counted =
      count_same (λ d. (d ≡ place.dart_of x p) ⊎ GoesBefore x p d) (GoesBefore x (suc p)) (suc n) (λ d. (to d, back d)) (count_more (GoesBefore x p) n (place.dart_of x p) new counted)
    where
      new : GoesBefore x p (place.dart_of x p) → ⊥
      new h =
          let same = found.injective x p h.node h.position (left_of x removed, within) (left_of h.node h.removed, h.within) h.is in
          elim h.before [ inl l ↦ absurd (let e = same.0 in omega (arith, e, l)) | inr l ↦ absurd (let e = same.1 in let k = l.1 in omega (arith, e, k)) ]

      to : (d : ℕ) → (d ≡ place.dart_of x p) ⊎ GoesBefore x p d → GoesBefore x (suc p) d
      to d (inl e) = record { node = x; position = p; removed = removed; within = within; before = inr (refl, omega arith); is = e }
      to d (inr h) = record { node = h.node; position = h.position; removed = h.removed; within = h.within; before = wider h.before; is = h.is }
        where
          wider : IsPairBefore h.node h.position x p → IsPairBefore h.node h.position x (suc p)
          wider (inl l) = inl l
          wider (inr (e, l)) = inr (e, omega (arith, l))

      back : (d : ℕ) → GoesBefore x (suc p) d → (d ≡ place.dart_of x p) ⊎ GoesBefore x p d
      back d h = go h.before
        where
          go : IsPairBefore h.node h.position x (suc p) → (d ≡ place.dart_of x p) ⊎ GoesBefore x p d
          go (inl l) = inr (record { node = h.node; position = h.position; removed = h.removed; within = h.within; before = inl l; is = h.is })
          go (inr (e, l)) = by (cases_lt h.position p)
            where
              by : (h.position < p) ⊎ (p ≤ h.position) → (d ≡ place.dart_of x p) ⊎ GoesBefore x p d
              by (inl k) = inr (record { node = h.node; position = h.position; removed = h.removed; within = h.within; before = inr (e, k); is = h.is })
              by (inr k) = let same : h.position ≡ p = omega (arith, k, l) in inl (h.is ∙ ap (λ y. place.dart_of y h.position) e ∙ ap (place.dart_of x) same)

  positions_counted : (x n p : ℕ) → IsTrue (is_removed rule x) → p ≤ place.positions → HasCount (GoesBefore x 0) n → HasCount (GoesBefore x p) (n + p)
  positions_counted x n zero removed few counted = let e : n ≡ n + 0 = omega arith in subst (HasCount (GoesBefore x 0)) e counted
  positions_counted x n (suc p) removed few counted =
      let e : suc (n + p) ≡ n + suc p = omega arith in
      subst (HasCount (GoesBefore x (suc p))) e (position_more x p (n + p) removed (omega (arith, few)) (positions_counted x n p removed (omega (arith, few)) counted))

  next_node : (x d : ℕ) → GoesBefore x place.positions d ↔ GoesBefore (suc x) 0 d
  next_node x d = (to, back)
    where
      to : GoesBefore x place.positions d → GoesBefore (suc x) 0 d
      to h = record { node = h.node; position = h.position; removed = h.removed; within = h.within; before = go h.before; is = h.is }
        where
          go : IsPairBefore h.node h.position x place.positions → IsPairBefore h.node h.position (suc x) 0
          go (inl l) = inl (omega (arith, l))
          go (inr (e, l)) = inl (omega (arith, e))

      back : GoesBefore (suc x) 0 d → GoesBefore x place.positions d
      back h = record { node = h.node; position = h.position; removed = h.removed; within = h.within; before = go h.before; is = h.is }
        where
          go : IsPairBefore h.node h.position (suc x) 0 → IsPairBefore h.node h.position x place.positions
          go (inr (e, l)) = absurd (omega (arith, l))
          go (inl l) = by (cases_lt h.node x)
            where
              by : (h.node < x) ⊎ (x ≤ h.node) → IsPairBefore h.node h.position x place.positions
              by (inl k) = inl k
              by (inr k) = inr (omega (arith, k, l), h.within)

  -- a node that stays takes none away
  kept_node : (x d : ℕ) → is_removed rule x ≡ false → GoesBefore x 0 d ↔ GoesBefore (suc x) 0 d
  kept_node x d kept = (to, back)
    where
      to : GoesBefore x 0 d → GoesBefore (suc x) 0 d
      to h = record { node = h.node; position = h.position; removed = h.removed; within = h.within; before = go h.before; is = h.is }
        where
          go : IsPairBefore h.node h.position x 0 → IsPairBefore h.node h.position (suc x) 0
          go (inl l) = inl (omega (arith, l))
          go (inr (e, l)) = absurd (omega (arith, l))

      back : GoesBefore (suc x) 0 d → GoesBefore x 0 d
      back h = record { node = h.node; position = h.position; removed = h.removed; within = h.within; before = go h.before; is = h.is }
        where
          go : IsPairBefore h.node h.position (suc x) 0 → IsPairBefore h.node h.position x 0
          go (inr (e, l)) = absurd (omega (arith, l))
          go (inl l) = by (cases_lt h.node x)
            where
              by : (h.node < x) ⊎ (x ≤ h.node) → IsPairBefore h.node h.position x 0
              by (inl k) = inl k
              by (inr k) =
                  let same : h.node ≡ x = omega (arith, k, l) in
                  let both : false ≡ true = sym kept ∙ ap (is_removed rule) (sym same) ∙ h.removed in
                  absurd cc

  nodes_counted : (x : ℕ) → HasCount (GoesBefore x 0) (place.positions * removed_before rule x)
  nodes_counted zero = let e : 0 ≡ place.positions * 0 = omega arith in subst (HasCount (GoesBefore 0 0)) e (count_none (GoesBefore 0 0) none)
    where
      none : (d : ℕ) → GoesBefore 0 0 d → ⊥
      none d h = elim h.before [ inl l ↦ absurd (omega (arith, l)) | inr l ↦ absurd (let k = l.1 in omega (arith, k)) ]
  nodes_counted (suc x) = go (is_removed rule x) refl (nodes_counted x)
    where
      go : (b : Bool) → is_removed rule x ≡ b → HasCount (GoesBefore x 0) (place.positions * removed_before rule x) → HasCount (GoesBefore (suc x) 0) (place.positions * removed_before rule (suc x))
      go true e counted =
          let sum : place.positions * removed_before rule x + place.positions ≡ place.positions * (removed_before rule x + 1) = omega arith in
          rw e (subst (HasCount (GoesBefore (suc x) 0)) sum (count_same (GoesBefore x place.positions) (GoesBefore (suc x) 0) (place.positions * removed_before rule x + place.positions) (next_node x) (positions_counted x (place.positions * removed_before rule x) place.positions e (omega arith) counted)))
      go false e counted =
          let sum : place.positions * removed_before rule x ≡ place.positions * (removed_before rule x + 0) = omega arith in
          rw e (subst (HasCount (GoesBefore (suc x) 0)) sum (count_same (GoesBefore x 0) (GoesBefore (suc x) 0) (place.positions * removed_before rule x) (λ d. kept_node x d e) counted))

  pub gone_counted : HasCount (IsGone (scene_of map rule place)) (place.positions * removed_nodes rule)
  gone_counted = count_same (GoesBefore (length rule.nodes) 0) (IsGone (scene_of map rule place)) (place.positions * removed_nodes rule) (λ d. (to d, back d)) (nodes_counted (length rule.nodes))
    where
      to : (d : ℕ) → GoesBefore (length rule.nodes) 0 d → IsGone (scene_of map rule place) d
      to d h = (h.node, h.position, h.removed, h.within, h.is)

      back : (d : ℕ) → IsGone (scene_of map rule place) d → GoesBefore (length rule.nodes) 0 d
      back d (x, p, removed, within, is) = record { node = x; position = p; removed = removed; within = within; before = inl (word_below rule Left x (left_of x removed)); is = is }

  gone_live : (d : ℕ) → IsGone (scene_of map rule place) d → IsDart map d
  gone_live d (x, p, removed, within, is) = subst (IsDart map) (sym is) (found.live x p (left_of x removed, within))

  pub staying_counted : (n : ℕ) → HasCount (IsDart map) n → (place.positions * removed_nodes rule ≤ n) × HasCount (λ d. IsDart map d × (IsGone (scene_of map rule place) d → ⊥)) (n - place.positions * removed_nodes rule)
  staying_counted n counted = count_left (IsDart map) (IsGone (scene_of map rule place)) n (place.positions * removed_nodes rule) gone_live counted gone_counted

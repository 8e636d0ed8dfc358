-- The least odd walk, label by label: each is the least that leads nearer to the start.
use Rattle.std.proofs.Common.{◌≡◌, ℕ, ◌+◌, ◌-◌, ◌%◌, ◌<◌, ◌≤◌, ◌⊎◌, List, [], ◌∷◌, ◌++◌, length, refl, sym, ap, subst, ◌∙◌, inl, inr, arith, append_assoc, length-append}
use Rattle.std.proofs.lemmas.Bool.{cases_order}
use Rattle.std.proofs.lemmas.List.{append-nil, length_push}
use Rattle.gm_model.specs.Maps.{IsGeneralised}
use Rattle.gm_arena.specs.inner.ArenaAsMap.{as_map}
use Rattle.gm_arena.specs.inner.ArenaMap.{ArenaMap, IsAt, IsLiveSlot, IsLiveName, name_at, alpha}
use Rattle.gm_arena.specs.inner.Lawful.{IsLawful}
use Rattle.gm_arena.proofs.MapLemmas.{name_at-is, IsLiveName-name_at, slot_of_name}
use Rattle.gm_cells.specs.Colours.{IsOddWalk, IsLeastOddWalk, IsFirstOdd}
use Rattle.gm_cells.specs.inner.Search.{mark_of, Leads, IsMarkedBy}
use Rattle.gm_cells.specs.inner.OddStart.{IsOddStart, IsNearer, IsFirstNearer}
use Rattle.gm_cells.proofs.LabelOrder.{IsLower, shorter_or_lower}
use Rattle.gm_cells.proofs.SearchLemmas.{mark_parity}
use Rattle.gm_cells.proofs.WalkLemmas.{step_back, no_colours}

-- ---- the order of the labels

pub lower_at : (front : List ℕ) (i j : ℕ) (rest others : List ℕ) → i < j → IsLower (front ++ i ∷ rest) (front ++ j ∷ others)
lower_at [] i j rest others less = inl less
lower_at (x ∷ front) i j rest others less = inr (refl, lower_at front i j rest others less)

pub not_both : (a b : List ℕ) → IsLower a b → IsLower b a → ⊥
not_both [] b h k = h
not_both (i ∷ a) [] h k = h
not_both (i ∷ a) (j ∷ b) (inl h) (inl k) = omega arith
not_both (i ∷ a) (j ∷ b) (inl h) (inr k) = (let e = k.0 in omega arith)
not_both (i ∷ a) (j ∷ b) (inr h) (inl k) = (let e = h.0 in omega arith)
not_both (i ∷ a) (j ∷ b) (inr h) (inr k) = not_both a b h.1 k.1

-- ---- on the way

-- the labels lead from the start to the slot, and each odd walk of least length comes later or begins with them
pub record IsOnWay (m : ArenaMap) (marks : List ℕ) (start slot mark : ℕ) (labels : List ℕ) : Type 0 where
  pub live : IsLiveSlot m slot
  pub some : 0 < mark
  pub is : mark_of marks slot (mark + 1) ≡ mark
  pub way : (w : List ℕ) × Leads m (name_at m start) w (name_at m slot)
  pub long : length labels + mark ≡ mark_of marks start 1
  pub on : (w : List ℕ) → Leads m (name_at m start) w (name_at m slot) → Leads m (name_at m start) (labels ++ w) (name_at m start)
  pub least : (v : List ℕ) → Leads m (name_at m start) v (name_at m start) → length v + 1 ≡ mark_of marks start 1 → ((rest : List ℕ) → IsLower (labels ++ rest) v) ⊎ ((w : List ℕ) × (v ≡ labels ++ w) × Leads m (name_at m start) w (name_at m slot))

module _ (m : ArenaMap) (lawful : IsLawful m) (gmap : IsGeneralised (as_map m)) (marks : List ℕ) (start : ℕ) (odd : IsOddStart m start marks) where
  live_at : (slot d : ℕ) → IsAt m slot d → IsLiveSlot m slot
  live_at slot d at = rw at refl

  -- an odd walk is no shorter than the mark tells
  pub no_shorter : (v : List ℕ) → IsOddWalk m.schema.dim (alpha m) (name_at m start) v → mark_of marks start 1 ≤ length v + 1
  no_shorter v walk =
      let r = odd.least start v odd.live walk.leads in
      let is : mark_of marks start 1 ≡ r.length + 1 = mark_parity marks start 1 (length v) (sym walk.odd) ∙ r.mark in
      let few = r.few in
      omega arith

  own : IsMarkedBy m (name_at m start) marks start 1
  own = odd.by start 1 [] odd.live refl odd.odd

  pub begins : IsOnWay m marks start start (mark_of marks start 1) []
  begins = record {
    live = odd.live;
    some = (let o = own in let is = o.mark in omega arith);
    is = mark_parity marks start (mark_of marks start 1 + 1) 1 (let o = own in let is = o.mark in let par = o.parity in omega arith);
    way = ([], refl);
    long = omega arith;
    on = λ w leads. leads;
    least = λ v leads long. inr (v, refl, leads);
  }

  module _ (slot mark : ℕ) (labels : List ℕ) (s : IsOnWay m marks start slot mark labels) where
    -- the first label of a walk of the length that the mark tells leads nearer
    near_of : (i : ℕ) (w : List ℕ) → Leads m (name_at m start) (i ∷ w) (name_at m slot) → length w + 2 ≡ mark → IsNearer m marks slot mark i
    near_of i w walk long =
        let y = alpha m i (name_at m slot) in
        let next = slot_of_name m y lawful (gmap.stays (name_at m slot) i (IsLiveName-name_at m slot lawful s.live) walk.0) in
        let leads : Leads m (name_at m start) w (name_at m next.0) = subst (Leads m (name_at m start) w) (sym (name_at-is m next.0 y next.1)) walk.2 in
        let r = odd.least next.0 w (live_at next.0 y next.1) leads in
        let by = odd.by next.0 (length w) w (live_at next.0 y next.1) leads (λ e. (let is = r.mark in omega arith)) in
        let back : Leads m (name_at m start) (i ∷ by.labels) (name_at m slot) = (walk.0, walk.1, subst (Leads m (name_at m start) by.labels) (name_at-is m next.0 y next.1) by.leads) in
        let far = odd.least slot (i ∷ by.labels) s.live back in
        let par = by.parity in
        let same : mark_of marks slot (length (i ∷ by.labels)) ≡ mark = mark_parity marks slot (length (i ∷ by.labels)) (mark + 1) (omega arith) ∙ s.is in
        let far_is = far.mark in
        let far_few = far.few in
        let near_is = r.mark in
        let near_few = r.few in
        let by_is = by.mark in
        record {
          low = walk.0;
          moves = walk.1;
          to = next.0;
          there = next.1;
          is = mark_parity marks next.0 mark (length w) (omega arith) ∙ (near_is ∙ omega arith);
        }

    -- there is such a label
    pub some_nearer : 1 < mark → ((i : ℕ) → IsNearer m marks slot mark i → ⊥) → ⊥
    some_nearer more none =
        let by = odd.by slot (mark + 1) s.way.0 s.live s.way.1 (λ e. (let is = s.is in omega arith)) in
        go by.labels by.leads (let is = by.mark in let is' = s.is in omega arith)
      where
        go : (w : List ℕ) → Leads m (name_at m start) w (name_at m slot) → length w + 1 ≡ mark → ⊥
        go [] leads long = omega arith
        go (i ∷ w) leads long = none i (near_of i w leads (omega arith))

    -- one label more
    pub one_nearer : 1 < mark → (i to : ℕ) → IsFirstNearer m marks slot mark i → IsAt m to (alpha m i (name_at m slot)) → IsOnWay m marks start to (mark - 1) (labels ++ i ∷ [])
    one_nearer more i to first there =
        let near = first.one in
        let y = alpha m i (name_at m slot) in
        let here = name_at-is m to y there in
        record {
          live = live_at to y there;
          some = omega arith;
          is = mark_parity marks to (mark - 1 + 1) mark (ap (λ x. x % 2) (omega arith)) ∙ ap (λ x. mark_of marks x mark) (lawful.one_slot near.to to y near.there there) ∙ near.is;
          way = (i ∷ s.way.0, subst (Leads m (name_at m start) (i ∷ s.way.0)) (sym here) (step_back m.schema.dim (IsLiveName m) (alpha m) gmap (name_at m start) (name_at m slot) i s.way.0 (IsLiveName-name_at m slot lawful s.live) near.low near.moves s.way.1));
          long = (let old = s.long in omega (arith, length_push labels i));
          on = λ w leads. subst (λ xs. Leads m (name_at m start) xs (name_at m start)) (sym (append_assoc labels (i ∷ []) w)) (s.on (i ∷ w) (near.low, near.moves, subst (Leads m (name_at m start) w) here leads));
          least = λ v leads long. elim (s.least v leads long) [
            | inl ahead ↦ inl (λ rest. subst (λ xs. IsLower xs v) (sym (append_assoc labels (i ∷ []) rest)) (ahead (i ∷ rest)))
            | inr same ↦ go v same.0 same.1 same.2 long
          ];
        }
      where
        go : (v w : List ℕ) → v ≡ labels ++ w → Leads m (name_at m start) w (name_at m slot) → length v + 1 ≡ mark_of marks start 1
            → ((rest : List ℕ) → IsLower ((labels ++ i ∷ []) ++ rest) v) ⊎ ((w : List ℕ) × (v ≡ (labels ++ i ∷ []) ++ w) × Leads m (name_at m start) w (name_at m to))
        go v [] is leads long = absurd (let old = s.long in omega (arith, ap length is, length-append labels []))
        go v (j ∷ w) is leads long =
            let near_j = near_of j w leads (let old = s.long in omega (arith, ap length is, length-append labels (j ∷ w))) in
            elim (cases_order i j) [
              | inl same ↦ inr (w, is ∙ ap (λ x. labels ++ x ∷ w) (sym same) ∙ sym (append_assoc labels (i ∷ []) w), subst (Leads m (name_at m start) w) (ap (λ x. alpha m x (name_at m slot)) (sym same) ∙ sym (name_at-is m to _ there)) leads.2)
              | inr (inl less) ↦ inl (λ rest. subst (λ xs. IsLower xs v) (sym (append_assoc labels (i ∷ []) rest)) (subst (IsLower (labels ++ i ∷ rest)) (sym is) (lower_at labels i j rest w less)))
              | inr (inr more) ↦ absurd (first.before j more near_j)
            ]

    -- the start is reached
    pub ends : mark ≤ 1 → IsLeastOddWalk m.schema.dim (alpha m) (name_at m start) labels
    ends few = record {
      walk = record { odd = (let o = own in let is = o.mark in let par = o.parity in let long = s.long in let some = s.some in omega arith); leads = subst (λ xs. Leads m (name_at m start) xs (name_at m start)) (append-nil labels) (s.on [] home) };
      least = λ others walk before. elim (shorter_or_lower others labels before) [
        | inl less ↦ (let most = no_shorter others walk in let long = s.long in let some = s.some in omega arith)
        | inr same ↦ elim (s.least others walk.leads (let e = same.0 in let long = s.long in let some = s.some in omega arith)) [
          | inl ahead ↦ not_both labels others (subst (λ xs. IsLower xs others) (append-nil labels) (ahead [])) same.1
          | inr on ↦ itself others on.0 on.1 same.0 same.1
        ]
      ];
    }
      where
        home : name_at m slot ≡ name_at m start
        home =
            let by = odd.by slot (mark + 1) s.way.0 s.live s.way.1 (λ e. (let is = s.is in let some = s.some in omega arith)) in
            go by.labels by.leads (let is = by.mark in let is' = s.is in omega arith)
          where
            go : (w : List ℕ) → Leads m (name_at m start) w (name_at m slot) → length w + 1 ≡ mark → name_at m slot ≡ name_at m start
            go [] leads long = leads
            go (i ∷ w) leads long = absurd (omega arith)

        itself : (others w : List ℕ) → others ≡ labels ++ w → length others ≡ length labels → IsLower others labels → ⊥
        itself others [] is long low = (let same : others ≡ labels = is ∙ append-nil labels in not_both labels labels (subst (λ xs. IsLower xs labels) same low) (subst (λ xs. IsLower xs labels) same low))
        itself others (i ∷ w) is long low = omega (arith, ap length is, length-append labels (i ∷ w))

-- the answer
pub first_odd_is : (m : ArenaMap) (gmap : IsGeneralised (as_map m)) (marks : List ℕ) (slot start : ℕ) (labels : List ℕ) → IsOddStart m slot marks → IsAt m slot start → IsLeastOddWalk m.schema.dim (alpha m) (name_at m slot) labels → IsFirstOdd (as_map m) start labels
first_odd_is m gmap marks slot start labels odd at walk = subst (λ d. IsFirstOdd (as_map m) d labels) (name_at-is m slot start at) (record {
  lead = odd.lead;
  none = λ colours. no_colours m.schema.dim (IsLiveName m) (alpha m) gmap (name_at m slot) labels colours.0 walk.walk colours.1;
  earlier = odd.earlier;
  walk = walk;
})

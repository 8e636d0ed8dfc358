-- How a search goes on, label by label and dart by dart, and what it has found at its end.
use Rattle.std.proofs.Common.{◌≡◌, ◌≢◌, ℕ, ◌+◌, ◌*◌, ◌%◌, ◌<◌, ◌≤◌, ◌⊎◌, ◌==◌, cond, List, [], ◌∷◌, ◌++◌, Some, length, get_or, set, refl, sym, ap, subst, ◌∙◌, inl, inr, arith}
use Rattle.std.proofs.lemmas.Bool.{cases_lt, cases_eq, ne_eqb}
use Rattle.std.proofs.lemmas.List.{get_or_append_left, get_or_push, get_or-set_same, get_or-set_other, length_push}
use Rattle.std.proofs.lemmas.List.Sums.{sum_by-set, count_by-le-length}
use Rattle.gm_model.specs.Maps.{IsGeneralised}
use Rattle.gm_model.specs.Orbits.{IsPairBefore}
use Rattle.gm_arena.specs.inner.ArenaAsMap.{as_map}
use Rattle.gm_arena.specs.inner.ArenaMap.{ArenaMap, IsAt, IsLiveSlot, IsLiveName, name_at, alpha}
use Rattle.gm_arena.specs.declared.slot.Slot.{Slot}
use Rattle.gm_arena.specs.inner.Lawful.{IsLawful}
use Rattle.gm_arena.proofs.MapLemmas.{IsAt-name_at, name_at-is, IsLiveName-name_at}
use Rattle.gm_cells.specs.declared.search.Visit.{Visit}
use Rattle.gm_cells.specs.inner.Search.{mark_of, Leads, IsFresh, IsSearched, Reaches, nowhere, slot_in, length_in, dart_in, unmarked, IsQueued, IsInQueue, IsFound, IsSearching}
use Rattle.gm_cells.specs.inner.Search.Reaches.{Known, Added}
use Rattle.gm_cells.proofs.WalkLemmas.{step_back}

-- the mark goes by the parity
pub mark_parity : (marks : List ℕ) (slot k l : ℕ) → k % 2 ≡ l % 2 → mark_of marks slot k ≡ mark_of marks slot l
mark_parity marks slot k l e = ap (λ r. get_or marks (2 * slot + r) 0) e

place_tells : (s t k l : ℕ) → 2 * s + k % 2 ≡ 2 * t + l % 2 → (s ≡ t) × (k % 2 ≡ l % 2)
place_tells s t k l e = (omega arith, omega arith)

-- the pairs before the next label
pub before_next : (q i at label : ℕ) → IsPairBefore q i at (label + 1) → IsPairBefore q i at label ⊎ ((q ≡ at) × (i ≡ label))
before_next q i at label (inl h) = inl (inl h)
before_next q i at label (inr h) = elim (cases_lt i label) [ inl k ↦ inl (inr (h.0, k)) | inr k ↦ inr (h.0, (let less = h.1 in omega arith)) ]

module _ (m : ArenaMap) (d : ℕ) (old : List ℕ) where
  -- one label more, which leads to a dart of the queue or nowhere
  module _ (at label : ℕ) (marks : List ℕ) (queue : List Visit) (s : IsSearching m d old at label marks queue) where
    pub next_label : (alpha m label (dart_in m queue at) ≢ dart_in m queue at → IsQueued m queue (alpha m label (dart_in m queue at)) (length_in queue at + 1)) → IsSearching m d old at (label + 1) marks queue
    next_label there = record {
      fresh = s.fresh;
      some = s.some;
      starts = s.starts;
      found = s.found;
      near = s.near;
      closed = λ q i before within low moves. elim (before_next q i at label before) [
        | inl earlier ↦ s.closed q i earlier within low moves
        | inr here ↦ go q i here.0 here.1 moves
      ];
    }
      where
        go : (q i : ℕ) → q ≡ at → i ≡ label → alpha m i (dart_in m queue q) ≢ dart_in m queue q → IsQueued m queue (alpha m i (dart_in m queue q)) (length_in queue q + 1)
        go q i e f =
            let P : ℕ → ℕ → Type 0 = λ x y. alpha m y (dart_in m queue x) ≢ dart_in m queue x → IsQueued m queue (alpha m y (dart_in m queue x)) (length_in queue x + 1) in
            subst (λ x. P x i) (sym e) (subst (P at) (sym f) there)

  -- each label of the dart was followed
  pub next_visit : (at label : ℕ) (marks : List ℕ) (queue : List Visit) → label ≡ m.schema.dim + 1 → at < length queue → IsSearching m d old at label marks queue → IsSearching m d old (at + 1) 0 marks queue
  next_visit at label marks queue all within s = record {
    fresh = s.fresh;
    some = s.some;
    starts = s.starts;
    found = s.found;
    near = λ q more less. omega (arith, s.near q within less, s.found.rising at (at + 1) (omega arith) more);
    closed = λ q i before less low moves. s.closed q i (earlier q i before low) less low moves;
  }
    where
      earlier : (q i : ℕ) → IsPairBefore q i (at + 1) 0 → i ≤ m.schema.dim → IsPairBefore q i at label
      earlier q i (inl h) low = elim (cases_lt q at) [ inl l ↦ inl l | inr l ↦ inr (omega arith, omega arith) ]
      earlier q i (inr h) low = absurd (let less = h.1 in omega arith)

  -- ---- one dart more

  module _ (marks : List ℕ) (queue : List Visit) (f : IsFound m d old marks queue) (slot : Slot) (k : ℕ) (room : 2 * slot.at + 1 < length marks) (free : mark_of marks slot.at k ≡ 0) where
    place : ℕ
    place = 2 * slot.at + k % 2

    visit : Visit
    visit = record { slot = slot; length = k }

    -- the queue with the slot at its end
    longer : length (queue ++ record { slot = slot; length = k } ∷ []) ≡ length queue + 1
    longer = length_push queue (record { slot = slot; length = k })

    pub same : (p : ℕ) → p < length queue → get_or (queue ++ record { slot = slot; length = k } ∷ []) p nowhere ≡ get_or queue p nowhere
    same p h = get_or_append_left queue (record { slot = slot; length = k } ∷ []) nowhere p h

    pub last : (p : ℕ) → length queue ≡ p → get_or (queue ++ record { slot = slot; length = k } ∷ []) p nowhere ≡ record { slot = slot; length = k }
    last p e = get_or_push queue (record { slot = slot; length = k }) nowhere p e

    -- what holds of each visit of the queue and of the new one holds of all
    each : (P : ℕ → Visit → Type 0) → ((p : ℕ) → p < length queue → P p (get_or queue p nowhere)) → P (length queue) (record { slot = slot; length = k }) → (p : ℕ) → p < length (queue ++ record { slot = slot; length = k } ∷ []) → P p (get_or (queue ++ record { slot = slot; length = k } ∷ []) p nowhere)
    each P old_ones new_one p h = elim (cases_lt p (length queue)) [
      | inl l ↦ subst (P p) (sym (same p l)) (old_ones p l)
      | inr l ↦ (let end : length queue ≡ p = omega (arith, longer) in subst (P p) (sym (last p end)) (subst (λ q. P q (record { slot = slot; length = k })) end new_one))
    ]

    other : (q : ℕ) → get_or marks q 0 ≢ 0 → get_or (set marks (2 * slot.at + k % 2) (k + 1)) q 0 ≡ get_or marks q 0
    other q h = get_or-set_other marks (2 * slot.at + k % 2) q (k + 1) 0 (λ e. h (ap (λ r. get_or marks r 0) e ∙ free))

    pub in_longer : (s l : ℕ) → IsInQueue queue s l → IsInQueue (queue ++ record { slot = slot; length = k } ∷ []) s l
    in_longer s l i = record {
      place = i.place;
      within = (let w = i.within in omega (arith, longer));
      is = ap (λ (v : Visit). let x = v in x.slot.at) (same i.place i.within) ∙ i.is;
      parity = ap (λ (v : Visit). let x = v in x.length % 2) (same i.place i.within) ∙ i.parity;
    }

    pub queued_longer : (e most : ℕ) → IsQueued m queue e most → IsQueued m (queue ++ record { slot = slot; length = k } ∷ []) e most
    queued_longer e most i = record {
      place = i.place;
      within = (let w = i.within in omega (arith, longer));
      is = ap (λ (v : Visit). name_at m v.slot.at) (same i.place i.within) ∙ i.is;
      few = subst (λ (v : Visit). v.length ≤ most) (sym (same i.place i.within)) i.few;
      parity = ap (λ (v : Visit). v.length % 2) (same i.place i.within) ∙ i.parity;
    }

    pub found_more : IsLiveSlot m slot.at → (w : List ℕ) → Leads m d w (name_at m slot.at) → length w ≡ k → k ≤ length queue → ((p : ℕ) → p < length queue → length_in queue p ≤ k)
        → IsFound m d old (set marks (2 * slot.at + k % 2) (k + 1)) (queue ++ record { slot = slot; length = k } ∷ [])
    found_more alive w leads long low high = record {
      live = each (λ _ v. IsLiveSlot m v.slot.at) f.live alive;
      led = λ p h. (let one = each (λ _ v. (labels : List ℕ) × Leads m d labels (name_at m v.slot.at) × (length labels ≡ v.length)) (λ q l. (let g = f.led q l in (g.labels, g.leads, g.long))) (w, leads, long) p h in record { labels = one.0; leads = one.1; long = one.2 });
      marked = each (λ _ v. mark_of (set marks (2 * slot.at + k % 2) (k + 1)) v.slot.at v.length ≡ v.length + 1)
          (λ q l. other (2 * slot_in queue q + length_in queue q % 2) (λ e. (let is = f.marked q l in omega (arith, e, is))) ∙ f.marked q l)
          (get_or-set_same marks (2 * slot.at + k % 2) (k + 1) 0 (omega arith));
      kept = λ q h. other q (λ e. h (sym (f.kept q h) ∙ e)) ∙ f.kept q h;
      only = λ s l h. elim (cases_eq (2 * s + l % 2) (2 * slot.at + k % 2)) [
        | inl e ↦ (let is = place_tells s slot.at l k e in inr (record { place = length queue; within = omega (arith, longer); is = ap (λ (v : Visit). v.slot.at) (last (length queue) refl) ∙ sym is.0; parity = ap (λ (v : Visit). v.length % 2) (last (length queue) refl) ∙ sym is.1 }))
        | inr apart ↦ elim (f.only s l (λ e. h (get_or-set_other marks (2 * slot.at + k % 2) (2 * s + l % 2) (k + 1) 0 apart ∙ e))) [
          | inl o ↦ inl o
          | inr i ↦ inr (in_longer s l i)
        ]
      ];
      low = each (λ p v. v.length ≤ p) f.low low;
      rising = λ p q below h. elim (cases_lt q (length queue)) [
        | inl l ↦ subst (λ (v : Visit). v.length ≤ length_in (queue ++ record { slot = slot; length = k } ∷ []) q) (sym (same p (omega arith))) (subst (λ (v : Visit). length_in queue p ≤ v.length) (sym (same q l)) (f.rising p q below l))
        | inr l ↦
            let end : length queue ≡ q = omega (arith, longer) in
            subst (λ (v : Visit). length_in (queue ++ record { slot = slot; length = k } ∷ []) p ≤ v.length) (sym (last q end))
            (elim (cases_lt p (length queue)) [
              | inl less ↦ subst (λ (v : Visit). v.length ≤ k) (sym (same p less)) (high p less)
              | inr more ↦ (let end' : length queue ≡ p = omega arith in subst (λ (v : Visit). v.length ≤ k) (sym (last p end')) (omega arith))
            ])
      ];
      counted =
          let one : unmarked (set marks (2 * slot.at + k % 2) (k + 1)) + cond {A = ℕ} (get_or marks (2 * slot.at + k % 2) 0 == 0) 1 0 ≡ unmarked marks + cond {A = ℕ} (k + 1 == 0) 1 0 = sum_by-set (λ mark. cond (mark == 0) 1 0) marks (2 * slot.at + k % 2) (k + 1) 0 (omega arith) in
          let was : cond {A = ℕ} (get_or marks (2 * slot.at + k % 2) 0 == 0) 1 0 ≡ 1 = ap (λ mark. cond (mark == 0) 1 0) free in
          let is : cond {A = ℕ} (k + 1 == 0) 1 0 ≡ 0 = ap (λ b. cond b 1 0) (ne_eqb (k + 1) 0 (λ e. omega arith)) in
          omega (arith, longer, f.counted);
    }

  -- nothing was reached
  pub found_none : IsFound m d old old []
  found_none = record {
    live = λ p h. absurd (omega arith);
    led = λ p h. absurd (omega arith);
    marked = λ p h. absurd (omega arith);
    kept = λ q h. refl;
    only = λ s k h. inl h;
    low = λ p h. absurd (omega arith);
    rising = λ p q l h. absurd (omega arith);
    counted = omega arith;
  }

  -- the search begins
  pub begun : (slot : Slot) (marks : List ℕ) (queue : List Visit) → IsFresh m d old → IsLiveSlot m slot.at → name_at m slot.at ≡ d → 2 * slot.at + 1 < length old → Reaches slot 0 old [] marks queue → IsSearching m d old 0 0 marks queue
  begun slot marks queue fresh live is room (Known marked e f) = absurd (marked (fresh slot.at 0 [] live is))
  begun slot marks queue fresh live is room (Added free e f) =
      subst (λ xs. IsSearching m d old 0 0 xs queue) (sym e) (subst (IsSearching m d old 0 0 (set old (2 * slot.at + 0 % 2) 1)) (sym f) (record {
        fresh = fresh;
        some = omega arith;
        starts = (is, refl);
        found = found_more old [] found_none slot 0 room free live [] is refl (omega arith) (λ p h. absurd (omega arith));
        near = λ q h k. (let zero_is : 0 ≡ q = omega arith in subst (λ r. length_in (record { slot = slot; length = 0 } ∷ []) r ≤ 1) zero_is (omega arith));
        closed = λ q i before. absurd (elim before [ inl h ↦ omega arith | inr h ↦ (let k = h.1 in omega arith) ]);
      }))

  -- ---- a neighbour is reached

  module _ (lawful : IsLawful m) (gmap : IsGeneralised (as_map m)) (at label : ℕ) (marks : List ℕ) (queue : List Visit) (s : IsSearching m d old at label marks queue) (within : at < length queue) (low : label ≤ m.schema.dim) where
    -- the dart is its own neighbour
    pub stays_there : (to : ℕ) → IsAt m to (alpha m label (dart_in m queue at)) → to ≡ slot_in queue at → IsSearching m d old at (label + 1) marks queue
    stays_there to there e = next_label at label marks queue s (λ moves. absurd (moves (some_same _ _ (sym (subst (λ x. IsAt m x (alpha m label (dart_in m queue at))) e there) ∙ IsAt-name_at m (slot_in queue at) (s.found.live at within)))))
      where
        some_same : (x y : ℕ) → Some x ≡ Some y → x ≡ y
        some_same x y e = cc

    module _ (to : Slot) (there : IsAt m to.at (alpha m label (dart_in m queue at))) (moves : to.at ≢ slot_in queue at) where
      k : ℕ
      k = length_in queue at + 1

      here : IsLiveName m (dart_in m queue at)
      here = IsLiveName-name_at m (slot_in queue at) lawful (s.found.live at within)

      alive : IsLiveSlot m to.at
      alive = rw there refl

      named : name_at m to.at ≡ alpha m label (dart_in m queue at)
      named = name_at-is m to.at _ there

      dart_moves : alpha m label (dart_in m queue at) ≢ dart_in m queue at
      dart_moves e = moves (lawful.one_slot (slot_in queue at) to.at (dart_in m queue at) (IsAt-name_at m (slot_in queue at) (s.found.live at within)) (there ∙ ap Some e))

      walk : List ℕ
      walk = label ∷ (s.found.led at within).labels

      walk_leads : Leads m d (label ∷ (s.found.led at within).labels) (name_at m to.at)
      walk_leads = subst (Leads m d (label ∷ (s.found.led at within).labels)) (sym named)
          (step_back m.schema.dim (IsLiveName m) (alpha m) gmap d (dart_in m queue at) label (s.found.led at within).labels here low dart_moves (s.found.led at within).leads)

      walk_long : length (label ∷ (s.found.led at within).labels) ≡ length_in queue at + 1
      walk_long = (let is = (s.found.led at within).long in omega (arith, is))

      pub known_there : mark_of marks to.at (length_in queue at + 1) ≢ 0 → IsSearching m d old at (label + 1) marks queue
      known_there h = next_label at label marks queue s (λ _. elim (s.found.only to.at (length_in queue at + 1) h) [
        | inl o ↦ absurd (o (s.fresh to.at (length_in queue at + 1) (label ∷ (s.found.led at within).labels) alive walk_leads))
        | inr i ↦ record {
          place = i.place;
          within = i.within;
          is = ap (name_at m) i.is ∙ named;
          few = s.near i.place within i.within;
          parity = i.parity;
        }
      ])

      added_there : 2 * to.at + 1 < length marks → mark_of marks to.at (length_in queue at + 1) ≡ 0 → IsSearching m d old at (label + 1) (set marks (2 * to.at + (length_in queue at + 1) % 2) (length_in queue at + 1 + 1)) (queue ++ record { slot = to; length = length_in queue at + 1 } ∷ [])
      added_there room free = next_label at label _ _ (record {
        fresh = s.fresh;
        some = omega (arith, long);
        starts = (ap (λ (v : Visit). name_at m v.slot.at) first ∙ s.starts.0, ap (λ (v : Visit). v.length) first ∙ s.starts.1);
        found = found_more marks queue s.found to (length_in queue at + 1) room free alive (label ∷ (s.found.led at within).labels) walk_leads walk_long (let few = s.found.low at within in omega (arith, few)) (λ p h. s.near p within h);
        near = λ q _ h. subst (λ (v : Visit). length_in (queue ++ record { slot = to; length = length_in queue at + 1 } ∷ []) q ≤ v.length + 1) (sym at_same) (elim (cases_lt q (length queue)) [
          | inl l ↦ subst (λ (v : Visit). v.length ≤ length_in queue at + 1) (sym (same marks queue s.found to (length_in queue at + 1) room free q l)) (s.near q within l)
          | inr l ↦ (let end : length queue ≡ q = omega (arith, long) in subst (λ (v : Visit). v.length ≤ length_in queue at + 1) (sym (last marks queue s.found to (length_in queue at + 1) room free q end)) (omega arith))
        ]);
        closed = λ q i before h lower goes. go q i before (q_within q i before) lower goes;
      }) (λ _. record {
        place = length queue;
        within = omega (arith, long);
        is = ap (λ (v : Visit). name_at m v.slot.at) end_is ∙ named ∙ ap (λ (v : Visit). alpha m label (name_at m v.slot.at)) (sym at_same);
        few = subst (λ (v : Visit). v.length ≤ length_in (queue ++ record { slot = to; length = length_in queue at + 1 } ∷ []) at + 1) (sym end_is) (subst (λ (v : Visit). length_in queue at + 1 ≤ v.length + 1) (sym at_same) (omega arith));
        parity = ap (λ (v : Visit). v.length % 2) end_is ∙ ap (λ (v : Visit). (v.length + 1) % 2) (sym at_same);
      })
        where
          long : length (queue ++ record { slot = to; length = length_in queue at + 1 } ∷ []) ≡ length queue + 1
          long = length_push queue (record { slot = to; length = length_in queue at + 1 })

          first : get_or (queue ++ record { slot = to; length = length_in queue at + 1 } ∷ []) 0 nowhere ≡ get_or queue 0 nowhere
          first = same marks queue s.found to (length_in queue at + 1) room free 0 s.some

          at_same : get_or (queue ++ record { slot = to; length = length_in queue at + 1 } ∷ []) at nowhere ≡ get_or queue at nowhere
          at_same = same marks queue s.found to (length_in queue at + 1) room free at within

          end_is : get_or (queue ++ record { slot = to; length = length_in queue at + 1 } ∷ []) (length queue) nowhere ≡ record { slot = to; length = length_in queue at + 1 }
          end_is = last marks queue s.found to (length_in queue at + 1) room free (length queue) refl

          q_within : (q i : ℕ) → IsPairBefore q i at label → q < length queue
          q_within q i (inl h) = omega arith
          q_within q i (inr h) = (let e = h.0 in omega arith)

          go : (q i : ℕ) → IsPairBefore q i at label → q < length queue → i ≤ m.schema.dim → alpha m i (dart_in m (queue ++ record { slot = to; length = length_in queue at + 1 } ∷ []) q) ≢ dart_in m (queue ++ record { slot = to; length = length_in queue at + 1 } ∷ []) q
              → IsQueued m (queue ++ record { slot = to; length = length_in queue at + 1 } ∷ []) (alpha m i (dart_in m (queue ++ record { slot = to; length = length_in queue at + 1 } ∷ []) q)) (length_in (queue ++ record { slot = to; length = length_in queue at + 1 } ∷ []) q + 1)
          go q i before h lower goes =
              let P : Visit → Type 0 = λ v. alpha m i (name_at m v.slot.at) ≢ name_at m v.slot.at → IsQueued m (queue ++ record { slot = to; length = length_in queue at + 1 } ∷ []) (alpha m i (name_at m v.slot.at)) (v.length + 1) in
              subst P (sym (same marks queue s.found to (length_in queue at + 1) room free q h)) (λ goes'. queued_longer marks queue s.found to (length_in queue at + 1) room free _ _ (s.closed q i before h lower goes')) goes

      pub reached_there : (marks' : List ℕ) (queue' : List Visit) → 2 * to.at + 1 < length marks → Reaches to (length_in queue at + 1) marks queue marks' queue' → IsSearching m d old at (label + 1) marks' queue'
      reached_there marks' queue' room (Known marked e f) = subst (λ xs. IsSearching m d old at (label + 1) xs queue') (sym e) (subst (IsSearching m d old at (label + 1) marks) (sym f) (known_there marked))
      reached_there marks' queue' room (Added free e f) =
          subst (λ xs. IsSearching m d old at (label + 1) xs queue') (sym e) (subst (IsSearching m d old at (label + 1) (set marks (2 * to.at + (length_in queue at + 1) % 2) (length_in queue at + 1 + 1))) (sym f) (added_there room free))

  -- ---- the end

  module _ (lawful : IsLawful m) (gmap : IsGeneralised (as_map m)) (at : ℕ) (marks : List ℕ) (queue : List Visit) (s : IsSearching m d old at 0 marks queue) (all : length queue ≤ at) where
    -- a walk to d has its dart in the queue
    reached : (w : List ℕ) (e : ℕ) → IsLiveName m e → Leads m d w e → IsQueued m queue e (length w)
    reached [] e live is = record { place = 0; within = s.some; is = s.starts.0 ∙ sym is; few = omega (arith, s.starts.1); parity = ap (λ n. n % 2) s.starts.1 }
    reached (i ∷ w) e live walk =
        let y = alpha m i e in
        let q : IsQueued m queue y (length w) = reached w y (gmap.stays e i live walk.0) walk.2 in
        let back : alpha m i y ≡ e = gmap.back e i live walk.0 in
        let there : alpha m i (dart_in m queue q.place) ≡ e = ap (alpha m i) q.is ∙ back in
        let goes : alpha m i (dart_in m queue q.place) ≢ dart_in m queue q.place = λ same. walk.1 (sym q.is ∙ sym same ∙ there) in
        let next = s.closed q.place i (inl (let within = q.within in omega arith)) q.within walk.0 goes in
        record {
          place = next.place;
          within = next.within;
          is = next.is ∙ there;
          few = (let a = next.few in let b = q.few in omega (arith, a, b));
          parity = (let a = next.parity in let b = q.parity in omega (arith, a, b));
        }

    slot_is : (p slot : ℕ) → p < length queue → IsLiveSlot m slot → dart_in m queue p ≡ name_at m slot → slot_in queue p ≡ slot
    slot_is p slot h live e = lawful.one_slot slot (slot_in queue p) (name_at m slot) (IsAt-name_at m slot live) (IsAt-name_at m (slot_in queue p) (s.found.live p h) ∙ ap Some e)

    pub searched : IsSearched m d old marks
    searched = record {
      kept = s.found.kept;
      only = λ slot k live h. elim (s.found.only slot k h) [
        | inl o ↦ inl o
        | inr i ↦
            let led = s.found.led i.place i.within in
            inr (record {
              labels = led.labels;
              leads = subst (λ x. Leads m d led.labels (name_at m x)) i.is led.leads;
              parity = ap (λ n. n % 2) led.long ∙ i.parity;
              mark = sym (ap (λ x. mark_of marks x k) i.is) ∙ mark_parity marks (slot_in queue i.place) k (length_in queue i.place) (sym i.parity) ∙ s.found.marked i.place i.within ∙ ap (λ n. n + 1) (sym led.long);
            })
      ];
      least = λ slot labels live leads.
          let q = reached labels (name_at m slot) (IsLiveName-name_at m slot lawful live) leads in
          record {
            length = length_in queue q.place;
            mark = sym (ap (λ x. mark_of marks x (length labels)) (slot_is q.place slot q.within live q.is)) ∙ mark_parity marks (slot_in queue q.place) (length labels) (length_in queue q.place) (sym q.parity) ∙ s.found.marked q.place q.within;
            few = q.few;
          };
    }

pub longer_after : (slot : Slot) (k : ℕ) (marks marks' : List ℕ) (queue queue' : List Visit) → Reaches slot k marks queue marks' queue' → length queue ≤ length queue'
longer_after slot k marks marks' queue queue' (Known h e f) = omega (arith, ap (λ (xs : List Visit). length xs) f)
longer_after slot k marks marks' queue queue' (Added h e f) = omega (arith, ap (λ (xs : List Visit). length xs) f, length_push queue (record { slot = slot; length = k }))

pub same_after : (slot : Slot) (k : ℕ) (marks marks' : List ℕ) (queue queue' : List Visit) → Reaches slot k marks queue marks' queue' → (p : ℕ) → p < length queue → get_or queue' p nowhere ≡ get_or queue p nowhere
same_after slot k marks marks' queue queue' (Known h e f) p less = ap (λ xs. get_or xs p nowhere) f
same_after slot k marks marks' queue queue' (Added h e f) p less = ap (λ xs. get_or xs p nowhere) f ∙ get_or_append_left queue (record { slot = slot; length = k } ∷ []) nowhere p less

-- no walk of the queue is as long as there are marks
pub short_queue : (m : ArenaMap) (d : ℕ) (old marks : List ℕ) (queue : List Visit) → IsFound m d old marks queue → (p : ℕ) → p < length queue → length_in queue p < length old
short_queue m d old marks queue f p within = omega (arith, f.low p within, within, f.counted, count_by-le-length (λ mark. mark == 0) old)

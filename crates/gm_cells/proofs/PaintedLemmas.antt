-- The components of a map, painted one after another, and what their colours say at the end.
use Rattle.std.proofs.Common.{◌≡◌, ◌≢◌, ℕ, ◌+◌, ◌<◌, ◌≤◌, Bool, true, false, List, [], ◌∷◌, ◌++◌, Option, Some, None, is_some, IsTrue, replicate, refl, sym, ap, subst, ◌∙◌, inl, inr, arith}
use Rattle.std.specs.Option.{IsSome}
use Rattle.std.proofs.lemmas.Bool.{cases_lt, cases_eq, false≢true}
use Rattle.std.proofs.lemmas.List.{get_or-replicate, get_or_past, length-replicate, length_push}
use Rattle.gm_model.specs.Maps.{IsGeneralised}
use Rattle.gm_arena.specs.inner.ArenaAsMap.{as_map}
use Rattle.gm_arena.specs.inner.ArenaMap.{ArenaMap, IsAt, IsLiveSlot, IsLiveName, name_at, alpha}
use Rattle.gm_arena.specs.inner.InOrder.{HasNoneFrom, IsFirstFrom}
use Rattle.gm_arena.specs.inner.Lawful.{IsLawful}
use Rattle.gm_arena.specs.declared.slot.Slot.{Slot}
use Rattle.gm_arena.proofs.MapLemmas.{IsAt-name_at, name_at-is, IsLiveName-name_at, slot_of_name}
use Rattle.gm_walk.proofs.OrbitLemmas.{orbit_join}
use Rattle.gm_cells.specs.Cells.{labels_to}
use Rattle.gm_cells.specs.Colours.{IsComponentLead}
use Rattle.gm_cells.specs.inner.Search.{Leads}
use Rattle.gm_cells.specs.inner.Painted.{colour_in, IsPaintedFrom, IsFollowed, HasOddWalk, IsUnpainted, IsPainted, IsBeforeOdd, IsOddOrNone, ArePainted}
use Rattle.gm_cells.specs.declared.components.Components.{Components}
use Rattle.gm_cells.proofs.Ascending.{none_below, gap, next_has, next_not}
use Rattle.gm_cells.proofs.InOrder.{name_up, none_between, earlier_or_this, below_all}
use Rattle.gm_cells.proofs.PaintLemmas.{painted_kept, followed_kept, followed_less, painted_some}
use Rattle.gm_cells.proofs.WalkLemmas.{walk_orbit, orbit_walk, orbit_turned}

pub zero_at : (n slot : ℕ) → colour_in (replicate n 0) slot ≡ 0
zero_at n slot = elim (cases_lt slot n) [
  | inl less ↦ get_or-replicate n slot 0 0 less
  | inr past ↦ get_or_past (replicate n 0) slot 0 (omega (arith, past, length-replicate {A = ℕ} n 0))
]

module _ (m : ArenaMap) (lawful : IsLawful m) (gmap : IsGeneralised (as_map m)) where
  live_at : (slot d : ℕ) → IsAt m slot d → IsLiveSlot m slot
  live_at slot d at = rw at refl

  -- ---- before the first

  pub none_painted : (n : ℕ) → ArePainted m 0 (replicate n 0) (record { count = 0; odd = None })
  none_painted n = record {
    done = λ slot d at less. absurd (omega (arith, less));
    led = λ slot some. absurd (some (zero_at n slot));
    own = λ slot d at first less. absurd (omega (arith, less));
    followed = λ slot i some. absurd (some (zero_at n slot));
    proper = λ d slot i first before live by. absurd (painted_some m d (replicate n 0) slot by (zero_at n slot));
    counted = ([], none_below (IsComponentLead (as_map m)), refl);
    odd = tt;
  }

  -- ---- darts of one component

  -- the first dart of a component is one
  pub one_lead : (d e x : ℕ) (w v : List ℕ) → IsLiveName m x → IsComponentLead (as_map m) d → IsComponentLead (as_map m) e → Leads m d w x → Leads m e v x → d ≡ e
  one_lead d e x w v live first other leads on =
      let to_d = walk_orbit m.schema.dim (IsLiveName m) (alpha m) gmap d w x leads in
      let to_e = walk_orbit m.schema.dim (IsLiveName m) (alpha m) gmap e v x on in
      let from_d = orbit_turned m.schema.dim (IsLiveName m) (alpha m) gmap x d live to_d in
      let from_e = orbit_turned m.schema.dim (IsLiveName m) (alpha m) gmap x e live to_e in
      let up : d ≤ e = first.least e (orbit_join (alpha m) (labels_to m.schema.dim) d x e from_d to_e) other.live in
      let down : e ≤ d = other.least d (orbit_join (alpha m) (labels_to m.schema.dim) e x d from_e to_d) first.live in
      omega (arith, up, down)

  module _ (from : ℕ) (colours : List ℕ) (found : Components) (s : ArePainted m from colours found) where
    -- colours go on along a walk
    pub spread : (w : List ℕ) (slot e to : ℕ) → IsLiveSlot m slot → colour_in colours slot ≢ 0 → Leads m e w (name_at m slot) → IsAt m to e → colour_in colours to ≢ 0
    spread [] slot e to live some leads at = λ none. some (sym (ap (colour_in colours) (lawful.one_slot slot to e (IsAt-name_at m slot live ∙ ap Some leads) at)) ∙ none)
    spread (i ∷ w) slot e to live some leads at =
        let next = s.followed slot i some leads.0 in
        spread w next.to e to (live_at next.to _ next.there) next.some (subst (Leads m e w) (sym (name_at-is m next.to _ next.there)) leads.2) at

    -- ---- the next dart

    module _ (slot name : ℕ) (at : IsAt m slot name) (first : IsFirstFrom m from slot) where
      up : from ≤ name
      up = name_up m from slot name at first

      same_slot : (other d : ℕ) → IsAt m other d → d ≡ name → other ≡ slot
      same_slot other d there e = lawful.one_slot slot other name at (there ∙ ap Some e)

      odd_later : (odd : Option Slot) → IsOddOrNone m from odd → IsOddOrNone m (name + 1) odd
      odd_later None h = tt
      odd_later (Some o) h = record { live = h.live; first = h.first; below = omega (arith, h.below, up); walk = h.walk }

      -- it has a colour, and so is no first dart
      module _ (some : colour_in colours slot ≢ 0) where
        no_first : IsComponentLead (as_map m) name → ⊥
        no_first lead =
            let old = (s.led slot some).1 in
            let by = old.by in
            let same = one_lead name old.lead name [] by.labels lead.live lead old.first refl (subst (Leads m old.lead by.labels) (name_at-is m slot name at) by.leads) in
            omega (arith, same, old.below, up)

        pub skipped : ArePainted m (name + 1) colours found
        skipped = record {
          done = λ other d there less. elim (earlier_or_this m from slot name at first d (lawful.live other d there) less) [
            | inl l ↦ s.done other d there l
            | inr e ↦ (let P : ℕ → Type 0 = λ x. colour_in colours x ≢ 0 in subst P (sym (same_slot other d there e)) some)
          ];
          led = λ other h. (let old = s.led other h in (old.0, record { lead = old.1.lead; first = old.1.first; below = omega (arith, old.1.below, up); by = old.1.by }));
          own = λ other d there lead less. elim (earlier_or_this m from slot name at first d (lawful.live other d there) less) [
            | inl l ↦ s.own other d there lead l
            | inr e ↦ absurd (no_first (subst (IsComponentLead (as_map m)) e lead))
          ];
          followed = s.followed;
          proper = s.proper;
          counted = (s.counted.0, next_not (IsComponentLead (as_map m)) from name s.counted.0 up (λ d low high lead. none_between m from slot name at first d low high lead.live) no_first s.counted.1, s.counted.2);
          odd = odd_later found.odd s.odd;
        }

      -- it has none, and so is the first dart of its component
      module _ (none : colour_in colours slot ≡ 0) where
        pub unpainted_here : IsUnpainted m name colours
        unpainted_here other w live leads = elim (cases_eq (colour_in colours other) 0) [
          | inl e ↦ e
          | inr some ↦ absurd (spread w other name slot live some leads at none)
        ]

        lead_here : IsComponentLead (as_map m) name
        lead_here = record {
          live = lawful.live slot name at;
          least = λ e joined live. elim (cases_lt e name) [
            | inl less ↦
                let there = slot_of_name m e lawful live in
                let below : e < from = elim (cases_lt e from) [ inl l ↦ l | inr l ↦ absurd (none_between m from slot name at first e l less live) ] in
                let w = orbit_walk m.schema.dim (IsLiveName m) (alpha m) gmap name e (orbit_turned m.schema.dim (IsLiveName m) (alpha m) gmap name e (lawful.live slot name at) joined) in
                absurd (spread w.0 there.0 name slot (live_at there.0 e there.1) (s.done there.0 e there.1 below) (subst (Leads m name w.0) (sym (name_at-is m there.0 e there.1)) w.1) at none)
            | inr more ↦ more
          ];
        }

        module _ (new : List ℕ) (fits : Bool) (p : IsPainted m name colours new fits) (odd : Option Slot) (here : Slot) (here_is : here.at ≡ slot) (kept : IsSome found.odd → odd ≡ found.odd) (kept_fits : IsTrue fits → odd ≡ found.odd) (new_odd : found.odd ≡ None → fits ≡ false → odd ≡ Some here) where
          here_name : name_at m here.at ≡ name
          here_name = ap (name_at m) here_is ∙ name_at-is m slot name at

          -- what lies before the first odd component now lay before it then
          before_then : (d : ℕ) (o o' : Option Slot) → found.odd ≡ o → odd ≡ o' → IsBeforeOdd m o' d → IsBeforeOdd m o d
          before_then d None o' e e' before = tt
          before_then d (Some t) o' e e' before = subst (λ x. IsBeforeOdd m x d) (sym e' ∙ (kept (rw e refl) ∙ e)) before

          -- where the new component lies before it, it fits
          fits_here : (f : Bool) (o : Option Slot) → fits ≡ f → found.odd ≡ o → IsOddOrNone m from o → IsBeforeOdd m odd name → IsTrue f
          fits_here true o e e' old before = refl
          fits_here false None e e' old before = absurd (let less = subst (λ x. IsBeforeOdd m x name) (new_odd e' e) before in omega (arith, less, here_name))
          fits_here false (Some t) e e' old before = absurd (let less = subst (λ x. IsBeforeOdd m x name) (kept (rw e' refl) ∙ e') before in omega (arith, less, old.below, up))

          odd_now : (f : Bool) (o : Option Slot) → fits ≡ f → found.odd ≡ o → IsOddOrNone m from o → IsOddOrNone m (name + 1) odd
          odd_now true o e e' old = subst (IsOddOrNone m (name + 1)) (sym (kept_fits e ∙ e')) (odd_later o old)
          odd_now false (Some t) e e' old = subst (IsOddOrNone m (name + 1)) (sym (kept (rw e' refl) ∙ e')) (odd_later (Some t) old)
          odd_now false None e e' old = subst (IsOddOrNone m (name + 1)) (sym (new_odd e' e)) (record {
            live = rw here_is (live_at slot name at);
            first = subst (IsComponentLead (as_map m)) (sym here_name) lead_here;
            below = omega (arith, here_name);
            walk = subst (HasOddWalk m) (sym here_name) (p.clash e);
          })

          was_painted : (d other : ℕ) → colour_in colours other ≢ 0 → IsPaintedFrom m d new other → IsPaintedFrom m d colours other
          was_painted d other some by = record { labels = by.labels; leads = by.leads; colour = sym (p.kept other some) ∙ by.colour }

          pub added : ArePainted m (name + 1) new (record { count = found.count + 1; odd = odd })
          added = record {
            done = λ other d there less. elim (earlier_or_this m from slot name at first d (lawful.live other d there) less) [
              | inl l ↦ (let old = s.done other d there l in λ e. old (sym (p.kept other old) ∙ e))
              | inr same ↦ (let one = p.own other (subst (IsAt m other) same there) in λ e. omega (arith, one, e))
            ];
            led = λ other some. elim (p.only other some) [
              | inl old ↦ (let h = s.led other old in (h.0, record { lead = h.1.lead; first = h.1.first; below = omega (arith, h.1.below, up); by = painted_kept m h.1.lead colours new p.kept other h.1.by }))
              | inr by ↦ (by.0, record { lead = name; first = lead_here; below = omega arith; by = by.1 })
            ];
            own = λ other d there lead less. elim (earlier_or_this m from slot name at first d (lawful.live other d there) less) [
              | inl l ↦ (let one = s.own other d there lead l in p.kept other (λ e. omega (arith, one, e)) ∙ one)
              | inr same ↦ p.own other (subst (IsAt m other) same there)
            ];
            followed = λ other i some low. elim (cases_eq (colour_in colours other) 0) [
              | inl fresh ↦ followed_less m new fits other i (p.followed other i fresh some low)
              | inr old ↦ followed_kept m colours new p.kept false other i old (s.followed other i old low)
            ];
            proper = λ d other i first before live by low. elim (cases_eq (colour_in colours other) 0) [
              | inl fresh ↦
                  let some = painted_some m d new other by in
                  let mine : IsPaintedFrom m name new other = elim (p.only other some) [ inl old ↦ absurd (old fresh) | inr q ↦ q.1 ] in
                  let same = one_lead d name (name_at m other) by.labels mine.labels (IsLiveName-name_at m other lawful live) first lead_here by.leads mine.leads in
                  let fit = fits_here fits found.odd refl refl s.odd (subst (IsBeforeOdd m odd) same before) in
                  subst (λ f. IsFollowed m new f other i) fit (p.followed other i fresh some low)
              | inr old ↦ followed_kept m colours new p.kept true other i old (s.proper d other i first (before_then d found.odd odd refl refl before) live (was_painted d other old by) low)
            ];
            counted = (s.counted.0 ++ name ∷ [], next_has (IsComponentLead (as_map m)) from name s.counted.0 up (λ d low high lead. none_between m from slot name at first d low high lead.live) lead_here s.counted.1, length_push s.counted.0 name ∙ ap (λ n. n + 1) s.counted.2);
            odd = odd_now fits found.odd refl refl s.odd;
          }

    -- ---- behind the last

    pub all_painted : HasNoneFrom m from → (next : ℕ) → from ≤ next → ArePainted m next colours found
    all_painted none next more = record {
      done = λ slot d at less. s.done slot d at (below_all m from none d (lawful.live slot d at));
      led = λ slot some. (let old = s.led slot some in (old.0, record { lead = old.1.lead; first = old.1.first; below = omega (arith, old.1.below, more); by = old.1.by }));
      own = λ slot d at lead less. s.own slot d at lead (below_all m from none d lead.live);
      followed = s.followed;
      proper = s.proper;
      counted = (s.counted.0, gap (IsComponentLead (as_map m)) from next s.counted.0 more (λ d low high lead. false≢true (sym (ap is_some (none d low)) ∙ lead.live)) s.counted.1, s.counted.2);
      odd = odd_further found.odd s.odd;
    }
      where
        odd_further : (odd : Option Slot) → IsOddOrNone m from odd → IsOddOrNone m next odd
        odd_further None h = tt
        odd_further (Some o) h = record { live = h.live; first = h.first; below = omega (arith, h.below, more); walk = h.walk }

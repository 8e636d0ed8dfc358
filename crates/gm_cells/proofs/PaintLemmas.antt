-- How a component gets its colours, label by label and dart by dart.
use Rattle.std.proofs.Common.{◌≡◌, ◌≢◌, ℕ, ◌+◌, ◌%◌, ◌<◌, ◌≤◌, ◌==◌, cond, Bool, true, false, List, [], ◌∷◌, ◌++◌, Some, length, get_or, set, map, refl, sym, ap, subst, ◌∙◌, inl, inr, arith}
use Rattle.std.specs.Option.{option_map_or}
use Rattle.std.specs.FinMap.{get}
use Rattle.std.specs.Prelude.{All}
use Rattle.std.proofs.lemmas.Bool.{cases_lt, cases_eq, false≢true, ne_eqb}
use Rattle.std.proofs.lemmas.List.{get_or_append_left, get_or_push, get_or-set_same, get_or-set_other, get_or-map, length-map, length_push}
use Rattle.std.proofs.lemmas.List.Elements.{All-get_or}
use Rattle.std.proofs.lemmas.List.Sums.{sum_by-set}
use Rattle.gm_model.specs.Maps.{IsGeneralised}
use Rattle.gm_model.specs.Orbits.{IsPairBefore}
use Rattle.gm_model.specs.declared.value.Value.{Value}
use Rattle.gm_arena.specs.inner.ArenaAsMap.{as_map}
use Rattle.gm_arena.specs.inner.ArenaMap.{ArenaMap, Dart, IsAt, IsLiveSlot, IsLiveName, name_at, alpha}
use Rattle.gm_arena.specs.declared.slot.Slot.{Slot}
use Rattle.gm_arena.specs.inner.Lawful.{IsLawful}
use Rattle.gm_arena.proofs.MapLemmas.{IsAt-name_at, name_at-is, IsLiveName-name_at}
use Rattle.gm_cells.specs.inner.Search.{Leads}
use Rattle.gm_cells.specs.inner.Painted.{colour_in, AreKept, IsPaintedFrom, IsFollowed, HasOddWalk, IsUnpainted, IsPainted, no_place, queued_at, StandsIn, unpainted, IsPainting}
use Rattle.gm_cells.proofs.SearchLemmas.{before_next}
use Rattle.gm_cells.proofs.WalkLemmas.{step_back, turned}

-- ---- a dart as the arena holds it

-- a live slot of a row lies below the bound
pub slot_room : (m : ArenaMap) → IsLawful m → (slots : List Slot) → All (λ (s : Slot). IsLiveSlot m s.at) slots → (i : ℕ) → i < length slots → (get_or slots i no_place).at < m.bound
slot_room m lawful slots live i within =
    let slot = get_or slots i no_place in
    lawful.below_bound slot.at _ (IsAt-name_at m slot.at (All-get_or (λ (s : Slot). IsLiveSlot m s.at) slots i no_place within live))

module _ (m : ArenaMap) (slot : Slot) (slots : List Slot) (values : List Value) (lawful : IsLawful m) (here : IsLiveSlot m slot.at) (dart : get m.darts (name_at m slot.at) ≡ Some (record { alphas = map (λ (s : Slot). name_at m s.at) slots; values = values })) where
  pub row_long : length slots ≡ m.schema.dim + 1
  row_long = sym (length-map slots (λ (s : Slot). name_at m s.at)) ∙ (lawful.dart (name_at m slot.at) _ dart).whole

  -- each neighbour of it stands at its slot
  pub row_there : All (λ (s : Slot). IsLiveSlot m s.at) slots → (i : ℕ) → i < length slots → IsAt m (get_or slots i no_place).at (alpha m i (name_at m slot.at))
  row_there live i within =
      let is : alpha m i (name_at m slot.at) ≡ name_at m (get_or slots i no_place).at = ap (λ o. option_map_or (λ (dart : Dart). get_or dart.alphas i (name_at m slot.at)) o (name_at m slot.at)) dart ∙ get_or-map (λ (s : Slot). name_at m s.at) slots i no_place (name_at m slot.at) within in
      subst (IsAt m (get_or slots i no_place).at) (sym is) (IsAt-name_at m (get_or slots i no_place).at (All-get_or (λ (s : Slot). IsLiveSlot m s.at) slots i no_place within live))

-- ---- colours that stay

pub painted_kept : (m : ArenaMap) (d : ℕ) (old new : List ℕ) → AreKept old new → (slot : ℕ) → IsPaintedFrom m d old slot → IsPaintedFrom m d new slot
painted_kept m d old new kept slot by = record { labels = by.labels; leads = by.leads; colour = kept slot (λ e. (let is = by.colour in omega arith)) ∙ by.colour }

pub followed_kept : (m : ArenaMap) (old new : List ℕ) → AreKept old new → (fits : Bool) (slot i : ℕ) → colour_in old slot ≢ 0 → IsFollowed m old fits slot i → IsFollowed m new fits slot i
followed_kept m old new kept fits slot i some by = record {
  to = by.to;
  there = by.there;
  some = λ e. by.some (sym (kept by.to by.some) ∙ e);
  other = λ f moves same. by.other f moves (sym (kept by.to by.some) ∙ (same ∙ kept slot some));
}

-- where it doesn't fit, less is said
pub followed_less : (m : ArenaMap) (colours : List ℕ) (fits : Bool) (slot i : ℕ) → IsFollowed m colours fits slot i → IsFollowed m colours false slot i
followed_less m colours fits slot i by = record { to = by.to; there = by.there; some = by.some; other = λ f. absurd (false≢true f) }

pub painted_some : (m : ArenaMap) (d : ℕ) (colours : List ℕ) (slot : ℕ) → IsPaintedFrom m d colours slot → colour_in colours slot ≢ 0
painted_some m d colours slot by e = (let is = by.colour in omega arith)

module _ (m : ArenaMap) (d : ℕ) (old : List ℕ) where
  -- ---- one label more

  module _ (at label : ℕ) (fits : Bool) (colours : List ℕ) (queue : List Slot) (s : IsPainting m d old at label fits colours queue) where
    -- the neighbour has a colour
    pub label_done : IsFollowed m colours fits (queued_at queue at) label → IsPainting m d old at (label + 1) fits colours queue
    label_done there = record {
      fresh = s.fresh;
      own = s.own;
      kept = s.kept;
      only = s.only;
      live = s.live;
      led = s.led;
      counted = s.counted;
      followed = λ p i before within low. elim (before_next p i at label before) [
        | inl earlier ↦ s.followed p i earlier within low
        | inr here ↦ (let P : ℕ → ℕ → Type 0 = λ x y. IsFollowed m colours fits (queued_at queue x) y in subst (λ x. P x i) (sym here.0) (subst (P at) (sym here.1) there))
      ];
      clash = s.clash;
    }

    -- it doesn't fit
    pub label_clash : HasOddWalk m d → IsPainting m d old at label false colours queue
    label_clash walk = record {
      fresh = s.fresh;
      own = s.own;
      kept = s.kept;
      only = s.only;
      live = s.live;
      led = s.led;
      counted = s.counted;
      followed = λ p i before within low. followed_less m colours fits (queued_at queue p) i (s.followed p i before within low);
      clash = λ _. walk;
    }

  -- each label of the dart was followed
  pub dart_done : (at label : ℕ) (fits : Bool) (colours : List ℕ) (queue : List Slot) → label ≡ m.schema.dim + 1 → IsPainting m d old at label fits colours queue → IsPainting m d old (at + 1) 0 fits colours queue
  dart_done at label fits colours queue all s = record {
    fresh = s.fresh;
    own = s.own;
    kept = s.kept;
    only = s.only;
    live = s.live;
    led = s.led;
    counted = s.counted;
    followed = λ p i before within low. s.followed p i (earlier p i before low) within low;
    clash = s.clash;
  }
    where
      earlier : (p i : ℕ) → IsPairBefore p i (at + 1) 0 → i ≤ m.schema.dim → IsPairBefore p i at label
      earlier p i (inl h) low = elim (cases_lt p at) [ inl l ↦ inl l | inr l ↦ inr (omega arith, omega arith) ]
      earlier p i (inr h) low = absurd (let less = h.1 in omega arith)

  -- ---- one dart more

  module _ (colours : List ℕ) (queue : List Slot) (to : Slot) (colour : ℕ) (room : to.at < length colours) (none : colour_in colours to.at ≡ 0) (some : colour ≢ 0) where
    pub longer : length (queue ++ to ∷ []) ≡ length queue + 1
    longer = length_push queue to

    pub queue_same : (p : ℕ) → p < length queue → queued_at (queue ++ to ∷ []) p ≡ queued_at queue p
    queue_same p h = ap (λ (s : Slot). s.at) (get_or_append_left queue (to ∷ []) no_place p h)

    pub queue_last : (p : ℕ) → length queue ≡ p → queued_at (queue ++ to ∷ []) p ≡ to.at
    queue_last p e = ap (λ (s : Slot). s.at) (get_or_push queue to no_place p e)

    pub colours_kept : AreKept colours (set colours to.at colour)
    colours_kept slot h = get_or-set_other colours to.at slot colour 0 (λ e. h (ap (λ x. get_or colours x 0) e ∙ none))

    pub colour_set : colour_in (set colours to.at colour) to.at ≡ colour
    colour_set = get_or-set_same colours to.at colour 0 room

    each : (P : ℕ → Type 0) → ((p : ℕ) → p < length queue → P (queued_at queue p)) → P to.at → (p : ℕ) → p < length (queue ++ to ∷ []) → P (queued_at (queue ++ to ∷ []) p)
    each P before here p h = elim (cases_lt p (length queue)) [
      | inl l ↦ subst P (sym (queue_same p l)) (before p l)
      | inr l ↦ subst P (sym (queue_last p (omega (arith, longer)))) here
    ]

    stands_more : (slot : ℕ) → StandsIn queue slot → StandsIn (queue ++ to ∷ []) slot
    stands_more slot q = (q.0, (let w = q.1 in omega (arith, longer)), queue_same q.0 q.1 ∙ q.2)

    fewer : unpainted (set colours to.at colour) + 1 ≡ unpainted colours
    fewer =
        let one : unpainted (set colours to.at colour) + cond {A = ℕ} (get_or colours to.at 0 == 0) 1 0 ≡ unpainted colours + cond {A = ℕ} (colour == 0) 1 0 = sum_by-set (λ c. cond (c == 0) 1 0) colours to.at colour 0 room in
        let was : cond {A = ℕ} (get_or colours to.at 0 == 0) 1 0 ≡ 1 = ap (λ c. cond (c == 0) 1 0) none in
        let is : cond {A = ℕ} (colour == 0) 1 0 ≡ 0 = ap (λ b. cond b 1 0) (ne_eqb colour 0 some) in
        omega (arith, one, was, is)

    pub one_more : (at label : ℕ) (fits : Bool) → IsPainting m d old at label fits colours queue → (own : IsAt m to.at d → colour ≡ 1) → IsLiveSlot m to.at → (w : List ℕ) → Leads m d w (name_at m to.at) → colour ≡ length w % 2 + 1 → at < length queue
        → IsPainting m d old at label fits (set colours to.at colour) (queue ++ to ∷ [])
    one_more at label fits s own alive w leads parity within = record {
      fresh = s.fresh;
      own = λ slot here. (let one = s.own slot here in colours_kept slot (λ e. omega (arith, one, e)) ∙ one);
      kept = λ slot h. colours_kept slot (λ e. h (sym (s.kept slot h) ∙ e)) ∙ s.kept slot h;
      only = λ slot h. elim (cases_eq slot to.at) [
        | inl e ↦ inr (length queue, omega (arith, longer), queue_last (length queue) refl ∙ sym e)
        | inr apart ↦ elim (s.only slot (λ e. h (get_or-set_other colours to.at slot colour 0 apart ∙ e))) [ inl o ↦ inl o | inr q ↦ inr (stands_more slot q) ]
      ];
      live = each (IsLiveSlot m) s.live alive;
      led = each (IsPaintedFrom m d (set colours to.at colour)) (λ p h. painted_kept m d colours (set colours to.at colour) colours_kept (queued_at queue p) (s.led p h)) (record { labels = w; leads = leads; colour = colour_set ∙ parity });
      counted = omega (arith, longer, fewer, s.counted);
      followed = λ p i before more low. (
          let early : p < length queue = elim before [ inl l ↦ omega (arith, l, within) | inr l ↦ omega (arith, l.0, within) ] in
          subst (λ x. IsFollowed m (set colours to.at colour) fits x i) (sym (queue_same p early))
          (followed_kept m colours (set colours to.at colour) colours_kept fits (queued_at queue p) i (painted_some m d colours (queued_at queue p) (s.led p early)) (s.followed p i before early low))
          );
      clash = s.clash;
    }

  -- ---- the painting begins

  pub begun : (slot : Slot) → IsUnpainted m d old → IsLawful m → IsLiveSlot m slot.at → name_at m slot.at ≡ d → slot.at < length old → IsPainting m d old 0 0 true (set old slot.at 1) (slot ∷ [])
  begun slot fresh lawful live is room =
      let none : colour_in old slot.at ≡ 0 = fresh slot.at [] live is in
      let one : ◌≢◌ {A = ℕ} 1 0 = λ e. omega arith in
      let set_is : colour_in (set old slot.at 1) slot.at ≡ 1 = get_or-set_same old slot.at 1 0 room in
      let first : (p : ℕ) → p < 1 → queued_at (slot ∷ []) p ≡ slot.at = λ p h. (let z : 0 ≡ p = omega (arith, h) in subst (λ q. queued_at (slot ∷ []) q ≡ slot.at) z refl) in
      record {
        fresh = fresh;
        own = λ other here. ap (colour_in (set old slot.at 1)) (sym (lawful.one_slot other slot.at d here (IsAt-name_at m slot.at live ∙ ap Some is))) ∙ set_is;
        kept = colours_kept old [] slot 1 room none one;
        only = λ other h. elim (cases_eq other slot.at) [
          | inl e ↦ inr (0, omega arith, sym e)
          | inr apart ↦ inl (λ e. h (get_or-set_other old slot.at other 1 0 apart ∙ e))
        ];
        live = λ p h. subst (IsLiveSlot m) (sym (first p h)) live;
        led = λ p h. subst (IsPaintedFrom m d (set old slot.at 1)) (sym (first p h)) (record { labels = []; leads = is; colour = set_is });
        counted = omega (arith, fewer old [] slot 1 room none one);
        followed = λ p i before. absurd (elim before [ inl h ↦ omega (arith, h) | inr h ↦ (let k = h.1 in omega (arith, k)) ]);
        clash = λ e. absurd (false≢true (sym e));
      }

  -- ---- a neighbour

  module _ (lawful : IsLawful m) (gmap : IsGeneralised (as_map m)) (at label : ℕ) (fits : Bool) (colours : List ℕ) (queue : List Slot) (s : IsPainting m d old at label fits colours queue) (within : at < length queue) (low : label ≤ m.schema.dim) (to : Slot) (there : IsAt m to.at (alpha m label (name_at m (queued_at queue at)))) where
    here : IsLiveName m (name_at m (queued_at queue at))
    here = IsLiveName-name_at m (queued_at queue at) lawful (s.live at within)

    alive : IsLiveSlot m to.at
    alive = rw there refl

    named : name_at m to.at ≡ alpha m label (name_at m (queued_at queue at))
    named = name_at-is m to.at _ there

    -- it has another colour, or is the dart itself
    pub neighbour_fits : colour_in colours to.at ≢ 0 → (to.at ≢ queued_at queue at → colour_in colours to.at ≢ colour_in colours (queued_at queue at)) → IsPainting m d old at (label + 1) fits colours queue
    neighbour_fits some other = label_done at label fits colours queue s (record { to = to.at; there = there; some = some; other = λ _. other })

    module _ (moves : to.at ≢ queued_at queue at) where
      dart_moves : alpha m label (name_at m (queued_at queue at)) ≢ name_at m (queued_at queue at)
      dart_moves e = moves (lawful.one_slot (queued_at queue at) to.at (name_at m (queued_at queue at)) (IsAt-name_at m (queued_at queue at) (s.live at within)) (there ∙ ap Some e))

      walk_on : Leads m d (label ∷ (s.led at within).labels) (name_at m to.at)
      walk_on = subst (Leads m d (label ∷ (s.led at within).labels)) (sym named)
          (step_back m.schema.dim (IsLiveName m) (alpha m) gmap d (name_at m (queued_at queue at)) label (s.led at within).labels here low dart_moves (s.led at within).leads)

      -- it has none yet
      pub neighbour_new : to.at < length colours → colour_in colours to.at ≡ 0 → (colour : ℕ) → colour + colour_in colours (queued_at queue at) ≡ 3 → IsPainting m d old at (label + 1) fits (set colours to.at colour) (queue ++ to ∷ [])
      neighbour_new room none colour sum =
          let led = s.led at within in
          let own = led.colour in
          let some : colour ≢ 0 = λ e. omega (arith, sum, own, e) in
          let kept = colours_kept colours queue to colour room none some in
          let same : queued_at (queue ++ to ∷ []) at ≡ queued_at queue at = queue_same colours queue to colour room none some at within in
          let is : colour_in (set colours to.at colour) to.at ≡ colour = colour_set colours queue to colour room none some in
          label_done at label fits (set colours to.at colour) (queue ++ to ∷ [])
          (one_more colours queue to colour room none some at label fits s (λ e. absurd (let one = s.own to.at e in omega (arith, one, none))) alive (label ∷ led.labels) walk_on (omega (arith, sum, own)) within)
          (subst (λ x. IsFollowed m (set colours to.at colour) fits x label) (sym same) (record {
            to = to.at;
            there = there;
            some = λ e. some (sym is ∙ e);
            other = λ _ _ e. omega (arith, is, e, kept (queued_at queue at) (λ z. omega (arith, own, z)), sum);
          }))

      -- it has the same: the walks to the start are of one parity, and make an odd one with the step between
      pub neighbour_clash : colour_in colours to.at ≡ colour_in colours (queued_at queue at) → IsPainting m d old at (label + 1) false colours queue
      neighbour_clash same =
          let led = s.led at within in
          let own = led.colour in
          let some : colour_in colours to.at ≢ 0 = λ e. omega (arith, same, own, e) in
          label_done at label false colours queue (label_clash at label fits colours queue s (elim (s.only to.at some) [
            | inl o ↦ absurd (o (s.fresh to.at (label ∷ led.labels) alive walk_on))
            | inr q ↦
                let other = subst (IsPaintedFrom m d colours) q.2 (s.led q.0 q.1) in
                let other_is = other.colour in
                let round = turned m.schema.dim (IsLiveName m) (alpha m) gmap d d other.labels (label ∷ led.labels) (name_at m to.at) (IsLiveName-name_at m to.at lawful alive) other.leads walk_on in
                (round.0, record { odd = (let long = round.2 in omega (arith, long, same, own, other_is)); leads = round.1 })
          ])) (record { to = to.at; there = there; some = some; other = λ f. absurd (false≢true f) })

  -- ---- all of the component was followed

  pub all_painted : (at : ℕ) (fits : Bool) (colours : List ℕ) (queue : List Slot) → length queue ≤ at → IsPainting m d old at 0 fits colours queue → IsPainted m d old colours fits
  all_painted at fits colours queue past s = record {
    kept = s.kept;
    only = λ slot h. elim (s.only slot h) [ inl o ↦ inl o | inr q ↦ inr (subst (IsLiveSlot m) q.2 (s.live q.0 q.1), subst (IsPaintedFrom m d colours) q.2 (s.led q.0 q.1)) ];
    own = s.own;
    followed = λ slot i none some low. elim (s.only slot some) [
      | inl o ↦ absurd (o none)
      | inr q ↦ subst (λ x. IsFollowed m colours fits x i) q.2 (s.followed q.0 i (inl (let w = q.1 in omega (arith, w, past))) q.1 low)
    ];
    clash = s.clash;
  }

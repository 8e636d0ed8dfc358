-- A history that is cut to its first changes, and gets one more: what stays of its entries, and what it then stands for.
use Rattle.std.proofs.Common.{◌≡◌, ◌≢◌, ℕ, zero, suc, ◌+◌, ◌*◌, ◌-◌, ◌<◌, ◌≤◌, true, false, Bool, nat_eq, nat_lt, if◌then◌else◌, List, [], ◌∷◌, ◌++◌, length, map, take, drop, sum, Option, Some, None, slice_get, get_or, refl, sym, ap, ap₂, subst, ◌∙◌, inl, inr, arith}
use Rattle.std.specs.List.{slice_range}
use Rattle.std.proofs.lemmas.Bool.{cases_eq, cases_lt, eqb-true, eqb-false, false≢true, ltb-true, ltb-false}
use Rattle.std.proofs.lemmas.List.{get_or-take, get_or_append_left, get_or-append-add, length_push, length-take-le, map-append, take_all, take_at, drop-take}
use Rattle.std.proofs.lemmas.Option.{get_or_from_slice_get, same_Some, slice_get-get_or, slice_get_within}
use Rattle.gm_arena.specs.inner.ArenaAsMap.{as_map}
use Rattle.gm_arena.specs.inner.ArenaMap.{ArenaMap}
use Rattle.gm_arena.specs.inner.Lawful.{IsLawful}
use Rattle.gm_model.specs.Maps.{Map, IsSound}
use Rattle.gm_commit.specs.inner.EditLists.{HasSameRows}
use Rattle.gm_model.specs.Budgets.{Entries, entered}
use Rattle.gm_model.specs.Histories.{Group, History, done_at, dropped}
use Rattle.gm_model.specs.declared.schema.Schema.{Schema}
use Rattle.gm_undo.specs.inner.Layout.{IsLaidOut, change_in, changes_in, end_of, made_at}
use Rattle.gm_undo.specs.declared.keeping.Made.{Made}
use Rattle.gm_undo.proofs.Spans.{changes_long, cost_more, end_high, ends_rise, made_there, middle_high}
use Rattle.gm_undo.proofs.Tellings.{none_told, room_here, rows_sound}
use Rattle.gm_undo.specs.inner.Costs.{MayTake, cost_to, rows_of}
use Rattle.gm_undo.specs.inner.Kept.{Change, HistoryOf, KeptRow}
use Rattle.gm_undo.specs.inner.Standing.{AreChained, AreGroupsAlike, AreHeld, BeginsAt, HasRoomFor, IsEntry, IsGroupAt, LeadsTo, Rows, StandsFor, TellsBack, TellsOn, map_of, rows_in}

-- both have the same first changes
pub record AreSameTo (k : ℕ) (all all' : List Change) : Type 0 where
  pub same : take k all' ≡ take k all
  pub high : k ≤ length all
  pub high' : k ≤ length all'

abbrev no_change : Change
no_change = record { begins = false; before = []; next_before = 0; after = []; next_after = 0 }

pub take_less : {A : Type 0} (x y : ℕ) (l : List A) → x ≤ y → take x (take y l) ≡ take x l
take_less zero y l h = refl
take_less (suc x) zero l h = absurd (omega (arith, h))
take_less (suc x) (suc y) [] h = refl
take_less (suc x) (suc y) (e ∷ l) h = ap (λ t. e ∷ t) (take_less x y l (omega (arith, h)))

module _ (k : ℕ) (all all' : List Change) (same : AreSameTo k all all') where
  pub get_same : (j : ℕ) → j < k → slice_get all' j ≡ slice_get all j
  get_same j h =
      slice_get-get_or all' j no_change (omega (arith, h, same.high'))
      ∙ ap Some (sym (get_or-take k all' j no_change h) ∙ ap (λ l. get_or l j no_change) same.same ∙ get_or-take k all j no_change h)
      ∙ sym (slice_get-get_or all j no_change (omega (arith, h, same.high)))

  pub begins_same : (j : ℕ) → j < k → BeginsAt all j → BeginsAt all' j
  begins_same j h b = record { within = omega (arith, h, same.high'); begins = λ change is. b.begins change (sym (get_same j h) ∙ is) }

  module _ (ends : BeginsAt all' k) where
    pub begins_to : (j : ℕ) → j ≤ k → BeginsAt all j → BeginsAt all' j
    begins_to j h b = elim (cases_eq j k) [
      | inl e ↦ subst (BeginsAt all') (sym e) ends
      | inr apart ↦ begins_same j (omega (arith, h, apart)) b
    ]

    pub entry_same : (start end : ℕ) → end ≤ k → IsEntry all start end → IsEntry all' start end
    entry_same start end h entry = record {
      some = entry.some;
      begins = begins_same start (omega (arith, h, entry.some)) entry.begins;
      ends = begins_to end h entry.ends;
      within = λ j change low high is. entry.within j change low high (sym (get_same j (omega (arith, high, h))) ∙ is);
    }

    pub back_same : {A : Type 0} (Tells Tells' : ℕ → ℕ → A → Type 0) (list : List A) (end : ℕ) → ((start end : ℕ) (x : A) → start < end → end ≤ k → Tells start end x → Tells' start end x)
        → end ≤ k → TellsBack all Tells end list → TellsBack all' Tells' end list
    back_same Tells Tells' [] end maps h told = told
    back_same Tells Tells' (x ∷ rest) end maps h (start, entry, tells, more) =
        (start, entry_same start end h entry, maps start end x entry.some h tells, back_same Tells Tells' rest start maps (omega (arith, h, entry.some)) more)

  pub cost_same : (dim n : ℕ) → n ≤ k → cost_to dim all' n ≡ cost_to dim all n
  cost_same dim n h = ap (λ l. 7 * (dim + 1) * sum (map rows_of l)) (sym (take_less n k all' h) ∙ ap (take n) same.same ∙ take_less n k all h)

-- behind the last change nothing is told
pub none_on : {A : Type 0} (all : List Change) (Tells : ℕ → ℕ → A → Type 0) (at : ℕ) (list : List A) → at ≡ length all → TellsOn all Tells at list → list ≡ []
none_on all Tells at [] is told = refl
none_on all Tells at (x ∷ rest) is (end, entry, tells, more) = absurd (omega (arith, is, entry.some, entry.ends.within))

pub begins_last : (all : List Change) (k : ℕ) → k ≡ length all → BeginsAt all k
begins_last all k is = record { within = omega (arith, is); begins = λ change at. absurd (omega (arith, is, slice_get_within all k change at)) }

-- ---- the first changes alone

pub cut_same : (k : ℕ) (all : List Change) → k ≤ length all → AreSameTo k all (take k all)
cut_same k all h = let long = length-take-le k all h in record { same = take_all k (take k all) (omega (arith, long)); high = h; high' = omega (arith, long) }

pub cut_chained : (k : ℕ) (all : List Change) (m : ArenaMap) (rows : ℕ → Rows) (at : ℕ) → k ≤ length all → AreChained all m rows at → AreChained (take k all) m rows at
cut_chained k all m rows at h chained =
    let long : length (take k all) ≡ k = length-take-le k all h in
    record {
      leads = λ j change is. let low = slice_get_within (take k all) j change is in chained.leads j change (sym (get_same k all (take k all) (cut_same k all h) j (omega (arith, low, long))) ∙ is);
      sound = λ j low. chained.sound j (omega (arith, low, long, h));
      room = λ j low. chained.room j (omega (arith, low, long, h));
      here = chained.here;
    }

-- ---- the open group

pub group_told : (schema : Schema) (h : HistoryOf) (rows : ℕ → Rows) (start : ℕ) (o : Option Group) → AreGroupsAlike schema h rows (Some start) o → (group : Group) × (o ≡ Some group) × IsGroupAt schema h rows start group
group_told schema h rows start None alike = absurd alike
group_told schema h rows start (Some group) alike = (group, refl, alike)

module _ (labels width : ℕ) (all : List Change) (m : ArenaMap) (made start : ℕ) where
  abbrev grouped : HistoryOf
  grouped = record { labels = labels; width = width; changes = all; made = made; group = Some start }

  module _ (told : History) (stands : StandsFor grouped m told) where
    here : (group : Group) × (told.group ≡ Some group) × IsGroupAt m.schema grouped stands.rows start group
    here = group_told m.schema grouped stands.rows start told.group stands.group

    pub group_low : start ≤ made
    group_low = here.2.below

    pub group_one : start < made → IsEntry all start made × (made ≡ length all)
    group_one h = here.2.one h

    pub group_map : (group : Group) → told.group ≡ Some group → group.map ≡ map_of m.schema (stands.rows start)
    group_map group is = ap (λ (g : Group). g.map) (same_Some group here.0 (sym is ∙ here.1)) ∙ here.2.map

    -- what was done in it is taken back and forgotten
    module _ (m' : ArenaMap) (less : start < made) (schema : m'.schema ≡ m.schema) (chained : AreChained all m' stands.rows start) where
      low : start ≤ length all
      low = omega (arith, less, stands.held.within)

      long : length (take start all) ≡ start
      long = length-take-le start all low

      pub dropped_cut : StandsFor (record { labels = labels; width = width; changes = take start all; made = start; group = None }) m' (dropped told)
      dropped_cut = record {
        rows = stands.rows;
        held = record {
          shape = λ some. rw schema (stands.held.shape (omega (arith, some, long, low)));
          within = omega (arith, long);
          chained = cut_chained start all m' stands.rows start low chained;
        };
        whole = begins_last (take start all) start (sym long);
        past = back_same start all (take start all) (cut_same start all low) (begins_last (take start all) start (sym long))
            (λ s e map. map ≡ map_of m.schema (stands.rows s)) (λ s e map. map ≡ map_of m'.schema (stands.rows s)) told.past start
            (λ s e x _ _ is. rw schema is) (omega arith) stands.past;
        future = rw (none_on all (λ s e map. map ≡ map_of m.schema (stands.rows e)) made told.future (group_one less).1 stands.future) (sym long);
        group = tt;
      }

    pub dropped_costs : (dim : ℕ) (entries : Entries) → start < made → MayTake grouped dim entries
        → MayTake (record { labels = labels; width = width; changes = take start all; made = start; group = None }) dim entries
    dropped_costs dim entries less may =
        let low : start ≤ length all = omega (arith, less, stands.held.within) in
        let long : length (take start all) ≡ start = length-take-le start all low in
        record {
          past = back_same start all (take start all) (cut_same start all low) (begins_last (take start all) start (sym long))
              (λ s e most. cost_to dim all e ≤ cost_to dim all s + most) (λ s e most. cost_to dim (take start all) e ≤ cost_to dim (take start all) s + most) entries.past start
              (λ s e x apart h is. rw (cost_same start all (take start all) (cut_same start all low) dim e h, cost_same start all (take start all) (cut_same start all low) dim s (omega (arith, apart, h))) is)
              (omega arith) may.past;
          future = rw (none_on all (λ s e most. cost_to dim all e ≤ cost_to dim all s + most) made entries.future (group_one less).1 may.future) (sym long);
          group = omega arith;
        }

    -- nothing was done in it
    pub dropped_same : start ≡ made → StandsFor (record { labels = labels; width = width; changes = all; made = made; group = None }) m (dropped told)
    dropped_same is = record {
      rows = stands.rows;
      held = record { shape = stands.held.shape; within = stands.held.within; chained = stands.held.chained };
      whole = subst (BeginsAt all) is stands.whole;
      past = subst (λ k. TellsBack all (λ s e map. map ≡ map_of m.schema (stands.rows s)) k told.past) is stands.past;
      future = stands.future;
      group = tt;
    }

    pub dropped_same_costs : (dim : ℕ) (entries : Entries) → start ≡ made → MayTake grouped dim entries
        → MayTake (record { labels = labels; width = width; changes = all; made = made; group = None }) dim entries
    dropped_same_costs dim entries is may = record {
      past = subst (λ k. TellsBack all (λ s e most. cost_to dim all e ≤ cost_to dim all s + most) k entries.past) is may.past;
      future = may.future;
      group = omega arith;
    }

-- ---- the layout

module _ (rows : List KeptRow) (changes : List Made) (made : ℕ) (group : Option ℕ) (laid : IsLaidOut rows changes made group) (k : ℕ) (low : k ≤ length changes) where
  pub end_low : end_of changes k ≤ length rows
  end_low = omega (arith, ends_rise rows changes made group laid k (length changes) low (omega arith), laid.ends)

  made_cut : (j : ℕ) → j < k → made_at (take k changes) j ≡ made_at changes j
  made_cut j h = get_or-take k changes j _ h

  pub end_cut : (j : ℕ) → j ≤ k → end_of (take k changes) j ≡ end_of changes j
  end_cut zero h = refl
  end_cut (suc j) h = ap (λ (c : Made). c.end) (made_cut j (omega (arith, h)))

  there : (j : ℕ) (change : Made) → slice_get (take k changes) j ≡ Some change → (j < k) × (slice_get changes j ≡ Some change)
  there j change is =
      let h : j < k = omega (arith, slice_get_within (take k changes) j change is, length-take-le k changes low) in
      (h, slice_get-get_or changes j (record { begins = false; first = 0; middle = 0; end = 0; next_before = 0; next_after = 0 }) (omega (arith, h, low)) ∙ ap Some (sym (made_cut j h) ∙ get_or_from_slice_get (take k changes) j change _ is))

  pub laid_cut : IsLaidOut (take (end_of changes k) rows) (take k changes) k None
  laid_cut = record {
    first = λ j change is. let t = there j change is in laid.first j change t.1 ∙ sym (end_cut j (omega (arith, t.0)));
    middle = λ j change is. laid.middle j change (there j change is).1;
    end = λ j change is. laid.end j change (there j change is).1;
    ends = length-take-le (end_of changes k) rows end_low ∙ sym (end_cut k (omega arith)) ∙ ap (end_of (take k changes)) (sym (length-take-le k changes low));
    within = omega (arith, length-take-le k changes low);
    group_within = λ start e. absurd (none_some start e);
  }
    where
      none_some : (start : ℕ) → None ≡ Some start → ⊥
      none_some start e = false≢true (ap (λ (o : Option ℕ). IsSomeOf o) e)
        where
          IsSomeOf : Option ℕ → Bool
          IsSomeOf None = false
          IsSomeOf (Some s) = true

-- a part of the rows is as it was, where the first rows are
pub part_same : (rows rows' : List KeptRow) (n a b : ℕ) → a ≤ b → b ≤ n → take n rows' ≡ take n rows → slice_range rows' a b ≡ slice_range rows a b
part_same rows rows' n a b low high same = sym (part rows') ∙ ap (λ l. slice_range l a b) same ∙ part rows
  where
    part : (l : List KeptRow) → slice_range (take n l) a b ≡ slice_range l a b
    part l =
        ap (λ x. take (b - a) (drop a (take x l))) (let e : n ≡ a + (n - a) = omega (arith, low, high) in e)
        ∙ ap (take (b - a)) (drop-take a (n - a) l)
        ∙ take_less (b - a) (n - a) (drop a l) (omega (arith, low, high))

pub changes_cut : (rows rows' : List KeptRow) (changes : List Made) (made : ℕ) (group : Option ℕ) → IsLaidOut rows changes made group → (k : ℕ) → k ≤ length changes → take (end_of changes k) rows' ≡ take (end_of changes k) rows
    → changes_in rows' (take k changes) ≡ take k (changes_in rows changes)
changes_cut rows rows' changes made group laid zero low same = refl
changes_cut rows rows' changes made group laid (suc k) low same = all
  where
    change_same : (j : ℕ) → j < suc k → change_in rows' (made_at changes j) ≡ change_in rows (made_at changes j)
    change_same j h =
        let within : j < length changes = omega (arith, h, low) in
        let rise : (made_at changes j).end ≤ end_of changes (suc k) = ends_rise rows changes made group laid (suc j) (suc k) (omega (arith, h)) low in
        let first = middle_high rows changes made group laid j within in
        let last = end_high rows changes made group laid j within in
        let before = part_same rows rows' (end_of changes (suc k)) (made_at changes j).first (made_at changes j).middle first (omega (arith, last, rise)) same in
        let after = part_same rows rows' (end_of changes (suc k)) (made_at changes j).middle (made_at changes j).end last rise same in
        λ i. record { begins = (made_at changes j).begins; before = before i; next_before = (made_at changes j).next_before; after = after i; next_after = (made_at changes j).next_after }

    each : (n : ℕ) (f g : Made → Change) (l : List Made) → ((j : ℕ) → j < n → f (made_at l j) ≡ g (made_at l j)) → map f (take n l) ≡ take n (map g l)
    each zero f g l h = refl
    each (suc n) f g [] h = refl
    each (suc n) f g (x ∷ l) h = ap₂ (λ a b. a ∷ b) (h 0 (omega arith)) (each n f g l (λ j less. h (suc j) (omega (arith, less))))

    all : changes_in rows' (take (suc k) changes) ≡ take (suc k) (changes_in rows changes)
    all = each (suc k) (change_in rows') (change_in rows) changes change_same

-- ---- an arena that may have more room

pub room_grown : (m m' : ArenaMap) (rows : Rows) → m.count + m.spare ≤ m'.count + m'.spare → m.reserved ≤ m'.reserved → HasRoomFor m rows → HasRoomFor m' rows
room_grown m m' rows total reserved room = record { darts = omega (arith, total, room.darts); names = λ name live. omega (arith, reserved, room.names name live) }

pub stands_grown : (h : HistoryOf) (m m' : ArenaMap) (told : History) → HasSameRows m m' → m.spare ≤ m'.spare → m.reserved ≤ m'.reserved → StandsFor h m told → StandsFor h m' told
stands_grown h m m' told same spare reserved stands = rw same (record {
  rows = stands.rows;
  held = record {
    shape = stands.held.shape;
    within = stands.held.within;
    chained = record {
      leads = stands.held.chained.leads;
      sound = stands.held.chained.sound;
      room = λ k low. room_grown m (record m { spare = m'.spare; reserved = m'.reserved }) (stands.rows k) (omega (arith, spare)) reserved (stands.held.chained.room k low);
      here = stands.held.chained.here;
    };
  };
  whole = stands.whole;
  past = stands.past;
  future = stands.future;
  group = groups h.group told.group stands.group;
})
  where
    groups : (a : Option ℕ) (b : Option Group) → AreGroupsAlike m.schema h stands.rows a b → AreGroupsAlike m.schema h stands.rows a b
    groups a b alike = alike

-- ---- one change more

abbrev rows_then : ℕ → (ℕ → Rows) → Rows → ℕ → Rows
rows_then made rows new k = if nat_lt made k then new else rows k

later : (a b : ℕ) → a < b → nat_lt a b ≡ true
later a b h = by (nat_lt a b) refl
  where
    by : (x : Bool) → nat_lt a b ≡ x → x ≡ true
    by true e = refl
    by false e = absurd (omega (arith, h, ltb-false a b e))

not_later : (a b : ℕ) → b ≤ a → nat_lt a b ≡ false
not_later a b h = by (nat_lt a b) refl
  where
    by : (x : Bool) → nat_lt a b ≡ x → x ≡ false
    by false e = refl
    by true e = absurd (omega (arith, h, ltb-true a b e))

rows_early : (made : ℕ) (rows : ℕ → Rows) (new : Rows) (k : ℕ) → k ≤ made → rows_then made rows new k ≡ rows k
rows_early made rows new k h = ap (λ (b : Bool). if b then new else rows k) (not_later made k h)

rows_late : (made : ℕ) (rows : ℕ → Rows) (new : Rows) → rows_then made rows new (made + 1) ≡ new
rows_late made rows new = ap (λ (b : Bool). if b then new else rows (made + 1)) (later made (made + 1) (omega arith))

module _ (all : List Change) (made : ℕ) (change : Change) (high : made ≤ length all) where
  abbrev pub with_one : List Change
  with_one = take made all ++ change ∷ []

  pub one_long : length with_one ≡ made + 1
  one_long = length_push (take made all) change ∙ ap (λ n. n + 1) (length-take-le made all high)

  pub one_same : AreSameTo made all with_one
  one_same = record { same = take_at (take made all) (change ∷ []) made (length-take-le made all high); high = high; high' = omega (arith, one_long) }

  pub less_same : (start : ℕ) → start ≤ made → AreSameTo start all with_one
  less_same start h = record { same = sym (take_less start made with_one h) ∙ ap (take start) one_same.same ∙ take_less start made all h; high = omega (arith, h, high); high' = omega (arith, h, one_long) }

  pub one_last : slice_get with_one made ≡ Some change
  one_last =
      slice_get-get_or with_one made no_change (omega (arith, one_long))
      ∙ ap Some (ap (λ k. get_or with_one k no_change) (let e : made ≡ length (take made all) + 0 = omega (arith, length-take-le made all high) in e) ∙ get_or-append-add (take made all) (change ∷ []) 0 no_change)

  pub one_begins : change.begins ≡ true → BeginsAt with_one made
  one_begins is = record { within = omega (arith, one_long); begins = λ c at. ap (λ (x : Change). x.begins) (same_Some c change (sym at ∙ one_last)) ∙ is }

  pub one_ends : BeginsAt with_one (made + 1)
  one_ends = begins_last with_one (made + 1) (sym one_long)

  -- alone it is an entry
  pub one_entry : change.begins ≡ true → IsEntry with_one made (made + 1)
  one_entry is = record { some = omega arith; begins = one_begins is; ends = one_ends; within = λ k c low h at. absurd (omega (arith, low, h)) }

  -- or it is the last of an entry
  pub more_entry : (start : ℕ) → IsEntry all start made → change.begins ≡ false → IsEntry with_one start (made + 1)
  more_entry start entry is = record {
    some = omega (arith, entry.some);
    begins = begins_same made all with_one one_same start entry.some entry.begins;
    ends = one_ends;
    within = λ k c low h at. elim (cases_eq k made) [
      | inl e ↦ ap (λ (x : Change). x.begins) (same_Some c change (sym at ∙ ap (slice_get with_one) e ∙ one_last)) ∙ is
      | inr apart ↦ let less : k < made = omega (arith, h, apart) in entry.within k c low less (sym (get_same made all with_one one_same k less) ∙ at)
    ];
  }

  pub one_cost : (dim : ℕ) → cost_to dim with_one (made + 1) ≡ cost_to dim all made + 7 * (dim + 1) * rows_of change
  one_cost dim = cost_more dim with_one made change one_last ∙ ap (λ n. n + 7 * (dim + 1) * rows_of change) (cost_same made all with_one one_same dim made (omega arith))

  module _ (m m' : ArenaMap) (rows : ℕ → Rows) (chained : AreChained all m rows made) (schema : m'.schema ≡ m.schema) (total : m.count + m.spare ≤ m'.count + m'.spare) (reserved : m.reserved ≤ m'.reserved)
      (leads : LeadsTo change (rows_in m) (rows_in m')) (lawful : IsLawful m') (sound : IsSound (as_map m')) where
    abbrev rows' : ℕ → Rows
    rows' = rows_then made rows (rows_in m')

    early : (k : ℕ) → k ≤ made → rows' k ≡ rows k
    early = rows_early made rows (rows_in m')

    late : rows' (made + 1) ≡ rows_in m'
    late = rows_late made rows (rows_in m')

    pub one_chained : AreChained with_one m' rows' (made + 1)
    one_chained = record {
      leads = λ k c at. elim (cases_eq k made) [
        | inl e ↦ rw (e, early made (omega arith), late, chained.here, same_Some c change (sym at ∙ ap (slice_get with_one) e ∙ one_last)) leads
        | inr apart ↦
            let less : k < made = omega (arith, apart, slice_get_within with_one k c at, one_long) in
            rw (early k (omega (arith, less)), early (k + 1) (omega (arith, less))) (chained.leads k c (sym (get_same made all with_one one_same k less) ∙ at))
      ];
      sound = λ k low. elim (cases_lt made k) [
        | inl less ↦ let e : k ≡ made + 1 = omega (arith, less, low, one_long) in rw (e, late) (rows_sound m' lawful sound)
        | inr more ↦ rw (early k more, schema) (chained.sound k (omega (arith, more, high)))
      ];
      room = λ k low. elim (cases_lt made k) [
        | inl less ↦ let e : k ≡ made + 1 = omega (arith, less, low, one_long) in rw (e, late) (room_here m' lawful)
        | inr more ↦ rw (early k more) (room_grown m m' (rows k) total reserved (chained.room k (omega (arith, more, high))))
      ];
      here = late;
    }

    module _ (labels width : ℕ) (shape : (labels ≡ m'.schema.dim + 1) × (width ≡ length m'.schema.embeds)) where
      one_held : (group : Option ℕ) → AreHeld (record { labels = labels; width = width; changes = with_one; made = made + 1; group = group }) m' rows'
      one_held group = record { shape = λ _. shape; within = omega (arith, one_long); chained = one_chained }

      map_early : (k : ℕ) (map : Map) → k ≤ made → map ≡ map_of m.schema (rows k) → map ≡ map_of m'.schema (rows' k)
      map_early k map h is = rw (schema, early k h) is

      -- outside groups it is an entry
      pub entered_alone : (past : List Map) → change.begins ≡ true → TellsBack all (λ s e map. map ≡ map_of m.schema (rows s)) made past
          → StandsFor (record { labels = labels; width = width; changes = with_one; made = made + 1; group = None }) m' (record { past = as_map m ∷ past; future = []; group = None })
      entered_alone past is told = record {
        rows = rows';
        held = one_held None;
        whole = one_ends;
        past = (
          made,
          one_entry is,
          map_early made (as_map m) (omega arith) (ap (map_of m.schema) (sym chained.here)),
          back_same made all with_one one_same (one_begins is) (λ s e map. map ≡ map_of m.schema (rows s)) (λ s e map. map ≡ map_of m'.schema (rows' s)) past made (λ s e x less h is. map_early s x (omega (arith, less, h)) is) (omega arith) told,
        );
        future = sym one_long;
        group = tt;
      }

      -- in a group it is a part of the group
      pub entered_grouped : (start : ℕ) (past : List Map) (group : Group) → start ≤ made → BeginsAt with_one start → IsEntry with_one start (made + 1) → group.map ≡ map_of m.schema (rows start) → TellsBack all (λ s e map. map ≡ map_of m.schema (rows s)) start past
          → StandsFor (record { labels = labels; width = width; changes = with_one; made = made + 1; group = Some start }) m' (record { past = past; future = []; group = Some (record { map = group.map; is_changed = true }) })
      entered_grouped start past group low begins entry map told = record {
        rows = rows';
        held = one_held (Some start);
        whole = begins;
        past = back_same start all with_one (less_same start low) begins (λ s e map. map ≡ map_of m.schema (rows s)) (λ s e map. map ≡ map_of m'.schema (rows' s)) past start (λ s e x less h is. map_early s x (omega (arith, less, h, low)) is) (omega arith) told;
        future = sym one_long;
        group = record {
          below = omega (arith, low);
          map = map_early start group.map low map;
          changed = sym (later start (made + 1) (omega (arith, low)));
          one = λ _. (entry, sym one_long);
        };
      }

-- whether an entry begins with the next change
abbrev pub next_begins : Option ℕ → ℕ → Bool
next_begins None made = true
next_begins (Some start) made = nat_eq start made

-- where the group began, as the new change goes
group_entry : (all : List Change) (made start : ℕ) (change : Change) (high : made ≤ length all) → start ≤ made → change.begins ≡ nat_eq start made → BeginsAt all start → (start < made → IsEntry all start made)
    → BeginsAt (with_one all made change high) start × IsEntry (with_one all made change high) start (made + 1)
group_entry all made start change high low is begins one = elim (cases_eq start made) [
  | inl e ↦
      let b : change.begins ≡ true = is ∙ eq_yes start made e in
      (subst (BeginsAt (with_one all made change high)) (sym e) (one_begins all made change high b), subst (λ k. IsEntry (with_one all made change high) k (made + 1)) (sym e) (one_entry all made change high b))
  | inr apart ↦
      let less : start < made = omega (arith, apart, low) in
      (begins_same made all (with_one all made change high) (one_same all made change high) start less begins, more_entry all made change high start (one less) (is ∙ eq_no start made apart))
]
  where
    eq_yes : (a b : ℕ) → a ≡ b → nat_eq a b ≡ true
    eq_yes a b e = by (nat_eq a b) refl
      where
        by : (x : Bool) → nat_eq a b ≡ x → x ≡ true
        by true h = refl
        by false h = absurd (eqb-false a b h e)

    eq_no : (a b : ℕ) → a ≢ b → nat_eq a b ≡ false
    eq_no a b apart = by (nat_eq a b) refl
      where
        by : (x : Bool) → nat_eq a b ≡ x → x ≡ false
        by false e = refl
        by true e = absurd (apart (eqb-true a b e))

module _ (labels width labels' width' : ℕ) (all : List Change) (made : ℕ) (change : Change) (high : made ≤ length all) (m m' : ArenaMap) (schema : m'.schema ≡ m.schema) where
  pub entered_history : (group : Option ℕ) (told : History) → StandsFor (record { labels = labels; width = width; changes = all; made = made; group = group }) m told → change.begins ≡ next_begins group made
      → m.count + m.spare ≤ m'.count + m'.spare → m.reserved ≤ m'.reserved → LeadsTo change (rows_in m) (rows_in m') → IsLawful m' → IsSound (as_map m') → (labels' ≡ m'.schema.dim + 1) × (width' ≡ length m'.schema.embeds)
      → StandsFor (record { labels = labels'; width = width'; changes = with_one all made change high; made = made + 1; group = group }) m' (done_at (as_map m) told)
  entered_history None told stands is total reserved leads lawful sound shape =
      rw (none_told m.schema (record { labels = labels; width = width; changes = all; made = made; group = None }) stands.rows told.group stands.group)
      (entered_alone all made change high m m' stands.rows stands.held.chained schema total reserved leads lawful sound labels' width' shape told.past is stands.past)
  entered_history (Some start) told stands is total reserved leads lawful sound shape =
      let here = group_told m.schema (record { labels = labels; width = width; changes = all; made = made; group = Some start }) stands.rows start told.group stands.group in
      let both = group_entry all made start change high here.2.below is stands.whole (λ less. (here.2.one less).0) in
      rw here.1 (entered_grouped all made change high m m' stands.rows stands.held.chained schema total reserved leads lawful sound labels' width' shape start told.past here.0 here.2.below both.0 both.1 here.2.map stands.past)

  pub entered_costs : (group : Option ℕ) (told : History) (dim most : ℕ) (entries : Entries) → StandsFor (record { labels = labels; width = width; changes = all; made = made; group = group }) m told → change.begins ≡ next_begins group made
      → 7 * (dim + 1) * rows_of change ≤ most → MayTake (record { labels = labels; width = width; changes = all; made = made; group = group }) dim entries
      → MayTake (record { labels = labels'; width = width'; changes = with_one all made change high; made = made + 1; group = group }) dim (entered told.group most entries)
  entered_costs None told dim most entries stands is few may =
      let one = one_same all made change high in
      let all' = with_one all made change high in
      let last = one_cost all made change high dim in
      let until = cost_same made all all' one dim made (omega arith) in
      rw (none_told m.schema (record { labels = labels; width = width; changes = all; made = made; group = None }) stands.rows told.group stands.group)
      (record {
        past = (
          made,
          one_entry all made change high is,
          omega (arith, last, until, few),
          back_same made all all' one (one_begins all made change high is) (λ s e most. cost_to dim all e ≤ cost_to dim all s + most) (λ s e most. cost_to dim all' e ≤ cost_to dim all' s + most) entries.past made
              (λ s e x less h is. rw (cost_same made all all' one dim e h, cost_same made all all' one dim s (omega (arith, less, h))) is) (omega arith) may.past,
        );
        future = sym (one_long all made change high);
        group = omega arith;
      })
  entered_costs (Some start) told dim most entries stands is few may =
      let here = group_told m.schema (record { labels = labels; width = width; changes = all; made = made; group = Some start }) stands.rows start told.group stands.group in
      let low = here.2.below in
      let both = group_entry all made start change high low is stands.whole (λ less. (here.2.one less).0) in
      let all' = with_one all made change high in
      let one = less_same all made change high start low in
      let last = one_cost all made change high dim in
      let from = cost_same start all all' one dim start (omega arith) in
      rw here.1
      (record {
        past =
            back_same start all all' one both.0 (λ s e most. cost_to dim all e ≤ cost_to dim all s + most) (λ s e most. cost_to dim all' e ≤ cost_to dim all' s + most) entries.past start
            (λ s e x less h is. rw (cost_same start all all' one dim e h, cost_same start all all' one dim s (omega (arith, less, h))) is) (omega arith) may.past;
        future = sym (one_long all made change high);
        group = omega (arith, last, from, few, may.group);
      })

-- ---- the layout with one change more

module _ (rows more : List KeptRow) (changes : List Made) (made : ℕ) (group : Option ℕ) (laid : IsLaidOut rows changes made group) (change : Made) where
  abbrev rows'' : List KeptRow
  rows'' = take (end_of changes made) rows ++ more

  long_cut : length (take (end_of changes made) rows) ≡ end_of changes made
  long_cut = length-take-le (end_of changes made) rows (end_low rows changes made group laid made laid.within)

  pub changes_one : (high : made ≤ length (changes_in rows changes)) → changes_in rows'' (take made changes ++ change ∷ []) ≡ with_one (changes_in rows changes) made (change_in rows'' change) high
  changes_one high =
      map-append (change_in rows'') (take made changes) (change ∷ [])
      ∙ ap (λ l. l ++ change_in rows'' change ∷ []) (changes_cut rows rows'' changes made group laid made laid.within (take_at (take (end_of changes made) rows) more (end_of changes made) long_cut))

  abbrev changes' : List Made
  changes' = take made changes ++ change ∷ []

  pub laid_one : change.first ≡ length (take (end_of changes made) rows) → change.first ≤ change.middle → change.middle ≤ change.end → change.end ≡ length rows'' → IsLaidOut rows'' (take made changes ++ change ∷ []) (made + 1) group
  laid_one first middle end ends = record {
    first = λ j c is. elim (cases_lt j made) [
      | inl less ↦ laid.first j c (old j c is less) ∙ sym (end_same j (omega (arith, less)))
      | inr more ↦ let e : j ≡ made = at j c is more in rw (e, own j c is e) (first ∙ long_cut ∙ sym (end_same made (omega arith)))
    ];
    middle = λ j c is. elim (cases_lt j made) [ inl less ↦ laid.middle j c (old j c is less) | inr more ↦ rw (own j c is (at j c is more)) middle ];
    end = λ j c is. elim (cases_lt j made) [ inl less ↦ laid.end j c (old j c is less) | inr more ↦ rw (own j c is (at j c is more)) end ];
    ends = sym ends ∙ ap (λ (c : Made). c.end) (sym own_there) ∙ ap (end_of changes') (let e : suc made ≡ length changes' = omega (arith, long) in e);
    within = omega (arith, long);
    group_within = λ start is. omega (arith, laid.group_within start is);
  }
    where
      left : length (take made changes) ≡ made
      left = length-take-le made changes laid.within

      long : length changes' ≡ made + 1
      long = length_push (take made changes) change ∙ ap (λ n. n + 1) left

      no_made : Made
      no_made = record { begins = false; first = 0; middle = 0; end = 0; next_before = 0; next_after = 0 }

      own_there : made_at changes' made ≡ change
      own_there = ap (made_at changes') (let e : made ≡ length (take made changes) + 0 = omega (arith, left) in e) ∙ get_or-append-add (take made changes) (change ∷ []) 0 _

      early : (j : ℕ) → j < made → made_at changes' j ≡ made_at changes j
      early j h = get_or_append_left (take made changes) (change ∷ []) _ j (omega (arith, h, left)) ∙ get_or-take made changes j _ h

      end_same : (j : ℕ) → j ≤ made → end_of changes' j ≡ end_of changes j
      end_same zero h = refl
      end_same (suc j) h = ap (λ (c : Made). c.end) (early j (omega (arith, h)))

      old : (j : ℕ) (c : Made) → slice_get changes' j ≡ Some c → j < made → slice_get changes j ≡ Some c
      old j c is h = made_there rows changes j (omega (arith, h, laid.within)) ∙ ap Some (sym (early j h) ∙ get_or_from_slice_get changes' j c _ is)

      at : (j : ℕ) (c : Made) → slice_get changes' j ≡ Some c → made ≤ j → j ≡ made
      at j c is h = omega (arith, h, slice_get_within changes' j c is, long)

      own : (j : ℕ) (c : Made) → slice_get changes' j ≡ Some c → j ≡ made → c ≡ change
      own j c is e = sym (get_or_from_slice_get changes' j c _ is) ∙ ap (made_at changes') e ∙ own_there

pub some_changes : (rows : List KeptRow) (changes : List Made) (made : ℕ) (group : Option ℕ) → IsLaidOut rows changes made group → 0 < length rows → 0 < length (changes_in rows changes)
some_changes rows changes made group laid some = elim (cases_eq (length changes) 0) [
  | inl e ↦ absurd (let n : length rows ≡ 0 = laid.ends ∙ ap (end_of changes) e in omega (arith, n, some))
  | inr apart ↦ omega (arith, apart, changes_long rows changes)
]

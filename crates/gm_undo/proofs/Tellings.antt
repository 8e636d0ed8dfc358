-- What a history stands for once it is new, and once entries were taken back or brought again.
use Rattle.std.proofs.Common.{◌≡◌, ◌≢◌, ℕ, ◌+◌, ◌<◌, ◌≤◌, true, false, Bool, if◌then◌else◌, List, [], ◌∷◌, length, Option, Some, None, is_some, refl, sym, ap, subst, ◌∙◌, arith}
use Rattle.std.specs.FinMap.{get}
use Rattle.std.specs.Option.{unwrap_or}
use Rattle.std.proofs.lemmas.Bool.{false≢true, le-ltb, ltb-true, ltb-false}
use Rattle.gm_model.specs.declared.schema.Schema.{Schema}
use Rattle.gm_model.specs.Budgets.{Entries, group_entered}
use Rattle.gm_model.specs.Histories.{Group, History, no_history, IsUndone, IsRedone, begun_at, kept}
use Rattle.gm_model.specs.Maps.{Map, IsSound}
use Rattle.gm_arena.specs.inner.ArenaAsMap.{as_map}
use Rattle.gm_arena.specs.inner.ArenaMap.{ArenaMap}
use Rattle.gm_arena.specs.inner.Lawful.{IsLawful}
use Rattle.gm_arena.proofs.InsideLemmas.{some_of}
use Rattle.gm_undo.specs.inner.Costs.{MayTake, cost_to}
use Rattle.gm_undo.specs.inner.Kept.{Change, HistoryOf}
use Rattle.gm_undo.specs.inner.Standing.{AreChained, AreGroupsAlike, AreHeld, AreSoundRows, BeginsAt, HasRoomFor, IsEntry, IsGroupAt, Rows, StandsFor, TellsBack, TellsOn, map_of, rows_in}
use Rattle.gm_undo.specs.inner.Writing.{HasRoomOf}

-- ---- groups

pub none_open : (schema : Schema) (h : HistoryOf) (rows : ℕ → Rows) (a : Option ℕ) (b : Option Group) → AreGroupsAlike schema h rows a b → b ≡ None → a ≡ None
none_open schema h rows None None alike e = refl
none_open schema h rows None (Some g) alike e = absurd alike
none_open schema h rows (Some s) None alike e = absurd alike
none_open schema h rows (Some s) (Some g) alike e = absurd (false≢true (sym (ap is_some e)))

pub none_told : (schema : Schema) (h : HistoryOf) (rows : ℕ → Rows) (b : Option Group) → AreGroupsAlike schema h rows None b → b ≡ None
none_told schema h rows None alike = refl
none_told schema h rows (Some g) alike = absurd alike

pub not_open : (h : HistoryOf) (m : ArenaMap) → ((told : History) × StandsFor h m told × (told.group ≡ None)) → h.group ≡ None
not_open h m stands = none_open m.schema h stands.1.rows h.group stands.0.group stands.1.group stands.2

-- ---- the map in the arena

pub sound_here : (changes : List Change) (m : ArenaMap) (rows : ℕ → Rows) (k : ℕ) → AreChained changes m rows k → k ≤ length changes → IsSound (as_map m)
sound_here changes m rows k chained low = subst (λ r. IsSound (map_of m.schema r)) chained.here (chained.sound k low).sound

pub sound_held : (h : HistoryOf) (m : ArenaMap) (told : History) → StandsFor h m told → IsSound (as_map m)
sound_held h m told s = sound_here h.changes m s.rows h.made s.held.chained s.held.within

-- ---- a new history

pub rows_sound : (m : ArenaMap) → IsLawful m → IsSound (as_map m) → AreSoundRows m.schema (rows_in m)
rows_sound m lawful sound = record {
  dart = λ name dart e. let law = lawful.dart name dart e in record { whole = law.whole; neighbours = law.neighbours; valued = law.valued; below_next = law.below_next };
  few_names = lawful.few_names;
  sound = sound;
}

pub room_here : (m : ArenaMap) → IsLawful m → HasRoomFor m (rows_in m)
room_here m lawful = record {
  darts = omega (arith, lawful.counted);
  names = λ name live. let d = some_of (get m.darts name) live in (lawful.dart name d.0 d.1).below_reserved;
}

pub new_stands : (labels width : ℕ) (m : ArenaMap) → IsLawful m → IsSound (as_map m) → StandsFor (record { labels = labels; width = width; changes = []; made = 0; group = None }) m no_history
new_stands labels width m lawful sound = record {
  rows = λ _. rows_in m;
  held = record {
    shape = λ some. absurd (omega (arith, some));
    within = omega arith;
    chained = record {
      leads = λ k change e. absurd (false≢true (ap is_some e));
      sound = λ k low. rows_sound m lawful sound;
      room = λ k low. room_here m lawful;
      here = refl;
    };
  };
  whole = record { within = omega arith; begins = λ change e. absurd (false≢true (ap is_some e)) };
  past = refl;
  future = refl;
  group = tt;
}

-- ---- entries

module _ (changes : List Change) where
  pub last_entry : {A : Type 0} (Tells : ℕ → ℕ → A → Type 0) (end : ℕ) (xs : List A) → TellsBack changes Tells end xs → end ≢ 0 → (start : ℕ) × IsEntry changes start end
  last_entry Tells end [] tells some = absurd (some tells)
  last_entry Tells end (x ∷ xs) tells some = (tells.0, tells.1)

  pub next_entry : {A : Type 0} (Tells : ℕ → ℕ → A → Type 0) (start : ℕ) (xs : List A) → TellsOn changes Tells start xs → start ≢ length changes → (end : ℕ) × IsEntry changes start end
  next_entry Tells start [] tells some = absurd (some tells)
  next_entry Tells start (x ∷ xs) tells some = (tells.0, tells.1)

  pub none_behind : {A : Type 0} (Tells : ℕ → ℕ → A → Type 0) (xs : List A) → TellsBack changes Tells 0 xs → xs ≡ []
  none_behind Tells [] tells = refl
  none_behind Tells (x ∷ xs) tells = absurd (omega (arith, tells.1.some))

  pub none_before : {A : Type 0} (Tells : ℕ → ℕ → A → Type 0) (xs : List A) → TellsOn changes Tells (length changes) xs → xs ≡ []
  none_before Tells [] tells = refl
  none_before Tells (x ∷ xs) tells = absurd (omega (arith, tells.1.some, tells.1.ends.within))

-- ---- undo and redo

abbrev pub BackMaps : Schema → (ℕ → Rows) → ℕ → ℕ → Map → Type 0
BackMaps schema rows = λ start end map. map ≡ map_of schema (rows start)

abbrev pub OnMaps : Schema → (ℕ → Rows) → ℕ → ℕ → Map → Type 0
OnMaps schema rows = λ start end map. map ≡ map_of schema (rows end)

abbrev pub CostsOf : ℕ → List Change → ℕ → ℕ → ℕ → Type 0
CostsOf dim changes = λ start end most. cost_to dim changes end ≤ cost_to dim changes start + most

module _ (labels width : ℕ) (changes : List Change) where
  abbrev pub at : ℕ → Option ℕ → HistoryOf
  at made group = record { labels = labels; width = width; changes = changes; made = made; group = group }

  module _ (m m' : ArenaMap) (made made' : ℕ) (room : HasRoomOf m m') where
    held_now : (rows : ℕ → Rows) (low : made' ≤ length changes) → AreHeld (at made None) m rows → AreChained changes m' rows made' → AreHeld (at made' None) m' rows
    held_now rows low held chained = record { shape = λ some. rw room.schema (held.shape some); within = low; chained = chained }

    map_there : (rows : ℕ → Rows) (k : ℕ) (map : Map) → AreChained changes m' rows made' → made' ≡ k → map ≡ map_of m.schema (rows k) → map ≡ as_map m'
    map_there rows k map chained e is = is ∙ ap (λ j. map_of m.schema (rows j)) (sym e) ∙ ap (map_of m.schema) chained.here ∙ ap (λ schema. map_of schema (rows_in m')) (sym room.schema)

    map_was : (rows : ℕ → Rows) → AreChained changes m rows made → as_map m ≡ map_of m'.schema (rows made)
    map_was rows chained = ap (map_of m.schema) (sym chained.here) ∙ ap (λ schema. map_of schema (rows made)) (sym room.schema)

    module _ (go : (rows : ℕ → Rows) → AreChained changes m rows made → AreChained changes m' rows made') where
      undone_from : (is : (start : ℕ) → IsEntry changes start made → made' ≡ start) (some : made ≢ 0) (told : History) (s : StandsFor (at made None) m told) (past : List Map) → told.past ≡ past → TellsBack changes (BackMaps m.schema s.rows) made past
          → (behind : History) × IsUndone (as_map m) told (as_map m') behind × StandsFor (at made' None) m' behind
      undone_from is some told s [] e tells = absurd (some tells)
      undone_from is some told s (map ∷ rest) e tells =
          let start = tells.0 in
          let entry = tells.1 in
          let same : made' ≡ start = is start entry in
          let chained = go s.rows s.held.chained in
          let here : IsEntry changes made' made = subst (λ k. IsEntry changes k made) (sym same) entry in (
            record { past = rest; future = as_map m ∷ told.future; group = None },
            record {
              outside = none_told m.schema (at made None) s.rows told.group s.group;
              rest = rest;
              past = e ∙ ap (λ x. x ∷ rest) (map_there s.rows start map chained same tells.2);
              after = refl;
            },
            record {
              rows = s.rows;
              held = held_now s.rows here.begins.within s.held chained;
              whole = here.begins;
              past = subst (λ schema. TellsBack changes (BackMaps schema s.rows) made' rest) (sym room.schema) (subst (λ k. TellsBack changes (BackMaps m.schema s.rows) k rest) (sym same) tells.3);
              future = (made, here, map_was s.rows s.held.chained, subst (λ schema. TellsOn changes (OnMaps schema s.rows) made told.future) (sym room.schema) s.future);
              group = tt;
            },
          )

      redone_from : (is : (end : ℕ) → IsEntry changes made end → made' ≡ end) (some : made ≢ length changes) (told : History) (s : StandsFor (at made None) m told) (future : List Map) → told.future ≡ future → TellsOn changes (OnMaps m.schema s.rows) made future
          → (behind : History) × IsRedone (as_map m) told (as_map m') behind × StandsFor (at made' None) m' behind
      redone_from is some told s [] e tells = absurd (some tells)
      redone_from is some told s (map ∷ rest) e tells =
          let end = tells.0 in
          let entry = tells.1 in
          let same : made' ≡ end = is end entry in
          let chained = go s.rows s.held.chained in
          let here : IsEntry changes made made' = subst (λ k. IsEntry changes made k) (sym same) entry in (
            record { past = as_map m ∷ told.past; future = rest; group = None },
            record {
              outside = none_told m.schema (at made None) s.rows told.group s.group;
              rest = rest;
              future = e ∙ ap (λ x. x ∷ rest) (map_there s.rows end map chained same tells.2);
              after = refl;
            },
            record {
              rows = s.rows;
              held = held_now s.rows here.ends.within s.held chained;
              whole = here.ends;
              past = (made, here, map_was s.rows s.held.chained, subst (λ schema. TellsBack changes (BackMaps schema s.rows) made told.past) (sym room.schema) s.past);
              future = subst (λ schema. TellsOn changes (OnMaps schema s.rows) made' rest) (sym room.schema) (subst (λ k. TellsOn changes (OnMaps m.schema s.rows) k rest) (sym same) tells.3);
              group = tt;
            },
          )

      pub undone : (group : Option ℕ) → group ≡ None → ((start : ℕ) → IsEntry changes start made → made' ≡ start) → made ≢ 0 → (told : History) → StandsFor (at made group) m told
          → (behind : History) × IsUndone (as_map m) told (as_map m') behind × StandsFor (at made' group) m' behind
      undone None e is some told s = undone_from is some told s told.past refl s.past
      undone (Some start) e is some told s = absurd (false≢true (sym (ap is_some e)))

      pub redone : (group : Option ℕ) → group ≡ None → ((end : ℕ) → IsEntry changes made end → made' ≡ end) → made ≢ length changes → (told : History) → StandsFor (at made group) m told
          → (behind : History) × IsRedone (as_map m) told (as_map m') behind × StandsFor (at made' group) m' behind
      redone None e is some told s = redone_from is some told s told.future refl s.future
      redone (Some start) e is some told s = absurd (false≢true (sym (ap is_some e)))

  -- ---- steps

  module _ (dim made made' steps steps' : ℕ) where
    back_from : (is : (start : ℕ) → IsEntry changes start made → made' ≡ start) (some : made ≢ 0) (cost : steps' + cost_to dim changes made' ≤ steps + cost_to dim changes made) (entries : Entries) (may : MayTake (at made None) dim entries) (past : List ℕ) → entries.past ≡ past → TellsBack changes (CostsOf dim changes) made past
        → (most : ℕ) × (rest : List ℕ) × (entries.past ≡ most ∷ rest) × (steps' ≤ steps + most) × MayTake (at made' None) dim (record { past = rest; future = most ∷ entries.future; group = entries.group })
    back_from is some cost entries may [] e tells = absurd (some tells)
    back_from is some cost entries may (most ∷ rest) e tells =
        let same : made' ≡ tells.0 = is tells.0 tells.1 in
        let here : IsEntry changes made' made = subst (λ k. IsEntry changes k made) (sym same) tells.1 in
        let within : cost_to dim changes made ≤ cost_to dim changes made' + most = subst (λ k. cost_to dim changes made ≤ cost_to dim changes k + most) (sym same) tells.2 in (
          most,
          rest,
          e,
          omega (arith, cost, within),
          record {
            past = subst (λ k. TellsBack changes (CostsOf dim changes) k rest) (sym same) tells.3;
            future = (made, here, within, may.future);
            group = omega arith;
          },
        )

    on_from : (is : (end : ℕ) → IsEntry changes made end → made' ≡ end) (some : made ≢ length changes) (cost : steps' + cost_to dim changes made ≤ steps + cost_to dim changes made') (entries : Entries) (may : MayTake (at made None) dim entries) (future : List ℕ) → entries.future ≡ future → TellsOn changes (CostsOf dim changes) made future
        → (most : ℕ) × (rest : List ℕ) × (entries.future ≡ most ∷ rest) × (steps' ≤ steps + most) × MayTake (at made' None) dim (record { past = most ∷ entries.past; future = rest; group = entries.group })
    on_from is some cost entries may [] e tells = absurd (some tells)
    on_from is some cost entries may (most ∷ rest) e tells =
        let same : made' ≡ tells.0 = is tells.0 tells.1 in
        let here : IsEntry changes made made' = subst (λ k. IsEntry changes made k) (sym same) tells.1 in
        let within : cost_to dim changes made' ≤ cost_to dim changes made + most = subst (λ k. cost_to dim changes k ≤ cost_to dim changes made + most) (sym same) tells.2 in (
          most,
          rest,
          e,
          omega (arith, cost, within),
          record {
            past = (made, here, within, may.past);
            future = subst (λ k. TellsOn changes (CostsOf dim changes) k rest) (sym same) tells.3;
            group = omega arith;
          },
        )

    pub back_takes : (group : Option ℕ) → group ≡ None → ((start : ℕ) → IsEntry changes start made → made' ≡ start) → made ≢ 0 → steps' + cost_to dim changes made' ≤ steps + cost_to dim changes made → (entries : Entries) → MayTake (at made group) dim entries
        → (most : ℕ) × (rest : List ℕ) × (entries.past ≡ most ∷ rest) × (steps' ≤ steps + most) × MayTake (at made' group) dim (record { past = rest; future = most ∷ entries.future; group = entries.group })
    back_takes None e is some cost entries may = back_from is some cost entries may entries.past refl may.past
    back_takes (Some start) e is some cost entries may = absurd (false≢true (sym (ap is_some e)))

    pub on_takes : (group : Option ℕ) → group ≡ None → ((end : ℕ) → IsEntry changes made end → made' ≡ end) → made ≢ length changes → steps' + cost_to dim changes made ≤ steps + cost_to dim changes made' → (entries : Entries) → MayTake (at made group) dim entries
        → (most : ℕ) × (rest : List ℕ) × (entries.future ≡ most ∷ rest) × (steps' ≤ steps + most) × MayTake (at made' group) dim (record { past = most ∷ entries.past; future = rest; group = entries.group })
    on_takes None e is some cost entries may = on_from is some cost entries may entries.future refl may.future
    on_takes (Some start) e is some cost entries may = absurd (false≢true (sym (ap is_some e)))

  -- ---- groups

  module _ (m : ArenaMap) (made : ℕ) where
    pub begun : (group : Option ℕ) → group ≡ None → (told : History) → StandsFor (at made group) m told → StandsFor (at made (Some made)) m (begun_at (as_map m) told)
    begun None e told s = record {
      rows = s.rows;
      held = record { shape = s.held.shape; within = s.held.within; chained = s.held.chained };
      whole = s.whole;
      past = s.past;
      future = s.future;
      group = record {
        below = omega arith;
        map = ap (map_of m.schema) (sym s.held.chained.here);
        changed = sym (le-ltb made made (omega arith));
        one = λ less. absurd (omega (arith, less));
      };
    }
    begun (Some start) e told s = absurd (false≢true (sym (ap is_some e)))

    pub begun_takes : (dim : ℕ) (group : Option ℕ) → group ≡ None → (entries : Entries) → MayTake (at made group) dim entries → MayTake (at made (Some made)) dim (record { past = entries.past; future = entries.future; group = 0 })
    begun_takes dim None e entries may = record { past = may.past; future = may.future; group = omega arith }
    begun_takes dim (Some start) e entries may = absurd (false≢true (sym (ap is_some e)))

  -- ---- where nothing is there

  module _ (m : ArenaMap) (made : ℕ) where
    pub none_back : made ≡ 0 → (group : Option ℕ) → group ≡ None → (told : History) → StandsFor (at made group) m told → told.past ≡ []
    none_back none None e told s = none_behind changes (BackMaps m.schema s.rows) told.past (subst (λ k. TellsBack changes (BackMaps m.schema s.rows) k told.past) none s.past)
    none_back none (Some start) e told s = absurd (false≢true (sym (ap is_some e)))

    pub last_of : made ≢ 0 → (group : Option ℕ) → group ≡ None → (told : History) → StandsFor (at made group) m told → (start : ℕ) × IsEntry changes start made
    last_of some None e told s = last_entry changes (BackMaps m.schema s.rows) made told.past s.past some
    last_of some (Some start) e told s = absurd (false≢true (sym (ap is_some e)))

    pub none_on : made ≡ length changes → (group : Option ℕ) (told : History) → StandsFor (at made group) m told → told.future ≡ []
    none_on none group told s = none_before changes (OnMaps m.schema s.rows) told.future (subst (λ k. TellsOn changes (OnMaps m.schema s.rows) k told.future) none s.future)

    pub next_of : made ≢ length changes → (group : Option ℕ) (told : History) → StandsFor (at made group) m told → (end : ℕ) × IsEntry changes made end
    next_of some group told s = next_entry changes (OnMaps m.schema s.rows) made told.future s.future some

  -- ---- a group that is kept

  module _ (m : ArenaMap) (made start : ℕ) where
    kept_from : (group : Group) (told : History) (s : StandsFor (at made (Some start)) m told) → IsGroupAt m.schema (at made (Some start)) s.rows start group → (changed : Bool) → group.is_changed ≡ changed
        → StandsFor (at made None) m (record { past = if changed then group.map ∷ told.past else told.past; future = told.future; group = None })
    kept_from group told s is true e =
        let less : start < made = ltb-true start made (sym is.changed ∙ e) in
        let entry = (is.one less).0 in
        record {
          rows = s.rows;
          held = record { shape = s.held.shape; within = s.held.within; chained = s.held.chained };
          whole = entry.ends;
          past = (start, entry, is.map, s.past);
          future = s.future;
          group = tt;
        }
    kept_from group told s is false e =
        let same : start ≡ made = omega (arith, ltb-false start made (sym is.changed ∙ e), is.below) in
        record {
          rows = s.rows;
          held = record { shape = s.held.shape; within = s.held.within; chained = s.held.chained };
          whole = subst (BeginsAt changes) same s.whole;
          past = subst (λ k. TellsBack changes (BackMaps m.schema s.rows) k told.past) same s.past;
          future = s.future;
          group = tt;
        }

    kept_takes_from : (dim : ℕ) (group : Group) (told : History) (s : StandsFor (at made (Some start)) m told) → IsGroupAt m.schema (at made (Some start)) s.rows start group → (entries : Entries) → MayTake (at made (Some start)) dim entries → (changed : Bool) → group.is_changed ≡ changed
        → MayTake (at made None) dim (record { past = if changed then entries.group ∷ entries.past else entries.past; future = entries.future; group = entries.group })
    kept_takes_from dim group told s is entries may true e =
        let less : start < made = ltb-true start made (sym is.changed ∙ e) in
        record { past = (start, (is.one less).0, may.group, may.past); future = may.future; group = omega arith }
    kept_takes_from dim group told s is entries may false e =
        let same : start ≡ made = omega (arith, ltb-false start made (sym is.changed ∙ e), is.below) in
        record { past = subst (λ k. TellsBack changes (CostsOf dim changes) k entries.past) same may.past; future = may.future; group = omega arith }

  group_of : (schema : Schema) (h : HistoryOf) (rows : ℕ → Rows) (start : ℕ) (opened : Option Group) (group : Group) → AreGroupsAlike schema h rows (Some start) opened → opened ≡ Some group → IsGroupAt schema h rows start group
  group_of schema h rows start None group alike e = absurd alike
  group_of schema h rows start (Some other) group alike e = subst (IsGroupAt schema h rows start) (some_inj e) alike
    where
      some_inj : Some other ≡ Some group → other ≡ group
      some_inj e = ap (λ (o : Option Group). unwrap_or o other) e

  no_group : (schema : Schema) (h : HistoryOf) (rows : ℕ → Rows) (opened : Option Group) (group : Group) → AreGroupsAlike schema h rows None opened → opened ≡ Some group → ⊥
  no_group schema h rows None group alike e = false≢true (ap is_some e)
  no_group schema h rows (Some other) group alike e = alike

  module _ (m : ArenaMap) (made : ℕ) where
    pub kept_stands : (start : Option ℕ) (told : History) (group : Group) → StandsFor (at made start) m told → told.group ≡ Some group → StandsFor (at made None) m (kept group told)
    kept_stands None told group s e = absurd (no_group m.schema (at made None) s.rows told.group group s.group e)
    kept_stands (Some start) told group s e = kept_from m made start group told s (group_of m.schema (at made (Some start)) s.rows start told.group group s.group e) group.is_changed refl

    pub kept_takes : (dim : ℕ) (start : Option ℕ) (told : History) (group : Group) (entries : Entries) → StandsFor (at made start) m told → told.group ≡ Some group → MayTake (at made start) dim entries → MayTake (at made None) dim (group_entered group entries)
    kept_takes dim None told group entries s e may = absurd (no_group m.schema (at made None) s.rows told.group group s.group e)
    kept_takes dim (Some start) told group entries s e may = kept_takes_from m made start dim group told s (group_of m.schema (at made (Some start)) s.rows start told.group group s.group e) entries may group.is_changed refl

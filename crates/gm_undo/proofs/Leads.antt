-- The kept rows of an application lead from the map before it to the one behind it.
use Rattle.std.proofs.Common.{◌≡◌, ◌≢◌, ℕ, zero, suc, ◌+◌, ◌*◌, ◌-◌, ◌<◌, ◌≤◌, not, false, Bool, List, [], ◌∷◌, ◌++◌, length, take, drop, get_or, Option, Some, None, IsSome, IsTrue, is_some, refl, sym, ap, subst, ◌∙◌, inl, inr, arith, mul_comm}
use Rattle.std.specs.FinMap.{get}
use Rattle.std.specs.List.{Contains}
use Rattle.std.proofs.lemmas.Bool.{cases_lt, false≢true}
use Rattle.std.proofs.lemmas.List.{ext_get_or, get_or_default, get_or-take, length-take-le, take-append-drop}
use Rattle.std.proofs.lemmas.List.Elements.{Contains-get_or}
use Rattle.gm_model.specs.declared.rule.Side.TheVariants.{Left, Right}
use Rattle.gm_model.specs.Rules.{has_word}
use Rattle.gm_model.specs.Unfolding.{added_before, added_nodes}
use Rattle.gm_theory.proofs.NewNames.{new_name}
use Rattle.gm_theory.proofs.RuleSteps.{word_below}
use Rattle.gm_theory.proofs.Tests.{both_true}
use Rattle.gm_arena.specs.inner.ArenaAsMap.{as_map}
use Rattle.gm_arena.specs.inner.ArenaMap.{ArenaMap, Dart, IsAt, IsLiveName, IsLiveSlot, name_at}
use Rattle.gm_arena.specs.inner.Lawful.{IsLawful}
use Rattle.gm_arena.specs.declared.slot.Slot.{Slot}
use Rattle.gm_arena.proofs.InsideLemmas.{is_some_at, none_of}
use Rattle.gm_arena.proofs.MapLemmas.{IsAt-name_at, name_below}
use Rattle.gm_commit.specs.inner.EditLists.{EditLists, AreDistinct, AreEditsOf, IsResultOf}
use Rattle.gm_pending.specs.inner.Results.{PendingOf, place_in, rule_in}
use Rattle.gm_commit.proofs.on_new_darts.Numbers.{numbered, number_below}
use Rattle.gm_undo.specs.inner.Flat.{RowsOf, row_in}
use Rattle.gm_undo.specs.inner.Kept.{KeptRow}
use Rattle.gm_undo.specs.inner.Keeping.{AreAddedKept, AreBehindKept, AreTouchedKept}
use Rattle.gm_undo.specs.inner.Standing.{rows_in}
use Rattle.gm_undo.specs.inner.Writing.{AreOnce, AreRowsAt, AreSidesAt, IsAmong}

-- ---- the added darts of a result

module _ (app : PendingOf) (edits : EditLists) (ok : AreEditsOf app edits) (after : ArenaMap) (result : IsResultOf app after) where
  pub added_live : (number : ℕ) → number < edits.added → IsLiveName after (app.map.next + number)
  added_live number h =
      let low : number < added_before (rule_in app) (length (rule_in app).nodes) * app.placed.positions = omega (arith, h, ok.added_is, mul_comm (added_nodes (rule_in app)) app.placed.positions) in
      let at = numbered (rule_in app) app.placed.positions (length (rule_in app).nodes) number low in
      (result.unfolded.darts (app.map.next + number)).1 (inr (at.node, at.position, at.added, at.within, omega (arith, at.is, new_name (as_map app.map) (rule_in app) (place_in app) at.node at.position at.added)))

  pub added_only : (d : ℕ) → IsLiveName after d → app.map.next ≤ d → (number : ℕ) × (number < edits.added) × (d ≡ app.map.next + number)
  added_only d live high = elim ((result.unfolded.darts d).0 live) [
    | inl (was, stays) ↦ absurd (omega (arith, high, name_below app.map d ok.prepared.lawful was))
    | inr (x, p, a, b, e) ↦
        let right : IsTrue (has_word (rule_in app) Right x) = (both_true (not (has_word (rule_in app) Left x)) (has_word (rule_in app) Right x) a).1 in
        let below = number_below (rule_in app) app.placed.positions x p a (word_below (rule_in app) Right x right) b in
        (added_before (rule_in app) x * app.placed.positions + p, omega (arith, below, ok.added_is), omega (arith, e, new_name (as_map app.map) (rule_in app) (place_in app) x p a))
  ]

-- ---- lists

-- what stands first is what it was
pub front_kept : (old new : List KeptRow) → length old ≤ length new → ((k : ℕ) → k < length old → row_in new k ≡ row_in old k) → new ≡ old ++ drop (length old) new
front_kept old new long same = sym (take-append-drop (length old) new) ∙ ap (λ (rows : List KeptRow). rows ++ drop (length old) new) front
  where
    front : take (length old) new ≡ old
    front = ext_get_or (record { name = 0; stays = false; dart = record { alphas = []; values = [] } }) (take (length old) new) old (length-take-le (length old) new long) (λ k h. let low : k < length old = omega (arith, h, length-take-le (length old) new long) in get_or-take (length old) new k _ low ∙ same k low)

distinct_at : (slots : List Slot) (i j : ℕ) → AreDistinct slots → i < length slots → j < length slots → (get_or slots i (record { at = 0 })).at ≡ (get_or slots j (record { at = 0 })).at → i ≡ j
distinct_at [] i j apart a b e = absurd (omega (arith, a))
distinct_at (slot ∷ slots) zero zero apart a b e = refl
distinct_at (slot ∷ slots) zero (suc j) apart a b e = absurd (apart.0 _ (Contains-get_or slots j (record { at = 0 }) (omega (arith, b))) (sym e))
distinct_at (slot ∷ slots) (suc i) zero apart a b e = absurd (apart.0 _ (Contains-get_or slots i (record { at = 0 }) (omega (arith, a))) e)
distinct_at (slot ∷ slots) (suc i) (suc j) apart a b e = ap (λ n. suc n) (distinct_at slots i j apart.1 (omega (arith, a)) (omega (arith, b)) e)

-- ---- both sides

module _ (m m' : ArenaMap) (touched : List Slot) (added : ℕ) (old t b a : RowsOf) (kt : AreTouchedKept m touched old t) (kb : AreBehindKept m' (length old.rows) (length t.rows) t b) (ka : AreAddedKept m' m.next added b a) (lawful : IsLawful m)
    (live : (slot : Slot) → Contains touched slot → IsLiveSlot m slot.at) (distinct : AreDistinct touched) (only : (d : ℕ) → IsLiveName m' d → m.next ≤ d → (number : ℕ) × (number < added) × (d ≡ m.next + number))
    (elsewhere : (d : ℕ) → d < m.next → ((slot : Slot) → Contains touched slot → name_at m slot.at ≢ d) → get m'.darts d ≡ get m.darts d) where
  first : ℕ
  first = length old.rows

  middle : ℕ
  middle = length t.rows

  third : ℕ
  third = length b.rows

  end : ℕ
  end = length a.rows

  pub middle_high : length old.rows ≤ length t.rows
  middle_high = kt.more.long

  third_high : length t.rows ≤ length b.rows
  third_high = kb.more.long

  pub end_high : length t.rows ≤ length a.rows
  end_high = omega (arith, third_high, ka.more.long)

  -- ---- the touched darts

  place : (k : ℕ) → IsAmong (length old.rows) (length t.rows) k → length old.rows + (k - length old.rows) ≡ k
  place k among = omega (arith, among.0)

  within : (k : ℕ) → IsAmong (length old.rows) (length t.rows) k → k - length old.rows < length touched
  within k among = omega (arith, among.0, among.1, kt.count)

  t_are : (k : ℕ) → IsAmong (length old.rows) (length t.rows) k → get m.darts (row_in t.rows k).name ≡ Some (row_in t.rows k).dart
  t_are k among = subst (λ j. get m.darts (row_in t.rows j).name ≡ Some (row_in t.rows j).dart) (place k among) (kt.rows (k - length old.rows) (within k among))

  t_name : (k : ℕ) → IsAmong (length old.rows) (length t.rows) k → (row_in t.rows k).name ≡ name_at m (get_or touched (k - length old.rows) (record { at = 0 })).at
  t_name k among = subst (λ j. (row_in t.rows j).name ≡ name_at m (get_or touched (k - length old.rows) (record { at = 0 })).at) (place k among) (kt.names (k - length old.rows) (within k among))

  t_stays : (k : ℕ) → IsAmong (length old.rows) (length t.rows) k → (row_in t.rows k).stays ≡ false
  t_stays k among = subst (λ j. (row_in t.rows j).stays ≡ false) (place k among) (kt.stays (k - length old.rows) (within k among))

  t_live : (k : ℕ) → IsAmong (length old.rows) (length t.rows) k → IsLiveName m (row_in t.rows k).name
  t_live k among = is_some_at (get m.darts (row_in t.rows k).name) (row_in t.rows k).dart (t_are k among)

  a_name : (k : ℕ) → IsAmong (length old.rows) (length t.rows) k → (row_in a.rows k).name ≡ (row_in t.rows k).name
  a_name k among = ap (λ (r : KeptRow). r.name) (ka.before k (omega (arith, among.1, third_high))) ∙ kb.names k among.0 among.1

  a_dart : (k : ℕ) → IsAmong (length old.rows) (length t.rows) k → (row_in a.rows k).dart ≡ (row_in t.rows k).dart
  a_dart k among = ap (λ (r : KeptRow). r.dart) (ka.before k (omega (arith, among.1, third_high))) ∙ kb.darts k among.0 among.1

  a_stays : (k : ℕ) → IsAmong (length old.rows) (length t.rows) k → (row_in a.rows k).stays ≡ is_some (get m'.darts (row_in a.rows k).name)
  a_stays k among = ap (λ (r : KeptRow). r.stays) (ka.before k (omega (arith, among.1, third_high))) ∙ kb.stays k among.0 among.1 (t_stays k among) ∙ ap (λ n. is_some (get m'.darts n)) (sym (a_name k among))

  t_once : AreOnce t.rows (length old.rows) (length t.rows)
  t_once k l x y same =
      let i = k - length old.rows in
      let j = l - length old.rows in
      let s = get_or touched i (record { at = 0 }) in
      let o = get_or touched j (record { at = 0 }) in
      let s_at : IsAt m s.at (name_at m s.at) = IsAt-name_at m s.at (live s (Contains-get_or touched i (record { at = 0 }) (within k x))) in
      let o_at : IsAt m o.at (name_at m o.at) = IsAt-name_at m o.at (live o (Contains-get_or touched j (record { at = 0 }) (within l y))) in
      let names : name_at m o.at ≡ name_at m s.at = sym (t_name l y) ∙ sym same ∙ t_name k x in
      let at : o.at ≡ s.at = lawful.one_slot s.at o.at (name_at m s.at) s_at (subst (IsAt m o.at) names o_at) in
      let e = distinct_at touched j i distinct (within l y) (within k x) at in
      omega (arith, e, x.0, y.0)

  none_by : (o : Option Dart) (stays : Bool) → stays ≡ is_some o → stays ≡ false → o ≡ None
  none_by None stays is goes = refl
  none_by (Some x) stays is goes = absurd (false≢true (sym goes ∙ is))

  some_by : (o : Option Dart) (stays : Bool) → stays ≡ is_some o → (stays ≡ false → ⊥) → IsSome o
  some_by None stays is lasts = absurd (lasts is)
  some_by (Some x) stays is lasts = refl

  from : AreRowsAt a.rows (length old.rows) (length t.rows) (rows_in m) (rows_in m')
  from = record {
    rows_are = λ k among. ap (get m.darts) (a_name k among) ∙ t_are k among ∙ ap Some (sym (a_dart k among));
    goes = λ k among. none_by (get m'.darts (row_in a.rows k).name) (row_in a.rows k).stays (a_stays k among);
    lasts = λ k among. some_by (get m'.darts (row_in a.rows k).name) (row_in a.rows k).stays (a_stays k among);
    once = λ k l x y same. t_once k l x y (sym (a_name k x) ∙ same ∙ a_name l y);
  }

  -- ---- those behind it

  abbrev IsBehind : ℕ → Type 0
  IsBehind k = IsAmong (length t.rows) (length b.rows) k

  b_row : (k : ℕ) → IsBehind k → row_in a.rows k ≡ row_in b.rows k
  b_row k among = ka.before k among.1

  -- it is that of a touched dart
  b_from : (k : ℕ) → IsBehind k → (i : ℕ) × IsAmong (length old.rows) (length t.rows) i × ((row_in t.rows i).name ≡ (row_in a.rows k).name)
  b_from k among = let i = kb.from k among.0 among.1 in (i.0, (i.1, i.2), i.3 ∙ ap (λ (r : KeptRow). r.name) (sym (b_row k among)))

  b_live : (k : ℕ) → IsBehind k → IsLiveName m (row_in a.rows k).name
  b_live k among = let i = b_from k among in subst (IsLiveName m) i.2 (t_live i.0 i.1)

  b_low : (k : ℕ) → IsBehind k → (row_in a.rows k).name < m.next
  b_low k among = name_below m (row_in a.rows k).name lawful (b_live k among)

  abbrev IsNew : ℕ → Type 0
  IsNew k = IsAmong (length b.rows) (length a.rows) k

  n_place : (k : ℕ) → IsNew k → length b.rows + (k - length b.rows) ≡ k
  n_place k among = omega (arith, among.0)

  n_within : (k : ℕ) → IsNew k → k - length b.rows < added
  n_within k among = omega (arith, among.0, among.1, ka.count)

  n_name : (k : ℕ) → IsNew k → (row_in a.rows k).name ≡ m.next + (k - length b.rows)
  n_name k among = subst (λ j. (row_in a.rows j).name ≡ m.next + (k - length b.rows)) (n_place k among) (ka.names (k - length b.rows) (n_within k among))

  n_dart : (k : ℕ) → IsNew k → get m'.darts (row_in a.rows k).name ≡ Some (row_in a.rows k).dart
  n_dart k among = ap (get m'.darts) (n_name k among) ∙ subst (λ j. get m'.darts (m.next + (k - length b.rows)) ≡ Some (row_in a.rows j).dart) (n_place k among) (ka.rows (k - length b.rows) (n_within k among))

  n_stays : (k : ℕ) → IsNew k → (row_in a.rows k).stays ≡ false
  n_stays k among = subst (λ j. (row_in a.rows j).stays ≡ false) (n_place k among) (ka.stays (k - length b.rows) (n_within k among))

  no_high : (d : ℕ) → m.next ≤ d → IsLiveName m d → ⊥
  no_high d high is = omega (arith, high, name_below m d lawful is)

  n_unlive : (k : ℕ) → IsNew k → IsLiveName m (row_in a.rows k).name → ⊥
  n_unlive k among = no_high (row_in a.rows k).name (omega (arith, n_name k among))

  by_part : {P : Type 0} (k : ℕ) → IsAmong (length t.rows) (length a.rows) k → (IsBehind k → P) → (IsNew k → P) → P
  by_part k among behind new = elim (cases_lt k (length b.rows)) [
    | inl less ↦ behind (among.0, less)
    | inr more ↦ new (more, among.1)
  ]

  to : AreRowsAt a.rows (length t.rows) (length a.rows) (rows_in m') (rows_in m)
  to = record {
    rows_are = λ k among. by_part k among
        (λ behind. rw (b_row k behind) (kb.rows k behind.0 behind.1))
        (λ new. n_dart k new);
    goes = λ k among no. by_part k among
        (λ behind. absurd (false≢true (sym no ∙ ap (λ (r : KeptRow). r.stays) (b_row k behind) ∙ kb.stay k behind.0 behind.1)))
        (λ new. none_of (get m.darts (row_in a.rows k).name) (n_unlive k new));
    lasts = λ k among yes. by_part k among
        (λ behind. b_live k behind)
        (λ new. absurd (yes (n_stays k new)));
    once = λ k l x y same. by_part k x
        (λ behind. by_part l y
        (λ behind'. kb.once t_once k l behind behind' (ap (λ (r : KeptRow). r.name) (sym (b_row k behind)) ∙ same ∙ ap (λ (r : KeptRow). r.name) (b_row l behind')))
        (λ new'. absurd (omega (arith, b_low k behind, n_name l new', same))))
        (λ new. by_part l y
        (λ behind'. absurd (omega (arith, b_low l behind', n_name k new, same)))
        (λ new'. omega (arith, n_name k new, n_name l new', same, new.0, new'.0)));
  }

  pub sides : AreSidesAt a.rows (length old.rows) (length t.rows) (length t.rows) (length a.rows) (rows_in m) (rows_in m')
  sides = record {
    from = from;
    to = to;
    from_lasts = λ k among lasts outside.
        let j = kb.all k among.0 among.1 (subst (IsLiveName m') (a_name k among) lasts) in
        outside j.0 (j.1, omega (arith, j.2, ka.more.long)) (a_name k among ∙ sym j.3 ∙ ap (λ (r : KeptRow). r.name) (sym (b_row j.0 (j.1, j.2))));
    to_lasts = λ k among lasts outside. by_part k among
        (λ behind. let i = b_from k behind in outside i.0 i.1 (sym i.2 ∙ sym (a_name i.0 i.1)))
        (λ new. n_unlive k new lasts);
    elsewhere = λ d out out'. elim (cases_lt d m.next) [
      | inl low ↦ elsewhere d low (λ slot (j, h, is) e.
          let k : IsAmong (length old.rows) (length t.rows) (length old.rows + j) = (omega arith, omega (arith, h, kt.count)) in
          let here : get_or touched j (record { at = 0 }) ≡ slot = get_or_default touched j (record { at = 0 }) slot h ∙ is in
          out (length old.rows + j) k (sym e ∙ ap (λ (s : Slot). name_at m s.at) (sym here) ∙ sym (kt.names j h) ∙ sym (a_name (length old.rows + j) k)))
      | inr high ↦
          none_of (get m'.darts d) (λ is. let n = only d is high in out' (length b.rows + n.0) (omega (arith, third_high), omega (arith, n.1, ka.count)) (n.2 ∙ sym (ka.names n.0 n.1)))
          ∙ sym (none_of (get m.darts d) (no_high d high))
    ];
  }

-- Where entries begin and end, and changes that are made and taken back.
use Rattle.std.proofs.Common.{◌≡◌, ℕ, zero, suc, ◌+◌, ◌*◌, ◌-◌, ◌<◌, ◌≤◌, true, false, List, [], ◌∷◌, ◌++◌, length, map, take, sum, Option, Some, slice_get, sym, ap, ap₂, ◌∙◌, inl, inr, arith}
use Rattle.std.specs.Option.{option_map}
use Rattle.std.proofs.lemmas.Bool.{cases_eq, cases_lt, false≢true}
use Rattle.std.proofs.lemmas.List.{length-map}
use Rattle.std.proofs.lemmas.List.Sums.{sum-map, sum_by_push}
use Rattle.std.proofs.lemmas.Option.{get_or_from_slice_get, slice_get-get_or, slice_get-map, slice_get_within}
use Rattle.std.proofs.Math.Seq.{take-suc}
use Rattle.gm_arena.specs.inner.ArenaMap.{ArenaMap}
use Rattle.gm_undo.specs.inner.Costs.{cost_to, rows_of}
use Rattle.gm_undo.specs.inner.Kept.{Change, KeptRow}
use Rattle.gm_undo.specs.inner.Layout.{IsLaidOut, change_in, changes_in, end_of, made_at}
use Rattle.gm_undo.specs.inner.Standing.{AreChained, HasRoomFor, IsEntry, Rows, rows_in}
use Rattle.gm_undo.specs.inner.Writing.{CanWrite, HasRoomOf}
use Rattle.gm_undo.specs.declared.keeping.Made.{Made}
use Rattle.gm_undo.proofs.Ranges.{range_long, sides_at, sides_back}

-- one change more
pub cost_more : (dim : ℕ) (all : List Change) (k : ℕ) (change : Change) → slice_get all k ≡ Some change → cost_to dim all (k + 1) ≡ cost_to dim all k + 7 * (dim + 1) * rows_of change
cost_more dim all k change is =
    let next : take (k + 1) all ≡ take k all ++ change ∷ [] =
    ap (λ n. take n all) (let e : k + 1 ≡ suc k = omega arith in e) ∙ take-suc all k change (slice_get_within all k change is) ∙ ap (λ c. take k all ++ c ∷ []) (get_or_from_slice_get all k change change is) in
    let sums : sum (map rows_of (take (k + 1) all)) ≡ sum (map rows_of (take k all)) + rows_of change =
    ap (λ (l : List Change). sum (map rows_of l)) next
    ∙ sum-map rows_of (take k all ++ change ∷ [])
    ∙ sum_by_push rows_of (take k all) change
    ∙ ap (λ n. n + rows_of change) (sym (sum-map rows_of (take k all))) in
    ap (λ n. 7 * (dim + 1) * n) sums ∙ spread (7 * (dim + 1)) (sum (map rows_of (take k all))) (rows_of change)
  where
    spread : (w a b : ℕ) → w * (a + b) ≡ w * a + w * b
    spread w a b = grind arith

module _ (rows : List KeptRow) (changes : List Made) where
  pub changes_long : length (changes_in rows changes) ≡ length changes
  changes_long = length-map changes (change_in rows)

  pub made_there : (k : ℕ) → k < length changes → slice_get changes k ≡ Some (made_at changes k)
  made_there k h = slice_get-get_or changes k (record { begins = false; first = 0; middle = 0; end = 0; next_before = 0; next_after = 0 }) h

  pub change_there : (k : ℕ) → k < length changes → slice_get (changes_in rows changes) k ≡ Some (change_in rows (made_at changes k))
  change_there k h = slice_get-map (change_in rows) changes k ∙ ap (option_map (change_in rows)) (made_there k h)

  -- ---- entries

  pub entry_first : (start end index : ℕ) → IsEntry (changes_in rows changes) start end → index < end → (made_at changes index).begins ≡ true → ((k : ℕ) → index < k → k < end → (made_at changes k).begins ≡ false) → index ≡ start
  entry_first start end index entry h begins later = elim (cases_lt index start) [
    | inl before ↦ absurd (false≢true (sym (later start before entry.some) ∙ entry.begins.begins _ (change_there start (omega (arith, entry.some, entry.ends.within, changes_long)))))
    | inr behind ↦ elim (cases_eq index start) [
      | inl e ↦ e
      | inr apart ↦ absurd (false≢true (sym (entry.within index _ (omega (arith, behind, apart)) h (change_there index (omega (arith, h, entry.ends.within, changes_long)))) ∙ begins))
    ]
  ]

  pub entry_end : (start end index : ℕ) → IsEntry (changes_in rows changes) start end → start < index → index ≤ length changes → (index < length changes → (made_at changes index).begins ≡ true) → ((k : ℕ) → start < k → k < index → (made_at changes k).begins ≡ false) → index ≡ end
  entry_end start end index entry some h begins earlier = elim (cases_lt end index) [
    | inl before ↦ absurd (false≢true (sym (earlier end entry.some before) ∙ entry.ends.begins _ (change_there end (omega (arith, before, h)))))
    | inr behind ↦ elim (cases_eq index end) [
      | inl e ↦ e
      | inr apart ↦
          let less : index < length changes = omega (arith, behind, apart, entry.ends.within, changes_long) in
          absurd (false≢true (sym (entry.within index _ some (omega (arith, behind, apart)) (change_there index less)) ∙ begins less))
    ]
  ]

  -- ---- where the rows lie

  module _ (made : ℕ) (group : Option ℕ) (laid : IsLaidOut rows changes made group) where
    pub first_is : (k : ℕ) → k < length changes → (made_at changes k).first ≡ end_of changes k
    first_is k h = laid.first k (made_at changes k) (made_there k h)

    pub middle_high : (k : ℕ) → k < length changes → (made_at changes k).first ≤ (made_at changes k).middle
    middle_high k h = laid.middle k (made_at changes k) (made_there k h)

    pub end_high : (k : ℕ) → k < length changes → (made_at changes k).middle ≤ (made_at changes k).end
    end_high k h = laid.end k (made_at changes k) (made_there k h)

    pub ends_rise : (k l : ℕ) → k ≤ l → l ≤ length changes → end_of changes k ≤ end_of changes l
    ends_rise zero zero low high = omega arith
    ends_rise (suc k) zero low high = absurd (omega (arith, low))
    ends_rise k (suc l) low high = elim (cases_eq k (suc l)) [
      | inl e ↦ rw e (omega arith)
      | inr apart ↦
          let h : l < length changes = omega (arith, high) in
          omega (arith, ends_rise k l (omega (arith, low, apart)) (omega (arith, high)), first_is l h, middle_high l h, end_high l h)
    ]

    pub rows_high : (k : ℕ) → k < length changes → (made_at changes k).end ≤ length rows
    rows_high k h = omega (arith, ends_rise (suc k) (length changes) (omega (arith, h)) (omega arith), laid.ends)

    pub middle_within : (k : ℕ) → k < length changes → (made_at changes k).middle ≤ length rows
    middle_within k h = omega (arith, end_high k h, rows_high k h)

    -- ---- one change

    module _ (m : ArenaMap) (states : ℕ → Rows) (k : ℕ) (h : k < length changes) where
      low : k ≤ length (changes_in rows changes)
      low = omega (arith, h, changes_long)

      high : k + 1 ≤ length (changes_in rows changes)
      high = omega (arith, h, changes_long)

      pub can_back : AreChained (changes_in rows changes) m states (k + 1)
          → CanWrite rows (made_at changes k).middle (made_at changes k).end (made_at changes k).first (made_at changes k).middle m (states k) × ((made_at changes k).next_before ≡ (states k).next)
      can_back chained =
          let leads = chained.leads k _ (change_there k h) in (
            record {
              sides = rw (← chained.here) (sides_at rows (made_at changes k).middle (made_at changes k).end (made_at changes k).first (made_at changes k).middle (end_high k h) (rows_high k h) (middle_high k h) (middle_within k h) (states (k + 1)) (states k) (sides_back _ _ _ _ leads.sides));
              sound = chained.sound k low;
              room = chained.room k low;
            },
            leads.next_before,
          )

      pub can_on : AreChained (changes_in rows changes) m states k
          → CanWrite rows (made_at changes k).first (made_at changes k).middle (made_at changes k).middle (made_at changes k).end m (states (k + 1)) × ((made_at changes k).next_after ≡ (states (k + 1)).next)
      can_on chained =
          let leads = chained.leads k _ (change_there k h) in (
            record {
              sides = rw (← chained.here) (sides_at rows (made_at changes k).first (made_at changes k).middle (made_at changes k).middle (made_at changes k).end (middle_high k h) (middle_within k h) (end_high k h) (rows_high k h) (states k) (states (k + 1)) leads.sides);
              sound = chained.sound (k + 1) high;
              room = chained.room (k + 1) high;
            },
            leads.next_after,
          )

    -- ---- steps

    pub cost_next : (dim k : ℕ) → k < length changes → cost_to dim (changes_in rows changes) (k + 1) ≡ cost_to dim (changes_in rows changes) k + 7 * (dim + 1) * ((made_at changes k).middle - (made_at changes k).first + ((made_at changes k).end - (made_at changes k).middle))
    cost_next dim k h = cost_more dim (changes_in rows changes) k (change_in rows (made_at changes k)) (change_there k h) ∙ ap (λ n. cost_to dim (changes_in rows changes) k + 7 * (dim + 1) * n) long
      where
        long : rows_of (change_in rows (made_at changes k)) ≡ (made_at changes k).middle - (made_at changes k).first + ((made_at changes k).end - (made_at changes k).middle)
        long = ap₂ (λ a b. a + b) (range_long rows (made_at changes k).first (made_at changes k).middle (middle_high k h) (middle_within k h)) (range_long rows (made_at changes k).middle (made_at changes k).end (end_high k h) (rows_high k h))

-- ---- a map that was written

pub room_kept : (m m' : ArenaMap) (rows : Rows) → HasRoomOf m m' → HasRoomFor m rows → HasRoomFor m' rows
room_kept m m' rows room has = record { darts = omega (arith, has.darts, room.total); names = λ name live. rw room.reserved (has.names name live) }

pub moved : (changes : List Change) (m m' : ArenaMap) (states : ℕ → Rows) (k k' : ℕ) → AreChained changes m states k → HasRoomOf m m' → rows_in m' ≡ states k' → AreChained changes m' states k'
moved changes m m' states k k' chained room here = record {
  leads = chained.leads;
  sound = λ j h. rw room.schema (chained.sound j h);
  room = λ j h. room_kept m m' (states j) room (chained.room j h);
  here = sym here;
}

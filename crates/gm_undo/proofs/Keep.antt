-- The rows that an application changes, kept one after another.
use Rattle.std.proofs.Common.{◌≡◌, ◌≢◌, ℕ, ◌+◌, ◌-◌, ◌<◌, ◌≤◌, true, false, List, [], ◌∷◌, ◌++◌, length, set, Some, None, is_some, get_or, refl, sym, ap, subst, ◌∙◌, inl, inr, arith}
use Rattle.std.specs.FinMap.{get}
use Rattle.std.proofs.lemmas.Bool.{cases_eq, cases_lt, false≢true}
use Rattle.std.proofs.lemmas.List.{get_or_append_left, get_or-append-add, length_push, length-set}
use Rattle.gm_arena.specs.inner.ArenaMap.{ArenaMap, Dart, IsLiveName, name_at}
use Rattle.gm_arena.specs.declared.slot.Slot.{Slot}
use Rattle.gm_undo.specs.inner.Flat.{RowsOf, row_in, staying}
use Rattle.gm_undo.specs.inner.Kept.{KeptRow}
use Rattle.gm_undo.specs.inner.Keeping.{AreAddedKept, AreBehindKept, AreTouchedKept, HasMoreRows}
use Rattle.gm_undo.specs.inner.Writing.{AreOnce}
use Rattle.gm_undo.proofs.Ranges.{row_before, row_behind, row_marked, row_unmarked}

-- with one row more
abbrev pub pushed : RowsOf → KeptRow → RowsOf
pushed rows row = record rows { rows = rows.rows ++ row ∷ [] }

same_rows : (rows : RowsOf) → HasMoreRows rows rows
same_rows rows = record { labels = refl; width = refl; room = refl; long = omega arith }

more_rows : (old mid : RowsOf) (row : KeptRow) → HasMoreRows old mid → HasMoreRows old (pushed mid row)
more_rows old mid row more = record { labels = more.labels; width = more.width; room = more.room; long = omega (arith, more.long, length_push mid.rows row) }

-- ---- the touched darts, before

module _ (m : ArenaMap) (old : RowsOf) where
  pub touched_none : AreTouchedKept m [] old old
  touched_none = record {
    more = same_rows old;
    count = omega arith;
    before = λ k h. refl;
    rows = λ k h. absurd (omega (arith, h));
    names = λ k h. absurd (omega (arith, h));
    stays = λ k h. absurd (omega (arith, h));
  }

  pub touched_more : (slots : List Slot) (slot : Slot) (mid : RowsOf) (dart : Dart) → AreTouchedKept m slots old mid → get m.darts (name_at m slot.at) ≡ Some dart
      → AreTouchedKept m (slots ++ slot ∷ []) old (pushed mid (record { name = name_at m slot.at; stays = false; dart = dart }))
  touched_more slots slot mid dart kept is = record {
    more = more_rows old mid new kept.more;
    count = omega (arith, kept.count, length_push mid.rows new, length_push slots slot);
    before = λ k h. row_before mid.rows new k (omega (arith, h, kept.count)) ∙ kept.before k h;
    rows = λ k h. by_last k h (λ r. get m.darts r.name ≡ Some r.dart) (kept.rows k) (λ e. is);
    names = λ k h. by_last k h (λ r. r.name ≡ name_at m (get_or (slots ++ slot ∷ []) k (record { at = 0 })).at)
        (λ l. kept.names k l ∙ ap (λ (s : Slot). name_at m s.at) (sym (get_or_append_left slots (slot ∷ []) (record { at = 0 }) k l)))
        (λ e. ap (λ (s : Slot). name_at m s.at) (sym (ap (λ j. get_or (slots ++ slot ∷ []) j (record { at = 0 })) (let f : k ≡ length slots + 0 = omega (arith, e) in f) ∙ get_or-append-add slots (slot ∷ []) 0 (record { at = 0 }))));
    stays = λ k h. by_last k h (λ r. r.stays ≡ false) (kept.stays k) (λ e. refl);
  }
    where
      new : KeptRow
      new = record { name = name_at m slot.at; stays = false; dart = dart }

      by_last : (k : ℕ) → k < length (slots ++ slot ∷ []) → (P : KeptRow → Type 0) → (k < length slots → P (row_in mid.rows (length old.rows + k))) → (k ≡ length slots → P new) → P (row_in (mid.rows ++ new ∷ []) (length old.rows + k))
      by_last k h P earlier last = elim (cases_lt k (length slots)) [
        | inl l ↦ subst P (sym (row_before mid.rows new (length old.rows + k) (omega (arith, l, kept.count)))) (earlier l)
        | inr l ↦
            let e : k ≡ length slots = omega (arith, l, h, length_push slots slot) in
            subst P (sym (row_behind mid.rows new (length old.rows + k) (omega (arith, e, kept.count)))) (last e)
      ]

-- ---- the added darts

module _ (m : ArenaMap) (first : ℕ) (old : RowsOf) where
  pub added_none : AreAddedKept m first 0 old old
  added_none = record {
    more = same_rows old;
    count = omega arith;
    before = λ k h. refl;
    names = λ k h. absurd (omega (arith, h));
    rows = λ k h. absurd (omega (arith, h));
    stays = λ k h. absurd (omega (arith, h));
  }

  pub added_more : (added : ℕ) (mid : RowsOf) (name : ℕ) (dart : Dart) → AreAddedKept m first added old mid → name ≡ first + added → get m.darts (first + added) ≡ Some dart
      → AreAddedKept m first (added + 1) old (pushed mid (record { name = name; stays = false; dart = dart }))
  added_more added mid name dart kept name_is is = record {
    more = more_rows old mid new kept.more;
    count = omega (arith, kept.count, length_push mid.rows new);
    before = λ k h. row_before mid.rows new k (omega (arith, h, kept.count)) ∙ kept.before k h;
    names = λ k h. by_last k h (λ r. r.name ≡ first + k) (kept.names k) (λ e. name_is ∙ ap (λ j. first + j) (sym e));
    rows = λ k h. by_last k h (λ r. get m.darts (first + k) ≡ Some r.dart) (kept.rows k) (λ e. ap (λ j. get m.darts (first + j)) e ∙ is);
    stays = λ k h. by_last k h (λ r. r.stays ≡ false) (kept.stays k) (λ e. refl);
  }
    where
      new : KeptRow
      new = record { name = name; stays = false; dart = dart }

      by_last : (k : ℕ) → k < added + 1 → (P : KeptRow → Type 0) → (k < added → P (row_in mid.rows (length old.rows + k))) → (k ≡ added → P new) → P (row_in (mid.rows ++ new ∷ []) (length old.rows + k))
      by_last k h P earlier last = elim (cases_lt k added) [
        | inl l ↦ subst P (sym (row_before mid.rows new (length old.rows + k) (omega (arith, l, kept.count)))) (earlier l)
        | inr l ↦
            let e : k ≡ added = omega (arith, l, h) in
            subst P (sym (row_behind mid.rows new (length old.rows + k) (omega (arith, e, kept.count)))) (last e)
      ]

-- ---- the touched darts that are still there

module _ (m : ArenaMap) (first end : ℕ) (old : RowsOf) where
  -- as `AreBehindKept`, of the first rows alone
  pub record AreBehindTo (index : ℕ) (new : RowsOf) : Type 0 where
    pub more : HasMoreRows old new
    pub few : length new.rows ≤ end + (index - first)
    pub before : (k : ℕ) → k < first → row_in new.rows k ≡ row_in old.rows k
    pub names : (k : ℕ) → k < end → (row_in new.rows k).name ≡ (row_in old.rows k).name
    pub darts : (k : ℕ) → k < end → (row_in new.rows k).dart ≡ (row_in old.rows k).dart
    pub later : (k : ℕ) → index ≤ k → k < end → (row_in new.rows k).stays ≡ (row_in old.rows k).stays
    pub stays : (k : ℕ) → first ≤ k → k < index → (row_in old.rows k).stays ≡ false → (row_in new.rows k).stays ≡ is_some (get m.darts (row_in old.rows k).name)
    pub rows : (j : ℕ) → end ≤ j → j < length new.rows → get m.darts (row_in new.rows j).name ≡ Some (row_in new.rows j).dart
    pub stay : (j : ℕ) → end ≤ j → j < length new.rows → (row_in new.rows j).stays ≡ true
    pub from : (j : ℕ) → end ≤ j → j < length new.rows → (k : ℕ) × (first ≤ k) × (k < index) × ((row_in old.rows k).name ≡ (row_in new.rows j).name)
    pub all : (k : ℕ) → first ≤ k → k < index → IsLiveName m (row_in old.rows k).name → (j : ℕ) × (end ≤ j) × (j < length new.rows) × ((row_in new.rows j).name ≡ (row_in old.rows k).name)
    pub once : AreOnce old.rows first end → AreOnce new.rows end (length new.rows)

  pub behind_none : end ≡ length old.rows → AreBehindTo first old
  behind_none is = record {
    more = same_rows old;
    few = omega (arith, is);
    before = λ k h. refl;
    names = λ k h. refl;
    darts = λ k h. refl;
    later = λ k l h. refl;
    stays = λ k l h. absurd (omega (arith, l, h));
    rows = λ j l h. absurd (omega (arith, l, h, is));
    stay = λ j l h. absurd (omega (arith, l, h, is));
    from = λ j l h. absurd (omega (arith, l, h, is));
    all = λ k l h. absurd (omega (arith, l, h));
    once = λ once k l a b. absurd (omega (arith, a.0, a.1, is));
  }

  pub behind_all : (new : RowsOf) → AreBehindTo end new → AreBehindKept m first end old new
  behind_all new kept = record {
    more = kept.more;
    few = kept.few;
    before = kept.before;
    names = λ k l h. kept.names k h;
    darts = λ k l h. kept.darts k h;
    stays = kept.stays;
    rows = kept.rows;
    stay = kept.stay;
    from = kept.from;
    all = kept.all;
    once = kept.once;
  }

  module _ (index : ℕ) (mid : RowsOf) (low : first ≤ index) (high : index < end) (is_end : end ≡ length old.rows) (kept : AreBehindTo index mid) where
    -- the next dart isn't there any more
    pub behind_gone : get m.darts (row_in mid.rows index).name ≡ None → AreBehindTo (index + 1) mid
    behind_gone gone = record {
      more = kept.more;
      few = omega (arith, kept.few, low);
      before = kept.before;
      names = kept.names;
      darts = kept.darts;
      later = λ k l h. kept.later k (omega (arith, l)) h;
      stays = λ k l h was. elim (cases_eq k index) [
        | inl e ↦ rw e (kept.later index (omega arith) high ∙ (rw e at was) ∙ sym (ap is_some none))
        | inr apart ↦ kept.stays k l (omega (arith, h, apart)) was
      ];
      rows = kept.rows;
      stay = kept.stay;
      from = λ j l h. let k = kept.from j l h in (k.0, k.1, omega (arith, k.2), k.3);
      all = λ k l h live. elim (cases_eq k index) [
        | inl e ↦ absurd (false≢true (rw none at (rw e at live)))
        | inr apart ↦ kept.all k l (omega (arith, h, apart)) live
      ];
      once = kept.once;
    }
      where
        none : get m.darts (row_in old.rows index).name ≡ None
        none = ap (get m.darts) (sym (kept.names index high)) ∙ gone

    -- the next dart is still there
    module _ (name : ℕ) (dart : Dart) (name_is : name ≡ (row_in mid.rows index).name) (here : get m.darts name ≡ Some dart) where
      abbrev new : KeptRow
      new = record { name = name; stays = true; dart = dart }

      abbrev marked : List KeptRow
      marked = set mid.rows index (staying (row_in mid.rows index))

      abbrev after : RowsOf
      after = record mid { rows = marked ++ new ∷ [] }

      marked_long : length marked ≡ length mid.rows
      marked_long = length-set mid.rows index (staying (row_in mid.rows index))

      mid_long : length old.rows ≤ length mid.rows
      mid_long = kept.more.long

      after_long : length after.rows ≡ length mid.rows + 1
      after_long = length_push marked new ∙ ap (λ n. n + 1) marked_long

      other : (k : ℕ) → k ≢ index → k < length mid.rows → row_in after.rows k ≡ row_in mid.rows k
      other k apart h = row_before marked new k (omega (arith, h, marked_long)) ∙ row_unmarked mid.rows index k apart

      own : row_in after.rows index ≡ staying (row_in mid.rows index)
      own = row_before marked new index (omega (arith, high, is_end, mid_long, marked_long)) ∙ row_marked mid.rows index (omega (arith, high, is_end, mid_long))

      last : (j : ℕ) → j ≡ length mid.rows → row_in after.rows j ≡ new
      last j e = row_behind marked new j (omega (arith, e, marked_long))

      by_index : (k : ℕ) → k < end → (P : KeptRow → Type 0) → P (row_in mid.rows k) → (k ≡ index → P (staying (row_in mid.rows index))) → P (row_in after.rows k)
      by_index k h P earlier at = elim (cases_eq k index) [
        | inl e ↦ subst (λ i. P (row_in after.rows i)) (sym e) (subst P (sym own) (at e))
        | inr apart ↦ subst P (sym (other k apart (omega (arith, h, is_end, mid_long)))) earlier
      ]

      by_last : (j : ℕ) → end ≤ j → j < length after.rows → (P : KeptRow → Type 0) → (j < length mid.rows → P (row_in mid.rows j)) → (j ≡ length mid.rows → P new) → P (row_in after.rows j)
      by_last j l h P earlier at = elim (cases_lt j (length mid.rows)) [
        | inl less ↦ subst P (sym (other j (λ e. omega (arith, e, l, high)) less)) (earlier less)
        | inr more ↦ let e : j ≡ length mid.rows = omega (arith, h, after_long, more) in subst P (sym (last j e)) (at e)
      ]

      name_old : name ≡ (row_in old.rows index).name
      name_old = name_is ∙ kept.names index high

      pub behind_more : AreBehindTo (index + 1) after
      behind_more = record {
        more = record { labels = kept.more.labels; width = kept.more.width; room = kept.more.room; long = omega (arith, mid_long, after_long) };
        few = omega (arith, kept.few, low, after_long);
        before = λ k h. other k (λ e. omega (arith, e, h, low)) (omega (arith, h, low, high, is_end, mid_long)) ∙ kept.before k h;
        names = λ k h. by_index k h (λ r. r.name ≡ (row_in old.rows k).name) (kept.names k h) (λ e. kept.names index high ∙ ap (λ i. (row_in old.rows i).name) (sym e));
        darts = λ k h. by_index k h (λ r. r.dart ≡ (row_in old.rows k).dart) (kept.darts k h) (λ e. kept.darts index high ∙ ap (λ i. (row_in old.rows i).dart) (sym e));
        later = λ k l h. ap (λ (r : KeptRow). r.stays) (other k (λ e. omega (arith, e, l)) (omega (arith, h, is_end, mid_long))) ∙ kept.later k (omega (arith, l)) h;
        stays = λ k l h was. elim (cases_eq k index) [
          | inl e ↦ rw e (ap (λ (r : KeptRow). r.stays) own ∙ sym (ap is_some (ap (get m.darts) (sym name_old) ∙ here)))
          | inr apart ↦ ap (λ (r : KeptRow). r.stays) (other k apart (omega (arith, h, apart, high, is_end, mid_long))) ∙ kept.stays k l (omega (arith, h, apart)) was
        ];
        rows = λ j l h. by_last j l h (λ r. get m.darts r.name ≡ Some r.dart) (kept.rows j l) (λ e. here);
        stay = λ j l h. by_last j l h (λ r. r.stays ≡ true) (kept.stay j l) (λ e. refl);
        from = λ j l h. by_last j l h (λ r. (k : ℕ) × (first ≤ k) × (k < index + 1) × ((row_in old.rows k).name ≡ r.name))
            (λ less. let k = kept.from j l less in (k.0, k.1, omega (arith, k.2), k.3))
            (λ e. (index, low, omega arith, sym name_old));
        all = λ k l h live. elim (cases_eq k index) [
          | inl e ↦ (length mid.rows, omega (arith, is_end, mid_long), omega (arith, after_long), ap (λ (r : KeptRow). r.name) (last (length mid.rows) refl) ∙ name_old ∙ ap (λ i. (row_in old.rows i).name) (sym e))
          | inr apart ↦
              let j = kept.all k l (omega (arith, h, apart)) live in
              (j.0, j.1, omega (arith, j.2, after_long), ap (λ (r : KeptRow). r.name) (other j.0 (λ e. omega (arith, e, j.1, high)) j.2) ∙ j.3)
        ];
        once = λ was j l a b same. elim (cases_lt j (length mid.rows)) [
          | inl less ↦ elim (cases_lt l (length mid.rows)) [
            | inl less' ↦
                kept.once was j l (a.0, less) (b.0, less')
                (ap (λ (r : KeptRow). r.name) (sym (other j (λ e. omega (arith, e, a.0, high)) less)) ∙ same ∙ ap (λ (r : KeptRow). r.name) (other l (λ e. omega (arith, e, b.0, high)) less'))
            | inr more ↦
                let e : l ≡ length mid.rows = omega (arith, b.1, after_long, more) in
                absurd (clash was j a.0 less (ap (λ (r : KeptRow). r.name) (sym (other j (λ f. omega (arith, f, a.0, high)) less)) ∙ same ∙ ap (λ (r : KeptRow). r.name) (last l e)))
          ]
          | inr more ↦
              let e : j ≡ length mid.rows = omega (arith, a.1, after_long, more) in
              elim (cases_lt l (length mid.rows)) [
                | inl less' ↦ absurd (clash was l b.0 less' (ap (λ (r : KeptRow). r.name) (sym (other l (λ f. omega (arith, f, b.0, high)) less')) ∙ sym same ∙ ap (λ (r : KeptRow). r.name) (last j e)))
                | inr more' ↦ omega (arith, e, b.1, after_long, more')
              ]
        ];
      }
        where
          -- an earlier row has another name
          clash : AreOnce old.rows first end → (j : ℕ) → end ≤ j → j < length mid.rows → (row_in mid.rows j).name ≡ name → ⊥
          clash was j l less same =
              let k = kept.from j l less in
              let e = was k.0 index (k.1, omega (arith, k.2, high)) (low, high) (k.3 ∙ same ∙ name_old) in
              omega (arith, e, k.2)

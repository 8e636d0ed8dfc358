-- One side of a change written in the place of the other, stage by stage.
use Rattle.std.proofs.Common.{◌≡◌, ℕ, ◌+◌, ◌*◌, ◌-◌, ◌<◌, ◌≤◌, true, false, Bool, List, Option, Some, None, IsSome, cond, refl, sym, ap, subst, ◌∙◌, inl, inr, arith}
use Rattle.std.specs.FinMap.{get}
use Rattle.std.proofs.lemmas.Bool.{false≢true}
use Rattle.std.proofs.lemmas.List.Elements.{All-get_or}
use Rattle.std.proofs.lemmas.Nat.{mul-le}
use Rattle.gm_arena.specs.inner.ArenaMap.{ArenaMap, IsLiveName, alpha}
use Rattle.gm_arena.specs.inner.Edits.{IsAlone, free_dart}
use Rattle.gm_arena.proofs.FilledLemmas.{same_maps}
use Rattle.gm_arena.proofs.InsideLemmas.{is_some_at, none_of, some_of}
use Rattle.gm_arena.proofs.MapLemmas.{alpha-alike}
use Rattle.gm_undo.specs.inner.Flat.{row_in}
use Rattle.gm_undo.specs.inner.Kept.{KeptRow}
use Rattle.gm_undo.specs.inner.Standing.{Rows, IsDartIn, IsGoodDart, rows_in}
use Rattle.gm_undo.specs.inner.Writing.{CanCome, CanGo, CanLink, CanWrite, HasRoomOf, IsAddedRow, IsAmong, IsClearedRow, IsFreeRow, IsOutside, IsOwnRow, IsWritten}
use Rattle.gm_undo.proofs.Written.{find_row}

by_stays : {P : Type 0} (b : Bool) → (b ≡ true → P) → (b ≡ false → P) → P
by_stays true at_true at_false = at_true refl
by_stays false at_true at_false = at_false refl

no_none : {A : Type 0} (o : Option A) → o ≡ None → IsSome o → ⊥
no_none o none is = false≢true (rw none at is)

module _ (rows : List KeptRow) (fs fe ts te : ℕ) (m0 : ArenaMap) (there : Rows) (can : CanWrite rows fs fe ts te m0 there) where
  -- ---- the old rows are free

  module _ (m1 : ArenaMap) (freed : IsWritten (IsFreeRow m0.schema.dim) rows fs fe m0 m1) (live1 : (d : ℕ) → IsLiveName m1 d → IsLiveName m0 d) (schema1 : m1.schema ≡ m0.schema) where
    -- a dart with no row leads where it leads there
    leads_there : (other label : ℕ) → IsLiveName m1 other → IsOutside rows fs fe other → IsOutside rows ts te other → label ≤ m0.schema.dim → IsDartIn there (alpha m1 label other)
    leads_there other label live outside outside' within =
        let d = some_of (get m0.darts other) (live1 other live) in
        let good = can.sound.dart other d.0 (can.sides.elsewhere other outside outside' ∙ d.1) in
        let next : alpha m1 label other ≡ alpha m0 label other = alpha-alike m0 m1 label other (freed.others other outside) in
        rw next (rw d.1 (All-get_or (IsDartIn there) d.0.alphas label other (omega (arith, good.whole, within)) good.neighbours))

    pub can_go : CanGo rows fs fe m1
    can_go k among goes = ((freed.own k among).0, alone)
      where
        alone : IsAlone m1 (row_in rows k).name
        alone other label live apart within leads = elim (find_row rows fs fe other) [
          | inl (j, amongj, e) ↦
              let own : alpha m1 label (row_in rows j).name ≡ (row_in rows j).name = (freed.own j amongj).1 label (rw (ap (λ s. s.dim) schema1) at within) in
              apart (e ∙ sym own ∙ ap (alpha m1 label) (sym e) ∙ leads)
          | inr outside ↦ elim (find_row rows ts te other) [
            | inl (j, amongj, e) ↦ can.sides.to_lasts j amongj (subst (IsLiveName m0) e (live1 other live)) (subst (IsOutside rows fs fe) e outside)
            | inr outside' ↦
                let in_there : IsDartIn there (row_in rows k).name = subst (IsDartIn there) leads (leads_there other label live outside outside' (rw (ap (λ s. s.dim) schema1) at within)) in
                no_none (get there.darts (row_in rows k).name) (can.sides.from.goes k among goes) in_there
          ]
        ]

    -- ---- the darts that go are gone

    module _ (m2 : ArenaMap) (cleared : IsWritten (IsClearedRow m1) rows fs fe m1 m2) (room2 : HasRoomOf m1 m2) (total1 : m1.count + m1.spare ≡ m0.count + m0.spare) (reserved1 : m1.reserved ≡ m0.reserved) where
      schema2 : m2.schema ≡ m0.schema
      schema2 = room2.schema ∙ schema1

      -- a row's dart that goes isn't there any more
      gone2 : (k : ℕ) → IsAmong fs fe k → (row_in rows k).stays ≡ false → get m2.darts (row_in rows k).name ≡ None
      gone2 k among goes = cleared.own k among ∙ ap (λ b. cond b (get m1.darts (row_in rows k).name) None) goes

      untouched2 : (d : ℕ) → IsOutside rows fs fe d → get m2.darts d ≡ get m0.darts d
      untouched2 d outside = cleared.others d outside ∙ freed.others d outside

      within2 : (d : ℕ) → IsLiveName m2 d → IsDartIn there d
      within2 d live = elim (find_row rows fs fe d) [
        | inl (k, among, e) ↦
            subst (IsDartIn there) (sym e) (can.sides.from.lasts k among (λ goes. no_none (get m2.darts (row_in rows k).name) (gone2 k among goes) (subst (IsLiveName m2) e live)))
        | inr outside ↦ elim (find_row rows ts te d) [
          | inl (k, among, e) ↦ subst (IsDartIn there) (sym e) (is_some_at (get there.darts (row_in rows k).name) (row_in rows k).dart (can.sides.to.rows_are k among))
          | inr outside' ↦ rw (can.sides.elsewhere d outside outside') (rw (untouched2 d outside) at live)
        ]
      ]

      -- a row's dart that is there too has stayed
      lasting2 : (j : ℕ) → IsAmong fs fe j → IsDartIn there (row_in rows j).name → IsLiveName m2 (row_in rows j).name
      lasting2 j among lasts = by_stays (row_in rows j).stays
          (λ stays. rw (cleared.own j among ∙ ap (λ b. cond b (get m1.darts (row_in rows j).name) None) stays) (freed.own j among).0)
          (λ goes. absurd (no_none (get there.darts (row_in rows j).name) (can.sides.from.goes j among goes) lasts))

      good : (k : ℕ) → IsAmong ts te k → IsGoodDart m0.schema there (row_in rows k).name (row_in rows k).dart
      good k among = can.sound.dart (row_in rows k).name (row_in rows k).dart (can.sides.to.rows_are k among)

      in_there : (k : ℕ) → IsAmong ts te k → IsDartIn there (row_in rows k).name
      in_there k among = is_some_at (get there.darts (row_in rows k).name) (row_in rows k).dart (can.sides.to.rows_are k among)

      pub can_come : CanCome rows ts te m2 there
      can_come = record {
        new = λ k among comes.
            let none : get m0.darts (row_in rows k).name ≡ None = can.sides.to.goes k among comes in
            let outside : IsOutside rows fs fe (row_in rows k).name =
            λ j amongj e. no_none (get m0.darts (row_in rows k).name) none (subst (IsLiveName m0) (sym e) (is_some_at (get m0.darts (row_in rows j).name) (row_in rows j).dart (can.sides.from.rows_are j amongj))) in
            untouched2 (row_in rows k).name outside ∙ none;
        values = λ k among. rw schema2 (good k among).valued;
        among = in_there;
        within = within2;
        room = record { darts = omega (arith, can.room.darts, room2.total, total1); names = λ name lives. rw (room2.reserved ∙ reserved1) (can.room.names name lives) };
      }

      -- ---- the darts that come have come

      module _ (m3 : ArenaMap) (added : IsWritten (IsAddedRow m2) rows ts te m2 m3) (room3 : HasRoomOf m2 m3) where
        schema3 : m3.schema ≡ m0.schema
        schema3 = room3.schema ∙ schema2

        live3 : (d : ℕ) → IsDartIn there d → IsLiveName m3 d
        live3 d lives = elim (find_row rows ts te d) [
          | inl (k, among, e) ↦
              subst (IsLiveName m3) (sym e) (by_stays (row_in rows k).stays
              (λ stays. rw (added.own k among ∙ ap (λ b. cond b (get m2.darts (row_in rows k).name) (Some (free_dart m2.schema.dim (row_in rows k).name (row_in rows k).dart.values))) stays)
              (stayed k among (can.sides.to.lasts k among (λ comes. false≢true (sym comes ∙ stays)))))
              (λ comes. is_some_at (get m3.darts (row_in rows k).name) (free_dart m2.schema.dim (row_in rows k).name (row_in rows k).dart.values) (added.own k among ∙ ap (λ b. cond b (get m2.darts (row_in rows k).name) (Some (free_dart m2.schema.dim (row_in rows k).name (row_in rows k).dart.values))) comes)))
          | inr outside' ↦ elim (find_row rows fs fe d) [
            | inl (j, among, e) ↦ absurd (can.sides.from_lasts j among (subst (IsDartIn there) e lives) (subst (IsOutside rows ts te) e outside'))
            | inr outside ↦ rw (added.others d outside' ∙ untouched2 d outside ∙ sym (can.sides.elsewhere d outside outside')) lives
          ]
        ]
          where
            stayed : (k : ℕ) → IsAmong ts te k → IsDartIn (rows_in m0) (row_in rows k).name → IsLiveName m2 (row_in rows k).name
            stayed k among was = elim (find_row rows fs fe (row_in rows k).name) [
              | inl (j, amongj, e) ↦ subst (IsLiveName m2) (sym e) (lasting2 j amongj (subst (IsDartIn there) e (in_there k among)))
              | inr outside ↦ absurd (can.sides.to_lasts k among was outside)
            ]

        pub can_link : CanLink rows ts te m3
        can_link = record {
          live = λ k among. live3 (row_in rows k).name (in_there k among);
          whole = λ k among. rw schema3 (good k among).whole;
          neighbours = λ k among i d h. live3 _ ((good k among).neighbours i d h);
          values = λ k among. rw schema3 (good k among).valued;
        }

        -- ---- all is written

        pub all_written : (m4 : ArenaMap) → IsWritten IsOwnRow rows ts te m3 m4 → m4.darts ≡ there.darts
        all_written m4 linked = same_maps m4.darts there.darts (λ d. elim (find_row rows ts te d) [
          | inl (k, among, e) ↦ rw e (linked.own k among ∙ sym (can.sides.to.rows_are k among))
          | inr outside' ↦ elim (find_row rows fs fe d) [
            | inl (j, among, e) ↦
                let no : IsDartIn there (row_in rows j).name → ⊥ = λ lives. can.sides.from_lasts j among lives (subst (IsOutside rows ts te) e outside') in
                let gone : get there.darts (row_in rows j).name ≡ None = none_of (get there.darts (row_in rows j).name) no in
                let here : get m2.darts (row_in rows j).name ≡ None = by_stays (row_in rows j).stays
                (λ stays. absurd (no (can.sides.from.lasts j among (λ goes. false≢true (sym goes ∙ stays)))))
                (λ goes. gone2 j among goes) in
                linked.others d outside' ∙ added.others d outside' ∙ ap (get m2.darts) e ∙ here ∙ sym gone ∙ ap (get there.darts) (sym e)
            | inr outside ↦ linked.others d outside' ∙ added.others d outside' ∙ untouched2 d outside ∙ sym (can.sides.elsewhere d outside outside')
          ]
        ])

-- ---- steps

pub one_more : (wide index start : ℕ) → start ≤ index → wide * (index + 1 - start) ≡ wide * (index - start) + wide
one_more wide index start low = ap (λ n. wide * n) (let is : index + 1 - start ≡ (index - start) + 1 = omega (arith, low) in is) ∙ more wide (index - start)
  where
    more : (w n : ℕ) → w * (n + 1) ≡ w * n + w
    more w n = grind arith

-- no row is done yet
pub none_more : (begun wide start : ℕ) → begun ≡ begun + wide * (start - start)
none_more begun wide start = let none : start - start ≡ 0 = omega arith in rw none (omega arith)

-- and with one row more
pub most_more : (wide index start begun before after : ℕ) → start ≤ index → before ≤ begun + wide * (index - start) → after ≤ before + wide → after ≤ begun + wide * (index + 1 - start)
most_more wide index start begun before after low most cost = omega (arith, one_more wide index start low, most, cost)

pub cost_rises : (begun freed removed added linked free link : ℕ) → freed ≡ begun + free → freed ≤ removed → removed ≤ added → linked ≡ added + link → begun ≤ linked
cost_rises begun freed removed added linked free link first second third last = omega arith

pub cost_within : (dim wide f t s0 s1 s2 s3 s4 : ℕ) → 0 < dim → wide ≤ 8 → s1 ≡ s0 + (dim + 2) * f → s2 ≤ s1 + 2 * f → s3 ≤ s2 + t → s4 ≡ s3 + (2 * (dim + 1) + wide + 1) * t → s4 ≤ s0 + 7 * (dim + 1) * (f + t)
cost_within dim wide f t s0 s1 s2 s3 s4 some few a b c d =
    let all : 7 * (dim + 1) * (f + t) ≡ 7 * (dim + 1) * f + 7 * (dim + 1) * t = grind arith in
    let own : (dim + 4) * f ≡ (dim + 2) * f + 2 * f = grind arith in
    let other : (2 * (dim + 1) + wide + 2) * t ≡ (2 * (dim + 1) + wide + 1) * t + t = grind arith in
    let from : (dim + 4) * f ≤ 7 * (dim + 1) * f = mul-le (dim + 4) f (7 * (dim + 1)) f (omega arith) (omega arith) in
    let to : (2 * (dim + 1) + wide + 2) * t ≤ 7 * (dim + 1) * t = mul-le (2 * (dim + 1) + wide + 2) t (7 * (dim + 1)) t (omega (arith, some, few)) (omega arith) in
    omega (arith, a, b, c, d, all, own, other, from, to)

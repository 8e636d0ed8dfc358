-- Rows that are written one after another.
use Rattle.std.proofs.Common.{◌≡◌, ◌≢◌, ℕ, zero, suc, ◌+◌, ◌<◌, ◌≤◌, ◌⊎◌, true, false, Bool, List, Option, None, cond, refl, sym, ap, subst, ◌∙◌, inl, inr, arith}
use Rattle.std.specs.FinMap.{get}
use Rattle.std.proofs.lemmas.Bool.{cases_eq, cases_lt, false≢true}
use Rattle.gm_arena.specs.inner.ArenaMap.{ArenaMap, Dart, IsLiveName}
use Rattle.gm_arena.specs.inner.Edits.{IsAlone}
use Rattle.gm_arena.specs.inner.Lawful.{IsLawful}
use Rattle.gm_arena.proofs.MapLemmas.{alpha-alike}
use Rattle.gm_undo.specs.inner.Flat.{row_in}
use Rattle.gm_undo.specs.inner.Kept.{KeptRow}
use Rattle.gm_undo.specs.inner.Standing.{Rows, IsDartIn}
use Rattle.gm_undo.specs.inner.Writing.{AreOnce, CanCome, HasRoomOf, IsAddedRow, IsAmong, IsClearedRow, IsOutside, IsWritten}
use Rattle.gm_undo.proofs.Counts.{fewer}

-- the dart is that of a row, or of none
pub find_row : (rows : List KeptRow) (start end d : ℕ) → ((k : ℕ) × IsAmong start end k × (d ≡ (row_in rows k).name)) ⊎ IsOutside rows start end d
find_row rows start zero d = inr (λ k among e. omega (arith, among.1))
find_row rows start (suc end) d = elim (find_row rows start end d) [
  | inl (k, among, e) ↦ inl (k, (among.0, omega (arith, among.1)), e)
  | inr outside ↦ elim (cases_eq d (row_in rows end).name) [
    | inl e ↦ elim (cases_lt end start) [
      | inl before ↦ inr (λ k among. absurd (omega (arith, among.0, among.1, before)))
      | inr behind ↦ inl (end, (behind, omega arith), e)
    ]
    | inr apart ↦ inr (λ k among e. elim (cases_eq k end) [
      | inl last ↦ apart (e ∙ ap (λ j. (row_in rows j).name) last)
      | inr earlier ↦ outside k (among.0, omega (arith, among.1)) e
    ])
  ]
]

module _ (Holds : KeptRow → Option Dart → Type 0) (rows : List KeptRow) (start : ℕ) (old : ArenaMap) where
  pub written_none : IsWritten Holds rows start start old old
  written_none = record { own = λ k among. absurd (omega (arith, among.0, among.1)); others = λ d outside. refl }

  -- the next row's dart isn't written yet
  pub next_outside : (end index : ℕ) → AreOnce rows start end → start ≤ index → index < end → IsOutside rows start index (row_in rows index).name
  next_outside end index once low high k among e = let same = once index k (low, high) (among.0, omega (arith, among.1, high)) e in omega (arith, same, among.1)

  pub written_more : (end index : ℕ) (m m' : ArenaMap) → AreOnce rows start end → start ≤ index → index < end → IsWritten Holds rows start index old m
      → ((d : ℕ) → d ≢ (row_in rows index).name → get m'.darts d ≡ get m.darts d) → Holds (row_in rows index) (get m'.darts (row_in rows index).name) → IsWritten Holds rows start (index + 1) old m'
  written_more end index m m' once low high written others own = record {
    own = λ k among. elim (cases_eq k index) [
      | inl e ↦ subst (λ j. Holds (row_in rows j) (get m'.darts (row_in rows j).name)) (sym e) own
      | inr earlier ↦
          let apart : (row_in rows k).name ≢ (row_in rows index).name = λ e. earlier (once k index (among.0, omega (arith, among.1, high)) (low, high) e) in
          subst (Holds (row_in rows k)) (sym (others (row_in rows k).name apart)) (written.own k (among.0, omega (arith, among.1, earlier)))
    ];
    others = λ d outside. others d (outside index (low, omega arith)) ∙ written.others d (λ k among. outside k (among.0, omega (arith, among.1)));
  }

if_true : {A : Type 0} (b : Bool) (x y : A) → b ≡ true → cond b x y ≡ x
if_true b x y e = ap (λ c. cond c x y) e

-- ---- rooms

pub same_room : (m : ArenaMap) → HasRoomOf m m
same_room m = record { schema = refl; reserved = refl; total = refl }

pub room_more : (old m m' : ArenaMap) → HasRoomOf old m → HasRoomOf m m' → HasRoomOf old m'
room_more old m m' a b = record { schema = b.schema ∙ a.schema; reserved = b.reserved ∙ a.reserved; total = b.total ∙ a.total }

-- ---- darts that go

module _ (rows : List KeptRow) (start index : ℕ) (old m : ArenaMap) (cleared : IsWritten (IsClearedRow old) rows start index old m) where
  -- who is still live is as he was
  pub still_there : (d : ℕ) → IsLiveName m d → get m.darts d ≡ get old.darts d
  still_there d live = elim (find_row rows start index d) [
    | inl (k, among, e) ↦ rw e (by k (row_in rows k).stays refl (cleared.own k among) (subst (IsLiveName m) e live))
    | inr outside ↦ cleared.others d outside
  ]
    where
      by : (k : ℕ) (stays : Bool) → (row_in rows k).stays ≡ stays → IsClearedRow old (row_in rows k) (get m.darts (row_in rows k).name) → IsLiveName m (row_in rows k).name → get m.darts (row_in rows k).name ≡ get old.darts (row_in rows k).name
      by k true s own live = own ∙ ap (λ b. cond b (get old.darts (row_in rows k).name) None) s
      by k false s own live =
          let gone : get m.darts (row_in rows k).name ≡ None = own ∙ ap (λ b. cond b (get old.darts (row_in rows k).name) None) s in
          absurd (false≢true (rw gone at live))

  pub still_alone : (name : ℕ) → m.schema ≡ old.schema → IsAlone old name → IsAlone m name
  still_alone name schema alone other label live apart within leads =
      let same = still_there other live in
      alone other label (rw same at live) apart (rw schema at within) (sym (alpha-alike old m label other same) ∙ leads)

-- ---- darts that come

module _ (rows : List KeptRow) (start end index : ℕ) (old m : ArenaMap) (there : Rows) (once : AreOnce rows start end) (low : start ≤ index) (high : index < end) (can : CanCome rows start end old there)
    (added : IsWritten (IsAddedRow old) rows start index old m) (room : HasRoomOf old m) (lawful : IsLawful m) where
  name : ℕ
  name = (row_in rows index).name

  pub unadded : get m.darts (row_in rows index).name ≡ get old.darts (row_in rows index).name
  unadded = added.others (row_in rows index).name (next_outside (IsAddedRow old) rows start old end index once low high)

  within : (d : ℕ) → IsLiveName m d → IsDartIn there d
  within d live = elim (find_row rows start index d) [
    | inl (k, among, e) ↦ subst (IsDartIn there) (sym e) (can.among k (among.0, omega (arith, among.1, high)))
    | inr outside ↦ can.within d (rw (added.others d outside) at live)
  ]

  pub some_spare : (row_in rows index).stays ≡ false → 0 < m.spare
  some_spare comes =
      let none : get m.darts (row_in rows index).name ≡ None = unadded ∙ can.new index (low, high) comes in
      let less = fewer m (record m { darts = there.darts }) (row_in rows index).name within (can.among index (low, high)) (λ live. false≢true (rw none at live)) in
      omega (arith, less, can.room.darts, room.total, lawful.counted)

  pub has_name : (row_in rows index).name < m.reserved
  has_name = rw room.reserved (can.room.names (row_in rows index).name (can.among index (low, high)))

-- What is left where darts at distinct slots are removed one after another.
use Rattle.std.proofs.Common.{◌≡◌, ◌≢◌, ℕ, ◌+◌, ◌-◌, List, [], ◌∷◌, length, None, unwrap_or, refl, sym, ap, ◌∙◌, subst, inl, inr, arith}
use Rattle.std.specs.FinMap.{get}
use Rattle.std.specs.List.{Contains}
use Rattle.gm_arena.specs.declared.slot.Slot.{Slot}
use Rattle.gm_arena.specs.inner.ArenaMap.{ArenaMap, IsLiveSlot, name_at}
use Rattle.gm_arena.specs.inner.Edits.{IsAlone}
use Rattle.gm_arena.proofs.MapLemmas.{get-without_dart_same, get-without_dart_other, alpha-without_dart_other, slots-without_dart_other, IsLiveName-without_dart}
use Rattle.std.proofs.lemmas.Bool.{cases_eq}
use Rattle.gm_commit.specs.inner.EditLists.{AreDistinct}
use Rattle.gm_commit.specs.inner.WrittenMap.{AreWhole, CanRemove, without_slot, without_darts}
use Rattle.gm_commit.proofs.ListMembers.{contains_first, contains_later, contains_either, contains_none}
use Rattle.gm_commit.proofs.on_commit.WholeDarts.{whole_without}

-- a later slot keeps its dart
later_slot : (m : ArenaMap) (slot other : Slot) → other.at ≢ slot.at → get (without_slot m slot).slots other.at ≡ get m.slots other.at
later_slot m slot other apart = slots-without_dart_other m slot.at (name_at m slot.at) other.at apart

later_name : (m : ArenaMap) (slot other : Slot) → other.at ≢ slot.at → name_at (without_slot m slot) other.at ≡ name_at m other.at
later_name m slot other apart = ap (λ o. unwrap_or o 0) (later_slot m slot other apart)

pub can_remove : (slots : List Slot) (m : ArenaMap) → AreDistinct slots → ((slot : Slot) → Contains slots slot → IsLiveSlot m slot.at × IsAlone m (name_at m slot.at)) → CanRemove m slots
can_remove [] m distinct fit = tt
can_remove (slot ∷ slots) m distinct fit =
    let first = fit slot (contains_first slot slots) in
    (first.0, first.1, can_remove slots (without_slot m slot) distinct.1 rest)
  where
    rest : (other : Slot) → Contains slots other → IsLiveSlot (without_slot m slot) other.at × IsAlone (without_slot m slot) (name_at (without_slot m slot) other.at)
    rest other among =
        let apart : other.at ≢ slot.at = distinct.0 other among in
        let was = fit other (contains_later slot slots other among) in
        (rw (later_slot m slot other apart) was.0, subst (IsAlone (without_slot m slot)) (sym (later_name m slot other apart)) (alone (name_at m other.at) was.1))
      where
        alone : (name : ℕ) → IsAlone m name → IsAlone (without_slot m slot) name
        alone name was d label live away within leads =
            let still = IsLiveName-without_dart m slot.at (name_at m slot.at) d live in
            was d label still.1 away within (sym (alpha-without_dart_other m slot.at (name_at m slot.at) label d still.0) ∙ leads)

-- no slot of the list is this dart's
abbrev pub IsUnnamed : ArenaMap → List Slot → ℕ → Type 0
IsUnnamed m slots d = (slot : Slot) → Contains slots slot → name_at m slot.at ≢ d

unnamed_rest : (m : ArenaMap) (slot : Slot) (slots : List Slot) (d : ℕ) → AreDistinct (slot ∷ slots) → IsUnnamed m (slot ∷ slots) d → IsUnnamed (without_slot m slot) slots d
unnamed_rest m slot slots d distinct unnamed other among e = unnamed other (contains_later slot slots other among) (sym (later_name m slot other (distinct.0 other among)) ∙ e)

-- each other dart stays as it is
pub dart_stays : (slots : List Slot) (m : ArenaMap) (d : ℕ) → AreDistinct slots → IsUnnamed m slots d → get (without_darts m slots).darts d ≡ get m.darts d
dart_stays [] m d distinct unnamed = refl
dart_stays (slot ∷ slots) m d distinct unnamed =
    dart_stays slots (without_slot m slot) d distinct.1 (unnamed_rest m slot slots d distinct unnamed)
    ∙ get-without_dart_other m slot.at (name_at m slot.at) d (λ e. unnamed slot (contains_first slot slots) (sym e))

none_stays : (slots : List Slot) (m : ArenaMap) (d : ℕ) → get m.darts d ≡ None → get (without_darts m slots).darts d ≡ None
none_stays [] m d none = none
none_stays (slot ∷ slots) m d none = none_stays slots (without_slot m slot) d (elim (cases_eq d (name_at m slot.at)) [
  | inl e ↦ rw e (get-without_dart_same m slot.at (name_at m slot.at))
  | inr apart ↦ get-without_dart_other m slot.at (name_at m slot.at) d apart ∙ none
])

-- those of the slots go
pub dart_goes : (slots : List Slot) (m : ArenaMap) (slot : Slot) → AreDistinct slots → Contains slots slot → get (without_darts m slots).darts (name_at m slot.at) ≡ None
dart_goes [] m slot distinct among = absurd (contains_none slot among)
dart_goes (first ∷ slots) m slot distinct among = elim (contains_either first slots slot among) [
  | inl e ↦ none_stays slots (without_slot m first) (name_at m slot.at) (rw (← e) (get-without_dart_same m first.at (name_at m first.at)))
  | inr later ↦ subst (λ d. get (without_darts (without_slot m first) slots).darts d ≡ None) (later_name m first slot (distinct.0 slot later)) (dart_goes slots (without_slot m first) slot distinct.1 later)
]

-- another slot keeps its dart
pub slot_stays : (slots : List Slot) (m : ArenaMap) (slot : ℕ) → ((other : Slot) → Contains slots other → other.at ≢ slot) → get (without_darts m slots).slots slot ≡ get m.slots slot
slot_stays [] m slot apart = refl
slot_stays (first ∷ slots) m slot apart =
    slot_stays slots (without_slot m first) slot (λ other among. apart other (contains_later first slots other among))
    ∙ slots-without_dart_other m first.at (name_at m first.at) slot (λ e. apart first (contains_first first slots) (sym e))

pub without_whole : (slots : List Slot) (m : ArenaMap) → AreWhole m → AreWhole (without_darts m slots)
without_whole [] m whole = whole
without_whole (slot ∷ slots) m whole = without_whole slots (without_slot m slot) (whole_without m slot.at (name_at m slot.at) whole)

-- the names and the schema stay, there are fewer darts, and there is more room
pub record HasMoreRoom (old : ArenaMap) (more : ℕ) (new : ArenaMap) : Type 0 where
  pub schema : new.schema ≡ old.schema
  pub next : new.next ≡ old.next
  pub reserved : new.reserved ≡ old.reserved
  pub count : new.count ≡ old.count - more
  pub spare : new.spare ≡ old.spare + more

pub more_room : (slots : List Slot) (m : ArenaMap) → HasMoreRoom m (length slots) (without_darts m slots)
more_room [] m = record { schema = refl; next = refl; reserved = refl; count = omega arith; spare = omega arith }
more_room (slot ∷ slots) m =
    let rest = more_room slots (without_slot m slot) in
    record { schema = rest.schema; next = rest.next; reserved = rest.reserved; count = omega (arith, rest.count); spare = omega (arith, rest.spare) }

-- One dart more, of the next name.
use Rattle.std.proofs.Common.{◌≡◌, ℕ, ◌+◌, ◌<◌, ◌⊎◌, List, [], ◌∷◌, ◌++◌, length, get_or, Option, Some, None, refl, sym, ap, ◌∙◌, subst, inl, inr, arith}
use Rattle.std.specs.FinMap.{get}
use Rattle.std.specs.Option.{option_map}
use Rattle.std.proofs.lemmas.Bool.{cases_eq, cases_lt}
use Rattle.std.proofs.lemmas.List.{length-replicate, length_push, get_or_append_left, get_or_push}
use Rattle.std.proofs.lemmas.Option.{none-some, same_Some}
use Rattle.gm_model.specs.declared.value.Value.{Value}
use Rattle.gm_arena.specs.declared.slot.Slot.{Slot}
use Rattle.gm_arena.specs.inner.ArenaMap.{ArenaMap, Dart, IsAt, IsLiveName}
use Rattle.gm_arena.specs.inner.Edits.{with_dart, free_dart}
use Rattle.gm_arena.specs.inner.Parts.{part_of}
use Rattle.gm_arena.specs.inner.Lawful.{IsLawful}
use Rattle.gm_arena.proofs.InsideLemmas.{is_some_at}
use Rattle.gm_arena.proofs.MapLemmas.{name_below, get-with_dart_same, get-with_dart_other, IsAt-with_dart_same, slots-with_dart_other}
use Rattle.gm_commit.specs.inner.WrittenMap.{AreWhole, IsExtended, values_at}

pub none_extended : (m : ArenaMap) (values : List Value) → IsExtended m values [] m
none_extended m values = record {
  schema = refl;
  reserved = refl;
  next = omega arith;
  count = omega arith;
  spare = omega arith;
  darts = λ d h. refl;
  slots = λ slot name at. at;
  made_at = λ number h. absurd (omega arith);
  made_live = λ number h. absurd (omega arith);
  valued = λ number h. absurd (omega arith);
  only = λ d live. inl live;
  whole = λ whole. whole;
}

-- the next name is not live
pub next_is_new : (m : ArenaMap) → IsLawful m → get m.darts m.next ≡ None
next_is_new m lawful = go (get m.darts m.next) refl
  where
    go : (o : Option Dart) → get m.darts m.next ≡ o → o ≡ None
    go None e = refl
    go (Some dart) e = absurd (let h : m.next < m.next = name_below m m.next lawful (is_some_at _ dart e) in omega arith)

module _ (old m : ArenaMap) (values : List Value) (made : List Slot) (slot : Slot) (so_far : IsExtended old values made m) (room : 0 < m.spare) (free : get m.slots slot.at ≡ None) where
  -- the values of the new dart
  abbrev own : List Value
  own = part_of (length old.schema.embeds) values (length made)

  slot_kept : (other name : ℕ) → IsAt m other name → IsAt (with_dart m slot.at m.next own) other name
  slot_kept other name at = elim (cases_eq other slot.at) [
    | inl e ↦ absurd (none-some name (sym free ∙ subst (λ s. IsAt m s name) e at))
    | inr apart ↦ slots-with_dart_other m slot.at m.next own other apart ∙ at
  ]

  long : length (made ++ slot ∷ []) ≡ length made + 1
  long = length_push made slot

  made_here : (number : ℕ) → number < length (made ++ slot ∷ []) → IsAt (with_dart m slot.at m.next own) (get_or (made ++ slot ∷ []) number (record { at = 0 })).at (old.next + number)
  made_here number h = elim (cases_lt number (length made)) [
    | inl l ↦ subst (λ (s : Slot). IsAt (with_dart m slot.at m.next own) s.at (old.next + number)) (sym (get_or_append_left made (slot ∷ []) (record { at = 0 }) number l)) (slot_kept _ _ (so_far.made_at number l))
    | inr l ↦
        let is : number ≡ length made = omega (arith, long) in
        let name : m.next ≡ old.next + number = omega (arith, so_far.next, is) in
        subst (λ (s : Slot). IsAt (with_dart m slot.at m.next own) s.at (old.next + number)) (sym (get_or_push made slot (record { at = 0 }) number (sym is)))
        (subst (λ n. IsAt (with_dart m slot.at m.next own) slot.at n) name (IsAt-with_dart_same m slot.at m.next own))
  ]

  live_here : (number : ℕ) → number < length (made ++ slot ∷ []) → IsLiveName (with_dart m slot.at m.next own) (old.next + number)
  live_here number h = elim (cases_lt number (length made)) [
    | inl l ↦ rw (get-with_dart_other m slot.at m.next own (old.next + number) (λ e. omega (arith, e, so_far.next))) (so_far.made_live number l)
    | inr l ↦
        let name : old.next + number ≡ m.next = omega (arith, so_far.next, long) in
        rw (name, get-with_dart_same m slot.at m.next own) refl
  ]

  valued_here : (number : ℕ) → number < length (made ++ slot ∷ []) → values_at (with_dart m slot.at m.next own) (old.next + number) ≡ Some (part_of (length old.schema.embeds) values number)
  valued_here number h = elim (cases_lt number (length made)) [
    | inl l ↦ ap (option_map (λ (dart : Dart). dart.values)) (get-with_dart_other m slot.at m.next own (old.next + number) (λ e. omega (arith, e, so_far.next))) ∙ so_far.valued number l
    | inr l ↦
        let is : number ≡ length made = omega (arith, long) in
        let name : old.next + number ≡ m.next = omega (arith, so_far.next, long) in
        rw (name, is) (ap (option_map (λ (dart : Dart). dart.values)) (get-with_dart_same m slot.at m.next own))
  ]

  only_here : (d : ℕ) → IsLiveName (with_dart m slot.at m.next own) d → IsLiveName old d ⊎ ((number : ℕ) × (number < length (made ++ slot ∷ [])) × (d ≡ old.next + number))
  only_here d live = elim (cases_eq d m.next) [
    | inl e ↦ inr (length made, omega (arith, long), omega (arith, e, so_far.next))
    | inr apart ↦
        let was : IsLiveName m d = rw (get-with_dart_other m slot.at m.next own d apart) at live in
        elim (so_far.only d was) [
          | inl there ↦ inl there
          | inr (number, h, e) ↦ inr (number, omega (arith, long), e)
        ]
  ]

  whole_here : AreWhole m → AreWhole (with_dart m slot.at m.next own)
  whole_here whole d dart is = elim (cases_eq d m.next) [
    | inl e ↦
        let here : get (with_dart m slot.at m.next own).darts m.next ≡ Some dart = subst (λ x. get (with_dart m slot.at m.next own).darts x ≡ Some dart) e is in
        let free : free_dart m.schema.dim m.next own ≡ dart = same_Some (free_dart m.schema.dim m.next own) dart (sym (get-with_dart_same m slot.at m.next own) ∙ here) in
        ap (λ (x : Dart). length x.alphas) (sym free) ∙ length-replicate (m.schema.dim + 1) m.next
    | inr apart ↦ whole d dart (sym (get-with_dart_other m slot.at m.next own d apart) ∙ is)
  ]

  pub extended_more : IsExtended old values (made ++ slot ∷ []) (with_dart m slot.at m.next own)
  extended_more = record {
    schema = so_far.schema;
    reserved = so_far.reserved;
    next = omega (arith, long, so_far.next);
    count = omega (arith, long, so_far.count);
    spare = omega (arith, long, so_far.spare, room);
    darts = λ d h. get-with_dart_other m slot.at m.next own d (λ e. omega (arith, e, so_far.next)) ∙ so_far.darts d h;
    slots = λ other name at. slot_kept other name (so_far.slots other name at);
    made_at = made_here;
    made_live = live_here;
    valued = valued_here;
    only = only_here;
    whole = λ whole. whole_here (so_far.whole whole);
  }

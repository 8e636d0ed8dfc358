-- What a change of an arena's map leaves at each dart and slot, for callers.
use Rattle.std.proofs.Common.{◌≡◌, ◌≢◌, ℕ, ◌<◌, ◌≤◌, List, get_or, Option, Some, None, refl, sym, ap, ◌∙◌, arith}
use Rattle.std.specs.Option.{option_map, option_map_or, unwrap_or}
use Rattle.std.specs.FinMap as map
use Rattle.std.proofs.lemmas.Bool.{false≢true}
use Rattle.std.proofs.lemmas.List.{get_or-set_same, get_or-set_other}
use Rattle.std.proofs.lemmas.List.Elements.{All-get_or}
use Rattle.gm_model.specs.declared.value.Value.{Value}
use Rattle.gm_arena.specs.inner.ArenaMap.{ArenaMap, Dart, IsAt, IsLiveSlot, IsLiveName, name_at, alpha}
use Rattle.gm_arena.specs.inner.Lawful.{IsLawful}
use Rattle.gm_arena.specs.inner.Edits.{with_dart, with_alpha, without_dart, turned, put_if, free_dart}
use Rattle.gm_arena.proofs.FilledLemmas.{get-insert_same, get-insert_other, get-remove_same, get-remove_other}
use Rattle.gm_arena.proofs.InsideLemmas.{some_of}

-- ---- reading

pub name_at-is : (m : ArenaMap) (slot name : ℕ) → IsAt m slot name → name_at m slot ≡ name
name_at-is m slot name at = ap (λ o. unwrap_or o 0) at

-- a live slot has its name
pub IsAt-name_at : (m : ArenaMap) (slot : ℕ) → IsLiveSlot m slot → IsAt m slot (name_at m slot)
IsAt-name_at m slot live = let n = some_of _ live in n.1 ∙ ap Some (sym (name_at-is m slot n.0 n.1))

pub IsLiveName-name_at : (m : ArenaMap) (slot : ℕ) → IsLawful m → IsLiveSlot m slot → IsLiveName m (name_at m slot)
IsLiveName-name_at m slot lawful live = lawful.live slot _ (IsAt-name_at m slot live)

-- a live name has a slot
pub slot_of_name : (m : ArenaMap) (name : ℕ) → IsLawful m → IsLiveName m name → (slot : ℕ) × IsAt m slot name
slot_of_name m name lawful live = let d = some_of _ live in let dart = lawful.dart name d.0 d.1 in (dart.slot, dart.at)

-- each neighbour of a dart is live
pub IsLiveName-alpha : (m : ArenaMap) (label name : ℕ) → IsLawful m → IsLiveName m name → label ≤ m.schema.dim → IsLiveName m (alpha m label name)
IsLiveName-alpha m label name lawful live within =
    let d : (dart : Dart) × (map.get m.darts name ≡ Some dart) = some_of _ live in
    let dart = lawful.dart name d.0 d.1 in
    rw d.1 (All-get_or (IsLiveName m) d.0.alphas label name (omega (arith, dart.whole)) dart.neighbours)

-- each live name lies below the next
pub name_below : (m : ArenaMap) (name : ℕ) → IsLawful m → IsLiveName m name → name < m.next
name_below m name lawful live = let d = some_of _ live in (lawful.dart name d.0 d.1).below_next

-- the same dart, the same neighbours
pub alpha-alike : (m n : ArenaMap) (label name : ℕ) → map.get n.darts name ≡ map.get m.darts name → alpha n label name ≡ alpha m label name
alpha-alike m n label name e = ap (λ o. option_map_or (λ (dart : Dart). get_or dart.alphas label name) o name) e

-- ---- other neighbours

-- a dart that is changed, where it is live
module _ (m : ArenaMap) (name : ℕ) (f : Dart → Dart) where
  changed_at : (o : Option Dart) → map.get m.darts name ≡ o → map.get (put_if m.darts name (option_map f o)) name ≡ option_map f o
  changed_at None e = e
  changed_at (Some dart) e = get-insert_same m.darts name (f dart)

  get-put_if_same : map.get (put_if m.darts name (option_map f (map.get m.darts name))) name ≡ option_map f (map.get m.darts name)
  get-put_if_same = changed_at (map.get m.darts name) refl

  other_at : (o : Option Dart) (other : ℕ) → other ≢ name → map.get (put_if m.darts name (option_map f o)) other ≡ map.get m.darts other
  other_at None other apart = refl
  other_at (Some dart) other apart = get-insert_other m.darts name (f dart) other apart

module _ (m : ArenaMap) (name label to : ℕ) where
  pub get-with_alpha_same : map.get (with_alpha m name label to).darts name ≡ option_map (λ dart. turned dart label to) (map.get m.darts name)
  get-with_alpha_same = get-put_if_same m name (λ dart. turned dart label to)

  pub get-with_alpha_other : (other : ℕ) → other ≢ name → map.get (with_alpha m name label to).darts other ≡ map.get m.darts other
  get-with_alpha_other = other_at m name (λ dart. turned dart label to) (map.get m.darts name)

  pub alpha-with_alpha_same : IsLawful m → IsLiveName m name → label ≤ m.schema.dim → alpha (with_alpha m name label to) label name ≡ to
  alpha-with_alpha_same lawful live within =
      let d : (dart : Dart) × (map.get m.darts name ≡ Some dart) = some_of _ live in
      let dart = lawful.dart name d.0 d.1 in
      ap (λ o. option_map_or (λ (dart : Dart). get_or dart.alphas label name) o name) (get-with_alpha_same ∙ ap (option_map (λ dart. turned dart label to)) d.1)
      ∙ get_or-set_same d.0.alphas label to name (omega (arith, dart.whole))

  pub alpha-with_alpha_other : (i other : ℕ) → other ≢ name → alpha (with_alpha m name label to) i other ≡ alpha m i other
  alpha-with_alpha_other i other apart = alpha-alike m (with_alpha m name label to) i other (get-with_alpha_other other apart)

  label_at : (o : Option Dart) (i : ℕ) → i ≢ label → option_map_or (λ (dart : Dart). get_or dart.alphas i name) (option_map (λ dart. turned dart label to) o) name ≡ option_map_or (λ (dart : Dart). get_or dart.alphas i name) o name
  label_at None i apart = refl
  label_at (Some dart) i apart = get_or-set_other dart.alphas label i to name apart

  pub alpha-with_alpha_label : (i : ℕ) → i ≢ label → alpha (with_alpha m name label to) i name ≡ alpha m i name
  alpha-with_alpha_label i apart = ap (λ o. option_map_or (λ (dart : Dart). get_or dart.alphas i name) o name) get-with_alpha_same ∙ label_at (map.get m.darts name) i apart

-- ---- one dart more

module _ (m : ArenaMap) (slot name : ℕ) (values : List Value) where
  pub get-with_dart_same : map.get (with_dart m slot name values).darts name ≡ Some (free_dart m.schema.dim name values)
  get-with_dart_same = get-insert_same m.darts name (free_dart m.schema.dim name values)

  pub get-with_dart_other : (other : ℕ) → other ≢ name → map.get (with_dart m slot name values).darts other ≡ map.get m.darts other
  get-with_dart_other = get-insert_other m.darts name (free_dart m.schema.dim name values)

  pub IsAt-with_dart_same : IsAt (with_dart m slot name values) slot name
  IsAt-with_dart_same = get-insert_same m.slots slot name

  pub slots-with_dart_other : (other : ℕ) → other ≢ slot → map.get (with_dart m slot name values).slots other ≡ map.get m.slots other
  slots-with_dart_other = get-insert_other m.slots slot name

-- ---- one dart fewer

module _ (m : ArenaMap) (slot name : ℕ) where
  pub get-without_dart_same : map.get (without_dart m slot name).darts name ≡ None
  get-without_dart_same = get-remove_same m.darts name

  pub get-without_dart_other : (other : ℕ) → other ≢ name → map.get (without_dart m slot name).darts other ≡ map.get m.darts other
  get-without_dart_other = get-remove_other m.darts name

  pub alpha-without_dart_other : (i other : ℕ) → other ≢ name → alpha (without_dart m slot name) i other ≡ alpha m i other
  alpha-without_dart_other i other apart = alpha-alike m (without_dart m slot name) i other (get-without_dart_other other apart)

  pub slots-without_dart_other : (other : ℕ) → other ≢ slot → map.get (without_dart m slot name).slots other ≡ map.get m.slots other
  slots-without_dart_other = get-remove_other m.slots slot

  -- who is still live was live, and is another dart
  pub IsLiveName-without_dart : (other : ℕ) → IsLiveName (without_dart m slot name) other → (other ≢ name) × IsLiveName m other
  IsLiveName-without_dart other live =
      let apart : other ≢ name = λ e. false≢true (rw (e, get-without_dart_same) at live) in
      (apart, rw (get-without_dart_other other apart) at live)

-- The names that have a slot are those of the live darts.
use Rattle.std.proofs.Common.{◌≡◌, ◌≢◌, ℕ, ◌+◌, ◌<◌, Bool, true, false, List, [], ◌∷◌, ◌++◌, get_or, map, take, length, Option, Some, None, cond, eqb, refl, sym, ap, ◌∙◌, inl, inr, arith, All, zero-add}
use Rattle.std.specs.Option.{is_some, option_map}
use Rattle.std.specs.FinMap as map
use Rattle.std.proofs.lemmas.Bool.{cases_eq}
use Rattle.std.proofs.lemmas.Bool.Decides.{eqb_tells}
use Rattle.std.proofs.lemmas.List.{map_push, map-append, length-map, length-take-le, take_more, append-nil}
use Rattle.std.proofs.lemmas.List.Elements.{All-head, All-tail, All-from_get_or}
use Rattle.slab.specs.Slab.{Slab, get, entries_from}
use Rattle.slab.proofs.SlabLemmas.{entries_from-append}
use Rattle.gm_model.specs.declared.schema.Schema.{Schema}
use Rattle.gm_model.specs.declared.value.Value.{Value}
use Rattle.gm_arena.specs.declared.slot.Slot.{Slot}
use Rattle.gm_arena.specs.declared.arena.Place.{Place}
use Rattle.gm_arena.specs.inner.Inside.{no_slot, slot_in, entry_of, names_in, dart_in, darts_in, FitTogether}
use Rattle.gm_arena.proofs.FilledLemmas.{keys-filled}
use Rattle.gm_arena.proofs.InsideLemmas.{nowhere}

unequal : (a b : ℕ) → a ≢ b → eqb a b ≡ false
unequal a b h = elim (eqb_tells a b) [ inl p ↦ absurd (h p.1) | inr p ↦ p.0 ]

pub entry_some : (slot : ℕ) → slot ≢ no_slot → entry_of slot ≡ Some slot
entry_some slot h = ap (λ b. cond b None (Some slot)) (unequal slot no_slot h)

-- one entry more
pub names_push : (table : List ℕ) (slot : ℕ) → names_in (table ++ slot ∷ []) ≡ names_in table ++ cond (eqb slot no_slot) [] (length table ∷ [])
names_push table slot =
    ap (λ xs. map (λ e. e.0) (entries_from 0 xs)) (map_push entry_of table slot)
    ∙ (ap (map (λ e. e.0)) (entries_from-append 0 (map entry_of table) (entry_of slot ∷ []))
    ∙ (map-append (λ e. e.0) (entries_from 0 (map entry_of table)) (entries_from (0 + length (map entry_of table)) (entry_of slot ∷ []))
    ∙ ap (λ xs. names_in table ++ xs) (last (eqb slot no_slot) (0 + length (map entry_of table)) (zero-add (length (map entry_of table)) ∙ length-map table entry_of))))
  where
    last : (b : Bool) (at : ℕ) → at ≡ length table → map (λ e. e.0) (entries_from at (cond b None (Some slot) ∷ [])) ≡ cond b [] (length table ∷ [])
    last true at e = refl
    last false at e = ap (λ n. n ∷ []) e

-- after one turn over the table
pub names_taken : (table : List ℕ) (i : ℕ) → i < length table → get_or table i 0 ≢ no_slot → names_in (take (i + 1) table) ≡ names_in (take i table) ++ i ∷ []
names_taken table i h some =
    ap names_in (take_more table i 0 h) ∙ (names_push (take i table) (get_or table i 0)
    ∙ ap (λ xs. names_in (take i table) ++ xs) (ap (λ b. cond b [] (length (take i table) ∷ [])) (unequal (get_or table i 0) no_slot some) ∙ ap (λ n. n ∷ []) (length-take-le i table (omega arith))))

pub names_skipped : (table : List ℕ) (i : ℕ) → i < length table → get_or table i 0 ≡ no_slot → names_in (take (i + 1) table) ≡ names_in (take i table)
names_skipped table i h none =
    ap names_in (take_more table i 0 h) ∙ (names_push (take i table) (get_or table i 0)
    ∙ (ap (λ s. names_in (take i table) ++ cond (eqb s no_slot) [] (length (take i table) ∷ [])) none ∙ append-nil (names_in (take i table))))

same_keys : {A B : Type 0} (f : ℕ → Option A) (g : ℕ → Option B) (k : ℕ) (table : List ℕ) → All (λ slot. is_some (f slot) ≡ is_some (g slot)) table
    → map (λ e. e.0) (entries_from k (map f table)) ≡ map (λ e. e.0) (entries_from k (map g table))
same_keys f g k [] h = refl
same_keys f g k (slot ∷ table) h =
    one (f slot) (g slot) (map f table) (map g table) (All-head (λ slot. is_some (f slot) ≡ is_some (g slot)) slot table h) (same_keys f g (k + 1) table (All-tail (λ slot. is_some (f slot) ≡ is_some (g slot)) slot table h))
  where
    one : {A B : Type 0} (x : Option A) (y : Option B) (xs : List (Option A)) (ys : List (Option B)) → is_some x ≡ is_some y → map (λ e. e.0) (entries_from (k + 1) xs) ≡ map (λ e. e.0) (entries_from (k + 1) ys)
        → map (λ e. e.0) (entries_from k (x ∷ xs)) ≡ map (λ e. e.0) (entries_from k (y ∷ ys))
    one None None xs ys e rest = rest
    one None (Some y) xs ys e rest = cc
    one (Some x) None xs ys e rest = cc
    one (Some x) (Some y) xs ys e rest = ap (λ ks. k ∷ ks) rest

module _ (schema : Schema) (labels width : ℕ) (places : Slab Place) (neighbours : List Slot) (values : List Value) (table : List ℕ) (next spare bound : ℕ) (sound : FitTogether schema labels width places neighbours values table next spare bound) where
  -- a slot in the table has a dart
  pub names_live : names_in table ≡ map.keys (darts_in labels width places neighbours values table)
  names_live =
      let f = λ (slot : ℕ). option_map (λ (p : Place). dart_in labels width places neighbours values slot) (get places slot) in
      same_keys entry_of f 0 table (All-from_get_or (λ slot. is_some (entry_of slot) ≡ is_some (f slot)) table no_slot (λ name h. elim (cases_eq (slot_in table name) no_slot) [
        | inl e ↦ rw (e, nowhere schema labels width places neighbours values table next spare bound sound) refl
        | inr some ↦ ap is_some (entry_some (slot_in table name) some) ∙ sym (ap (λ o. is_some (option_map (λ (p : Place). dart_in labels width places neighbours values (slot_in table name)) o)) (sound.named name some).1)
      ])) ∙ sym (keys-filled _)

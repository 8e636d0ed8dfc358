-- The arena without darts.
use Rattle.std.proofs.Common.{◌≡◌, ℕ, Bool, ◌+◌, ◌<◌, ◌≤◌, [], get_or, length, None, refl, sym, ap, ◌∙◌, arith}
use Rattle.std.specs.FinMap as map
use Rattle.std.specs.Ordering.{nat_cmp}
use Rattle.std.proofs.lemmas.Bool.{false≢true}
use Rattle.std.proofs.lemmas.Option.{none-some}
use Rattle.slab.specs.Slab.{Slab, get, slab_len}
use Rattle.gm_model.specs.declared.schema.Schema.{Schema}
use Rattle.gm_arena.specs.declared.arena.Place.{Place}
use Rattle.gm_arena.specs.inner.Edits.{empty_map}
use Rattle.gm_arena.specs.inner.Filled.{filled}
use Rattle.gm_model.specs.Maps.{IsSchema}
use Rattle.gm_arena.specs.inner.Inside.{slots_in, map_of, FitTogether, AreNamesSlots}
use Rattle.gm_arena.proofs.FilledLemmas.{get-filled, same_maps}

filled_none : {X : Type 0} → filled {X = X} [] ≡ map.empty
filled_none = same_maps _ _ (λ q. get-filled [] q ∙ sym (map.get-empty nat_cmp q))

module _ (schema : Schema) (places : Slab Place) (slots : places.slots ≡ []) where
  vacant : (slot : ℕ) → get places slot ≡ None
  vacant slot = ap (λ xs. get_or xs slot None) slots

  count : slab_len places ≡ 0
  count = λ i. slab_len (record places { slots = slots i })

  pub slots_none : slots_in places ≡ map.empty
  slots_none = (λ i. slots_in (record places { slots = slots i })) ∙ filled_none

  pub map_empty : map_of schema (schema.dim + 1) (length schema.embeds) places [] [] [] 0 0 0 ≡ empty_map schema
  map_empty = λ i. record (empty_map schema) { darts = filled_none i; slots = slots_none i; count = count i }

  pub named_empty : (flag : Bool) → AreNamesSlots flag places
  named_empty flag told slot place e = absurd (none-some place (sym (vacant slot) ∙ e))

  pub sound_empty : IsSchema schema → 0 < schema.dim → schema.dim ≤ 7 → places.capacity ≡ 0 → FitTogether schema (schema.dim + 1) (length schema.embeds) places [] [] [] 0 0 0
  sound_empty lawful some few capacity = record {
    sized = record { lawful = lawful; one_each = refl; several = omega arith; few = omega arith; wide = refl };
    placed = λ slot place e. absurd (none-some place (sym (vacant slot) ∙ e));
    named = λ name h. absurd (h refl);
    valued = λ slot h. absurd (false≢true (rw vacant at h));
    fits = omega (arith, capacity);
    linked = omega arith;
    long = omega arith;
    room = omega (arith, capacity, count);
    counted = count ∙ sym (ap map.len filled_none ∙ map.len-empty nat_cmp _);
    few_darts = omega (arith, count);
    few_names = omega arith;
    few_reserved = omega arith;
  }

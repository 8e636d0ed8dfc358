-- Items that are put behind the others leave the parts of the earlier entries as they are.
use Rattle.std.specs.Prelude.{◌≡◌, refl, ℕ, ◌+◌, ◌-◌, ◌≤◌, Bool, true, false, if◌then◌else◌, List, [], ◌∷◌, ◌++◌, length, drop}
use Rattle.std.specs.List.{AllByRecursion}
use Rattle.std.proofs.Common.{arith, ap, sym, ◌∙◌, append-nil, append_assoc, length-append}
use Rattle.std.proofs.lemmas.List.{take-append-le, drop-append-le, length-drop, map-append, take_all}
use Rattle.std.proofs.Math.Seq.{drop-append_seam}
use Rattle.gm_model.specs.declared.script.Entry.{Entry}
use Rattle.gm_model.specs.declared.script.Part.{Part}
use Rattle.gm_model.specs.declared.value.Value.{Value}
use Rattle.gm_model.specs.inner.Entries.{Grows, IsPartOf, IsEntryOf, AreEntriesOf, items_at, stat_at, stats_of}

pub grows_none : {A : Type 0} (xs : List A) → Grows xs xs
grows_none xs = ([], sym (append-nil xs))

pub grows_by : {A : Type 0} (done : Bool) (xs ys zs : List A) → zs ≡ (if done then xs ++ ys else xs) → Grows xs zs
grows_by true xs ys zs is = (ys, is)
grows_by false xs ys zs is = rw is (grows_none xs)

pub grows_twice : {A : Type 0} (xs ys zs : List A) → Grows xs ys → Grows ys zs → Grows xs zs
grows_twice xs ys zs (more, is) (more', is') = (more ++ more', is' ∙ ap (λ front. front ++ more') is ∙ append_assoc xs more more')

pub grows_longer : {A : Type 0} (xs ys : List A) → Grows xs ys → length xs ≤ length ys
grows_longer xs ys (more, is) = rw (is, length-append xs more) (omega arith)

-- where the items stand that were put behind the others
pub behind_within : {A : Type 0} (old items all : List A) (start : ℕ) → all ≡ old ++ items → start ≡ length old → IsPartOf (length all) (record { start = start; end = start + length items })
behind_within old items all start is here = record { order = omega arith; within = rw (is, length-append old items, here) (omega arith) }

pub behind_items : {A : Type 0} (old items all : List A) (start : ℕ) → all ≡ old ++ items → start ≡ length old → items_at all (record { start = start; end = start + length items }) ≡ items
behind_items old items all start is here =
    let count : length items ≤ start + length items - start = omega arith in
    rw (is, here, drop-append_seam old items) (take_all (length old + length items - length old) items (rw here at count))

pub part_kept : {A : Type 0} (xs ys : List A) (part : Part) → Grows xs ys → IsPartOf (length xs) part → items_at ys part ≡ items_at xs part
part_kept xs ys part (more, is) within =
    let short : part.end - part.start ≤ length (drop part.start xs) = rw (length-drop part.start xs) (omega (arith, within.order, within.within)) in
    let early : part.start ≤ length xs = omega (arith, within.order, within.within) in
    rw (is, drop-append-le part.start xs more early) (take-append-le (part.end - part.start) (drop part.start xs) more short)

pub entry_kept : (hooks hooks' : List ℕ) (params params' : List Value) (entry : Entry) → Grows hooks hooks' → Grows params params' → IsEntryOf (length hooks) (length params) entry → stat_at hooks' params' entry ≡ stat_at hooks params entry
entry_kept hooks hooks' params params' entry h p within = rw (part_kept hooks hooks' entry.hooks h within.hooks, part_kept params params' entry.params p within.params) refl

pub stats_kept : (hooks hooks' : List ℕ) (params params' : List Value) (entries : List Entry) → Grows hooks hooks' → Grows params params' → AreEntriesOf hooks params entries → stats_of hooks' params' entries ≡ stats_of hooks params entries
stats_kept hooks hooks' params params' [] h p within = refl
stats_kept hooks hooks' params params' (entry ∷ entries) h p within = rw (entry_kept hooks hooks' params params' entry h p within.0, stats_kept hooks hooks' params params' entries h p within.1) refl

pub entries_kept : (hooks hooks' : List ℕ) (params params' : List Value) (entries : List Entry) → Grows hooks hooks' → Grows params params' → AreEntriesOf hooks params entries → AreEntriesOf hooks' params' entries
entries_kept hooks hooks' params params' [] h p within = tt
entries_kept hooks hooks' params params' (entry ∷ entries) h p within =
    let longer : IsPartOf (length hooks') entry.hooks = record { order = within.0.hooks.order; within = omega (arith, within.0.hooks.within, grows_longer hooks hooks' h) } in
    let longer' : IsPartOf (length params') entry.params = record { order = within.0.params.order; within = omega (arith, within.0.params.within, grows_longer params params' p) } in
    (record { hooks = longer; params = longer' }, entries_kept hooks hooks' params params' entries h p within.1)

pub stats_pushed : (hooks hooks' : List ℕ) (params params' : List Value) (entries : List Entry) (entry : Entry) → Grows hooks hooks' → Grows params params' → AreEntriesOf hooks params entries → stats_of hooks' params' (entries ++ entry ∷ []) ≡ stats_of hooks params entries ++ stat_at hooks' params' entry ∷ []
stats_pushed hooks hooks' params params' entries entry h p within = rw (map-append (stat_at hooks' params') entries (entry ∷ []), stats_kept hooks hooks' params params' entries h p within) refl

pub entries_push : (m n : ℕ) (entries : List Entry) (entry : Entry) → AllByRecursion (IsEntryOf m n) entries → IsEntryOf m n entry → AllByRecursion (IsEntryOf m n) (entries ++ entry ∷ [])
entries_push m n [] entry within is = (is, tt)
entries_push m n (first ∷ entries) entry within is = (within.0, entries_push m n entries entry within.1 is)

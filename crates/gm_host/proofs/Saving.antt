-- What saves and writes leave.
use Rattle.std.proofs.Common.{◌≡◌, ◌≢◌, ℕ, ◌-◌, cond, List, [], ◌∷◌, ◌++◌, length, take, drop, Option, Some, None, inl, inr, refl, sym, ap, ap₂, ◌∙◌, subst, append_assoc, append-nil, take-append-drop}
use Rattle.std.specs.Prelude.{Result, Ok, Err, OnErr}
use Rattle.std.proofs.lemmas.List.{take_rest}
use Rattle.std.specs.Cmp.{eq_by_cmp_equiv}
use Rattle.std.specs.Cmp.Lexicographic.{slice_cmp, nat_list_cmp_total}
use Rattle.std.specs.FinMap.{insert, get-insert, nat_cmp-IsAntisymmetric, slice_cmp-IsAntisymmetric}
use Rattle.std.specs.Io.KnownBytes.{Appends, Keeps}
use Rattle.std.specs.Ordering.{nat_cmp, is_eq}
use Rattle.std.specs.declared.cmp.Ordering.{Ordering}
use Rattle.std.specs.declared.cmp.Ordering.TheVariants.{Less, Equal, Greater}
use Rattle.gm_host.specs.Count.{counted}
use Rattle.gm_host.specs.inner.FileStore.{AppendsInPart}
use Rattle.gm_host.specs.inner.Files.{Files, told}
use Rattle.gm_host.specs.inner.MemSink.{SinkState, Puts, after_unmade_put}
use Rattle.gm_host.specs.inner.MemStore.{StoreState, Saves, kept_files, after_save, after_failed_save, after_unmade_save}
use Rattle.gm_host.specs.declared.fault.PutFault.TheVariants as put_fault
use Rattle.gm_host.specs.declared.fault.SaveFault.TheVariants as fault
use Rattle.gm_host.specs.Saves.{IsSaved, IsSavedInPart}

-- ---- files in memory

other_choice : {A : Type 0} (r : Ordering) (x y : List ℕ) (a b : A) → (r ≡ Equal → x ≡ y) → x ≢ y → cond (is_eq r) a b ≡ b
other_choice Less x y a b same apart = refl
other_choice Equal x y a b same apart = absurd (apart (same refl))
other_choice Greater x y a b same apart = refl

pub saved-insert : (files : Files) (name bytes : List ℕ) → IsSaved (told files) name bytes (told (insert files name bytes))
saved-insert files name bytes = (
  get-insert nat_list_cmp_total files name bytes name ∙ rw ((eq_by_cmp_equiv nat_list_cmp_total).refl name) refl,
  λ other apart. get-insert nat_list_cmp_total files name bytes other
      ∙ other_choice (slice_cmp nat_cmp other name) other name _ _ (slice_cmp-IsAntisymmetric nat_cmp-IsAntisymmetric other name) apart,
)

pub saved_in_part : (files : Files) (name bytes : List ℕ) (kept : Option ℕ) → IsSavedInPart (told files) name bytes (told (kept_files files name bytes kept))
saved_in_part files name bytes None = inl refl
saved_in_part files name bytes (Some kept) = inr (kept, saved-insert files name (take kept bytes))

-- ---- files of the system

pub Appends-nothing : (known : Option (List ℕ)) → Appends known known []
Appends-nothing None = tt
Appends-nothing (Some xs) = sym (append-nil xs)

pub Appends-append : (before between after : Option (List ℕ)) (xs ys : List ℕ)
    → Appends before between xs → Appends between after ys → Appends before after (xs ++ ys)
Appends-append None between after xs ys p q = tt
Appends-append (Some bs) None after xs ys p q = absurd p
Appends-append (Some bs) (Some cs) None xs ys p q = absurd q
Appends-append (Some bs) (Some cs) (Some ds) xs ys p q = q ∙ ap (λ front. front ++ ys) p ∙ append_assoc bs xs ys

front_of : (xs ys : List ℕ) → take (length xs) (xs ++ ys) ≡ xs
front_of [] ys = refl
front_of (x ∷ xs) ys = ap (λ front. x ∷ front) (front_of xs ys)

pub Appends-kept : (before between after : Option (List ℕ)) (xs : List ℕ) → Appends before between xs → Keeps between after → Appends before after xs
Appends-kept None between after xs p q = tt
Appends-kept (Some bs) None after xs p q = absurd p
Appends-kept (Some bs) (Some cs) None xs p q = absurd q
Appends-kept (Some bs) (Some cs) (Some ds) xs p q = q ∙ p

-- what was written so far is some of the first bytes
pub written_in_part : (before after : Option (List ℕ)) (done rest bytes : List ℕ)
    → bytes ≡ done ++ rest → Appends before after done → AppendsInPart before after bytes
written_in_part before after done rest bytes split appended =
    (length done, subst (Appends before after) (sym (ap (take (length done)) split ∙ front_of done rest)) appended)

-- what is still to be written, after a write of so many bytes
pub split_on : (bytes done rest : List ℕ) (n : ℕ) → bytes ≡ done ++ rest → bytes ≡ (done ++ take n rest) ++ take (length rest - n) (drop n rest)
split_on bytes done rest n e =
    e ∙ ap (λ l. done ++ l) (sym (take-append-drop n rest)) ∙ sym (append_assoc done (take n rest) (drop n rest)) ∙ ap (λ l. (done ++ take n rest) ++ l) (sym (take_rest rest n))

-- what holds in any case holds where the answer is an error
pub on_any_error : {T E : Type 0} {P : Type 0} (answer : Result T E) → P → OnErr answer P
on_any_error (Ok _) p = tt
on_any_error (Err _) p = p

-- ---- planned saves

module _ {state before : StoreState} (is : state ≡ before) (name bytes : List ℕ) (files : Files) (saves : ℕ) (counts : saves ≡ counted state.saves) where
  pub planned_save : (plan : Option (Option ℕ)) → plan ≡ None → files ≡ insert state.files name bytes → Saves plan before name bytes (Ok tt) (record state { files = files; saves = saves })
  planned_save plan none kept =
      let after : StoreState = record state { files = files; saves = saves } in
      let made : after ≡ after_save before name bytes = ap₂ (λ fs n. record state { files = fs; saves = n }) kept counts ∙ ap (λ s. after_save s name bytes) is in
      subst (λ p. Saves p before name bytes (Ok tt) after) (sym none) made

  pub planned_fault : (plan : Option (Option ℕ)) (kept : Option ℕ) (faults : ℕ) → plan ≡ Some kept → files ≡ kept_files state.files name bytes kept → faults ≡ counted state.save_faults
      → Saves plan before name bytes (Err fault.Failed) (record state { files = files; saves = saves; save_faults = faults })
  planned_fault plan kept faults some held faulty =
      let after : StoreState = record state { files = files; saves = saves; save_faults = faults } in
      let failed : after ≡ after_failed_save before name bytes kept =
      ap₂ (λ fs n. record state { files = fs; saves = n; save_faults = faults }) held counts
      ∙ ap (λ n. record state { files = kept_files state.files name bytes kept; saves = counted state.saves; save_faults = n }) faulty
      ∙ ap (λ s. after_failed_save s name bytes kept) is in
      subst (λ p. Saves p before name bytes (Err fault.Failed) after) (sym some) failed

  -- whether it was to fail or not
  pub unmade_save : (plan : Option (Option ℕ)) → files ≡ state.files → Saves plan before name bytes (Err fault.OutOfMemory) (record state { files = files; saves = saves })
  unmade_save None same = ap₂ (λ fs n. record state { files = fs; saves = n }) same counts ∙ ap after_unmade_save is
  unmade_save (Some kept) same = ap₂ (λ fs n. record state { files = fs; saves = n }) same counts ∙ ap after_unmade_save is

-- ---- planned puts

-- a put for which memory was wanting is as planned, whether it was to fail or not
pub unmade_put : {state before : SinkState} → state ≡ before → (bytes written : List ℕ) (puts : ℕ) → puts ≡ counted state.puts → (plan : Option ℕ) → written ≡ state.written
    → Puts plan before bytes (Err put_fault.OutOfMemory) (record state { written = written; puts = puts })
unmade_put {state = state} is bytes written puts counts None same = ap₂ (λ xs n. record state { written = xs; puts = n }) same counts ∙ ap after_unmade_put is
unmade_put {state = state} is bytes written puts counts (Some kept) same = ap₂ (λ xs n. record state { written = xs; puts = n }) same counts ∙ ap after_unmade_put is

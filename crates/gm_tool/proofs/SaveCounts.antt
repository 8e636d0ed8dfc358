-- How many saves there were, by the status that is given.
use Rattle.std.proofs.Common.{◌≡◌, ◌⊎◌, ◌<◌, ◌≤◌, ℕ, List, inl, inr, Result, Ok, Err, refl, subst, sym, arith}
use Rattle.gm_host.specs.Count.{counted}
use Rattle.gm_host.specs.Store.{Contents}
use Rattle.gm_lines.specs.Refusing.{Role}
use Rattle.gm_tool.specs.Endings.{status_given}
use Rattle.gm_tool.specs.Loads.{IsSaveStatus, IsUnsavedStatus, CountsSaves}
use Rattle.gm_tool.specs.MadeRuns.{IsSaving, IsRunStatus}
use Rattle.gm_tool.specs.Migrating.{IsMigrated}
use Rattle.gm_mapfile.specs.MapText.{ListedMap}
use Rattle.gm_tool.specs.inner.Stops.{IsSoundStop, reply_of}
use Rattle.gm_tool.specs.declared.refusal.NoText.{NoText}
use Rattle.gm_tool.specs.declared.refusal.NoText.TheVariants as nothing
use Rattle.gm_tool.specs.declared.refusal.Refusal.TheVariants as refusals
use Rattle.gm_tool.specs.declared.refusal.Stop.{Stop}
use Rattle.gm_tool.specs.declared.refusal.Stop.TheVariants as stops
use Rattle.gm_tool.specs.declared.reply.Reply.{Reply}
use Rattle.gm_tool.specs.declared.running.Made.{Made}

-- ---- statuses

save_is : (status : ℕ) → IsSaveStatus status → (status < 2) ⊎ (status ≡ 5)
save_is status (inl e) = inl (omega (arith, e))
save_is status (inr (inl e)) = inl (omega (arith, e))
save_is status (inr (inr e)) = inr e

unsaved_is : (status : ℕ) → IsUnsavedStatus status → ((2 ≤ status) × (status ≤ 4)) ⊎ (status ≡ 8)
unsaved_is status (inl e) = inl (omega (arith, e), omega (arith, e))
unsaved_is status (inr (inl e)) = inl (omega (arith, e), omega (arith, e))
unsaved_is status (inr (inr (inl e))) = inl (omega (arith, e), omega (arith, e))
unsaved_is status (inr (inr (inr e))) = inr e

never_both : (status : ℕ) → IsSaveStatus status → IsUnsavedStatus status → ⊥
never_both status save unsaved = go (save_is status save) (unsaved_is status unsaved)
  where
    go : (status < 2) ⊎ (status ≡ 5) → ((2 ≤ status) × (status ≤ 4)) ⊎ (status ≡ 8) → ⊥
    go (inl low) (inl (least, most)) = omega (arith, low, least)
    go (inl low) (inr e) = omega (arith, low, e)
    go (inr five) (inl (least, most)) = omega (arith, five, most)
    go (inr five) (inr e) = omega (arith, five, e)

-- the statuses of a put that failed, and of want of memory, are neither
pub six_saves_none : IsSaveStatus 6 → ⊥
six_saves_none is = elim (save_is 6 is) [ inl low ↦ omega (arith, low) | inr e ↦ omega (arith, e) ]

pub seven_saves_none : IsSaveStatus 7 → ⊥
seven_saves_none is = elim (save_is 7 is) [ inl low ↦ omega (arith, low) | inr e ↦ omega (arith, e) ]

pub six_is_unsaved : IsUnsavedStatus 6 → ⊥
six_is_unsaved is = elim (unsaved_is 6 is) [ inl low ↦ omega (arith, low.1) | inr e ↦ omega (arith, e) ]

pub seven_is_unsaved : IsUnsavedStatus 7 → ⊥
seven_is_unsaved is = elim (unsaved_is 7 is) [ inl low ↦ omega (arith, low.1) | inr e ↦ omega (arith, e) ]

done_is_save : (status : ℕ) → IsRunStatus status → IsSaveStatus status
done_is_save status (inl zero) = inl zero
done_is_save status (inr one) = inr (inl one)

-- ---- counts

module _ (before after : ℕ) where
  none_counted : (status : ℕ) → (IsSaveStatus status → ⊥) → after ≡ before → CountsSaves status before after
  none_counted status none same = record { one_at_most = inl same; one = λ is. absurd (none is); none = λ _. same }

  unsaved_counted : (status : ℕ) → IsUnsavedStatus status → after ≡ before → CountsSaves status before after
  unsaved_counted status is same = none_counted status (λ save. never_both status save is) same

  -- a stop is none of a save
  pub none_saved : (stop : Stop) (P : Role → Type 0) → IsSoundStop stop P → after ≡ before → CountsSaves (status_given (reply_of stop)) before after
  none_saved (stops.Bad line) P h same = unsaved_counted 4 (inr (inr (inl refl))) same
  none_saved (stops.NoText nothing.OutOfMemory) P h same = none_counted 7 seven_saves_none same
  none_saved (stops.NoText (nothing.Refused (refusals.Load role))) P h same = unsaved_counted 3 (inr (inl refl)) same
  none_saved (stops.NoText (nothing.Refused (refusals.Size role))) P h same = unsaved_counted 8 (inr (inr (inr refl))) same
  none_saved (stops.NoText (nothing.Refused refusals.SizeOutput)) P h same = unsaved_counted 8 (inr (inr (inr refl))) same
  none_saved (stops.NoText (nothing.Refused refusals.Agree)) P h same = unsaved_counted 4 (inr (inr (inl refl))) same
  none_saved (stops.NoText (nothing.Refused refusals.Usage)) P h same = absurd h
  none_saved (stops.NoText (nothing.Refused refusals.Save)) P h same = absurd h

  -- nor is a migration whose text is too long, or that memory was wanting for
  pub none_migrated : (map : ListedMap) (none : NoText) → IsMigrated map (Err none) → after ≡ before → CountsSaves (status_given (Err none)) before after
  none_migrated map nothing.OutOfMemory h same = none_counted 7 seven_saves_none same
  none_migrated map (nothing.Refused why) h same = subst (λ w. CountsSaves (status_given (Err (nothing.Refused w))) before after) (sym h.0) (unsaved_counted 8 (inr (inr (inr refl))) same)

  -- what was made is saved once, whatever is answered
  pub once_saved : (contents later : Contents) (out : List ℕ) (made : Made) (fails : Type 0) (reply : Result Reply NoText) → IsRunStatus made.status → IsSaving contents out made fails later reply → after ≡ counted before
      → CountsSaves (status_given reply) before after
  once_saved contents later out made fails (Ok reply) run h once =
      record { one_at_most = inr once; one = λ _. once; none = λ is. absurd (never_both reply.status (done_is_save reply.status (subst IsRunStatus (sym h.0) run)) is) }
  once_saved contents later out made fails (Err nothing.OutOfMemory) run h once = record { one_at_most = inr once; one = λ _. once; none = λ is. absurd (seven_is_unsaved is) }
  once_saved contents later out made fails (Err (nothing.Refused refusals.Save)) run h once = record { one_at_most = inr once; one = λ _. once; none = λ is. absurd (never_both 5 (inr (inr refl)) is) }
  once_saved contents later out made fails (Err (nothing.Refused refusals.Usage)) run h once = absurd h
  once_saved contents later out made fails (Err (nothing.Refused (refusals.Load role))) run h once = absurd h
  once_saved contents later out made fails (Err (nothing.Refused (refusals.Size role))) run h once = absurd h
  once_saved contents later out made fails (Err (nothing.Refused refusals.SizeOutput)) run h once = absurd h
  once_saved contents later out made fails (Err (nothing.Refused refusals.Agree)) run h once = absurd h

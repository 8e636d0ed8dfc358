-- What a save leaves, and what is put after it.
use Rattle.std.proofs.Common.{◌≡◌, ℕ, List, inl, inr, Some, None, Result, Ok, Err, refl, sym, subst, ◌∙◌}
use Rattle.std.specs.Prelude.{IfSome, IfOk, IsErrOf}
use Rattle.gm_host.specs.Store.{Contents}
use Rattle.gm_host.specs.Saves.{IsSaved, IsSavedInPart}
use Rattle.gm_tool.specs.Answer.{Files, Answer, answers, Saved}
use Rattle.gm_tool.specs.Endings.{Whole, LoadFailed, SaveFailed, IsTextOf}
use Rattle.gm_lines.specs.Refusing.{Role}
use Rattle.gm_tool.specs.MadeRuns.{IsMade, IsStopFor, IsRunLoadFailure, IsSaving, IsRunText, IsRunStatus, IsMapBytes, HoldsMap, IsSoundReply}
use Rattle.gm_tool.specs.inner.Refusals.{refusal_answer}
use Rattle.gm_tool.specs.RunAnswer.{RunNames, IsRunAnswer, Done, report_of, saved_of, run_status}
use Rattle.gm_tool.specs.inner.Stops.{IsSoundStop, reply_of}
use Rattle.gm_tool.specs.Tool.{IsReplyStatus}
use Rattle.gm_tool.specs.declared.refusal.NoText.{NoText}
use Rattle.gm_tool.specs.declared.refusal.NoText.TheVariants as nothing
use Rattle.gm_tool.specs.declared.refusal.Refusal.TheVariants as refusals
use Rattle.gm_tool.specs.declared.refusal.Stop.{Stop}
use Rattle.gm_tool.specs.declared.refusal.Stop.TheVariants as stops
use Rattle.gm_tool.specs.declared.reply.Reply.{Reply}
use Rattle.gm_tool.specs.declared.running.Made.{Made}

-- what was made is saved, or saved in part, or not at all
module _ (D L : Answer → Type 0) (save_fails : Type 0) (files : Files) (after : Contents) (made : Made) (status : ℕ) (text : List ℕ) (wanted : Saved) where
  abbrev whole : Answer
  whole = record { status = status; text = text; saved = Some wanted }

  pub saved_text : D whole → made.status ≡ status → made.report.items ≡ text → made.map.items ≡ wanted.bytes → (reply : Result Reply NoText) → IsSaving (Some files) wanted.name made save_fails after reply → IsTextOf files D L save_fails after reply
  saved_text defined as_told as_put as_kept (Ok reply) (s, t, stored) = Whole whole defined (s ∙ as_told) (t ∙ as_put) (subst (λ b. IsSaved (Some files) wanted.name b after) as_kept stored)
  saved_text defined as_told as_put as_kept (Err nothing.OutOfMemory) h = h
  saved_text defined as_told as_put as_kept (Err (nothing.Refused refusals.Save)) (fails, kept) = SaveFailed fails whole wanted defined refl refl refl (subst (λ b. IsSavedInPart (Some files) wanted.name b after) as_kept kept)
  saved_text defined as_told as_put as_kept (Err (nothing.Refused refusals.Usage)) h = absurd h
  saved_text defined as_told as_put as_kept (Err (nothing.Refused (refusals.Load role))) h = absurd h
  saved_text defined as_told as_put as_kept (Err (nothing.Refused (refusals.Size role))) h = absurd h
  saved_text defined as_told as_put as_kept (Err (nothing.Refused refusals.SizeOutput)) h = absurd h
  saved_text defined as_told as_put as_kept (Err (nothing.Refused refusals.Agree)) h = absurd h

-- what stopped before anything was saved
pub stop_text : (D L : Answer → Type 0) (save_fails : Type 0) (files : Files) (after : Contents) → after ≡ Some files → (stop : Stop) → IsStopFor D L stop → IsTextOf files D L save_fails after (reply_of stop)
stop_text D L save_fails files after same (stops.Bad text) h = Whole (answers 4 text.items) h refl refl same
stop_text D L save_fails files after same (stops.NoText nothing.OutOfMemory) h = same
stop_text D L save_fails files after same (stops.NoText (nothing.Refused why)) (inl h) = Whole (refusal_answer why) h refl refl same
stop_text D L save_fails files after same (stops.NoText (nothing.Refused why)) (inr h) = LoadFailed h same

module _ (named : RunNames) (load_fails : ℕ → Type 0) (save_fails : Type 0) where
  -- the report of a run that was made, saved or not
  pub text_saved : (contents after : Contents) (made : Made) (reply : Result Reply NoText) → IfSome contents (λ files. IsMade files named load_fails (Ok made)) → IsSaving contents named.out made save_fails after reply
      → IfSome contents (λ files. IsRunText files named load_fails save_fails after reply)
  text_saved None after made reply h saving = tt
  text_saved (Some files) after made reply (inputs, ran, good, fits) saving =
      saved_text (IsRunAnswer files named) (IsRunLoadFailure files named load_fails) save_fails files after made (run_status ran.outcomes) (report_of inputs ran) (record { name = named.out; bytes = saved_of inputs ran })
      (Done inputs ran good fits.3 fits.4 refl) fits.0 fits.1 fits.2 reply saving

  pub stopped_text : (contents after : Contents) → after ≡ contents → (stop : Stop) → IfSome contents (λ files. IsMade files named load_fails (Err stop)) → IfSome contents (λ files. IsRunText files named load_fails save_fails after (reply_of stop))
  stopped_text None after same stop h = tt
  stopped_text (Some files) after same stop h = stop_text (IsRunAnswer files named) (IsRunLoadFailure files named load_fails) save_fails files after same stop h

-- ---- whatever the store tells

module _ (contents after : Contents) (out : List ℕ) (made : Made) (fails : Type 0) where
  held_map : (c d : Contents) → IsMapBytes made.map.items → IsSaved c out made.map.items d → HoldsMap d out
  held_map None d is h = subst (λ (x : Contents). HoldsMap x out) (sym h) tt
  held_map (Some files) None is h = absurd h
  held_map (Some files) (Some later) is h = (made.map.items, h.0, is)

  pub map_saved : (reply : Result Reply NoText) → IsMapBytes made.map.items → IsSaving contents out made fails after reply → IfOk reply (λ r. IsRunStatus r.status → HoldsMap after out)
  map_saved (Ok reply) is saving = λ status. held_map contents after is saving.2
  map_saved (Err none) is saving = tt

  pub status_saved : (reply : Result Reply NoText) → IsRunStatus made.status → IsSaving contents out made fails after reply → IfOk reply (λ r. IsReplyStatus r.status)
  status_saved (Ok reply) (inl zero) saving = inl (saving.0 ∙ zero)
  status_saved (Ok reply) (inr one) saving = inr (inl (saving.0 ∙ one))
  status_saved (Err none) status saving = tt

  -- want of memory changes nothing
  pub unsaved : (reply : Result Reply NoText) → IsSaving contents out made fails after reply → IsErrOf reply nothing.OutOfMemory → after ≡ contents
  unsaved (Ok reply) saving e = absurd cc
  unsaved (Err nothing.OutOfMemory) saving e = saving
  unsaved (Err (nothing.Refused why)) saving e = absurd cc

  pub saving_is_sound : (reply : Result Reply NoText) (P : Role → Type 0) → IsSaving contents out made fails after reply → IsSoundReply reply P fails
  saving_is_sound (Ok reply) P h = tt
  saving_is_sound (Err nothing.OutOfMemory) P h = tt
  saving_is_sound (Err (nothing.Refused refusals.Save)) P h = h.0
  saving_is_sound (Err (nothing.Refused refusals.Usage)) P h = absurd h
  saving_is_sound (Err (nothing.Refused (refusals.Load role))) P h = absurd h
  saving_is_sound (Err (nothing.Refused (refusals.Size role))) P h = absurd h
  saving_is_sound (Err (nothing.Refused refusals.SizeOutput)) P h = absurd h
  saving_is_sound (Err (nothing.Refused refusals.Agree)) P h = absurd h

-- ---- a stop

pub stop_is_sound : (stop : Stop) (P : Role → Type 0) (Q : Type 0) → IsSoundStop stop P → IsSoundReply (reply_of stop) P Q
stop_is_sound (stops.Bad line) P Q h = tt
stop_is_sound (stops.NoText nothing.OutOfMemory) P Q h = tt
stop_is_sound (stops.NoText (nothing.Refused (refusals.Load role))) P Q h = h
stop_is_sound (stops.NoText (nothing.Refused (refusals.Size role))) P Q h = tt
stop_is_sound (stops.NoText (nothing.Refused refusals.SizeOutput)) P Q h = tt
stop_is_sound (stops.NoText (nothing.Refused refusals.Agree)) P Q h = tt
stop_is_sound (stops.NoText (nothing.Refused refusals.Usage)) P Q h = absurd h
stop_is_sound (stops.NoText (nothing.Refused refusals.Save)) P Q h = absurd h

-- its status is 4, which is none of a run that is done
pub stop_status : (IsOne : ℕ → Type 0) → IsOne 4 → (stop : Stop) → IfOk (reply_of stop) (λ r. IsOne r.status)
stop_status IsOne four (stops.Bad line) = four
stop_status IsOne four (stops.NoText none) = tt

pub four_is_no_run : IsRunStatus 4 → ⊥
four_is_no_run (inl e) = let f : ◌≡◌ {A = ℕ} 4 0 = e in cc
four_is_no_run (inr e) = let f : ◌≡◌ {A = ℕ} 4 1 = e in cc

pub stop_is_no_run : (P : Type 0) (stop : Stop) → IfOk (reply_of stop) (λ r. IsRunStatus r.status → P)
stop_is_no_run P stop = stop_status (λ status. IsRunStatus status → P) (λ run. absurd (four_is_no_run run)) stop

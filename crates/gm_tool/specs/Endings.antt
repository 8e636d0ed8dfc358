-- What is to be printed, with which status, and what the store then holds: as a definition says, or as a fault of the store leaves it.
use Rattle.std.specs.Prelude.{◌≡◌, ℕ, List, Option, Some, None, Result, Ok, Err, codes}
use Rattle.gm_host.specs.Store.{Contents}
use Rattle.gm_host.specs.Saves.{IsSaved, IsSavedInPart}
use Rattle.gm_tool.specs.Answer.{Files, Answer, answers, Saved}
use Rattle.gm_lines.specs.Refusing.{refusal}
use Rattle.gm_tool.specs.inner.Refusals.{status_of, line_of}
use Rattle.gm_tool.specs.declared.refusal.NoText.{NoText}
use Rattle.gm_tool.specs.declared.refusal.NoText.TheVariants as nothing
use Rattle.gm_tool.specs.declared.reply.Reply.{Reply}

-- the store holds what is saved under its name, and all else as at entry
abbrev pub IsStored : Files → Option Saved → Contents → Type 0
IsStored files None after = after ≡ Some files
IsStored files (Some saved) after = IsSaved (Some files) saved.name saved.bytes after

-- `IsLoadFailure` says what a load that failed is answered with, and `save_fails` that the store's count of failed saves rose.
pub data IsEnding (files : Files) (IsDefined IsLoadFailure : Answer → Type 0) (save_fails : Type 0) (status : ℕ) (text : List ℕ) (after : Contents) : Type 0 where
  -- the defined answer, and what it saves
  Whole : (given : Answer) → IsDefined given → status ≡ given.status → text ≡ given.text → IsStored files given.saved after
      → IsEnding files IsDefined IsLoadFailure save_fails status text after
  -- the line of a load that failed; the store holds what it held
  LoadFailed : IsLoadFailure (answers status text) → after ≡ Some files → IsEnding files IsDefined IsLoadFailure save_fails status text after
  -- the line of a save that failed; what was to be saved is saved in part, or not at all
  SaveFailed : save_fails → (given : Answer) (saved : Saved) → IsDefined given → given.saved ≡ Some saved → status ≡ 5 → text ≡ refusal (codes "save OUT")
      → IsSavedInPart (Some files) saved.name saved.bytes after → IsEnding files IsDefined IsLoadFailure save_fails status text after

-- the status that is given with a text to print, or where memory ran out
abbrev pub status_given : Result Reply NoText → ℕ
status_given (Ok reply) = reply.status
status_given (Err nothing.OutOfMemory) = 7
status_given (Err (nothing.Refused why)) = status_of why

-- the text to print is that of an ending; where memory ran out, the store is as at entry
abbrev pub IsTextOf : Files → (Answer → Type 0) → (Answer → Type 0) → Type 0 → Contents → Result Reply NoText → Type 0
IsTextOf files IsDefined IsLoadFailure save_fails after (Ok reply) = IsEnding files IsDefined IsLoadFailure save_fails reply.status reply.text.items after
IsTextOf files IsDefined IsLoadFailure save_fails after (Err nothing.OutOfMemory) = after ≡ Some files
IsTextOf files IsDefined IsLoadFailure save_fails after (Err (nothing.Refused why)) = IsEnding files IsDefined IsLoadFailure save_fails (status_of why) (line_of why) after

-- What is asked, and what the load of its file and the judgement of its bytes make of it.
use Rattle.std.proofs.Common.{◌≡◌, ◌⊎◌, ℕ, List, [], ◌∷◌, ◌++◌, inl, inr, Option, Some, None, Result, Ok, Err, length, get_or, refl, sym, ap, ◌∙◌, subst, arith}
use Rattle.std.specs.Global.{Vec}
use Rattle.std.specs.Prelude.{IfSome, IfOk, IsErrOf, codes, decimal, ◌==◌, if◌then◌else◌, Bool, true, false}
use Rattle.std.specs.Str.{bytes_eq}
use Rattle.gm_host.specs.Store.{Contents, Lacks, IsCutFrom, IsCutFromHeld, IsLongerThan, OnAbsent, OnFailed, IfTooLong}
use Rattle.gm_host.specs.declared.fault.LoadFault.{LoadFault}
use Rattle.gm_host.specs.declared.fault.LoadFault.TheVariants as faults
use Rattle.gm_tool.specs.Answer.{most_bytes, Answer, answers, Files, IsFileAnswer, Asks, IsOutput, role_of, NoFile, LongFile, BadFile, LongOutput, Done, Shown, Printed, Checked, Counted}
use Rattle.gm_tool.specs.DualAnswer.{DualNames, AsksDual, IsDualReply}
use Rattle.gm_tool.specs.Endings.{IsEnding, Whole, LoadFailed, SaveFailed, IsStored, IsTextOf}
use Rattle.gm_tool.specs.MadeRuns.{IsRunText, IsSoundReply, HoldsMap, IsMapBytes}
use Rattle.gm_tool.specs.Migrating.{MigrateNames, AsksMigrate, IsMigrateText}
use Rattle.gm_tool.specs.GridAnswer.{AsksGrid, IsGridReply}
use Rattle.gm_tool.specs.Program.{IsCommand, IsFileCommand, IsRunCommand, IsSavingCommand, ReadsNoFile, ReadsOneFile, IsDualCommand, Usage, OfFile, OfRun, OfMigrate, OfDual, OfGrid}
use Rattle.gm_tool.specs.RunAnswer.{RunNames, AsksRun}
use Rattle.gm_lines.specs.Checking.{check_status}
use Rattle.gm_tool.specs.Answer as answer
use Rattle.gm_lines.specs.Refusing as refusing
use Rattle.gm_tool.specs.declared.refusal.NoText.{NoText}
use Rattle.gm_tool.specs.declared.refusal.NoText.TheVariants as nothing
use Rattle.gm_tool.specs.declared.refusal.Refusal.TheVariants as refusals
use Rattle.gm_tool.specs.declared.refusal.Role.{Role}
use Rattle.gm_tool.specs.declared.reply.Reply.{Reply}
use Rattle.gm_tool.specs.inner.Refusals.{role_in, refusal_answer}
use Rattle.gm_tool.specs.inner.Replies.{IsLoading, IsLong, IsJudged, no_file_for, IsPlainStatus}
use Rattle.gm_tool.specs.Tool.{IsFileText, IsText, IsFileLoadFailure, IsReplyStatus, IsCheck, HoldsSaved}
use Rattle.gm_tool.specs.Tool as tool

pub two_items : {T : Type 0} (xs : List T) (a b : T) → length xs ≡ 2 → a ≡ get_or xs 0 a → b ≡ get_or xs 1 b → xs ≡ a ∷ b ∷ []
two_items [] a b e p q = absurd (omega arith)
two_items (x ∷ []) a b e p q = absurd (omega arith)
two_items (x ∷ y ∷ []) a b e p q = cc
two_items (x ∷ y ∷ z ∷ xs) a b e p q = absurd (omega arith)

pub five_items : {T : Type 0} (xs : List T) (a b c d e : T) → length xs ≡ 5 → a ≡ get_or xs 0 a → b ≡ get_or xs 1 b → c ≡ get_or xs 2 c → d ≡ get_or xs 3 d → e ≡ get_or xs 4 e → xs ≡ a ∷ b ∷ c ∷ d ∷ e ∷ []
five_items [] a b c d e n p q r s t = absurd (omega arith)
five_items (u ∷ []) a b c d e n p q r s t = absurd (omega arith)
five_items (u ∷ v ∷ []) a b c d e n p q r s t = absurd (omega arith)
five_items (u ∷ v ∷ w ∷ []) a b c d e n p q r s t = absurd (omega arith)
five_items (u ∷ v ∷ w ∷ x ∷ []) a b c d e n p q r s t = absurd (omega arith)
five_items (u ∷ v ∷ w ∷ x ∷ y ∷ []) a b c d e n p q r s t = cc
five_items (u ∷ v ∷ w ∷ x ∷ y ∷ z ∷ xs) a b c d e n p q r s t = absurd (omega arith)

-- the answer to a fault of a load, by the clauses of `load`
pub no_file_is : (contents : Contents) (name : List ℕ) (role : Role) (fails : Type 0) (fault : LoadFault) → OnAbsent {T = Vec ℕ} (Err fault) (Lacks contents name)
    → OnFailed {T = Vec ℕ} (Err fault) fails → IfTooLong {T = Vec ℕ} (Err fault) (λ seen. IsCutFromHeld contents name most_bytes seen) → IsLoading contents name role fails (Err (no_file_for role fault))
no_file_is contents name role fails faults.Absent absent failed long = (refl, inr absent)
no_file_is contents name role fails faults.Failed absent failed long = (refl, inl failed)
no_file_is contents name role fails (faults.TooLong seen) absent failed long = (refl, cut contents long)
  where
    held : (file : Option (List ℕ)) → IsCutFrom file most_bytes seen → IsLongerThan most_bytes file
    held None h = absurd h
    held (Some bytes) h = h.0

    cut : (contents : Contents) → IsCutFromHeld contents name most_bytes seen → IsLong contents name
    cut None h = tt
    cut (Some files) h = held (files name) h
no_file_is contents name role fails faults.OutOfMemory absent failed long = tt

module _ (command : answer.Command) (name : List ℕ) (role : Role) (of : role_in role ≡ role_of command) (fails : Type 0) (load_fails : ℕ → Type 0) (up : fails → load_fails 1) (save_fails : Type 0) where
  load_words : (other : Role) → other ≡ role → refusal_answer (refusals.Load other) ≡ answers 3 (refusing.refusal (codes "load " ++ refusing.role_word (role_of command)))
  load_words other e = ap (λ (r : refusing.Role). answers 3 (refusing.refusal (codes "load " ++ refusing.role_word r))) (ap role_in e ∙ of)

  size_words : (other : Role) → other ≡ role → refusal_answer (refusals.Size other) ≡ answers 8 (refusing.refusal (codes "size " ++ refusing.role_word (role_of command)))
  size_words other e = ap (λ (r : refusing.Role). answers 8 (refusing.refusal (codes "size " ++ refusing.role_word r))) (ap role_in e ∙ of)

  module _ (files : Files) (after : Contents) (same : after ≡ Some files) where
    -- the defined answer
    as_defined : (given : Answer) → IsFileAnswer files command name given → given.saved ≡ None → IsEnding files (IsFileAnswer files command name) (IsFileLoadFailure command load_fails) save_fails given.status given.text after
    as_defined given is none = Whole given is refl refl (subst (λ s. IsStored files s after) (sym none) same)

    -- a load that gave no file answers as it must
    not_loaded_to : (none : NoText) → IsLoading (Some files) name role fails (Err none) → IsFileText files command name load_fails save_fails after (Err none)
    not_loaded_to nothing.OutOfMemory h = same
    not_loaded_to (nothing.Refused (refusals.Load other)) (e, inl failed) = LoadFailed (up failed, load_words other e) same
    not_loaded_to (nothing.Refused (refusals.Load other)) (e, inr lacks) = as_defined (refusal_answer (refusals.Load other)) (NoFile lacks (load_words other e)) refl
    not_loaded_to (nothing.Refused (refusals.Size other)) (e, h) = as_defined (refusal_answer (refusals.Size other)) (long (files name) refl h) refl
      where
        long : (file : Option (List ℕ)) → files name ≡ file → IsLongerThan most_bytes file → IsFileAnswer files command name (refusal_answer (refusals.Size other))
        long None is h = absurd h
        long (Some bytes) is h = LongFile bytes is h (size_words other e)
    not_loaded_to (nothing.Refused refusals.Usage) h = absurd h
    not_loaded_to (nothing.Refused refusals.SizeOutput) h = absurd h
    not_loaded_to (nothing.Refused refusals.Agree) h = absurd h
    not_loaded_to (nothing.Refused refusals.Save) h = absurd h

    loaded_to : (bytes : Vec ℕ) (reply : Result Reply NoText) → IsLoading (Some files) name role fails (Ok bytes) → IsJudged bytes.items command reply → IsFileText files command name load_fails save_fails after reply
    loaded_to bytes (Ok reply) loading (inl (output, fits)) = as_defined (answers reply.status reply.text.items) (Done bytes.items reply.status reply.text.items (loading.1, loading.0) output fits refl) refl
    loaded_to bytes (Ok reply) loading (inr (four, (why, bad, line))) =
        as_defined (answers reply.status reply.text.items) (BadFile bytes.items why (loading.1, loading.0) bad (ap (λ (k : ℕ). answers k reply.text.items) four ∙ ap (λ (t : List ℕ). answers 4 t) line)) refl
    loaded_to bytes (Err nothing.OutOfMemory) loading h = same
    loaded_to bytes (Err (nothing.Refused refusals.SizeOutput)) loading (status, text, output, long) = as_defined (refusal_answer refusals.SizeOutput) (LongOutput bytes.items status text (loading.1, loading.0) output long refl) refl
    loaded_to bytes (Err (nothing.Refused refusals.Usage)) loading h = absurd h
    loaded_to bytes (Err (nothing.Refused (refusals.Load other))) loading h = absurd h
    loaded_to bytes (Err (nothing.Refused (refusals.Size other))) loading h = absurd h
    loaded_to bytes (Err (nothing.Refused refusals.Agree)) loading h = absurd h
    loaded_to bytes (Err (nothing.Refused refusals.Save)) loading h = absurd h

  pub not_loaded : (contents after : Contents) → after ≡ contents → (none : NoText) → IsLoading contents name role fails (Err none) → IfSome contents (λ files. IsFileText files command name load_fails save_fails after (Err none))
  not_loaded None after same none h = tt
  not_loaded (Some files) after same none h = not_loaded_to files after same none h

  -- what a loaded file gives is as it must be
  pub loaded : (contents after : Contents) → after ≡ contents → (bytes : Vec ℕ) (reply : Result Reply NoText) → IsLoading contents name role fails (Ok bytes) → IsJudged bytes.items command reply
      → IfSome contents (λ files. IsFileText files command name load_fails save_fails after reply)
  loaded None after same bytes reply loading h = tt
  loaded (Some files) after same bytes reply loading h = loaded_to files after same bytes reply loading h

checked_status : (refused : ℕ) → IsReplyStatus (check_status refused)
checked_status refused = either (refused == 0)
  where
    either : (none : Bool) → IsReplyStatus (if none then 0 else 1)
    either true = inl refl
    either false = inr (inl refl)

output_status : (bytes : List ℕ) (command : answer.Command) (status : ℕ) (text : List ℕ) → IsOutput bytes command status text → IsReplyStatus status
output_status bytes command status text (Shown version listed h) = inl refl
output_status bytes command status text (Printed version schema rules h) = inl refl
output_status bytes command status text (Checked version schema rules refused lines h is) = checked_status refused
output_status bytes command status text (Counted version listed _ h is) = inl refl

-- the statuses of what is judged
pub judged_status : (bytes : List ℕ) (command : answer.Command) (reply : Result Reply NoText) → IsJudged bytes command reply → IfOk reply (λ r. IsReplyStatus r.status)
judged_status bytes command (Ok reply) (inl (output, fits)) = output_status bytes command reply.status reply.text.items output
judged_status bytes command (Ok reply) (inr (four, line)) = inr (inr four)
judged_status bytes command (Err none) h = tt

-- the faults that a command on one file answers
pub load_is_sound : (contents : Contents) (name : List ℕ) (role : Role) (fails later : Type 0) → (fails → later) → (none : NoText) (Q : Type 0) → IsLoading contents name role fails (Err none)
    → IsSoundReply (Err none) (λ _. later ⊎ Lacks contents name) Q
load_is_sound contents name role fails later up nothing.OutOfMemory Q h = tt
load_is_sound contents name role fails later up (nothing.Refused (refusals.Load other)) Q h = elim h.1 [ inl failed ↦ inl (up failed) | inr lacks ↦ inr lacks ]
load_is_sound contents name role fails later up (nothing.Refused (refusals.Size other)) Q h = tt
load_is_sound contents name role fails later up (nothing.Refused refusals.Usage) Q h = absurd h
load_is_sound contents name role fails later up (nothing.Refused refusals.SizeOutput) Q h = tt
load_is_sound contents name role fails later up (nothing.Refused refusals.Agree) Q h = tt
load_is_sound contents name role fails later up (nothing.Refused refusals.Save) Q h = absurd h

-- what is judged is no fault of the store
pub judged_is_sound : (bytes : List ℕ) (command : answer.Command) (reply : Result Reply NoText) (P : refusing.Role → Type 0) (Q : Type 0) → IsJudged bytes command reply → IsSoundReply reply P Q
judged_is_sound bytes command (Ok reply) P Q h = tt
judged_is_sound bytes command (Err nothing.OutOfMemory) P Q h = tt
judged_is_sound bytes command (Err (nothing.Refused refusals.SizeOutput)) P Q h = tt
judged_is_sound bytes command (Err (nothing.Refused refusals.Usage)) P Q h = absurd h
judged_is_sound bytes command (Err (nothing.Refused (refusals.Load other))) P Q h = absurd h
judged_is_sound bytes command (Err (nothing.Refused (refusals.Size other))) P Q h = tt
judged_is_sound bytes command (Err (nothing.Refused refusals.Agree)) P Q h = tt
judged_is_sound bytes command (Err (nothing.Refused refusals.Save)) P Q h = absurd h

output_refuses : (bytes : List ℕ) (command : answer.Command) (status : ℕ) (text : List ℕ) → IsOutput bytes command status text → status ≡ 1 → command ≡ answer.Check
output_refuses bytes command status text (Shown version listed h) one = absurd cc
output_refuses bytes command status text (Printed version schema rules h) one = absurd cc
output_refuses bytes command status text (Checked version schema rules refused lines h is) one = refl
output_refuses bytes command status text (Counted version listed _ h is) one = absurd cc

-- only a check answers that a rule is refused
pub judged_refuses : (bytes : List ℕ) (command : answer.Command) (reply : Result Reply NoText) → IsJudged bytes command reply → IfOk reply (λ r. r.status ≡ 1 → command ≡ answer.Check)
judged_refuses bytes command (Ok reply) (inl (output, fits)) = λ one. output_refuses bytes command reply.status reply.text.items output one
judged_refuses bytes command (Ok reply) (inr (four, line)) = λ one. absurd cc
judged_refuses bytes command (Err none) h = tt

-- ---- any command

module _ {D E L M : Answer → Type 0} (to : (given : Answer) → D given → E given) (from : (given : Answer) → L given → M given) (files : Files) (save_fails : Type 0) (after : Contents) where
  ending_to : (status : ℕ) (text : List ℕ) → IsEnding files D L save_fails status text after → IsEnding files E M save_fails status text after
  ending_to status text (Whole given is s t stored) = Whole given (to given is) s t stored
  ending_to status text (LoadFailed is same) = LoadFailed (from _ is) same
  ending_to status text (SaveFailed fails given saved is e s t kept) = SaveFailed fails given saved (to given is) e s t kept

  text_to : (reply : Result Reply NoText) → IsTextOf files D L save_fails after reply → IsTextOf files E M save_fails after reply
  text_to (Ok reply) h = ending_to reply.status reply.text.items h
  text_to (Err nothing.OutOfMemory) h = h
  text_to (Err (nothing.Refused why)) h = ending_to _ _ h

module _ (words : List (List ℕ)) (load_fails : ℕ → Type 0) (save_fails : Type 0) (after : Contents) (reply : Result Reply NoText) where
  pub file_text : (contents : Contents) (command : answer.Command) (name : List ℕ) → Asks words command name → IfSome contents (λ files. IsFileText files command name load_fails save_fails after reply)
      → IfSome contents (λ files. IsText words files load_fails save_fails after reply)
  file_text None command name asks h = tt
  file_text (Some files) command name asks h = text_to (λ given is. OfFile command name asks is) (λ given is. tool.OfFile command name asks is) files save_fails after reply h

  pub run_text : (contents : Contents) (named : RunNames) → AsksRun words named → IfSome contents (λ files. IsRunText files named load_fails save_fails after reply)
      → IfSome contents (λ files. IsText words files load_fails save_fails after reply)
  run_text None named asks h = tt
  run_text (Some files) named asks h = text_to (λ given is. OfRun named asks is) (λ given is. tool.OfRun named asks is) files save_fails after reply h

  pub migrate_text : (contents : Contents) (named : MigrateNames) → AsksMigrate words named → IfSome contents (λ files. IsMigrateText files named load_fails save_fails after reply)
      → IfSome contents (λ files. IsText words files load_fails save_fails after reply)
  migrate_text None named asks h = tt
  migrate_text (Some files) named asks h = text_to (λ given is. OfMigrate named asks is) (λ given is. tool.OfMigrate named asks is) files save_fails after reply h

  pub dual_text : (contents : Contents) (named : DualNames) → AsksDual words named → IfSome contents (λ files. IsDualReply files named load_fails save_fails after reply)
      → IfSome contents (λ files. IsText words files load_fails save_fails after reply)
  dual_text None named asks h = tt
  dual_text (Some files) named asks h = text_to (λ given is. OfDual named asks is) (λ given is. tool.OfDual named asks is) files save_fails after reply h

-- the line of a grid, which reads no file
pub grid_text : (words : List (List ℕ)) (m : ℕ) → AsksGrid words m → (load_fails : ℕ → Type 0) (save_fails : Type 0) (contents : Contents) (reply : Result Reply NoText) → IsGridReply m reply
    → IfSome contents (λ files. IsText words files load_fails save_fails contents reply)
grid_text words m asks load_fails save_fails None reply h = tt
grid_text words m asks load_fails save_fails (Some files) (Ok reply) (zero, text) = Whole (answers 0 reply.text.items) (OfGrid m asks (reply.text.items, text, refl)) zero refl refl
grid_text words m asks load_fails save_fails (Some files) (Err nothing.OutOfMemory) h = refl
grid_text words m asks load_fails save_fails (Some files) (Err (nothing.Refused why)) h = absurd cc

pub usage_text : (words : List (List ℕ)) (load_fails : ℕ → Type 0) (save_fails : Type 0) (contents : Contents) → (IsCommand words → ⊥) → IfSome contents (λ files. IsText words files load_fails save_fails contents (Err (nothing.Refused refusals.Usage)))
usage_text words load_fails save_fails None none = tt
usage_text words load_fails save_fails (Some files) none = Whole (refusal_answer refusals.Usage) (Usage none refl) refl refl refl

-- no answer but to words that are no command is for them
pub sound_no_usage : (reply : Result Reply NoText) (P : refusing.Role → Type 0) (Q : Type 0) → IsSoundReply reply P Q → IsErrOf reply (nothing.Refused refusals.Usage) → ⊥
sound_no_usage (Ok reply) P Q h e = absurd cc
sound_no_usage (Err nothing.OutOfMemory) P Q h e = absurd cc
sound_no_usage (Err (nothing.Refused refusals.Usage)) P Q h e = h
sound_no_usage (Err (nothing.Refused (refusals.Load role))) P Q h e = absurd cc
sound_no_usage (Err (nothing.Refused (refusals.Size role))) P Q h e = absurd cc
sound_no_usage (Err (nothing.Refused refusals.SizeOutput)) P Q h e = absurd cc
sound_no_usage (Err (nothing.Refused refusals.Agree)) P Q h e = absurd cc
sound_no_usage (Err (nothing.Refused refusals.Save)) P Q h e = absurd cc

-- a command on one file is refused for a rule under check alone
pub file_refused : (words : List (List ℕ)) (command : answer.Command) (name : List ℕ) (R : Type 0) → Asks words command name → (reply : Result Reply NoText) → IfOk reply (λ r. r.status ≡ 1 → command ≡ answer.Check)
    → IfOk reply (λ r. r.status ≡ 1 → IsCheck words ⊎ R)
file_refused words command name R asks (Ok reply) h = λ one. inl (name, subst (λ c. Asks words c name) (h one) asks)
file_refused words command name R asks (Err none) h = tt

pub differ : (a b : List ℕ) → bytes_eq a a ≡ true → bytes_eq a b ≡ false → a ≡ b → ⊥
differ a b same other e = let both : true ≡ false = sym same ∙ ap (bytes_eq a) e ∙ other in absurd cc

-- no words are two of the commands
pub file_is_no_run : (words : List (List ℕ)) (command : answer.Command) (name : List ℕ) (named : RunNames) → Asks words command name → AsksRun words named → ⊥
file_is_no_run words command name named asks runs = let e : length words ≡ 2 = ap length asks in let f : length words ≡ 5 = ap length runs in omega (arith, e, f)

pub file_is_no_migrate : (words : List (List ℕ)) (command : answer.Command) (name : List ℕ) (named : MigrateNames) → Asks words command name → AsksMigrate words named → ⊥
file_is_no_migrate words command name named asks migrates = let e : length words ≡ 2 = ap length asks in let f : length words ≡ 3 = ap length migrates in omega (arith, e, f)

pub run_is_no_migrate : (words : List (List ℕ)) (named : RunNames) (other : MigrateNames) → AsksRun words named → AsksMigrate words other → ⊥
run_is_no_migrate words named other runs migrates = let e : length words ≡ 5 = ap length runs in let f : length words ≡ 3 = ap length migrates in omega (arith, e, f)

pub file_is_no_dual : (words : List (List ℕ)) (command : answer.Command) (name : List ℕ) (named : DualNames) → Asks words command name → AsksDual words named → ⊥
file_is_no_dual words command name named asks duals = let e : length words ≡ 2 = ap length asks in let f : length words ≡ 3 = ap length duals in omega (arith, e, f)

pub run_is_no_dual : (words : List (List ℕ)) (named : RunNames) (other : DualNames) → AsksRun words named → AsksDual words other → ⊥
run_is_no_dual words named other runs duals = let e : length words ≡ 5 = ap length runs in let f : length words ≡ 3 = ap length duals in omega (arith, e, f)

pub migrate_is_no_dual : (words : List (List ℕ)) (named : MigrateNames) (other : DualNames) → AsksMigrate words named → AsksDual words other → ⊥
migrate_is_no_dual words named other migrates duals =
    let both : ◌≡◌ {A = List (List ℕ)} (codes "migrate" ∷ named.map ∷ named.out ∷ []) (codes "dual" ∷ other.map ∷ other.book ∷ []) = sym migrates ∙ duals in
    let word : codes "migrate" ≡ codes "dual" = cc both in
    differ (codes "migrate") (codes "dual") refl refl word

pub file_is_no_grid : (words : List (List ℕ)) (command : answer.Command) (name : List ℕ) (m : ℕ) → Asks words command name → AsksGrid words m → ⊥
file_is_no_grid words command name m asks grid = other command asks
  where
    same : (command : answer.Command) → Asks words command name → answer.command_word command ≡ codes "grid"
    same command asks =
        let both : ◌≡◌ {A = List (List ℕ)} (answer.command_word command ∷ name ∷ []) (codes "grid" ∷ decimal m ∷ []) = sym asks ∙ grid.is in
        cc both

    other : (command : answer.Command) → Asks words command name → ⊥
    other answer.Show asks = differ (codes "show") (codes "grid") refl refl (same answer.Show asks)
    other answer.Book asks = differ (codes "book") (codes "grid") refl refl (same answer.Book asks)
    other answer.Check asks = differ (codes "check") (codes "grid") refl refl (same answer.Check asks)
    other answer.Cells asks = differ (codes "cells") (codes "grid") refl refl (same answer.Cells asks)

pub run_is_no_grid : (words : List (List ℕ)) (named : RunNames) (m : ℕ) → AsksRun words named → AsksGrid words m → ⊥
run_is_no_grid words named m runs grid = let e : length words ≡ 5 = ap length runs in let f : length words ≡ 2 = ap length grid.is in omega (arith, e, f)

pub migrate_is_no_grid : (words : List (List ℕ)) (named : MigrateNames) (m : ℕ) → AsksMigrate words named → AsksGrid words m → ⊥
migrate_is_no_grid words named m migrates grid = let e : length words ≡ 3 = ap length migrates in let f : length words ≡ 2 = ap length grid.is in omega (arith, e, f)

pub dual_is_no_grid : (words : List (List ℕ)) (named : DualNames) (m : ℕ) → AsksDual words named → AsksGrid words m → ⊥
dual_is_no_grid words named m duals grid = let e : length words ≡ 3 = ap length duals in let f : length words ≡ 2 = ap length grid.is in omega (arith, e, f)

-- a command that reads files
abbrev pub ReadsFiles : List (List ℕ) → Type 0
ReadsFiles words = IsFileCommand words ⊎ (IsSavingCommand words ⊎ IsDualCommand words)

-- a grid is none
pub grid_reads_none : (words : List (List ℕ)) (m : ℕ) → AsksGrid words m → ReadsFiles words → ⊥
grid_reads_none words m grid (inl (command, name, asks)) = file_is_no_grid words command name m asks grid
grid_reads_none words m grid (inr (inl (inl (named, runs)))) = run_is_no_grid words named m runs grid
grid_reads_none words m grid (inr (inl (inr (named, migrates)))) = migrate_is_no_grid words named m migrates grid
grid_reads_none words m grid (inr (inr (named, duals))) = dual_is_no_grid words named m duals grid

pub reads_some : (words : List (List ℕ)) → ReadsFiles words → ReadsNoFile words → ⊥
reads_some words (inl file) (inl none) = none (inl file)
reads_some words (inr (inl saves)) (inl none) = none (inr (inl saves))
reads_some words (inr (inr duals)) (inl none) = none (inr (inr (inl duals)))
reads_some words reads (inr (m, grid)) = grid_reads_none words m grid reads

pub grid_reads_no_one : (words : List (List ℕ)) (m : ℕ) → AsksGrid words m → ReadsOneFile words → ⊥
grid_reads_no_one words m grid (inl file) = grid_reads_none words m grid (inl file)
grid_reads_no_one words m grid (inr migrates) = grid_reads_none words m grid (inr (inl (inr migrates)))

pub run_reads_no_one : (words : List (List ℕ)) (named : RunNames) → AsksRun words named → ReadsOneFile words → ⊥
run_reads_no_one words named runs (inl (command, name, asks)) = file_is_no_run words command name named asks runs
run_reads_no_one words named runs (inr (other, asks)) = run_is_no_migrate words named other runs asks

pub dual_reads_no_one : (words : List (List ℕ)) (named : DualNames) → AsksDual words named → ReadsOneFile words → ⊥
dual_reads_no_one words named duals (inl (command, name, asks)) = file_is_no_dual words command name named asks duals
dual_reads_no_one words named duals (inr (other, asks)) = migrate_is_no_dual words other named asks duals

-- the files of a run are those that its words name
pub same_named : (words : List (List ℕ)) (one other : RunNames) → AsksRun words one → AsksRun words other → one ≡ other
same_named words one other a b =
    let both : ◌≡◌ {A = List (List ℕ)} (codes "run" ∷ one.map ∷ one.book ∷ one.script ∷ one.out ∷ []) (codes "run" ∷ other.map ∷ other.book ∷ other.script ∷ other.out ∷ []) = sym a ∙ b in
    let map : one.map ≡ other.map = cc both in
    let book : one.book ≡ other.book = cc both in
    let script : one.script ≡ other.script = cc both in
    let out : one.out ≡ other.out = cc both in
    λ k. record { map = map k; book = book k; script = script k; out = out k }

-- and so are those of a migration
pub same_migrated : (words : List (List ℕ)) (one other : MigrateNames) → AsksMigrate words one → AsksMigrate words other → one ≡ other
same_migrated words one other a b =
    let both : ◌≡◌ {A = List (List ℕ)} (codes "migrate" ∷ one.map ∷ one.out ∷ []) (codes "migrate" ∷ other.map ∷ other.out ∷ []) = sym a ∙ b in
    let map : one.map ≡ other.map = cc both in
    let out : one.out ≡ other.out = cc both in
    λ k. record { map = map k; out = out k }

-- and those of `dual`
pub same_dual : (words : List (List ℕ)) (one other : DualNames) → AsksDual words one → AsksDual words other → one ≡ other
same_dual words one other a b =
    let both : ◌≡◌ {A = List (List ℕ)} (codes "dual" ∷ one.map ∷ one.book ∷ []) (codes "dual" ∷ other.map ∷ other.book ∷ []) = sym a ∙ b in
    let map : one.map ≡ other.map = cc both in
    let book : one.book ≡ other.book = cc both in
    λ k. record { map = map k; book = book k }

-- a run is refused for a line
pub run_refused : (words : List (List ℕ)) (named : RunNames) → AsksRun words named → (reply : Result Reply NoText) → IfOk reply (λ r. r.status ≡ 1 → IsCheck words ⊎ IsRunCommand words)
run_refused words named asks (Ok reply) = λ one. inr (named, asks)
run_refused words named asks (Err none) = tt

-- a migration never is, nor is `dual`
pub plain_refused : (P : Type 0) (reply : Result Reply NoText) → IfOk reply (λ r. IsPlainStatus r.status) → IfOk reply (λ r. r.status ≡ 1 → P)
plain_refused P (Ok reply) (inl zero) = λ one. absurd (let f : ◌≡◌ {A = ℕ} 0 1 = sym zero ∙ one in cc)
plain_refused P (Ok reply) (inr four) = λ one. absurd (let f : ◌≡◌ {A = ℕ} 4 1 = sym four ∙ one in cc)
plain_refused P (Err none) h = tt

pub plain_status : (reply : Result Reply NoText) → IfOk reply (λ r. IsPlainStatus r.status) → IfOk reply (λ r. IsReplyStatus r.status)
plain_status (Ok reply) (inl zero) = inl zero
plain_status (Ok reply) (inr four) = inr (inr four)
plain_status (Err none) h = tt

-- the map is held under the name that the words give
pub run_holds : (words : List (List ℕ)) (named : RunNames) (contents : Contents) → AsksRun words named → HoldsMap contents named.out → HoldsSaved IsMapBytes words contents
run_holds words named contents asks h = (
  λ other asks_too. subst (λ (n : RunNames). HoldsMap contents n.out) (same_named words named other asks asks_too) h,
  λ other asks_too. absurd (run_is_no_migrate words named other asks asks_too),
)

pub migrate_holds : (words : List (List ℕ)) (named : MigrateNames) (contents : Contents) → AsksMigrate words named → HoldsMap contents named.out → HoldsSaved IsMapBytes words contents
migrate_holds words named contents asks h = (
  λ other asks_too. absurd (run_is_no_migrate words other named asks_too asks),
  λ other asks_too. subst (λ (n : MigrateNames). HoldsMap contents n.out) (same_migrated words named other asks asks_too) h,
)

-- words that are no command that saves hold none
pub none_holds : (IsSuch : List ℕ → Type 0) (words : List (List ℕ)) (contents : Contents) → (IsSavingCommand words → ⊥) → HoldsSaved IsSuch words contents
none_holds IsSuch words contents none = (λ named runs. absurd (none (inl (named, runs))), λ named migrates. absurd (none (inr (named, migrates))))

-- ---- a grid: done, or without memory

module _ (m : ℕ) where
  pub grid_status : (reply : Result Reply NoText) → IsGridReply m reply → IfOk reply (λ r. IsReplyStatus r.status)
  grid_status (Ok reply) h = inl h.0
  grid_status (Err none) h = tt

  pub grid_refused : (P : Type 0) (reply : Result Reply NoText) → IsGridReply m reply → IfOk reply (λ r. r.status ≡ 1 → P)
  grid_refused P (Ok reply) h = λ one. absurd (let f : ◌≡◌ {A = ℕ} 0 1 = sym h.0 ∙ one in cc)
  grid_refused P (Err none) h = tt

  pub grid_is_sound : (P : refusing.Role → Type 0) (Q : Type 0) (reply : Result Reply NoText) → IsGridReply m reply → IsSoundReply reply P Q
  grid_is_sound P Q (Ok reply) h = tt
  grid_is_sound P Q (Err nothing.OutOfMemory) h = tt
  grid_is_sound P Q (Err (nothing.Refused why)) h = absurd cc

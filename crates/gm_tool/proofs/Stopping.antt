-- Why a file of a run stops it.
use Rattle.std.proofs.Common.{◌≡◌, ◌⊎◌, ℕ, ◌≤◌, List, ◌++◌, inl, inr, Option, Some, None, Result, Ok, Err, length, refl, sym, ap, subst, ◌∙◌}
use Rattle.std.specs.Global.{Vec}
use Rattle.std.specs.Prelude.{IfOk, IfErr, codes}
use Rattle.gm_book.specs.declared.fault.BookFault.{BookFault}
use Rattle.gm_book.specs.inner.Faults as book_faults
use Rattle.gm_host.specs.Store.{Contents, Lacks, IsHeld, IsLongerThan}
use Rattle.gm_model.specs.declared.rule.RuleFault.{RuleFault}
use Rattle.gm_model.specs.declared.schema.Schema.{Schema}
use Rattle.gm_model.specs.Acceptance.{IsFault}
use Rattle.gm_model.specs.Rules.{Rule}
use Rattle.gm_script.specs.declared.fault.ScriptFault.{ScriptFault}
use Rattle.gm_script.specs.declared.fault.ScriptFault.TheVariants as script
use Rattle.gm_script.specs.inner.Faults as script_faults
use Rattle.gm_tool.specs.Answer.{Files, Answer, answers, most_bytes}
use Rattle.gm_lines.specs.Refusing.{TheMap, TheBook, TheScript, role_word, refusal, IsBadLine}
use Rattle.gm_lines.specs.Refusing as refusing
use Rattle.gm_lines.specs.ScriptFaults as first_script
use Rattle.gm_tool.specs.inner.Books.{IsRuleStop}
use Rattle.gm_lines.specs.Checking.{rule_fault_words}
use Rattle.gm_lines.specs.inner.FaultLines.{IsSaidOfBook, IsSaidOfScript, book_words, script_words}
use Rattle.gm_tool.specs.inner.Refusals.{role_in, refusal_answer}
use Rattle.gm_tool.specs.inner.Replies.{IsLoading}
use Rattle.gm_tool.specs.RunAnswer.{IsRuleWhy, IsBadMap, IsBadBookText, IsBadBook, IsBadScript, Unread, IsFailing, Missing, Long, Bad}
use Rattle.gm_tool.specs.inner.Stops.{IsStopWith, IsBadFor, IsRoleStop, IsSoundStop, IsFrom}
use Rattle.gm_tool.specs.declared.refusal.NoText.{NoText}
use Rattle.gm_tool.specs.declared.refusal.NoText.TheVariants as nothing
use Rattle.gm_tool.specs.declared.refusal.Refusal.TheVariants as refusals
use Rattle.gm_tool.specs.declared.refusal.Role.{Role}
use Rattle.gm_tool.specs.declared.refusal.Stop.{Stop}
use Rattle.gm_tool.specs.declared.refusal.Stop.TheVariants as stops
use Rattle.gm_tool.proofs.Judging.{book_is_bad}

-- ---- texts

-- the line of a text that can't be read
stopped : {E : Type 0} (role : refusing.Role) (IsWhy : List ℕ → Type 0) (why : List ℕ) (line : Result (Vec ℕ) E) (stop : Stop)
    → IfOk line (λ text. IsWhy why × (text.items ≡ refusal (role_word role ++ codes " " ++ why))) → IsStopWith line stop → IsBadFor role IsWhy stop
stopped role IsWhy why (Ok line) stop h is = subst (IsBadFor role IsWhy) (sym is) (why, h.0, h.1)
stopped role IsWhy why (Err e) stop h is = subst (IsBadFor role IsWhy) (sym is) tt

module _ {E : Type 0} (bytes : List ℕ) (line : Result (Vec ℕ) E) (stop : Stop) where
  pub map_stopped : IfOk line (λ text. IsBadLine bytes TheMap text.items) → IsStopWith line stop → IsBadFor TheMap (IsBadMap bytes) stop
  map_stopped says is = go line says is
    where
      go : (l : Result (Vec ℕ) E) → IfOk l (λ text. IsBadLine bytes TheMap text.items) → IsStopWith l stop → IsBadFor TheMap (IsBadMap bytes) stop
      go (Ok text) (why, bad, same) e = subst (IsBadFor TheMap (IsBadMap bytes)) (sym e) (why, bad, same)
      go (Err error) h e = subst (IsBadFor TheMap (IsBadMap bytes)) (sym e) tt

  pub book_stopped : (fault : BookFault) → book_faults.IsFaultOf bytes fault → IfOk line (λ text. IsSaidOfBook fault × (text.items ≡ refusal (codes "BOOK" ++ codes " " ++ book_words fault)))
      → IsStopWith line stop → IsBadFor TheBook (IsBadBookText bytes) stop
  book_stopped fault h says is = stopped TheBook (IsBadBookText bytes) (book_words fault) line stop (both line says) is
    where
      both : (l : Result (Vec ℕ) E) → IfOk l (λ text. IsSaidOfBook fault × (text.items ≡ refusal (codes "BOOK" ++ codes " " ++ book_words fault)))
          → IfOk l (λ text. IsBadBookText bytes (book_words fault) × (text.items ≡ refusal (codes "BOOK" ++ codes " " ++ book_words fault)))
      both (Ok l) e = (book_is_bad bytes fault h e.0, e.1)
      both (Err e) f = tt

  module _ (n : ℕ) (rules : List Rule) where
    script_unread : (fault : ScriptFault) → script_faults.IsFaultOf bytes n rules fault → IsSaidOfScript fault → IsBadScript n rules bytes (script_words fault)
    script_unread (script.Text place) h said = (first_script.Ends place, first_script.AtEnds place h, refl)
    script_unread (script.Limit what place) h said = (first_script.Passes what place, first_script.AtPasses what place h, refl)
    script_unread (script.Twice place) h said = (first_script.Again place, first_script.AtAgain place h, refl)
    script_unread (script.UnknownRule place) h said = (first_script.OfStat _, first_script.AtStat _ h, refl)
    script_unread (script.HookCount place) h said = (first_script.OfStat _, first_script.AtStat _ h, refl)
    script_unread (script.Params place) h said = (first_script.OfStat _, first_script.AtStat _ h, refl)
    script_unread script.OutOfMemory h said = absurd said

    pub script_stopped : (fault : ScriptFault) → script_faults.IsFaultOf bytes n rules fault → IfOk line (λ text. IsSaidOfScript fault × (text.items ≡ refusal (codes "SCRIPT" ++ codes " " ++ script_words fault)))
        → IsStopWith line stop → IsBadFor TheScript (IsBadScript n rules bytes) stop
    script_stopped fault h says is = stopped TheScript (IsBadScript n rules bytes) (script_words fault) line stop (both line says) is
      where
        both : (l : Result (Vec ℕ) E) → IfOk l (λ text. IsSaidOfScript fault × (text.items ≡ refusal (codes "SCRIPT" ++ codes " " ++ script_words fault)))
            → IfOk l (λ text. IsBadScript n rules bytes (script_words fault) × (text.items ≡ refusal (codes "SCRIPT" ++ codes " " ++ script_words fault)))
        both (Ok l) e = (script_unread fault h e.0, e.1)
        both (Err e) f = tt

-- ---- a rule that isn't accepted

-- the line of a rule that isn't accepted
rule_says : {E : Type 0} (schema : Schema) (rule : Rule) (why : List ℕ) (line : Result (Vec ℕ) E) (stop : Stop) → IsRuleWhy schema rule why
    → IfOk line (λ text. text.items ≡ refusal (codes "BOOK" ++ codes " " ++ why)) → IsStopWith line stop → IsRuleStop schema rule stop
rule_says {E = E} schema rule why line stop h says is = stopped TheBook (IsRuleWhy schema rule) why line stop (both line says) is
  where
    both : (l : Result (Vec ℕ) E) → IfOk l (λ text. text.items ≡ refusal (codes "BOOK" ++ codes " " ++ why))
        → IfOk l (λ text. IsRuleWhy schema rule why × (text.items ≡ refusal (codes "BOOK" ++ codes " " ++ why)))
    both (Ok l) e = (h, e)
    both (Err e) f = tt

pub rule_stopped : {E : Type 0} (schema : Schema) (rule : Rule) (fault : RuleFault) (line : Result (Vec ℕ) E) (stop : Stop) → IsFault schema rule fault
    → IfOk line (λ text. text.items ≡ refusal (codes "BOOK" ++ codes " " ++ (codes "rule " ++ rule.name ++ codes " " ++ rule_fault_words schema rule fault))) → IsStopWith line stop → IsRuleStop schema rule stop
rule_stopped schema rule fault line stop h says is =
    rule_says schema rule (codes "rule " ++ rule.name ++ codes " " ++ rule_fault_words schema rule fault) line stop (fault, h, refl) says is

-- a text that can't be run is no fault of the store
pub bad_is_sound : (role : refusing.Role) (IsWhy : List ℕ → Type 0) (P : refusing.Role → Type 0) (stop : Stop) → IsBadFor role IsWhy stop → IsSoundStop stop P
bad_is_sound role IsWhy P (stops.Bad line) h = tt
bad_is_sound role IsWhy P (stops.NoText nothing.OutOfMemory) h = tt
bad_is_sound role IsWhy P (stops.NoText (nothing.Refused why)) h = absurd h

-- another cause of the same
pub sound_to : (P Q : refusing.Role → Type 0) → ((role : refusing.Role) → P role → Q role) → (stop : Stop) → IsSoundStop stop P → IsSoundStop stop Q
sound_to P Q f (stops.Bad line) h = tt
sound_to P Q f (stops.NoText nothing.OutOfMemory) h = tt
sound_to P Q f (stops.NoText (nothing.Refused (refusals.Load role))) h = f (role_in role) h
sound_to P Q f (stops.NoText (nothing.Refused (refusals.Size role))) h = tt
sound_to P Q f (stops.NoText (nothing.Refused refusals.Usage)) h = h
sound_to P Q f (stops.NoText (nothing.Refused refusals.SizeOutput)) h = tt
sound_to P Q f (stops.NoText (nothing.Refused refusals.Agree)) h = tt
sound_to P Q f (stops.NoText (nothing.Refused refusals.Save)) h = h

-- ---- files

module _ {A : Type 0} (role : refusing.Role) (name : List ℕ) (IsReadAs : List ℕ → A → Type 0) (IsBadText : List ℕ → List ℕ → Type 0) (fails : Type 0) where
  failing_stop : (files : Files) (of : Role) → role_in of ≡ role → (none : NoText) → IsLoading (Some files) name of fails (Err none) → IsRoleStop files role name IsBadText fails (stops.NoText none)
  failing_stop files of e nothing.OutOfMemory h = tt
  failing_stop files of e (nothing.Refused (refusals.Load other)) (same, inl failed) = inr (failed, ap (λ r. answers 3 (refusal (codes "load " ++ role_word r))) (ap role_in same ∙ e))
  failing_stop files of e (nothing.Refused (refusals.Load other)) (same, inr lacks) = inl (Missing lacks (ap (λ r. answers 3 (refusal (codes "load " ++ role_word r))) (ap role_in same ∙ e)))
  failing_stop files of e (nothing.Refused (refusals.Size other)) (same, h) = inl (long (files name) refl h)
    where
      long : (file : Option (List ℕ)) → files name ≡ file → IsLongerThan most_bytes file → IsFailing files role name IsBadText (refusal_answer (refusals.Size other))
      long None is h = absurd h
      long (Some bytes) is h = Long bytes is h (ap (λ r. answers 8 (refusal (codes "size " ++ role_word r))) (ap role_in same ∙ e))
  failing_stop files of e (nothing.Refused refusals.Usage) h = absurd h
  failing_stop files of e (nothing.Refused refusals.SizeOutput) h = absurd h
  failing_stop files of e (nothing.Refused refusals.Agree) h = absurd h
  failing_stop files of e (nothing.Refused refusals.Save) h = absurd h

  load_cause : (contents : Contents) (of : Role) → role_in of ≡ role → (none : NoText) → IsLoading contents name of fails (Err none) → IsSoundStop (stops.NoText none) (λ other. (other ≡ role) × (fails ⊎ Lacks contents name))
  load_cause contents of e nothing.OutOfMemory h = tt
  load_cause contents of e (nothing.Refused (refusals.Load other)) h = (ap role_in h.0 ∙ e, h.1)
  load_cause contents of e (nothing.Refused (refusals.Size other)) h = tt
  load_cause contents of e (nothing.Refused refusals.Usage) h = absurd h
  load_cause contents of e (nothing.Refused refusals.SizeOutput) h = tt
  load_cause contents of e (nothing.Refused refusals.Agree) h = tt
  load_cause contents of e (nothing.Refused refusals.Save) h = absurd h

  -- a load that gave no file
  pub not_loaded_from : (contents : Contents) (of : Role) → role_in of ≡ role → (none : NoText) → IsLoading contents name of fails (Err none) → IsFrom {A = A} contents role name IsReadAs IsBadText fails (Err (stops.NoText none))
  not_loaded_from None of e none h = (tt, load_cause None of e none h)
  not_loaded_from (Some files) of e none h = (failing_stop files of e none h, load_cause (Some files) of e none h)

  -- a file that stands for nothing
  bad_stop : (files : Files) (bytes : List ℕ) → IsHeld (Some files) name bytes → length bytes ≤ most_bytes → (stop : Stop) → IsBadFor role (IsBadText bytes) stop → IsRoleStop files role name IsBadText fails stop
  bad_stop files bytes held fits (stops.Bad line) (why, bad, is) = Bad bytes why (held, fits) bad (ap (λ text. answers 4 text) is)
  bad_stop files bytes held fits (stops.NoText nothing.OutOfMemory) h = tt
  bad_stop files bytes held fits (stops.NoText (nothing.Refused why)) h = absurd h

  -- what is read of a file that was loaded
  pub read_from : (contents : Contents) (bytes : List ℕ) (result : Result A Stop) → (length bytes ≤ most_bytes) × IsHeld contents name bytes
      → IfOk result (IsReadAs bytes) → IfErr result (IsBadFor role (IsBadText bytes)) → IsFrom contents role name IsReadAs IsBadText fails result
  read_from None bytes (Ok value) loaded read bad = tt
  read_from (Some files) bytes (Ok value) loaded read bad = (bytes, (loaded.1, loaded.0), read)
  read_from None bytes (Err stop) loaded read bad = (tt, bad_is_sound role (IsBadText bytes) _ stop bad)
  read_from (Some files) bytes (Err stop) loaded read bad = (bad_stop files bytes loaded.1 loaded.0 stop bad, bad_is_sound role (IsBadText bytes) _ stop bad)

-- a text that stands for no book is none that can be run
pub unread_book : {A : Type 0} (contents : Contents) (name : List ℕ) (IsReadAs : List ℕ → A → Type 0) (fails : Type 0) (stop : Stop) → IsFrom {A = A} contents TheBook name IsReadAs IsBadBookText fails (Err stop)
    → IsFrom {A = A} contents TheBook name IsReadAs IsBadBook fails (Err stop)
unread_book None name IsReadAs fails stop h = h
unread_book (Some files) name IsReadAs fails stop (why, cause) = (at stop why, cause)
  where
    failing : (answer : Answer) → IsFailing files TheBook name IsBadBookText answer → IsFailing files TheBook name IsBadBook answer
    failing answer (Missing is e) = Missing is e
    failing answer (Long bytes is long e) = Long bytes is long e
    failing answer (Bad bytes why held bad e) = Bad bytes why held (Unread bad) e

    at : (stop : Stop) → IsRoleStop files TheBook name IsBadBookText fails stop → IsRoleStop files TheBook name IsBadBook fails stop
    at (stops.Bad line) h = failing _ h
    at (stops.NoText nothing.OutOfMemory) h = tt
    at (stops.NoText (nothing.Refused why)) (inl h) = inl (failing _ h)
    at (stops.NoText (nothing.Refused why)) (inr h) = inr h

-- what is read is read of some bytes
pub some_bytes : {A : Type 0} (IsReadAs : List ℕ → A → Type 0) (result : Result A Stop) (bytes : List ℕ) → IfOk result (IsReadAs bytes) → IfOk result (λ value. (text : List ℕ) × IsReadAs text value)
some_bytes IsReadAs (Ok value) bytes h = (bytes, h)
some_bytes IsReadAs (Err stop) bytes h = tt

-- What is put, and what the status that comes of it says.
use Rattle.std.proofs.Common.{◌≡◌, ℕ, List, ◌++◌, inl, inr, Option, Some, None, Result, Ok, Err, take, refl, sym, ◌∙◌, subst}
use Rattle.std.proofs.lemmas.Bool.{eqb-false}
use Rattle.std.specs.Prelude.{◌≢◌, IfOk, IfSome, IsErrOf}
use Rattle.gm_host.specs.Store.{Contents}
use Rattle.gm_tool.specs.Answer.{Files}
use Rattle.gm_lines.specs.Refusing as refusing
use Rattle.gm_tool.specs.declared.refusal.NoText.{NoText}
use Rattle.gm_tool.specs.declared.refusal.NoText.TheVariants as nothing
use Rattle.gm_tool.specs.declared.refusal.Refusal.{Refusal}
use Rattle.gm_tool.specs.declared.refusal.Refusal.TheVariants as refusals
use Rattle.gm_tool.specs.declared.reply.Reply.{Reply}
use Rattle.gm_tool.specs.inner.Refusals.{role_in, refusal_answer}
use Rattle.gm_tool.specs.Endings.{status_given}
use Rattle.gm_tool.specs.Loads.{UnlessNoMemory}
use Rattle.gm_tool.specs.MadeRuns.{IsSoundReply, IsRunStatus}
use Rattle.gm_tool.specs.Tool.{IsText, IsPut, IsReplyStatus, IsStatus, Ends, Leaves, Put, PutFailed, Unput, NoMemory, LeavesWhereTold}

module _ (words : List (List ℕ)) (load_fails : ℕ → Type 0) (save_fails put_fails : Type 0) (later : Contents) where
  put_ending : (files : Files) (text before : List ℕ) (given status : ℕ) (after : Option (List ℕ)) → Ends words files load_fails save_fails given text later
      → IsPut (Some before) after put_fails text given status → (written : List ℕ) × (after ≡ Some written) × Leaves words files load_fails save_fails put_fails before status written later
  put_ending files text before given status after is (inl put) = (before ++ text, put.1, Put text (subst (λ k. Ends words files load_fails save_fails k text later) (sym put.0) is) refl)
  put_ending files text before given status after is (inr (inl (is_six, fails, (kept, e)))) = (before ++ take kept text, e, PutFailed fails given text kept is is_six refl)
  put_ending files text before given status after is (inr (inr none)) = (before, none.1, Unput given text is none.0 refl)

  -- the text that was asked for is put
  pub put_reply : (contents : Contents) (reply : Reply) (before after : Option (List ℕ)) (status : ℕ) → IfSome contents (λ files. IsText words files load_fails save_fails later (Ok reply))
      → IsPut before after put_fails reply.text.items reply.status status → LeavesWhereTold words contents later load_fails save_fails put_fails before status after
  put_reply None reply before after status is put = tt
  put_reply (Some files) reply None after status is put = tt
  put_reply (Some files) reply (Some before) after status is put = put_ending files reply.text.items before reply.status status after is put

  -- the line of a refusal is put
  pub put_refusal : (contents : Contents) (why : Refusal) (before after : Option (List ℕ)) (status : ℕ) → IfSome contents (λ files. IsText words files load_fails save_fails later (Err (nothing.Refused why)))
      → IsPut before after put_fails (refusal_answer why).text (refusal_answer why).status status → LeavesWhereTold words contents later load_fails save_fails put_fails before status after
  put_refusal None why before after status is put = tt
  put_refusal (Some files) why None after status is put = tt
  put_refusal (Some files) why (Some before) after status is put = put_ending files (refusal_answer why).text before (refusal_answer why).status status after is put

  -- nothing is put
  pub put_nothing : (contents : Contents) (before : Option (List ℕ)) → IfSome contents (λ files. IsText words files load_fails save_fails later (Err nothing.OutOfMemory))
      → LeavesWhereTold words contents later load_fails save_fails put_fails before 7 before
  put_nothing None before is = tt
  put_nothing (Some files) None is = tt
  put_nothing (Some files) (Some before) is = (before, refl, NoMemory refl refl is)

-- ---- the status that is given

pub six : IsStatus 6
six = inr (inr (inr (inr (inl refl))))

pub seven : IsStatus 7
seven = inr (inr (inr (inr (inr (inl refl)))))

refusal_status : (why : Refusal) → IsStatus (refusal_answer why).status
refusal_status refusals.Usage = inr (inl refl)
refusal_status (refusals.Load role) = inr (inr (inl refl))
refusal_status (refusals.Size role) = inr (inr (inr (inr (inr (inr refl)))))
refusal_status refusals.SizeOutput = inr (inr (inr (inr (inr (inr refl)))))
refusal_status refusals.Agree = inl (inr (inr refl))
refusal_status refusals.Save = inr (inr (inr (inl refl)))

pub given_is : (reply : Result Reply NoText) → IfOk reply (λ r. IsReplyStatus r.status) → IsStatus (status_given reply)
given_is (Ok reply) is = inl is
given_is (Err nothing.OutOfMemory) is = seven
given_is (Err (nothing.Refused why)) is = refusal_status why

-- a refusal has none of these statuses
module _ (k : ℕ) where
  abbrev IsNone : Type 0
  IsNone = (why : Refusal) → (refusal_answer why).status ≡ k → ⊥

refused_none : (k : ℕ) → (2 ≡ k → ⊥) → (3 ≡ k → ⊥) → (4 ≡ k → ⊥) → (5 ≡ k → ⊥) → (8 ≡ k → ⊥) → IsNone k
refused_none k two three four five eight refusals.Usage e = two e
refused_none k two three four five eight (refusals.Load role) e = three e
refused_none k two three four five eight (refusals.Size role) e = eight e
refused_none k two three four five eight refusals.SizeOutput e = eight e
refused_none k two three four five eight refusals.Agree e = four e
refused_none k two three four five eight refusals.Save e = five e

not_zero : IsNone 0
not_zero = refused_none 0 (eqb-false 2 0 refl) (eqb-false 3 0 refl) (eqb-false 4 0 refl) (eqb-false 5 0 refl) (eqb-false 8 0 refl)

not_one : IsNone 1
not_one = refused_none 1 (eqb-false 2 1 refl) (eqb-false 3 1 refl) (eqb-false 4 1 refl) (eqb-false 5 1 refl) (eqb-false 8 1 refl)

not_six : IsNone 6
not_six = refused_none 6 (eqb-false 2 6 refl) (eqb-false 3 6 refl) (eqb-false 4 6 refl) (eqb-false 5 6 refl) (eqb-false 8 6 refl)

pub refusal_is_not_seven : IsNone 7
refusal_is_not_seven = refused_none 7 (eqb-false 2 7 refl) (eqb-false 3 7 refl) (eqb-false 4 7 refl) (eqb-false 5 7 refl) (eqb-false 8 7 refl)

-- and a reply has none but 0, 1 and 4
reply_none : (k : ℕ) → (0 ≡ k → ⊥) → (1 ≡ k → ⊥) → (4 ≡ k → ⊥) → (status : ℕ) → IsReplyStatus status → status ≡ k → ⊥
reply_none k zero one four status (inl h) e = zero (sym h ∙ e)
reply_none k zero one four status (inr (inl h)) e = one (sym h ∙ e)
reply_none k zero one four status (inr (inr h)) e = four (sym h ∙ e)

pub reply_is_not_seven : (status : ℕ) → IsReplyStatus status → status ≡ 7 → ⊥
reply_is_not_seven = reply_none 7 (eqb-false 0 7 refl) (eqb-false 1 7 refl) (eqb-false 4 7 refl)

-- ---- what a status says of a reply

pub given_one : (P : Type 0) (reply : Result Reply NoText) → IfOk reply (λ r. r.status ≡ 1 → P) → status_given reply ≡ 1 → P
given_one P (Ok reply) h one = h one
given_one P (Err nothing.OutOfMemory) h one = absurd (eqb-false 7 1 refl one)
given_one P (Err (nothing.Refused why)) h one = absurd (not_one why one)

two_refused : (why : Refusal) → (refusal_answer why).status ≡ 2 → why ≡ refusals.Usage
two_refused refusals.Usage e = refl
two_refused (refusals.Load role) e = absurd (eqb-false 3 2 refl e)
two_refused (refusals.Size role) e = absurd (eqb-false 8 2 refl e)
two_refused refusals.SizeOutput e = absurd (eqb-false 8 2 refl e)
two_refused refusals.Agree e = absurd (eqb-false 4 2 refl e)
two_refused refusals.Save e = absurd (eqb-false 5 2 refl e)

pub given_two : (reply : Result Reply NoText) → IfOk reply (λ r. IsReplyStatus r.status) → status_given reply ≡ 2 → IsErrOf reply (nothing.Refused refusals.Usage)
given_two (Ok reply) is e = absurd (reply_none 2 (eqb-false 0 2 refl) (eqb-false 1 2 refl) (eqb-false 4 2 refl) reply.status is e)
given_two (Err nothing.OutOfMemory) is e = absurd (eqb-false 7 2 refl e)
given_two (Err (nothing.Refused why)) is e = let usage = two_refused why e in cc

three_refused : (why : Refusal) (P : refusing.Role → Type 0) (Q : Type 0) → (refusal_answer why).status ≡ 3 → IsSoundReply (Err (nothing.Refused why)) P Q → (role : refusing.Role) × P role
three_refused (refusals.Load role) P Q e h = (role_in role, h)
three_refused refusals.Usage P Q e h = absurd (eqb-false 2 3 refl e)
three_refused (refusals.Size role) P Q e h = absurd (eqb-false 8 3 refl e)
three_refused refusals.SizeOutput P Q e h = absurd (eqb-false 8 3 refl e)
three_refused refusals.Agree P Q e h = absurd (eqb-false 4 3 refl e)
three_refused refusals.Save P Q e h = absurd (eqb-false 5 3 refl e)

pub given_three : (reply : Result Reply NoText) (P : refusing.Role → Type 0) (Q : Type 0) → IfOk reply (λ r. IsReplyStatus r.status) → IsSoundReply reply P Q → status_given reply ≡ 3 → (role : refusing.Role) × P role
given_three (Ok reply) P Q is h e = absurd (reply_none 3 (eqb-false 0 3 refl) (eqb-false 1 3 refl) (eqb-false 4 3 refl) reply.status is e)
given_three (Err nothing.OutOfMemory) P Q is h e = absurd (eqb-false 7 3 refl e)
given_three (Err (nothing.Refused why)) P Q is h e = three_refused why P Q e h

five_refused : (why : Refusal) (P : refusing.Role → Type 0) (Q : Type 0) → (refusal_answer why).status ≡ 5 → IsSoundReply (Err (nothing.Refused why)) P Q → Q
five_refused refusals.Save P Q e h = h
five_refused (refusals.Load role) P Q e h = absurd (eqb-false 3 5 refl e)
five_refused refusals.Usage P Q e h = absurd (eqb-false 2 5 refl e)
five_refused (refusals.Size role) P Q e h = absurd (eqb-false 8 5 refl e)
five_refused refusals.SizeOutput P Q e h = absurd (eqb-false 8 5 refl e)
five_refused refusals.Agree P Q e h = absurd (eqb-false 4 5 refl e)

pub given_five : (reply : Result Reply NoText) (P : refusing.Role → Type 0) (Q : Type 0) → IfOk reply (λ r. IsReplyStatus r.status) → IsSoundReply reply P Q → status_given reply ≡ 5 → Q
given_five (Ok reply) P Q is h e = absurd (reply_none 5 (eqb-false 0 5 refl) (eqb-false 1 5 refl) (eqb-false 4 5 refl) reply.status is e)
given_five (Err nothing.OutOfMemory) P Q is h e = absurd (eqb-false 7 5 refl e)
given_five (Err (nothing.Refused why)) P Q is h e = five_refused why P Q e h

pub unless_seven : (P : Type 0) (reply : Result Reply NoText) → UnlessNoMemory reply P → status_given reply ≢ 7 → P
unless_seven P (Ok reply) h e = h
unless_seven P (Err nothing.OutOfMemory) h e = absurd (e refl)
unless_seven P (Err (nothing.Refused why)) h e = h

-- ---- a run that is done

pub six_is_no_run : IsRunStatus 6 → ⊥
six_is_no_run (inl e) = eqb-false 6 0 refl e
six_is_no_run (inr e) = eqb-false 6 1 refl e

pub seven_is_no_run : IsRunStatus 7 → ⊥
seven_is_no_run (inl e) = eqb-false 7 0 refl e
seven_is_no_run (inr e) = eqb-false 7 1 refl e

pub refusal_is_no_run : (why : Refusal) → IsRunStatus (refusal_answer why).status → ⊥
refusal_is_no_run why (inl e) = not_zero why e
refusal_is_no_run why (inr e) = not_one why e

pub given_run : (P : Type 0) (reply : Result Reply NoText) → IfOk reply (λ r. IsRunStatus r.status → P) → IsRunStatus (status_given reply) → P
given_run P (Ok reply) h run = h run
given_run P (Err nothing.OutOfMemory) h run = absurd (seven_is_no_run run)
given_run P (Err (nothing.Refused why)) h run = absurd (refusal_is_no_run why run)

pub given_done : (P : Type 0) (reply : Result Reply NoText) → IfOk reply (λ _. P) → IsRunStatus (status_given reply) → P
given_done P (Ok reply) h run = h
given_done P (Err nothing.OutOfMemory) h run = absurd (seven_is_no_run run)
given_done P (Err (nothing.Refused why)) h run = absurd (refusal_is_no_run why run)

-- what is stated of a run that is done alone
pub given_least : (Least : ℕ → Type 0) → ((status : ℕ) → (IsRunStatus status → ⊥) → Least status) → (reply : Result Reply NoText) → IfOk reply (λ r. Least r.status) → Least (status_given reply)
given_least Least none (Ok reply) h = h
given_least Least none (Err nothing.OutOfMemory) h = none 7 seven_is_no_run
given_least Least none (Err (nothing.Refused why)) h = none (refusal_answer why).status (refusal_is_no_run why)

-- ---- what is put of it

module _ (before after : Option (List ℕ)) (fails : Type 0) (bytes : List ℕ) (status : ℕ) where
  -- the status of a run that is done is that which was given
  pub run_put : (given : ℕ) → IsPut before after fails bytes given status → IsRunStatus status → IsRunStatus given
  run_put given (inl put) is = subst IsRunStatus put.0 is
  run_put given (inr (inl put)) is = absurd (six_is_no_run (subst IsRunStatus put.0 is))
  run_put given (inr (inr put)) is = absurd (seven_is_no_run (subst IsRunStatus put.0 is))

  -- 6 and 7 are left of a put that failed, where they aren't given
  pub six_put : (given : ℕ) → (given ≡ 6 → ⊥) → IsPut before after fails bytes given status → status ≡ 6 → fails
  six_put given not_given (inl put) e = absurd (not_given (sym put.0 ∙ e))
  six_put given not_given (inr (inl put)) e = put.1
  six_put given not_given (inr (inr put)) e = absurd (eqb-false 7 6 refl (sym put.0 ∙ e))

  pub seven_put : (given : ℕ) → (given ≡ 7 → ⊥) → IsPut before after fails bytes given status → status ≡ 7 → after ≡ before
  seven_put given not_given (inl put) e = absurd (not_given (sym put.0 ∙ e))
  seven_put given not_given (inr (inl put)) e = absurd (eqb-false 6 7 refl (sym put.0 ∙ e))
  seven_put given not_given (inr (inr put)) e = put.1

  pub reply_six : (given : ℕ) → IsReplyStatus given → IsPut before after fails bytes given status → status ≡ 6 → fails
  reply_six given is = six_put given (reply_none 6 (eqb-false 0 6 refl) (eqb-false 1 6 refl) (eqb-false 4 6 refl) given is)

  pub refusal_six : (why : Refusal) → IsPut before after fails bytes (refusal_answer why).status status → status ≡ 6 → fails
  refusal_six why = six_put (refusal_answer why).status (not_six why)

  pub reply_seven : (given : ℕ) → IsReplyStatus given → IsPut before after fails bytes given status → status ≡ 7 → after ≡ before
  reply_seven given is = seven_put given (reply_is_not_seven given is)

  pub refusal_seven : (why : Refusal) → IsPut before after fails bytes (refusal_answer why).status status → status ≡ 7 → after ≡ before
  refusal_seven why = seven_put (refusal_answer why).status (refusal_is_not_seven why)

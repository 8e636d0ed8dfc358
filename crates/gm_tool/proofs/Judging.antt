-- What a command puts on the bytes of its file, put together from the reader's answer and the printer's.
use Rattle.std.proofs.Common.{◌≡◌, ℕ, List, ◌++◌, length, inl, inr, Result, Ok, Err, sym, ap, ◌∙◌, subst}
use Rattle.std.specs.Prelude.{codes}
use Rattle.gm_book.specs.declared.fault.BookFault.{BookFault}
use Rattle.gm_book.specs.declared.fault.BookFault.TheVariants as book
use Rattle.gm_book.specs.inner.Faults as book_faults
use Rattle.gm_model.specs.declared.schema.Schema.{Schema}
use Rattle.gm_forms.specs.BookText.{BookText}
use Rattle.gm_model.specs.Rules.{Rule}
use Rattle.gm_tool.specs.Answer.{IsOutput, role_of, Checked}
use Rattle.gm_lines.specs.Refusing.{IsBad, BadBook, TheMap, TheBook, refusal, IsBadLine}
use Rattle.gm_lines.specs.BookFaults.{AtEnds, AtPasses, AtName}
use Rattle.gm_tool.specs.Answer as answer
use Rattle.gm_lines.specs.Refusing as refusing
use Rattle.gm_tool.specs.declared.refusal.NoText.{NoText}
use Rattle.gm_tool.specs.declared.refusal.NoText.TheVariants as nothing
use Rattle.gm_tool.specs.declared.reply.Reply.{Reply}
use Rattle.gm_lines.specs.Checking.{AreLines, check_status, counts_line}
use Rattle.gm_lines.specs.inner.FaultLines.{IsSaidOfBook, book_words}
use Rattle.gm_tool.specs.inner.Replies.{IsJudged, IsMapRefusal, IsRefusal, IsBookRefusal, IsChecked, IsWithinLimit}

-- a line that refuses, whichever the command
pub refused_judged : (bytes : List ℕ) (command : answer.Command) (why : List ℕ) (reply : Result Reply NoText) → IsBad bytes (role_of command) why
    → IsRefusal (refusal (refusing.role_word (role_of command) ++ codes " " ++ why)) reply → IsJudged bytes command reply
refused_judged bytes command why (Ok reply) bad is = inr (is.0, (why, bad, is.1))
refused_judged bytes command why (Err nothing.OutOfMemory) bad is = tt
refused_judged bytes command why (Err (nothing.Refused other)) bad is = absurd cc

-- whichever command reads the map
pub map_judged : (bytes : List ℕ) (command : answer.Command) (reply : Result Reply NoText) → TheMap ≡ role_of command → IsMapRefusal bytes reply → IsJudged bytes command reply
map_judged bytes command (Ok reply) of is = inr (is.0, subst (λ (r : refusing.Role). IsBadLine bytes r reply.text.items) of is.1)
map_judged bytes command (Err none) of is = subst (λ (e : NoText). IsJudged bytes command (Err e)) (sym is) tt

pub book_is_bad : (bytes : List ℕ) (fault : BookFault) → book_faults.IsFaultOf bytes fault → IsSaidOfBook fault → IsBad bytes TheBook (book_words fault)
book_is_bad bytes (book.Text place) h said = BadBook _ (AtEnds place h)
book_is_bad bytes (book.Limit what place) h said = BadBook _ (AtPasses what place h)
book_is_bad bytes (book.Twice place) h said = BadBook _ (AtName _ h)
book_is_bad bytes (book.Unknown place) h said = BadBook _ (AtName _ h)
book_is_bad bytes (book.WrongKind place) h said = BadBook _ (AtName _ h)
book_is_bad bytes book.OutOfMemory h said = absurd said

-- whichever command reads the book
pub book_judged : (bytes : List ℕ) (command : answer.Command) (fault : BookFault) (reply : Result Reply NoText) → TheBook ≡ role_of command → book_faults.IsFaultOf bytes fault
    → IsBookRefusal fault reply → IsJudged bytes command reply
book_judged bytes command fault (Ok reply) of h is =
    inr (
      is.1,
      (
        book_words fault,
        subst (λ (r : refusing.Role). IsBad bytes r (book_words fault)) of (book_is_bad bytes fault h is.0),
        is.2 ∙ ap (λ (r : refusing.Role). refusal (refusing.role_word r ++ codes " " ++ book_words fault)) of,
      ),
    )
book_judged bytes command fault (Err none) of h is = subst (λ (e : NoText). IsJudged bytes command (Err e)) (sym is) tt

-- an output, within the limit or not
pub output_judged : (bytes : List ℕ) (command : answer.Command) (status : ℕ) (text : List ℕ) (reply : Result Reply NoText) → IsOutput bytes command status text
    → IsWithinLimit status text reply → IsJudged bytes command reply
output_judged bytes command status text (Ok reply) output is =
    inl (subst (λ (k : ℕ). IsOutput bytes command k reply.text.items) (sym is.0) (subst (λ (t : List ℕ). IsOutput bytes command status t) (sym is.1) output), rw is.1 is.2)
output_judged bytes command status text (Err none) output is =
    subst (λ (e : NoText). IsJudged bytes command (Err e)) (sym is.0) (status, text, output, is.1)

pub check_judged : (bytes : List ℕ) (version : ℕ) (schema : Schema) (rules : List Rule) (reply : Result Reply NoText) → BookText bytes version schema rules → IsChecked schema rules reply → IsJudged bytes answer.Check reply
check_judged bytes version schema rules (Err nothing.OutOfMemory) read is = tt
check_judged bytes version schema rules (Err (nothing.Refused why)) read (refused, lines, are, within) =
    output_judged bytes answer.Check (check_status refused) (lines ++ counts_line (length rules) refused) (Err (nothing.Refused why)) (Checked version schema rules refused lines read are) within
check_judged bytes version schema rules (Ok reply) read (refused, lines, are, within) =
    output_judged bytes answer.Check (check_status refused) (lines ++ counts_line (length rules) refused) (Ok reply) (Checked version schema rules refused lines read are) within

-- the lines of the rules and the one that counts, within the limit or not
pub counted_checked : (schema : Schema) (rules : List Rule) (refused count status : ℕ) (lines text : List ℕ) (reply : Result Reply NoText) → AreLines schema rules refused lines → count ≡ length rules → text ≡ lines ++ counts_line count refused
    → status ≡ check_status refused → IsWithinLimit status text reply → IsChecked schema rules reply
counted_checked schema rules refused count status lines text reply are counted put told within =
    go reply (subst (λ k. IsWithinLimit (check_status refused) (lines ++ counts_line k refused) reply) counted (subst (λ k. IsWithinLimit k (lines ++ counts_line count refused) reply) told (subst (λ t. IsWithinLimit status t reply) put within)))
  where
    go : (r : Result Reply NoText) → IsWithinLimit (check_status refused) (lines ++ counts_line (length rules) refused) r → IsChecked schema rules r
    go (Ok made) is = (refused, lines, are, is)
    go (Err nothing.OutOfMemory) is = tt
    go (Err (nothing.Refused why)) is = (refused, lines, are, is)

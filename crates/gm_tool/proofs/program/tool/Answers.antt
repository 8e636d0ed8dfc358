use Rattle.std.proofs.Common.{ℕ, inl, inr, refl}
use Rattle.gm_tool.specs.Tool.{words_of}
use Rattle.gm_tool.proofs.Ended.{put_ends, put_steps}
use Rattle.gm_tool.proofs.Headlines.{headline}
use Rattle.gm_tool.proofs.Putting.{put_reply, put_refusal, put_nothing, reply_six, reply_seven, refusal_six, refusal_seven, reply_is_not_seven, refusal_is_not_seven}
use Rattle.gm_tool.proofs.program.tool.Goals as goal

-- ---- a text is put

pub returns-in-Ok-clause-leaves : goal.returns-in-Ok-clause-leaves
returns-in-Ok-clause-leaves g c =
    put_reply (words_of c.args.words.now) _ _ _ _ (g.S.Store.holds c.args.store.now) c.in-Ok.reply _ _ _ c.in-Ok.ensures.text (rw c.as_slice.ensures.value at c.put_whole.ensures.put)

pub returns-in-Ok-clause-ends : goal.returns-in-Ok-clause-ends
returns-in-Ok-clause-ends g c =
    put_ends (words_of c.args.words.now) _ _ c.in-Ok.reply.status c.in-Ok.ensures.ends (reply_is_not_seven c.in-Ok.reply.status c.in-Ok.ensures.statuses) _ _ _ _ _ c.put_whole.ensures.put

pub returns-in-Ok-clause-steps : goal.returns-in-Ok-clause-steps
returns-in-Ok-clause-steps g c = put_steps (words_of c.args.words.now) (g.S.Store.holds c.args.store.now) c.in-Ok.reply.status _ _ c.in-Ok.ensures.steps _ _ _ _ _ c.put_whole.ensures.put

pub returns-in-Ok-clause-headline : goal.returns-in-Ok-clause-headline
returns-in-Ok-clause-headline g c =
    let left = put_reply (words_of c.args.words.now) _ _ _ _ (g.S.Store.holds c.args.store.now) c.in-Ok.reply _ _ _ c.in-Ok.ensures.text (rw c.as_slice.ensures.value at c.put_whole.ensures.put) in
    headline (words_of c.args.words.now) (g.S.Store.holds c.args.store.now) _ _ _ _ _ _ _ _ _ _ left (λ k failed. failed.0)
    (put_steps (words_of c.args.words.now) (g.S.Store.holds c.args.store.now) c.in-Ok.reply.status _ _ c.in-Ok.ensures.steps _ _ _ _ _ c.put_whole.ensures.put)

pub returns-in-Ok-clause-one_put : goal.returns-in-Ok-clause-one_put
returns-in-Ok-clause-one_put g c = inr c.put_whole.ensures.one

pub returns-in-Ok-clause-put : goal.returns-in-Ok-clause-put
returns-in-Ok-clause-put g c _ = c.put_whole.ensures.one

pub returns-in-Ok-clause-put_failed : goal.returns-in-Ok-clause-put_failed
returns-in-Ok-clause-put_failed g c six = reply_six _ _ _ _ _ c.in-Ok.reply.status c.in-Ok.ensures.statuses c.put_whole.ensures.put six

pub returns-in-Ok-clause-no_put_failed : goal.returns-in-Ok-clause-no_put_failed
returns-in-Ok-clause-no_put_failed g c = c.put_whole.ensures.no_fault

pub returns-in-Ok-clause-no_memory : goal.returns-in-Ok-clause-no_memory
returns-in-Ok-clause-no_memory g c seven = reply_seven _ _ _ _ _ c.in-Ok.reply.status c.in-Ok.ensures.statuses c.put_whole.ensures.put seven

pub returns-in-Ok-clause-no_memory_before : goal.returns-in-Ok-clause-no_memory_before
returns-in-Ok-clause-no_memory_before g c never seven = absurd (reply_is_not_seven c.in-Ok.reply.status c.in-Ok.ensures.statuses (c.put_whole.ensures.enough_memory never seven))

pub returns-in-Ok-clause-none_put : goal.returns-in-Ok-clause-none_put
returns-in-Ok-clause-none_put g c never seven = absurd (reply_is_not_seven c.in-Ok.reply.status c.in-Ok.ensures.statuses (c.put_whole.ensures.enough_memory never seven))

-- ---- the line of a refusal is put

pub returns-in-Err-Refused-clause-leaves : goal.returns-in-Err-Refused-clause-leaves
returns-in-Err-Refused-clause-leaves g c =
    put_refusal (words_of c.args.words.now) _ _ _ _ (g.S.Store.holds c.args.store.now) c.in-Err-Refused.refusal _ _ _
    (rw c.in-Err-Refused.field-0-is at c.in-Err-Refused.ensures.text) (rw (c.line.ensures, c.status.ensures) at c.put_whole-in-Err-Refused.ensures.put)

pub returns-in-Err-Refused-clause-ends : goal.returns-in-Err-Refused-clause-ends
returns-in-Err-Refused-clause-ends g c =
    put_ends (words_of c.args.words.now) _ _ _ (rw c.in-Err-Refused.field-0-is at c.in-Err-Refused.ensures.ends) (refusal_is_not_seven c.in-Err-Refused.refusal) _ _ _ _ _ (rw c.status.ensures at c.put_whole-in-Err-Refused.ensures.put)

pub returns-in-Err-Refused-clause-steps : goal.returns-in-Err-Refused-clause-steps
returns-in-Err-Refused-clause-steps g c =
    put_steps (words_of c.args.words.now) (g.S.Store.holds c.args.store.now) _ _ _ (rw c.in-Err-Refused.field-0-is at c.in-Err-Refused.ensures.steps) _ _ _ _ _ (rw c.status.ensures at c.put_whole-in-Err-Refused.ensures.put)

pub returns-in-Err-Refused-clause-headline : goal.returns-in-Err-Refused-clause-headline
returns-in-Err-Refused-clause-headline g c =
    let left = put_refusal (words_of c.args.words.now) _ _ _ _ (g.S.Store.holds c.args.store.now) c.in-Err-Refused.refusal _ _ _
    (rw c.in-Err-Refused.field-0-is at c.in-Err-Refused.ensures.text) (rw (c.line.ensures, c.status.ensures) at c.put_whole-in-Err-Refused.ensures.put) in
    headline (words_of c.args.words.now) (g.S.Store.holds c.args.store.now) _ _ _ _ _ _ _ _ _ _ left (λ k failed. failed.0)
    (put_steps (words_of c.args.words.now) (g.S.Store.holds c.args.store.now) _ _ _ (rw c.in-Err-Refused.field-0-is at c.in-Err-Refused.ensures.steps) _ _ _ _ _ (rw c.status.ensures at c.put_whole-in-Err-Refused.ensures.put))

pub returns-in-Err-Refused-clause-one_put : goal.returns-in-Err-Refused-clause-one_put
returns-in-Err-Refused-clause-one_put g c = inr c.put_whole-in-Err-Refused.ensures.one

pub returns-in-Err-Refused-clause-put : goal.returns-in-Err-Refused-clause-put
returns-in-Err-Refused-clause-put g c _ = c.put_whole-in-Err-Refused.ensures.one

pub returns-in-Err-Refused-clause-put_failed : goal.returns-in-Err-Refused-clause-put_failed
returns-in-Err-Refused-clause-put_failed g c six = refusal_six _ _ _ _ _ c.in-Err-Refused.refusal (rw c.status.ensures at c.put_whole-in-Err-Refused.ensures.put) six

pub returns-in-Err-Refused-clause-no_put_failed : goal.returns-in-Err-Refused-clause-no_put_failed
returns-in-Err-Refused-clause-no_put_failed g c = c.put_whole-in-Err-Refused.ensures.no_fault

pub returns-in-Err-Refused-clause-no_memory : goal.returns-in-Err-Refused-clause-no_memory
returns-in-Err-Refused-clause-no_memory g c seven = refusal_seven _ _ _ _ _ c.in-Err-Refused.refusal (rw c.status.ensures at c.put_whole-in-Err-Refused.ensures.put) seven

pub returns-in-Err-Refused-clause-no_memory_before : goal.returns-in-Err-Refused-clause-no_memory_before
returns-in-Err-Refused-clause-no_memory_before g c never seven =
    absurd (refusal_is_not_seven c.in-Err-Refused.refusal (rw c.status.ensures at (c.put_whole-in-Err-Refused.ensures.enough_memory never seven)))

pub returns-in-Err-Refused-clause-none_put : goal.returns-in-Err-Refused-clause-none_put
returns-in-Err-Refused-clause-none_put g c never seven =
    absurd (refusal_is_not_seven c.in-Err-Refused.refusal (rw c.status.ensures at (c.put_whole-in-Err-Refused.ensures.enough_memory never seven)))

-- ---- memory was wanting before

pub returns-in-Err-OutOfMemory-clause-leaves : goal.returns-in-Err-OutOfMemory-clause-leaves
returns-in-Err-OutOfMemory-clause-leaves g c =
    put_nothing (words_of c.args.words.now) _ _ _ _ (g.S.Store.holds c.args.store.now) (g.O.Sink.written c.args.out.now) (rw c.in-Err-OutOfMemory.field-0-is at c.in-Err-OutOfMemory.ensures.text)

pub returns-in-Err-OutOfMemory-clause-ends : goal.returns-in-Err-OutOfMemory-clause-ends
returns-in-Err-OutOfMemory-clause-ends g c = rw c.in-Err-OutOfMemory.field-0-is at c.in-Err-OutOfMemory.ensures.ends

pub returns-in-Err-OutOfMemory-clause-steps : goal.returns-in-Err-OutOfMemory-clause-steps
returns-in-Err-OutOfMemory-clause-steps g c = rw c.in-Err-OutOfMemory.field-0-is at c.in-Err-OutOfMemory.ensures.steps

-- nothing was put, whichever loads failed
pub returns-in-Err-OutOfMemory-clause-headline : goal.returns-in-Err-OutOfMemory-clause-headline
returns-in-Err-OutOfMemory-clause-headline g c =
    headline (words_of c.args.words.now) (g.S.Store.holds c.args.store.now) _ (λ (k : ℕ). ⊥) _ _ _ _ _ _ _ _
    (put_nothing (words_of c.args.words.now) _ _ _ _ (g.S.Store.holds c.args.store.now) (g.O.Sink.written c.args.out.now) (rw c.in-Err-OutOfMemory.field-0-is at c.in-Err-OutOfMemory.ensures.text))
    (λ k failed. absurd failed)
    (rw c.in-Err-OutOfMemory.field-0-is at c.in-Err-OutOfMemory.ensures.steps)

pub returns-in-Err-OutOfMemory-clause-one_put : goal.returns-in-Err-OutOfMemory-clause-one_put
returns-in-Err-OutOfMemory-clause-one_put g c = inl refl

pub returns-in-Err-OutOfMemory-clause-put : goal.returns-in-Err-OutOfMemory-clause-put
returns-in-Err-OutOfMemory-clause-put g c other = absurd (other refl)

pub returns-in-Err-OutOfMemory-clause-no_put_failed : goal.returns-in-Err-OutOfMemory-clause-no_put_failed
returns-in-Err-OutOfMemory-clause-no_put_failed g c _ = refl

pub returns-in-Err-OutOfMemory-clause-no_memory_before : goal.returns-in-Err-OutOfMemory-clause-no_memory_before
returns-in-Err-OutOfMemory-clause-no_memory_before g c never seven =
    let unchanged = rw c.in-Err-OutOfMemory.field-0-is at c.in-Err-OutOfMemory.ensures.no_memory in
    unchanged refl

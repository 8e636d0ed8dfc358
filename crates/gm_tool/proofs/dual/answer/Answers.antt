use Rattle.std.proofs.Common.{inr, refl}
use Rattle.gm_host.specs.Count.{Rises}
use Rattle.gm_tool.specs.DualAnswer.{dual_names_of}
use Rattle.gm_tool.specs.Loads.{FailsAt}
use Rattle.gm_tool.specs.inner.Replies.{IsPlainStatus}
use Rattle.gm_tool.proofs.Duals.{counts_put, counts_stopped, put_dual, stopped_dual, within_status, within_is_sound}
use Rattle.gm_tool.proofs.Saving.{stop_is_sound, stop_status}
use Rattle.gm_tool.proofs.dual.answer.Goals as goal

-- ---- the texts are put

pub returns-in-Ok-clause-text : goal.returns-in-Ok-clause-text
returns-in-Ok-clause-text g c =
    put_dual (dual_names_of c.args.files) (FailsAt (g.S.Store.load_faults c.args.store.now) (g.S.Store.load_faults c.texts_of.new.store) (g.S.Store.loads c.args.store.now) (g.S.Store.loads c.texts_of.new.store)) _ (g.S.Store.holds c.args.store.now) _ c.texts_of.ensures.held c.in-Ok.text c.reply_within_limit.result c.in-Ok.ensures.made c.reply_within_limit.ensures

pub returns-in-Ok-clause-counted_loads : goal.returns-in-Ok-clause-counted_loads
returns-in-Ok-clause-counted_loads g c =
    counts_put (dual_names_of c.args.files) (Rises (g.S.Store.load_faults c.args.store.now) (g.S.Store.load_faults c.texts_of.new.store)) (g.S.Store.loads c.args.store.now) (g.S.Store.loads c.texts_of.new.store) (g.S.Store.holds c.args.store.now) c.in-Ok.text c.reply_within_limit.result c.in-Ok.ensures.counted_loads

pub returns-in-Ok-clause-statuses : goal.returns-in-Ok-clause-statuses
returns-in-Ok-clause-statuses g c = within_status c.in-Ok.text.items c.reply_within_limit.result c.reply_within_limit.ensures

pub returns-in-Ok-clause-sound : goal.returns-in-Ok-clause-sound
returns-in-Ok-clause-sound g c = within_is_sound c.in-Ok.text.items c.reply_within_limit.result _ _ c.reply_within_limit.ensures

-- ---- a file fails, or memory was wanting

pub returns-in-Err-clause-text : goal.returns-in-Err-clause-text
returns-in-Err-clause-text g c =
    rw c.stopped.ensures
    (stopped_dual (dual_names_of c.args.files) (FailsAt (g.S.Store.load_faults c.args.store.now) (g.S.Store.load_faults c.texts_of.new.store) (g.S.Store.loads c.args.store.now) (g.S.Store.loads c.texts_of.new.store)) _ (g.S.Store.holds c.args.store.now) _ c.texts_of.ensures.held c.in-Err.stop c.in-Err.ensures.made)

pub returns-in-Err-clause-counted_loads : goal.returns-in-Err-clause-counted_loads
returns-in-Err-clause-counted_loads g c =
    rw c.stopped.ensures
    (counts_stopped (dual_names_of c.args.files) (Rises (g.S.Store.load_faults c.args.store.now) (g.S.Store.load_faults c.texts_of.new.store)) (g.S.Store.loads c.args.store.now) (g.S.Store.loads c.texts_of.new.store) (g.S.Store.holds c.args.store.now) c.in-Err.stop c.in-Err.ensures.counted_loads)

pub returns-in-Err-clause-statuses : goal.returns-in-Err-clause-statuses
returns-in-Err-clause-statuses g c = rw c.stopped.ensures (stop_status IsPlainStatus (inr refl) c.in-Err.stop)

pub returns-in-Err-clause-sound : goal.returns-in-Err-clause-sound
returns-in-Err-clause-sound g c = rw c.stopped.ensures (stop_is_sound c.in-Err.stop _ _ c.in-Err.ensures.sound)

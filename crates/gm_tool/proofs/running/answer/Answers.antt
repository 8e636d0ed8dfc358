use Rattle.std.proofs.Common.{inr, refl, ap, ◌∙◌}
use Rattle.gm_host.specs.Count.{counted, Rises}
use Rattle.gm_tool.specs.Loads.{FailsAt}
use Rattle.gm_tool.specs.MadeRuns.{names_of}
use Rattle.gm_tool.specs.inner.Stops.{reply_of}
use Rattle.gm_tool.specs.Tool.{IsReplyStatus}
use Rattle.gm_tool.proofs.Saving.{text_saved, stopped_text, map_saved, status_saved, saving_is_sound, stop_is_sound, stop_status, stop_is_no_run, unsaved}
use Rattle.gm_tool.proofs.SaveCounts.{none_saved, once_saved}
use Rattle.gm_tool.proofs.LoadCounts.{counts_saved, counts_stopped, always}
use Rattle.gm_tool.proofs.StepBounds.{if_done}
use Rattle.gm_tool.proofs.StepWords.{least_saved, least_stopped}
use Rattle.gm_tool.proofs.running.answer.Goals as goal

pub returns-in-Ok-clause-text : goal.returns-in-Ok-clause-text
returns-in-Ok-clause-text g c =
    rw (c.saved.ensures.no_load_fault, c.saved.ensures.no_load)
    (text_saved (names_of c.args.files) (FailsAt (g.S.Store.load_faults c.args.store.now) (g.S.Store.load_faults c.prepared.new.store) (g.S.Store.loads c.args.store.now) (g.S.Store.loads c.prepared.new.store)) (Rises (g.S.Store.save_faults c.args.store.now) (g.S.Store.save_faults c.saved.new.store)) (g.S.Store.holds c.args.store.now) _ c.in-Ok.made c.saved.result c.in-Ok.ensures.made (rw (c.prepared.ensures.held, c.prepared.ensures.no_save_fault) at c.saved.ensures.saved))

pub returns-in-Ok-clause-map : goal.returns-in-Ok-clause-map
returns-in-Ok-clause-map g c = map_saved _ _ c.args.files.out.now c.in-Ok.made _ c.saved.result c.in-Ok.ensures.map c.saved.ensures.saved

pub returns-in-Ok-clause-statuses : goal.returns-in-Ok-clause-statuses
returns-in-Ok-clause-statuses g c = status_saved _ _ c.args.files.out.now c.in-Ok.made _ c.saved.result c.in-Ok.ensures.status c.saved.ensures.saved

pub returns-in-Ok-clause-sound : goal.returns-in-Ok-clause-sound
returns-in-Ok-clause-sound g c = saving_is_sound _ _ c.args.files.out.now c.in-Ok.made _ c.saved.result _ (rw c.prepared.ensures.no_save_fault at c.saved.ensures.saved)

pub returns-in-Ok-clause-least : goal.returns-in-Ok-clause-least
returns-in-Ok-clause-least g c = least_saved (g.S.Store.holds c.args.store.now) (names_of c.args.files) _ _ c.saved.result c.in-Ok.ensures.least

pub returns-in-Ok-clause-counted_loads : goal.returns-in-Ok-clause-counted_loads
returns-in-Ok-clause-counted_loads g c =
    rw (c.saved.ensures.no_load_fault, c.saved.ensures.no_load) (counts_saved (names_of c.args.files) (Rises (g.S.Store.load_faults c.args.store.now) (g.S.Store.load_faults c.prepared.new.store)) (g.S.Store.loads c.args.store.now) (g.S.Store.loads c.prepared.new.store) (g.S.Store.holds c.args.store.now) c.in-Ok.made c.saved.result c.in-Ok.ensures.counted_loads)

pub returns-in-Ok-clause-own_files : goal.returns-in-Ok-clause-own_files
returns-in-Ok-clause-own_files g c = rw c.saved.ensures.no_name c.prepared.ensures.own_files

pub returns-in-Ok-clause-in_order : goal.returns-in-Ok-clause-in_order
returns-in-Ok-clause-in_order g c = rw c.saved.ensures.no_load c.prepared.ensures.in_order

pub returns-in-Ok-clause-saves : goal.returns-in-Ok-clause-saves
returns-in-Ok-clause-saves g c = once_saved _ _ _ _ c.args.files.out.now c.in-Ok.made _ c.saved.result c.in-Ok.ensures.status c.saved.ensures.saved (c.saved.ensures.one_save ∙ ap counted c.prepared.ensures.no_save)

pub returns-in-Err-clause-saves : goal.returns-in-Err-clause-saves
returns-in-Err-clause-saves g c = rw c.stopped.ensures (none_saved _ _ c.in-Err.stop _ c.in-Err.ensures.sound c.prepared.ensures.no_save)

pub returns-in-Ok-clause-no_memory : goal.returns-in-Ok-clause-no_memory
returns-in-Ok-clause-no_memory g c none = unsaved _ _ c.args.files.out.now c.in-Ok.made _ c.saved.result c.saved.ensures.saved none ∙ c.prepared.ensures.held

pub returns-in-Ok-clause-no_save_fault : goal.returns-in-Ok-clause-no_save_fault
returns-in-Ok-clause-no_save_fault g c = if_done (λ same. same ∙ c.prepared.ensures.no_save_fault) c.saved.result c.saved.ensures.no_save_fault

pub returns-in-Err-clause-text : goal.returns-in-Err-clause-text
returns-in-Err-clause-text g c =
    rw c.stopped.ensures
    (stopped_text (names_of c.args.files) (FailsAt (g.S.Store.load_faults c.args.store.now) (g.S.Store.load_faults c.prepared.new.store) (g.S.Store.loads c.args.store.now) (g.S.Store.loads c.prepared.new.store)) (Rises (g.S.Store.save_faults c.args.store.now) (g.S.Store.save_faults c.prepared.new.store))
    (g.S.Store.holds c.args.store.now) _ c.prepared.ensures.held c.in-Err.stop c.in-Err.ensures.made)

pub returns-in-Err-clause-statuses : goal.returns-in-Err-clause-statuses
returns-in-Err-clause-statuses g c = rw c.stopped.ensures (stop_status IsReplyStatus (inr (inr refl)) c.in-Err.stop)

pub returns-in-Err-clause-sound : goal.returns-in-Err-clause-sound
returns-in-Err-clause-sound g c = rw c.stopped.ensures (stop_is_sound c.in-Err.stop _ _ c.in-Err.ensures.sound)

pub returns-in-Err-clause-map : goal.returns-in-Err-clause-map
returns-in-Err-clause-map g c = rw c.stopped.ensures (stop_is_no_run _ c.in-Err.stop)

pub returns-in-Err-clause-least : goal.returns-in-Err-clause-least
returns-in-Err-clause-least g c = rw c.stopped.ensures (least_stopped (g.S.Store.holds c.args.store.now) (names_of c.args.files) _ _ c.in-Err.stop)

pub returns-in-Err-clause-counted_loads : goal.returns-in-Err-clause-counted_loads
returns-in-Err-clause-counted_loads g c =
    rw c.stopped.ensures
    (counts_stopped (names_of c.args.files) (Rises (g.S.Store.load_faults c.args.store.now) (g.S.Store.load_faults c.prepared.new.store)) (g.S.Store.loads c.args.store.now) (g.S.Store.loads c.prepared.new.store) (g.S.Store.holds c.args.store.now) c.in-Err.stop c.in-Err.ensures.counted_loads)

pub returns-in-Err-clause-no_save_fault : goal.returns-in-Err-clause-no_save_fault
returns-in-Err-clause-no_save_fault g c = rw c.stopped.ensures (always c.prepared.ensures.no_save_fault (reply_of c.in-Err.stop))

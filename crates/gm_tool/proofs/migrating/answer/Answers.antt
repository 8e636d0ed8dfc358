use Rattle.std.proofs.Common.{inl, inr, refl, ap, ◌∙◌}
use Rattle.std.proofs.lemmas.Result.{err_from_is_err_and}
use Rattle.gm_host.specs.Count.{counted, Rises}
use Rattle.gm_tool.specs.Loads.{FailsAt}
use Rattle.gm_tool.specs.Migrating.{migrate_names_of}
use Rattle.gm_tool.specs.inner.Replies.{IsPlainStatus}
use Rattle.gm_tool.specs.inner.Stops.{reply_of}
use Rattle.gm_tool.proofs.LoadCounts.{always}
use Rattle.gm_tool.proofs.Migrations.{unread_is_sound, stopped_migration, unmade_migration, saved_migration, unmade_is_sound, migrated_status}
use Rattle.gm_tool.proofs.Saving.{map_saved, saving_is_sound, unsaved, stop_is_sound, stop_status, stop_is_no_run}
use Rattle.gm_tool.proofs.SaveCounts.{none_saved, none_migrated, once_saved}
use Rattle.gm_tool.proofs.StepBounds.{if_done}
use Rattle.gm_tool.proofs.StepWords.{read_shown, printed_shown}
use Rattle.gm_tool.proofs.migrating.answer.Goals as goal

pub returns-in_err-made-clause-text : goal.returns-in_err-made-clause-text
returns-in_err-made-clause-text g c =
    let p = err_from_is_err_and c.from_residual.result c.from_residual.ensures.1 in
    rw (p.1, p.2)
    (unmade_migration (migrate_names_of c.args.files) (FailsAt (g.S.Store.load_faults c.args.store.now) (g.S.Store.load_faults c.load_map.new.store) (g.S.Store.loads c.args.store.now) (g.S.Store.loads c.load_map.new.store)) (Rises (g.S.Store.load_faults c.args.store.now) (g.S.Store.load_faults c.load_map.new.store)) (Rises (g.S.Store.save_faults c.args.store.now) (g.S.Store.save_faults c.load_map.new.store))
    (g.S.Store.holds c.args.store.now) c.in-Ok.loaded.map _ c.load_map.ensures.held c.in_err-made.field-0.0 c.in-Ok.ensures.from c.in_err-made.ensures.made)

pub returns-clause-text : goal.returns-clause-text
returns-clause-text g c =
    rw (c.saved.ensures.no_load_fault, c.saved.ensures.no_load)
    (saved_migration (migrate_names_of c.args.files) (FailsAt (g.S.Store.load_faults c.args.store.now) (g.S.Store.load_faults c.load_map.new.store) (g.S.Store.loads c.args.store.now) (g.S.Store.loads c.load_map.new.store)) (Rises (g.S.Store.load_faults c.args.store.now) (g.S.Store.load_faults c.load_map.new.store)) (Rises (g.S.Store.save_faults c.args.store.now) (g.S.Store.save_faults c.saved.new.store))
    (g.S.Store.holds c.args.store.now) c.in-Ok.loaded.map _ c.in_ok-made.made c.saved.result c.in-Ok.ensures.from c.in_ok-made.ensures.made (rw (c.load_map.ensures.held, c.load_map.ensures.no_save_fault) at c.saved.ensures.saved))

pub returns-clause-map : goal.returns-clause-map
returns-clause-map g c = map_saved _ _ c.args.files.out.now c.in_ok-made.made _ c.saved.result (c.in_ok-made.ensures.map c.in-Ok.ensures.read.1.sound) c.saved.ensures.saved

pub returns-in_err-made-clause-most : goal.returns-in_err-made-clause-most
returns-in_err-made-clause-most g c =
    printed_shown (g.S.Store.holds c.args.store.now) c.args.files.map.now (Rises (g.S.Store.load_faults c.args.store.now) (g.S.Store.load_faults c.load_map.new.store)) c.in-Ok.loaded.map _ _ _ c.prepared.ensures.lawful c.in-Ok.ensures.from c.load_map.ensures.most c.prepared.ensures.most

pub returns-clause-most : goal.returns-clause-most
returns-clause-most g c =
    printed_shown (g.S.Store.holds c.args.store.now) c.args.files.map.now (Rises (g.S.Store.load_faults c.args.store.now) (g.S.Store.load_faults c.load_map.new.store)) c.in-Ok.loaded.map _ _ _ c.prepared.ensures.lawful c.in-Ok.ensures.from c.load_map.ensures.most c.prepared.ensures.most

pub returns-in-Err-clause-text : goal.returns-in-Err-clause-text
returns-in-Err-clause-text g c =
    rw c.stopped.ensures
    (stopped_migration (migrate_names_of c.args.files) (FailsAt (g.S.Store.load_faults c.args.store.now) (g.S.Store.load_faults c.load_map.new.store) (g.S.Store.loads c.args.store.now) (g.S.Store.loads c.load_map.new.store)) (Rises (g.S.Store.load_faults c.args.store.now) (g.S.Store.load_faults c.load_map.new.store)) (Rises (g.S.Store.save_faults c.args.store.now) (g.S.Store.save_faults c.load_map.new.store))
    (g.S.Store.holds c.args.store.now) _ c.load_map.ensures.held c.in-Err.stop (λ rises. (rises, c.load_map.ensures.once)) c.in-Err.ensures.from)

pub returns-in-Err-clause-statuses : goal.returns-in-Err-clause-statuses
returns-in-Err-clause-statuses g c = rw c.stopped.ensures (stop_status IsPlainStatus (inr refl) c.in-Err.stop)

pub returns-in-Err-clause-sound : goal.returns-in-Err-clause-sound
returns-in-Err-clause-sound g c =
    rw c.stopped.ensures (stop_is_sound c.in-Err.stop _ _ (unread_is_sound (g.S.Store.holds c.args.store.now) c.args.files.map.now _ _ (λ rises. (rises, c.load_map.ensures.once)) c.in-Err.stop c.in-Err.ensures.from.1))

pub returns-in-Err-clause-saves : goal.returns-in-Err-clause-saves
returns-in-Err-clause-saves g c = rw c.stopped.ensures (none_saved _ _ c.in-Err.stop _ c.in-Err.ensures.from.1 c.load_map.ensures.no_save)

pub returns-in_err-made-clause-saves : goal.returns-in_err-made-clause-saves
returns-in_err-made-clause-saves g c =
    let p = err_from_is_err_and c.from_residual.result c.from_residual.ensures.1 in
    rw (p.1, p.2) (none_migrated _ _ _ c.in_err-made.field-0.0 c.in_err-made.ensures.made c.load_map.ensures.no_save)

pub returns-clause-saves : goal.returns-clause-saves
returns-clause-saves g c = once_saved _ _ _ _ c.args.files.out.now c.in_ok-made.made _ c.saved.result (inl c.in_ok-made.ensures.made.0) c.saved.ensures.saved (c.saved.ensures.one_save ∙ ap counted c.load_map.ensures.no_save)

pub returns-in-Err-clause-map : goal.returns-in-Err-clause-map
returns-in-Err-clause-map g c = rw c.stopped.ensures (stop_is_no_run _ c.in-Err.stop)

pub returns-in-Err-clause-most : goal.returns-in-Err-clause-most
returns-in-Err-clause-most g c = read_shown (g.S.Store.holds c.args.store.now) c.args.files.map.now _ _ c.load_map.ensures.most

pub returns-in-Err-clause-no_save_fault : goal.returns-in-Err-clause-no_save_fault
returns-in-Err-clause-no_save_fault g c = rw c.stopped.ensures (always c.load_map.ensures.no_save_fault (reply_of c.in-Err.stop))

pub returns-in_err-made-clause-statuses : goal.returns-in_err-made-clause-statuses
returns-in_err-made-clause-statuses g c = rw (err_from_is_err_and c.from_residual.result c.from_residual.ensures.1).1 tt

pub returns-in_err-made-clause-map : goal.returns-in_err-made-clause-map
returns-in_err-made-clause-map g c = rw (err_from_is_err_and c.from_residual.result c.from_residual.ensures.1).1 tt

pub returns-in_err-made-clause-no_save_fault : goal.returns-in_err-made-clause-no_save_fault
returns-in_err-made-clause-no_save_fault g c = rw (err_from_is_err_and c.from_residual.result c.from_residual.ensures.1).1 tt

pub returns-in_err-made-clause-sound : goal.returns-in_err-made-clause-sound
returns-in_err-made-clause-sound g c =
    let p = err_from_is_err_and c.from_residual.result c.from_residual.ensures.1 in
    rw (p.1, p.2) (unmade_is_sound _ c.in_err-made.field-0.0 _ _ c.in_err-made.ensures.made)

pub returns-clause-statuses : goal.returns-clause-statuses
returns-clause-statuses g c = migrated_status _ _ c.args.files.out.now _ _ c.in_ok-made.made c.saved.result c.in_ok-made.ensures.made c.saved.ensures.saved

pub returns-clause-sound : goal.returns-clause-sound
returns-clause-sound g c = saving_is_sound _ _ c.args.files.out.now c.in_ok-made.made _ c.saved.result _ (rw c.load_map.ensures.no_save_fault at c.saved.ensures.saved)

pub returns-clause-no_memory : goal.returns-clause-no_memory
returns-clause-no_memory g c none = unsaved _ _ c.args.files.out.now c.in_ok-made.made _ c.saved.result c.saved.ensures.saved none ∙ c.load_map.ensures.held

pub returns-clause-no_save_fault : goal.returns-clause-no_save_fault
returns-clause-no_save_fault g c = if_done (λ same. same ∙ c.load_map.ensures.no_save_fault) c.saved.result c.saved.ensures.no_save_fault

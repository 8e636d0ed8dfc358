use Rattle.std.proofs.lemmas.Result.{err_from_is_err_and}
use Rattle.gm_tool.specs.Loads.{FailsAt}
use Rattle.gm_tool.specs.inner.Refusals.{command_in}
use Rattle.gm_tool.proofs.Asking.{not_loaded, loaded, load_is_sound, judged_is_sound, judged_refuses, judged_status}
use Rattle.gm_tool.proofs.StepWords.{unloaded_shown, loaded_shown}
use Rattle.gm_tool.proofs.program.reply_on.Goals as goal

pub returns-in_err-bytes-clause-text : goal.returns-in_err-bytes-clause-text
returns-in_err-bytes-clause-text g c =
    let p = err_from_is_err_and c.from_residual.result c.from_residual.ensures.1 in
    rw (p.1, p.2)
    (not_loaded (command_in c.args.command) c.args.file.now c.role_of.result c.role_of.ensures _ (FailsAt (g.S.Store.load_faults c.args.store.now) (g.S.Store.load_faults c.load_file.new.store) (g.S.Store.loads c.args.store.now) (g.S.Store.loads c.load_file.new.store)) (λ rises. (rises, c.load_file.ensures.once)) _ (g.S.Store.holds c.args.store.now) _ c.load_file.ensures.held c.in_err-bytes.field-0.0 c.in_err-bytes.ensures.loading)

pub returns-in_err-bytes-clause-sound : goal.returns-in_err-bytes-clause-sound
returns-in_err-bytes-clause-sound g c =
    let p = err_from_is_err_and c.from_residual.result c.from_residual.ensures.1 in
    rw (p.1, p.2) (load_is_sound (g.S.Store.holds c.args.store.now) c.args.file.now c.role_of.result _ _ (λ rises. (rises, c.load_file.ensures.once)) c.in_err-bytes.field-0.0 _ c.in_err-bytes.ensures.loading)

pub returns-clause-text : goal.returns-clause-text
returns-clause-text g c =
    loaded (command_in c.args.command) c.args.file.now c.role_of.result c.role_of.ensures _ (FailsAt (g.S.Store.load_faults c.args.store.now) (g.S.Store.load_faults c.load_file.new.store) (g.S.Store.loads c.args.store.now) (g.S.Store.loads c.load_file.new.store)) (λ rises. (rises, c.load_file.ensures.once)) _ (g.S.Store.holds c.args.store.now) _ c.load_file.ensures.held
    c.in_ok-bytes.bytes c.judged.result c.in_ok-bytes.ensures.loading c.judged.ensures.judged

pub returns-clause-rule_refused : goal.returns-clause-rule_refused
returns-clause-rule_refused g c = judged_refuses c.in_ok-bytes.bytes.items (command_in c.args.command) c.judged.result c.judged.ensures.judged

pub returns-clause-sound : goal.returns-clause-sound
returns-clause-sound g c = judged_is_sound c.in_ok-bytes.bytes.items (command_in c.args.command) c.judged.result _ _ c.judged.ensures.judged

pub returns-in_err-bytes-clause-show_most : goal.returns-in_err-bytes-clause-show_most
returns-in_err-bytes-clause-show_most g c show = unloaded_shown (g.S.Store.holds c.args.store.now) c.args.file.now _

pub returns-clause-show_most : goal.returns-clause-show_most
returns-clause-show_most g c show =
    loaded_shown (g.S.Store.holds c.args.store.now) c.args.file.now c.in_ok-bytes.bytes.items _ _ c.in_ok-bytes.ensures.loading.1 (c.judged.ensures.show_most show)

pub returns-clause-statuses : goal.returns-clause-statuses
returns-clause-statuses g c = judged_status c.in_ok-bytes.bytes.items (command_in c.args.command) c.judged.result c.judged.ensures.judged

pub returns-in_err-bytes-clause-statuses : goal.returns-in_err-bytes-clause-statuses
returns-in_err-bytes-clause-statuses g c = rw (err_from_is_err_and c.from_residual.result c.from_residual.ensures.1).1 tt

pub returns-in_err-bytes-clause-rule_refused : goal.returns-in_err-bytes-clause-rule_refused
returns-in_err-bytes-clause-rule_refused g c = rw (err_from_is_err_and c.from_residual.result c.from_residual.ensures.1).1 tt

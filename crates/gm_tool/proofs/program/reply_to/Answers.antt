use Rattle.std.proofs.Common.{inl, inr}
use Rattle.gm_tool.specs.MadeRuns.{names_of}
use Rattle.gm_tool.specs.Migrating.{migrate_names_of}
use Rattle.gm_tool.specs.inner.Refusals.{command_in}
use Rattle.gm_tool.specs.Tool.{words_of}
use Rattle.gm_tool.specs.DualAnswer.{dual_names_of}
use Rattle.gm_tool.proofs.Asking.{file_text, run_text, migrate_text, dual_text, grid_text, usage_text, grid_status, plain_status}
use Rattle.gm_tool.proofs.Ended.{file_ends, file_steps, grid_ends, grid_steps, migrate_ends, migrate_steps, dual_ends, dual_steps, run_ends, run_steps, usage_ends, usage_steps}
use Rattle.gm_tool.proofs.program.reply_to.Goals as goal

-- ---- a command on one file

pub returns-in-Some-clause-text : goal.returns-in-Some-clause-text
returns-in-Some-clause-text g c =
    file_text (words_of c.args.words.now) _ _ _ c.reply_on.result (g.S.Store.holds c.args.store.now) (command_in c.in-Some.command) c.in-Some.file.now c.in-Some.ensures c.reply_on.ensures.text

pub returns-in-Some-clause-ends : goal.returns-in-Some-clause-ends
returns-in-Some-clause-ends g c =
    file_ends (words_of c.args.words.now) (command_in c.in-Some.command) c.in-Some.file.now c.in-Some.ensures _ _ c.reply_on.result c.reply_on.ensures.statuses c.reply_on.ensures.rule_refused c.reply_on.ensures.sound
    c.reply_on.ensures.held c.reply_on.ensures.no_save c.reply_on.ensures.no_save_fault c.reply_on.ensures.one_load c.reply_on.ensures.named

pub returns-in-Some-clause-steps : goal.returns-in-Some-clause-steps
returns-in-Some-clause-steps g c =
    file_steps (words_of c.args.words.now) (command_in c.in-Some.command) c.in-Some.file.now c.in-Some.ensures (g.S.Store.holds c.args.store.now) _ _ _ c.reply_on.ensures.show_most

pub returns-in-Some-clause-statuses : goal.returns-in-Some-clause-statuses
returns-in-Some-clause-statuses g c = c.reply_on.ensures.statuses

-- ---- a grid

pub returns-in-Some-grid_of-clause-text : goal.returns-in-Some-grid_of-clause-text
returns-in-Some-grid_of-clause-text g c = grid_text (words_of c.args.words.now) c.in-Some-grid_of.size c.in-Some-grid_of.ensures _ _ (g.S.Store.holds c.args.store.now) c.answer.result c.answer.ensures.reply

pub returns-in-Some-grid_of-clause-ends : goal.returns-in-Some-grid_of-clause-ends
returns-in-Some-grid_of-clause-ends g c = grid_ends (words_of c.args.words.now) c.in-Some-grid_of.size c.in-Some-grid_of.ensures _ c.answer.result c.answer.ensures.reply

pub returns-in-Some-grid_of-clause-steps : goal.returns-in-Some-grid_of-clause-steps
returns-in-Some-grid_of-clause-steps g c =
    grid_steps (words_of c.args.words.now) c.in-Some-grid_of.size c.in-Some-grid_of.ensures (g.S.Store.holds c.args.store.now) c.answer.result _ _ c.answer.ensures.most c.answer.ensures.least

pub returns-in-Some-grid_of-clause-statuses : goal.returns-in-Some-grid_of-clause-statuses
returns-in-Some-grid_of-clause-statuses g c = grid_status c.in-Some-grid_of.size c.answer.result c.answer.ensures.reply

-- ---- a migration

pub returns-in-Some-migrate_of-clause-text : goal.returns-in-Some-migrate_of-clause-text
returns-in-Some-migrate_of-clause-text g c =
    migrate_text (words_of c.args.words.now) _ _ _ c.answer-in-Some-migrate_of.result (g.S.Store.holds c.args.store.now) (migrate_names_of c.in-Some-migrate_of.files) c.in-Some-migrate_of.ensures c.answer-in-Some-migrate_of.ensures.text

pub returns-in-Some-migrate_of-clause-ends : goal.returns-in-Some-migrate_of-clause-ends
returns-in-Some-migrate_of-clause-ends g c =
    migrate_ends (words_of c.args.words.now) (migrate_names_of c.in-Some-migrate_of.files) c.in-Some-migrate_of.ensures _ _ c.answer-in-Some-migrate_of.result c.answer-in-Some-migrate_of.ensures.statuses c.answer-in-Some-migrate_of.ensures.sound
    c.answer-in-Some-migrate_of.ensures.one_load c.answer-in-Some-migrate_of.ensures.named c.answer-in-Some-migrate_of.ensures.saves c.answer-in-Some-migrate_of.ensures.no_save_fault c.answer-in-Some-migrate_of.ensures.map

pub returns-in-Some-migrate_of-clause-steps : goal.returns-in-Some-migrate_of-clause-steps
returns-in-Some-migrate_of-clause-steps g c =
    migrate_steps (words_of c.args.words.now) (migrate_names_of c.in-Some-migrate_of.files) c.in-Some-migrate_of.ensures (g.S.Store.holds c.args.store.now) _ _ _ c.answer-in-Some-migrate_of.ensures.most

pub returns-in-Some-migrate_of-clause-statuses : goal.returns-in-Some-migrate_of-clause-statuses
returns-in-Some-migrate_of-clause-statuses g c = plain_status c.answer-in-Some-migrate_of.result c.answer-in-Some-migrate_of.ensures.statuses

-- ---- the duals of a map and a book

pub returns-in-Some-dual_of-clause-text : goal.returns-in-Some-dual_of-clause-text
returns-in-Some-dual_of-clause-text g c =
    dual_text (words_of c.args.words.now) _ _ _ c.answer-in-Some-dual_of.result (g.S.Store.holds c.args.store.now) (dual_names_of c.in-Some-dual_of.files) c.in-Some-dual_of.ensures c.answer-in-Some-dual_of.ensures.text

pub returns-in-Some-dual_of-clause-ends : goal.returns-in-Some-dual_of-clause-ends
returns-in-Some-dual_of-clause-ends g c =
    dual_ends (words_of c.args.words.now) (dual_names_of c.in-Some-dual_of.files) c.in-Some-dual_of.ensures _ _ c.answer-in-Some-dual_of.result c.answer-in-Some-dual_of.ensures.statuses c.answer-in-Some-dual_of.ensures.sound
    c.answer-in-Some-dual_of.ensures.held c.answer-in-Some-dual_of.ensures.no_save c.answer-in-Some-dual_of.ensures.no_save_fault c.answer-in-Some-dual_of.ensures.in_order c.answer-in-Some-dual_of.ensures.own_files c.answer-in-Some-dual_of.ensures.counted_loads

pub returns-in-Some-dual_of-clause-steps : goal.returns-in-Some-dual_of-clause-steps
returns-in-Some-dual_of-clause-steps g c =
    dual_steps (words_of c.args.words.now) (dual_names_of c.in-Some-dual_of.files) c.in-Some-dual_of.ensures (g.S.Store.holds c.args.store.now) _ _ _ c.answer-in-Some-dual_of.ensures.most

pub returns-in-Some-dual_of-clause-statuses : goal.returns-in-Some-dual_of-clause-statuses
returns-in-Some-dual_of-clause-statuses g c = plain_status c.answer-in-Some-dual_of.result c.answer-in-Some-dual_of.ensures.statuses

-- ---- no command

pub returns-in_default-run_of-clause-text : goal.returns-in_default-run_of-clause-text
returns-in_default-run_of-clause-text g c =
    usage_text (words_of c.args.words.now) _ _ (g.S.Store.holds c.args.store.now) (λ either. elim either [ inl file ↦ c.in_default.ensures file | inr (inl (inl run)) ↦ c.in_default-run_of.ensures run | inr (inl (inr migrate)) ↦ c.in_default-migrate_of.ensures migrate | inr (inr (inl dual)) ↦ c.in_default-dual_of.ensures dual | inr (inr (inr grid)) ↦ c.in_default-grid_of.ensures grid ])

pub returns-in_default-run_of-clause-ends : goal.returns-in_default-run_of-clause-ends
returns-in_default-run_of-clause-ends g c =
    usage_ends (words_of c.args.words.now) (λ either. elim either [ inl file ↦ c.in_default.ensures file | inr (inl (inl run)) ↦ c.in_default-run_of.ensures run | inr (inl (inr migrate)) ↦ c.in_default-migrate_of.ensures migrate | inr (inr (inl dual)) ↦ c.in_default-dual_of.ensures dual | inr (inr (inr grid)) ↦ c.in_default-grid_of.ensures grid ]) _

pub returns-in_default-run_of-clause-steps : goal.returns-in_default-run_of-clause-steps
returns-in_default-run_of-clause-steps g c =
    usage_steps (words_of c.args.words.now) (λ either. elim either [ inl file ↦ c.in_default.ensures file | inr (inl (inl run)) ↦ c.in_default-run_of.ensures run | inr (inl (inr migrate)) ↦ c.in_default-migrate_of.ensures migrate | inr (inr (inl dual)) ↦ c.in_default-dual_of.ensures dual | inr (inr (inr grid)) ↦ c.in_default-grid_of.ensures grid ]) (g.S.Store.holds c.args.store.now) _ _

-- ---- a run

pub returns-clause-text : goal.returns-clause-text
returns-clause-text g c =
    run_text (words_of c.args.words.now) _ _ _ c.answer-2.result (g.S.Store.holds c.args.store.now) (names_of c.in-Some-run_of.files) c.in-Some-run_of.ensures c.answer-2.ensures.text

pub returns-clause-ends : goal.returns-clause-ends
returns-clause-ends g c =
    run_ends (words_of c.args.words.now) (names_of c.in-Some-run_of.files) c.in-Some-run_of.ensures _ _ c.answer-2.result c.answer-2.ensures.statuses c.answer-2.ensures.sound c.answer-2.ensures.in_order c.answer-2.ensures.own_files c.answer-2.ensures.counted_loads
    c.answer-2.ensures.saves c.answer-2.ensures.no_save_fault c.answer-2.ensures.map

pub returns-clause-steps : goal.returns-clause-steps
returns-clause-steps g c =
    run_steps (words_of c.args.words.now) (names_of c.in-Some-run_of.files) c.in-Some-run_of.ensures (g.S.Store.holds c.args.store.now) c.answer-2.result _ _ c.answer-2.ensures.most c.answer-2.ensures.least

pub returns-clause-statuses : goal.returns-clause-statuses
returns-clause-statuses g c = c.answer-2.ensures.statuses

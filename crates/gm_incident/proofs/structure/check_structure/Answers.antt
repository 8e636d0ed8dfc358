use Rattle.std.proofs.lemmas.Result.{err_from_is_err_and, MatchResult-weaker}
use Rattle.gm_model.specs.Rules.{rule_of}
use Rattle.gm_incident.proofs.Faulty.{hooks_fault, hook_word_fault, width_fault, connected_fault}
use Rattle.gm_incident.proofs.structure.check_structure.Goals as goal

pub returns-in_err-check_hooks : goal.returns-in_err-check_hooks
returns-in_err-check_hooks c =
    let p = err_from_is_err_and c.from_residual.result c.from_residual.ensures.1 in
    let h = c.in_err-check_hooks.ensures in
    rw (p.1, p.2) (hooks_fault (rule_of c.args.rule.now) c.in_err-check_hooks.field-0.0 h.0 h.1)

pub returns-in_err-check_hook_words : goal.returns-in_err-check_hook_words
returns-in_err-check_hook_words c =
    let p = err_from_is_err_and c.from_residual-in_err-check_hook_words.result c.from_residual-in_err-check_hook_words.ensures.1 in
    rw (p.1, p.2) (hook_word_fault (rule_of c.args.rule.now) c.in_err-check_hook_words.field-0.0 c.in_ok-check_hooks.ensures c.in_err-check_hook_words.ensures)

pub returns-in_err-check_widths : goal.returns-in_err-check_widths
returns-in_err-check_widths c =
    let p = err_from_is_err_and c.from_residual-in_err-check_widths.result c.from_residual-in_err-check_widths.ensures.1 in
    rw (p.1, p.2) (width_fault (rule_of c.args.rule.now) c.in_err-check_widths.field-0.0 c.in_ok-check_hooks.ensures c.in_ok-check_hook_words.ensures c.in_err-check_widths.ensures)

pub returns : goal.returns
returns c = MatchResult-weaker c.check_connected.result c.check_connected.ensures
    (λ _ h. record { hook = c.in_ok-check_hooks.ensures; plain = c.in_ok-check_hook_words.ensures; widths = c.in_ok-check_widths.ensures; connected = h })
    (λ fault. connected_fault (rule_of c.args.rule.now) fault c.in_ok-check_hooks.ensures c.in_ok-check_hook_words.ensures c.in_ok-check_widths.ensures)

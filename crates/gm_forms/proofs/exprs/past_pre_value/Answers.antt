use Rattle.std.proofs.Common.{[], map, ap, refl}
use Rattle.std.proofs.lemmas.Result.{err_from_is_err_and}
use Rattle.gm_forms.specs.inner.Forms.{rule_form_of}
use Rattle.gm_forms.specs.inner.Reading.{PreSlot, Required, Held}
use Rattle.gm_forms.specs.inner.Standing.{rules_of, current_of}
use Rattle.gm_forms.proofs.Values.{pre_past, value_fails}
use Rattle.gm_model.proofs.Exits.{unless_ok}
use Rattle.gm_forms.proofs.exprs.past_pre_value.Goals as goal

pub returns-in_err-value-clause-past : goal.returns-in_err-value-clause-past
returns-in_err-value-clause-past c nodes last =
    let p = err_from_is_err_and c.from_residual.result c.from_residual.ensures.1 in
    let text = c.args.lexer.now.text in
    let held : Held = record { rules = rules_of text c.args.draft.now; current = current_of text c.args.draft.now; part = Required [] } in
    rw (p.1, p.2) (value_fails (PreSlot c.args.heading c.args.rules) c.args.heading.dim c.args.lexer.now c.in_err-value.field-0.0 last held refl c.in_err-value.ensures.fault)

pub returns-clause-past : goal.returns-clause-past
returns-clause-past c nodes last =
    pre_past c.args.lexer.now c.skip_value.new.lexer c.in_ok-value.value c.in_ok-value.ensures.over nodes c.args.draft.now c.require.new.self last c.args.heading c.args.rules
    c.in_ok-value.ensures.dim (ap (λ rules. map (rule_form_of c.args.lexer.now.text) rules.items) c.require.ensures.rules) (c.require.ensures.current c.args.lexer.now.text) _ refl

pub returns-in_err-value-clause-onward : goal.returns-in_err-value-clause-onward
returns-in_err-value-clause-onward c = unless_ok _ c.from_residual.result c.from_residual.ensures.0

pub returns-in_err-value-clause-outside : goal.returns-in_err-value-clause-outside
returns-in_err-value-clause-outside c = unless_ok _ c.from_residual.result c.from_residual.ensures.0

pub returns-in_err-value-clause-within : goal.returns-in_err-value-clause-within
returns-in_err-value-clause-within c state_in draft_in = unless_ok _ c.from_residual.result c.from_residual.ensures.0

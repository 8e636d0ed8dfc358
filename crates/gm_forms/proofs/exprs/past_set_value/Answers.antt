use Rattle.std.proofs.Common.{[], map, ap, refl}
use Rattle.std.proofs.lemmas.Result.{err_from_is_err_and}
use Rattle.gm_forms.specs.inner.Forms.{mention_of, rule_form_of}
use Rattle.gm_forms.specs.inner.Reading.{SetSlot, Assigned, Held}
use Rattle.gm_forms.specs.inner.Standing.{rules_of, current_of, spot_of}
use Rattle.gm_forms.proofs.Values.{set_past, value_fails}
use Rattle.gm_model.proofs.Exits.{unless_ok}
use Rattle.gm_forms.proofs.exprs.past_set_value.Goals as goal

pub returns-in_err-value-clause-past : goal.returns-in_err-value-clause-past
returns-in_err-value-clause-past c nodes last =
    let p = err_from_is_err_and c.from_residual.result c.from_residual.ensures.1 in
    let text = c.args.lexer.now.text in
    let held : Held = record { rules = rules_of text c.args.draft.now; current = current_of text c.args.draft.now; part = Assigned (mention_of text c.args.embed) [] } in
    rw (p.1, p.2) (value_fails (SetSlot (spot_of nodes c.args.spot)) c.args.spot.heading.dim c.args.lexer.now c.in_err-value.field-0.0 last held refl c.in_err-value.ensures.fault)

pub returns-in_err-assign-clause-past : goal.returns-in_err-assign-clause-past
returns-in_err-assign-clause-past c nodes last =
    let p = err_from_is_err_and c.from_residual-in_err-assign.result c.from_residual-in_err-assign.ensures.1 in
    rw (p.1, p.2, c.in_err-assign.ensures.memory) tt

pub returns-clause-past : goal.returns-clause-past
returns-clause-past c nodes last =
    set_past c.args.lexer.now c.skip_value.new.lexer c.in_ok-value.value c.in_ok-value.ensures.over nodes c.args.draft.now c.assign.new.self last c.args.spot c.args.embed
    c.in_ok-value.ensures.dim (ap (λ rules. map (rule_form_of c.args.lexer.now.text) rules.items) c.in_ok-assign.ensures.rules) (c.in_ok-assign.ensures.current c.args.lexer.now.text)

pub returns-in_err-value-clause-onward : goal.returns-in_err-value-clause-onward
returns-in_err-value-clause-onward c = unless_ok _ c.from_residual.result c.from_residual.ensures.0

pub returns-in_err-value-clause-outside : goal.returns-in_err-value-clause-outside
returns-in_err-value-clause-outside c = unless_ok _ c.from_residual.result c.from_residual.ensures.0

pub returns-in_err-value-clause-within : goal.returns-in_err-value-clause-within
returns-in_err-value-clause-within c state_in draft_in = unless_ok _ c.from_residual.result c.from_residual.ensures.0

pub returns-in_err-assign-clause-onward : goal.returns-in_err-assign-clause-onward
returns-in_err-assign-clause-onward c = unless_ok _ c.from_residual-in_err-assign.result c.from_residual-in_err-assign.ensures.0

pub returns-in_err-assign-clause-outside : goal.returns-in_err-assign-clause-outside
returns-in_err-assign-clause-outside c = unless_ok _ c.from_residual-in_err-assign.result c.from_residual-in_err-assign.ensures.0

pub returns-in_err-assign-clause-within : goal.returns-in_err-assign-clause-within
returns-in_err-assign-clause-within c state_in draft_in = unless_ok _ c.from_residual-in_err-assign.result c.from_residual-in_err-assign.ensures.0

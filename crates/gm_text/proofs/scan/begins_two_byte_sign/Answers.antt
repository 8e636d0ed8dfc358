use Rattle.std.proofs.Common.{◌+◌, length, get_or, sym, ap, ◌∙◌, arith}
use Rattle.std.proofs.lemmas.Bool.{le-ltb, ltb-true}
use Rattle.std.proofs.lemmas.List.{drop_more, drop_all}
use Rattle.gm_model.specs.Tokens.{begins_two_byte_sign}
use Rattle.gm_text.proofs.scan.begins_two_byte_sign.Goals as goal

pub returns-then-at-text-clause-value : goal.returns-then-at-text-clause-value
returns-then-at-text-clause-value c =
    let text = c.args.text.now in
    c.is_two_byte_sign.ensures ∙ sym (ap (begins_two_byte_sign (get_or text c.args.at 0)) (drop_more text (c.args.at + 1) 0 c.if-at-text.true))

pub returns-then-at-text-clause-room : goal.returns-then-at-text-clause-room
returns-then-at-text-clause-room c _ = omega (arith, c.if-at-text.true)

pub returns-else-at-text-clause-value : goal.returns-else-at-text-clause-value
returns-else-at-text-clause-value c =
    let text = c.args.text.now in
    le-ltb (c.args.at + 1) (length text) c.if-at-text.false ∙ sym (ap (begins_two_byte_sign (get_or text c.args.at 0)) (drop_all (c.args.at + 1) text c.if-at-text.false))

pub returns-else-at-text-clause-room : goal.returns-else-at-text-clause-room
returns-else-at-text-clause-room c more = omega (arith, ltb-true (c.args.at + 1) (length c.args.text.now) more)

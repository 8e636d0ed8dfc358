use Rattle.std.proofs.Common.{◌≡◌, ◌++◌, ◌<◌, length, get_or, map, sym, subst, ◌∙◌, ap, arith, codes}
use Rattle.std.specs.Prelude.{decimal}
use Rattle.std.proofs.lemmas.List.{get_or-map, length-map}
use Rattle.gm_model.specs.Rules.{rule_of}
use Rattle.gm_text.specs.SchemaText as schemas
use Rattle.gm_book.specs.Canonical.{rule_lines}
use Rattle.gm_book.specs.inner.Printing.{NamesItsNodes, HasNamedExprs}
use Rattle.gm_book.proofs.Lines.{mapped_more}
use Rattle.gm_model.proofs.Exits.{unless_ok}
use Rattle.gm_book.proofs.printing.print_book.Goals as goal

pub print_rule-requires-clause-numbers : goal.print_rule-requires-clause-numbers
print_rule-requires-clause-numbers c =
    let same : c.as_slice-rule-items.result.now ≡ c.args.book.now.rules = c.as_slice-rule-items.ensures in
    let within : c.loop-rule.rule-index < length c.args.book.now.rules = omega (arith, c.loop-rule-test.true, ap length same) in
    let here : c.rule-item.result ≡ get_or c.args.book.now.rules c.loop-rule.rule-index c.rule-item.result = c.rule-item.is ∙ ap (λ rs. get_or rs c.loop-rule.rule-index c.rule-item.result) same in
    let there : get_or (map rule_of c.args.book.now.rules) c.loop-rule.rule-index (rule_of c.rule-item.result) ≡ rule_of c.rule-item.result = get_or-map rule_of c.args.book.now.rules c.loop-rule.rule-index c.rule-item.result (rule_of c.rule-item.result) within ∙ ap rule_of (sym here) in
    subst NamesItsNodes there (c.requires.numbers c.loop-rule.rule-index (rule_of c.rule-item.result) (omega (arith, length-map c.args.book.now.rules rule_of, within)))

pub print_rule-requires-clause-exprs : goal.print_rule-requires-clause-exprs
print_rule-requires-clause-exprs c =
    let same : c.as_slice-rule-items.result.now ≡ c.args.book.now.rules = c.as_slice-rule-items.ensures in
    let within : c.loop-rule.rule-index < length c.args.book.now.rules = omega (arith, c.loop-rule-test.true, ap length same) in
    let here : c.rule-item.result ≡ get_or c.args.book.now.rules c.loop-rule.rule-index c.rule-item.result = c.rule-item.is ∙ ap (λ rs. get_or rs c.loop-rule.rule-index c.rule-item.result) same in
    let there : get_or (map rule_of c.args.book.now.rules) c.loop-rule.rule-index (rule_of c.rule-item.result) ≡ rule_of c.rule-item.result = get_or-map rule_of c.args.book.now.rules c.loop-rule.rule-index c.rule-item.result (rule_of c.rule-item.result) within ∙ ap rule_of (sym here) in
    subst (HasNamedExprs c.args.book.now.schema) there (c.requires.exprs c.loop-rule.rule-index (rule_of c.rule-item.result) (omega (arith, length-map c.args.book.now.rules rule_of, within)))

pub loop-rule-preserved : goal.loop-rule-preserved
loop-rule-preserved c =
    let schema = c.args.book.now.schema in
    let same : c.as_slice-rule-items.result.now ≡ c.args.book.now.rules = c.as_slice-rule-items.ensures in
    let within : c.loop-rule.rule-index < length c.args.book.now.rules = omega (arith, c.loop-rule-test.true, ap length same) in
    let here : c.rule-item.result ≡ get_or c.args.book.now.rules c.loop-rule.rule-index c.rule-item.result = c.rule-item.is ∙ ap (λ rs. get_or rs c.loop-rule.rule-index c.rule-item.result) same in
    mapped_more rule_of (rule_lines schema) c.args.book.now.rules c.loop-rule.rule-index c.rule-item.result (codes "book " ++ decimal c.args.book.now.version ++ codes "\n" ++ schemas.canonical schema) c.loop-rule.text c.print_rule.new.text within c.loop-rule.invariant
    (c.in_ok-print_rule.ensures ∙ ap (λ r. c.loop-rule.text ++ rule_lines schema (rule_of r)) here)

pub returns-in_err-print_header : goal.returns-in_err-print_header
returns-in_err-print_header c = unless_ok _ c.from_residual.result c.from_residual.ensures.0

pub returns-in_err-print_rule : goal.returns-in_err-print_rule
returns-in_err-print_rule c = unless_ok _ c.from_residual-in_err-print_rule.result c.from_residual-in_err-print_rule.ensures.0

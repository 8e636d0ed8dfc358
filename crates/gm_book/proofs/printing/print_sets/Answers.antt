use Rattle.std.proofs.Common.{◌≡◌, ◌<◌, ℕ, List, length, get_or, map, sym, ap, subst, ◌++◌, ◌∙◌, codes, refl, arith}
use Rattle.gm_model.specs.declared.rule.Set.{Set}
use Rattle.gm_model.specs.declared.schema.Embed.{Embed}
use Rattle.gm_model.specs.declared.schema.Schema.{Schema}
use Rattle.gm_model.specs.Rules.{Rule, Assignment, rule_of, assignment_of}
use Rattle.gm_model.specs.Trees.{tree_of}
use Rattle.gm_expr.specs.ExprText.{IsNamed, embed_name, expr_text}
use Rattle.gm_book.specs.Canonical.{set_text}
use Rattle.gm_book.specs.inner.Printing.{AreNamed}
use Rattle.gm_book.proofs.Lines.{each_at, mapped_more, put_more, embed_named}
use Rattle.gm_model.proofs.Exits.{never_ok}
use Rattle.gm_book.proofs.printing.print_sets.Goals as goal

-- the numbers in an assignment that comes name something
named : (schema : Schema) (rule : Rule) (sets : List Set) (i : ℕ) (set : Set) → AreNamed schema rule (map assignment_of sets) → i < length sets → set ≡ get_or sets i set
    → (set.embed < length schema.embeds) × IsNamed schema rule (tree_of set.expr)
named schema rule sets i set all inside is =
    let P = λ (one : Assignment). (one.embed < length schema.embeds) × IsNamed schema rule one.tree in
    subst (λ (one : Set). P (assignment_of one)) (sym is) (each_at P assignment_of sets i set inside all)

pub bounds-embeds-from : goal.bounds-embeds-from
bounds-embeds-from c =
    let (inside, _) = named c.args.schema.now (rule_of c.args.rule.now) c.args.sets.now c.loop-set.set-index c.set-item.result c.requires c.loop-set-test.true c.set-item.is in
    omega (arith, inside, c.from.ensures, ap length c.as_slice-embeds.ensures)

pub print_expr-requires : goal.print_expr-requires
print_expr-requires c = (named c.args.schema.now (rule_of c.args.rule.now) c.args.sets.now c.loop-set.set-index c.set-item.result c.requires c.loop-set-test.true c.set-item.is).1

pub loop-set-preserved : goal.loop-set-preserved
loop-set-preserved c =
    let schema = c.args.schema.now in
    let rule = rule_of c.args.rule.now in
    let set = assignment_of c.set-item.result in
    let text = c.loop-set.text in
    let start = codes " with " in
    let name = embed_name schema.embeds set.embed in
    let tree = expr_text schema rule set.tree in
    let (within, _) = named schema rule c.args.sets.now c.loop-set.set-index c.set-item.result c.requires c.loop-set-test.true c.set-item.is in
    let inside : c.from.result < length c.as_slice-embeds.result.now = omega (arith, within, c.from.ensures, ap length c.as_slice-embeds.ensures) in
    let name_is : c.bytes.result.now ≡ name =
    c.bytes.ensures.value ∙ ap (λ (embed : Embed). embed.name) (sym c.index-embeds-from.is) ∙ embed_named c.as_slice-embeds.result.now c.from.result c.index-embeds-from.result inside c.index-embeds-from.is
    ∙ ap (λ embeds. embed_name embeds c.from.result) c.as_slice-embeds.ensures ∙ ap (embed_name schema.embeds) c.from.ensures in
    let p = put_more text c.put.new.self start c.put-in-loop-set.new.self c.bytes.result.now name c.in_ok-put.ensures.ok c.in_ok-put-2.ensures.ok name_is in
    let p = put_more text c.put-in-loop-set.new.self (start ++ name) c.put-in-loop-set-2.new.self (codes " = ") (codes " = ") p c.in_ok-put-3.ensures.ok refl in
    let p = put_more text c.put-in-loop-set-2.new.self (start ++ name ++ codes " = ") c.print_expr.new.out tree tree p c.in_ok-print_expr.ensures.ok refl in
    mapped_more assignment_of (set_text schema rule) c.args.sets.now c.loop-set.set-index c.set-item.result c.args.text.now text c.print_expr.new.out c.loop-set-test.true c.loop-set.invariant
    (p ∙ ap (λ made. text ++ set_text schema rule (assignment_of made)) c.set-item.is)

pub returns-in_err-put : goal.returns-in_err-put
returns-in_err-put c = never_ok _ c.from_residual.result c.from_residual.ensures.0

pub returns-in_err-put-2 : goal.returns-in_err-put-2
returns-in_err-put-2 c = never_ok _ c.from_residual-in_err-put-2.result c.from_residual-in_err-put-2.ensures.0

pub returns-in_err-put-3 : goal.returns-in_err-put-3
returns-in_err-put-3 c = never_ok _ c.from_residual-in_err-put-3.result c.from_residual-in_err-put-3.ensures.0

pub returns-in_err-print_expr : goal.returns-in_err-print_expr
returns-in_err-print_expr c = never_ok _ c.from_residual-in_err-print_expr.result c.from_residual-in_err-print_expr.ensures.0

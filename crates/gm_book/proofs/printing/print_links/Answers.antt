use Rattle.std.proofs.Common.{◌≡◌, ◌<◌, ◌++◌, codes, get_or, length, map, refl, sym, ap, ◌∙◌, rules}
use Rattle.std.specs.Prelude.{decimal}
use Rattle.gm_model.specs.declared.rule.Link.{Link}
use Rattle.gm_model.specs.declared.rule.Node.{Node}
use Rattle.gm_model.specs.Rules.{node_of, name_at}
use Rattle.gm_book.specs.Canonical.{link_line}
use Rattle.gm_book.proofs.Lines.{flat_more, put_more, node_named}
use Rattle.gm_model.proofs.Exits.{never_ok}
use Rattle.gm_book.proofs.printing.print_links.Goals as goal

pub loop-link-preserved : goal.loop-link-preserved
loop-link-preserved c =
    let nodes = c.args.nodes.now in
    let named = map node_of nodes in
    let text = c.loop-link.text in
    let blank : Link = record { from = 0; label = 0; to = 0 } in
    let link = get_or c.args.links.now c.loop-link.link-index blank in
    let from = name_at named link.from in
    let to = name_at named link.to in
    let from_inside : c.from.result < length nodes = search rules in
    let to_inside : c.from-in-loop-link-2.result < length nodes = search rules in
    let from_is : c.bytes.result.now ≡ from =
    c.bytes.ensures.value ∙ ap (λ (node : Node). node.name) (sym c.index-nodes-from.is) ∙ node_named nodes c.from.result c.index-nodes-from.result from_inside c.index-nodes-from.is ∙ ap (name_at named) c.from.ensures in
    let to_is : c.bytes-in-loop-link.result.now ≡ to =
    c.bytes-in-loop-link.ensures.value ∙ ap (λ (node : Node). node.name) (sym c.index-nodes-from-in-loop-link.is)
    ∙ node_named nodes c.from-in-loop-link-2.result c.index-nodes-from-in-loop-link.result to_inside c.index-nodes-from-in-loop-link.is ∙ ap (name_at named) c.from-in-loop-link-2.ensures in
    let p : c.put.new.self ≡ text ++ from = c.in_ok-put.ensures.ok ∙ ap (λ name. text ++ name) from_is in
    let p = put_more text c.put.new.self from c.put-in-loop-link.new.self (codes " -") (codes " -") p c.in_ok-put-2.ensures.ok refl in
    let p = put_more text c.put-in-loop-link.new.self (from ++ codes " -") c.number.new.self (decimal c.from-in-loop-link.result) (decimal link.label) p c.in_ok-number.ensures.ok (ap decimal c.from-in-loop-link.ensures) in
    let p = put_more text c.number.new.self (from ++ codes " -" ++ decimal link.label) c.put-in-loop-link-2.new.self (codes "- ") (codes "- ") p c.in_ok-put-3.ensures.ok refl in
    let p = put_more text c.put-in-loop-link-2.new.self (from ++ codes " -" ++ decimal link.label ++ codes "- ") c.put-in-loop-link-3.new.self c.bytes-in-loop-link.result.now to p c.in_ok-put-4.ensures.ok to_is in
    let p = put_more text c.put-in-loop-link-3.new.self (from ++ codes " -" ++ decimal link.label ++ codes "- " ++ to) c.put-in-loop-link-4.new.self (codes "\n") (codes "\n") p c.in_ok-put-5.ensures.ok refl in
    flat_more (link_line named) c.args.links.now c.loop-link.link-index blank c.args.text.now text c.put-in-loop-link-4.new.self c.loop-link-test.true c.loop-link.invariant p

pub returns-in_err-put : goal.returns-in_err-put
returns-in_err-put c = never_ok _ c.from_residual.result c.from_residual.ensures.0

pub returns-in_err-put-2 : goal.returns-in_err-put-2
returns-in_err-put-2 c = never_ok _ c.from_residual-in_err-put-2.result c.from_residual-in_err-put-2.ensures.0

pub returns-in_err-number : goal.returns-in_err-number
returns-in_err-number c = never_ok _ c.from_residual-in_err-number.result c.from_residual-in_err-number.ensures.0

pub returns-in_err-put-3 : goal.returns-in_err-put-3
returns-in_err-put-3 c = never_ok _ c.from_residual-in_err-put-3.result c.from_residual-in_err-put-3.ensures.0

pub returns-in_err-put-4 : goal.returns-in_err-put-4
returns-in_err-put-4 c = never_ok _ c.from_residual-in_err-put-4.result c.from_residual-in_err-put-4.ensures.0

pub returns-in_err-put-5 : goal.returns-in_err-put-5
returns-in_err-put-5 c = never_ok _ c.from_residual-in_err-put-5.result c.from_residual-in_err-put-5.ensures.0

use Rattle.std.proofs.Common.{◌≡◌, ℕ, true, false, List, ◌++◌, Result, Ok, Err, OnOk, All, filter, length, map, refl, sym, subst, ap, ◌∙◌, codes}
use Rattle.std.proofs.lemmas.List.{append_assoc, length-map}
use Rattle.std.specs.List.{flat_map}
use Rattle.gm_model.specs.declared.rule.Link.{Link}
use Rattle.gm_model.specs.declared.rule.Node.{Node}
use Rattle.gm_model.specs.Rules.{rule_of, node_of}
use Rattle.gm_book.specs.Canonical.{params_text, left_lines, right_line, right_lines, link_line, pre_line}
use Rattle.gm_book.specs.inner.Printing.{AreEndsNodes, is_left}
use Rattle.gm_book.proofs.Lines.{put_more}
use Rattle.gm_model.proofs.Exits.{never_ok}
use Rattle.gm_book.proofs.printing.print_rule.Goals as goal

-- the ends of links as they are lent
ends : (nodes lent : List Node) (links given : List Link) → lent ≡ nodes → given ≡ links → All (AreEndsNodes (length (map node_of nodes))) links → All (AreEndsNodes (length lent)) given
ends nodes lent links given same is all =
    subst (All (AreEndsNodes (length lent))) (sym is) (subst (λ count. All (AreEndsNodes count) links) (length-map nodes node_of ∙ ap length (sym same)) all)

pub print_links-requires : goal.print_links-requires
print_links-requires c = ends c.args.rule.now.nodes c.as_slice-nodes.result.now c.args.rule.now.left_links c.as_slice-3.result.now c.as_slice-nodes.ensures c.as_slice-3.ensures c.requires.numbers.left

pub print_links-requires-2 : goal.print_links-requires-2
print_links-requires-2 c = ends c.args.rule.now.nodes c.as_slice-nodes.result.now c.args.rule.now.right_links c.as_slice-4.result.now c.as_slice-nodes.ensures c.as_slice-4.ensures c.requires.numbers.right

last : {T E : Type 0} (result : Result T E) (start before put text end : List ℕ) → before ≡ start ++ put → OnOk result (text ≡ before ++ end) → OnOk result (text ≡ start ++ (put ++ end))
last (Ok value) start before put text end begun is = put_more start before put text end end begun is refl
last (Err error) start before put text end begun is = tt

pub returns : goal.returns
returns c =
    let schema = c.args.schema.now in
    let rule = c.args.rule.now in
    let nodes = map node_of rule.nodes in
    let start = c.args.text.now in
    let lent = c.as_slice-nodes.result.now in
    let same : map node_of lent ≡ nodes = ap (map node_of) c.as_slice-nodes.ensures in
    let head = codes "rule " in
    let named = head ++ rule.name in
    let with_params = named ++ params_text rule.params in
    let at_left = with_params ++ codes "\nleft\n" in
    let with_left = at_left ++ left_lines rule.hooks 0 nodes in
    let left = with_left ++ flat_map (link_line nodes) rule.left_links in
    let at_right = left ++ codes "right\n" in
    let with_right = at_right ++ right_lines schema (rule_of rule) in
    let right = with_right ++ flat_map (link_line nodes) rule.right_links in
    let kept = flat_map (right_line schema (rule_of rule)) (filter (is_left true) nodes) in
    let added = flat_map (right_line schema (rule_of rule)) (filter (is_left false) nodes) in
    let p = put_more start c.put.new.self head c.put-2.new.self c.bytes.result.now rule.name c.in_ok-put.ensures.ok c.in_ok-put-2.ensures.ok c.bytes.ensures.value in
    let p = put_more start c.put-2.new.self named c.print_params.new.text (params_text c.as_slice.result.now) (params_text rule.params) p c.in_ok-print_params.ensures (ap params_text c.as_slice.ensures) in
    let p = put_more start c.print_params.new.text with_params c.put-3.new.self (codes "\nleft\n") (codes "\nleft\n") p c.in_ok-put-3.ensures.ok refl in
    let p = put_more start c.put-3.new.self at_left c.print_left_nodes.new.text (left_lines c.as_slice-2.result.now 0 (map node_of lent)) (left_lines rule.hooks 0 nodes) p c.in_ok-print_left_nodes.ensures
    (ap (λ hooks. left_lines hooks 0 (map node_of lent)) c.as_slice-2.ensures ∙ ap (left_lines rule.hooks 0) same) in
    let p = put_more start c.print_left_nodes.new.text with_left c.print_links.new.text (flat_map (link_line (map node_of lent)) c.as_slice-3.result.now) (flat_map (link_line nodes) rule.left_links) p c.in_ok-print_links.ensures
    (ap (flat_map (link_line (map node_of lent))) c.as_slice-3.ensures ∙ ap (λ ns. flat_map (link_line ns) rule.left_links) same) in
    let p = put_more start c.print_links.new.text left c.put-4.new.self (codes "right\n") (codes "right\n") p c.in_ok-put-4.ensures.ok refl in
    let both : c.print_right_nodes-2.new.text ≡ c.put-4.new.self ++ right_lines schema (rule_of rule) =
    c.in_ok-print_right_nodes-2.ensures ∙ ap (λ begun. begun ++ added) c.in_ok-print_right_nodes.ensures ∙ append_assoc c.put-4.new.self kept added in
    let p = put_more start c.put-4.new.self at_right c.print_right_nodes-2.new.text (right_lines schema (rule_of rule)) (right_lines schema (rule_of rule)) p both refl in
    let p = put_more start c.print_right_nodes-2.new.text with_right c.print_links-2.new.text (flat_map (link_line (map node_of lent)) c.as_slice-4.result.now) (flat_map (link_line nodes) rule.right_links) p c.in_ok-print_links-2.ensures
    (ap (flat_map (link_line (map node_of lent))) c.as_slice-4.ensures ∙ ap (λ ns. flat_map (link_line ns) rule.right_links) same) in
    last c.print_pre.result start c.print_links-2.new.text right c.print_pre.new.text (pre_line schema (rule_of rule)) p c.print_pre.ensures

pub returns-in_err-put : goal.returns-in_err-put
returns-in_err-put c = never_ok _ c.from_residual.result c.from_residual.ensures.0

pub returns-in_err-put-2 : goal.returns-in_err-put-2
returns-in_err-put-2 c = never_ok _ c.from_residual-in_err-put-2.result c.from_residual-in_err-put-2.ensures.0

pub returns-in_err-print_params : goal.returns-in_err-print_params
returns-in_err-print_params c = never_ok _ c.from_residual-in_err-print_params.result c.from_residual-in_err-print_params.ensures.0

pub returns-in_err-put-3 : goal.returns-in_err-put-3
returns-in_err-put-3 c = never_ok _ c.from_residual-in_err-put-3.result c.from_residual-in_err-put-3.ensures.0

pub returns-in_err-print_left_nodes : goal.returns-in_err-print_left_nodes
returns-in_err-print_left_nodes c = never_ok _ c.from_residual-in_err-print_left_nodes.result c.from_residual-in_err-print_left_nodes.ensures.0

pub returns-in_err-print_links : goal.returns-in_err-print_links
returns-in_err-print_links c = never_ok _ c.from_residual-in_err-print_links.result c.from_residual-in_err-print_links.ensures.0

pub returns-in_err-put-4 : goal.returns-in_err-put-4
returns-in_err-put-4 c = never_ok _ c.from_residual-in_err-put-4.result c.from_residual-in_err-put-4.ensures.0

pub returns-in_err-print_right_nodes : goal.returns-in_err-print_right_nodes
returns-in_err-print_right_nodes c = never_ok _ c.from_residual-in_err-print_right_nodes.result c.from_residual-in_err-print_right_nodes.ensures.0

pub returns-in_err-print_right_nodes-2 : goal.returns-in_err-print_right_nodes-2
returns-in_err-print_right_nodes-2 c = never_ok _ c.from_residual-in_err-print_right_nodes-2.result c.from_residual-in_err-print_right_nodes-2.ensures.0

pub returns-in_err-print_links-2 : goal.returns-in_err-print_links-2
returns-in_err-print_links-2 c = never_ok _ c.from_residual-in_err-print_links-2.result c.from_residual-in_err-print_links-2.ensures.0

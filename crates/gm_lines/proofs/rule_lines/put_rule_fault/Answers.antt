use Rattle.std.proofs.Common.{◌≡◌, ◌++◌, sym, subst, append_assoc, codes}
use Rattle.std.specs.Prelude.{decimal, OnOk}
use Rattle.gm_model.specs.Reports.{embed_name}
use Rattle.gm_model.specs.Rules.{rule_of}
use Rattle.gm_lines.specs.Checking.{rule_fault_words, node_name, side_word}
use Rattle.gm_lines.proofs.Putting.{onward, four_more}
use Rattle.gm_lines.proofs.rule_lines.put_rule_fault.Goals as goal

pub returns-in-Hooks : goal.returns-in-Hooks
returns-in-Hooks c = subst (λ f. OnOk c.put.result (c.put.new.self ≡ c.args.text.now ++ rule_fault_words c.args.schema.now (rule_of c.args.rule.now) f)) (sym c.in-Hooks.is) c.put.ensures.ok

pub returns-in-HookWord : goal.returns-in-HookWord
returns-in-HookWord c = subst (λ f. OnOk c.put_node.result (c.put_node.new.text ≡ c.args.text.now ++ rule_fault_words c.args.schema.now (rule_of c.args.rule.now) f)) (sym c.in-HookWord.is) c.put_node.ensures

pub returns-in-WordLength : goal.returns-in-WordLength
returns-in-WordLength c = subst (λ f. OnOk c.put_node-in-WordLength.result (c.put_node-in-WordLength.new.text ≡ c.args.text.now ++ rule_fault_words c.args.schema.now (rule_of c.args.rule.now) f)) (sym c.in-WordLength.is) c.put_node-in-WordLength.ensures

pub returns-in-NotConnected : goal.returns-in-NotConnected
returns-in-NotConnected c = subst (λ f. OnOk c.put_node-in-NotConnected.result (c.put_node-in-NotConnected.new.text ≡ c.args.text.now ++ rule_fault_words c.args.schema.now (rule_of c.args.rule.now) f)) (sym c.in-NotConnected.is) c.put_node-in-NotConnected.ensures

pub returns-in_ok-put_label-in-ArcTwice : goal.returns-in_ok-put_label-in-ArcTwice
returns-in_ok-put_label-in-ArcTwice c =
    let put = c.put_side in
    let rule = rule_of c.args.rule.now in
    let words = codes "arc-twice " ++ node_name rule c.in-ArcTwice.node ++ codes " " ++ decimal c.in-ArcTwice.label in
    let more = codes " " ++ side_word c.in-ArcTwice.side in
    subst (λ f. OnOk put.result (put.new.text ≡ c.args.text.now ++ rule_fault_words c.args.schema.now rule f)) (sym c.in-ArcTwice.is)
    (onward put.result c.args.text.now words more _ c.put_label.new.text put.new.text c.in_ok-put_label-in-ArcTwice.ensures (sym (append_assoc words (codes " ") (side_word c.in-ArcTwice.side))) put.ensures)

pub returns-in-ArcMissing : goal.returns-in-ArcMissing
returns-in-ArcMissing c = subst (λ f. OnOk c.put_label-in-ArcMissing.result (c.put_label-in-ArcMissing.new.text ≡ c.args.text.now ++ rule_fault_words c.args.schema.now (rule_of c.args.rule.now) f)) (sym c.in-ArcMissing.is) c.put_label-in-ArcMissing.ensures

pub returns-in-ArcSetDiffers : goal.returns-in-ArcSetDiffers
returns-in-ArcSetDiffers c = subst (λ f. OnOk c.put_label-in-ArcSetDiffers.result (c.put_label-in-ArcSetDiffers.new.text ≡ c.args.text.now ++ rule_fault_words c.args.schema.now (rule_of c.args.rule.now) f)) (sym c.in-ArcSetDiffers.is) c.put_label-in-ArcSetDiffers.ensures

pub returns-in_ok-put_label-in-Square : goal.returns-in_ok-put_label-in-Square
returns-in_ok-put_label-in-Square c =
    let put = c.put_number in
    let rule = rule_of c.args.rule.now in
    let words = codes "square " ++ node_name rule c.in-Square.node ++ codes " " ++ decimal c.in-Square.i in
    let more = codes " " ++ decimal c.in-Square.j in
    subst (λ f. OnOk put.result (put.new.text ≡ c.args.text.now ++ rule_fault_words c.args.schema.now rule f)) (sym c.in-Square.is)
    (onward put.result c.args.text.now words more _ c.put_label-in-Square.new.text put.new.text c.in_ok-put_label-in-Square.ensures (sym (append_assoc words (codes " ") (decimal c.in-Square.j))) (subst (λ n. OnOk put.result (put.new.text ≡ c.put_label-in-Square.new.text ++ (codes " " ++ decimal n))) c.from.ensures put.ensures.ok))

pub returns-in_ok-put_embed-in-SetTwice : goal.returns-in_ok-put_embed-in-SetTwice
returns-in_ok-put_embed-in-SetTwice c =
    let put = c.put_nodes in
    let rule = rule_of c.args.rule.now in
    let words = codes "set-twice " ++ embed_name c.args.schema.now c.in-SetTwice.embed in
    let more = codes " " ++ node_name rule c.in-SetTwice.node ++ codes " " ++ node_name rule c.in-SetTwice.other in
    subst (λ f. OnOk put.result (put.new.text ≡ c.args.text.now ++ rule_fault_words c.args.schema.now rule f)) (sym c.in-SetTwice.is)
    (onward put.result c.args.text.now words more _ c.put_embed.new.text put.new.text c.in_ok-put_embed-in-SetTwice.ensures.ok (four_more words (codes " ") (node_name rule c.in-SetTwice.node) (codes " ") (node_name rule c.in-SetTwice.other)) put.ensures)

pub returns-in_ok-put_embed-in-NoValue : goal.returns-in_ok-put_embed-in-NoValue
returns-in_ok-put_embed-in-NoValue c =
    let put = c.put_node-in-NoValue in
    let rule = rule_of c.args.rule.now in
    let words = codes "no-value " ++ embed_name c.args.schema.now c.in-NoValue.embed in
    let more = codes " " ++ node_name rule c.in-NoValue.node in
    subst (λ f. OnOk put.result (put.new.text ≡ c.args.text.now ++ rule_fault_words c.args.schema.now rule f)) (sym c.in-NoValue.is)
    (onward put.result c.args.text.now words more _ c.put_embed-in-NoValue.new.text put.new.text c.in_ok-put_embed-in-NoValue.ensures.ok (sym (append_assoc words (codes " ") (node_name rule c.in-NoValue.node))) put.ensures)

pub returns-in_ok-put_embed-in-Merge : goal.returns-in_ok-put_embed-in-Merge
returns-in_ok-put_embed-in-Merge c =
    let put = c.put_nodes-in-Merge in
    let rule = rule_of c.args.rule.now in
    let words = codes "merge " ++ embed_name c.args.schema.now c.in-Merge.embed in
    let more = codes " " ++ node_name rule c.in-Merge.node ++ codes " " ++ node_name rule c.in-Merge.other in
    subst (λ f. OnOk put.result (put.new.text ≡ c.args.text.now ++ rule_fault_words c.args.schema.now rule f)) (sym c.in-Merge.is)
    (onward put.result c.args.text.now words more _ c.put_embed-in-Merge.new.text put.new.text c.in_ok-put_embed-in-Merge.ensures.ok (four_more words (codes " ") (node_name rule c.in-Merge.node) (codes " ") (node_name rule c.in-Merge.other)) put.ensures)

pub returns-in_ok-put_embed-in-MergeAlong : goal.returns-in_ok-put_embed-in-MergeAlong
returns-in_ok-put_embed-in-MergeAlong c =
    let put = c.put_label-in-MergeAlong in
    let rule = rule_of c.args.rule.now in
    let words = codes "merge-along " ++ embed_name c.args.schema.now c.in-MergeAlong.embed in
    let more = codes " " ++ node_name rule c.in-MergeAlong.node ++ codes " " ++ decimal c.in-MergeAlong.place in
    subst (λ f. OnOk put.result (put.new.text ≡ c.args.text.now ++ rule_fault_words c.args.schema.now rule f)) (sym c.in-MergeAlong.is)
    (onward put.result c.args.text.now words more _ c.put_embed-in-MergeAlong.new.text put.new.text c.in_ok-put_embed-in-MergeAlong.ensures.ok (four_more words (codes " ") (node_name rule c.in-MergeAlong.node) (codes " ") (decimal c.in-MergeAlong.place)) put.ensures)

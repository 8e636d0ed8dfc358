use Rattle.std.proofs.Common.{◌≡◌, ℕ, ◌↔◌, true, false, List, ap, sym, subst, ◌∙◌, below_more, arith}
use Rattle.std.specs.Option.{is_some}
use Rattle.std.proofs.lemmas.Result.{err_from_is_err_and}
use Rattle.gm_model.specs.declared.rule.Link.{Link}
use Rattle.gm_model.specs.declared.rule.Side.TheVariants.{Left, Right}
use Rattle.gm_model.specs.Components.{HasSource}
use Rattle.gm_model.specs.Labels.{has}
use Rattle.gm_model.specs.Rules.{rule_of, has_word}
use Rattle.gm_model.specs.Structure.{IsJoined}
use Rattle.gm_model.proofs.Nodes.{node_below}
use Rattle.gm_embcheck.specs.inner.Bounds.{HasLinkBounds}
use Rattle.gm_embcheck.specs.inner.Faults.{IsFirstComponentFault}
use Rattle.gm_embcheck.specs.inner.Leaders.{AreLeaders}
use Rattle.gm_embcheck.specs.inner.NodeSets.{IsIn}
use Rattle.gm_embcheck.proofs.Leaders.{nodes_joined}
use Rattle.gm_embcheck.proofs.Leading.{leads, led_source}
use Rattle.gm_embcheck.proofs.check_embedding.Goals as goal
use Rattle.gm_embcheck.proofs.check_embedding.Goals.{then-is_some+then-right-node+in_ok-check_component, else-is_some-via-then-is_some+else-right-node, else-is_some, else-is_some-via-else-is_some}

pub leaders_of-left-requires : goal.leaders_of-left-requires
leaders_of-left-requires c = subst HasLinkBounds (sym c.links.ensures) (c.requires.links Left)

pub leaders_of-right-requires : goal.leaders_of-right-requires
leaders_of-right-requires c = subst HasLinkBounds (sym c.links-2.ensures) (c.requires.links Right)

pub check_component-requires-clause-left : goal.check_component-requires-clause-left
check_component-requires-clause-left c = subst (λ (links : List Link). AreLeaders links (has c.args.mask) c.leaders_of-left.result) c.links.ensures c.leaders_of-left.ensures

pub check_component-requires-clause-component : goal.check_component-requires-clause-component
check_component-requires-clause-component c =
    let rule = rule_of c.args.rule.now in
    let o = has c.args.mask in
    let x = c.loop-node.node in
    let on_right : has_word rule Right x ≡ true = ap is_some (sym c.word.ensures) ∙ sym c.is_some.ensures ∙ c.if-is_some.true in
    let few = c.requires.nodes in
    let within = node_below rule Right x on_right in
    let leaders : AreLeaders rule.right_links o c.leaders_of-right.result = subst (λ (links : List Link). AreLeaders links o c.leaders_of-right.result) c.links-2.ensures c.leaders_of-right.ensures in
    let reached : (y : ℕ) → IsIn c.nodes_of-component.result y ↔ IsJoined rule.right_links o x y =
    nodes_joined rule.right_links o (c.requires.links Right) c.leaders_of-right.result leaders x (omega arith) c.nodes_of-component.result c.nodes_of-component.ensures in
    λ y. ((λ p. (on_right, (reached y).0 p)), (λ t. (reached y).1 t.1))

pub returns-in_err-check_component : goal.returns-in_err-check_component
returns-in_err-check_component c =
    let p = err_from_is_err_and c.from_residual.result c.from_residual.ensures.1 in
    let rule = rule_of c.args.rule.now in
    let o = has c.args.mask in
    let x = c.loop-node.node in
    let on_right : has_word rule Right x ≡ true = ap is_some (sym c.word.ensures) ∙ sym c.is_some.ensures ∙ c.if-is_some.true in
    let few = c.requires.nodes in
    let within = node_below rule Right x on_right in
    let leaders : AreLeaders rule.right_links o c.leaders_of-right.result = subst (λ (links : List Link). AreLeaders links o c.leaders_of-right.result) c.links-2.ensures c.leaders_of-right.ensures in
    let fault : IsFirstComponentFault rule c.args.embed o c.in_err-check_component.field-0.0 = record {
      x = x;
      leader = leads rule c.requires c.args.embed o c.leaders_of-right.result leaders x (omega arith) on_right c.if-right-node.true;
      here = c.in_err-check_component.ensures;
      earlier = c.loop-node.invariant;
    } in
    rw (p.1, p.2) fault

pub loop-node-preserved : goal.loop-node-preserved
loop-node-preserved c =
    let rule = rule_of c.args.rule.now in
    let o = has c.args.mask in
    let x = c.loop-node.node in
    let leaders : AreLeaders rule.right_links o c.leaders_of-right.result = subst (λ (links : List Link). AreLeaders links o c.leaders_of-right.result) c.links-2.ensures c.leaders_of-right.ensures in
    let few = c.requires.nodes in
    let here : has_word rule Right x ≡ true → HasSource rule c.args.embed o x = elim c.if-is_some.branch [
      | then-is_some+then-right-node+in_ok-check_component w ↦ (λ _. w.in_ok-check_component.ensures)
      | else-is_some w ↦ (λ on_right. elim w.else-is_some.branch [
        | else-is_some-via-then-is_some+else-right-node v ↦ (let within = node_below rule Right x on_right in
            led_source rule c.requires c.args.embed o c.leaders_of-right.result leaders x (omega arith) on_right v.if-right-node.false c.loop-node.invariant)
        | else-is_some-via-else-is_some v ↦ absurd (let f : has_word rule Right x ≡ false = ap is_some (sym c.word.ensures) ∙ sym c.is_some.ensures ∙ v.if-is_some.false in cc)
      ])
    ] in
    below_more (λ y. has_word rule Right y ≡ true → HasSource rule c.args.embed o y) x c.loop-node.invariant here

pub returns : goal.returns
returns c = λ x on_right.
    let b = node_below (rule_of c.args.rule.now) Right x on_right in
    let past = c.loop-node-test.false in
    let end = c.node_count-node-end.ensures in
    c.loop-node.invariant x (omega arith) on_right

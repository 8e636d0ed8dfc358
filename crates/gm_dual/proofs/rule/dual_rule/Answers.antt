use Rattle.std.proofs.Common.{◌≡◌, ℕ, map, refl, ap, ◌∙◌}
use Rattle.std.specs.Option.{option_map}
use Rattle.gm_model.specs.declared.rule.RuleTable.{RuleTable}
use Rattle.gm_model.specs.Rules.{node_of, rule_of}
use Rattle.gm_model.specs.Trees.{tree_of}
use Rattle.gm_model.proofs.Exits.{unless_ok}
use Rattle.gm_dual.specs.Duals.{dual_link, dual_node, dual_rule, dual_tree}
use Rattle.gm_dual.proofs.rule.dual_rule.Goals as goal

part_by_part : (top : ℕ) (rule made : RuleTable) → made.name ≡ rule.name → made.params ≡ rule.params → map node_of made.nodes ≡ map (dual_node top) (map node_of rule.nodes) → made.left_links ≡ map (dual_link top) rule.left_links → made.right_links ≡ map (dual_link top) rule.right_links → made.hooks ≡ rule.hooks → option_map tree_of made.pre ≡ option_map (dual_tree top) (option_map tree_of rule.pre) → rule_of made ≡ dual_rule top (rule_of rule)
part_by_part top rule made name params nodes left right hooks pre = cc

pub returns-in_err-copy_params : goal.returns-in_err-copy_params
returns-in_err-copy_params c = unless_ok _ c.from_residual.result c.from_residual.ensures.0

pub dual_nodes-requires : goal.dual_nodes-requires
dual_nodes-requires c = c.requires

pub returns-in_err-dual_nodes : goal.returns-in_err-dual_nodes
returns-in_err-dual_nodes c = unless_ok _ c.from_residual-in_err-dual_nodes.result c.from_residual-in_err-dual_nodes.ensures.0

pub returns-in_err-dual_links : goal.returns-in_err-dual_links
returns-in_err-dual_links c = unless_ok _ c.from_residual-in_err-dual_links.result c.from_residual-in_err-dual_links.ensures.0

pub returns-in_err-dual_links-2 : goal.returns-in_err-dual_links-2
returns-in_err-dual_links-2 c = unless_ok _ c.from_residual-in_err-dual_links-2.result c.from_residual-in_err-dual_links-2.ensures.0

pub returns-in_err-copy_hooks : goal.returns-in_err-copy_hooks
returns-in_err-copy_hooks c = unless_ok _ c.from_residual-in_err-copy_hooks.result c.from_residual-in_err-copy_hooks.ensures.0

pub dual_pre-requires : goal.dual_pre-requires
dual_pre-requires c = c.requires

pub returns-in_err-dual_pre : goal.returns-in_err-dual_pre
returns-in_err-dual_pre c = unless_ok _ c.from_residual-in_err-dual_pre.result c.from_residual-in_err-dual_pre.ensures.0

pub returns : goal.returns
returns c =
    let n = c.args.top in
    let made : RuleTable = record {
      name = c.args.rule.now.name;
      params = c.in_ok-copy_params.field-0;
      nodes = c.in_ok-dual_nodes.field-0;
      left_links = c.in_ok-dual_links.field-0;
      right_links = c.in_ok-dual_links-2.field-0;
      hooks = c.in_ok-copy_hooks.field-0;
      pre = c.in_ok-dual_pre.field-0;
    } in
    part_by_part n c.args.rule.now made refl
    (c.in_ok-copy_params.ensures ∙ c.as_slice.ensures)
    (c.in_ok-dual_nodes.ensures ∙ ap (λ nodes. map (dual_node n) (map node_of nodes)) c.as_slice-2.ensures)
    (c.in_ok-dual_links.ensures ∙ ap (map (dual_link n)) c.as_slice-3.ensures)
    (c.in_ok-dual_links-2.ensures ∙ ap (map (dual_link n)) c.as_slice-4.ensures)
    (c.in_ok-copy_hooks.ensures ∙ c.as_slice-5.ensures)
    c.in_ok-dual_pre.ensures

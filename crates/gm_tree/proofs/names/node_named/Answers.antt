use Rattle.std.proofs.Common.{List, ap, ◌∙◌}
use Rattle.std.specs.List.{position}
use Rattle.gm_model.specs.declared.rule.Node.{Node}
use Rattle.gm_parse.specs.Meaning.{is_named, left_name}
use Rattle.gm_tree.proofs.LookUp.{position-first}
use Rattle.gm_tree.proofs.names.node_named.Goals as goal

pub returns : goal.returns
returns c =
    c.byte_of.ensures ∙ c.node_index.ensures.value
    ∙ ap (λ (ns : List Node). position (λ (n : Node). is_named c.args.name.now (left_name n)) ns) c.first_ones-nodes.ensures.value
    ∙ position-first left_name (is_named c.args.name.now) c.args.env.now.nodes.now

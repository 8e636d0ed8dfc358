use Rattle.std.proofs.Common.{List, bytes_eq, ap, ◌∙◌}
use Rattle.std.specs.List.{position}
use Rattle.gm_model.specs.declared.rule.Param.{Param}
use Rattle.gm_tree.proofs.LookUp.{position-first}
use Rattle.gm_tree.proofs.names.param_named.Goals as goal

pub returns : goal.returns
returns c =
    c.byte_of.ensures ∙ c.param_index.ensures.value
    ∙ ap (λ (ps : List Param). position (λ (p : Param). bytes_eq c.args.name.now p.name) ps) c.first_ones-params.ensures.value
    ∙ position-first (λ (p : Param). p.name) (bytes_eq c.args.name.now) c.args.env.now.params.now

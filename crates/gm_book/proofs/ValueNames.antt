-- The names that the expressions of a rule can use, from what was read of it, are those that its form has.
use Rattle.std.proofs.Common.{◌≡◌, ℕ, ◌≤◌, List, [], ◌∷◌, length, map, take, Option, Some, None, if◌then◌else◌, refl, ap, ◌∙◌, arith}
use Rattle.std.specs.Prelude.{is_some}
use Rattle.std.proofs.lemmas.List.{length-map, take_all}
use Rattle.gm_model.specs.declared.rule.Node.{Node}
use Rattle.gm_model.specs.declared.rule.Param.{Param}
use Rattle.gm_model.specs.declared.schema.Embed.{Embed}
use Rattle.gm_model.specs.declared.schema.Schema.{Schema}
use Rattle.gm_model.specs.Rules.{RuleNode, node_of}
use Rattle.gm_parse.specs.Meaning.{left_name}
use Rattle.gm_tree.specs.inner.FirstNames.{first_names}
use Rattle.gm_forms.specs.BookText.{ParamForm, RuleForm, nodes_of, node_in, param_of, name_if_left, names_for}

abbrev name_where_left : RuleNode → Option (List ℕ)
name_where_left node = if is_some node.left then Some node.name else None

nodes_named : (nodes : List Node) → map left_name nodes ≡ map name_where_left (map node_of nodes)
nodes_named [] = refl
nodes_named (node ∷ nodes) = ap (λ rest. left_name node ∷ rest) (nodes_named nodes)

forms_named : (rule : RuleForm) (names : List (List ℕ)) → map name_where_left (map (node_in rule (λ node. [])) names) ≡ map (name_if_left rule) names
forms_named rule [] = refl
forms_named rule (name ∷ names) = ap (λ rest. name_if_left rule name ∷ rest) (forms_named rule names)

params_named : (params : List ParamForm) → map (λ (param : Param). param.name) (map param_of params) ≡ map (λ (param : ParamForm). param.name.name) params
params_named [] = refl
params_named (param ∷ params) = ap (λ rest. param.name.name ∷ rest) (params_named params)

module _ (schema : Schema) (rule : RuleForm) (params : List Param) (nodes : List Node) (few_embeds : length schema.embeds ≤ 8) (few_params : length rule.params ≤ 8) (few_nodes : length (nodes_of rule) ≤ 32)
    (params_are : params ≡ map param_of rule.params) (nodes_are : map node_of nodes ≡ map (node_in rule (λ node. [])) (nodes_of rule)) where
  embeds_same : take 256 (map (λ (embed : Embed). embed.name) schema.embeds) ≡ map (λ (embed : Embed). embed.name) schema.embeds
  embeds_same = take_all 256 (map (λ (embed : Embed). embed.name) schema.embeds) (omega (arith, few_embeds, length-map schema.embeds (λ (embed : Embed). embed.name)))

  params_same : take 256 (map (λ (param : Param). param.name) params) ≡ map (λ (param : ParamForm). param.name.name) rule.params
  params_same =
      let named = ap (map (λ (param : Param). param.name)) params_are ∙ params_named rule.params in
      let few : length (map (λ (param : Param). param.name) params) ≤ 256 = omega (arith, few_params, ap length named, length-map rule.params (λ (param : ParamForm). param.name.name)) in
      take_all 256 (map (λ (param : Param). param.name) params) few ∙ named

  nodes_same : take 256 (map left_name nodes) ≡ map (name_if_left rule) (nodes_of rule)
  nodes_same =
      let named = nodes_named nodes ∙ ap (map name_where_left) nodes_are ∙ forms_named rule (nodes_of rule) in
      let few : length (map left_name nodes) ≤ 256 = omega (arith, few_nodes, ap length named, length-map (nodes_of rule) (name_if_left rule)) in
      take_all 256 (map left_name nodes) few ∙ named

  pub names_same : first_names schema params nodes ≡ names_for schema.embeds rule
  names_same =
      ap (λ embeds. record { embeds = embeds; params = take 256 (map (λ (param : Param). param.name) params); nodes = take 256 (map left_name nodes) }) embeds_same
      ∙ ap (λ ps. record { embeds = map (λ (embed : Embed). embed.name) schema.embeds; params = ps; nodes = take 256 (map left_name nodes) }) params_same
      ∙ ap (λ ns. record { embeds = map (λ (embed : Embed). embed.name) schema.embeds; params = map (λ (param : ParamForm). param.name.name) rule.params; nodes = ns }) nodes_same

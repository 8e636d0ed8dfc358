-- Few names are all among the first ones.
use Rattle.std.proofs.Common.{◌≡◌, ◌≤◌, List, length, map, take, arith}
use Rattle.std.proofs.lemmas.List.{length-map, take_all}
use Rattle.gm_model.specs.declared.rule.Node.{Node}
use Rattle.gm_model.specs.declared.rule.Param.{Param}
use Rattle.gm_model.specs.declared.schema.Embed.{Embed}
use Rattle.gm_model.specs.declared.schema.Schema.{Schema}
use Rattle.gm_parse.specs.Meaning.{left_name, names_in}
use Rattle.gm_tree.specs.inner.FirstNames.{first_names}

all_first : {A B : Type 0} (f : A → B) (xs : List A) → length xs ≤ 256 → take 256 (map f xs) ≡ map f xs
all_first f xs few = take_all 256 (map f xs) (omega (arith, few, length-map xs f))

pub few_all : (schema : Schema) (params : List Param) (nodes : List Node) → length schema.embeds ≤ 256 → length params ≤ 256 → length nodes ≤ 256 → first_names schema params nodes ≡ names_in schema params nodes
few_all schema params nodes embeds few_params few_nodes =
    let one = all_first (λ (embed : Embed). embed.name) schema.embeds embeds in
    let two = all_first (λ (param : Param). param.name) params few_params in
    let three = all_first left_name nodes few_nodes in
    λ i. record { embeds = one i; params = two i; nodes = three i }

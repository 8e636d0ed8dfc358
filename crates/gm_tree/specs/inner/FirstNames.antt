-- The names that an expression reaches where there may be more of them than a number of one byte counts.
use Rattle.std.specs.Prelude.{List, take}
use Rattle.gm_model.specs.declared.rule.Node.{Node}
use Rattle.gm_model.specs.declared.rule.Param.{Param}
use Rattle.gm_model.specs.declared.schema.Schema.{Schema}
use Rattle.gm_parse.specs.Meaning.{Names, names_in}

-- the first 256 of each kind
abbrev pub first_ones : Names → Names
first_ones names = record { embeds = take 256 names.embeds; params = take 256 names.params; nodes = take 256 names.nodes }

abbrev pub first_names : Schema → List Param → List Node → Names
first_names schema params nodes = first_ones (names_in schema params nodes)

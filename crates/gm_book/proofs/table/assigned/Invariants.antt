use Rattle.std.proofs.Common.{map, take}
use Rattle.std.specs.List.{AllZip}
use Rattle.gm_model.specs.Rules.{node_of}
use Rattle.gm_tree.specs.inner.FirstNames.{first_names}
use Rattle.gm_forms.specs.inner.Forms.{rule_form_of}
use Rattle.gm_forms.specs.inner.Held.{names_at}
use Rattle.gm_book.specs.inner.Building.{IsSoundNode}
use Rattle.gm_book.proofs.table.assigned.Given as goal

abbrev pub invariant-loop-name : goal.invariant-loop-name
invariant-loop-name l =
    AllZip (IsSoundNode l.env.schema.now.dim l.env.schema.now.embeds l.env.params.now (first_names l.env.schema.now l.env.params.now l.env.nodes.now) (rule_form_of l.text l.rule)) (names_at (take l.name-index l.names)) (map node_of l.nodes.items)

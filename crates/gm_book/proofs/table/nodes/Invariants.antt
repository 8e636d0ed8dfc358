use Rattle.std.proofs.Common.{◌≡◌, [], map, take}
use Rattle.gm_forms.specs.BookText.{node_in}
use Rattle.gm_model.specs.Rules.{node_of}
use Rattle.gm_forms.specs.inner.Forms.{rule_form_of}
use Rattle.gm_forms.specs.inner.Held.{names_at}
use Rattle.gm_book.proofs.table.nodes.Given as goal

abbrev pub invariant-loop-name : goal.invariant-loop-name
invariant-loop-name l = map node_of l.nodes.items ≡ map (node_in (rule_form_of l.text l.rule) (λ node. [])) (names_at (take l.name-index l.names))

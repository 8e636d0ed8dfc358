use Rattle.std.proofs.Common.{◌≡◌, Option, None, map, take, drop}
use Rattle.std.specs.List.{AllZip}
use Rattle.gm_model.specs.Rules.{rule_of}
use Rattle.gm_forms.specs.BookText.{MeansRule}
use Rattle.gm_forms.specs.inner.Forms.{rule_form_of}
use Rattle.gm_forms.specs.inner.Held.{names_held}
use Rattle.gm_book.specs.declared.names.NameFault.{NameFault}
use Rattle.gm_book.specs.inner.FirstNameFault.{IsLeast, IsFaultBehind, least_of}
use Rattle.gm_book.proofs.building.read_tables_behind.Given as goal

abbrev pub invariant-loop-rule : goal.invariant-loop-rule
invariant-loop-rule l = record {
  least : (behind : Option NameFault) → IsLeast (IsFaultBehind l.schema.dim l.schema.embeds (names_held l.names) (map (rule_form_of l.text) (drop l.rule-index l.rules))) behind
      → IsLeast (IsFaultBehind l.schema.dim l.schema.embeds (names_held l.fn.names) (map (rule_form_of l.text) l.rules)) (least_of l.first behind);
  tables : l.first ≡ None → AllZip (MeansRule l.schema.dim l.schema.embeds) (map (rule_form_of l.text) (take l.rule-index l.rules)) (map rule_of l.tables.items);
}

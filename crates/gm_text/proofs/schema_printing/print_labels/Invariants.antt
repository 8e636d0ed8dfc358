use Rattle.std.proofs.Common.{◌≡◌, ◌++◌}
use Rattle.gm_text.specs.SchemaText.{labels_below, labels_text}
use Rattle.gm_text.specs.inner.SchemaPrinting.{gap_behind}
use Rattle.gm_text.proofs.schema_printing.print_labels.Given as goal

abbrev pub invariant-loop-label : goal.invariant-loop-label
invariant-loop-label l = record {
  so_far : l.out ≡ l.fn.out ++ labels_text (labels_below l.mask l.label);
  gap : l.gap ≡ gap_behind (labels_below l.mask l.label);
}

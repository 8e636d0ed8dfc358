use Rattle.std.proofs.Common.{◌≡◌, ◌++◌, take, map, codes}
use Rattle.std.specs.Prelude.{decimal}
use Rattle.std.specs.List.{flat_map}
use Rattle.gm_model.specs.Rules.{rule_of}
use Rattle.gm_text.specs.SchemaText as schemas
use Rattle.gm_book.specs.Canonical.{rule_lines}
use Rattle.gm_book.proofs.printing.print_book.Given as goal

abbrev pub invariant-loop-rule : goal.invariant-loop-rule
invariant-loop-rule l = l.text ≡ (codes "book " ++ decimal l.book.version ++ codes "\n" ++ schemas.canonical l.book.schema) ++ flat_map (rule_lines l.book.schema) (take l.rule-index (map rule_of l.book.rules))

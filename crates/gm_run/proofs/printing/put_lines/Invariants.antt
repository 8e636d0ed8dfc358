use Rattle.std.proofs.Common.{◌≡◌, ◌++◌, List, drop, map}
use Rattle.gm_model.specs.Reports.{outcome_lines}
use Rattle.gm_model.specs.Rules.{rule_of}
use Rattle.gm_model.specs.Runs.{Outcome}
use Rattle.gm_run.specs.inner.Lines.{Tells}
use Rattle.gm_run.proofs.printing.put_lines.Given as goal

abbrev pub invariant-loop-index : goal.invariant-loop-index
invariant-loop-index l = (told : List Outcome) → Tells l.outcomes told
    → l.text ++ outcome_lines l.book.schema (map rule_of l.book.rules) l.index (drop l.index l.script.stats) (drop l.index told) ≡ l.fn.text ++ outcome_lines l.book.schema (map rule_of l.book.rules) 0 l.script.stats told

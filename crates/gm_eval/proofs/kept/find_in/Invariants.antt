use Rattle.std.proofs.Common.{◌≡◌, ℕ, ◌<◌, get_or}
use Rattle.gm_eval.specs.declared.kept.Entry.{Entry}
use Rattle.gm_eval.proofs.kept.find_in.Given as goal

-- no earlier entry is of the collector
abbrev pub invariant-loop-entry : goal.invariant-loop-entry
invariant-loop-entry l = record { none : (k : ℕ) (d : Entry) → k < l.entry-index → (get_or l.entries k d).collector ≡ l.collector → ⊥ }

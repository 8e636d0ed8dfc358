-- How many nodes of a rule are removed.
use Rattle.std.specs.Prelude.{ℕ, zero, suc, ◌+◌, if◌then◌else◌, length}
use Rattle.gm_model.specs.Rules.{Rule, is_removed}

-- how many of the first x nodes are removed
abbrev pub removed_before : Rule → ℕ → ℕ
removed_before rule zero = 0
removed_before rule (suc x) = removed_before rule x + (if is_removed rule x then 1 else 0)

abbrev pub removed_nodes : Rule → ℕ
removed_nodes rule = removed_before rule (length rule.nodes)

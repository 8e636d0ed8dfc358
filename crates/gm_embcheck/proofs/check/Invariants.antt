use Rattle.std.proofs.Common.{ℕ, ◌<◌}
use Rattle.gm_model.specs.Rules.{rule_of}
use Rattle.gm_embcheck.proofs.Transfer.{HasSourcesOf}
use Rattle.gm_embcheck.proofs.check.Given as goal

abbrev pub invariant-loop-embed : goal.invariant-loop-embed
invariant-loop-embed l = (e : ℕ) → e < l.embed → HasSourcesOf l.schema (rule_of l.rule) e

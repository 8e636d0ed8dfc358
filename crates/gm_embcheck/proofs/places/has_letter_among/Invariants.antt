use Rattle.std.proofs.Common.{ℕ, ◌<◌}
use Rattle.gm_model.specs.Components.{HasLetterIn}
use Rattle.gm_model.specs.Labels.{has}
use Rattle.gm_model.specs.Rules.{rule_of}
use Rattle.gm_embcheck.specs.inner.NodeSets.{IsIn}
use Rattle.gm_embcheck.proofs.places.has_letter_among.Given as goal

abbrev pub invariant-loop-node : goal.invariant-loop-node
invariant-loop-node l = (x : ℕ) → x < l.node → IsIn l.nodes x → HasLetterIn (rule_of l.rule) l.side (has l.mask) x l.place → ⊥

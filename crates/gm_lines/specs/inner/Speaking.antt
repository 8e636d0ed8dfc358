-- Which faults of a rule can be said by its names.
use Rattle.std.specs.Prelude.{ℕ, ◌<◌, length, Option, Some, None}
use Rattle.gm_model.specs.declared.rule.RuleFault.{RuleFault}
use Rattle.gm_model.specs.declared.rule.RuleFault.TheVariants as faults
use Rattle.gm_model.specs.declared.schema.Schema.{Schema}
use Rattle.gm_model.specs.Rules.{Rule}

-- the fault speaks of nodes and embeddings that there are, where there are this many
abbrev pub SpeaksOf : ℕ → ℕ → RuleFault → Type 0
SpeaksOf nodes embeds faults.Hooks = Unit {0}
SpeaksOf nodes embeds (faults.HookWord x) = x < nodes
SpeaksOf nodes embeds (faults.WordLength x) = x < nodes
SpeaksOf nodes embeds (faults.NotConnected x) = x < nodes
SpeaksOf nodes embeds (faults.ArcTwice x i side) = x < nodes
SpeaksOf nodes embeds (faults.ArcMissing x i) = x < nodes
SpeaksOf nodes embeds (faults.ArcSetDiffers x i) = x < nodes
SpeaksOf nodes embeds (faults.Square x i j) = x < nodes
SpeaksOf nodes embeds (faults.SetTwice e x y) = (e < embeds) × (x < nodes) × (y < nodes)
SpeaksOf nodes embeds (faults.NoValue e x) = (e < embeds) × (x < nodes)
SpeaksOf nodes embeds (faults.Merge e x y) = (e < embeds) × (x < nodes) × (y < nodes)
SpeaksOf nodes embeds (faults.MergeAlong e x m) = (e < embeds) × (x < nodes)

-- its line can be written
abbrev pub IsSayable : Schema → Rule → Option RuleFault → Type 0
IsSayable schema rule None = Unit {0}
IsSayable schema rule (Some fault) = SpeaksOf (length rule.nodes) (length schema.embeds) fault

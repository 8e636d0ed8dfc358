-- What a check says of the rules of a book: a line for each, and how many are refused.
use Rattle.std.specs.Prelude.{ℕ, ◌+◌, ◌==◌, if◌then◌else◌, List, [], ◌∷◌, ◌++◌, Option, Some, None, codes, decimal}
use Rattle.gm_model.specs.declared.rule.RuleFault.{RuleFault}
use Rattle.gm_model.specs.declared.rule.RuleFault.TheVariants as faults
use Rattle.gm_model.specs.declared.rule.Side.{Side}
use Rattle.gm_model.specs.declared.rule.Side.TheVariants.{Left, Right}
use Rattle.gm_model.specs.declared.schema.Schema.{Schema}
use Rattle.gm_model.specs.Acceptance.{IsAccepted, IsFault}
use Rattle.gm_model.specs.Reports.{embed_name}
use Rattle.gm_model.specs.Rules.{name_at, Rule}

-- ---- the first fault of a rule, in words

abbrev pub side_word : Side → List ℕ
side_word Left = codes "left"
side_word Right = codes "right"

abbrev pub node_name : Rule → ℕ → List ℕ
node_name rule x = name_at rule.nodes x

module _ (schema : Schema) (rule : Rule) where
  abbrev pub rule_fault_words : RuleFault → List ℕ
  rule_fault_words faults.Hooks = codes "hooks"
  rule_fault_words (faults.HookWord x) = codes "hook-word " ++ node_name rule x
  rule_fault_words (faults.WordLength x) = codes "word-length " ++ node_name rule x
  rule_fault_words (faults.NotConnected x) = codes "not-connected " ++ node_name rule x
  rule_fault_words (faults.ArcTwice x i side) = codes "arc-twice " ++ node_name rule x ++ codes " " ++ decimal i ++ codes " " ++ side_word side
  rule_fault_words (faults.ArcMissing x i) = codes "arc-missing " ++ node_name rule x ++ codes " " ++ decimal i
  rule_fault_words (faults.ArcSetDiffers x i) = codes "arc-set " ++ node_name rule x ++ codes " " ++ decimal i
  rule_fault_words (faults.Square x i j) = codes "square " ++ node_name rule x ++ codes " " ++ decimal i ++ codes " " ++ decimal j
  rule_fault_words (faults.SetTwice e x y) = codes "set-twice " ++ embed_name schema e ++ codes " " ++ node_name rule x ++ codes " " ++ node_name rule y
  rule_fault_words (faults.NoValue e x) = codes "no-value " ++ embed_name schema e ++ codes " " ++ node_name rule x
  rule_fault_words (faults.Merge e x y) = codes "merge " ++ embed_name schema e ++ codes " " ++ node_name rule x ++ codes " " ++ node_name rule y
  rule_fault_words (faults.MergeAlong e x m) = codes "merge-along " ++ embed_name schema e ++ codes " " ++ node_name rule x ++ codes " " ++ decimal m

-- ---- the verdict on a rule

-- the rule is accepted, or this is its first fault
abbrev pub IsVerdict : Schema → Rule → Option RuleFault → Type 0
IsVerdict schema rule None = IsAccepted schema rule
IsVerdict schema rule (Some fault) = IsFault schema rule fault

abbrev pub verdict_words : Schema → Rule → Option RuleFault → List ℕ
verdict_words schema rule None = codes "accepted"
verdict_words schema rule (Some fault) = codes "refused " ++ rule_fault_words schema rule fault

-- rule r accepted
abbrev pub rule_line : Schema → Rule → Option RuleFault → List ℕ
rule_line schema rule verdict = codes "rule " ++ rule.name ++ codes " " ++ verdict_words schema rule verdict ++ codes "\n"

abbrev pub refusals : Option RuleFault → ℕ
refusals None = 0
refusals (Some fault) = 1

-- ---- all rules

-- this many of the rules are refused, and these are their lines
pub data AreLines (schema : Schema) : List Rule → ℕ → List ℕ → Type 0 where
  NoRules : AreLines schema [] 0 []
  NextRule : (rule : Rule) (verdict : Option RuleFault) (rules : List Rule) (refused : ℕ) (lines : List ℕ) → IsVerdict schema rule verdict
      → AreLines schema rules refused lines → AreLines schema (rule ∷ rules) (refusals verdict + refused) (rule_line schema rule verdict ++ lines)

-- rules 2 refused 1
abbrev pub counts_line : ℕ → ℕ → List ℕ
counts_line rules refused = codes "rules " ++ decimal rules ++ codes " refused " ++ decimal refused ++ codes "\n"

abbrev pub check_status : ℕ → ℕ
check_status refused = if refused == 0 then 0 else 1

-- Which reports can be printed, and the words of their lines.
use Rattle.std.specs.Prelude.{◌≡◌, ℕ, ◌<◌, List, [], ◌++◌, length, Some, slice_get, codes, decimal}
use Rattle.std.specs.Option.{option_map, unwrap_or}
use Rattle.gm_model.specs.declared.schema.Schema.{Schema}
use Rattle.gm_model.specs.Statements.{Stat}
use Rattle.gm_model.specs.Statements as statements
use Rattle.gm_model.specs.Applications as causes
use Rattle.gm_model.specs.Reports.{nodes_of, stat_words, cause_words, outcome_words}
use Rattle.gm_model.specs.Rules.{Rule, RuleNode}
use Rattle.gm_model.specs.Runs as runs
use Rattle.gm_apply.specs.declared.refusal.Refusal.{Refusal}
use Rattle.gm_run.specs.declared.outcome.Outcome.{Outcome}
use Rattle.gm_run.specs.inner.Lines.{cause_of, outcome_of, Tells}

-- ---- which can be printed

-- the outcome speaks of nodes and embeddings that there are, where there are this many
abbrev pub SpeaksOf : ℕ → ℕ → runs.Outcome → Type 0
SpeaksOf nodes embeds (runs.Refused (causes.Arc x p i)) = x < nodes
SpeaksOf nodes embeds (runs.Refused (causes.Same x p y q)) = (x < nodes) × (y < nodes)
SpeaksOf nodes embeds (runs.Refused (causes.NoValue e x)) = (e < embeds) × (x < nodes)
SpeaksOf nodes embeds _ = Unit {0}

-- the rule that the statement names is one of this many
abbrev pub IsNamed : ℕ → Stat → Type 0
IsNamed rules (statements.Apply line) = line.rule < rules
IsNamed rules (statements.Each mask rule params) = rule < rules
IsNamed rules _ = Unit {0}

-- the statement names a rule, where it names one, and the outcome is one of that rule's
pub record IsSayable (schema : Schema) (rules : List Rule) (stat : Stat) (outcome : runs.Outcome) : Type 0 where
  pub named : IsNamed (length rules) stat
  pub speaks : SpeaksOf (length (nodes_of rules stat)) (length schema.embeds) outcome

-- the report tells an outcome of each statement, and it is one of the statement's rule
pub record CanBePrinted (schema : Schema) (rules : List Rule) (stats : List Stat) (report : List Outcome) : Type 0 where
  pub outcomes : List runs.Outcome
  pub tells : Tells report outcomes
  pub each : length report ≡ length stats
  pub sayable : (k : ℕ) (stat : Stat) (outcome : runs.Outcome) → slice_get stats k ≡ Some stat → slice_get outcomes k ≡ Some outcome → IsSayable schema rules stat outcome

-- ---- words

-- the cause in words, and no words where memory ran out
abbrev pub refusal_words : Schema → List RuleNode → Refusal → List ℕ
refusal_words schema nodes refusal = unwrap_or (option_map (cause_words schema nodes) (cause_of refusal)) []

-- what is told of a statement that speaks of these nodes, in words
abbrev pub told_words : Schema → List RuleNode → Outcome → List ℕ
told_words schema nodes outcome = unwrap_or (option_map (outcome_words schema nodes) (outcome_of outcome)) []

-- 1 T done added 16 removed 0
abbrev pub line_text : Schema → List Rule → ℕ → Stat → Outcome → List ℕ
line_text schema rules k stat outcome = decimal k ++ codes " " ++ stat_words rules stat ++ codes " " ++ told_words schema (nodes_of rules stat) outcome ++ codes "\n"

-- The report of a run: a text with a line for each line of the script, and a last line with counts.
use Rattle.std.specs.Prelude.{ℕ, ◌+◌, List, [], ◌∷◌, ◌++◌, map, sum, codes, decimal, slice_get}
use Rattle.std.specs.Option.{option_map, unwrap_or}
use Rattle.gm_model.specs.declared.schema.Embed.{Embed}
use Rattle.gm_model.specs.declared.schema.Schema.{Schema}
use Rattle.gm_model.specs.Statements.{Stat}
use Rattle.gm_model.specs.Statements as statements
use Rattle.gm_model.specs.Applications.{Cause, NoDart, Arc, Same, PreNoValue, PreFalse, FullDarts, FullNames, NoValue}
use Rattle.gm_model.specs.Rules.{name_at, Rule, RuleNode}
use Rattle.gm_model.specs.Runs.{Outcome, Done, Refused, Skipped, Undone, Redone, NothingToUndo, NothingToRedo, Begun, Kept, Dropped, Each}

-- ---- names

abbrev pub nodes_at : List Rule → ℕ → List RuleNode
nodes_at rules r = unwrap_or (option_map (λ (rule : Rule). rule.nodes) (slice_get rules r)) []

abbrev pub rule_name : List Rule → ℕ → List ℕ
rule_name rules r = unwrap_or (option_map (λ (rule : Rule). rule.name) (slice_get rules r)) []

abbrev pub embed_name : Schema → ℕ → List ℕ
embed_name schema e = unwrap_or (option_map (λ (embed : Embed). embed.name) (slice_get schema.embeds e)) []

-- ---- one line

-- a 0, the instance of a node at a position
abbrev pub instance_words : List RuleNode → ℕ → ℕ → List ℕ
instance_words nodes x p = name_at nodes x ++ codes " " ++ decimal p

abbrev pub cause_words : Schema → List RuleNode → Cause → List ℕ
cause_words schema nodes (NoDart index) = codes "no-dart hook " ++ decimal index
cause_words schema nodes (Arc x p i) = codes "no-match arc " ++ instance_words nodes x p ++ codes " " ++ decimal i
cause_words schema nodes (Same x p y q) = codes "no-match same " ++ instance_words nodes x p ++ codes " " ++ instance_words nodes y q
cause_words schema nodes PreNoValue = codes "pre-no-value"
cause_words schema nodes PreFalse = codes "pre-false"
cause_words schema nodes (FullDarts live more) = codes "full-darts live " ++ decimal live ++ codes " more " ++ decimal more
cause_words schema nodes (FullNames next more) = codes "full-names next " ++ decimal next ++ codes " more " ++ decimal more
cause_words schema nodes (NoValue e x) = codes "no-value " ++ embed_name schema e ++ codes " " ++ name_at nodes x

abbrev pub outcome_words : Schema → List RuleNode → Outcome → List ℕ
outcome_words schema nodes (Done added removed) = codes "done added " ++ decimal added ++ codes " removed " ++ decimal removed
outcome_words schema nodes (Refused cause) = codes "refused " ++ cause_words schema nodes cause
outcome_words schema nodes Skipped = codes "skipped"
outcome_words schema nodes Undone = codes "done"
outcome_words schema nodes Redone = codes "done"
outcome_words schema nodes NothingToUndo = codes "refused nothing-to-undo"
outcome_words schema nodes NothingToRedo = codes "refused nothing-to-redo"
outcome_words schema nodes Begun = codes "begun"
outcome_words schema nodes Kept = codes "kept"
outcome_words schema nodes Dropped = codes "dropped"
outcome_words schema nodes (Each done refused passed) = codes "done " ++ decimal done ++ codes " refused " ++ decimal refused ++ codes " passed " ++ decimal passed

-- T, or undo, or each T
abbrev pub stat_words : List Rule → Stat → List ℕ
stat_words rules (statements.Apply line) = rule_name rules line.rule
stat_words rules statements.Undo = codes "undo"
stat_words rules statements.Redo = codes "redo"
stat_words rules statements.Group = codes "group"
stat_words rules statements.End = codes "end"
stat_words rules (statements.Each mask rule params) = codes "each " ++ rule_name rules rule

-- the nodes that the outcome of the statement can speak of
abbrev pub nodes_of : List Rule → Stat → List RuleNode
nodes_of rules (statements.Apply line) = nodes_at rules line.rule
nodes_of rules _ = []

-- 1 T done added 16 removed 0
abbrev pub outcome_line : Schema → List Rule → ℕ → Stat → Outcome → List ℕ
outcome_line schema rules k stat outcome = decimal k ++ codes " " ++ stat_words rules stat ++ codes " " ++ outcome_words schema (nodes_of rules stat) outcome ++ codes "\n"

-- ---- the report

-- the lines after k of them
abbrev pub outcome_lines : Schema → List Rule → ℕ → List Stat → List Outcome → List ℕ
outcome_lines schema rules k (stat ∷ stats) (outcome ∷ outcomes) = outcome_line schema rules (k + 1) stat outcome ++ outcome_lines schema rules (k + 1) stats outcomes
outcome_lines schema rules k _ _ = []

-- how often the line says that something was done
abbrev pub done_in : Outcome → ℕ
done_in (Done added removed) = 1
done_in Undone = 1
done_in Redone = 1
done_in (Each done refused passed) = done
done_in _ = 0

-- how often the line says that something was refused
abbrev pub refused_in : Outcome → ℕ
refused_in (Refused cause) = 1
refused_in NothingToUndo = 1
refused_in NothingToRedo = 1
refused_in (Each done refused passed) = refused
refused_in _ = 0

-- applied 1 refused 0 darts 24 next 24
abbrev pub counts_line : List Outcome → ℕ → ℕ → List ℕ
counts_line outcomes darts next =
    codes "applied " ++ decimal (sum (map done_in outcomes)) ++ codes " refused " ++ decimal (sum (map refused_in outcomes))
    ++ codes " darts " ++ decimal darts ++ codes " next " ++ decimal next ++ codes "\n"

-- of the outcomes of a script's statements, with this many darts after them and this next name
abbrev pub report_text : Schema → List Rule → List Stat → List Outcome → ℕ → ℕ → List ℕ
report_text schema rules stats outcomes darts next = outcome_lines schema rules 0 stats outcomes ++ counts_line outcomes darts next

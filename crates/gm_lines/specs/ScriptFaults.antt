-- Why a text stands for no script under a book's rules: its first fault by the grammar and its limits, or its first disagreement with the rules; and the words that say so.
use Rattle.std.specs.Prelude.{ℕ, List, ◌++◌, codes, decimal}
use Rattle.gm_model.specs.declared.limit.LimitKind.{LimitKind}
use Rattle.gm_mapfile.specs.MapFaults.{limit_word}
use Rattle.gm_model.specs.Rules.{Rule}
use Rattle.gm_script.specs.ScriptText.{IsTextFault, IsLimitFault, IsAgainFault, Disagreement, UnknownRuleAt, HookCountAt, ParamsAt, IsFirstDisagreement}

pub data ScriptTextFault : Type 0 where
  -- at this place no text goes on
  Ends : ℕ → ScriptTextFault
  -- a limit is passed at this place
  Passes : LimitKind → ℕ → ScriptTextFault
  -- the label at this place was mentioned before in its orbit
  Again : ℕ → ScriptTextFault
  -- a statement disagrees with the rules
  OfStat : Disagreement → ScriptTextFault

-- Labels go up to the number. Only a text that the grammar reads within its limits is compared with the rules.
pub data IsFirstScriptFault (text : List ℕ) (n : ℕ) (rules : List Rule) : ScriptTextFault → Type 0 where
  AtEnds : (place : ℕ) → IsTextFault n text place → IsFirstScriptFault text n rules (Ends place)
  AtPasses : (what : LimitKind) (place : ℕ) → IsLimitFault n text what place → IsFirstScriptFault text n rules (Passes what place)
  AtAgain : (place : ℕ) → IsAgainFault n text place → IsFirstScriptFault text n rules (Again place)
  AtStat : (fault : Disagreement) → IsFirstDisagreement text n rules fault → IsFirstScriptFault text n rules (OfStat fault)

-- ---- in words

abbrev pub disagreement_words : Disagreement → List ℕ
disagreement_words (UnknownRuleAt place) = codes "unknown-rule " ++ decimal place
disagreement_words (HookCountAt place) = codes "hook-count " ++ decimal place
disagreement_words (ParamsAt place) = codes "params " ++ decimal place

abbrev pub script_fault_words : ScriptTextFault → List ℕ
script_fault_words (Ends place) = codes "text " ++ decimal place
script_fault_words (Passes what place) = codes "limit " ++ limit_word what ++ codes " " ++ decimal place
script_fault_words (Again place) = codes "twice " ++ decimal place
script_fault_words (OfStat fault) = disagreement_words fault

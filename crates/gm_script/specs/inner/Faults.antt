-- Which fault of a script is the first of its text under a book.
use Rattle.std.specs.Prelude.{◌≡◌, ℕ, List, Option, Some, None, Result, Ok, Err}
use Rattle.gm_model.specs.Rules.{Rule}
use Rattle.gm_script.specs.ScriptText.{IsTextFault, IsLimitFault, IsAgainFault, Disagreement, UnknownRuleAt, HookCountAt, ParamsAt, IsFirstDisagreement}
use Rattle.gm_script.specs.declared.fault.ScriptFault.{ScriptFault}
use Rattle.gm_script.specs.declared.fault.ScriptFault.TheVariants as faults
use Rattle.gm_script.specs.declared.reader.TextFault.{TextFault}
use Rattle.gm_script.specs.declared.reader.TextFault.TheVariants as texts

abbrev pub of_text : TextFault → ScriptFault
of_text (texts.Text place) = faults.Text place
of_text (texts.Limit what place) = faults.Limit what place
of_text (texts.Twice place) = faults.Twice place
of_text texts.OutOfMemory = faults.OutOfMemory

-- the fault is the first of the text under a book of the rules, whose labels go up to the number, or memory ran out
abbrev pub IsFaultOf : List ℕ → ℕ → List Rule → ScriptFault → Type 0
IsFaultOf text n rules (faults.Text place) = IsTextFault n text place
IsFaultOf text n rules (faults.Limit what place) = IsLimitFault n text what place
IsFaultOf text n rules (faults.Twice place) = IsAgainFault n text place
IsFaultOf text n rules (faults.UnknownRule place) = IsFirstDisagreement text n rules (UnknownRuleAt place)
IsFaultOf text n rules (faults.HookCount place) = IsFirstDisagreement text n rules (HookCountAt place)
IsFaultOf text n rules (faults.Params place) = IsFirstDisagreement text n rules (ParamsAt place)
IsFaultOf text n rules faults.OutOfMemory = Unit {0}

-- the fault says this disagreement, or that memory ran out
abbrev pub Says : {Y : Type 0} → ScriptFault → Result Y Disagreement → Type 0
Says (faults.Text place) compared = ⊥
Says (faults.Limit what place) compared = ⊥
Says (faults.Twice place) compared = ⊥
Says (faults.UnknownRule place) compared = compared ≡ Err (UnknownRuleAt place)
Says (faults.HookCount place) compared = compared ≡ Err (HookCountAt place)
Says (faults.Params place) compared = compared ≡ Err (ParamsAt place)
Says faults.OutOfMemory compared = Unit {0}

-- what was returned, seen by view, is what comparing comes to, unless memory ran out
abbrev pub Compares : {X Y : Type 0} → (X → Y) → Result X ScriptFault → Result Y Disagreement → Type 0
Compares view (Ok x) compared = compared ≡ Ok (view x)
Compares view (Err fault) compared = Says fault compared

-- the value, unless there is a fault
abbrev pub unless : {X : Type 0} → Option ScriptFault → X → Result X ScriptFault
unless None x = Ok x
unless (Some fault) x = Err fault

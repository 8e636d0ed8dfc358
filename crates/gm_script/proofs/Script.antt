-- What reading a script answers: the script that the text stands for, or its first fault.
use Rattle.std.proofs.Common.{◌≡◌, ℕ, List, Ok, Err, subst}
use Rattle.gm_model.specs.Statements.{Stat}
use Rattle.gm_model.specs.Rules.{Rule}
use Rattle.gm_script.specs.ScriptText.{IsWritten, ScriptText, Disagreement, UnknownRuleAt, HookCountAt, ParamsAt, IsFirstDisagreement}
use Rattle.gm_script.specs.inner.Comparing.{stats_for}
use Rattle.gm_script.specs.inner.Faults.{IsFaultOf, Says}
use Rattle.gm_script.proofs.HeldStats.{AreOfText}
use Rattle.gm_script.specs.inner.Reading.{HeldStat}
use Rattle.gm_script.specs.declared.fault.ScriptFault.{ScriptFault}
use Rattle.gm_script.specs.declared.fault.ScriptFault.TheVariants as faults
use Rattle.gm_script.proofs.Compared.{AllAgree, stats_agree}

module _ (n : ℕ) (text : List ℕ) (rules : List Rule) where
  module _ (helds : List HeldStat) (of : AreOfText n text helds) where
    pub script_is : (stats : List Stat) → stats_for text rules helds ≡ Ok stats → ScriptText text n rules stats
    script_is stats e = record { forms = of.0; written = of.1; same = subst (AllAgree text rules of.0) e (stats_agree text rules helds of.0 of.2) }

    disagrees : (fault : Disagreement) → stats_for text rules helds ≡ Err fault → IsFirstDisagreement text n rules fault
    disagrees fault e =
        let first = subst (AllAgree text rules of.0) e (stats_agree text rules helds of.0 of.2) in
        record { before = first.before; form = first.form; after = first.after; written = subst (IsWritten n text) first.split of.1; agree = first.agree; found = first.found }

    pub fault_is : (fault : ScriptFault) → Says fault (stats_for text rules helds) → IsFaultOf text n rules fault
    fault_is (faults.Text place) e = absurd e
    fault_is (faults.Limit what place) e = absurd e
    fault_is (faults.Twice place) e = absurd e
    fault_is (faults.UnknownRule place) e = disagrees (UnknownRuleAt place) e
    fault_is (faults.HookCount place) e = disagrees (HookCountAt place) e
    fault_is (faults.Params place) e = disagrees (ParamsAt place) e
    fault_is faults.OutOfMemory e = tt

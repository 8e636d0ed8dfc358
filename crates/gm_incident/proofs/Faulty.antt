-- From the first fault of each test to the first fault of a rule.
use Rattle.std.proofs.Common.{◌≡◌, length, slice_get, slice_index, Some, sym, subst}
use Rattle.std.proofs.lemmas.Option.{slice_get-get_or}
use Rattle.gm_model.specs.declared.rule.RuleFault.{RuleFault}
use Rattle.gm_model.specs.declared.rule.RuleFault.TheVariants as faults
use Rattle.gm_model.specs.Rules.{Rule}
use Rattle.gm_model.specs.Structure.{AreGood, HasHook, HasPlainHook, HasWidth, IsConnected, IsStructureFault, BadHooks, BadHookWord, BadLength, Unconnected}
use Rattle.gm_incident.specs.inner.Faults.{IsFirstFault}

module _ (rule : Rule) (fault : RuleFault) where
  pub hooks_fault : fault ≡ faults.Hooks → (HasHook rule → ⊥) → IsStructureFault rule fault
  hooks_fault e h = subst (IsStructureFault rule) (sym e) (BadHooks h)

  module _ (hook : HasHook rule) where
    pub hook_word_fault : IsFirstFault (HasPlainHook rule) (length rule.hooks) (λ t. faults.HookWord (slice_index rule.hooks t)) fault → IsStructureFault rule fault
    hook_word_fault h =
        let here : slice_get rule.hooks h.bad ≡ Some (slice_index rule.hooks h.bad) = slice_get-get_or rule.hooks h.bad 0 h.first.within in
        subst (IsStructureFault rule) (sym h.is) (BadHookWord h.bad (slice_index rule.hooks h.bad) hook h.first here)

    module _ (plain : AreGood (HasPlainHook rule) (length rule.hooks)) where
      pub width_fault : IsFirstFault (HasWidth rule) (length rule.nodes) (λ x. faults.WordLength x) fault → IsStructureFault rule fault
      width_fault h = subst (IsStructureFault rule) (sym h.is) (BadLength h.bad hook plain h.first)

      pub connected_fault : AreGood (HasWidth rule) (length rule.nodes) → IsFirstFault (IsConnected rule) (length rule.nodes) (λ x. faults.NotConnected x) fault → IsStructureFault rule fault
      connected_fault widths h = subst (IsStructureFault rule) (sym h.is) (Unconnected h.bad hook plain widths h.first)

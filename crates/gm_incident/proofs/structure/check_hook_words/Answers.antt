use Rattle.std.proofs.Common.{◌≡◌, ◌<◌, Some, false, true, length, get_or, ap, below_more}
use Rattle.std.specs.List.{slice_get, slice_index}
use Rattle.std.proofs.lemmas.Option.{slice_get-get_or}
use Rattle.gm_model.specs.declared.rule.Side.TheVariants.{Left}
use Rattle.gm_model.specs.declared.rule.RuleFault.TheVariants.{HookWord}
use Rattle.gm_model.specs.Rules.{rule_of, letters}
use Rattle.gm_model.specs.Structure.{IsPlainWord, HasPlainHook}
use Rattle.gm_incident.proofs.Hooks.{plain_hook, unplain_hook}
use Rattle.gm_incident.proofs.structure.check_hook_words.Goals as goal

pub returns-then-not-has_plain_word : goal.returns-then-not-has_plain_word
returns-then-not-has_plain_word c =
    let rule = c.args.rule.now in
    let hooks = rule.hooks in
    let k = c.loop-hook.hook-index in
    let b : k < length hooks = rw (← c.as_slice-hook-items.ensures) c.loop-hook-test.true in
    let here : slice_get hooks k ≡ Some (slice_index hooks k) = slice_get-get_or hooks k 0 b in
    let unplain : IsPlainWord (letters (rule_of rule) Left (get_or c.as_slice-hook-items.result.now k 0)) → ⊥ = λ p. let t : c.has_plain_word.result ≡ true = c.has_plain_word.ensures.1 p in let f : c.has_plain_word.result ≡ false = c.if-not-has_plain_word.true in cc in
    record {
      bad = k;
      first = record {
        within = b;
        fails = unplain_hook (rule_of rule) k here (rw c.as_slice-hook-items.ensures at unplain);
        before = c.loop-hook.invariant;
      };
      is = ap (λ items. HookWord (get_or items k 0)) c.as_slice-hook-items.ensures;
    }

pub loop-hook-preserved : goal.loop-hook-preserved
loop-hook-preserved c =
    let rule = c.args.rule.now in
    let hooks = rule.hooks in
    let k = c.loop-hook.hook-index in
    let b : k < length hooks = rw (← c.as_slice-hook-items.ensures) c.loop-hook-test.true in
    let here : slice_get hooks k ≡ Some (slice_index hooks k) = slice_get-get_or hooks k 0 b in
    let plain : IsPlainWord (letters (rule_of rule) Left (get_or c.as_slice-hook-items.result.now k 0)) = c.has_plain_word.ensures.0 c.if-not-has_plain_word.false in
    below_more (HasPlainHook (rule_of rule)) k c.loop-hook.invariant (plain_hook (rule_of rule) k here (rw c.as_slice-hook-items.ensures at plain))

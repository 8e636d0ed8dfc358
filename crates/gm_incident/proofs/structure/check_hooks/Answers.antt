use Rattle.std.proofs.Common.{◌≡◌, ap, sym, ◌∙◌, refl}
use Rattle.std.specs.Option.{is_some}
use Rattle.gm_model.specs.declared.rule.Side.TheVariants.{Left}
use Rattle.gm_model.specs.Rules.{rule_of, has_word}
use Rattle.gm_incident.proofs.Hooks.{hooks_enough, hooks_wrong}
use Rattle.gm_incident.proofs.structure.check_hooks.Goals as goal

pub returns-then-is_empty-has_left_nodes : goal.returns-then-is_empty-has_left_nodes
returns-then-is_empty-has_left_nodes c =
    let left : has_word (rule_of c.args.rule.now) Left 0 ≡ c.is_some-has_left_nodes.result = sym (c.is_some-has_left_nodes.ensures ∙ ap is_some c.word.ensures) in
    (refl, hooks_wrong (rule_of c.args.rule.now) c.requires c.is_some-has_left_nodes.result left (rw (c.is_empty.ensures, c.as_slice.ensures) at c.if-is_empty-has_left_nodes.true))

pub returns : goal.returns
returns c =
    let left : has_word (rule_of c.args.rule.now) Left 0 ≡ c.is_some-has_left_nodes.result = sym (c.is_some-has_left_nodes.ensures ∙ ap is_some c.word.ensures) in
    hooks_enough (rule_of c.args.rule.now) c.requires c.is_some-has_left_nodes.result left (rw (c.is_empty.ensures, c.as_slice.ensures) at c.if-is_empty-has_left_nodes.false)

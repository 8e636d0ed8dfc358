use Rattle.std.proofs.Common.{refl, sym, subst, ◌∙◌}
use Rattle.gm_model.specs.declared.value.Kind.TheVariants as kinds
use Rattle.gm_model.specs.Kinds.{HasKind}
use Rattle.gm_model.specs.Rules.{rule_of}
use Rattle.gm_model.specs.Trees.{tree_of}
use Rattle.gm_theory.proofs.Lists.{none_some}
use Rattle.gm_eval.proofs.Matched.{live_there, typed_there}
use Rattle.gm_apply.proofs.Applying.{no_pre, pre_is, pre_met, pre_units, pre_valueless, pre_false}
use Rattle.gm_apply.proofs.Sums.{stays, no_less}
use Rattle.gm_apply.proofs.reading.Reading.meet_pre.Goals as goal

pub returns-in_default-clause-pre : goal.returns-in_default-clause-pre
returns-in_default-clause-pre g c hooks readable tree is = none_some tree (sym (no_pre c.args.self.now.plan.now.table c.rule.result.now c.rule.ensures.rule c.in_default.is) ∙ is)

pub returns-in_default-clause-cost : goal.returns-in_default-clause-cost
returns-in_default-clause-cost g c hooks u units = no_less _ _

pub returns-in_default-clause-least : goal.returns-in_default-clause-least
returns-in_default-clause-least g c = stays _

pub returns-in_default-clause-room : goal.returns-in_default-clause-room
returns-in_default-clause-room g c = refl

pub eval-requires-clause-position : goal.eval-requires-clause-position
eval-requires-clause-position g c = c.positions.ensures.some

pub eval-requires-clause-live : goal.eval-requires-clause-live
eval-requires-clause-live g c = live_there c.args.self.now.arena.now (rule_of c.args.self.now.plan.now.table) c.requires.readable.0 c.args.self.now.found.now c.requires.readable.1.answer.matched 0 c.positions.ensures.some

pub eval-requires-clause-typed : goal.eval-requires-clause-typed
eval-requires-clause-typed g c =
    let readable = c.requires.readable.1 in
    let is = pre_is c.args.self.now.plan.now.table c.rule.result.now c.in-Some.pre c.rule.ensures.rule c.in-Some.is in
    typed_there c.args.self.now.arena.now (rule_of c.args.self.now.plan.now.table) c.requires.readable.0 c.args.self.now.found.now readable.answer.matched c.args.self.now.params.now (tree_of c.in-Some.pre) kinds.Bool readable.params
    (subst (λ s. HasKind s (rule_of c.args.self.now.plan.now.table) (tree_of c.in-Some.pre) kinds.Bool) (sym readable.schema) (c.rule.ensures.planned.accepted.typed.pre (tree_of c.in-Some.pre) is))

pub eval-requires-clause-fits : goal.eval-requires-clause-fits
eval-requires-clause-fits g c = c.requires.fits

pub returns-in_default-eval-clause-pre : goal.returns-in_default-eval-clause-pre
returns-in_default-eval-clause-pre g c hooks readable =
    let is = pre_is c.args.self.now.plan.now.table c.rule.result.now c.in-Some.pre c.rule.ensures.rule c.in-Some.is in
    pre_valueless c.args.self.now.arena.now (rule_of c.args.self.now.plan.now.table) hooks c.args.self.now.params.now c.args.self.now.found.now readable.answer (tree_of c.in-Some.pre) is c.in_default-eval.ensures.value

pub returns-in_default-eval-clause-least : goal.returns-in_default-eval-clause-least
returns-in_default-eval-clause-least g c = c.eval.ensures.least

pub returns-in_default-eval-clause-room : goal.returns-in_default-eval-clause-room
returns-in_default-eval-clause-room g c = c.eval.ensures.room

pub returns-in_default-eval-clause-cost : goal.returns-in_default-eval-clause-cost
returns-in_default-eval-clause-cost g c hooks u units =
    let is = pre_is c.args.self.now.plan.now.table c.rule.result.now c.in-Some.pre c.rule.ensures.rule c.in-Some.is in
    c.eval.ensures.cost u (pre_units c.args.self.now.arena.now (rule_of c.args.self.now.plan.now.table) c.args.self.now.params.now c.args.self.now.found.now hooks (tree_of c.in-Some.pre) is u units)

pub returns-then-is_true-clause-least : goal.returns-then-is_true-clause-least
returns-then-is_true-clause-least g c = c.eval.ensures.least

pub returns-then-is_true-clause-room : goal.returns-then-is_true-clause-room
returns-then-is_true-clause-room g c = c.eval.ensures.room

pub returns-then-is_true-clause-cost : goal.returns-then-is_true-clause-cost
returns-then-is_true-clause-cost g c hooks u units =
    let is = pre_is c.args.self.now.plan.now.table c.rule.result.now c.in-Some.pre c.rule.ensures.rule c.in-Some.is in
    c.eval.ensures.cost u (pre_units c.args.self.now.arena.now (rule_of c.args.self.now.plan.now.table) c.args.self.now.params.now c.args.self.now.found.now hooks (tree_of c.in-Some.pre) is u units)

pub returns-else-is_true-clause-least : goal.returns-else-is_true-clause-least
returns-else-is_true-clause-least g c = c.eval.ensures.least

pub returns-else-is_true-clause-room : goal.returns-else-is_true-clause-room
returns-else-is_true-clause-room g c = c.eval.ensures.room

pub returns-else-is_true-clause-cost : goal.returns-else-is_true-clause-cost
returns-else-is_true-clause-cost g c hooks u units =
    let is = pre_is c.args.self.now.plan.now.table c.rule.result.now c.in-Some.pre c.rule.ensures.rule c.in-Some.is in
    c.eval.ensures.cost u (pre_units c.args.self.now.arena.now (rule_of c.args.self.now.plan.now.table) c.args.self.now.params.now c.args.self.now.found.now hooks (tree_of c.in-Some.pre) is u units)

pub returns-then-is_true-clause-pre : goal.returns-then-is_true-clause-pre
returns-then-is_true-clause-pre g c hooks readable =
    let is = pre_is c.args.self.now.plan.now.table c.rule.result.now c.in-Some.pre c.rule.ensures.rule c.in-Some.is in
    pre_met c.args.self.now.arena.now (rule_of c.args.self.now.plan.now.table) hooks c.args.self.now.params.now c.args.self.now.found.now readable.answer (tree_of c.in-Some.pre) is c.in-Some-eval.value (c.is_true.ensures.yes c.if-is_true.true) c.in-Some-eval.ensures.value

pub returns-else-is_true-clause-pre : goal.returns-else-is_true-clause-pre
returns-else-is_true-clause-pre g c hooks readable =
    let is = pre_is c.args.self.now.plan.now.table c.rule.result.now c.in-Some.pre c.rule.ensures.rule c.in-Some.is in
    pre_false c.args.self.now.arena.now (rule_of c.args.self.now.plan.now.table) hooks c.args.self.now.params.now c.args.self.now.found.now readable.answer (tree_of c.in-Some.pre) is readable.sound readable.params
    (subst (λ s. HasKind s (rule_of c.args.self.now.plan.now.table) (tree_of c.in-Some.pre) kinds.Bool) (sym readable.schema) (c.rule.ensures.planned.accepted.typed.pre (tree_of c.in-Some.pre) is)) c.in-Some-eval.value (c.is_true.ensures.not_otherwise c.if-is_true.false) c.in-Some-eval.ensures.value

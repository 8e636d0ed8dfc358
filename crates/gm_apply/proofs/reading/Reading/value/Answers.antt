use Rattle.std.proofs.Common.{◌⊎◌, sym, subst}
use Rattle.std.specs.List.{Contains}
use Rattle.gm_model.specs.declared.rule.RuleTable.{RuleTable}
use Rattle.gm_model.specs.Rules.{Assigns, rule_of}
use Rattle.gm_model.specs.Trees.{tree_of}
use Rattle.gm_eval.specs.inner.Sharing.{HasUnitsBeside, IsAtHand, Reads, collectors_of}
use Rattle.gm_eval.proofs.Matched.{live_there}
use Rattle.gm_apply.specs.inner.Readings.{read_at}
use Rattle.gm_apply.proofs.ReadValues.{one, tree_typed, gives, of_kind, of_units}
use Rattle.gm_apply.proofs.reading.Reading.value.Goals as goal

pub eval_keeping-requires-clause-live : goal.eval_keeping-requires-clause-live
eval_keeping-requires-clause-live g c = live_there c.args.self.now.arena.now (rule_of c.args.self.now.plan.now.table) c.requires.readable.0 c.args.self.now.found.now c.requires.readable.1.answer.matched c.args.position c.requires.position

pub eval_keeping-requires-clause-typed : goal.eval_keeping-requires-clause-typed
eval_keeping-requires-clause-typed g c =
    let assigns = subst (λ (t : RuleTable). Assigns (rule_of t) c.args.node c.args.embed (tree_of c.assignment-expr.result.now)) c.rule.ensures.rule c.assignment-expr.ensures in
    tree_typed c.args.self.now c.requires.readable.0 c.requires.readable.1 c.rule.ensures.planned c.args.embed c.args.node c.args.position (tree_of c.assignment-expr.result.now) assigns c.requires.position

pub returns-clause-value : goal.returns-clause-value
returns-clause-value g c hooks =
    let assigns = subst (λ (t : RuleTable). Assigns (rule_of t) c.args.node c.args.embed (tree_of c.assignment-expr.result.now)) c.rule.ensures.rule c.assignment-expr.ensures in
    gives c.args.self.now c.requires.readable.0 c.requires.readable.1 c.rule.ensures.planned c.args.embed c.args.node c.args.position (tree_of c.assignment-expr.result.now) assigns c.requires.position c.eval_keeping.result c.eval_keeping.ensures.value

pub returns-clause-kind : goal.returns-clause-kind
returns-clause-kind g c kept v at some =
    let assigns = subst (λ (t : RuleTable). Assigns (rule_of t) c.args.node c.args.embed (tree_of c.assignment-expr.result.now)) c.rule.ensures.rule c.assignment-expr.ensures in
    of_kind c.args.self.now c.requires.readable.0 c.requires.readable.1 c.rule.ensures.planned c.args.embed c.args.node c.args.position (tree_of c.assignment-expr.result.now) assigns c.requires.position kept v at (rw some at c.eval_keeping.ensures.value)

pub returns-clause-cost : goal.returns-clause-cost
returns-clause-cost g c hooks u units =
    let assigns = subst (λ (t : RuleTable). Assigns (rule_of t) c.args.node c.args.embed (tree_of c.assignment-expr.result.now)) c.rule.ensures.rule c.assignment-expr.ensures in
    c.eval_keeping.ensures.cost u (of_units c.args.self.now c.requires.readable.0 c.requires.readable.1 c.rule.ensures.planned c.args.embed c.args.node c.args.position (tree_of c.assignment-expr.result.now) assigns c.requires.position u units)

pub returns-clause-cheap : goal.returns-clause-cheap
returns-clause-cheap g c tree u expression units =
    let assigns = subst (λ (t : RuleTable). Assigns (rule_of t) c.args.node c.args.embed (tree_of c.assignment-expr.result.now)) c.rule.ensures.rule c.assignment-expr.ensures in
    c.eval_keeping.ensures.cheap u (subst (λ t. HasUnitsBeside (IsAtHand c.args.kept.now.entries) (read_at c.args.self.now c.args.position) t u) (one c.args.self.now c.requires.readable.0 c.requires.readable.1 c.rule.ensures.planned c.args.embed c.args.node c.args.position (tree_of c.assignment-expr.result.now) assigns c.requires.position tree expression) units)

pub returns-clause-among : goal.returns-clause-among
returns-clause-among g c tree x expression at_hand =
    let assigns = subst (λ (t : RuleTable). Assigns (rule_of t) c.args.node c.args.embed (tree_of c.assignment-expr.result.now)) c.rule.ensures.rule c.assignment-expr.ensures in
    subst (λ t. IsAtHand c.args.kept.now.entries x ⊎ Contains (collectors_of t) x) (sym (one c.args.self.now c.requires.readable.0 c.requires.readable.1 c.rule.ensures.planned c.args.embed c.args.node c.args.position (tree_of c.assignment-expr.result.now) assigns c.requires.position tree expression)) (c.eval_keeping.ensures.among x at_hand)

pub returns-clause-remembers : goal.returns-clause-remembers
returns-clause-remembers g c some room tree x expression reads shared =
    let assigns = subst (λ (t : RuleTable). Assigns (rule_of t) c.args.node c.args.embed (tree_of c.assignment-expr.result.now)) c.rule.ensures.rule c.assignment-expr.ensures in
    c.eval_keeping.ensures.remembers some room x (subst (λ t. Reads (read_at c.args.self.now c.args.position) t x) (one c.args.self.now c.requires.readable.0 c.requires.readable.1 c.rule.ensures.planned c.args.embed c.args.node c.args.position (tree_of c.assignment-expr.result.now) assigns c.requires.position tree expression) reads) shared

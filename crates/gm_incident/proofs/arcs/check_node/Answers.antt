use Rattle.std.proofs.Common.{◌≡◌, ◌≤◌, ◌+◌, true, false, ap, ◌∙◌, sym}
use Rattle.std.specs.Option.{is_some}
use Rattle.std.proofs.lemmas.Result.{err_from_is_err_and, MatchResult-weaker}
use Rattle.gm_model.specs.declared.rule.Side.TheVariants.{Left, Right}
use Rattle.gm_model.specs.declared.rule.RuleFault.TheVariants as faults
use Rattle.gm_model.specs.Rules.{rule_of, has_word}
use Rattle.gm_model.specs.Structure.{AreGood, HasOnce}
use Rattle.gm_incident.proofs.Counted.{all_once, first_twice, twice_left, twice_right, both_good, both_bad, removed_good, removed_bad, added_good, added_bad}
use Rattle.gm_incident.proofs.arcs.check_node.Goals as goal

pub returns-in_err-check_once : goal.returns-in_err-check_once
returns-in_err-check_once c =
    let p = err_from_is_err_and c.from_residual.result c.from_residual.ensures.1 in
    let rule = rule_of c.args.rule.now in
    let x = c.args.node in
    let few : c.args.top ≤ 7 = c.requires.top in
    rw (p.1, p.2) (twice_left c.args.top few rule x _ (first_twice c.args.top few rule x Left c.arc_counts-left.result c.arc_counts-left.ensures (λ i. faults.ArcTwice x i Left) _ (c.in_err-check_once.ensures)))

pub returns-in_err-check_once-2 : goal.returns-in_err-check_once-2
returns-in_err-check_once-2 c =
    let p = err_from_is_err_and c.from_residual-in_err-check_once-2.result c.from_residual-in_err-check_once-2.ensures.1 in
    let rule = rule_of c.args.rule.now in
    let x = c.args.node in
    let few : c.args.top ≤ 7 = c.requires.top in
    let left : AreGood (HasOnce rule Left x) (c.args.top + 1) = all_once c.args.top few rule x Left c.arc_counts-left.result c.arc_counts-left.ensures (c.in_ok-check_once.ensures) in
    rw (p.1, p.2) (twice_right c.args.top few rule x left _ (first_twice c.args.top few rule x Right c.arc_counts-right.result c.arc_counts-right.ensures (λ i. faults.ArcTwice x i Right) _ (c.in_err-check_once-2.ensures)))

pub returns-in-Some-Some : goal.returns-in-Some-Some
returns-in-Some-Some c =
    let rule = rule_of c.args.rule.now in
    let x = c.args.node in
    let few : c.args.top ≤ 7 = c.requires.top in
    let left : AreGood (HasOnce rule Left x) (c.args.top + 1) = all_once c.args.top few rule x Left c.arc_counts-left.result c.arc_counts-left.ensures (c.in_ok-check_once.ensures) in
    let right : AreGood (HasOnce rule Right x) (c.args.top + 1) = all_once c.args.top few rule x Right c.arc_counts-right.result c.arc_counts-right.ensures (c.in_ok-check_once-2.ensures) in
    let l : has_word rule Left x ≡ true = ap is_some (sym c.word.ensures ∙ c.in-Some-Some.is-0) in
    let r : has_word rule Right x ≡ true = ap is_some (sym c.word-2.ensures ∙ c.in-Some-Some.is-1) in
    MatchResult-weaker c.check_both.result c.check_both.ensures
    (λ _. both_good c.args.top few rule x left right l r c.arc_counts-left.result c.arc_counts-right.result c.arc_counts-left.ensures c.arc_counts-right.ensures)
    (both_bad c.args.top few rule x left right l r c.arc_counts-left.result c.arc_counts-right.result c.arc_counts-left.ensures c.arc_counts-right.ensures)

pub returns-in-Some-None : goal.returns-in-Some-None
returns-in-Some-None c =
    let rule = rule_of c.args.rule.now in
    let x = c.args.node in
    let few : c.args.top ≤ 7 = c.requires.top in
    let left : AreGood (HasOnce rule Left x) (c.args.top + 1) = all_once c.args.top few rule x Left c.arc_counts-left.result c.arc_counts-left.ensures c.in_ok-check_once.ensures in
    let right : AreGood (HasOnce rule Right x) (c.args.top + 1) = all_once c.args.top few rule x Right c.arc_counts-right.result c.arc_counts-right.ensures c.in_ok-check_once-2.ensures in
    let l : has_word rule Left x ≡ true = ap is_some (sym c.word.ensures ∙ c.in-Some-None.is-0) in
    let r : has_word rule Right x ≡ false = ap is_some (sym c.word-2.ensures ∙ c.in-Some-None.is-1) in
    MatchResult-weaker c.check_each.result c.check_each.ensures
    (λ _. removed_good c.args.top few rule x left right l r c.arc_counts-left.result c.arc_counts-left.ensures)
    (removed_bad c.args.top few rule x left right l r c.arc_counts-left.result c.arc_counts-left.ensures)

pub returns-in-None-default : goal.returns-in-None-default
returns-in-None-default c =
    let rule = rule_of c.args.rule.now in
    let x = c.args.node in
    let few : c.args.top ≤ 7 = c.requires.top in
    let left : AreGood (HasOnce rule Left x) (c.args.top + 1) = all_once c.args.top few rule x Left c.arc_counts-left.result c.arc_counts-left.ensures c.in_ok-check_once.ensures in
    let right : AreGood (HasOnce rule Right x) (c.args.top + 1) = all_once c.args.top few rule x Right c.arc_counts-right.result c.arc_counts-right.ensures c.in_ok-check_once-2.ensures in
    let l : has_word rule Left x ≡ false = ap is_some (sym c.word.ensures ∙ c.in-None-default.is-0) in
    MatchResult-weaker c.check_each-in-None-default.result c.check_each-in-None-default.ensures
    (λ _. added_good c.args.top few rule x left right l c.requires.some_word c.arc_counts-right.result c.arc_counts-right.ensures)
    (added_bad c.args.top few rule x left right l c.requires.some_word c.arc_counts-right.result c.arc_counts-right.ensures)

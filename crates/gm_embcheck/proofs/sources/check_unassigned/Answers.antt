use Rattle.std.proofs.Common.{MatchOption, subst}
use Rattle.std.proofs.lemmas.Result.{MatchResult-weaker}
use Rattle.gm_model.specs.Components.{IsKeeper, IsNew}
use Rattle.gm_model.specs.Labels.{has}
use Rattle.gm_model.specs.Rules.{rule_of}
use Rattle.gm_embcheck.proofs.Found.{sourceless, inherited}
use Rattle.gm_embcheck.proofs.sources.check_unassigned.Goals as goal

pub returns-in-Some : goal.returns-in-Some
returns-in-Some c = MatchResult-weaker c.check_inherited.result c.check_inherited.ensures
    (λ _. inherited (rule_of c.args.rule.now) c.args.embed (has c.args.mask) c.args.node c.args.component.now c.requires.component c.requires.unassigned c.in-Some.keeper)
    (λ fault h. h)

pub returns-in-None : goal.returns-in-None
returns-in-None c =
    let rule = rule_of c.args.rule.now in
    let o = has c.args.mask in
    let none : IsNew rule o c.args.node = subst (λ keeper. MatchOption keeper (IsNew rule o c.args.node) (IsKeeper rule o c.args.node)) c.in-None.is c.requires.keeper in
    sourceless rule c.args.embed o c.args.node c.args.component.now c.requires.component c.requires.unassigned none

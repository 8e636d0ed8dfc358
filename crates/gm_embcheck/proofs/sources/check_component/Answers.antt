use Rattle.std.proofs.lemmas.Result.{MatchResult-weaker}
use Rattle.gm_model.specs.Labels.{has}
use Rattle.gm_model.specs.Rules.{rule_of}
use Rattle.gm_embcheck.proofs.Found.{twice, once, unassigned}
use Rattle.gm_embcheck.proofs.sources.check_component.Goals as goal

pub check_unassigned-requires-clause-unassigned : goal.check_unassigned-requires-clause-unassigned
check_unassigned-requires-clause-unassigned c =
    unassigned (rule_of c.args.rule.now) c.args.embed (has c.args.mask) c.args.node c.args.component.now c.requires.component c.in-None.ensures.first

pub returns-in-Some : goal.returns-in-Some
returns-in-Some c =
    let rule = rule_of c.args.rule.now in
    let o = has c.args.mask in
    let nodes = c.args.component.now in
    let first = c.in-Some.ensures.first in
    MatchResult-weaker c.check_only.result c.check_only.ensures
    (λ _. once rule c.args.embed o c.args.node nodes c.requires.component c.in-Some.first first)
    (λ fault. twice rule c.args.embed o c.args.node nodes c.requires.component c.in-Some.first fault first)

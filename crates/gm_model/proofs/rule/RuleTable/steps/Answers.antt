use Rattle.std.proofs.Common.{◌≡◌, ℕ, ◌<◌, List, [], length, get_or, Some, ap, sym, ◌∙◌, arith}
use Rattle.std.specs.List.{slice_get, find, position}
use Rattle.std.specs.Option.{unwrap_or}
use Rattle.std.proofs.lemmas.Option.{slice_get-get_or}
use Rattle.gm_model.specs.declared.step.Step.{Step}
use Rattle.gm_model.specs.declared.step.Step.TheVariants.{Absent}
use Rattle.gm_model.specs.Rules.{rule_of, is_end, is_label, letters, links_on, step, step_in}
use Rattle.gm_model.specs.inner.NodeSteps.{letter_step, step_or}
use Rattle.gm_model.proofs.NodeSteps.{step_by-split}
use Rattle.gm_model.proofs.rule.RuleTable.steps.Goals as goal

read : (steps : List Step) (i : ℕ) (s : Step) → length steps ≡ 8 → i < 8 → get_or steps i Absent ≡ s → slice_get steps i ≡ Some s
read steps i s all b e = slice_get-get_or steps i Absent (omega arith) ∙ ap Some e

pub returns-in-Some : goal.returns-in-Some
returns-in-Some c i b =
    let x = c.args.node in
    let rule = rule_of c.args.self.now in
    let word : letters rule c.args.side x ≡ c.in-Some.word = ap (λ found. unwrap_or found []) (sym c.word.ensures ∙ c.in-Some.is) in
    read c.add_letters.new.steps i (step rule c.args.side x i) c.add_letters.array_long b (
    c.add_letters.ensures i b
    ∙ ap (λ s. step_or s (letter_step c.in-Some.word i)) (c.link_steps-steps.ensures i b ∙ ap (λ links. step_in links [] x i) c.links.ensures)
    ∙ rw word (sym (step_by-split x (find (is_end x i) (links_on rule c.args.side)) (position (is_label i) c.in-Some.word)))
    )

pub returns-in_default : goal.returns-in_default
returns-in_default c i b =
    let x = c.args.node in
    let rule = rule_of c.args.self.now in
    let word : letters rule c.args.side x ≡ [] = ap (λ found. unwrap_or found []) (sym c.word.ensures ∙ c.in_default.is) in
    read c.link_steps-steps.result i (step rule c.args.side x i) (omega arith) b (rw word (c.link_steps-steps.ensures i b ∙ ap (λ links. step_in links [] x i) c.links.ensures))

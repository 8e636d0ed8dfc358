use Rattle.std.proofs.Common.{◌≡◌, ◌-◌, length}
use Rattle.gm_text.specs.inner.SchemaAnswers.{marks_left}
use Rattle.gm_forms.specs.inner.Standing.{IsOutside, IsStateIn, IsDraftIn, rules_stand, stand_of, read_on}
use Rattle.gm_forms.proofs.first_pass.read_rules.Given as goal

abbrev pub invariant-loop-token : goal.invariant-loop-token
invariant-loop-token l =
    let text = l.fn.lexer.text in
    (l.lexer.text ≡ text)
    × (read_on (stand_of text l.reader.nodes l.reader.draft l.state l.last) (marks_left l.lexer) ≡ read_on (rules_stand l.fn.heading) (marks_left l.fn.lexer))
    × IsStateIn text l.state × IsDraftIn text l.reader.draft × IsOutside l.state

abbrev pub decreases-loop-token : goal.decreases-loop-token
decreases-loop-token l = length l.fn.lexer.text - l.lexer.place

use Rattle.std.proofs.Common.{◌≡◌, ◌<◌, List, [], length, Some, ap, sym, ◌∙◌, arith}
use Rattle.std.specs.List.{slice_get}
use Rattle.std.specs.Option.{unwrap_or}
use Rattle.std.proofs.lemmas.Bool.{false≢true}
use Rattle.std.proofs.lemmas.Option.{slice_get_within}
use Rattle.gm_model.specs.declared.word.Letter.{Letter}
use Rattle.gm_model.specs.declared.word.Letter.TheVariants.{At}
use Rattle.gm_model.specs.Rules.{rule_of, letters}
use Rattle.gm_embcheck.proofs.places.has_letter.Goals as goal

pub has-requires : goal.has-requires
has-requires c =
    let rule = rule_of c.args.rule.now in
    let none : List Letter = [] in
    let word : c.in-Some.word ≡ letters rule c.args.side c.args.node = ap (λ w. unwrap_or w none) (sym c.in-Some.is ∙ c.word.ensures) in
    let here : slice_get (letters rule c.args.side c.args.node) c.args.place ≡ Some (At c.in-At.label) = ap (λ w. slice_get w c.args.place) (sym word) ∙ c.letter.ensures ∙ ap Some c.in-At.is in
    c.requires.labels c.args.side c.args.node c.args.place c.in-At.label here

pub returns-in_default : goal.returns-in_default
returns-in_default c =
    let rule = rule_of c.args.rule.now in
    let none : List Letter = [] in
    let word : letters rule c.args.side c.args.node ≡ c.in-Some.word = ap (λ w. unwrap_or w none) (sym c.word.ensures ∙ c.in-Some.is) in (
      (λ f. absurd (false≢true f)),
      (λ h.
          let here : slice_get c.in-Some.word c.args.place ≡ Some (At h.0) = ap (λ w. slice_get w c.args.place) (sym word) ∙ h.1 in
          let within : c.args.place < length c.in-Some.word = slice_get_within c.in-Some.word c.args.place (At h.0) here in
          let past = c.if-place-len.false in
          let len = c.len.ensures.value in
          absurd (omega arith)),
    )

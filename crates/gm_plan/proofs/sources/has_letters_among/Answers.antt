use Rattle.std.proofs.Common.{◌≡◌, ◌<◌, List, [], length, Some, ap, sym, subst, ◌∙◌, below_more, below_none, falls, lt_of_lt_of_le}
use Rattle.std.proofs.lemmas.Bool.{false≢true}
use Rattle.std.specs.List.{slice_get}
use Rattle.std.specs.Option.{is_some, unwrap_or}
use Rattle.gm_model.specs.declared.rule.Side.TheVariants.{Right}
use Rattle.gm_model.specs.declared.word.Letter.{Letter}
use Rattle.gm_model.specs.declared.word.Letter.TheVariants.{At}
use Rattle.gm_model.specs.Components.{HasLetterIn}
use Rattle.gm_model.specs.Labels.{has}
use Rattle.gm_model.specs.Rules.{rule_of, letters}
use Rattle.gm_plan.proofs.sources.has_letters_among.Goals as goal

pub has-requires : goal.has-requires
has-requires c =
    let rule = rule_of c.args.rule.now in
    let none : List Letter = [] in
    let word : c.in-Some.word ≡ letters rule Right c.args.node = ap (λ w. unwrap_or w none) (sym c.in-Some.is ∙ c.word.ensures) in
    let here : slice_get (letters rule Right c.args.node) c.loop-place.place ≡ Some (At c.in-At.label) = ap (λ w. slice_get w c.loop-place.place) (sym word) ∙ c.letter.ensures ∙ ap Some c.in-At.is in
    c.requires.labels Right c.args.node c.loop-place.place c.in-At.label here

pub loop-place-preserved : goal.loop-place-preserved
loop-place-preserved c =
    let rule = rule_of c.args.rule.now in
    let none : List Letter = [] in
    let word : c.in-Some.word ≡ letters rule Right c.args.node = ap (λ w. unwrap_or w none) (sym c.in-Some.is ∙ c.word.ensures) in
    let here : slice_get (letters rule Right c.args.node) c.loop-place.place ≡ Some (At c.in-At.label) = ap (λ w. slice_get w c.loop-place.place) (sym word) ∙ c.letter.ensures ∙ ap Some c.in-At.is in
    below_more (HasLetterIn rule Right (has c.args.labels) c.args.node) c.loop-place.place c.loop-place.invariant
    (c.in-At.label, here, sym c.has.ensures ∙ c.if-has.true)

pub loop-place-init : goal.loop-place-init
loop-place-init c = below_none (HasLetterIn (rule_of c.args.rule.now) Right (has c.args.labels) c.args.node)

pub letter-requires : goal.letter-requires
letter-requires c = subst (λ n. c.loop-place.place < n) c.len-place-end.ensures.value c.loop-place-test.true

pub loop-place-smaller : goal.loop-place-smaller
loop-place-smaller c = falls _ _ c.loop-place-test.true

pub returns-in_default : goal.returns-in_default
returns-in_default c = record { right = λ e. absurd (false≢true e); among = λ e m below. absurd (false≢true e) }

pub returns-in_default-letter : goal.returns-in_default-letter
returns-in_default-letter c = record { right = λ e. absurd (false≢true e); among = λ e m below. absurd (false≢true e) }

pub returns-in_default-letter-2 : goal.returns-in_default-letter-2
returns-in_default-letter-2 c = record { right = λ e. absurd (false≢true e); among = λ e m below. absurd (false≢true e) }

pub returns : goal.returns
returns c =
    let is = sym c.in-Some.is ∙ c.word.ensures in
    let long = c.len-place-end.ensures.value ∙ ap (λ w. length (unwrap_or w [])) is in
    record {
      right = λ e. ap is_some (sym is);
      among = λ e m below. c.loop-place.invariant m (lt_of_lt_of_le (subst (λ n. m < n) (sym long) below) c.loop-place-test.false);
    }

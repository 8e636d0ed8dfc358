use Rattle.std.proofs.Common.{◌≡◌, ◌≤◌, Some, None, ap, sym, ◌∙◌, subst, decimal, arith}
use Rattle.std.specs.Result.{result_ok}
use Rattle.std.proofs.lemmas.Fmt.{parse-decimal}
use Rattle.std.proofs.lemmas.Option.{same_Some}
use Rattle.gm_tool.proofs.command.size_of.Goals as goal

pub returns-in_err-size : goal.returns-in_err-size
returns-in_err-size c =
    rw c.from_residual.ensures (λ m least most e.
    let read = parse-decimal 8 m c.args.word.now c.parse.result (omega (arith, most)) (omega (arith, most)) e c.parse.ensures.value.0 in
    absurd (let some : None ≡ Some m = sym c.in_err-size.was ∙ (c.ok.ensures.value ∙ ap result_ok read) in cc))

pub returns-else-is_size : goal.returns-else-is_size
returns-else-is_size c m least most e =
    let read = parse-decimal 8 m c.args.word.now c.parse.result (omega (arith, most)) (omega (arith, most)) e c.parse.ensures.value.0 in
    let same : c.in_ok-size.size ≡ m = same_Some c.in_ok-size.size m (sym c.in_ok-size.was ∙ (c.ok.ensures.value ∙ ap result_ok read)) in
    c.if-is_size.ensures (subst (λ n. 1 ≤ n) (sym same) least) (subst (λ n. n ≤ 100) (sym same) most) (subst (λ n. c.args.word.now ≡ decimal n) (sym same) e)

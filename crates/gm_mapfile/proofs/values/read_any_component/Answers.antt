use Rattle.std.proofs.Common.{rules, ◌≡◌, true, to_z, of_z}
use Rattle.std.proofs.lemmas.Result.{err_from_is_err_and}
use Rattle.std.specs.Int.{w64}
use Rattle.gm_text.specs.ValueText.{is_channel}
use Rattle.gm_model.proofs.Exits.{unless_ok}
use Rattle.gm_mapfile.proofs.ValueSteps.{component_lacks, component_takes}
use Rattle.gm_mapfile.proofs.values.read_any_component.Goals.{else-colour-via-then-colour+else-value-gt255, then-value-lt0, else-value-lt0, else-colour-via-else-colour}
use Rattle.gm_mapfile.proofs.values.read_any_component.Goals as goal

pub returns-in_err-minus-clause-misses : goal.returns-in_err-minus-clause-misses
returns-in_err-minus-clause-misses c =
    let p = err_from_is_err_and c.from_residual.result c.from_residual.ensures.1 in
    rw (p.1, p.2) (component_lacks c.args.colour c.args.lexer.now c.in_err-minus.field-0.0 c.in_err-minus.ensures.none)

pub returns-clause-takes : goal.returns-clause-takes
returns-clause-takes c =
    let back : to_z w64 (of_z w64 c.in-Some.value) ≡ c.in-Some.value = search rules in
    let channel : c.args.colour ≡ true → is_channel c.in-Some.value ≡ true = elim c.else-colour.branch [
      | else-colour-via-then-colour+else-value-gt255 w ↦ λ e. search rules
      | else-colour-via-else-colour w ↦ λ e. search rules
    ] in
    let takes = component_takes c.args.colour c.args.lexer.now c.in_ok-minus.field-0.minus c.in_ok-minus.field-0.size c.in_ok-minus.field-0.place c.read_signed.new.lexer c.in_ok-minus.ensures.next c.in-Some.value c.in-Some.ensures.0 c.in-Some.ensures.1 channel in
    rw back takes

pub returns-in_err-minus-clause-takes : goal.returns-in_err-minus-clause-takes
returns-in_err-minus-clause-takes c = unless_ok _ c.from_residual.result c.from_residual.ensures.0

pub returns-in_err-minus-clause-channel : goal.returns-in_err-minus-clause-channel
returns-in_err-minus-clause-channel c = unless_ok _ c.from_residual.result c.from_residual.ensures.0

pub returns-in_default-clause-takes : goal.returns-in_default-clause-takes
returns-in_default-clause-takes c = tt

pub returns-in_default-clause-channel : goal.returns-in_default-clause-channel
returns-in_default-clause-channel c = tt

pub returns-then-value-gt255-clause-takes : goal.returns-then-value-gt255-clause-takes
returns-then-value-gt255-clause-takes c = tt

pub returns-then-value-gt255-clause-channel : goal.returns-then-value-gt255-clause-channel
returns-then-value-gt255-clause-channel c = tt

pub returns-clause-misses : goal.returns-clause-misses
returns-clause-misses c = tt

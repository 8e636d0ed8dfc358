use Rattle.std.proofs.Common.{pos, [], ◌∷◌, subst, arith}
use Rattle.gm_text.specs.inner.Cursor.{Cursor}
use Rattle.gm_mapfile.specs.MapText.{DartName}
use Rattle.gm_mapfile.specs.MapReading.{TheNumber, Takes}
use Rattle.gm_mapfile.proofs.MapSteps.{name_takes}
use Rattle.gm_mapfile.proofs.reading.small_dart_name.Goals as goal

pub returns-clause-takes : goal.returns-clause-takes
returns-clause-takes c =
    let found = c.in_ok-value.field-0 in
    subst (λ (old : Cursor). Takes (TheNumber DartName ∷ []) (pos found.value ∷ []) old c.numeral_behind.new.lexer) c.fork-ahead.ensures
    (name_takes c.fork-ahead.result found.value found.place c.numeral_behind.new.lexer c.in_ok-value.ensures.next (omega (arith, c.if-value-from.false, c.from.ensures)))

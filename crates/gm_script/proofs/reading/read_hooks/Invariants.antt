use Rattle.std.proofs.Common.{◌≡◌, ◌-◌, length}
use Rattle.gm_script.specs.inner.Reading.{ReadsOn}
use Rattle.gm_script.specs.declared.spot.Spot.TheVariants as spots
use Rattle.gm_script.proofs.reading.read_hooks.Given as goal

abbrev pub invariant-loop-number : goal.invariant-loop-number
invariant-loop-number l = record {
  spot : l.reader.spot ≡ spots.Rule;
  on : ReadsOn l.fn.reader l.reader l.fn.lexer l.lexer;
}

abbrev pub decreases-loop-number : goal.decreases-loop-number
decreases-loop-number l = length l.lexer.text - l.lexer.place

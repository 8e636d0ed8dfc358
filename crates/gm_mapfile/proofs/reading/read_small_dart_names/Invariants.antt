use Rattle.std.proofs.Common.{◌-◌, ◌+◌, ◌≤◌}
use Rattle.std.specs.Prelude.{IsTrue}
use Rattle.std.specs.Vec.{vec_len, vec_capacity}
use Rattle.gm_model.specs.Tokens.{is_blank}
use Rattle.gm_mapfile.specs.MapReading.{ReadsNames}
use Rattle.gm_mapfile.proofs.reading.read_small_dart_names.Given as goal

abbrev pub invariant-loop-done : goal.invariant-loop-done
invariant-loop-done l = record {
  reads : ReadsNames l.done l.fn.lexer l.ahead l.fn.names.items l.names.items;
  few : l.done ≤ l.count;
  blank : IsTrue (is_blank l.blank);
  room : vec_len l.names + (l.count - l.done) ≤ vec_capacity l.names;
}

abbrev pub decreases-loop-done : goal.decreases-loop-done
decreases-loop-done l = l.count - l.done

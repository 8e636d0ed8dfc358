use Rattle.gm_mapfile.specs.MapFaults.{OneWay, Crossing, Unshared}
use Rattle.gm_lines.proofs.Putting.{puts}
use Rattle.gm_lines.proofs.fault_lines.put_breach.Goals as goal

pub returns-in-Involution : goal.returns-in-Involution
returns-in-Involution c = rw c.in-Involution.is (puts c.put_label.result c.args.text.now c.put_label.new.text (OneWay c.in-Involution.dart c.in-Involution.label) c.put_label.ensures)

pub returns-in-Cycle : goal.returns-in-Cycle
returns-in-Cycle c = rw c.in-Cycle.is (puts c.put_crossing.result c.args.text.now c.put_crossing.new.text (Crossing c.in-Cycle.dart c.in-Cycle.i c.in-Cycle.j) c.put_crossing.ensures)

pub returns-in-Some : goal.returns-in-Some
returns-in-Some c =
    rw (c.in-Embedding.is, c.in-Some.is)
    (puts c.put_change.result c.args.text.now c.put_change.new.text (Unshared c.in-Embedding.embed c.in-Some.name c.in-Embedding.dart c.in-Embedding.other) (rw c.bytes.ensures.value at c.put_change.ensures))

use Rattle.gm_mapfile.specs.MapFaults.{Ends, Passes, Again, DartTwice, NotBelow, NoTarget}
use Rattle.gm_lines.proofs.Putting.{puts}
use Rattle.gm_lines.proofs.fault_lines.put_map_fault.Goals as goal

pub returns-in-Text : goal.returns-in-Text
returns-in-Text c = rw c.in-Text.is (puts c.put_number.result c.args.text.now c.put_number.new.text (Ends c.in-Text.place) c.put_number.ensures.ok)

pub returns-in-Limit : goal.returns-in-Limit
returns-in-Limit c = rw c.in-Limit.is (puts c.put_limit.result c.args.text.now c.put_limit.new.text (Passes c.in-Limit.what c.in-Limit.place) c.put_limit.ensures)

pub returns-in-Twice : goal.returns-in-Twice
returns-in-Twice c = rw c.in-Twice.is (puts c.put_number-in-Twice.result c.args.text.now c.put_number-in-Twice.new.text (Again c.in-Twice.place) c.put_number-in-Twice.ensures.ok)

pub returns-in-DartTwice : goal.returns-in-DartTwice
returns-in-DartTwice c = rw c.in-DartTwice.is (puts c.put_number-in-DartTwice.result c.args.text.now c.put_number-in-DartTwice.new.text (DartTwice c.in-DartTwice.dart) (rw c.from.ensures at c.put_number-in-DartTwice.ensures.ok))

pub returns-in-Next : goal.returns-in-Next
returns-in-Next c = rw c.in-Next.is (puts c.put_number-in-Next.result c.args.text.now c.put_number-in-Next.new.text (NotBelow c.in-Next.dart) (rw c.from-in-Next.ensures at c.put_number-in-Next.ensures.ok))

pub returns-in-NoTarget : goal.returns-in-NoTarget
returns-in-NoTarget c = rw c.in-NoTarget.is (puts c.put_label.result c.args.text.now c.put_label.new.text (NoTarget c.in-NoTarget.dart c.in-NoTarget.label) c.put_label.ensures)

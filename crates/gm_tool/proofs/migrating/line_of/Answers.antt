use Rattle.std.proofs.Common.{codes, decimal, length, sym}
use Rattle.gm_mapfile.specs.inner.Rows.{darts_of}
use Rattle.gm_mapfile.proofs.Printed.{darts_counted}
use Rattle.gm_tool.proofs.Migrations.{joined}
use Rattle.gm_tool.proofs.migrating.line_of.Goals as goal

pub returns : goal.returns
returns c =
    let count = darts_counted c.args.arena.now c.count.ensures.lawful in
    rw (c.into_bytes.ensures, c.in_ok-put.ensures.ok, c.in_ok-put_number-2.ensures.ok, c.in_ok-put_number.ensures.ok, c.new-text.ensures, c.next.ensures.next, c.count.ensures.count, sym count)
    (joined (codes "migrated darts ") (decimal (length (darts_of c.args.arena.now))) (codes " next ") (decimal c.args.arena.now.next) (codes "\n"))

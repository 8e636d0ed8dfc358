use Rattle.std.proofs.Common.{ap, ◌∙◌}
use Rattle.std.specs.FinMap as map
use Rattle.gm_host.proofs.Lookups.{files_of-insert}
use Rattle.gm_host.proofs.file_table.FileTable.hold.Goals as goal

pub returns-clause-ok : goal.returns-clause-ok
returns-clause-ok c =
    let inserted = files_of-insert _ c.self.inside.files c.insert.new.self c.in_ok-bytes.bytes c.in_ok-insert.ensures.updates in
    let named = rw (c.in_ok-bytes.ensures.items, c.in_ok-name.ensures.ok) at inserted in
    named ∙ ap (λ files. map.insert files c.args.name.now c.args.bytes.now) c.self.view_is

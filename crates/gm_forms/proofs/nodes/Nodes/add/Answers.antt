use Rattle.gm_forms.proofs.HeldNames.{taken_in}
use Rattle.gm_forms.proofs.nodes.Nodes.add.Goals as goal

pub returns : goal.returns
returns c = rw (c.in_ok-insert.ensures.keys, ← c.self.view_is) (taken_in c.self.inside.names.keys (record { bytes = c.args.name }))

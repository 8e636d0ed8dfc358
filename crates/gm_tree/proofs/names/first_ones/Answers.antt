use Rattle.std.proofs.Common.{rules, ◌≡◌, length, min}
use Rattle.gm_tree.proofs.LookUp.{first-take}
use Rattle.gm_tree.proofs.names.first_ones.Goals as goal

pub returns-clause-value : goal.returns-clause-value
returns-clause-value g c = let least : c.min.result ≡ min (length c.args.all.now) 256 = search rules in first-take c.min.result c.args.all.now least

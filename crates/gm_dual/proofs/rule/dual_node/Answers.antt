use Rattle.gm_dual.proofs.rule.dual_node.Goals as goal

pub returns : goal.returns
returns c = let sets = rw c.as_slice.ensures at c.in_ok-dual_sets.ensures in λ k. record { name = c.args.node.now.name; left = c.dual_side.ensures k; right = c.dual_side-2.ensures k; sets = sets k }

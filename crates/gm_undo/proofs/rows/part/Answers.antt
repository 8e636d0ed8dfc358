use Rattle.std.proofs.Common.{◌≡◌, ℕ, ◌+◌, ◌-◌, ◌*◌, take, drop, ap, arith}
use Rattle.gm_undo.proofs.rows.part.Goals as goal

back : (n k : ℕ) → n + k - n ≡ k
back n k = omega arith

pub returns : goal.returns
returns g c = ap (λ n. take n (drop (c.args.index * c.args.width) c.args.items.now)) (back (c.args.index * c.args.width) c.args.width)

use Rattle.std.proofs.Common.{◌≡◌, arith}
use Rattle.gm_plan.proofs.Search.{search_moves}
use Rattle.gm_plan.proofs.paths.Search.follow_rank.Goals as goal

pub returns : goal.returns
returns c = λ hooks h.
    let all : c.loop-label.label ≡ c.args.labels = omega arith in
    search_moves _ hooks _ _ _ _ _ (rw all at (c.loop-label.invariant.searched hooks h)) c.requires.steps

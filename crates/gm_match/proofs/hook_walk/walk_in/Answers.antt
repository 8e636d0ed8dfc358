use Rattle.std.proofs.Common.{length, take, ◌∙◌}
use Rattle.gm_match.proofs.EdgeWalks.{one_walk, other_walk}
use Rattle.gm_match.proofs.hook_walk.walk_in.Goals as goal

pub returns-then-places-eq1-clause-walk : goal.returns-then-places-eq1-clause-walk
returns-then-places-eq1-clause-walk c = one_walk c.args.places c.if-places-eq1.true (take (length c.args.turns.now) c.args.both.now) c.args.scratch.now.walked

pub returns-clause-walk : goal.returns-clause-walk
returns-clause-walk c = c.walked.ensures.value ∙ other_walk c.args.places c.if-places-eq1.false (take (length c.args.turns.now) c.args.both.now) c.args.scratch.now.walked

pub returns-clause-short : goal.returns-clause-short
returns-clause-short c = λ one. absurd (c.if-places-eq1.false one)

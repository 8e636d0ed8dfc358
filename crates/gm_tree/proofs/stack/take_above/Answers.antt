use Rattle.std.proofs.Common.{rules, ◌≡◌, ◌-◌, ◌<◌, length, Some, IsSome, slice_get, arith}
use Rattle.std.proofs.lemmas.Option.{slice_get_within}
use Rattle.gm_tree.specs.inner.Building.{frame_of, least_in}
use Rattle.gm_tree.proofs.Stacks.{taken_last, takes_above}
use Rattle.gm_tree.proofs.stack.take_above.Goals as goal

pub returns-in-Some : goal.returns-in-Some
returns-in-Some c =
    let seen : Some c.in-Some.waiting.now ≡ slice_get c.args.stack.now.items (length c.args.stack.now.items - 1) = search rules in
    let some : IsSome c.pop.result = search (rules, seen, slice_get_within) in
    let more : c.args.level < least_in (frame_of c.in-Some.waiting.now) = omega (arith, c.least_in.ensures, c.if-least_in-level.true) in
    takes_above c.args.level c.args.stack.now.items c.pop.new.self.items c.in-Some.waiting.now c.pop.result (taken_last c.args.stack.now.items c.pop.new.self.items c.in-Some.waiting.now c.pop.result seen c.pop.ensures.items some) more

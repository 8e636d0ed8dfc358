use Rattle.std.proofs.Common.{◌≡◌, ◌+◌, ◌≤◌, max, subst, arith}
use Rattle.std.specs.Result.{OnOk}
use Rattle.gm_apply.proofs.Sums.{darts_fit}
use Rattle.gm_apply.proofs.application.reserve.Goals as goal

pub overflow_add-next : goal.overflow_add-next
overflow_add-next c = omega (arith, c.requires.names, c.next.ensures.next)

pub reserve-requires-clause-darts : goal.reserve-requires-clause-darts
reserve-requires-clause-darts c = darts_fit c.args.arena.now.count c.args.arena.now.spare c.args.applied.added c.args.applied.removed _ c.requires.darts c.next.ensures.lawful.few_darts c.saturating_sub-more.ensures

pub reserve-requires-clause-names : goal.reserve-requires-clause-names
reserve-requires-clause-names c = omega (arith, c.requires.names, c.next.ensures.next)

pub returns-clause-spare : goal.returns-clause-spare
returns-clause-spare c = subst (λ n. OnOk c.reserve.result (c.reserve.new.self.spare ≡ max c.args.arena.now.spare n)) c.saturating_sub-more.ensures c.reserve.ensures.darts

pub returns-clause-reserved : goal.returns-clause-reserved
returns-clause-reserved c = subst (λ n. OnOk c.reserve.result (c.reserve.new.self.reserved ≡ max c.args.arena.now.reserved (n + c.args.applied.added))) c.next.ensures.next c.reserve.ensures.names

pub returns-clause-spare_most : goal.returns-clause-spare_most
returns-clause-spare_most c = subst (λ n. c.reserve.new.self.spare ≤ max c.args.arena.now.spare n) c.saturating_sub-more.ensures c.reserve.ensures.spare_most

pub returns-clause-reserved_most : goal.returns-clause-reserved_most
returns-clause-reserved_most c = subst (λ n. c.reserve.new.self.reserved ≤ max c.args.arena.now.reserved (n + c.args.applied.added)) c.next.ensures.next c.reserve.ensures.reserved_most

use Rattle.std.proofs.Common.{◌≡◌, ℕ, ◌*◌, ◌<◌, ◌≤◌, arith}
use Rattle.std.proofs.lemmas.Nat.{mul-le}
use Rattle.gm_model.specs.Rules.{rule_of}
use Rattle.gm_pending.proofs.on_pending.ResultDarts.{one_left_count}
use Rattle.gm_pending.proofs.on_marks.BitsOfInstances.{matched_seen}
use Rattle.gm_pending.proofs.pending.Pending.look_up.Goals as goal

small_product : (a b nodes positions : ℕ) → a ≡ nodes → b ≡ positions → nodes < 256 → positions < 4294967296 → a * b < 18446744073709551616
small_product a b nodes positions is are few most = let less : a * b ≤ 255 * 4294967295 = mul-le a b 255 4294967295 (omega arith) (omega arith) in omega (arith, less)

pub build-requires : goal.build-requires
build-requires c = one_left_count (rule_of c.self.inside.plan.now.table) _ _ c.left_nodes-nodes.ensures.left c.self.invariant.0.matched.nodes

pub invariant_of-self : goal.invariant_of-self
invariant_of-self c = (
  c.self.invariant.0,
  c.self.invariant.1,
  c.self.invariant.2,
  c.self.invariant.3,
  matched_seen c.self.inside.found.now c.bits_of-self-inside.result c.slots.ensures.long (rw c.slots.ensures.slots at c.bits_of-self-inside.ensures),
  c.self.invariant.5,
)

pub invariant_of-self-in_ok-build : goal.invariant_of-self-in_ok-build
invariant_of-self-in_ok-build c = (c.self.invariant.0, c.self.invariant.1, c.self.invariant.2, c.in_ok-build.ensures, c.self.invariant.4, c.self.invariant.5)

pub invariant_of-self-in_ok-build-2 : goal.invariant_of-self-in_ok-build-2
invariant_of-self-in_ok-build-2 c = (c.self.invariant.0, c.self.invariant.1, c.self.invariant.2, c.in_ok-build.ensures, c.self.invariant.4, c.self.invariant.5)

pub returns-then-from-le-FEW : goal.returns-then-from-le-FEW
returns-then-from-le-FEW c = c.self.view_is

pub overflow_mul-from : goal.overflow_mul-from
overflow_mul-from c = record { fits = small_product c.from.result c.from-2.result c.left_nodes-nodes.result c.positions.result c.from.ensures c.from-2.ensures c.left_nodes-nodes.type_inv c.positions.type_inv }

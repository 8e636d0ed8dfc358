use Rattle.std.proofs.Common.{◌≡◌, ℕ, ◌/◌, ◌^◌, ◌<◌, ◌≤◌, bit_and, length, ap, ◌∙◌, subst, sym, arith}
use Rattle.std.proofs.Math.Dec.{eqb}
use Rattle.std.proofs.lemmas.Nat.Bits.{shr_and_one}
use Rattle.gm_plan.specs.inner.Changes.{has_bit}
use Rattle.gm_commit.specs.inner.InstanceEdits.{RewriteRows}
use Rattle.gm_commit.proofs.rewrite.Rewrite.is_removed.Goals as goal

node_below : (node nodes : ℕ) → node < nodes → nodes ≤ 32 → node < 32
node_below node nodes below few = omega arith

read_bit : (bits node : ℕ) → eqb (bit_and (bits / 2 ^ node) 1) 1 ≡ has_bit bits node
read_bit bits node = ap (λ b. eqb b 1) (shr_and_one bits node)

pub overflow_shr-result : goal.overflow_shr-result
overflow_shr-result c = node_below c.args.node (length c.self.inside.made.now) (subst (λ (r : RewriteRows). c.args.node < length r.made) (sym c.self.view_is) c.requires) c.self.invariant.few_nodes

pub returns : goal.returns
returns c =
    let within : c.args.node < length c.self.inside.made.now = subst (λ (r : RewriteRows). c.args.node < length r.made) (sym c.self.view_is) c.requires in
    let read = read_bit c.self.inside.goes c.args.node in
    record {
      removed = read ∙ ap (λ (r : RewriteRows). has_bit r.goes c.args.node) c.self.view_is;
      left = λ set. subst (λ (r : RewriteRows). c.args.node < r.placed.nodes) c.self.view_is (c.self.invariant.left c.args.node within (sym read ∙ set));
    }

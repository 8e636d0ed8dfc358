use Rattle.std.proofs.Common.{ℕ, ◌+◌, ◌<◌, ◌≤◌, below_more, arith}
use Rattle.gm_model.specs.Rules.{rule_of}
use Rattle.gm_cycle.specs.inner.NodeSquares.{HasLabelSquares}
use Rattle.gm_cycle.proofs.squares.check_node.Goals as goal

upto_top : (label top : ℕ) → label < top + 1 → label ≤ top
upto_top label top low = omega arith

pub loop-label-preserved : goal.loop-label-preserved
loop-label-preserved c = below_more (λ i. HasLabelSquares (rule_of c.args.rule.now) c.args.node i (c.args.top + 1)) c.loop-label.label c.loop-label.invariant c.in_ok-check_label.ensures

pub returns : goal.returns
returns c = λ i b. c.loop-label.invariant i (omega (arith, b))

pub steps_that_stay-stays-requires : goal.steps_that_stay-stays-requires
steps_that_stay-stays-requires c = record { right = c.requires.right; nodes = c.requires.nodes; node = c.requires.node; on_right = c.requires.on_right }

pub check_label-requires : goal.check_label-requires
check_label-requires c = record {
  top = c.requires.top;
  i = upto_top c.loop-label.label c.args.top c.loop-label-test.true;
  right = c.requires.right;
  ends = c.requires.ends;
  stays = c.steps_that_stay-stays.ensures;
  nodes = c.requires.nodes;
  node = c.requires.node;
  on_right = c.requires.on_right;
}

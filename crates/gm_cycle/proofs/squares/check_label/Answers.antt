use Rattle.std.proofs.Common.{ℕ, ◌+◌, ◌<◌, ◌≤◌, refl, sym, ◌∙◌, below_more, lt_irrefl, lt_of_lt_of_le, arith}
use Rattle.std.proofs.lemmas.Bool.{false≢true}
use Rattle.gm_model.specs.Rules.{rule_of}
use Rattle.gm_model.specs.Squares.{IsSquareGood}
use Rattle.gm_cycle.proofs.squares.check_label.Goals as goal

pub loop-j-preserved : goal.loop-j-preserved
loop-j-preserved c =
    let Good : ℕ → Type 0 = λ j. c.args.i + 2 ≤ j → IsSquareGood (rule_of c.args.rule.now) c.args.node c.args.i j in
    λ j a b. below_more Good c.loop-j.j (λ k h a'. c.loop-j.invariant k a' h) (λ _. c.is_good.ensures.0 c.if-not-is_good.false) j b a

up_to_seven : (j top : ℕ) → j < top + 1 → top ≤ 7 → j < 8
up_to_seven j top low most = omega arith

label_below : (i top : ℕ) → i ≤ top → top ≤ 7 → i < 8
label_below i top low most = omega arith

pub loop-j-init : goal.loop-j-init
loop-j-init c = λ j past low. absurd (lt_irrefl _ (lt_of_lt_of_le low past))

pub is_good-requires : goal.is_good-requires
is_good-requires c = record {
  i = label_below c.args.i c.args.top c.requires.i c.requires.top;
  j = up_to_seven c.loop-j.j c.args.top c.loop-j-test.true c.requires.top;
  right = c.requires.right;
  ends = c.requires.ends;
  stays = c.requires.stays;
  nodes = c.requires.nodes;
  node = c.requires.node;
  on_right = c.requires.on_right;
}

pub returns-then-not-is_good : goal.returns-then-not-is_good
returns-then-not-is_good c = record {
  j = c.loop-j.j;
  apart = c.loop-j.auto.j;
  label = c.loop-j-test.true;
  open_here = λ good. false≢true (sym c.if-not-is_good.true ∙ c.is_good.ensures.1 good);
  before = c.loop-j.invariant;
  is = refl;
}

pub returns : goal.returns
returns c = λ j past low. c.loop-j.invariant j past (lt_of_lt_of_le low c.loop-j-test.false)

use Rattle.std.proofs.Common.{sym, ◌∙◌, arith, eq-eqb}
use Rattle.gm_text.specs.inner.Lexing.{nothing}
use Rattle.gm_text.proofs.Gaps.{IsPassed-then, IsPassed-blank, IsPassed-comment}
use Rattle.gm_text.proofs.scan.gap_end.Goals as goal

pub loop-at-preserved-then-is_blank : goal.loop-at-preserved-then-is_blank
loop-at-preserved-then-is_blank c =
    let inv = c.loop-at.invariant in
    record {
      behind = omega arith;
      inside = omega arith;
      passed = IsPassed-then _ _ _ _ inv.passed (IsPassed-blank _ _ c.loop-at-test.true (sym c.is_blank.ensures ∙ c.if-is_blank.true));
    }

pub loop-at-preserved : goal.loop-at-preserved
loop-at-preserved c =
    let inv = c.loop-at.invariant in
    record {
      behind = omega arith;
      inside = c.line_end-at.ensures.within;
      passed = IsPassed-then _ _ _ _ inv.passed (IsPassed-comment _ _ _ c.loop-at-test.true (eq-eqb _ _ c.if-text-at-eq35.true) c.line_end-at.ensures.value);
    }

pub returns-else-text-at-eq35-clause-gap : goal.returns-else-text-at-eq35-clause-gap
returns-else-text-at-eq35-clause-gap c = c.loop-at.invariant.passed.gap _ (nothing _)

pub returns-clause-gap : goal.returns-clause-gap
returns-clause-gap c = c.loop-at.invariant.passed.gap _ (nothing _)

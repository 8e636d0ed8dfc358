use Rattle.std.proofs.Common.{◌≡◌, true, false, rules, refl}
use Rattle.gm_tool.proofs.Statuses.{goes_on, stops, ends}
use Rattle.gm_tool.proofs.running.status_of.Goals as goal

pub loop-outcome-init : goal.loop-outcome-init
loop-outcome-init c told tells = refl

pub loop-outcome-preserved : goal.loop-outcome-preserved
loop-outcome-preserved c told tells =
    let goes : c.is_refused.result ≡ false = search rules in
    goes_on c.args.outcomes.now told tells c.loop-outcome.outcome-index _ _ c.loop-outcome-test.true refl c.is_refused.result c.is_refused.ensures (c.loop-outcome.invariant told tells) goes

pub returns-then-is_refused : goal.returns-then-is_refused
returns-then-is_refused c told tells =
    let refused : c.is_refused.result ≡ true = search rules in
    stops c.args.outcomes.now told tells c.loop-outcome.outcome-index _ _ c.loop-outcome-test.true refl c.is_refused.result c.is_refused.ensures (c.loop-outcome.invariant told tells) refused

pub returns : goal.returns
returns c told tells = ends c.args.outcomes.now told tells c.loop-outcome.outcome-index c.loop-outcome-test.false (c.loop-outcome.invariant told tells)

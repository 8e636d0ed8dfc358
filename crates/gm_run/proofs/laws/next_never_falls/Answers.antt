use Rattle.gm_run.proofs.Rising.{begun_in_order, step_rises}
use Rattle.gm_run.proofs.laws.next_never_falls.Goals as goal

pub returns : goal.returns
returns c rules before stats outcomes state after stat outcome run step other no_drop = step_rises rules state stat outcome after (begun_in_order rules before stats outcomes state run) step other no_drop

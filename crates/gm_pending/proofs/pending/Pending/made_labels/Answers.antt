use Rattle.std.proofs.Common.{subst}
use Rattle.gm_plan.specs.inner.Changes.{AreMadeLabels}
use Rattle.gm_pending.specs.inner.Results.{PendingOf, rule_in}
use Rattle.gm_pending.proofs.pending.Pending.made_labels.Goals as goal

pub returns : goal.returns
returns c = subst (λ (a : PendingOf). AreMadeLabels (rule_in a) c.made_labels.result) c.self.view_is c.made_labels.ensures

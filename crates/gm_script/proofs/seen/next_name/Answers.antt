use Rattle.std.proofs.Common.{map}
use Rattle.gm_model.specs.Rules.{rule_of}
use Rattle.gm_script.specs.inner.SoFar.{IsKnown}
use Rattle.gm_script.specs.declared.sight.Sight.TheVariants as sights
use Rattle.gm_script.proofs.seen.next_name.Goals as goal

pub returns-in-Some-word_of_lead-clause-seen : goal.returns-in-Some-word_of_lead-clause-seen
returns-in-Some-word_of_lead-clause-seen c =
    let known : IsKnown (map rule_of c.args.rules.now) c.in-Some.lead = rw c.in-Some.is at c.requires.known in
    c.in-Some-word_of_lead.ensures.seen sights.Name known.lead_is.is

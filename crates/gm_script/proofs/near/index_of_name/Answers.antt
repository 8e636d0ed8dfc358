use Rattle.std.proofs.Common.{◌-◌, map, take, drop, Some, sym}
use Rattle.gm_model.specs.Rules.{rule_of}
use Rattle.gm_script.specs.inner.SoFar.{IsKnown}
use Rattle.gm_script.proofs.Indices.{within}
use Rattle.gm_script.proofs.near.index_of_name.Goals as goal

pub returns-then-is_name_of-clause-within : goal.returns-then-is_name_of-clause-within
returns-then-is_name_of-clause-within c =
    let lead = c.in-Some.lead in
    let known : IsKnown (map rule_of c.args.rules.now) lead = rw c.in-Some.is at c.requires.known in
    within c.args.rules.now (take (lead.size - 2) (drop 1 (take lead.size lead.bytes))) (Some lead.index) (sym known.index_is)

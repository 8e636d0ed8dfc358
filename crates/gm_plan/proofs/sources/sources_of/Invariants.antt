use Rattle.std.proofs.Common.{◌≡◌, length}
use Rattle.gm_model.specs.Rules.{rule_of}
use Rattle.gm_plan.proofs.EmbedTables.{AreFirst}
use Rattle.gm_plan.proofs.sources.sources_of.Given as goal

abbrev pub invariant-loop-embed : goal.invariant-loop-embed
invariant-loop-embed l = record {
  long : length l.sources.items ≡ l.embed;
  first : AreFirst l.schema (rule_of l.rule) l.sources.items;
}

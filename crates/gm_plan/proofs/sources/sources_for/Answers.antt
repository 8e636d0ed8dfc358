use Rattle.std.proofs.Common.{sym, subst}
use Rattle.gm_model.specs.declared.rule.Side.TheVariants.{Right}
use Rattle.gm_embcheck.specs.inner.Bounds.{HasLinkBounds}
use Rattle.gm_plan.proofs.sources.sources_for.Goals as goal

pub leaders_of-leaders-requires : goal.leaders_of-leaders-requires
leaders_of-leaders-requires c = subst HasLinkBounds (sym c.links.ensures) (c.requires.bounds.links Right)

use Rattle.gm_mapfile.specs.declared.version.MapVersion.TheVariants as versions
use Rattle.gm_tool.proofs.ArenaMaps.{printed_bytes}
use Rattle.gm_tool.proofs.migrating.prepared.Goals as goal

pub returns-clause-map : goal.returns-clause-map
returns-clause-map g c = λ sound. printed_bytes versions.Two c.args.arena.now c.in_ok-map.map.items c.in_ok-map.ensures.text (c.in_ok-map.ensures.stands sound)

use Rattle.gm_mapfile.proofs.ReadMap.{without_name}
use Rattle.gm_mapfile.proofs.reading.read_map.Goals as goal

pub returns-in-Err-clause-fault : goal.returns-in-Err-clause-fault
returns-in-Err-clause-fault g c = without_name c.args.bytes.now c.in-Err.no_map.fault c.in-Err.no_map.embed c.in-Err.ensures.fault

pub returns-in-Ok-clause-map : goal.returns-in-Ok-clause-map
returns-in-Ok-clause-map g c = c.in-Ok.ensures.map

pub returns-in-Ok-clause-sound : goal.returns-in-Ok-clause-sound
returns-in-Ok-clause-sound g c = c.in-Ok.ensures.sound

pub returns-in-Ok-clause-most : goal.returns-in-Ok-clause-most
returns-in-Ok-clause-most g c = c.read_map_or_why.ensures.most

pub returns-in-Ok-clause-least : goal.returns-in-Ok-clause-least
returns-in-Ok-clause-least g c = c.in-Ok.ensures.least

pub returns-in-Err-clause-most : goal.returns-in-Err-clause-most
returns-in-Err-clause-most g c = c.read_map_or_why.ensures.most

use Rattle.gm_model.specs.Maps.{dimension}
use Rattle.gm_cells.proofs.TwoOrOdd.{two_or_odd}
use Rattle.gm_cells.proofs.laws.two_colours_or_an_odd_walk.Goals as goal

pub returns : goal.returns
returns c = λ map below gmap. two_or_odd (dimension map) map.live map.alpha gmap map.next below

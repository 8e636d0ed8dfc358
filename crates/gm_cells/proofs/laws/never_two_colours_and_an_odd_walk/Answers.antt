use Rattle.gm_model.specs.Maps.{IsDart, dimension}
use Rattle.gm_cells.proofs.WalkLemmas.{no_odd_walk}
use Rattle.gm_cells.proofs.laws.never_two_colours_and_an_odd_walk.Goals as goal

pub returns : goal.returns
returns c = λ map colour d labels gmap two live walk. no_odd_walk (dimension map) (IsDart map) map.alpha gmap (IsDart map) (λ e i one low. gmap.stays e i one low) colour two d labels live walk

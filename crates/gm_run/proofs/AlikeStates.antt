-- Each state is alike to itself.
use Rattle.std.proofs.Common.{List, [], ◌∷◌, Option, Some, None, refl}
use Rattle.gm_model.specs.Histories.{Group}
use Rattle.gm_model.specs.Maps.{Map}
use Rattle.gm_model.specs.Runs.{State}
use Rattle.gm_run.specs.inner.Alike.{AreAllAlike, AreAlikeGroups, AreAlikeStates}
use Rattle.gm_run.proofs.AlikeLemmas.{alike_self}

all_alike_self : (maps : List Map) → AreAllAlike maps maps
all_alike_self [] = tt
all_alike_self (m ∷ maps) = (alike_self m, all_alike_self maps)

groups_alike_self : (group : Option Group) → AreAlikeGroups group group
groups_alike_self None = tt
groups_alike_self (Some group) = (alike_self group.map, refl)

pub states_alike_self : (state : State) → AreAlikeStates state state
states_alike_self state = record {
  map = alike_self state.map;
  past = all_alike_self state.history.past;
  future = all_alike_self state.history.future;
  group = groups_alike_self state.history.group;
  broken = refl;
}

use Rattle.gm_model.proofs.Exits.{never_ok, on_err}
use Rattle.gm_pending.proofs.marks.push.Goals as goal

pub returns-in_err-make_room : goal.returns-in_err-make_room
returns-in_err-make_room g c = record {
  ok = never_ok _ c.from_residual.result c.from_residual.ensures.0;
  capacity = c.make_room.ensures.capacity;
  err = on_err c.from_residual.result c.in_err-make_room.ensures.items;
}

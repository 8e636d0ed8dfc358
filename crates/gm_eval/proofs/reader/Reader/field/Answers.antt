use Rattle.gm_walk.proofs.NameLemmas.{live_at}
use Rattle.gm_eval.proofs.Ready.{term_here}
use Rattle.gm_eval.proofs.reader.Reader.field.Goals as goal

pub slot-slot-requires : goal.slot-slot-requires
slot-slot-requires g c =
    let ready = c.requires.ready in
    record { here = ready.here; term = term_here c.args.self.now _ ready c.args.term.now ready.typed.has_kind.in_range.0 }

pub value-requires : goal.value-requires
value-requires g c = record {
  live = live_at c.args.self.now.arena.now c.slot-slot.result.at _ c.slot-slot.ensures.slot;
  embed = c.requires.ready.typed.has_kind.in_range.1;
}

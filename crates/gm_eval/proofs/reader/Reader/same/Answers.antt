use Rattle.gm_eval.proofs.Ready.{term_here}
use Rattle.gm_eval.proofs.reader.Reader.same.Goals as goal

pub slot-requires : goal.slot-requires
slot-requires g c =
    let ready = c.requires.ready in
    record { here = ready.here; term = term_here c.args.self.now _ ready c.args.term.now ready.typed.has_kind.in_range.0 }

pub slot-requires-2 : goal.slot-requires-2
slot-requires-2 g c =
    let ready = c.requires.ready in
    record { here = ready.here; term = term_here c.args.self.now _ ready c.args.other.now ready.typed.has_kind.in_range.1 }

use Rattle.std.proofs.Common.{◌≡◌, Some, rules}
use Rattle.gm_eval.proofs.Sharing.{among_entries}
use Rattle.gm_eval.proofs.kept.Entries.find.Goals as goal

pub returns-clause-known : goal.returns-clause-known
returns-clause-known c = λ hand.
    let same : c.args.self.now ≡ Some c.as_slice.result.now = search rules in
    let among = among_entries c.args.self.now c.as_slice.result.now c.args.collector same hand in
    c.find_in.ensures.known among.0 among.1

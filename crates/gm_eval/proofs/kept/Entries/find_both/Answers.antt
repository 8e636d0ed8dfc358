use Rattle.std.proofs.Common.{◌≡◌, Some, rules}
use Rattle.std.proofs.lemmas.Bool.{false≢true}
use Rattle.gm_eval.proofs.Sharing.{among_entries}
use Rattle.gm_eval.proofs.kept.Entries.find_both.Goals as goal

pub returns-in_err-find_in-clause-known : goal.returns-in_err-find_in-clause-known
returns-in_err-find_in-clause-known c = λ first second.
    let same : c.args.self.now ≡ Some c.as_slice-entries.result.now = search rules in
    let among = among_entries c.args.self.now c.as_slice-entries.result.now c.args.first same first in
    absurd (false≢true (c.in_err-find_in.ensures.known among.0 among.1))

pub returns-in_err-find_in-2-clause-known : goal.returns-in_err-find_in-2-clause-known
returns-in_err-find_in-2-clause-known c = λ first second.
    let same : c.args.self.now ≡ Some c.as_slice-entries.result.now = search rules in
    let among = among_entries c.args.self.now c.as_slice-entries.result.now c.args.second same second in
    absurd (false≢true (c.in_err-find_in-2.ensures.known among.0 among.1))

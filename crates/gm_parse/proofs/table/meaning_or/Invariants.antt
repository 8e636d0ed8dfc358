use Rattle.std.proofs.Common.{◌≡◌, bytes_eq, drop}
use Rattle.gm_parse.specs.inner.Tables.{meaning_of_first}
use Rattle.gm_parse.proofs.table.meaning_or.Given as goal

abbrev pub invariant-loop-name : goal.invariant-loop-name
invariant-loop-name g l =
    let meaning = meaning_of_first (λ entry. bytes_eq l.word entry.0.now) (λ entry. entry.1) l.other in
    meaning l.table ≡ meaning (drop l.name-index l.table)

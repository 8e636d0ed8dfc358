use Rattle.std.proofs.Common.{rules}
use Rattle.std.proofs.lemmas.Result.{err_from_is_err_and}
use Rattle.gm_host.proofs.file_table.FileTable.load.Goals as goal

pub returns-in_err-from_slice : goal.returns-in_err-from_slice
returns-in_err-from_slice c =
    let p = err_from_is_err_and c.from_residual.result c.from_residual.ensures.1 in
    rw (p.1, p.2)
    (record {
      within_limit = tt;
      bytes_held = tt;
      absent = tt;
      lacking = λ _. tt;
      failed = λ failed. failed;
      seen_length = tt;
      seen_held = tt;
      longer = λ _. tt;
    })

pub returns-in_err-seen : goal.returns-in_err-seen
returns-in_err-seen c =
    let p = err_from_is_err_and c.from_residual-in_err-seen.result c.from_residual-in_err-seen.ensures.1 in
    rw (p.1, p.2)
    (record {
      within_limit = tt;
      bytes_held = tt;
      absent = tt;
      lacking = λ _. tt;
      failed = λ failed. failed;
      seen_length = tt;
      seen_held = tt;
      longer = λ _. tt;
    })

pub returns-in_default : goal.returns-in_default
returns-in_default c =
    record {
      within_limit = search rules;
      bytes_held = search rules;
      absent = search rules;
      lacking = search rules;
      failed = search rules;
      seen_length = search rules;
      seen_held = search rules;
      longer = search rules;
    }

pub returns-then-held-limit : goal.returns-then-held-limit
returns-then-held-limit c =
    record {
      within_limit = search rules;
      bytes_held = search rules;
      absent = search rules;
      lacking = search rules;
      failed = search rules;
      seen_length = search rules;
      seen_held = search rules;
      longer = search rules;
    }

pub returns : goal.returns
returns c =
    record {
      within_limit = search rules;
      bytes_held = search rules;
      absent = search rules;
      lacking = search rules;
      failed = search rules;
      seen_length = search rules;
      seen_held = search rules;
      longer = search rules;
    }

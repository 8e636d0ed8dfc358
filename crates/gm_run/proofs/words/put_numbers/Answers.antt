use Rattle.std.proofs.Common.{◌++◌, append_assoc, sym}
use Rattle.std.specs.Prelude.{decimal}
use Rattle.gm_model.proofs.Exits.{never_ok}
use Rattle.gm_run.proofs.Told.{onward}
use Rattle.gm_run.proofs.words.put_numbers.Goals as goal

pub returns-in_err-put_number : goal.returns-in_err-put_number
returns-in_err-put_number c = never_ok _ c.from_residual.result c.from_residual.ensures.0

pub returns : goal.returns
returns c =
    let first = c.args.words.now ++ decimal c.args.number in
    let second = c.args.more_words.now ++ decimal c.args.more in
    onward c.put_number-2.result c.args.text.now first second _ c.put_number.new.text c.put_number-2.new.text c.in_ok-put_number.ensures.ok (sym (append_assoc first c.args.more_words.now (decimal c.args.more))) c.put_number-2.ensures.ok

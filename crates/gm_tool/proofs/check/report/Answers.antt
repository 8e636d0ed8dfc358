use Rattle.std.proofs.Common.{length, map, ap, sym, ◌∙◌}
use Rattle.std.proofs.lemmas.List.{length-map}
use Rattle.gm_model.specs.Rules.{rule_of}
use Rattle.gm_tool.proofs.Judging.{counted_checked}
use Rattle.gm_tool.proofs.check.report.Goals as goal

pub returns : goal.returns
returns c =
    counted_checked c.args.book.now.schema (map rule_of c.args.book.now.rules) c.in_ok-text.refused (length c.as_slice-rules.result.now) c.status_of.result c.in_ok-text.text c.into_bytes.result.items c.reply_within_limit.result
    (rw c.as_slice-rules.ensures at c.in_ok-text.ensures) (ap length c.as_slice-rules.ensures ∙ sym (length-map c.args.book.now.rules rule_of)) (c.into_bytes.ensures ∙ c.in_ok-put_counts.ensures) c.status_of.ensures c.reply_within_limit.ensures

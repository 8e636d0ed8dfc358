use Rattle.std.proofs.Common.{IfOk, map, ap, subst}
use Rattle.std.specs.Result.{result_err}
use Rattle.gm_forms.specs.inner.Forms.{rule_form_of}
use Rattle.gm_forms.specs.inner.Held.{names_at}
use Rattle.gm_book.specs.inner.FirstNameFault.{IsLeast, IsFaultBehind}
use Rattle.gm_book.proofs.building.read_tables.Goals as goal

pub returns-clause-fault : goal.returns-clause-fault
returns-clause-fault c =
    let rules = map (rule_form_of c.args.text.now) c.args.rules.now in
    subst (λ ns. IfOk c.read_tables_behind.result (λ read. IsLeast (IsFaultBehind c.args.schema.now.dim c.args.schema.now.embeds ns rules) (result_err read))) (ap names_at c.new-names.ensures.empty) c.read_tables_behind.ensures.fault

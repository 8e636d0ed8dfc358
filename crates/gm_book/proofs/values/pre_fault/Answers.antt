use Rattle.std.proofs.Common.{Option, IfOk, sym, subst}
use Rattle.std.specs.Option.{option_map}
use Rattle.gm_tree.specs.inner.FirstNames.{first_names}
use Rattle.gm_forms.specs.declared.form.Span.{Span}
use Rattle.gm_forms.specs.inner.Forms.{value_of}
use Rattle.gm_book.specs.inner.FirstNameFault.{IsLeast, IsPreFault}
use Rattle.gm_book.proofs.values.pre_fault.Goals as goal

pub returns-in-Some : goal.returns-in-Some
returns-in-Some c =
    let schema = c.args.env.now.schema.now in
    let params = c.args.env.now.params.now in
    let names = first_names schema params c.args.env.now.nodes.now in
    subst (λ (pre : Option Span). IfOk c.value_fault.result (IsLeast (IsPreFault schema.dim schema.embeds params names (option_map (value_of c.args.text.now) pre)))) (sym c.in-Some.is) c.value_fault.ensures

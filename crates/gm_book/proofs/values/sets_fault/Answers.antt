use Rattle.std.proofs.Common.{◌≡◌, ◌+◌, ◌∷◌, List, [], Option, None, map, drop, sym, ap, subst, ◌∙◌}
use Rattle.std.proofs.lemmas.List.{drop_all}
use Rattle.gm_model.specs.declared.value.Kind.{Kind}
use Rattle.gm_tree.specs.inner.FirstNames.{first_names}
use Rattle.gm_forms.specs.declared.form.SetForm.{SetForm}
use Rattle.gm_forms.specs.BookText.{IsSet, kind_of_embed}
use Rattle.gm_forms.specs.inner.Forms.{IsSetIn, set_form_of}
use Rattle.gm_book.specs.declared.names.NameFault.{NameFault}
use Rattle.gm_book.specs.inner.FirstNameFault.{IsLeast, IsSetFault, IsValueFault, least_of}
use Rattle.gm_book.proofs.LeastOf.{least_regrouped, least_with_none}
use Rattle.gm_book.proofs.Onward.{left_on, each_on}
use Rattle.gm_book.proofs.ReadSets.{each_read}
use Rattle.gm_book.proofs.ValueFaults.{no_set, least_of_sets}
use Rattle.gm_model.proofs.Exits.{unless_ok}
use Rattle.gm_book.proofs.values.sets_fault.Goals as goal

pub bytes_in-requires : goal.bytes_in-requires
bytes_in-requires c = (each_on (IsSetIn c.args.text.now) c.args.sets.now c.loop-set.set-index c.set-item.result c.set-item.result c.requires.within c.loop-set-test.true c.set-item.is).0

pub value_fault-requires-clause-within : goal.value_fault-requires-clause-within
value_fault-requires-clause-within c = (each_on (IsSetIn c.args.text.now) c.args.sets.now c.loop-set.set-index c.set-item.result c.set-item.result c.requires.within c.loop-set-test.true c.set-item.is).1

pub value_fault-requires-clause-expr : goal.value_fault-requires-clause-expr
value_fault-requires-clause-expr c = (each_read (IsSet c.args.env.now.schema.now.dim) (set_form_of c.args.text.now) c.args.sets.now c.loop-set.set-index c.set-item.result c.set-item.result c.requires.exprs c.loop-set-test.true c.set-item.is).1

pub loop-set-preserved : goal.loop-set-preserved
loop-set-preserved c = λ behind least.
    let text = c.args.text.now in
    let schema = c.args.env.now.schema.now in
    let n = schema.dim in
    let embeds = schema.embeds in
    let params = c.args.env.now.params.now in
    let names = first_names schema params c.args.env.now.nodes.now in
    let set = c.set-item.result in
    let l = c.loop-set in
    let form = set_form_of text set in
    let others = map (set_form_of text) (drop (l.set-index + 1) c.args.sets.now) in
    let left : drop l.set-index c.args.sets.now ≡ set ∷ drop (l.set-index + 1) c.args.sets.now = left_on c.args.sets.now l.set-index set c.loop-set-test.true c.set-item.is in
    let found = c.in_ok-value_fault.field-0 in
    let kind : c.kind_needed-kind.result ≡ kind_of_embed embeds form.embed.name = c.kind_needed-kind.ensures ∙ ap (kind_of_embed embeds) c.bytes_in.ensures in
    let first = subst (λ (k : Option Kind). IsLeast (IsValueFault n embeds params names form.value k) found) kind c.in_ok-value_fault.ensures in
    let joined = least_of_sets n embeds params names form others found behind first least in
    let there = subst (λ (ss : List SetForm). IsLeast (IsSetFault n embeds params names (map (set_form_of text) ss)) (least_of found behind)) (sym left) joined in
    let whole = l.invariant (least_of found behind) there in
    subst (IsLeast (IsSetFault n embeds params names (map (set_form_of text) c.args.sets.now))) (sym (least_regrouped l.fault found behind) ∙ ap (λ (f : Option NameFault). least_of f behind) (sym c.earlier-fault.ensures)) whole

pub returns : goal.returns
returns c =
    let text = c.args.text.now in
    let schema = c.args.env.now.schema.now in
    let params = c.args.env.now.params.now in
    let names = first_names schema params c.args.env.now.nodes.now in
    let l = c.loop-set in
    let none : [] ≡ drop l.set-index c.args.sets.now = sym (drop_all l.set-index c.args.sets.now c.loop-set-test.false) in
    let there = subst (λ (ss : List SetForm). IsLeast (IsSetFault schema.dim schema.embeds params names (map (set_form_of text) ss)) None) none (no_set schema.dim schema.embeds params names) in
    subst (IsLeast (IsSetFault schema.dim schema.embeds params names (map (set_form_of text) c.args.sets.now))) (least_with_none l.fault) (l.invariant None there)

pub returns-in_err-value_fault : goal.returns-in_err-value_fault
returns-in_err-value_fault c = unless_ok _ c.from_residual.result c.from_residual.ensures.0

use Rattle.std.proofs.Common.{◌≡◌, true, false, Some, refl, sym, ap, subst, ◌∙◌}
use Rattle.gm_model.specs.Trees.{tree_of}
use Rattle.gm_text.specs.inner.SchemaAnswers.{marks_left}
use Rattle.gm_tree.specs.inner.FirstNames.{first_names}
use Rattle.gm_forms.specs.BookText.{first_place}
use Rattle.gm_forms.specs.inner.Forms.{value_of}
use Rattle.gm_parse.specs.Meaning.{UnknownAt, TwiceAt}
use Rattle.gm_book.specs.declared.names.NameFault.TheVariants.{Unknown, Twice}
use Rattle.gm_book.specs.inner.FirstNameFault.{IsLeast, IsValueFault}
use Rattle.gm_book.specs.inner.Values.{IsReadFault}
use Rattle.gm_book.proofs.ValueFaults.{first_is_least, no_fault_is_least, other_kind_is_least}
use Rattle.gm_book.proofs.ValueTokens.{are_within, first_token}
use Rattle.gm_book.proofs.values.checked_value.Goals as goal

pub returns-then-has_kind-clause-fault : goal.returns-then-has_kind-clause-fault
returns-then-has_kind-clause-fault c =
    let schema = c.args.env.now.schema.now in
    let params = c.args.env.now.params.now in
    let names = first_names schema params c.args.env.now.nodes.now in
    let tokens = value_of c.args.text.now c.args.value.now in
    let within = are_within c.args.text.now c.args.value.now c.requires.within in
    no_fault_is_least schema.dim schema.embeds params names c.top-top.ensures.greatest tokens within c.args.kind (tree_of c.in-Ok.expr) c.in-Ok.ensures.expr (c.has_kind.ensures.0 c.if-has_kind.true)

pub returns-else-has_kind-clause-fault : goal.returns-else-has_kind-clause-fault
returns-else-has_kind-clause-fault c =
    let schema = c.args.env.now.schema.now in
    let params = c.args.env.now.params.now in
    let names = first_names schema params c.args.env.now.nodes.now in
    let tokens = value_of c.args.text.now c.args.value.now in
    let within = are_within c.args.text.now c.args.value.now c.requires.within in
    let place : c.next_place-place.result ≡ first_place tokens =
    first_token c.args.text.now c.args.value.now c.requires.within c.next_place-place.result (λ mark others is. c.next_place-place.ensures mark others (ap marks_left c.at.ensures ∙ is)) in
    other_kind_is_least schema.dim schema.embeds params names c.top-top.ensures.greatest tokens within c.args.kind (tree_of c.in-Ok.expr) c.next_place-place.result c.in-Ok.ensures.expr
    (λ has. let no_way : true ≡ false = sym (c.has_kind.ensures.1 has) ∙ c.if-has_kind.false in cc) place

pub returns-in-Err-Unknown-clause-fault : goal.returns-in-Err-Unknown-clause-fault
returns-in-Err-Unknown-clause-fault c =
    let schema = c.args.env.now.schema.now in
    let params = c.args.env.now.params.now in
    let names = first_names schema params c.args.env.now.nodes.now in
    let tokens = value_of c.args.text.now c.args.value.now in
    let within = are_within c.args.text.now c.args.value.now c.requires.within in
    let has = subst (IsReadFault schema.dim names tokens) c.in-Err-Unknown.field-0-is c.in-Err-Unknown.ensures.fault in
    subst (λ place. IsLeast (IsValueFault schema.dim schema.embeds params names tokens c.args.kind) (Some (Unknown place))) (sym c.in-Err-Unknown.place-is)
    (first_is_least schema.dim schema.embeds params names c.top-top.ensures.greatest tokens within c.args.kind (UnknownAt c.in-Err-Unknown.place) (Unknown c.in-Err-Unknown.place) refl has)

pub returns-in-Err-Twice-clause-fault : goal.returns-in-Err-Twice-clause-fault
returns-in-Err-Twice-clause-fault c =
    let schema = c.args.env.now.schema.now in
    let params = c.args.env.now.params.now in
    let names = first_names schema params c.args.env.now.nodes.now in
    let tokens = value_of c.args.text.now c.args.value.now in
    let within = are_within c.args.text.now c.args.value.now c.requires.within in
    let has = subst (IsReadFault schema.dim names tokens) c.in-Err-Twice.field-0-is c.in-Err-Twice.ensures.fault in
    subst (λ place. IsLeast (IsValueFault schema.dim schema.embeds params names tokens c.args.kind) (Some (Twice place))) (sym c.in-Err-Twice.place-is)
    (first_is_least schema.dim schema.embeds params names c.top-top.ensures.greatest tokens within c.args.kind (TwiceAt c.in-Err-Twice.place) (Twice c.in-Err-Twice.place) refl has)

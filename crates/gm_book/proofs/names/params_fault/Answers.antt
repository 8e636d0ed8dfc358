use Rattle.std.proofs.Common.{◌≡◌, ◌+◌, ◌∷◌, List, Option, get_or, map, drop, refl, sym, ap, ◌∙◌}
use Rattle.std.proofs.lemmas.List.{drop_more}
use Rattle.gm_model.specs.declared.token.TokenKind.TheVariants.{Name}
use Rattle.gm_model.specs.declared.value.Kind.TheVariants.{Int}
use Rattle.gm_forms.specs.declared.form.ParamForm.{ParamForm}
use Rattle.gm_forms.specs.BookText.{with_name}
use Rattle.gm_forms.specs.inner.Forms.{IsParamIn, param_form_of, mention_of}
use Rattle.gm_forms.specs.inner.Held.{names_at, names_held}
use Rattle.gm_book.specs.declared.names.NameFault.{NameFault}
use Rattle.gm_book.specs.inner.FirstNameFault.{least_of, again_at, least_param}
use Rattle.gm_book.proofs.LeastOf.{least_regrouped, least_with_none}
use Rattle.gm_book.proofs.Onward.{each_on, none_on}
use Rattle.gm_model.proofs.Exits.{unless_ok}
use Rattle.gm_book.proofs.names.params_fault.Goals as goal

abbrev blank : ParamForm
blank = record { name = record { kind = Name; start = 0; end = 0 }; kind = Int }

pub loop-param-init : goal.loop-param-init
loop-param-init c = ap (λ keys. least_param (names_at keys) (map (param_form_of c.args.text.now) c.args.params.now)) c.clear.ensures.empty

pub take_in-requires : goal.take_in-requires
take_in-requires c = each_on (IsParamIn c.args.text.now) c.args.params.now c.loop-param.param-index _ blank c.requires c.loop-param-test.true refl

pub loop-param-preserved : goal.loop-param-preserved
loop-param-preserved c =
    let text = c.args.text.now in
    let params = c.args.params.now in
    let l = c.loop-param in
    let param = get_or params l.param-index blank in
    let names = names_held l.table in
    let mention = mention_of text param.name in
    let behind = map (param_form_of text) (drop (l.param-index + 1) params) in
    let left : drop l.param-index params ≡ param ∷ drop (l.param-index + 1) params = drop_more params l.param-index blank c.loop-param-test.true in
    let takes = c.in_ok-take_in.ensures in
    ap (λ (f : Option NameFault). least_of f (least_param (names_held c.take_in.new.table) behind)) (c.earlier-fault.ensures ∙ ap (least_of l.fault) takes.fault)
    ∙ ap (λ ns. least_of (least_of l.fault (again_at names mention)) (least_param ns behind)) takes.held
    ∙ least_regrouped l.fault (again_at names mention) (least_param (with_name names mention.name) behind)
    ∙ ap (λ (ps : List ParamForm). least_of l.fault (least_param names (map (param_form_of text) ps))) (sym left) ∙ l.invariant

pub returns : goal.returns
returns c =
    let l = c.loop-param in
    sym (least_with_none l.fault)
    ∙ none_on (param_form_of c.args.text.now) (λ forms. least_of l.fault (least_param (names_held l.table) forms)) c.args.params.now l.param-index _ c.loop-param-test.false l.invariant

pub returns-in_err-take_in : goal.returns-in_err-take_in
returns-in_err-take_in c = unless_ok _ c.from_residual.result c.from_residual.ensures.0

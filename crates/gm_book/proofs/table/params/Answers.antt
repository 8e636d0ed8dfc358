use Rattle.std.proofs.Common.{◌≡◌, get_or, map, refl, ap, ◌∙◌, rules}
use Rattle.std.proofs.lemmas.List.{take_all}
use Rattle.gm_model.specs.declared.rule.Param.{Param}
use Rattle.gm_model.specs.declared.token.TokenKind.TheVariants.{Name as Token}
use Rattle.gm_model.specs.declared.value.Kind.TheVariants.{Int}
use Rattle.gm_model.specs.Tokens.{bytes_of}
use Rattle.gm_forms.specs.declared.form.ParamForm.{ParamForm}
use Rattle.gm_forms.specs.BookText.{param_of}
use Rattle.gm_forms.specs.inner.Forms.{IsParamIn, param_form_of}
use Rattle.gm_book.proofs.Mapped.{pushed_more}
use Rattle.gm_book.proofs.Onward.{each_on}
use Rattle.gm_model.proofs.Exits.{unless_ok}
use Rattle.gm_book.proofs.table.params.Goals as goal

pub bytes_in-requires : goal.bytes_in-requires
bytes_in-requires c = each_on (IsParamIn c.args.text.now) c.args.forms.now c.loop-form.form-index _ _ c.requires c.loop-form-test.true refl

abbrev blank : ParamForm
blank = record { name = record { kind = Token; start = 0; end = 0 }; kind = Int }

pub loop-form-preserved : goal.loop-form-preserved
loop-form-preserved c =
    let form = get_or c.args.forms.now c.loop-form.form-index blank in
    let name : c.unwrap.result ≡ bytes_of c.args.text.now form.name = search rules in
    let made : Param = record { name = c.unwrap.result; kind = form.kind } in
    pushed_more (param_form_of c.args.text.now) param_of c.args.forms.now c.loop-form.form-index form blank c.loop-form-test.true refl c.loop-form.params.items c.push.new.self.items made
    c.loop-form.invariant (ap (λ bytes. record { name = bytes; kind = form.kind }) name) c.in_ok-push.ensures.items

pub returns : goal.returns
returns c = c.loop-form.invariant ∙ ap (λ forms. map param_of (map (param_form_of c.args.text.now) forms)) (take_all c.loop-form.form-index c.args.forms.now c.loop-form-test.false)

pub returns-in_err-push : goal.returns-in_err-push
returns-in_err-push c = unless_ok _ c.from_residual.result c.from_residual.ensures.0

use Rattle.std.proofs.Common.{◌≡◌, ◌<◌, ℕ, List, Option, Some, Result, length, get_or, map, sym, ap, subst, ◌∙◌, arith}
use Rattle.std.specs.List.{AllByRecursion, AllZip, position}
use Rattle.std.specs.Option.{unwrap_or}
use Rattle.std.specs.Prelude.{IfOk}
use Rattle.std.specs.Result.{result_err}
use Rattle.std.specs.Str.{bytes_eq}
use Rattle.std.proofs.lemmas.List.{take_all}
use Rattle.gm_model.specs.declared.expr.Expr.{Expr}
use Rattle.gm_model.specs.declared.rule.Node.{Node}
use Rattle.gm_model.specs.declared.rule.Param.{Param}
use Rattle.gm_model.specs.declared.schema.Schema.{Schema}
use Rattle.gm_model.specs.declared.value.Kind.{Kind}
use Rattle.gm_model.specs.Rules.{assignment_of}
use Rattle.gm_model.specs.Tokens.{bytes_of}
use Rattle.gm_model.specs.Trees.{tree_of}
use Rattle.gm_parse.specs.Meaning.{embed_number}
use Rattle.gm_tree.specs.inner.FirstNames.{first_names}
use Rattle.gm_forms.specs.declared.form.SetForm.{SetForm}
use Rattle.gm_forms.specs.BookText.{kind_of_embed}
use Rattle.gm_forms.specs.inner.Forms.{IsSetIn, set_form_of, mention_of}
use Rattle.gm_book.specs.declared.names.NameFault.{NameFault}
use Rattle.gm_book.specs.inner.Building.{IsKnownSet, IsSoundSet}
use Rattle.gm_book.specs.inner.FirstNameFault.{embed_names, IsLeast, IsValueFault}
use Rattle.gm_book.specs.inner.Values.{IsValueRead}
use Rattle.gm_book.proofs.Onward.{each_on}
use Rattle.gm_book.proofs.ReadSets.{each_read, embed_known, read_among, zip_more}
use Rattle.gm_model.proofs.Exits.{unless_ok}
use Rattle.gm_book.proofs.table.sets.Goals as goal

pub checked_value-requires-clause-expr : goal.checked_value-requires-clause-expr
checked_value-requires-clause-expr c =
    let env = c.args.env.now in
    (each_read (IsKnownSet env.schema.now.dim (first_names env.schema.now env.params.now env.nodes.now)) (set_form_of c.args.text.now) c.args.forms.now c.loop-form.form-index c.form-item.result c.form-item.result c.requires.known c.loop-form-test.true c.form-item.is).value

-- the number of an embedding that is known among the first ones is the one that was looked up
known : (schema : Schema) (params : List Param) (nodes : List Node) (bytes : List ℕ) (forms : List SetForm) (i : ℕ) (form : SetForm) (name : List ℕ) (number : Option ℕ)
    → AllByRecursion (IsKnownSet schema.dim (first_names schema params nodes)) (map (set_form_of bytes) forms) → i < length forms → form ≡ get_or forms i form
    → number ≡ position (bytes_eq name) (embed_names schema) → name ≡ bytes_of bytes form.embed
    → (embed_number (first_names schema params nodes) (mention_of bytes form.embed) ≡ Some (unwrap_or number 0)) × (unwrap_or number 0 < 256)
known schema params nodes bytes forms i form name number all inside is found same =
    let set = each_read (IsKnownSet schema.dim (first_names schema params nodes)) (set_form_of bytes) forms i form form all inside is in
    embed_known schema params nodes (mention_of bytes form.embed) number (found ∙ ap (λ (other : List ℕ). position (bytes_eq other) (embed_names schema)) same) set.embed

pub overflow_cast-unwrap_or : goal.overflow_cast-unwrap_or
overflow_cast-unwrap_or c =
    let env = c.args.env.now in
    let (_, low) = known env.schema.now env.params.now env.nodes.now c.args.text.now c.args.forms.now c.loop-form.form-index c.form-item.result c.bytes_in-name.result.now c.embed_number-number.result
    c.requires.known c.loop-form-test.true c.form-item.is c.embed_number-number.ensures c.bytes_in-name.ensures in
    omega (arith, low, c.unwrap_or.ensures)

pub loop-form-preserved : goal.loop-form-preserved
loop-form-preserved c =
    let env = c.args.env.now in
    let n = env.schema.now.dim in
    let names = first_names env.schema.now env.params.now env.nodes.now in
    let form = set_form_of c.args.text.now c.form-item.result in
    let value = subst (λ (r : Result Expr NameFault). IfOk r (λ expr. IsValueRead n names form.value (tree_of expr))) c.in-Ok.is c.in_ok-expr.ensures.expr in
    let kind = c.kind_needed-kind.ensures ∙ ap (kind_of_embed env.schema.now.embeds) c.bytes_in-name.ensures in
    let none = subst (λ (r : Result Expr NameFault). IsLeast (IsValueFault n env.schema.now.embeds env.params.now names form.value c.kind_needed-kind.result) (result_err r)) c.in-Ok.is c.in_ok-expr.ensures.fault in
    let (number, _) = known env.schema.now env.params.now env.nodes.now c.args.text.now c.args.forms.now c.loop-form.form-index c.form-item.result c.bytes_in-name.result.now c.embed_number-number.result
    c.requires.known c.loop-form-test.true c.form-item.is c.embed_number-number.ensures c.bytes_in-name.ensures in
    let sound : IsSoundSet n env.schema.now.embeds env.params.now names form (record { embed = c.unwrap_or.result; tree = tree_of c.in-Ok.expr }) = record {
      means = record { embed = number ∙ ap Some (sym c.unwrap_or.ensures); tree = record { form = value.form; value = value.value; means = value.means } };
      sound = subst (λ (k : Option Kind). (fault : NameFault) → IsValueFault n env.schema.now.embeds env.params.now names form.value k fault → ⊥) kind none;
    } in
    zip_more (IsSoundSet n env.schema.now.embeds env.params.now names) (set_form_of c.args.text.now) assignment_of
    c.args.forms.now c.loop-form.sets.items c.push.new.self.items c.loop-form.form-index c.form-item.result c.form-item.result _ c.loop-form-test.true c.form-item.is c.loop-form.invariant sound c.in_ok-push-in-Ok.ensures.items

pub returns-in-Err : goal.returns-in-Err
returns-in-Err c =
    let env = c.args.env.now in
    let n = env.schema.now.dim in
    let names = first_names env.schema.now env.params.now env.nodes.now in
    let form = set_form_of c.args.text.now c.form-item.result in
    let kind = c.kind_needed-kind.ensures ∙ ap (kind_of_embed env.schema.now.embeds) c.bytes_in-name.ensures in
    let least = subst (λ (r : Result Expr NameFault). IsLeast (IsValueFault n env.schema.now.embeds env.params.now names form.value c.kind_needed-kind.result) (result_err r)) c.in-Err.is c.in_ok-expr.ensures.fault in
    let fault = subst (λ (k : Option Kind). IsValueFault n env.schema.now.embeds env.params.now names form.value k c.in-Err.fault) kind least.0 in
    (form, read_among (set_form_of c.args.text.now) c.args.forms.now c.loop-form.form-index c.form-item.result c.form-item.result c.loop-form-test.true c.form-item.is, fault)

pub bytes_in-name-requires : goal.bytes_in-name-requires
bytes_in-name-requires c = (each_on (IsSetIn c.args.text.now) c.args.forms.now c.loop-form.form-index c.form-item.result c.form-item.result c.requires.within c.loop-form-test.true c.form-item.is).0

pub checked_value-requires-clause-within : goal.checked_value-requires-clause-within
checked_value-requires-clause-within c = (each_on (IsSetIn c.args.text.now) c.args.forms.now c.loop-form.form-index c.form-item.result c.form-item.result c.requires.within c.loop-form-test.true c.form-item.is).1

pub returns : goal.returns
returns c =
    let env = c.args.env.now in
    subst (λ (forms : List SetForm). AllZip (IsSoundSet env.schema.now.dim env.schema.now.embeds env.params.now (first_names env.schema.now env.params.now env.nodes.now)) (map (set_form_of c.args.text.now) forms) (map assignment_of c.loop-form.sets.items))
    (take_all c.loop-form.form-index c.args.forms.now c.loop-form-test.false) c.loop-form.invariant

pub returns-in_err-expr : goal.returns-in_err-expr
returns-in_err-expr c = unless_ok _ c.from_residual.result c.from_residual.ensures.0

pub returns-in_err-push-in-Ok : goal.returns-in_err-push-in-Ok
returns-in_err-push-in-Ok c = unless_ok _ c.from_residual-in_err-push-in-Ok.result c.from_residual-in_err-push-in-Ok.ensures.0

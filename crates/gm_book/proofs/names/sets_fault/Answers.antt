use Rattle.std.proofs.Common.{◌≡◌, ◌+◌, ◌∷◌, List, Option, map, drop, sym, ap, ◌∙◌}
use Rattle.gm_forms.specs.declared.form.SetForm.{SetForm}
use Rattle.gm_forms.specs.BookText.{with_name}
use Rattle.gm_forms.specs.inner.Forms.{IsSetIn, set_form_of, mention_of}
use Rattle.gm_forms.specs.inner.Held.{names_at, names_held}
use Rattle.gm_book.specs.declared.names.NameFault.{NameFault}
use Rattle.gm_book.specs.inner.FirstNameFault.{embed_names, least_of, again_at, unknown_at, least_set}
use Rattle.gm_book.proofs.LeastOf.{least_regrouped, least_with_none}
use Rattle.gm_book.proofs.Onward.{left_on, each_on, none_on}
use Rattle.gm_model.proofs.Exits.{unless_ok}
use Rattle.gm_book.proofs.names.sets_fault.Goals as goal

pub loop-set-init : goal.loop-set-init
loop-set-init c = ap (λ keys. least_set (embed_names c.args.schema.now) (names_at keys) (map (set_form_of c.args.text.now) c.args.sets.now)) c.clear.ensures.empty

pub take_in-requires : goal.take_in-requires
take_in-requires c = (each_on (IsSetIn c.args.text.now) c.args.sets.now c.loop-set.set-index c.set-item.result c.set-item.result c.requires c.loop-set-test.true c.set-item.is).0

pub unknown_embed-unknown-requires : goal.unknown_embed-unknown-requires
unknown_embed-unknown-requires c = (each_on (IsSetIn c.args.text.now) c.args.sets.now c.loop-set.set-index c.set-item.result c.set-item.result c.requires c.loop-set-test.true c.set-item.is).0

pub loop-set-preserved : goal.loop-set-preserved
loop-set-preserved c =
    let text = c.args.text.now in
    let set = c.set-item.result in
    let l = c.loop-set in
    let known = embed_names c.args.schema.now in
    let names = names_held l.table in
    let mention = mention_of text set.embed in
    let first = least_of (again_at names mention) (unknown_at known mention) in
    let behind = map (set_form_of text) (drop (l.set-index + 1) c.args.sets.now) in
    let left : drop l.set-index c.args.sets.now ≡ set ∷ drop (l.set-index + 1) c.args.sets.now = left_on c.args.sets.now l.set-index set c.loop-set-test.true c.set-item.is in
    let takes = c.in_ok-again.ensures in
    let both : c.earlier.result ≡ first = c.earlier.ensures ∙ ap (λ (f : Option NameFault). least_of f c.unknown_embed-unknown.result) takes.fault ∙ ap (least_of (again_at names mention)) c.unknown_embed-unknown.ensures in
    ap (λ (f : Option NameFault). least_of f (least_set known (names_held c.take_in.new.table) behind)) (c.earlier-fault.ensures ∙ ap (least_of l.fault) both)
    ∙ ap (λ ns. least_of (least_of l.fault first) (least_set known ns behind)) takes.held
    ∙ least_regrouped l.fault first (least_set known (with_name names mention.name) behind)
    ∙ ap (λ (ss : List SetForm). least_of l.fault (least_set known names (map (set_form_of text) ss))) (sym left) ∙ l.invariant

pub returns : goal.returns
returns c =
    let known = embed_names c.args.schema.now in
    let l = c.loop-set in
    sym (least_with_none l.fault)
    ∙ none_on (set_form_of c.args.text.now) (λ forms. least_of l.fault (least_set known (names_held l.table) forms)) c.args.sets.now l.set-index _ c.loop-set-test.false l.invariant

pub returns-in_err-again : goal.returns-in_err-again
returns-in_err-again c = unless_ok _ c.from_residual.result c.from_residual.ensures.0

use Rattle.std.proofs.Common.{◌≡◌, ℕ, true, List, ◌++◌, sym, ap, subst, ◌∙◌, arith}
use Rattle.std.specs.Prelude.{decimal}
use Rattle.std.proofs.lemmas.Result.{err_from_is_err_and}
use Rattle.gm_model.specs.Labels.{has}
use Rattle.gm_model.proofs.Exits.{never_ok}
use Rattle.gm_text.specs.inner.SchemaPrinting.{IsCut, gap_behind}
use Rattle.gm_text.specs.SchemaText.{labels_below, labels_text}
use Rattle.gm_text.proofs.SchemaPrinted.{cut_labels, gap_more, labels_all, labels_more, none_more}
use Rattle.gm_text.proofs.schema_printing.print_labels.Goals.{then-has+in_ok-put_number, else-has}
use Rattle.gm_text.proofs.schema_printing.print_labels.Goals as goal

pub returns-in_err-put_number-clause-err : goal.returns-in_err-put_number-clause-err
returns-in_err-put_number-clause-err c =
    let p = err_from_is_err_and c.from_residual.result c.from_residual.ensures.1 in
    let l = c.loop-label in
    rw p.1 (cut_labels c.args.mask l.label c.args.out.now l.out c.put_number.new.text l.gap.now c.loop-label-test.true (sym c.has.ensures ∙ c.if-has.true) l.invariant.so_far l.invariant.gap
    (subst (λ (n : ℕ). IsCut l.out (l.gap.now ++ decimal n) c.put_number.new.text) c.from.ensures c.in_err-put_number.ensures.err))

pub returns-clause-ok : goal.returns-clause-ok
returns-clause-ok c =
    let l = c.loop-label in
    let last : l.label ≡ 8 = omega (arith, c.loop-label-test.false, l.auto.label-end) in
    l.invariant.so_far ∙ ap (λ (k : ℕ). c.args.out.now ++ labels_text (labels_below c.args.mask k)) last ∙ ap (λ labels. c.args.out.now ++ labels_text labels) (labels_all c.args.mask)

pub returns-in_err-put_number-clause-ok : goal.returns-in_err-put_number-clause-ok
returns-in_err-put_number-clause-ok c = never_ok _ c.from_residual.result c.from_residual.ensures.0

pub loop-label-preserved : goal.loop-label-preserved
loop-label-preserved c =
    let l = c.loop-label in
    let mask = c.args.mask in
    let out = c.args.out.now in
    elim c.if-has.branch [
      | then-has+in_ok-put_number w ↦
          let here : has mask l.label ≡ true = sym c.has.ensures ∙ w.if-has.true in
          record {
            so_far = w.out-is ∙ labels_more mask l.label out l.out w.put_number.new.text l.gap.now here l.invariant.so_far l.invariant.gap (w.in_ok-put_number.ensures.ok ∙ ap (λ (n : ℕ). l.out ++ (l.gap.now ++ decimal n)) w.from.ensures);
            gap = rw w.gap-is (gap_more mask l.label here);
          }
      | else-has w ↦
          let same = none_more mask l.label (sym c.has.ensures ∙ w.if-has.false) in
          record {
            so_far = w.out-is ∙ l.invariant.so_far ∙ ap (λ (labels : List ℕ). out ++ labels_text labels) (sym same);
            gap = rw w.gap-is (l.invariant.gap ∙ ap gap_behind (sym same));
          }
    ]

use Rattle.std.proofs.Common.{◌≡◌, ℕ, List, ◌++◌, ap, subst, ◌∙◌, codes}
use Rattle.std.proofs.lemmas.Result.{on_err_weaker, on_ok_weaker}
use Rattle.gm_model.proofs.Exits.{never_ok, on_err}
use Rattle.gm_text.specs.SchemaText.{kind_word, labels_in, labels_text}
use Rattle.gm_text.specs.inner.SchemaPrinting.{IsCut}
use Rattle.gm_text.proofs.Cuts.{cut_before, cut_behind, written_behind}
use Rattle.gm_text.proofs.SchemaPrinted.{all_behind}
use Rattle.gm_text.proofs.schema_printing.print_embed.Goals as goal

pub returns-in_err-put_between-clause-ok : goal.returns-in_err-put_between-clause-ok
returns-in_err-put_between-clause-ok c = never_ok _ c.from_residual.result c.from_residual.ensures.0

pub returns-in_err-put_between-clause-err : goal.returns-in_err-put_between-clause-err
returns-in_err-put_between-clause-err c =
    let embed = c.args.embed.now in
    let first = codes "embed " ++ (embed.name ++ codes " <") in
    let rest = labels_text (labels_in embed.mask) ++ (codes "> " ++ (kind_word embed.kind ++ codes "\n")) in
    let cut = subst (λ (name : List ℕ). IsCut c.args.out.now (codes "embed " ++ (name ++ codes " <")) c.put_between.new.out) c.bytes.ensures.value c.in_err-put_between.ensures.err in
    on_err c.from_residual.result (subst (λ (text : List ℕ). IsCut c.args.out.now text c.put_between.new.out) (all_behind (codes "embed ") embed.name (codes " <") rest) (cut_before rest cut))

pub returns-in_err-print_labels-clause-ok : goal.returns-in_err-print_labels-clause-ok
returns-in_err-print_labels-clause-ok c = never_ok _ c.from_residual-in_err-print_labels.result c.from_residual-in_err-print_labels.ensures.0

pub returns-in_err-print_labels-clause-err : goal.returns-in_err-print_labels-clause-err
returns-in_err-print_labels-clause-err c =
    let o = c.args.out.now in
    let embed = c.args.embed.now in
    let first = codes "embed " ++ (embed.name ++ codes " <") in
    let labels = labels_text (labels_in embed.mask) in
    let end = codes "> " ++ (kind_word embed.kind ++ codes "\n") in
    let named : c.put_between.new.out ≡ o ++ first = c.in_ok-put_between.ensures.ok ∙ ap (λ (name : List ℕ). o ++ (codes "embed " ++ (name ++ codes " <"))) c.bytes.ensures.value in
    on_err c.from_residual-in_err-print_labels.result
    (subst (λ (text : List ℕ). IsCut o text c.print_labels.new.out) (all_behind (codes "embed ") embed.name (codes " <") (labels ++ end))
    (cut_behind o first named (cut_before end c.in_err-print_labels.ensures.err)))

pub returns-clause-ok : goal.returns-clause-ok
returns-clause-ok c =
    let o = c.args.out.now in
    let embed = c.args.embed.now in
    let first = codes "embed " ++ (embed.name ++ codes " <") in
    let labels = labels_text (labels_in embed.mask) in
    let end = codes "> " ++ (kind_word embed.kind ++ codes "\n") in
    let named : c.put_between.new.out ≡ o ++ first = c.in_ok-put_between.ensures.ok ∙ ap (λ (name : List ℕ). o ++ (codes "embed " ++ (name ++ codes " <"))) c.bytes.ensures.value in
    on_ok_weaker c.put_between-2.result
    (λ last. written_behind o first (labels ++ end) named
    (written_behind c.put_between.new.out labels end c.in_ok-print_labels.ensures.ok (last ∙ ap (λ (word : List ℕ). c.print_labels.new.out ++ (codes "> " ++ (word ++ codes "\n"))) c.kind_word.ensures))
    ∙ ap (λ (text : List ℕ). o ++ text) (all_behind (codes "embed ") embed.name (codes " <") (labels ++ end)))
    c.put_between-2.ensures.ok

pub returns-clause-err : goal.returns-clause-err
returns-clause-err c =
    let o = c.args.out.now in
    let embed = c.args.embed.now in
    let first = codes "embed " ++ (embed.name ++ codes " <") in
    let labels = labels_text (labels_in embed.mask) in
    let end = codes "> " ++ (kind_word embed.kind ++ codes "\n") in
    let named : c.put_between.new.out ≡ o ++ first = c.in_ok-put_between.ensures.ok ∙ ap (λ (name : List ℕ). o ++ (codes "embed " ++ (name ++ codes " <"))) c.bytes.ensures.value in
    on_err_weaker c.put_between-2.result
    (λ cut. subst (λ (text : List ℕ). IsCut o text c.put_between-2.new.out) (all_behind (codes "embed ") embed.name (codes " <") (labels ++ end))
    (cut_behind o first named
    (cut_behind c.put_between.new.out labels c.in_ok-print_labels.ensures.ok
    (subst (λ (word : List ℕ). IsCut c.print_labels.new.out (codes "> " ++ (word ++ codes "\n")) c.put_between-2.new.out) c.kind_word.ensures cut))))
    c.put_between-2.ensures.err

pub returns-clause-part : goal.returns-clause-part
returns-clause-part c = on_ok_weaker c.put_between-2.result (λ _. (c.bytes.ensures.name, c.print_labels.ensures.bits)) c.put_between-2.ensures.ok

use Rattle.std.proofs.Common.{◌≡◌, List, ℕ, ◌++◌, ap, subst, ◌∙◌, codes}
use Rattle.std.specs.Prelude.{decimal}
use Rattle.std.specs.List.{flat_map}
use Rattle.std.proofs.lemmas.Result.{on_err_weaker, on_ok_weaker}
use Rattle.gm_model.proofs.Exits.{never_ok, on_err}
use Rattle.gm_text.specs.SchemaText.{canonical, embed_line}
use Rattle.gm_text.specs.inner.SchemaPrinting.{IsCut}
use Rattle.gm_text.proofs.Cuts.{cut_at_once, cut_behind, written_behind}
use Rattle.gm_text.proofs.schema_printing.print_schema.Goals as goal

pub returns-in_err-put-clause-ok : goal.returns-in_err-put-clause-ok
returns-in_err-put-clause-ok c = never_ok _ c.from_residual.result c.from_residual.ensures.0

pub returns-in_err-put-clause-err : goal.returns-in_err-put-clause-err
returns-in_err-put-clause-err c = on_err c.from_residual.result (cut_at_once (canonical c.args.schema.now) c.in_err-put.ensures.err)

pub returns-in_err-number-clause-ok : goal.returns-in_err-number-clause-ok
returns-in_err-number-clause-ok c = never_ok _ c.from_residual-in_err-number.result c.from_residual-in_err-number.ensures.0

pub returns-in_err-number-clause-err : goal.returns-in_err-number-clause-err
returns-in_err-number-clause-err c =
    let rest = decimal c.args.schema.now.dim ++ (codes "\n" ++ flat_map embed_line c.args.schema.now.embeds) in
    on_err c.from_residual-in_err-number.result
    (cut_behind c.args.out.now (codes "dim ") c.in_ok-put.ensures.ok (cut_at_once rest c.in_err-number.ensures.err))

pub returns-in_err-put-2-clause-ok : goal.returns-in_err-put-2-clause-ok
returns-in_err-put-2-clause-ok c = never_ok _ c.from_residual-in_err-put-2.result c.from_residual-in_err-put-2.ensures.0

pub returns-in_err-put-2-clause-err : goal.returns-in_err-put-2-clause-err
returns-in_err-put-2-clause-err c =
    let digits = decimal c.args.schema.now.dim in
    let rest = codes "\n" ++ flat_map embed_line c.args.schema.now.embeds in
    let numbered : c.number.new.self ≡ c.put.new.self ++ digits = c.in_ok-number.ensures.ok ∙ ap (λ (n : ℕ). c.put.new.self ++ decimal n) (c.from.ensures ∙ c.top.ensures.value) in
    on_err c.from_residual-in_err-put-2.result
    (cut_behind c.args.out.now (codes "dim ") c.in_ok-put.ensures.ok
    (cut_behind c.put.new.self digits numbered (cut_at_once rest c.in_err-put-2.ensures.err)))

pub returns-clause-ok : goal.returns-clause-ok
returns-clause-ok c =
    let digits = decimal c.args.schema.now.dim in
    let lines = flat_map embed_line c.args.schema.now.embeds in
    let numbered : c.number.new.self ≡ c.put.new.self ++ digits = c.in_ok-number.ensures.ok ∙ ap (λ (n : ℕ). c.put.new.self ++ decimal n) (c.from.ensures ∙ c.top.ensures.value) in
    let listed : flat_map embed_line c.as_slice.result.now ≡ lines = ap (flat_map embed_line) c.as_slice.ensures in
    on_ok_weaker c.print_embeds.result
    (λ last. written_behind c.args.out.now (codes "dim ") (digits ++ (codes "\n" ++ lines)) c.in_ok-put.ensures.ok
    (written_behind c.put.new.self digits (codes "\n" ++ lines) numbered
    (written_behind c.number.new.self (codes "\n") lines c.in_ok-put-2.ensures.ok (last ∙ ap (λ (text : List ℕ). c.put-2.new.self ++ text) listed))))
    c.print_embeds.ensures.ok

pub returns-clause-err : goal.returns-clause-err
returns-clause-err c =
    let digits = decimal c.args.schema.now.dim in
    let lines = flat_map embed_line c.args.schema.now.embeds in
    let numbered : c.number.new.self ≡ c.put.new.self ++ digits = c.in_ok-number.ensures.ok ∙ ap (λ (n : ℕ). c.put.new.self ++ decimal n) (c.from.ensures ∙ c.top.ensures.value) in
    let listed : flat_map embed_line c.as_slice.result.now ≡ lines = ap (flat_map embed_line) c.as_slice.ensures in
    on_err_weaker c.print_embeds.result
    (λ cut. cut_behind c.args.out.now (codes "dim ") c.in_ok-put.ensures.ok
    (cut_behind c.put.new.self digits numbered
    (cut_behind c.number.new.self (codes "\n") c.in_ok-put-2.ensures.ok (subst (λ (text : List ℕ). IsCut c.put-2.new.self text c.print_embeds.new.out) listed cut))))
    c.print_embeds.ensures.err

pub returns-in_err-put-clause-parts : goal.returns-in_err-put-clause-parts
returns-in_err-put-clause-parts c = never_ok _ c.from_residual.result c.from_residual.ensures.0

pub returns-in_err-number-clause-parts : goal.returns-in_err-number-clause-parts
returns-in_err-number-clause-parts c = never_ok _ c.from_residual-in_err-number.result c.from_residual-in_err-number.ensures.0

pub returns-in_err-put-2-clause-parts : goal.returns-in_err-put-2-clause-parts
returns-in_err-put-2-clause-parts c = never_ok _ c.from_residual-in_err-put-2.result c.from_residual-in_err-put-2.ensures.0

pub returns-clause-parts : goal.returns-clause-parts
returns-clause-parts c = rw c.as_slice.ensures at c.print_embeds.ensures.parts

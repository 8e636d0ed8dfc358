use Rattle.std.proofs.Common.{◌≡◌, ◌++◌, List, ℕ, subst}
use Rattle.std.specs.Prelude.{OnOk}
use Rattle.std.proofs.lemmas.Result.{on_err_weaker, on_ok_weaker}
use Rattle.gm_model.specs.Reports.{embed_name}
use Rattle.gm_model.specs.declared.schema.Embed.{Embed}
use Rattle.gm_model.proofs.Exits.{never_ok, on_err}
use Rattle.gm_text.proofs.Cuts.{cut_at_once, cut_behind, written_behind}
use Rattle.gm_text.proofs.NamesRead.{name_read}
use Rattle.gm_text.proofs.after_words.put_embed.Goals as goal

pub returns-in_err-put-clause-ok : goal.returns-in_err-put-clause-ok
returns-in_err-put-clause-ok c = never_ok _ c.from_residual.result c.from_residual.ensures.0

pub returns-in_err-put-clause-err : goal.returns-in_err-put-clause-err
returns-in_err-put-clause-err c = on_err c.from_residual.result (cut_at_once (c.args.words.now ++ embed_name c.args.schema.now c.args.embed) c.in_err-put.ensures.err)

pub returns-clause-ok : goal.returns-clause-ok
returns-clause-ok c =
    let name = embed_name c.args.schema.now c.args.embed in
    let read = name_read (λ (embed : Embed). embed.name) c.args.schema.now.embeds c.as_slice.result.now c.args.embed c.index-as_slice-embed.result c.bytes.result.now c.as_slice.ensures c.requires c.bytes.ensures.value in
    on_ok_weaker c.put-2.result
    (λ last. written_behind c.args.text.now c.args.words.now name c.in_ok-put.ensures.ok last)
    (subst (λ (bytes : List ℕ). OnOk c.put-2.result (c.put-2.new.self ≡ c.put.new.self ++ bytes)) read c.put-2.ensures.ok)

pub returns-clause-err : goal.returns-clause-err
returns-clause-err c =
    on_err_weaker c.put-2.result
    (λ same. cut_behind c.args.text.now c.args.words.now c.in_ok-put.ensures.ok (cut_at_once (embed_name c.args.schema.now c.args.embed) same))
    c.put-2.ensures.err

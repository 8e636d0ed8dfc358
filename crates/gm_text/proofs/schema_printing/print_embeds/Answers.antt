use Rattle.std.proofs.Common.{sym}
use Rattle.std.proofs.lemmas.Result.{err_from_is_err_and}
use Rattle.gm_model.proofs.Exits.{never_ok}
use Rattle.gm_text.proofs.SchemaPrinted.{cut_embeds, embeds_all, embeds_more, parts_all, parts_more}
use Rattle.gm_text.proofs.schema_printing.print_embeds.Goals as goal

pub returns-in_err-print_embed-clause-ok : goal.returns-in_err-print_embed-clause-ok
returns-in_err-print_embed-clause-ok c = never_ok _ c.from_residual.result c.from_residual.ensures.0

pub returns-in_err-print_embed-clause-err : goal.returns-in_err-print_embed-clause-err
returns-in_err-print_embed-clause-err c =
    let p = err_from_is_err_and c.from_residual.result c.from_residual.ensures.1 in
    let l = c.loop-embed in
    rw p.1 (cut_embeds c.args.embeds.now l.embed-index c.embed-item.result c.args.out.now l.out c.print_embed.new.out c.loop-embed-test.true (sym c.embed-item.is) l.invariant.so_far c.in_err-print_embed.ensures.err)

pub returns-in_err-print_embed-clause-parts : goal.returns-in_err-print_embed-clause-parts
returns-in_err-print_embed-clause-parts c = never_ok _ c.from_residual.result c.from_residual.ensures.0

pub loop-embed-preserved : goal.loop-embed-preserved
loop-embed-preserved c =
    let l = c.loop-embed in
    record {
      so_far = embeds_more c.args.embeds.now l.embed-index c.embed-item.result c.args.out.now l.out c.print_embed.new.out c.loop-embed-test.true (sym c.embed-item.is) l.invariant.so_far c.in_ok-print_embed.ensures.ok;
      parts = parts_more c.args.embeds.now l.embed-index c.embed-item.result c.loop-embed-test.true (sym c.embed-item.is) l.invariant.parts c.in_ok-print_embed.ensures.part;
    }

pub returns-clause-ok : goal.returns-clause-ok
returns-clause-ok c = embeds_all c.args.embeds.now c.loop-embed.embed-index c.args.out.now c.loop-embed.out c.loop-embed-test.false c.loop-embed.invariant.so_far

pub returns-clause-parts : goal.returns-clause-parts
returns-clause-parts c = parts_all c.args.embeds.now c.loop-embed.embed-index c.loop-embed-test.false c.loop-embed.invariant.parts

use Rattle.std.proofs.Common.{◌≡◌, ◌++◌, codes}
use Rattle.std.proofs.lemmas.Result.{on_err_weaker, on_ok_weaker}
use Rattle.gm_model.specs.Rules.{rule_of}
use Rattle.gm_expr.specs.ExprText.{field_text, orbit_text}
use Rattle.gm_model.proofs.Exits.{on_err}
use Rattle.gm_text.proofs.Cuts.{cut_at_once, cut_before, cut_behind, written_behind}
use Rattle.gm_expr.proofs.terms.print_collector.Goals as goal

pub returns-in_err-put-clause-err : goal.returns-in_err-put-clause-err
returns-in_err-put-clause-err c =
    on_err _ (cut_before (codes ")") (cut_before (field_text c.args.schema.now.embeds (rule_of c.args.rule.now).nodes c.args.term.now c.args.embed) (cut_before (codes "(") (cut_before (orbit_text c.args.mask) (cut_at_once c.args.name.now c.in_err-put.ensures.err)))))

pub returns-in_err-print_orbit-clause-err : goal.returns-in_err-print_orbit-clause-err
returns-in_err-print_orbit-clause-err c =
    on_err _ (cut_before (codes ")") (cut_before (field_text c.args.schema.now.embeds (rule_of c.args.rule.now).nodes c.args.term.now c.args.embed) (cut_before (codes "(") (cut_behind c.args.out.now c.args.name.now c.in_ok-put.ensures.ok c.in_err-print_orbit.ensures.err))))

pub returns-in_err-put-2-clause-err : goal.returns-in_err-put-2-clause-err
returns-in_err-put-2-clause-err c =
    let so_far_2 = written_behind c.args.out.now c.args.name.now (orbit_text c.args.mask) c.in_ok-put.ensures.ok c.in_ok-print_orbit.ensures.ok in
    on_err _ (cut_before (codes ")") (cut_before (field_text c.args.schema.now.embeds (rule_of c.args.rule.now).nodes c.args.term.now c.args.embed) (cut_behind c.args.out.now (c.args.name.now ++ orbit_text c.args.mask) so_far_2 (cut_at_once (codes "(") c.in_err-put-2.ensures.err))))

pub returns-in_err-print_field-clause-err : goal.returns-in_err-print_field-clause-err
returns-in_err-print_field-clause-err c =
    let so_far_2 = written_behind c.args.out.now c.args.name.now (orbit_text c.args.mask) c.in_ok-put.ensures.ok c.in_ok-print_orbit.ensures.ok in
    let so_far_3 = written_behind c.args.out.now (c.args.name.now ++ orbit_text c.args.mask) (codes "(") so_far_2 c.in_ok-put-2.ensures.ok in
    on_err _ (cut_before (codes ")") (cut_behind c.args.out.now (c.args.name.now ++ orbit_text c.args.mask ++ codes "(") so_far_3 c.in_err-print_field.ensures.err))

pub returns-clause-ok : goal.returns-clause-ok
returns-clause-ok c =
    let so_far_2 = written_behind c.args.out.now c.args.name.now (orbit_text c.args.mask) c.in_ok-put.ensures.ok c.in_ok-print_orbit.ensures.ok in
    let so_far_3 = written_behind c.args.out.now (c.args.name.now ++ orbit_text c.args.mask) (codes "(") so_far_2 c.in_ok-put-2.ensures.ok in
    let so_far_4 = written_behind c.args.out.now (c.args.name.now ++ orbit_text c.args.mask ++ codes "(") (field_text c.args.schema.now.embeds (rule_of c.args.rule.now).nodes c.args.term.now c.args.embed) so_far_3 c.in_ok-print_field.ensures.ok in
    on_ok_weaker c.put-3.result
    (λ (more : c.put-3.new.self ≡ c.print_field.new.out ++ (codes ")")). written_behind c.args.out.now (c.args.name.now ++ orbit_text c.args.mask ++ codes "(" ++ field_text c.args.schema.now.embeds (rule_of c.args.rule.now).nodes c.args.term.now c.args.embed) (codes ")") so_far_4 more)
    c.put-3.ensures.ok

pub returns-clause-err : goal.returns-clause-err
returns-clause-err c =
    let so_far_2 = written_behind c.args.out.now c.args.name.now (orbit_text c.args.mask) c.in_ok-put.ensures.ok c.in_ok-print_orbit.ensures.ok in
    let so_far_3 = written_behind c.args.out.now (c.args.name.now ++ orbit_text c.args.mask) (codes "(") so_far_2 c.in_ok-put-2.ensures.ok in
    let so_far_4 = written_behind c.args.out.now (c.args.name.now ++ orbit_text c.args.mask ++ codes "(") (field_text c.args.schema.now.embeds (rule_of c.args.rule.now).nodes c.args.term.now c.args.embed) so_far_3 c.in_ok-print_field.ensures.ok in
    on_err_weaker c.put-3.result
    (λ (same : c.put-3.new.self ≡ c.print_field.new.out). cut_behind c.args.out.now (c.args.name.now ++ orbit_text c.args.mask ++ codes "(" ++ field_text c.args.schema.now.embeds (rule_of c.args.rule.now).nodes c.args.term.now c.args.embed) so_far_4 (cut_at_once (codes ")") same))
    c.put-3.ensures.err

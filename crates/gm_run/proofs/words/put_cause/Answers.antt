use Rattle.std.proofs.Common.{◌≡◌, ◌++◌, sym, subst, append_assoc, codes, map}
use Rattle.std.specs.Prelude.{decimal, OnOk}
use Rattle.gm_model.specs.Reports.{instance_words}
use Rattle.gm_model.specs.Rules.{node_of}
use Rattle.gm_run.specs.inner.Printing.{refusal_words}
use Rattle.gm_model.proofs.Exits.{never_ok}
use Rattle.gm_run.proofs.Told.{onward}
use Rattle.gm_run.proofs.words.put_cause.Goals as goal

pub returns-in_ok-put_instance-in-Arc : goal.returns-in_ok-put_instance-in-Arc
returns-in_ok-put_instance-in-Arc c =
    let put = c.put_number-in-Arc in
    let nodes = map node_of c.args.nodes.now in
    subst (λ r. OnOk put.result (put.new.text ≡ c.args.text.now ++ refusal_words c.args.schema.now nodes r)) (sym c.in-Arc.is)
    (onward put.result c.args.text.now (codes "no-match arc " ++ instance_words nodes c.in-Arc.node c.in-Arc.position) (codes " " ++ decimal c.in-Arc.label) _ c.put_instance.new.text put.new.text c.in_ok-put_instance-in-Arc.ensures (sym (append_assoc (codes "no-match arc " ++ instance_words nodes c.in-Arc.node c.in-Arc.position) (codes " ") (decimal c.in-Arc.label)))
    (subst (λ n. OnOk put.result (put.new.text ≡ c.put_instance.new.text ++ (codes " " ++ decimal n))) c.from-in-Arc.ensures put.ensures.ok))

pub returns-in_ok-put_instance-in-Same : goal.returns-in_ok-put_instance-in-Same
returns-in_ok-put_instance-in-Same c =
    let put = c.put_instance-in-Same-2 in
    let nodes = map node_of c.args.nodes.now in
    let first = codes "no-match same " ++ instance_words nodes c.in-Same.node c.in-Same.position in
    let second = instance_words nodes c.in-Same.node2 c.in-Same.position2 in
    subst (λ r. OnOk put.result (put.new.text ≡ c.args.text.now ++ refusal_words c.args.schema.now nodes r)) (sym c.in-Same.is)
    (onward put.result c.args.text.now first (codes " " ++ second) _ c.put_instance-in-Same.new.text put.new.text c.in_ok-put_instance-in-Same.ensures (sym (append_assoc first (codes " ") second)) put.ensures)

pub returns-in-PreNoValue : goal.returns-in-PreNoValue
returns-in-PreNoValue c =
    subst (λ r. OnOk c.put.result (c.put.new.self ≡ c.args.text.now ++ refusal_words c.args.schema.now (map node_of c.args.nodes.now) r)) (sym c.in-PreNoValue.is) c.put.ensures.ok

pub returns-in-FullDarts : goal.returns-in-FullDarts
returns-in-FullDarts c =
    let put = c.put_numbers in
    subst (λ r. OnOk put.result (put.new.text ≡ c.args.text.now ++ refusal_words c.args.schema.now (map node_of c.args.nodes.now) r)) (sym c.in-FullDarts.is)
    (subst (λ n. OnOk put.result (put.new.text ≡ c.args.text.now ++ (codes "full-darts live " ++ decimal n ++ codes " more " ++ decimal c.in-FullDarts.more))) c.from-in-FullDarts.ensures put.ensures)

pub returns-in-FullNames : goal.returns-in-FullNames
returns-in-FullNames c =
    let put = c.put_numbers-in-FullNames in
    subst (λ r. OnOk put.result (put.new.text ≡ c.args.text.now ++ refusal_words c.args.schema.now (map node_of c.args.nodes.now) r)) (sym c.in-FullNames.is)
    (subst (λ n. OnOk put.result (put.new.text ≡ c.args.text.now ++ (codes "full-names next " ++ decimal n ++ codes " more " ++ decimal c.in-FullNames.more))) c.from-in-FullNames.ensures put.ensures)

pub returns-in_err-put_instance-in-Arc : goal.returns-in_err-put_instance-in-Arc
returns-in_err-put_instance-in-Arc c = never_ok _ c.from_residual.result c.from_residual.ensures.0

pub returns-in_err-put_instance-in-Same : goal.returns-in_err-put_instance-in-Same
returns-in_err-put_instance-in-Same c = never_ok _ c.from_residual-in_err-put_instance-in-Same.result c.from_residual-in_err-put_instance-in-Same.ensures.0

pub returns-in_err-put_embed-in-NoValue : goal.returns-in_err-put_embed-in-NoValue
returns-in_err-put_embed-in-NoValue c = never_ok _ c.from_residual-in_err-put_embed-in-NoValue.result c.from_residual-in_err-put_embed-in-NoValue.ensures.0

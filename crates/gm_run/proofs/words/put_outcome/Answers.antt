use Rattle.std.proofs.Common.{◌≡◌, ◌++◌, sym, subst, map}
use Rattle.std.specs.Prelude.{OnOk}
use Rattle.gm_model.specs.Rules.{node_of}
use Rattle.gm_run.specs.inner.Printing.{told_words}
use Rattle.gm_run.proofs.words.put_outcome.Goals as goal

pub returns-in-Done : goal.returns-in-Done
returns-in-Done c =
    let put = c.put_done in
    let nodes = map node_of c.args.nodes.now in
    subst (λ o. OnOk put.result (put.new.text ≡ c.args.text.now ++ told_words c.args.schema.now nodes o)) (sym c.in-Done.is) put.ensures

use Rattle.std.proofs.Common.{◌<◌, length, sym, ◌∙◌, arith}
use Rattle.std.proofs.lemmas.Bool.{false≢true}
use Rattle.std.proofs.lemmas.List.{length-set}
use Rattle.gm_model.specs.declared.rule.Side.TheVariants.{Right}
use Rattle.gm_model.specs.Labels.{has}
use Rattle.gm_model.specs.Rules.{rule_of, step}
use Rattle.gm_plan.specs.inner.Sources.{HasExactLetters}
use Rattle.gm_plan.proofs.EmbedTables.{marked_more}
use Rattle.gm_plan.proofs.Rows.{row_at}
use Rattle.gm_plan.proofs.sources.exact_nodes.Goals as goal
use Rattle.gm_plan.proofs.sources.exact_nodes.Goals.{then-has_letters_among, else-has_letters_among}

pub loop-node-preserved : goal.loop-node-preserved
loop-node-preserved c =
    let rule = rule_of c.args.rule.now in
    let o = has c.args.labels in
    let x = c.loop-node.node in
    let nodes = c.loop-node.nodes in
    let few = c.requires.bounds.nodes in
    let end = c.node_count-node-end.ensures in
    let before = c.loop-node-test.true in
    let within : x < length rule.nodes = omega arith in
    let long : x < length nodes = omega (arith, within, few, c.loop-node.invariant.long) in
    record {
      long = length-set nodes x c.if-has_letters_among.nodes ∙ c.loop-node.invariant.long;
      done = marked_more (HasExactLetters c.args.top rule o) nodes x c.if-has_letters_among.nodes long c.loop-node.invariant.done (elim c.if-has_letters_among.branch [
        | then-has_letters_among w ↦ (λ t. record {
          right = c.has_letters_among.ensures.right w.if-has_letters_among.true;
          among = c.has_letters_among.ensures.among w.if-has_letters_among.true;
          each = λ i low wanted.
              let turn = w.turns_at.ensures (sym w.nodes-is ∙ t) i low wanted in
              let top = c.requires.top in
              (turn.0, sym (row_at (step rule Right) (length rule.nodes) c.args.right.now c.requires.right x i within (omega arith) _) ∙ turn.1);
        })
        | else-has_letters_among w ↦ (λ t. absurd (false≢true (sym w.if-has_letters_among.false ∙ sym w.nodes-is ∙ t)))
      ]);
    }

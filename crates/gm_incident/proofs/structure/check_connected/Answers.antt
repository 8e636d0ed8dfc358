use Rattle.std.proofs.Common.{below_more, sym, ◌∙◌, ap, refl}
use Rattle.std.specs.Option.{is_some}
use Rattle.std.proofs.lemmas.Bool.{false≢true}
use Rattle.gm_incident.proofs.structure.check_connected.Goals as goal
use Rattle.gm_incident.proofs.structure.check_connected.Goals.{else-is_some-via-then-is_some+else-not-joined-node, else-is_some-via-else-is_some}

pub loop-node-preserved : goal.loop-node-preserved
loop-node-preserved c = below_more _ c.loop-node.node c.loop-node.invariant (λ word. elim c.else-is_some.branch [
  | else-is_some-via-then-is_some+else-not-joined-node w ↦ rw (← c.as_slice.ensures, ← c.as_slice-2.ensures) ((c.joined_to-joined.ensures c.loop-node.node).0 w.if-not-joined-node.false)
  | else-is_some-via-else-is_some w ↦ absurd (false≢true (sym w.if-is_some.false ∙ c.is_some.ensures ∙ ap is_some c.word.ensures ∙ word))
])

pub returns-then-not-joined-node : goal.returns-then-not-joined-node
returns-then-not-joined-node c =
    let here = ap is_some (sym c.word.ensures) ∙ sym c.is_some.ensures ∙ c.if-is_some.true in record {
      bad = c.loop-node.node;
      first = record {
        within = rw (← c.node_count-node-end.ensures) c.loop-node-test.true;
        fails = λ good. false≢true (sym c.if-not-joined-node.true ∙ (c.joined_to-joined.ensures c.loop-node.node).1 (rw (c.as_slice.ensures, c.as_slice-2.ensures) (good here)));
        before = c.loop-node.invariant;
      };
      is = refl;
    }

use Rattle.gm_model.specs.declared.schema.Embed.{Embed}
use Rattle.gm_model.specs.Maps.{IsEmbedAt}
use Rattle.gm_commit.specs.inner.NewDartValues.{AreDecidedFrom}
use Rattle.gm_pending.specs.inner.ReachedDarts.{AreReached}
use Rattle.gm_pending.specs.inner.Results.{instances_of}
use Rattle.gm_commit.proofs.new_darts.put_given_values.Given as goal

abbrev pub invariant-loop-entry : goal.invariant-loop-entry
invariant-loop-entry l = record {
  reached : (embed : Embed) → IsEmbedAt l.pending.map.schema l.embed embed → AreReached l.pending l.embed embed (instances_of l.pending l.embed) l.entry-items;
  so_far : AreDecidedFrom l.pending l.embed l.entry-items l.entry-index l.fn.values l.values;
}

use Rattle.std.proofs.Common.{List, subst, sym, take, ◌∙◌}
use borrow.Author.Count.{falls}
use Rattle.std.proofs.lemmas.List.{take_more}
use Rattle.gm_commit.specs.declared.changes.ValueAt.{ValueAt}
use Rattle.gm_commit.specs.inner.TouchedSlots.{AreTaken}
use Rattle.gm_commit.proofs.on_edits.SlotsTaken.{same_bound, take_value}
use Rattle.gm_commit.proofs.ListMembers.{contains_at}
use Rattle.gm_commit.proofs.edits.take_values.Goals as goal

pub take_in-requires : goal.take_in-requires
take_in-requires c = rw c.loop-entry.invariant.bound (c.requires.within _ (contains_at c.args.values.now c.loop-entry.entry-index _ c.loop-entry-test.true))

pub loop-entry-preserved : goal.loop-entry-preserved
loop-entry-preserved c = record {
  taken = λ slots earlier. subst (λ (values : List ValueAt). AreTaken slots values c.take_in.new.self.walked) (sym (take_more c.args.values.now c.loop-entry.entry-index _ c.loop-entry-test.true))
      (take_value slots (take c.loop-entry.entry-index c.args.values.now) c.loop-entry.scratch c.take_in.new.self _ (c.loop-entry.invariant.taken slots earlier) c.take_in.ensures);
  bound = same_bound _ _ _ c.take_in.ensures ∙ c.loop-entry.invariant.bound;
}

pub loop-entry-smaller : goal.loop-entry-smaller
loop-entry-smaller c = falls _ _ c.loop-entry-test.true

pub bounds-values-entry-index : goal.bounds-values-entry-index
bounds-values-entry-index c = c.loop-entry-test.true

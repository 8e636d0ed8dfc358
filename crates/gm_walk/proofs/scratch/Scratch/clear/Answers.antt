use Rattle.std.proofs.Common.{[], length, ap, ◌∙◌}
use Rattle.gm_walk.specs.inner.Room.{Room}
use Rattle.gm_walk.proofs.MarkLemmas.{written_back}
use Rattle.gm_walk.proofs.scratch.Scratch.clear.Goals as goal

pub unmark-requires : goal.unmark-requires
unmark-requires c = record { marked = rw (c.deref.ensures.value, c.deref_mut.ensures.value) c.self.invariant.marked }

pub invariant_of-self : goal.invariant_of-self
invariant_of-self c =
    let long = c.unmark.ensures.long ∙ ap length c.deref_mut.ensures.value in
    let same = written_back c.self.inside.marks.len c.unmark.new.marks c.self.inside.marks.items (c.unmark.ensures.long ∙ c.deref_mut.ensures.len) in
    rw (c.clear.ensures.items, same, c.clear.ensures.capacity) (record {
      marked = c.unmark.ensures.none;
      room = rw long c.self.invariant.room;
      few = rw long c.self.invariant.few;
    })

pub returns : goal.returns
returns c =
    let long = c.unmark.ensures.long ∙ ap length c.deref_mut.ensures.value in
    let same = written_back c.self.inside.marks.len c.unmark.new.marks c.self.inside.marks.items (c.unmark.ensures.long ∙ c.deref_mut.ensures.len) in
    rw (same, c.clear.ensures.items, long) (ap (λ (r : Room). record r { walked = [] }) c.self.view_is)

use Rattle.std.proofs.Common.{◌+◌, ◌*◌, get_or, length, sym, ◌∙◌}
use Rattle.std.proofs.lemmas.List.Elements.{All-get_or, All-set}
use Rattle.std.specs.Prelude.{slice_index}
use Rattle.gm_arena.specs.declared.slot.Slot.{Slot}
use Rattle.gm_arena.specs.inner.ArenaMap.{IsLiveSlot}
use Rattle.gm_walk.specs.inner.Walks.{names_of}
use Rattle.gm_walk.proofs.NameLemmas.{name_there}
use Rattle.gm_match.proofs.Column.{place_within, column_next}
use Rattle.gm_match.proofs.columns.lay_walk.Goals as goal

pub loop-position-preserved : goal.loop-position-preserved
loop-position-preserved c =
    let m = c.args.arena.now in
    let nodes = c.args.nodes in
    let node = c.args.node in
    let walk = c.args.walk.now in
    let p = c.loop-position.position in
    let i = c.loop-position.invariant in
    let slots = c.loop-position.slots in
    let room = place_within (length walk) nodes p node (length slots) (c.requires.long ∙ sym i.so_far.long) c.loop-position-test.true c.requires.node in
    record {
      so_far = column_next m nodes node (slice_index (names_of m walk)) c.args.slots.now p slots (get_or walk p (record { at = 0 })) c.requires.node room (sym (name_there m walk p (record { at = 0 }) c.loop-position-test.true)) i.so_far;
      live = All-set (λ (s : Slot). IsLiveSlot m s.at) slots (p * nodes + node) _ (All-get_or (λ (s : Slot). IsLiveSlot m s.at) walk p (record { at = 0 }) c.loop-position-test.true c.requires.walk) i.live;
    }

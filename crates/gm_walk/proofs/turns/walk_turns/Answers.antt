use Rattle.std.proofs.Common.{◌≡◌, ◌<◌, ◌≤◌, List, length, sym, subst, ◌∙◌, le_antisymm, le_refl, le_trans, le-add_right, lt_of_lt_of_le}
use Rattle.std.proofs.lemmas.List.{length-map}
use Rattle.gm_arena.specs.declared.slot.Slot.{Slot}
use Rattle.gm_arena.specs.inner.ArenaMap.{name_at}
use Rattle.gm_model.specs.Orbits.{IsWalkTo}
use Rattle.gm_model.proofs.Exits.{never_ok, on_err}
use Rattle.gm_walk.specs.inner.Cells.{AreCells}
use Rattle.gm_walk.specs.inner.Room.{Room}
use Rattle.gm_walk.specs.inner.Turns.{IsTurn}
use Rattle.gm_walk.specs.inner.Walks.{along, names_of}
use Rattle.gm_walk.proofs.CellLemmas.{no_cells}
use Rattle.gm_walk.proofs.NameLemmas.{has_begun, live_below, next_fits, next_steps, next_within, none_past, place_falls}
use Rattle.gm_walk.proofs.TurnLemmas.{part_within, turn_steps, all_steps}
use Rattle.gm_walk.proofs.turns.walk_turns.Goals as goal

pub prove-unreachable-requires : goal.prove-unreachable-requires
prove-unreachable-requires g c = none_past c.args.arena.now c.args.from.at c.bound.result c.bound.ensures.lawful c.requires.live c.bound.ensures.bound c.if-prove.true

pub take_in-requires : goal.take_in-requires
take_in-requires g c =
    let below = live_below c.args.arena.now c.args.from.at c.bound.ensures.lawful c.requires.live in
    subst (λ (room : Room). c.args.from.at < room.bound) (sym c.clear.ensures) (lt_of_lt_of_le below c.requires.fits)

pub loop-at-init : goal.loop-at-init
loop-at-init g c =
    let m = c.args.arena.now in
    let word = c.args.word.now in
    let begun = has_begun m c.args.scratch.now c.clear.new.self c.args.from c.take_in.new.self c.clear.ensures c.take_in.ensures c.requires.live in
    record {
      within = begun.within;
      live = begun.live;
      walk = begun.walk word;
      cells = rw c.requires.empty (no_cells _ (length word));
      bound = begun.bound;
      cost = le-add_right _ _;
      least = le_refl _;
    }

pub take_in_turns-requires : goal.take_in_turns-requires
take_in_turns-requires g c =
    let i = c.loop-at.invariant in
    record {
      lawful = c.bound.ensures.lawful;
      within = subst (λ (slots : List Slot). c.loop-at.at < length slots) c.walked.ensures.value c.loop-at-test.true;
      live = i.live;
      word = c.requires.word;
      fits = subst (λ bound. c.args.arena.now.bound ≤ bound) (sym i.bound) c.requires.fits;
    }

pub overflow_add-at : goal.overflow_add-at
overflow_add-at g c = next_fits c.loop-at.at (length c.loop-at.scratch.walked) (subst (λ (slots : List Slot). c.loop-at.at < length slots) c.walked.ensures.value c.loop-at-test.true) c.walked.ensures.most

pub loop-at-smaller : goal.loop-at-smaller
loop-at-smaller g c = place_falls c.loop-at.at (length c.loop-at.scratch.walked) c.loop-at.scratch.bound c.take_in_turns.new.scratch.bound
    (subst (λ (slots : List Slot). c.loop-at.at < length slots) c.walked.ensures.value c.loop-at-test.true) c.walked.ensures.few c.take_in_turns.ensures.bound

pub loop-at-preserved : goal.loop-at-preserved
loop-at-preserved g c =
    let i = c.loop-at.invariant in
    let e = c.take_in_turns.ensures in
    let ok = c.in_ok-take_in_turns.ensures in
    record {
      within = next_within c.loop-at.at (length c.loop-at.scratch.walked) _ (subst (λ (slots : List Slot). c.loop-at.at < length slots) c.walked.ensures.value c.loop-at-test.true) e.longer;
      live = e.live;
      walk = ok.walk _ i.walk;
      cells = ok.turns i.cells;
      bound = e.bound ∙ i.bound;
      cost = next_steps c.args.steps.now c.loop-at.steps _ c.loop-at.at (length c.args.word.now) i.cost e.cost;
      least = le_trans i.least e.least;
    }

pub returns-in_err-take_in_turns : goal.returns-in_err-take_in_turns
returns-in_err-take_in_turns g c =
    let m = c.args.arena.now in
    let word = c.args.word.now in
    let i = c.loop-at.invariant in
    let e = c.take_in_turns.ensures in
    record {
      walk = never_ok _ c.from_residual.result c.from_residual.ensures.0;
      live = e.live;
      turns = never_ok _ c.from_residual.result c.from_residual.ensures.0;
      err = on_err c.from_residual.result (c.in_err-take_in_turns.ensures.err (name_at m c.args.from.at) i.walk i.cells);
      cost = λ walk whole.
          let few = part_within (along m word) (length word) (name_at m c.args.from.at) walk whole c.loop-at.at 0 (names_of m c.loop-at.scratch.walked) i.walk in
          let here : c.loop-at.at < length c.loop-at.scratch.walked = subst (λ (slots : List Slot). c.loop-at.at < length slots) c.walked.ensures.value c.loop-at-test.true in
          let less : c.loop-at.at < length walk = lt_of_lt_of_le here (subst (λ n. n ≤ length walk) (length-map c.loop-at.scratch.walked (λ (s : Slot). name_at m s.at)) few) in
          turn_steps c.args.steps.now c.loop-at.steps _ c.loop-at.at (length word) (length walk) less i.cost e.cost;
      least = le_trans i.least e.least;
      room = e.bound ∙ i.bound;
    }

pub returns : goal.returns
returns g c =
    let m = c.args.arena.now in
    let word = c.args.word.now in
    let i = c.loop-at.invariant in
    let slots = c.loop-at.scratch.walked in
    let long = length-map slots (λ (s : Slot). name_at m s.at) in
    let end : c.loop-at.at ≡ length slots = le_antisymm i.within (subst (λ (slots : List Slot). length slots ≤ c.loop-at.at) c.walked.ensures.value c.loop-at-test.false) in
    record {
      walk = subst (λ q. IsWalkTo (along m word) (length word) (name_at m c.args.from.at) q 0 (names_of m slots)) (end ∙ sym long) i.walk;
      live = i.live;
      turns = subst (λ rows. AreCells (IsTurn m word (names_of m slots)) rows (length word) c.loop-at.turns.items) end i.cells;
      err = tt;
      cost = λ walk whole.
          let few = part_within (along m word) (length word) (name_at m c.args.from.at) walk whole c.loop-at.at 0 (names_of m slots) i.walk in
          all_steps c.args.steps.now c.loop-at.steps c.loop-at.at (length word) (length walk) (rw (end, ← long) few) i.cost;
      least = i.least;
      room = i.bound;
    }

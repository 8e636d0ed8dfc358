use Rattle.std.proofs.Common.{◌≡◌, ◌+◌, ◌*◌, ◌<◌, ◌≤◌, List, length, refl, sym, subst, ◌∙◌, le_antisymm, le_refl, le_trans, le-add_right, rules}
use Rattle.std.proofs.lemmas.List.{length-map}
use Rattle.gm_arena.specs.declared.slot.Slot.{Slot}
use Rattle.gm_arena.specs.inner.ArenaMap.{name_at}
use Rattle.gm_model.specs.Orbits.{IsWalkTo}
use Rattle.gm_walk.specs.inner.Walks.{along, names_of}
use Rattle.gm_walk.proofs.NameLemmas.{has_begun, next_fits, next_steps_each, next_within, none_past, place_falls}
use Rattle.gm_walk.proofs.walk.walk_word.Goals as goal

pub loop-at-preserved : goal.loop-at-preserved
loop-at-preserved g c =
    let i = c.loop-at.invariant in
    let e = c.take_in_neighbours.ensures in
    record {
      within = next_within c.loop-at.at (length c.loop-at.scratch.walked) _ (subst (λ (slots : List Slot). c.loop-at.at < length slots) c.walked.ensures.value c.loop-at-test.true) e.longer;
      live = e.live;
      walk = e.walk _ i.walk;
      bound = e.bound ∙ i.bound;
      cost = next_steps_each (4 * (c.args.arena.now.schema.dim + 1)) c.args.steps.now c.loop-at.steps _ c.loop-at.at i.cost e.cost;
      least = le_trans i.least e.least;
    }

pub prove-unreachable-requires : goal.prove-unreachable-requires
prove-unreachable-requires g c = none_past c.args.arena.now c.args.from.at c.bound.result c.bound.ensures.lawful c.requires.live c.bound.ensures.bound c.if-prove.true

pub loop-at-init : goal.loop-at-init
loop-at-init g c =
    let begun = has_begun c.args.arena.now c.args.scratch.now _ c.args.from c.take_in.new.self (search rules) c.take_in.ensures c.requires.live in
    record {
      within = begun.within;
      live = begun.live;
      walk = begun.walk c.args.word.now;
      bound = begun.bound;
      cost = le-add_right _ _;
      least = le_refl _;
    }

pub take_in_neighbours-requires : goal.take_in_neighbours-requires
take_in_neighbours-requires g c =
    let i = c.loop-at.invariant in
    record {
      lawful = c.bound.ensures.lawful;
      within = subst (λ (slots : List Slot). c.loop-at.at < length slots) c.walked.ensures.value c.loop-at-test.true;
      live = i.live;
      word = c.requires.word;
      fits = subst (λ bound. c.args.arena.now.bound ≤ bound) (sym i.bound) c.requires.fits;
    }

pub overflow_add-at : goal.overflow_add-at
overflow_add-at g c = next_fits c.loop-at.at (length c.loop-at.scratch.walked) (subst (λ (slots : List Slot). c.loop-at.at < length slots) c.walked.ensures.value c.loop-at-test.true) c.walked.ensures.most

pub loop-at-smaller : goal.loop-at-smaller
loop-at-smaller g c = place_falls c.loop-at.at (length c.loop-at.scratch.walked) c.loop-at.scratch.bound c.take_in_neighbours.new.scratch.bound
    (subst (λ (slots : List Slot). c.loop-at.at < length slots) c.walked.ensures.value c.loop-at-test.true) c.walked.ensures.few c.take_in_neighbours.ensures.bound

pub returns : goal.returns
returns g c =
    let m = c.args.arena.now in
    let word = c.args.word.now in
    let i = c.loop-at.invariant in
    let slots = c.loop-at.scratch.walked in
    let end : c.loop-at.at ≡ length slots = le_antisymm i.within (subst (λ (slots : List Slot). length slots ≤ c.loop-at.at) c.walked.ensures.value c.loop-at-test.false) in
    record {
      walk = subst (λ q. IsWalkTo (along m word) (length word) (name_at m c.args.from.at) q 0 (names_of m slots)) (end ∙ sym (length-map slots (λ (s : Slot). name_at m s.at))) i.walk;
      live = i.live;
      cost = subst (λ n. c.loop-at.steps ≤ c.args.steps.now + 4 * (m.schema.dim + 1) * n) end i.cost;
      least = i.least;
      room = i.bound;
      lender = refl;
    }

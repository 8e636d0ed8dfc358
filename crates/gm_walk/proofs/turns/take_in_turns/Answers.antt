use Rattle.std.proofs.Common.{◌≡◌, ℕ, ◌+◌, ◌*◌, ◌<◌, ◌≤◌, [], ◌∷◌, ◌++◌, length, length-append, get_or, refl, sym, ap, subst, Some, ◌∙◌, add-zero, add_assoc, le_antisymm, le_of_eq, le_of_lt, le_refl, le_trans, le-add_right, lt_of_lt_of_le, arith}
use Rattle.std.proofs.lemmas.List.{append-nil, append_assoc, get_or_default, length_push}
use Rattle.gm_model.specs.declared.word.Letter.TheVariants.{At, Gone}
use Rattle.gm_model.specs.Orbits.{IsWalkTo}
use Rattle.gm_walk.specs.inner.Cells.{IsRow}
use Rattle.gm_walk.specs.inner.Turns.{IsTurn}
use Rattle.gm_walk.specs.inner.Walks.{along, names_of}
use Rattle.gm_arena.specs.inner.ArenaMap.{IsLiveSlot}
use Rattle.gm_arena.specs.declared.slot.Slot.{Slot}
use Rattle.gm_model.proofs.Exits.{never_ok, on_err}
use Rattle.gm_walk.proofs.CellLemmas.{one_entry, one_row, part_row}
use Rattle.gm_walk.proofs.MetLemmas.{none_yet}
use Rattle.gm_walk.proofs.NameLemmas.{live_at, at_place, live_after, longer_after, same_after, bound_after, walk_after}
use Rattle.gm_walk.proofs.TurnLemmas.{cells_stay, row_stays, turned}
use Rattle.gm_walk.proofs.WalkLemmas.{next_dart}
use Rattle.gm_walk.proofs.WordLemmas.{is_letter}
use Rattle.gm_walk.proofs.turns.take_in_turns.Goals as goal

turns_so_far : (turns old row cells place : ℕ) → turns ≡ old + row → cells ≡ old → row ≡ place → turns ≡ cells + place
turns_so_far turns old row cells place all long filled = omega arith

within_word : (start after place width : ℕ) → after ≡ start + place + 1 → place < width → after ≤ start + width
within_word start after place width e low = omega arith

no_fewer : (start after place : ℕ) → after ≡ start + place + 1 → start ≤ after
no_fewer start after place e = omega arith

pub loop-place-init : goal.loop-place-init
loop-place-init g c = record {
  live = c.requires.live;
  within = c.requires.within;
  longer = le_refl _;
  here = λ d. get_or_default c.args.scratch.now.walked c.args.at d (record { at = 0 }) c.requires.within ∙ ap (λ xs. get_or xs c.args.at (record { at = 0 })) (sym c.walked.ensures.value);
  walk = λ d w. w;
  row = [];
  items = sym (append-nil c.args.turns.now.items);
  long = refl;
  filled = λ x h. absurd (none_yet x h);
  before = λ cells. cells;
  bound = refl;
  cost = sym (add-zero c.args.steps.now);
}

pub unreachable-requires : goal.unreachable-requires
unreachable-requires g c = is_letter c.args.arena.now.schema.dim c.args.word.now c.requires.word c.loop-place.place Gone (c.letter.ensures ∙ ap Some c.in_default.is)

pub alpha-requires-clause-label : goal.alpha-requires-clause-label
alpha-requires-clause-label g c = is_letter c.args.arena.now.schema.dim c.args.word.now c.requires.word c.loop-place.place (At c.in-At.label) (c.letter.ensures ∙ ap Some c.in-At.is)

pub loop-place-preserved : goal.loop-place-preserved
loop-place-preserved g c =
    let i = c.loop-place.invariant in
    let m = c.args.arena.now in
    let word = c.args.word.now in
    let q = c.take.result in
    let takes = c.take.ensures.taken in
    let longer = longer_after m c.loop-place.scratch c.alpha.result c.take.new.self takes in
    let pushed = length_push i.row q in
    let at = at_place m word c.loop-place.place c.in-At.label _ _ (c.letter.ensures ∙ ap Some c.in-At.is) c.alpha.ensures.neighbour in
    let turn = turned m word c.loop-place.scratch c.alpha.result c.take.new.self takes c.args.at c.loop-place.place q _ i.within (i.here _) at c.take.ensures.place in
    record {
      live = live_after m c.loop-place.scratch c.alpha.result c.take.new.self takes i.live (live_at m _ _ c.alpha.ensures.neighbour);
      within = lt_of_lt_of_le i.within longer;
      longer = le_trans i.longer longer;
      here = λ d. same_after m c.loop-place.scratch c.alpha.result c.take.new.self takes _ d i.within ∙ i.here d;
      walk = λ d w. walk_after m c.loop-place.scratch c.alpha.result c.take.new.self takes c.requires.lawful word d c.args.at c.loop-place.place _ i.live i.within (i.here _)
          (subst (λ end. c.loop-place.place < end) c.len-place-end.ensures.value c.loop-place-test.true) at (i.walk d w);
      row = i.row ++ q ∷ [];
      items = rw (c.in_ok-push.ensures.items, i.items) (append_assoc c.args.turns.now.items i.row (q ∷ []));
      long = pushed ∙ ap (λ n. n + 1) i.long;
      filled = subst (λ n. IsRow (IsTurn m word (names_of m c.take.new.self.walked) c.args.at) n (i.row ++ q ∷ [])) (sym pushed)
          (one_entry _ i.row q (row_stays m word c.loop-place.scratch c.alpha.result c.take.new.self takes c.args.at (length i.row) i.row i.within i.filled)
          (subst (λ l. IsTurn m word (names_of m c.take.new.self.walked) c.args.at l q) (sym i.long) turn));
      before = λ cells. cells_stay m word c.loop-place.scratch c.alpha.result c.take.new.self takes c.args.at (length word) c.args.turns.now.items (le_of_lt i.within) (i.before cells);
      bound = bound_after m c.loop-place.scratch c.alpha.result c.take.new.self takes ∙ i.bound;
      cost = c.alpha.ensures.cost ∙ (ap (λ n. n + 1) i.cost ∙ add_assoc c.args.steps.now c.loop-place.place 1);
    }

pub alpha-requires-clause-live : goal.alpha-requires-clause-live
alpha-requires-clause-live g c =
    let i = c.loop-place.invariant in
    subst (λ (s : Slot). IsLiveSlot c.args.arena.now s.at) (i.here (record { at = 0 })) (i.live c.args.at (record { at = 0 }) i.within)

pub take-requires : goal.take-requires
take-requires g c = lt_of_lt_of_le (c.requires.lawful.below_bound c.alpha.result.at _ c.alpha.ensures.neighbour) (subst (λ bound. c.args.arena.now.bound ≤ bound) (sym c.loop-place.invariant.bound) c.requires.fits)

pub returns-in_err-push : goal.returns-in_err-push
returns-in_err-push g c =
    let i = c.loop-place.invariant in
    let m = c.args.arena.now in
    let word = c.args.word.now in
    let old = c.loop-place.scratch in
    let new = c.take.new.self in
    let takes = c.take.ensures.taken in
    let step = c.alpha.ensures.cost ∙ ap (λ n. n + 1) i.cost in
    let low : c.loop-place.place < length word = subst (λ end. c.loop-place.place < end) c.len-place-end.ensures.value c.loop-place-test.true in
    record {
      walk = never_ok _ c.from_residual.result c.from_residual.ensures.0;
      turns = never_ok _ c.from_residual.result c.from_residual.ensures.0;
      err = on_err c.from_residual.result (λ d walk cells.
          let at = at_place m word c.loop-place.place c.in-At.label _ _ (c.letter.ensures ∙ ap Some c.in-At.is) c.alpha.ensures.neighbour in
          let before = i.before cells in
          let rows = cells_stay m word old c.alpha.result new takes c.args.at (length word) c.args.turns.now.items (le_of_lt i.within) before in
          let part = part_row _ (length word) c.args.at c.args.turns.now.items i.row rows (row_stays m word old c.alpha.result new takes c.args.at (length i.row) i.row i.within i.filled) (subst (λ n. n < length word) (sym i.long) low) in
          record {
            p = c.args.at;
            l = c.loop-place.place;
            walk_to = walk_after m old c.alpha.result new takes c.requires.lawful word d c.args.at c.loop-place.place _ i.live i.within (i.here _) low at (i.walk d walk);
            turns_to = turns_so_far (length c.push.new.self.items) (length c.args.turns.now.items) (length i.row) (c.args.at * length word) c.loop-place.place (ap length c.in_err-push.ensures.items ∙ (ap length i.items ∙ length-append c.args.turns.now.items i.row)) before.long i.long;
            turns_are = rw (c.in_err-push.ensures.items, i.items) part;
          });
      longer = le_trans i.longer (longer_after m old c.alpha.result new takes);
      live = live_after m old c.alpha.result new takes i.live (live_at m c.alpha.result.at _ c.alpha.ensures.neighbour);
      bound = bound_after m old c.alpha.result new takes ∙ i.bound;
      cost = within_word c.args.steps.now _ c.loop-place.place (length word) step low;
      least = no_fewer c.args.steps.now _ c.loop-place.place step;
    }

pub returns : goal.returns
returns g c =
    let i = c.loop-place.invariant in
    let m = c.args.arena.now in
    let word = c.args.word.now in
    let end : c.loop-place.place ≡ length word = le_antisymm c.loop-place.auto.place-end c.loop-place-test.false ∙ c.len-place-end.ensures.value in
    record {
      walk = λ d w. next_dart (along m word) (length word) d c.args.at _ (subst (λ l. IsWalkTo (along m word) (length word) d c.args.at l (names_of m c.loop-place.scratch.walked)) end (i.walk d w));
      turns = λ cells.
          let whole : length i.row ≡ length word = i.long ∙ end in
          rw i.items (one_row _ (length word) c.args.at c.args.turns.now.items i.row (i.before cells) whole (subst (λ n. IsRow (IsTurn m word (names_of m c.loop-place.scratch.walked) c.args.at) n i.row) whole i.filled));
      err = tt;
      longer = i.longer;
      live = i.live;
      bound = i.bound;
      cost = le_of_eq (i.cost ∙ ap (λ n. c.args.steps.now + n) end);
      least = subst (λ n. c.args.steps.now ≤ n) (sym i.cost) (le-add_right _ _);
    }

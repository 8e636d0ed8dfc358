use Rattle.std.proofs.Common.{◌≡◌, ◌≢◌, ◌-◌, ◌<◌, ◌≤◌, ◌∷◌, [], Some, length, get_or, map, refl, sym, ap, subst, ◌∙◌, arith}
use Rattle.std.specs.FinMap.{get}
use Rattle.std.proofs.lemmas.List.{get_or_read, get_or_append_left, get_or-set_other, length-set, length_push}
use Rattle.gm_arena.specs.inner.ArenaMap.{IsAt, IsLiveSlot, alpha, name_at}
use Rattle.gm_arena.specs.declared.slot.Slot.{Slot}
use Rattle.gm_model.proofs.Exits.{unless_ok}
use Rattle.gm_arena.proofs.MapLemmas.{IsAt-name_at, name_at-is}
use Rattle.gm_cells.specs.inner.Painted.{colour_in, no_place, queued_at}
use Rattle.gm_cells.proofs.PaintLemmas.{slot_room, row_long, row_there, neighbour_new, neighbour_clash, neighbour_fits, dart_done}
use Rattle.gm_cells.proofs.painting.paint_neighbours.Goals as goal
use Rattle.gm_cells.proofs.painting.paint_neighbours.Goals.{then-there-eq-NONE+in_ok-push, else-there-eq-NONE+then-there-own+then-to-slot, else-there-eq-NONE+else-there-own, else-there-own-via-then-there-own+else-to-slot, else-there-own-via-else-there-own}

pub loop-to-preserved : goal.loop-to-preserved
loop-to-preserved g c =
    let i = c.loop-to.invariant in
    let m = c.args.arena.now in
    let at = c.args.at in
    let label = c.loop-to.to-index in
    let fits = c.loop-to.fits in
    let colours = c.loop-to.colours in
    let queue = c.loop-to.queue.items in
    let lawful = c.requires.lawful in
    let gmap = c.requires.generalised in
    let slot = c.index-slot.result.now in
    let alphas = c.row.result.alphas.now in
    let to = get_or alphas label no_place in
    let first = get_or_read c.args.queue.now.items at slot c.requires.within c.index-slot.ensures no_place in
    let alive : IsLiveSlot m slot.at = rw c.row.ensures.name refl in
    let dart = subst (λ d. get m.darts d ≡ Some (record { alphas = map (λ (s : Slot). name_at m s.at) alphas; values = c.row.result.values.now })) (sym (name_at-is m slot.at c.row.result.name c.row.ensures.name)) c.row.ensures.dart in
    let low : label ≤ m.schema.dim = omega (arith, row_long m slot alphas c.row.result.values.now lawful alive dart, c.loop-to-test.true) in
    let next : IsAt m to.at (alpha m label (name_at m slot.at)) = row_there m slot alphas c.row.result.values.now lawful alive dart c.row.ensures.live label c.loop-to-test.true in
    let there : IsAt m to.at (alpha m label (name_at m (queued_at queue at))) = subst (λ (s : Slot). IsAt m to.at (alpha m label (name_at m s.at))) (sym i.here) next in
    let own : colour_in colours (queued_at queue at) ≡ colour_in c.args.colours.now slot.at = ap (λ (s : Slot). colour_in colours s.at) i.here ∙ i.own in
    let old_own : colour_in c.args.colours.now (queued_at c.args.queue.now.items at) ≡ colour_in c.args.colours.now slot.at = ap (λ (s : Slot). colour_in c.args.colours.now s.at) (sym first) in
    let room : to.at < length colours = omega (arith, i.long, c.requires.long, lawful.below_bound to.at _ next) in
    elim c.if-there-eq-NONE.branch [
      | then-there-eq-NONE+in_ok-push w ↦
          let none = w.if-there-eq-NONE.true in
          let moves : to.at ≢ slot.at = λ e. (let same = ap (λ x. colour_in colours x) e in omega (arith, same, none, i.own, old_own, c.requires.some)) in
          let colour = 3 - colour_in c.args.colours.now slot.at in
          let queued = w.in_ok-push.ensures.items in
          record {
            long = rw w.colours-is (length-set colours to.at colour ∙ i.long);
            within = rw w.queue-is (omega (arith, ap length queued, length_push queue to, i.within));
            here = rw w.queue-is (ap (λ xs. get_or xs at no_place) queued ∙ get_or_append_left queue (to ∷ []) no_place at i.within ∙ i.here);
            own = rw w.colours-is (get_or-set_other colours to.at slot.at colour 0 (λ e. moves (sym e)) ∙ i.own);
            painting = λ d old s. rw (w.fits-is, w.colours-is, w.queue-is, queued) (neighbour_new m d old lawful gmap at label fits colours queue (i.painting d old s) i.within low to there
                (subst (λ (x : Slot). to.at ≢ x.at) (sym i.here) moves) room none colour (omega (arith, own, old_own, c.requires.two)));
          }
      | else-there-eq-NONE+then-there-own+then-to-slot w ↦ record {
        long = rw w.colours-is i.long;
        within = rw w.queue-is i.within;
        here = rw w.queue-is i.here;
        own = rw w.colours-is i.own;
        painting = λ d old s. rw (w.fits-is, w.colours-is, w.queue-is) (neighbour_clash m d old lawful gmap at label fits colours queue (i.painting d old s) i.within low to there
            (subst (λ (x : Slot). to.at ≢ x.at) (sym i.here) w.if-to-slot.true) (w.if-there-own.true ∙ sym own));
      }
      | else-there-eq-NONE+else-there-own w ↦ record {
        long = rw w.colours-is i.long;
        within = rw w.queue-is i.within;
        here = rw w.queue-is i.here;
        own = rw w.colours-is i.own;
        painting = λ d old s. rw (w.fits-is, w.colours-is, w.queue-is) (neighbour_fits m d old lawful gmap at label fits colours queue (i.painting d old s) i.within low to there w.if-there-eq-NONE.false (elim w.else-there-own.branch [
          | else-there-own-via-then-there-own+else-to-slot v ↦ λ moves. absurd (moves (v.if-to-slot.false ∙ ap (λ (x : Slot). x.at) (sym i.here)))
          | else-there-own-via-else-there-own v ↦ λ moves e. v.if-there-own.false (e ∙ own)
        ]));
      }
    ]

pub returns-clause-painting : goal.returns-clause-painting
returns-clause-painting g c =
    let m = c.args.arena.now in
    let slot = c.index-slot.result.now in
    let alphas = c.row.result.alphas.now in
    let alive : IsLiveSlot m slot.at = rw c.row.ensures.name refl in
    let dart = subst (λ d. get m.darts d ≡ Some (record { alphas = map (λ (s : Slot). name_at m s.at) alphas; values = c.row.result.values.now })) (sym (name_at-is m slot.at c.row.result.name c.row.ensures.name)) c.row.ensures.dart in
    let long = row_long m slot alphas c.row.result.values.now c.requires.lawful alive dart in
    λ d old s. dart_done m d old c.args.at c.loop-to.to-index c.loop-to.fits c.loop-to.colours c.loop-to.queue.items (omega (arith, long, c.loop-to-test.false, c.loop-to.auto.to-index-end)) (c.loop-to.invariant.painting d old s)

pub bounds-colours-slot : goal.bounds-colours-slot
bounds-colours-slot g c =
    let m = c.args.arena.now in
    let slot = c.index-slot.result.now in
    let first = get_or_read c.args.queue.now.items c.args.at slot c.requires.within c.index-slot.ensures no_place in
    let live = subst (λ (s : Slot). IsLiveSlot m s.at) (sym first) c.requires.live in
    omega (arith, c.requires.long, c.requires.lawful.below_bound slot.at _ (IsAt-name_at m slot.at live))

pub row-requires : goal.row-requires
row-requires g c =
    let first = get_or_read c.args.queue.now.items c.args.at c.index-slot.result.now c.requires.within c.index-slot.ensures no_place in
    subst (λ (s : Slot). IsLiveSlot c.args.arena.now s.at) (sym first) c.requires.live

pub bounds-colours-to : goal.bounds-colours-to
bounds-colours-to g c = omega (arith, slot_room c.args.arena.now c.requires.lawful c.row.result.alphas.now c.row.ensures.live c.loop-to.to-index c.loop-to-test.true, c.loop-to.invariant.long, c.requires.long)

pub bounds-colours-to-then-there-eq-NONE : goal.bounds-colours-to-then-there-eq-NONE
bounds-colours-to-then-there-eq-NONE g c = omega (arith, slot_room c.args.arena.now c.requires.lawful c.row.result.alphas.now c.row.ensures.live c.loop-to.to-index c.loop-to-test.true, c.loop-to.invariant.long, c.requires.long)

pub overflow_sub-colours : goal.overflow_sub-colours
overflow_sub-colours g c =
    let slot = c.index-slot.result.now in
    let first = get_or_read c.args.queue.now.items c.args.at slot c.requires.within c.index-slot.ensures no_place in
    let own : colour_in c.args.colours.now slot.at ≡ colour_in c.args.colours.now (queued_at c.args.queue.now.items c.args.at) = ap (λ (s : Slot). colour_in c.args.colours.now s.at) first in
    omega (arith, own, c.requires.two)

pub returns-in_err-push-clause-painting : goal.returns-in_err-push-clause-painting
returns-in_err-push-clause-painting g c = unless_ok _ c.from_residual.result c.from_residual.ensures.0

pub returns-in_err-push-clause-long : goal.returns-in_err-push-clause-long
returns-in_err-push-clause-long g c = length-set c.loop-to.colours _ _ ∙ c.loop-to.invariant.long

pub returns-clause-long : goal.returns-clause-long
returns-clause-long g c = c.loop-to.invariant.long

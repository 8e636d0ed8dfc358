use Rattle.std.proofs.Common.{◌≡◌, ◌≢◌, ◌+◌, ◌*◌, ◌<◌, ◌≤◌, length, refl, sym, ap, subst, ◌∙◌, arith}
use Rattle.std.proofs.lemmas.List.{get_or_read}
use Rattle.gm_arena.specs.inner.ArenaMap.{IsAt, IsLiveSlot, alpha, name_at}
use Rattle.gm_cells.specs.declared.search.Visit.{Visit}
use Rattle.gm_cells.specs.inner.Search.{Reaches, nowhere, dart_in}
use Rattle.gm_cells.proofs.SearchLemmas.{stays_there, reached_there, next_visit, longer_after, same_after}
use Rattle.gm_model.proofs.Exits.{never_ok}
use Rattle.gm_cells.proofs.search.visit_neighbours.Goals as goal
use Rattle.gm_cells.proofs.search.visit_neighbours.Goals.{then-to-visit+in_ok-reach, else-to-visit}

pub loop-label-preserved : goal.loop-label-preserved
loop-label-preserved g c =
    let i = c.loop-label.invariant in
    let m = c.args.arena.now in
    let marks = c.loop-label.marks in
    let queue = c.loop-label.queue.items in
    let lawful = c.requires.lawful in
    let top_is = c.top-label-end.ensures.value ∙ ap (λ s. s.dim) c.schema.ensures in
    let low : c.loop-label.label ≤ m.schema.dim = omega (arith, top_is, c.loop-label-test.true) in
    let there : IsAt m c.alpha-to.result.at (alpha m c.loop-label.label (dart_in m queue c.args.at)) = subst (λ (v : Visit). IsAt m c.alpha-to.result.at (alpha m c.loop-label.label (name_at m v.slot.at))) (sym i.here) c.alpha-to.ensures.neighbour in
    let room : 2 * c.alpha-to.result.at + 1 < length marks = (let long = i.long in let whole = c.requires.long in omega (arith, long, whole, lawful.below_bound _ _ there)) in
    elim c.if-to-visit.branch [
      | then-to-visit+in_ok-reach w ↦ record {
        long = rw w.marks-is (w.reach.ensures.long ∙ i.long);
        within = rw w.queue-is (let inside = i.within in omega (arith, inside, longer_after _ _ _ _ _ _ w.in_ok-reach.ensures.reached));
        here = rw w.queue-is (same_after _ _ _ _ _ _ w.in_ok-reach.ensures.reached c.args.at i.within ∙ i.here);
        searching = λ d old s. rw (w.marks-is, w.queue-is) (reached_there m d old lawful c.requires.generalised c.args.at c.loop-label.label marks queue (i.searching d old s) i.within low c.alpha-to.result there
            (subst (λ (v : Visit). c.alpha-to.result.at ≢ v.slot.at) (sym i.here) w.if-to-visit.true) w.reach.new.marks w.reach.new.queue.items room
            (subst (λ (v : Visit). Reaches c.alpha-to.result (v.length + 1) marks queue w.reach.new.marks w.reach.new.queue.items) (sym i.here) w.in_ok-reach.ensures.reached));
      }
      | else-to-visit w ↦ record {
        long = rw w.marks-is i.long;
        within = rw w.queue-is i.within;
        here = rw w.queue-is i.here;
        searching = λ d old s. rw (w.marks-is, w.queue-is) (stays_there m d old lawful c.requires.generalised c.args.at c.loop-label.label marks queue (i.searching d old s) i.within low c.alpha-to.result.at there
            (subst (λ (v : Visit). c.alpha-to.result.at ≡ v.slot.at) (sym i.here) w.if-to-visit.false));
      }
    ]

pub returns-clause-searching : goal.returns-clause-searching
returns-clause-searching g c =
    let top_is = c.top-label-end.ensures.value ∙ ap (λ s. s.dim) c.schema.ensures in
    λ d old s. next_visit c.args.arena.now d old c.args.at c.loop-label.label _ _ (omega (arith, top_is, c.loop-label-test.false, c.loop-label.auto.label-end)) c.loop-label.invariant.within (c.loop-label.invariant.searching d old s)

pub loop-label-init : goal.loop-label-init
loop-label-init g c = record {
  long = refl;
  within = c.requires.within;
  here = sym (get_or_read c.args.queue.now.items c.args.at _ c.requires.within c.index-visit.ensures nowhere);
  searching = λ d old s. s;
}

pub alpha-to-requires-clause-live : goal.alpha-to-requires-clause-live
alpha-to-requires-clause-live g c = subst (λ (v : Visit). IsLiveSlot c.args.arena.now v.slot.at) (sym (get_or_read c.args.queue.now.items c.args.at _ c.requires.within c.index-visit.ensures nowhere)) c.requires.live

pub alpha-to-requires-clause-label : goal.alpha-to-requires-clause-label
alpha-to-requires-clause-label g c = omega (arith, c.loop-label-test.true, c.top-label-end.ensures.value ∙ ap (λ s. s.dim) c.schema.ensures)

pub overflow_add-visit : goal.overflow_add-visit
overflow_add-visit g c =
    let few = subst (λ (v : Visit). v.length < 2147483648) (sym (get_or_read c.args.queue.now.items c.args.at _ c.requires.within c.index-visit.ensures nowhere)) c.requires.few in
    omega (arith, few)

pub reach-requires-clause-within : goal.reach-requires-clause-within
reach-requires-clause-within g c = omega (arith, c.loop-label.invariant.long, c.requires.long, c.requires.lawful.below_bound _ _ c.alpha-to.ensures.neighbour)

pub reach-requires-clause-few : goal.reach-requires-clause-few
reach-requires-clause-few g c =
    let few = subst (λ (v : Visit). v.length < 2147483648) (sym (get_or_read c.args.queue.now.items c.args.at _ c.requires.within c.index-visit.ensures nowhere)) c.requires.few in
    omega (arith, few)

pub returns-in_err-reach-clause-searching : goal.returns-in_err-reach-clause-searching
returns-in_err-reach-clause-searching g c = never_ok _ c.from_residual.result c.from_residual.ensures.0

pub returns-in_err-reach-clause-long : goal.returns-in_err-reach-clause-long
returns-in_err-reach-clause-long g c = c.reach.ensures.long ∙ c.loop-label.invariant.long

pub loop-label-smaller : goal.loop-label-smaller
loop-label-smaller g c = omega (arith, c.loop-label-test.true)

pub returns-clause-long : goal.returns-clause-long
returns-clause-long g c = c.loop-label.invariant.long

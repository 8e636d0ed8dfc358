use Rattle.std.proofs.Common.{◌∙◌, ◌<◌, length, refl, subst, arith}
use Rattle.gm_arena.proofs.MapLemmas.{IsAt-name_at}
use Rattle.gm_arena.specs.inner.ArenaMap.{name_at}
use Rattle.gm_cells.specs.inner.Search.{Reaches}
use Rattle.gm_cells.proofs.SearchLemmas.{begun, searched, short_queue}
use Rattle.gm_model.proofs.Exits.{never_ok}
use Rattle.gm_cells.proofs.search.search.Goals as goal

pub loop-at-init : goal.loop-at-init
loop-at-init g c =
    let m = c.args.arena.now in
    let lawful = c.bound.ensures.lawful in
    record {
      long = c.in_ok-reach.ensures.long;
      searching = begun m (name_at m c.args.from.at) c.args.marks.now c.args.from c.reach.new.marks c.reach.new.queue.items c.requires.fresh c.requires.live refl
          (let long = c.requires.long in omega (arith, long, lawful.below_bound c.args.from.at _ (IsAt-name_at m c.args.from.at c.requires.live)))
          (subst (λ xs. Reaches c.args.from 0 c.args.marks.now xs c.reach.new.marks c.reach.new.queue.items) c.clear.ensures.items c.in_ok-reach.ensures.reached);
    }

pub loop-at-preserved : goal.loop-at-preserved
loop-at-preserved g c = record {
  long = c.in_ok-visit_neighbours.ensures.long ∙ c.loop-at.invariant.long;
  searching = c.in_ok-visit_neighbours.ensures.searching _ _ c.loop-at.invariant.searching;
}

pub returns-clause-searched : goal.returns-clause-searched
returns-clause-searched g c = searched c.args.arena.now _ _ c.bound.ensures.lawful c.requires.generalised c.loop-at.at _ _ c.loop-at.invariant.searching (let past = c.loop-at-test.false in omega (arith, past, c.len.ensures, c.loop-at.queue.ok.0))

pub reach-requires-clause-within : goal.reach-requires-clause-within
reach-requires-clause-within g c = omega (arith, c.requires.long, c.bound.ensures.lawful.below_bound c.args.from.at _ (IsAt-name_at c.args.arena.now c.args.from.at c.requires.live))

pub visit_neighbours-requires-clause-generalised : goal.visit_neighbours-requires-clause-generalised
visit_neighbours-requires-clause-generalised g c = c.requires.generalised

pub visit_neighbours-requires-clause-lawful : goal.visit_neighbours-requires-clause-lawful
visit_neighbours-requires-clause-lawful g c = c.bound.ensures.lawful

pub visit_neighbours-requires-clause-within : goal.visit_neighbours-requires-clause-within
visit_neighbours-requires-clause-within g c = (let past = c.loop-at-test.true in omega (arith, past, c.len.ensures, c.loop-at.queue.ok.0))

pub visit_neighbours-requires-clause-live : goal.visit_neighbours-requires-clause-live
visit_neighbours-requires-clause-live g c = c.loop-at.invariant.searching.found.live c.loop-at.at (let past = c.loop-at-test.true in omega (arith, past, c.len.ensures, c.loop-at.queue.ok.0))

pub visit_neighbours-requires-clause-long : goal.visit_neighbours-requires-clause-long
visit_neighbours-requires-clause-long g c = c.loop-at.invariant.long ∙ c.requires.long

pub visit_neighbours-requires-clause-few : goal.visit_neighbours-requires-clause-few
visit_neighbours-requires-clause-few g c =
    let i = c.loop-at.invariant in
    omega (arith, short_queue _ _ _ _ _ i.searching.found c.loop-at.at (let past = c.loop-at-test.true in omega (arith, past, c.len.ensures, c.loop-at.queue.ok.0)), c.requires.few)

pub returns-in_err-reach-clause-searched : goal.returns-in_err-reach-clause-searched
returns-in_err-reach-clause-searched g c = never_ok _ c.from_residual.result c.from_residual.ensures.0

pub returns-in_err-visit_neighbours-clause-searched : goal.returns-in_err-visit_neighbours-clause-searched
returns-in_err-visit_neighbours-clause-searched g c = never_ok _ c.from_residual-in_err-visit_neighbours.result c.from_residual-in_err-visit_neighbours.ensures.0

pub returns-in_err-reach-clause-long : goal.returns-in_err-reach-clause-long
returns-in_err-reach-clause-long g c = c.reach.ensures.long

pub returns-in_err-visit_neighbours-clause-long : goal.returns-in_err-visit_neighbours-clause-long
returns-in_err-visit_neighbours-clause-long g c = c.visit_neighbours.ensures.long ∙ c.loop-at.invariant.long

pub loop-at-smaller : goal.loop-at-smaller
loop-at-smaller g c =
    let within : c.loop-at.at < length c.loop-at.queue.items = omega (arith, c.loop-at-test.true, c.len.ensures, c.loop-at.queue.ok.0) in
    omega (arith, c.loop-at.invariant.searching.found.counted, within)

pub returns-clause-long : goal.returns-clause-long
returns-clause-long g c = c.loop-at.invariant.long

pub prove-unreachable-requires : goal.prove-unreachable-requires
prove-unreachable-requires g c = omega (arith, c.if-prove.true, c.bound.ensures.bound, c.bound.ensures.lawful.below_bound c.args.from.at _ (IsAt-name_at c.args.arena.now c.args.from.at c.requires.live))

use Rattle.std.proofs.Common.{ℕ, ◌*◌, length, sym, ap, subst, ◌∙◌, arith}
use Rattle.std.proofs.lemmas.List.{length-replicate}
use Rattle.gm_model.proofs.Exits.{unless_ok}
use Rattle.gm_arena.specs.inner.ArenaAsMap.{as_map}
use Rattle.gm_arena.specs.inner.ArenaMap.{name_at}
use Rattle.gm_cells.specs.Colours.{IsFirstOdd}
use Rattle.gm_cells.specs.inner.Search.{IsFresh, IsSearched}
use Rattle.gm_cells.proofs.ColouredLemmas.{fresh_marks, odd_started}
use Rattle.gm_cells.proofs.LeastLemmas.{first_odd_is}
use Rattle.gm_cells.proofs.colouring.odd_by.Goals as goal

pub least_odd_walk-requires-clause-start : goal.least_odd_walk-requires-clause-start
least_odd_walk-requires-clause-start g c =
    let m = c.args.arena.now in
    odd_started m m.next c.args.slot.at (2 * m.bound) c.search.new.marks c.requires.odd c.requires.earlier
    (subst (λ marks. IsSearched m (name_at m c.args.slot.at) marks c.search.new.marks) c.requires.marks c.in_ok-search.ensures.searched)

pub returns : goal.returns
returns g c =
    let m = c.args.arena.now in
    let started = odd_started m m.next c.args.slot.at (2 * m.bound) c.search.new.marks c.requires.odd c.requires.earlier
    (subst (λ marks. IsSearched m (name_at m c.args.slot.at) marks c.search.new.marks) c.requires.marks c.in_ok-search.ensures.searched) in
    record {
      orientation = subst (IsFirstOdd (as_map m) c.name_of.result) (sym c.new.ensures)
          (first_odd_is m c.requires.generalised c.search.new.marks c.args.slot.at c.name_of.result c.in_ok-labels.labels.items started c.name_of.ensures.name c.in_ok-labels.ensures.walk);
    }

pub search-requires-clause-generalised : goal.search-requires-clause-generalised
search-requires-clause-generalised g c = c.requires.generalised

pub search-requires-clause-live : goal.search-requires-clause-live
search-requires-clause-live g c = c.requires.odd.live

pub search-requires-clause-long : goal.search-requires-clause-long
search-requires-clause-long g c = ap length c.requires.marks ∙ length-replicate (2 * c.args.arena.now.bound) 0

pub search-requires-clause-few : goal.search-requires-clause-few
search-requires-clause-few g c = omega (arith, ap length c.requires.marks, length-replicate {A = ℕ} (2 * c.args.arena.now.bound) 0, c.requires.few)

pub search-requires-clause-fresh : goal.search-requires-clause-fresh
search-requires-clause-fresh g c =
    let m = c.args.arena.now in
    let d = name_at m c.args.slot.at in
    subst (IsFresh m d) (sym c.requires.marks) (fresh_marks m d (2 * m.bound))

pub returns-in_err-search : goal.returns-in_err-search
returns-in_err-search g c = record { orientation = unless_ok _ c.from_residual.result c.from_residual.ensures.0 }

pub least_odd_walk-requires-clause-generalised : goal.least_odd_walk-requires-clause-generalised
least_odd_walk-requires-clause-generalised g c = c.requires.generalised

pub least_odd_walk-requires-clause-long : goal.least_odd_walk-requires-clause-long
least_odd_walk-requires-clause-long g c = c.in_ok-search.ensures.long ∙ ap length c.requires.marks ∙ length-replicate (2 * c.args.arena.now.bound) 0

pub returns-in_err-labels : goal.returns-in_err-labels
returns-in_err-labels g c = record { orientation = unless_ok _ c.from_residual-in_err-labels.result c.from_residual-in_err-labels.ensures.0 }

pub name_of-requires : goal.name_of-requires
name_of-requires g c = c.requires.odd.live

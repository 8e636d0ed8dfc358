use Rattle.std.proofs.Common.{◌≡◌, ℕ, ◌+◌, is_some, sym, subst, ap, ◌∙◌, arith}
use Rattle.gm_arena.specs.inner.ArenaMap.{ArenaMap, IsLiveName}
use Rattle.gm_grid.specs.inner.Building.{neighbour_of, AreLinked}
use Rattle.gm_grid.specs.GridMap.{neighbour}
use Rattle.gm_grid.proofs.Finished.{neighbour_is}
use Rattle.gm_grid.proofs.Stages.{at_slot, at_turned, live_of, live_turned, linked_more}
use Rattle.gm_grid.proofs.grid.link_dart.Goals as goal

pub link-requires-2-clause-to_live : goal.link-requires-2-clause-to_live
link-requires-2-clause-to_live g c =
    let old = c.args.arena.now in
    let d = c.name_of.result in
    let to = c.neighbour_at-2.result in
    let at = at_slot old d _ _ c.unwrap-slot.ensures c.slot_of.ensures.slot in
    subst (λ m. IsLiveName m to) (sym (c.link.ensures.map d at)) (live_turned old d 0 _ to (live_of c.args.m d old (subst (λ d. AreLinked c.args.m d c.args.arena.now) (sym c.name_of.ensures.name) c.requires.before) to c.neighbour_at-2.ensures.below))

pub link-requires-3-clause-live : goal.link-requires-3-clause-live
link-requires-3-clause-live g c =
    let old = c.args.arena.now in
    let d = c.name_of.result in
    let slot = c.unwrap-slot.result.at in
    let at = at_slot old d _ _ c.unwrap-slot.ensures c.slot_of.ensures.slot in
    let at_one = at_turned old c.link.new.arena d 0 _ slot d (c.link.ensures.map d at) at in
    ap is_some (at_turned c.link.new.arena c.link-2.new.arena d 1 _ slot d (c.link-2.ensures.map d at_one) at_one)

pub link-requires-3-clause-to_live : goal.link-requires-3-clause-to_live
link-requires-3-clause-to_live g c =
    let old = c.args.arena.now in
    let d = c.name_of.result in
    let to = c.neighbour_at-3.result in
    let slot = c.unwrap-slot.result.at in
    let at = at_slot old d _ _ c.unwrap-slot.ensures c.slot_of.ensures.slot in
    let at_one = at_turned old c.link.new.arena d 0 _ slot d (c.link.ensures.map d at) at in
    let once = subst (λ m. IsLiveName m to) (sym (c.link.ensures.map d at)) (live_turned old d 0 _ to (live_of c.args.m d old (subst (λ d. AreLinked c.args.m d c.args.arena.now) (sym c.name_of.ensures.name) c.requires.before) to c.neighbour_at-3.ensures.below)) in
    subst (λ m. IsLiveName m to) (sym (c.link-2.ensures.map d at_one)) (live_turned c.link.new.arena d 1 _ to once)

pub link-requires-3-clause-label : goal.link-requires-3-clause-label
link-requires-3-clause-label g c =
    let old = c.args.arena.now in
    let d = c.name_of.result in
    let slot = c.unwrap-slot.result.at in
    let at = at_slot old d _ _ c.unwrap-slot.ensures c.slot_of.ensures.slot in
    let at_one = at_turned old c.link.new.arena d 0 _ slot d (c.link.ensures.map d at) at in
    let schema = ap (λ (m : ArenaMap). m.schema) (c.link-2.ensures.map d at_one) ∙ (ap (λ (m : ArenaMap). m.schema) (c.link.ensures.map d at) ∙ c.requires.before.schema_is) in
    rw schema (omega arith)

pub returns-clause-linked : goal.returns-clause-linked
returns-clause-linked g c =
    let m = c.args.m in
    let place = c.args.place in
    let (row, column, number) = c.requires.within in
    let name = c.name_of.ensures.name in
    let d = c.name_of.result in
    let old = c.args.arena.now in
    let slot = c.unwrap-slot.result.at in
    let at = at_slot old d _ _ c.unwrap-slot.ensures c.slot_of.ensures.slot in
    let first = c.link.ensures.map d at in
    let at_one = at_turned old c.link.new.arena d 0 _ slot d first at in
    let second = c.link-2.ensures.map d at_one in
    let at_two = at_turned c.link.new.arena c.link-2.new.arena d 1 _ slot d second at_one in
    let third = c.link-3.ensures.map d at_two in
    let before = subst (λ d. AreLinked m d old) (sym name) c.requires.before in
    let is : (i : ℕ) → neighbour m i place.row place.column place.number ≡ neighbour_of m i d = λ i. neighbour_is m place.row place.column place.number row column number i ∙ ap (neighbour_of m i) (sym name) in
    let linked = linked_more m d old c.link.new.arena c.link-2.new.arena c.link-3.new.arena _ _ _ first second third before c.name_of.ensures.below
    (c.neighbour_at.ensures.name ∙ is 0) (c.neighbour_at-2.ensures.name ∙ is 1) (c.neighbour_at-3.ensures.name ∙ is 2) in
    subst (λ d. AreLinked m (d + 1) c.link-3.new.arena) name linked

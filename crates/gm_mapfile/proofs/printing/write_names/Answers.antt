use Rattle.std.proofs.Common.{◌≡◌, ℕ, ◌∷◌, ◌++◌, length, drop, map, refl, ap, ◌∙◌, arith}
use Rattle.std.proofs.lemmas.List.{drop_all, length-map}
use Rattle.std.specs.List.{flat_map}
use Rattle.std.specs.Prelude.{decimal}
use Rattle.gm_arena.specs.inner.ArenaMap.{name_at}
use Rattle.gm_arena.specs.declared.slot.Slot.{Slot}
use Rattle.gm_mapfile.proofs.Printed.{name_before}
use Rattle.gm_mapfile.proofs.printing.write_names.Goals as goal

pub loop-left-preserved : goal.loop-left-preserved
loop-left-preserved g c =
    let before = c.loop-left.invariant in
    let put = c.write_number_behind_blank-at in
    record {
      within = omega (arith, before.within, put.ensures.before, put.ensures.long);
      before = omega (arith, before.before, put.ensures.before);
      room = omega (arith, before.room, put.ensures.few, c.loop-left-test.true);
      few = omega (arith, before.few);
      names = name_before c.args.arena.now c.args.neighbours.now c.loop-left.left c.name_of-neighbour.result _ _ _ _ c.loop-left-test.true before.few c.name_of-neighbour.ensures.name put.ensures.written before.names;
      cost = omega (arith, before.cost, c.name_of-neighbour.ensures.cost, c.loop-left-test.true);
    }

pub loop-left-init : goal.loop-left-init
loop-left-init g c =
    let name : Slot → ℕ = λ s. name_at c.args.arena.now s.at in
    let long : length (map name c.args.neighbours.now) ≡ length c.args.neighbours.now = length-map c.args.neighbours.now name in
    record {
      within = c.requires.within;
      before = omega arith;
      room = c.requires.room;
      few = omega arith;
      names = rw (drop_all (length c.args.neighbours.now) (map name c.args.neighbours.now) (omega (arith, long))) refl;
      cost = refl;
    }

pub loop-left-smaller : goal.loop-left-smaller
loop-left-smaller g c = omega (arith, c.loop-left-test.true)

pub write_number_behind_blank-at-requires-clause-room : goal.write_number_behind_blank-at-requires-clause-room
write_number_behind_blank-at-requires-clause-room g c = omega (arith, c.loop-left.invariant.room)

pub write_number-requires-clause-room : goal.write_number-requires-clause-room
write_number-requires-clause-room g c = omega (arith, c.loop-left.invariant.room)

pub returns-clause-before : goal.returns-clause-before
returns-clause-before g c = omega (arith, c.write_number.ensures.before, c.loop-left.invariant.before)

pub returns-clause-written : goal.returns-clause-written
returns-clause-written g c =
    let names = map (λ (s : Slot). name_at c.args.arena.now s.at) c.args.neighbours.now in
    let zero : c.loop-left.left ≡ 0 = omega (arith, c.loop-left-test.false) in
    c.write_number.ensures.written
    ∙ ap (λ xs. decimal c.args.name ++ xs) (c.loop-left.invariant.names ∙ ap (λ k. flat_map (λ a. 32 ∷ decimal a) (drop k names) ++ drop c.args.end c.args.line.now) zero)

pub returns-clause-cost : goal.returns-clause-cost
returns-clause-cost g c = omega (arith, c.loop-left.invariant.cost, c.loop-left-test.false)

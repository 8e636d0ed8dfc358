use Rattle.gm_undo.proofs.Sums.{never_more}
use Rattle.std.proofs.Common.{◌≡◌, ◌+◌, ◌-◌, ◌≤◌}
use Rattle.std.specs.FinMap.{get}
use Rattle.gm_arena.specs.inner.ArenaMap.{name_at}
use Rattle.std.proofs.Common.{ap, ◌∙◌, arith}
use Rattle.gm_arena.proofs.MapLemmas.{name_at-is, get-without_dart_same, get-without_dart_other}
use Rattle.gm_arena.specs.inner.Edits.{without_dart}
use Rattle.gm_arena.specs.inner.ArenaMap.{ArenaMap}
use Rattle.gm_undo.proofs.Counts.{some_dart}
use Rattle.gm_undo.proofs.writing.remove_dart.Goals as goal

pub returns-clause-gone : goal.returns-clause-gone
returns-clause-gone g c =
    let name : name_at c.args.arena.now c.in-Some.slot.at ≡ c.args.name = name_at-is c.args.arena.now c.in-Some.slot.at c.args.name c.in-Some.ensures.slot in
    let map : c.remove.new.self ≡ without_dart c.args.arena.now c.in-Some.slot.at c.args.name = c.remove.ensures.map ∙ ap (without_dart c.args.arena.now c.in-Some.slot.at) name in
    ap (λ (m : ArenaMap). get m.darts c.args.name) map ∙ get-without_dart_same c.args.arena.now c.in-Some.slot.at c.args.name

pub returns-clause-others : goal.returns-clause-others
returns-clause-others g c =
    let name : name_at c.args.arena.now c.in-Some.slot.at ≡ c.args.name = name_at-is c.args.arena.now c.in-Some.slot.at c.args.name c.in-Some.ensures.slot in
    let map : c.remove.new.self ≡ without_dart c.args.arena.now c.in-Some.slot.at c.args.name = c.remove.ensures.map ∙ ap (without_dart c.args.arena.now c.in-Some.slot.at) name in
    λ d apart. ap (λ (m : ArenaMap). get m.darts d) map ∙ get-without_dart_other c.args.arena.now c.in-Some.slot.at c.args.name d apart

pub returns-clause-room : goal.returns-clause-room
returns-clause-room g c =
    let name : name_at c.args.arena.now c.in-Some.slot.at ≡ c.args.name = name_at-is c.args.arena.now c.in-Some.slot.at c.args.name c.in-Some.ensures.slot in
    let map : c.remove.new.self ≡ without_dart c.args.arena.now c.in-Some.slot.at c.args.name = c.remove.ensures.map ∙ ap (without_dart c.args.arena.now c.in-Some.slot.at) name in
    let some : 1 ≤ c.args.arena.now.count = omega (arith, some_dart c.args.arena.now.darts c.args.name c.requires.live, c.count.ensures.lawful.counted) in
    let counts : c.remove.new.self.count ≡ c.args.arena.now.count - 1 = ap (λ (m : ArenaMap). m.count) map in
    let spares : c.remove.new.self.spare ≡ c.args.arena.now.spare + 1 = ap (λ (m : ArenaMap). m.spare) map in
    record { schema = ap (λ (m : ArenaMap). m.schema) map; reserved = ap (λ (m : ArenaMap). m.reserved) map; total = omega (arith, some, counts, spares) }

pub prove-unreachable-requires : goal.prove-unreachable-requires
prove-unreachable-requires g c = never_more c.args.arena.now c.count.result c.count.ensures.lawful c.count.ensures.count c.if-prove.true

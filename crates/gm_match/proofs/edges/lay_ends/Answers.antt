use Rattle.std.proofs.Common.{◌∙◌, set, ◌+◌, ◌<◌, ◌*◌, length, arith, length-set}
use Rattle.gm_match.proofs.EdgeRows.{first_stays, second_stays, first_set, second_set}
use Rattle.std.proofs.lemmas.List.Elements.{All-set}
use Rattle.gm_arena.specs.declared.slot.Slot.{Slot}
use Rattle.gm_arena.specs.inner.ArenaMap.{IsLiveSlot}
use Rattle.gm_match.proofs.Column.{place_within}
use Rattle.gm_match.proofs.edges.lay_ends.Goals as goal

pub returns-clause-stays : goal.returns-clause-stays
returns-clause-stays c = λ x p less apart.
    let m = c.args.arena.now in
    let nodes = c.args.nodes in
    let slots = c.args.slots.now in
    second_stays m nodes c.args.node c.requires.node (set slots c.args.node c.args.one) c.args.other x p less (λ e. apart)
    ∙ first_stays m nodes c.args.node c.requires.node slots c.args.one x p less (λ e. apart)

pub bounds-slots-node : goal.bounds-slots-node
bounds-slots-node c = omega (arith, place_within c.args.rows c.args.nodes 0 c.args.node _ c.requires.long c.requires.some c.requires.node)

pub returns-then-rows-eq1-clause-long : goal.returns-then-rows-eq1-clause-long
returns-then-rows-eq1-clause-long c = length-set _ _ _

pub returns-then-rows-eq1-clause-live : goal.returns-then-rows-eq1-clause-live
returns-then-rows-eq1-clause-live c = All-set (λ (s : Slot). IsLiveSlot c.args.arena.now s.at) c.args.slots.now c.args.node c.args.one c.requires.one c.requires.live

pub returns-then-rows-eq1-clause-one : goal.returns-then-rows-eq1-clause-one
returns-then-rows-eq1-clause-one c = first_set c.args.arena.now c.args.nodes c.args.node c.requires.node c.args.slots.now c.args.one (omega (arith, place_within c.args.rows c.args.nodes 0 c.args.node _ c.requires.long c.requires.some c.requires.node))

pub returns-then-rows-eq1-clause-other : goal.returns-then-rows-eq1-clause-other
returns-then-rows-eq1-clause-other c = λ two. absurd (omega (arith, two, c.if-rows-eq1.true))

pub returns-then-rows-eq1-clause-stays : goal.returns-then-rows-eq1-clause-stays
returns-then-rows-eq1-clause-stays c = λ x p less apart. first_stays c.args.arena.now c.args.nodes c.args.node c.requires.node c.args.slots.now c.args.one x p less (λ e. apart)

pub returns-clause-long : goal.returns-clause-long
returns-clause-long c = length-set _ _ _ ∙ length-set _ _ _

pub returns-clause-live : goal.returns-clause-live
returns-clause-live c = All-set (λ (s : Slot). IsLiveSlot c.args.arena.now s.at) (set c.args.slots.now c.args.node c.args.one) (c.args.nodes + c.args.node) c.args.other c.requires.other (All-set (λ (s : Slot). IsLiveSlot c.args.arena.now s.at) c.args.slots.now c.args.node c.args.one c.requires.one c.requires.live)

pub returns-clause-one : goal.returns-clause-one
returns-clause-one c = second_stays c.args.arena.now c.args.nodes c.args.node c.requires.node (set c.args.slots.now c.args.node c.args.one) c.args.other c.args.node 0 c.requires.node (λ e. absurd (omega (arith, e))) ∙ first_set c.args.arena.now c.args.nodes c.args.node c.requires.node c.args.slots.now c.args.one (omega (arith, place_within c.args.rows c.args.nodes 0 c.args.node _ c.requires.long c.requires.some c.requires.node))

pub returns-clause-other : goal.returns-clause-other
returns-clause-other c =
    λ two.
    let within : 1 * c.args.nodes + c.args.node < length c.args.slots.now = place_within c.args.rows c.args.nodes 1 c.args.node _ c.requires.long two c.requires.node in
    second_set c.args.arena.now c.args.nodes c.args.node c.requires.node (set c.args.slots.now c.args.node c.args.one) c.args.other (omega (arith, within, length-set c.args.slots.now c.args.node c.args.one))

use Rattle.std.proofs.Common.{◌<◌, length, sym, ap, subst, ◌∙◌, arith}
use Rattle.std.proofs.lemmas.List.{length-map}
use Rattle.std.proofs.lemmas.List.Elements.{All-get_or}
use Rattle.std.proofs.lemmas.Option.{get_or_from_slice_get}
use Rattle.std.proofs.lemmas.Result.{IfOk-from_err}
use Rattle.gm_model.specs.Rules.{rule_of}
use Rattle.gm_arena.specs.declared.slot.Slot.{Slot}
use Rattle.gm_arena.specs.inner.ArenaMap.{IsLiveName, IsLiveSlot, name_at}
use Rattle.gm_arena.proofs.MapLemmas.{IsLiveName-name_at}
use Rattle.gm_theory.proofs.Candidates.{hook_left}
use Rattle.gm_walk.specs.inner.Turns.{IsTurn}
use Rattle.gm_walk.specs.inner.Walks.{names_of}
use Rattle.gm_walk.proofs.CellLemmas.{each_entry}
use Rattle.gm_walk.proofs.NameLemmas.{name_there}
use Rattle.gm_match.proofs.Placing.{IsTurned, names_begin, some_position, firsts_of, is_candidate, walk_slots}
use Rattle.gm_match.proofs.Stepping.{same_count}
use Rattle.gm_match.proofs.candidates.along_walk.Goals as goal

pub fill_slots-requires-clause-turns : goal.fill_slots-requires-clause-turns
fill_slots-requires-clause-turns g c = rw c.deref.ensures.value (firsts_of c.args.arena.now (rule_of c.args.plan.now.table) _ c.args.walk.now c.args.word.now c.args.turns.items c.requires.word c.requires.walk c.requires.turns)

pub with_nodes-requires-clause-turns_within : goal.with_nodes-requires-clause-turns_within
with_nodes-requires-clause-turns_within g c =
    let m = c.args.arena.now in
    let word = c.args.word.now in
    let walk = c.args.walk.now in
    each_entry (IsTurn m word (names_of m walk)) (length word) (λ q. q < length walk) (length walk) c.args.turns.items c.requires.turns
    (λ p x q t. omega (arith, t.within, length-map walk (λ (s : Slot). name_at m s.at)))

pub returns-clause-candidate : goal.returns-clause-candidate
returns-clause-candidate g c =
    let word = c.args.word.now in
    let m = c.args.arena.now in
    let walk = c.args.walk.now in
    let start = name_there m c.args.darts.now 0 (record { at = 0 }) c.requires.some in
    let rule = rule_of c.args.plan.now.table in
    let found = c.with_nodes.result in
    let begin = names_begin m c.args.darts.now c.requires.some in
    let live = subst (IsLiveName m) (sym start) (IsLiveName-name_at m _ c.requires.matchable.lawful (All-get_or (λ (s : Slot). IsLiveSlot m s.at) c.args.darts.now 0 (record { at = 0 }) c.requires.some c.requires.live)) in
    let made : IsTurned m rule _ walk found word = record { walk = c.requires.walk; turns = rw c.with_nodes.ensures.turns c.requires.turns; places = c.with_nodes.ensures.places ∙ c.len-2.ensures.value } in
    let laid = c.in_ok-fill_slots.ensures.slots in
    is_candidate m rule _ walk found (names_of m c.args.darts.now) begin.0 begin.1 (length-map c.args.darts.now (λ (s : Slot). name_at m s.at) ∙ c.requires.count) laid.0 laid.1 (rw (c.with_nodes.ensures.turns, ← c.deref.ensures.value, c.with_nodes.ensures.slots) laid.2)
    c.with_nodes.ensures.positions (rw (c.with_nodes.ensures.slots, c.with_nodes.ensures.positions, c.with_nodes.ensures.nodes, same_count rule _ _ c.left_nodes.ensures.left laid.1) laid.2.along.long) live (subst (IsTurned m rule _ walk found) c.requires.word made)

pub fill_slots-requires-clause-empty : goal.fill_slots-requires-clause-empty
fill_slots-requires-clause-empty g c = c.requires.no_slots

pub returns-in_err-fill_slots-clause-candidate : goal.returns-in_err-fill_slots-clause-candidate
returns-in_err-fill_slots-clause-candidate g c = IfOk-from_err c.from_residual.result _ c.from_residual.ensures.0

pub returns-in_err-fill_slots-clause-cost : goal.returns-in_err-fill_slots-clause-cost
returns-in_err-fill_slots-clause-cost g c = omega (arith, c.fill_slots.ensures.cost)

pub returns-in_err-fill_slots-clause-least : goal.returns-in_err-fill_slots-clause-least
returns-in_err-fill_slots-clause-least g c = c.fill_slots.ensures.least

pub with_nodes-requires-clause-some_position : goal.with_nodes-requires-clause-some_position
with_nodes-requires-clause-some_position g c = some_position c.args.arena.now (rule_of c.args.plan.now.table) _ c.args.walk.now c.args.word.now c.requires.walk

pub with_nodes-requires-clause-slots : goal.with_nodes-requires-clause-slots
with_nodes-requires-clause-slots g c = let laid = c.in_ok-fill_slots.ensures.slots in
    rw (same_count (rule_of c.args.plan.now.table) _ _ c.left_nodes.ensures.left laid.1) laid.2.along.long

pub with_nodes-requires-clause-turns : goal.with_nodes-requires-clause-turns
with_nodes-requires-clause-turns g c = rw c.len-2.ensures.value c.requires.turns.long

pub returns-clause-cost : goal.returns-clause-cost
returns-clause-cost g c = omega (arith, c.fill_slots.ensures.cost)

pub returns-clause-least : goal.returns-clause-least
returns-clause-least g c = c.fill_slots.ensures.least

pub returns-clause-walked : goal.returns-clause-walked
returns-clause-walked g c =
    let word = c.args.word.now in
    let m = c.args.arena.now in
    let walk = c.args.walk.now in
    let start = name_there m c.args.darts.now 0 (record { at = 0 }) c.requires.some in
    let rule = rule_of c.args.plan.now.table in
    let found = c.with_nodes.result in
    let begin = names_begin m c.args.darts.now c.requires.some in
    let live = subst (IsLiveName m) (sym start) (IsLiveName-name_at m _ c.requires.matchable.lawful (All-get_or (λ (s : Slot). IsLiveSlot m s.at) c.args.darts.now 0 (record { at = 0 }) c.requires.some c.requires.live)) in
    let made : IsTurned m rule _ walk found word = record { walk = c.requires.walk; turns = rw c.with_nodes.ensures.turns c.requires.turns; places = c.with_nodes.ensures.places ∙ c.len-2.ensures.value } in
    let laid = c.in_ok-fill_slots.ensures.slots in
    let planned = c.requires.matchable.planned in
    λ h first. walk_slots m rule _ walk found (names_of m c.args.darts.now) begin.0 begin.1 (length-map c.args.darts.now (λ (s : Slot). name_at m s.at) ∙ c.requires.count) laid.0 laid.1 (rw (c.with_nodes.ensures.turns, ← c.deref.ensures.value, c.with_nodes.ensures.slots) laid.2)
    c.with_nodes.ensures.positions (rw (c.with_nodes.ensures.slots, c.with_nodes.ensures.positions, c.with_nodes.ensures.nodes, same_count rule _ _ c.left_nodes.ensures.left laid.1) laid.2.along.long) live (subst (IsTurned m rule _ walk found) c.requires.word made)
    c.requires.matchable.lawful c.requires.walked h first ((laid.1 h).0 (hook_left c.args.plan.now.schema rule planned.accepted.in_range planned.accepted.incidence 0 h first))

pub returns-in_err-fill_slots-clause-walked : goal.returns-in_err-fill_slots-clause-walked
returns-in_err-fill_slots-clause-walked g c = IfOk-from_err c.from_residual.result _ c.from_residual.ensures.0

pub fill_slots-requires-clause-places : goal.fill_slots-requires-clause-places
fill_slots-requires-clause-places g c = c.len.ensures.value ∙ ap length c.requires.word

pub fill_slots-requires-clause-short : goal.fill_slots-requires-clause-short
fill_slots-requires-clause-short g c = λ one. c.requires.short (sym c.len.ensures.value ∙ one)

pub fill_slots-requires-clause-walked : goal.fill_slots-requires-clause-walked
fill_slots-requires-clause-walked g c =
    record {
      matchable = c.requires.matchable;
      some = c.requires.some;
      count = c.requires.count;
      darts_live = c.requires.live;
      some_position = some_position c.args.arena.now (rule_of c.args.plan.now.table) _ c.args.walk.now c.args.word.now c.requires.walk;
      few = c.requires.few;
      walk_live = c.requires.walked;
      starts = get_or_from_slice_get (names_of c.args.arena.now c.args.walk.now) 0 _ 0 c.requires.walk.starts;
    }

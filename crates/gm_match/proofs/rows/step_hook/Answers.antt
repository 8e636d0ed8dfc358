use Rattle.std.proofs.Common.{◌≡◌, ◌+◌, ◌*◌, ◌/◌, ◌%◌, ◌<◌, get_or, length, sym, ap, ◌∙◌, arith}
use Rattle.std.proofs.lemmas.List.Elements.{All-get_or}
use Rattle.gm_model.specs.declared.rule.Side.TheVariants.{Left}
use Rattle.gm_model.specs.Rules.{rule_of, letters, label_at, width}
use Rattle.gm_arena.specs.declared.slot.Slot.{Slot}
use Rattle.gm_arena.specs.inner.ArenaMap.{IsLiveSlot, name_at, alpha}
use Rattle.gm_walk.proofs.NameLemmas.{at_name, live_at}
use Rattle.gm_match.specs.inner.Layout.{dart_in}
use Rattle.gm_theory.proofs.Lists.{some_same}
use Rattle.gm_match.proofs.EdgeWalks.{same_label}
use Rattle.gm_match.proofs.Hooks.{turning_by, own_word}
use Rattle.gm_match.proofs.Paths.{row_name}
use Rattle.gm_match.proofs.Stepping.{same_count}
use Rattle.gm_match.proofs.rows.step_hook.Goals as goal

pub letter-requires : goal.letter-requires
letter-requires g c =
    let t = turning_by c.args.plan.now.schema c.args.plan.now.table c.rule.result.now c.args.hook c.word.result c.unwrap-word.result c.args.turn c.left_nodes-nodes.result c.args.slots.now c.requires.matchable.planned c.requires.hook c.rule.ensures.rule c.word.ensures c.unwrap-word.ensures c.left_nodes-nodes.ensures.left c.requires.turn in
    rw (c.parts_of-position.ensures.place, c.len.ensures.value) t.place

pub unreachable-requires : goal.unreachable-requires
unreachable-requires g c =
    let rule = rule_of c.args.plan.now.table in
    let t = turning_by c.args.plan.now.schema c.args.plan.now.table c.rule.result.now c.args.hook c.word.result c.unwrap-word.result c.args.turn c.left_nodes-nodes.result c.args.slots.now c.requires.matchable.planned c.requires.hook c.rule.ensures.rule c.word.ensures c.unwrap-word.ensures c.left_nodes-nodes.ensures.left c.requires.turn in
    c.in_default.not-At (label_at (letters rule Left c.args.hook) (c.args.turn % width rule)) (some_same _ _ (sym c.letter.ensures ∙ rw (c.parts_of-position.ensures.place, c.len.ensures.value) t.letter))

pub overflow_mul-from : goal.overflow_mul-from
overflow_mul-from g c =
    let t = turning_by c.args.plan.now.schema c.args.plan.now.table c.rule.result.now c.args.hook c.word.result c.unwrap-word.result c.args.turn c.left_nodes-nodes.result c.args.slots.now c.requires.matchable.planned c.requires.hook c.rule.ensures.rule c.word.ensures c.unwrap-word.ensures c.left_nodes-nodes.ensures.left c.requires.turn in
    let w = t.within in rw (c.parts_of-position.ensures.position, c.len.ensures.value) (omega (arith, w))

pub overflow_add-from : goal.overflow_add-from
overflow_add-from g c =
    let t = turning_by c.args.plan.now.schema c.args.plan.now.table c.rule.result.now c.args.hook c.word.result c.unwrap-word.result c.args.turn c.left_nodes-nodes.result c.args.slots.now c.requires.matchable.planned c.requires.hook c.rule.ensures.rule c.word.ensures c.unwrap-word.ensures c.left_nodes-nodes.ensures.left c.requires.turn in
    let w = t.within in rw (c.parts_of-position.ensures.position, c.len.ensures.value) (omega (arith, w))

pub offset_bounds-slots-position : goal.offset_bounds-slots-position
offset_bounds-slots-position g c =
    let t = turning_by c.args.plan.now.schema c.args.plan.now.table c.rule.result.now c.args.hook c.word.result c.unwrap-word.result c.args.turn c.left_nodes-nodes.result c.args.slots.now c.requires.matchable.planned c.requires.hook c.rule.ensures.rule c.word.ensures c.unwrap-word.ensures c.left_nodes-nodes.ensures.left c.requires.turn in
    let w = t.within in rw (c.parts_of-position.ensures.position, c.len.ensures.value) (omega (arith, w))

pub bounds-slots-position : goal.bounds-slots-position
bounds-slots-position g c =
    let t = turning_by c.args.plan.now.schema c.args.plan.now.table c.rule.result.now c.args.hook c.word.result c.unwrap-word.result c.args.turn c.left_nodes-nodes.result c.args.slots.now c.requires.matchable.planned c.requires.hook c.rule.ensures.rule c.word.ensures c.unwrap-word.ensures c.left_nodes-nodes.ensures.left c.requires.turn in
    rw (c.parts_of-position.ensures.position, c.len.ensures.value) t.within

pub alpha-requires-clause-live : goal.alpha-requires-clause-live
alpha-requires-clause-live g c =
    let nodes = c.left_nodes-nodes.result in
    let t = turning_by c.args.plan.now.schema c.args.plan.now.table c.rule.result.now c.args.hook c.word.result c.unwrap-word.result c.args.turn c.left_nodes-nodes.result c.args.slots.now c.requires.matchable.planned c.requires.hook c.rule.ensures.rule c.word.ensures c.unwrap-word.ensures c.left_nodes-nodes.ensures.left c.requires.turn in
    rw (c.parts_of-position.ensures.position, c.len.ensures.value) (All-get_or (λ (s : Slot). IsLiveSlot c.args.arena.now s.at) c.args.slots.now (c.args.turn / length c.unwrap-word.result * nodes + c.args.hook) (record { at = 0 }) t.within c.requires.slots)

pub alpha-requires-clause-label : goal.alpha-requires-clause-label
alpha-requires-clause-label g c =
    let rule = rule_of c.args.plan.now.table in
    let t = turning_by c.args.plan.now.schema c.args.plan.now.table c.rule.result.now c.args.hook c.word.result c.unwrap-word.result c.args.turn c.left_nodes-nodes.result c.args.slots.now c.requires.matchable.planned c.requires.hook c.rule.ensures.rule c.word.ensures c.unwrap-word.ensures c.left_nodes-nodes.ensures.left c.requires.turn in
    let same : c.in-At.label ≡ label_at (letters rule Left c.args.hook) (c.args.turn % width rule) = same_label _ _ (sym c.in-At.is ∙ some_same _ _ (sym c.letter.ensures ∙ rw (c.parts_of-position.ensures.place, c.len.ensures.value) t.letter)) in
    rw (same, c.requires.matchable.schema) t.low

pub returns-clause-stepped : goal.returns-clause-stepped
returns-clause-stepped g c =
    let rule = rule_of c.args.plan.now.table in
    let nodes = c.left_nodes-nodes.result in
    let t = turning_by c.args.plan.now.schema c.args.plan.now.table c.rule.result.now c.args.hook c.word.result c.unwrap-word.result c.args.turn c.left_nodes-nodes.result c.args.slots.now c.requires.matchable.planned c.requires.hook c.rule.ensures.rule c.word.ensures c.unwrap-word.ensures c.left_nodes-nodes.ensures.left c.requires.turn in
    let m = c.args.arena.now in
    let slots = c.args.slots.now in
    let same : c.in-At.label ≡ label_at (letters rule Left c.args.hook) (c.args.turn % width rule) = same_label _ _ (sym c.in-At.is ∙ some_same _ _ (sym c.letter.ensures ∙ rw (c.parts_of-position.ensures.place, c.len.ensures.value) t.letter)) in
    let from = c.parts_of-position.result.0 * nodes + c.args.hook in
    let within : from < length slots = rw (c.parts_of-position.ensures.position, c.len.ensures.value) t.within in
    λ count counts.
    at_name m c.alpha.result.at _ c.alpha.ensures.neighbour
    ∙ ap (λ i. alpha m i (name_at m (get_or slots from (record { at = 0 })).at)) same
    ∙ ap (alpha m (label_at (letters rule Left c.args.hook) (c.args.turn % width rule))) (
    row_name m slots from (record { at = 0 }) within
    ∙ ap (λ p. dart_in m slots (p * nodes + c.args.hook)) (c.parts_of-position.ensures.position ∙ ap (λ w. c.args.turn / w) (c.len.ensures.value ∙ t.long))
    ∙ ap (λ n. dart_in m slots (c.args.turn / width rule * n + c.args.hook)) (same_count rule nodes count c.left_nodes-nodes.ensures.left counts)
    )

pub unwrap-word-requires : goal.unwrap-word-requires
unwrap-word-requires g c = own_word c.args.plan.now.schema c.args.plan.now.table c.rule.result.now c.args.hook c.word.result c.requires.matchable.planned c.requires.hook c.rule.ensures.rule c.word.ensures

pub parts_of-position-requires : goal.parts_of-position-requires
parts_of-position-requires g c =
    let t = turning_by c.args.plan.now.schema c.args.plan.now.table c.rule.result.now c.args.hook c.word.result c.unwrap-word.result c.args.turn c.left_nodes-nodes.result c.args.slots.now c.requires.matchable.planned c.requires.hook c.rule.ensures.rule c.word.ensures c.unwrap-word.ensures c.left_nodes-nodes.ensures.left c.requires.turn in
    rw c.len.ensures.value t.some

pub returns-clause-live : goal.returns-clause-live
returns-clause-live g c = live_at c.args.arena.now c.alpha.result.at _ c.alpha.ensures.neighbour

pub returns-clause-cost : goal.returns-clause-cost
returns-clause-cost g c = c.alpha.ensures.cost

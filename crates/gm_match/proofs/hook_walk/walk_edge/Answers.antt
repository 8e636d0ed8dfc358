use Rattle.std.proofs.Common.{◌≡◌, [], ◌∷◌, ◌++◌, Some, ap, sym, ◌∙◌, arith, length}
use Rattle.std.proofs.lemmas.Bool.{eq-eqb, false≢true, eqb-true}
use Rattle.gm_arena.specs.declared.slot.Slot.{Slot}
use Rattle.gm_match.proofs.EdgeWalks.{edge_turns, edge_walk, only_label, alone_turns, alone_walk}
use Rattle.std.proofs.Math.Nat.{le_refl, le-add_right}
use Rattle.gm_model.proofs.Exits.{unless_ok}
use Rattle.gm_walk.proofs.MarkLemmas.{same_slot}
use Rattle.gm_walk.proofs.NameLemmas.{live_at}
use Rattle.gm_match.proofs.hook_walk.walk_edge.Goals as goal

pub returns-clause-walk : goal.returns-clause-walk
returns-clause-walk g c =
    let to = c.alpha-to.result in
    let differs : to ≡ c.args.from → ⊥ = λ same. false≢true (sym c.if-eq.false ∙ c.eq.ensures ∙ eq-eqb _ _ (ap (λ (s : Slot). s.at) same)) in
    let letter = c.letter.ensures ∙ ap Some c.in-At.is in
    let turns = c.push_reserved-3.ensures.items ∙ ap (λ xs. xs ++ 0 ∷ []) (c.push_reserved-2.ensures.items ∙ ap (λ xs. xs ++ 1 ∷ []) (c.reserve.ensures.items ∙ c.requires.empty)) in
    edge_walk c.args.arena.now c.requires.lawful c.requires.generalised c.args.word.now c.in-At.label c.requires.one letter (only_label c.args.arena.now.schema.dim c.args.word.now c.in-At.label c.requires.word letter) c.args.from to c.requires.live c.alpha-to.ensures.neighbour differs _ turns

pub returns-clause-turns : goal.returns-clause-turns
returns-clause-turns g c =
    let to = c.alpha-to.result in
    let differs : to ≡ c.args.from → ⊥ = λ same. false≢true (sym c.if-eq.false ∙ c.eq.ensures ∙ eq-eqb _ _ (ap (λ (s : Slot). s.at) same)) in
    let letter = c.letter.ensures ∙ ap Some c.in-At.is in
    let turns = c.push_reserved-3.ensures.items ∙ ap (λ xs. xs ++ 0 ∷ []) (c.push_reserved-2.ensures.items ∙ ap (λ xs. xs ++ 1 ∷ []) (c.reserve.ensures.items ∙ c.requires.empty)) in
    edge_turns c.args.arena.now c.requires.lawful c.requires.generalised c.args.word.now c.in-At.label c.requires.one letter (only_label c.args.arena.now.schema.dim c.args.word.now c.in-At.label c.requires.word letter) c.args.from to c.requires.live c.alpha-to.ensures.neighbour differs _ turns

pub letter-requires : goal.letter-requires
letter-requires g c = omega (arith, c.requires.one)

pub returns-in_err-reserve-clause-live : goal.returns-in_err-reserve-clause-live
returns-in_err-reserve-clause-live g c = unless_ok _ c.from_residual.result c.from_residual.ensures.0

pub returns-in_err-reserve-clause-few : goal.returns-in_err-reserve-clause-few
returns-in_err-reserve-clause-few g c = unless_ok _ c.from_residual.result c.from_residual.ensures.0

pub returns-in_err-reserve-clause-walk : goal.returns-in_err-reserve-clause-walk
returns-in_err-reserve-clause-walk g c = unless_ok _ c.from_residual.result c.from_residual.ensures.0

pub returns-in_err-reserve-clause-turns : goal.returns-in_err-reserve-clause-turns
returns-in_err-reserve-clause-turns g c = unless_ok _ c.from_residual.result c.from_residual.ensures.0

pub returns-in_err-reserve-clause-cost : goal.returns-in_err-reserve-clause-cost
returns-in_err-reserve-clause-cost g c = le-add_right _ _

pub returns-in_err-reserve-clause-least : goal.returns-in_err-reserve-clause-least
returns-in_err-reserve-clause-least g c = le_refl _

pub alpha-to-requires-clause-live : goal.alpha-to-requires-clause-live
alpha-to-requires-clause-live g c = c.requires.live

pub alpha-to-requires-clause-label : goal.alpha-to-requires-clause-label
alpha-to-requires-clause-label g c = only_label c.args.arena.now.schema.dim c.args.word.now c.in-At.label c.requires.word (c.letter.ensures ∙ ap Some c.in-At.is)

pub push_reserved-requires : goal.push_reserved-requires
push_reserved-requires g c = omega (arith, c.in_ok-reserve.ensures.ok)

pub returns-then-eq-clause-live : goal.returns-then-eq-clause-live
returns-then-eq-clause-live g c = live_at c.args.arena.now c.alpha-to.result.at _ c.alpha-to.ensures.neighbour

pub returns-then-eq-clause-few : goal.returns-then-eq-clause-few
returns-then-eq-clause-few g c =
    omega (arith, ap length (c.push_reserved.ensures.items ∙ ap (λ xs. xs ++ 0 ∷ []) (c.reserve.ensures.items ∙ c.requires.empty)))

pub returns-then-eq-clause-walk : goal.returns-then-eq-clause-walk
returns-then-eq-clause-walk g c =
    let same = same_slot _ _ (eqb-true _ _ (sym c.eq.ensures ∙ c.if-eq.true)) in
    alone_walk c.args.arena.now c.args.word.now c.in-At.label c.requires.one (c.letter.ensures ∙ ap Some c.in-At.is) c.args.from c.alpha-to.result c.alpha-to.ensures.neighbour same _ (c.push_reserved.ensures.items ∙ ap (λ xs. xs ++ 0 ∷ []) (c.reserve.ensures.items ∙ c.requires.empty))

pub returns-then-eq-clause-turns : goal.returns-then-eq-clause-turns
returns-then-eq-clause-turns g c =
    let same = same_slot _ _ (eqb-true _ _ (sym c.eq.ensures ∙ c.if-eq.true)) in
    alone_turns c.args.arena.now c.args.word.now c.in-At.label c.requires.one (c.letter.ensures ∙ ap Some c.in-At.is) c.args.from c.alpha-to.result c.alpha-to.ensures.neighbour same _ (c.push_reserved.ensures.items ∙ ap (λ xs. xs ++ 0 ∷ []) (c.reserve.ensures.items ∙ c.requires.empty))

pub push_reserved-requires-2 : goal.push_reserved-requires-2
push_reserved-requires-2 g c = omega (arith, c.in_ok-reserve.ensures.ok)

pub push_reserved-requires-3 : goal.push_reserved-requires-3
push_reserved-requires-3 g c = omega (arith, c.in_ok-reserve.ensures.ok, c.push_reserved-2.ensures.len, c.push_reserved-2.ensures.capacity)

pub returns-clause-live : goal.returns-clause-live
returns-clause-live g c = live_at c.args.arena.now c.alpha-to.result.at _ c.alpha-to.ensures.neighbour

pub returns-clause-few : goal.returns-clause-few
returns-clause-few g c = omega (arith, ap length (c.push_reserved-3.ensures.items ∙ ap (λ xs. xs ++ 0 ∷ []) (c.push_reserved-2.ensures.items ∙ ap (λ xs. xs ++ 1 ∷ []) (c.reserve.ensures.items ∙ c.requires.empty))))

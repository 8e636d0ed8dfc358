use Rattle.std.proofs.Common.{length, sym, subst, ◌∙◌, refl}
use Rattle.gm_arena.specs.inner.ArenaMap.{name_at}
use Rattle.gm_model.specs.Orbits.{IsWalk}
use Rattle.gm_walk.specs.inner.Cells.{AreCells}
use Rattle.gm_walk.specs.inner.Turns.{IsTurn}
use Rattle.gm_walk.specs.inner.Walks.{AreLive, along, names_of}
use Rattle.gm_match.specs.inner.Layout.{ends}
use Rattle.gm_match.proofs.EdgeWalks.{edge_steps, ends_live, ends_long, one_walk, other_walk}
use Rattle.gm_model.proofs.Exits.{unless_ok}
use Rattle.gm_match.proofs.hook_walk.walk_hook.Goals as goal

pub returns-then-len-eq1-clause-walk : goal.returns-then-len-eq1-clause-walk
returns-then-len-eq1-clause-walk g c =
    let m = c.args.arena.now in
    let word = c.args.word.now in
    let one = sym c.len.ensures.value ∙ c.if-len-eq1.true in
    let turns = c.walk_edge.new.turns.items in
    let both = ends c.args.from c.in_ok-to.to turns in
    let same = one_walk (length word) one both c.args.scratch.now.walked in
    subst (λ slots. IsWalk (along m word) (length word) (name_at m c.args.from.at) (names_of m slots)) same c.in_ok-to.ensures.walk

pub returns-then-len-eq1-clause-live : goal.returns-then-len-eq1-clause-live
returns-then-len-eq1-clause-live g c =
    let m = c.args.arena.now in
    let word = c.args.word.now in
    let one = sym c.len.ensures.value ∙ c.if-len-eq1.true in
    let turns = c.walk_edge.new.turns.items in
    let both = ends c.args.from c.in_ok-to.to turns in
    let same = one_walk (length word) one both c.args.scratch.now.walked in
    subst (AreLive m) same (ends_live m c.args.from c.in_ok-to.to turns c.requires.live c.in_ok-to.ensures.live)

pub returns-then-len-eq1-clause-turns : goal.returns-then-len-eq1-clause-turns
returns-then-len-eq1-clause-turns g c =
    let m = c.args.arena.now in
    let word = c.args.word.now in
    let one = sym c.len.ensures.value ∙ c.if-len-eq1.true in
    let turns = c.walk_edge.new.turns.items in
    let both = ends c.args.from c.in_ok-to.to turns in
    let same = one_walk (length word) one both c.args.scratch.now.walked in
    subst (λ slots. AreCells (IsTurn m word (names_of m slots)) (length slots) (length word) turns) same (subst (λ n. AreCells (IsTurn m word (names_of m both)) n (length word) turns) (sym (ends_long c.args.from c.in_ok-to.to turns c.in_ok-to.ensures.few)) c.in_ok-to.ensures.turns)

pub returns-clause-walk : goal.returns-clause-walk
returns-clause-walk g c =
    let m = c.args.arena.now in
    let word = c.args.word.now in
    let turns = c.walk_turns.new.turns.items in
    let same = other_walk (length word) (λ e. c.if-len-eq1.false (c.len.ensures.value ∙ e)) (ends c.args.from c.args.from turns) c.walk_turns.new.scratch.walked in
    subst (λ slots. IsWalk (along m word) (length word) (name_at m c.args.from.at) (names_of m slots)) same c.in_ok-walk_turns.ensures.walk

pub returns-clause-live : goal.returns-clause-live
returns-clause-live g c =
    let m = c.args.arena.now in
    let word = c.args.word.now in
    let turns = c.walk_turns.new.turns.items in
    let same = other_walk (length word) (λ e. c.if-len-eq1.false (c.len.ensures.value ∙ e)) (ends c.args.from c.args.from turns) c.walk_turns.new.scratch.walked in
    subst (AreLive m) same c.walk_turns.ensures.live

pub returns-clause-turns : goal.returns-clause-turns
returns-clause-turns g c =
    let m = c.args.arena.now in
    let word = c.args.word.now in
    let turns = c.walk_turns.new.turns.items in
    let same = other_walk (length word) (λ e. c.if-len-eq1.false (c.len.ensures.value ∙ e)) (ends c.args.from c.args.from turns) c.walk_turns.new.scratch.walked in
    subst (λ slots. AreCells (IsTurn m word (names_of m slots)) (length slots) (length word) turns) same c.in_ok-walk_turns.ensures.turns

pub returns-then-len-eq1-clause-cost : goal.returns-then-len-eq1-clause-cost
returns-then-len-eq1-clause-cost g c = λ walk is_walk. edge_steps c.args.arena.now c.args.word.now _ walk (sym c.len.ensures.value ∙ c.if-len-eq1.true) is_walk _ _ c.walk_edge.ensures.cost

pub returns-in_err-to-clause-cost : goal.returns-in_err-to-clause-cost
returns-in_err-to-clause-cost g c = λ walk is_walk. edge_steps c.args.arena.now c.args.word.now _ walk (sym c.len.ensures.value ∙ c.if-len-eq1.true) is_walk _ _ c.walk_edge.ensures.cost

pub returns-clause-few : goal.returns-clause-few
returns-clause-few g c = λ one. absurd (c.if-len-eq1.false (c.len.ensures.value ∙ one))

pub walk_edge-requires-clause-lawful : goal.walk_edge-requires-clause-lawful
walk_edge-requires-clause-lawful g c = c.requires.lawful

pub walk_edge-requires-clause-generalised : goal.walk_edge-requires-clause-generalised
walk_edge-requires-clause-generalised g c = c.requires.generalised

pub walk_edge-requires-clause-live : goal.walk_edge-requires-clause-live
walk_edge-requires-clause-live g c = c.requires.live

pub walk_edge-requires-clause-word : goal.walk_edge-requires-clause-word
walk_edge-requires-clause-word g c = c.requires.word

pub walk_edge-requires-clause-one : goal.walk_edge-requires-clause-one
walk_edge-requires-clause-one g c = sym c.len.ensures.value ∙ c.if-len-eq1.true

pub walk_edge-requires-clause-empty : goal.walk_edge-requires-clause-empty
walk_edge-requires-clause-empty g c = c.requires.empty

pub returns-in_err-to-clause-few : goal.returns-in_err-to-clause-few
returns-in_err-to-clause-few g c = λ one. unless_ok _ c.from_residual.result c.from_residual.ensures.0

pub returns-in_err-to-clause-walk : goal.returns-in_err-to-clause-walk
returns-in_err-to-clause-walk g c = unless_ok _ c.from_residual.result c.from_residual.ensures.0

pub returns-in_err-to-clause-live : goal.returns-in_err-to-clause-live
returns-in_err-to-clause-live g c = unless_ok _ c.from_residual.result c.from_residual.ensures.0

pub returns-in_err-to-clause-turns : goal.returns-in_err-to-clause-turns
returns-in_err-to-clause-turns g c = unless_ok _ c.from_residual.result c.from_residual.ensures.0

pub returns-in_err-to-clause-least : goal.returns-in_err-to-clause-least
returns-in_err-to-clause-least g c = c.walk_edge.ensures.least

pub returns-in_err-to-clause-room : goal.returns-in_err-to-clause-room
returns-in_err-to-clause-room g c = refl

pub returns-then-len-eq1-clause-few : goal.returns-then-len-eq1-clause-few
returns-then-len-eq1-clause-few g c = λ one. c.in_ok-to.ensures.few

pub returns-then-len-eq1-clause-least : goal.returns-then-len-eq1-clause-least
returns-then-len-eq1-clause-least g c = c.walk_edge.ensures.least

pub returns-then-len-eq1-clause-room : goal.returns-then-len-eq1-clause-room
returns-then-len-eq1-clause-room g c = refl

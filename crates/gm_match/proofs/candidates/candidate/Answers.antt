use Rattle.std.proofs.Common.{◌≡◌, Some, IfOk, get_or, ℕ, ◌+◌, ◌*◌, ◌<◌, ◌≤◌, List, length, sym, ap, subst, ◌∙◌}
use Rattle.std.proofs.Math.Nat.{le_trans, le-add_right}
use Rattle.gm_model.proofs.Exits.{unless_ok}
use Rattle.gm_model.specs.Orbits.{IsWalk}
use Rattle.gm_model.specs.Rules.{rule_of, first_hook}
use Rattle.std.specs.Prelude.{slice_index}
use Rattle.gm_walk.specs.inner.Cells.{AreCells}
use Rattle.gm_walk.specs.inner.Room.{Fits}
use Rattle.gm_walk.specs.inner.Turns.{IsTurn}
use Rattle.gm_match.specs.inner.Layout.{ends, walk_of}
use Rattle.gm_match.specs.inner.Taken.{AreSlotsOf}
use Rattle.gm_match.proofs.EdgeWalks.{other_walk, walk_made}
use Rattle.gm_walk.specs.inner.Walks.{AreLive, along, names_of}
use Rattle.gm_walk.proofs.NameLemmas.{name_there}
use Rattle.gm_match.proofs.Placing.{hook_has_word, word_is, can_be_walked, walk_cost, along_cost}
use Rattle.gm_match.proofs.candidates.candidate.Goals as goal

pub walk_hook-requires-clause-word : goal.walk_hook-requires-clause-word
walk_hook-requires-clause-word g c =
    let has = subst (λ n. 0 < n) c.requires.count c.requires.some in
    let word = c.unwrap-word.result in
    let is_word = (word_is c.args.plan.now.table c.rule.result.now c.hook_word.result c.unwrap-word.result c.rule.ensures.rule c.hook_word.ensures c.unwrap-word.ensures) in
    can_be_walked c.args.arena.now c.args.plan.now c.requires.matchable has word is_word

pub walk_hook-requires-clause-live : goal.walk_hook-requires-clause-live
walk_hook-requires-clause-live g c = c.requires.live 0 (record { at = 0 }) c.requires.some

pub walk_hook-requires-clause-fits : goal.walk_hook-requires-clause-fits
walk_hook-requires-clause-fits g c = subst (λ room. Fits room c.args.arena.now) (sym c.lend_rows-slots.ensures.stays) c.requires.fits

pub returns-in_err-to-clause-cost : goal.returns-in_err-to-clause-cost
returns-in_err-to-clause-cost g c = λ walk is_walk.
    let has = subst (λ n. 0 < n) c.requires.count c.requires.some in
    let word = c.unwrap-word.result in
    let is_word = (word_is c.args.plan.now.table c.rule.result.now c.hook_word.result c.unwrap-word.result c.rule.ensures.rule c.hook_word.ensures c.unwrap-word.ensures) in
    let m = c.args.arena.now in
    let start = name_there m c.args.darts.now 0 (record { at = 0 }) c.requires.some in
    let walked = subst (λ d. (walk : List ℕ) → IsWalk (along m word) (length word) d walk → c.walk_hook.new.steps ≤ c.args.steps.now + length walk * length word) (sym start) c.walk_hook.ensures.cost in
    walk_cost m c.args.plan.now c.requires.matchable has word is_word _ _ _ walked _ walk is_walk (le-add_right _ _)

pub along_walk-requires-clause-matchable : goal.along_walk-requires-clause-matchable
along_walk-requires-clause-matchable g c = c.requires.matchable

pub along_walk-requires-clause-some : goal.along_walk-requires-clause-some
along_walk-requires-clause-some g c = c.requires.some

pub along_walk-requires-clause-count : goal.along_walk-requires-clause-count
along_walk-requires-clause-count g c = c.requires.count

pub along_walk-requires-clause-live : goal.along_walk-requires-clause-live
along_walk-requires-clause-live g c = c.requires.live

pub along_walk-requires-clause-word : goal.along_walk-requires-clause-word
along_walk-requires-clause-word g c = (word_is c.args.plan.now.table c.rule.result.now c.hook_word.result c.unwrap-word.result c.rule.ensures.rule c.hook_word.ensures c.unwrap-word.ensures)

pub along_walk-requires-clause-walk : goal.along_walk-requires-clause-walk
along_walk-requires-clause-walk g c =
    let m = c.args.arena.now in
    let word = c.unwrap-word.result in
    let start = name_there m c.args.darts.now 0 (record { at = 0 }) c.requires.some in
    subst (λ slots. IsWalk (along m word) (length word) (slice_index (names_of m c.args.darts.now) 0) (names_of m slots)) (sym (walk_made _ _ _ _ _ _ _ c.walk_in-walk.ensures.walk c.len.ensures.value c.as_slice.ensures.value)) (subst (λ d. IsWalk (along m word) (length word) d (names_of m (walk_of (length word) (ends (get_or c.args.darts.now 0 (record { at = 0 })) c.in_ok-to.to c.walk_hook.new.turns.items) c.walk_hook.new.scratch.walked))) (sym start) c.in_ok-to.ensures.walk)

pub returns-clause-cost : goal.returns-clause-cost
returns-clause-cost g c = λ walk is_walk.
    let has = subst (λ n. 0 < n) c.requires.count c.requires.some in
    let word = c.unwrap-word.result in
    let is_word = (word_is c.args.plan.now.table c.rule.result.now c.hook_word.result c.unwrap-word.result c.rule.ensures.rule c.hook_word.ensures c.unwrap-word.ensures) in
    let m = c.args.arena.now in
    let slots = walk_of (length word) (ends (get_or c.args.darts.now 0 (record { at = 0 })) c.in_ok-to.to c.walk_hook.new.turns.items) c.walk_hook.new.scratch.walked in
    let start = name_there m c.args.darts.now 0 (record { at = 0 }) c.requires.some in
    let walked = subst (λ d. (walk : List ℕ) → IsWalk (along m word) (length word) d walk → c.walk_hook.new.steps ≤ c.args.steps.now + length walk * length word) (sym start) c.walk_hook.ensures.cost in
    let ours = subst (λ d. IsWalk (along m word) (length word) d (names_of m slots)) (sym start) c.in_ok-to.ensures.walk in
    let placing = subst (λ xs. c.along_walk.new.steps ≤ c.walk_hook.new.steps + length xs * length (rule_of c.args.plan.now.table).nodes) (walk_made _ _ _ _ _ _ _ c.walk_in-walk.ensures.walk c.len.ensures.value c.as_slice.ensures.value) c.along_walk.ensures.cost in
    walk_cost m c.args.plan.now c.requires.matchable has word is_word _ _ _ walked _ walk is_walk (along_cost m c.args.plan.now c.requires.matchable has word is_word _ slots ours _ _ placing walk is_walk)

pub returns-clause-candidate : goal.returns-clause-candidate
returns-clause-candidate g c = c.along_walk.ensures.candidate

pub returns-clause-least : goal.returns-clause-least
returns-clause-least g c = le_trans c.walk_hook.ensures.least c.along_walk.ensures.least

pub walk_hook-requires-clause-empty : goal.walk_hook-requires-clause-empty
walk_hook-requires-clause-empty g c = c.lend_rows-slots.ensures.turns

pub returns-in_err-to-clause-candidate : goal.returns-in_err-to-clause-candidate
returns-in_err-to-clause-candidate g c = unless_ok _ c.from_residual.result c.from_residual.ensures.0

pub returns-in_err-to-clause-least : goal.returns-in_err-to-clause-least
returns-in_err-to-clause-least g c = c.walk_hook.ensures.least

pub returns-in_err-to-clause-room : goal.returns-in_err-to-clause-room
returns-in_err-to-clause-room g c = c.walk_hook.ensures.room ∙ ap (λ room. room.bound) c.lend_rows-slots.ensures.stays

pub along_walk-requires-clause-walked : goal.along_walk-requires-clause-walked
along_walk-requires-clause-walked g c = subst (AreLive c.args.arena.now) (sym (walk_made _ _ _ _ _ _ _ c.walk_in-walk.ensures.walk c.len.ensures.value c.as_slice.ensures.value)) c.in_ok-to.ensures.live

pub along_walk-requires-clause-few : goal.along_walk-requires-clause-few
along_walk-requires-clause-few g c = c.walk_in-walk.ensures.few

pub along_walk-requires-clause-no_slots : goal.along_walk-requires-clause-no_slots
along_walk-requires-clause-no_slots g c = c.lend_rows-slots.ensures.slots

pub along_walk-requires-clause-turns : goal.along_walk-requires-clause-turns
along_walk-requires-clause-turns g c =
    let m = c.args.arena.now in
    let word = c.unwrap-word.result in
    subst (λ slots. AreCells (IsTurn m word (names_of m slots)) (length slots) (length word) c.walk_hook.new.turns.items) (sym (walk_made _ _ _ _ _ _ _ c.walk_in-walk.ensures.walk c.len.ensures.value c.as_slice.ensures.value)) c.in_ok-to.ensures.turns

pub returns-clause-room : goal.returns-clause-room
returns-clause-room g c = c.walk_hook.ensures.room ∙ ap (λ room. room.bound) c.lend_rows-slots.ensures.stays

pub returns-clause-walked : goal.returns-clause-walked
returns-clause-walked g c = λ several_places.
    subst (λ slots. IfOk c.along_walk.result (λ found. (h : ℕ) → first_hook (rule_of c.args.plan.now.table) ≡ Some h → AreSlotsOf found h slots)) (walk_made _ _ _ _ _ _ _ c.walk_in-walk.ensures.walk c.len.ensures.value c.as_slice.ensures.value ∙ sym (other_walk (length c.unwrap-word.result) (λ e. several_places (sym (ap length (word_is c.args.plan.now.table c.rule.result.now c.hook_word.result c.unwrap-word.result c.rule.ensures.rule c.hook_word.ensures c.unwrap-word.ensures)) ∙ e)) _ c.walk_hook.new.scratch.walked)) c.along_walk.ensures.walked

pub returns-in_err-to-clause-walked : goal.returns-in_err-to-clause-walked
returns-in_err-to-clause-walked g c = λ several. unless_ok _ c.from_residual.result c.from_residual.ensures.0

pub along_walk-requires-clause-short : goal.along_walk-requires-clause-short
along_walk-requires-clause-short g c = λ one. c.walk_in-walk.ensures.short (c.len.ensures.value ∙ one)

pub walk_in-walk-requires : goal.walk_in-walk-requires
walk_in-walk-requires g c = λ one. subst (λ turns. length turns ≤ 2) (sym c.as_slice.ensures.value) (c.in_ok-to.ensures.few (sym c.len.ensures.value ∙ one))

pub unwrap-word-requires : goal.unwrap-word-requires
unwrap-word-requires g c = hook_has_word c.args.plan.now.schema c.args.plan.now.table c.rule.result.now c.hook_word.result c.requires.matchable.planned (subst (λ n. 0 < n) c.requires.count c.requires.some) c.rule.ensures.rule c.hook_word.ensures

use Rattle.std.proofs.Common.{◌<◌, ◌++◌, ◌∷◌, [], length, sym, ap, ◌∙◌, arith, ◌≤◌}
use Rattle.std.proofs.lemmas.Grind.{get_or_default_zero}
use Rattle.gm_arena.specs.inner.Inside.{no_slot, names_in}
use Rattle.gm_arena.proofs.NameLemmas.{names_taken, names_skipped}
use Rattle.gm_model.proofs.Exits.{unless_ok}
use Rattle.std.proofs.lemmas.List.{take_all}
use Rattle.gm_arena.proofs.table.Table.taken_names.Goals as goal
use Rattle.gm_arena.proofs.table.Table.taken_names.Goals.{then-slot+in_ok-push, else-slot}

pub loop-name-preserved : goal.loop-name-preserved
loop-name-preserved c =
    let name = c.loop-name.name in
    let below : c.loop-name.name < length c.args.self.now = omega (arith, c.loop-name-test.true, c.len-name-end.ensures) in
    let read = c.slot.ensures ∙ get_or_default_zero c.args.self.now name no_slot below in
    elim c.if-slot.branch [
      | then-slot+in_ok-push w ↦
          ap (λ v. v.items) w.names-is ∙ (w.in_ok-push.ensures.items ∙ (ap (λ xs. xs ++ name ∷ []) c.loop-name.invariant
          ∙ sym (names_taken c.args.self.now name below (λ e. w.if-slot.true (read ∙ e)))))
      | else-slot w ↦ ap (λ v. v.items) w.names-is ∙ (c.loop-name.invariant ∙ sym (names_skipped c.args.self.now name below (sym read ∙ w.if-slot.false)))
    ]

pub returns-in_err-names : goal.returns-in_err-names
returns-in_err-names c = unless_ok _ c.from_residual.result c.from_residual.ensures.0

pub loop-name-init : goal.loop-name-init
loop-name-init c = c.in_ok-names.ensures.items

pub overflow_cast-name : goal.overflow_cast-name
overflow_cast-name c = omega (arith, c.loop-name-test.true, c.len-name-end.ensures, c.requires)

pub overflow_cast-name-then-slot : goal.overflow_cast-name-then-slot
overflow_cast-name-then-slot c = omega (arith, c.loop-name-test.true, c.len-name-end.ensures, c.requires)

pub returns-in_err-push : goal.returns-in_err-push
returns-in_err-push c = unless_ok _ c.from_residual-in_err-push.result c.from_residual-in_err-push.ensures.0

pub returns : goal.returns
returns c =
    let all : length c.args.self.now ≤ c.loop-name.name = omega (arith, c.loop-name-test.false, c.len-name-end.ensures) in
    c.loop-name.invariant ∙ ap names_in (take_all c.loop-name.name c.args.self.now all)

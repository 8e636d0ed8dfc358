use Rattle.std.proofs.Common.{◌+◌, ◌++◌, ◌∷◌, [], drop, refl, sym, ap, ◌∙◌, append_assoc}
use Rattle.std.proofs.lemmas.List.{append-nil, at_drop_all}
use Rattle.gm_commit.specs.inner.OldDartValues.{told_of}
use Rattle.gm_commit.proofs.on_old_darts.ValuesInTurn.{value_at}
use Rattle.gm_commit.proofs.on_old_darts.ValuesOfOrbits.{told_elsewhere, told_ungiven, told_value}
use Rattle.gm_commit.proofs.edits.put_new_values.Goals as goal
use Rattle.gm_commit.proofs.edits.put_new_values.Goals.{in-Old+in-Some+in_ok-fit_one+in_ok-push, in-Old+in_default-given, in_default}

pub loop-mark-init : goal.loop-mark-init
loop-mark-init c = refl

pub loop-mark-preserved : goal.loop-mark-preserved
loop-mark-preserved c =
    let e = c.args.embed in
    let instances = c.args.instances.now in
    let marks = c.args.marks.now in
    let i = c.loop-mark.mark-index in
    let so_far = c.loop-mark.values.items in
    let later = told_of e instances (drop (i + 1) marks) in
    elim c.match-unpack.branch [
      | in-Old+in-Some+in_ok-fit_one+in_ok-push w ↦
          let told = told_value e instances marks i c.mark-item.result c.loop-mark-test.true c.mark-item.is w.in-Old.slot w.in-Some.value (sym c.unpack.ensures ∙ w.in-Old.is) (sym w.given.ensures ∙ w.in-Some.is) in
          rw (w.values-is, w.in_ok-push.ensures.items, w.in_ok-fit_one.ensures) (append_assoc so_far (value_at w.in-Old.slot e w.in-Some.value ∷ []) later ∙ ap (λ list. so_far ++ list) (sym told) ∙ c.loop-mark.invariant)
      | in-Old+in_default-given w ↦
          let told = told_ungiven e instances marks i c.mark-item.result c.loop-mark-test.true c.mark-item.is w.in-Old.slot (sym c.unpack.ensures ∙ w.in-Old.is) (sym w.given.ensures ∙ w.in_default-given.is) in
          rw w.values-is (ap (λ list. so_far ++ list) (sym told) ∙ c.loop-mark.invariant)
      | in_default w ↦
          let told = told_elsewhere e instances marks i c.mark-item.result c.loop-mark-test.true c.mark-item.is w.in_default.field-0 w.in_default.field-1 (sym c.unpack.ensures ∙ w.in_default.is) in
          rw w.values-is (ap (λ list. so_far ++ list) (sym told) ∙ c.loop-mark.invariant)
    ]

pub returns : goal.returns
returns c = sym (at_drop_all (λ marks. c.loop-mark.values.items ++ told_of c.args.embed c.args.instances.now marks) c.args.marks.now c.loop-mark.mark-index c.loop-mark-test.false ∙ append-nil c.loop-mark.values.items) ∙ c.loop-mark.invariant

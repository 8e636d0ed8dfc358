use Rattle.std.proofs.Common.{◌+◌, List, drop, length, refl, sym, ap, ◌∙◌, arith}
use Rattle.std.proofs.lemmas.List.{at_drop_all}
use Rattle.gm_arena.specs.inner.ArenaMap.{ArenaMap}
use Rattle.gm_commit.specs.declared.changes.ValueAt.{ValueAt}
use Rattle.gm_pending.specs.inner.ValueSources.{given_of}
use Rattle.gm_commit.specs.inner.OldDartValues.{told_of}
use Rattle.gm_commit.specs.inner.WrittenMap.{with_values}
use Rattle.gm_commit.proofs.on_old_darts.ValuesOfOrbits.{told_elsewhere, told_ungiven, told_value, value_there}
use Rattle.gm_commit.proofs.old_darts.set_values_of.Goals as goal
use Rattle.gm_commit.proofs.old_darts.set_values_of.Goals.{in-Old+in-Some, in-Old+in_default-value, in_default}

pub loop-mark-init : goal.loop-mark-init
loop-mark-init g c = record { known = c.given-value.ensures; slots = refl; schema = refl; rest = refl; cost = refl }

pub set_value-requires-clause-live : goal.set_value-requires-clause-live
set_value-requires-clause-live g c =
    let fit = c.requires _ (value_there c.args.embed c.args.instances.now c.args.marks.now c.loop-mark.mark-index c.mark-item.result c.in-Old.slot c.in-Some.value c.loop-mark-test.true c.mark-item.is (sym c.unpack.ensures ∙ c.in-Old.is) (sym c.look_at.ensures.value ∙ c.in-Some.is)) in
    rw c.loop-mark.invariant.slots fit.live

pub set_value-requires-clause-value : goal.set_value-requires-clause-value
set_value-requires-clause-value g c =
    let fit = c.requires _ (value_there c.args.embed c.args.instances.now c.args.marks.now c.loop-mark.mark-index c.mark-item.result c.in-Old.slot c.in-Some.value c.loop-mark-test.true c.mark-item.is (sym c.unpack.ensures ∙ c.in-Old.is) (sym c.look_at.ensures.value ∙ c.in-Some.is)) in
    rw c.loop-mark.invariant.schema (fit.embed, fit.embed_at, fit.value)

pub loop-mark-preserved : goal.loop-mark-preserved
loop-mark-preserved g c =
    let e = c.args.embed in
    let instances = c.args.instances.now in
    let marks = c.args.marks.now in
    let i = c.loop-mark.mark-index in
    let now = c.loop-mark.invariant in
    elim c.match-unpack.branch [
      | in-Old+in-Some w ↦
          let told = told_value e instances marks i c.mark-item.result c.loop-mark-test.true c.mark-item.is w.in-Old.slot w.in-Some.value (sym c.unpack.ensures ∙ w.in-Old.is) (sym c.look_at.ensures.value ∙ w.in-Some.is) in
          let is = w.arena-is ∙ w.set_value.ensures.map in
          record {
            known = w.value-is ∙ sym w.in-Some.is ∙ c.look_at.ensures.value ∙ ap (given_of instances) (sym c.look_at.ensures.last);
            slots = ap (λ (m : ArenaMap). m.slots) is ∙ now.slots;
            schema = ap (λ (m : ArenaMap). m.schema) is ∙ now.schema;
            rest = ap (λ m. with_values m (told_of e instances (drop (i + 1) marks))) is ∙ ap (with_values c.loop-mark.arena) (sym told) ∙ now.rest;
            cost = omega (arith, now.cost, ap (λ (list : List ValueAt). length list) told, w.steps-is, w.set_value.ensures.cost);
          }
      | in-Old+in_default-value w ↦
          let told = told_ungiven e instances marks i c.mark-item.result c.loop-mark-test.true c.mark-item.is w.in-Old.slot (sym c.unpack.ensures ∙ w.in-Old.is) (sym c.look_at.ensures.value ∙ w.in_default-value.is) in
          record {
            known = w.value-is ∙ c.look_at.ensures.value ∙ ap (given_of instances) (sym c.look_at.ensures.last);
            slots = ap (λ (m : ArenaMap). m.slots) w.arena-is ∙ now.slots;
            schema = ap (λ (m : ArenaMap). m.schema) w.arena-is ∙ now.schema;
            rest = ap (λ m. with_values m (told_of e instances (drop (i + 1) marks))) w.arena-is ∙ ap (with_values c.loop-mark.arena) (sym told) ∙ now.rest;
            cost = omega (arith, now.cost, ap (λ (list : List ValueAt). length list) told, w.steps-is);
          }
      | in_default w ↦
          let told = told_elsewhere e instances marks i c.mark-item.result c.loop-mark-test.true c.mark-item.is w.in_default.field-0 w.in_default.field-1 (sym c.unpack.ensures ∙ w.in_default.is) in
          record {
            known = w.value-is ∙ c.look_at.ensures.value ∙ ap (given_of instances) (sym c.look_at.ensures.last);
            slots = ap (λ (m : ArenaMap). m.slots) w.arena-is ∙ now.slots;
            schema = ap (λ (m : ArenaMap). m.schema) w.arena-is ∙ now.schema;
            rest = ap (λ m. with_values m (told_of e instances (drop (i + 1) marks))) w.arena-is ∙ ap (with_values c.loop-mark.arena) (sym told) ∙ now.rest;
            cost = omega (arith, now.cost, ap (λ (list : List ValueAt). length list) told, w.steps-is);
          }
    ]

pub returns-clause-map : goal.returns-clause-map
returns-clause-map g c = sym (at_drop_all (λ marks. with_values c.loop-mark.arena (told_of c.args.embed c.args.instances.now marks)) c.args.marks.now c.loop-mark.mark-index c.loop-mark-test.false) ∙ c.loop-mark.invariant.rest

pub returns-clause-cost : goal.returns-clause-cost
returns-clause-cost g c = omega (arith, c.loop-mark.invariant.cost, at_drop_all (λ marks. length (told_of c.args.embed c.args.instances.now marks)) c.args.marks.now c.loop-mark.mark-index c.loop-mark-test.false)

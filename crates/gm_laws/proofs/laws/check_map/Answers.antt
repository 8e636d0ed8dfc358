use Rattle.std.proofs.Common.{◌∙◌, arith}
use Rattle.gm_model.proofs.Exits.{never_ok}
use Rattle.gm_arena.proofs.MapLemmas.{IsLiveName-alpha}
use Rattle.gm_laws.proofs.CostLemmas.{within_budget, within_few}
use Rattle.gm_laws.proofs.EmbeddedLemmas.{well_embedded}
use Rattle.gm_laws.proofs.NameLemmas.{as_many}
use Rattle.gm_laws.proofs.laws.check_map.Goals as goal

pub prove-unreachable-requires : goal.prove-unreachable-requires
prove-unreachable-requires g c =
    c.if-prove.true (omega (arith, c.len.ensures, as_many c.args.arena.now _ c.count.ensures.lawful c.in_ok-names.ensures.names, c.in_ok-names.names.ok.0, c.count.ensures.count))

pub returns-clause-well_embedded : goal.returns-clause-well_embedded
returns-clause-well_embedded g c = well_embedded c.args.arena.now c.count.ensures.lawful c.in_default-first_not_embedded.ensures.breach

pub returns-in_err-names-clause-generalised : goal.returns-in_err-names-clause-generalised
returns-in_err-names-clause-generalised g c = never_ok _ c.from_residual.result c.from_residual.ensures.0

pub returns-in_err-names-clause-well_embedded : goal.returns-in_err-names-clause-well_embedded
returns-in_err-names-clause-well_embedded g c = never_ok _ c.from_residual.result c.from_residual.ensures.0

pub first_not_back-requires-clause-lawful : goal.first_not_back-requires-clause-lawful
first_not_back-requires-clause-lawful g c = c.count.ensures.lawful

pub first_not_back-requires-clause-names : goal.first_not_back-requires-clause-names
first_not_back-requires-clause-names g c = c.deref.ensures.value ∙ c.in_ok-names.ensures.names

pub first_not_commuting-requires-clause-lawful : goal.first_not_commuting-requires-clause-lawful
first_not_commuting-requires-clause-lawful g c = c.count.ensures.lawful

pub first_not_commuting-requires-clause-names : goal.first_not_commuting-requires-clause-names
first_not_commuting-requires-clause-names g c = c.deref-2.ensures.value ∙ c.in_ok-names.ensures.names

pub first_not_commuting-requires-clause-back : goal.first_not_commuting-requires-clause-back
first_not_commuting-requires-clause-back g c = c.in_default.ensures.breach

pub first_not_embedded-requires-clause-lawful : goal.first_not_embedded-requires-clause-lawful
first_not_embedded-requires-clause-lawful g c = c.count.ensures.lawful

pub first_not_embedded-requires-clause-names : goal.first_not_embedded-requires-clause-names
first_not_embedded-requires-clause-names g c = c.deref-3.ensures.value ∙ c.in_ok-names.ensures.names

pub first_not_embedded-requires-clause-back : goal.first_not_embedded-requires-clause-back
first_not_embedded-requires-clause-back g c = c.in_default.ensures.breach

pub first_not_embedded-requires-clause-commuting : goal.first_not_embedded-requires-clause-commuting
first_not_embedded-requires-clause-commuting g c = c.in_default-first_not_commuting.ensures.breach

pub returns-clause-generalised : goal.returns-clause-generalised
returns-clause-generalised g c = record {
  stays = λ d i live within. IsLiveName-alpha c.args.arena.now i d c.count.ensures.lawful live within;
  back = c.in_default.ensures.breach;
  commutes = c.in_default-first_not_commuting.ensures.breach;
}

pub returns-in_err-names-clause-least : goal.returns-in_err-names-clause-least
returns-in_err-names-clause-least g c = omega (arith, c.do_laws_hold.ensures.least, c.names.ensures.cost)

pub returns-in-Some-clause-least : goal.returns-in-Some-clause-least
returns-in-Some-clause-least g c = omega (arith, c.do_laws_hold.ensures.least, c.names.ensures.cost, c.in-Some.ensures.least)

pub returns-in-Some-first_not_commuting-clause-least : goal.returns-in-Some-first_not_commuting-clause-least
returns-in-Some-first_not_commuting-clause-least g c = omega (arith, c.do_laws_hold.ensures.least, c.names.ensures.cost, c.in_default.ensures.least, c.in-Some-first_not_commuting.ensures.least)

pub returns-in-Some-first_not_embedded-clause-least : goal.returns-in-Some-first_not_embedded-clause-least
returns-in-Some-first_not_embedded-clause-least g c = omega (arith, c.do_laws_hold.ensures.least, c.names.ensures.cost, c.in_default.ensures.least, c.in_default-first_not_commuting.ensures.least, c.in-Some-first_not_embedded.ensures.least)

pub returns-clause-least : goal.returns-clause-least
returns-clause-least g c = omega (arith, c.do_laws_hold.ensures.least, c.names.ensures.cost, c.in_default.ensures.least, c.in_default-first_not_commuting.ensures.least, c.in_default-first_not_embedded.ensures.least)

pub returns-in-Some-first_not_embedded-clause-cost : goal.returns-in-Some-first_not_embedded-clause-cost
returns-in-Some-first_not_embedded-clause-cost g c =
    let names = c.in_ok-names.ensures.names in
    within_budget c.args.arena.now _ _ _ c.args.steps.now _ c.count.ensures.lawful (c.deref.ensures.value ∙ names) (c.deref-2.ensures.value ∙ names) (c.deref-3.ensures.value ∙ names)
    (omega (arith, c.do_laws_hold.ensures.cost, c.names.ensures.cost, c.in_default.ensures.cost, c.in_default-first_not_commuting.ensures.cost, c.in-Some-first_not_embedded.ensures.cost))

pub returns-clause-cost : goal.returns-clause-cost
returns-clause-cost g c =
    let names = c.in_ok-names.ensures.names in
    within_budget c.args.arena.now _ _ _ c.args.steps.now _ c.count.ensures.lawful (c.deref.ensures.value ∙ names) (c.deref-2.ensures.value ∙ names) (c.deref-3.ensures.value ∙ names)
    (omega (arith, c.do_laws_hold.ensures.cost, c.names.ensures.cost, c.in_default.ensures.cost, c.in_default-first_not_commuting.ensures.cost, c.in_default-first_not_embedded.ensures.cost))

pub returns-in-Some-clause-cost : goal.returns-in-Some-clause-cost
returns-in-Some-clause-cost g c =
    let names = c.in_ok-names.ensures.names in
    within_budget c.args.arena.now _ _ _ c.args.steps.now _ c.count.ensures.lawful (c.deref.ensures.value ∙ names) (c.deref.ensures.value ∙ names) (c.deref.ensures.value ∙ names)
    (omega (arith, c.do_laws_hold.ensures.cost, c.names.ensures.cost, c.in-Some.ensures.cost))

pub returns-in-Some-first_not_commuting-clause-cost : goal.returns-in-Some-first_not_commuting-clause-cost
returns-in-Some-first_not_commuting-clause-cost g c =
    let names = c.in_ok-names.ensures.names in
    within_budget c.args.arena.now _ _ _ c.args.steps.now _ c.count.ensures.lawful (c.deref.ensures.value ∙ names) (c.deref-2.ensures.value ∙ names) (c.deref-2.ensures.value ∙ names)
    (omega (arith, c.do_laws_hold.ensures.cost, c.names.ensures.cost, c.in_default.ensures.cost, c.in-Some-first_not_commuting.ensures.cost))

pub returns-in_err-names-clause-cost : goal.returns-in_err-names-clause-cost
returns-in_err-names-clause-cost g c = within_few c.args.arena.now c.args.steps.now _ c.do_laws_hold.ensures.lawful (omega (arith, c.do_laws_hold.ensures.cost, c.names.ensures.cost))

pub returns-then-do_laws_hold-clause-generalised : goal.returns-then-do_laws_hold-clause-generalised
returns-then-do_laws_hold-clause-generalised g c =
    let laws = c.do_laws_hold.ensures.laws c.if-do_laws_hold.true in
    record {
      stays = λ d i live within. IsLiveName-alpha c.args.arena.now i d c.do_laws_hold.ensures.lawful live within;
      back = laws.back;
      commutes = laws.commute;
    }

pub returns-then-do_laws_hold-clause-well_embedded : goal.returns-then-do_laws_hold-clause-well_embedded
returns-then-do_laws_hold-clause-well_embedded g c = well_embedded c.args.arena.now c.do_laws_hold.ensures.lawful (c.do_laws_hold.ensures.laws c.if-do_laws_hold.true).shared

pub returns-then-do_laws_hold-clause-cost : goal.returns-then-do_laws_hold-clause-cost
returns-then-do_laws_hold-clause-cost g c = within_few c.args.arena.now c.args.steps.now _ c.do_laws_hold.ensures.lawful (omega (arith, c.do_laws_hold.ensures.cost))

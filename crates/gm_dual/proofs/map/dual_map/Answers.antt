use Rattle.std.proofs.Common.{◌≡◌, ℕ, ◌+◌, ◌<◌, ◌≤◌, length, is_some, sym, ap, subst, ◌∙◌, arith}
use Rattle.std.specs.FinMap.{get}
use Rattle.gm_model.specs.Limits.{most_names}
use Rattle.gm_model.specs.Maps.{IsSchema, IsSound}
use Rattle.gm_model.proofs.Exits.{unless_ok}
use Rattle.gm_arena.specs.inner.ArenaAsMap.{as_map}
use Rattle.gm_arena.specs.inner.ArenaMap.{ArenaMap}
use Rattle.gm_arena.proofs.MapLemmas.{name_below}
use Rattle.gm_walk.proofs.CountLemmas.{names_counted}
use Rattle.gm_dual.specs.Duals.{dual_schema}
use Rattle.gm_dual.specs.inner.Building.{AreLinked}
use Rattle.gm_dual.proofs.BuildLemmas.{all_linked, as_dual, none_added, none_linked}
use Rattle.gm_dual.proofs.RuleLemmas.{is_some_map}
use Rattle.gm_dual.proofs.StepLemmas.{names_within, dual_within}
use Rattle.gm_dual.proofs.SoundLemmas.{schema_dual, sound_dual}
use Rattle.gm_dual.proofs.map.dual_map.Goals as goal

has_room : (count old spare most new : ℕ) → new ≡ 0 → count ≡ old → old + spare ≤ most → new + count ≤ most
has_room count old spare most new none same few = omega (arith, none, same, few)

pub new-dual-requires : goal.new-dual-requires
new-dual-requires g c =
    let lawful = c.count-count.ensures.lawful in
    subst IsSchema (sym (c.in_ok-dual_schema.ensures ∙ ap dual_schema c.schema.ensures)) (schema_dual c.args.arena.now.schema lawful.dim.1 lawful.schema)

pub reserve-requires-clause-names : goal.reserve-requires-clause-names
reserve-requires-clause-names g c = subst (λ next. next ≤ most_names) (sym c.next.ensures.next) c.count-count.ensures.lawful.few_names

pub reserve-requires-clause-darts : goal.reserve-requires-clause-darts
reserve-requires-clause-darts g c = has_room c.count-count.result _ _ _ _ (ap (λ (x : ArenaMap). x.count) c.new-dual.ensures) c.count-count.ensures.count c.count-count.ensures.lawful.few_darts

pub add_darts-requires-clause-lawful : goal.add_darts-requires-clause-lawful
add_darts-requires-clause-lawful g c = c.count-count.ensures.lawful

pub add_darts-requires-clause-names : goal.add_darts-requires-clause-names
add_darts-requires-clause-names g c = c.deref.ensures.value ∙ c.in_ok-names.ensures.names

pub add_darts-requires-clause-none : goal.add_darts-requires-clause-none
add_darts-requires-clause-none g c =
    let m = c.args.arena.now in
    let names = c.deref.result.now in
    let counted = names_counted m names (c.deref.ensures.value ∙ c.in_ok-names.ensures.names) c.count-count.ensures.lawful in
    none_added m names c.in_ok-dual_schema.field-0 c.new-dual.result c.reserve.new.self (c.in_ok-dual_schema.ensures ∙ ap dual_schema c.schema.ensures) c.new-dual.ensures
    (omega (arith, counted, c.count-count.ensures.count, c.in_ok-reserve.ensures.darts)) (omega (arith, c.next.ensures.next, c.in_ok-reserve.ensures.names)) c.reserve.ensures.map

pub link_darts-requires-clause-lawful : goal.link_darts-requires-clause-lawful
link_darts-requires-clause-lawful g c = c.count-count.ensures.lawful

pub link_darts-requires-clause-names : goal.link_darts-requires-clause-names
link_darts-requires-clause-names g c = c.deref-2.ensures.value ∙ c.in_ok-names.ensures.names

pub link_darts-requires-clause-free : goal.link_darts-requires-clause-free
link_darts-requires-clause-free g c =
    let m = c.args.arena.now in
    let same = c.deref-2.ensures.value ∙ sym c.deref.ensures.value in
    subst (λ names. AreLinked m names 0 c.add_darts.new.dual) (sym same) (none_linked m c.deref.result.now (c.deref.ensures.value ∙ c.in_ok-names.ensures.names) c.add_darts.new.dual c.add_darts.ensures.added)

pub set_next-requires-clause-names : goal.set_next-requires-clause-names
set_next-requires-clause-names g c =
    let m = c.args.arena.now in
    let all = all_linked m c.deref-2.result.now (c.deref-2.ensures.value ∙ c.in_ok-names.ensures.names) c.link_darts.new.dual c.link_darts.ensures.linked in
    λ name live. subst (λ next. name < next) (sym c.next-2.ensures.next) (name_below m name c.count-count.ensures.lawful (sym (is_some_map _ (get m.darts name)) ∙ (sym (ap is_some (all name)) ∙ live)))

pub set_next-requires-clause-limit : goal.set_next-requires-clause-limit
set_next-requires-clause-limit g c = subst (λ next. next ≤ most_names) (sym c.next-2.ensures.next) c.count-count.ensures.lawful.few_names

pub returns-clause-dual : goal.returns-clause-dual
returns-clause-dual g c =
    let m = c.args.arena.now in
    let all = all_linked m c.deref-2.result.now (c.deref-2.ensures.value ∙ c.in_ok-names.ensures.names) c.link_darts.new.dual c.link_darts.ensures.linked in
    as_dual m c.set_next.new.self c.count-count.ensures.lawful (ap (λ (x : ArenaMap). x.schema) c.set_next.ensures ∙ c.link_darts.ensures.linked.schema_is) (ap (λ (x : ArenaMap). x.next) c.set_next.ensures ∙ c.next-2.ensures.next) (λ name. ap (λ (x : ArenaMap). get x.darts name) c.set_next.ensures ∙ all name)

pub returns-clause-sound : goal.returns-clause-sound
returns-clause-sound g c =
    let m = c.args.arena.now in
    let lawful = c.count-count.ensures.lawful in
    let all = all_linked m c.deref-2.result.now (c.deref-2.ensures.value ∙ c.in_ok-names.ensures.names) c.link_darts.new.dual c.link_darts.ensures.linked in
    let same = as_dual m c.set_next.new.self lawful (ap (λ (x : ArenaMap). x.schema) c.set_next.ensures ∙ c.link_darts.ensures.linked.schema_is) (ap (λ (x : ArenaMap). x.next) c.set_next.ensures ∙ c.next-2.ensures.next) (λ name. ap (λ (x : ArenaMap). get x.darts name) c.set_next.ensures ∙ all name) in
    subst IsSound (sym same) (sound_dual (as_map m) lawful.dim.1 lawful.schema c.requires.sound)

pub returns-in_err-names : goal.returns-in_err-names
returns-in_err-names g c = record {
  dual = unless_ok _ c.from_residual.result c.from_residual.ensures.0;
  sound = unless_ok _ c.from_residual.result c.from_residual.ensures.0;
  most = names_within c.args.arena.now.schema.dim c.args.arena.now.count c.args.steps.now _ c.names.ensures.cost;
}

pub returns-in_err-dual_schema : goal.returns-in_err-dual_schema
returns-in_err-dual_schema g c = record {
  dual = unless_ok _ c.from_residual-in_err-dual_schema.result c.from_residual-in_err-dual_schema.ensures.0;
  sound = unless_ok _ c.from_residual-in_err-dual_schema.result c.from_residual-in_err-dual_schema.ensures.0;
  most = names_within c.args.arena.now.schema.dim c.args.arena.now.count c.args.steps.now _ c.names.ensures.cost;
}

pub returns-in_err-reserve : goal.returns-in_err-reserve
returns-in_err-reserve g c = record {
  dual = unless_ok _ c.from_residual-in_err-reserve.result c.from_residual-in_err-reserve.ensures.0;
  sound = unless_ok _ c.from_residual-in_err-reserve.result c.from_residual-in_err-reserve.ensures.0;
  most = names_within c.args.arena.now.schema.dim c.args.arena.now.count c.args.steps.now _ c.names.ensures.cost;
}

pub returns-clause-most : goal.returns-clause-most
returns-clause-most g c =
    let m = c.args.arena.now in
    let counted = names_counted m c.deref.result.now (c.deref.ensures.value ∙ c.in_ok-names.ensures.names) c.count-count.ensures.lawful in
    let same = ap length (c.deref-2.ensures.value ∙ sym c.deref.ensures.value) in
    dual_within m.schema.dim m.count c.args.steps.now _ _ _ _ _ counted (same ∙ counted) c.names.ensures.cost c.add_darts.ensures.cost c.link_darts.ensures.cost

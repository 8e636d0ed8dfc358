use Rattle.std.proofs.Common.{◌≡◌, ℕ, ◌<◌, ◌≤◌, subst, sym, ap, ◌∙◌, arith}
use Rattle.std.proofs.lemmas.Result.{err_from_is_err_and}
use Rattle.std.proofs.Math.Nat.{le_trans}
use Rattle.gm_model.specs.Limits.{most_names}
use Rattle.gm_mapfile.specs.inner.Answered.{name_told}
use Rattle.gm_mapfile.specs.inner.Draft.{version_in}
use Rattle.gm_mapfile.specs.inner.Faults.{IsNamedFaultOf}
use Rattle.gm_model.proofs.Exits.{unless_ok}
use Rattle.gm_mapfile.proofs.ReadMap.{in_room, name_fault_of, sound_of, text_of_held, law_fault_of, built_within, all_within}
use Rattle.gm_mapfile.proofs.reading.map_of.Goals as goal

never_more : (next found : ℕ) → found ≡ next → next ≤ most_names → most_names < found → ⊥
never_more next found is few more = omega (arith, is, few, more)

pub build-requires-clause-room : goal.build-requires-clause-room
build-requires-clause-room g c =
    let d = c.args.draft in
    in_room c.requires.draft.0 (version_in d.stated) d.schema d.numbers.items d.values.items c.requires.draft.1

pub returns-in_err-arena-clause-fault : goal.returns-in_err-arena-clause-fault
returns-in_err-arena-clause-fault g c =
    let d = c.args.draft in
    let p = err_from_is_err_and c.from_residual.result c.from_residual.ensures.1 in
    rw (p.1, p.2) (λ text draft. name_fault_of text (version_in d.stated) d.schema d.numbers.items d.values.items draft c.in_err-arena.field-0.0 c.in_err-arena.ensures.fault)

pub returns-in_err-arena-clause-most : goal.returns-in_err-arena-clause-most
returns-in_err-arena-clause-most g c text told map draft stands =
    let d = c.args.draft in
    let built = built_within text (version_in d.stated) d.schema d.numbers.items d.values.items draft c.args.steps.now c.build.new.steps c.build.ensures.most told map stands in
    omega (arith, built)

pub returns-in-Err-clause-most : goal.returns-in-Err-clause-most
returns-in-Err-clause-most g c text told map draft stands =
    let d = c.args.draft in
    all_within text (version_in d.stated) d.schema d.numbers.items d.values.items draft c.in_ok-arena.arena c.in_ok-arena.ensures.held c.args.steps.now c.build.new.steps c.check_map.new.steps c.build.ensures.most c.check_map.ensures.cost told map stands

pub returns-clause-map : goal.returns-clause-map
returns-clause-map g c text draft =
    let d = c.args.draft in
    text_of_held text (version_in d.stated) d.schema d.numbers.items d.values.items draft c.in_ok-arena.arena c.in_ok-arena.ensures.held c.version_told-version.result c.version_told-version.ensures
    (sound_of text (version_in d.stated) d.schema d.numbers.items d.values.items draft c.in_ok-arena.arena c.in_ok-arena.ensures.held c.next.ensures.lawful c.in_default.ensures.generalised c.in_default.ensures.well_embedded)

pub returns-clause-sound : goal.returns-clause-sound
returns-clause-sound g c =
    let d = c.args.draft in
    sound_of c.requires.draft.0 (version_in d.stated) d.schema d.numbers.items d.values.items c.requires.draft.1 c.in_ok-arena.arena c.in_ok-arena.ensures.held c.next.ensures.lawful c.in_default.ensures.generalised c.in_default.ensures.well_embedded

pub returns-clause-most : goal.returns-clause-most
returns-clause-most g c text told map draft stands =
    let d = c.args.draft in
    all_within text (version_in d.stated) d.schema d.numbers.items d.values.items draft c.in_ok-arena.arena c.in_ok-arena.ensures.held c.args.steps.now c.build.new.steps c.check_map.new.steps c.build.ensures.most c.check_map.ensures.cost told map stands

pub returns-in_err-arena-clause-map : goal.returns-in_err-arena-clause-map
returns-in_err-arena-clause-map g c = unless_ok _ c.from_residual.result c.from_residual.ensures.0

pub returns-in_err-arena-clause-sound : goal.returns-in_err-arena-clause-sound
returns-in_err-arena-clause-sound g c = unless_ok _ c.from_residual.result c.from_residual.ensures.0

pub returns-in_err-arena-clause-least : goal.returns-in_err-arena-clause-least
returns-in_err-arena-clause-least g c = unless_ok _ c.from_residual.result c.from_residual.ensures.0

pub returns-in-Err-clause-fault : goal.returns-in-Err-clause-fault
returns-in-Err-clause-fault g c text draft =
    let d = c.args.draft in
    let arena = c.in_ok-arena.arena in
    let fault = law_fault_of text (version_in d.stated) d.schema d.numbers.items d.values.items draft arena c.in_ok-arena.ensures.held c.next.ensures.lawful c.in-Err.fault c.in-Err.ensures.fault in
    let named = c.why_broken-no_map.ensures.embed ∙ ap (λ embeds. name_told embeds c.in-Err.fault) (c.as_slice.ensures ∙ ap (λ s. s.embeds) c.schema.ensures) in
    subst (λ told. IsNamedFaultOf text c.why_broken-no_map.result.fault told) (sym named) (subst (λ fault. IsNamedFaultOf text fault (name_told arena.schema.embeds c.in-Err.fault)) (sym c.why_broken-no_map.ensures.fault) fault)

pub build-requires-clause-schema : goal.build-requires-clause-schema
build-requires-clause-schema g c = c.requires.schema

pub build-requires-clause-next : goal.build-requires-clause-next
build-requires-clause-next g c = c.requires.next

pub prove-unreachable-requires : goal.prove-unreachable-requires
prove-unreachable-requires g c = never_more c.in_ok-arena.arena.next c.next.result c.next.ensures.next c.next.ensures.lawful.few_names c.if-prove.true

pub returns-clause-least : goal.returns-clause-least
returns-clause-least g c = le_trans c.in_ok-arena.ensures.least c.in_default.ensures.least

use Rattle.gm_mapfile.proofs.Joined.{if_err}
use Rattle.gm_model.proofs.Exits.{unless_ok}
use Rattle.std.proofs.Common.{arith}
use Rattle.std.proofs.lemmas.Result.{err_from_is_err_and, IfOk-weaker}
use Rattle.gm_mapfile.proofs.ReadMap.{text_fault_named}
use Rattle.gm_mapfile.proofs.reading.read_map_or_why.Goals as goal

pub returns-in_err-draft-clause-fault : goal.returns-in_err-draft-clause-fault
returns-in_err-draft-clause-fault g c =
    let p = err_from_is_err_and c.from_residual.result c.from_residual.ensures.1 in
    rw (p.1, p.2) (text_fault_named c.args.bytes.now c.in_err-draft.field-0.0 c.in_err-draft.ensures.fault)

pub returns-clause-map : goal.returns-clause-map
returns-clause-map g c = IfOk-weaker c.map_of.result _ _ (λ read stands. stands c.args.bytes.now c.in_ok-draft.ensures.draft) c.map_of.ensures.map

pub returns-clause-most : goal.returns-clause-most
returns-clause-most g c told map stands = c.map_of.ensures.most c.args.bytes.now told map c.in_ok-draft.ensures.draft stands

pub map_of-requires-clause-draft : goal.map_of-requires-clause-draft
map_of-requires-clause-draft g c = (c.args.bytes.now, c.in_ok-draft.ensures.draft)

pub map_of-requires-clause-schema : goal.map_of-requires-clause-schema
map_of-requires-clause-schema g c = c.in_ok-draft.ensures.schema

pub map_of-requires-clause-next : goal.map_of-requires-clause-next
map_of-requires-clause-next g c = c.in_ok-draft.ensures.next

pub returns-in_err-draft-clause-map : goal.returns-in_err-draft-clause-map
returns-in_err-draft-clause-map g c = unless_ok _ c.from_residual.result c.from_residual.ensures.0

pub returns-in_err-draft-clause-sound : goal.returns-in_err-draft-clause-sound
returns-in_err-draft-clause-sound g c = unless_ok _ c.from_residual.result c.from_residual.ensures.0

pub returns-in_err-draft-clause-least : goal.returns-in_err-draft-clause-least
returns-in_err-draft-clause-least g c = unless_ok _ c.from_residual.result c.from_residual.ensures.0

pub returns-in_err-draft-clause-most : goal.returns-in_err-draft-clause-most
returns-in_err-draft-clause-most g c told map stands = omega arith

pub returns-clause-sound : goal.returns-clause-sound
returns-clause-sound g c = c.map_of.ensures.sound

pub returns-clause-fault : goal.returns-clause-fault
returns-clause-fault g c = if_err c.map_of.result (λ no_map why. why c.args.bytes.now (c.in_ok-draft.ensures.draft)) c.map_of.ensures.fault

pub returns-clause-least : goal.returns-clause-least
returns-clause-least g c = c.map_of.ensures.least

use Rattle.std.proofs.Common.{◌≡◌, Bool, true, false, not, if◌then◌else◌, Some, None, refl, ap, ◌∙◌}
use Rattle.std.specs.Bool.{then_some}
use Rattle.gm_model.specs.Names.{is_among}
use Rattle.gm_model.specs.Tokens.{bytes_of}
use Rattle.gm_forms.specs.declared.key.NameKey.{NameKey}
use Rattle.gm_forms.specs.BookText.{with_name}
use Rattle.gm_forms.specs.inner.Held.{names_at, names_held}
use Rattle.gm_forms.proofs.HeldNames.{among_held, taken_in}
use Rattle.gm_book.specs.declared.names.NameFault.{NameFault}
use Rattle.gm_model.proofs.Exits.{unless_ok, never_ok}
use Rattle.gm_book.proofs.names.take_in.Goals as goal

-- the fault is there where the name was
there : (known added : Bool) (fault : NameFault) → added ≡ not known → then_some (not added) fault ≡ (if known then Some fault else None)
there true added fault new = rw new refl
there false added fault new = rw new refl

pub returns-clause-held : goal.returns-clause-held
returns-clause-held c =
    let key : NameKey = record { bytes = c.bytes_in-bytes.result } in
    ap names_at c.in_ok-added.ensures.keys ∙ taken_in c.args.table.now.keys key ∙ ap (with_name (names_held c.args.table.now)) c.bytes_in-bytes.ensures

pub returns-clause-fault : goal.returns-clause-fault
returns-clause-fault c =
    let key : NameKey = record { bytes = c.bytes_in-bytes.result } in
    let names = names_held c.args.table.now in
    let known = is_among names (bytes_of c.args.text.now c.args.name.now) in
    let new : c.in_ok-added.added ≡ not known = c.in_ok-added.ensures.added ∙ ap not (among_held c.args.table.now.keys key) ∙ ap (λ bytes. not (is_among names bytes)) c.bytes_in-bytes.ensures in
    c.then_some.ensures ∙ there known c.in_ok-added.added _ new

pub returns-in_err-added-clause-held : goal.returns-in_err-added-clause-held
returns-in_err-added-clause-held c = never_ok _ c.from_residual.result c.from_residual.ensures.0

pub returns-in_err-added-clause-fault : goal.returns-in_err-added-clause-fault
returns-in_err-added-clause-fault c = unless_ok _ c.from_residual.result c.from_residual.ensures.0

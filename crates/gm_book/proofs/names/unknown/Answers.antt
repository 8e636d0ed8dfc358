use Rattle.std.proofs.Common.{◌≡◌, true, false, refl, sym, ap, ◌∙◌}
use Rattle.gm_model.specs.Names.{is_among}
use Rattle.gm_model.specs.Tokens.{bytes_of}
use Rattle.gm_forms.specs.inner.Held.{names_held}
use Rattle.gm_forms.proofs.HeldNames.{among_held}
use Rattle.gm_book.proofs.names.unknown.Goals as goal

pub returns-then-contains : goal.returns-then-contains
returns-then-contains c =
    let here : is_among (names_held c.args.table.now) (bytes_of c.args.text.now c.args.name.now) ≡ true =
    ap (is_among (names_held c.args.table.now)) (sym c.bytes_in-bytes.ensures) ∙ (sym (among_held c.args.table.now.keys (record { bytes = c.bytes_in-bytes.result })) ∙ (sym c.contains.ensures ∙ c.if-contains.true)) in
    rw here refl

pub returns-else-contains : goal.returns-else-contains
returns-else-contains c =
    let absent : is_among (names_held c.args.table.now) (bytes_of c.args.text.now c.args.name.now) ≡ false =
    ap (is_among (names_held c.args.table.now)) (sym c.bytes_in-bytes.ensures) ∙ (sym (among_held c.args.table.now.keys (record { bytes = c.bytes_in-bytes.result })) ∙ (sym c.contains.ensures ∙ c.if-contains.false)) in
    rw absent refl

use Rattle.std.proofs.Common.{◌≡◌, ℕ, ◌+◌, ◌-◌, ◌≤◌, length, take, drop, refl, sym, ap, ap₂, subst, arith}
use Rattle.std.proofs.lemmas.List.{length-take}
use Rattle.gm_model.specs.declared.token.TokenKind.TheVariants as tokens
use Rattle.gm_text.specs.inner.Cursor.{Cursor}
use Rattle.gm_script.specs.inner.Reading.{IsSeenNext}
use Rattle.gm_script.proofs.SmallParts.{word_next}
use Rattle.gm_script.proofs.near.word_of_lead.Goals as goal

pub returns-clause-seen : goal.returns-clause-seen
returns-clause-seen c = λ sight is_lead.
    let text = c.args.bytes.now in
    let place = c.place-place.result in
    let lead = take c.args.size c.args.lead in
    let size : length lead ≡ c.args.size = omega (arith, c.fits-lead.0, c.requires.few, length-take {A = ℕ}) in
    let there : take c.args.size (drop place text) ≡ lead = c.if-not-stands_at.ensures refl in
    let within : place + length lead ≤ length text = omega (arith, size, c.requires.few, c.if-bytes-place-lt-LANES.false, c.place-place.ensures.within, ap length c.requires.bytes) in
    let is : record { text = text; place = place } ≡ c.args.lexer.now = ap₂ (λ t p. let cursor : Cursor = record { text = t; place = p } in cursor) (sym c.requires.bytes) c.place-place.ensures.value in
    let next = word_next lead sight is_lead text place (rw size there) within in
    rw c.at.ensures (subst (λ (n : ℕ). IsSeenNext c.args.lexer.now sight (record { kind = tokens.Name; start = place + 1; end = place + n - 1 }) (record { text = text; place = place + n - 1 })) size
    (subst (λ (old : Cursor). IsSeenNext old sight (record { kind = tokens.Name; start = place + 1; end = place + length lead - 1 }) (record { text = text; place = place + length lead - 1 })) is next))

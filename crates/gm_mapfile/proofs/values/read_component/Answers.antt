use Rattle.std.proofs.Common.{rules, ◌≡◌, ◌≤◌, true, false, pos, ◌∷◌, [], refl, subst, to_z, arith}
use Rattle.std.specs.Int.{w64}
use Rattle.std.specs.Prelude.{IfOk, IfErr}
use Rattle.gm_text.specs.inner.Cursor.{Cursor}
use Rattle.gm_text.specs.ValueText.{greatest, is_channel}
use Rattle.gm_mapfile.specs.MapReading.{Takes, Misses, Component}
use Rattle.gm_mapfile.proofs.ValueSteps.{component_takes}
use Rattle.gm_mapfile.proofs.WordTokens.{plain_next}
use Rattle.gm_mapfile.proofs.values.read_component.Goals.{else-colour-via-then-colour+else-value-gt255, else-colour-via-else-colour}
use Rattle.gm_mapfile.proofs.values.read_component.Goals as goal

pub returns-clause-takes : goal.returns-clause-takes
returns-clause-takes c =
    let found = c.in-Some.field-0 in
    let between = c.args.lexer.now in
    let new = c.numeral_behind.new.lexer in
    let back : to_z w64 found.value ≡ pos found.value = search rules in
    let small : found.value ≤ greatest false = omega (arith, c.in-Some.ensures.small) in
    let channel : c.args.colour ≡ true → is_channel (pos found.value) ≡ true = elim c.else-colour.branch [
      | else-colour-via-then-colour+else-value-gt255 w ↦ λ e. search rules
      | else-colour-via-else-colour w ↦ λ e. search rules
    ] in
    rw back (component_takes c.args.colour between false found.value found.place new (plain_next between new found.value found.place c.in-Some.ensures.next) (pos found.value) small refl channel)

pub returns-in_default-clause-takes : goal.returns-in_default-clause-takes
returns-in_default-clause-takes c =
    let read = c.read_other_component in
    subst (λ (old : Cursor). IfOk read.result (λ n. Takes (Component c.args.colour ∷ []) (n ∷ []) old read.new.lexer)) c.in_default.ensures.none read.ensures.takes

pub returns-in_default-clause-channel : goal.returns-in_default-clause-channel
returns-in_default-clause-channel c = c.read_other_component.ensures.channel

pub returns-in_default-clause-misses : goal.returns-in_default-clause-misses
returns-in_default-clause-misses c = subst (λ (old : Cursor). IfErr c.read_other_component.result (Misses (Component c.args.colour ∷ []) old)) c.in_default.ensures.none c.read_other_component.ensures.misses

use Rattle.std.proofs.Common.{◌≡◌, ◌≤◌, ◌<◌, length, get_or, sym, ap, ◌∙◌, arith}
use Rattle.std.proofs.lemmas.Bool.{ltb-false, ltb-true}
use Rattle.std.proofs.lemmas.List.{get_or_default}
use Rattle.gm_walk.proofs.MarkLemmas.{not_within, place_told}
use Rattle.gm_walk.proofs.scratch.Scratch.place.Goals as goal

pub returns-in_err-get : goal.returns-in_err-get
returns-in_err-get c =
    let past : length c.deref.result.now ≤ c.args.slot.at = ltb-false _ _ (sym c.in_err-get.ensures.lookup.0) in
    rw (c.from_residual.ensures, ← c.self.view_is) (not_within _ _ c.self.invariant.marked c.args.slot (omega (arith, past, ap length c.deref.ensures.value)))

pub returns : goal.returns
returns c =
    let within : c.args.slot.at < length c.deref.result.now = ltb-true _ _ (sym c.in_ok-get.ensures.lookup.0) in
    let mark : get_or c.self.inside.marks.items c.args.slot.at 0 ≡ c.in_ok-get.field-0.now =
    ap (λ xs. get_or xs c.args.slot.at 0) (sym c.deref.ensures.value)
    ∙ (get_or_default c.deref.result.now c.args.slot.at 0 c.in_ok-get.field-0.now within ∙ sym c.in_ok-get.ensures.lookup.1) in
    rw (← c.self.view_is) (place_told _ _ c.self.invariant.marked c.args.slot c.in_ok-get.field-0.now c.checked_sub.result mark c.checked_sub.ensures)

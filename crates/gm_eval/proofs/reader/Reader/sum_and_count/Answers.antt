use Rattle.std.proofs.lemmas.Int.{ints}
use Rattle.std.proofs.Common.{◌≡◌, ◌≤◌, ◌<◌, ℕ, ℤ, length, List, Some, get_or, slice_get, ap, subst, sym, ◌∙◌, refl, arith}
use Rattle.gm_arena.specs.declared.slot.Slot.{Slot}
use Rattle.gm_model.specs.declared.schema.Embed.{Embed}
use Rattle.gm_model.specs.declared.schema.Schema.{Schema}
use Rattle.gm_eval.specs.inner.Sums.{parts_at, sum_of}
use Rattle.gm_walk.specs.inner.Lent.{slots_of}
use Rattle.gm_walk.specs.inner.Walks.{AreLive}
use Rattle.gm_eval.proofs.Collected.{count_found, sum_found, within}
use Rattle.gm_eval.proofs.Ready.{count_ready, embed_read, kinds_at, sum_kind_of, sum_known}
use Rattle.gm_eval.proofs.reader.Reader.sum_and_count.Goals as goal

pub orbit-walk-requires-clause-ready : goal.orbit-walk-requires-clause-ready
orbit-walk-requires-clause-ready g c =
    let ready = c.requires.ready in
    count_ready c.args.self.now _ ready c.args.mask c.args.term.now ready.typed.has_kind.in_range.0 ready.typed.has_kind.in_range.1

pub add_up-requires : goal.add_up-requires
add_up-requires g c =
    let same = sym c.slots-2.ensures.value in
    record {
      live = subst (AreLive c.args.self.now.arena.now) same c.orbit-walk.ensures.orbit.live;
      few = subst (λ (slots : List Slot). length slots ≤ 4294967295) same c.slots-2.ensures.most;
      embed = c.requires.ready.typed.has_kind.in_range.2;
    }

pub value-sum-requires : goal.value-sum-requires
value-sum-requires g c =
    let reader = c.args.self.now in
    let ready = c.requires.ready in
    let embeds = c.as_slice.ensures ∙ ap (λ (schema : Schema). schema.embeds) c.schema.ensures in
    record { kind = sum_known reader c.args.mask c.args.term.now c.args.embed ready _ (embed_read reader.arena.now.schema.embeds c.as_slice.result.now c.args.embed c.index-as_slice-embed.result embeds ready.typed.has_kind.in_range.2) }

pub returns-clause-sum : goal.returns-clause-sum
returns-clause-sum g c =
    let reader = c.args.self.now in
    let m = reader.arena.now in
    let e = c.args.embed in
    let term = c.args.term.now in
    let ready = c.requires.ready in
    let embeds : c.as_slice.result.now ≡ m.schema.embeds = c.as_slice.ensures ∙ ap (λ (schema : Schema). schema.embeds) c.schema.ensures in
    let embed : Embed = get_or c.as_slice.result.now e c.index-as_slice-embed.result in
    let at : slice_get m.schema.embeds e ≡ Some embed = embed_read m.schema.embeds c.as_slice.result.now e c.index-as_slice-embed.result embeds ready.typed.has_kind.in_range.2 in
    let sum = sum_kind_of reader c.args.mask term e ready embed at in
    let slots = slots_of c.orbit-walk.result in
    let same = c.slots-2.ensures.value in
    let part_sum : ℕ → List Slot → ℤ = λ k xs. sum_of (parts_at m e k xs) in
    sum_found reader c.args.mask term slots c.orbit-walk.ensures.orbit e embed.kind (kinds_at reader ready.here e embed embed.kind at refl slots c.orbit-walk.ensures.orbit.live)
    sum.0 c.add_up.result.x c.add_up.result.y c.add_up.result.z c.value-sum.result sum.1
    (c.add_up.ensures.x ∙ ap (part_sum 0) same) (c.add_up.ensures.y ∙ ap (part_sum 1) same) (c.add_up.ensures.z ∙ ap (part_sum 2) same) (c.value-sum.ensures sum.0 sum.1)

pub returns-clause-cost : goal.returns-clause-cost
returns-clause-cost g c =
    let reader = c.args.self.now in
    let ready = c.requires.ready in
    let same = ap (λ (slots : List Slot). length slots) c.slots-2.ensures.value in
    within reader c.args.mask c.args.term.now (slots_of c.orbit-walk.result) c.orbit-walk.ensures.orbit _ _ (omega (arith, c.orbit-walk.ensures.cost, c.add_up.ensures.cost, same))

pub returns-clause-count : goal.returns-clause-count
returns-clause-count g c =
    let reader = c.args.self.now in
    let ready = c.requires.ready in
    let same = ap (λ (slots : List Slot). length slots) c.slots.ensures.value in
    count_found reader c.args.mask c.args.term.now (slots_of c.orbit-walk.result) c.orbit-walk.ensures.orbit _ c.int-count.result (omega (arith, ints, same, c.slots.ensures.most)) c.int-count.ensures

pub orbit-walk-requires-clause-fits : goal.orbit-walk-requires-clause-fits
orbit-walk-requires-clause-fits g c = c.requires.fits

pub bounds-as_slice-embed : goal.bounds-as_slice-embed
bounds-as_slice-embed g c =
    let embeds = c.as_slice.ensures ∙ ap (λ (schema : Schema). schema.embeds) c.schema.ensures in
    subst (λ (xs : List Embed). c.args.embed < length xs) (sym embeds) c.requires.ready.typed.has_kind.in_range.2

pub returns-clause-least : goal.returns-clause-least
returns-clause-least g c = omega (arith, c.orbit-walk.ensures.least, c.add_up.ensures.cost)

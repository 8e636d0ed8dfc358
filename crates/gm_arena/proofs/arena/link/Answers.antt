use Rattle.std.proofs.Common.{◌≡◌, ℕ, ◌+◌, ◌*◌, ◌<◌, ◌≤◌, List, length, drop, get_or, slice_set, refl, sym, ap, ap₂, subst, ◌∙◌, arith}
use Rattle.std.proofs.Math.Numerals.{add-one}
use Rattle.std.proofs.Math.Seq.{drop-cons}
use Rattle.std.proofs.lemmas.List.{drop_all, length-set}
use Rattle.std.specs.List.{zip}
use Rattle.gm_arena.specs.inner.Inside.{linked}
use Rattle.gm_arena.specs.declared.slot.Slot.{Slot}
use Rattle.gm_arena.proofs.arena.link.Goals as goal

module _ (labels label : ℕ) (from to neighbours : List Slot) (at : ℕ) where
  -- the next of those that are left is linked first
  link_more : (first : Slot) → at < length from → at < length to
      → linked labels label (zip (drop at from) (drop at to)) neighbours ≡ linked labels label (zip (drop (at + 1) from) (drop (at + 1) to)) (slice_set neighbours ((get_or from at first).at * labels + label) (get_or to at first))
  link_more first more next = rw add-one (ap₂ (λ (f t : List Slot). linked labels label (zip f t) neighbours) (drop-cons from at first more) (drop-cons to at first next))

  link_no_more : length from ≤ at → linked labels label (zip (drop at from) (drop at to)) neighbours ≡ neighbours
  link_no_more past = ap (λ (f : List Slot). linked labels label (zip f (drop at to)) neighbours) (drop_all at from past)

within : (part label labels all now : ℕ) → part + labels ≤ all → label < labels → now ≡ all → part + label < now
within part label labels all now fits low same = omega (arith, fits, low, same)

pub loop-at-init : goal.loop-at-init
loop-at-init c = record { items = refl; long = refl }

pub bounds-from-at : goal.bounds-from-at
bounds-from-at c = c.loop-at-test.true

pub bounds-to-at : goal.bounds-to-at
bounds-to-at c = subst (λ (n : ℕ). c.loop-at.at < n) (sym c.requires.long) c.loop-at-test.true

pub bounds-neighbours-slot : goal.bounds-neighbours-slot
bounds-neighbours-slot c = within _ c.args.label c.args.labels (length c.args.neighbours.now) (length c.loop-at.neighbours) (c.requires.within c.loop-at.at _ c.loop-at-test.true) c.requires.label c.loop-at.invariant.long

pub loop-at-preserved : goal.loop-at-preserved
loop-at-preserved c =
    let next : c.loop-at.at < length c.args.to.now = subst (λ (n : ℕ). c.loop-at.at < n) (sym c.requires.long) c.loop-at-test.true in
    record {
      items = sym (link_more c.args.labels c.args.label c.args.from.now c.args.to.now c.loop-at.neighbours c.loop-at.at _ c.loop-at-test.true next) ∙ c.loop-at.invariant.items;
      long = length-set _ _ _ ∙ c.loop-at.invariant.long;
    }

pub returns : goal.returns
returns c = sym (link_no_more c.args.labels c.args.label c.args.from.now c.args.to.now c.loop-at.neighbours c.loop-at.at c.loop-at-test.false) ∙ c.loop-at.invariant.items

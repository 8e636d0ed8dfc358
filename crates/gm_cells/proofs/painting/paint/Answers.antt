use Rattle.std.proofs.Common.{◌≡◌, ℕ, ◌+◌, ◌-◌, ◌%◌, ◌<◌, ◌≤◌, Fits, w64, length, ◌∷◌, ◌++◌, [], true, refl, sym, ap, subst, ◌∙◌, arith}
use Rattle.std.proofs.lemmas.List.{length-set}
use Rattle.gm_model.proofs.Exits.{unless_ok}
use Rattle.gm_arena.proofs.MapLemmas.{IsAt-name_at}
use Rattle.gm_arena.specs.inner.ArenaMap.{name_at}
use Rattle.gm_cells.specs.inner.Painted.{IsPainting}
use Rattle.gm_cells.proofs.PaintLemmas.{begun, all_painted}
use Rattle.gm_cells.proofs.painting.paint.Goals as goal

never_past : (at bound found : ℕ) → at < bound → found ≡ bound → found ≤ at → ⊥
never_past at bound found low is past = omega (arith, low, is, past)

next_fits : (at long : ℕ) → at < long → long < 18446744073709551616 → Fits w64 (at + 1)
next_fits at long low word = omega (arith, low, word)

-- the darts that are queued were without a colour
less_left : (at queued left all : ℕ) → queued + left ≡ all → at < queued → all - (at + 1) < all - at
less_left at queued left all counted low = omega (arith, counted, low)

colour_some : (colour long : ℕ) → colour ≡ long % 2 + 1 → 0 < colour
colour_some colour long is = omega (arith, is)

colour_two : (colour long : ℕ) → colour ≡ long % 2 + 1 → colour ≤ 2
colour_two colour long is = omega (arith, is)

pub loop-at-init : goal.loop-at-init
loop-at-init g c =
    let m = c.args.arena.now in
    let d = name_at m c.args.from.at in
    let lawful = c.bound.ensures.lawful in
    let queued = c.in_ok-push.ensures.items ∙ ap (λ xs. xs ++ c.args.from ∷ []) c.clear.ensures.items in
    record {
      long = length-set c.args.colours.now c.args.from.at 1;
      painting = subst (IsPainting m d c.args.colours.now 0 0 true _) (sym queued)
          (begun m d c.args.colours.now c.args.from c.requires.fresh lawful c.requires.live refl (subst (λ (n : ℕ). c.args.from.at < n) (sym c.requires.long) (lawful.below_bound c.args.from.at _ (IsAt-name_at m c.args.from.at c.requires.live))));
    }

pub loop-at-preserved : goal.loop-at-preserved
loop-at-preserved g c = record {
  long = c.in_ok-fits.ensures.long ∙ c.loop-at.invariant.long;
  painting = c.in_ok-fits.ensures.painting _ _ c.loop-at.invariant.painting;
}

pub returns-in_err-push-clause-painted : goal.returns-in_err-push-clause-painted
returns-in_err-push-clause-painted g c = unless_ok _ c.from_residual.result c.from_residual.ensures.0

pub returns-in_err-push-clause-long : goal.returns-in_err-push-clause-long
returns-in_err-push-clause-long g c = length-set c.args.colours.now c.args.from.at 1

pub paint_neighbours-requires-clause-lawful : goal.paint_neighbours-requires-clause-lawful
paint_neighbours-requires-clause-lawful g c = c.bound.ensures.lawful

pub paint_neighbours-requires-clause-long : goal.paint_neighbours-requires-clause-long
paint_neighbours-requires-clause-long g c = c.loop-at.invariant.long ∙ c.requires.long

pub returns-in_err-fits-clause-painted : goal.returns-in_err-fits-clause-painted
returns-in_err-fits-clause-painted g c = unless_ok _ c.from_residual-in_err-fits.result c.from_residual-in_err-fits.ensures.0

pub returns-in_err-fits-clause-long : goal.returns-in_err-fits-clause-long
returns-in_err-fits-clause-long g c = c.paint_neighbours.ensures.long ∙ c.loop-at.invariant.long

pub returns-clause-long : goal.returns-clause-long
returns-clause-long g c = c.loop-at.invariant.long

pub prove-unreachable-requires : goal.prove-unreachable-requires
prove-unreachable-requires g c =
    never_past c.args.from.at _ _ (c.bound.ensures.lawful.below_bound c.args.from.at _ (IsAt-name_at c.args.arena.now c.args.from.at c.requires.live)) c.bound.ensures.bound c.if-prove.true

pub bounds-colours-from : goal.bounds-colours-from
bounds-colours-from g c = subst (λ (n : ℕ). c.args.from.at < n) (sym c.requires.long) (c.bound.ensures.lawful.below_bound c.args.from.at _ (IsAt-name_at c.args.arena.now c.args.from.at c.requires.live))

pub paint_neighbours-requires-clause-generalised : goal.paint_neighbours-requires-clause-generalised
paint_neighbours-requires-clause-generalised g c = c.requires.generalised

pub paint_neighbours-requires-clause-within : goal.paint_neighbours-requires-clause-within
paint_neighbours-requires-clause-within g c = subst (λ (n : ℕ). c.loop-at.at < n) (c.len.ensures ∙ c.loop-at.queue.ok.0) c.loop-at-test.true

pub paint_neighbours-requires-clause-live : goal.paint_neighbours-requires-clause-live
paint_neighbours-requires-clause-live g c = c.loop-at.invariant.painting.live c.loop-at.at (subst (λ (n : ℕ). c.loop-at.at < n) (c.len.ensures ∙ c.loop-at.queue.ok.0) c.loop-at-test.true)

pub paint_neighbours-requires-clause-some : goal.paint_neighbours-requires-clause-some
paint_neighbours-requires-clause-some g c = let led = c.loop-at.invariant.painting.led c.loop-at.at (subst (λ (n : ℕ). c.loop-at.at < n) (c.len.ensures ∙ c.loop-at.queue.ok.0) c.loop-at-test.true) in colour_some _ (length led.labels) led.colour

pub paint_neighbours-requires-clause-two : goal.paint_neighbours-requires-clause-two
paint_neighbours-requires-clause-two g c = let led = c.loop-at.invariant.painting.led c.loop-at.at (subst (λ (n : ℕ). c.loop-at.at < n) (c.len.ensures ∙ c.loop-at.queue.ok.0) c.loop-at-test.true) in colour_two _ (length led.labels) led.colour

pub overflow_add-at : goal.overflow_add-at
overflow_add-at g c = next_fits c.loop-at.at c.len.result c.loop-at-test.true c.len.type_inv

pub loop-at-smaller : goal.loop-at-smaller
loop-at-smaller g c = less_left c.loop-at.at _ _ _ c.loop-at.invariant.painting.counted (subst (λ (n : ℕ). c.loop-at.at < n) (c.len.ensures ∙ c.loop-at.queue.ok.0) c.loop-at-test.true)

pub returns-clause-painted : goal.returns-clause-painted
returns-clause-painted g c =
    let l = c.loop-at in
    all_painted c.args.arena.now (name_at c.args.arena.now c.args.from.at) c.args.colours.now l.at l.fits l.colours l.queue.items (subst (λ (n : ℕ). n ≤ l.at) (c.len.ensures ∙ l.queue.ok.0) c.loop-at-test.false) l.invariant.painting

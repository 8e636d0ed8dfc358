use Rattle.std.proofs.Common.{ℕ, ◌+◌, ◌*◌, arith, below_more}
use Rattle.std.proofs.lemmas.Bool.{and_parts}
use Rattle.gm_arena.specs.inner.ArenaMap.{name_at}
use Rattle.gm_arena.proofs.MapLemmas.{IsAt-name_at}
use Rattle.gm_laws.specs.inner.Darts.{IsLabel}
use Rattle.gm_laws.specs.inner.Holding.{Holds}
use Rattle.gm_laws.proofs.CostLemmas.{more_each}
use Rattle.gm_laws.proofs.HoldingLemmas.{keeps_laws}
use Rattle.gm_laws.proofs.holding.do_slots_hold_along.Goals as goal

pub loop-at-preserved : goal.loop-at-preserved
loop-at-preserved g c =
    let m = c.args.arena.now in
    let i = c.loop-at.invariant in
    let labels = m.schema.dim + 1 in
    let e = c.does_dart_hold-hold.ensures in
    record {
      holds = λ told. let both = and_parts _ _ told in below_more (λ at. (i : ℕ) → IsLabel m i → Holds m at (name_at m at) i) c.loop-at.at (i.holds both.0) (e.holds both.1);
      cost = more_each c.args.steps.now c.loop-at.steps c.does_dart_hold-hold.new.steps (labels * labels + 1) c.loop-at.at i.cost e.cost;
      least = omega (arith, i.least, e.least);
    }

pub returns-clause-laws : goal.returns-clause-laws
returns-clause-laws g c = λ told.
    let m = c.args.arena.now in
    keeps_laws m c.requires.lawful (λ slot label live within.
    let below = c.requires.lawful.below_bound slot (name_at m slot) (IsAt-name_at m slot live) in
    c.loop-at.invariant.holds told slot (omega (arith, below, c.loop-at-test.false, c.requires.bound, c.loop-at.auto.at-end)) label within)

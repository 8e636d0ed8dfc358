use Rattle.std.proofs.Common.{ℕ, ◌<◌, refl, ◌∙◌, arith}
use Rattle.gm_arena.specs.inner.ArenaMap.{IsLiveName, name_at}
use Rattle.gm_arena.proofs.MapLemmas.{name_below, IsLiveName-without_dart, alpha-without_dart_other}
use Rattle.gm_tests.proofs.arena.remove_eight.Goals as goal

pub loop-name-preserved : goal.loop-name-preserved
loop-name-preserved g c =
    let m = c.loop-name.arena in
    let slot = c.expect-slot.result.at in
    let still = IsLiveName-without_dart m slot (name_at m slot) in
    rw c.remove.ensures.map (record {
      free = λ name label live within.
          let was = still name live in
          alpha-without_dart_other m slot (name_at m slot) label name was.0 ∙ c.loop-name.invariant.free name label was.1 within;
      only = λ name live. c.loop-name.invariant.only name (still name live).1;
      schema = c.loop-name.invariant.schema;
      room = omega (arith, c.loop-name.invariant.room);
      names = c.loop-name.invariant.names;
    })

pub loop-name-init : goal.loop-name-init
loop-name-init g c =
    let only : (name : ℕ) → IsLiveName c.args.arena.now name → name < 8 = λ name live. omega (arith, name_below c.args.arena.now name c.next.ensures.lawful live, c.next.ensures.next) in
    record {
      free = λ name label live within. c.requires.free name label (only name live) within;
      only = only;
      schema = refl;
      room = omega arith;
      names = refl;
    }

use Rattle.gm_undo.proofs.Sums.{never_more, one_fits}
use Rattle.std.proofs.Common.{◌≡◌, ◌+◌, ◌*◌}
use Rattle.std.proofs.Common.{ℕ, length, refl, ap, subst, ◌∙◌, arith, Some}
use Rattle.std.proofs.Math.Nat.{le_antisymm}
use Rattle.gm_undo.specs.inner.Keeping.{AreAddedKept}
use Rattle.gm_arena.specs.inner.ArenaMap.{Dart, name_at}
use Rattle.gm_arena.proofs.InsideLemmas.{some_of}
use Rattle.gm_arena.proofs.MapLemmas.{name_at-is, name_below}
use Rattle.std.specs.FinMap.{get}
use Rattle.gm_undo.proofs.Keep.{added_more, added_none}
use Rattle.gm_undo.proofs.keeping.keep_added.Goals as goal

pub overflow_add-first : goal.overflow_add-first
overflow_add-first g c =
    let name = c.args.first + c.loop-number.number in
    omega (arith, name_below c.args.arena.now name c.count.ensures.lawful (c.requires.live c.loop-number.number c.loop-number-test.true), c.count.ensures.lawful.few_names)

pub loop-number-preserved : goal.loop-number-preserved
loop-number-preserved g c =
    let m = c.args.arena.now in
    let number = c.loop-number.number in
    let inv = c.loop-number.invariant in
    let slot = c.in-Some.slot.at in
    let name : name_at m slot ≡ c.args.first + number = name_at-is m slot (c.args.first + number) c.in-Some.ensures.slot in
    let d : (dart : Dart) × (get m.darts (c.args.first + number) ≡ Some dart) = some_of (get m.darts (c.args.first + number)) (c.requires.live number c.loop-number-test.true) in
    let next : (m.schema.dim + 3) * (number + 1) ≡ (m.schema.dim + 3) * number + (m.schema.dim + 3) = grind arith in
    record {
      kept = rw (c.push.ensures.row d.0 (ap (get m.darts) name ∙ d.1)) (added_more m c.args.first c.args.rows.now number c.loop-number.rows (name_at m slot) d.0 inv.kept name d.1);
      steps = omega (arith, inv.steps, c.push.ensures.cost, c.in-Some.ensures.cost, next);
    }

pub prove-unreachable-requires : goal.prove-unreachable-requires
prove-unreachable-requires g c = never_more c.args.arena.now c.count.result c.count.ensures.lawful c.count.ensures.count c.if-prove.true

no_steps : (start wide : ℕ) → start ≡ start + wide * 0
no_steps start wide = omega arith

pub loop-number-init : goal.loop-number-init
loop-number-init g c = record { kept = added_none c.args.arena.now c.args.first c.args.rows.now; steps = no_steps c.args.steps.now (c.args.arena.now.schema.dim + 3) }

pub push-requires-clause-room : goal.push-requires-clause-room
push-requires-clause-room g c =
    let kept = c.loop-number.invariant.kept in
    one_fits (length c.loop-number.rows.rows) (length c.args.rows.now.rows) c.loop-number.number c.loop-number.number c.args.added c.args.rows.now.room c.loop-number.rows.room kept.count refl c.loop-number-test.true c.requires.room kept.more.room

pub push-requires-clause-labels : goal.push-requires-clause-labels
push-requires-clause-labels g c = c.loop-number.invariant.kept.more.labels ∙ c.requires.labels

pub push-requires-clause-width : goal.push-requires-clause-width
push-requires-clause-width g c = c.loop-number.invariant.kept.more.width ∙ c.requires.width

pub returns : goal.returns
returns g c =
    let all : c.loop-number.number ≡ c.args.added = le_antisymm c.loop-number.auto.number-end c.loop-number-test.false in
    record {
      kept = subst (λ number. AreAddedKept c.args.arena.now c.args.first number c.args.rows.now c.loop-number.rows) all c.loop-number.invariant.kept;
      cost = subst (λ number. c.loop-number.steps ≡ c.args.steps.now + (c.args.arena.now.schema.dim + 3) * number) all c.loop-number.invariant.steps;
    }

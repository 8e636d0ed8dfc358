use Rattle.gm_undo.proofs.Sums.{never_more, one_fits}
use Rattle.std.proofs.Common.{◌≡◌, ◌+◌, ◌*◌, ◌++◌, [], ◌∷◌}
use Rattle.std.proofs.Common.{ℕ, length, take, suc, get_or, ap, subst, ◌∙◌, arith, Some}
use Rattle.std.proofs.Math.Nat.{le_of_lt}
use Rattle.std.proofs.lemmas.List.{length-take-le, take_all}
use Rattle.gm_undo.specs.inner.Keeping.{AreTouchedKept}
use Rattle.gm_arena.specs.inner.ArenaMap.{Dart, name_at}
use Rattle.gm_arena.proofs.InsideLemmas.{some_of}
use Rattle.gm_arena.proofs.MapLemmas.{IsLiveName-name_at}
use Rattle.std.specs.FinMap.{get}
use Rattle.gm_undo.proofs.Keep.{touched_more, touched_none}
use Rattle.std.proofs.lemmas.List.Elements.{Contains-get_or}
use Rattle.std.proofs.Math.Seq.{take-suc}
use Rattle.gm_undo.proofs.keeping.keep_touched.Goals as goal

pub loop-slot-preserved : goal.loop-slot-preserved
loop-slot-preserved g c =
    let m = c.args.arena.now in
    let slots = c.args.slots.now in
    let index = c.loop-slot.slot-index in
    let inv = c.loop-slot.invariant in
    let slot = get_or slots index (record { at = 0 }) in
    let live = c.requires.live slot (Contains-get_or slots index (record { at = 0 }) c.loop-slot-test.true) in
    let d : (dart : Dart) × (get m.darts (name_at m slot.at) ≡ Some dart) = some_of (get m.darts (name_at m slot.at)) (IsLiveName-name_at m slot.at c.count.ensures.lawful live) in
    let more : take (index + 1) slots ≡ take index slots ++ slot ∷ [] = ap (λ n. take n slots) (let e : index + 1 ≡ suc index = omega arith in e) ∙ take-suc slots index (record { at = 0 }) c.loop-slot-test.true in
    let next : (m.schema.dim + 2) * (index + 1) ≡ (m.schema.dim + 2) * index + (m.schema.dim + 2) = grind arith in
    record {
      kept = rw more (rw (c.push.ensures.row d.0 d.1) (touched_more m c.args.rows.now (take index slots) slot c.loop-slot.rows d.0 inv.kept d.1));
      steps = omega (arith, inv.steps, c.push.ensures.cost, next);
    }

pub prove-unreachable-requires : goal.prove-unreachable-requires
prove-unreachable-requires g c = never_more c.args.arena.now c.count.result c.count.ensures.lawful c.count.ensures.count c.if-prove.true

no_steps : (start wide : ℕ) → start ≡ start + wide * 0
no_steps start wide = omega arith

pub loop-slot-init : goal.loop-slot-init
loop-slot-init g c = record { kept = touched_none c.args.arena.now c.args.rows.now; steps = no_steps c.args.steps.now (c.args.arena.now.schema.dim + 2) }

pub push-requires : goal.push-requires
push-requires g c =
    let slots = c.args.slots.now in
    let index = c.loop-slot.slot-index in
    let kept = c.loop-slot.invariant.kept in
    let slot = get_or slots index (record { at = 0 }) in
    record {
      room = one_fits (length c.loop-slot.rows.rows) (length c.args.rows.now.rows) (length (take index slots)) index (length slots) c.args.rows.now.room c.loop-slot.rows.room kept.count (length-take-le index slots (le_of_lt c.loop-slot-test.true)) c.loop-slot-test.true c.requires.room kept.more.room;
      labels = kept.more.labels ∙ c.requires.labels;
      width = kept.more.width ∙ c.requires.width;
      live = c.requires.live slot (Contains-get_or slots index (record { at = 0 }) c.loop-slot-test.true);
    }

pub returns-clause-kept : goal.returns-clause-kept
returns-clause-kept g c = subst (λ slots. AreTouchedKept c.args.arena.now slots c.args.rows.now c.loop-slot.rows) (take_all c.loop-slot.slot-index c.args.slots.now c.loop-slot-test.false) c.loop-slot.invariant.kept

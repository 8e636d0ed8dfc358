use Rattle.gm_undo.proofs.Sums.{never_more, one_stays}
use Rattle.std.proofs.Common.{◌≡◌, ◌+◌, ◌-◌, ◌*◌, ◌<◌, ◌≤◌, ◌++◌, length, true, [], ◌∷◌}
use Rattle.std.proofs.Math.Nat.{le_antisymm, le_refl, le-add_right, lt_of_lt_of_le}
use Rattle.std.proofs.lemmas.List.{length-set}
use Rattle.gm_arena.specs.inner.ArenaMap.{IsLiveName}
use Rattle.std.proofs.Common.{sym, ap, subst, ◌∙◌, arith, Some}
use Rattle.gm_arena.specs.inner.ArenaMap.{Dart, name_at}
use Rattle.gm_arena.proofs.InsideLemmas.{some_of}
use Rattle.gm_arena.proofs.MapLemmas.{name_at-is}
use Rattle.std.specs.FinMap.{get}
use Rattle.gm_undo.proofs.Keep.{AreBehindTo, behind_none, behind_more, behind_gone, behind_all}
use Rattle.gm_undo.specs.inner.Flat.{RowsOf, row_in}
use Rattle.gm_undo.proofs.Sides.{one_more}
use Rattle.gm_undo.proofs.keeping.keep_staying.Goals.{in-Some, in_default}
use Rattle.gm_undo.proofs.keeping.keep_staying.Goals as goal

pub loop-index-preserved : goal.loop-index-preserved
loop-index-preserved g c = elim c.match-slot_of.branch [
  | in-Some w ↦
      let m = c.args.arena.now in
      let index = c.loop-index.index in
      let inv = c.loop-index.invariant in
      let mid = c.loop-index.rows in
      let slot = w.in-Some.slot.at in
      let name : name_at m slot ≡ (row_in mid.rows index).name = name_at-is m slot c.name.result w.in-Some.ensures.slot ∙ c.name.ensures in
      let d : (dart : Dart) × (get m.darts (name_at m slot) ≡ Some dart) = some_of (get m.darts (name_at m slot)) (subst (IsLiveName m) (sym (name_at-is m slot c.name.result w.in-Some.ensures.slot)) (c.count.ensures.lawful.live slot c.name.result w.in-Some.ensures.slot)) in
      let rows = w.rows-is ∙ w.push.ensures.row d.0 d.1 ∙ ap (λ (r : RowsOf). record r { rows = r.rows ++ record { name = name_at m slot; stays = true; dart = d.0 } ∷ [] }) w.mark_staying.ensures in
      record {
        kept = rw rows (behind_more m c.args.first c.args.end c.args.rows.now index mid c.loop-index.auto.index c.loop-index-test.true c.requires.end inv.kept (name_at m slot) d.0 name d.1);
        most = omega (arith, inv.most, w.in-Some.ensures.cost, w.push.ensures.cost, w.steps-is, one_more (m.schema.dim + 3) index c.args.first c.loop-index.auto.index);
        rises = omega (arith, inv.rises, w.in-Some.ensures.cost, w.push.ensures.cost, w.steps-is);
      }
  | in_default w ↦
      let m = c.args.arena.now in
      let index = c.loop-index.index in
      let inv = c.loop-index.invariant in
      record {
        kept = rw w.rows-is (behind_gone m c.args.first c.args.end c.args.rows.now index c.loop-index.rows c.loop-index.auto.index c.loop-index-test.true c.requires.end inv.kept (ap (get m.darts) (sym c.name.ensures) ∙ w.in_default.ensures.slot));
        most = omega (arith, inv.most, w.in_default.ensures.cost, w.steps-is, one_more (m.schema.dim + 3) index c.args.first c.loop-index.auto.index);
        rises = omega (arith, inv.rises, w.in_default.ensures.cost, w.steps-is);
      }
]

pub prove-unreachable-requires : goal.prove-unreachable-requires
prove-unreachable-requires g c = never_more c.args.arena.now c.count.result c.count.ensures.lawful c.count.ensures.count c.if-prove.true

pub loop-index-init : goal.loop-index-init
loop-index-init g c = record {
  kept = behind_none c.args.arena.now c.args.first c.args.end c.args.rows.now c.requires.end;
  most = le-add_right _ _;
  rises = le_refl _;
}

pub name-requires : goal.name-requires
name-requires g c = lt_of_lt_of_le (subst (λ n. c.loop-index.index < n) c.requires.end c.loop-index-test.true) c.loop-index.invariant.kept.more.long

pub mark_staying-requires : goal.mark_staying-requires
mark_staying-requires g c = lt_of_lt_of_le (subst (λ n. c.loop-index.index < n) c.requires.end c.loop-index-test.true) c.loop-index.invariant.kept.more.long

pub push-requires-clause-room : goal.push-requires-clause-room
push-requires-clause-room g c =
    let kept = c.loop-index.invariant.kept in
    let long : length c.mark_staying.new.self.rows ≡ length c.loop-index.rows.rows = ap (λ (r : RowsOf). length r.rows) c.mark_staying.ensures ∙ length-set c.loop-index.rows.rows c.loop-index.index _ in
    one_stays (length c.mark_staying.new.self.rows) (length c.loop-index.rows.rows) c.args.first c.args.end c.loop-index.index c.args.rows.now.room c.mark_staying.new.self.room long kept.few c.loop-index.auto.index c.loop-index-test.true c.requires.room
    (ap (λ (r : RowsOf). r.room) c.mark_staying.ensures ∙ kept.more.room)

pub push-requires-clause-labels : goal.push-requires-clause-labels
push-requires-clause-labels g c = ap (λ (r : RowsOf). r.labels) c.mark_staying.ensures ∙ c.loop-index.invariant.kept.more.labels ∙ c.requires.labels

pub push-requires-clause-width : goal.push-requires-clause-width
push-requires-clause-width g c = ap (λ (r : RowsOf). r.width) c.mark_staying.ensures ∙ c.loop-index.invariant.kept.more.width ∙ c.requires.width

pub returns : goal.returns
returns g c =
    let all : c.loop-index.index ≡ c.args.end = le_antisymm (c.loop-index.auto.index-end c.requires.first) c.loop-index-test.false in
    record {
      kept = behind_all c.args.arena.now c.args.first c.args.end c.args.rows.now c.loop-index.rows (subst (λ index. AreBehindTo c.args.arena.now c.args.first c.args.end c.args.rows.now index c.loop-index.rows) all c.loop-index.invariant.kept);
      cost = subst (λ index. c.loop-index.steps ≤ c.args.steps.now + (c.args.arena.now.schema.dim + 3) * (index - c.args.first)) all c.loop-index.invariant.most;
      rises = c.loop-index.invariant.rises;
    }

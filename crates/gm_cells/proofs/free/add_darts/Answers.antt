use Rattle.std.proofs.Common.{◌≡◌, ℕ, ◌+◌, ◌<◌, Some, length, get_or, map, refl, sym, ap, subst, ◌∙◌, inl, inr, arith}
use Rattle.std.specs.FinMap.{get}
use Rattle.std.proofs.lemmas.Bool.{cases_lt, cases_eq}
use Rattle.std.proofs.lemmas.List.{get_or_past, length-replicate}
use Rattle.gm_arena.specs.inner.ArenaMap.{IsLiveSlot, name_at}
use Rattle.gm_arena.specs.declared.slot.Slot.{Slot}
use Rattle.gm_arena.proofs.MapLemmas.{name_at-is, name_below}
use Rattle.gm_cells.specs.inner.Painted.{no_place, queued_at}
use Rattle.gm_cells.proofs.FreeLemmas.{AreFree, all_free, free_next, none_free}
use Rattle.gm_cells.proofs.InOrder.{name_up}
use Rattle.gm_cells.proofs.PaintLemmas.{row_long, row_there}
use Rattle.gm_cells.proofs.PaintedLemmas.{zero_at}
use Rattle.gm_cells.proofs.free.add_darts.Goals as goal

pub loop-slot-init : goal.loop-slot-init
loop-slot-init g c =
    let m = c.args.arena.now in
    let zero : (i : ℕ) → get_or c.args.free.now i 0 ≡ 0 = λ i. ap (λ xs. get_or xs i 0) c.requires.none ∙ zero_at (m.schema.dim + 1) i in
    record {
      low = omega arith;
      long = ap length c.requires.none ∙ length-replicate {A = ℕ} (m.schema.dim + 1) 0;
      few = λ i. omega (arith, zero i);
      counted = λ i low. subst (AreFree m i 0) (sym (zero i)) (none_free m i);
    }

pub overflow_add-from : goal.overflow_add-from
overflow_add-from g c =
    let lawful = c.requires.lawful in
    omega (arith, name_below c.args.arena.now c.row-row.result.name lawful (lawful.live c.in-Some.slot.at c.row-row.result.name c.row-row.ensures.name), lawful.few_names)

pub loop-slot-smaller : goal.loop-slot-smaller
loop-slot-smaller g c =
    let m = c.args.arena.now in
    let lawful = c.requires.lawful in
    let low = name_up m c.loop-slot.from c.in-Some.slot.at c.row-row.result.name c.row-row.ensures.name c.in-Some.ensures.slot in
    omega (arith, low, name_below m c.row-row.result.name lawful (lawful.live c.in-Some.slot.at c.row-row.result.name c.row-row.ensures.name))

pub add_dart-requires-clause-long : goal.add_dart-requires-clause-long
add_dart-requires-clause-long g c =
    let m = c.args.arena.now in
    let slot = c.in-Some.slot in
    let row = c.row-row.result in
    let alive : IsLiveSlot m slot.at = rw c.row-row.ensures.name refl in
    let dart = subst (λ d. get m.darts d ≡ Some (record { alphas = map (λ (s : Slot). name_at m s.at) row.alphas.now; values = row.values.now })) (sym (name_at-is m slot.at row.name c.row-row.ensures.name)) c.row-row.ensures.dart in
    row_long m slot row.alphas.now row.values.now c.requires.lawful alive dart ∙ sym c.loop-slot.invariant.long

pub add_dart-requires-clause-few : goal.add_dart-requires-clause-few
add_dart-requires-clause-few g c = λ i. omega (arith, c.loop-slot.invariant.few i, c.loop-slot.invariant.low, c.requires.lawful.few_names)

pub loop-slot-preserved : goal.loop-slot-preserved
loop-slot-preserved g c =
    let m = c.args.arena.now in
    let lawful = c.requires.lawful in
    let i = c.loop-slot.invariant in
    let from = c.loop-slot.from in
    let free = c.loop-slot.free in
    let new = c.add_dart.new.free in
    let slot = c.in-Some.slot in
    let row = c.row-row.result in
    let alphas = row.alphas.now in
    let at = c.row-row.ensures.name in
    let first = c.in-Some.ensures.slot in
    let up = name_up m from slot.at row.name at first in
    let alive : IsLiveSlot m slot.at = rw at refl in
    let dart = subst (λ d. get m.darts d ≡ Some (record { alphas = map (λ (s : Slot). name_at m s.at) alphas; values = row.values.now })) (sym (name_at-is m slot.at row.name at)) c.row-row.ensures.dart in
    let long = row_long m slot alphas row.values.now lawful alive dart in
    record {
      low = omega (arith, name_below m row.name lawful (lawful.live slot.at row.name at));
      long = c.add_dart.ensures.long ∙ i.long;
      few = λ label. elim (cases_lt label (length alphas)) [
        | inl within ↦ elim (cases_eq (queued_at alphas label) slot.at) [
          | inl own ↦ omega (arith, c.add_dart.ensures.own label within own, i.few label, up)
          | inr other ↦ omega (arith, c.add_dart.ensures.other label within other, i.few label, up)
        ]
        | inr past ↦ (let none : get_or new label 0 ≡ 0 = get_or_past new label 0 (omega (arith, c.add_dart.ensures.long, i.long, long, past)) in omega (arith, none))
      ];
      counted = λ label low.
          let within : label < length alphas = omega (arith, long, low) in
          free_next m lawful from slot (get_or alphas label no_place) row.name label (get_or free label 0) (get_or new label 0) at first (row_there m slot alphas row.values.now lawful alive dart c.row-row.ensures.live label within)
          (c.add_dart.ensures.own label within) (c.add_dart.ensures.other label within) (i.counted label low);
    }

pub returns : goal.returns
returns g c =
    let m = c.args.arena.now in
    record {
      free = record {
        one_each = c.loop-slot.invariant.long;
        each = λ i low. all_free m c.loop-slot.from i (get_or c.loop-slot.free i 0) c.in_default.ensures.slot (c.loop-slot.invariant.counted i low);
      };
    }

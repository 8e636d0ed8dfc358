use Rattle.std.proofs.Common.{◌≡◌, ℕ, ◌+◌, ◌-◌, ◌<◌, ◌≤◌, map, length, get_or, reverse, Some, None, is_some, refl, sym, ap, subst, ◌∙◌, inl, inr, arith}
use Rattle.std.specs.FinMap.{get}
use Rattle.std.specs.Option.{option_map}
use Rattle.std.proofs.lemmas.Bool.{cases_eq, false≢true, some_since}
use Rattle.std.proofs.lemmas.List.{get_or-map, length-map}
use Rattle.gm_model.specs.declared.schema.Schema.{Schema}
use Rattle.gm_arena.specs.declared.slot.Slot.{Slot}
use Rattle.gm_arena.specs.inner.ArenaMap.{ArenaMap, Dart, IsAt, IsLiveName, name_at}
use Rattle.gm_arena.specs.inner.Edits.{free_dart, turned, with_alpha}
use Rattle.gm_arena.proofs.MapLemmas.{get-with_alpha_same, name_at-is}
use Rattle.gm_walk.proofs.CountLemmas.{name_of_slot}
use Rattle.gm_dual.specs.inner.Building.{IsAllBut, IsLinkedTo}
use Rattle.gm_dual.proofs.BuildLemmas.{all_but_more, all_neighbours, linked_more, unlinked}
use Rattle.gm_dual.proofs.map.link_dart.Goals as goal

same_dart : (x y : Dart) → Some x ≡ Some y → x ≡ y
same_dart x y e = cc

live_now : (old now : ArenaMap) (d : ℕ) (dart : Dart) → IsAllBut d old now → get now.darts d ≡ Some dart → (t : ℕ) → IsLiveName old t → IsLiveName now t
live_now old now d dart but here t live = elim (cases_eq t d) [
  | inl same ↦ subst (IsLiveName now) (sym same) (ap is_some here)
  | inr apart ↦ ap is_some (but.others t apart) ∙ live
]

pub row-row-requires : goal.row-row-requires
row-row-requires g c = c.requires.from

pub loop-label-init : goal.loop-label-init
loop-label-init g c =
    let m = c.args.arena.now in
    let row = c.row-row.result in
    let d = name_at m c.args.from.at in
    let dart : Dart = record { alphas = map (λ (s : Slot). name_at m s.at) row.alphas.now; values = row.values.now } in
    let there : get m.darts d ≡ Some dart = subst (λ x. get m.darts x ≡ Some dart) (sym (name_at-is m c.args.from.at row.name c.row-row.ensures.name)) c.row-row.ensures.dart in
    record {
      but = record { rest = refl; others = λ other apart. refl };
      linked = (dart, free_dart m.schema.dim d dart.values, there, c.requires.free ∙ ap (option_map (λ (dart : Dart). free_dart m.schema.dim d dart.values)) there, unlinked m.schema.dim d dart);
      cost = omega (arith, c.row-row.ensures.cost);
    }

pub bounds-row-label : goal.bounds-row-label
bounds-row-label g c =
    let m = c.args.arena.now in
    let row = c.row-row.result in
    let dart : Dart = record { alphas = map (λ (s : Slot). name_at m s.at) row.alphas.now; values = row.values.now } in
    let whole = c.requires.lawful.dart row.name dart c.row-row.ensures.dart in
    omega (arith, whole.whole, length-map row.alphas.now (λ (s : Slot). name_at m s.at), c.loop-label-test.true, c.top-top.ensures.value, ap (λ (s : Schema). s.dim) c.schema.ensures)

pub name_of-name-requires : goal.name_of-name-requires
name_of-name-requires g c =
    let m = c.args.arena.now in
    let row = c.row-row.result in
    let dart : Dart = record { alphas = map (λ (s : Slot). name_at m s.at) row.alphas.now; values = row.values.now } in
    let whole = c.requires.lawful.dart row.name dart c.row-row.ensures.dart in
    c.row-row.ensures.live c.loop-label.label _ (omega (arith, whole.whole, length-map row.alphas.now (λ (s : Slot). name_at m s.at), c.loop-label-test.true, c.top-top.ensures.value, ap (λ (s : Schema). s.dim) c.schema.ensures))

pub unwrap-to-requires : goal.unwrap-to-requires
unwrap-to-requires g c =
    let m = c.args.arena.now in
    let t = c.name_of-name.result in
    let i = c.loop-label.invariant in
    let live = live_now c.args.dual.now c.loop-label.dual (name_at m c.args.from.at) i.linked.1 i.but i.linked.3 t (c.requires.live t (c.requires.lawful.live _ t c.name_of-name.ensures.name)) in
    some_since c.slot_of.result (get c.loop-label.dual.darts t ≡ None) (λ (s : Slot). IsAt c.loop-label.dual s.at t) c.slot_of.ensures.slot (λ none. false≢true (sym (ap is_some none) ∙ live))

pub set_alpha-requires-clause-live : goal.set_alpha-requires-clause-live
set_alpha-requires-clause-live g c = ap is_some (ap (λ (x : ArenaMap). get x.slots c.args.own.at) c.loop-label.invariant.but.rest ∙ c.requires.own)

pub set_alpha-requires-clause-label : goal.set_alpha-requires-clause-label
set_alpha-requires-clause-label g c = omega (arith, c.top-top.ensures.value, ap (λ (s : Schema). s.dim) c.schema.ensures, ap (λ (x : ArenaMap). x.schema.dim) c.loop-label.invariant.but.rest, ap (λ (s : Schema). s.dim) c.requires.schema)

pub set_alpha-requires-clause-to_live : goal.set_alpha-requires-clause-to_live
set_alpha-requires-clause-to_live g c = ap is_some (name_of_slot c.loop-label.dual c.name_of-name.result c.slot_of.result c.unwrap-to.result c.slot_of.ensures.slot c.unwrap-to.ensures)

pub loop-label-preserved : goal.loop-label-preserved
loop-label-preserved g c =
    let m = c.args.arena.now in
    let a = c.loop-label.dual in
    let n = m.schema.dim in
    let l = c.loop-label.label in
    let row = c.row-row.result in
    let d = name_at m c.args.from.at in
    let t = c.name_of-name.result in
    let i = c.loop-label.invariant in
    let mine : Dart = record { alphas = map (λ (s : Slot). name_at m s.at) row.alphas.now; values = row.values.now } in
    let there : get m.darts d ≡ Some mine = subst (λ x. get m.darts x ≡ Some mine) (sym (name_at-is m c.args.from.at row.name c.row-row.ensures.name)) c.row-row.ensures.dart in
    let whole = c.requires.lawful.dart row.name mine c.row-row.ensures.dart in
    let topped : c.top-top.result ≡ n = c.top-top.ensures.value ∙ ap (λ (s : Schema). s.dim) c.schema.ensures in
    let low : l ≤ n = omega (arith, c.loop-label-test.true, c.top-top.ensures.value, ap (λ (s : Schema). s.dim) c.schema.ensures) in
    let within : l < length row.alphas.now = omega (arith, whole.whole, length-map row.alphas.now (λ (s : Slot). name_at m s.at), low) in
    let own = name_at-is a c.args.own.at d (ap (λ (x : ArenaMap). get x.slots c.args.own.at) i.but.rest ∙ c.requires.own) in
    let to = name_at-is a c.unwrap-to.result.at t (name_of_slot a t c.slot_of.result c.unwrap-to.result c.slot_of.ensures.slot c.unwrap-to.ensures) in
    let is : c.set_alpha.new.self ≡ with_alpha a d (n - l) t = c.set_alpha.ensures.map ∙ (λ k. with_alpha a (own k) (topped k - l) (to k)) in
    let leads : t ≡ get_or i.linked.0.alphas l 0 =
    sym (get_or-map (λ (s : Slot). name_at m s.at) row.alphas.now l _ 0 within ∙ name_at-is m _ t c.name_of-name.ensures.name) ∙ ap (λ (x : Dart). get_or x.alphas l 0) (same_dart mine i.linked.0 (sym there ∙ i.linked.2)) in
    record {
      but = all_but_more c.args.dual.now a c.set_alpha.new.self d (n - l) t i.but is;
      linked = (
        i.linked.0,
        turned i.linked.1 (n - l) t,
        i.linked.2,
        ap (λ (x : ArenaMap). get x.darts d) is ∙ (get-with_alpha_same a d (n - l) t ∙ ap (option_map (λ (dart : Dart). turned dart (n - l) t)) i.linked.3),
        linked_more n l t i.linked.0 i.linked.1 i.linked.4 low leads,
      );
      cost = omega (arith, i.cost, c.name_of-name.ensures.cost, c.slot_of.ensures.cost, c.set_alpha.ensures.cost);
    }

pub returns-clause-linked : goal.returns-clause-linked
returns-clause-linked g c =
    let m = c.args.arena.now in
    let d = name_at m c.args.from.at in
    let i = c.loop-label.invariant in
    let dart = i.linked.0 in
    let whole = c.requires.lawful.dart d dart i.linked.2 in
    let end : c.loop-label.label ≡ m.schema.dim + 1 = omega (arith, c.loop-label-test.false, c.loop-label.auto.label-end, c.top-top.ensures.value, ap (λ (s : Schema). s.dim) c.schema.ensures) in
    let all = subst (λ k. IsLinkedTo m.schema.dim k dart i.linked.1) end i.linked.4 in
    i.linked.3 ∙ (ap Some (all_neighbours m.schema.dim dart i.linked.1 whole.whole all) ∙ sym (ap (option_map (λ (dart : Dart). record { alphas = reverse dart.alphas; values = dart.values })) {x = get m.darts d} i.linked.2))

pub returns-clause-others : goal.returns-clause-others
returns-clause-others g c = c.loop-label.invariant.but

pub returns-clause-cost : goal.returns-clause-cost
returns-clause-cost g c =
    let end : c.loop-label.label ≡ c.args.arena.now.schema.dim + 1 = omega (arith, c.loop-label-test.false, c.loop-label.auto.label-end, c.top-top.ensures.value, ap (λ (s : Schema). s.dim) c.schema.ensures) in
    omega (arith, end, c.loop-label.invariant.cost)

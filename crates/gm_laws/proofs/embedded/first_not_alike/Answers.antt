use Rattle.std.proofs.Common.{◌+◌, ◌*◌, length, get_or, sym, subst, ap, ◌∙◌, falls, inl, inr, le_refl, le_trans, le-add_right, lt_of_lt_of_le}
use Rattle.std.proofs.lemmas.Bool.{cases_lt}
use Rattle.std.proofs.lemmas.Option.{same_Some}
use Rattle.gm_arena.specs.inner.ArenaMap.{alpha}
use Rattle.gm_arena.proofs.InsideLemmas.{is_some_at}
use Rattle.gm_laws.specs.inner.Darts.{IsFirst, IsOrbitLabel, HasSame, IsAlike}
use Rattle.gm_laws.proofs.CommuteLemmas.{last_label, no_less, none_yet}
use Rattle.gm_laws.proofs.CostLemmas.{found_at, next_name, none_found, two_more}
use Rattle.gm_laws.proofs.NameLemmas.{has_slot, slot_there, name_of_slot, first_name, all_names}
use Rattle.gm_laws.proofs.embedded.first_not_alike.Goals as goal

pub unwrap-slot-requires : goal.unwrap-slot-requires
unwrap-slot-requires g c = has_slot c.args.arena.now c.args.names.now c.requires.names c.loop-name.name-index 0 c.slot_of.result c.loop-name-test.true c.slot_of.ensures.slot

pub loop-name-init : goal.loop-name-init
loop-name-init g c = record { alike = λ p low. absurd (none_yet p low); cost = le-add_right _ _; least = le_refl _ }

pub label_not_alike-requires : goal.label_not_alike-requires
label_not_alike-requires g c = record {
  lawful = c.requires.lawful;
  live = slot_there c.args.arena.now (get_or c.args.names.now c.loop-name.name-index 0) c.slot_of.result c.unwrap-slot.result c.slot_of.ensures.slot c.unwrap-slot.ensures;
  embed = c.requires.embed;
}

pub alpha-other-requires : goal.alpha-other-requires
alpha-other-requires g c = record {
  live = slot_there c.args.arena.now (get_or c.args.names.now c.loop-name.name-index 0) c.slot_of.result c.unwrap-slot.result c.slot_of.ensures.slot c.unwrap-slot.ensures;
  label = c.in-Some.ensures.label.one.0;
}

pub name_of-requires : goal.name_of-requires
name_of-requires g c = is_some_at _ _ c.alpha-other.ensures.neighbour

pub returns-in-Some : goal.returns-in-Some
returns-in-Some g c =
    let m = c.args.arena.now in
    let names = c.args.names.now in
    let p = c.loop-name.name-index in
    let i = c.loop-name.invariant in
    let e = c.in-Some.ensures in
    let name = name_of_slot m (get_or names p 0) c.slot_of.result c.unwrap-slot.result c.slot_of.ensures.slot c.unwrap-slot.ensures in
    let label = subst (λ d. IsFirst (IsOrbitLabel m c.args.mask) (HasSame m c.args.embed d) c.in-Some.label) name e.label in
    record {
      darts = (c.in-Some.label, first_name m names c.requires.names (IsAlike m c.args.embed c.args.mask) p c.loop-name-test.true i.alike (λ all. label.fails (all c.in-Some.label label.one)), label, same_Some _ _ (sym c.name_of.ensures.name ∙ c.alpha-other.ensures.neighbour) ∙ ap (alpha m c.in-Some.label) name);
      cost = found_at (2 * (m.schema.dim + 1)) c.args.steps.now c.loop-name.steps c.slot_of.new.steps c.label_not_alike.new.steps c.alpha-other.new.steps c.name_of.new.steps p (length names) i.cost c.slot_of.ensures.cost e.cost c.alpha-other.ensures.cost c.name_of.ensures.cost c.loop-name-test.true;
      least = le_trans i.least (le_trans (no_less c.loop-name.steps c.loop-name.steps c.slot_of.new.steps 1 (le_refl _) c.slot_of.ensures.cost) (le_trans e.least (two_more c.label_not_alike.new.steps c.alpha-other.new.steps c.name_of.new.steps c.alpha-other.ensures.cost c.name_of.ensures.cost)));
    }

pub loop-name-smaller : goal.loop-name-smaller
loop-name-smaller g c = falls _ c.loop-name.name-index c.loop-name-test.true

pub loop-name-preserved : goal.loop-name-preserved
loop-name-preserved g c =
    let m = c.args.arena.now in
    let names = c.args.names.now in
    let p = c.loop-name.name-index in
    let i = c.loop-name.invariant in
    let e = c.in_default.ensures in
    let name = name_of_slot m (get_or names p 0) c.slot_of.result c.unwrap-slot.result c.slot_of.ensures.slot c.unwrap-slot.ensures in
    record {
      alike = λ q less. elim (cases_lt q p) [
        | inl before ↦ i.alike q before
        | inr behind ↦ subst (λ k. IsAlike m c.args.embed c.args.mask (get_or names k 0)) (last_label q p less behind) (subst (IsAlike m c.args.embed c.args.mask) name e.label)
      ];
      cost = next_name (2 * (m.schema.dim + 1)) c.args.steps.now c.loop-name.steps c.slot_of.new.steps c.label_not_alike.new.steps p i.cost c.slot_of.ensures.cost e.cost;
      least = le_trans i.least (le_trans (no_less c.loop-name.steps c.loop-name.steps c.slot_of.new.steps 1 (le_refl _) c.slot_of.ensures.cost) e.least);
    }

pub returns : goal.returns
returns g c =
    let m = c.args.arena.now in
    let i = c.loop-name.invariant in
    record {
      darts = λ d live. all_names m c.args.names.now c.requires.names (IsAlike m c.args.embed c.args.mask) (λ p low. i.alike p (lt_of_lt_of_le low c.loop-name-test.false)) d live;
      cost = none_found (2 * (m.schema.dim + 1) + 2) c.args.steps.now c.loop-name.steps c.loop-name.name-index (length c.args.names.now) i.cost c.loop-name.auto.name-index-end;
      least = i.least;
    }

use Rattle.std.proofs.Common.{◌≡◌, refl, ℕ, ◌+◌, ◌*◌, ◌≤◌, [], false, get_or, length, sym, ap, subst, le_antisymm, le_refl, ◌∙◌, inl, inr}
use Rattle.std.specs.List.{Contains}
use Rattle.std.proofs.lemmas.Bool.{cases_lt}
use Rattle.std.proofs.lemmas.List.{length-replicate}
use Rattle.gm_model.specs.Labels.{has}
use Rattle.gm_arena.proofs.MapLemmas.{name_at-is}
use Rattle.gm_walk.specs.inner.Seen.{HasSeen, seen_count}
use Rattle.gm_walk.proofs.CountLemmas.{few_names, has_slot, is_named, name_of_slot, names_counted}
use Rattle.gm_walk.proofs.LeadLemmas.{all_met, nothing_met}
use Rattle.gm_walk.proofs.WordLemmas.{is_word, letters_of_word}
use Rattle.gm_walk.proofs.NameLemmas.{live_at}
use Rattle.gm_walk.proofs.SlotLemmas.{nothing_there}
use Rattle.gm_walk.proofs.MetLemmas.{few_seen, last_place, none_yet, not_less, one_more, one_more_fits, steps_none, steps_more, steps_in_names}
use Rattle.gm_walk.proofs.orbit_count.count_names.Goals as goal

pub unwrap-slot-requires : goal.unwrap-slot-requires
unwrap-slot-requires g c = has_slot (λ d. ℕ) c.args.arena.now c.args.names.now c.requires.names c.loop-name.name-index 0 c.slot_of.result c.loop-name-test.true c.slot_of.ensures.slot

pub see_new-orbits-requires : goal.see_new-orbits-requires
see_new-orbits-requires g c =
    let m = c.args.arena.now in
    record {
      generalised = c.requires.generalised;
      lawful = c.count.ensures.lawful;
      from = live_at m c.unwrap-slot.result.at _ (name_of_slot m _ c.slot_of.result c.unwrap-slot.result c.slot_of.ensures.slot c.unwrap-slot.ensures);
      word = rw c.word_of-word.ensures (is_word m.schema.dim c.args.mask (λ label few h. c.requires.mask label h));
      pair = rw c.word_of-word.ensures c.requires.pair;
      long = c.loop-name.invariant.long;
      fits = λ none. subst (λ bound. m.bound ≤ bound) (sym c.loop-name.invariant.room) (c.requires.fits none);
    }

pub prove-unreachable-requires : goal.prove-unreachable-requires
prove-unreachable-requires g c = c.if-prove.true (names_counted c.args.arena.now c.args.names.now c.requires.names c.count.ensures.lawful ∙ sym c.count.ensures.count)

pub loop-name-init : goal.loop-name-init
loop-name-init g c =
    let m = c.args.arena.now in
    record {
      few = le_refl _;
      long = ap length c.requires.seen ∙ length-replicate m.bound false;
      seen = ([], subst (λ xs. HasSeen m xs []) (sym c.requires.seen) (nothing_there m m.bound), nothing_met m (has c.args.mask) c.word_of-word.result, λ p h. absurd (none_yet p h));
      room = refl;
      cost = steps_none _ _;
      least = le_refl _;
    }

pub loop-name-preserved : goal.loop-name-preserved
loop-name-preserved g c =
    let i = c.loop-name.invariant in
    let m = c.args.arena.now in
    let names = c.args.names.now in
    let p = c.loop-name.name-index in
    let d = get_or names p 0 in
    let lawful = c.count.ensures.lawful in
    let slot = c.unwrap-slot.result in
    let here = name_at-is m slot.at d (name_of_slot m d c.slot_of.result slot c.slot_of.ensures.slot c.unwrap-slot.ensures) in
    let e = c.see_new-orbits.ensures in
    let old = i.seen.0 in
    let after = e.met (has c.args.mask) old c.loop-name.orbits (letters_of_word c.args.mask c.word_of-word.result m.schema.dim lawful.dim.1 c.requires.mask c.word_of-word.ensures) c.requires.mask i.seen.1 i.seen.2 in
    record {
      few = one_more c.loop-name.orbits _ p i.few e.one;
      long = e.long ∙ i.long;
      seen = (
        after.0,
        after.1,
        after.2,
        λ q h. elim (cases_lt q p) [
          | inl less ↦ after.3 (get_or names q 0) (i.seen.3 q less)
          | inr more ↦ (let same : p ≡ q = last_place q p h more in subst (λ k. Contains after.0 (get_or names k 0)) same (subst (Contains after.0) here after.4))
        ],
      );
      room = e.bound ∙ i.room;
      cost = steps_more (4 * (m.schema.dim + 1)) c.args.steps.now p c.loop-name.steps c.slot_of.new.steps c.see_new-orbits.new.steps (seen_count c.loop-name.seen) (seen_count c.see_new-orbits.new.seen) i.cost c.slot_of.ensures.cost (e.cost old i.seen.1 i.seen.2.closed);
      least = not_less c.args.steps.now c.loop-name.steps c.slot_of.new.steps _ i.least c.slot_of.ensures.cost e.least;
    }

pub overflow_add-orbits : goal.overflow_add-orbits
overflow_add-orbits g c =
    let few = few_names c.args.arena.now c.args.names.now c.requires.names c.count.ensures.lawful in
    one_more_fits c.loop-name.orbits c.see_new-orbits.result c.loop-name.name-index (length c.args.names.now) c.loop-name.invariant.few c.see_new-orbits.ensures.one c.loop-name-test.true few

pub returns : goal.returns
returns g c =
    let i = c.loop-name.invariant in
    let m = c.args.arena.now in
    let names = c.args.names.now in
    let p = c.loop-name.name-index in
    let darts = i.seen.0 in
    let end : p ≡ length names = le_antisymm c.loop-name.auto.name-index-end c.loop-name-test.false in
    record {
      orbits = all_met m (has c.args.mask) c.word_of-word.result darts c.loop-name.orbits i.seen.2 (λ d live.
          let place = is_named (λ d. ℕ) m names c.requires.names d live in
          subst (Contains darts) place.2 (i.seen.3 place.0 (rw end place.1)));
      cost =
          let counted = names_counted m names c.requires.names c.count.ensures.lawful in
          let few = few_seen m names c.requires.names darts i.seen.1.distinct i.seen.2.live in
          steps_in_names (4 * (m.schema.dim + 1)) c.args.steps.now c.loop-name.steps p (seen_count c.loop-name.seen) (length darts) (length names) m.count i.seen.1.counted few counted end i.cost;
      least = i.least;
      bound = i.room;
    }

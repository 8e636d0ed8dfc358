use Rattle.std.proofs.Common.{◌≡◌, refl, ◌+◌, ◌*◌, ◌<◌, ◌≤◌, [], false, length, sym, ap, subst, le-add_right, le_refl, le_trans, lt_of_lt_of_le, ◌∙◌, inl, inr}
use Rattle.std.specs.List.{Contains}
use Rattle.std.proofs.lemmas.Bool.{cases_lt}
use Rattle.std.proofs.lemmas.List.{length-replicate}
use Rattle.gm_model.specs.Labels.{has}
use Rattle.gm_arena.specs.inner.ArenaMap.{name_at}
use Rattle.gm_arena.proofs.MapLemmas.{name_at-is, slot_of_name}
use Rattle.gm_walk.specs.inner.Seen.{HasSeen, seen_count}
use Rattle.gm_walk.proofs.LeadLemmas.{all_met, nothing_met}
use Rattle.gm_walk.proofs.MetLemmas.{few_places, last_place, none_yet, one_more, one_more_fits, steps_in_slots, steps_on}
use Rattle.gm_walk.proofs.SlotLemmas.{nothing_there}
use Rattle.gm_walk.proofs.WordLemmas.{is_word, letters_of_word}
use Rattle.gm_walk.proofs.orbit_count.count_slots.Goals as goal

pub see_new-orbits-requires : goal.see_new-orbits-requires
see_new-orbits-requires g c =
    let m = c.args.arena.now in
    record {
      generalised = c.requires.generalised;
      lawful = c.bound-at-end.ensures.lawful;
      from = c.requires.live c.loop-at.at (subst (λ end. c.loop-at.at < end) c.bound-at-end.ensures.bound c.loop-at-test.true);
      word = rw c.word_of-word.ensures (is_word m.schema.dim c.args.mask (λ label few h. c.requires.mask label h));
      pair = rw c.word_of-word.ensures c.requires.pair;
      long = c.loop-at.invariant.long;
      fits = λ none. subst (λ bound. m.bound ≤ bound) (sym c.loop-at.invariant.room) (c.requires.fits none);
    }

pub loop-at-init : goal.loop-at-init
loop-at-init g c =
    let m = c.args.arena.now in
    record {
      few = le_refl _;
      long = ap length c.requires.seen ∙ length-replicate m.bound false;
      seen = ([], subst (λ xs. HasSeen m xs []) (sym c.requires.seen) (nothing_there m m.bound), nothing_met m (has c.args.mask) c.word_of-word.result, λ slot h. absurd (none_yet slot h));
      room = refl;
      cost = le-add_right _ _;
      least = le_refl _;
    }

pub loop-at-preserved : goal.loop-at-preserved
loop-at-preserved g c =
    let i = c.loop-at.invariant in
    let m = c.args.arena.now in
    let at = c.loop-at.at in
    let e = c.see_new-orbits.ensures in
    let old = i.seen.0 in
    let after = e.met (has c.args.mask) old c.loop-at.orbits (letters_of_word c.args.mask c.word_of-word.result m.schema.dim c.bound-at-end.ensures.lawful.dim.1 c.requires.mask c.word_of-word.ensures) c.requires.mask i.seen.1 i.seen.2 in
    record {
      few = one_more c.loop-at.orbits _ at i.few e.one;
      long = e.long ∙ i.long;
      seen = (
        after.0,
        after.1,
        after.2,
        λ slot h. elim (cases_lt slot at) [
          | inl less ↦ after.3 (name_at m slot) (i.seen.3 slot less)
          | inr more ↦ (let same : at ≡ slot = last_place slot at h more in subst (λ k. Contains after.0 (name_at m k)) same after.4)
        ],
      );
      room = e.bound ∙ i.room;
      cost = steps_on (4 * (m.schema.dim + 1)) c.args.steps.now c.loop-at.steps c.see_new-orbits.new.steps (seen_count c.loop-at.seen) (seen_count c.see_new-orbits.new.seen) i.cost (e.cost old i.seen.1 i.seen.2.closed);
      least = le_trans i.least e.least;
    }

pub overflow_add-orbits : goal.overflow_add-orbits
overflow_add-orbits g c =
    let few = few_places c.args.arena.now c.bound-at-end.result c.bound-at-end.ensures.bound c.requires.count c.bound-at-end.ensures.lawful in
    one_more_fits c.loop-at.orbits c.see_new-orbits.result c.loop-at.at c.bound-at-end.result c.loop-at.invariant.few c.see_new-orbits.ensures.one c.loop-at-test.true few

pub returns : goal.returns
returns g c =
    let i = c.loop-at.invariant in
    let m = c.args.arena.now in
    let lawful = c.bound-at-end.ensures.lawful in
    let darts = i.seen.0 in
    let end : m.bound ≤ c.loop-at.at = subst (λ n. n ≤ c.loop-at.at) c.bound-at-end.ensures.bound c.loop-at-test.false in
    record {
      orbits = all_met m (has c.args.mask) c.word_of-word.result darts c.loop-at.orbits i.seen.2 (λ d live.
          let slot = slot_of_name m d lawful live in
          subst (Contains darts) (name_at-is m slot.0 d slot.1) (i.seen.3 slot.0 (lt_of_lt_of_le (lawful.below_bound slot.0 d slot.1) end)));
      cost = steps_in_slots (4 * (m.schema.dim + 1)) c.args.steps.now c.loop-at.steps c.loop-at.seen m.bound m.count i.long c.requires.count i.cost;
      least = i.least;
      bound = i.room;
    }

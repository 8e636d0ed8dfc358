use Rattle.std.proofs.Common.{◌≡◌, refl, ℕ, ◌+◌, ◌*◌, ◌<◌, ◌≤◌, List, [], ◌∷◌, ◌++◌, Bool, IsTrue, false, get_or, length, sym, ap, subst, ◌∙◌}
use Rattle.std.specs.FinMap.{keys}
use Rattle.std.proofs.lemmas.List.{length-replicate}
use Rattle.gm_model.specs.Labels.{has}
use Rattle.gm_model.specs.declared.word.Letter.{Letter}
use Rattle.gm_model.specs.declared.word.Mask.{Mask}
use Rattle.gm_model.specs.Maps.{IsGeneralised}
use Rattle.gm_arena.specs.inner.ArenaAsMap.{as_map}
use Rattle.gm_arena.specs.inner.ArenaMap.{ArenaMap, IsAt, name_at}
use Rattle.gm_arena.specs.inner.Lawful.{IsLawful}
use Rattle.gm_arena.proofs.MapLemmas.{name_at-is}
use Rattle.gm_walk.specs.inner.Seen.{HasGrownBy, HasLettersOf, HasSeen, IsClosed, seen_count}
use Rattle.gm_walk.specs.inner.Walks.{letters_of}
use Rattle.gm_walk.proofs.CountLemmas.{has_slot, name_of_slot, names_counted}
use Rattle.gm_walk.proofs.MetLemmas.{few_seen, steps_more}
use Rattle.gm_walk.proofs.SlotLemmas.{nothing_there, unseen_lacks}
use Rattle.gm_walk.proofs.WordLemmas.{is_word, letters_of_word}
use Rattle.gm_each.proofs.LeastLemmas.{HasListed, all_listed, met_listed, new_listed, none_listed}
use Rattle.gm_each.proofs.StepLemmas.{before_turns, next_within, one_taken, turn_least, turn_passed, turns_most}
use Rattle.gm_model.proofs.Exits.{unless_ok}
use Rattle.std.proofs.Math.Nat.{le_refl}
use Rattle.std.specs.Prelude.{IfSome, is_some}
use Rattle.gm_model.specs.declared.word.Letter.TheVariants.{At}
use Rattle.gm_each.proofs.listing.leads_among.Goals as goal
use Rattle.gm_each.proofs.listing.leads_among.Goals.{then-not-seen-slot+in_ok-push, else-not-seen-slot}

letters : (m : ArenaMap) (mask : Mask) (word : List Letter) → IsLawful m → ((i : ℕ) → IsTrue (has mask i) → i ≤ m.schema.dim) → word ≡ letters_of mask → HasLettersOf (has mask) word
letters m mask word lawful few is = letters_of_word mask word m.schema.dim lawful.dim.1 few is

-- what a name adds to the list whose slot wasn't seen
module _ (m : ArenaMap) (gmap : IsGeneralised (as_map m)) (lawful : IsLawful m) (mask : Mask) (few : (i : ℕ) → IsTrue (has mask i) → i ≤ m.schema.dim) (word : List Letter) (is : word ≡ letters_of mask) (names : List ℕ) (e : names ≡ keys m.darts) (p : ℕ) (within : p < length names) where
  seen_more : (seen more : List Bool) (leads : List ℕ) (old : (darts : List ℕ) × HasSeen m seen darts × HasListed m (has mask) word names p darts leads) (slot : ℕ) → IsAt m slot (get_or names p 0) → get_or seen slot false ≡ false
      → ((before : List ℕ) → HasSeen m seen before → IsClosed m word before → (after : List ℕ) × HasSeen m more after × HasGrownBy m word (name_at m slot) before after)
      → (darts : List ℕ) × HasSeen m more darts × HasListed m (has mask) word names (p + 1) darts (leads ++ get_or names p 0 ∷ [])
  seen_more seen more leads old slot at unseen sees =
      let after = sees old.0 old.1 old.2.closed in
      let grown = subst (λ x. HasGrownBy m word x old.0 after.0) (name_at-is m slot (get_or names p 0) at) after.2 in
      let lacks = unseen_lacks m seen old.0 old.1 slot (get_or names p 0) at unseen in
      (after.0, after.1, new_listed m gmap (has mask) few word (letters m mask word lawful few is) names e p within old.0 leads old.2 lacks after.0 grown)

pub prove-unreachable-requires : goal.prove-unreachable-requires
prove-unreachable-requires g c = c.if-prove.true (names_counted c.args.arena.now c.args.names.now c.requires.names c.count.ensures.lawful ∙ sym c.count.ensures.count)

pub loop-name-init : goal.loop-name-init
loop-name-init g c =
    let m = c.args.arena.now in
    record {
      long = ap length c.requires.seen ∙ length-replicate m.bound false;
      listed = ([], subst (λ xs. HasSeen m xs []) (sym c.requires.seen) (nothing_there m m.bound), rw c.new-leads.ensures.items (none_listed m c.requires.generalised (has c.args.mask) c.requires.mask c.word_of-word.result (letters m c.args.mask c.word_of-word.result c.count.ensures.lawful c.requires.mask c.word_of-word.ensures) c.args.names.now c.requires.names));
      room = refl;
      cost = before_turns c.args.steps.now (4 * (m.schema.dim + 1) * seen_count c.args.seen.now);
      least = le_refl c.args.steps.now;
    }

pub unwrap-slot-requires : goal.unwrap-slot-requires
unwrap-slot-requires g c = has_slot (λ d. ℕ) c.args.arena.now c.args.names.now c.requires.names c.loop-name.name-index 0 c.slot_of.result c.loop-name-test.true c.slot_of.ensures.slot

pub bounds-seen-slot : goal.bounds-seen-slot
bounds-seen-slot g c =
    let m = c.args.arena.now in
    let d = get_or c.args.names.now c.loop-name.name-index 0 in
    let slot = c.unwrap-slot.result in
    let low = c.count.ensures.lawful.below_bound slot.at d (name_of_slot m d c.slot_of.result slot c.slot_of.ensures.slot c.unwrap-slot.ensures) in
    rw c.loop-name.invariant.long low

pub see_orbit-requires-clause-generalised : goal.see_orbit-requires-clause-generalised
see_orbit-requires-clause-generalised g c = c.requires.generalised

pub see_orbit-requires-clause-lawful : goal.see_orbit-requires-clause-lawful
see_orbit-requires-clause-lawful g c = c.count.ensures.lawful

pub see_orbit-requires-clause-from : goal.see_orbit-requires-clause-from
see_orbit-requires-clause-from g c = ap is_some (name_of_slot c.args.arena.now (get_or c.args.names.now c.loop-name.name-index 0) c.slot_of.result c.unwrap-slot.result c.slot_of.ensures.slot c.unwrap-slot.ensures)

pub see_orbit-requires-clause-pair : goal.see_orbit-requires-clause-pair
see_orbit-requires-clause-pair g c = subst (λ word. IfSome c.args.pair (λ labels. word ≡ At labels.0 ∷ At labels.1 ∷ [])) (sym c.word_of-word.ensures) c.requires.pair

pub see_orbit-requires-clause-long : goal.see_orbit-requires-clause-long
see_orbit-requires-clause-long g c = c.loop-name.invariant.long

pub see_orbit-requires-clause-unseen : goal.see_orbit-requires-clause-unseen
see_orbit-requires-clause-unseen g c = c.if-not-seen-slot.true

pub see_orbit-requires-clause-word : goal.see_orbit-requires-clause-word
see_orbit-requires-clause-word g c = rw c.word_of-word.ensures (is_word c.args.arena.now.schema.dim c.args.mask (λ label few h. c.requires.mask label h))

pub see_orbit-requires-clause-fits : goal.see_orbit-requires-clause-fits
see_orbit-requires-clause-fits g c = λ none. subst (λ bound. c.args.arena.now.bound ≤ bound) (sym c.loop-name.invariant.room) (c.requires.fits none)

pub returns-in_err-push-clause-leads : goal.returns-in_err-push-clause-leads
returns-in_err-push-clause-leads g c = unless_ok _ c.from_residual.result c.from_residual.ensures.0

pub returns-in_err-push-clause-cost : goal.returns-in_err-push-clause-cost
returns-in_err-push-clause-cost g c =
    let i = c.loop-name.invariant in
    let m = c.args.arena.now in
    let names = c.args.names.now in
    let p = c.loop-name.name-index in
    let lawful = c.count.ensures.lawful in
    let is_at = name_of_slot m (get_or names p 0) c.slot_of.result c.unwrap-slot.result c.slot_of.ensures.slot c.unwrap-slot.ensures in
    let after = seen_more m c.requires.generalised lawful c.args.mask c.requires.mask c.word_of-word.result c.word_of-word.ensures names c.requires.names p c.loop-name-test.true c.loop-name.seen c.see_orbit.new.seen c.loop-name.leads.items i.listed c.unwrap-slot.result.at is_at c.if-not-seen-slot.true c.see_orbit.ensures.seen in
    let more = c.see_orbit.ensures.cost i.listed.0 i.listed.1 i.listed.2.closed in
    let k = 4 * (m.schema.dim + 1) in
    let so_far = steps_more k c.args.steps.now p c.loop-name.steps c.slot_of.new.steps c.see_orbit.new.steps (seen_count c.loop-name.seen) (seen_count c.see_orbit.new.seen) i.cost c.slot_of.ensures.cost more in
    let few = few_seen m names c.requires.names after.0 after.1.distinct after.2.live in
    turns_most k c.args.steps.now (p + 1) c.see_orbit.new.steps (seen_count c.see_orbit.new.seen) (length after.0) (length names) m.count so_far (next_within p (length names) c.loop-name-test.true) (names_counted m names c.requires.names lawful) few after.1.counted

pub returns-in_err-push-clause-least : goal.returns-in_err-push-clause-least
returns-in_err-push-clause-least g c = turn_least c.args.steps.now c.loop-name.steps c.slot_of.new.steps c.see_orbit.new.steps c.loop-name.invariant.least c.slot_of.ensures.cost c.see_orbit.ensures.least

pub returns-in_err-push-clause-bound : goal.returns-in_err-push-clause-bound
returns-in_err-push-clause-bound g c = c.see_orbit.ensures.bound ∙ c.loop-name.invariant.room

pub loop-name-preserved : goal.loop-name-preserved
loop-name-preserved g c =
    let i = c.loop-name.invariant in
    let m = c.args.arena.now in
    let names = c.args.names.now in
    let p = c.loop-name.name-index in
    let d = get_or names p 0 in
    let slot = c.unwrap-slot.result in
    let is_at = name_of_slot m d c.slot_of.result slot c.slot_of.ensures.slot c.unwrap-slot.ensures in
    let k = 4 * (m.schema.dim + 1) in
    elim c.if-not-seen-slot.branch [
      | then-not-seen-slot+in_ok-push w ↦
          let after = seen_more m c.requires.generalised c.count.ensures.lawful c.args.mask c.requires.mask c.word_of-word.result c.word_of-word.ensures names c.requires.names p c.loop-name-test.true c.loop-name.seen w.see_orbit.new.seen c.loop-name.leads.items i.listed slot.at is_at w.if-not-seen-slot.true w.see_orbit.ensures.seen in
          let more = w.see_orbit.ensures.cost i.listed.0 i.listed.1 i.listed.2.closed in
          record {
            long = rw w.seen-is (w.see_orbit.ensures.long ∙ i.long);
            listed = (after.0, rw w.seen-is after.1, rw (w.leads-is, w.in_ok-push.ensures.items) after.2);
            room = rw w.scratch-is (w.see_orbit.ensures.bound ∙ i.room);
            cost = rw (w.steps-is, w.seen-is) (steps_more k c.args.steps.now p c.loop-name.steps c.slot_of.new.steps w.see_orbit.new.steps (seen_count c.loop-name.seen) (seen_count w.see_orbit.new.seen) i.cost c.slot_of.ensures.cost more);
            least = rw w.steps-is (turn_least c.args.steps.now c.loop-name.steps c.slot_of.new.steps w.see_orbit.new.steps i.least c.slot_of.ensures.cost w.see_orbit.ensures.least);
          }
      | else-not-seen-slot w ↦
          let there = (i.listed.1.same slot.at d is_at).0 w.if-not-seen-slot.false in
          record {
            long = rw w.seen-is i.long;
            listed = (i.listed.0, rw w.seen-is i.listed.1, rw w.leads-is (met_listed m c.requires.generalised (has c.args.mask) c.requires.mask c.word_of-word.result (letters m c.args.mask c.word_of-word.result c.count.ensures.lawful c.requires.mask c.word_of-word.ensures) names c.requires.names p c.loop-name-test.true i.listed.0 c.loop-name.leads.items i.listed.2 there));
            room = rw w.scratch-is i.room;
            cost = rw (w.steps-is, w.seen-is) (turn_passed c.args.steps.now p c.loop-name.steps c.slot_of.new.steps (k * seen_count c.loop-name.seen) i.cost c.slot_of.ensures.cost);
            least = rw w.steps-is (one_taken c.args.steps.now c.loop-name.steps c.slot_of.new.steps i.least c.slot_of.ensures.cost);
          }
    ]

pub returns-clause-leads : goal.returns-clause-leads
returns-clause-leads g c =
    let i = c.loop-name.invariant in
    let m = c.args.arena.now in
    let names = c.args.names.now in
    record {
      ascending = i.listed.2.ascending;
      same = all_listed m c.requires.generalised (has c.args.mask) c.requires.mask c.word_of-word.result (letters m c.args.mask c.word_of-word.result c.count.ensures.lawful c.requires.mask c.word_of-word.ensures) names c.requires.names c.loop-name.name-index i.listed.0 c.loop-name.leads.items c.loop-name-test.false i.listed.2;
    }

pub returns-clause-cost : goal.returns-clause-cost
returns-clause-cost g c =
    let i = c.loop-name.invariant in
    let m = c.args.arena.now in
    let names = c.args.names.now in
    let p = c.loop-name.name-index in
    let few = few_seen m names c.requires.names i.listed.0 i.listed.1.distinct i.listed.2.live in
    turns_most (4 * (m.schema.dim + 1)) c.args.steps.now p c.loop-name.steps (seen_count c.loop-name.seen) (length i.listed.0) (length names) m.count i.cost c.loop-name.auto.name-index-end (names_counted m names c.requires.names c.count.ensures.lawful) few i.listed.1.counted

pub returns-clause-least : goal.returns-clause-least
returns-clause-least g c = c.loop-name.invariant.least

pub returns-clause-bound : goal.returns-clause-bound
returns-clause-bound g c = c.loop-name.invariant.room

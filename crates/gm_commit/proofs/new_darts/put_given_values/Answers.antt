use Rattle.std.proofs.Common.{◌≡◌, ◌*◌, length, IsSome, None, Some, refl, sym, ap, ◌∙◌, subst, arith, mul_comm}
use borrow.Author.Count.{falls}
use Rattle.std.proofs.lemmas.Bool.{false≢true}
use Rattle.std.proofs.lemmas.Nat.{mul-add-lt}
use Rattle.std.proofs.lemmas.Option.{slice_get_read}
use Rattle.gm_model.specs.Unfolding.{added_nodes}
use Rattle.gm_pending.specs.inner.ReachedDarts.{AreReached}
use Rattle.gm_pending.specs.inner.Results.{IsResultDart, IsValueIn, instances_of, name_of, rule_in}
use Rattle.gm_pending.specs.inner.ValueSources.{given_of}
use Rattle.gm_commit.proofs.on_new_darts.NodesInTurn.{new_dart_below}
use Rattle.gm_commit.proofs.on_new_darts.GivenValues.{none_put_over, old_passed_over, given_put_over, entry_dart, entry_given, entry_value, decided_more}
use Rattle.gm_commit.proofs.new_darts.put_given_values.Goals as goal
use Rattle.gm_commit.proofs.new_darts.put_given_values.Goals.{in-New+in-Some, in-New+in_default-given, in_default}

pub loop-entry-init : goal.loop-entry-init
loop-entry-init c = record {
  reached = λ embed at. subst (AreReached c.args.pending.now c.args.embed embed (instances_of c.args.pending.now c.args.embed)) (sym c.as_slice-entry-items.ensures.reached) (c.orbits-orbits.ensures.reached embed at);
  so_far = none_put_over c.args.pending.now c.orbits-orbits.ensures.prepared c.args.embed c.as_slice-entry-items.result.now c.requires.embed c.args.values.now;
}

pub new_number-number-requires-clause-added : goal.new_number-number-requires-clause-added
new_number-number-requires-clause-added c =
    let here = slice_get_read c.as_slice-entry-items.result.now _ c.loop-entry.entry-index c.entry-item.result refl c.loop-entry-test.true c.entry-item.is in
    (subst (IsResultDart c.args.pending.now) (sym c.unpack.ensures ∙ c.in-New.is) (entry_dart c.args.pending.now c.orbits-orbits.ensures.prepared c.args.embed c.as_slice-entry-items.result.now c.requires.embed c.loop-entry.invariant.reached c.loop-entry.entry-index _ here)).0

pub new_number-number-requires-clause-position : goal.new_number-number-requires-clause-position
new_number-number-requires-clause-position c =
    let here = slice_get_read c.as_slice-entry-items.result.now _ c.loop-entry.entry-index c.entry-item.result refl c.loop-entry-test.true c.entry-item.is in
    (subst (IsResultDart c.args.pending.now) (sym c.unpack.ensures ∙ c.in-New.is) (entry_dart c.args.pending.now c.orbits-orbits.ensures.prepared c.args.embed c.as_slice-entry-items.result.now c.requires.embed c.loop-entry.invariant.reached c.loop-entry.entry-index _ here)).1

pub bounds-values-number : goal.bounds-values-number
bounds-values-number c =
    let app = c.args.pending.now in
    rw c.embeds-width.ensures.embeds (omega (
      arith,
      c.loop-entry.invariant.so_far.long,
      c.requires.earlier.long,
      mul-add-lt c.new_number-number.result (length app.map.schema.embeds) c.args.embed (app.placed.positions * added_nodes (rule_in app)) c.new_number-number.ensures.most c.requires.embed,
      mul_comm (length app.map.schema.embeds) (app.placed.positions * added_nodes (rule_in app)),
    ))

pub loop-entry-preserved : goal.loop-entry-preserved
loop-entry-preserved c =
    let app = c.args.pending.now in
    let items = c.as_slice-entry-items.result.now in
    let now = c.loop-entry.invariant in
    let here = slice_get_read items _ c.loop-entry.entry-index c.entry-item.result refl c.loop-entry-test.true c.entry-item.is in
    let entry = c.entry-item.result in
    let dart = entry_dart app c.orbits-orbits.ensures.prepared c.args.embed items c.requires.embed now.reached c.loop-entry.entry-index _ here in
    elim c.match-unpack.branch [
      | in-New+in-Some w ↦
          let is = sym c.unpack.ensures ∙ w.in-New.is in
          let new = subst (IsResultDart app) is dart in
          let given : given_of (instances_of app c.args.embed) entry.instance ≡ Some w.in-Some.value = sym (ap (λ ds. given_of ds entry.instance) (w.deref.ensures ∙ c.orbits-orbits.ensures.deciders)) ∙ sym w.given.ensures ∙ w.in-Some.is in
          let value = entry_value app c.orbits-orbits.ensures.prepared c.args.embed items c.requires.embed now.reached c.loop-entry.entry-index _ here w.in-Some.value given in
          record {
            reached = now.reached;
            so_far = rw (w.values-is, w.new_number-number.ensures.number, c.embeds-width.ensures.embeds)
                (given_put_over app c.orbits-orbits.ensures.prepared c.args.embed items c.requires.embed c.loop-entry.entry-index c.args.values.now c.loop-entry.values now.so_far _ here w.in-New.node w.in-New.position w.in-Some.value is new
                (new_dart_below app c.orbits-orbits.ensures.prepared w.in-New.node w.in-New.position new.0 new.1) (now.so_far.long ∙ c.requires.earlier.long)
                (λ embed at. subst (λ a. IsValueIn app c.args.embed embed (name_of app a) w.in-Some.value) is (value embed at)));
          }
      | in-New+in_default-given w ↦
          let none : given_of (instances_of app c.args.embed) entry.instance ≡ None = sym (ap (λ ds. given_of ds entry.instance) (w.deref.ensures ∙ c.orbits-orbits.ensures.deciders)) ∙ sym w.given.ensures ∙ w.in_default-given.is in
          let there = entry_given app c.orbits-orbits.ensures.prepared c.args.embed items c.requires.embed now.reached c.loop-entry.entry-index _ here (c.requires.given c.args.embed c.requires.embed) in
          absurd (false≢true (subst IsSome none there))
      | in_default w ↦ record {
        reached = now.reached;
        so_far = rw w.values-is (old_passed_over app c.orbits-orbits.ensures.prepared c.args.embed items c.requires.embed c.loop-entry.entry-index c.args.values.now c.loop-entry.values now.so_far _ here
            w.in_default.field-0 (sym c.unpack.ensures ∙ w.in_default.is) (subst (IsResultDart app) (sym c.unpack.ensures ∙ w.in_default.is) dart).0);
      }
    ]

pub returns : goal.returns
returns c =
    decided_more c.args.pending.now c.orbits-orbits.ensures.prepared c.args.embed c.as_slice-entry-items.result.now c.requires.embed c.args.values.now c.loop-entry.values c.loop-entry.entry-index
    (omega (arith, c.loop-entry-test.false, c.loop-entry.auto.entry-index-end)) c.loop-entry.invariant.so_far c.requires.earlier c.loop-entry.invariant.reached

pub orbits-orbits-requires : goal.orbits-orbits-requires
orbits-orbits-requires c = (c.requires.given c.args.embed c.requires.embed).0

pub overflow_mul-value : goal.overflow_mul-value
overflow_mul-value c =
    let app = c.args.pending.now in
    rw c.embeds-width.ensures.embeds (omega (
      arith,
      c.loop-entry.invariant.so_far.long,
      c.requires.earlier.long,
      mul-add-lt c.new_number-number.result (length app.map.schema.embeds) c.args.embed (app.placed.positions * added_nodes (rule_in app)) c.new_number-number.ensures.most c.requires.embed,
      mul_comm (length app.map.schema.embeds) (app.placed.positions * added_nodes (rule_in app)),
    ))

pub overflow_add-value : goal.overflow_add-value
overflow_add-value c =
    let app = c.args.pending.now in
    rw c.embeds-width.ensures.embeds (omega (
      arith,
      c.loop-entry.invariant.so_far.long,
      c.requires.earlier.long,
      mul-add-lt c.new_number-number.result (length app.map.schema.embeds) c.args.embed (app.placed.positions * added_nodes (rule_in app)) c.new_number-number.ensures.most c.requires.embed,
      mul_comm (length app.map.schema.embeds) (app.placed.positions * added_nodes (rule_in app)),
    ))

pub loop-entry-smaller : goal.loop-entry-smaller
loop-entry-smaller c = falls (length c.as_slice-entry-items.result.now) c.loop-entry.entry-index c.loop-entry-test.true

pub bounds-entry-items-entry-index : goal.bounds-entry-items-entry-index
bounds-entry-items-entry-index c = c.loop-entry-test.true

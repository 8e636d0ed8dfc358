use Rattle.std.proofs.Common.{◌≡◌, ℕ, suc, ◌+◌, ◌<◌, length, map, List, Some, slice_get, refl, ap, subst, ◌∙◌, arith}
use Rattle.std.proofs.lemmas.List.{length-map}
use Rattle.std.proofs.lemmas.Result.{err_from_is_err_and}
use Rattle.gm_model.specs.declared.schema.Schema.{Schema}
use Rattle.gm_model.specs.Maps.{IsEmbedAt}
use Rattle.gm_pending.specs.inner.Results.{PendingOf, instances_of, place_of}
use Rattle.gm_eval.specs.inner.Sharing.{HasUnitsBeside}
use Rattle.gm_apply.specs.inner.Readings.{WasRead, places_of, read_at}
use Rattle.gm_apply.specs.inner.Reads.{HasRead}
use Rattle.gm_apply.proofs.Giving.{entry_at, assigned_at, ended_opening, ended_without, given_more, given_long, these_deciders, all_given}
use Rattle.gm_eval.proofs.Sharing.{is_some}
use Rattle.gm_apply.proofs.ReadBefore.{units_once}
use Rattle.gm_apply.proofs.Remembering.{IsKeptBefore, cost_beside, kept_first, kept_read, kept_turned, nodes_rise, places_stay}
use Rattle.gm_apply.proofs.reading.Reading.read_values.Goals as goal

pub collects-collects-requires : goal.collects-collects-requires
collects-collects-requires g c =
    let few = c.requires.read.3.few in
    let within : c.args.embed < length c.args.self.now.arena.now.schema.embeds = omega (arith, few) in
    subst (λ (s : Schema). c.args.embed < length s.embeds) c.requires.read.2.schema within

pub returns-in_err-kept-clause-given : goal.returns-in_err-kept-clause-given
returns-in_err-kept-clause-given g c hooks start readable read =
    let p = err_from_is_err_and c.from_residual.result c.from_residual.ensures.1 in
    rw (p.1, p.2) (ended_opening c.args.self.now hooks c.args.pending.now c.args.embed start c.args.steps.now read)

pub loop-index-init : goal.loop-index-init
loop-index-init g c = record {
  read = λ hooks start readable read. read;
  long = c.requires.count;
  places = refl;
  room = refl;
  kept = c.in_ok-kept.ensures.kept c.args.self.now.arena.now c.args.self.now.found.now c.args.self.now.params.now c.requires.read.2.sound.generalised;
  before = kept_first c.args.self.now c.args.embed (places_of c.args.pending.now c.args.embed) c.args.count c.collects-collects.result c.in_ok-kept.kept c.in_ok-kept.ensures.open c.in_ok-kept.ensures.closed c.in_ok-kept.ensures.reader;
}

pub value-requires-clause-readable : goal.value-requires-clause-readable
value-requires-clause-readable g c = (c.requires.read.0, c.requires.read.2)

pub value-requires-clause-kept : goal.value-requires-clause-kept
value-requires-clause-kept g c = c.turn_to.ensures.kept c.args.self.now.arena.now c.args.self.now.found.now c.args.self.now.params.now c.loop-index.invariant.kept

pub value-requires-clause-assigned : goal.value-requires-clause-assigned
value-requires-clause-assigned g c = (assigned_at c.args.self.now c.requires.read.0 c.loop-index.pending c.args.embed c.loop-index.index c.requires.read.1 c.loop-index.steps c.decider-node.result.0 c.decider-node.result.1 c.requires.read.2 (c.loop-index.invariant.read c.requires.read.0 c.requires.read.1 c.requires.read.2 c.requires.read.3) (entry_at (instances_of c.loop-index.pending c.args.embed) c.loop-index.index c.decider-node.result.0 c.decider-node.result.1 c.decider-node.ensures)).0

pub value-requires-clause-position : goal.value-requires-clause-position
value-requires-clause-position g c = (assigned_at c.args.self.now c.requires.read.0 c.loop-index.pending c.args.embed c.loop-index.index c.requires.read.1 c.loop-index.steps c.decider-node.result.0 c.decider-node.result.1 c.requires.read.2 (c.loop-index.invariant.read c.requires.read.0 c.requires.read.1 c.requires.read.2 c.requires.read.3) (entry_at (instances_of c.loop-index.pending c.args.embed) c.loop-index.index c.decider-node.result.0 c.decider-node.result.1 c.decider-node.ensures)).1

pub returns-in_default-clause-given : goal.returns-in_default-clause-given
returns-in_default-clause-given g c hooks start readable read =
    let at : slice_get (places_of c.args.pending.now c.args.embed) c.loop-index.index ≡ Some c.decider-node.result = subst (λ (places : List (ℕ × ℕ)). slice_get places c.loop-index.index ≡ Some c.decider-node.result) c.loop-index.invariant.places c.decider-node.ensures in
    let long : length (places_of c.args.pending.now c.args.embed) ≡ c.args.count = length-map (instances_of c.args.pending.now c.args.embed) place_of ∙ c.requires.count in
    let turned = kept_turned c.args.self.now c.args.embed (places_of c.args.pending.now c.args.embed) c.args.count c.collects-collects.result (nodes_rise c.args.self.now c.requires.read.0 c.args.pending.now c.args.embed 0 c.requires.read.1 c.args.steps.now c.requires.read.3) c.loop-index.index c.decider-node.result.0 c.decider-node.result.1 at c.loop-index.kept c.turn_to.new.self c.loop-index.invariant.before c.turn_to.ensures.stays c.turn_to.ensures.turned c.turn_to.ensures.reader in
    ended_without c.args.self.now hooks c.loop-index.pending c.args.embed c.loop-index.index start c.loop-index.steps c.value.new.steps c.decider-node.result.0 c.decider-node.result.1 (c.loop-index.invariant.read hooks start readable read) (entry_at (instances_of c.loop-index.pending c.args.embed) c.loop-index.index c.decider-node.result.0 c.decider-node.result.1 c.decider-node.ensures)
    (c.value.ensures.cost hooks) readable (c.in_default.ensures.value hooks) c.value.ensures.least
    (λ result unfolds u units.
    let these = units_once c.args.self.now hooks readable c.loop-index.pending c.args.embed c.loop-index.index start c.loop-index.steps (c.loop-index.invariant.read hooks start readable read) c.decider-node.result.0 c.decider-node.result.1
    (entry_at (instances_of c.loop-index.pending c.args.embed) c.loop-index.index c.decider-node.result.0 c.decider-node.result.1 c.decider-node.ensures) result unfolds u units in
    cost_beside c.args.self.now c.args.embed (places_of c.args.pending.now c.args.embed) c.args.count c.collects-collects.result c.loop-index.index c.decider-node.result.0 c.decider-node.result.1 at c.turn_to.new.self turned c.collects-collects.ensures.nothing
    c.loop-index.steps c.value.new.steps long c.value.ensures.cheap these.0 u these.1
    (subst (λ places. HasUnitsBeside (WasRead c.args.self.now c.args.embed places c.loop-index.index c.decider-node.result.0 these.0) (read_at c.args.self.now c.decider-node.result.1) these.0 u) c.loop-index.invariant.places these.2))

pub give-requires-clause-value : goal.give-requires-clause-value
give-requires-clause-value g c kept at =
    c.value.ensures.kind kept c.in-Some.value (subst (λ (p : PendingOf). IsEmbedAt p.map.schema c.args.embed kept) (c.loop-index.invariant.read c.requires.read.0 c.requires.read.1 c.requires.read.2 c.requires.read.3).is at) c.in-Some.is

pub loop-index-preserved : goal.loop-index-preserved
loop-index-preserved g c =
    let on : suc c.loop-index.index ≡ c.loop-index.index + 1 = omega arith in
    let at : slice_get (places_of c.args.pending.now c.args.embed) c.loop-index.index ≡ Some c.decider-node.result = subst (λ (places : List (ℕ × ℕ)). slice_get places c.loop-index.index ≡ Some c.decider-node.result) c.loop-index.invariant.places c.decider-node.ensures in
    let long : length (places_of c.args.pending.now c.args.embed) ≡ c.args.count = length-map (instances_of c.args.pending.now c.args.embed) place_of ∙ c.requires.count in
    let turned = kept_turned c.args.self.now c.args.embed (places_of c.args.pending.now c.args.embed) c.args.count c.collects-collects.result (nodes_rise c.args.self.now c.requires.read.0 c.args.pending.now c.args.embed 0 c.requires.read.1 c.args.steps.now c.requires.read.3) c.loop-index.index c.decider-node.result.0 c.decider-node.result.1 at c.loop-index.kept c.turn_to.new.self c.loop-index.invariant.before c.turn_to.ensures.stays c.turn_to.ensures.turned c.turn_to.ensures.reader in
    record {
      read = λ hooks start readable read. subst (λ n. HasRead c.args.self.now hooks c.give.new.self (suc c.args.embed) c.args.embed n start c.value.new.steps) on
          (given_more c.args.self.now hooks c.loop-index.pending c.args.embed c.loop-index.index start c.loop-index.steps c.value.new.steps c.decider-node.result.0 c.decider-node.result.1 (c.loop-index.invariant.read hooks start readable read) (entry_at (instances_of c.loop-index.pending c.args.embed) c.loop-index.index c.decider-node.result.0 c.decider-node.result.1 c.decider-node.ensures)
          (c.value.ensures.cost hooks) c.give.new.self c.in-Some.value (c.in-Some.ensures.value hooks) c.give.ensures c.value.ensures.least
          (λ result unfolds u units.
          let these = units_once c.args.self.now hooks readable c.loop-index.pending c.args.embed c.loop-index.index start c.loop-index.steps (c.loop-index.invariant.read hooks start readable read) c.decider-node.result.0 c.decider-node.result.1
          (entry_at (instances_of c.loop-index.pending c.args.embed) c.loop-index.index c.decider-node.result.0 c.decider-node.result.1 c.decider-node.ensures) result unfolds u units in
          cost_beside c.args.self.now c.args.embed (places_of c.args.pending.now c.args.embed) c.args.count c.collects-collects.result c.loop-index.index c.decider-node.result.0 c.decider-node.result.1 at c.turn_to.new.self turned c.collects-collects.ensures.nothing
          c.loop-index.steps c.value.new.steps long c.value.ensures.cheap these.0 u these.1
          (subst (λ places. HasUnitsBeside (WasRead c.args.self.now c.args.embed places c.loop-index.index c.decider-node.result.0 these.0) (read_at c.args.self.now c.decider-node.result.1) these.0 u) c.loop-index.invariant.places these.2)));
      long = ap length (these_deciders c.args.self.now c.requires.read.0 c.loop-index.pending c.args.embed c.loop-index.index c.requires.read.1 c.loop-index.steps c.value.new.steps c.decider-node.result.0 c.decider-node.result.1 (c.loop-index.invariant.read c.requires.read.0 c.requires.read.1 c.requires.read.2 c.requires.read.3) (entry_at (instances_of c.loop-index.pending c.args.embed) c.loop-index.index c.decider-node.result.0 c.decider-node.result.1 c.decider-node.ensures)
          (c.value.ensures.cost c.requires.read.0) c.give.new.self c.in-Some.value (c.in-Some.ensures.value c.requires.read.0) c.give.ensures c.value.ensures.least) ∙ given_long (instances_of c.loop-index.pending c.args.embed) c.loop-index.index c.in-Some.value ∙ c.loop-index.invariant.long;
      places = ap (map place_of) (these_deciders c.args.self.now c.requires.read.0 c.loop-index.pending c.args.embed c.loop-index.index c.requires.read.1 c.loop-index.steps c.value.new.steps c.decider-node.result.0 c.decider-node.result.1 (c.loop-index.invariant.read c.requires.read.0 c.requires.read.1 c.requires.read.2 c.requires.read.3) (entry_at (instances_of c.loop-index.pending c.args.embed) c.loop-index.index c.decider-node.result.0 c.decider-node.result.1 c.decider-node.ensures) (c.value.ensures.cost c.requires.read.0) c.give.new.self c.in-Some.value (c.in-Some.ensures.value c.requires.read.0) c.give.ensures c.value.ensures.least) ∙ places_stay (instances_of c.loop-index.pending c.args.embed) c.loop-index.index c.in-Some.value ∙ c.loop-index.invariant.places;
      room = c.value.ensures.room ∙ c.loop-index.invariant.room;
      kept = c.value.ensures.kept;
      before = subst (λ n. IsKeptBefore c.args.self.now c.args.embed (places_of c.args.pending.now c.args.embed) c.args.count c.collects-collects.result n c.value.new.kept) on
          (kept_read c.args.self.now c.args.embed (places_of c.args.pending.now c.args.embed) c.args.count c.collects-collects.result c.loop-index.index c.decider-node.result.0 c.decider-node.result.1 at c.turn_to.new.self turned c.value.new.kept
          c.value.ensures.stays c.value.ensures.reader c.value.ensures.among c.value.ensures.once (c.value.ensures.remembers (is_some c.value.result c.in-Some.value c.in-Some.is)));
    }

pub returns-clause-given : goal.returns-clause-given
returns-clause-given g c hooks start readable read =
    let on : suc c.args.embed ≡ c.args.embed + 1 = omega arith in
    let past : length (instances_of c.loop-index.pending c.args.embed) ≡ c.args.count = c.loop-index.invariant.long in
    subst (λ n. HasRead c.args.self.now hooks c.loop-index.pending n n 0 start c.loop-index.steps) on
    (all_given c.args.self.now hooks c.loop-index.pending c.args.embed c.loop-index.index start c.loop-index.steps (c.loop-index.invariant.read hooks start readable read) (omega (arith, past, c.loop-index-test.false, c.loop-index.auto.index-end)))

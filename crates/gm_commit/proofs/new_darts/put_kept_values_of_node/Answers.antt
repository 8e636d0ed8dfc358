use Rattle.std.proofs.Common.{◌≡◌, ℕ, ◌+◌, ◌*◌, ◌≤◌, length, subst, arith}
use Rattle.std.proofs.lemmas.Nat.{mul-le}
use Rattle.gm_commit.specs.inner.NewDartValues.{AreKeptValues, new_number}
use Rattle.gm_commit.proofs.new_darts.put_kept_values_of_node.Goals as goal

-- the values of one dart more
in_turn : (position width start before after : ℕ) → before ≤ start + position * width → after ≤ before + width → after ≤ start + (position + 1) * width
in_turn position width start before after so_far more = let all : (position + 1) * width ≡ position * width + width = grind arith in omega (arith, all, so_far, more)

pub loop-position-init : goal.loop-position-init
loop-position-init g c = record { so_far = c.requires.earlier; cost = omega arith; least = omega arith }

pub put_kept_values_of_dart-requires-clause-position : goal.put_kept_values_of_dart-requires-clause-position
put_kept_values_of_dart-requires-clause-position g c = omega (arith, c.loop-position-test.true, c.positions-position-end.ensures.positions)

pub put_kept_values_of_dart-requires-clause-keepers : goal.put_kept_values_of_dart-requires-clause-keepers
put_kept_values_of_dart-requires-clause-keepers g c = c.keepers-keepers.ensures

pub put_kept_values_of_dart-requires-clause-earlier : goal.put_kept_values_of_dart-requires-clause-earlier
put_kept_values_of_dart-requires-clause-earlier g c = c.loop-position.invariant.so_far

pub returns-in_err-put_kept_values_of_dart-clause-cost : goal.returns-in_err-put_kept_values_of_dart-clause-cost
returns-in_err-put_kept_values_of_dart-clause-cost g c =
    let width = length c.args.pending.now.map.schema.embeds in
    omega (
      arith,
      in_turn c.loop-position.position width c.args.steps.now c.loop-position.steps c.put_kept_values_of_dart.new.steps c.loop-position.invariant.cost c.put_kept_values_of_dart.ensures.cost,
      mul-le (c.loop-position.position + 1) width c.args.pending.now.placed.positions width (omega (arith, c.loop-position-test.true, c.positions-position-end.ensures.positions)) (omega arith),
    )

pub loop-position-preserved : goal.loop-position-preserved
loop-position-preserved g c = record {
  so_far = subst (λ n. AreKeptValues c.args.pending.now n c.put_kept_values_of_dart.new.values.items) (let next : new_number c.args.pending.now c.args.node c.loop-position.position + 1 ≡ new_number c.args.pending.now c.args.node (c.loop-position.position + 1) = omega arith in next) c.in_ok-put_kept_values_of_dart.ensures.values;
  cost = in_turn c.loop-position.position _ c.args.steps.now c.loop-position.steps c.put_kept_values_of_dart.new.steps c.loop-position.invariant.cost c.put_kept_values_of_dart.ensures.cost;
  least = omega (arith, c.loop-position.invariant.least, c.put_kept_values_of_dart.ensures.least);
}

pub returns-clause-values : goal.returns-clause-values
returns-clause-values g c =
    let whole : c.loop-position.position ≡ c.args.pending.now.placed.positions = omega (arith, c.loop-position-test.false, c.loop-position.auto.position-end, c.positions-position-end.ensures.positions) in
    subst (λ p. AreKeptValues c.args.pending.now (new_number c.args.pending.now c.args.node p) c.loop-position.values.items) whole c.loop-position.invariant.so_far

pub returns-clause-cost : goal.returns-clause-cost
returns-clause-cost g c =
    let whole : c.loop-position.position ≡ c.args.pending.now.placed.positions = omega (arith, c.loop-position-test.false, c.loop-position.auto.position-end, c.positions-position-end.ensures.positions) in
    subst (λ p. c.loop-position.steps ≤ c.args.steps.now + p * length c.args.pending.now.map.schema.embeds) whole c.loop-position.invariant.cost

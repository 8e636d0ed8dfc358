use Rattle.std.proofs.Common.{◌≡◌, ℕ, ◌+◌, ◌*◌, List, ◌++◌, length, take, drop, subst, sym, ap, ◌∙◌, arith}
use Rattle.std.proofs.lemmas.List.{take-append-le, take_all}
use Rattle.gm_model.specs.declared.value.Value.{Value}
use Rattle.gm_commit.specs.inner.EditLists.{AreAddedValues}
use Rattle.gm_commit.specs.inner.NewDartValues.{AreDecidedBelow, AreKeptValues}
use Rattle.gm_commit.proofs.on_new_darts.KeptValues.{no_values}
use Rattle.gm_commit.proofs.on_new_darts.GivenValues.{none_decided, all_decided}
use Rattle.gm_commit.proofs.new_darts.added_values.Goals as goal

pub loop-embed-init : goal.loop-embed-init
loop-embed-init g c = none_decided c.args.pending.now _ (subst (λ n. AreKeptValues c.args.pending.now n c.in_ok-values.values.items) c.requires.added c.in_ok-values.ensures.values)

pub returns-clause-values : goal.returns-clause-values
returns-clause-values g c =
    let whole : c.loop-embed.embed ≡ length c.args.pending.now.map.schema.embeds = omega (arith, c.loop-embed-test.false, c.loop-embed.auto.embed-end, c.embeds-embed-end.ensures.embeds) in
    subst (λ n. AreAddedValues c.args.pending.now n c.loop-embed.values.items) (sym c.requires.added) (all_decided c.args.pending.now c.loop-embed.embed c.loop-embed.values.items whole c.loop-embed.invariant)

pub returns-then-room-eq0-clause-values : goal.returns-then-room-eq0-clause-values
returns-then-room-eq0-clause-values g c =
    let none : c.args.added * length c.args.pending.now.map.schema.embeds ≡ 0 = ap (λ n. c.args.added * n) (sym c.embeds.ensures.embeds) ∙ omega (arith, c.if-room-eq0.true, c.saturating_mul-room.ensures) in
    subst (AreAddedValues c.args.pending.now c.args.added) (sym c.new.ensures.items) (no_values c.args.pending.now c.args.added none)

pub returns-then-room-eq0-clause-cost : goal.returns-then-room-eq0-clause-cost
returns-then-room-eq0-clause-cost g c = omega arith

pub kept_values-requires : goal.kept_values-requires
kept_values-requires g c = c.requires.added

pub returns-in_err-values-clause-cost : goal.returns-in_err-values-clause-cost
returns-in_err-values-clause-cost g c = c.kept_values.ensures.cost

pub put_given_values-requires-clause-embed : goal.put_given_values-requires-clause-embed
put_given_values-requires-clause-embed g c = omega (arith, c.loop-embed-test.true, c.embeds-embed-end.ensures.embeds)

pub put_given_values-requires-clause-given : goal.put_given_values-requires-clause-given
put_given_values-requires-clause-given g c = c.requires.given

pub put_given_values-requires-clause-earlier : goal.put_given_values-requires-clause-earlier
put_given_values-requires-clause-earlier g c = rw c.deref_mut.ensures.value c.loop-embed.invariant

-- what is written through a slice of all values is all of them
all_written : (len : ℕ) (values written : List Value) → len ≡ length values → length written ≡ length values → take len (written ++ drop (length written) values) ≡ written
all_written len values written is same = take-append-le len written (drop (length written) values) (omega (arith, is, same)) ∙ take_all len written (omega (arith, is, same))

pub loop-embed-preserved : goal.loop-embed-preserved
loop-embed-preserved g c =
    subst (AreDecidedBelow c.args.pending.now (c.loop-embed.embed + 1)) (sym (all_written c.loop-embed.values.len c.loop-embed.values.items c.put_given_values.new.values c.loop-embed.values.ok.0 (c.put_given_values.ensures.long ∙ sym c.loop-embed.invariant.long))) c.put_given_values.ensures

pub returns-clause-cost : goal.returns-clause-cost
returns-clause-cost g c = c.kept_values.ensures.cost

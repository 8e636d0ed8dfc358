use Rattle.std.proofs.Common.{◌≡◌, ◌<◌, length, refl, arith}
use borrow.Author.Count.{falls}
use Rattle.gm_commit.specs.inner.NewDartValues.{new_number}
use Rattle.gm_commit.proofs.on_new_darts.KeptValues.{none_put, more_put, more_kept}
use Rattle.gm_pending.proofs.on_values.ValuesOfDarts.{keeper_preserved, keeper_source}
use Rattle.gm_commit.proofs.new_darts.put_kept_values_of_dart.Goals as goal

pub loop-embed-init : goal.loop-embed-init
loop-embed-init g c = record { put = none_put c.args.pending.now (new_number c.args.pending.now c.args.node c.args.position) c.args.values.now.items; cost = omega arith; least = omega arith }

pub kept_value-requires-clause-preserved : goal.kept_value-requires-clause-preserved
kept_value-requires-clause-preserved g c =
    let low : c.loop-embed.embed < length c.args.pending.now.map.schema.embeds = omega (arith, c.loop-embed-test.true, c.embeds-embed-end.ensures.embeds) in
    keeper_preserved c.args.pending.now c.loop-embed.embed c.args.node _ (c.requires.keepers c.loop-embed.embed low) low

pub loop-embed-preserved : goal.loop-embed-preserved
loop-embed-preserved g c =
    let low : c.loop-embed.embed < length c.args.pending.now.map.schema.embeds = omega (arith, c.loop-embed-test.true, c.embeds-embed-end.ensures.embeds) in
    record {
      put = rw c.in_ok-push.ensures.items (more_put c.args.pending.now (new_number c.args.pending.now c.args.node c.args.position) c.loop-embed.embed c.args.values.now.items c.loop-embed.values.items c.kept_value.result c.loop-embed.invariant.put
          (λ embed at. (c.args.node, c.args.position, (c.requires.added, c.requires.position), refl, keeper_source c.args.pending.now c.loop-embed.embed c.args.node _ c.args.position c.kept_value.result (c.requires.keepers c.loop-embed.embed low) c.kept_value.ensures.value embed at)));
      cost = omega (arith, c.kept_value.ensures.cost, c.loop-embed.invariant.cost);
      least = omega (arith, c.kept_value.ensures.least, c.loop-embed.invariant.least);
    }

pub returns-clause-values : goal.returns-clause-values
returns-clause-values g c =
    let whole : c.loop-embed.embed ≡ length c.args.pending.now.map.schema.embeds = omega (arith, c.loop-embed-test.false, c.loop-embed.auto.embed-end, c.embeds-embed-end.ensures.embeds) in
    more_kept c.args.pending.now (new_number c.args.pending.now c.args.node c.args.position) c.loop-embed.embed c.args.values.now.items c.loop-embed.values.items whole c.requires.earlier c.loop-embed.invariant.put

pub loop-embed-smaller : goal.loop-embed-smaller
loop-embed-smaller g c = falls _ _ c.loop-embed-test.true

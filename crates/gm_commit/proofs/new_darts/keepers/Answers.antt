use Rattle.std.proofs.Common.{◌≢◌, ◌<◌, length, arith, get_or-set_other, get_or-set_same, length-set, below_more, refl}
use Rattle.gm_commit.proofs.new_darts.keepers.Goals as goal

pub loop-embed-preserved : goal.loop-embed-preserved
loop-embed-preserved c =
    let low : c.loop-embed.embed < length c.loop-embed.keepers = omega (arith, c.loop-embed-test.true, c.loop-embed.invariant.long, c.embeds-embed-end.ensures.embeds, c.embeds-embed-end.ensures.prepared.lawful.schema.count) in
    record {
      long = omega (arith, c.loop-embed.invariant.long, length-set c.loop-embed.keepers c.loop-embed.embed c.keeper.result);
      found = below_more _ _ (λ e h. let other : e ≢ c.loop-embed.embed = omega arith in rw get_or-set_other (c.loop-embed.invariant.found e h)) (rw get_or-set_same c.keeper.ensures);
    }

pub keeper-requires-clause-embed : goal.keeper-requires-clause-embed
keeper-requires-clause-embed c = omega (arith, c.loop-embed-test.true, c.embeds-embed-end.ensures.embeds)

pub loop-embed-init : goal.loop-embed-init
loop-embed-init c = record { long = refl; found = λ e h. absurd (omega arith) }

pub returns : goal.returns
returns c = λ e h. c.loop-embed.invariant.found e (omega (arith, h, c.loop-embed-test.false, c.embeds-embed-end.ensures.embeds))

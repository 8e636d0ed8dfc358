use Rattle.std.proofs.Common.{sym, ◌∙◌, w64, to_z, of_z}
use Rattle.std.proofs.lemmas.Int.{to_z-of_z}
use Rattle.gm_script.proofs.Colours.{channel_fits, colour_is, no_red, no_green, no_blue}
use Rattle.gm_script.proofs.values.colour.Goals as goal
use Rattle.gm_script.proofs.values.colour.Goals.{else-is_channel-via-then-is_channel+then-is_channel-2+else-is_channel-3, else-is_channel-via-then-is_channel+else-is_channel-2, else-is_channel-via-else-is_channel}

pub returns-then-is_channel-3 : goal.returns-then-is_channel-3
returns-then-is_channel-3 c = colour_is c.args.r c.args.g c.args.b (to_z w64 (of_z w64 c.args.r)) (to_z w64 (of_z w64 c.args.g)) (to_z w64 (of_z w64 c.args.b)) (to_z-of_z w64 c.args.r c.ranges.r) (to_z-of_z w64 c.args.g c.ranges.g) (to_z-of_z w64 c.args.b c.ranges.b) (sym c.is_channel.ensures ∙ c.if-is_channel.true) (sym c.is_channel-then-is_channel.ensures ∙ c.if-is_channel-2.true) (sym c.is_channel-then-is_channel-2.ensures ∙ c.if-is_channel-3.true)

pub returns-else-is_channel : goal.returns-else-is_channel
returns-else-is_channel c = elim c.else-is_channel.branch [
  | else-is_channel-via-then-is_channel+then-is_channel-2+else-is_channel-3 w ↦ no_blue c.args.r c.args.g c.args.b (to_z w64 (of_z w64 c.args.r)) (to_z w64 (of_z w64 c.args.g)) (to_z w64 (of_z w64 c.args.b)) (to_z-of_z w64 c.args.r c.ranges.r) (to_z-of_z w64 c.args.g c.ranges.g) (to_z-of_z w64 c.args.b c.ranges.b) (sym c.is_channel.ensures ∙ w.if-is_channel.true) (sym w.is_channel-then-is_channel.ensures ∙ w.if-is_channel-2.true) (sym w.is_channel-then-is_channel-2.ensures ∙ w.if-is_channel-3.false)
  | else-is_channel-via-then-is_channel+else-is_channel-2 w ↦ no_green c.args.r c.args.g c.args.b (to_z w64 (of_z w64 c.args.r)) (to_z w64 (of_z w64 c.args.g)) (to_z w64 (of_z w64 c.args.b)) (to_z-of_z w64 c.args.r c.ranges.r) (to_z-of_z w64 c.args.g c.ranges.g) (to_z-of_z w64 c.args.b c.ranges.b) (sym c.is_channel.ensures ∙ w.if-is_channel.true) (sym w.is_channel-then-is_channel.ensures ∙ w.if-is_channel-2.false)
  | else-is_channel-via-else-is_channel w ↦ no_red c.args.r c.args.g c.args.b (to_z w64 (of_z w64 c.args.r)) (to_z w64 (of_z w64 c.args.g)) (to_z w64 (of_z w64 c.args.b)) (to_z-of_z w64 c.args.r c.ranges.r) (to_z-of_z w64 c.args.g c.ranges.g) (to_z-of_z w64 c.args.b c.ranges.b) (sym c.is_channel.ensures ∙ w.if-is_channel.false)
]

pub overflow_cast-result : goal.overflow_cast-result
overflow_cast-result c = channel_fits (to_z w64 (of_z w64 c.args.r)) (sym c.is_channel.ensures ∙ c.if-is_channel.true)

pub overflow_cast-result-then-is_channel-3 : goal.overflow_cast-result-then-is_channel-3
overflow_cast-result-then-is_channel-3 c = channel_fits (to_z w64 (of_z w64 c.args.g)) (sym c.is_channel-then-is_channel.ensures ∙ c.if-is_channel-2.true)

pub overflow_cast-result-then-is_channel-3-2 : goal.overflow_cast-result-then-is_channel-3-2
overflow_cast-result-then-is_channel-3-2 c = channel_fits (to_z w64 (of_z w64 c.args.b)) (sym c.is_channel-then-is_channel-2.ensures ∙ c.if-is_channel-3.true)

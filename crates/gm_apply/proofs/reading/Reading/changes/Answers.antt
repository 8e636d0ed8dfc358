use Rattle.std.proofs.Common.{◌≡◌, length, ap, subst, sym, ◌∙◌, arith}
use Rattle.std.proofs.lemmas.Result.{err_from_is_err_and}
use Rattle.gm_model.specs.declared.schema.Schema.{Schema}
use Rattle.gm_walk.specs.inner.Room.{Room}
use Rattle.gm_apply.specs.inner.Reads.{HasRead}
use Rattle.gm_apply.proofs.Asking.{none_read}
use Rattle.gm_apply.proofs.Giving.{every_one, ended_building, ended_editing, has_edits}
use Rattle.gm_apply.proofs.reading.Reading.changes.Goals as goal

pub build_in-requires-clause-schema : goal.build_in-requires-clause-schema
build_in-requires-clause-schema g c = c.requires.readable.1.schema

pub build_in-requires-clause-sound : goal.build_in-requires-clause-sound
build_in-requires-clause-sound g c = c.requires.readable.1.sound

pub build_in-requires-clause-matched : goal.build_in-requires-clause-matched
build_in-requires-clause-matched g c = (c.requires.readable.0, c.requires.readable.1.answer.matched)

pub returns-in_err-pending-clause-edits : goal.returns-in_err-pending-clause-edits
returns-in_err-pending-clause-edits g c hooks readable =
    let p = err_from_is_err_and c.from_residual.result c.from_residual.ensures.1 in
    rw (p.1, p.2) (ended_building c.args.self.now hooks _ _ c.build_in.ensures.no_step)

pub returns-in_err-pending-clause-room : goal.returns-in_err-pending-clause-room
returns-in_err-pending-clause-room g c = ap (λ (r : Room). r.bound) c.lend_marks-room.ensures.stays

pub loop-embed-init : goal.loop-embed-init
loop-embed-init g c = record {
  read = λ hooks readable. subst (λ n. HasRead c.args.self.now hooks c.in_ok-pending.pending 0 0 0 c.args.steps.now n) (sym c.build_in.ensures.no_step) (none_read c.args.self.now hooks c.in_ok-pending.pending c.args.steps.now c.in_ok-pending.ensures.pending);
  room = ap (λ (r : Room). r.bound) c.lend_marks-room.ensures.stays;
}

pub give_values-requires-clause-embed : goal.give_values-requires-clause-embed
give_values-requires-clause-embed g c =
    let many : length c.as_slice.result.now ≡ length c.args.self.now.arena.now.schema.embeds = ap length c.as_slice.ensures ∙ ap (λ (s : Schema). length s.embeds) c.schema.ensures.schema ∙ ap (λ (s : Schema). length s.embeds) (sym c.requires.readable.1.schema) in
    omega (arith, c.loop-embed-test.true, many)

pub give_values-requires-clause-read : goal.give_values-requires-clause-read
give_values-requires-clause-read g c = (c.requires.readable.0, c.args.steps.now, c.requires.readable.1, c.loop-embed.invariant.read c.requires.readable.0 c.requires.readable.1)

pub returns-in_err-give_values-clause-edits : goal.returns-in_err-give_values-clause-edits
returns-in_err-give_values-clause-edits g c hooks readable =
    let p = err_from_is_err_and c.from_residual-in_err-give_values.result c.from_residual-in_err-give_values.ensures.1 in
    rw (p.1, p.2) (c.in_err-give_values.ensures.given hooks c.args.steps.now readable (c.loop-embed.invariant.read hooks readable))

pub returns-in_err-give_values-clause-room : goal.returns-in_err-give_values-clause-room
returns-in_err-give_values-clause-room g c = c.in_err-give_values.ensures.room ∙ c.loop-embed.invariant.room

pub loop-embed-preserved : goal.loop-embed-preserved
loop-embed-preserved g c = record {
  read = λ hooks readable. c.in_ok-give_values.ensures.given hooks c.args.steps.now readable (c.loop-embed.invariant.read hooks readable);
  room = c.in_ok-give_values.ensures.room ∙ c.loop-embed.invariant.room;
}

pub gather-requires : goal.gather-requires
gather-requires g c =
    let many : length c.as_slice.result.now ≡ length c.args.self.now.arena.now.schema.embeds = ap length c.as_slice.ensures ∙ ap (λ (s : Schema). length s.embeds) c.schema.ensures.schema ∙ ap (λ (s : Schema). length s.embeds) (sym c.requires.readable.1.schema) in
    let whole : c.loop-embed.embed ≡ length c.args.self.now.arena.now.schema.embeds = omega (arith, c.loop-embed-test.false, c.loop-embed.auto.embed-end, many) in
    let read = subst (λ n. HasRead c.args.self.now c.requires.readable.0 c.loop-embed.pending n n 0 c.args.steps.now c.loop-embed.steps) whole (c.loop-embed.invariant.read c.requires.readable.0 c.requires.readable.1) in
    record { given = every_one c.args.self.now c.requires.readable.0 c.loop-embed.pending c.args.steps.now c.loop-embed.steps read }

pub returns-in_err-gather-clause-edits : goal.returns-in_err-gather-clause-edits
returns-in_err-gather-clause-edits g c hooks readable =
    let p = err_from_is_err_and c.from_residual-in_err-gather.result c.from_residual-in_err-gather.ensures.1 in
    let many : length c.as_slice.result.now ≡ length c.args.self.now.arena.now.schema.embeds = ap length c.as_slice.ensures ∙ ap (λ (s : Schema). length s.embeds) c.schema.ensures.schema ∙ ap (λ (s : Schema). length s.embeds) (sym readable.schema) in
    let whole : c.loop-embed.embed ≡ length c.args.self.now.arena.now.schema.embeds = omega (arith, c.loop-embed-test.false, c.loop-embed.auto.embed-end, many) in
    let read = subst (λ n. HasRead c.args.self.now hooks c.loop-embed.pending n n 0 c.args.steps.now c.loop-embed.steps) whole (c.loop-embed.invariant.read hooks readable) in
    rw (p.1, p.2) (ended_editing c.args.self.now hooks c.loop-embed.pending c.args.steps.now c.loop-embed.steps read c.gather.new.steps c.gather.ensures.least c.gather.ensures.cost)

pub returns-clause-edits : goal.returns-clause-edits
returns-clause-edits g c hooks readable =
    let many : length c.as_slice.result.now ≡ length c.args.self.now.arena.now.schema.embeds = ap length c.as_slice.ensures ∙ ap (λ (s : Schema). length s.embeds) c.schema.ensures.schema ∙ ap (λ (s : Schema). length s.embeds) (sym readable.schema) in
    let whole : c.loop-embed.embed ≡ length c.args.self.now.arena.now.schema.embeds = omega (arith, c.loop-embed-test.false, c.loop-embed.auto.embed-end, many) in
    let read = subst (λ n. HasRead c.args.self.now hooks c.loop-embed.pending n n 0 c.args.steps.now c.loop-embed.steps) whole (c.loop-embed.invariant.read hooks readable) in
    has_edits c.args.self.now hooks c.loop-embed.pending c.args.steps.now c.loop-embed.steps read c.gather.new.steps c.gather.ensures.least c.gather.ensures.cost c.in_ok-gather.field-0 c.in_ok-gather.ensures.edits

pub returns-in_err-gather-clause-room : goal.returns-in_err-gather-clause-room
returns-in_err-gather-clause-room g c = ap (λ room. room.bound) c.lend_slots.ensures ∙ c.loop-embed.invariant.room

pub returns-clause-room : goal.returns-clause-room
returns-clause-room g c = ap (λ room. room.bound) c.lend_slots.ensures ∙ c.loop-embed.invariant.room

use Rattle.std.proofs.Common.{◌≡◌, length}
use Rattle.gm_arena.specs.inner.ArenaMap.{name_at}
use Rattle.gm_arena.specs.inner.Lawful.{AreGoodValues}
use Rattle.std.proofs.Common.{refl, sym, ap, subst, ◌∙◌, arith}
use Rattle.gm_undo.proofs.OneDart.{named, valued_more, valued_all, value_there}
use Rattle.gm_arena.specs.inner.Edits.{with_value}
use Rattle.gm_arena.specs.inner.ArenaMap.{ArenaMap}
use Rattle.gm_model.specs.declared.schema.Schema.{Schema}
use Rattle.std.proofs.Common.{get_or, pos}
use Rattle.gm_model.specs.declared.value.Value.TheVariants.{Int}
use Rattle.gm_undo.proofs.writing.set_values.Goals as goal

pub set_value-requires-clause-value : goal.set_value-requires-clause-value
set_value-requires-clause-value g c =
    let schema : c.loop-embed.arena.schema ≡ c.args.arena.now.schema = ap (λ (m : ArenaMap). m.schema) c.loop-embed.invariant.valued.frame in
    value_there c.loop-embed.arena.schema c.args.values.now c.loop-embed.embed (subst (λ (s : Schema). AreGoodValues s c.args.values.now) (sym schema) c.requires.values) c.loop-embed-test.true

pub loop-embed-preserved : goal.loop-embed-preserved
loop-embed-preserved g c =
    let inv = c.loop-embed.invariant in
    let is : name_at c.loop-embed.arena c.args.slot.at ≡ name_at c.args.arena.now c.args.slot.at = named c.args.arena.now c.loop-embed.arena c.args.slot.at inv.valued.frame in
    record {
      valued = valued_more (name_at c.args.arena.now c.args.slot.at) c.args.arena.now c.args.values.now c.loop-embed.arena c.set_value.new.self c.loop-embed.embed (get_or c.args.values.now c.loop-embed.embed (Int (pos 0))) inv.valued c.loop-embed-test.true refl
          (c.set_value.ensures.map ∙ ap (λ n. with_value c.loop-embed.arena n c.loop-embed.embed (get_or c.args.values.now c.loop-embed.embed (Int (pos 0)))) is);
      steps = omega (arith, inv.steps, c.set_value.ensures.cost);
    }

pub returns-clause-own : goal.returns-clause-own
returns-clause-own g c =
    let whole : c.loop-embed.embed ≡ length c.args.values.now = omega (arith, c.loop-embed-test.false, c.loop-embed.auto.embed-end) in
    valued_all (name_at c.args.arena.now c.args.slot.at) c.args.arena.now c.args.values.now c.loop-embed.arena (rw whole at c.loop-embed.invariant.valued)

use Rattle.std.proofs.Common.{◌<◌, ◌++◌, ◌∷◌, [], length, get_or, pos, sym, ap, ◌∙◌, arith}
use Rattle.std.proofs.lemmas.List.{length-set, take_more}
use Rattle.gm_model.specs.declared.value.Value.TheVariants.{Int}
use Rattle.gm_arena.proofs.ValueLemmas.{one_more}
use Rattle.gm_arena.proofs.arena.overwrite.Goals as goal

pub loop-at-preserved : goal.loop-at-preserved
loop-at-preserved c =
    let values = c.args.values.now in
    let at = c.loop-at.at in
    let part = c.loop-at.part in
    let value = get_or values at (Int (pos 0)) in
    let here : at < length part = omega (arith, c.requires, c.loop-at-test.true, c.loop-at.invariant.long) in
    record {
      items = one_more part at value here ∙ (ap (λ xs. xs ++ value ∷ []) c.loop-at.invariant.items ∙ sym (take_more values at (Int (pos 0)) c.loop-at-test.true));
      long = length-set part at value ∙ c.loop-at.invariant.long;
    }

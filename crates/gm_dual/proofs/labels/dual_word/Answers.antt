use Rattle.std.proofs.Common.{◌≡◌, ◌++◌, [], ◌∷◌, take, refl, subst, arith, sym, ap, ap₂, ◌∙◌}
use Rattle.std.specs.Prelude.{SomeIff, Option, Some, length, ◌≤◌}
use Rattle.std.proofs.lemmas.List.{length-set, take_more_set}
use Rattle.gm_model.specs.declared.word.Letter.TheVariants.{Gone}
use Rattle.std.proofs.lemmas.Option.{get_or_from_slice_get}
use Rattle.gm_dual.specs.Duals as duals
use Rattle.gm_dual.proofs.MapLemmas.{map_all, map_more}
use Rattle.gm_dual.proofs.labels.dual_word.Goals as goal

held : {A : Type 0} (o : Option A) (P : Type 0) (v x : A) → SomeIff o P v → o ≡ Some x → x ≡ v
held o P v x is e = let both = subst (λ p. SomeIff p P v) e is in both.1

pub loop-place-init : goal.loop-place-init
loop-place-init c = record { long = refl; done = refl }

pub loop-place-preserved : goal.loop-place-preserved
loop-place-preserved c =
    let i = c.loop-place.invariant in
    let word = c.args.word.now in
    let place = c.loop-place.place in
    record {
      long = length-set c.loop-place.letters place c.dual_letter.result ∙ i.long;
      done = take_more_set c.loop-place.letters place c.dual_letter.result (omega (arith, i.long, c.loop-place-test.true, c.len-place-end.ensures.value, c.len-place-end.ensures.most)) ∙ (ap₂ (λ xs x. xs ++ x ∷ []) i.done (c.dual_letter.ensures ∙ ap (duals.dual_letter c.args.top) (sym (get_or_from_slice_get word place _ _ c.letter.ensures))) ∙ sym (map_more (duals.dual_letter c.args.top) word place Gone (omega (arith, c.loop-place-test.true, c.len-place-end.ensures.value))));
    }

pub returns : goal.returns
returns c =
    let whole : length c.args.word.now ≤ c.loop-place.place = omega (arith, c.loop-place-test.false, c.len-place-end.ensures.value) in
    let same : c.len.result ≡ c.loop-place.place = omega (arith, c.len.ensures.value, c.loop-place-test.false, c.len-place-end.ensures.value, c.loop-place.auto.place-end) in
    held c.new.result _ _ c.unwrap.result c.new.ensures c.unwrap.ensures ∙ (ap (λ k. take k c.loop-place.letters) same ∙ (c.loop-place.invariant.done ∙ map_all (duals.dual_letter c.args.top) c.args.word.now c.loop-place.place whole))

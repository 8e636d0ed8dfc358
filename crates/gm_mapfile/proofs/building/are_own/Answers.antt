use Rattle.std.proofs.Common.{◌≡◌, ℕ, ◌+◌, ◌*◌, ◌/◌, ◌<◌, ◌≤◌, Fits, w32, All, get_or, length, sym, subst, ◌∙◌, arith}
use Rattle.std.proofs.lemmas.Bool.{false≢true}
use Rattle.gm_model.specs.Limits.{most_darts}
use Rattle.gm_mapfile.proofs.Chunks.{byte_fits, width_fits, width_some}
use Rattle.gm_mapfile.proofs.building.are_own.Goals as goal

darts_fit : (n : ℕ) → n ≤ most_darts → Fits w32 n
darts_fit n few = omega (arith, few)

pub overflow_cast-width : goal.overflow_cast-width
overflow_cast-width c = byte_fits c.top.result c.top.type_inv

pub overflow_add-width : goal.overflow_add-width
overflow_add-width c = width_fits c.top.result c.top.type_inv

pub are_numbered-requires : goal.are_numbered-requires
are_numbered-requires c = width_some c.top.result

pub nonzero_div-numbers : goal.nonzero_div-numbers
nonzero_div-numbers c = width_some c.top.result

pub overflow_cast-numbers : goal.overflow_cast-numbers
overflow_cast-numbers c = subst (λ (n : ℕ). Fits w32 (length c.args.numbers.now / (n + 2))) (sym c.top.ensures.value) (darts_fit _ c.requires)

pub returns-then-are_numbered : goal.returns-then-are_numbered
returns-then-are_numbered c =
    let numbers = c.args.numbers.now in
    record {
      named = λ is. subst (λ (n : ℕ). (at : ℕ) → at < length numbers / (n + 2) → get_or numbers (at * (n + 2)) 0 ≡ at) c.top.ensures.value (c.are_numbered.ensures c.if-are_numbered.true);
      within = λ is. subst (λ (n : ℕ). All (λ x. x < length numbers / (n + 2)) numbers) c.top.ensures.value (c.are_below.ensures is);
    }

pub returns-else-are_numbered : goal.returns-else-are_numbered
returns-else-are_numbered c = record {
  named = λ is. absurd (false≢true (sym c.if-are_numbered.false ∙ is));
  within = λ is. absurd (false≢true (sym c.if-are_numbered.false ∙ is));
}

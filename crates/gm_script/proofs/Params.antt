-- Values and parameters of different numbers don't fit.
use Rattle.std.proofs.Common.{◌≡◌, ◌≢◌, suc, List, [], ◌∷◌, length, Option, Some, None, refl, ap}
use Rattle.std.specs.Option.{option_map, option_and_then}
use Rattle.gm_model.specs.declared.rule.Param.{Param}
use Rattle.gm_model.specs.declared.value.Value.{Value}
use Rattle.gm_script.specs.inner.Comparing.{value_for, params_for}

none_then : (o : Option Value) → option_and_then (λ (v : Value). option_map (λ vs. v ∷ vs) (let none : Option (List Value) = None in none)) o ≡ None
none_then None = refl
none_then (Some v) = refl

pub lengths_differ : (params : List Param) (values : List Value) → length values ≢ length params → params_for params values ≡ None
lengths_differ [] [] differ = absurd (differ refl)
lengths_differ [] (v ∷ values) differ = refl
lengths_differ (p ∷ params) [] differ = refl
lengths_differ (p ∷ params) (v ∷ values) differ =
    let rest : params_for params values ≡ None = lengths_differ params values (λ same. differ (ap suc same)) in
    rw rest (none_then (value_for p.kind v))

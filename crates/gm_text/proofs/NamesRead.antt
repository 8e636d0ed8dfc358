-- The name at a place, as the code reads it from a list.
use Rattle.std.proofs.Common.{◌≡◌, ℕ, ◌<◌, List, [], length, get_or, sym, ap, subst, ◌∙◌}
use Rattle.std.specs.Prelude.{slice_get}
use Rattle.std.specs.Option.{option_map, unwrap_or}
use Rattle.std.proofs.lemmas.Option.{slice_get-get_or}

pub name_read : {A : Type 0} (name : A → List ℕ) (xs read : List A) (x : ℕ) (none : A) (bytes : List ℕ) → read ≡ xs → x < length xs → bytes ≡ name (get_or read x none) → bytes ≡ unwrap_or (option_map name (slice_get xs x)) []
name_read name xs read x none bytes same within is =
    is ∙ sym (ap (λ o. unwrap_or (option_map name o) []) (slice_get-get_or read x none (subst (λ ys. x < length ys) (sym same) within))) ∙ ap (λ ys. unwrap_or (option_map name (slice_get ys x)) []) same

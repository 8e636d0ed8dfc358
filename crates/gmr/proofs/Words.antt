-- What is left of a list behind its first element.
use Rattle.std.proofs.Common.{◌≡◌, List, [], ◌∷◌, ◌++◌, ◌<◌, Option, Some, None, length, drop, refl, sym, arith}
use Rattle.std.proofs.lemmas.Bool.{false≢true}
use Rattle.std.specs.Prelude.{IsSome, option_to_list}

pub behind_first : {A : Type 0} (all rest : List A) (first : Option A) → all ≡ option_to_list first ++ rest → (0 < length all → IsSome first) → rest ≡ drop 1 all
behind_first [] rest None e some = sym e
behind_first [] rest (Some x) e some = absurd cc
behind_first (y ∷ all) rest None e some = absurd (false≢true (some (omega arith)))
behind_first (y ∷ all) rest (Some x) e some = cc

pub none_left : {A : Type 0} (all : List A) → (0 < length all → ⊥) → all ≡ []
none_left [] none = refl
none_left (x ∷ all) none = absurd (none (omega arith))

-- What is owed at an exit with an error, and where there is none.
use Rattle.std.specs.Prelude.{Result, Ok, Err, IsErr, IfOk, OnOk, OnErr}
use Rattle.std.proofs.lemmas.Bool.{false≢true}

module _ {T E : Type 0} where
  pub unless_ok : (P : T → Type 0) (r : Result T E) → IsErr r → IfOk r P
  unless_ok P (Ok x) e = absurd (false≢true e)
  unless_ok P (Err x) e = tt

  pub never_ok : (P : Type 0) (r : Result T E) → IsErr r → OnOk r P
  never_ok P (Ok x) e = absurd (false≢true e)
  never_ok P (Err x) e = tt

  pub on_err : {P : Type 0} (r : Result T E) → P → OnErr r P
  on_err (Ok x) p = tt
  on_err (Err x) p = p

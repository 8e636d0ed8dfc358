use Rattle.std.proofs.Common.{◌≡◌, Result, Ok, Err, Some, OnOk, ap, subst}
use Rattle.gm_forms.specs.inner.Standing.{IsCurrentIn}
use Rattle.gm_forms.proofs.draft.Draft.assign.Goals as goal

some_on_ok : {X T E : Type 0} (result : Result T E) (x y : X) → OnOk result (x ≡ y) → OnOk result (Some x ≡ Some y)
some_on_ok (Ok value) x y same = ap Some same
some_on_ok (Err error) x y same = tt

pub returns-in-Some-clause-current : goal.returns-in-Some-clause-current
returns-in-Some-clause-current c text = rw c.in-Some.is (some_on_ok c.assign.result _ _ (c.assign.ensures.listed text))

both_on_ok : {T E : Type 0} (A B : Type 0) (result : Result T E) → A → OnOk result B → OnOk result (A × B)
both_on_ok A B (Ok value) a b = (a, b)
both_on_ok A B (Err error) a b = tt

pub returns-in-Some-clause-within : goal.returns-in-Some-clause-within
returns-in-Some-clause-within c text listed draft_in = both_on_ok _ _ c.assign.result draft_in.0 (c.assign.ensures.within text listed (subst (IsCurrentIn text) c.in-Some.is draft_in.1))

use Rattle.std.proofs.Common.{◌≡◌, ℕ, true, false, List, length, get_or, None, refl, sym, ap, ◌∙◌}
use Rattle.std.proofs.Math.Dec.{ltb}
use Rattle.std.specs.Option.{option_and_then}
use Rattle.std.proofs.lemmas.Option.{slice_get_past, slice_get_read}
use borrow.Author.Tests.{ltb-false, ltb-true}
use Rattle.gm_pending.specs.declared.deciding_instance.DecidingInstance.{DecidingInstance}
use Rattle.gm_pending.specs.inner.ValueSources.{given_of}
use Rattle.gm_pending.proofs.values.given.Goals as goal

given_past : (instances : List DecidingInstance) (k : ℕ) → false ≡ ltb k (length instances) → None ≡ given_of instances k
given_past instances k past = sym (ap (option_and_then (λ (instance : DecidingInstance). instance.given)) (slice_get_past instances k (ltb-false k (length instances) (sym past))))

given_here : (instances : List DecidingInstance) (k : ℕ) (instance : DecidingInstance) → true ≡ ltb k (length instances) → instance ≡ get_or instances k instance → instance.given ≡ given_of instances k
given_here instances k instance within is = sym (ap (option_and_then (λ (other : DecidingInstance). other.given)) (slice_get_read instances (length instances) k instance refl (ltb-true k (length instances) (sym within)) is))

pub returns-in_err-get : goal.returns-in_err-get
returns-in_err-get c = c.from_residual.ensures ∙ given_past c.args.instances.now c.args.index c.in_err-get.ensures.lookup.0

pub returns : goal.returns
returns c = given_here c.args.instances.now c.args.index c.in_ok-get.field-0.now c.in_ok-get.ensures.lookup.0 c.in_ok-get.ensures.lookup.1

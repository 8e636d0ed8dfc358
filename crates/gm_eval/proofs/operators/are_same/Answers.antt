use Rattle.std.proofs.Common.{rules, IsTrue, ◌≡◌, ◌∙◌, sym, subst}
use Rattle.std.proofs.lemmas.Bool.{false≢true}
use Rattle.gm_model.specs.contracts.value.ValuePartialEq.TheImpl.{ghosts}
use Rattle.gm_model.specs.declared.value.Value.{Value}
use Rattle.gm_model.specs.declared.value.Value.TheVariants as values
use Rattle.gm_eval.proofs.operators.are_same.Goals as goal

one : (a b : Value) → IsTrue (ghosts.eq a b) → a ≡ b
one (values.Int x) (values.Int x') h = search rules
one (values.Int x) (values.Bool x') h = absurd (false≢true h)
one (values.Int x) (values.Vec2 x' y') h = absurd (false≢true h)
one (values.Int x) (values.Vec3 x' y' z') h = absurd (false≢true h)
one (values.Int x) (values.Rgb x' y' z') h = absurd (false≢true h)
one (values.Bool x) (values.Int x') h = absurd (false≢true h)
one (values.Bool x) (values.Bool x') h = search rules
one (values.Bool x) (values.Vec2 x' y') h = absurd (false≢true h)
one (values.Bool x) (values.Vec3 x' y' z') h = absurd (false≢true h)
one (values.Bool x) (values.Rgb x' y' z') h = absurd (false≢true h)
one (values.Vec2 x y) (values.Int x') h = absurd (false≢true h)
one (values.Vec2 x y) (values.Bool x') h = absurd (false≢true h)
one (values.Vec2 x y) (values.Vec2 x' y') h = search rules
one (values.Vec2 x y) (values.Vec3 x' y' z') h = absurd (false≢true h)
one (values.Vec2 x y) (values.Rgb x' y' z') h = absurd (false≢true h)
one (values.Vec3 x y z) (values.Int x') h = absurd (false≢true h)
one (values.Vec3 x y z) (values.Bool x') h = absurd (false≢true h)
one (values.Vec3 x y z) (values.Vec2 x' y') h = absurd (false≢true h)
one (values.Vec3 x y z) (values.Vec3 x' y' z') h = search rules
one (values.Vec3 x y z) (values.Rgb x' y' z') h = absurd (false≢true h)
one (values.Rgb x y z) (values.Int x') h = absurd (false≢true h)
one (values.Rgb x y z) (values.Bool x') h = absurd (false≢true h)
one (values.Rgb x y z) (values.Vec2 x' y') h = absurd (false≢true h)
one (values.Rgb x y z) (values.Vec3 x' y' z') h = absurd (false≢true h)
one (values.Rgb x y z) (values.Rgb x' y' z') h = search rules

same : (a : Value) → IsTrue (ghosts.eq a a)
same (values.Int x) = search rules
same (values.Bool x) = search rules
same (values.Vec2 x y) = search rules
same (values.Vec3 x y z) = search rules
same (values.Rgb x y z) = search rules

pub returns : goal.returns
returns c = (λ h. one c.args.left c.args.right (sym c.eq.ensures ∙ h), λ e. c.eq.ensures ∙ subst (λ v. IsTrue (ghosts.eq c.args.left v)) e (same c.args.left))

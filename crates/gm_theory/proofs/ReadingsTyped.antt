-- A typed expression has values of its kind alone, in the range of the kind.
use Rattle.std.proofs.Common.{◌≡◌, ℕ, zero, suc, ◌<◌, ◌≤◌, ℤ, pos, FitsSigned, Bool, true, false, List, [], ◌∷◌, map, Option, Some, None, slice_get, ◌⊎◌, refl, sym, ◌∙◌, ap, subst, inl, inr, arith, w64}
use Rattle.std.proofs.lemmas.Int.{fits_signed_from_abs}
use Rattle.std.specs.List.{AllByRecursion, AllZip}
use Rattle.std.specs.Option.{option_map, option_and_then}
use Rattle.gm_model.specs.declared.expr.BinOp.{BinOp}
use Rattle.gm_model.specs.declared.expr.BinOp.TheVariants as ops
use Rattle.gm_model.specs.declared.expr.DartTerm.{DartTerm}
use Rattle.gm_model.specs.declared.expr.UnOp.{UnOp}
use Rattle.gm_model.specs.declared.expr.UnOp.TheVariants as unary
use Rattle.gm_model.specs.declared.schema.Embed.{Embed}
use Rattle.gm_model.specs.declared.schema.Schema.{Schema}
use Rattle.gm_model.specs.declared.value.Kind.{Kind}
use Rattle.gm_model.specs.declared.value.Kind.TheVariants as kinds
use Rattle.gm_model.specs.declared.value.Value.{Value}
use Rattle.gm_model.specs.declared.value.Value.TheVariants as values
use Rattle.gm_model.specs.declared.word.Mask.{Mask}
use Rattle.gm_model.specs.Expressions.{Reading, HasValue, IsUnary, IsBinary, IsComponent, IsSum, IsFirstOf, components, dart_at}
use Rattle.gm_model.specs.Kinds.{numeric, unary_kind, common, product_kind, quotient_kind, of_ints, of_bools, binary_kind, sum_kind, only_int, choice_kind, triple_kind, with_two, with_three, param_kinds, embed_kind, tree_kind, IsTermInRange, IsMaskInRange, IsTreeInRange, AreGoodParams}
use Rattle.gm_model.specs.Labels.{has}
use Rattle.gm_model.specs.Maps.{Map, IsDart, dimension}
use Rattle.gm_model.specs.Orbits.{IsPathIn, IsInOrbit, follow}
use Rattle.gm_model.specs.Rules.{Rule}
use Rattle.gm_model.specs.Trees.{Tree, Number, Truth, Param, Field, Same, Count, Sum, Least, Greatest, Unary, Binary, If, MakeVec2, MakeVec3, MakeRgb}
use Rattle.gm_model.specs.Values.{IsInValueRange, IsValueOf, kind_of}
use Rattle.gm_theory.proofs.Lists.{some_same, none_some}
use Rattle.gm_theory.specs.inner.Readings.{HasLiveNeighbours, IsReadingOf, ValuesHaveTheirKinds}

-- ---- where a kind of the table comes from

mapped : {A : Type 0} (f : A → Kind) (o : Option A) (kind : Kind) → option_map f o ≡ Some kind → (a : A) × (o ≡ Some a) × (f a ≡ kind)
mapped f None kind e = none_some kind e
mapped f (Some a) kind e = (a, refl, some_same (f a) kind e)

pub then_some : (f : Kind → Option Kind) (o : Option Kind) (kind : Kind) → option_and_then f o ≡ Some kind → (i : Kind) × (o ≡ Some i) × (f i ≡ Some kind)
then_some f None kind e = none_some kind e
then_some f (Some i) kind e = (i, refl, e)

pub of_two : (f : Kind → Kind → Option Kind) (a b : Option Kind) (kind : Kind) → with_two f a b ≡ Some kind → (i : Kind) × (j : Kind) × (a ≡ Some i) × (b ≡ Some j) × (f i j ≡ Some kind)
of_two f None b kind e = none_some kind e
of_two f (Some i) None kind e = none_some kind e
of_two f (Some i) (Some j) kind e = (i, j, refl, refl, e)

pub of_three : (f : Kind → Kind → Kind → Option Kind) (a b c : Option Kind) (kind : Kind) → with_three f a b c ≡ Some kind → (i : Kind) × (j : Kind) × (k : Kind) × (a ≡ Some i) × (b ≡ Some j) × (c ≡ Some k) × (f i j k ≡ Some kind)
of_three f None b c kind e = none_some kind e
of_three f (Some i) None c kind e = none_some kind e
of_three f (Some i) (Some j) None kind e = none_some kind e
of_three f (Some i) (Some j) (Some k) kind e = (i, j, k, refl, refl, refl, e)

-- ---- the table of kinds

numeric_same : (i kind : Kind) → numeric i ≡ Some kind → i ≡ kind
numeric_same kinds.Int kind e = some_same kinds.Int kind e
numeric_same kinds.Bool kind e = none_some kind e
numeric_same kinds.Vec2 kind e = some_same kinds.Vec2 kind e
numeric_same kinds.Vec3 kind e = some_same kinds.Vec3 kind e
numeric_same kinds.Rgb kind e = none_some kind e

common_both : (i j kind : Kind) → common i j ≡ Some kind → (i ≡ kind) × (j ≡ kind)
common_both kinds.Int kinds.Int kind e = (some_same kinds.Int kind e, some_same kinds.Int kind e)
common_both kinds.Bool kinds.Bool kind e = (some_same kinds.Bool kind e, some_same kinds.Bool kind e)
common_both kinds.Vec2 kinds.Vec2 kind e = (some_same kinds.Vec2 kind e, some_same kinds.Vec2 kind e)
common_both kinds.Vec3 kinds.Vec3 kind e = (some_same kinds.Vec3 kind e, some_same kinds.Vec3 kind e)
common_both kinds.Rgb kinds.Rgb kind e = (some_same kinds.Rgb kind e, some_same kinds.Rgb kind e)
common_both i j kind e = none_some kind e

product_right : (j kind : Kind) → product_kind kinds.Int j ≡ Some kind → j ≡ kind
product_right j kind e = numeric_same j kind e

product_left : (i kind : Kind) → product_kind i kinds.Int ≡ Some kind → i ≡ kind
product_left kinds.Int kind e = some_same kinds.Int kind e
product_left kinds.Vec2 kind e = some_same kinds.Vec2 kind e
product_left kinds.Vec3 kind e = some_same kinds.Vec3 kind e
product_left i kind e = none_some kind e

ints_same : (i j k kind : Kind) → of_ints k i j ≡ Some kind → k ≡ kind
ints_same kinds.Int kinds.Int k kind e = some_same k kind e
ints_same i j k kind e = none_some kind e

bools_same : (i j kind : Kind) → of_bools i j ≡ Some kind → kinds.Bool ≡ kind
bools_same kinds.Bool kinds.Bool kind e = some_same kinds.Bool kind e
bools_same i j kind e = none_some kind e

triple_same : (k i j l kind : Kind) → triple_kind k i j l ≡ Some kind → k ≡ kind
triple_same k kinds.Int kinds.Int kinds.Int kind e = some_same k kind e
triple_same k i j l kind e = none_some kind e

choice_both : (i j k kind : Kind) → choice_kind i j k ≡ Some kind → (j ≡ kind) × (k ≡ kind)
choice_both kinds.Bool j k kind e = common_both j k kind e
choice_both i j k kind e = none_some kind e

-- a choice is by a truth
pub choice_truth : (i j k kind : Kind) → choice_kind i j k ≡ Some kind → i ≡ kinds.Bool
choice_truth kinds.Bool j k kind e = refl
choice_truth i j k kind e = none_some kind e

int_same : (i kind : Kind) → only_int i ≡ Some kind → kinds.Int ≡ kind
int_same kinds.Int kind e = some_same kinds.Int kind e
int_same i kind e = none_some kind e

-- ---- values of a kind

at_kind : (i kind : Kind) (v : Value) → i ≡ kind → IsValueOf i v → IsValueOf kind v
at_kind i kind v e h = subst (λ k. IsValueOf k v) e h

is_truth : (v : Value) (b : Bool) → v ≡ values.Bool b → IsValueOf kinds.Bool v
is_truth v b e = subst (IsValueOf kinds.Bool) (sym e) (record { kind_is = refl; range = tt })

is_number : (v : Value) (x : ℤ) → v ≡ values.Int x → FitsSigned w64 x → IsValueOf kinds.Int v
is_number v x e f = subst (IsValueOf kinds.Int) (sym e) (record { kind_is = refl; range = f })

byte_fits : (n : ℕ) (x : ℤ) → n < 256 → pos n ≡ x → FitsSigned w64 x
byte_fits n x b e = subst (FitsSigned w64) e (fits_signed_from_abs w64 (pos n) (omega arith))

-- each component is a number
component_fits : (k : ℕ) (v : Value) (x : ℤ) → IsInValueRange v → slice_get (components v) k ≡ Some x → FitsSigned w64 x
component_fits zero (values.Int a) x r e = subst (FitsSigned w64) (some_same a x e) r
component_fits zero (values.Vec2 a b) x r e = subst (FitsSigned w64) (some_same a x e) r.0
component_fits (suc zero) (values.Vec2 a b) x r e = subst (FitsSigned w64) (some_same b x e) r.1
component_fits zero (values.Vec3 a b c) x r e = subst (FitsSigned w64) (some_same a x e) r.0
component_fits (suc zero) (values.Vec3 a b c) x r e = subst (FitsSigned w64) (some_same b x e) r.1
component_fits (suc (suc zero)) (values.Vec3 a b c) x r e = subst (FitsSigned w64) (some_same c x e) r.2
component_fits zero (values.Rgb a b c) x r e = byte_fits a x r.0 (some_same (pos a) x e)
component_fits (suc zero) (values.Rgb a b c) x r e = byte_fits b x r.1 (some_same (pos b) x e)
component_fits (suc (suc zero)) (values.Rgb a b c) x r e = byte_fits c x r.2 (some_same (pos c) x e)
component_fits (suc k) (values.Int a) x r e = none_some x e
component_fits k (values.Bool b) x r e = none_some x e
component_fits (suc (suc k)) (values.Vec2 a b) x r e = none_some x e
component_fits (suc (suc (suc k))) (values.Vec3 a b c) x r e = none_some x e
component_fits (suc (suc (suc k))) (values.Rgb a b c) x r e = none_some x e

component_typed : (k : ℕ) (a v : Value) → IsInValueRange a → IsComponent k a v → IsValueOf kinds.Int v
component_typed k a v r (x, e, f) = is_number v x f (component_fits k a x r e)

-- ---- operators

-- the kind of each component is that of numbers
component_kind : (op : UnOp) (i kind : Kind) → unary_kind op i ≡ Some kind → (op ≡ unary.Neg → ⊥) → (op ≡ unary.Not → ⊥) → kinds.Int ≡ kind
component_kind unary.Neg i kind e n m = absurd (n refl)
component_kind unary.Not i kind e n m = absurd (m refl)
component_kind unary.X kinds.Vec2 kind e n m = some_same kinds.Int kind e
component_kind unary.X kinds.Vec3 kind e n m = some_same kinds.Int kind e
component_kind unary.Y kinds.Vec2 kind e n m = some_same kinds.Int kind e
component_kind unary.Y kinds.Vec3 kind e n m = some_same kinds.Int kind e
component_kind unary.Z kinds.Vec3 kind e n m = some_same kinds.Int kind e
component_kind unary.Red kinds.Rgb kind e n m = some_same kinds.Int kind e
component_kind unary.Green kinds.Rgb kind e n m = some_same kinds.Int kind e
component_kind unary.Blue kinds.Rgb kind e n m = some_same kinds.Int kind e
component_kind op i kind e n m = none_some kind e

not_kind : (i kind : Kind) → unary_kind unary.Not i ≡ Some kind → kinds.Bool ≡ kind
not_kind kinds.Bool kind e = some_same kinds.Bool kind e
not_kind i kind e = none_some kind e

unary_typed : (op : UnOp) (kind : Kind) (a v : Value) → IsInValueRange a → unary_kind op (kind_of a) ≡ Some kind → IsUnary op a v → IsValueOf kind v
unary_typed unary.Neg kind a v r e h = at_kind (kind_of a) kind v (numeric_same (kind_of a) kind e) h.is_value
unary_typed unary.Not kind a v r e (b, f, g) = at_kind kinds.Bool kind v (not_kind (kind_of a) kind e) (is_truth v _ g)
unary_typed unary.X kind a v r e h = at_kind kinds.Int kind v (component_kind unary.X (kind_of a) kind e (λ f. absurd (cc)) (λ f. absurd (cc))) (component_typed 0 a v r h)
unary_typed unary.Y kind a v r e h = at_kind kinds.Int kind v (component_kind unary.Y (kind_of a) kind e (λ f. absurd (cc)) (λ f. absurd (cc))) (component_typed 1 a v r h)
unary_typed unary.Z kind a v r e h = at_kind kinds.Int kind v (component_kind unary.Z (kind_of a) kind e (λ f. absurd (cc)) (λ f. absurd (cc))) (component_typed 2 a v r h)
unary_typed unary.Red kind a v r e h = at_kind kinds.Int kind v (component_kind unary.Red (kind_of a) kind e (λ f. absurd (cc)) (λ f. absurd (cc))) (component_typed 0 a v r h)
unary_typed unary.Green kind a v r e h = at_kind kinds.Int kind v (component_kind unary.Green (kind_of a) kind e (λ f. absurd (cc)) (λ f. absurd (cc))) (component_typed 1 a v r h)
unary_typed unary.Blue kind a v r e h = at_kind kinds.Int kind v (component_kind unary.Blue (kind_of a) kind e (λ f. absurd (cc)) (λ f. absurd (cc))) (component_typed 2 a v r h)

-- a sum and a difference have the kind of both
sum_typed : (i j kind : Kind) (v : Value) → option_and_then numeric (common i j) ≡ Some kind → IsValueOf i v → IsValueOf kind v
sum_typed i j kind v e h = go (then_some numeric (common i j) kind e)
  where
    go : (k : Kind) × (common i j ≡ Some k) × (numeric k ≡ Some kind) → IsValueOf kind v
    go (k, f, g) = at_kind i kind v ((common_both i j k f).0 ∙ numeric_same k kind g) h

truth_typed : (o : Option Kind) (kind : Kind) (v : Value) (b : Bool) → option_map (λ (k : Kind). kinds.Bool) o ≡ Some kind → v ≡ values.Bool b → IsValueOf kind v
truth_typed o kind v b e f = at_kind kinds.Bool kind v (mapped (λ (k : Kind). kinds.Bool) o kind e).2 (is_truth v b f)

quotient_same_kind : (i j kind : Kind) → quotient_kind i j ≡ Some kind → i ≡ kind
quotient_same_kind i kinds.Int kind e = numeric_same i kind e
quotient_same_kind i j kind e = none_some kind e

binary_typed : (op : BinOp) (kind : Kind) (a b v : Value) → binary_kind op (kind_of a) (kind_of b) ≡ Some kind → IsBinary op a b v → IsValueOf kind v
binary_typed ops.Add kind a b v e h = sum_typed (kind_of a) (kind_of b) kind v e h.is_value
binary_typed ops.Sub kind a b v e h = sum_typed (kind_of a) (kind_of b) kind v e h.is_value
binary_typed ops.Mul kind a b v e (inl (x, f, h)) = at_kind (kind_of b) kind v (product_right (kind_of b) kind (subst (λ c. product_kind (kind_of c) (kind_of b) ≡ Some kind) f e)) h.is_value
binary_typed ops.Mul kind a b v e (inr (y, f, h)) = at_kind (kind_of a) kind v (product_left (kind_of a) kind (subst (λ c. product_kind (kind_of a) (kind_of c) ≡ Some kind) f e)) h.is_value
binary_typed ops.Div kind a b v e (y, f, n, h) = at_kind (kind_of a) kind v (quotient_same_kind (kind_of a) (kind_of b) kind e) h.is_value
binary_typed ops.Rem kind a b v e (x, y, f, g, n, h) = at_kind kinds.Int kind v (ints_same (kind_of a) (kind_of b) kinds.Int kind e) h.is_value
binary_typed ops.Eq kind a b v e (r, f, h) = truth_typed (common (kind_of a) (kind_of b)) kind v r e f
binary_typed ops.Ne kind a b v e (r, f, h) = truth_typed (common (kind_of a) (kind_of b)) kind v _ e f
binary_typed ops.Lt kind a b v e (x, y, f, g, h) = at_kind kinds.Bool kind v (ints_same (kind_of a) (kind_of b) kinds.Bool kind e) (is_truth v _ h)
binary_typed ops.Le kind a b v e (x, y, f, g, h) = at_kind kinds.Bool kind v (ints_same (kind_of a) (kind_of b) kinds.Bool kind e) (is_truth v _ h)
binary_typed ops.Gt kind a b v e (x, y, f, g, h) = at_kind kinds.Bool kind v (ints_same (kind_of a) (kind_of b) kinds.Bool kind e) (is_truth v _ h)
binary_typed ops.Ge kind a b v e (x, y, f, g, h) = at_kind kinds.Bool kind v (ints_same (kind_of a) (kind_of b) kinds.Bool kind e) (is_truth v _ h)
binary_typed ops.And kind a b v e (x, y, f, g, h) = at_kind kinds.Bool kind v (bools_same (kind_of a) (kind_of b) kind e) (is_truth v _ h)
binary_typed ops.Or kind a b v e (x, y, f, g, h) = at_kind kinds.Bool kind v (bools_same (kind_of a) (kind_of b) kind e) (is_truth v _ h)

-- ---- parameters

param_typed : (kinds : List Kind) (params : List Value) (k : ℕ) (kind : Kind) (v : Value) → AllZip IsValueOf kinds params → slice_get kinds k ≡ Some kind → slice_get params k ≡ Some v → IsValueOf kind v
param_typed [] params k kind v all e f = none_some kind e
param_typed (i ∷ others) [] k kind v all e f = absurd all
param_typed (i ∷ others) (x ∷ params) zero kind v all e f = at_kind i kind v (some_same i kind e) (subst (IsValueOf i) (some_same x v f) all.0)
param_typed (i ∷ others) (x ∷ params) (suc k) kind v all e f = param_typed others params k kind v all.1 e f

-- ---- darts

-- labels of the map lead from live darts to live darts
pub follow_labels : (map : Map) → HasLiveNeighbours map → (path : List ℕ) (d : ℕ) → AllByRecursion (λ i. i ≤ dimension map) path → IsDart map d → IsDart map (follow map.alpha path d)
follow_labels map stays [] d all live = live
follow_labels map stays (i ∷ path) d all live = follow_labels map stays path (map.alpha i d) all.1 (stays d i live all.0)

module _ (rule : Rule) (reading : Reading) (good : IsReadingOf rule reading) where
  abbrev schema : Schema
  schema = reading.map.schema

  -- by the table, of an expression and of an embedding
  abbrev pub kind_in : Tree → Option Kind
  kind_in tree = tree_kind schema.embeds (param_kinds rule.params) tree

  abbrev embedding_kind : ℕ → Option Kind
  embedding_kind e = embed_kind schema.embeds (param_kinds rule.params) e

  pub term_live : (term : DartTerm) → IsTermInRange schema rule term → IsDart reading.map (dart_at reading term)
  term_live term r = follow_labels reading.map good.stays term.path (reading.place.dart_of term.node reading.position) r.path (good.darts term.node r.node)

  pub collected_live : (mask : Mask) (term : DartTerm) (d : ℕ) → IsMaskInRange schema rule mask → IsTermInRange schema rule term → IsInOrbit reading.map.alpha (has mask) (dart_at reading term) d → IsDart reading.map d
  collected_live mask term d m r (path, all, e) = subst (IsDart reading.map) e (follow_labels reading.map good.stays path (dart_at reading term) (labels path all) (term_live term r))
    where
      labels : (path : List ℕ) → IsPathIn (has mask) path → AllByRecursion (λ i. i ≤ schema.dim) path
      labels [] all = tt
      labels (i ∷ path) all = (m i all.0, labels path all.1)

  -- the embedding has the kind, and so its values
  embedded : (e d : ℕ) (kind : Kind) → embedding_kind e ≡ Some kind → IsDart reading.map d → IsValueOf kind (reading.map.value e d)
  embedded e d kind f live = go (mapped (λ (embed : Embed). embed.kind) (slice_get schema.embeds e) kind f)
    where
      go : (embed : Embed) × (slice_get schema.embeds e ≡ Some embed) × (embed.kind ≡ kind) → IsValueOf kind (reading.map.value e d)
      go (embed, at, k) = at_kind embed.kind kind (reading.map.value e d) k (good.is_map.values e d embed at live)

  sum_of_kind : (mask : Mask) (term : DartTerm) (e : ℕ) (kind : Kind) (v : Value) → IsTermInRange schema rule term → option_and_then sum_kind (embedding_kind e) ≡ Some kind → IsSum reading mask term e v → IsValueOf kind v
  sum_of_kind mask term e kind v r f (darts, listed, k, g, made) = go (then_some sum_kind (embedding_kind e) kind f)
    where
      go : (i : Kind) × (embedding_kind e ≡ Some i) × (sum_kind i ≡ Some kind) → IsValueOf kind v
      go (i, at, s) = at_kind k kind v (some_same k kind (sym g ∙ ap sum_kind (embedded e (dart_at reading term) i at (term_live term r)).kind_is ∙ s)) made.is_value

  first_of_kind : (before : ℤ → ℤ → Type 0) (mask : Mask) (term : DartTerm) (e : ℕ) (kind : Kind) (v : Value) → IsMaskInRange schema rule mask → IsTermInRange schema rule term → option_and_then only_int (embedding_kind e) ≡ Some kind → IsFirstOf reading before mask term e v → IsValueOf kind v
  first_of_kind before mask term e kind v m r f (x, number, (d, c, same), all) = go (then_some only_int (embedding_kind e) kind f)
    where
      live : IsDart reading.map d
      live = collected_live mask term d m r c

      go : (i : Kind) × (embedding_kind e ≡ Some i) × (only_int i ≡ Some kind) → IsValueOf kind v
      go (i, at, o) = at_kind kinds.Int kind v (int_same i kind o) (is_number v x number (subst IsInValueRange (same ∙ number) (embedded e d i at live).range))

  module _ (params : AreGoodParams rule reading.params) where
    made_typed : (built : Kind) (a b c : Tree) (kind : Kind) (v : Value) → with_three (triple_kind built) (kind_in a) (kind_in b) (kind_in c) ≡ Some kind → IsValueOf built v → IsValueOf kind v
    made_typed built a b c kind v e h = go (of_three (triple_kind built) (kind_in a) (kind_in b) (kind_in c) kind e)
      where
        go : (i : Kind) × (j : Kind) × (k : Kind) × (kind_in a ≡ Some i) × (kind_in b ≡ Some j) × (kind_in c ≡ Some k) × (triple_kind built i j k ≡ Some kind) → IsValueOf kind v
        go (i, j, k, f, g, g', e') = at_kind built kind v (triple_same built i j k kind e') h

    pub typed : (tree : Tree) (kind : Kind) (v : Value) → IsTreeInRange schema rule tree → kind_in tree ≡ Some kind → HasValue reading tree v → IsValueOf kind v
    typed (Number n) kind v r e h = at_kind kinds.Int kind v (some_same kinds.Int kind e) h.is_value
    typed (Truth b) kind v r e h = at_kind kinds.Bool kind v (some_same kinds.Bool kind e) (is_truth v b h)
    typed (Param k) kind v r e h = param_typed (param_kinds rule.params) reading.params k kind v params e h
    typed (Field d e) kind v r f h = subst (IsValueOf kind) (sym h) (embedded e (dart_at reading d) kind f (term_live d r.0))
    typed (Same d d') kind v r e h = at_kind kinds.Bool kind v (some_same kinds.Bool kind e) (is_truth v _ h)
    typed (Count o d) kind v r e (count, c, made) = at_kind kinds.Int kind v (some_same kinds.Int kind e) made.is_value
    typed (Sum o d e) kind v r f h = sum_of_kind o d e kind v r.1 f h
    typed (Least o d e) kind v r f h = first_of_kind _ o d e kind v r.0 r.1 f h
    typed (Greatest o d e) kind v r f h = first_of_kind _ o d e kind v r.0 r.1 f h
    typed (Unary op a) kind v r e (x, h, u) = go (then_some (unary_kind op) (kind_in a) kind e) (λ i f. typed a i x r f h)
      where
        go : (i : Kind) × (kind_in a ≡ Some i) × (unary_kind op i ≡ Some kind) → ((i : Kind) → kind_in a ≡ Some i → IsValueOf i x) → IsValueOf kind v
        go (i, f, g) rest = unary_typed op kind x v (rest i f).range (ap (unary_kind op) (rest i f).kind_is ∙ g) u
    typed (Binary op a b) kind v r e (x, y, h, k, u) = go (of_two (binary_kind op) (kind_in a) (kind_in b) kind e) (λ i f. typed a i x r.0 f h) (λ j f. typed b j y r.1 f k)
      where
        go : (i : Kind) × (j : Kind) × (kind_in a ≡ Some i) × (kind_in b ≡ Some j) × (binary_kind op i j ≡ Some kind) →
            ((i : Kind) → kind_in a ≡ Some i → IsValueOf i x) → ((j : Kind) → kind_in b ≡ Some j → IsValueOf j y) → IsValueOf kind v
        go (i, j, f, g, e') left right = binary_typed op kind x y v (ap (λ l. binary_kind op l (kind_of y)) (left i f).kind_is ∙ ap (binary_kind op i) (right j g).kind_is ∙ e') u
    typed (If c a b) kind v r e side = go (of_three choice_kind (kind_in c) (kind_in a) (kind_in b) kind e) side (λ i f h. typed a i v r.1 f h) (λ j f h. typed b j v r.2 f h)
      where
        go : (i : Kind) × (j : Kind) × (k : Kind) × (kind_in c ≡ Some i) × (kind_in a ≡ Some j) × (kind_in b ≡ Some k) × (choice_kind i j k ≡ Some kind) →
            (HasValue reading c (values.Bool true) × HasValue reading a v) ⊎ (HasValue reading c (values.Bool false) × HasValue reading b v) →
            ((i : Kind) → kind_in a ≡ Some i → HasValue reading a v → IsValueOf i v) → ((j : Kind) → kind_in b ≡ Some j → HasValue reading b v → IsValueOf j v) → IsValueOf kind v
        go (i, j, k, f, g, g', e') (inl (t, h)) left right = at_kind j kind v (choice_both i j k kind e').0 (left j g h)
        go (i, j, k, f, g, g', e') (inr (t, h)) left right = at_kind k kind v (choice_both i j k kind e').1 (right k g' h)
    typed (MakeVec2 a b) kind v r e (x, y, h, k, made) = go (of_two (of_ints kinds.Vec2) (kind_in a) (kind_in b) kind e)
      where
        go : (i : Kind) × (j : Kind) × (kind_in a ≡ Some i) × (kind_in b ≡ Some j) × (of_ints kinds.Vec2 i j ≡ Some kind) → IsValueOf kind v
        go (i, j, f, g, e') = at_kind kinds.Vec2 kind v (ints_same i j kinds.Vec2 kind e') made.is_value
    typed (MakeVec3 a b c) kind v r e (x, y, z, h, k, l, made) = made_typed kinds.Vec3 a b c kind v e made.is_value
    typed (MakeRgb a b c) kind v r e (x, y, z, h, k, l, made) = made_typed kinds.Rgb a b c kind v e made.is_value

pub values_have_their_kinds : ValuesHaveTheirKinds
values_have_their_kinds rule reading tree kind v good params has_kind h = typed rule reading good params tree kind v has_kind.in_range has_kind.kind_is h

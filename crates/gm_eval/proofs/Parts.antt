-- The value of a form from the values of its parts, and the units that its reading takes.
use Rattle.std.proofs.Common.{◌≡◌, ℕ, ◌<◌, ℤ, Bool, true, false, List, [], ◌∷◌, length, IsSome, MatchOption, Option, Some, None, refl, sym, ◌∙◌, ap, ap₂, subst, inl, inr, arith}
use Rattle.std.specs.List.{AllZip}
use Rattle.std.proofs.lemmas.Bool.{false≢true}
use Rattle.std.proofs.lemmas.List.{length-map}
use Rattle.gm_model.specs.declared.expr.BinOp.{BinOp}
use Rattle.gm_model.specs.declared.expr.Expr.{Expr}
use Rattle.gm_model.specs.declared.expr.UnOp.{UnOp}
use Rattle.gm_model.specs.declared.rule.Param.{Param as ParamOf}
use Rattle.gm_model.specs.declared.value.Kind.{Kind}
use Rattle.gm_model.specs.declared.value.Kind.TheVariants as kinds
use Rattle.gm_model.specs.declared.value.Value.{Value}
use Rattle.gm_model.specs.declared.value.Value.TheVariants as values
use Rattle.gm_model.specs.Expressions.{Reading, HasValue, HasNoValue, IsMade, IsUnary, IsBinary}
use Rattle.gm_model.specs.Kinds.{IsTreeInRange, unary_kind, binary_kind, choice_kind, of_ints, param_kinds, tree_kind, triple_kind, with_two, with_three}
use Rattle.gm_model.specs.Trees.{Tree, Param, Unary, Binary, If, MakeVec2, MakeVec3, MakeRgb, tree_of}
use Rattle.gm_model.specs.Values.{IsValueOf, kind_of}
use Rattle.gm_theory.proofs.ReadingsDecided.{not_both_truths}
use Rattle.gm_theory.proofs.ReadingsTyped.{then_some, of_two, of_three, typed}
use Rattle.gm_theory.proofs.ValuesUnique.{one_value, int_same}
use Rattle.gm_eval.specs.declared.kept.Entry.{Entry}
use Rattle.gm_eval.specs.declared.reader.Reader.{Reader}
use Rattle.gm_eval.specs.inner.Readers.{AreLeft, AreNumbersThere, AreValuesThere, IsRead, IsReady, IsInt, IsValueThere, IsWithin, Read, UnitsBeside, reading_of}
use Rattle.gm_eval.proofs.Operated.{Found, found_as}
use Rattle.gm_eval.proofs.Ready.{is_reading}

-- ---- kinds

some : (o : Option Kind) (kind : Kind) → o ≡ Some kind → IsSome o
some o kind e = rw e refl

same_lengths : (kinds : List Kind) (values : List Value) → AllZip IsValueOf kinds values → length values ≡ length kinds
same_lengths [] [] all = refl
same_lengths [] (v ∷ values) all = absurd all
same_lengths (k ∷ kinds) [] all = absurd all
same_lengths (k ∷ kinds) (v ∷ values) all = let rest : length values ≡ length kinds = same_lengths kinds values all.1 in omega (arith, rest)

-- a form of three parts
pub three_trees : (form : Tree → Tree → Tree → Tree) (a b c a' b' c' : Expr) → a ≡ a' → b ≡ b' → c ≡ c' → form (tree_of a) (tree_of b) (tree_of c) ≡ form (tree_of a') (tree_of b') (tree_of c')
three_trees form a b c a' b' c' e f g = λ i. form (tree_of (e i)) (tree_of (f i)) (tree_of (g i))

module _ (reader : Reader) where
  abbrev R : Reading
  R = reading_of reader

  abbrev kind_at : Tree → (tree : Tree) → IsReady reader tree → Option Kind
  kind_at part tree ready = tree_kind reader.arena.now.schema.embeds (param_kinds ready.typed.rule.params) part

  pub unary_known : (op : UnOp) (a : Tree) (x : Value) → IsReady reader (Unary op a) → HasValue R a x → IsSome (unary_kind op (kind_of x))
  unary_known op a x ready h =
      let t = ready.typed in
      let p : (i : Kind) × (kind_at a (Unary op a) ready ≡ Some i) × (unary_kind op i ≡ Some t.kind) = then_some (unary_kind op) (kind_at a (Unary op a) ready) t.kind t.has_kind.kind_is in
      let v : IsValueOf p.0 x = typed t.rule R (is_reading reader (Unary op a) ready) t.good_params a p.0 x t.has_kind.in_range p.1 h in
      some (unary_kind op (kind_of x)) t.kind (ap (unary_kind op) v.kind_is ∙ p.2)

  pub binary_known : (op : BinOp) (a b : Tree) (x y : Value) → IsReady reader (Binary op a b) → HasValue R a x → HasValue R b y → IsSome (binary_kind op (kind_of x) (kind_of y))
  binary_known op a b x y ready h k =
      let t = ready.typed in
      let p : (i : Kind) × (j : Kind) × (kind_at a (Binary op a b) ready ≡ Some i) × (kind_at b (Binary op a b) ready ≡ Some j) × (binary_kind op i j ≡ Some t.kind) = of_two (binary_kind op) (kind_at a (Binary op a b) ready) (kind_at b (Binary op a b) ready) t.kind t.has_kind.kind_is in
      let v : IsValueOf p.0 x = typed t.rule R (is_reading reader (Binary op a b) ready) t.good_params a p.0 x t.has_kind.in_range.0 p.2 h in
      let w : IsValueOf p.1 y = typed t.rule R (is_reading reader (Binary op a b) ready) t.good_params b p.1 y t.has_kind.in_range.1 p.3 k in
      some (binary_kind op (kind_of x) (kind_of y)) t.kind (ap₂ (binary_kind op) v.kind_is w.kind_is ∙ p.4)

  pub param_within : (k : ℕ) → IsReady reader (Param k) → k < length reader.params.now
  param_within k ready =
      let t = ready.typed in
      let same : length reader.params.now ≡ length (param_kinds t.rule.params) = same_lengths (param_kinds t.rule.params) reader.params.now t.good_params in
      omega (arith, same, length-map t.rule.params (λ (param : ParamOf). param.kind), t.has_kind.in_range)

  -- ---- its parts can be read where a form can

  part_ready : (whole part : Tree) (ready : IsReady reader whole) (kind : Kind) → IsTreeInRange reader.arena.now.schema ready.typed.rule part → kind_at part whole ready ≡ Some kind → IsReady reader part
  part_ready whole part ready kind within is =
      let t = ready.typed in
      record { here = ready.here; typed = record { rule = t.rule; kind = kind; has_kind = record { in_range = within; kind_is = is }; good_params = t.good_params; nodes_among = t.nodes_among } }

  pub unary_ready : (op : UnOp) (a : Tree) → IsReady reader (Unary op a) → IsReady reader a
  unary_ready op a ready =
      let t = ready.typed in
      let p : (i : Kind) × (kind_at a (Unary op a) ready ≡ Some i) × (unary_kind op i ≡ Some t.kind) = then_some (unary_kind op) (kind_at a (Unary op a) ready) t.kind t.has_kind.kind_is in
      part_ready (Unary op a) a ready p.0 t.has_kind.in_range p.1

  two_ready : (f : Kind → Kind → Option Kind) (whole a b : Tree) (ready : IsReady reader whole) → IsTreeInRange reader.arena.now.schema ready.typed.rule a × IsTreeInRange reader.arena.now.schema ready.typed.rule b → with_two f (kind_at a whole ready) (kind_at b whole ready) ≡ Some ready.typed.kind → IsReady reader a × IsReady reader b
  two_ready f whole a b ready within is =
      let p : (i : Kind) × (j : Kind) × (kind_at a whole ready ≡ Some i) × (kind_at b whole ready ≡ Some j) × (f i j ≡ Some ready.typed.kind) = of_two f (kind_at a whole ready) (kind_at b whole ready) ready.typed.kind is in
      (part_ready whole a ready p.0 within.0 p.2, part_ready whole b ready p.1 within.1 p.3)

  pub binary_ready : (op : BinOp) (a b : Tree) → IsReady reader (Binary op a b) → IsReady reader a × IsReady reader b
  binary_ready op a b ready = two_ready (binary_kind op) (Binary op a b) a b ready ready.typed.has_kind.in_range ready.typed.has_kind.kind_is

  pub pair_ready : (a b : Tree) → IsReady reader (MakeVec2 a b) → IsReady reader a × IsReady reader b
  pair_ready a b ready = two_ready (of_ints kinds.Vec2) (MakeVec2 a b) a b ready ready.typed.has_kind.in_range ready.typed.has_kind.kind_is

  three_ready : (f : Kind → Kind → Kind → Option Kind) (whole a b c : Tree) (ready : IsReady reader whole) → IsTreeInRange reader.arena.now.schema ready.typed.rule a × IsTreeInRange reader.arena.now.schema ready.typed.rule b × IsTreeInRange reader.arena.now.schema ready.typed.rule c
      → with_three f (kind_at a whole ready) (kind_at b whole ready) (kind_at c whole ready) ≡ Some ready.typed.kind → IsReady reader a × IsReady reader b × IsReady reader c
  three_ready f whole a b c ready within is =
      let p : (i : Kind) × (j : Kind) × (k : Kind) × (kind_at a whole ready ≡ Some i) × (kind_at b whole ready ≡ Some j) × (kind_at c whole ready ≡ Some k) × (f i j k ≡ Some ready.typed.kind) = of_three f (kind_at a whole ready) (kind_at b whole ready) (kind_at c whole ready) ready.typed.kind is in
      (part_ready whole a ready p.0 within.0 p.3, part_ready whole b ready p.1 within.1 p.4, part_ready whole c ready p.2 within.2 p.5)

  pub choice_ready : (c a b : Tree) → IsReady reader (If c a b) → IsReady reader c × IsReady reader a × IsReady reader b
  choice_ready c a b ready = three_ready choice_kind (If c a b) c a b ready ready.typed.has_kind.in_range ready.typed.has_kind.kind_is

  pub triple_ready : (a b c : Tree) → IsReady reader (MakeVec3 a b c) → IsReady reader a × IsReady reader b × IsReady reader c
  triple_ready a b c ready = three_ready (triple_kind kinds.Vec3) (MakeVec3 a b c) a b c ready ready.typed.has_kind.in_range ready.typed.has_kind.kind_is

  pub colour_ready : (a b c : Tree) → IsReady reader (MakeRgb a b c) → IsReady reader a × IsReady reader b × IsReady reader c
  colour_ready a b c ready = three_ready (triple_kind kinds.Rgb) (MakeRgb a b c) a b c ready ready.typed.has_kind.in_range ready.typed.has_kind.kind_is

  -- ---- values

  one : (tree : Tree) (v w : Value) → HasValue R tree v → HasValue R tree w → v ≡ w
  one tree v w h k = one_value R tree v w h k

  one_int : (tree : Tree) (x y : ℤ) → IsInt reader tree x → IsInt reader tree y → x ≡ y
  one_int tree x y h k = int_same x y (one tree (values.Int x) (values.Int y) h k)

  pub unary_there : (op : UnOp) (a : Tree) (x : Value) (o : Option Value) → HasValue R a x → Found (IsUnary op x) o → IsValueThere reader (Unary op a) o
  unary_there op a x o h found = found_as (IsUnary op x) (HasValue R (Unary op a)) o (λ v u. (x, h, u)) (λ v (y, k, u). subst (λ z. IsUnary op z v) (one a y x k h) u) found

  pub binary_there : (op : BinOp) (a b : Tree) (x y : Value) (o : Option Value) → HasValue R a x → HasValue R b y → Found (IsBinary op x y) o → IsValueThere reader (Binary op a b) o
  binary_there op a b x y o h k found = found_as (IsBinary op x y) (HasValue R (Binary op a b)) o (λ v u. (x, y, h, k, u)) back found
    where
      back : (v : Value) → HasValue R (Binary op a b) v → IsBinary op x y v
      back v (x', y', h', k', u) = subst (λ z. IsBinary op z y v) (one a x' x h' h) (subst (λ z. IsBinary op x' z v) (one b y' y k' k) u)

  pub chosen_there : (c a b : Tree) (truth : Bool) (o : Option Value) → truth ≡ true → HasValue R c (values.Bool truth) → IsValueThere reader a o → IsValueThere reader (If c a b) o
  chosen_there c a b truth o e h found = found_as (HasValue R a) (HasValue R (If c a b)) o (λ v k. inl (yes_there, k)) back found
    where
      yes_there : HasValue R c (values.Bool true)
      yes_there = subst (λ t. HasValue R c (values.Bool t)) e h

      back : (v : Value) → HasValue R (If c a b) v → HasValue R a v
      back v (inl (t, k)) = k
      back v (inr (f, k)) = absurd (not_both_truths R c yes_there f)

  pub other_there : (c a b : Tree) (truth : Bool) (o : Option Value) → truth ≡ false → HasValue R c (values.Bool truth) → IsValueThere reader b o → IsValueThere reader (If c a b) o
  other_there c a b truth o e h found = found_as (HasValue R b) (HasValue R (If c a b)) o (λ v k. inr (no_there, k)) back found
    where
      no_there : HasValue R c (values.Bool false)
      no_there = subst (λ t. HasValue R c (values.Bool t)) e h

      back : (v : Value) → HasValue R (If c a b) v → HasValue R b v
      back v (inl (t, k)) = absurd (not_both_truths R c t no_there)
      back v (inr (f, k)) = k

  pub pair_there : (a b : Tree) (x y x' y' : ℤ) (o : Option Value) → IsInt reader a x → IsInt reader b y → x' ≡ x → y' ≡ y → Found (IsMade kinds.Vec2 (x' ∷ y' ∷ [])) o → IsValueThere reader (MakeVec2 a b) o
  pair_there a b x y x' y' o h k e f found = found_as (IsMade kinds.Vec2 (x' ∷ y' ∷ [])) (HasValue R (MakeVec2 a b)) o
      (λ v made. (x, y, h, k, subst (λ parts. IsMade kinds.Vec2 parts v) (ap₂ (λ s t. s ∷ t ∷ []) e f) made)) back found
    where
      back : (v : Value) → HasValue R (MakeVec2 a b) v → IsMade kinds.Vec2 (x' ∷ y' ∷ []) v
      back v (s, t, h', k', made) = subst (λ parts. IsMade kinds.Vec2 parts v) (ap₂ (λ s t. s ∷ t ∷ []) (one_int a s x h' h ∙ sym e) (one_int b t y k' k ∙ sym f)) made

  abbrev IsTriple : Kind → Tree → Tree → Tree → Value → Type 0
  IsTriple kind a b c v = (x : ℤ) × (y : ℤ) × (z : ℤ) × IsInt reader a x × IsInt reader b y × IsInt reader c z × IsMade kind (x ∷ y ∷ z ∷ []) v

  pub triple_there : (kind : Kind) (a b c : Tree) (x y z x' y' z' : ℤ) (o : Option Value) → IsInt reader a x → IsInt reader b y → IsInt reader c z → x' ≡ x → y' ≡ y → z' ≡ z → Found (IsMade kind (x' ∷ y' ∷ z' ∷ [])) o → Found (IsTriple kind a b c) o
  triple_there kind a b c x y z x' y' z' o h k l e f g found = found_as (IsMade kind (x' ∷ y' ∷ z' ∷ [])) (IsTriple kind a b c) o
      (λ v made. (x, y, z, h, k, l, subst (λ parts. IsMade kind parts v) (λ i. e i ∷ f i ∷ g i ∷ []) made)) back found
    where
      back : (v : Value) → IsTriple kind a b c v → IsMade kind (x' ∷ y' ∷ z' ∷ []) v
      back v (s, t, u, h', k', l', made) =
          let e' : s ≡ x' = one_int a s x h' h ∙ sym e in
          let f' : t ≡ y' = one_int b t y k' k ∙ sym f in
          let g' : u ≡ z' = one_int c u z l' l ∙ sym g in
          subst (λ parts. IsMade kind parts v) (λ i. e' i ∷ f' i ∷ g' i ∷ []) made

  -- ---- the form that an expression has

  pub ready_as : (expr : Expr) (tree : Tree) → tree_of expr ≡ tree → IsReady reader (tree_of expr) → IsReady reader tree
  ready_as expr tree e h = subst (IsReady reader) e h

  pub value_as : (expr : Expr) (tree : Tree) (v : Value) → tree_of expr ≡ tree → HasValue R tree v → HasValue R (tree_of expr) v
  value_as expr tree v e h = subst (λ x. HasValue R x v) (sym e) h

  pub there_as : (expr : Expr) (tree : Tree) (o : Option Value) → tree_of expr ≡ tree → IsValueThere reader tree o → IsValueThere reader (tree_of expr) o
  there_as expr tree o e h = subst (λ x. IsValueThere reader x o) (sym e) h

  pub beside_as : (expr : Expr) (tree : Tree) (kept : Option (List Entry)) (old new : ℕ) → tree_of expr ≡ tree → IsWithin reader (UnitsBeside reader kept tree) old new → IsWithin reader (UnitsBeside reader kept (tree_of expr)) old new
  beside_as expr tree kept old new e h = subst (λ x. IsWithin reader (UnitsBeside reader kept x) old new) (sym e) h

  pub left_as : (expr : Expr) (tree : Tree) (kept : Option (List Entry)) → tree_of expr ≡ tree → AreLeft reader (Read reader tree) kept → AreLeft reader (Read reader (tree_of expr)) kept
  left_as expr tree kept e h = subst (λ x. AreLeft reader (Read reader x) kept) (sym e) h

  pub read_as : (expr : Expr) (tree : Tree) (P Q : Type 0) (old new : Option (List Entry)) (from to bound after : ℕ) → tree_of expr ≡ tree → (Q → P) → IsRead reader tree P old new from to bound after → IsRead reader (tree_of expr) Q old new from to bound after
  read_as expr tree P Q old new from to bound after e given h =
      subst (λ x. IsRead reader x Q old new from to bound after) (sym e) (record { cost = h.cost; least = h.least; room = h.room; kept = h.kept; stays = h.stays; adds = h.adds; left = λ q. h.left (given q) })

  -- both parts of an operator are read as those of a vector are
  pub both_read : (op : BinOp) (a b : Tree) (P Q : Type 0) (old new : Option (List Entry)) (from to bound after : ℕ) → (Q → P) → IsRead reader (MakeVec2 a b) P old new from to bound after → IsRead reader (Binary op a b) Q old new from to bound after
  both_read op a b P Q old new from to bound after given h = record { cost = h.cost; least = h.least; room = h.room; kept = h.kept; stays = h.stays; adds = h.adds; left = λ q. h.left (given q) }

  pub no_values : (a b : Tree) (o : Option (Value × Value)) → o ≡ None → ((v w : Value) → HasValue R a v → HasValue R b w → ⊥) → AreValuesThere reader a b o
  no_values a b o e none = subst (AreValuesThere reader a b) (sym e) none

  pub none_there : (tree : Tree) (o : Option Value) → o ≡ None → HasNoValue R tree → IsValueThere reader tree o
  none_there tree o e none = subst (IsValueThere reader tree) (sym e) none

  pub no_choice : (c a b : Tree) (o : Option Value) → o ≡ None → ((truth : Bool) → HasValue R c (values.Bool truth) → ⊥) → IsValueThere reader (If c a b) o
  no_choice c a b o e none = none_there (If c a b) o e without
    where
      without : (v : Value) → HasValue R (If c a b) v → ⊥
      without v (inl (t, k)) = none true t
      without v (inr (f, k)) = none false f

  pub no_numbers : (a b c : Tree) (n : Option (ℤ × ℤ × ℤ)) → n ≡ None → ((x y z : ℤ) → IsInt reader a x → IsInt reader b y → IsInt reader c z → ⊥) → AreNumbersThere reader a b c n
  no_numbers a b c n e none = subst (AreNumbersThere reader a b c) (sym e) none

  -- ---- what the answer for a part says of its value

  pub is_there : (tree : Tree) (v : Value) (o : Option Value) → IsValueThere reader tree o → o ≡ Some v → HasValue R tree v
  is_there tree v o there e = subst (IsValueThere reader tree) e there

  pub not_there : (tree : Tree) (v : Value) (o : Option Value) → IsValueThere reader tree o → (o ≡ Some v → ⊥) → HasValue R tree v → ⊥
  not_there tree v None none other h = none v h
  not_there tree v (Some w) there other h = other (ap Some (one tree w v there h))

  -- a number that was cast is the same
  pub int_as : (tree : Tree) (x x' : ℤ) → x' ≡ x → IsInt reader tree x → IsInt reader tree x'
  int_as tree x x' e h = subst (IsInt reader tree) (sym e) h

  -- a triple or a colour, from the answer for its numbers
  pub made_of_three : (kind : Kind) (a b c : Tree) (n : Option (ℤ × ℤ × ℤ)) (o : Option Value) → AreNumbersThere reader a b c n
      → MatchOption n (o ≡ None) (λ xs. Found (IsMade kind (xs.0 ∷ xs.1 ∷ xs.2 ∷ [])) o) → Found (IsTriple kind a b c) o
  made_of_three kind a b c None o none e = subst (Found (IsTriple kind a b c)) (sym e) (λ v (x, y, z, h, k, l, made). none x y z h k l)
  made_of_three kind a b c (Some (x, y, z)) o (h, k, l) found = triple_there kind a b c x y z x y z o h k l refl refl refl found

-- a triple or a colour that is made has its numbers
pub some_numbers : (n : Option (ℤ × ℤ × ℤ)) (o : Option Value) (Made : (ℤ × ℤ × ℤ) → Type 0) → MatchOption n (o ≡ None) Made → IsSome o → IsSome n
some_numbers None o Made none some = absurd (false≢true (subst (λ x. IsSome x) none some))
some_numbers (Some xs) o Made made some = refl

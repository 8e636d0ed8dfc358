use Rattle.std.proofs.Common.{◌≡◌, ℕ, ◌<◌, ◌+◌, ◌*◌, max, ap, sym, ◌∙◌, arith}
use Rattle.gm_model.proofs.expr.Expr.TheLaws.{the_size}
use Rattle.gm_model.specs.declared.expr.Expr.TheViews.{sized-Unary, sized-Binary, sized-If, sized-MakeVec2, sized-MakeVec3, sized-MakeRgb}
use Rattle.gm_model.specs.Trees.{Tree, tree_of, Field, Same, Count, Sum, Least, Greatest, Unary, Binary, If, MakeVec2, MakeVec3, MakeRgb}
use Rattle.gm_model.specs.declared.expr.Expr.{Expr}
use Rattle.gm_model.specs.declared.expr.DartTerm.{DartTerm}
use Rattle.gm_model.specs.declared.expr.UnOp.{UnOp}
use Rattle.gm_model.specs.declared.expr.BinOp.{BinOp}
use Rattle.gm_model.specs.declared.word.Mask.{Mask}
use Rattle.gm_dual.specs.Duals as duals
use Rattle.gm_dual.proofs.expression.+dual.Goals as goal

-- ---- trees, over plain variables, so that nothing else is read

behind : (top : ℕ) (dual deref part : Expr) → deref ≡ part → tree_of dual ≡ duals.dual_tree top (tree_of deref) → tree_of dual ≡ duals.dual_tree top (tree_of part)
behind top dual deref part is done = rw (← is) done

field : (top : ℕ) (t : Tree) (d d' : DartTerm) (embed : ℕ) → t ≡ Field d embed → d' ≡ duals.dual_term top d → Field d' embed ≡ duals.dual_tree top t
field top t d d' embed is done = rw (is, done)

same : (top : ℕ) (t : Tree) (d e d' e' : DartTerm) → t ≡ Same d e → d' ≡ duals.dual_term top d → e' ≡ duals.dual_term top e → Same d' e' ≡ duals.dual_tree top t
same top t d e d' e' is first next = rw (is, first, next)

count : (top : ℕ) (t : Tree) (mask : Mask) (d : DartTerm) (mask' : Mask) (d' : DartTerm) → t ≡ Count mask d → mask' ≡ duals.dual_mask top mask → d' ≡ duals.dual_term top d → Count mask' d' ≡ duals.dual_tree top t
count top t mask d mask' d' is first next = rw (is, first, next)

sum : (top : ℕ) (t : Tree) (mask : Mask) (d : DartTerm) (mask' : Mask) (d' : DartTerm) (embed : ℕ) → t ≡ Sum mask d embed → mask' ≡ duals.dual_mask top mask → d' ≡ duals.dual_term top d → Sum mask' d' embed ≡ duals.dual_tree top t
sum top t mask d mask' d' embed is first next = rw (is, first, next)

least : (top : ℕ) (t : Tree) (mask : Mask) (d : DartTerm) (mask' : Mask) (d' : DartTerm) (embed : ℕ) → t ≡ Least mask d embed → mask' ≡ duals.dual_mask top mask → d' ≡ duals.dual_term top d → Least mask' d' embed ≡ duals.dual_tree top t
least top t mask d mask' d' embed is first next = rw (is, first, next)

greatest : (top : ℕ) (t : Tree) (mask : Mask) (d : DartTerm) (mask' : Mask) (d' : DartTerm) (embed : ℕ) → t ≡ Greatest mask d embed → mask' ≡ duals.dual_mask top mask → d' ≡ duals.dual_term top d → Greatest mask' d' embed ≡ duals.dual_tree top t
greatest top t mask d mask' d' embed is first next = rw (is, first, next)

unary : (top : ℕ) (op : UnOp) (t a a' : Tree) → t ≡ Unary op a → a' ≡ duals.dual_tree top a → Unary op a' ≡ duals.dual_tree top t
unary top op t a a' is first = rw (is, first)

binary : (top : ℕ) (op : BinOp) (t a b a' b' : Tree) → t ≡ Binary op a b → a' ≡ duals.dual_tree top a → b' ≡ duals.dual_tree top b → Binary op a' b' ≡ duals.dual_tree top t
binary top op t a b a' b' is first second = rw (is, first, second)

choice : (top : ℕ) (t a b c a' b' c' : Tree) → t ≡ If a b c → a' ≡ duals.dual_tree top a → b' ≡ duals.dual_tree top b → c' ≡ duals.dual_tree top c → If a' b' c' ≡ duals.dual_tree top t
choice top t a b c a' b' c' is first second third = rw (is, first, second, third)

vec2 : (top : ℕ) (t a b a' b' : Tree) → t ≡ MakeVec2 a b → a' ≡ duals.dual_tree top a → b' ≡ duals.dual_tree top b → MakeVec2 a' b' ≡ duals.dual_tree top t
vec2 top t a b a' b' is first second = rw (is, first, second)

vec3 : (top : ℕ) (t a b c a' b' c' : Tree) → t ≡ MakeVec3 a b c → a' ≡ duals.dual_tree top a → b' ≡ duals.dual_tree top b → c' ≡ duals.dual_tree top c → MakeVec3 a' b' c' ≡ duals.dual_tree top t
vec3 top t a b c a' b' c' is first second third = rw (is, first, second, third)

rgb : (top : ℕ) (t a b c a' b' c' : Tree) → t ≡ MakeRgb a b c → a' ≡ duals.dual_tree top a → b' ≡ duals.dual_tree top b → c' ≡ duals.dual_tree top c → MakeRgb a' b' c' ≡ duals.dual_tree top t
rgb top t a b c a' b' c' is first second third = rw (is, first, second, third)

-- ---- measures, over plain numbers

first_of_one : (t whole part a : ℕ) → 2 * whole + 0 ≡ t → whole ≡ max 0 (max a 0) + 1 → part ≡ a → 2 * part + 1 < t
first_of_one t whole part a is sized same = omega (arith, is, sized, same)

first_of_binary : (t whole part a b : ℕ) → 2 * whole + 0 ≡ t → whole ≡ max 0 (max a (max b 0)) + 1 → part ≡ a → 2 * part + 1 < t
first_of_binary t whole part a b is sized same = omega (arith, is, sized, same)

second_of_binary : (t whole part a b : ℕ) → 2 * whole + 0 ≡ t → whole ≡ max 0 (max a (max b 0)) + 1 → part ≡ b → 2 * part + 1 < t
second_of_binary t whole part a b is sized same = omega (arith, is, sized, same)

first_of_two : (t whole part a b : ℕ) → 2 * whole + 0 ≡ t → whole ≡ max a (max b 0) + 1 → part ≡ a → 2 * part + 1 < t
first_of_two t whole part a b is sized same = omega (arith, is, sized, same)

second_of_two : (t whole part a b : ℕ) → 2 * whole + 0 ≡ t → whole ≡ max a (max b 0) + 1 → part ≡ b → 2 * part + 1 < t
second_of_two t whole part a b is sized same = omega (arith, is, sized, same)

first_of_three : (t whole part a b c : ℕ) → 2 * whole + 0 ≡ t → whole ≡ max a (max b (max c 0)) + 1 → part ≡ a → 2 * part + 1 < t
first_of_three t whole part a b c is sized same = omega (arith, is, sized, same)

second_of_three : (t whole part a b c : ℕ) → 2 * whole + 0 ≡ t → whole ≡ max a (max b (max c 0)) + 1 → part ≡ b → 2 * part + 1 < t
second_of_three t whole part a b c is sized same = omega (arith, is, sized, same)

third_of_three : (t whole part a b c : ℕ) → 2 * whole + 0 ≡ t → whole ≡ max a (max b (max c 0)) + 1 → part ≡ c → 2 * part + 1 < t
third_of_three t whole part a b c is sized same = omega (arith, is, sized, same)

-- ---- what is returned

pub dual_expr-returns-in-Bool : goal.dual_expr-returns-in-Bool
dual_expr-returns-in-Bool t c = sym (ap (λ (e : Expr). duals.dual_tree c.args.top (tree_of e)) c.in-Bool.is)

pub dual_expr-returns-in-Param : goal.dual_expr-returns-in-Param
dual_expr-returns-in-Param t c = sym (ap (λ (e : Expr). duals.dual_tree c.args.top (tree_of e)) c.in-Param.is)

pub dual_expr-returns-in_ok-dual_term-in-Field : goal.dual_expr-returns-in_ok-dual_term-in-Field
dual_expr-returns-in_ok-dual_term-in-Field t c = field c.args.top (tree_of c.args.expr.now) c.in-Field.term c.in_ok-dual_term-in-Field.field-0 c.in-Field.embed (ap tree_of c.in-Field.is) c.in_ok-dual_term-in-Field.ensures

pub dual_expr-returns-in_ok-dual_term-in-Same-2 : goal.dual_expr-returns-in_ok-dual_term-in-Same-2
dual_expr-returns-in_ok-dual_term-in-Same-2 t c = same c.args.top (tree_of c.args.expr.now) c.in-Same.term c.in-Same.other c.in_ok-dual_term-in-Same.field-0 c.in_ok-dual_term-in-Same-2.field-0 (ap tree_of c.in-Same.is) c.in_ok-dual_term-in-Same.ensures c.in_ok-dual_term-in-Same-2.ensures

pub dual_expr-returns-in_ok-dual_term-in-Count : goal.dual_expr-returns-in_ok-dual_term-in-Count
dual_expr-returns-in_ok-dual_term-in-Count t c = count c.args.top (tree_of c.args.expr.now) c.in-Count.mask c.in-Count.term c.dual_mask.result c.in_ok-dual_term-in-Count.field-0 (ap tree_of c.in-Count.is) c.dual_mask.ensures c.in_ok-dual_term-in-Count.ensures

pub dual_expr-returns-in_ok-dual_term-in-Sum : goal.dual_expr-returns-in_ok-dual_term-in-Sum
dual_expr-returns-in_ok-dual_term-in-Sum t c = sum c.args.top (tree_of c.args.expr.now) c.in-Sum.mask c.in-Sum.term c.dual_mask-in-Sum.result c.in_ok-dual_term-in-Sum.field-0 c.in-Sum.embed (ap tree_of c.in-Sum.is) c.dual_mask-in-Sum.ensures c.in_ok-dual_term-in-Sum.ensures

pub dual_expr-returns-in_ok-dual_term-in-Least : goal.dual_expr-returns-in_ok-dual_term-in-Least
dual_expr-returns-in_ok-dual_term-in-Least t c = least c.args.top (tree_of c.args.expr.now) c.in-Least.mask c.in-Least.term c.dual_mask-in-Least.result c.in_ok-dual_term-in-Least.field-0 c.in-Least.embed (ap tree_of c.in-Least.is) c.dual_mask-in-Least.ensures c.in_ok-dual_term-in-Least.ensures

pub dual_expr-returns-in_ok-dual_term-in-Greatest :
    goal.dual_expr-returns-in_ok-dual_term-in-Greatest
dual_expr-returns-in_ok-dual_term-in-Greatest t c = greatest c.args.top (tree_of c.args.expr.now) c.in-Greatest.mask c.in-Greatest.term c.dual_mask-in-Greatest.result c.in_ok-dual_term-in-Greatest.field-0 c.in-Greatest.embed (ap tree_of c.in-Greatest.is) c.dual_mask-in-Greatest.ensures c.in_ok-dual_term-in-Greatest.ensures

pub dual_expr-returns-in_ok-dual_part-in-Unary : goal.dual_expr-returns-in_ok-dual_part-in-Unary
dual_expr-returns-in_ok-dual_part-in-Unary t c = unary c.args.top c.in-Unary.op (tree_of c.args.expr.now) (tree_of c.in-Unary.part.value) (tree_of c.in_ok-dual_part-in-Unary.field-0.value) (ap tree_of c.in-Unary.is) (behind c.args.top c.in_ok-dual_part-in-Unary.field-0.value c.deref.result.now c.in-Unary.part.value c.deref.ensures c.in_ok-dual_part-in-Unary.ensures)

pub dual_expr-returns-in_ok-dual_part-in-Binary-2 :
    goal.dual_expr-returns-in_ok-dual_part-in-Binary-2
dual_expr-returns-in_ok-dual_part-in-Binary-2 t c = binary c.args.top c.in-Binary.op (tree_of c.args.expr.now) (tree_of c.in-Binary.left.value) (tree_of c.in-Binary.right.value) (tree_of c.in_ok-dual_part-in-Binary.field-0.value) (tree_of c.in_ok-dual_part-in-Binary-2.field-0.value) (ap tree_of c.in-Binary.is) (behind c.args.top c.in_ok-dual_part-in-Binary.field-0.value c.deref-in-Binary.result.now c.in-Binary.left.value c.deref-in-Binary.ensures c.in_ok-dual_part-in-Binary.ensures) (behind c.args.top c.in_ok-dual_part-in-Binary-2.field-0.value c.deref-in-Binary-2.result.now c.in-Binary.right.value c.deref-in-Binary-2.ensures c.in_ok-dual_part-in-Binary-2.ensures)

pub dual_expr-returns-in_ok-dual_part-in-If-3 : goal.dual_expr-returns-in_ok-dual_part-in-If-3
dual_expr-returns-in_ok-dual_part-in-If-3 t c = choice c.args.top (tree_of c.args.expr.now) (tree_of c.in-If.condition.value) (tree_of c.in-If.then.value) (tree_of c.in-If.other.value) (tree_of c.in_ok-dual_part-in-If.field-0.value) (tree_of c.in_ok-dual_part-in-If-2.field-0.value) (tree_of c.in_ok-dual_part-in-If-3.field-0.value) (ap tree_of c.in-If.is) (behind c.args.top c.in_ok-dual_part-in-If.field-0.value c.deref-in-If.result.now c.in-If.condition.value c.deref-in-If.ensures c.in_ok-dual_part-in-If.ensures) (behind c.args.top c.in_ok-dual_part-in-If-2.field-0.value c.deref-in-If-2.result.now c.in-If.then.value c.deref-in-If-2.ensures c.in_ok-dual_part-in-If-2.ensures) (behind c.args.top c.in_ok-dual_part-in-If-3.field-0.value c.deref-in-If-3.result.now c.in-If.other.value c.deref-in-If-3.ensures c.in_ok-dual_part-in-If-3.ensures)

pub dual_expr-returns-in_ok-dual_part-in-MakeVec2-2 :
    goal.dual_expr-returns-in_ok-dual_part-in-MakeVec2-2
dual_expr-returns-in_ok-dual_part-in-MakeVec2-2 t c = vec2 c.args.top (tree_of c.args.expr.now) (tree_of c.in-MakeVec2.x.value) (tree_of c.in-MakeVec2.y.value) (tree_of c.in_ok-dual_part-in-MakeVec2.field-0.value) (tree_of c.in_ok-dual_part-in-MakeVec2-2.field-0.value) (ap tree_of c.in-MakeVec2.is) (behind c.args.top c.in_ok-dual_part-in-MakeVec2.field-0.value c.deref-in-MakeVec2.result.now c.in-MakeVec2.x.value c.deref-in-MakeVec2.ensures c.in_ok-dual_part-in-MakeVec2.ensures) (behind c.args.top c.in_ok-dual_part-in-MakeVec2-2.field-0.value c.deref-in-MakeVec2-2.result.now c.in-MakeVec2.y.value c.deref-in-MakeVec2-2.ensures c.in_ok-dual_part-in-MakeVec2-2.ensures)

pub dual_expr-returns-in_ok-dual_part-in-MakeVec3-3 :
    goal.dual_expr-returns-in_ok-dual_part-in-MakeVec3-3
dual_expr-returns-in_ok-dual_part-in-MakeVec3-3 t c = vec3 c.args.top (tree_of c.args.expr.now) (tree_of c.in-MakeVec3.x.value) (tree_of c.in-MakeVec3.y.value) (tree_of c.in-MakeVec3.z.value) (tree_of c.in_ok-dual_part-in-MakeVec3.field-0.value) (tree_of c.in_ok-dual_part-in-MakeVec3-2.field-0.value) (tree_of c.in_ok-dual_part-in-MakeVec3-3.field-0.value) (ap tree_of c.in-MakeVec3.is) (behind c.args.top c.in_ok-dual_part-in-MakeVec3.field-0.value c.deref-in-MakeVec3.result.now c.in-MakeVec3.x.value c.deref-in-MakeVec3.ensures c.in_ok-dual_part-in-MakeVec3.ensures) (behind c.args.top c.in_ok-dual_part-in-MakeVec3-2.field-0.value c.deref-in-MakeVec3-2.result.now c.in-MakeVec3.y.value c.deref-in-MakeVec3-2.ensures c.in_ok-dual_part-in-MakeVec3-2.ensures) (behind c.args.top c.in_ok-dual_part-in-MakeVec3-3.field-0.value c.deref-in-MakeVec3-3.result.now c.in-MakeVec3.z.value c.deref-in-MakeVec3-3.ensures c.in_ok-dual_part-in-MakeVec3-3.ensures)

pub dual_expr-returns-in_ok-dual_part-in-MakeRgb-3 :
    goal.dual_expr-returns-in_ok-dual_part-in-MakeRgb-3
dual_expr-returns-in_ok-dual_part-in-MakeRgb-3 t c = rgb c.args.top (tree_of c.args.expr.now) (tree_of c.in-MakeRgb.red.value) (tree_of c.in-MakeRgb.green.value) (tree_of c.in-MakeRgb.blue.value) (tree_of c.in_ok-dual_part-in-MakeRgb.field-0.value) (tree_of c.in_ok-dual_part-in-MakeRgb-2.field-0.value) (tree_of c.in_ok-dual_part-in-MakeRgb-3.field-0.value) (ap tree_of c.in-MakeRgb.is) (behind c.args.top c.in_ok-dual_part-in-MakeRgb.field-0.value c.deref-in-MakeRgb.result.now c.in-MakeRgb.red.value c.deref-in-MakeRgb.ensures c.in_ok-dual_part-in-MakeRgb.ensures) (behind c.args.top c.in_ok-dual_part-in-MakeRgb-2.field-0.value c.deref-in-MakeRgb-2.result.now c.in-MakeRgb.green.value c.deref-in-MakeRgb-2.ensures c.in_ok-dual_part-in-MakeRgb-2.ensures) (behind c.args.top c.in_ok-dual_part-in-MakeRgb-3.field-0.value c.deref-in-MakeRgb-3.result.now c.in-MakeRgb.blue.value c.deref-in-MakeRgb-3.ensures c.in_ok-dual_part-in-MakeRgb-3.ensures)

-- ---- each part is smaller

pub dual_expr-dual_part-requires : goal.dual_expr-dual_part-requires
dual_expr-dual_part-requires t c = (first_of_one t (the_size c.args.expr.now) (the_size c.deref.result.now) (the_size c.in-Unary.part.value) c.decreases (ap the_size c.in-Unary.is ∙ sized-Unary c.in-Unary.op c.in-Unary.part) (ap the_size c.deref.ensures), c.requires)

pub dual_expr-dual_part-requires-in-Binary : goal.dual_expr-dual_part-requires-in-Binary
dual_expr-dual_part-requires-in-Binary t c = (first_of_binary t (the_size c.args.expr.now) (the_size c.deref-in-Binary.result.now) (the_size c.in-Binary.left.value) (the_size c.in-Binary.right.value) c.decreases (ap the_size c.in-Binary.is ∙ sized-Binary c.in-Binary.op c.in-Binary.left c.in-Binary.right) (ap the_size c.deref-in-Binary.ensures), c.requires)

pub dual_expr-dual_part-requires-in-Binary-2 : goal.dual_expr-dual_part-requires-in-Binary-2
dual_expr-dual_part-requires-in-Binary-2 t c = (second_of_binary t (the_size c.args.expr.now) (the_size c.deref-in-Binary-2.result.now) (the_size c.in-Binary.left.value) (the_size c.in-Binary.right.value) c.decreases (ap the_size c.in-Binary.is ∙ sized-Binary c.in-Binary.op c.in-Binary.left c.in-Binary.right) (ap the_size c.deref-in-Binary-2.ensures), c.requires)

pub dual_expr-dual_part-requires-in-If : goal.dual_expr-dual_part-requires-in-If
dual_expr-dual_part-requires-in-If t c = (first_of_three t (the_size c.args.expr.now) (the_size c.deref-in-If.result.now) (the_size c.in-If.condition.value) (the_size c.in-If.then.value) (the_size c.in-If.other.value) c.decreases (ap the_size c.in-If.is ∙ sized-If c.in-If.condition c.in-If.then c.in-If.other) (ap the_size c.deref-in-If.ensures), c.requires)

pub dual_expr-dual_part-requires-in-If-2 : goal.dual_expr-dual_part-requires-in-If-2
dual_expr-dual_part-requires-in-If-2 t c = (second_of_three t (the_size c.args.expr.now) (the_size c.deref-in-If-2.result.now) (the_size c.in-If.condition.value) (the_size c.in-If.then.value) (the_size c.in-If.other.value) c.decreases (ap the_size c.in-If.is ∙ sized-If c.in-If.condition c.in-If.then c.in-If.other) (ap the_size c.deref-in-If-2.ensures), c.requires)

pub dual_expr-dual_part-requires-in-If-3 : goal.dual_expr-dual_part-requires-in-If-3
dual_expr-dual_part-requires-in-If-3 t c = (third_of_three t (the_size c.args.expr.now) (the_size c.deref-in-If-3.result.now) (the_size c.in-If.condition.value) (the_size c.in-If.then.value) (the_size c.in-If.other.value) c.decreases (ap the_size c.in-If.is ∙ sized-If c.in-If.condition c.in-If.then c.in-If.other) (ap the_size c.deref-in-If-3.ensures), c.requires)

pub dual_expr-dual_part-requires-in-MakeVec2 : goal.dual_expr-dual_part-requires-in-MakeVec2
dual_expr-dual_part-requires-in-MakeVec2 t c = (first_of_two t (the_size c.args.expr.now) (the_size c.deref-in-MakeVec2.result.now) (the_size c.in-MakeVec2.x.value) (the_size c.in-MakeVec2.y.value) c.decreases (ap the_size c.in-MakeVec2.is ∙ sized-MakeVec2 c.in-MakeVec2.x c.in-MakeVec2.y) (ap the_size c.deref-in-MakeVec2.ensures), c.requires)

pub dual_expr-dual_part-requires-in-MakeVec2-2 : goal.dual_expr-dual_part-requires-in-MakeVec2-2
dual_expr-dual_part-requires-in-MakeVec2-2 t c = (second_of_two t (the_size c.args.expr.now) (the_size c.deref-in-MakeVec2-2.result.now) (the_size c.in-MakeVec2.x.value) (the_size c.in-MakeVec2.y.value) c.decreases (ap the_size c.in-MakeVec2.is ∙ sized-MakeVec2 c.in-MakeVec2.x c.in-MakeVec2.y) (ap the_size c.deref-in-MakeVec2-2.ensures), c.requires)

pub dual_expr-dual_part-requires-in-MakeVec3 : goal.dual_expr-dual_part-requires-in-MakeVec3
dual_expr-dual_part-requires-in-MakeVec3 t c = (first_of_three t (the_size c.args.expr.now) (the_size c.deref-in-MakeVec3.result.now) (the_size c.in-MakeVec3.x.value) (the_size c.in-MakeVec3.y.value) (the_size c.in-MakeVec3.z.value) c.decreases (ap the_size c.in-MakeVec3.is ∙ sized-MakeVec3 c.in-MakeVec3.x c.in-MakeVec3.y c.in-MakeVec3.z) (ap the_size c.deref-in-MakeVec3.ensures), c.requires)

pub dual_expr-dual_part-requires-in-MakeVec3-2 : goal.dual_expr-dual_part-requires-in-MakeVec3-2
dual_expr-dual_part-requires-in-MakeVec3-2 t c = (second_of_three t (the_size c.args.expr.now) (the_size c.deref-in-MakeVec3-2.result.now) (the_size c.in-MakeVec3.x.value) (the_size c.in-MakeVec3.y.value) (the_size c.in-MakeVec3.z.value) c.decreases (ap the_size c.in-MakeVec3.is ∙ sized-MakeVec3 c.in-MakeVec3.x c.in-MakeVec3.y c.in-MakeVec3.z) (ap the_size c.deref-in-MakeVec3-2.ensures), c.requires)

pub dual_expr-dual_part-requires-in-MakeVec3-3 : goal.dual_expr-dual_part-requires-in-MakeVec3-3
dual_expr-dual_part-requires-in-MakeVec3-3 t c = (third_of_three t (the_size c.args.expr.now) (the_size c.deref-in-MakeVec3-3.result.now) (the_size c.in-MakeVec3.x.value) (the_size c.in-MakeVec3.y.value) (the_size c.in-MakeVec3.z.value) c.decreases (ap the_size c.in-MakeVec3.is ∙ sized-MakeVec3 c.in-MakeVec3.x c.in-MakeVec3.y c.in-MakeVec3.z) (ap the_size c.deref-in-MakeVec3-3.ensures), c.requires)

pub dual_expr-dual_part-requires-in-MakeRgb : goal.dual_expr-dual_part-requires-in-MakeRgb
dual_expr-dual_part-requires-in-MakeRgb t c = (first_of_three t (the_size c.args.expr.now) (the_size c.deref-in-MakeRgb.result.now) (the_size c.in-MakeRgb.red.value) (the_size c.in-MakeRgb.green.value) (the_size c.in-MakeRgb.blue.value) c.decreases (ap the_size c.in-MakeRgb.is ∙ sized-MakeRgb c.in-MakeRgb.red c.in-MakeRgb.green c.in-MakeRgb.blue) (ap the_size c.deref-in-MakeRgb.ensures), c.requires)

pub dual_expr-dual_part-requires-in-MakeRgb-2 : goal.dual_expr-dual_part-requires-in-MakeRgb-2
dual_expr-dual_part-requires-in-MakeRgb-2 t c = (second_of_three t (the_size c.args.expr.now) (the_size c.deref-in-MakeRgb-2.result.now) (the_size c.in-MakeRgb.red.value) (the_size c.in-MakeRgb.green.value) (the_size c.in-MakeRgb.blue.value) c.decreases (ap the_size c.in-MakeRgb.is ∙ sized-MakeRgb c.in-MakeRgb.red c.in-MakeRgb.green c.in-MakeRgb.blue) (ap the_size c.deref-in-MakeRgb-2.ensures), c.requires)

pub dual_expr-dual_part-requires-in-MakeRgb-3 : goal.dual_expr-dual_part-requires-in-MakeRgb-3
dual_expr-dual_part-requires-in-MakeRgb-3 t c = (third_of_three t (the_size c.args.expr.now) (the_size c.deref-in-MakeRgb-3.result.now) (the_size c.in-MakeRgb.red.value) (the_size c.in-MakeRgb.green.value) (the_size c.in-MakeRgb.blue.value) c.decreases (ap the_size c.in-MakeRgb.is ∙ sized-MakeRgb c.in-MakeRgb.red c.in-MakeRgb.green c.in-MakeRgb.blue) (ap the_size c.deref-in-MakeRgb-3.ensures), c.requires)

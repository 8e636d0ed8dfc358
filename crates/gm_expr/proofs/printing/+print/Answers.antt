use Rattle.std.proofs.Common.{◌≡◌, ◌++◌, ℕ, ◌+◌, ◌*◌, ◌<◌, ◌≤◌, true, List, codes, refl, sym, ap, subst, arith}
use Rattle.std.proofs.lemmas.Bool.{lt-ltb, le-ltb}
use Rattle.std.specs.Prelude.{nat_lt, OnOk, OnErr}
use Rattle.std.proofs.lemmas.Result.{on_err_weaker, on_ok_weaker}
use Rattle.gm_model.specs.declared.expr.Expr.{Expr}
use Rattle.gm_model.specs.Rules.{rule_of}
use Rattle.gm_model.specs.Trees.{Tree, tree_of}
use Rattle.gm_text.specs.inner.SchemaPrinting.{IsCut}
use Rattle.gm_expr.specs.ExprText.{expr_text, head_of, level, sign_of, tail_of, wrapped}
use Rattle.gm_parse.specs.Levels.{least_of_part, least_on_left, least_on_right}
use Rattle.gm_model.proofs.Exits.{never_ok, on_err}
use Rattle.gm_text.proofs.Cuts.{cut_at_once, cut_before, cut_behind, cut_behind_lead, written_behind, written_behind_lead}
use Rattle.gm_expr.proofs.Sizes.{size}
use Rattle.gm_expr.proofs.printing.+print.Goals as goal

-- ---- the measures

abbrev the_size : Expr → ℕ
the_size e = size (tree_of e)

behind_below : (n t : ℕ) → 4 * n + 1 ≡ t → 4 * n < t
behind_below n t is = omega (arith, is)

inner_below : (n t : ℕ) → 4 * n + 2 ≡ t → 4 * n < t
inner_below n t is = omega (arith, is)

bracket_below : (n t : ℕ) → 4 * n + 2 ≡ t → 4 * n + 1 < t
bracket_below n t is = omega (arith, is)

operand_below : (n t : ℕ) → 4 * n + 3 ≡ t → 4 * n + 2 < t
operand_below n t is = omega (arith, is)

left_below : (n m t : ℕ) → 4 * (n + m) + 3 ≡ t → 4 * n + 2 < t
left_below n m t is = omega (arith, is)

right_below : (n m t : ℕ) → 4 * (n + m) + 3 ≡ t → 4 * m + 2 < t
right_below n m t is = omega (arith, is)

first_of_two : (n m t : ℕ) → 4 * (n + m) + 3 ≡ t → 4 * n + 1 < t
first_of_two n m t is = omega (arith, is)

second_of_two : (n m t : ℕ) → 4 * (n + m) + 3 ≡ t → 4 * m + 1 < t
second_of_two n m t is = omega (arith, is)

first_of_three : (n m k t : ℕ) → 4 * (n + m + k) + 3 ≡ t → 4 * n + 1 < t
first_of_three n m k t is = omega (arith, is)

second_of_three : (n m k t : ℕ) → 4 * (n + m + k) + 3 ≡ t → 4 * m + 1 < t
second_of_three n m k t is = omega (arith, is)

third_of_three : (n m k t : ℕ) → 4 * (n + m + k) + 3 ≡ t → 4 * k + 1 < t
third_of_three n m k t is = omega (arith, is)

part_1 : (whole a n t : ℕ) → 4 * whole ≡ t → whole ≡ n + 1 → a ≡ n → 4 * a + 3 < t
part_1 whole a n t is more same = omega (arith, is, more, same)

parts_2 : (whole a b n m t : ℕ) → 4 * whole ≡ t → whole ≡ n + m + 1 → a ≡ n → b ≡ m → 4 * (a + b) + 3 < t
parts_2 whole a b n m t is more first second = omega (arith, is, more, first, second)

parts_3 : (whole a b d n m k t : ℕ) → 4 * whole ≡ t → whole ≡ n + m + k + 1 → a ≡ n → b ≡ m → d ≡ k → 4 * (a + b + d) + 3 < t
parts_3 whole a b d n m k t is more first second third = omega (arith, is, more, first, second, third)

-- ---- behind a lead

pub print_behind-returns-in_err-put-clause-err : goal.print_behind-returns-in_err-put-clause-err
print_behind-returns-in_err-put-clause-err t c =
    on_err _ (cut_at_once _ c.in_err-put.ensures.err)

pub print_behind-returns-clause-ok : goal.print_behind-returns-clause-ok
print_behind-returns-clause-ok t c =
    let text = expr_text c.args.schema.now (rule_of c.args.rule.now) (tree_of c.args.expr.now) in
    on_ok_weaker c.print_expr.result (λ (more : c.print_expr.new.out ≡ c.put.new.self ++ text). written_behind c.args.out.now c.args.lead.now text c.in_ok-put.ensures.ok more) c.print_expr.ensures.ok

pub print_behind-returns-clause-err : goal.print_behind-returns-clause-err
print_behind-returns-clause-err t c =
    let text = expr_text c.args.schema.now (rule_of c.args.rule.now) (tree_of c.args.expr.now) in
    on_err_weaker c.print_expr.result (λ (cut : IsCut c.put.new.self text c.print_expr.new.out). cut_behind c.args.out.now c.args.lead.now c.in_ok-put.ensures.ok cut) c.print_expr.ensures.err

-- ---- an operator and its part

pub print_unary-returns-in_err-put-clause-err : goal.print_unary-returns-in_err-put-clause-err
print_unary-returns-in_err-put-clause-err t c =
    on_err _ (cut_at_once _ c.in_err-put.ensures.err)

pub print_unary-returns-in_err-print_part-clause-err : goal.print_unary-returns-in_err-print_part-clause-err
print_unary-returns-in_err-print_part-clause-err t c =
    let tree = tree_of c.args.part.now in
    let text = expr_text c.args.schema.now (rule_of c.args.rule.now) tree in
    let head : c.put.new.self ≡ c.args.out.now ++ head_of c.args.op = rw (c.in_ok-put.ensures.ok, c.head.ensures) refl in
    let cut = subst (λ least. IsCut c.put.new.self (wrapped least tree text) c.print_part.new.out) c.least_within.ensures c.in_err-print_part.ensures.err in
    on_err _ (cut_before (tail_of c.args.op) (cut_behind c.args.out.now (head_of c.args.op) head cut))

pub print_unary-returns-clause-ok : goal.print_unary-returns-clause-ok
print_unary-returns-clause-ok t c =
    let part = wrapped (least_of_part c.args.op) (tree_of c.args.part.now) (expr_text c.args.schema.now (rule_of c.args.rule.now) (tree_of c.args.part.now)) in
    let head : c.put.new.self ≡ c.args.out.now ++ head_of c.args.op = rw (c.in_ok-put.ensures.ok, c.head.ensures) refl in
    let more : c.print_part.new.out ≡ c.put.new.self ++ part = rw (c.in_ok-print_part.ensures.ok, c.least_within.ensures) refl in
    let so_far = written_behind c.args.out.now (head_of c.args.op) part head more in
    on_ok_weaker c.put-2.result
    (λ (tail : c.put-2.new.self ≡ c.print_part.new.out ++ tail_of c.args.op). written_behind c.args.out.now (head_of c.args.op ++ part) (tail_of c.args.op) so_far tail)
    (subst (λ (bytes : List ℕ). OnOk c.put-2.result (c.put-2.new.self ≡ c.print_part.new.out ++ bytes)) c.tail.ensures c.put-2.ensures.ok)

pub print_unary-returns-clause-err : goal.print_unary-returns-clause-err
print_unary-returns-clause-err t c =
    let part = wrapped (least_of_part c.args.op) (tree_of c.args.part.now) (expr_text c.args.schema.now (rule_of c.args.rule.now) (tree_of c.args.part.now)) in
    let head : c.put.new.self ≡ c.args.out.now ++ head_of c.args.op = rw (c.in_ok-put.ensures.ok, c.head.ensures) refl in
    let more : c.print_part.new.out ≡ c.put.new.self ++ part = rw (c.in_ok-print_part.ensures.ok, c.least_within.ensures) refl in
    let so_far = written_behind c.args.out.now (head_of c.args.op) part head more in
    on_err_weaker c.put-2.result
    (λ (same : c.put-2.new.self ≡ c.print_part.new.out). cut_behind c.args.out.now (head_of c.args.op ++ part) so_far (cut_at_once (tail_of c.args.op) same))
    c.put-2.ensures.err

-- ---- an operator and its two parts

pub print_binary-returns-in_err-print_part-clause-err : goal.print_binary-returns-in_err-print_part-clause-err
print_binary-returns-in_err-print_part-clause-err t c =
    let text = expr_text c.args.schema.now (rule_of c.args.rule.now) in
    let left = wrapped (least_on_left c.args.op) (tree_of c.args.left.now) (text (tree_of c.args.left.now)) in
    let right = wrapped (least_on_right c.args.op) (tree_of c.args.right.now) (text (tree_of c.args.right.now)) in
    let cut = subst (λ least. IsCut c.args.out.now (wrapped least (tree_of c.args.left.now) (text (tree_of c.args.left.now))) c.print_part.new.out) c.least_left.ensures c.in_err-print_part.ensures.err in
    on_err _ (cut_before right (cut_before (sign_of c.args.op) cut))

pub print_binary-returns-in_err-put-clause-err : goal.print_binary-returns-in_err-put-clause-err
print_binary-returns-in_err-put-clause-err t c =
    let text = expr_text c.args.schema.now (rule_of c.args.rule.now) in
    let left = wrapped (least_on_left c.args.op) (tree_of c.args.left.now) (text (tree_of c.args.left.now)) in
    let right = wrapped (least_on_right c.args.op) (tree_of c.args.right.now) (text (tree_of c.args.right.now)) in
    let first : c.print_part.new.out ≡ c.args.out.now ++ left = rw (c.in_ok-print_part.ensures.ok, c.least_left.ensures) refl in
    on_err _ (cut_before right (cut_behind c.args.out.now left first (cut_at_once (sign_of c.args.op) c.in_err-put.ensures.err)))

pub print_binary-print_part-requires-2 : goal.print_binary-print_part-requires-2
print_binary-print_part-requires-2 t c =
    (right_below _ _ _ c.decreases, c.requires.right)

pub print_binary-returns-clause-ok : goal.print_binary-returns-clause-ok
print_binary-returns-clause-ok t c =
    let text = expr_text c.args.schema.now (rule_of c.args.rule.now) in
    let left = wrapped (least_on_left c.args.op) (tree_of c.args.left.now) (text (tree_of c.args.left.now)) in
    let right = wrapped (least_on_right c.args.op) (tree_of c.args.right.now) (text (tree_of c.args.right.now)) in
    let first : c.print_part.new.out ≡ c.args.out.now ++ left = rw (c.in_ok-print_part.ensures.ok, c.least_left.ensures) refl in
    let sign : c.put.new.self ≡ c.print_part.new.out ++ sign_of c.args.op = rw (c.in_ok-put.ensures.ok, c.sign.ensures) refl in
    let so_far = written_behind c.args.out.now left (sign_of c.args.op) first sign in
    on_ok_weaker c.print_part-2.result
    (λ (more : c.print_part-2.new.out ≡ c.put.new.self ++ right). written_behind c.args.out.now (left ++ sign_of c.args.op) right so_far more)
    (subst (λ least. OnOk c.print_part-2.result (c.print_part-2.new.out ≡ c.put.new.self ++ wrapped least (tree_of c.args.right.now) (text (tree_of c.args.right.now)))) c.least_on_right.ensures c.print_part-2.ensures.ok)

pub print_binary-returns-clause-err : goal.print_binary-returns-clause-err
print_binary-returns-clause-err t c =
    let text = expr_text c.args.schema.now (rule_of c.args.rule.now) in
    let left = wrapped (least_on_left c.args.op) (tree_of c.args.left.now) (text (tree_of c.args.left.now)) in
    let right = wrapped (least_on_right c.args.op) (tree_of c.args.right.now) (text (tree_of c.args.right.now)) in
    let first : c.print_part.new.out ≡ c.args.out.now ++ left = rw (c.in_ok-print_part.ensures.ok, c.least_left.ensures) refl in
    let sign : c.put.new.self ≡ c.print_part.new.out ++ sign_of c.args.op = rw (c.in_ok-put.ensures.ok, c.sign.ensures) refl in
    let so_far = written_behind c.args.out.now left (sign_of c.args.op) first sign in
    on_err_weaker c.print_part-2.result
    (λ (cut : IsCut c.put.new.self right c.print_part-2.new.out). cut_behind c.args.out.now (left ++ sign_of c.args.op) so_far cut)
    (subst (λ least. OnErr c.print_part-2.result (IsCut c.put.new.self (wrapped least (tree_of c.args.right.now) (text (tree_of c.args.right.now))) c.print_part-2.new.out)) c.least_on_right.ensures c.print_part-2.ensures.err)

-- ---- choices

pub print_if-returns-in_err-print_behind-clause-err : goal.print_if-returns-in_err-print_behind-clause-err
print_if-returns-in_err-print_behind-clause-err t c =
    let text = expr_text c.args.schema.now (rule_of c.args.rule.now) in
    on_err _ (cut_before (text (tree_of c.args.other.now)) (cut_before (codes " else ") (cut_before (text (tree_of c.args.then.now)) (cut_before (codes " then ") (c.in_err-print_behind.ensures.err)))))

pub print_if-returns-in_err-print_behind-2-clause-err : goal.print_if-returns-in_err-print_behind-2-clause-err
print_if-returns-in_err-print_behind-2-clause-err t c =
    let text = expr_text c.args.schema.now (rule_of c.args.rule.now) in
    on_err _ (cut_before (text (tree_of c.args.other.now)) (cut_before (codes " else ") (cut_behind_lead c.args.out.now (codes "if " ++ text (tree_of c.args.condition.now)) (codes " then ") (text (tree_of c.args.then.now)) c.in_ok-print_behind.ensures.ok c.in_err-print_behind-2.ensures.err)))

pub print_if-print_behind-requires-2 : goal.print_if-print_behind-requires-2
print_if-print_behind-requires-2 t c =
    (second_of_three _ _ _ _ c.decreases, c.requires.then)

pub print_if-print_behind-requires-3 : goal.print_if-print_behind-requires-3
print_if-print_behind-requires-3 t c =
    (third_of_three _ _ _ _ c.decreases, c.requires.other)

pub print_if-returns-clause-ok : goal.print_if-returns-clause-ok
print_if-returns-clause-ok t c =
    let text = expr_text c.args.schema.now (rule_of c.args.rule.now) in
    let so_far_2 = written_behind_lead c.args.out.now (codes "if " ++ text (tree_of c.args.condition.now)) (codes " then ") (text (tree_of c.args.then.now)) c.in_ok-print_behind.ensures.ok c.in_ok-print_behind-2.ensures.ok in
    on_ok_weaker c.print_behind-3.result
    (λ (more : c.print_behind-3.new.out ≡ c.print_behind-2.new.out ++ (codes " else " ++ text (tree_of c.args.other.now))). written_behind_lead c.args.out.now (codes "if " ++ text (tree_of c.args.condition.now) ++ codes " then " ++ text (tree_of c.args.then.now)) (codes " else ") (text (tree_of c.args.other.now)) so_far_2 more)
    c.print_behind-3.ensures.ok

pub print_if-returns-clause-err : goal.print_if-returns-clause-err
print_if-returns-clause-err t c =
    let text = expr_text c.args.schema.now (rule_of c.args.rule.now) in
    let so_far_2 = written_behind_lead c.args.out.now (codes "if " ++ text (tree_of c.args.condition.now)) (codes " then ") (text (tree_of c.args.then.now)) c.in_ok-print_behind.ensures.ok c.in_ok-print_behind-2.ensures.ok in
    on_err_weaker c.print_behind-3.result
    (λ (cut : IsCut c.print_behind-2.new.out (codes " else " ++ text (tree_of c.args.other.now)) c.print_behind-3.new.out). cut_behind_lead c.args.out.now (codes "if " ++ text (tree_of c.args.condition.now) ++ codes " then " ++ text (tree_of c.args.then.now)) (codes " else ") (text (tree_of c.args.other.now)) so_far_2 cut)
    c.print_behind-3.ensures.err

-- ---- two arguments

pub print_pair-returns-in_err-print_behind-clause-err : goal.print_pair-returns-in_err-print_behind-clause-err
print_pair-returns-in_err-print_behind-clause-err t c =
    let text = expr_text c.args.schema.now (rule_of c.args.rule.now) in
    on_err _ (cut_before (codes ")") (cut_before (text (tree_of c.args.y.now)) (cut_before (codes ", ") (c.in_err-print_behind.ensures.err))))

pub print_pair-returns-in_err-print_behind-2-clause-err : goal.print_pair-returns-in_err-print_behind-2-clause-err
print_pair-returns-in_err-print_behind-2-clause-err t c =
    let text = expr_text c.args.schema.now (rule_of c.args.rule.now) in
    on_err _ (cut_before (codes ")") (cut_behind_lead c.args.out.now (codes "vec2(" ++ text (tree_of c.args.x.now)) (codes ", ") (text (tree_of c.args.y.now)) c.in_ok-print_behind.ensures.ok c.in_err-print_behind-2.ensures.err))

pub print_pair-print_behind-requires-2 : goal.print_pair-print_behind-requires-2
print_pair-print_behind-requires-2 t c =
    (second_of_two _ _ _ c.decreases, c.requires.y)

pub print_pair-returns-clause-ok : goal.print_pair-returns-clause-ok
print_pair-returns-clause-ok t c =
    let text = expr_text c.args.schema.now (rule_of c.args.rule.now) in
    let so_far_2 = written_behind_lead c.args.out.now (codes "vec2(" ++ text (tree_of c.args.x.now)) (codes ", ") (text (tree_of c.args.y.now)) c.in_ok-print_behind.ensures.ok c.in_ok-print_behind-2.ensures.ok in
    on_ok_weaker c.put.result
    (λ (more : c.put.new.self ≡ c.print_behind-2.new.out ++ codes ")"). written_behind c.args.out.now (codes "vec2(" ++ text (tree_of c.args.x.now) ++ codes ", " ++ text (tree_of c.args.y.now)) (codes ")") so_far_2 more)
    c.put.ensures.ok

pub print_pair-returns-clause-err : goal.print_pair-returns-clause-err
print_pair-returns-clause-err t c =
    let text = expr_text c.args.schema.now (rule_of c.args.rule.now) in
    let so_far_2 = written_behind_lead c.args.out.now (codes "vec2(" ++ text (tree_of c.args.x.now)) (codes ", ") (text (tree_of c.args.y.now)) c.in_ok-print_behind.ensures.ok c.in_ok-print_behind-2.ensures.ok in
    on_err_weaker c.put.result
    (λ (same : c.put.new.self ≡ c.print_behind-2.new.out). cut_behind c.args.out.now (codes "vec2(" ++ text (tree_of c.args.x.now) ++ codes ", " ++ text (tree_of c.args.y.now)) so_far_2 (cut_at_once (codes ")") same))
    c.put.ensures.err

-- ---- three arguments

pub print_triple-returns-in_err-print_behind-clause-err : goal.print_triple-returns-in_err-print_behind-clause-err
print_triple-returns-in_err-print_behind-clause-err t c =
    let text = expr_text c.args.schema.now (rule_of c.args.rule.now) in
    on_err _ (cut_before (codes ")") (cut_before (text (tree_of c.args.third.now)) (cut_before (codes ", ") (cut_before (text (tree_of c.args.second.now)) (cut_before (codes ", ") (c.in_err-print_behind.ensures.err))))))

pub print_triple-returns-in_err-print_behind-2-clause-err : goal.print_triple-returns-in_err-print_behind-2-clause-err
print_triple-returns-in_err-print_behind-2-clause-err t c =
    let text = expr_text c.args.schema.now (rule_of c.args.rule.now) in
    on_err _ (cut_before (codes ")") (cut_before (text (tree_of c.args.third.now)) (cut_before (codes ", ") (cut_behind_lead c.args.out.now (c.args.head.now ++ text (tree_of c.args.first.now)) (codes ", ") (text (tree_of c.args.second.now)) c.in_ok-print_behind.ensures.ok c.in_err-print_behind-2.ensures.err))))

pub print_triple-returns-in_err-print_behind-3-clause-err : goal.print_triple-returns-in_err-print_behind-3-clause-err
print_triple-returns-in_err-print_behind-3-clause-err t c =
    let text = expr_text c.args.schema.now (rule_of c.args.rule.now) in
    let so_far_2 = written_behind_lead c.args.out.now (c.args.head.now ++ text (tree_of c.args.first.now)) (codes ", ") (text (tree_of c.args.second.now)) c.in_ok-print_behind.ensures.ok c.in_ok-print_behind-2.ensures.ok in
    on_err _ (cut_before (codes ")") (cut_behind_lead c.args.out.now (c.args.head.now ++ text (tree_of c.args.first.now) ++ codes ", " ++ text (tree_of c.args.second.now)) (codes ", ") (text (tree_of c.args.third.now)) so_far_2 c.in_err-print_behind-3.ensures.err))

pub print_triple-print_behind-requires-2 : goal.print_triple-print_behind-requires-2
print_triple-print_behind-requires-2 t c =
    (second_of_three _ _ _ _ c.decreases, c.requires.second)

pub print_triple-print_behind-requires-3 : goal.print_triple-print_behind-requires-3
print_triple-print_behind-requires-3 t c =
    (third_of_three _ _ _ _ c.decreases, c.requires.third)

pub print_triple-returns-clause-ok : goal.print_triple-returns-clause-ok
print_triple-returns-clause-ok t c =
    let text = expr_text c.args.schema.now (rule_of c.args.rule.now) in
    let so_far_2 = written_behind_lead c.args.out.now (c.args.head.now ++ text (tree_of c.args.first.now)) (codes ", ") (text (tree_of c.args.second.now)) c.in_ok-print_behind.ensures.ok c.in_ok-print_behind-2.ensures.ok in
    let so_far_3 = written_behind_lead c.args.out.now (c.args.head.now ++ text (tree_of c.args.first.now) ++ codes ", " ++ text (tree_of c.args.second.now)) (codes ", ") (text (tree_of c.args.third.now)) so_far_2 c.in_ok-print_behind-3.ensures.ok in
    on_ok_weaker c.put.result
    (λ (more : c.put.new.self ≡ c.print_behind-3.new.out ++ codes ")"). written_behind c.args.out.now (c.args.head.now ++ text (tree_of c.args.first.now) ++ codes ", " ++ text (tree_of c.args.second.now) ++ codes ", " ++ text (tree_of c.args.third.now)) (codes ")") so_far_3 more)
    c.put.ensures.ok

pub print_triple-returns-clause-err : goal.print_triple-returns-clause-err
print_triple-returns-clause-err t c =
    let text = expr_text c.args.schema.now (rule_of c.args.rule.now) in
    let so_far_2 = written_behind_lead c.args.out.now (c.args.head.now ++ text (tree_of c.args.first.now)) (codes ", ") (text (tree_of c.args.second.now)) c.in_ok-print_behind.ensures.ok c.in_ok-print_behind-2.ensures.ok in
    let so_far_3 = written_behind_lead c.args.out.now (c.args.head.now ++ text (tree_of c.args.first.now) ++ codes ", " ++ text (tree_of c.args.second.now)) (codes ", ") (text (tree_of c.args.third.now)) so_far_2 c.in_ok-print_behind-3.ensures.ok in
    on_err_weaker c.put.result
    (λ (same : c.put.new.self ≡ c.print_behind-3.new.out). cut_behind c.args.out.now (c.args.head.now ++ text (tree_of c.args.first.now) ++ codes ", " ++ text (tree_of c.args.second.now) ++ codes ", " ++ text (tree_of c.args.third.now)) so_far_3 (cut_at_once (codes ")") same))
    c.put.ensures.err

-- ---- parentheses

is_lower : (least : ℕ) (tree : Tree) (found : ℕ) → found ≡ level tree → found < least → nat_lt (level tree) least ≡ true
is_lower least tree found is lower = lt-ltb (level tree) least (subst (λ (k : ℕ). k < least) is lower)

in_brackets : (least : ℕ) (tree : Tree) (text : List ℕ) (found : ℕ) → found ≡ level tree → found < least → wrapped least tree text ≡ (codes "(" ++ text) ++ codes ")"
in_brackets least tree text found is lower = rw (is_lower least tree found is lower) refl

not_wrapped : (least : ℕ) (tree : Tree) (text : List ℕ) (found : ℕ) → found ≡ level tree → least ≤ found → wrapped least tree text ≡ text
not_wrapped least tree text found is enough = rw (le-ltb (level tree) least (subst (λ (k : ℕ). least ≤ k) is enough)) refl

cut_within : (least : ℕ) (tree : Tree) (text before after : List ℕ) → nat_lt (level tree) least ≡ true → IsCut before (codes "(" ++ text) after → IsCut before (wrapped least tree text) after
cut_within least tree text before after lower cut = rw lower (cut_before (codes ")") cut)

pub print_part-returns-in_err-print_behind-clause-err : goal.print_part-returns-in_err-print_behind-clause-err
print_part-returns-in_err-print_behind-clause-err t c =
    let tree = tree_of c.args.part.now in
    let text = expr_text c.args.schema.now (rule_of c.args.rule.now) tree in
    let lower = is_lower c.args.least tree _ c.level_of.ensures c.if-level_of-least.false in
    on_err c.from_residual.result (cut_within c.args.least tree text c.args.out.now c.print_behind.new.out lower c.in_err-print_behind.ensures.err)

-- ---- an expression by its variant, and calls of smaller ones

pub print_behind-print_expr-requires : goal.print_behind-print_expr-requires
print_behind-print_expr-requires t c = (behind_below _ _ c.decreases, c.requires)

pub print_binary-print_part-requires : goal.print_binary-print_part-requires
print_binary-print_part-requires t c = (left_below _ _ _ c.decreases, c.requires.left)

pub print_if-print_behind-requires : goal.print_if-print_behind-requires
print_if-print_behind-requires t c = (first_of_three _ _ _ _ c.decreases, c.requires.condition)

pub print_pair-print_behind-requires : goal.print_pair-print_behind-requires
print_pair-print_behind-requires t c = (first_of_two _ _ _ c.decreases, c.requires.x)

pub print_triple-print_behind-requires : goal.print_triple-print_behind-requires
print_triple-print_behind-requires t c = (first_of_three _ _ _ _ c.decreases, c.requires.first)

pub print_part-print_expr-requires : goal.print_part-print_expr-requires
print_part-print_expr-requires t c = (inner_below _ _ c.decreases, c.requires)

pub print_part-print_behind-requires : goal.print_part-print_behind-requires
print_part-print_behind-requires t c = (bracket_below _ _ c.decreases, c.requires)

pub print_unary-print_part-requires : goal.print_unary-print_part-requires
print_unary-print_part-requires t c = (operand_below _ _ c.decreases, c.requires)

pub print_behind-returns-in_err-put-clause-ok : goal.print_behind-returns-in_err-put-clause-ok
print_behind-returns-in_err-put-clause-ok t c = never_ok _ c.from_residual.result c.from_residual.ensures.0

pub print_binary-returns-in_err-put-clause-ok : goal.print_binary-returns-in_err-put-clause-ok
print_binary-returns-in_err-put-clause-ok t c = never_ok _ c.from_residual-in_err-put.result c.from_residual-in_err-put.ensures.0

pub print_unary-returns-in_err-put-clause-ok : goal.print_unary-returns-in_err-put-clause-ok
print_unary-returns-in_err-put-clause-ok t c = never_ok _ c.from_residual.result c.from_residual.ensures.0

pub print_expr-returns-in-Field-clause-ok : goal.print_expr-returns-in-Field-clause-ok
print_expr-returns-in-Field-clause-ok t c = rw c.in-Field.is c.print_field.ensures.ok

pub print_expr-returns-in-Field-clause-err : goal.print_expr-returns-in-Field-clause-err
print_expr-returns-in-Field-clause-err t c = rw c.in-Field.is c.print_field.ensures.err

pub print_expr-returns-in-Same-clause-ok : goal.print_expr-returns-in-Same-clause-ok
print_expr-returns-in-Same-clause-ok t c = rw c.in-Same.is c.print_same.ensures.ok

pub print_expr-returns-in-Same-clause-err : goal.print_expr-returns-in-Same-clause-err
print_expr-returns-in-Same-clause-err t c = rw c.in-Same.is c.print_same.ensures.err

pub print_expr-returns-in-Count-clause-ok : goal.print_expr-returns-in-Count-clause-ok
print_expr-returns-in-Count-clause-ok t c = rw c.in-Count.is c.print_count.ensures.ok

pub print_expr-returns-in-Count-clause-err : goal.print_expr-returns-in-Count-clause-err
print_expr-returns-in-Count-clause-err t c = rw c.in-Count.is c.print_count.ensures.err

pub print_expr-returns-in-Sum-clause-ok : goal.print_expr-returns-in-Sum-clause-ok
print_expr-returns-in-Sum-clause-ok t c = rw c.in-Sum.is c.print_collector.ensures.ok

pub print_expr-returns-in-Sum-clause-err : goal.print_expr-returns-in-Sum-clause-err
print_expr-returns-in-Sum-clause-err t c = rw c.in-Sum.is c.print_collector.ensures.err

pub print_expr-returns-in-Least-clause-ok : goal.print_expr-returns-in-Least-clause-ok
print_expr-returns-in-Least-clause-ok t c = rw c.in-Least.is c.print_collector-in-Least.ensures.ok

pub print_expr-returns-in-Least-clause-err : goal.print_expr-returns-in-Least-clause-err
print_expr-returns-in-Least-clause-err t c = rw c.in-Least.is c.print_collector-in-Least.ensures.err

pub print_expr-returns-in-Greatest-clause-ok : goal.print_expr-returns-in-Greatest-clause-ok
print_expr-returns-in-Greatest-clause-ok t c = rw c.in-Greatest.is c.print_collector-in-Greatest.ensures.ok

pub print_expr-returns-in-Greatest-clause-err : goal.print_expr-returns-in-Greatest-clause-err
print_expr-returns-in-Greatest-clause-err t c = rw c.in-Greatest.is c.print_collector-in-Greatest.ensures.err

pub print_expr-returns-in-Unary-clause-ok : goal.print_expr-returns-in-Unary-clause-ok
print_expr-returns-in-Unary-clause-ok t c = rw (c.in-Unary.is, ← c.deref.ensures) c.print_unary.ensures.ok

pub print_expr-returns-in-Unary-clause-err : goal.print_expr-returns-in-Unary-clause-err
print_expr-returns-in-Unary-clause-err t c = rw (c.in-Unary.is, ← c.deref.ensures) c.print_unary.ensures.err

pub print_expr-print_unary-requires : goal.print_expr-print_unary-requires
print_expr-print_unary-requires t c =
    let named = rw c.in-Unary.is at c.requires in
    (part_1 _ _ _ _ c.decreases (ap the_size c.in-Unary.is) (ap the_size c.deref.ensures), rw c.deref.ensures named)

pub print_expr-returns-in-Binary-clause-ok : goal.print_expr-returns-in-Binary-clause-ok
print_expr-returns-in-Binary-clause-ok t c = rw (c.in-Binary.is, ← c.deref-in-Binary.ensures, ← c.deref-in-Binary-2.ensures) c.print_binary.ensures.ok

pub print_expr-returns-in-Binary-clause-err : goal.print_expr-returns-in-Binary-clause-err
print_expr-returns-in-Binary-clause-err t c = rw (c.in-Binary.is, ← c.deref-in-Binary.ensures, ← c.deref-in-Binary-2.ensures) c.print_binary.ensures.err

pub print_expr-print_binary-requires : goal.print_expr-print_binary-requires
print_expr-print_binary-requires t c =
    let named = rw c.in-Binary.is at c.requires in
    (parts_2 _ _ _ _ _ _ c.decreases (ap the_size c.in-Binary.is) (ap the_size c.deref-in-Binary.ensures) (ap the_size c.deref-in-Binary-2.ensures), (rw c.deref-in-Binary.ensures named.0, rw c.deref-in-Binary-2.ensures named.1))

pub print_expr-returns-in-If-clause-ok : goal.print_expr-returns-in-If-clause-ok
print_expr-returns-in-If-clause-ok t c = rw (c.in-If.is, ← c.deref-in-If.ensures, ← c.deref-in-If-2.ensures, ← c.deref-in-If-3.ensures) c.print_if.ensures.ok

pub print_expr-returns-in-If-clause-err : goal.print_expr-returns-in-If-clause-err
print_expr-returns-in-If-clause-err t c = rw (c.in-If.is, ← c.deref-in-If.ensures, ← c.deref-in-If-2.ensures, ← c.deref-in-If-3.ensures) c.print_if.ensures.err

pub print_expr-returns-in-MakeVec2-clause-ok : goal.print_expr-returns-in-MakeVec2-clause-ok
print_expr-returns-in-MakeVec2-clause-ok t c = rw (c.in-MakeVec2.is, ← c.deref-in-MakeVec2.ensures, ← c.deref-in-MakeVec2-2.ensures) c.print_pair.ensures.ok

pub print_expr-returns-in-MakeVec2-clause-err : goal.print_expr-returns-in-MakeVec2-clause-err
print_expr-returns-in-MakeVec2-clause-err t c = rw (c.in-MakeVec2.is, ← c.deref-in-MakeVec2.ensures, ← c.deref-in-MakeVec2-2.ensures) c.print_pair.ensures.err

pub print_expr-print_pair-requires : goal.print_expr-print_pair-requires
print_expr-print_pair-requires t c =
    let named = rw c.in-MakeVec2.is at c.requires in
    (parts_2 _ _ _ _ _ _ c.decreases (ap the_size c.in-MakeVec2.is) (ap the_size c.deref-in-MakeVec2.ensures) (ap the_size c.deref-in-MakeVec2-2.ensures), (rw c.deref-in-MakeVec2.ensures named.0, rw c.deref-in-MakeVec2-2.ensures named.1))

pub print_expr-returns-in-MakeVec3-clause-ok : goal.print_expr-returns-in-MakeVec3-clause-ok
print_expr-returns-in-MakeVec3-clause-ok t c = rw (c.in-MakeVec3.is, ← c.deref-in-MakeVec3.ensures, ← c.deref-in-MakeVec3-2.ensures, ← c.deref-in-MakeVec3-3.ensures) c.print_triple.ensures.ok

pub print_expr-returns-in-MakeVec3-clause-err : goal.print_expr-returns-in-MakeVec3-clause-err
print_expr-returns-in-MakeVec3-clause-err t c = rw (c.in-MakeVec3.is, ← c.deref-in-MakeVec3.ensures, ← c.deref-in-MakeVec3-2.ensures, ← c.deref-in-MakeVec3-3.ensures) c.print_triple.ensures.err

pub print_expr-returns-in-MakeRgb-clause-ok : goal.print_expr-returns-in-MakeRgb-clause-ok
print_expr-returns-in-MakeRgb-clause-ok t c = rw (c.in-MakeRgb.is, ← c.deref-in-MakeRgb.ensures, ← c.deref-in-MakeRgb-2.ensures, ← c.deref-in-MakeRgb-3.ensures) c.print_triple-in-MakeRgb.ensures.ok

pub print_expr-returns-in-MakeRgb-clause-err : goal.print_expr-returns-in-MakeRgb-clause-err
print_expr-returns-in-MakeRgb-clause-err t c = rw (c.in-MakeRgb.is, ← c.deref-in-MakeRgb.ensures, ← c.deref-in-MakeRgb-2.ensures, ← c.deref-in-MakeRgb-3.ensures) c.print_triple-in-MakeRgb.ensures.err

pub print_unary-returns-in_err-print_part-clause-ok : goal.print_unary-returns-in_err-print_part-clause-ok
print_unary-returns-in_err-print_part-clause-ok t c = never_ok _ c.from_residual-in_err-print_part.result c.from_residual-in_err-print_part.ensures.0

pub print_binary-returns-in_err-print_part-clause-ok : goal.print_binary-returns-in_err-print_part-clause-ok
print_binary-returns-in_err-print_part-clause-ok t c = never_ok _ c.from_residual.result c.from_residual.ensures.0

pub print_if-returns-in_err-print_behind-clause-ok : goal.print_if-returns-in_err-print_behind-clause-ok
print_if-returns-in_err-print_behind-clause-ok t c = never_ok _ c.from_residual.result c.from_residual.ensures.0

pub print_if-returns-in_err-print_behind-2-clause-ok : goal.print_if-returns-in_err-print_behind-2-clause-ok
print_if-returns-in_err-print_behind-2-clause-ok t c = never_ok _ c.from_residual-in_err-print_behind-2.result c.from_residual-in_err-print_behind-2.ensures.0

pub print_pair-returns-in_err-print_behind-clause-ok : goal.print_pair-returns-in_err-print_behind-clause-ok
print_pair-returns-in_err-print_behind-clause-ok t c = never_ok _ c.from_residual.result c.from_residual.ensures.0

pub print_pair-returns-in_err-print_behind-2-clause-ok : goal.print_pair-returns-in_err-print_behind-2-clause-ok
print_pair-returns-in_err-print_behind-2-clause-ok t c = never_ok _ c.from_residual-in_err-print_behind-2.result c.from_residual-in_err-print_behind-2.ensures.0

pub print_triple-returns-in_err-print_behind-clause-ok : goal.print_triple-returns-in_err-print_behind-clause-ok
print_triple-returns-in_err-print_behind-clause-ok t c = never_ok _ c.from_residual.result c.from_residual.ensures.0

pub print_triple-returns-in_err-print_behind-2-clause-ok : goal.print_triple-returns-in_err-print_behind-2-clause-ok
print_triple-returns-in_err-print_behind-2-clause-ok t c = never_ok _ c.from_residual-in_err-print_behind-2.result c.from_residual-in_err-print_behind-2.ensures.0

pub print_triple-returns-in_err-print_behind-3-clause-ok : goal.print_triple-returns-in_err-print_behind-3-clause-ok
print_triple-returns-in_err-print_behind-3-clause-ok t c = never_ok _ c.from_residual-in_err-print_behind-3.result c.from_residual-in_err-print_behind-3.ensures.0

pub print_part-returns-in_err-print_behind-clause-ok : goal.print_part-returns-in_err-print_behind-clause-ok
print_part-returns-in_err-print_behind-clause-ok t c = never_ok _ c.from_residual.result c.from_residual.ensures.0

pub print_part-returns-then-level_of-least-clause-ok : goal.print_part-returns-then-level_of-least-clause-ok
print_part-returns-then-level_of-least-clause-ok t c =
    let tree = tree_of c.args.part.now in
    let text = expr_text c.args.schema.now (rule_of c.args.rule.now) tree in
    let all = not_wrapped c.args.least tree text _ c.level_of.ensures c.if-level_of-least.true in
    subst (λ (bytes : List ℕ). OnOk c.print_expr.result (c.print_expr.new.out ≡ c.args.out.now ++ bytes)) (sym all) c.print_expr.ensures.ok

pub print_part-returns-then-level_of-least-clause-err : goal.print_part-returns-then-level_of-least-clause-err
print_part-returns-then-level_of-least-clause-err t c =
    let tree = tree_of c.args.part.now in
    let text = expr_text c.args.schema.now (rule_of c.args.rule.now) tree in
    let all = not_wrapped c.args.least tree text _ c.level_of.ensures c.if-level_of-least.true in
    subst (λ (bytes : List ℕ). OnErr c.print_expr.result (IsCut c.args.out.now bytes c.print_expr.new.out)) (sym all) c.print_expr.ensures.err

pub print_part-returns-clause-ok : goal.print_part-returns-clause-ok
print_part-returns-clause-ok t c =
    let tree = tree_of c.args.part.now in
    let text = expr_text c.args.schema.now (rule_of c.args.rule.now) tree in
    let all = in_brackets c.args.least tree text _ c.level_of.ensures c.if-level_of-least.false in
    subst (λ (bytes : List ℕ). OnOk c.put.result (c.put.new.self ≡ c.args.out.now ++ bytes)) (sym all)
    (on_ok_weaker c.put.result (λ (more : c.put.new.self ≡ c.print_behind.new.out ++ codes ")"). written_behind c.args.out.now (codes "(" ++ text) (codes ")") c.in_ok-print_behind.ensures.ok more) c.put.ensures.ok)

pub print_part-returns-clause-err : goal.print_part-returns-clause-err
print_part-returns-clause-err t c =
    let tree = tree_of c.args.part.now in
    let text = expr_text c.args.schema.now (rule_of c.args.rule.now) tree in
    let all = in_brackets c.args.least tree text _ c.level_of.ensures c.if-level_of-least.false in
    subst (λ (bytes : List ℕ). OnErr c.put.result (IsCut c.args.out.now bytes c.put.new.self)) (sym all)
    (on_err_weaker c.put.result (λ (same : c.put.new.self ≡ c.print_behind.new.out). cut_behind c.args.out.now (codes "(" ++ text) c.in_ok-print_behind.ensures.ok (cut_at_once (codes ")") same)) c.put.ensures.err)

pub print_expr-print_if-requires : goal.print_expr-print_if-requires
print_expr-print_if-requires t c =
    let named = rw c.in-If.is at c.requires in
    (parts_3 _ _ _ _ _ _ _ _ c.decreases (ap the_size c.in-If.is) (ap the_size c.deref-in-If.ensures) (ap the_size c.deref-in-If-2.ensures) (ap the_size c.deref-in-If-3.ensures), (rw c.deref-in-If.ensures named.0, (rw c.deref-in-If-2.ensures named.1, rw c.deref-in-If-3.ensures named.2)))

pub print_expr-print_triple-requires : goal.print_expr-print_triple-requires
print_expr-print_triple-requires t c =
    let named = rw c.in-MakeVec3.is at c.requires in
    (parts_3 _ _ _ _ _ _ _ _ c.decreases (ap the_size c.in-MakeVec3.is) (ap the_size c.deref-in-MakeVec3.ensures) (ap the_size c.deref-in-MakeVec3-2.ensures) (ap the_size c.deref-in-MakeVec3-3.ensures), (rw c.deref-in-MakeVec3.ensures named.0, (rw c.deref-in-MakeVec3-2.ensures named.1, rw c.deref-in-MakeVec3-3.ensures named.2)))

pub print_expr-print_triple-requires-in-MakeRgb : goal.print_expr-print_triple-requires-in-MakeRgb
print_expr-print_triple-requires-in-MakeRgb t c =
    let named = rw c.in-MakeRgb.is at c.requires in
    (parts_3 _ _ _ _ _ _ _ _ c.decreases (ap the_size c.in-MakeRgb.is) (ap the_size c.deref-in-MakeRgb.ensures) (ap the_size c.deref-in-MakeRgb-2.ensures) (ap the_size c.deref-in-MakeRgb-3.ensures), (rw c.deref-in-MakeRgb.ensures named.0, (rw c.deref-in-MakeRgb-2.ensures named.1, rw c.deref-in-MakeRgb-3.ensures named.2)))

pub print_expr-returns-in-Int-clause-err : goal.print_expr-returns-in-Int-clause-err
print_expr-returns-in-Int-clause-err t c = on_err_weaker c.signed.result (λ (same : c.signed.new.self ≡ c.args.out.now). cut_at_once _ same) c.signed.ensures.err

pub print_expr-returns-in-Bool-clause-ok : goal.print_expr-returns-in-Bool-clause-ok
print_expr-returns-in-Bool-clause-ok t c = rw c.in-Bool.is (subst (λ (bytes : List ℕ). OnOk c.put.result (c.put.new.self ≡ c.args.out.now ++ bytes)) c.truth.ensures c.put.ensures.ok)

pub print_expr-returns-in-Bool-clause-err : goal.print_expr-returns-in-Bool-clause-err
print_expr-returns-in-Bool-clause-err t c = on_err_weaker c.put.result (λ (same : c.put.new.self ≡ c.args.out.now). cut_at_once _ same) c.put.ensures.err

pub print_expr-returns-in-Param-clause-ok : goal.print_expr-returns-in-Param-clause-ok
print_expr-returns-in-Param-clause-ok t c = rw c.in-Param.is (rw c.as_slice.ensures at c.print_param.ensures.ok)

pub print_expr-returns-in-Param-clause-err : goal.print_expr-returns-in-Param-clause-err
print_expr-returns-in-Param-clause-err t c = on_err_weaker c.print_param.result (λ (same : c.print_param.new.out ≡ c.args.out.now). cut_at_once _ same) c.print_param.ensures.err

pub print_expr-print_param-requires : goal.print_expr-print_param-requires
print_expr-print_param-requires t c = rw c.as_slice.ensures (rw c.in-Param.is at c.requires)

pub print_expr-print_field-requires : goal.print_expr-print_field-requires
print_expr-print_field-requires t c = rw c.in-Field.is at c.requires

pub print_expr-print_same-requires : goal.print_expr-print_same-requires
print_expr-print_same-requires t c = let named = rw c.in-Same.is at c.requires in record { left = named.0; right = named.1 }

pub print_expr-print_count-requires : goal.print_expr-print_count-requires
print_expr-print_count-requires t c = rw c.in-Count.is at c.requires

pub print_expr-print_collector-requires : goal.print_expr-print_collector-requires
print_expr-print_collector-requires t c = rw c.in-Sum.is at c.requires

pub print_expr-print_collector-requires-in-Least : goal.print_expr-print_collector-requires-in-Least
print_expr-print_collector-requires-in-Least t c = rw c.in-Least.is at c.requires

pub print_expr-print_collector-requires-in-Greatest : goal.print_expr-print_collector-requires-in-Greatest
print_expr-print_collector-requires-in-Greatest t c = rw c.in-Greatest.is at c.requires

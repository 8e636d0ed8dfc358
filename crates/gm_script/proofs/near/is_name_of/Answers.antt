use Rattle.std.proofs.Common.{◌≡◌, ℕ, zero, suc, ◌+◌, ◌-◌, List, [], ◌∷◌, take, drop, refl, sym, ap, ◌∙◌, arith}
use Rattle.std.proofs.lemmas.Bool.{false≢true}
use Rattle.gm_script.proofs.near.is_name_of.Goals as goal

fewer : (k : ℕ) (xs : List ℕ) → take k (take (suc k) xs) ≡ take k xs
fewer zero xs = refl
fewer (suc k) [] = refl
fewer (suc k) (x ∷ xs) = ap (λ (ys : List ℕ). x ∷ ys) (fewer k xs)

inner : (k : ℕ) (xs : List ℕ) → take k (drop 1 (take (suc (suc k)) xs)) ≡ take k (drop 1 xs)
inner k [] = refl
inner k (x ∷ xs) = fewer k xs

one_more : (s : ℕ) (xs : List ℕ) → drop 1 (drop s xs) ≡ drop (suc s) xs
one_more zero xs = refl
one_more (suc s) [] = refl
one_more (suc s) (x ∷ xs) = one_more s xs

-- what stands between the blanks
between : (bytes lead : List ℕ) (start end size : ℕ) → (start ≡ 0 → ⊥) → end - start + 2 ≡ size → take size (drop (start - 1) bytes) ≡ take size lead → take (end - start) (drop start bytes) ≡ take (size - 2) (drop 1 (take size lead))
between bytes lead zero end size some long same = absurd (some refl)
between bytes lead (suc s) end zero some long same = absurd (omega (arith, long))
between bytes lead (suc s) end (suc zero) some long same = absurd (omega (arith, long))
between bytes lead (suc s) end (suc (suc k)) some long same =
    let count : end - suc s ≡ k = omega (arith, long) in
    let before : suc s - 1 ≡ s = omega arith in
    let less : suc (suc k) - 2 ≡ k = omega arith in
    ap (λ (i : ℕ). take i (drop (suc s) bytes)) count
    ∙ ap (take k) (sym (one_more s bytes))
    ∙ sym (inner k (drop s bytes))
    ∙ ap (λ (i : ℕ). take k (drop 1 (take (suc (suc k)) (drop i bytes)))) (sym before)
    ∙ ap (λ (xs : List ℕ). take k (drop 1 xs)) same
    ∙ ap (λ (i : ℕ). take i (drop 1 (take (suc (suc k)) lead))) (sym less)

pub returns-then-start-eq0 : goal.returns-then-start-eq0
returns-then-start-eq0 c = λ is. absurd (false≢true is)

pub returns : goal.returns
returns c = λ is. between c.args.bytes.now c.args.lead.bytes c.args.token.start c.args.token.end c.args.lead.size c.if-start-eq0.false c.if-end-start.false (c.stands_at.ensures is)

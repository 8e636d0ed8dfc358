-- A text that is written part by part.
use Rattle.std.proofs.Common.{◌≡◌, ℕ, zero, suc, ◌+◌, ◌-◌, ◌<◌, ◌≤◌, List, [], ◌∷◌, ◌++◌, Result, length, take, drop, get_or, refl, sym, ap, ◌∙◌, append_assoc, append-nil, arith}
use Rattle.std.specs.Prelude.{OnOk, codes, decimal}
use Rattle.std.proofs.lemmas.List.{drop-drop, drop_more}
use Rattle.std.proofs.lemmas.Result.{on_ok_weaker}
use Rattle.gm_text.proofs.Cuts.{IsSoFar}
use Rattle.gm_cells.specs.CellsText.{listed}

pub four_parts : {T E : Type 0} (result : Result T E) (start one two three end a b c d b' d' : List ℕ) → b ≡ b' → d ≡ d' → one ≡ start ++ a → two ≡ one ++ b → three ≡ two ++ c
    → OnOk result (end ≡ three ++ d) → OnOk result (end ≡ start ++ (a ++ (b' ++ (c ++ d'))))
four_parts result start one two three end a b c d b' d' eb ed e1 e2 e3 h = on_ok_weaker result (λ e4.
    e4 ∙ ap (λ x. three ++ x) ed ∙ ap (λ x. x ++ d') (e3 ∙ ap (λ x. x ++ c) (e2 ∙ ap (λ x. one ++ x) eb ∙ ap (λ x. x ++ b') e1))
    ∙ append_assoc ((start ++ a) ++ b') c d' ∙ append_assoc (start ++ a) b' (c ++ d') ∙ append_assoc start a (b' ++ (c ++ d'))) h

pub two_parts : {T E : Type 0} (result : Result T E) (start one end a b : List ℕ) → one ≡ start ++ a → OnOk result (end ≡ one ++ b) → OnOk result (end ≡ start ++ (a ++ b))
two_parts result start one end a b e1 h = on_ok_weaker result (λ e2. e2 ∙ ap (λ x. x ++ b) e1 ∙ append_assoc start a b) h

pub three_parts : {T E : Type 0} (result : Result T E) (start one two end a b c : List ℕ) → one ≡ start ++ a → two ≡ one ++ b → OnOk result (end ≡ two ++ c) → OnOk result (end ≡ start ++ (a ++ (b ++ c)))
three_parts result start one two end a b c e1 e2 h = on_ok_weaker result (λ e3. e3 ∙ ap (λ x. x ++ c) (e2 ∙ ap (λ x. x ++ b) e1) ∙ append_assoc (start ++ a) b c ∙ append_assoc start a (b ++ c)) h

-- ---- numbers

none_left : (numbers : List ℕ) (k : ℕ) → length numbers ≤ k → listed (drop k numbers) ≡ []
none_left [] zero h = refl
none_left [] (suc k) h = refl
none_left (number ∷ numbers) zero h = absurd (omega arith)
none_left (number ∷ numbers) (suc k) h = none_left numbers k (omega (arith, h))

-- those that are taken, and those behind them
listed_taken : (numbers : List ℕ) (k : ℕ) → listed numbers ≡ listed (take k numbers) ++ listed (drop k numbers)
listed_taken [] zero = refl
listed_taken [] (suc k) = refl
listed_taken (number ∷ numbers) zero = refl
listed_taken (number ∷ numbers) (suc k) =
    ap (λ xs. (codes " " ++ decimal number) ++ xs) (listed_taken numbers k) ∙ sym (append_assoc (codes " " ++ decimal number) (listed (take k numbers)) (listed (drop k numbers)))

-- a part of those that are left, and those behind it
pub listed_part : (numbers : List ℕ) (from to : ℕ) → from ≤ to → listed (drop from numbers) ≡ listed (take (to - from) (drop from numbers)) ++ listed (drop to numbers)
listed_part numbers from to h =
    let end : from + (to - from) ≡ to = omega (arith, h) in
    listed_taken (drop from numbers) (to - from) ∙ ap (λ xs. listed (take (to - from) (drop from numbers)) ++ listed xs) (drop-drop (to - from) from numbers ∙ ap (λ k. drop k numbers) end)

-- one number more before those that are written
pub listed_before : (numbers : List ℕ) (left : ℕ) (old put : List ℕ) → 0 < left → left ≤ length numbers → put ≡ 32 ∷ (decimal (get_or numbers (left - 1) 0) ++ old) → old ≡ listed (drop left numbers) → put ≡ listed (drop (left - 1) numbers)
listed_before numbers left old put some few written before =
    let again : left - 1 + 1 ≡ left = omega (arith, some) in
    written ∙ ap (λ xs. 32 ∷ (decimal (get_or numbers (left - 1) 0) ++ xs)) before
    ∙ sym (ap listed (drop_more numbers (left - 1) 0 (omega (arith, some, few)) ∙ ap (λ k. get_or numbers (left - 1) 0 ∷ drop k numbers) again))

pub written_all : (before : List ℕ) (numbers : List ℕ) (k : ℕ) (after : List ℕ) → length numbers ≤ k → IsSoFar before (listed numbers) after (listed (drop k numbers)) → after ≡ before ++ listed numbers
written_all before numbers k after end so_far =
    so_far.after_is ∙ ap (λ x. before ++ x) (sym (so_far.text_is ∙ ap (λ rest. so_far.front ++ rest) (none_left numbers k end) ∙ append-nil so_far.front))

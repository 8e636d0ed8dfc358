-- The digits that are looked at in one are those with which a text goes on.
use Rattle.std.proofs.Common.{◌≡◌, ℕ, ◌+◌, ◌-◌, ◌*◌, ◌<◌, ◌≤◌, Bool, true, false, cond, List, [], ◌∷◌, map, length, take, drop, get_or, refl, sym, ap, ◌∙◌, subst, arith, Fits, w8}
use Rattle.std.specs.List.{prefix_len, take_while}
use Rattle.std.proofs.lemmas.Bool.{agree_below_at}
use Rattle.std.proofs.lemmas.List.{length-map, length-drop, get_or-map, get_or-drop, take-map, take-take}
use Rattle.std.proofs.lemmas.List.Folds.{length-prefix_len}
use Rattle.std.proofs.lemmas.List.Sums.{prefix_len_is, prefix_len_passes, prefix_len_stops, prefix_len-drop_yes, take_while-cons}
use Rattle.std.proofs.lemmas.Simd.{length-chunk, get_or-chunk}
use lib.Lanes.{chunk}
use Rattle.gm_model.specs.Symbols.{value_after, value_of}
use Rattle.gm_model.specs.Tokens.{is_digit}
use Rattle.gm_text.specs.inner.Digits.{digit_of, is_small, number_behind}
use Rattle.gm_text.proofs.Values.{digit_bounds}

-- digits have the value of the numbers that they are
value_of_run : (n : ℕ) (bytes : List ℕ) → value_after n (take_while is_digit bytes) ≡ number_behind n (map digit_of (take_while is_digit bytes))
value_of_run n [] = refl
value_of_run n (b ∷ bytes) = go (λ m. value_of_run m bytes) (is_digit b) refl
  where
    rest : List ℕ
    rest = take_while is_digit bytes

    go : ((m : ℕ) → value_after m rest ≡ number_behind m (map digit_of rest)) → (r : Bool) → is_digit b ≡ r → value_after n (take_while is_digit (b ∷ bytes)) ≡ number_behind n (map digit_of (take_while is_digit (b ∷ bytes)))
    go more true is =
        let bounds = digit_bounds b is in
        let here : take_while is_digit (b ∷ bytes) ≡ b ∷ rest = take_while-cons is_digit b bytes ∙ ap (λ r. cond r (b ∷ rest) []) is in
        let digit : b - 48 ≡ digit_of b = omega (arith, bounds.low, bounds.high) in
        subst (λ run. value_after n run ≡ number_behind n (map digit_of run)) (sym here) (ap (λ d. value_after (n * 10 + d) rest) digit ∙ more (n * 10 + digit_of b))
    go more false is =
        let here : take_while is_digit (b ∷ bytes) ≡ [] = take_while-cons is_digit b bytes ∙ ap (λ r. cond r (b ∷ rest) []) is in
        subst (λ run. value_after n run ≡ number_behind n (map digit_of run)) (sym here) refl

module _ (text : List ℕ) (start count : ℕ) (digits : List ℕ) (room : start + 16 ≤ length text) (fits : (k : ℕ) → Fits w8 (get_or text k 0))
    (lanes : digits ≡ map digit_of (chunk start 16 text)) (counted : count ≡ prefix_len is_small digits) (some : 0 < count) (few : count ≤ 8) where
  long : length digits ≡ 16
  long = ap (λ (xs : List ℕ). length xs) lanes ∙ (length-map (chunk start 16 text) digit_of ∙ length-chunk start 16 text room)

  -- a lane passes just where its byte is a digit
  lane : (k : ℕ) → k < 16 → is_small (get_or digits k 0) ≡ is_digit (get_or text (start + k) 0)
  lane k inside =
      let within : k < length (chunk start 16 text) = omega (arith, inside, length-chunk start 16 text room) in
      let byte : get_or digits k 0 ≡ digit_of (get_or text (start + k) 0) = ap (λ xs. get_or xs k 0) lanes ∙ (get_or-map digit_of (chunk start 16 text) k 0 0 within ∙ ap digit_of (get_or-chunk start 16 text k 0 inside)) in
      ap is_small byte ∙ agree_below_at (λ b. is_small (digit_of b)) is_digit 256 (get_or text (start + k) 0) refl (fits (start + k)).fits

  there : (k : ℕ) → k < 16 → is_digit (get_or (drop start text) k 0) ≡ is_small (get_or digits k 0)
  there k inside = ap is_digit (get_or-drop start text k 0) ∙ sym (lane k inside)

  run : prefix_len is_digit (drop start text) ≡ count
  run = prefix_len_is is_digit (drop start text) count 0 (omega (arith, length-drop start text, room, few))
      (λ k below. there k (omega (arith, below, few)) ∙ prefix_len_passes is_small digits k 0 (omega (arith, below, counted)))
      (λ _. there count (omega (arith, few)) ∙ (ap (λ k. is_small (get_or digits k 0)) counted ∙ prefix_len_stops is_small digits 0 (omega (arith, counted, few, long))))

  pub digit_at_start : is_digit (get_or text start 0) ≡ true
  digit_at_start = ap (λ k. is_digit (get_or text k 0)) (omega arith) ∙ (sym (lane 0 (omega arith)) ∙ prefix_len_passes is_small digits 0 0 (omega (arith, some, counted)))

  pub run_end : start + count ≡ start + 1 + length (take_while is_digit (drop (start + 1) text))
  run_end = omega (arith, run, prefix_len-drop_yes is_digit text start 0 (omega (arith, room)) digit_at_start, length-prefix_len is_digit (drop (start + 1) text))

  pub run_value : number_behind 0 (take count digits) ≡ value_of (take_while is_digit (drop start text))
  run_value =
      let front : take count digits ≡ map digit_of (take count (drop start text)) =
      ap (λ xs. take count xs) lanes ∙ (take-map digit_of count (chunk start 16 text) ∙ ap (map digit_of) (take-take count 16 (drop start text) (omega (arith, few)))) in
      ap (number_behind 0) (front ∙ ap (λ n. map digit_of (take n (drop start text))) (sym run)) ∙ sym (value_of_run 0 (drop start text))

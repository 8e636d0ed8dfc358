-- Eight digits in a word, and how digits go to its end.
use Rattle.std.proofs.Common.{◌≡◌, ℕ, zero, suc, true, leb, ◌+◌, ◌-◌, ◌*◌, ◌/◌, ◌%◌, ◌^◌, ◌<◌, ◌≤◌, List, [], ◌∷◌, ◌++◌, map, cond, length, take, drop, get_or, replicate, refl, sym, ap, ap₂, bit_and, ◌∙◌, subst, arith, Fits, w8}
use Rattle.std.specs.List.{prefix_len}
use Rattle.std.proofs.Math.Nat.{mul_assoc, pow-succ'}
use Rattle.std.proofs.lemmas.Nat.{shr_split, shr-shr, and_block, and_mask}
use Rattle.std.proofs.lemmas.Bool.{not-true, leb-false}
use Rattle.std.proofs.lemmas.List.{length-take-le, length-append, length-replicate, length-map, get_or-take, take-take, take-append-drop}
use Rattle.std.proofs.lemmas.List.Sums.{prefix_len_passes}
use Rattle.std.proofs.lemmas.Simd.{Each1-from_get_or, Each1-weaker, Each1-chunk, bytes_below, zip2_splat_left, tops_compared, mask_l-mod}
use lib.Lanes.{Each1, number_l, mask_l, top, zip2}
use Rattle.gm_text.specs.inner.Digits.{is_small, number_behind, HasDigits}

-- ---- the number of eight digits

abbrev pub pairs : ℕ → ℕ
pairs word = word * 10 + word / 256

record IsPair (e f rest : ℕ) : Type 0 where
  pair : pairs (e + 256 * (f + 256 * rest)) % 256 ≡ e * 10 + f
  next : pairs (e + 256 * (f + 256 * rest)) / 65536 ≡ pairs rest

first_pair : (e f rest : ℕ) → e ≤ 9 → f ≤ 9 → rest % 256 ≤ 9 → IsPair e f rest
first_pair e f rest e9 f9 r9 =
    let word = e + 256 * (f + 256 * rest) in
    let behind : word / 256 ≡ f + 256 * rest = omega (arith, e9) in
    let whole : pairs word ≡ (e * 10 + f) + 256 * (f * 10 + rest % 256) + 65536 * pairs rest = omega (arith, behind) in
    record {
      pair = omega (arith, whole, e9, f9);
      next = omega (arith, whole, e9, f9, r9);
    }

-- the lowest byte of each half
lowest : (n : ℕ) → bit_and n 1095216660735 ≡ n / 4294967296 % 256 * 4294967296 + n % 256
lowest n =
    let below : n % 4294967296 < 2 ^ 32 = omega arith in
    let within : n % 4294967296 % 256 ≡ n % 256 = omega arith in
    ap (λ m. bit_and m 1095216660735) (sym (shr_split n 32))
    ∙ (and_block 32 (n / 4294967296) 255 (n % 4294967296) 255 below (omega arith)
    ∙ (ap₂ (λ high low. high * 4294967296 + low) (and_mask (n / 4294967296) 8) (and_mask (n % 4294967296) 8) ∙ ap (λ low. n / 4294967296 % 256 * 4294967296 + low) within))

-- four numbers of two digits, multiplied two at once
hundreds : (x y z w : ℕ) → x ≤ 99 → y ≤ 99 → z ≤ 99 → w ≤ 99
    → (((z * 4294967296 + x) * 4294967296000100 % 2 ^ 64 + (w * 4294967296 + y) * 42949672960001 % 2 ^ 64) % 2 ^ 64) / 4294967296 ≡ ((x * 100 + y) * 100 + z) * 100 + w
hundreds x y z w x99 y99 z99 w99 =
    let outer : (z * 4294967296 + x) * 4294967296000100 % 2 ^ 64 ≡ x * 100 + 4294967296 * (z * 100 + x * 1000000) = omega (arith, x99, z99) in
    let inner : (w * 4294967296 + y) * 42949672960001 % 2 ^ 64 ≡ y + 4294967296 * (w + y * 10000) = omega (arith, y99, w99) in
    omega (arith, outer, inner, x99, y99, z99, w99)

pub number_of_word : (word : ℕ) (digits : List ℕ) → HasDigits word digits
    → (((bit_and (pairs word) 1095216660735 * 4294967296000100) % 2 ^ 64 + (bit_and (pairs word / 65536) 1095216660735 * 42949672960001) % 2 ^ 64) % 2 ^ 64 / 4294967296 ≡ number_behind 0 digits) × (word * 10 + word / 256 < 2 ^ 64)
number_of_word word (a ∷ b ∷ c ∷ d ∷ e ∷ f ∷ g ∷ h ∷ []) has =
    let a9 = has.small.0 in
    let b9 = has.small.1.0 in
    let c9 = has.small.1.1.0 in
    let d9 = has.small.1.1.1.0 in
    let e9 = has.small.1.1.1.1.0 in
    let f9 = has.small.1.1.1.1.1.0 in
    let g9 = has.small.1.1.1.1.1.1.0 in
    let h9 = has.small.1.1.1.1.1.1.1.0 in
    let fourth = g + 256 * (h + 256 * 0) in
    let third = e + 256 * (f + 256 * fourth) in
    let second = c + 256 * (d + 256 * third) in
    let one = first_pair a b second a9 b9 (omega (arith, c9)) in
    let two = first_pair c d third c9 d9 (omega (arith, e9)) in
    let three = first_pair e f fourth e9 f9 (omega (arith, g9)) in
    let four = first_pair g h 0 g9 h9 (omega arith) in
    let word_is : word ≡ a + 256 * (b + 256 * second) = has.word_is in
    let at_second : pairs word / 65536 ≡ pairs second = ap (λ w. pairs w / 65536) word_is ∙ one.next in
    let at_third : pairs word / 65536 / 65536 ≡ pairs third = ap (λ p. p / 65536) at_second ∙ two.next in
    let at_fourth : pairs word / 65536 / 65536 / 65536 ≡ pairs fourth = ap (λ p. p / 65536) at_third ∙ three.next in
    let p1 : pairs word % 256 ≡ a * 10 + b = ap (λ w. pairs w % 256) word_is ∙ one.pair in
    let p2 : pairs word / 65536 % 256 ≡ c * 10 + d = ap (λ p. p % 256) at_second ∙ two.pair in
    let half : pairs word / 4294967296 ≡ pairs word / 65536 / 65536 = sym (shr-shr (pairs word) 16 16) in
    let last : pairs word / 65536 / 4294967296 ≡ pairs word / 65536 / 65536 / 65536 = sym (shr-shr (pairs word / 65536) 16 16) in
    let p3 : pairs word / 4294967296 % 256 ≡ e * 10 + f = ap (λ p. p % 256) (half ∙ at_third) ∙ three.pair in
    let p4 : pairs word / 65536 / 4294967296 % 256 ≡ g * 10 + h = ap (λ p. p % 256) (last ∙ at_fourth) ∙ four.pair in
    let outer : bit_and (pairs word) 1095216660735 ≡ (e * 10 + f) * 4294967296 + (a * 10 + b) = lowest (pairs word) ∙ ap₂ (λ high low. high * 4294967296 + low) p3 p1 in
    let inner : bit_and (pairs word / 65536) 1095216660735 ≡ (g * 10 + h) * 4294967296 + (c * 10 + d) = lowest (pairs word / 65536) ∙ ap₂ (λ high low. high * 4294967296 + low) p4 p2 in
    let sums = hundreds (a * 10 + b) (c * 10 + d) (e * 10 + f) (g * 10 + h) (omega (arith, a9, b9)) (omega (arith, c9, d9)) (omega (arith, e9, f9)) (omega (arith, g9, h9)) in (
      ap₂ (λ x y. (x * 4294967296000100 % 2 ^ 64 + y * 42949672960001 % 2 ^ 64) % 2 ^ 64 / 4294967296) outer inner ∙ (sums ∙ omega arith),
      omega (arith, word_is, a9, b9, c9, d9, e9, f9, g9, h9),
    )
number_of_word word digits has = absurd (omega (arith, has.eight))

-- ---- digits at the end of a word

number_l-append : (xs ys : List ℕ) → number_l 256 (xs ++ ys) ≡ number_l 256 xs + 256 ^ length xs * number_l 256 ys
number_l-append [] ys = omega arith
number_l-append (x ∷ xs) ys =
    let more = number_l-append xs ys in
    let power : 256 ^ suc (length xs) * number_l 256 ys ≡ 256 * (256 ^ length xs * number_l 256 ys) = ap (λ p. p * number_l 256 ys) (pow-succ' 256 (length xs)) ∙ mul_assoc 256 (256 ^ length xs) (number_l 256 ys) in
    omega (arith, more, power)

number_l-below : (xs : List ℕ) → Each1 (λ x. x ≤ 255) xs → number_l 256 xs < 256 ^ length xs
number_l-below [] small = omega arith
number_l-below (x ∷ xs) small = omega (arith, small.0, number_l-below xs small.1, pow-succ' 256 (length xs))

number_l-zeros : (n : ℕ) (xs : List ℕ) → number_l 256 (replicate n 0 ++ xs) ≡ 256 ^ n * number_l 256 xs
number_l-zeros zero xs = omega arith
number_l-zeros (suc n) xs =
    let power : 256 ^ suc n * number_l 256 xs ≡ 256 * (256 ^ n * number_l 256 xs) = ap (λ p. p * number_l 256 xs) (pow-succ' 256 n) ∙ mul_assoc 256 (256 ^ n) (number_l 256 xs) in
    omega (arith, number_l-zeros n xs, power)

number_behind-zeros : (n : ℕ) (xs : List ℕ) → number_behind 0 (replicate n 0 ++ xs) ≡ number_behind 0 xs
number_behind-zeros zero xs = refl
number_behind-zeros (suc n) xs = number_behind-zeros n xs

zeros-small : (n : ℕ) (xs : List ℕ) → Each1 (λ x. x ≤ 9) xs → Each1 (λ x. x ≤ 9) (replicate n 0 ++ xs)
zeros-small zero xs small = small
zeros-small (suc n) xs small = (omega arith, zeros-small n xs small)

shifted : (count word low high : ℕ) → 0 < count → count ≤ 8 → word ≡ low + 256 ^ count * high → low < 256 ^ count
    → (word * 2 ^ (64 - 8 * count)) % 2 ^ 64 ≡ 256 ^ (8 - count) * low
shifted zero word low high some few split small = absurd (omega (arith, some))
shifted (suc zero) word low high some few split small = omega (arith, split, small)
shifted (suc (suc zero)) word low high some few split small = omega (arith, split, small)
shifted (suc (suc (suc zero))) word low high some few split small = omega (arith, split, small)
shifted (suc (suc (suc (suc zero)))) word low high some few split small = omega (arith, split, small)
shifted (suc (suc (suc (suc (suc zero))))) word low high some few split small = omega (arith, split, small)
shifted (suc (suc (suc (suc (suc (suc zero)))))) word low high some few split small = omega (arith, split, small)
shifted (suc (suc (suc (suc (suc (suc (suc zero))))))) word low high some few split small = omega (arith, split, small)
shifted (suc (suc (suc (suc (suc (suc (suc (suc zero)))))))) word low high some few split small = omega (arith, split, small)
shifted (suc (suc (suc (suc (suc (suc (suc (suc (suc more))))))))) word low high some few split small = absurd (omega (arith, few))

is_small-le : (digit : ℕ) → is_small digit ≡ true → digit ≤ 9
is_small-le digit h = omega (arith, leb-false 10 digit (not-true _ h))

front_small : (digits : List ℕ) (count : ℕ) → length digits ≡ 16 → count ≤ 8 → count ≤ prefix_len is_small digits → Each1 (λ digit. digit ≤ 9) (take count digits)
front_small digits count long few within =
    let wide : length (take count digits) ≡ count = length-take-le count digits (omega (arith, long, few)) in
    Each1-from_get_or (λ digit. digit ≤ 9) (take count digits) 0 (λ i inside.
    let below : i < count = omega (arith, inside, wide) in
    subst (λ digit. digit ≤ 9) (sym (get_or-take count digits i 0 below)) (is_small-le (get_or digits i 0) (prefix_len_passes is_small digits i 0 (omega (arith, below, within)))))

-- the first digits at the end of the word, behind zeros
pub at_end : (digits : List ℕ) (count word : ℕ) → length digits ≡ 16 → 0 < count → count ≤ 8 → count ≤ prefix_len is_small digits → word ≡ number_l 256 (take 8 digits)
    → HasDigits ((word * 2 ^ (64 - 8 * count)) % 2 ^ 64) (replicate (8 - count) 0 ++ take count digits)
at_end digits count word long some few within word_is =
    let front = take count digits in
    let eight = take 8 digits in
    let rest = drop count eight in
    let small = front_small digits count long few within in
    let wide : length front ≡ count = length-take-le count digits (omega (arith, long, few)) in
    let split : front ++ rest ≡ eight = ap (λ xs. xs ++ rest) (sym (take-take count 8 digits few)) ∙ take-append-drop count eight in
    let parts : word ≡ number_l 256 front + 256 ^ count * number_l 256 rest =
    word_is ∙ (ap (number_l 256) (sym split) ∙ (number_l-append front rest ∙ ap (λ n. number_l 256 front + 256 ^ n * number_l 256 rest) wide)) in
    let below : number_l 256 front < 256 ^ count = subst (λ n. number_l 256 front < 256 ^ n) wide (number_l-below front (Each1-weaker (λ x. x ≤ 9) (λ x. x ≤ 255) (λ x h. omega (arith, h)) front small)) in
    record {
      eight = length-append (replicate (8 - count) 0) front ∙ omega (arith, length-replicate {A = ℕ} (8 - count) 0, wide, few);
      small = zeros-small (8 - count) front small;
      word_is = shifted count word (number_l 256 front) (number_l 256 rest) some few parts below ∙ sym (number_l-zeros (8 - count) front);
    }

pub number_at_end : (digits : List ℕ) (count : ℕ) → number_behind 0 (replicate (8 - count) 0 ++ take count digits) ≡ number_behind 0 (take count digits)
number_at_end digits count = number_behind-zeros (8 - count) (take count digits)

-- the first eight bytes make a word
pub word_fits : (digits : List ℕ) → length digits ≡ 16 → Each1 (Fits w8) digits → number_l 256 (take 8 digits) % 2 ^ 64 ≡ number_l 256 (take 8 digits)
word_fits digits long fits =
    let below = number_l-below (take 8 digits) (bytes_below (take 8 digits) (Each1-chunk (Fits w8) 0 8 digits fits)) in
    let wide : length (take 8 digits) ≡ 8 = length-take-le 8 digits (omega (arith, long)) in
    let bound : number_l 256 (take 8 digits) < 256 ^ 8 = subst (λ n. number_l 256 (take 8 digits) < 256 ^ n) wide below in
    omega (arith, bound)

-- the mask of what is no digit
pub others_mask : (digits : List ℕ) → length digits ≡ 16 → mask_l (map (top 7) (zip2 (λ a b. cond (leb a b) 255 0) (replicate 16 10) digits)) % 2 ^ 64 ≡ mask_l (map (leb 10) digits)
others_mask digits long =
    ap (λ bits. mask_l bits % 2 ^ 64) (tops_compared w8 leb (replicate 16 10) digits ∙ zip2_splat_left leb 10 16 digits long)
    ∙ mask_l-mod (map (leb 10) digits) 64 (omega (arith, length-map digits (leb 10), long))

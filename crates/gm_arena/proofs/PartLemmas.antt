-- A list as parts of one length: how many they are, and what is left behind some of them.
use Rattle.std.proofs.Common.{◌≡◌, ℕ, suc, ◌+◌, ◌*◌, ◌/◌, ◌<◌, ◌≤◌, Fits, w64, List, ◌++◌, length, drop, ap, ◌∙◌, arith}
use Rattle.std.proofs.Math.Nat.{add-div_left, mul-le-mul_right}
use Rattle.std.proofs.lemmas.Nat.{mul-le}
use Rattle.std.proofs.lemmas.List.{length-append, drop-drop}
use Rattle.gm_arena.specs.inner.Inside.{no_slot}

-- with a part in front they are one more
pub parts_more : {A : Type 0} (width : ℕ) (part rest : List A) → 0 < width → length part ≡ width → length (part ++ rest) / width ≡ suc (length rest / width)
parts_more width part rest some long =
    ap (λ k. k / width) (length-append part rest ∙ ap (λ k. k + length rest) long)
    ∙ (add-div_left (length rest) {k = width} some ∙ omega arith)

-- behind so many and then one
pub drop_one_more : {A : Type 0} (width parts : ℕ) (all : List A) → drop width (drop (parts * width) all) ≡ drop (suc parts * width) all
drop_one_more width parts all = drop-drop width (parts * width) all ∙ ap (λ k. drop k all) (omega arith)

-- behind one and then so many
pub drop_one_before : {A : Type 0} (width parts : ℕ) (all : List A) → drop (parts * width) (drop width all) ≡ drop (suc parts * width) all
drop_one_before width parts all = drop-drop (parts * width) width all ∙ ap (λ k. drop k all) (omega arith)

-- as many slots as a slot has numbers for, with so few of something for each, fit a word
pub parts_fit : (slots width : ℕ) → slots ≤ no_slot → width ≤ 8 → Fits w64 (slots * width)
parts_fit slots width few narrow = omega (arith, mul-le slots width no_slot 8 few narrow)

-- there is room for the parts of fewer slots
pub parts_of_fewer : (count slots width room : ℕ) → count ≤ slots → slots * width ≤ room → count * width ≤ room
parts_of_fewer count slots width room fewer parts = omega (arith, mul-le-mul_right width fewer)

-- Which symbols are seen as what.
use Rattle.std.proofs.Common.{◌≡◌, ℕ, ◌^◌, ◌-◌, min, true, false, List, refl, ap, codes}
use Rattle.std.proofs.lemmas.Bool.{cond_both}
use Rattle.std.proofs.lemmas.Slice.Eq.{bytes_eq-Decides}
use Rattle.std.specs.Str.{bytes_eq}
use Rattle.gm_model.specs.Names.{reserved, is_among}
use Rattle.gm_model.specs.Symbols.{Symbol, Word, Numeral, Sign, Gone, Stray, End}
use Rattle.gm_script.specs.inner.Reading.{head_word, sight_of, sight_of_word, sight_of_rarer_word, sight_of_sign}
use Rattle.gm_script.specs.declared.sight.Head.{Head}
use Rattle.gm_script.specs.declared.sight.Head.TheVariants as heads
use Rattle.gm_script.specs.declared.sight.Sight.{Sight}
use Rattle.gm_script.specs.declared.sight.Sight.TheVariants as sights

-- the symbol that is seen so, where it is one that scripts have
pub data Seen (symbol : Symbol) : Sight → Type 0 where
  AsHead : (head : Head) → symbol ≡ Word (head_word head) → Seen symbol (sights.Begins head)
  AsWith : symbol ≡ Word (codes "with") → Seen symbol sights.With
  AsTrue : symbol ≡ Word (codes "true") → Seen symbol (sights.Truth true)
  AsFalse : symbol ≡ Word (codes "false") → Seen symbol (sights.Truth false)
  AsName : (bytes : List ℕ) → symbol ≡ Word bytes → is_among reserved bytes ≡ false → Seen symbol sights.Name
  AsNumber : (n : ℕ) → symbol ≡ Numeral n → Seen symbol (sights.Number (min n (2 ^ 64 - 1)))
  AsMinus : symbol ≡ Sign (codes "-") → Seen symbol sights.Minus
  AsOpen : symbol ≡ Sign (codes "(") → Seen symbol sights.Open
  AsClose : symbol ≡ Sign (codes ")") → Seen symbol sights.Close
  AsLess : symbol ≡ Sign (codes "<") → Seen symbol sights.Less
  AsGreater : symbol ≡ Sign (codes ">") → Seen symbol sights.Greater
  AsOther : Seen symbol sights.Other

word_is : (bytes other : List ℕ) → bytes_eq bytes other ≡ true → Word bytes ≡ Word other
word_is bytes other h = ap Word ((bytes_eq-Decides bytes other).0 h)

sign_is : (bytes other : List ℕ) → bytes_eq bytes other ≡ true → Sign bytes ≡ Sign other
sign_is bytes other h = ap Sign ((bytes_eq-Decides bytes other).0 h)

seen_rarer_word : (bytes : List ℕ) → Seen (Word bytes) (sight_of_rarer_word bytes)
seen_rarer_word bytes =
    let P : Sight → Type 0 = Seen (Word bytes) in
    cond_both (bytes_eq bytes (codes "each")) _ _ P (λ h. AsHead heads.Each (word_is bytes (codes "each") h)) (λ _.
    cond_both (bytes_eq bytes (codes "undo")) _ _ P (λ h. AsHead heads.Undo (word_is bytes (codes "undo") h)) (λ _.
    cond_both (bytes_eq bytes (codes "redo")) _ _ P (λ h. AsHead heads.Redo (word_is bytes (codes "redo") h)) (λ _.
    cond_both (bytes_eq bytes (codes "group")) _ _ P (λ h. AsHead heads.Group (word_is bytes (codes "group") h)) (λ _.
    cond_both (bytes_eq bytes (codes "end")) _ _ P (λ h. AsHead heads.End (word_is bytes (codes "end") h)) (λ _.
    cond_both (bytes_eq bytes (codes "true")) _ _ P (λ h. AsTrue (word_is bytes (codes "true") h)) (λ _.
    cond_both (bytes_eq bytes (codes "false")) _ _ P (λ h. AsFalse (word_is bytes (codes "false") h)) (λ _.
    cond_both (is_among reserved bytes) _ _ P (λ _. AsOther) (λ h. AsName bytes refl h))))))))

seen_word : (bytes : List ℕ) → Seen (Word bytes) (sight_of_word bytes)
seen_word bytes =
    let P : Sight → Type 0 = Seen (Word bytes) in
    cond_both (bytes_eq bytes (codes "apply")) _ _ P (λ h. AsHead heads.Apply (word_is bytes (codes "apply") h)) (λ _.
    cond_both (bytes_eq bytes (codes "with")) _ _ P (λ h. AsWith (word_is bytes (codes "with") h)) (λ _. seen_rarer_word bytes))

seen_sign : (bytes : List ℕ) → Seen (Sign bytes) (sight_of_sign bytes)
seen_sign bytes =
    let P : Sight → Type 0 = Seen (Sign bytes) in
    cond_both (bytes_eq bytes (codes "-")) _ _ P (λ h. AsMinus (sign_is bytes (codes "-") h)) (λ _.
    cond_both (bytes_eq bytes (codes "(")) _ _ P (λ h. AsOpen (sign_is bytes (codes "(") h)) (λ _.
    cond_both (bytes_eq bytes (codes ")")) _ _ P (λ h. AsClose (sign_is bytes (codes ")") h)) (λ _.
    cond_both (bytes_eq bytes (codes "<")) _ _ P (λ h. AsLess (sign_is bytes (codes "<") h)) (λ _.
    cond_both (bytes_eq bytes (codes ">")) _ _ P (λ h. AsGreater (sign_is bytes (codes ">") h)) (λ _. AsOther)))))

pub seen : (symbol : Symbol) → Seen symbol (sight_of symbol)
seen (Word bytes) = seen_word bytes
seen (Numeral n) = AsNumber n refl
seen (Sign bytes) = seen_sign bytes
seen Gone = AsOther
seen Stray = AsOther
seen End = AsOther

-- What the reader tests is what the symbol passes in its role.
use Rattle.std.proofs.Common.{◌≡◌, ℕ, ◌+◌, ◌-◌, ◌^◌, ◌<◌, ◌≤◌, min, Bool, true, false, cond, List, length, Option, Some, None, refl, subst, inl, inr, arith}
use Rattle.std.specs.Prelude.{nat_le, nat_lt}
use Rattle.std.proofs.lemmas.Bool.{cases_lt}
use Rattle.std.proofs.lemmas.Bool.Decides.{nat_tests}
use Rattle.gm_model.specs.declared.limit.LimitKind.{LimitKind}
use Rattle.gm_model.specs.declared.limit.LimitKind.TheVariants as limits
use Rattle.gm_model.specs.declared.word.Mask.{Mask}
use Rattle.gm_model.specs.Labels.{has}
use Rattle.gm_model.specs.Symbols.{Symbol, Word, Numeral}
use Rattle.gm_text.specs.SchemaText.{LimitOf, Again, passed_by}
use Rattle.gm_text.specs.ValueText.{greatest}
use Rattle.gm_script.specs.ScriptText.{LabelBehind, passed_of}
use Rattle.gm_script.specs.inner.Reading.{Been, head_word, passed_in, label_passes, next_spot, next_word, next_head, sight_of, role_in}
use Rattle.gm_script.specs.declared.sight.Head.{Head}
use Rattle.gm_script.specs.declared.sight.Sight.{Sight}
use Rattle.gm_script.specs.declared.sight.Sight.TheVariants as sights
use Rattle.gm_script.specs.declared.spot.Spot.{Spot}
use Rattle.gm_script.specs.declared.spot.Spot.TheVariants as spots
use Rattle.gm_script.proofs.Sights.{Seen, AsHead, AsWith, AsTrue, AsFalse, AsName, AsNumber, AsMinus, AsOpen, AsClose, AsLess, AsGreater, AsOther, seen}
use Rattle.gm_script.proofs.Steps.{none_other}

-- the greatest u64 stands for what is greater
le_least : (c n : ℕ) → c ≤ 2 ^ 64 - 1 → nat_le c n ≡ nat_le c (min n (2 ^ 64 - 1))
le_least c n h = grind (arith, nat_tests)

lt_least : (c n : ℕ) → c < 2 ^ 64 - 1 → nat_lt c n ≡ nat_lt c (min n (2 ^ 64 - 1))
lt_least c n h = grind (arith, nat_tests)

-- a limit alone
alone : (c : Bool) (what : LimitKind) → passed_by (cond c (Some what) None) false ≡ cond c (Some (LimitOf what)) None
alone true what = refl
alone false what = refl

-- a limit, or a second mention
either : (c again : Bool) (what : LimitKind) → passed_by (cond c (Some what) None) again ≡ cond c (Some (LimitOf what)) (cond again (Some Again) None)
either true again what = refl
either false true what = refl
either false false what = refl

-- labels go up to a number that is not great
module _ (n : ℕ) (low : n ≤ 7) where
  -- where a spot follows, what is tested and what is passed are the same
  abbrev Same : Spot → Been → Sight → ℕ → Symbol → ℕ → Option Spot → Type 0
  Same spot been sight place symbol size None = Unit {0}
  Same spot been sight place symbol size (Some to) = passed_of (role_in n spot been sight place) symbol ≡ passed_in n spot been sight size

  same_always : (spot : Spot) (been : Been) (sight : Sight) (place : ℕ) (symbol : Symbol) (size : ℕ) (to : Option Spot) → passed_of (role_in n spot been sight place) symbol ≡ passed_in n spot been sight size
      → Same spot been sight place symbol size to
  same_always spot been sight place symbol size None e = tt
  same_always spot been sight place symbol size (Some to) e = e

  named : (bytes : List ℕ) (size : ℕ) → length bytes ≡ size → passed_by (cond (nat_lt 32 (length bytes)) (Some limits.Name) None) false ≡ cond (nat_lt 32 size) (Some (LimitOf limits.Name)) None
  named bytes size e = rw e (alone (nat_lt 32 size) limits.Name)

  on_head : (spot : Spot) (been : Been) (head : Head) (place size : ℕ) → length (head_word head) ≡ size → Same spot been (sights.Begins head) place (Word (head_word head)) size (next_word been.within spot head)
  on_head spots.Start been head place size e = same_always spots.Start been (sights.Begins head) place (Word (head_word head)) size (next_head been.within head) (alone (nat_lt 100000 (been.begun + 1)) limits.Lines)
  on_head spots.Bare been head place size e = same_always spots.Bare been (sights.Begins head) place (Word (head_word head)) size (next_head been.within head) (alone (nat_lt 100000 (been.begun + 1)) limits.Lines)
  on_head spots.Rule been head place size e = same_always spots.Rule been (sights.Begins head) place (Word (head_word head)) size (next_head been.within head) (alone (nat_lt 100000 (been.begun + 1)) limits.Lines)
  on_head spots.Named been head place size e = same_always spots.Named been (sights.Begins head) place (Word (head_word head)) size (next_head been.within head) (alone (nat_lt 100000 (been.begun + 1)) limits.Lines)
  on_head spots.Value been head place size e = same_always spots.Value been (sights.Begins head) place (Word (head_word head)) size (next_head been.within head) (alone (nat_lt 100000 (been.begun + 1)) limits.Lines)
  on_head spots.Apply been head place size e = named (head_word head) size e
  on_head spots.Over been head place size e = named (head_word head) size e
  on_head _ been head place size e = tt

  on_name : (spot : Spot) (been : Been) (place size : ℕ) (bytes : List ℕ) → length bytes ≡ size → Same spot been sights.Name place (Word bytes) size (next_spot been.within spot sights.Name)
  on_name spots.Apply been place size bytes e = named bytes size e
  on_name spots.Over been place size bytes e = named bytes size e
  on_name _ been place size bytes e = tt

  label_same : (labels : Mask) (m : ℕ) → passed_of (LabelBehind n labels) (Numeral m) ≡ label_passes n labels (min m (2 ^ 64 - 1))
  label_same labels m = elim (cases_lt m (2 ^ 64)) [
    | inl less ↦ (let same : min m (2 ^ 64 - 1) ≡ m = omega arith in rw same (either (nat_lt n m) (has labels m) limits.Label))
    | inr more ↦ (
        let one : nat_lt n m ≡ true = grind (arith, nat_tests) in
        let two : nat_lt n (min m (2 ^ 64 - 1)) ≡ true = grind (arith, nat_tests) in
        rw (one, two) refl)
  ]

  on_number : (spot : Spot) (been : Been) (place size m : ℕ) → Same spot been (sights.Number (min m (2 ^ 64 - 1))) place (Numeral m) size (next_spot been.within spot (sights.Number (min m (2 ^ 64 - 1))))
  on_number spots.Start been place size m = tt
  on_number spots.Bare been place size m = tt
  on_number spots.Apply been place size m = tt
  on_number spots.Each been place size m = tt
  on_number spots.Over been place size m = tt
  on_number spots.Named been place size m = tt
  on_number spots.Rule been place size m = rw (le_least 16777216 m (omega arith)) (alone (nat_le 16777216 (min m (2 ^ 64 - 1))) limits.DartName)
  on_number spots.Orbit been place size m = label_same been.labels m
  on_number spots.Minus been place size m = rw (lt_least (greatest true) m (omega arith)) (alone (nat_lt (greatest true) (min m (2 ^ 64 - 1))) limits.Integer)
  on_number spots.OpenMinus been place size m = rw (lt_least (greatest true) m (omega arith)) (alone (nat_lt (greatest true) (min m (2 ^ 64 - 1))) limits.Integer)
  on_number spots.FirstMinus been place size m = rw (lt_least (greatest true) m (omega arith)) (alone (nat_lt (greatest true) (min m (2 ^ 64 - 1))) limits.Integer)
  on_number spots.SecondMinus been place size m = rw (lt_least (greatest true) m (omega arith)) (alone (nat_lt (greatest true) (min m (2 ^ 64 - 1))) limits.Integer)
  on_number spots.Third been place size m = tt
  on_number _ been place size m = rw (lt_least (greatest false) m (omega arith)) (alone (nat_lt (greatest false) (min m (2 ^ 64 - 1))) limits.Integer)

  on_with : (spot : Spot) (been : Been) (place size : ℕ) (symbol : Symbol) → Same spot been sights.With place symbol size (next_spot been.within spot sights.With)
  on_with spots.Rule been place size symbol = refl
  on_with spots.Named been place size symbol = refl
  on_with _ been place size symbol = tt

  on_truth : (spot : Spot) (been : Been) (place size : ℕ) (symbol : Symbol) → (b : Bool) → Same spot been (sights.Truth b) place symbol size (next_spot been.within spot (sights.Truth b))
  on_truth spots.With been place size symbol b = refl
  on_truth spots.Value been place size symbol b = refl
  on_truth _ been place size symbol b = tt

  on_minus : (spot : Spot) (been : Been) (place size : ℕ) (symbol : Symbol) → Same spot been sights.Minus place symbol size (next_spot been.within spot sights.Minus)
  on_minus spots.With been place size symbol = refl
  on_minus spots.Value been place size symbol = refl
  on_minus spots.Open been place size symbol = refl
  on_minus spots.First been place size symbol = refl
  on_minus spots.Second been place size symbol = refl
  on_minus _ been place size symbol = tt

  on_open : (spot : Spot) (been : Been) (place size : ℕ) (symbol : Symbol) → Same spot been sights.Open place symbol size (next_spot been.within spot sights.Open)
  on_open spots.With been place size symbol = refl
  on_open spots.Value been place size symbol = refl
  on_open _ been place size symbol = tt

  on_close : (spot : Spot) (been : Been) (place size : ℕ) (symbol : Symbol) → Same spot been sights.Close place symbol size (next_spot been.within spot sights.Close)
  on_close spots.Second been place size symbol = refl
  on_close spots.Third been place size symbol = refl
  on_close _ been place size symbol = tt

  on_less : (spot : Spot) (been : Been) (place size : ℕ) (symbol : Symbol) → Same spot been sights.Less place symbol size (next_spot been.within spot sights.Less)
  on_less spots.Each been place size symbol = refl
  on_less _ been place size symbol = tt

  on_greater : (spot : Spot) (been : Been) (place size : ℕ) (symbol : Symbol) → Same spot been sights.Greater place symbol size (next_spot been.within spot sights.Greater)
  on_greater spots.Orbit been place size symbol = refl
  on_greater _ been place size symbol = tt

  on_seen : (spot : Spot) (been : Been) (place size : ℕ) (symbol : Symbol) → ((bytes : List ℕ) → symbol ≡ Word bytes → length bytes ≡ size) → (sight : Sight) → Seen symbol sight → Same spot been sight place symbol size (next_spot been.within spot sight)
  on_seen spot been place size symbol sized (sights.Begins first) (AsHead head e) = rw e (on_head spot been head place size (sized (head_word head) e))
  on_seen spot been place size symbol sized sights.With (AsWith e) = on_with spot been place size symbol
  on_seen spot been place size symbol sized (sights.Truth true) (AsTrue e) = on_truth spot been place size symbol true
  on_seen spot been place size symbol sized (sights.Truth false) (AsFalse e) = on_truth spot been place size symbol false
  on_seen spot been place size symbol sized sights.Name (AsName bytes e f) = rw e (on_name spot been place size bytes (sized bytes e))
  on_seen spot been place size symbol sized (sights.Number l) (AsNumber m e) = rw e (on_number spot been place size m)
  on_seen spot been place size symbol sized sights.Minus (AsMinus e) = on_minus spot been place size symbol
  on_seen spot been place size symbol sized sights.Open (AsOpen e) = on_open spot been place size symbol
  on_seen spot been place size symbol sized sights.Close (AsClose e) = on_close spot been place size symbol
  on_seen spot been place size symbol sized sights.Less (AsLess e) = on_less spot been place size symbol
  on_seen spot been place size symbol sized sights.Greater (AsGreater e) = on_greater spot been place size symbol
  on_seen spot been place size symbol sized sights.Other AsOther = rw (none_other n been.within spot) tt

  pub same_limit : (spot to : Spot) (been : Been) (place size : ℕ) (symbol : Symbol) → ((bytes : List ℕ) → symbol ≡ Word bytes → length bytes ≡ size) → next_spot been.within spot (sight_of symbol) ≡ Some to
      → passed_of (role_in n spot been (sight_of symbol) place) symbol ≡ passed_in n spot been (sight_of symbol) size
  same_limit spot to been place size symbol sized e = subst (Same spot been (sight_of symbol) place symbol size) e (on_seen spot been place size symbol sized (sight_of symbol) (seen symbol))

-- The first rule with a name, where one more rule stands behind others.
use Rattle.std.proofs.Common.{◌≡◌, ℕ, zero, suc, ◌+◌, ◌≤◌, ◌<◌, map, get_or, slice_get, min, Bool, true, false, cond, leb, List, [], ◌∷◌, ◌++◌, length, take, Option, Some, None, IfSome, is_some, refl, sym, ap, ◌∙◌, arith}
use Rattle.std.proofs.lemmas.Bool.{leb-true, leb-false}
use Rattle.std.proofs.lemmas.Iterator.Adapters.{position_from-zero}
use Rattle.std.proofs.lemmas.List.{take_all, length-map}
use Rattle.std.proofs.lemmas.Slice.Eq.{bytes_eq-Decides}
use Rattle.std.specs.List.{position, position_from}
use Rattle.std.specs.Str.{bytes_eq}
use Rattle.gm_model.specs.declared.rule.RuleTable.{RuleTable}
use Rattle.gm_model.specs.Rules.{Rule, rule_of}
use Rattle.gm_script.specs.ScriptText.{index_of}

-- ---- one more element

stays_by : (b : Bool) (k j : ℕ) (before after : Option ℕ) → cond b (Some k) before ≡ Some j → (before ≡ Some j → after ≡ Some j) → cond b (Some k) after ≡ Some j
stays_by true k j before after e later = e
stays_by false k j before after e later = later e

from_stays : {X : Type 0} (p : X → Bool) (k j : ℕ) (xs : List X) (x : X) → position_from p k xs ≡ Some j → position_from p k (xs ++ x ∷ []) ≡ Some j
from_stays p k j [] x e = absurd cc
from_stays p k j (y ∷ xs) x e = stays_by (p y) k j (position_from p (k + 1) xs) (position_from p (k + 1) (xs ++ x ∷ [])) e (λ f. from_stays p (k + 1) j xs x f)

next_by : (b : Bool) (k : ℕ) (before after answer : Option ℕ) → cond b (Some k) before ≡ None → (before ≡ None → after ≡ answer) → cond b (Some k) after ≡ answer
next_by true k before after answer e later = absurd cc
next_by false k before after answer e later = later e

from_next : {X : Type 0} (p : X → Bool) (k : ℕ) (xs : List X) (x : X) → position_from p k xs ≡ None → position_from p k (xs ++ x ∷ []) ≡ cond (p x) (Some (k + length xs)) None
from_next p k [] x e = let zero : k + 0 ≡ k = omega arith in rw zero refl
from_next p k (y ∷ xs) x e =
    let later : k + 1 + length xs ≡ k + length (y ∷ xs) = omega arith in
    next_by (p y) k (position_from p (k + 1) xs) (position_from p (k + 1) (xs ++ x ∷ [])) (cond (p x) (Some (k + length (y ∷ xs))) None) e
    (λ f. from_next p (k + 1) xs x f ∙ ap (λ (n : ℕ). cond (p x) (Some n) None) later)

abbrev pub named : List ℕ → RuleTable → Bool
named name rule = bytes_eq name rule.name

abbrev pub at : List RuleTable → List ℕ → Option ℕ
at rules name = position (named name) rules

at_from : (rules : List RuleTable) (name : List ℕ) → at rules name ≡ position_from (named name) 0 rules
at_from rules name = position_from-zero (named name) rules

at_stays : (rules : List RuleTable) (rule : RuleTable) (name : List ℕ) (j : ℕ) → at rules name ≡ Some j → at (rules ++ rule ∷ []) name ≡ Some j
at_stays rules rule name j e = at_from (rules ++ rule ∷ []) name ∙ from_stays (named name) 0 j rules rule (sym (at_from rules name) ∙ e)

at_next : (rules : List RuleTable) (rule : RuleTable) (name : List ℕ) → at rules name ≡ None → at (rules ++ rule ∷ []) name ≡ cond (bytes_eq name rule.name) (Some (length rules)) None
at_next rules rule name e =
    let zero : 0 + length rules ≡ length rules = omega arith in
    at_from (rules ++ rule ∷ []) name ∙ from_next (named name) 0 rules rule (sym (at_from rules name) ∙ e) ∙ ap (λ (n : ℕ). cond (bytes_eq name rule.name) (Some n) None) zero

-- a test that is true is of equal names
same_name : (one other : List ℕ) → bytes_eq one other ≡ true → one ≡ other
same_name one other = (bytes_eq-Decides one other).0

test_swaps : (one other : List ℕ) → bytes_eq one other ≡ bytes_eq other one
test_swaps one other =
    by (bytes_eq one other) (bytes_eq other one) refl refl
  where
    by : (b c : Bool) → bytes_eq one other ≡ b → bytes_eq other one ≡ c → b ≡ c
    by true true e f = refl
    by false false e f = refl
    by true false e f = sym (let back : bytes_eq other one ≡ true = (bytes_eq-Decides other one).1 (sym (same_name one other e)) in sym f ∙ back)
    by false true e f = let back : bytes_eq one other ≡ true = (bytes_eq-Decides one other).1 (sym (same_name other one f)) in sym e ∙ back

module _ (rules : List RuleTable) (rule : RuleTable) (found : List ℕ → Option ℕ) (are : (name : List ℕ) → found name ≡ at rules name) where
  -- a name that was there before
  pub stays : is_some (found rule.name) ≡ true → (name : List ℕ) → found name ≡ at (rules ++ rule ∷ []) name
  stays there name =
      by (at rules name) refl
    where
      lost : bytes_eq name rule.name ≡ true → at rules name ≡ None → ⊥
      lost same e =
          let none : found rule.name ≡ None = are rule.name ∙ ap (at rules) (sym (same_name name rule.name same)) ∙ e in
          let some : is_some (found rule.name) ≡ false = ap is_some none in
          absurd cc

      next : (b : Bool) → bytes_eq name rule.name ≡ b → at rules name ≡ None → None ≡ cond b (Some (length rules)) None
      next true same e = absurd (lost same e)
      next false same e = refl

      by : (o : Option ℕ) → at rules name ≡ o → found name ≡ at (rules ++ rule ∷ []) name
      by (Some j) e = are name ∙ e ∙ sym (at_stays rules rule name j e)
      by None e = are name ∙ e ∙ next (bytes_eq name rule.name) refl e ∙ sym (at_next rules rule name e)

  -- a new name
  pub added : is_some (found rule.name) ≡ false → (name : List ℕ) (answer : Option ℕ) → answer ≡ cond (bytes_eq rule.name name) (Some (length rules)) (found name) → answer ≡ at (rules ++ rule ∷ []) name
  added absent name answer is =
      by (at rules name) refl
    where
      swapped : answer ≡ cond (bytes_eq name rule.name) (Some (length rules)) (found name)
      swapped = is ∙ ap (λ (b : Bool). cond b (Some (length rules)) (found name)) (test_swaps rule.name name)

      other : (j : ℕ) → at rules name ≡ Some j → bytes_eq name rule.name ≡ true → ⊥
      other j e same =
          let some : found rule.name ≡ Some j = are rule.name ∙ ap (at rules) (sym (same_name name rule.name same)) ∙ e in
          let there : is_some (found rule.name) ≡ true = ap is_some some in
          absurd cc

      apart : (b : Bool) (j : ℕ) → bytes_eq name rule.name ≡ b → at rules name ≡ Some j → cond b (Some (length rules)) (found name) ≡ Some j
      apart true j same e = absurd (other j e same)
      apart false j same e = are name ∙ e

      by : (o : Option ℕ) → at rules name ≡ o → answer ≡ at (rules ++ rule ∷ []) name
      by (Some j) e = swapped ∙ apart (bytes_eq name rule.name) j refl e ∙ sym (at_stays rules rule name j e)
      by None e = swapped ∙ ap (λ (o : Option ℕ). cond (bytes_eq name rule.name) (Some (length rules)) o) (are name ∙ e) ∙ sym (at_next rules rule name e)

-- ---- the first so many rules

pub take_least : {X : Type 0} (most : ℕ) (xs : List X) → take (min (length xs) most) xs ≡ take most xs
take_least most xs =
    by (leb (length xs) most) refl
  where
    by : (b : Bool) → leb (length xs) most ≡ b → take (min (length xs) most) xs ≡ take most xs
    by true e =
        let few : length xs ≤ most = leb-true (length xs) most e in
        let least : min (length xs) most ≡ length xs = omega (arith, few) in
        rw least (take_all (length xs) xs (omega arith) ∙ sym (take_all most xs few))
    by false e =
        let many : most < length xs = leb-false (length xs) most e in
        let least : min (length xs) most ≡ most = omega (arith, many) in
        rw least refl

-- ---- rules by their tables

from_map : (name : List ℕ) (k : ℕ) (rules : List RuleTable) → position_from (λ (rule : Rule). bytes_eq name rule.name) k (map rule_of rules) ≡ position_from (named name) k rules
from_map name k [] = refl
from_map name k (rule ∷ rules) = ap (λ (o : Option ℕ). cond (bytes_eq name rule.name) (Some k) o) (from_map name (k + 1) rules)

pub index_is : (rules : List RuleTable) (name : List ℕ) → index_of (map rule_of rules) name ≡ at rules name
unfolding index_of
index_is rules name =
    let test : Rule → Bool = λ rule. bytes_eq name rule.name in
    position_from-zero test (map rule_of rules) ∙ from_map name 0 rules ∙ sym (at_from rules name)

-- the index of a rule is below their number
within_by : (b : Bool) (k j size : ℕ) (later : Option ℕ) → cond b (Some k) later ≡ Some j → (later ≡ Some j → j < k + 1 + size) → j < k + suc size
within_by true k j size later e next = let same : k ≡ j = cc e in omega (arith, same)
within_by false k j size later e next = let below : j < k + 1 + size = next e in omega (arith, below)

from_within : {X : Type 0} (p : X → Bool) (k j : ℕ) (xs : List X) → position_from p k xs ≡ Some j → j < k + length xs
from_within p k j [] e = absurd cc
from_within p k j (x ∷ xs) e = within_by (p x) k j (length xs) (position_from p (k + 1) xs) e (λ f. from_within p (k + 1) j xs f)

pub index_below : (rules : List Rule) (name : List ℕ) (j : ℕ) → index_of rules name ≡ Some j → j < length rules
unfolding index_of
index_below rules name j e =
    let test : Rule → Bool = λ rule. bytes_eq name rule.name in
    let there : j < 0 + length rules = from_within test 0 j rules (sym (position_from-zero test rules) ∙ e) in
    omega (arith, there)

index_within : (rules : List RuleTable) (name : List ℕ) (j : ℕ) → index_of (map rule_of rules) name ≡ Some j → j < length rules
index_within rules name j e =
    let there : j < length (map rule_of rules) = index_below (map rule_of rules) name j e in
    omega (arith, there, length-map rules rule_of)

pub within : (rules : List RuleTable) (name : List ℕ) (found : Option ℕ) → found ≡ index_of (map rule_of rules) name → IfSome found (λ k. k < length rules)
within rules name None e = tt
within rules name (Some k) e = index_within rules name k (sym e)

pub get_map : (rules : List RuleTable) (j : ℕ) (rule : RuleTable) → j < length rules → rule ≡ get_or rules j rule → slice_get (map rule_of rules) j ≡ Some (rule_of rule)
get_map [] j rule inside is = absurd (omega arith)
get_map (first ∷ rules) zero rule inside is = ap (λ (r : RuleTable). Some (rule_of r)) (sym is)
get_map (first ∷ rules) (suc j) rule inside is = get_map rules j rule (omega arith) is

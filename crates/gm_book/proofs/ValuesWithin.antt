-- No token of a value passes a limit where no part of the book does.
use Rattle.std.proofs.Common.{◌≡◌, ◌≤◌, ℕ, ◌+◌, Bool, true, false, cond, List, [], ◌∷◌, ◌++◌, map, Option, Some, None, refl, arith, ◌||◌}
use Rattle.std.proofs.lemmas.Bool.Decides.{nat_tests}
use Rattle.std.specs.List.{AllByRecursion}
use Rattle.std.specs.Prelude.{◌==◌, nat_lt}
use Rattle.std.specs.Str.{bytes_eq}
use Rattle.gm_model.specs.declared.limit.LimitKind.TheVariants as limits
use Rattle.gm_model.specs.declared.word.Letter.{Letter}
use Rattle.gm_model.specs.Reading.{Part, IsWithin, the_end, in_role}
use Rattle.gm_text.specs.SchemaText as schemas
use Rattle.gm_text.specs.SchemaText.{spell}
use Rattle.gm_forms.specs.BookText.{ExprToken, SetForm, Item, NodeItem, LinkItem, ParamForm, RuleForm, BookForm, Role, Fixed, InSchema, Count, no_count, count_after, count_across, counted, limit_of, spell_letters, spell_hook, spell_value, spell_sets, spell_items, spell_pre, spell_more_params, spell_params, spell_rules, spelling, IsSentence, sets_in}
use Rattle.gm_book.proofs.OneValue.{AreWithin}

-- no part passes a limit
abbrev pub IsBookWithin : List (Part Role) → Type 0
IsBookWithin parts = IsWithin IsSentence limit_of parts

abbrev pub AreSetsWithin : List SetForm → Type 0
AreSetsWithin sets = AllByRecursion (λ (set : SetForm). AreWithin set.value) sets

abbrev pub IsPreWithin : Option (List ExprToken) → Type 0
IsPreWithin None = Unit {0}
IsPreWithin (Some tokens) = AreWithin tokens

-- no token of a rule's expressions passes a limit
pub record AreValuesWithin (rule : RuleForm) : Type 0 where
  pub sets : (name : List ℕ) → AreSetsWithin (sets_in rule.right name)
  pub pre : IsPreWithin rule.pre

-- ---- within a rule

value_within : (tokens : List ExprToken) (rest : List (Part Role)) → IsBookWithin (spell_value tokens rest) → AreWithin tokens × IsBookWithin rest
value_within [] rest within = (tt, within)
value_within (token ∷ tokens) rest within = let (first, behind) = value_within tokens rest within.1 in ((within.0, first), behind)

pub sets_within : (sets : List SetForm) (rest : List (Part Role)) → IsBookWithin (spell_sets sets rest) → AreSetsWithin sets × IsBookWithin rest
sets_within [] rest within = (tt, within)
sets_within (set ∷ sets) rest within =
    let (value, others) = value_within set.value (spell_sets sets rest) within.1.1.1 in
    let (first, behind) = sets_within sets rest others in
    ((value, first), behind)

module _ (n : ℕ) where
  pub letters_within : (k : ℕ) (word : List Letter) (rest : List (Part Role)) → IsBookWithin (spell_letters n k word rest) → IsBookWithin rest
  letters_within k [] rest within = within
  letters_within k (letter ∷ word) rest within = letters_within (k + 1) word rest within.1

  pub hook_within : (hook : Bool) (rest : List (Part Role)) → IsBookWithin (spell_hook hook rest) → IsBookWithin rest
  hook_within true rest within = within.1
  hook_within false rest within = within

  items_within : (count : Count) (items : List Item) (rest : List (Part Role)) → IsBookWithin (spell_items n count items rest) → ((name : List ℕ) → AreSetsWithin (sets_in items name)) × IsBookWithin rest
  items_within count [] rest within = ((λ name. tt), within)
  items_within count (NodeItem node word hook sets ∷ items) rest within =
      let behind = letters_within 0 word _ within.1.1 in
      let (here, others) = sets_within sets (spell_items n (count_after count (NodeItem node word hook sets)) items rest) (hook_within hook _ behind.1) in
      let (later, last) = items_within (count_after count (NodeItem node word hook sets)) items rest others in
      ((λ name. either (bytes_eq name node.name) sets (sets_in items name) here (later name)), last)
    where
      either : (b : Bool) (one other : List SetForm) → AreSetsWithin one → AreSetsWithin other → AreSetsWithin (cond b one other)
      either true one other first second = first
      either false one other first second = second
  items_within count (LinkItem from label to ∷ items) rest within = items_within (count_after count (LinkItem from label to)) items rest within.1.1.1.1.1

more_params_within : (k : ℕ) (params : List ParamForm) (rest : List (Part Role)) → IsBookWithin (spell_more_params k params rest) → IsBookWithin rest
more_params_within k [] rest within = within.1
more_params_within k (param ∷ params) rest within = more_params_within (k + 1) params rest within.1.1.1.1

pub params_within : (params : List ParamForm) (rest : List (Part Role)) → IsBookWithin (spell_params params rest) → IsBookWithin rest
params_within [] rest within = within
params_within (param ∷ params) rest within = more_params_within 1 params rest within.1.1.1.1

pub pre_within : (pre : Option (List ExprToken)) (rest : List (Part Role)) → IsBookWithin (spell_pre pre rest) → IsPreWithin pre × IsBookWithin rest
pre_within None rest within = (tt, within)
pre_within (Some tokens) rest within = value_within tokens rest within.1

-- ---- rules

module _ (n : ℕ) where
  rules_within : (k : ℕ) (rules : List RuleForm) (rest : List (Part Role)) → IsBookWithin (spell_rules n k rules rest) → AllByRecursion AreValuesWithin rules
  rules_within k [] rest within = tt
  rules_within k (rule ∷ rules) rest within =
      let left = params_within rule.params _ within.1.1 in
      let (left_sets, right) = items_within n no_count rule.left _ left.1 in
      let (sets, behind) = items_within n (count_across (counted no_count rule.left)) rule.right (spell_pre rule.pre (spell_rules n (k + 1) rules rest)) right.1 in
      let (pre, others) = pre_within rule.pre (spell_rules n (k + 1) rules rest) behind in
      (record { sets = sets; pre = pre }, rules_within (k + 1) rules rest others)

-- ---- a whole book

pub behind_schema : (parts : List (Part schemas.Role)) (rest : List (Part Role)) → IsBookWithin (map (in_role InSchema) parts ++ rest) → IsBookWithin rest
behind_schema [] rest within = within
behind_schema (part ∷ parts) rest within = behind_schema parts rest within.1

low_dim : (n : ℕ) → cond ((n == 0) || nat_lt 7 n) (Some limits.Dimension) None ≡ None → n ≤ 7
low_dim n e = go ((n == 0) || nat_lt 7 n) refl e
  where
    go : (b : Bool) → ((n == 0) || nat_lt 7 n) ≡ b → cond b (Some limits.Dimension) None ≡ None → n ≤ 7
    go true f e = absurd cc
    go false f e = grind (arith, nat_tests, f)

pub dim_within : (book : BookForm) → IsBookWithin (spelling book) → book.schema.dim ≤ 7
dim_within book within = low_dim book.schema.dim within.1.1.1.0

pub values_within : (book : BookForm) → IsBookWithin (spelling book) → AllByRecursion AreValuesWithin book.rules
values_within book within = rules_within book.schema.dim 0 book.rules (the_end Fixed ∷ []) (behind_schema (spell book.schema []) (spell_rules book.schema.dim 0 book.rules (the_end Fixed ∷ [])) within.1.1)

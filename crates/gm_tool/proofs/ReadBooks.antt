-- The rules of a book that was read can be checked, and a script can name each.
use Rattle.std.proofs.Common.{◌≡◌, ℕ, ◌^◌, List, [], ◌∷◌, map, All, ap, arith}
use Rattle.std.proofs.lemmas.List.{length-map, take_all}
use Rattle.std.specs.List.{AllByRecursion}
use Rattle.std.proofs.lemmas.List.Elements.{All-from_recursion, recursion_from_All}
use Rattle.gm_model.specs.declared.rule.Book.{Book}
use Rattle.gm_model.specs.declared.rule.RuleTable.{RuleTable}
use Rattle.gm_forms.specs.BookText.{BookText}
use Rattle.gm_model.specs.Kinds.{IsTyped}
use Rattle.gm_model.specs.Maps.{IsSchema}
use Rattle.gm_model.specs.Structure.{IsInRange}
use Rattle.gm_model.specs.Rules.{rule_of}
use Rattle.gm_book.proofs.ReadRange.{range_from_text}
use Rattle.gm_book.proofs.ReadRules.{few_at_most}
use Rattle.gm_script.specs.inner.FirstRules.{first_rules}
use Rattle.gm_tool.specs.inner.Books.{IsCheckable}

pub unmap : {X Y : Type 0} (P : Y → Type 0) (f : X → Y) (xs : List X) → All P (map f xs) → All (λ x. P (f x)) xs
unmap {X = X} P f xs h = All-from_recursion (λ x. P (f x)) xs (each xs (recursion_from_All P (map f xs) h))
  where
    each : (xs : List X) → AllByRecursion P (map f xs) → AllByRecursion (λ x. P (f x)) xs
    each [] h = tt
    each (x ∷ xs) h = (h.0, each xs h.1)

pub checkable_rules : (text : List ℕ) (book : Book) → BookText text book.version book.schema (map rule_of book.rules) → IsSchema book.schema → All (λ (rule : RuleTable). IsCheckable book.schema (rule_of rule)) book.rules
checkable_rules text book read declared = unmap (IsCheckable book.schema) rule_of book.rules (λ k d b.
    let rules = map rule_of book.rules in
    let ranges = range_from_text text book.version book.schema rules read k d b in
    record {
      declared = declared;
      in_range = ranges.0;
      within = ranges.1;
      typed = ranges.2;
    })

pub all_first : (text : List ℕ) (book : Book) → BookText text book.version book.schema (map rule_of book.rules) → first_rules book.rules ≡ map rule_of book.rules
all_first text book read =
    ap (map rule_of) (take_all (2 ^ 16) book.rules (omega (arith, few_at_most text book.version book.schema (map rule_of book.rules) read, length-map book.rules rule_of)))

-- each is in range, and each of its expressions has a kind
module _ (text : List ℕ) (book : Book) (read : BookText text book.version book.schema (map rule_of book.rules)) (declared : IsSchema book.schema) where
  pub rules_in_range : AllByRecursion (λ (rule : RuleTable). IsInRange book.schema (rule_of rule)) book.rules
  rules_in_range = recursion_from_All (λ (rule : RuleTable). IsInRange book.schema (rule_of rule)) book.rules (λ k d b. (checkable_rules text book read declared k d b).in_range)

  pub rules_typed : AllByRecursion (λ (rule : RuleTable). IsTyped book.schema (rule_of rule)) book.rules
  rules_typed = recursion_from_All (λ (rule : RuleTable). IsTyped book.schema (rule_of rule)) book.rules (λ k d b. (checkable_rules text book read declared k d b).typed)

-- The plans of a book's rules, one after the other, and the first rule that has none.
use Rattle.std.proofs.Common.{◌≡◌, ℕ, ◌+◌, ◌<◌, ◌≤◌, List, [], ◌∷◌, ◌++◌, length, map, take, get_or, All, Option, Some, None, inl, inr, refl, sym, ap, ◌∙◌, subst, arith}
use Rattle.std.specs.Prelude.{slice_get}
use Rattle.std.specs.List.{AllByRecursion}
use Rattle.std.specs.Option.{option_map}
use Rattle.std.proofs.lemmas.Bool.{cases_order}
use Rattle.std.proofs.lemmas.List.{take_more, map-append}
use Rattle.std.proofs.lemmas.List.Elements.{All-from_recursion, recursion_from_All}
use Rattle.std.proofs.lemmas.Option.{slice_get-map, slice_get-get_or}
use Rattle.gm_model.specs.declared.rule.RuleTable.{RuleTable}
use Rattle.gm_model.specs.declared.schema.Schema.{Schema}
use Rattle.gm_model.specs.Acceptance.{IsAccepted}
use Rattle.gm_model.specs.Rules.{Rule, rule_of}
use Rattle.gm_plan.specs.inner.Plans.{PlanOf, plan_of}
use Rattle.gm_lines.specs.Refusing.{TheBook}
use Rattle.gm_tool.specs.inner.Books.{IsRuleStop}
use Rattle.gm_tool.specs.RunAnswer.{IsFirstRefused}
use Rattle.gm_tool.specs.inner.Stops.{IsBadFor}
use Rattle.gm_tool.specs.declared.refusal.NoText.TheVariants as nothing
use Rattle.gm_tool.specs.declared.refusal.Stop.{Stop}
use Rattle.gm_tool.specs.declared.refusal.Stop.TheVariants as stops

-- the first rules are accepted
abbrev pub AreAccepted : Schema → List RuleTable → ℕ → Type 0
AreAccepted schema tables k = (j : ℕ) (table : RuleTable) → j < k → slice_get tables j ≡ Some table → IsAccepted schema (rule_of table)

some_same : {A : Type 0} (x y : A) → Some x ≡ Some y → x ≡ y
some_same x y e = cc e

module _ (schema : Schema) (tables : List RuleTable) where
  pub plans_with : (k : ℕ) (table : RuleTable) (plans after : List PlanOf) → k < length tables → table ≡ get_or tables k table → plans ≡ map (plan_of schema) (take k tables)
      → after ≡ plans ++ plan_of schema table ∷ [] → after ≡ map (plan_of schema) (take (k + 1) tables)
  plans_with k table plans after within at before is =
      is ∙ (ap (λ ps. ps ++ plan_of schema table ∷ []) before
      ∙ sym (ap (map (plan_of schema)) (take_more tables k table within ∙ ap (λ t. take k tables ++ t ∷ []) (sym at)) ∙ map-append (plan_of schema) (take k tables) (table ∷ [])))

  here_at : (k : ℕ) (table : RuleTable) → k < length tables → table ≡ get_or tables k table → slice_get tables k ≡ Some table
  here_at k table within at = slice_get-get_or tables k table within ∙ ap (λ t. Some t) (sym at)

  pub accepted_with : (k : ℕ) (table : RuleTable) → k < length tables → table ≡ get_or tables k table → AreAccepted schema tables k → IsAccepted schema (rule_of table) → AreAccepted schema tables (k + 1)
  accepted_with k table within at before here j other below there =
      elim (cases_order j k) [
        | inl same ↦ subst (λ t. IsAccepted schema (rule_of t)) (some_same table other (sym (here_at k table within at) ∙ (ap (slice_get tables) (sym same) ∙ there))) here
        | inr (inl less) ↦ before j other less there
        | inr (inr more) ↦ absurd (omega (arith, more, below))
      ]

  -- all rules are accepted
  pub all_accepted : (k : ℕ) → length tables ≤ k → AreAccepted schema tables k → All (IsAccepted schema) (map rule_of tables)
  all_accepted k all h = All-from_recursion (IsAccepted schema) (map rule_of tables) (each tables (recursion_from_All (λ (t : RuleTable). IsAccepted schema (rule_of t)) tables (λ j d within.
      h j (get_or tables j d) (omega (arith, within, all)) (slice_get-get_or tables j d within))))
    where
      each : (ts : List RuleTable) → AllByRecursion (λ (t : RuleTable). IsAccepted schema (rule_of t)) ts → AllByRecursion (IsAccepted schema) (map rule_of ts)
      each [] p = tt
      each (t ∷ ts) p = (p.0, each ts p.1)

  -- the first rule that isn't
  pub first_refused : (k : ℕ) (table : RuleTable) (stop : Stop) → k < length tables → table ≡ get_or tables k table → AreAccepted schema tables k → IsRuleStop schema (rule_of table) stop
      → IsBadFor TheBook (IsFirstRefused schema (map rule_of tables)) stop
  first_refused k table (stops.Bad line) within at before (why, says, text) = (why, first, text)
    where
      earlier : (j : ℕ) (rule : Rule) → j < k → slice_get (map rule_of tables) j ≡ Some rule → IsAccepted schema rule
      earlier j rule below there = go (slice_get tables j) refl
        where
          go : (o : Option RuleTable) → slice_get tables j ≡ o → IsAccepted schema rule
          go None none = let e : None ≡ Some rule = sym (slice_get-map rule_of tables j ∙ ap (option_map rule_of) none) ∙ there in absurd cc
          go (Some other) some = subst (IsAccepted schema) (some_same (rule_of other) rule (sym (slice_get-map rule_of tables j ∙ ap (option_map rule_of) some) ∙ there)) (before j other below some)

      first : IsFirstRefused schema (map rule_of tables) why
      first = record {
        place = k;
        rule = rule_of table;
        rule_at = slice_get-map rule_of tables k ∙ ap (option_map rule_of) (here_at k table within at);
        says = says;
        before = earlier;
      }
  first_refused k table (stops.NoText nothing.OutOfMemory) within at before h = tt
  first_refused k table (stops.NoText (nothing.Refused why)) within at before h = absurd h

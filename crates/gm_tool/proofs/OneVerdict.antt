-- A rule has one verdict, so the lines of a check are determined, and so is the first rule that isn't accepted.
use Rattle.std.proofs.Common.{◌≡◌, ℕ, ◌+◌, List, ◌++◌, inl, inr, Option, Some, None, All, codes, refl, sym, ap, subst, ◌∙◌}
use Rattle.std.specs.Prelude.{slice_get}
use Rattle.std.proofs.Math.Path.{ap₂}
use Rattle.std.proofs.lemmas.Bool.{cases_order}
use Rattle.std.proofs.lemmas.Option.{slice_get_within, get_or_from_slice_get, same_Some}
use Rattle.gm_model.specs.declared.rule.RuleFault.{RuleFault}
use Rattle.gm_model.specs.declared.schema.Schema.{Schema}
use Rattle.gm_model.specs.Acceptance.{IsAccepted}
use Rattle.gm_model.specs.Rules.{Rule}
use Rattle.gm_plan.proofs.OneFault.{one_fault}
use Rattle.gm_theory.proofs.NoFault.{accepted_no_fault}
use Rattle.gm_lines.specs.Checking.{IsVerdict, AreLines, NoRules, NextRule, refusals, rule_line, rule_fault_words}
use Rattle.gm_tool.specs.RunAnswer.{IsRuleWhy, IsFirstRefused}

-- ---- the lines of a check

one_verdict : (schema : Schema) (rule : Rule) (verdict other : Option RuleFault) → IsVerdict schema rule verdict → IsVerdict schema rule other → verdict ≡ other
one_verdict schema rule None None a b = refl
one_verdict schema rule None (Some fault) a b = absurd (accepted_no_fault schema rule fault a b)
one_verdict schema rule (Some fault) None a b = absurd (accepted_no_fault schema rule fault b a)
one_verdict schema rule (Some fault) (Some other) a b = ap Some (one_fault schema rule fault other a b)

pub one_lines : (schema : Schema) (rules : List Rule) (refused other : ℕ) (lines others : List ℕ) → AreLines schema rules refused lines → AreLines schema rules other others → (refused ≡ other) × (lines ≡ others)
one_lines schema _ _ _ _ _ NoRules NoRules = (refl, refl)
one_lines schema _ _ _ _ _ (NextRule rule verdict rules refused lines is rest) (NextRule _ verdict' _ refused' lines' is' rest') =
    let same : verdict ≡ verdict' = one_verdict schema rule verdict verdict' is is' in
    let more : (refused ≡ refused') × (lines ≡ lines') = one_lines schema rules refused refused' lines lines' rest rest' in
    (ap₂ (λ (v : Option RuleFault) (n : ℕ). refusals v + n) same more.0, ap₂ (λ (v : Option RuleFault) (t : List ℕ). rule_line schema rule v ++ t) same more.1)

-- ---- the first rule that isn't accepted

one_why : (schema : Schema) (rule : Rule) (why other : List ℕ) → IsRuleWhy schema rule why → IsRuleWhy schema rule other → why ≡ other
one_why schema rule why other (fault, a, e) (fault', b, f) = e ∙ ap (λ (x : RuleFault). codes "rule " ++ rule.name ++ codes " " ++ rule_fault_words schema rule x) (one_fault schema rule fault fault' a b) ∙ sym f

none_why : (schema : Schema) (rule : Rule) (why : List ℕ) → IsAccepted schema rule → IsRuleWhy schema rule why → ⊥
none_why schema rule why accepted (fault, is, words) = accepted_no_fault schema rule fault accepted is

pub one_refused : (schema : Schema) (rules : List Rule) (why other : List ℕ) → IsFirstRefused schema rules why → IsFirstRefused schema rules other → why ≡ other
one_refused schema rules why other a b =
    elim (cases_order a.place b.place) [
      | inl same ↦
          let rule : a.rule ≡ b.rule = same_Some a.rule b.rule (sym a.rule_at ∙ ap (slice_get rules) same ∙ b.rule_at) in
          one_why schema b.rule why other (subst (λ r. IsRuleWhy schema r why) rule a.says) b.says
      | inr (inl less) ↦ absurd (none_why schema a.rule why (b.before a.place a.rule less a.rule_at) a.says)
      | inr (inr more) ↦ absurd (none_why schema b.rule other (a.before b.place b.rule more b.rule_at) b.says)
    ]

-- what all rules have, the rule of this number has
rule_has : (P : Rule → Type 0) (rules : List Rule) (k : ℕ) (rule : Rule) → All P rules → slice_get rules k ≡ Some rule → P rule
rule_has P rules k rule all at = subst P (get_or_from_slice_get rules k rule rule at) (all k rule (slice_get_within rules k rule at))

pub none_refused : (schema : Schema) (rules : List Rule) (why : List ℕ) → All (IsAccepted schema) rules → IsFirstRefused schema rules why → ⊥
none_refused schema rules why accepted first = none_why schema first.rule why (rule_has (IsAccepted schema) rules first.place first.rule accepted first.rule_at) first.says

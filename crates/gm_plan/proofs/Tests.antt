-- The list of the steps that a match has to test, one after another.
use Rattle.std.proofs.Common.{◌≡◌, ◌≢◌, ℕ, ◌+◌, ◌<◌, ◌≤◌, ◌⊎◌, inl, inr, List, [], ◌∷◌, ◌++◌, length, Some, refl, ap, sym, subst, ◌∙◌, arith}
use Rattle.std.proofs.lemmas.Bool.{cases_lt}
use Rattle.std.proofs.lemmas.List.{length_push}
use Rattle.std.proofs.lemmas.Option.{same_Some, slice_get_within}
use Rattle.std.specs.List.{slice_get}
use Rattle.gm_model.specs.declared.rule.Side.TheVariants.{Left}
use Rattle.gm_model.specs.declared.step.Step.{Step}
use Rattle.gm_model.specs.declared.step.Step.TheVariants.{Absent}
use Rattle.gm_model.specs.Orbits.{IsPairBefore}
use Rattle.gm_model.specs.Rules.{Rule, step}
use Rattle.gm_plan.specs.declared.tested.Test.{Test}
use Rattle.gm_plan.specs.inner.Plans.{AreRows}
use Rattle.gm_plan.specs.inner.Paths.{ArePaths}
use Rattle.gm_plan.specs.inner.Searches.{row_step}
use Rattle.gm_plan.specs.inner.Tested.{IsForcedStep, IsListed, IsTest, AreListed, AreTests, test_of, tested_step}
use Rattle.gm_plan.proofs.Forced.{forced_at, kept_at}
use Rattle.gm_plan.proofs.Rows.{row_new, row_old, row_step_is}
use Rattle.gm_model.specs.declared.rule.Link.{Link}

-- ---- pairs of a node and a label

before_more : (x i q l : ℕ) → IsPairBefore x i q l → IsPairBefore x i q (l + 1)
before_more x i q l (inl less) = inl less
before_more x i q l (inr (same, less)) = inr (same, omega (arith, less))

before_or_here : (x i q l : ℕ) → IsPairBefore x i q (l + 1) → IsPairBefore x i q l ⊎ ((x ≡ q) × (i ≡ l))
before_or_here x i q l (inl less) = inl (inl less)
before_or_here x i q l (inr (same, less)) = elim (cases_lt i l) [
  | inl b ↦ inl (inr (same, b))
  | inr b ↦ inr (same, omega (arith, less, b))
]

before_next : (x i q l : ℕ) → IsPairBefore x i q l → IsPairBefore x i (q + 1) 0
before_next x i q l (inl less) = inl (omega (arith, less))
before_next x i q l (inr (same, less)) = inl (omega (arith, same))

before_row : (x i q l : ℕ) → i < l → IsPairBefore x i (q + 1) 0 → IsPairBefore x i q l
before_row x i q l low (inl less) = elim (cases_lt x q) [
  | inl b ↦ inl b
  | inr b ↦ inr (omega (arith, less, b), low)
]
before_row x i q l low (inr (same, less)) = absurd (omega (arith, less))

node_before : (x i q : ℕ) → IsPairBefore x i q 0 → x < q
node_before x i q (inl less) = less
node_before x i q (inr (same, less)) = absurd (omega (arith, less))

-- ---- no step

no_pair : (x i : ℕ) → IsPairBefore x i 0 0 → ⊥
no_pair x i (inl less) = omega (arith, less)
no_pair x i (inr (same, less)) = omega (arith, less)

pub none_listed : (steps : ℕ → ℕ → Step) (labels : ℕ) (tests : List Test) → tests ≡ [] → AreListed steps labels 0 0 tests
none_listed steps labels tests none = subst (AreListed steps labels 0 0) (sym none) (record {
  each = λ t test at. absurd (omega (arith, slice_get_within [] t test at));
  all = λ x i before low. absurd (no_pair x i before);
  few = omega arith;
})

-- ---- one step more

module _ (steps : ℕ → ℕ → Step) (labels : ℕ) where
  module _ (q l : ℕ) (tests : List Test) (old : AreListed steps labels q l tests) where
    more : (test : Test) → IsListed steps labels q l test → IsListed steps labels q (l + 1) test
    more test is = record { before = before_more test.node test.label q l is.before; low = is.low; is = is.is; some = is.some }

    -- an absent one
    pub one_passed : steps q l ≡ Absent → AreListed steps labels q (l + 1) tests
    one_passed none = record {
      each = λ t test at. more test (old.each t test at);
      all = λ x i before low. elim (before_or_here x i q l before) [
        | inl earlier ↦ old.all x i earlier low
        | inr here ↦ inl (rw (here.0, here.1) none)
      ];
      few = omega (arith, old.few);
    }

    -- and another
    pub one_listed : (s : Step) → l < labels → steps q l ≡ s → s ≢ Absent → AreListed steps labels q (l + 1) (tests ++ test_of q l s ∷ [])
    one_listed s within is some = record { each = each; all = all; few = omega (arith, length_push tests (test_of q l s), old.few) }
      where
        last : IsListed steps labels q (l + 1) (test_of q l s)
        last = record { before = inr (refl, omega arith); low = within; is = is; some = some }

        each : (t : ℕ) (test : Test) → slice_get (tests ++ test_of q l s ∷ []) t ≡ Some test → IsListed steps labels q (l + 1) test
        each t test at = elim (cases_lt t (length tests)) [
          | inl b ↦ more test (old.each t test (sym (row_old tests (test_of q l s) t b) ∙ at))
          | inr b ↦
              let end : t ≡ length tests = omega (arith, slice_get_within (tests ++ test_of q l s ∷ []) t test at, length_push tests (test_of q l s), b) in
              subst (IsListed steps labels q (l + 1)) (same_Some (test_of q l s) test (sym (row_new tests (test_of q l s) t end) ∙ at)) last
        ]

        all : (x i : ℕ) → IsPairBefore x i q (l + 1) → i < labels → (steps x i ≡ Absent) ⊎ ((t : ℕ) × (slice_get (tests ++ test_of q l s ∷ []) t ≡ Some (test_of x i (steps x i))))
        all x i before low = elim (before_or_here x i q l before) [
          | inl earlier ↦ elim (old.all x i earlier low) [
            | inl none ↦ inl none
            | inr (t, at) ↦ inr (t, row_old tests (test_of q l s) t (slice_get_within tests t (test_of x i (steps x i)) at) ∙ at)
          ]
          | inr here ↦ rw (here.0, here.1) (inr (length tests, rw is (row_new tests (test_of q l s) (length tests) refl)))
        ]

  -- and the next row
  pub row_listed : (q l : ℕ) (tests : List Test) → labels ≤ l → l ≤ labels → AreListed steps labels q l tests → AreListed steps labels (q + 1) 0 tests
  row_listed q l tests most least old =
      let same : l ≡ labels = omega (arith, most, least) in
      record {
        each = λ t test at. let is = old.each t test at in record { before = before_next test.node test.label q l is.before; low = is.low; is = is.is; some = is.some };
        all = λ x i before low. old.all x i (before_row x i q l (omega (arith, low, same)) before) low;
        few = omega (arith, old.few, same);
      }

-- ---- of a rule

module _ (n : ℕ) (rule : Rule) (links : List Link) (paths : ArePaths rule links) (rows : List (List Step)) (are : AreRows (tested_step rule links) (length rule.nodes) rows) (few : n ≤ 7) (tests : List Test) (listed : AreListed (row_step rows) (n + 1) (length rows) 0 tests) where
  is_tested : (x i : ℕ) → x < length rule.nodes → i ≤ n → row_step rows x i ≡ tested_step rule links x i
  is_tested x i h low = row_step_is (tested_step rule links) (length rule.nodes) rows are x i h (omega (arith, low, few))

  is_test : (test : Test) → IsListed (row_step rows) (n + 1) (length rows) 0 test → IsTest n rule test
  is_test test is =
      let node : test.node < length rule.nodes = omega (arith, node_before test.node test.label (length rows) is.before, are.long) in
      let label : test.label ≤ n = omega (arith, is.low) in
      let tested : tested_step rule links test.node test.label ≡ test.step = sym (is_tested test.node test.label node label) ∙ is.is in
      record { node = node; label = label; is = sym (kept_at rule test.node test.label links paths (λ none. is.some (sym tested ∙ none))) ∙ tested; some = is.some }

  all : (x i : ℕ) → x < length rule.nodes → i ≤ n → IsForcedStep rule x i ⊎ ((t : ℕ) × (slice_get tests t ≡ Some (test_of x i (step rule Left x i))))
  all x i h low = elim (listed.all x i (inl (omega (arith, h, are.long))) (omega (arith, low))) [
    | inl none ↦ inl (forced_at rule x i links paths (sym (is_tested x i h low) ∙ none))
    | inr (t, at) ↦ inr (t, at ∙ ap (λ s. Some (test_of x i s)) (sym (is_test (test_of x i (row_step rows x i)) (listed.each t (test_of x i (row_step rows x i)) at)).is))
  ]

  pub are_tests : AreTests n rule tests
  are_tests = record {
    each = λ t test at. is_test test (listed.each t test at);
    all = all;
    few = let long = are.long in omega (arith, rw long at listed.few);
  }

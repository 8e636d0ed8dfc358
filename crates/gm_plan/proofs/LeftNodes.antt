-- The number of left nodes, where they come first.
use Rattle.std.proofs.Common.{◌≡◌, ℕ, ◌<◌, ◌≤◌, ◌⊎◌, inl, inr, true, false, IsTrue, List, length, Option, ap, sym, subst, ◌∙◌, arith}
use Rattle.std.proofs.lemmas.Bool.{cases_lt, cases_order}
use Rattle.std.specs.Option.{is_some}
use Rattle.gm_model.specs.declared.rule.Side.TheVariants.{Left}
use Rattle.gm_model.specs.declared.word.Letter.{Letter}
use Rattle.gm_model.specs.Rules.{Rule, has_word, word_at}
use Rattle.gm_plan.specs.inner.Plans.{IsLeftCount}
use Rattle.gm_theory.proofs.RuleSteps.{word_below}
use Rattle.gm_theory.proofs.Tests.{not_both}

pub no_word : (rule : Rule) (x : ℕ) (word : Option (List Letter)) → word ≡ word_at rule Left x → is_some word ≡ false → IsTrue (has_word rule Left x) → ⊥
no_word rule x word e h w = not_both (is_some word) (ap is_some e ∙ w) h

pub some_word : (rule : Rule) (x : ℕ) (word : Option (List Letter)) → word ≡ word_at rule Left x → is_some word ≡ true → IsTrue (has_word rule Left x)
some_word rule x word e h = ap is_some (sym e) ∙ h

pub left_counted : (rule : Rule) (count : ℕ) → ((x y : ℕ) → x < y → IsTrue (has_word rule Left y) → IsTrue (has_word rule Left x)) →
    ((x : ℕ) → x < count → IsTrue (has_word rule Left x)) → (IsTrue (has_word rule Left count) → ⊥) → IsLeftCount rule count
left_counted rule count first below at x = ((λ w. go w (cases_lt x count)), below x)
  where
    go : IsTrue (has_word rule Left x) → (x < count) ⊎ (count ≤ x) → x < count
    go w (inl b) = b
    go w (inr b) = elim (cases_order count x) [
      | inl e ↦ absurd (at (subst (λ y. IsTrue (has_word rule Left y)) (sym e) w))
      | inr c ↦ elim c [ inl d ↦ absurd (at (first count x d w)) | inr d ↦ d ]
    ]

pub left_most : (rule : Rule) (count : ℕ) → IsLeftCount rule count → count ≤ length rule.nodes
left_most rule count counts = elim (cases_lt (length rule.nodes) count) [
  | inl b ↦ (let within : length rule.nodes < length rule.nodes = word_below rule Left (length rule.nodes) ((counts (length rule.nodes)).1 b) in omega arith)
  | inr b ↦ b
]

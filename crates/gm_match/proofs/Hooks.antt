-- What a later hook's step reads: the letter of its own word at the turn's place, and the slot that it has at the turn's position.
use Rattle.std.proofs.Common.{◌≡◌, ℕ, zero, suc, ◌+◌, ◌*◌, ◌/◌, ◌%◌, ◌<◌, ◌≤◌, inl, inr, IsTrue, List, get_or, length, Option, Some, refl, sym, ap, subst, ◌∙◌, arith}
use Rattle.std.proofs.Math.Nat.{mod-lt, mul-le-mul_right}
use Rattle.std.proofs.lemmas.Bool.{cases_lt}
use Rattle.std.proofs.lemmas.Nat.{div-add-mod', mul-add-lt}
use Rattle.std.proofs.lemmas.Option.{slice_get-get_or}
use Rattle.std.specs.List.{slice_get, Contains}
use Rattle.std.specs.Option.{IsSome}
use Rattle.gm_model.specs.declared.rule.RuleTable.{RuleTable}
use Rattle.gm_model.specs.declared.rule.Side.TheVariants.{Left}
use Rattle.gm_model.specs.declared.schema.Schema.{Schema}
use Rattle.gm_model.specs.declared.word.Letter.{Letter}
use Rattle.gm_model.specs.declared.word.Letter.TheVariants.{At}
use Rattle.gm_model.specs.Rules.{Rule, rule_of, has_word, letters, label_at, width, word_at}
use Rattle.gm_arena.specs.declared.slot.Slot.{Slot}
use Rattle.gm_plan.specs.inner.Plans.{IsLeftCount, IsPlanned}
use Rattle.gm_match.specs.inner.Layout.{IsTurnAmong}
use Rattle.gm_theory.proofs.Candidates.{hook_left, hook_letter, letter_low}
use Rattle.gm_theory.proofs.Lists.{contained_at, get_contained}
use Rattle.gm_theory.proofs.RuleSteps.{word_below}

-- the place of a turn that is one of the first rows'
pub row_below : (turn rows places : ℕ) → turn < rows * places → turn / places < rows
row_below turn rows places less = elim (cases_lt (turn / places) rows) [
  | inl below ↦ below
  | inr above ↦ absurd (omega (arith, less, mul-le-mul_right places above, div-add-mod' turn places))
]

pub some_place : (turn rows places : ℕ) → turn < rows * places → 0 < places
some_place turn rows zero less = absurd (omega (arith, less))
some_place turn rows (suc places) less = omega arith

-- the word that a rule's table answers for a node
pub word_letters : (table other : RuleTable) (x : ℕ) (answer : Option (List Letter)) (word : List Letter) → other ≡ table → answer ≡ word_at (rule_of other) Left x → answer ≡ Some word → letters (rule_of table) Left x ≡ word
word_letters table other x answer word same is_answer is_word = rw (← same, ← is_answer, is_word) refl

-- a hook has one
pub own_word : (schema : Schema) (table other : RuleTable) (x : ℕ) (answer : Option (List Letter)) → IsPlanned schema (rule_of table) → Contains (rule_of table).hooks x → other ≡ table → answer ≡ word_at (rule_of other) Left x → IsSome answer
own_word schema table other x answer planned among same is_answer =
    subst IsSome (sym (is_answer ∙ ap (λ t. word_at (rule_of t) Left x) same)) (hook_left schema (rule_of table) planned.accepted.in_range planned.accepted.incidence among.0 x (contained_at (rule_of table).hooks x among))

-- the hooks that a rule's table answers
pub hook_there : (table other : RuleTable) (hooks : List ℕ) → other ≡ table → hooks ≡ other.hooks → (t : ℕ) → t < length (rule_of table).hooks → slice_get (rule_of table).hooks t ≡ Some (get_or hooks t 0)
hook_there table other hooks same is_hooks t within = rw (is_hooks, same) (slice_get-get_or (rule_of table).hooks t 0 within)

pub hooks_long : (table other : RuleTable) (hooks : List ℕ) → other ≡ table → hooks ≡ other.hooks → length hooks ≡ length (rule_of table).hooks
hooks_long table other hooks same is_hooks = rw (is_hooks, same) refl

-- and has, where there are as many darts
pub some_hook : (table other : RuleTable) (hooks : List ℕ) (darts : ℕ) → other ≡ table → hooks ≡ other.hooks → 0 < darts → darts ≡ length (rule_of table).hooks → 0 < length hooks
some_hook table other hooks darts same is_hooks some count = subst (λ n. 0 < n) (count ∙ sym (hooks_long table other hooks same is_hooks)) some

-- each of them is one of the rule, and a left node
module _ (schema : Schema) (table other : RuleTable) (hooks : List ℕ) (planned : IsPlanned schema (rule_of table)) (same : other ≡ table) (is_hooks : hooks ≡ other.hooks) (t : ℕ) (within : t < length hooks) where
  low : t < length (rule_of table).hooks
  low = subst (λ n. t < n) (hooks_long table other hooks same is_hooks) within

  pub hook_at : slice_get (rule_of table).hooks t ≡ Some (get_or hooks t 0)
  hook_at = hook_there table other hooks same is_hooks t low

  pub hook_among : Contains (rule_of table).hooks (get_or hooks t 0)
  hook_among = get_contained (rule_of table).hooks t (get_or hooks t 0) hook_at

  pub hook_below : (nodes : ℕ) → IsLeftCount (rule_of table) nodes → get_or hooks t 0 < nodes
  hook_below nodes counts = (counts (get_or hooks t 0)).0 (hook_left schema (rule_of table) planned.accepted.in_range planned.accepted.incidence t (get_or hooks t 0) hook_at)

-- what is read at the turn
pub record IsTurning (schema : Schema) (rule : Rule) (h : ℕ) (word : List Letter) (turn nodes : ℕ) (slots : List Slot) : Type 0 where
  pub long : length word ≡ width rule
  pub some : 0 < length word
  pub place : turn % length word < length word
  pub letter : slice_get word (turn % length word) ≡ Some (At (label_at (letters rule Left h) (turn % width rule)))
  pub low : label_at (letters rule Left h) (turn % width rule) ≤ schema.dim
  pub within : turn / length word * nodes + h < length slots

pub turning : (schema : Schema) (rule : Rule) → IsPlanned schema rule → (h : ℕ) → Contains rule.hooks h → (word : List Letter) → letters rule Left h ≡ word → (turn nodes : ℕ) (slots : List Slot) → IsLeftCount rule nodes →
    (rows : ℕ) × (rows * nodes ≡ length slots) × (turn < rows * width rule) → IsTurning schema rule h word turn nodes slots
turning schema rule planned h c word is_word turn nodes slots counts (rows, whole, less) = record {
  long = long;
  some = rw long some;
  place = rw long (mod-lt turn some);
  letter = rw long (subst (λ w. slice_get w (turn % width rule) ≡ Some (At (label_at (letters rule Left h) (turn % width rule)))) is_word (hook_letter schema rule planned.accepted.in_range planned.accepted.incidence c.0 h at (turn % width rule) (mod-lt turn some)));
  low = letter_low schema rule planned.accepted.in_range planned.accepted.incidence c.0 h at (turn % width rule);
  within = rw long (omega (arith, whole, mul-add-lt (turn / width rule) nodes h rows (row_below turn rows (width rule) less) ((counts h).0 left)));
}
  where
    at : slice_get rule.hooks c.0 ≡ Some h
    at = contained_at rule.hooks h c

    left : IsTrue (has_word rule Left h)
    left = hook_left schema rule planned.accepted.in_range planned.accepted.incidence c.0 h at

    some : 0 < width rule
    some = some_place turn rows (width rule) less

    long : length word ≡ width rule
    long = ap length (sym is_word) ∙ planned.accepted.incidence.structured.widths h (word_below rule Left h left) Left left

-- the same from the word that the rule's table answers for the hook
pub turning_by : (schema : Schema) (table other : RuleTable) (h : ℕ) (answer : Option (List Letter)) (word : List Letter) (turn nodes : ℕ) (slots : List Slot) → IsPlanned schema (rule_of table) → Contains (rule_of table).hooks h →
    other ≡ table → answer ≡ word_at (rule_of other) Left h → answer ≡ Some word → IsLeftCount (rule_of table) nodes → IsTurnAmong (rule_of table) slots turn → IsTurning schema (rule_of table) h word turn nodes slots
turning_by schema table other h answer word turn nodes slots planned among same is_answer is_word counts turns =
    turning schema (rule_of table) planned h among word (word_letters table other h answer word same is_answer is_word) turn nodes slots counts (turns nodes counts)

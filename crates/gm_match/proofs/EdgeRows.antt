-- The slots of hooks of one label each, in one row or two.
use Rattle.std.proofs.Common.{◌≡◌, ◌≢◌, ℕ, zero, suc, ◌+◌, ◌*◌, ◌<◌, ◌≤◌, inl, inr, List, Option, Some, ◌++◌, set, take, length, refl, sym, ap, subst, ◌∙◌, arith}
use Rattle.std.proofs.lemmas.Bool.{cases_eq}
use Rattle.std.proofs.Math.Seq.{take-append_seam}
use Rattle.std.proofs.lemmas.Option.{slice_get_within, get_or_from_slice_get}
use Rattle.std.specs.List.{slice_get, Contains}
use Rattle.std.specs.Prelude.{slice_index}
use Rattle.gm_model.specs.declared.rule.RuleTable.{RuleTable}
use Rattle.gm_model.specs.declared.rule.Side.TheVariants.{Left}
use Rattle.gm_model.specs.declared.schema.Schema.{Schema}
use Rattle.gm_model.specs.declared.word.Letter.{Letter}
use Rattle.gm_model.specs.declared.word.Letter.TheVariants.{At}
use Rattle.gm_model.specs.Orbits.{HasNoRepeats}
use Rattle.gm_model.specs.Rules.{Rule, rule_of, letters, label_at, width, word_at}
use Rattle.gm_arena.specs.declared.slot.Slot.{Slot}
use Rattle.gm_arena.specs.inner.ArenaMap.{ArenaMap, alpha, name_at}
use Rattle.gm_plan.specs.inner.Plans.{IsPlanned}
use Rattle.gm_theory.proofs.Candidates.{hook_letter}
use Rattle.gm_theory.proofs.Lists.{contained_at}
use Rattle.gm_walk.specs.inner.Walks.{AreLive}
use Rattle.gm_match.specs.inner.Layout.{AreForcedRows, AreHooksLaid, AreRows, IsFirstTo, dart_at, stepped}
use Rattle.gm_match.proofs.Column.{column_set, column_stays}
use Rattle.gm_match.proofs.Growing.{one_hook, same_index}
use Rattle.gm_match.proofs.Hooks.{word_letters}

-- the only letter of a hook is a label
pub only_letter : (schema : Schema) (table other : RuleTable) (h : ℕ) (answer : Option (List Letter)) (word : List Letter) → IsPlanned schema (rule_of table) → Contains (rule_of table).hooks h → other ≡ table → answer ≡ word_at (rule_of other) Left h → answer ≡ Some word → width (rule_of table) ≡ 1 → slice_get word 0 ≡ Some (At (label_at (letters (rule_of table) Left h) 0))
only_letter schema table other h answer word planned among same is_answer is_word one =
    let rule = rule_of table in
    subst (λ w. slice_get w 0 ≡ Some (At (label_at (letters rule Left h) 0))) (word_letters table other h answer word same is_answer is_word)
    (hook_letter schema rule planned.accepted.in_range planned.accepted.incidence among.0 h (contained_at rule.hooks h among) 0 (omega (arith, one)))

-- ---- one node

module _ (m : ArenaMap) (nodes y : ℕ) (within : y < nodes) (slots : List Slot) (slot : Slot) where
  pub first_set : y < length slots → dart_at m nodes (set slots y slot) y 0 ≡ name_at m slot.at
  first_set room = subst (λ k. dart_at m nodes (set slots k slot) y 0 ≡ name_at m slot.at) (omega arith) (column_set m nodes slots 0 y slot within (omega (arith, room)))

  pub first_stays : (x p : ℕ) → x < nodes → (p ≡ 0 → x ≢ y) → dart_at m nodes (set slots y slot) x p ≡ dart_at m nodes slots x p
  first_stays x p less apart = subst (λ k. dart_at m nodes (set slots k slot) x p ≡ dart_at m nodes slots x p) (omega arith) (column_stays m nodes slots 0 y slot within x p less apart)

  pub second_set : nodes + y < length slots → dart_at m nodes (set slots (nodes + y) slot) y 1 ≡ name_at m slot.at
  second_set room = subst (λ k. dart_at m nodes (set slots k slot) y 1 ≡ name_at m slot.at) (omega arith) (column_set m nodes slots 1 y slot within (omega (arith, room)))

  pub second_stays : (x p : ℕ) → x < nodes → (p ≡ 1 → x ≢ y) → dart_at m nodes (set slots (nodes + y) slot) x p ≡ dart_at m nodes slots x p
  second_stays x p less apart = subst (λ k. dart_at m nodes (set slots k slot) x p ≡ dart_at m nodes slots x p) (omega arith) (column_stays m nodes slots 1 y slot within x p less apart)

-- ---- one hook after another

module _ (m : ArenaMap) (rule : Rule) (differ : HasNoRepeats rule.hooks) (darts walk : List ℕ) (rows nodes : ℕ) where
  pub first_laid : (hook : ℕ) (slots : List Slot) → slice_get rule.hooks 0 ≡ Some hook → rows ≤ 2 → dart_at m nodes slots hook 0 ≡ slice_index walk 0 → (1 < rows → dart_at m nodes slots hook 1 ≡ slice_index walk 1) → AreHooksLaid m rule darts walk rows nodes 1 slots
  first_laid hook slots here few one other = record {
    first = λ h p at less.
        let same : hook ≡ h = one_hook rule.hooks 0 0 hook h here at refl in
        elim (cases_eq p 0) [
          | inl start ↦ subst (λ q. dart_at m nodes slots h q ≡ slice_index walk q) (sym start) (subst (λ x. dart_at m nodes slots x 0 ≡ slice_index walk 0) same one)
          | inr later ↦ let second : p ≡ 1 = omega (arith, less, few, later) in
              subst (λ q. dart_at m nodes slots h q ≡ slice_index walk q) (sym second) (subst (λ x. dart_at m nodes slots x 1 ≡ slice_index walk 1) same (other (omega (arith, less, second))))
        ];
    at_darts = λ t h some low at. absurd (omega (arith, some, low));
    in_step = λ t h some low at two. absurd (omega (arith, some, low));
  }

  module _ (below : (t h : ℕ) → slice_get rule.hooks t ≡ Some h → h < nodes) (index hook : ℕ) (here : slice_get rule.hooks index ≡ Some hook) (some : 0 < index) (old new : List Slot) (stays : (x p : ℕ) → x < nodes → x ≢ hook → dart_at m nodes new x p ≡ dart_at m nodes old x p) where
    other_hook : (t h p : ℕ) → slice_get rule.hooks t ≡ Some h → t ≢ index → dart_at m nodes new h p ≡ dart_at m nodes old h p
    other_hook t h p at apart = stays h p (below t h at) (λ e. apart (same_index rule.hooks differ t index hook (subst (λ x. slice_get rule.hooks t ≡ Some x) e at) here))

    pub next_laid : dart_at m nodes new hook 0 ≡ slice_index darts index → (1 < rows → dart_at m nodes new hook 1 ≡ alpha m (label_at (letters rule Left hook) 0) (slice_index darts index)) → AreHooksLaid m rule darts walk rows nodes index old → AreHooksLaid m rule darts walk rows nodes (index + 1) new
    next_laid one other laid = record {
      first = λ h p at less. other_hook 0 h p at (omega (arith, some)) ∙ laid.first h p at less;
      at_darts = λ t h later low at. elim (cases_eq t index) [
        | inl same ↦ subst (λ u. dart_at m nodes new h 0 ≡ slice_index darts u) (sym same) (subst (λ x. dart_at m nodes new x 0 ≡ slice_index darts index) (one_hook rule.hooks index t hook h here at same) one)
        | inr apart ↦ other_hook t h 0 at apart ∙ laid.at_darts t h later (omega (arith, low, apart)) at
      ];
      in_step = λ t h later low at two. elim (cases_eq t index) [
        | inl same ↦ subst (λ u. dart_at m nodes new h 1 ≡ alpha m (label_at (letters rule Left h) 0) (slice_index darts u)) (sym same) (subst (λ x. dart_at m nodes new x 1 ≡ alpha m (label_at (letters rule Left x) 0) (slice_index darts index)) (one_hook rule.hooks index t hook h here at same) (other two))
        | inr apart ↦ other_hook t h 1 at apart ∙ laid.in_step t h later (omega (arith, low, apart)) at two
      ];
    }

-- ---- the rows of the candidate

pub edge_rows : (m : ArenaMap) (rule : Rule) (darts walk turns : List ℕ) (nodes rows : ℕ) (old new : List Slot) → width rule ≡ 1 → rows ≤ 2 → slice_index walk 0 ≡ slice_index darts 0 → AreHooksLaid m rule darts walk rows nodes (length rule.hooks) old →
    ((t h p : ℕ) → p < rows → slice_get rule.hooks t ≡ Some h → dart_at m nodes new h p ≡ dart_at m nodes old h p) → rows * nodes ≡ length new → AreLive m new → AreForcedRows m rule nodes rows new → AreRows m rule darts walk turns nodes rows new
edge_rows m rule darts walk turns nodes rows old new one few starts laid kept long live forced = record {
  along = record {
    long = long;
    live = live;
    hooked = λ h p first less. kept 0 h p less first ∙ laid.first h p first less;
    forced = forced;
  };
  at_darts = λ t h d some at named. elim (cases_eq t 0) [
    | inl start ↦ kept t h 0 some at ∙ laid.first h 0 (subst (λ k. slice_get rule.hooks k ≡ Some h) start at) some ∙ starts ∙ get_or_from_slice_get darts 0 d 0 (subst (λ k. slice_get darts k ≡ Some d) start named)
    | inr later ↦ kept t h 0 some at ∙ laid.at_darts t h (omega (arith, later)) (slice_get_within rule.hooks t h at) at ∙ get_or_from_slice_get darts t d 0 named
  ];
  in_step = in_step;
}
  where
    in_step : (t h p k : ℕ) → 0 < t → slice_get rule.hooks t ≡ Some h → p < rows → k < p * width rule → IsFirstTo turns p k → dart_at m nodes new h p ≡ stepped m rule nodes new k h
    in_step t h p k later at less turn first =
        let low : k < p * 1 = subst (λ w. k < p * w) one turn in
        let second : p ≡ 1 = omega (arith, low, less, few) in
        let zeroth : k ≡ 0 = omega (arith, low, second) in
        let two : 1 < rows = omega (arith, less, second) in
        let within = slice_get_within rule.hooks t h at in
        rw (second, zeroth, one) (kept t h 1 two at ∙ laid.in_step t h later within at two ∙ ap (alpha m (label_at (letters rule Left h) 0)) (sym (kept t h 0 (omega (arith, two)) at ∙ laid.at_darts t h later within at)))

-- the hooks' steps and those of the links
pub edge_cost : (rows hooks nodes start before after : ℕ) → 0 < rows → 0 < hooks → before + 1 ≡ start + hooks → after + rows * hooks ≤ before + rows * nodes → after + rows ≤ start + rows * nodes
edge_cost rows hooks nodes start before after some several laid led = omega (arith, laid, led, less rows hooks some several)
  where
    less : (rows hooks : ℕ) → 0 < rows → 0 < hooks → rows + hooks ≤ rows * hooks + 1
    less zero hooks some several = absurd (omega (arith, some))
    less (suc rows) zero some several = absurd (omega (arith, several))
    less (suc rows) (suc hooks) some several = omega arith

-- slots that were written through a slice are those that it has
pub written_whole : (slots behind : List Slot) (long : ℕ) → length slots ≡ long → slots ≡ take long (slots ++ behind)
written_whole slots behind long is = sym (take-append_seam slots behind) ∙ ap (λ n. take n (slots ++ behind)) is

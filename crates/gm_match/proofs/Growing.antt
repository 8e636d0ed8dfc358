-- How the slots of the left nodes grow by a row, where each row is that of the candidate.
use Rattle.std.proofs.Common.{◌≡◌, ◌≢◌, ℕ, ◌+◌, ◌*◌, ◌/◌, ◌%◌, ◌<◌, ◌≤◌, ◌⊎◌, inl, inr, List, [], ◌++◌, get_or, length, take, set, Some, Result, Ok, Err, true≢false, sym, ap, subst, ◌∙◌, arith, length-append}
use Rattle.std.proofs.Math.Nat.{mul-le-mul_right}
use Rattle.std.proofs.lemmas.Bool.{cases_eq, cases_lt, cases_order}
use Rattle.std.proofs.lemmas.List.{length-take-le}
use Rattle.std.proofs.lemmas.List.Elements.{All-append, All-take}
use Rattle.std.proofs.lemmas.Nat.{mul-add-lt}
use Rattle.std.proofs.lemmas.Option.{slice_get-get_or, slice_get_within, get_or_from_slice_get}
use Rattle.std.specs.List.{slice_get}
use Rattle.std.specs.Result.{IsErr, OnOk}
use Rattle.std.specs.Prelude.{slice_index}
use Rattle.gm_model.specs.declared.rule.Side.TheVariants.{Left}
use Rattle.gm_model.specs.declared.schema.Schema.{Schema}
use Rattle.gm_model.specs.Matches.{IsPathTo}
use Rattle.gm_model.specs.Orbits.{HasNoRepeats, follow}
use Rattle.gm_model.specs.Rules.{Rule, letters, label_at, first_hook, width}
use Rattle.gm_arena.specs.declared.slot.Slot.{Slot}
use Rattle.gm_arena.specs.inner.ArenaMap.{ArenaMap, IsLiveSlot, name_at, alpha}
use Rattle.gm_plan.specs.inner.Plans.{IsLeftCount, IsPlanned}
use Rattle.gm_theory.proofs.Candidates.{hook_left}
use Rattle.gm_theory.proofs.Lists.{some_same}
use Rattle.gm_theory.proofs.Walks.{same_place}
use Rattle.gm_walk.specs.inner.Walks.{names_of}
use Rattle.gm_walk.proofs.NameLemmas.{name_there}
use Rattle.gm_match.specs.inner.Layout.{AreRows, IsFirstTo, IsForcedRow, dart_in, dart_at, stepped}
use Rattle.gm_match.specs.inner.Outcome.{name_of}
use Rattle.gm_walk.proofs.CellLemmas.{get_left, get_right, get_front}
use Rattle.gm_match.proofs.Hooks.{row_below}
use Rattle.gm_match.proofs.Paths.{dart_set, dart_stays, path_left}

-- ---- the hooks of a row

-- a hook has one index
pub same_index : (hooks : List ℕ) → HasNoRepeats hooks → (t u h : ℕ) → slice_get hooks t ≡ Some h → slice_get hooks u ≡ Some h → t ≡ u
same_index hooks differ t u h at there = same_place hooks t u differ (slice_get_within hooks t h at) (slice_get_within hooks u h there) (get_or_from_slice_get hooks t h 0 at ∙ sym (get_or_from_slice_get hooks u h 0 there))

-- and an index one hook
pub one_hook : (hooks : List ℕ) (t u h g : ℕ) → slice_get hooks t ≡ Some h → slice_get hooks u ≡ Some g → u ≡ t → h ≡ g
one_hook hooks t u h g at there same = some_same h g (sym at ∙ subst (λ k. slice_get hooks k ≡ Some g) same there)

-- where the slot of the hook at an index is set, the other hooks stay
module _ (m : ArenaMap) (hooks : List ℕ) (differ : HasNoRepeats hooks) (row : List Slot) (index hook : ℕ) (here : slice_get hooks index ≡ Some hook) (slot : Slot) where
  pub own_set : hook < length row → (t h : ℕ) → slice_get hooks t ≡ Some h → t ≡ index → dart_in m (set row hook slot) h ≡ name_at m slot.at
  own_set room t h at same = subst (λ x. dart_in m (set row hook slot) x ≡ name_at m slot.at) (one_hook hooks index t hook h here at same) (dart_set m row hook slot room)

  pub other_stays : (t h : ℕ) → slice_get hooks t ≡ Some h → t ≢ index → dart_in m (set row hook slot) h ≡ dart_in m row h
  other_stays t h at apart = dart_stays m row hook slot h (λ e. apart (same_index hooks differ t index hook (subst (λ x. slice_get hooks t ≡ Some x) e at) here))

-- one more hook lies at its dart
pub one_dart : (m : ArenaMap) (hooks : List ℕ) → HasNoRepeats hooks → (darts row : List Slot) (index hook : ℕ) → slice_get hooks index ≡ Some hook → hook < length row → index < length darts →
    ((t h : ℕ) → t < index → slice_get hooks t ≡ Some h → dart_in m row h ≡ slice_index (names_of m darts) t) →
    (t h : ℕ) → t < index + 1 → slice_get hooks t ≡ Some h → dart_in m (set row hook (get_or darts index (record { at = 0 }))) h ≡ slice_index (names_of m darts) t
one_dart m hooks differ darts row index hook here room within placed t h below at = go (cases_eq t index)
  where
    go : (t ≡ index) ⊎ (t ≢ index) → dart_in m (set row hook (get_or darts index (record { at = 0 }))) h ≡ slice_index (names_of m darts) t
    go (inl same) = own_set m hooks differ row index hook here (get_or darts index (record { at = 0 })) room t h at same ∙ sym (name_there m darts index (record { at = 0 }) within) ∙ ap (slice_index (names_of m darts)) (sym same)
    go (inr apart) = other_stays m hooks differ row index hook here (get_or darts index (record { at = 0 })) t h at apart ∙ placed t h (omega (arith, below)) at

-- ---- the first turn to a position

pub one_first : (turns : List ℕ) (p k l : ℕ) → IsFirstTo turns p k → IsFirstTo turns p l → k ≡ l
one_first turns p k l a b = elim (cases_order k l) [
  | inl same ↦ same
  | inr (inl less) ↦ absurd (omega (arith, b.before k less, get_or_from_slice_get turns k p 0 a.here))
  | inr (inr less) ↦ absurd (omega (arith, a.before l less, get_or_from_slice_get turns l p 0 b.here))
]

-- ---- one row more

-- a row has room for the left nodes
pub wide_row : (nodes most : ℕ) (row : List Slot) → nodes ≤ most → most ≤ 32 → length row ≡ 32 → nodes ≤ length row
wide_row nodes most row few low long = omega (arith, few, low, long)

pub none_ok : {T E : Type 0} (r : Result T E) (P : Type 0) → IsErr r → OnOk r P
none_ok (Ok x) P e = absurd (true≢false (sym e))
none_ok (Err y) P e = tt

module _ (m : ArenaMap) (schema : Schema) (rule : Rule) (planned : IsPlanned schema rule) (hooks walk turns : List ℕ) (nodes : ℕ) (counts : IsLeftCount rule nodes) where
  -- the hooks of a row lie where those of the candidate do at the next position
  pub record IsNextRow (rows : ℕ) (slots row : List Slot) : Type 0 where
    pub hooked : (h : ℕ) → first_hook rule ≡ Some h → dart_in m row h ≡ slice_index walk rows
    pub at_darts : (t h d : ℕ) → rows ≡ 0 → slice_get rule.hooks t ≡ Some h → slice_get hooks t ≡ Some d → dart_in m row h ≡ d
    pub in_step : (t h k : ℕ) → 0 < t → slice_get rule.hooks t ≡ Some h → k < rows * width rule → IsFirstTo turns rows k → dart_in m row h ≡ stepped m rule nodes slots k h

  pub none_yet : AreRows m rule hooks walk turns nodes 0 []
  none_yet = record {
    along = record {
      long = omega arith;
      live = λ k d h. absurd (omega (arith, h));
      hooked = λ h p first less. absurd (omega (arith, less));
      forced = λ x p hook path less to. absurd (omega (arith, less));
    };
    at_darts = λ t h d some at named. absurd (omega (arith, some));
    in_step = λ t h p k later at less turn first. absurd (omega (arith, less));
  }

  hook_below : (t h : ℕ) → slice_get rule.hooks t ≡ Some h → h < nodes
  hook_below t h at = (counts h).0 (hook_left schema rule planned.accepted.in_range planned.accepted.incidence t h at)

  module _ (rows : ℕ) (slots row : List Slot) (are : AreRows m rule hooks walk turns nodes rows slots) (next : IsForcedRow m rule row) (wide : nodes ≤ length row) where
    earlier : (x p : ℕ) → x < nodes → p < rows → dart_at m nodes (slots ++ take nodes row) x p ≡ dart_at m nodes slots x p
    earlier x p left less =
        let within : p * nodes + x < length slots = omega (arith, mul-add-lt p nodes x rows less left, are.along.long) in
        let here = slice_get-get_or slots (p * nodes + x) (record { at = 0 }) within in
        ap (name_of m) (get_left slots (take nodes row) (p * nodes + x) (get_or slots (p * nodes + x) (record { at = 0 })) here ∙ sym here)

    last : (x p : ℕ) → x < nodes → rows ≡ p → dart_at m nodes (slots ++ take nodes row) x p ≡ dart_in m row x
    last x p left same =
        let at : length slots + x ≡ p * nodes + x = ap (λ n. n + x) (sym are.along.long) ∙ ap (λ n. n * nodes + x) same in
        let here = slice_get-get_or row x (record { at = 0 }) (omega (arith, left, wide)) in
        ap (name_of m) (ap (slice_get (slots ++ take nodes row)) (sym at) ∙ get_right slots (take nodes row) x (get_or row x (record { at = 0 })) (get_front row nodes x (get_or row x (record { at = 0 })) wide left here) ∙ sym here)

    stepped_stays : (h k : ℕ) → h < nodes → k < rows * width rule → stepped m rule nodes (slots ++ take nodes row) k h ≡ stepped m rule nodes slots k h
    stepped_stays h k left less = ap (alpha m (label_at (letters rule Left h) (k % width rule))) (earlier h (k / width rule) left (row_below k rows (width rule) less))

    pub one_more : IsNextRow rows slots row → AreRows m rule hooks walk turns nodes (rows + 1) (slots ++ take nodes row)
    one_more fits = record {
      along = record {
        long = omega (arith, are.along.long, length-append slots (take nodes row), length-take-le nodes row wide);
        live = All-append (λ (s : Slot). IsLiveSlot m s.at) slots (take nodes row) are.along.live (All-take (λ (s : Slot). IsLiveSlot m s.at) nodes row next.live);
        hooked = λ h p first less. elim (cases_lt p rows) [
          | inl before ↦ earlier h p (hook_below 0 h first) before ∙ are.along.hooked h p first before
          | inr after ↦ last h p (hook_below 0 h first) (omega (arith, less, after)) ∙ fits.hooked h first ∙ ap (slice_index walk) (omega (arith, less, after))
        ];
        forced = forced;
      };
      at_darts = λ t h d some at named. elim (cases_lt 0 rows) [
        | inl before ↦ earlier h 0 (hook_below t h at) before ∙ are.at_darts t h d before at named
        | inr after ↦ last h 0 (hook_below t h at) (omega (arith, after)) ∙ fits.at_darts t h d (omega (arith, after)) at named
      ];
      in_step = in_step;
    }
      where
        in_step : (t h p k : ℕ) → 0 < t → slice_get rule.hooks t ≡ Some h → p < rows + 1 → k < p * width rule → IsFirstTo turns p k → dart_at m nodes (slots ++ take nodes row) h p ≡ stepped m rule nodes (slots ++ take nodes row) k h
        in_step t h p k later at less turn first = go (cases_lt p rows)
          where
            left : h < nodes
            left = hook_below t h at

            go : (p < rows) ⊎ (rows ≤ p) → dart_at m nodes (slots ++ take nodes row) h p ≡ stepped m rule nodes (slots ++ take nodes row) k h
            go (inl before) =
                let no_later : p ≤ rows = omega (arith, before) in
                let low : k < rows * width rule = omega (arith, turn, mul-le-mul_right (width rule) no_later) in
                earlier h p left before ∙ are.in_step t h p k later at before turn first ∙ sym (stepped_stays h k left low)
            go (inr after) =
                let same : rows ≡ p = omega (arith, less, after) in
                let low : k < rows * width rule = subst (λ n. k < n * width rule) (sym same) turn in
                last h p left same ∙ fits.in_step t h k later at low (subst (λ n. IsFirstTo turns n k) (sym same) first) ∙ sym (stepped_stays h k left low)

        forced : (x p hook : ℕ) (path : List ℕ) → p < rows + 1 → IsPathTo rule x hook path → dart_at m nodes (slots ++ take nodes row) x p ≡ follow (alpha m) path (dart_at m nodes (slots ++ take nodes row) hook p)
        forced x p hook path less to = go (cases_lt p rows)
          where
            left : x < nodes
            left = (counts x).0 (path_left schema rule planned x hook path to)

            hooked : hook < nodes
            hooked = hook_below to.index hook to.hook_at

            go : (p < rows) ⊎ (rows ≤ p) → dart_at m nodes (slots ++ take nodes row) x p ≡ follow (alpha m) path (dart_at m nodes (slots ++ take nodes row) hook p)
            go (inl before) = earlier x p left before ∙ are.along.forced x p hook path before to ∙ ap (follow (alpha m) path) (sym (earlier hook p hooked before))
            go (inr after) =
                let same : rows ≡ p = omega (arith, less, after) in
                last x p left same ∙ next.forced x hook path to ∙ ap (follow (alpha m) path) (sym (last hook p hooked same))

  -- ---- the rows that are made

  pub first_next : (row : List Slot) → slice_index walk 0 ≡ slice_index hooks 0 → ((t h : ℕ) → slice_get rule.hooks t ≡ Some h → dart_in m row h ≡ slice_index hooks t) → IsNextRow 0 [] row
  first_next row starts lies = record {
    hooked = λ h first. lies 0 h first ∙ sym starts;
    at_darts = λ t h d none at named. lies t h at ∙ get_or_from_slice_get hooks t d 0 named;
    in_step = λ t h k later at low first. absurd (omega (arith, low));
  }

  pub later_next : (rows turn : ℕ) (slots row : List Slot) (first : ℕ) → 0 < rows → (1 < length rule.hooks → IsFirstTo turns rows turn) → first ≡ slice_index walk rows → ((h : ℕ) → first_hook rule ≡ Some h → dart_in m row h ≡ first) →
      ((t h count : ℕ) → 0 < t → slice_get rule.hooks t ≡ Some h → IsLeftCount rule count → dart_in m row h ≡ stepped m rule count slots turn h) → IsNextRow rows slots row
  later_next rows turn slots row first some is_first along lies steps = record {
    hooked = λ h at. lies h at ∙ along;
    at_darts = λ t h d none at named. absurd (omega (arith, some, none));
    in_step = λ t h k later at low to.
        let several : 1 < length rule.hooks = omega (arith, later, slice_get_within rule.hooks t h at) in
        steps t h nodes later at counts ∙ ap (λ l. stepped m rule nodes slots l h) (one_first turns rows turn k (is_first several) to);
  }

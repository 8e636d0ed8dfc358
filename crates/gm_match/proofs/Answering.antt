-- What is answered, from what the parts of matching have found.
use Rattle.std.proofs.Common.{not, ◌≡◌, ◌≢◌, ℕ, ◌+◌, ◌*◌, ◌<◌, ◌≤◌, ◌⊎◌, inl, inr, Bool, true, false, IsTrue, List, [], ◌∷◌, length, get_or, take, None, Some, refl, sym, ap, subst, ◌∙◌, arith}
use Rattle.std.proofs.lemmas.Bool.{eqb-true, false≢true}
use Rattle.std.proofs.lemmas.List.{length-map, length-take, get_or-take}
use Rattle.std.proofs.lemmas.Option.{slice_get-get_or, slice_get_within, get_or_from_slice_get}
use Rattle.std.specs.FinMap.{get}
use Rattle.std.specs.List.{slice_get, All, Contains}
use Rattle.std.specs.Prelude.{slice_index, ◌==◌}
use Rattle.gm_model.specs.declared.rule.RuleTable.{RuleTable}
use Rattle.gm_model.specs.declared.rule.Side.TheVariants.{Left}
use Rattle.gm_model.specs.declared.schema.Schema.{Schema}
use Rattle.gm_model.specs.declared.value.Value.{Value}
use Rattle.gm_model.specs.Applications.{HasHookDarts, HasPositions, NoDarts, Candidate, IsFirstRepeat, IsRepeat}
use Rattle.gm_model.specs.Applications.IsRefused.{NoHookDart, BrokenStep, Repeated}
use Rattle.gm_model.specs.Maps.{IsGeneralised}
use Rattle.gm_model.specs.Matches.{Placement, ArePositions, IsCandidate, IsInstance, IsMatch, along_hook}
use Rattle.gm_model.specs.Matches.ArePositions.{Created}
use Rattle.gm_model.specs.Orbits.{IsPairBefore, IsWalk}
use Rattle.gm_model.specs.Rules.{Rule, rule_of, first_hook, has_word, width}
use Rattle.gm_model.specs.Structure.{IsInRange, HasIncidence}
use Rattle.gm_arena.specs.declared.slot.Slot.{Slot}
use Rattle.gm_arena.specs.inner.ArenaAsMap.{as_map}
use Rattle.gm_arena.specs.inner.ArenaMap.{ArenaMap, IsLiveName, name_at}
use Rattle.gm_arena.specs.inner.Lawful.{IsLawful}
use Rattle.gm_arena.proofs.MapLemmas.{IsAt-name_at, IsLiveName-name_at}
use Rattle.gm_plan.specs.inner.Placed.{Placed, slot_at}
use Rattle.gm_plan.specs.inner.Plans.{IsPlanned}
use Rattle.gm_plan.proofs.Hooks.{few_hooks}
use Rattle.gm_theory.specs.inner.OneMatch.{IsLike}
use Rattle.gm_theory.proofs.Agreement.{IsCreatedBy, IsWalkedBy, positions_parts, walked_from, candidates_agree, met_alike}
use Rattle.gm_theory.proofs.Candidates.{hook_left, match_is_candidate, candidate_is_match}
use Rattle.gm_theory.proofs.Lists.{get_contained, none_some, some_same}
use Rattle.gm_theory.proofs.Turns.{no_places}
use Rattle.gm_theory.proofs.Walks.{walk_unique}
use Rattle.gm_walk.specs.inner.Walks.{AreLive, names_of}
use Rattle.gm_walk.proofs.NameLemmas.{name_there}
use Rattle.gm_match.specs.declared.fault.MatchFault.{MatchFault}
use Rattle.gm_match.specs.inner.Firsts.{AreMet, IsFirstStep}
use Rattle.gm_match.specs.inner.Firsts.IsFirstStep.{NotMet}
use Rattle.gm_match.specs.inner.Layout.{AreDarts, AreHookSlots, IsNoDart, IsCandidateAt}
use Rattle.gm_match.specs.inner.Layout.IsNoDart.{Dead}
use Rattle.gm_match.proofs.InArena.{answered, named_slot}
use Rattle.gm_plan.specs.inner.InArena.{placement_in}
use Rattle.gm_match.specs.inner.Outcome.{application_of, name_of, IsAnswer, IsCause}
use Rattle.gm_match.specs.inner.Taken.{TakeEachOnce, TakeEachOnceBefore, TakesEachOnce, IsFirstTwice}
use Rattle.gm_match.specs.inner.Taken.IsFirstTwice.{Twice}
use Rattle.gm_match.proofs.Costs.{found_cost, met_cost}
use Rattle.gm_match.proofs.Stepping.{one_slot, slot_live, slot_some, meets_all, first_broken}

-- ---- lists of hooks

pub no_items : {A : Type 0} (xs : List A) → length xs ≡ 0 → xs ≡ []
no_items [] e = refl
no_items (x ∷ xs) e = absurd (omega arith)

-- the first hook that a table has is that of its rule
pub first_same : (table other : RuleTable) (hooks : List ℕ) → hooks ≡ other.hooks → other ≡ table → slice_index hooks 0 ≡ slice_index (rule_of table).hooks 0
first_same table other hooks are same = ap (λ hs. slice_index hs 0) are ∙ ap (λ (t : RuleTable). slice_index t.hooks 0) same

-- what isn't one by a comparison isn't one
pub several_letters : (len long : ℕ) → len ≡ long → IsTrue (not (len == 1)) → long ≢ 1
several_letters len long same is one = false≢true (subst (λ n. IsTrue (not (n == 1))) (same ∙ one) is)

pub none_within : (items : List ℕ) (n : ℕ) → items ≡ [] → All (λ q. q < n) items
none_within items n none k d h = absurd (omega (arith, ap length none))

-- what is taken is no longer than what it is taken from
pub within_taken : {A : Type 0} (n : ℕ) (xs : List A) → length (take n xs) ≡ n → n ≤ length xs
within_taken n xs e = omega (arith, length-take n xs)

pub is_nil : (xs : List ℕ) (empty : Bool) → empty ≡ (length xs == 0) → empty ≡ true → xs ≡ []
is_nil xs empty is e = no_items xs (eqb-true (length xs) 0 (sym is ∙ e))

pub not_nil : (xs : List ℕ) (empty : Bool) → empty ≡ (length xs == 0) → empty ≡ false → 0 < length xs
not_nil [] empty is e = absurd (let both : true ≡ false = sym is ∙ e in cc)
not_nil (x ∷ xs) empty is e = omega arith

-- what the parts need of map and rule
pub record IsMatchable (m : ArenaMap) (rule : Rule) : Type 0 where
  pub generalised : IsGeneralised (as_map m)
  pub in_range : IsInRange m.schema rule
  pub incidence : HasIncidence m.schema.dim rule
  pub few : length rule.hooks ≤ length rule.nodes

pub sound_of : (m : ArenaMap) (schema : Schema) (rule : Rule) → IsGeneralised (as_map m) → m.schema ≡ schema → IsPlanned schema rule → IsMatchable m rule
sound_of m schema rule generalised same planned = record {
  generalised = generalised;
  in_range = subst (λ s. IsInRange s rule) (sym same) planned.accepted.in_range;
  incidence = subst (λ (s : Schema). HasIncidence s.dim rule) (sym same) planned.accepted.incidence;
  few = few_hooks schema rule planned;
}

-- ---- hook darts

pub as_many : (m : ArenaMap) (hooks : List ℕ) (slots : List Slot) → AreHookSlots m hooks slots → length slots ≡ length hooks
as_many m hooks slots are = sym (length-map slots (λ (s : Slot). name_at m s.at)) ∙ ap length are.names

-- the slots of hook darts are those of live darts
pub named_live : (m : ArenaMap) (hooks : List ℕ) (slots : List Slot) → IsLawful m → AreHookSlots m hooks slots → AreDarts m hooks (length hooks)
named_live m hooks slots lawful are k d within at =
    let inside : k < length slots = omega (arith, within, ap length are.names, length-map slots (λ (s : Slot). name_at m s.at)) in
    let name : name_at m (get_or slots k (record { at = 0 })).at ≡ d = sym (name_there m slots k (record { at = 0 }) inside) ∙ get_or_from_slice_get (names_of m slots) k d 0 (subst (λ xs. slice_get xs k ≡ Some d) (sym are.names) at) in
    subst (IsLiveName m) name (IsLiveName-name_at m (get_or slots k (record { at = 0 })).at lawful (are.live k (record { at = 0 }) inside))

-- a scratch that fits an arena has room for live slots
pub slots_below : (m : ArenaMap) (slots : List Slot) (bound : ℕ) → IsLawful m → AreLive m slots → m.bound ≤ bound → All (λ (s : Slot). s.at < bound) slots
slots_below m slots bound lawful live fits k d h = omega (arith, lawful.below_bound (get_or slots k d).at (name_at m (get_or slots k d).at) (IsAt-name_at m (get_or slots k d).at (live k d h)))

-- the dart of the first hook has one of the arena's slots
pub first_below : (m : ArenaMap) (hooks : List ℕ) (slots : List Slot) → IsLawful m → AreHookSlots m hooks (take (length hooks) slots) → 0 < length hooks → (get_or slots 0 (record { at = 0 })).at < m.bound
first_below m hooks slots lawful are some =
    subst (λ (s : Slot). s.at < m.bound) (get_or-take (length hooks) slots 0 (record { at = 0 }) some)
    (slots_below m (take (length hooks) slots) m.bound lawful are.live (omega arith) 0 (record { at = 0 }) (subst (λ n. 0 < n) (sym (as_many m hooks _ are)) some))

module _ (m : ArenaMap) (rule : Rule) (sound : IsMatchable m rule) where
  module _ (hooks : List ℕ) where
    pub darts_live : AreDarts m hooks (length hooks) → (params : List Value) → HasHookDarts (application_of m rule hooks params)
    darts_live live params d (k, h, e) = live k d h (slice_get-get_or hooks k d h ∙ ap Some e)

    -- ---- a hook that names no dart

    not_live : (d : ℕ) → get m.darts d ≡ None → IsLiveName m d → ⊥
    not_live d dead live = let e : false ≡ true = rw dead at live in (cc)

    pub dart_cause : (fault : MatchFault) → IsNoDart m hooks fault → (params : List Value) → IsCause (application_of m rule hooks params) fault
    dart_cause _ (Dead index d at dead before) params = NoHookDart index d at (not_live d dead) (λ k e less f. before k e less f)

    pub dart_missed : (fault : MatchFault) → IsNoDart m hooks fault → (place : Placement) → IsMatch (as_map m) rule hooks place → ⊥
    dart_missed _ (Dead index d at dead before) place found = go (positions_parts (as_map m) rule place hooks found.walk found.positions)
      where
        go : IsCreatedBy (as_map m) rule hooks place found.walk ⊎ IsWalkedBy (as_map m) rule hooks place found.walk → ⊥
        go (inl created) = none_some d (subst (λ xs. slice_get xs index ≡ Some d) created.no_dart at)
        go (inr walked) =
            let here : slice_get rule.hooks index ≡ Some (slice_index rule.hooks index) = slice_get-get_or rule.hooks index 0 (omega (arith, found.count, slice_get_within hooks index d at)) in
            let some : 0 < place.positions = omega (arith, walked.size, slice_get_within found.walk 0 walked.start walked.is_walk.starts) in
            let live : IsLiveName m (place.dart_of (slice_index rule.hooks index) 0) = found.embedded.live (slice_index rule.hooks index) 0 (hook_left m.schema rule sound.in_range sound.incidence index (slice_index rule.hooks index) here, some) in
            not_live d dead (subst (IsLiveName m) (found.at_darts index (slice_index rule.hooks index) d here at) live)

    -- as many steps as hooks, where one names no live dart
    pub missed_cost : (fault : MatchFault) → IsNoDart m hooks fault → length hooks ≡ length rule.hooks → (start looked : ℕ) → looked ≤ start + length hooks → (params : List Value) (k : ℕ) → HasPositions (application_of m rule hooks params) k → looked ≤ start + 8 * (m.schema.dim + 1) * (length rule.nodes * k + 1)
    missed_cost _ (Dead index d at dead before) same start looked cost params _ (NoDarts none) = found_cost (m.schema.dim + 1) (length rule.nodes) 1 start looked looked (omega arith) (omega arith) (omega (arith, cost, same, sound.few)) (omega arith)
    missed_cost _ (Dead index d at dead before) same start looked cost params _ (Candidate place live c) = absurd (not_live d dead (live d (get_contained hooks index d at)))

    -- ---- a creation rule

    module _ (none : rule.hooks ≡ []) (no_dart : hooks ≡ []) where
      no_left : (x : ℕ) → IsTrue (has_word rule Left x) → ⊥
      no_left x left = omega (arith, sound.incidence.structured.hook.0 x left, ap length none)

      pub created : (found : Placed) → found.slots ≡ [] → found.positions ≡ 1 → found.nodes ≡ 0 → found.places ≡ 0 → IsAnswer m rule hooks found
      created found slots one nodes places = answered m rule hooks found
          (candidate_is_match (as_map m) rule (placement_in m found) sound.in_range sound.incidence sound.generalised hooks candidate (λ d c. absurd (nothing d c)) (λ x p i at label. absurd (no_left x at.0)) (λ x p y q at other before same. no_left x at.0))
          (λ k d h. absurd (let e : length found.slots ≡ 0 = ap length slots in omega arith))
          (let e : length found.slots ≡ 0 = ap length slots in rw (nodes, one, e) refl)
          (λ x. ((λ left. absurd (no_left x left)), (λ h. absurd (omega arith))))
          (places ∙ sym (no_places rule none))
        where
          no_hook : {P : Type 0} → (t h : ℕ) → slice_get rule.hooks t ≡ Some h → P
          no_hook t h at = none_some h (subst (λ hs. slice_get hs t ≡ Some h) none at)

          candidate : IsCandidate (as_map m) rule hooks (placement_in m found)
          candidate = record {
            count = ap length no_dart ∙ sym (ap length none);
            walk = [];
            positions = subst (λ hs. ArePositions (as_map m) rule (placement_in m found) hs []) (sym no_dart) (Created none one);
            hooked = λ h p first less. no_hook 0 h first;
            at_darts = λ t h d at named. no_hook t h at;
            in_step = λ t h p q l later at some less turn. no_hook t h at;
            forced = λ x p hook path at to. absurd (no_left x at.0);
          }

          nothing : (d : ℕ) → Contains hooks d → ⊥
          nothing d (k, h, e) = let z : length hooks ≡ 0 = ap length no_dart in omega arith

-- there is a hook, and each names a live dart
pub record IsBegun (m : ArenaMap) (rule : Rule) (hooks : List ℕ) : Type 0 where
  pub sound : IsMatchable m rule
  pub lawful : IsLawful m
  pub some : 0 < length hooks
  pub live : AreDarts m hooks (length hooks)
  pub count : length hooks ≡ length rule.hooks

pub begun_of : (m : ArenaMap) (rule : Rule) (hooks : List ℕ) (slots : List Slot) → IsMatchable m rule → IsLawful m → 0 < length hooks → length hooks ≡ length rule.hooks → AreHookSlots m hooks slots → IsBegun m rule hooks
begun_of m rule hooks slots sound lawful some same are = record { sound = sound; lawful = lawful; some = some; live = named_live m hooks slots lawful are; count = same }

-- the same from what was looked up and asked until then
pub begun_with : (m : ArenaMap) (schema : Schema) (rule : Rule) (hooks : List ℕ) (slots : List Slot) (empty : Bool) → IsGeneralised (as_map m) → m.schema ≡ schema → IsPlanned schema rule → IsLawful m →
    empty ≡ (length hooks == 0) → empty ≡ false → length hooks ≡ length rule.hooks → AreHookSlots m hooks slots → IsBegun m rule hooks
begun_with m schema rule hooks slots empty generalised same planned lawful is_empty some count are =
    begun_of m rule hooks slots (sound_of m schema rule generalised same planned) lawful (not_nil hooks empty is_empty some) count are

-- and the instances that were made are the candidate
pub record IsMade (m : ArenaMap) (rule : Rule) (hooks : List ℕ) (found : Placed) : Type 0 where
  pub begun : IsBegun m rule hooks
  pub at : IsCandidateAt m rule hooks found

pub made_with : (m : ArenaMap) (schema : Schema) (rule : Rule) (hooks : List ℕ) (slots : List Slot) (empty : Bool) (found : Placed) → IsGeneralised (as_map m) → m.schema ≡ schema → IsPlanned schema rule → IsLawful m →
    empty ≡ (length hooks == 0) → empty ≡ false → length hooks ≡ length rule.hooks → AreHookSlots m hooks slots → IsCandidateAt m rule (names_of m slots) found → IsMade m rule hooks found
made_with m schema rule hooks slots empty found generalised same planned lawful is_empty some count are at = record {
  begun = begun_with m schema rule hooks slots empty generalised same planned lawful is_empty some count are;
  at = subst (λ hs. IsCandidateAt m rule hs found) are.names at;
}

module _ (m : ArenaMap) (rule : Rule) (hooks : List ℕ) (begun : IsBegun m rule hooks) where
  first_dart : slice_get hooks 0 ≡ Some (slice_index hooks 0)
  first_dart = slice_get-get_or hooks 0 0 begun.some

  abbrev pub hook : ℕ
  hook = slice_index rule.hooks 0

  pub first : first_hook rule ≡ Some hook
  first = slice_get-get_or rule.hooks 0 0 (omega (arith, begun.some, begun.count))

  left : IsTrue (has_word rule Left hook)
  left = hook_left m.schema rule begun.sound.in_range begun.sound.incidence 0 hook first

  live_hooks : (params : List Value) → HasHookDarts (application_of m rule hooks params)
  live_hooks = darts_live m rule begun.sound hooks begun.live

  -- how many positions there are
  pub positions_are : (params : List Value) (k : ℕ) → HasPositions (application_of m rule hooks params) k → (walk : List ℕ) × IsWalk (along_hook (as_map m) rule) (width rule) (slice_index hooks 0) walk × (length walk ≡ k)
  positions_are params _ (NoDarts none) = absurd (none (live_hooks params))
  positions_are params _ (Candidate place live c) =
      let w = walked_from (as_map m) rule hooks place c.walk (slice_index hooks 0) first_dart c.positions in
      (c.walk, subst (λ e. IsWalk (along_hook (as_map m) rule) (width rule) e c.walk) (some_same w.start (slice_index hooks 0) (sym w.first ∙ first_dart)) w.is_walk, sym w.size)

  some_position : (params : List Value) (k : ℕ) → HasPositions (application_of m rule hooks params) k → 1 ≤ k
  some_position params k has = let w = positions_are params k has in omega (arith, w.2, slice_get_within w.0 0 (slice_index hooks 0) w.1.starts)

  -- the steps so far, from what the look-up of the hooks took, and what the candidate took
  module _ (start looked found_at : ℕ) (look : looked ≤ start + length hooks) (make : (walk : List ℕ) → IsWalk (along_hook (as_map m) rule) (width rule) (slice_index hooks 0) walk → found_at ≤ looked + 5 * (m.schema.dim + 1) * (length rule.nodes * length walk)) where
    few_looks : looked ≤ start + length rule.nodes
    few_looks = omega (arith, look, begun.count, begun.sound.few)

    made : (params : List Value) (k : ℕ) → HasPositions (application_of m rule hooks params) k → found_at ≤ looked + 5 * (m.schema.dim + 1) * (length rule.nodes * k)
    made params k has = let w = positions_are params k has in subst (λ n. found_at ≤ looked + 5 * (m.schema.dim + 1) * (length rule.nodes * n)) w.2 (make w.0 w.1)

    made_cost : (params : List Value) (k : ℕ) → HasPositions (application_of m rule hooks params) k → found_at ≤ start + 8 * (m.schema.dim + 1) * (length rule.nodes * k + 1)
    made_cost params k has = found_cost (m.schema.dim + 1) (length rule.nodes) k start looked found_at (omega arith) (some_position params k has) few_looks (made params k has)

  -- what the candidate took, by the names of the hooks' slots
  abbrev pub IsMadeWithin : List ℕ → ℕ → ℕ → Type 0
  IsMadeWithin names looked found_at = (walk : List ℕ) → IsWalk (along_hook (as_map m) rule) (width rule) (slice_index names 0) walk → found_at ≤ looked + 5 * (m.schema.dim + 1) * (length rule.nodes * length walk)

  pub named_cost : (names : List ℕ) → names ≡ hooks → (start looked found_at : ℕ) → looked ≤ start + length hooks → IsMadeWithin names looked found_at → (params : List Value) (k : ℕ) → HasPositions (application_of m rule hooks params) k → found_at ≤ start + 8 * (m.schema.dim + 1) * (length rule.nodes * k + 1)
  named_cost names same start looked found_at look make = made_cost start looked found_at look (subst (λ hs. IsMadeWithin hs looked found_at) same make)

  module _ (found : Placed) (at : IsCandidateAt m rule hooks found) where
    pub positions_found : (params : List Value) (k : ℕ) → HasPositions (application_of m rule hooks params) k → k ≡ found.positions
    positions_found params k has =
        let ours = positions_are params k has in
        let theirs = positions_are params found.positions (Candidate (placement_in m found) (live_hooks params) at.candidate) in
        sym ours.2 ∙ ap length (walk_unique (along_hook (as_map m) rule) (width rule) (slice_index hooks 0) ours.0 theirs.0 ours.1 theirs.1) ∙ theirs.2

    tested_cost : (start looked found_at met : ℕ) → looked ≤ start + length hooks → ((walk : List ℕ) → IsWalk (along_hook (as_map m) rule) (width rule) (slice_index hooks 0) walk → found_at ≤ looked + 5 * (m.schema.dim + 1) * (length rule.nodes * length walk)) →
        met ≤ found_at + 2 * (m.schema.dim + 1) * (length rule.nodes * found.positions) → (params : List Value) (k : ℕ) → HasPositions (application_of m rule hooks params) k → met ≤ start + 8 * (m.schema.dim + 1) * (length rule.nodes * k + 1)
    tested_cost start looked found_at met look make test params k has =
        met_cost (m.schema.dim + 1) (length rule.nodes) k start looked found_at met (omega arith) (some_position params k has) (few_looks start looked found_at look make) (made start looked found_at look make params k has)
        (subst (λ n. met ≤ found_at + 2 * (m.schema.dim + 1) * (length rule.nodes * n)) (sym (positions_found params k has)) test)

    pub named_tested_cost : (names : List ℕ) → names ≡ hooks → (start looked found_at met : ℕ) → looked ≤ start + length hooks → IsMadeWithin names looked found_at →
        met ≤ found_at + 2 * (m.schema.dim + 1) * (length rule.nodes * found.positions) → (params : List Value) (k : ℕ) → HasPositions (application_of m rule hooks params) k → met ≤ start + 8 * (m.schema.dim + 1) * (length rule.nodes * k + 1)
    named_tested_cost names same start looked found_at met look make = tested_cost start looked found_at met look (subst (λ hs. IsMadeWithin hs looked found_at) same make)

    like : (place : Placement) → IsMatch (as_map m) rule hooks place → IsLike rule (placement_in m found) place
    like place matched = candidates_agree (as_map m) rule hooks begun.sound.in_range begun.sound.incidence (placement_in m found) place at.candidate (match_is_candidate (as_map m) rule place begun.sound.in_range begun.sound.incidence hooks matched)

    -- ---- a step that isn't met

    pub step_cause : (fault : MatchFault) → IsFirstStep m rule found fault → (params : List Value) → IsCause (application_of m rule hooks params) fault
    step_cause _ (NotMet x p i node step) params = BrokenStep (placement_in m found) x p i (live_hooks params) at.candidate (first_broken m rule found at.laid hooks params x p i node step)

    pub step_missed : (fault : MatchFault) → IsFirstStep m rule found fault → (place : Placement) → IsMatch (as_map m) rule hooks place → ⊥
    step_missed _ (NotMet x p i node step) place matched =
        let b = first_broken m rule found at.laid hooks [] x p i node step in
        let l = like place matched in
        b.broken (met_alike (as_map m) rule hooks begun.sound.in_range begun.sound.incidence (placement_in m found) place l x p i b.instance b.label
        (matched.embedded.steps x p i (b.instance.0, subst (λ k. p < k) l.positions b.instance.1) b.label))

    -- ---- a dart that is taken twice

    -- two instances of one dart have one slot
    same_slots : (x p y q : ℕ) → IsInstance rule (placement_in m found) x p → IsInstance rule (placement_in m found) y q → (placement_in m found).dart_of x p ≡ (placement_in m found).dart_of y q → slot_at found x p ≡ slot_at found y q
    same_slots x p y q one other same = go (slot_some m found at.laid.long x p ((at.laid.nodes x).0 one.0) one.1) (slot_some m found at.laid.long y q ((at.laid.nodes y).0 other.0) other.1)
      where
        go : (s : Slot) × (slot_at found x p ≡ Some s) → (t : Slot) × (slot_at found y q ≡ Some t) → slot_at found x p ≡ slot_at found y q
        go (s, e) (t, f) =
            let names : name_at m s.at ≡ name_at m t.at = ap (name_of m) (sym e) ∙ named_slot m found x p ∙ same ∙ sym (named_slot m found y q) ∙ ap (name_of m) f in
            e ∙ ap Some (one_slot m begun.lawful s t (slot_live m found at.laid.slots x p s e) (slot_live m found at.laid.slots y q t f) names) ∙ sym f

    first_repeat : (params : List Value) (x p y q : ℕ) → y < found.nodes → p < found.positions → q < found.positions → IsPairBefore x p y q → slot_at found x p ≡ slot_at found y q → TakeEachOnceBefore found y q →
        IsFirstRepeat (application_of m rule hooks params) (placement_in m found) x p y q
    first_repeat params x p y q y_in p_in q_in before same distinct = record {
      here = record { first = ((at.laid.nodes x).1 (x_in before), p_in); second = ((at.laid.nodes y).1 y_in, q_in); later = before; same = sym (named_slot m found x p) ∙ ap (name_of m) same ∙ named_slot m found y q };
      before = λ x' p' y' q' earlier again. distinct x' p' y' q' again.later earlier again.first.1 again.second.1 (same_slots x' p' y' q' again.first again.second again.same);
    }
      where
        x_in : IsPairBefore x p y q → x < found.nodes
        x_in (inl less) = omega arith
        x_in (inr (e, less)) = omega arith

    pub twice_cause : AreMet m rule found → (fault : MatchFault) → IsFirstTwice found fault → (params : List Value) → IsCause (application_of m rule hooks params) fault
    twice_cause met _ (Twice x p y q y_in p_in q_in before same distinct) params =
        Repeated (placement_in m found) x p y q (live_hooks params) at.candidate (meets_all m rule found at.laid met) (first_repeat params x p y q y_in p_in q_in before same distinct)

    pub twice_missed : (fault : MatchFault) → IsFirstTwice found fault → (place : Placement) → IsMatch (as_map m) rule hooks place → ⊥
    twice_missed _ (Twice x p y q y_in p_in q_in before same distinct) place matched = go before (matched.embedded.injective x p y q (there x p r.first) (there y q r.second) (sym (l.darts x p r.first) ∙ r.same ∙ l.darts y q r.second))
      where
        r : IsRepeat (application_of m rule hooks []) (placement_in m found) x p y q
        r = (first_repeat [] x p y q y_in p_in q_in before same distinct).here

        l : IsLike rule (placement_in m found) place
        l = like place matched

        there : (z w : ℕ) → IsInstance rule (placement_in m found) z w → IsInstance rule place z w
        there z w one = (one.0, subst (λ k. w < k) l.positions one.1)

        go : IsPairBefore x p y q → (x ≡ y) × (p ≡ q) → ⊥
        go (inl less) (e, f) = omega arith
        go (inr (g, less)) (e, f) = omega arith

    -- ---- the first hook

    -- no two of its instances have one slot, since no dart comes twice in a walk
    pub hook_once : TakesEachOnce found hook
    hook_once q r less r_in same = walked.is_walk.distinct q r less (subst (λ k. r < k) walked.size r_in) (sym (lies q (omega (arith, less, r_in))) ∙ sym (named_slot m found hook q) ∙ ap (name_of m) same ∙ named_slot m found hook r ∙ lies r r_in)
      where
        walked : IsWalkedBy (as_map m) rule hooks (placement_in m found) at.candidate.walk
        walked = walked_from (as_map m) rule hooks (placement_in m found) at.candidate.walk (slice_index hooks 0) first_dart at.candidate.positions

        lies : (p : ℕ) → p < found.positions → (placement_in m found).dart_of hook p ≡ slice_index at.candidate.walk p
        lies p within = at.candidate.hooked hook p first within

    -- ---- a match

    pub answer : AreMet m rule found → TakeEachOnce found → IsAnswer m rule hooks found
    answer met distinct = answered m rule hooks found
        (candidate_is_match (as_map m) rule (placement_in m found) begun.sound.in_range begun.sound.incidence begun.sound.generalised hooks at.candidate (live_hooks []) (meets_all m rule found at.laid met) apart)
        at.laid.slots at.laid.long at.laid.nodes at.laid.places
      where
        apart : (x p y q : ℕ) → IsInstance rule (placement_in m found) x p → IsInstance rule (placement_in m found) y q → IsPairBefore x p y q → (placement_in m found).dart_of x p ≡ (placement_in m found).dart_of y q → ⊥
        apart x p y q one other before same = distinct x p y q before (inl ((at.laid.nodes y).0 other.0)) one.1 other.1 (same_slots x p y q one other same)

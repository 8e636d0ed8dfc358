-- From states that are alike the same statements have one run at most, with one pair of bounds, and leave states that are alike.
use Rattle.std.proofs.Common.{◌≡◌, ℕ, zero, suc, ◌+◌, ◌*◌, ◌<◌, ◌≤◌, Bool, true, false, IsTrue, List, [], ◌∷◌, Option, Some, None, slice_get, refl, sym, ap, ap₂, subst, ◌∙◌, arith, cond, if◌then◌else◌}
use Rattle.std.specs.List.{AllByRecursion, count_by}
use Rattle.std.specs.List.Sorted.{IsStrictlyIncreasing}
use Rattle.std.specs.Option.{option_map}
use Rattle.std.specs.Prelude.{is_some}
use Rattle.std.proofs.lemmas.List.Kept.{AllPairs-from_increasing}
use Rattle.std.proofs.lemmas.List.Sums.{sum_by-append}
use Rattle.std.proofs.lemmas.Option.{slice_get_within, get_or_from_slice_get, same_Some}
use Rattle.gm_model.specs.declared.schema.Schema.{Schema}
use Rattle.gm_model.specs.Statements.{Line, Stat}
use Rattle.gm_model.specs.declared.value.Value.{Value}
use Rattle.gm_model.specs.declared.word.Mask.{Mask}
use Rattle.gm_model.specs.Applications.{IsBudget}
use Rattle.gm_model.specs.Budgets.{Bounds, Entries, HasStatBounds, OfDone, OfRefused, OfSkipped, OfUndone, OfNoPast, OfRedone, OfNoFuture, OfBegun, OfKept, OfDropped, OfEach, IsLineBudget, IsRunWithin, TurnCosts, AreTurnCosts, changed_darts, done_part, entered, group_entered, each_entered, up_to}
use Rattle.gm_model.specs.Histories.{Group, changed, past_behind}
use Rattle.gm_model.specs.Kinds.{AreGoodParams}
use Rattle.gm_model.specs.Labels.{has}
use Rattle.gm_model.specs.Maps.{Map, IsDart, IsGeneralised, IsSchema, dimension}
use Rattle.gm_model.specs.Orbits.{IsLead}
use Rattle.gm_model.specs.Rules.{Rule}
use Rattle.gm_model.specs.Runs.{Outcome, Done, Refused, Skipped, Undone, Redone, NothingToUndo, NothingToRedo, Begun, Kept, Dropped, Each, State, Turn, Taken, Passed, AreLeads, AreTurns, IsLineOutcome, IsOutcome, IsStatOutcome, IsDoneHere, IsRefusedHere, IsSkipped, GoesBack, HasNoPast, GoesForth, HasNoFuture, Begins, Ends, IsTakenBack, GoesOver, IsRun, application_by, behind_done, behind_each, is_done_turn, is_passed, is_refused_turn, line_at, standing_at, told}
use Rattle.gm_theory.specs.inner.Outcomes.{IsGoodEach, IsGoodLine, IsSoundOf}
use Rattle.gm_theory.specs.inner.Suited.{IsRuleOf, IsSuited}
use Rattle.gm_theory.proofs.RunsFound.{GoesOn, Stands, goes_on}
use Rattle.gm_theory.proofs.TurnsFound.{each_line, line_costs, rule_accepted}
use Rattle.gm_theory.proofs.ValuesLists.{in_contained, contains_in}
use Rattle.gm_apply.proofs.Counting.{count_same}
use Rattle.gm_apply.proofs.LikeOrbits.{orbit_same}
use Rattle.gm_theory.proofs.ValuesUnique.{one_count}
use Rattle.gm_run.specs.inner.Alike.{AreAlike, AreAllAlike, AreAlikeGroups, AreAlikeStates}
use Rattle.gm_run.proofs.AlikeLemmas.{Suits, alike_back, alike_generalised}
use Rattle.gm_run.proofs.OneBudget.{one_budget, placed_sorted, same_sorted}
use Rattle.gm_run.proofs.OneOutcome.{one_outcome, same_budget}

-- ---- leads

ascending_places : (ds : List ℕ) → IsStrictlyIncreasing ds → (k l : ℕ) (a b : ℕ) → k < l → slice_get ds k ≡ Some a → slice_get ds l ≡ Some b → a < b
ascending_places ds up k l a b less at at' =
    let below = AllPairs-from_increasing ds up k l 0 less (slice_get_within ds l b at') in
    omega (arith, below, get_or_from_slice_get ds k a 0 at, get_or_from_slice_get ds l b 0 at')

less_asymmetric : (a b : ℕ) → a < b → b < a → ⊥
less_asymmetric a b h k = omega arith

module _ (mask : Mask) where
  -- a lead of one map is a lead of the other
  lead_there : (a b : Map) → IsGeneralised a → AreAlike a b → ((i : ℕ) → IsTrue (has mask i) → i ≤ dimension a) → (d : ℕ) → IsLead (IsDart a) a.alpha (has mask) d → IsLead (IsDart b) b.alpha (has mask) d
  lead_there a b old alike labels d lead = record {
    live = (alike.same.darts d).0 lead.live;
    least = λ e o live.
        let back = alike_back a b alike in
        let new = alike_generalised a b alike old in
        let low : (i : ℕ) → IsTrue (has mask i) → i ≤ dimension b = λ i t. subst (λ (s : Schema). i ≤ s.dim) alike.schema (labels i t) in
        lead.least e (orbit_same (dimension b) (IsDart b) b.alpha a.alpha new.stays back.same.arcs (has mask) low d e ((alike.same.darts d).0 lead.live) o) ((alike.same.darts e).1 live);
  }

  one_leads : (a b : Map) → IsGeneralised a → AreAlike a b → ((i : ℕ) → IsTrue (has mask i) → i ≤ dimension a) → (leads others : List ℕ) → AreLeads a mask leads → AreLeads b mask others → leads ≡ others
  one_leads a b old alike labels leads others first second =
      same_sorted (λ x y. x < y) less_asymmetric leads others (placed_sorted (λ x y. x < y) less_asymmetric leads (ascending_places leads first.ascending)) (placed_sorted (λ x y. x < y) less_asymmetric others (ascending_places others second.ascending))
      (λ d. (
        (λ i. in_contained others d ((second.same.same d).1 (lead_there a b old alike labels d ((first.same.same d).0 (contains_in leads d i))))),
        (λ i. in_contained leads d ((first.same.same d).1 (lead_there b a (alike_generalised a b alike old) (alike_back a b alike) (λ l t. subst (λ (s : Schema). l ≤ s.dim) alike.schema (labels l t)) d ((second.same.same d).0 (contains_in others d i))))),
      ))

-- ---- lines

-- what a line may take at a map, it may where both are called otherwise
pub moved : (rules : List Rule) (map before : Map) (line other : Line) (most : ℕ) → map ≡ before → line ≡ other → IsLineBudget rules map line most → IsLineBudget rules before other most
moved rules map before line other most at asks budget = subst (λ m. IsLineBudget rules m other most) at (subst (λ l. IsLineBudget rules map l most) asks budget)

-- ---- turns

-- as many were done, refused and passed over
pub record AreSameTurns (turns others : List Turn) : Type 0 where
  pub done : count_by is_done_turn turns ≡ count_by is_done_turn others
  pub refused : count_by is_refused_turn turns ≡ count_by is_refused_turn others
  pub passed : count_by is_passed turns ≡ count_by is_passed others

-- whether a turn was refused is told by its outcome alone
refused_alike : (a b : Map) (line other : Line) (outcome : Outcome) → is_refused_turn (Taken a line outcome) ≡ is_refused_turn (Taken b other outcome)
refused_alike a b line other (Done added removed) = refl
refused_alike a b line other (Refused cause) = refl
refused_alike a b line other Skipped = refl
refused_alike a b line other Undone = refl
refused_alike a b line other Redone = refl
refused_alike a b line other NothingToUndo = refl
refused_alike a b line other NothingToRedo = refl
refused_alike a b line other Begun = refl
refused_alike a b line other Kept = refl
refused_alike a b line other Dropped = refl
refused_alike a b line other (Each done refused passed) = refl

same_told : (turns others : List Turn) → AreSameTurns turns others → told turns ≡ told others
same_told turns others same =
    ap (λ (n : ℕ). Each n (count_by is_refused_turn turns) (count_by is_passed turns)) same.done ∙ ap (λ (n : ℕ). Each (count_by is_done_turn others) n (count_by is_passed turns)) same.refused
    ∙ ap (λ (n : ℕ). Each (count_by is_done_turn others) (count_by is_refused_turn others) n) same.passed

count_first : (p : Turn → Bool) (turn : Turn) (turns : List Turn) → count_by p (turn ∷ turns) ≡ cond (p turn) 1 0 + count_by p turns
count_first p turn turns = sum_by-append (λ (t : Turn). cond (p t) 1 0) (turn ∷ []) turns ∙ ap (λ n. n + count_by p turns) (omega arith)

count_same_first : (p : Turn → Bool) (turn other : Turn) (turns others : List Turn) → p turn ≡ p other → count_by p turns ≡ count_by p others → count_by p (turn ∷ turns) ≡ count_by p (other ∷ others)
count_same_first p turn other turns others first rest = count_first p turn turns ∙ ap₂ (λ (b : Bool) (n : ℕ). cond b 1 0 + n) first rest ∙ sym (count_first p other others)

same_first : (turn other : Turn) (turns others : List Turn) → is_done_turn turn ≡ is_done_turn other → is_refused_turn turn ≡ is_refused_turn other → is_passed turn ≡ is_passed other → AreSameTurns turns others → AreSameTurns (turn ∷ turns) (other ∷ others)
same_first turn other turns others done refused passed same = record {
  done = count_same_first is_done_turn turn other turns others done same.done;
  refused = count_same_first is_refused_turn turn other turns others refused same.refused;
  passed = count_same_first is_passed turn other turns others passed same.passed;
}

module _ (schema : Schema) (rules : List Rule) where
  suits : (a : Map) (index : ℕ) (rule : Rule) → IsRuleOf schema rules index → IsSoundOf schema a → slice_get rules index ≡ Some rule → Suits rule a
  suits a index rule of sound is = record {
    of_schema = subst (λ (s : Schema). IsSchema s) (sym sound.schema_is) of.of_schema;
    sound = sound.sound;
    accepted = rule_accepted schema rules a index rule of sound is;
  }

  pub one_line : (a b : Map) (line : Line) → IsRuleOf schema rules line.rule → IsSoundOf schema b → AreAlike a b → (outcome other : Outcome) (after end : Map) → IsLineOutcome rules a line outcome after → IsLineOutcome rules b line other end
      → (outcome ≡ other) × AreAlike after end
  one_line a b line of sound alike outcome other after end first second =
      one_outcome first.rule line.hooks line.params a b (suits b line.rule first.rule of sound first.rule_is) alike outcome other after end first.outcome_is
      (subst (λ r. IsOutcome (application_by b r line) other end) (same_Some second.rule first.rule (sym second.rule_is ∙ first.rule_is)) second.outcome_is)

  -- what a line may take at a map, it may take at a map alike
  pub budget_alike : (a b : Map) (line : Line) → IsRuleOf schema rules line.rule → IsSoundOf schema b → AreAlike a b → (most : ℕ) → IsLineBudget rules a line most → IsLineBudget rules b line most
  budget_alike a b line of sound alike most budget = record {
    rule = budget.rule;
    rule_is = budget.rule_is;
    budget = same_budget budget.rule line.hooks line.params a b (suits b line.rule budget.rule of sound budget.rule_is) alike most budget.budget;
  }

  pub one_line_budget : (a b : Map) (line : Line) → IsRuleOf schema rules line.rule → IsGoodLine rules line → IsSoundOf schema b → AreAlike a b → (most other : ℕ) → IsLineBudget rules a line most → IsLineBudget rules b line other → most ≡ other
  one_line_budget a b line of good sound alike most other first second =
      one_budget (application_by b second.rule line) (suits b line.rule second.rule of sound second.rule_is) params most other
      (subst (λ r. IsBudget (application_by b r line) most) (same_Some there.rule second.rule (sym there.rule_is ∙ second.rule_is)) there.budget) second.budget
    where
      there : IsLineBudget rules b line most
      there = budget_alike a b line of sound alike most first

      params : AreGoodParams second.rule line.params
      params = subst (λ (r : Rule). AreGoodParams r line.params) (same_Some good.rule second.rule (sym good.rule_is ∙ second.rule_is)) good.params

  -- ---- one application for each orbit

  module _ (index : ℕ) (params : List Value) (of : IsRuleOf schema rules index) (good : (d : ℕ) → IsGoodLine rules (line_at index params d)) where
    sound_between : (b : Map) (d : ℕ) (outcome : Outcome) (between : Map) → IsSoundOf schema b → IsLineOutcome rules b (line_at index params d) outcome between → IsSoundOf schema between
    sound_between b d outcome between sound is = (line_costs schema rules b (line_at index params d) of sound (good d) outcome between is).sound

    pub one_turns : (leads : List ℕ) (turns others : List Turn) (a b after end : Map) → IsSoundOf schema b → AreAlike a b → AreTurns rules index params a leads turns after → AreTurns rules index params b leads others end
        → AreSameTurns turns others × AreAlike after end
    one_turns [] [] [] a b after end sound alike e f = (record { done = refl; refused = refl; passed = refl }, subst (λ m. AreAlike m end) (sym e) (subst (AreAlike a) (sym f) alike))
    one_turns [] [] (other ∷ others) a b after end sound alike e f = absurd f
    one_turns [] (turn ∷ turns) others a b after end sound alike e f = absurd e
    one_turns (d ∷ leads) [] others a b after end sound alike e f = absurd e
    one_turns (d ∷ leads) (turn ∷ turns) [] a b after end sound alike e f = absurd f
    one_turns (d ∷ leads) (Taken map line outcome ∷ turns) (Taken map' line' other ∷ others) a b after end sound alike (live, at, asks, m, is, rest) (live', at', asks', n, is', rest') =
        let one : (outcome ≡ other) × AreAlike m n = one_line a b (line_at index params d) of sound alike outcome other m n is is' in
        let further : AreSameTurns turns others × AreAlike after end = one_turns leads turns others m n after end (sound_between b d other n sound is') one.1 rest rest' in
        (same_first (Taken map line outcome) (Taken map' line' other) turns others (ap (λ o. is_done_turn (Taken map line o)) one.0) (ap (λ o. is_refused_turn (Taken map line o)) one.0 ∙ refused_alike map map' line line' other) refl further.0, further.1)
    one_turns (d ∷ leads) (Taken map line outcome ∷ turns) (Passed ∷ others) a b after end sound alike (live, at, asks, m, is, rest) (dead, rest') = absurd (dead ((alike.same.darts d).0 live))
    one_turns (d ∷ leads) (Passed ∷ turns) (Taken map line other ∷ others) a b after end sound alike (dead, rest) (live, at, asks, n, is, rest') = absurd (dead ((alike.same.darts d).1 live))
    one_turns (d ∷ leads) (Passed ∷ turns) (Passed ∷ others) a b after end sound alike (dead, rest) (dead', rest') =
        let further : AreSameTurns turns others × AreAlike after end = one_turns leads turns others a b after end sound alike rest rest' in
        (same_first Passed Passed turns others refl refl refl further.0, further.1)

    pub one_costs : (leads : List ℕ) (turns others : List Turn) (a b after end : Map) (costs other : TurnCosts) → IsSoundOf schema b → AreAlike a b → AreTurns rules index params a leads turns after → AreTurns rules index params b leads others end
        → AreTurnCosts rules turns costs → AreTurnCosts rules others other → costs ≡ other
    one_costs [] [] [] a b after end costs other sound alike are are' e f = e ∙ sym f
    one_costs [] [] (t ∷ others) a b after end costs other sound alike are are' e f = absurd are'
    one_costs [] (t ∷ turns) others a b after end costs other sound alike are are' e f = absurd are
    one_costs (d ∷ leads) [] others a b after end costs other sound alike are are' e f = absurd are
    one_costs (d ∷ leads) (t ∷ turns) [] a b after end costs other sound alike are are' e f = absurd are'
    one_costs (d ∷ leads) (Taken map line o ∷ turns) (Taken map' line' p ∷ others) a b after end costs other sound alike (live, at, asks, m, is, are) (live', at', asks', n, is', are') (most, rest, budget, cost, e) (most', rest', budget', cost', f) =
        let here : IsLineBudget rules a (line_at index params d) most = moved rules map a line (line_at index params d) most at asks budget in
        let there : IsLineBudget rules b (line_at index params d) most' = moved rules map' b line' (line_at index params d) most' at' asks' budget' in
        let one : (o ≡ p) × AreAlike m n = one_line a b (line_at index params d) of sound alike o p m n is is' in
        let same : most ≡ most' = one_line_budget a b (line_at index params d) of (good d) sound alike most most' here there in
        let further : rest ≡ rest' = one_costs leads turns others m n after end rest rest' (sound_between b d p n sound is') one.1 are are' cost cost' in
        e
        ∙ ap (λ (x : Outcome). record { least = changed_darts x + rest.least; most = most + rest.most; done = done_part x most + rest.done }) one.0
        ∙ ap₂ (λ (x : ℕ) (r : TurnCosts). record { least = changed_darts p + r.least; most = x + r.most; done = done_part p x + r.done }) same further ∙ sym f
    one_costs (d ∷ leads) (Taken map line o ∷ turns) (Passed ∷ others) a b after end costs other sound alike (live, at, asks, m, is, are) (dead, are') cost cost' = absurd (dead ((alike.same.darts d).0 live))
    one_costs (d ∷ leads) (Passed ∷ turns) (Taken map line p ∷ others) a b after end costs other sound alike (dead, are) (live, at, asks, n, is, are') cost cost' = absurd (dead ((alike.same.darts d).1 live))
    one_costs (d ∷ leads) (Passed ∷ turns) (Passed ∷ others) a b after end costs other sound alike (dead, are) (dead', are') cost cost' = one_costs leads turns others a b after end costs other sound alike are are' cost cost'

  pub one_each_leads : (a b : Map) (mask : Mask) (index : ℕ) (params : List Value) → IsGoodEach rules schema.dim mask index params → IsSoundOf schema b → AreAlike a b → (leads others : List ℕ) → AreLeads a mask leads → AreLeads b mask others → leads ≡ others
  one_each_leads a b mask index params good sound alike leads others first second =
      sym (one_leads mask b a sound.sound.generalised (alike_back a b alike) (λ i t. subst (λ (s : Schema). i ≤ s.dim) (sym sound.schema_is) (good.labels i t)) others leads second first)

  -- ---- states

  -- an outcome, and a state alike
  abbrev AreOne : Outcome → Outcome → State → State → Type 0
  AreOne outcome other after end = (outcome ≡ other) × AreAlikeStates after end

  past_alike : (group other : Option Group) (m n : Map) (past others : List Map) → AreAlikeGroups group other → AreAlike m n → AreAllAlike past others → AreAllAlike (past_behind m group past) (past_behind n other others)
  past_alike None None m n past others groups alike all = (alike, all)
  past_alike None (Some other) m n past others groups alike all = absurd groups
  past_alike (Some group) None m n past others groups alike all = absurd groups
  past_alike (Some group) (Some other) m n past others groups alike all = all

  groups_changed : (group other : Option Group) → AreAlikeGroups group other → AreAlikeGroups (option_map changed group) (option_map changed other)
  groups_changed None None groups = tt
  groups_changed None (Some other) groups = absurd groups
  groups_changed (Some group) None groups = absurd groups
  groups_changed (Some group) (Some other) groups = (groups.0, refl)

  both_open : (group other : Option Group) → AreAlikeGroups group other → is_some group ≡ is_some other
  both_open None None groups = refl
  both_open None (Some other) groups = absurd groups
  both_open (Some group) None groups = absurd groups
  both_open (Some group) (Some other) groups = refl

  alike_done : (a b : State) (after end : Map) → AreAlikeStates a b → AreAlike after end → AreAlikeStates (behind_done a after) (behind_done b end)
  alike_done a b after end alike maps = record {
    map = maps;
    past = past_alike a.history.group b.history.group a.map b.map a.history.past b.history.past alike.group alike.map alike.past;
    future = tt;
    group = groups_changed a.history.group b.history.group alike.group;
    broken = alike.broken;
  }

  alike_each : (a b : State) (after end : Map) → AreAlikeStates a b → AreAlike after end → (done : ℕ) → AreAlikeStates (behind_each a done after) (behind_each b done end)
  alike_each a b after end alike maps zero = alike
  alike_each a b after end alike maps (suc done) = alike_done a b after end alike maps

  -- a group of one is alike to the group of the other
  groups_meet : (group other : Option Group) (g h : Group) → AreAlikeGroups group other → group ≡ Some g → other ≡ Some h → AreAlike g.map h.map × (g.is_changed ≡ h.is_changed)
  groups_meet group other g h groups e f = subst (λ o. AreAlikeGroups (Some g) o) f (subst (λ o. AreAlikeGroups o other) e groups)

  kept_alike : (g h : Group) (past others : List Map) → AreAlike g.map h.map → g.is_changed ≡ h.is_changed → AreAllAlike past others → AreAllAlike (if g.is_changed then g.map ∷ past else past) (if h.is_changed then h.map ∷ others else others)
  kept_alike g h past others maps same all = go g.is_changed h.is_changed same
    where
      go : (c d : Bool) → c ≡ d → AreAllAlike (if c then g.map ∷ past else past) (if d then h.map ∷ others else others)
      go true true e = (maps, all)
      go true false e = absurd cc
      go false true e = absurd cc
      go false false e = all

  -- where one has a past, the other has
  pasts_meet : (past others : List Map) (m n : Map) (rest rest' : List Map) → AreAllAlike past others → past ≡ m ∷ rest → others ≡ n ∷ rest' → AreAlike m n × AreAllAlike rest rest'
  pasts_meet past others m n rest rest' all e f = subst (AreAllAlike (m ∷ rest)) f (subst (λ ms. AreAllAlike ms others) e all)

  not_empty : (past others : List Map) (m : Map) (rest : List Map) → AreAllAlike past others → past ≡ m ∷ rest → others ≡ [] → ⊥
  not_empty past others m rest all e f = subst (AreAllAlike (m ∷ rest)) f (subst (λ ms. AreAllAlike ms others) e all)

  not_empty_back : (past others : List Map) (m : Map) (rest : List Map) → AreAllAlike past others → past ≡ [] → others ≡ m ∷ rest → ⊥
  not_empty_back past others m rest all e f = subst (AreAllAlike []) f (subst (λ ms. AreAllAlike ms others) e all)

  -- ---- one step

  broken_both : (a b : State) → AreAlikeStates a b → a.is_broken ≡ false → b.is_broken ≡ true → ⊥
  broken_both a b alike e f = let same : false ≡ true = sym e ∙ alike.broken ∙ f in absurd cc

  broken_back : (a b : State) → AreAlikeStates a b → a.is_broken ≡ true → b.is_broken ≡ false → ⊥
  broken_back a b alike e f = let same : true ≡ false = sym e ∙ alike.broken ∙ f in absurd cc

  pub one_step : (a b : State) (stat : Stat) (outcome other : Outcome) (after end : State) → IsSoundOf schema b.map → IsSuited schema rules stat → AreAlikeStates a b → IsStatOutcome rules a stat outcome after → IsStatOutcome rules b stat other end → AreOne outcome other after end
  one_step a b _ _ _ _ _ sound suited alike (IsDoneHere line added removed after whole is) (IsDoneHere _ added' removed' end whole' is') =
      let one = one_line a.map b.map line suited.1 sound alike.map (Done added removed) (Done added' removed') after end is is' in
      (one.0, alike_done a b after end alike one.1)
  one_step a b _ _ _ _ _ sound suited alike (IsDoneHere line added removed after whole is) (IsRefusedHere _ cause whole' is') =
      let one = one_line a.map b.map line suited.1 sound alike.map (Done added removed) (Refused cause) after b.map is is' in
      let same = one.0 in
      absurd cc
  one_step a b _ _ _ _ _ sound suited alike (IsDoneHere line added removed after whole is) (IsSkipped _ broken) = absurd (broken_both a b alike whole broken)
  one_step a b _ _ _ _ _ sound suited alike (IsRefusedHere line cause whole is) (IsDoneHere _ added removed end whole' is') =
      let one = one_line a.map b.map line suited.1 sound alike.map (Refused cause) (Done added removed) a.map end is is' in
      let same = one.0 in
      absurd cc
  one_step a b _ _ _ _ _ sound suited alike (IsRefusedHere line cause whole is) (IsRefusedHere _ cause' whole' is') =
      let one = one_line a.map b.map line suited.1 sound alike.map (Refused cause) (Refused cause') a.map b.map is is' in
      (one.0, record { map = alike.map; past = alike.past; future = alike.future; group = alike.group; broken = both_open a.history.group b.history.group alike.group })
  one_step a b _ _ _ _ _ sound suited alike (IsRefusedHere line cause whole is) (IsSkipped _ broken) = absurd (broken_both a b alike whole broken)
  one_step a b _ _ _ _ _ sound suited alike (IsSkipped line broken) (IsDoneHere _ added removed end whole is) = absurd (broken_back a b alike broken whole)
  one_step a b _ _ _ _ _ sound suited alike (IsSkipped line broken) (IsRefusedHere _ cause whole is) = absurd (broken_back a b alike broken whole)
  one_step a b _ _ _ _ _ sound suited alike (IsSkipped line broken) (IsSkipped _ broken') = (refl, alike)
  one_step a b _ _ _ _ _ sound suited alike (GoesBack m history is) (GoesBack n history' is') =
      let nearest = pasts_meet a.history.past b.history.past m n is.rest is'.rest alike.past is.past is'.past in (
        refl,
        subst (λ h. AreAlikeStates (standing_at m h) (standing_at n history')) (sym is.after)
            (subst (λ h. AreAlikeStates (standing_at m (record { past = is.rest; future = a.map ∷ a.history.future; group = None })) (standing_at n h)) (sym is'.after)
            (record { map = nearest.0; past = nearest.1; future = (alike.map, alike.future); group = tt; broken = refl })),
      )
  one_step a b _ _ _ _ _ sound suited alike (GoesBack m history is) (HasNoPast outside none) = absurd (not_empty a.history.past b.history.past m is.rest alike.past is.past none)
  one_step a b _ _ _ _ _ sound suited alike (HasNoPast outside none) (GoesBack n history is) = absurd (not_empty_back a.history.past b.history.past n is.rest alike.past none is.past)
  one_step a b _ _ _ _ _ sound suited alike (HasNoPast outside none) (HasNoPast outside' none') = (refl, alike)
  one_step a b _ _ _ _ _ sound suited alike (GoesForth m history is) (GoesForth n history' is') =
      let nearest = pasts_meet a.history.future b.history.future m n is.rest is'.rest alike.future is.future is'.future in (
        refl,
        subst (λ h. AreAlikeStates (standing_at m h) (standing_at n history')) (sym is.after)
            (subst (λ h. AreAlikeStates (standing_at m (record { past = a.map ∷ a.history.past; future = is.rest; group = None })) (standing_at n h)) (sym is'.after)
            (record { map = nearest.0; past = (alike.map, alike.past); future = nearest.1; group = tt; broken = refl })),
      )
  one_step a b _ _ _ _ _ sound suited alike (GoesForth m history is) (HasNoFuture outside none) = absurd (not_empty a.history.future b.history.future m is.rest alike.future is.future none)
  one_step a b _ _ _ _ _ sound suited alike (HasNoFuture outside none) (GoesForth n history is) = absurd (not_empty_back a.history.future b.history.future n is.rest alike.future none is.future)
  one_step a b _ _ _ _ _ sound suited alike (HasNoFuture outside none) (HasNoFuture outside' none') = (refl, alike)
  one_step a b _ _ _ _ _ sound suited alike (Begins outside) (Begins outside') = (refl, record { map = alike.map; past = alike.past; future = alike.future; group = (alike.map, refl); broken = refl })
  one_step a b _ _ _ _ _ sound suited alike (Ends g e whole) (Ends h f whole') =
      let same = groups_meet a.history.group b.history.group g h alike.group e f in
      (refl, record { map = alike.map; past = kept_alike g h a.history.past b.history.past same.0 same.1 alike.past; future = alike.future; group = tt; broken = refl })
  one_step a b _ _ _ _ _ sound suited alike (Ends g e whole) (IsTakenBack h f broken) = absurd (broken_both a b alike whole broken)
  one_step a b _ _ _ _ _ sound suited alike (IsTakenBack g e broken) (Ends h f whole) = absurd (broken_back a b alike broken whole)
  one_step a b _ _ _ _ _ sound suited alike (IsTakenBack g e broken) (IsTakenBack h f broken') =
      (refl, record { map = (groups_meet a.history.group b.history.group g h alike.group e f).0; past = alike.past; future = alike.future; group = tt; broken = refl })
  one_step a b _ _ _ _ _ sound suited alike (GoesOver mask index params leads turns after outside are are_turns) (GoesOver _ _ _ others turns' end outside' are' are_turns') =
      let same : leads ≡ others = one_each_leads a.map b.map mask index params suited.0 sound alike.map leads others are are' in
      let one = one_turns index params suited.1 (each_line rules schema.dim mask index params suited.0) others turns turns' a.map b.map after end sound alike.map (subst (λ ds. AreTurns rules index params a.map ds turns after) same are_turns) are_turns' in
      (same_told turns turns' one.0, subst (λ n. AreAlikeStates (behind_each a (count_by is_done_turn turns) after) (behind_each b n end)) one.0.done (alike_each a b after end alike one.1 (count_by is_done_turn turns)))

  -- ---- its bounds

  entered_alike : (group other : Option Group) (most : ℕ) (entries : Entries) → AreAlikeGroups group other → entered group most entries ≡ entered other most entries
  entered_alike None None most entries groups = refl
  entered_alike None (Some other) most entries groups = absurd groups
  entered_alike (Some group) None most entries groups = absurd groups
  entered_alike (Some group) (Some other) most entries groups = refl

  kept_entered : (g h : Group) (entries : Entries) → g.is_changed ≡ h.is_changed → group_entered g entries ≡ group_entered h entries
  kept_entered g h entries same = ap (λ (c : Bool). record { past = if c then entries.group ∷ entries.past else entries.past; future = entries.future; group = entries.group }) same

  -- the first of a list, and the others
  heads_same : (xs ys zs : List ℕ) (x y : ℕ) → zs ≡ x ∷ xs → zs ≡ y ∷ ys → (x ≡ y) × (xs ≡ ys)
  heads_same xs ys zs x y e f = let same : x ∷ xs ≡ y ∷ ys = sym e ∙ f in (cc, cc)

  abbrev AreSameBounds : Bounds → Bounds → Entries → Entries → Type 0
  AreSameBounds bounds other behind further = (bounds ≡ other) × (behind ≡ further)

  pub one_bounds : (a b : State) (entries : Entries) (stat : Stat) (outcome other : Outcome) (bounds bounds' : Bounds) (behind behind' : Entries) → IsSoundOf schema b.map → IsSuited schema rules stat → AreAlikeStates a b → outcome ≡ other
      → HasStatBounds rules a entries stat outcome bounds behind → HasStatBounds rules b entries stat other bounds' behind' → AreSameBounds bounds bounds' behind behind'
  one_bounds a b entries _ _ _ _ _ _ _ sound suited alike e (OfDone line added removed most budget) (OfDone _ added' removed' most' budget') =
      let same = one_line_budget a.map b.map line suited.1 suited.0 sound alike.map most most' budget budget' in
      let counts : (added ≡ added') × (removed ≡ removed') = (cc, cc) in (
        ap₂ (λ (x y : ℕ). record { least = x; most = y }) (ap₂ ◌+◌ counts.0 counts.1) same,
        ap (λ n. entered a.history.group n entries) same ∙ entered_alike a.history.group b.history.group most' entries alike.group,
      )
  one_bounds a b entries _ _ _ _ _ _ _ sound suited alike e (OfDone line added removed most budget) (OfRefused _ cause most' budget') = absurd cc
  one_bounds a b entries _ _ _ _ _ _ _ sound suited alike e (OfDone line added removed most budget) (OfSkipped _) = absurd cc
  one_bounds a b entries _ _ _ _ _ _ _ sound suited alike e (OfRefused line cause most budget) (OfDone _ added' removed' most' budget') = absurd cc
  one_bounds a b entries _ _ _ _ _ _ _ sound suited alike e (OfRefused line cause most budget) (OfRefused _ cause' most' budget') =
      (ap up_to (one_line_budget a.map b.map line suited.1 suited.0 sound alike.map most most' budget budget'), refl)
  one_bounds a b entries _ _ _ _ _ _ _ sound suited alike e (OfRefused line cause most budget) (OfSkipped _) = absurd cc
  one_bounds a b entries _ _ _ _ _ _ _ sound suited alike e (OfSkipped line) (OfDone _ added' removed' most' budget') = absurd cc
  one_bounds a b entries _ _ _ _ _ _ _ sound suited alike e (OfSkipped line) (OfRefused _ cause' most' budget') = absurd cc
  one_bounds a b entries _ _ _ _ _ _ _ sound suited alike e (OfSkipped line) (OfSkipped _) = (refl, refl)
  one_bounds a b entries _ _ _ _ _ _ _ sound suited alike e (OfUndone most rest is) (OfUndone most' rest' is') =
      let same = heads_same rest rest' entries.past most most' is is' in
      (ap up_to same.0, ap₂ (λ (x : ℕ) (xs : List ℕ). record { past = xs; future = x ∷ entries.future; group = entries.group }) same.0 same.1)
  one_bounds a b entries _ _ _ _ _ _ _ sound suited alike e (OfUndone most rest is) OfNoPast = absurd cc
  one_bounds a b entries _ _ _ _ _ _ _ sound suited alike e OfNoPast (OfUndone most rest is) = absurd cc
  one_bounds a b entries _ _ _ _ _ _ _ sound suited alike e OfNoPast OfNoPast = (refl, refl)
  one_bounds a b entries _ _ _ _ _ _ _ sound suited alike e (OfRedone most rest is) (OfRedone most' rest' is') =
      let same = heads_same rest rest' entries.future most most' is is' in
      (ap up_to same.0, ap₂ (λ (x : ℕ) (xs : List ℕ). record { past = x ∷ entries.past; future = xs; group = entries.group }) same.0 same.1)
  one_bounds a b entries _ _ _ _ _ _ _ sound suited alike e (OfRedone most rest is) OfNoFuture = absurd cc
  one_bounds a b entries _ _ _ _ _ _ _ sound suited alike e OfNoFuture (OfRedone most rest is) = absurd cc
  one_bounds a b entries _ _ _ _ _ _ _ sound suited alike e OfNoFuture OfNoFuture = (refl, refl)
  one_bounds a b entries _ _ _ _ _ _ _ sound suited alike e OfBegun OfBegun = (refl, refl)
  one_bounds a b entries _ _ _ _ _ _ _ sound suited alike e (OfKept g is) (OfKept h is') = (refl, kept_entered g h entries (groups_meet a.history.group b.history.group g h alike.group is is').1)
  one_bounds a b entries _ _ _ _ _ _ _ sound suited alike e (OfKept g is) OfDropped = absurd cc
  one_bounds a b entries _ _ _ _ _ _ _ sound suited alike e OfDropped (OfKept h is) = absurd cc
  one_bounds a b entries _ _ _ _ _ _ _ sound suited alike e OfDropped OfDropped = (refl, refl)
  one_bounds a b entries _ _ _ _ _ _ _ sound suited alike e (OfEach mask index params leads turns after costs darts are are_turns are_costs count) (OfEach _ _ _ others turns' end costs' darts' are' are_turns' are_costs' count') =
      let same : leads ≡ others = one_each_leads a.map b.map mask index params suited.0 sound alike.map leads others are are' in
      let here : AreTurns rules index params a.map others turns after = subst (λ ds. AreTurns rules index params a.map ds turns after) same are_turns in
      let lines : (d : ℕ) → IsGoodLine rules (line_at index params d) = each_line rules schema.dim mask index params suited.0 in
      let one : AreSameTurns turns turns' × AreAlike after end = one_turns index params suited.1 lines others turns turns' a.map b.map after end sound alike.map here are_turns' in
      let both : costs ≡ costs' = one_costs index params suited.1 lines others turns turns' a.map b.map after end costs costs' sound alike.map here are_turns' are_costs are_costs' in
      let counted : darts ≡ darts' = one_count (IsDart b.map) darts darts' (count_same (IsDart a.map) (IsDart b.map) darts (alike.map.same.darts) count) count' in (
        ap₂ (λ (c : TurnCosts) (n : ℕ). record { least = c.least; most = c.most + 12 * (dimension a.map + 1) * (n + 1) }) both counted
            ∙ ap (λ (s : Schema). record { least = costs'.least; most = costs'.most + 12 * (s.dim + 1) * (darts' + 1) }) alike.map.schema,
        ap₂ (λ (n : ℕ) (c : TurnCosts). each_entered n c.done entries) one.0.done both,
      )

  -- ---- all statements

  -- two runs of the same statements, from states that are alike
  pub one_run : (stats : List Stat) → AllByRecursion (IsSuited schema rules) stats → (a b : State) (entries : Entries) → Stands schema b entries → AreAlikeStates a b → (outcomes others : List Outcome) (after end : State)
      → IsRun rules a stats outcomes after → IsRun rules b stats others end → (outcomes ≡ others) × AreAlikeStates after end
  one_run [] suited a b entries stands alike [] [] after end e f = (refl, subst (λ s. AreAlikeStates s end) (sym e) (subst (AreAlikeStates a) (sym f) alike))
  one_run [] suited a b entries stands alike [] (o ∷ others) after end e f = absurd f
  one_run [] suited a b entries stands alike (o ∷ outcomes) others after end e f = absurd e
  one_run (stat ∷ stats) suited a b entries stands alike [] others after end e f = absurd e
  one_run (stat ∷ stats) suited a b entries stands alike (o ∷ outcomes) [] after end e f = absurd f
  one_run (stat ∷ stats) suited a b entries stands alike (o ∷ outcomes) (p ∷ others) after end (m, step, rest) (n, step', rest') =
      let one : (o ≡ p) × AreAlikeStates m n = one_step a b stat o p m n stands.sound.map suited.0 alike step step' in
      let on : GoesOn schema rules b entries stat p n = goes_on schema rules b entries stat p n stands suited.0 step' in
      let further : (outcomes ≡ others) × AreAlikeStates after end = one_run stats suited.1 m n on.behind on.stands one.1 outcomes others after end rest rest' in
      (ap₂ (λ (x : Outcome) (xs : List Outcome). x ∷ xs) one.0 further.0, further.1)

  -- and their bounds, from the same costs of what goes back; the other costs say only that each state is sound
  pub one_within : (stats : List Stat) → AllByRecursion (IsSuited schema rules) stats → (a b : State) (entries sound_by : Entries) → Stands schema b sound_by → AreAlikeStates a b → (outcomes others : List Outcome) (after end : State) (bounds other : Bounds)
      → IsRunWithin rules a entries stats outcomes after bounds → IsRunWithin rules b entries stats others end other → bounds ≡ other
  one_within [] suited a b entries sound_by stands alike [] [] after end bounds other (e, h) (f, k) = h ∙ sym k
  one_within [] suited a b entries sound_by stands alike [] (o ∷ others) after end bounds other e f = absurd f
  one_within [] suited a b entries sound_by stands alike (o ∷ outcomes) others after end bounds other e f = absurd e
  one_within (stat ∷ stats) suited a b entries sound_by stands alike [] others after end bounds other e f = absurd e
  one_within (stat ∷ stats) suited a b entries sound_by stands alike (o ∷ outcomes) [] after end bounds other e f = absurd f
  one_within (stat ∷ stats) suited a b entries sound_by stands alike (o ∷ outcomes) (p ∷ others) after end bounds other (m, behind, first, rest, step, has, run, e) (n, behind', first', rest', step', has', run', f) =
      let one : (o ≡ p) × AreAlikeStates m n = one_step a b stat o p m n stands.sound.map suited.0 alike step step' in
      let same : AreSameBounds first first' behind behind' = one_bounds a b entries stat o p first first' behind behind' stands.sound.map suited.0 alike one.0 has has' in
      let on : GoesOn schema rules b sound_by stat p n = goes_on schema rules b sound_by stat p n stands suited.0 step' in
      let further : rest ≡ rest' = one_within stats suited.1 m n behind' on.behind on.stands one.1 outcomes others after end rest rest' (subst (λ (x : Entries). IsRunWithin rules m x stats outcomes after rest) same.1 run) run' in
      e ∙ ap₂ (λ (x y : Bounds). record { least = x.least + y.least; most = x.most + y.most }) same.0 further ∙ sym f

  -- a run has bounds
  pub run_has_bounds : (stats : List Stat) → AllByRecursion (IsSuited schema rules) stats → (a : State) (entries : Entries) → Stands schema a entries → (outcomes : List Outcome) (after : State) → IsRun rules a stats outcomes after → (bounds : Bounds) × IsRunWithin rules a entries stats outcomes after bounds
  run_has_bounds [] suited a entries stands [] after e = (up_to 0, (e, refl))
  run_has_bounds [] suited a entries stands (o ∷ outcomes) after e = absurd e
  run_has_bounds (stat ∷ stats) suited a entries stands [] after e = absurd e
  run_has_bounds (stat ∷ stats) suited a entries stands (o ∷ outcomes) after (m, step, rest) =
      let on : GoesOn schema rules a entries stat o m = goes_on schema rules a entries stat o m stands suited.0 step in
      let further : (bounds : Bounds) × IsRunWithin rules m on.behind stats outcomes after bounds = run_has_bounds stats suited.1 m on.behind on.stands outcomes after rest in
      (record { least = on.bounds.least + further.0.least; most = on.bounds.most + further.0.most }, (m, on.behind, on.bounds, further.0, step, on.has, further.1, refl))

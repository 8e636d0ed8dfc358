-- The slots and turns that were made are those of the candidate.
use Rattle.std.proofs.Common.{◌≡◌, ◌≢◌, ℕ, ◌+◌, ◌*◌, ◌/◌, ◌<◌, ◌≤◌, List, [], ◌∷◌, length, map, get_or, Option, Some, refl, sym, ap, subst, ◌∙◌, arith}
use Rattle.std.proofs.Math.Nat.{mul-div_cancel_left}
use Rattle.std.proofs.lemmas.Nat.{div-mul-add, mod-mul-add}
use Rattle.std.proofs.lemmas.List.{length-map, get_or-map}
use Rattle.std.proofs.lemmas.Option.{slice_get-get_or, slice_get_within, get_or_from_slice_get}
use Rattle.std.specs.List.{slice_get, Contains}
use Rattle.std.specs.Option.{IsSome, option_and_then, unwrap_or}
use Rattle.std.specs.Prelude.{slice_index}
use Rattle.gm_model.specs.declared.rule.RuleTable.{RuleTable}
use Rattle.gm_model.specs.declared.rule.Side.TheVariants.{Left}
use Rattle.gm_model.specs.declared.schema.Schema.{Schema}
use Rattle.gm_model.specs.declared.word.Letter.{Letter}
use Rattle.gm_model.specs.declared.word.Letter.TheVariants.{At, Gone}
use Rattle.gm_model.specs.Matches.{ArePositions, IsCandidate, GoInStep, along_hook}
use Rattle.gm_model.specs.Matches.ArePositions.{Walked}
use Rattle.gm_model.specs.Orbits.{IsPairBefore, IsWalk, HasNoRepeats, follow}
use Rattle.gm_model.specs.Rules.{Rule, rule_of, word_at, letters, label_at, first_hook, hook_word, label_of, width}
use Rattle.gm_model.specs.Structure.{IsPlainWord}
use Rattle.gm_arena.specs.declared.slot.Slot.{Slot}
use Rattle.gm_arena.specs.inner.ArenaAsMap.{as_map}
use Rattle.gm_arena.specs.inner.ArenaMap.{ArenaMap, IsLiveName, name_at, alpha}
use Rattle.gm_arena.specs.inner.Lawful.{IsLawful}
use Rattle.gm_plan.specs.inner.Placed.{Placed, turn_at}
use Rattle.gm_plan.specs.inner.Plans.{PlanOf, IsLeftCount, IsPlanned}
use Rattle.gm_plan.proofs.Distinct.{few_below}
use Rattle.gm_theory.proofs.Candidates.{hook_left}
use Rattle.gm_theory.proofs.RuleSteps.{word_below}
use Rattle.gm_theory.proofs.Walks.{walk_unique}
use Rattle.gm_walk.specs.inner.Turns.{IsTurn}
use Rattle.gm_walk.specs.inner.Walks.{AreLive, IsWord, IsLabelUpTo, along, names_of}
use Rattle.gm_walk.proofs.WordLemmas.{plain_is_word}
use Rattle.gm_walk.specs.inner.Cells.{AreCells}
use Rattle.gm_walk.proofs.NameLemmas.{name_there}
use Rattle.gm_match.specs.inner.Layout.{AreMatchable, AreRows, HaveFirstTurns, IsFirstTo, IsCandidateAt, dart_at, stepped}
use Rattle.gm_plan.specs.inner.InArena.{placement_in}
use Rattle.gm_match.specs.inner.Outcome.{name_of}
use Rattle.gm_match.proofs.InArena.{named_slot}
use Rattle.gm_match.specs.inner.Taken.{AreSlotsOf}
use Rattle.gm_match.proofs.Costs.{candidate_cost}
use Rattle.gm_match.proofs.FirstTurns.{have_first, is_first}
use Rattle.gm_match.proofs.Stepping.{one_slot, slot_live, slot_some}

-- ---- the hook's word

module _ (schema : Schema) (rule : Rule) (planned : IsPlanned schema rule) (has : 0 < length rule.hooks) where
  abbrev hook : ℕ
  hook = slice_index rule.hooks 0

  first : first_hook rule ≡ Some hook
  first = slice_get-get_or rule.hooks 0 0 has

  pub some_node : 1 ≤ length rule.nodes
  some_node = omega (arith, word_below rule Left hook (hook_left schema rule planned.accepted.in_range planned.accepted.incidence 0 hook first))

  letters_plain : IsPlainWord (hook_word rule)
  letters_plain = rw first (planned.accepted.incidence.structured.plain 0 has hook first)

  hook_is_word : IsWord schema.dim (hook_word rule)
  hook_is_word = plain_is_word schema.dim (hook_word rule) letters_plain (rw first (planned.accepted.in_range.words Left hook))

  -- its labels differ, so it has no more than there are labels
  few_places : width rule ≤ schema.dim + 1
  few_places = subst (λ n. n ≤ schema.dim + 1) (length-map (hook_word rule) label_of) (few_below (map label_of (hook_word rule)) (schema.dim + 1) distinct low)
    where
      is_label : (letter : Letter) → IsLabelUpTo schema.dim letter → (letter ≡ At (label_of letter)) × (label_of letter ≤ schema.dim)
      is_label (At i) few = (refl, few)
      is_label Gone few = absurd few

      label_at : (k d : ℕ) → k < width rule → get_or (map label_of (hook_word rule)) k d ≡ label_of (get_or (hook_word rule) k Gone)
      label_at k d b = get_or-map label_of (hook_word rule) k Gone d b

      labels : (k : ℕ) → k < width rule → (get_or (hook_word rule) k Gone ≡ At (label_of (get_or (hook_word rule) k Gone))) × (label_of (get_or (hook_word rule) k Gone) ≤ schema.dim)
      labels k b = is_label (get_or (hook_word rule) k Gone) (hook_is_word k Gone b)

      low : (x : ℕ) → Contains (map label_of (hook_word rule)) x → x < schema.dim + 1
      low x (k, b, e) =
          let within : k < width rule = omega (arith, length-map (hook_word rule) label_of) in
          omega (arith, e, label_at k x within, (labels k within).1)

      distinct : HasNoRepeats (map label_of (hook_word rule))
      distinct p q less b e =
          let q_in : q < width rule = omega (arith, length-map (hook_word rule) label_of) in
          let p_in : p < width rule = omega arith in
          let same : label_of (get_or (hook_word rule) p Gone) ≡ label_of (get_or (hook_word rule) q Gone) = sym (label_at p 0 p_in) ∙ e ∙ label_at q 0 q_in in
          let p_at : slice_get (hook_word rule) p ≡ Some (At (label_of (get_or (hook_word rule) q Gone))) = slice_get-get_or (hook_word rule) p Gone p_in ∙ ap Some ((labels p p_in).0 ∙ ap At same) in
          let q_at : slice_get (hook_word rule) q ≡ Some (At (label_of (get_or (hook_word rule) q Gone))) = slice_get-get_or (hook_word rule) q Gone q_in ∙ ap Some (labels q q_in).0 in
          let one : p ≡ q = letters_plain.distinct p q (label_of (get_or (hook_word rule) q Gone)) p_at q_at in
          omega arith

-- the word that a rule's table answers
pub word_is : (table other : RuleTable) (answer : Option (List Letter)) (word : List Letter) → other ≡ table → answer ≡ option_and_then (word_at (rule_of other) Left) (first_hook (rule_of other)) → answer ≡ Some word → word ≡ hook_word (rule_of table)
word_is table other answer word same is_hook some = ap (λ o. unwrap_or o []) (sym some ∙ is_hook) ∙ ap (λ t. hook_word (rule_of t)) same

-- the first hook has one
pub hook_has_word : (schema : Schema) (table other : RuleTable) (answer : Option (List Letter)) → IsPlanned schema (rule_of table) → 0 < length (rule_of table).hooks → other ≡ table → answer ≡ option_and_then (word_at (rule_of other) Left) (first_hook (rule_of other)) → IsSome answer
hook_has_word schema table other answer planned some same is_hook =
    let rule = rule_of table in
    let first : first_hook rule ≡ Some (slice_index rule.hooks 0) = slice_get-get_or rule.hooks 0 0 some in
    let left = hook_left schema rule planned.accepted.in_range planned.accepted.incidence 0 (slice_index rule.hooks 0) first in
    subst IsSome (sym (is_hook ∙ ap (λ t. option_and_then (word_at (rule_of t) Left) (first_hook (rule_of t))) same ∙ ap (option_and_then (word_at rule Left)) first)) left

-- ---- the candidate

same_factor : (k a b : ℕ) → 0 < k → k * a ≡ k * b → a ≡ b
same_factor k a b some e = sym (mul-div_cancel_left a some) ∙ ap (λ n. n / k) e ∙ mul-div_cancel_left b some

module _ (m : ArenaMap) (rule : Rule) (d : ℕ) (slots : List Slot) where
  names_long : length (names_of m slots) ≡ length slots
  names_long = length-map slots (λ (s : Slot). name_at m s.at)

  pub some_position : (word : List Letter) → IsWalk (along m word) (length word) d (names_of m slots) → 1 ≤ length slots
  some_position word walk = omega (arith, slice_get_within (names_of m slots) 0 d walk.starts, names_long)

  walk_long : (word : List Letter) (walk : List ℕ) → word ≡ hook_word rule → IsWalk (along m word) (length word) d (names_of m slots) → IsWalk (along_hook (as_map m) rule) (width rule) d walk → length slots ≡ length walk
  walk_long word walk e ours other = sym names_long ∙ ap length (walk_unique (along_hook (as_map m) rule) (width rule) d (names_of m slots) walk (subst (λ w. IsWalk (along m w) (length w) d (names_of m slots)) e ours) other)

  -- the turns that were made have a first one to each later position
  pub firsts_of : (word : List Letter) (turns : List ℕ) → word ≡ hook_word rule → IsWalk (along m word) (length word) d (names_of m slots) → AreCells (IsTurn m word (names_of m slots)) (length slots) (length word) turns → HaveFirstTurns turns (length slots) (width rule)
  firsts_of word turns is_hook walk cells =
      subst (λ w. HaveFirstTurns turns (length slots) (length w)) is_hook
      (subst (λ n. HaveFirstTurns turns n (length word)) names_long (have_first m word d (names_of m slots) turns walk (subst (λ n. AreCells (IsTurn m word (names_of m slots)) n (length word) turns) (sym names_long) cells)))

  module _ (found : Placed) where
    -- what was made: the walk, and the turns along it
    pub record IsTurned (word : List Letter) : Type 0 where
      pub walk : IsWalk (along m word) (length word) d (names_of m slots)
      pub turns : AreCells (IsTurn m word (names_of m slots)) (length slots) (length word) found.turns
      pub places : found.places ≡ length word

    module _ (hooks others : List ℕ) (is_hooks : hooks ≡ d ∷ others) (count : length hooks ≡ length rule.hooks) (nodes : ℕ) (counts : IsLeftCount rule nodes) (rows : AreRows m rule hooks (names_of m slots) found.turns nodes (length slots) found.slots) (positions : found.positions ≡ length slots) (long : found.positions * found.nodes ≡ length found.slots) (live : IsLiveName m d) (turned : IsTurned (hook_word rule)) where
      some : 1 ≤ length slots
      some = some_position (hook_word rule) turned.walk

      nodes_are : found.nodes ≡ nodes
      nodes_are = same_factor (length slots) found.nodes nodes some (ap (λ k. k * found.nodes) (sym positions) ∙ long ∙ sym rows.along.long)

      -- the slots are read by the number of the left nodes
      lies : (x p : ℕ) → (placement_in m found).dart_of x p ≡ dart_at m nodes found.slots x p
      lies x p = sym (named_slot m found x p) ∙ ap (λ n. name_of m (slice_get found.slots (p * n + x))) nodes_are

      turn_lies : (p l : ℕ) → p < length (names_of m slots) → l < width rule →
          (turn_at found p l < length (names_of m slots)) × (slice_index (names_of m slots) (turn_at found p l) ≡ along_hook (as_map m) rule (slice_index (names_of m slots) p) l)
      turn_lies p l b h = go (turned.turns.each p l (subst (λ k. p < k) names_long b) h)
        where
          go : (q : ℕ) × (slice_get found.turns (p * width rule + l) ≡ Some q) × IsTurn m (hook_word rule) (names_of m slots) p l q →
              (turn_at found p l < length (names_of m slots)) × (slice_index (names_of m slots) (turn_at found p l) ≡ along_hook (as_map m) rule (slice_index (names_of m slots) p) l)
          go (q, e, t) =
              let at : turn_at found p l ≡ q = ap (λ n. slice_index found.turns (p * n + l)) turned.places ∙ get_or_from_slice_get found.turns (p * width rule + l) q 0 e in
              (subst (λ r. r < length (names_of m slots)) (sym at) t.within, ap (slice_index (names_of m slots)) at ∙ t.leads)

      in_step : GoInStep (as_map m) rule (placement_in m found)
      in_step t h p q l later at after less turn = go (firsts_of (hook_word rule) found.turns refl turned.walk turned.turns p after (subst (λ k. p < k) positions less))
        where
          here : slice_index found.turns (q * width rule + l) ≡ p
          here = ap (λ n. slice_index found.turns (q * n + l)) (sym turned.places) ∙ turn.turns

          none_before : (q' l' : ℕ) → IsPairBefore q' l' q l → l' < width rule → slice_index found.turns (q' * width rule + l') ≢ p
          none_before q' l' before low e = turn.first q' l' before low (ap (λ n. slice_index found.turns (q' * n + l')) turned.places ∙ e)

          stepped_at : (q l h : ℕ) → l < width rule → stepped m rule nodes found.slots (q * width rule + l) h ≡ alpha m (label_at (letters rule Left h) l) (dart_at m nodes found.slots h q)
          stepped_at q l h low = rw (mod-mul-add q (width rule) l low, div-mul-add q (width rule) l low) refl

          go : (k : ℕ) × (k < p * width rule) × IsFirstTo found.turns p k → (placement_in m found).dart_of h p ≡ alpha m (label_at (letters rule Left h) l) ((placement_in m found).dart_of h q)
          go (k, low, first) =
              lies h p
              ∙ rows.in_step t h p k later at (subst (λ n. p < n) positions less) low first
              ∙ ap (λ j. stepped m rule nodes found.slots j h) (is_first found.turns (width rule) p q l k here turn.within none_before first)
              ∙ stepped_at q l h turn.within
              ∙ ap (alpha m (label_at (letters rule Left h) l)) (sym (lies h q))

      candidate : IsCandidate (as_map m) rule hooks (placement_in m found)
      candidate = record {
        count = count;
        walk = names_of m slots;
        positions = subst (λ hs. ArePositions (as_map m) rule (placement_in m found) hs (names_of m slots)) (sym is_hooks) (Walked d others (names_of m slots) live turned.walk (positions ∙ sym names_long) turn_lies);
        hooked = λ h p first less. lies h p ∙ rows.along.hooked h p first (subst (λ n. p < n) positions less);
        at_darts = λ t h e at named. lies h 0 ∙ rows.at_darts t h e some at named;
        in_step = in_step;
        forced = λ x p hook path at to. lies x p ∙ rows.along.forced x p hook path (subst (λ n. p < n) positions at.1) to ∙ ap (follow (alpha m) path) (sym (lies hook p));
      }

      pub is_candidate : IsCandidateAt m rule hooks found
      is_candidate = record {
        laid = record { slots = rows.along.live; long = long; nodes = subst (IsLeftCount rule) (sym nodes_are) counts; places = turned.places };
        candidate = candidate;
      }

      -- the slots of the first hook are those of the walk
      pub walk_slots : IsLawful m → AreLive m slots → (h : ℕ) → first_hook rule ≡ Some h → h < nodes → AreSlotsOf found h slots
      walk_slots lawful walked h at left p less =
          let within : p < length slots = subst (λ n. p < n) positions less in
          let there = slot_some m found long h p (subst (λ n. h < n) (sym nodes_are) left) less in
          let names = ap (name_of m) (sym there.1) ∙ named_slot m found h p ∙ lies h p ∙ rows.along.hooked h p at within ∙ name_there m slots p (record { at = 0 }) within in
          let same = one_slot m lawful there.0 (get_or slots p (record { at = 0 })) (slot_live m found rows.along.live h p there.0 there.1) (walked p (record { at = 0 }) within) names in
          there.1 ∙ ap Some same ∙ sym (slice_get-get_or slots p (record { at = 0 }) within)

-- ---- where it begins

-- the slots of the darts have the first dart's name, and those of the others
pub names_begin : (m : ArenaMap) (darts : List Slot) → 0 < length darts → (others : List ℕ) × (names_of m darts ≡ slice_index (names_of m darts) 0 ∷ others)
names_begin m [] some = absurd (omega (arith, some))
names_begin m (s ∷ darts) some = (names_of m darts, refl)

-- ---- its cost

module _ (m : ArenaMap) (plan : PlanOf) (able : AreMatchable m plan) (has : 0 < length (rule_of plan.table).hooks) (word : List Letter) (is_hook : word ≡ hook_word (rule_of plan.table)) where
  pub can_be_walked : IsWord m.schema.dim word
  can_be_walked = rw (is_hook, able.schema) (hook_is_word plan.schema (rule_of plan.table) able.planned has)

  few : length word ≤ m.schema.dim + 1
  few = rw (is_hook, able.schema) (few_places plan.schema (rule_of plan.table) able.planned has)

  some_nodes : 1 ≤ length (rule_of plan.table).nodes
  some_nodes = some_node plan.schema (rule_of plan.table) able.planned has

  -- the steps of the walk, and of what is made along it
  pub walk_cost : (d start walked : ℕ) → ((walk : List ℕ) → IsWalk (along m word) (length word) d walk → walked ≤ start + length walk * length word) →
      (placed : ℕ) (walk : List ℕ) → IsWalk (along_hook (as_map m) (rule_of plan.table)) (width (rule_of plan.table)) d walk → placed ≤ walked + length walk * length (rule_of plan.table).nodes →
      placed ≤ start + 5 * (m.schema.dim + 1) * (length (rule_of plan.table).nodes * length walk)
  walk_cost d start walked walking placed walk is_walk placing =
      candidate_cost (m.schema.dim + 1) (length (rule_of plan.table).nodes) (length walk) (length word) some_nodes (omega arith) few start walked placed
      (walking walk (subst (λ w. IsWalk (along m w) (length w) d walk) (sym is_hook) is_walk)) placing

  -- along the slots of the walk
  pub along_cost : (d : ℕ) (slots : List Slot) → IsWalk (along m word) (length word) d (names_of m slots) → (walked placed : ℕ) → placed ≤ walked + length slots * length (rule_of plan.table).nodes →
      (walk : List ℕ) → IsWalk (along_hook (as_map m) (rule_of plan.table)) (width (rule_of plan.table)) d walk → placed ≤ walked + length walk * length (rule_of plan.table).nodes
  along_cost d slots ours walked placed placing walk is_walk = rw (← walk_long m (rule_of plan.table) d slots word walk is_hook ours is_walk) placing

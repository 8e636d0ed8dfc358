-- What a rule that is checked is said to be, and the lines of rules one after the other.
use Rattle.std.proofs.Common.{◌≡◌, ℕ, ◌+◌, ◌<◌, ◌≤◌, Bool, true, false, ◌&&◌, List, [], ◌∷◌, ◌++◌, length, map, take, get_or, Option, Some, None, Result, Ok, Err, MatchResult, refl, sym, ap, ◌∙◌, subst, append_assoc, arith}
use Rattle.std.proofs.lemmas.List.{append-nil, take_more, map-append, length-map, length-take}
use Rattle.std.proofs.lemmas.List.Elements.{All-from_recursion}
use Rattle.std.proofs.lemmas.Option.{slice_get_within, get_or_from_slice_get}
use Rattle.gm_model.specs.declared.rule.RuleFault.{RuleFault}
use Rattle.gm_model.specs.declared.schema.Schema.{Schema}
use Rattle.gm_model.specs.declared.rule.Side.TheVariants.{Left, Right}
use Rattle.gm_model.specs.Acceptance.{IsAccepted, IsFault, Incidence, Cycle, Embedding}
use Rattle.gm_model.specs.Components.{First, HasSources, IsEmbedFault, IsAssigned, IsComponentFault, Twice, Sourceless, Merged, MergedAlong}
use Rattle.gm_model.specs.Maps.{type_of}
use Rattle.gm_model.specs.Orbits.{Labels}
use Rattle.gm_model.specs.declared.rule.RuleTable.{RuleTable}
use Rattle.gm_model.specs.Rules.{Rule, rule_of, has_word, is_preserved}
use Rattle.gm_model.specs.Squares.{HasSquares, IsSquareFault, OpenSquare, IsFirstOpenSquare}
use Rattle.gm_model.specs.Structure.{HasIncidence, IsIncidenceFault, OfStructure, OfArcs, IsStructureFault, BadHooks, BadHookWord, BadLength, Unconnected, AtNode, IsNodeArcFault, TwiceLeft, TwiceRight, Missing, Differs}
use Rattle.gm_model.proofs.Nodes.{node_below}
use Rattle.gm_plan.specs.inner.Refusals.{IsRefusal, Faulty}
use Rattle.gm_plan.specs.declared.compiler.PlanFault.TheVariants as plans
use Rattle.gm_tool.specs.inner.Books.{IsCheckable}
use Rattle.gm_lines.specs.inner.Speaking.{SpeaksOf, IsSayable}
use Rattle.gm_lines.specs.Checking.{IsVerdict, AreLines, NoRules, NextRule, refusals, rule_line}

first_true : (a b : Bool) → (a && b) ≡ true → a ≡ true
first_true true b e = refl
first_true false b e = absurd cc

-- the fault for which a rule has no plan is its first
pub fault_without_plan : (schema : Schema) (rule : Rule) (fault : RuleFault) → IsRefusal schema rule (plans.Rule fault) → IsFault schema rule fault
fault_without_plan schema rule fault (Faulty _ is) = is

-- ---- what a fault speaks of

module _ (schema : Schema) (rule : Rule) (able : IsCheckable schema rule) where
  structure_speaks : (fault : RuleFault) → IsStructureFault rule fault → SpeaksOf (length rule.nodes) (length schema.embeds) fault
  structure_speaks fault (BadHooks h) = tt
  structure_speaks fault (BadHookWord t h one first at) =
      let b = slice_get_within rule.hooks t h at in
      node_below rule Left h (subst (λ x. has_word rule Left x ≡ true) (get_or_from_slice_get rule.hooks t h h at) (All-from_recursion (λ x. has_word rule Left x ≡ true) rule.hooks able.in_range.hooks t h b))
  structure_speaks fault (BadLength x one plain first) = first.within
  structure_speaks fault (Unconnected x one plain widths first) = first.within

  arcs_speak : (x : ℕ) (fault : RuleFault) → x < length rule.nodes → IsNodeArcFault schema.dim rule x fault → SpeaksOf (length rule.nodes) (length schema.embeds) fault
  arcs_speak x fault b (TwiceLeft i first) = b
  arcs_speak x fault b (TwiceRight i left first) = b
  arcs_speak x fault b (Missing i left right first) = b
  arcs_speak x fault b (Differs i left right first) = b

  incidence_speaks : (fault : RuleFault) → IsIncidenceFault schema.dim rule fault → SpeaksOf (length rule.nodes) (length schema.embeds) fault
  incidence_speaks fault (OfStructure h) = structure_speaks fault h
  incidence_speaks fault (OfArcs structured (AtNode x b good h)) = arcs_speak x fault b h

  right_node : (x i j : ℕ) → IsFirstOpenSquare schema.dim rule x i j → has_word rule Right x ≡ true
  right_node x i j first = is (has_word rule Right x) refl
    where
      is : (b : Bool) → has_word rule Right x ≡ b → has_word rule Right x ≡ true
      is true e = e
      is false e = absurd (first.open_here (λ right. absurd (let f : true ≡ false = sym right ∙ e in cc)))

  square_speaks : (fault : RuleFault) → IsSquareFault schema.dim rule fault → SpeaksOf (length rule.nodes) (length schema.embeds) fault
  square_speaks fault (OpenSquare x i j first) = node_below rule Right x (right_node x i j first)

  assigned_below : (e x : ℕ) → IsAssigned rule e x → x < length rule.nodes
  assigned_below e x assigned = slice_get_within rule.nodes x assigned.1.0 assigned.1.1

  preserved_below : (x : ℕ) → is_preserved rule x ≡ true → x < length rule.nodes
  preserved_below x both = node_below rule Left x (first_true (has_word rule Left x) (has_word rule Right x) both)

  component_speaks : (e : ℕ) (o : Labels) (x : ℕ) (fault : RuleFault) → e < length schema.embeds → x < length rule.nodes → IsComponentFault rule e o x fault → SpeaksOf (length rule.nodes) (length schema.embeds) fault
  component_speaks e o x fault within b (Twice y z first second) = (within, assigned_below e y first.has, assigned_below e z second.has)
  component_speaks e o x fault within b (Sourceless free new) = (within, b)
  component_speaks e o x fault within b (Merged keeper y free kept other) = (within, preserved_below keeper kept.preserved, preserved_below y other.has)
  component_speaks e o x fault within b (MergedAlong keeper m free kept one along) = (within, preserved_below keeper kept.preserved)

  pub fault_speaks : (fault : RuleFault) → IsFault schema rule fault → SpeaksOf (length rule.nodes) (length schema.embeds) fault
  fault_speaks fault (Incidence h) = incidence_speaks fault h
  fault_speaks fault (Cycle incidence h) = square_speaks fault h
  fault_speaks fault (Embedding incidence squares (First e embed x h)) = component_speaks e (type_of embed) x fault (slice_get_within schema.embeds e embed h.embed_at) (node_below rule Right x h.leader.0) h.here

  pub verdict_sayable : (verdict : Option RuleFault) → IsVerdict schema rule verdict → IsSayable schema rule verdict
  verdict_sayable None h = tt
  verdict_sayable (Some fault) h = fault_speaks fault h

  pub checked_sources : {A : Type 0} → HasIncidence schema.dim rule → HasSquares schema.dim rule → (verdict : Result A RuleFault) → MatchResult verdict (λ _. HasSources schema rule) (λ fault. IsEmbedFault schema rule fault)
      → MatchResult verdict (λ _. IsAccepted schema rule) (λ fault. IsFault schema rule fault)
  checked_sources incidence squares (Ok done) sources = record {
    in_range = able.in_range;
    typed = able.typed;
    incidence = incidence;
    squares = squares;
    sources = sources;
  }
  checked_sources incidence squares (Err fault) h = Embedding incidence squares h

-- ---- lines

last_line : (schema : Schema) (rule : Rule) (verdict : Option RuleFault) → IsVerdict schema rule verdict → AreLines schema (rule ∷ []) (0 + refusals verdict) (rule_line schema rule verdict)
last_line schema rule verdict h =
    let e : refusals verdict + 0 ≡ 0 + refusals verdict = omega arith in
    subst (λ n. AreLines schema (rule ∷ []) n (rule_line schema rule verdict)) e
    (subst (λ t. AreLines schema (rule ∷ []) (refusals verdict + 0) t) (append-nil (rule_line schema rule verdict)) (NextRule rule verdict [] 0 [] h NoRules))

-- one rule more
next_line : (schema : Schema) (rules : List Rule) (rule : Rule) (verdict : Option RuleFault) (refused : ℕ) (lines : List ℕ) → AreLines schema rules refused lines → IsVerdict schema rule verdict
    → AreLines schema (rules ++ rule ∷ []) (refused + refusals verdict) (lines ++ rule_line schema rule verdict)
next_line schema _ rule verdict _ _ NoRules h = last_line schema rule verdict h
next_line schema _ rule verdict _ _ (NextRule first its rules refused lines is rest) h =
    let more = next_line schema rules rule verdict refused lines rest h in
    let e : (refusals its + refused) + refusals verdict ≡ refusals its + (refused + refusals verdict) = omega arith in
    subst (λ n. AreLines schema (first ∷ (rules ++ rule ∷ [])) n ((rule_line schema first its ++ lines) ++ rule_line schema rule verdict)) (sym e)
    (subst (λ t. AreLines schema (first ∷ (rules ++ rule ∷ [])) (refusals its + (refused + refusals verdict)) t) (sym (append_assoc (rule_line schema first its) lines (rule_line schema rule verdict)))
    (NextRule first its (rules ++ rule ∷ []) (refused + refusals verdict) (lines ++ rule_line schema rule verdict) is more))

-- no more rules are refused than there are
few_refused : (schema : Schema) (rules : List Rule) (refused : ℕ) (lines : List ℕ) → AreLines schema rules refused lines → refused ≤ length rules
few_refused schema _ _ _ NoRules = omega arith
few_refused schema _ _ _ (NextRule rule None rules refused lines is rest) = let h = few_refused schema rules refused lines rest in omega arith
few_refused schema _ _ _ (NextRule rule (Some fault) rules refused lines is rest) = let h = few_refused schema rules refused lines rest in omega arith

-- the rule at the next place
pub more_lines : (schema : Schema) (rules : List RuleTable) (k : ℕ) (rule : RuleTable) (verdict : Option RuleFault) (refused : ℕ) (lines after : List ℕ) → k < length rules → rule ≡ get_or rules k rule
    → AreLines schema (map rule_of (take k rules)) refused lines → IsVerdict schema (rule_of rule) verdict → after ≡ lines ++ rule_line schema (rule_of rule) verdict
    → AreLines schema (map rule_of (take (k + 1) rules)) (refused + refusals verdict) after
more_lines schema rules k rule verdict refused lines after b at are is e =
    let one_more : take (k + 1) rules ≡ take k rules ++ rule ∷ [] = take_more rules k rule b ∙ ap (λ r. take k rules ++ r ∷ []) (sym at) in
    let mapped : map rule_of (take k rules) ++ rule_of rule ∷ [] ≡ map rule_of (take (k + 1) rules) = sym (ap (map rule_of) one_more ∙ map-append rule_of (take k rules) (rule ∷ [])) in
    subst (λ (t : List ℕ). AreLines schema (map rule_of (take (k + 1) rules)) (refused + refusals verdict) t) (sym e)
    (subst (λ (rs : List Rule). AreLines schema rs (refused + refusals verdict) (lines ++ rule_line schema (rule_of rule) verdict)) mapped
    (next_line schema (map rule_of (take k rules)) (rule_of rule) verdict refused lines are is))

pub refused_below : (schema : Schema) (rules : List RuleTable) (k refused : ℕ) (lines : List ℕ) → AreLines schema (map rule_of (take k rules)) refused lines → refused ≤ k
refused_below schema rules k refused lines are =
    let few = few_refused schema (map rule_of (take k rules)) refused lines are in
    omega (arith, few, length-map (take k rules) rule_of, length-take k rules)

pub at_most_one : (verdict : Option RuleFault) → refusals verdict ≤ 1
at_most_one None = omega arith
at_most_one (Some fault) = omega arith

-- A rule has at most one first fault.
use Rattle.std.proofs.Common.{◌≡◌, ℕ, ◌<◌, Bool, true, false, ◌⊎◌, inl, inr, Some, slice_get, refl, sym, ap, subst, ◌∙◌, IsTrue}
use Rattle.std.proofs.lemmas.Bool.{cases_order}
use Rattle.gm_model.specs.declared.rule.RuleFault.{RuleFault}
use Rattle.gm_model.specs.declared.rule.RuleFault.TheVariants as faults
use Rattle.gm_model.specs.declared.rule.Side.TheVariants.{Left, Right}
use Rattle.gm_model.specs.declared.schema.Embed.{Embed}
use Rattle.gm_model.specs.declared.schema.Schema.{Schema}
use Rattle.gm_model.specs.Acceptance.{IsFault, Incidence, Cycle, Embedding}
use Rattle.gm_model.specs.Components.{IsAssigned, WereTogether, ComesFromOne, IsLeastTogether, IsFirstAlong, IsComponentFault, Twice, Sourceless, Merged, MergedAlong, IsFirstEmbedFault, IsEmbedFault, First}
use Rattle.gm_model.specs.Maps.{type_of}
use Rattle.gm_model.specs.Orbits.{Labels}
use Rattle.gm_model.specs.Rules.{Rule, has_word, is_preserved}
use Rattle.gm_model.specs.Squares.{HasSquares, IsSquareFault, OpenSquare}
use Rattle.gm_model.specs.Structure.{HasIncidence, IsFirstBad, HasWhereOneSided, HasOnBoth, IsStructureFault, BadHooks, BadHookWord, BadLength, Unconnected, IsArcFault, AtNode, IsNodeArcFault, TwiceLeft, TwiceRight, Missing, Differs, IsIncidenceFault, OfStructure, OfArcs}
use Rattle.gm_theory.proofs.NoFault.{structured_no_fault, node_no_fault, one_keeper, source_no_fault}

-- two numbers of which neither is less
one_of_order : (x y : ℕ) → (x < y → ⊥) → (y < x → ⊥) → x ≡ y
one_of_order x y not_less not_greater = go (cases_order x y)
  where
    go : (x ≡ y) ⊎ ((x < y) ⊎ (y < x)) → x ≡ y
    go (inl e) = e
    go (inr (inl h)) = absurd (not_less h)
    go (inr (inr h)) = absurd (not_greater h)

one_first_bad : {IsGood : ℕ → Type 0} (count x y : ℕ) → IsFirstBad IsGood count x → IsFirstBad IsGood count y → x ≡ y
one_first_bad count x y one other = one_of_order x y (λ h. one.fails (other.before x h)) (λ h. other.fails (one.before y h))

-- ---- structure

one_structure_fault : (rule : Rule) (fault other : RuleFault) → IsStructureFault rule fault → IsStructureFault rule other → fault ≡ other
one_structure_fault rule _ _ (BadHooks bad) (BadHooks bad') = refl
one_structure_fault rule _ _ (BadHooks bad) (BadHookWord t h hook first at) = absurd (bad hook)
one_structure_fault rule _ _ (BadHooks bad) (BadLength x hook plain first) = absurd (bad hook)
one_structure_fault rule _ _ (BadHooks bad) (Unconnected x hook plain widths first) = absurd (bad hook)
one_structure_fault rule _ _ (BadHookWord t h hook first at) (BadHooks bad) = absurd (bad hook)
one_structure_fault rule _ _ (BadHookWord t h hook first at) (BadHookWord t' h' hook' first' at') =
    let same : t ≡ t' = one_first_bad _ t t' first first' in
    let both : Some h ≡ Some h' = sym at ∙ ap (slice_get rule.hooks) same ∙ at' in
    ap faults.HookWord (cc both)
one_structure_fault rule _ _ (BadHookWord t h hook first at) (BadLength x hook' plain first') = absurd (first.fails (plain t first.within))
one_structure_fault rule _ _ (BadHookWord t h hook first at) (Unconnected x hook' plain widths first') = absurd (first.fails (plain t first.within))
one_structure_fault rule _ _ (BadLength x hook plain first) (BadHooks bad) = absurd (bad hook)
one_structure_fault rule _ _ (BadLength x hook plain first) (BadHookWord t h hook' first' at) = absurd (first'.fails (plain t first'.within))
one_structure_fault rule _ _ (BadLength x hook plain first) (BadLength x' hook' plain' first') = ap faults.WordLength (one_first_bad _ x x' first first')
one_structure_fault rule _ _ (BadLength x hook plain first) (Unconnected x' hook' plain' widths first') = absurd (first.fails (widths x first.within))
one_structure_fault rule _ _ (Unconnected x hook plain widths first) (BadHooks bad) = absurd (bad hook)
one_structure_fault rule _ _ (Unconnected x hook plain widths first) (BadHookWord t h hook' first' at) = absurd (first'.fails (plain t first'.within))
one_structure_fault rule _ _ (Unconnected x hook plain widths first) (BadLength x' hook' plain' first') = absurd (first'.fails (widths x' first'.within))
one_structure_fault rule _ _ (Unconnected x hook plain widths first) (Unconnected x' hook' plain' widths' first') = ap faults.NotConnected (one_first_bad _ x x' first first')

-- ---- arcs

-- a node that is on one side only owes nothing as a preserved one, and a preserved one nothing as one of one side
not_both_kinds : (rule : Rule) (x i j : ℕ) → (HasWhereOneSided rule x i → ⊥) → (HasOnBoth rule x j → ⊥) → ⊥
not_both_kinds rule x i j missing differs = go (has_word rule Left x) (has_word rule Right x) refl refl
  where
    go : (l r : Bool) → has_word rule Left x ≡ l → has_word rule Right x ≡ r → ⊥
    go false r e f = differs (λ preserved. let wrong : false ≡ true = rw e at preserved in absurd cc)
    go true false e f = differs (λ preserved. let wrong : false ≡ true = rw (e, f) at preserved in absurd cc)
    go true true e f = missing ((λ removed. let wrong : false ≡ true = rw (e, f) at removed in absurd cc), (λ added. let wrong : false ≡ true = rw e at added in absurd cc))

one_node_fault : (n : ℕ) (rule : Rule) (x : ℕ) (fault other : RuleFault) → IsNodeArcFault n rule x fault → IsNodeArcFault n rule x other → fault ≡ other
one_node_fault n rule x _ _ (TwiceLeft i first) (TwiceLeft j first') = ap (λ k. faults.ArcTwice x k Left) (one_first_bad _ i j first first')
one_node_fault n rule x _ _ (TwiceLeft i first) (TwiceRight j left first') = absurd (first.fails (left i first.within))
one_node_fault n rule x _ _ (TwiceLeft i first) (Missing j left right first') = absurd (first.fails (left i first.within))
one_node_fault n rule x _ _ (TwiceLeft i first) (Differs j left right first') = absurd (first.fails (left i first.within))
one_node_fault n rule x _ _ (TwiceRight i left first) (TwiceLeft j first') = absurd (first'.fails (left j first'.within))
one_node_fault n rule x _ _ (TwiceRight i left first) (TwiceRight j left' first') = ap (λ k. faults.ArcTwice x k Right) (one_first_bad _ i j first first')
one_node_fault n rule x _ _ (TwiceRight i left first) (Missing j left' right first') = absurd (first.fails (right i first.within))
one_node_fault n rule x _ _ (TwiceRight i left first) (Differs j left' right first') = absurd (first.fails (right i first.within))
one_node_fault n rule x _ _ (Missing i left right first) (TwiceLeft j first') = absurd (first'.fails (left j first'.within))
one_node_fault n rule x _ _ (Missing i left right first) (TwiceRight j left' first') = absurd (first'.fails (right j first'.within))
one_node_fault n rule x _ _ (Missing i left right first) (Missing j left' right' first') = ap (faults.ArcMissing x) (one_first_bad _ i j first first')
one_node_fault n rule x _ _ (Missing i left right first) (Differs j left' right' first') = absurd (not_both_kinds rule x i j first.fails first'.fails)
one_node_fault n rule x _ _ (Differs i left right first) (TwiceLeft j first') = absurd (first'.fails (left j first'.within))
one_node_fault n rule x _ _ (Differs i left right first) (TwiceRight j left' first') = absurd (first'.fails (right j first'.within))
one_node_fault n rule x _ _ (Differs i left right first) (Missing j left' right' first') = absurd (not_both_kinds rule x j i first'.fails first.fails)
one_node_fault n rule x _ _ (Differs i left right first) (Differs j left' right' first') = ap (faults.ArcSetDiffers x) (one_first_bad _ i j first first')

one_arc_fault : (n : ℕ) (rule : Rule) (fault other : RuleFault) → IsArcFault n rule fault → IsArcFault n rule other → fault ≡ other
one_arc_fault n rule fault other (AtNode x within before bad) (AtNode y within' before' bad') =
    let same : y ≡ x = one_of_order y x (λ h. node_no_fault n rule y other (before y h) bad') (λ h. node_no_fault n rule x fault (before' x h) bad) in
    one_node_fault n rule x fault other bad (subst (λ z. IsNodeArcFault n rule z other) same bad')

one_incidence_fault : (n : ℕ) (rule : Rule) (fault other : RuleFault) → IsIncidenceFault n rule fault → IsIncidenceFault n rule other → fault ≡ other
one_incidence_fault n rule fault other (OfStructure f) (OfStructure g) = one_structure_fault rule fault other f g
one_incidence_fault n rule fault other (OfStructure f) (OfArcs s g) = absurd (structured_no_fault rule fault s f)
one_incidence_fault n rule fault other (OfArcs s f) (OfStructure g) = absurd (structured_no_fault rule other s g)
one_incidence_fault n rule fault other (OfArcs s f) (OfArcs s' g) = one_arc_fault n rule fault other f g

-- ---- squares

one_square_fault : (n : ℕ) (rule : Rule) (fault other : RuleFault) → IsSquareFault n rule fault → IsSquareFault n rule other → fault ≡ other
one_square_fault n rule _ _ (OpenSquare x i j one) (OpenSquare y k l other) =
    let nodes : x ≡ y = one_of_order x y (λ h. one.open_here (other.before x i j (inl h) one.apart one.label)) (λ h. other.open_here (one.before y k l (inl h) other.apart other.label)) in
    let firsts : i ≡ k = one_of_order i k (λ h. one.open_here (other.before x i j (inr (inl (nodes, h))) one.apart one.label)) (λ h. other.open_here (one.before y k l (inr (inl (sym nodes, h))) other.apart other.label)) in
    let seconds : j ≡ l = one_of_order j l (λ h. one.open_here (other.before x i j (inr (inr (nodes, firsts, h))) one.apart one.label)) (λ h. other.open_here (one.before y k l (inr (inr (sym nodes, sym firsts, h))) other.apart other.label)) in
    ap (λ z. faults.Square z i j) nodes ∙ ap (λ z. faults.Square y z j) firsts ∙ ap (faults.Square y k) seconds

-- ---- embeddings

one_least_together : (rule : Rule) (o : Labels) (x : ℕ) (IsAbove P : ℕ → Type 0) (y z : ℕ) → IsLeastTogether rule o x IsAbove P y → IsLeastTogether rule o x IsAbove P z → y ≡ z
one_least_together rule o x IsAbove P y z one other =
    one_of_order y z (λ h. other.least y h one.together one.above one.has) (λ h. one.least z h other.together other.above other.has)

one_component_fault : (rule : Rule) (e : ℕ) (o : Labels) (x : ℕ) (fault other : RuleFault) → IsComponentFault rule e o x fault → IsComponentFault rule e o x other → fault ≡ other
one_component_fault rule e o x _ _ (Twice y z first second) (Twice y' z' first' second') =
    let lesser : y' ≡ y = one_least_together rule o x _ _ y' y first' first in
    let greater : z ≡ z' = one_least_together rule o x _ _ z z' second (subst (λ u. IsLeastTogether rule o x (λ v. u < v) (IsAssigned rule e) z') lesser second') in
    ap (λ u. faults.SetTwice e u z) (sym lesser) ∙ ap (faults.SetTwice e y') greater
one_component_fault rule e o x _ _ (Twice y z first second) (Sourceless none new) = absurd (none y first.together first.has)
one_component_fault rule e o x _ _ (Twice y z first second) (Merged keeper u none kept outside) = absurd (none y first.together first.has)
one_component_fault rule e o x _ _ (Twice y z first second) (MergedAlong keeper m none kept one bad) = absurd (none y first.together first.has)
one_component_fault rule e o x _ _ (Sourceless none new) (Twice y z first second) = absurd (none y first.together first.has)
one_component_fault rule e o x _ _ (Sourceless none new) (Sourceless none' new') = refl
one_component_fault rule e o x _ _ (Sourceless none new) (Merged keeper u none' kept outside) = absurd (new keeper kept.together kept.preserved)
one_component_fault rule e o x _ _ (Sourceless none new) (MergedAlong keeper m none' kept one bad) = absurd (new keeper kept.together kept.preserved)
one_component_fault rule e o x _ _ (Merged keeper u none kept outside) (Twice y z first second) = absurd (none y first.together first.has)
one_component_fault rule e o x _ _ (Merged keeper u none kept outside) (Sourceless none' new) = absurd (new keeper kept.together kept.preserved)
one_component_fault rule e o x _ _ (Merged keeper u none kept outside) (Merged keeper' u' none' kept' outside') =
    let keepers : keeper' ≡ keeper = one_keeper rule o x keeper' keeper kept' kept in
    let nodes : u ≡ u' = one_least_together rule o x _ _ u u' outside (subst (λ k. IsLeastTogether rule o x (λ v. WereTogether rule o k v → ⊥) (λ v. IsTrue (is_preserved rule v)) u') keepers outside') in
    ap (λ k. faults.Merge e k u) (sym keepers) ∙ ap (faults.Merge e keeper') nodes
one_component_fault rule e o x _ _ (Merged keeper u none kept outside) (MergedAlong keeper' m none' kept' one bad) =
    let keepers : keeper' ≡ keeper = one_keeper rule o x keeper' keeper kept' kept in
    absurd (outside.above (subst (λ k. ComesFromOne rule o x k) keepers one u outside.together outside.has))
one_component_fault rule e o x _ _ (MergedAlong keeper m none kept one bad) (Twice y z first second) = absurd (none y first.together first.has)
one_component_fault rule e o x _ _ (MergedAlong keeper m none kept one bad) (Sourceless none' new) = absurd (new keeper kept.together kept.preserved)
one_component_fault rule e o x _ _ (MergedAlong keeper m none kept one bad) (Merged keeper' u none' kept' outside) =
    let keepers : keeper ≡ keeper' = one_keeper rule o x keeper keeper' kept kept' in
    absurd (outside.above (subst (λ k. ComesFromOne rule o x k) keepers one u outside.together outside.has))
one_component_fault rule e o x _ _ (MergedAlong keeper m none kept one bad) (MergedAlong keeper' m' none' kept' one' bad') =
    let keepers : keeper' ≡ keeper = one_keeper rule o x keeper' keeper kept' kept in
    let there : IsFirstAlong rule o x keeper m' = subst (λ k. IsFirstAlong rule o x k m') keepers bad' in
    let places : m ≡ m' = one_of_order m m' (λ h. bad.fails (there.before m h)) (λ h. there.fails (bad.before m' h)) in
    ap (λ k. faults.MergeAlong e k m) (sym keepers) ∙ ap (faults.MergeAlong e keeper') places

-- an embedding or node before the one of the first fault has sources, and so no fault
one_first_embed_fault : (schema : Schema) (rule : Rule) (e e' : ℕ) (embed embed' : Embed) (x y : ℕ) (fault other : RuleFault) → IsFirstEmbedFault schema rule e embed x fault → IsFirstEmbedFault schema rule e' embed' y other → fault ≡ other
one_first_embed_fault schema rule e e' embed embed' x y fault other one two =
    let numbers : e' ≡ e = one_of_order e' e (λ h. source_no_fault rule e' (type_of embed') y other (one.earlier_embeds e' embed' h two.embed_at y two.leader.0) two.here) (λ h. source_no_fault rule e (type_of embed) x fault (two.earlier_embeds e embed h one.embed_at x one.leader.0) one.here) in
    let both : Some embed' ≡ Some embed = sym two.embed_at ∙ ap (slice_get schema.embeds) numbers ∙ one.embed_at in
    let embeds : embed' ≡ embed = cc both in
    let same : IsFirstEmbedFault schema rule e embed y other = subst (λ m. IsFirstEmbedFault schema rule e m y other) embeds (subst (λ k. IsFirstEmbedFault schema rule k embed' y other) numbers two) in
    let nodes : y ≡ x = one_of_order y x (λ h. source_no_fault rule e (type_of embed) y other (one.earlier_nodes y h same.leader.0) same.here) (λ h. source_no_fault rule e (type_of embed) x fault (same.earlier_nodes x h one.leader.0) one.here) in
    one_component_fault rule e (type_of embed) x fault other one.here (subst (λ z. IsComponentFault rule e (type_of embed) z other) nodes same.here)

one_embed_fault : (schema : Schema) (rule : Rule) (fault other : RuleFault) → IsEmbedFault schema rule fault → IsEmbedFault schema rule other → fault ≡ other
one_embed_fault schema rule fault other (First e embed x one) (First e' embed' y two) = one_first_embed_fault schema rule e e' embed embed' x y fault other one two

-- ---- all of them

incidence_no_fault : (n : ℕ) (rule : Rule) (fault : RuleFault) → HasIncidence n rule → IsIncidenceFault n rule fault → ⊥
incidence_no_fault n rule fault has (OfStructure f) = structured_no_fault rule fault has.structured f
incidence_no_fault n rule fault has (OfArcs s (AtNode x within before bad)) = node_no_fault n rule x fault (has.arcs x within) bad

squares_no_fault : (n : ℕ) (rule : Rule) (fault : RuleFault) → HasSquares n rule → IsSquareFault n rule fault → ⊥
squares_no_fault n rule _ has (OpenSquare x i j bad) = bad.open_here (has x i j bad.apart bad.label)

pub one_fault : (schema : Schema) (rule : Rule) (fault other : RuleFault) → IsFault schema rule fault → IsFault schema rule other → fault ≡ other
one_fault schema rule fault other (Incidence f) (Incidence g) = one_incidence_fault schema.dim rule fault other f g
one_fault schema rule fault other (Incidence f) (Cycle incidence g) = absurd (incidence_no_fault schema.dim rule fault incidence f)
one_fault schema rule fault other (Incidence f) (Embedding incidence squares g) = absurd (incidence_no_fault schema.dim rule fault incidence f)
one_fault schema rule fault other (Cycle incidence f) (Incidence g) = absurd (incidence_no_fault schema.dim rule other incidence g)
one_fault schema rule fault other (Cycle incidence f) (Cycle incidence' g) = one_square_fault schema.dim rule fault other f g
one_fault schema rule fault other (Cycle incidence f) (Embedding incidence' squares g) = absurd (squares_no_fault schema.dim rule fault squares f)
one_fault schema rule fault other (Embedding incidence squares f) (Incidence g) = absurd (incidence_no_fault schema.dim rule other incidence g)
one_fault schema rule fault other (Embedding incidence squares f) (Cycle incidence' g) = absurd (squares_no_fault schema.dim rule other squares g)
one_fault schema rule fault other (Embedding incidence squares f) (Embedding incidence' squares' g) = one_embed_fault schema rule fault other f g

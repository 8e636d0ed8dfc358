-- A rule that meets a condition has no fault of it, and an accepted rule has none.
use Rattle.std.proofs.Common.{◌≡◌, ℕ, ◌<◌, ◌⊎◌, subst, inl, inr, arith}
use Rattle.std.proofs.lemmas.Bool.{cases_order}
use Rattle.gm_model.specs.declared.rule.RuleFault.{RuleFault}
use Rattle.gm_model.specs.declared.schema.Schema.{Schema}
use Rattle.gm_model.specs.Acceptance.{IsAccepted, IsFault, Incidence, Cycle, Embedding}
use Rattle.gm_model.specs.Components.{IsKeeper, IsInherited, HasSource, HasSources, IsTogether, IsAssigned, IsComponentFault, Twice, Sourceless, Merged, MergedAlong, IsEmbedFault, First}
use Rattle.gm_model.specs.Maps.{type_of}
use Rattle.gm_model.specs.Orbits.{Labels}
use Rattle.gm_model.specs.Rules.{Rule}
use Rattle.gm_model.specs.Squares.{HasSquares, IsSquareFault, OpenSquare}
use Rattle.gm_model.specs.Structure.{IsStructureFault, BadHooks, BadHookWord, BadLength, Unconnected, IsArcFault, AtNode, IsNodeArcFault, TwiceLeft, TwiceRight, Missing, Differs, IsStructured, HasArcs, HasIncidence, IsIncidenceFault, OfStructure, OfArcs}

pub structured_no_fault : (rule : Rule) (fault : RuleFault) → IsStructured rule → IsStructureFault rule fault → ⊥
structured_no_fault rule _ s (BadHooks bad) = bad s.hook
structured_no_fault rule _ s (BadHookWord t h hook bad at) = bad.fails (s.plain t bad.within)
structured_no_fault rule _ s (BadLength x hook plain bad) = bad.fails (s.widths x bad.within)
structured_no_fault rule _ s (Unconnected x hook plain widths bad) = bad.fails (s.connected x bad.within)

pub node_no_fault : (n : ℕ) (rule : Rule) (x : ℕ) (fault : RuleFault) → HasArcs n rule x → IsNodeArcFault n rule x fault → ⊥
node_no_fault n rule x _ a (TwiceLeft i bad) = bad.fails (a.left_once i bad.within)
node_no_fault n rule x _ a (TwiceRight i once bad) = bad.fails (a.right_once i bad.within)
node_no_fault n rule x _ a (Missing i left right bad) = bad.fails (a.one_sided i bad.within)
node_no_fault n rule x _ a (Differs i left right bad) = bad.fails (a.both i bad.within)

-- a component has one keeper
pub one_keeper : (rule : Rule) (o : Labels) (x y z : ℕ) → IsKeeper rule o x y → IsKeeper rule o x z → y ≡ z
one_keeper rule o x y z k l = go (cases_order y z)
  where
    go : (y ≡ z) ⊎ ((y < z) ⊎ (z < y)) → y ≡ z
    go (inl e) = e
    go (inr (inl h)) = absurd (l.least y h k.together k.preserved)
    go (inr (inr h)) = absurd (k.least z h l.together l.preserved)

-- a component with a source of its value has no fault
pub source_no_fault : (rule : Rule) (e : ℕ) (o : Labels) (x : ℕ) (fault : RuleFault) → HasSource rule e o x → IsComponentFault rule e o x fault → ⊥
source_no_fault rule e o x _ s (Twice y z first second) =
    let same : y ≡ z = s.once y z first.together second.together first.has second.has in
    let above : y < z = second.above in
    omega arith
source_no_fault rule e o x _ s (Sourceless none new) = go s.source
  where
    go : ((y : ℕ) × IsTogether rule o x y × IsAssigned rule e y) ⊎ (((y : ℕ) → IsTogether rule o x y → IsAssigned rule e y → ⊥) × ((keeper : ℕ) × IsInherited rule o x keeper)) → ⊥
    go (inl (y, t, a)) = none y t a
    go (inr (none', (keeper, i))) = new keeper i.kept.together i.kept.preserved
source_no_fault rule e o x _ s (Merged keeper y none kept outside) = go s.source
  where
    go : ((z : ℕ) × IsTogether rule o x z × IsAssigned rule e z) ⊎ (((z : ℕ) → IsTogether rule o x z → IsAssigned rule e z → ⊥) × ((other : ℕ) × IsInherited rule o x other)) → ⊥
    go (inl (z, t, a)) = none z t a
    go (inr (none', (other, i))) = (subst (λ k. IsInherited rule o x k → ⊥) (one_keeper rule o x keeper other kept i.kept) (λ j. outside.above (j.one y outside.together outside.has))) i
source_no_fault rule e o x _ s (MergedAlong keeper m none kept one bad) = go s.source
  where
    go : ((z : ℕ) × IsTogether rule o x z × IsAssigned rule e z) ⊎ (((z : ℕ) → IsTogether rule o x z → IsAssigned rule e z → ⊥) × ((other : ℕ) × IsInherited rule o x other)) → ⊥
    go (inl (z, t, a)) = none z t a
    go (inr (none', (other, i))) = (subst (λ k. IsInherited rule o x k → ⊥) (one_keeper rule o x keeper other kept i.kept) (λ j. bad.fails (j.along m))) i

pub incidence_no_fault : (n : ℕ) (rule : Rule) (fault : RuleFault) → HasIncidence n rule → IsIncidenceFault n rule fault → ⊥
incidence_no_fault n rule fault has (OfStructure s) = structured_no_fault rule fault has.structured s
incidence_no_fault n rule fault has (OfArcs s f) = go f
  where
    go : IsArcFault n rule fault → ⊥
    go (AtNode x within before bad) = node_no_fault n rule x fault (has.arcs x within) bad

pub squares_no_fault : (n : ℕ) (rule : Rule) (fault : RuleFault) → HasSquares n rule → IsSquareFault n rule fault → ⊥
squares_no_fault n rule _ has (OpenSquare x i j bad) = bad.open_here (has x i j bad.apart bad.label)

pub sources_no_fault : (schema : Schema) (rule : Rule) (fault : RuleFault) → HasSources schema rule → IsEmbedFault schema rule fault → ⊥
sources_no_fault schema rule fault has (First e embed x bad) = source_no_fault rule e (type_of embed) x fault (has e embed bad.embed_at x bad.leader.0) bad.here

pub accepted_no_fault : (schema : Schema) (rule : Rule) (fault : RuleFault) → IsAccepted schema rule → IsFault schema rule fault → ⊥
accepted_no_fault schema rule fault a (Incidence f) = incidence_no_fault schema.dim rule fault a.incidence f
accepted_no_fault schema rule fault a (Cycle incidence f) = squares_no_fault schema.dim rule fault a.squares f
accepted_no_fault schema rule fault a (Embedding incidence squares f) = sources_no_fault schema rule fault a.sources f

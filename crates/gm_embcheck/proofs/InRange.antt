-- What a rule in range, with words of one width, gives.
use Rattle.std.proofs.Common.{◌≡◌, ℕ, ◌<◌, ◌≤◌, true, Option, List, [], Some, None, refl, arith}
use Rattle.std.specs.List.{All, slice_get}
use Rattle.std.specs.Option.{is_some, unwrap_or}
use Rattle.std.proofs.lemmas.List.Elements.{All-from_recursion, All-weaker}
use Rattle.std.proofs.lemmas.Option.{slice_get_within, get_or_from_slice_get}
use Rattle.gm_model.specs.declared.rule.Link.{Link}
use Rattle.gm_model.specs.declared.rule.Side.{Side}
use Rattle.gm_model.specs.declared.schema.Schema.{Schema}
use Rattle.gm_model.specs.declared.word.Letter.{Letter}
use Rattle.gm_model.specs.declared.word.Letter.TheVariants.{At}
use Rattle.gm_model.specs.Rules.{Rule, has_word, word_at, letters, links_on}
use Rattle.gm_model.specs.Structure.{IsInRange, IsWithinLimits, IsLinkInRange, HasIncidence}
use Rattle.gm_model.proofs.Nodes.{node_below}
use Rattle.gm_embcheck.specs.inner.Bounds.{HasBounds}

-- a node with a letter has a word
word_here : (rule : Rule) (side : Side) (x m i : ℕ) → slice_get (letters rule side x) m ≡ Some (At i) → has_word rule side x ≡ true
word_here rule side x m i h = go (word_at rule side x) h
  where
    go : (word : Option (List Letter)) → slice_get (unwrap_or word []) m ≡ Some (At i) → is_some word ≡ true
    go (Some word) h = refl
    go None h = cc

module _ (schema : Schema) (rule : Rule) (few : schema.dim ≤ 7) (in_range : IsInRange schema rule) (within : IsWithinLimits rule) (incidence : HasIncidence schema.dim rule) where
  pub has_bounds : HasBounds rule
  has_bounds = record {
    nodes = within.nodes;
    links = λ side. All-weaker (IsLinkInRange schema.dim rule side) (λ (link : Link). (link.from < 32) × (link.to < 32) × (link.label ≤ 7))
        (λ link p. let n = within.nodes in let l = p.label in let from = node_below rule side link.from p.from in let to = node_below rule side link.to p.to in (omega arith, omega arith, omega arith))
        (links_on rule side) (All-from_recursion _ (links_on rule side) (in_range.links side));
    ends = λ side. All-weaker (IsLinkInRange schema.dim rule side) (λ (link : Link). (has_word rule side link.from ≡ true) × (has_word rule side link.to ≡ true))
        (λ link p. (p.from, p.to)) (links_on rule side) (All-from_recursion _ (links_on rule side) (in_range.links side));
    labels = λ side x m i e.
        let all : All (λ letter. (j : ℕ) → letter ≡ At j → j ≤ schema.dim) (letters rule side x) = All-from_recursion _ (letters rule side x) (in_range.words side x) in
        let b = slice_get_within (letters rule side x) m (At i) e in
        let l : i ≤ schema.dim = all m (At i) b i (get_or_from_slice_get (letters rule side x) m (At i) (At i) e) in
        omega arith;
    places = λ side x m i e.
        let word = word_here rule side x m i e in
        let wide = incidence.structured.widths x (node_below rule side x word) side word in
        let b = slice_get_within (letters rule side x) m (At i) e in
        omega arith;
  }

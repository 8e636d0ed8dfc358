-- Numbers of nodes, and the order of the left ones.
use Rattle.std.proofs.Common.{◌≡◌, ℕ, ◌<◌, true, false, inl, inr, List, length, get_or, map, None, Some, refl, sym, ◌∙◌, ap}
use Rattle.std.specs.List.{slice_get}
use Rattle.std.specs.Option.{option_map}
use Rattle.std.proofs.lemmas.List.{length-map}
use Rattle.std.proofs.lemmas.Option.{slice_get-map, slice_get-get_or, slice_get_cases}
use Rattle.gm_model.specs.declared.rule.Node.{Node}
use Rattle.gm_model.specs.declared.rule.Side.{Side}
use Rattle.gm_model.specs.Rules.{Rule, node_of, word_at, has_word}

-- a node of a side is one of the nodes
pub node_below : (rule : Rule) (side : Side) (x : ℕ) → has_word rule side x ≡ true → x < length rule.nodes
node_below rule side x h = elim ((slice_get_cases rule.nodes x).1) [
  | inl found ↦ found.1
  | inr past ↦ absurd (let none : word_at rule side x ≡ None = rw past.1 refl in let e : has_word rule side x ≡ false = rw none refl in cc)
]

-- a node of a table is that of its rule
pub node_here : (nodes : List Node) (x : ℕ) (n : Node) → n ≡ get_or nodes x n → x < length (map node_of nodes) → slice_get (map node_of nodes) x ≡ Some (node_of n)
node_here nodes x n e b =
    let within : x < length nodes = rw (← length-map nodes node_of) b in
    slice_get-map node_of nodes x ∙ ap (option_map node_of) (slice_get-get_or nodes x n within ∙ ap Some (sym e))

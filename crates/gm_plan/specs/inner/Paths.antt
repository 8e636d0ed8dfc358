-- Which link ends the least path to a left node, and in which order the left nodes can be reached by such links.
use Rattle.std.specs.Prelude.{◌≡◌, ℕ, List, [], ◌∷◌, ◌++◌, map, take, Some, slice_get, IsTrue}
use Rattle.std.specs.List.{Contains}
use Rattle.gm_model.specs.declared.rule.Link.{Link}
use Rattle.gm_model.specs.declared.rule.Side.TheVariants.{Left}
use Rattle.gm_model.specs.Matches.{IsPathTo}
use Rattle.gm_model.specs.Orbits.{IsListOf}
use Rattle.gm_model.specs.Rules.{Rule, has_word}

-- the least path to `link.to` is the least path to `link.from`, and then the label
pub record IsLastLink (rule : Rule) (link : Link) : Type 0 where
  pub hook : ℕ
  pub front : List ℕ
  pub to_from : IsPathTo rule link.from hook front
  pub to_end : IsPathTo rule link.to hook (front ++ link.label ∷ [])

-- the hooks, and the nodes to which the links lead, in their order
abbrev pub path_nodes : Rule → List Link → List ℕ
path_nodes rule links = rule.hooks ++ map (λ (link : Link). link.to) links

-- For each left node but the hooks the last link of its least path. A link leads from a hook, or from a node to which
-- an earlier link leads.
pub record ArePaths (rule : Rule) (links : List Link) : Type 0 where
  pub ends : (t : ℕ) (link : Link) → slice_get links t ≡ Some link → IsLastLink rule link
  pub earlier : (t : ℕ) (link : Link) → slice_get links t ≡ Some link → Contains (path_nodes rule (take t links)) link.from
  pub nodes : IsListOf (λ x. IsTrue (has_word rule Left x)) (path_nodes rule links)

-- What the parts of this check need to know of a rule in range, so that nodes are places of their tables and labels of a mask.
use Rattle.std.specs.Prelude.{◌≡◌, ℕ, ◌<◌, ◌≤◌, List, length, Some, slice_get, IsTrue}
use Rattle.std.specs.List.{All}
use Rattle.gm_model.specs.declared.rule.Link.{Link}
use Rattle.gm_model.specs.declared.rule.Side.{Side}
use Rattle.gm_model.specs.declared.word.Letter.TheVariants.{At}
use Rattle.gm_model.specs.Rules.{Rule, has_word, letters, links_on, width}

-- the links join nodes with numbers below 32, and have labels up to 7
abbrev pub HasLinkBounds : List Link → Type 0
HasLinkBounds links = All (λ (link : Link). (link.from < 32) × (link.to < 32) × (link.label ≤ 7)) links

pub record HasBounds (rule : Rule) : Type 0 where
  pub nodes : length rule.nodes ≤ 32
  pub links : (side : Side) → HasLinkBounds (links_on rule side)
  pub ends : (side : Side) → All (λ (link : Link). IsTrue (has_word rule side link.from) × IsTrue (has_word rule side link.to)) (links_on rule side)
  pub labels : (side : Side) (x m i : ℕ) → slice_get (letters rule side x) m ≡ Some (At i) → i ≤ 7
  pub places : (side : Side) (x m i : ℕ) → slice_get (letters rule side x) m ≡ Some (At i) → m < width rule

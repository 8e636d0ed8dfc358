-- What the parts of this check need to know of a rule in range, so that nodes and labels are places of their tables.
use Rattle.std.specs.Prelude.{◌≡◌, ℕ, ◌<◌, ◌≤◌, List, length, Some, slice_get, IsTrue, ◌⊎◌}
use Rattle.std.specs.List.{All}
use Rattle.gm_model.specs.declared.rule.Link.{Link}
use Rattle.gm_model.specs.declared.rule.Side.{Side}
use Rattle.gm_model.specs.declared.rule.Side.TheVariants.{Left, Right}
use Rattle.gm_model.specs.declared.word.Letter.{Letter}
use Rattle.gm_model.specs.declared.word.Letter.TheVariants.{At}
use Rattle.gm_model.specs.Rules.{Rule, has_word, letters, links_on}

-- the links join nodes with numbers below 32
abbrev pub HasEndsBelow32 : List Link → Type 0
HasEndsBelow32 links = All (λ (link : Link). (link.from < 32) × (link.to < 32)) links

-- few links, with labels below 8
pub record HasLinkLabels (links : List Link) : Type 0 where
  pub few : length links ≤ 256
  pub labels : All (λ (link : Link). link.label < 8) links

-- a word with labels below 8
pub record HasWordLabels (word : List Letter) : Type 0 where
  pub labels : (m i : ℕ) → slice_get word m ≡ Some (At i) → i < 8

pub record HasLabels (rule : Rule) : Type 0 where
  pub links : (side : Side) → HasLinkLabels (links_on rule side)
  pub words : (side : Side) (x : ℕ) → HasWordLabels (letters rule side x)

-- the nodes with a left word come first
abbrev pub HasLeftFirst : Rule → Type 0
HasLeftFirst rule = (x y : ℕ) → x < y → IsTrue (has_word rule Left y) → IsTrue (has_word rule Left x)

abbrev pub HasSomeWord : Rule → ℕ → Type 0
HasSomeWord rule x = IsTrue (has_word rule Left x) ⊎ IsTrue (has_word rule Right x)

-- What is run on a grid: the book of the rule that triangulates a face, and the script that applies it to each square.
use Rattle.std.specs.Prelude.{◌≡◌, ℕ, ◌*◌, [], ◌∷◌, map, Some, None, codes}
use Rattle.std.specs.List.{range_with_len}
use Rattle.gm_model.specs.declared.expr.DartTerm.{DartTerm}
use Rattle.gm_model.specs.declared.expr.BinOp.TheVariants.{Div}
use Rattle.gm_model.specs.declared.rule.Book.{Book}
use Rattle.gm_model.specs.Statements.{Stat, Apply}
use Rattle.gm_model.specs.declared.script.Script.{Script}
use Rattle.gm_model.specs.declared.word.Letter.TheVariants.{At, Gone}
use Rattle.gm_model.specs.declared.word.Mask.{Mask}
use Rattle.gm_model.specs.Rules.{Rule, RuleNode, rule_of, link_from}
use Rattle.gm_model.specs.Trees.{Tree, Sum, Count, Binary}
use Rattle.gm_grid.specs.GridMap.{grid_schema}

-- ---- the rule

-- each dart of the face, the labels 0 and 1
abbrev pub face : Mask
face = record { bits = 3 }

-- the dart of node a
abbrev pub hook_dart : DartTerm
hook_dart = record { node = 0; path = [] }

-- the middle of the face: the sum of the points of its darts, divided by their number
abbrev pub middle : Tree
middle = Binary Div (Sum face hook_dart 0) (Count face hook_dart)

-- a <0 1> hook on the left, a <0 _> on the right
abbrev pub side_node : RuleNode
side_node = record { name = codes "a"; left = Some (At 0 ∷ At 1 ∷ []); right = Some (At 0 ∷ Gone ∷ []); sets = [] }

-- b <_ 2>
abbrev pub spoke_node : RuleNode
spoke_node = record { name = codes "b"; left = None; right = Some (Gone ∷ At 2 ∷ []); sets = [] }

-- c <1 2> with the point in the middle
abbrev pub middle_node : RuleNode
middle_node = record { name = codes "c"; left = None; right = Some (At 1 ∷ At 2 ∷ []); sets = record { embed = 0; tree = middle } ∷ [] }

-- a triangle for each side of the face, from the side to its middle
abbrev pub triangulation : Rule
triangulation = record {
  name = codes "T";
  params = [];
  nodes = side_node ∷ spoke_node ∷ middle_node ∷ [];
  left_links = [];
  right_links = link_from 0 1 1 ∷ link_from 1 0 2 ∷ [];
  hooks = 0 ∷ [];
  pre = None;
}

pub record IsGridBook (book : Book) : Type 0 where
  pub version_is : book.version ≡ 1
  pub schema_is : book.schema ≡ grid_schema
  pub rules_are : map rule_of book.rules ≡ triangulation ∷ []

-- ---- the script

-- the rule at the first dart of the square with this number
abbrev pub stat_at : ℕ → Stat
stat_at square = Apply (record { rule = 0; hooks = 8 * square ∷ []; params = [] })

-- one line for each square, ascending
abbrev pub IsGridScript : ℕ → Script → Type 0
IsGridScript m script = script.stats ≡ map stat_at (range_with_len 0 (m * m))

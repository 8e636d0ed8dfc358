-- Worked outcomes: an application that is done, its budget, one that is refused for each cause, and maps and lists that lack a property.
use Rattle.std.specs.Prelude.{ℕ, List, [], ◌∷◌, codes, Some, None, slice_get, slice_index, nat_lt, ◌==◌, pos}
use Rattle.std.specs.Option.{unwrap_or}
use Rattle.gm_model.specs.declared.expr.BinOp.TheVariants.{Div, Eq}
use Rattle.gm_model.specs.declared.schema.Schema.{Schema}
use Rattle.gm_model.specs.declared.value.Kind.TheVariants as kinds
use Rattle.gm_model.specs.declared.value.Value.TheVariants as values
use Rattle.gm_model.specs.declared.word.Letter.TheVariants.{At}
use Rattle.gm_model.specs.Applications.{Application}
use Rattle.gm_model.specs.Maps.{Map}
use Rattle.gm_model.specs.Matches.{Placement}
use Rattle.gm_model.specs.Rules.{Rule, link_from}
use Rattle.gm_model.specs.Trees.{Tree, Number, Param as Parameter, Field, Binary}
use Rattle.gm_theory.specs.inner.Examples.{map_of, origin, point, points_of_vertices, planar, polygonal, linear, rule_from, kept_node, new_node, square_table, square, triangulation, four_triangles, merging, split, edge}

-- ---- a left step that isn't met, a hook that names no dart

-- a face without neighbours is removed
abbrev pub drop : Rule
drop = rule_from (codes "drop") (record { name = codes "a"; left = Some (At 0 ∷ At 1 ∷ []); right = None; sets = [] } ∷ []) (link_from 0 2 0 ∷ []) []

abbrev pub drop_at : ℕ → Application
drop_at d = record { map = four_triangles; rule = drop; hooks = d ∷ []; params = [] }

-- the lower triangle, in the order of its walk from dart 0
abbrev pub triangle_walk : List ℕ
triangle_walk = 0 ∷ 1 ∷ 8 ∷ 9 ∷ 16 ∷ 17 ∷ []

abbrev pub triangle_turns : List (List ℕ)
triangle_turns = (1 ∷ 2 ∷ []) ∷ (0 ∷ 3 ∷ []) ∷ (4 ∷ 0 ∷ []) ∷ (5 ∷ 1 ∷ []) ∷ (2 ∷ 5 ∷ []) ∷ (3 ∷ 4 ∷ []) ∷ []

abbrev pub on_triangle : Placement
on_triangle = record { positions = 6; turn = λ p m. slice_index (unwrap_or (slice_get triangle_turns p) []) m; dart_of = λ x p. slice_index triangle_walk p }

-- ---- two nodes on one dart

-- one dart, free for each label
abbrev pub lone : Map
lone = map_of polygonal ((0 ∷ 0 ∷ []) ∷ []) (origin ∷ [])

abbrev pub merging_alone : Application
merging_alone = record { map = lone; rule = merging; hooks = 0 ∷ []; params = [] }

abbrev pub on_lone : Placement
on_lone = record { positions = 1; turn = λ p m. 0; dart_of = λ x p. 0 }

-- ---- preconditions

abbrev pub split_if : Tree → Application
split_if tree = record { map = edge; rule = record split { pre = Some tree }; hooks = 0 ∷ []; params = [] }

-- 1 / 0 == 0
abbrev pub valueless : Tree
valueless = Binary Eq (Binary Div (Number (pos 1)) (Number (pos 0))) (Number (pos 0))

-- ---- room

-- two darts that are joined along 0 are created
abbrev pub pair : Rule
pair = record {
  name = codes "pair";
  params = [];
  nodes = new_node (codes "x") [] [] ∷ new_node (codes "y") [] [] ∷ [];
  left_links = [];
  right_links = link_from 0 0 1 ∷ link_from 0 1 0 ∷ link_from 1 1 1 ∷ [];
  hooks = [];
  pre = None;
}

abbrev pub created : Placement
created = record { positions = 1; turn = λ p m. 0; dart_of = λ x p. 0 }

-- one free dart of the greatest name but one
abbrev pub late : Map
late = record { schema = linear; live = λ d. d == 16777214; alpha = λ i d. d; value = λ e d. origin; next = 16777215 }

-- as many free darts as there may be, but one
abbrev pub crowded : Map
crowded = record { schema = linear; live = λ d. nat_lt d 1048575; alpha = λ i d. d; value = λ e d. origin; next = 1048575 }

abbrev pub pair_on : Map → Application
pair_on map = record { map = map; rule = pair; hooks = []; params = [] }

-- ---- a deciding instance without a value

-- the point of a vertex divided by 0
abbrev pub spoiling : Rule
spoiling = rule_from (codes "spoil") (kept_node (codes "a") (At 1 ∷ At 2 ∷ []) (At 1 ∷ At 2 ∷ []) (record { embed = 0; tree = Binary Div (Field (record { node = 0; path = [] }) 0) (Number (pos 0)) } ∷ []) ∷ []) [] []

abbrev pub spoiling_square : Application
spoiling_square = record { map = square; rule = spoiling; hooks = 1 ∷ []; params = [] }

abbrev pub on_corner : Placement
on_corner = record { positions = 2; turn = λ p m. slice_index (unwrap_or (slice_get ((1 ∷ 0 ∷ []) ∷ (0 ∷ 1 ∷ []) ∷ []) p) []) m; dart_of = λ x p. slice_index (1 ∷ 2 ∷ []) p }

-- ---- what lacks a property

-- the square with two points for one vertex
abbrev pub torn : Map
torn = map_of planar square_table (point 0 0 ∷ point 3 0 ∷ point 4 0 ∷ point 4 4 ∷ point 4 4 ∷ point 0 4 ∷ point 0 4 ∷ point 0 0 ∷ [])

-- the square with a next name that a dart has
abbrev pub overdue : Map
overdue = record square { next = 7 }

-- an embedding with a reserved name
abbrev pub misnamed : Schema
misnamed = record { dim = 2; embeds = record points_of_vertices { name = codes "rule" } ∷ [] }

-- the triangulation with a link of a label that the map hasn't
abbrev pub astray : Rule
astray = record triangulation { right_links = link_from 0 1 1 ∷ link_from 1 3 2 ∷ [] }

-- ---- values out of their kind

-- dimension 1, with a number for each vertex
abbrev pub sized : Schema
sized = record { dim = 1; embeds = record { name = codes "size"; mask = record { bits = 2 }; kind = kinds.Int } ∷ [] }

-- the number of a vertex becomes the parameter
abbrev pub setting : Rule
setting = record (rule_from (codes "set") (kept_node (codes "a") (At 1 ∷ []) (At 1 ∷ []) (record { embed = 0; tree = Parameter 0 } ∷ []) ∷ []) [] []) { params = record { name = codes "v"; kind = kinds.Int } ∷ [] }

-- one more than the greatest number
abbrev pub too_great : ℕ
too_great = 9223372036854775808

-- one dart with that number
abbrev pub outsized : Map
outsized = record { schema = sized; live = λ d. d == 0; alpha = λ i d. d; value = λ e d. values.Int (pos too_great); next = 1 }

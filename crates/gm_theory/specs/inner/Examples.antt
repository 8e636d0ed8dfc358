-- Worked examples: a square face, its triangulation, an edge that is split, and rules that each condition refuses.
use Rattle.std.specs.Prelude.{ℕ, List, [], ◌∷◌, length, codes, Some, None, slice_get, slice_index, slice_index_or, nat_lt, pos}
use Rattle.std.specs.Option.{unwrap_or}
use Rattle.gm_model.specs.declared.expr.BinOp.TheVariants.{Div}
use Rattle.gm_model.specs.declared.rule.Link.{Link}
use Rattle.gm_model.specs.declared.schema.Embed.{Embed}
use Rattle.gm_model.specs.declared.schema.Schema.{Schema}
use Rattle.gm_model.specs.declared.value.Kind.TheVariants as kinds
use Rattle.gm_model.specs.declared.value.Value.{Value}
use Rattle.gm_model.specs.declared.value.Value.TheVariants as values
use Rattle.gm_model.specs.declared.word.Letter.{Letter}
use Rattle.gm_model.specs.declared.word.Letter.TheVariants.{At, Gone}
use Rattle.gm_model.specs.declared.word.Mask.{Mask}
use Rattle.gm_model.specs.Acceptance.{IsAccepted}
use Rattle.gm_model.specs.Applications.{Application, IsResult}
use Rattle.gm_model.specs.Components.{HasSources}
use Rattle.gm_model.specs.Kinds.{IsTyped}
use Rattle.gm_model.specs.Maps.{Map, IsDart, IsGeneralised, IsSchema, IsSound, dimension}
use Rattle.gm_model.specs.Matches.{Placement, IsMatch}
use Rattle.gm_model.specs.Rules.{Rule, RuleNode, Assignment, link_from}
use Rattle.gm_model.specs.Structure.{IsInRange, HasIncidence}
use Rattle.gm_model.specs.Trees.{Tree, Field, Sum, Count, Binary}
use Rattle.gm_model.specs.Unfolding.{IsUnfolding, scene_of}

-- ---- maps by tables

-- the neighbours of each dart by label, with the dart's name as its place
abbrev pub Table : Type 0
Table = List (List ℕ)

abbrev pub neighbour : Table → ℕ → ℕ → ℕ
neighbour table i d = slice_index_or (unwrap_or (slice_get table d) []) i d

abbrev pub origin : Value
origin = values.Vec3 (pos 0) (pos 0) (pos 0)

abbrev pub point : ℕ → ℕ → Value
point x y = values.Vec3 (pos x) (pos y) (pos 0)

-- the map of a table, with a list of values for the one embedding that there is
abbrev pub map_of : Schema → Table → List Value → Map
map_of schema table points = record {
  schema = schema;
  live = λ d. nat_lt d (length table);
  alpha = neighbour table;
  value = λ e d. slice_index_or points d origin;
  next = length table;
}

-- ---- schemas

abbrev pub labels_01 : Mask
labels_01 = record { bits = 3 }

-- the labels 1 and 2: those of a vertex in dimension 2
abbrev pub labels_12 : Mask
labels_12 = record { bits = 6 }

abbrev pub points_of_vertices : Embed
points_of_vertices = record { name = codes "pos"; mask = labels_12; kind = kinds.Vec3 }

-- dimension 2, with a point for each vertex
abbrev pub planar : Schema
planar = record { dim = 2; embeds = points_of_vertices ∷ [] }

-- dimension 1, without embeddings
abbrev pub linear : Schema
linear = record { dim = 1; embeds = [] }

-- ---- a rule of one hook, its node 0, without parameters and precondition

abbrev pub rule_from : List ℕ → List RuleNode → List Link → List Link → Rule
rule_from name nodes left_links right_links = record { name = name; params = []; nodes = nodes; left_links = left_links; right_links = right_links; hooks = 0 ∷ []; pre = None }

abbrev pub kept_node : List ℕ → List Letter → List Letter → List Assignment → RuleNode
kept_node name left right sets = record { name = name; left = Some left; right = Some right; sets = sets }

abbrev pub new_node : List ℕ → List Letter → List Assignment → RuleNode
new_node name right sets = record { name = name; left = None; right = Some right; sets = sets }

-- ---- the triangulation of a face

-- sum<0 1>(a.pos) / count<0 1>(a)
abbrev pub centre : Tree
centre = Binary Div (Sum labels_01 (record { node = 0; path = [] }) 0) (Count labels_01 (record { node = 0; path = [] }))

-- with these words of b and c, and these assignments of c
abbrev pub triangles_by : List Letter → List Letter → List Assignment → Rule
triangles_by b_word c_word sets = rule_from (codes "T")
    (kept_node (codes "a") (At 0 ∷ At 1 ∷ []) (At 0 ∷ Gone ∷ []) [] ∷ new_node (codes "b") b_word [] ∷ new_node (codes "c") c_word sets ∷ [])
    [] (link_from 0 1 1 ∷ link_from 1 0 2 ∷ [])

abbrev pub triangles : List Letter → List Assignment → Rule
triangles c_word sets = triangles_by (Gone ∷ At 2 ∷ []) c_word sets

-- a joins b along the edges, b joins c along the new edges, and c is the new vertex, with the face's centre as its point
abbrev pub triangulation : Rule
triangulation = triangles (At 1 ∷ At 2 ∷ []) (record { embed = 0; tree = centre } ∷ [])

-- the letters of c exchanged: its square of 0 and 2 at b doesn't close
abbrev pub relabelled : Rule
relabelled = triangles (At 2 ∷ At 1 ∷ []) (record { embed = 0; tree = centre } ∷ [])

-- the new vertex without a point
abbrev pub pointless : Rule
pointless = triangles (At 1 ∷ At 2 ∷ []) []

-- b without the label 2
abbrev pub unfinished : Rule
unfinished = triangles_by (Gone ∷ Gone ∷ []) (At 1 ∷ At 2 ∷ []) (record { embed = 0; tree = centre } ∷ [])

-- a number where a point is to be
abbrev pub miscounted : Rule
miscounted = triangles (At 1 ∷ At 2 ∷ []) (record { embed = 0; tree = Count labels_01 (record { node = 0; path = [] }) } ∷ [])

-- the triangulation without a hook
abbrev pub hookless : Rule
hookless = record triangulation { hooks = [] }

-- ---- a square face of side 4, and what the triangulation makes of it

abbrev pub square_table : Table
square_table =
    (1 ∷ 7 ∷ 0 ∷ []) ∷ (0 ∷ 2 ∷ 1 ∷ []) ∷ (3 ∷ 1 ∷ 2 ∷ []) ∷ (2 ∷ 4 ∷ 3 ∷ [])
    ∷ (5 ∷ 3 ∷ 4 ∷ []) ∷ (4 ∷ 6 ∷ 5 ∷ []) ∷ (7 ∷ 5 ∷ 6 ∷ []) ∷ (6 ∷ 0 ∷ 7 ∷ []) ∷ []

abbrev pub corners : List Value
corners = point 0 0 ∷ point 4 0 ∷ point 4 0 ∷ point 4 4 ∷ point 4 4 ∷ point 0 4 ∷ point 0 4 ∷ point 0 0 ∷ []

abbrev pub square : Map
square = map_of planar square_table corners

-- the orbit of dart 0 over 0 and 1, in the order of its walk
abbrev pub square_walk : List ℕ
square_walk = 0 ∷ 1 ∷ 7 ∷ 2 ∷ 6 ∷ 3 ∷ 5 ∷ 4 ∷ []

-- where the positions turn: along 0, and along 1
abbrev pub square_turns : List (List ℕ)
square_turns = (1 ∷ 2 ∷ []) ∷ (0 ∷ 3 ∷ []) ∷ (4 ∷ 0 ∷ []) ∷ (5 ∷ 1 ∷ []) ∷ (2 ∷ 6 ∷ []) ∷ (3 ∷ 7 ∷ []) ∷ (7 ∷ 4 ∷ []) ∷ (6 ∷ 5 ∷ []) ∷ []

-- node a lies along the walk
abbrev pub on_square : Placement
on_square = record { positions = 8; turn = λ p m. slice_index (unwrap_or (slice_get square_turns p) []) m; dart_of = λ x p. slice_index square_walk p }

abbrev pub triangles_table : Table
triangles_table =
    (1 ∷ 8 ∷ 0 ∷ []) ∷ (0 ∷ 9 ∷ 1 ∷ []) ∷ (3 ∷ 11 ∷ 2 ∷ []) ∷ (2 ∷ 13 ∷ 3 ∷ [])
    ∷ (5 ∷ 15 ∷ 4 ∷ []) ∷ (4 ∷ 14 ∷ 5 ∷ []) ∷ (7 ∷ 12 ∷ 6 ∷ []) ∷ (6 ∷ 10 ∷ 7 ∷ [])
    ∷ (16 ∷ 0 ∷ 10 ∷ []) ∷ (17 ∷ 1 ∷ 11 ∷ []) ∷ (18 ∷ 7 ∷ 8 ∷ []) ∷ (19 ∷ 2 ∷ 9 ∷ [])
    ∷ (20 ∷ 6 ∷ 14 ∷ []) ∷ (21 ∷ 3 ∷ 15 ∷ []) ∷ (22 ∷ 5 ∷ 12 ∷ []) ∷ (23 ∷ 4 ∷ 13 ∷ [])
    ∷ (8 ∷ 17 ∷ 18 ∷ []) ∷ (9 ∷ 16 ∷ 19 ∷ []) ∷ (10 ∷ 20 ∷ 16 ∷ []) ∷ (11 ∷ 21 ∷ 17 ∷ [])
    ∷ (12 ∷ 18 ∷ 22 ∷ []) ∷ (13 ∷ 19 ∷ 23 ∷ []) ∷ (14 ∷ 23 ∷ 20 ∷ []) ∷ (15 ∷ 22 ∷ 21 ∷ []) ∷ []

abbrev pub triangles_points : List Value
triangles_points =
    point 0 0 ∷ point 4 0 ∷ point 4 0 ∷ point 4 4 ∷ point 4 4 ∷ point 0 4 ∷ point 0 4 ∷ point 0 0
    ∷ point 0 0 ∷ point 4 0 ∷ point 0 0 ∷ point 4 0 ∷ point 0 4 ∷ point 4 4 ∷ point 0 4 ∷ point 4 4
    ∷ point 2 2 ∷ point 2 2 ∷ point 2 2 ∷ point 2 2 ∷ point 2 2 ∷ point 2 2 ∷ point 2 2 ∷ point 2 2 ∷ []

abbrev pub four_triangles : Map
four_triangles = map_of planar triangles_table triangles_points

-- a map that meets all that the theorem asks of one
pub record IsLawfulExample (map : Map) : Type 0 where
  pub schema : IsSchema map.schema
  pub sound : IsSound map

abbrev pub triangulating : Application
triangulating = record { map = square; rule = triangulation; hooks = 0 ∷ []; params = [] }

-- What the relabelled triangulation makes of the square. The labels 0 and 2 don't commute at dart 8: they lead to 17
-- along 2 and then 0, and to 18 along 0 and then 2.
abbrev pub twisted_table : Table
twisted_table =
    (1 ∷ 8 ∷ 0 ∷ []) ∷ (0 ∷ 9 ∷ 1 ∷ []) ∷ (3 ∷ 11 ∷ 2 ∷ []) ∷ (2 ∷ 13 ∷ 3 ∷ [])
    ∷ (5 ∷ 15 ∷ 4 ∷ []) ∷ (4 ∷ 14 ∷ 5 ∷ []) ∷ (7 ∷ 12 ∷ 6 ∷ []) ∷ (6 ∷ 10 ∷ 7 ∷ [])
    ∷ (16 ∷ 0 ∷ 10 ∷ []) ∷ (17 ∷ 1 ∷ 11 ∷ []) ∷ (18 ∷ 7 ∷ 8 ∷ []) ∷ (19 ∷ 2 ∷ 9 ∷ [])
    ∷ (20 ∷ 6 ∷ 14 ∷ []) ∷ (21 ∷ 3 ∷ 15 ∷ []) ∷ (22 ∷ 5 ∷ 12 ∷ []) ∷ (23 ∷ 4 ∷ 13 ∷ [])
    ∷ (8 ∷ 18 ∷ 17 ∷ []) ∷ (9 ∷ 19 ∷ 16 ∷ []) ∷ (10 ∷ 16 ∷ 20 ∷ []) ∷ (11 ∷ 17 ∷ 21 ∷ [])
    ∷ (12 ∷ 22 ∷ 18 ∷ []) ∷ (13 ∷ 23 ∷ 19 ∷ []) ∷ (14 ∷ 20 ∷ 23 ∷ []) ∷ (15 ∷ 21 ∷ 22 ∷ []) ∷ []

abbrev pub twisted : Map
twisted = map_of planar twisted_table triangles_points

-- ---- the split of an edge

abbrev pub split : Rule
split = rule_from (codes "split") (kept_node (codes "a") (At 0 ∷ []) (Gone ∷ []) [] ∷ new_node (codes "b") (At 1 ∷ []) [] ∷ []) [] (link_from 0 0 1 ∷ [])

abbrev pub edge : Map
edge = map_of linear ((1 ∷ 0 ∷ []) ∷ (0 ∷ 1 ∷ []) ∷ []) []

abbrev pub on_edge : Placement
on_edge = record { positions = 2; turn = λ p m. slice_index (1 ∷ 0 ∷ []) p; dart_of = λ x p. p }

abbrev pub two_edges : Map
two_edges = map_of linear ((2 ∷ 0 ∷ []) ∷ (3 ∷ 1 ∷ []) ∷ (0 ∷ 3 ∷ []) ∷ (1 ∷ 2 ∷ []) ∷ []) []

abbrev pub splitting : Application
splitting = record { map = edge; rule = split; hooks = 0 ∷ []; params = [] }

-- ---- rules whose components have no one source of a value

-- dimension 1, with a point for each vertex
abbrev pub polygonal : Schema
polygonal = record { dim = 1; embeds = record { name = codes "pos"; mask = record { bits = 2 }; kind = kinds.Vec3 } ∷ [] }

-- the two free ends of an edge are joined
abbrev pub closing : List Assignment → List Assignment → Rule
closing a_sets b_sets = rule_from (codes "close") (kept_node (codes "a") [] [] a_sets ∷ kept_node (codes "b") [] [] b_sets ∷ []) (link_from 0 0 1 ∷ link_from 0 1 0 ∷ link_from 1 1 1 ∷ []) (link_from 0 0 1 ∷ link_from 0 1 1 ∷ [])

abbrev pub point_of_a : Assignment
point_of_a = record { embed = 0; tree = Field (record { node = 0; path = [] }) 0 }

-- neither end has a value for both
abbrev pub merging : Rule
merging = closing [] []

-- both ends have one
abbrev pub contradicting : Rule
contradicting = closing (point_of_a ∷ []) (point_of_a ∷ [])

-- the positions of an edge become those of a vertex
abbrev pub turning : Rule
turning = rule_from (codes "turn") (kept_node (codes "a") (At 0 ∷ []) (At 1 ∷ []) [] ∷ []) (link_from 0 1 0 ∷ []) (link_from 0 0 0 ∷ [])

-- ---- what is shown of them

-- the map and the rule meet what the theorem asks, and the map with the new values is this one
pub record IsWorkedExample (app : Application) (place : Placement) (result : Map) : Type 0 where
  pub lawful : IsLawfulExample app.map
  pub accepted : IsAccepted app.map.schema app.rule
  pub found : IsMatch app.map app.rule app.hooks place
  pub new_values : IsResult app place result

-- the rule meets every condition but that on squares, and its unfolding is no generalised map
pub record BreaksMaps (map : Map) (rule : Rule) (hooks : List ℕ) (place : Placement) (result : Map) : Type 0 where
  pub in_range : IsInRange map.schema rule
  pub typed : IsTyped map.schema rule
  pub incidence : HasIncidence (dimension map) rule
  pub sources : HasSources map.schema rule
  pub found : IsMatch map rule hooks place
  pub unfolded : IsUnfolding (scene_of map rule place) (IsDart result) result.alpha result.next
  pub broken : IsGeneralised result → ⊥

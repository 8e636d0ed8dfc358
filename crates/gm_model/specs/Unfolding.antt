-- What an application makes of the darts and arcs of a map: the old arcs without those of left steps, and the arcs of right steps.
use Rattle.std.specs.Prelude.{◌≡◌, ℕ, zero, suc, ◌+◌, ◌*◌, ◌<◌, ◌≤◌, Bool, not, ◌&&◌, ◌⊎◌, ◌↔◌, if◌then◌else◌, length, IsTrue}
use Rattle.gm_model.specs.declared.step.Step.{Step}
use Rattle.gm_model.specs.declared.step.Step.TheVariants.{Absent, Exp, Imp}
use Rattle.gm_model.specs.declared.rule.Side.TheVariants.{Left, Right}
use Rattle.gm_model.specs.Maps.{Map, dimension}
use Rattle.gm_model.specs.Matches.{Placement}
use Rattle.gm_model.specs.Rules.{Rule, has_word, is_added, step}

-- All that the unfolding speaks of. The steps are those of the two sides; `dart_of` gives the dart of a left node at a
-- position, and `name_of` that of a right node.
pub record Scene : Type 0 where
  pub dimension : ℕ
  pub live : ℕ → Bool
  pub alpha : ℕ → ℕ → ℕ
  pub next : ℕ
  pub positions : ℕ
  pub turn : ℕ → ℕ → ℕ
  pub is_left : ℕ → Bool
  pub is_right : ℕ → Bool
  pub left : ℕ → ℕ → Step
  pub right : ℕ → ℕ → Step
  pub added : ℕ
  pub dart_of : ℕ → ℕ → ℕ
  pub name_of : ℕ → ℕ → ℕ

-- there is a step
abbrev pub IsStep : Step → Type 0
IsStep Absent = ⊥
IsStep (Exp y) = Unit {0}
IsStep (Imp m) = Unit {0}

module _ (scene : Scene) where
  -- ---- darts

  -- d is the dart of a node that is removed
  abbrev pub IsGone : ℕ → Type 0
  IsGone d = (x : ℕ) × (p : ℕ) × IsTrue (scene.is_left x && not (scene.is_right x)) × (p < scene.positions) × (d ≡ scene.dart_of x p)

  -- d is the new dart of a node that is added
  abbrev pub IsAdded : ℕ → Type 0
  IsAdded d = (x : ℕ) × (p : ℕ) × IsTrue (not (scene.is_left x) && scene.is_right x) × (p < scene.positions) × (d ≡ scene.name_of x p)

  abbrev pub IsDartAfter : ℕ → Type 0
  IsDartAfter d = (IsTrue (scene.live d) × (IsGone d → ⊥)) ⊎ IsAdded d

  -- ---- arcs, each as a dart, a label, and the dart to which it leads

  -- d is the dart of a node that has a left step at the label
  abbrev pub IsCutAt : ℕ → ℕ → Type 0
  IsCutAt d i = (x : ℕ) × (p : ℕ) × IsTrue (scene.is_left x) × (p < scene.positions) × IsStep (scene.left x i) × (d ≡ scene.dart_of x p)

  -- an old arc of which no end is cut
  pub record IsKeptArc (d i e : ℕ) : Type 0 where
    pub live : IsTrue (scene.live d)
    pub label : i ≤ scene.dimension
    pub leads : scene.alpha i d ≡ e
    pub uncut : IsCutAt d i → ⊥
    pub uncut_there : IsCutAt e i → ⊥

  -- where the right step of node x at position p leads
  abbrev pub LeadsBy : ℕ → ℕ → Step → ℕ → Type 0
  LeadsBy x p Absent e = ⊥
  LeadsBy x p (Exp y) e = e ≡ scene.name_of y p
  LeadsBy x p (Imp m) e = e ≡ scene.name_of x (scene.turn p m)

  -- the arc of a right step; the arc back is that of the step at its other end
  pub record IsMadeArc (d i e : ℕ) : Type 0 where
    pub node : ℕ
    pub position : ℕ
    pub right : IsTrue (scene.is_right node)
    pub within : position < scene.positions
    pub label : i ≤ scene.dimension
    pub from : d ≡ scene.name_of node position
    pub leads : LeadsBy node position (scene.right node i) e

  abbrev pub IsArcAfter : ℕ → ℕ → ℕ → Type 0
  IsArcAfter d i e = IsKeptArc d i e ⊎ IsMadeArc d i e

  -- ---- the result

  abbrev pub next_after : ℕ
  next_after = scene.next + scene.positions * scene.added

  -- the result has these darts, these arcs and this next name
  pub record IsUnfolding (IsLive : ℕ → Type 0) (alpha : ℕ → ℕ → ℕ) (next : ℕ) : Type 0 where
    pub darts : (d : ℕ) → IsLive d ↔ IsDartAfter d
    pub arcs : (d i e : ℕ) → i ≤ scene.dimension → (IsLive d × (alpha i d ≡ e)) ↔ IsArcAfter d i e
    pub next_is : next ≡ next_after

-- ---- the scene of an application

-- how many of the first x nodes are added
abbrev pub added_before : Rule → ℕ → ℕ
added_before rule zero = 0
added_before rule (suc x) = added_before rule x + (if is_added rule x then 1 else 0)

abbrev pub added_nodes : Rule → ℕ
added_nodes rule = added_before rule (length rule.nodes)

-- a preserved node keeps its darts; the new darts are numbered by node and then by position, from the next name on
abbrev pub name_in : Map → Rule → Placement → ℕ → ℕ → ℕ
name_in map rule place x p = if is_added rule x then map.next + added_before rule x * place.positions + p else place.dart_of x p

abbrev pub scene_of : Map → Rule → Placement → Scene
scene_of map rule place = record {
  dimension = dimension map;
  live = map.live;
  alpha = map.alpha;
  next = map.next;
  positions = place.positions;
  turn = place.turn;
  is_left = has_word rule Left;
  is_right = has_word rule Right;
  left = step rule Left;
  right = step rule Right;
  added = added_nodes rule;
  dart_of = place.dart_of;
  name_of = name_in map rule place;
}

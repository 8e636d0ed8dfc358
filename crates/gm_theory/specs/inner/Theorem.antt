-- That conditions read off a rule alone make each of its unfoldings a generalised map.
use Rattle.std.specs.Prelude.{◌≡◌, ℕ, ◌<◌, ◌≤◌, ◌↔◌, Bool, List, IsTrue}
use Rattle.gm_model.specs.Acceptance.{IsAccepted}
use Rattle.gm_model.specs.GMap.{IsGMap}
use Rattle.gm_model.specs.Maps.{Map, IsDart, IsGeneralised, dimension}
use Rattle.gm_model.specs.Matches.{Placement, IsMatch}
use Rattle.gm_model.specs.Rules.{Rule}
use Rattle.gm_model.specs.Unfolding.{scene_of, IsUnfolding}

-- a map as an unfolding gives it: its darts, their neighbours, and the next name
pub record Unfolded : Type 0 where
  pub live : ℕ → Bool
  pub alpha : ℕ → ℕ → ℕ
  pub next : ℕ

abbrev pub IsDartOf : Unfolded → ℕ → Type 0
IsDartOf result d = IsTrue (result.live d)

-- the map, the rule and its match have this unfolding
abbrev pub Unfolds : Map → Rule → Placement → Unfolded → Type 0
Unfolds map rule place result = IsUnfolding (scene_of map rule place) (IsDartOf result) result.alpha result.next

-- the same next name, the same darts, and the same neighbours of each of them
pub record AreSame (n : ℕ) (a b : Unfolded) : Type 0 where
  pub next : a.next ≡ b.next
  pub darts : (d : ℕ) → IsDartOf a d ↔ IsDartOf b d
  pub arcs : (d i : ℕ) → IsDartOf a d → i ≤ n → a.alpha i d ≡ b.alpha i d

-- it is a generalised map, and the next name lies above its names
pub record IsLawfulMap (n : ℕ) (result : Unfolded) : Type 0 where
  pub generalised : IsGMap n (IsDartOf result) result.alpha
  pub below : (d : ℕ) → IsDartOf result d → d < result.next

pub record KeepsGeneralised (map : Map) (rule : Rule) (place : Placement) : Type 0 where
  -- there is an unfolding
  pub exists : (result : Unfolded) × Unfolds map rule place result
  -- and only one
  pub determined : (a b : Unfolded) → Unfolds map rule place a → Unfolds map rule place b → AreSame (dimension map) a b
  -- and it is lawful
  pub lawful : (result : Unfolded) → Unfolds map rule place result → IsLawfulMap (dimension map) result

-- each dart's name lies below the next
abbrev pub HasNamesBelow : Map → Type 0
HasNamesBelow map = (d : ℕ) → IsDart map d → d < map.next

-- For every generalised map with its names below the next, every accepted rule, and every match of the rule in the map.
abbrev pub RulesKeepGeneralisedMaps : Type 0
RulesKeepGeneralisedMaps = (map : Map) (rule : Rule) (hooks : List ℕ) (place : Placement) → HasNamesBelow map → IsGeneralised map → IsAccepted map.schema rule → IsMatch map rule hooks place → KeepsGeneralised map rule place

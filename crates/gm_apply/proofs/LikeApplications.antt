-- What an application comes to is the same over maps and places that are like.
use Rattle.std.proofs.Common.{◌≡◌, ℕ, true, ◌+◌, ◌*◌, ◌<◌, ◌≤◌, inl, inr, List, Some, not, subst, ◌∙◌}
use Rattle.gm_model.specs.declared.rule.Side.TheVariants.{Left, Right}
use Rattle.gm_model.specs.declared.value.Value.{Value}
use Rattle.gm_model.specs.declared.value.Value.TheVariants as values
use Rattle.gm_model.specs.Applications.{Application, IsStaying, MeetsPre, IsPreUnits, IsMatched, IsReady, reading_at}
use Rattle.gm_model.specs.Expressions.{HasValue, HasNoValue}
use Rattle.gm_model.specs.Limits.{most_darts, most_names}
use Rattle.gm_model.specs.Maps.{Map}
use Rattle.gm_model.specs.Matches.{Placement}
use Rattle.gm_model.specs.Orbits.{HasCount}
use Rattle.gm_model.specs.Rules.{Rule, has_word}
use Rattle.gm_model.specs.Trees.{Tree}
use Rattle.gm_model.specs.Unfolding.{IsGone, scene_of, added_nodes}
use Rattle.gm_theory.proofs.Tests.{both_true}
use Rattle.gm_theory.proofs.Turns.{some_position_walked}
use Rattle.gm_apply.proofs.Counting.{count_same}
use Rattle.gm_apply.proofs.LikePlaces.{AreLikeAt, places_back, readings_like}
use Rattle.gm_apply.proofs.LikeReadings.{AreLikeReadings, value_there, no_value_there, units_there}

pub gone_there : (rule : Rule) (a b : Map) (place other : Placement) → AreLikeAt rule a b place other → (d : ℕ) → IsGone (scene_of a rule place) d → IsGone (scene_of b rule other) d
gone_there rule a b place other like d (x, p, removed, within, is) =
    (x, p, removed, subst (λ n. p < n) like.like.positions within, is ∙ like.like.darts x p ((both_true (has_word rule Left x) (not (has_word rule Right x)) removed).0, within))

module _ (rule : Rule) (hooks : List ℕ) (params : List Value) (a b : Map) (place other : Placement) (like : AreLikeAt rule a b place other) where
  abbrev pub here : Application
  here = record { map = a; rule = rule; hooks = hooks; params = params }

  abbrev pub there : Application
  there = record { map = b; rule = rule; hooks = hooks; params = params }

  pub staying_there : (n : ℕ) → HasCount (IsStaying here place) n → HasCount (IsStaying there other) n
  staying_there n = count_same (IsStaying here place) (IsStaying there other) n (λ d. (
    λ h. ((like.darts d).0 h.0, λ g. h.1 (gone_there rule b a other place (places_back rule a b place other like) d g)),
    λ h. ((like.darts d).1 h.0, λ g. h.1 (gone_there rule a b place other like d g)),
  ))

  -- ---- the precondition

  module _ (some : 0 < place.positions) where
    read_alike : AreLikeReadings rule (reading_at here place 0) (reading_at there other 0)
    read_alike = readings_like rule a b place other params like 0 some

    pub pre_value_there : (tree : Tree) (v : Value) → rule.pre ≡ Some tree → HasValue (reading_at here place 0) tree v → HasValue (reading_at there other 0) tree v
    pre_value_there tree v is = value_there rule _ _ read_alike tree v (like.accepted.typed.pre tree is).in_range

    pub pre_no_value_there : (tree : Tree) → rule.pre ≡ Some tree → HasNoValue (reading_at here place 0) tree → HasNoValue (reading_at there other 0) tree
    pre_no_value_there tree is = no_value_there rule _ _ read_alike tree (like.accepted.typed.pre tree is).in_range

    pub meets_pre_there : MeetsPre here place → MeetsPre there other
    meets_pre_there pre tree is = pre_value_there tree (values.Bool true) is (pre tree is)

    pub pre_units_there : (u : ℕ) → IsPreUnits here place u → IsPreUnits there other u
    pre_units_there u (inl none) = inl none
    pre_units_there u (inr (tree, is, units)) = inr (tree, is, units_there rule _ _ read_alike tree u (like.accepted.typed.pre tree is).in_range units)

  -- ---- room

  pub ready_there : IsReady here place → IsMatched there other → IsReady there other
  ready_there ready matched = record {
    matched = matched;
    pre = meets_pre_there (some_position_walked a rule hooks ready.matched.walk place ready.matched.positions) ready.pre;
    live = ready.live;
    live_is = staying_there ready.live ready.live_is;
    darts_fit = subst (λ n. ready.live + n * added_nodes rule ≤ most_darts) like.like.positions ready.darts_fit;
    names_fit = subst (λ n. b.next + n * added_nodes rule ≤ most_names) like.like.positions (subst (λ n. n + place.positions * added_nodes rule ≤ most_names) like.next ready.names_fit);
  }

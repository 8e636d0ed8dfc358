-- The candidates at the same hook darts are like: where one is a match the other is, and an expression is read alike at both.
use Rattle.std.proofs.Common.{◌≡◌, ℕ, ◌<◌, ◌≤◌, ◌↔◌, List, length, refl, sym, subst}
use Rattle.gm_model.specs.declared.value.Value.{Value}
use Rattle.gm_model.specs.declared.schema.Schema.{Schema}
use Rattle.gm_model.specs.Acceptance.{IsAccepted}
use Rattle.gm_model.specs.Expressions.{Reading}
use Rattle.gm_model.specs.Maps.{Map, IsDart, IsMap, IsGeneralised, dimension}
use Rattle.gm_model.specs.Matches.{Placement, IsInstance}
use Rattle.gm_model.specs.Rules.{Rule}
use Rattle.gm_theory.specs.inner.OneMatch.{IsLike}
use Rattle.gm_apply.proofs.LikeReadings.{AreLikeReadings}

-- ---- maps and places that are like

-- Two generalised maps have the same darts, with the same neighbours and values, and the same next name. The nodes of
-- an accepted rule lie at the same darts of both.
pub record AreLikeAt (rule : Rule) (a b : Map) (place other : Placement) : Type 0 where
  pub accepted : IsAccepted a.schema rule
  pub first_map : IsMap a
  pub first_generalised : IsGeneralised a
  pub second_map : IsMap b
  pub second_generalised : IsGeneralised b
  pub schema : a.schema ≡ b.schema
  pub next : a.next ≡ b.next
  pub darts : (d : ℕ) → IsDart a d ↔ IsDart b d
  pub arcs : (d i : ℕ) → IsDart a d → i ≤ dimension a → a.alpha i d ≡ b.alpha i d
  pub values : (e d : ℕ) → e < length a.schema.embeds → IsDart a d → a.value e d ≡ b.value e d
  pub like : IsLike rule place other
  pub live : (x p : ℕ) → IsInstance rule place x p → IsDart a (place.dart_of x p)

pub like_back : (rule : Rule) (place other : Placement) → IsLike rule place other → IsLike rule other place
like_back rule place other like = record {
  positions = sym like.positions;
  turns = λ p m within low.
      let turn = like.turns p m (within_back p within) low in
      (sym turn.0, subst (λ n. other.turn p m < n) like.positions (subst (λ q. q < place.positions) turn.0 turn.1));
  darts = λ x p at. sym (like.darts x p (at.0, within_back p at.1));
}
  where
    within_back : (p : ℕ) → p < other.positions → p < place.positions
    within_back p h = subst (λ n. p < n) (sym like.positions) h

pub places_back : (rule : Rule) (a b : Map) (place other : Placement) → AreLikeAt rule a b place other → AreLikeAt rule b a other place
places_back rule a b place other like = record {
  accepted = subst (λ s. IsAccepted s rule) like.schema like.accepted;
  first_map = like.second_map;
  first_generalised = like.second_generalised;
  second_map = like.first_map;
  second_generalised = like.first_generalised;
  schema = sym like.schema;
  next = sym like.next;
  darts = λ d. ((like.darts d).1, (like.darts d).0);
  arcs = λ d i live h. sym (like.arcs d i ((like.darts d).1 live) (subst (λ (s : Schema). i ≤ s.dim) (sym like.schema) h));
  values = λ e d h live. sym (like.values e d (subst (λ (s : Schema). e < length s.embeds) (sym like.schema) h) ((like.darts d).1 live));
  like = like_back rule place other like.like;
  live = λ x p at. let at_first : IsInstance rule place x p = (at.0, subst (λ n. p < n) (sym like.like.positions) at.1) in subst (IsDart b) (like.like.darts x p at_first) ((like.darts (place.dart_of x p)).0 (like.live x p at_first));
}

-- the nodes lie at the same darts of one map
pub same_map : (rule : Rule) (map : Map) (place other : Placement) → IsAccepted map.schema rule → IsMap map → IsGeneralised map → IsLike rule place other → ((x p : ℕ) → IsInstance rule place x p → IsDart map (place.dart_of x p)) → AreLikeAt rule map map place other
same_map rule map place other accepted is_map generalised like live = record {
  accepted = accepted;
  first_map = is_map;
  first_generalised = generalised;
  second_map = is_map;
  second_generalised = generalised;
  schema = refl;
  next = refl;
  darts = λ d. (λ h. h, λ h. h);
  arcs = λ d i h k. refl;
  values = λ e d h k. refl;
  like = like;
  live = live;
}

abbrev pub reading_of : Map → Placement → List Value → ℕ → Reading
reading_of map place params p = record { map = map; place = place; position = p; params = params }

-- an expression is read alike at a position of both
pub readings_like : (rule : Rule) (a b : Map) (place other : Placement) (params : List Value) → AreLikeAt rule a b place other → (p : ℕ) → p < place.positions
    → AreLikeReadings rule (reading_of a place params p) (reading_of b other params p)
readings_like rule a b place other params like p within = record {
  first = record { is_map = like.first_map; stays = like.first_generalised.stays; darts = λ x left. like.live x p (left, within) };
  second = record { is_map = like.second_map; stays = like.second_generalised.stays; darts = λ x left. subst (IsDart b) (like.like.darts x p (left, within)) ((like.darts (place.dart_of x p)).0 (like.live x p (left, within))) };
  schema = like.schema;
  darts = like.darts;
  arcs = like.arcs;
  values = like.values;
  places = λ x left. like.like.darts x p (left, within);
  params = refl;
}

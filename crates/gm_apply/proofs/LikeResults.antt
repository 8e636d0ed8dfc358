-- Which instances decide, and which darts get values, is the same over maps and at places that are like, in each result.
use Rattle.std.proofs.Common.{ℕ, ◌<◌, ◌≤◌, List, length, IsTrue, sym, subst}
use Rattle.gm_model.specs.declared.rule.Side.TheVariants.{Right}
use Rattle.gm_model.specs.declared.schema.Embed.{Embed}
use Rattle.gm_model.specs.declared.schema.Schema.{Schema}
use Rattle.gm_model.specs.Components.{IsAssigned}
use Rattle.gm_model.specs.GMap.{IsGMap}
use Rattle.gm_model.specs.Maps.{Map, IsEmbedAt, IsSchema, dimension, type_of}
use Rattle.gm_model.specs.Matches.{Placement, IsMatch}
use Rattle.gm_model.specs.NewValues.{IsAssignedAt, LiesIn, IsDecidedBy, IsDeciding, IsUndecided, IsReached}
use Rattle.gm_model.specs.Orbits.{IsInOrbit}
use Rattle.gm_model.specs.Rules.{Rule, has_word, hook_label, width}
use Rattle.gm_model.specs.Unfolding.{scene_of, name_in}
use Rattle.gm_theory.specs.inner.Theorem.{Unfolded, Unfolds, IsDartOf, AreSame}
use Rattle.gm_theory.proofs.Arcs.{right_dart}
use Rattle.gm_theory.proofs.Keeps.{lawful, rules_keep_generalised_maps}
use Rattle.gm_apply.proofs.LikeOrbits.{orbit_same}
use Rattle.gm_apply.proofs.LikePlaces.{AreLikeAt, places_back}
use Rattle.gm_apply.proofs.LikeScenes.{name_there, unfolding_there}

-- The results have the same darts, with the same neighbours, and each right node lies at one of them.
pub record AreLikeResults (rule : Rule) (a b : Map) (place other : Placement) (result end : Unfolded) : Type 0 where
  pub like : AreLikeAt rule a b place other
  pub of_schema : IsSchema a.schema
  pub first : IsGMap (dimension a) (IsDartOf result) result.alpha
  pub second : IsGMap (dimension a) (IsDartOf end) end.alpha
  pub same : AreSame (dimension a) result end
  pub named : (x p : ℕ) → IsTrue (has_word rule Right x) → p < place.positions → IsDartOf result (name_in a rule place x p)

pub results_back : (rule : Rule) (a b : Map) (place other : Placement) (result end : Unfolded) → AreLikeResults rule a b place other result end → AreLikeResults rule b a other place end result
results_back rule a b place other result end r = record {
  like = places_back rule a b place other r.like;
  of_schema = subst IsSchema r.like.schema r.of_schema;
  first = subst (λ (s : Schema). IsGMap s.dim (IsDartOf end) end.alpha) r.like.schema r.second;
  second = subst (λ (s : Schema). IsGMap s.dim (IsDartOf result) result.alpha) r.like.schema r.first;
  same = record {
    next = sym r.same.next;
    darts = λ d. ((r.same.darts d).1, (r.same.darts d).0);
    arcs = λ d i live h. sym (r.same.arcs d i ((r.same.darts d).1 live) (subst (λ (s : Schema). i ≤ s.dim) (sym r.like.schema) h));
  };
  named = λ x p right within.
      let first = subst (λ n. p < n) (sym r.like.like.positions) within in
      subst (IsDartOf end) (name_there rule a b place other r.like x p right first) ((r.same.darts (name_in a rule place x p)).0 (r.named x p right first));
}

-- where the nodes lie at a match, each unfolding is like each unfolding
pub results_like : (rule : Rule) (hooks : List ℕ) (a b : Map) (place other : Placement) → AreLikeAt rule a b place other → IsSchema a.schema → IsMatch a rule hooks place
    → (result end : Unfolded) → Unfolds a rule place result → Unfolds b rule other end → AreLikeResults rule a b place other result end
results_like rule hooks a b place other like of_schema matched result end u v =
    let kept = rules_keep_generalised_maps a rule hooks place like.first_map.below like.first_generalised like.accepted matched in
    let here = unfolding_there rule b a other place (places_back rule a b place other like) (IsDartOf end) end.alpha end.next v in
    record {
      like = like;
      of_schema = of_schema;
      first = (kept.lawful result u).generalised;
      second = (kept.lawful end here).generalised;
      same = kept.determined result end u here;
      named = λ x p right within.
          (u.darts (name_in a rule place x p)).1
          (right_dart (scene_of a rule place) (length rule.nodes) (width rule) (hook_label rule) (lawful a rule place like.accepted like.first_generalised like.first_map.below hooks matched) x p (right, within));
    }

module _ (rule : Rule) (a b : Map) (place other : Placement) (result end : Unfolded) (r : AreLikeResults rule a b place other result end) where
  -- an assigned node is a right node
  pub right_of : (e x : ℕ) → IsAssigned rule e x → IsTrue (has_word rule Right x)
  right_of e x (tree, (node, at, c)) = (r.like.accepted.in_range.sets x node (record { embed = e; tree = tree }) at c).0

  pub within_there : (p : ℕ) → p < place.positions → p < other.positions
  within_there p h = subst (λ n. p < n) r.like.like.positions h

  pub embed_there : (e : ℕ) (embed : Embed) → IsEmbedAt a.schema e embed → IsEmbedAt b.schema e embed
  embed_there e embed at = subst (λ (s : Schema). IsEmbedAt s e embed) r.like.schema at

  module _ (e : ℕ) (embed : Embed) (at : IsEmbedAt a.schema e embed) where
    pub assigned_there : (x p : ℕ) → IsAssignedAt a rule place result.alpha e (type_of embed) x p → IsAssignedAt b rule other end.alpha e (type_of embed) x p
    assigned_there x p h = (h.0, within_there p h.1)

    pub lies_there : (d x p : ℕ) → IsDartOf result d → IsAssignedAt a rule place result.alpha e (type_of embed) x p → LiesIn a rule place result.alpha e (type_of embed) d x p → LiesIn b rule other end.alpha e (type_of embed) d x p
    lies_there d x p live h lies =
        subst (IsInOrbit end.alpha (type_of embed) d) (name_there rule a b place other r.like x p (right_of e x h.0) h.1)
        (orbit_same (dimension a) (IsDartOf result) result.alpha end.alpha r.first.stays r.same.arcs (type_of embed) (λ i t. r.of_schema.labels e i embed at t) d (name_in a rule place x p) live lies)

module _ (rule : Rule) (a b : Map) (place other : Placement) (result end : Unfolded) (r : AreLikeResults rule a b place other result end) (e : ℕ) (embed : Embed) (at : IsEmbedAt a.schema e embed) where
  back : AreLikeResults rule b a other place end result
  back = results_back rule a b place other result end r

  at_there : IsEmbedAt b.schema e embed
  at_there = embed_there rule a b place other result end r e embed at

  assigned_back : (x p : ℕ) → IsAssignedAt b rule other end.alpha e (type_of embed) x p → IsAssignedAt a rule place result.alpha e (type_of embed) x p
  assigned_back = assigned_there rule b a other place end result back e embed at_there

  lies_back : (d x p : ℕ) → IsDartOf result d → IsAssignedAt b rule other end.alpha e (type_of embed) x p → LiesIn b rule other end.alpha e (type_of embed) d x p → LiesIn a rule place result.alpha e (type_of embed) d x p
  lies_back d x p live = lies_there rule b a other place end result back e embed at_there d x p ((r.same.darts d).0 live)

  pub decided_there : (d x p : ℕ) → IsDartOf result d → IsDecidedBy a rule place result.alpha e (type_of embed) d x p → IsDecidedBy b rule other end.alpha e (type_of embed) d x p
  decided_there d x p live h = record {
    assigned = assigned_there rule a b place other result end r e embed at x p h.assigned;
    lies = lies_there rule a b place other result end r e embed at d x p live h.assigned h.lies;
    least = λ y q before assigned lies. h.least y q before (assigned_back y q assigned) (lies_back d y q live assigned lies);
  }

  pub deciding_there : (x p : ℕ) → IsDeciding a rule place result.alpha e (type_of embed) x p → IsDeciding b rule other end.alpha e (type_of embed) x p
  deciding_there x p h =
      let right = right_of rule a b place other result end r e x h.assigned.0 in
      subst (λ d. IsDecidedBy b rule other end.alpha e (type_of embed) d x p) (name_there rule a b place other r.like x p right h.assigned.1)
      (decided_there (name_in a rule place x p) x p (r.named x p right h.assigned.1) h)

  pub undecided_there : (d : ℕ) → IsDartOf result d → IsUndecided a rule place result.alpha e (type_of embed) d → IsUndecided b rule other end.alpha e (type_of embed) d
  undecided_there d live none x p assigned lies = none x p (assigned_back x p assigned) (lies_back d x p live assigned lies)

  pub reached_there : (d : ℕ) → IsDartOf result d → IsReached a rule place result.alpha e (type_of embed) d → IsReached b rule other end.alpha e (type_of embed) d
  reached_there d live (x, p, assigned, lies) =
      (x, p, assigned_there rule a b place other result end r e embed at x p assigned, lies_there rule a b place other result end r e embed at d x p live assigned lies)

-- What the dual of a rule makes of the dual map is the dual of what the rule makes of the map.
use Rattle.std.proofs.Common.{◌≡◌, ℕ, zero, suc, ◌+◌, ◌*◌, if◌then◌else◌, length, refl, ap, ap₂, ◌∙◌, inl, inr}
use Rattle.std.proofs.Math.Path.{fun_ext}
use Rattle.std.proofs.lemmas.List.{length-map}
use Rattle.gm_model.specs.declared.rule.Side.TheVariants.{Left, Right}
use Rattle.gm_model.specs.declared.step.Step.{Step}
use Rattle.gm_model.specs.declared.step.Step.TheVariants.{Absent, Exp, Imp}
use Rattle.gm_model.specs.Maps.{Map}
use Rattle.gm_model.specs.Matches.{Placement}
use Rattle.gm_model.specs.Rules.{Rule, has_word, step}
use Rattle.gm_model.specs.Unfolding.{IsArcAfter, IsKeptArc, IsMadeArc, IsUnfolding, LeadsBy, Scene, added_before, added_nodes, name_in, scene_of}
use Rattle.gm_dual.specs.Duals.{dual_label, dual_map, dual_node, dual_rule}
use Rattle.gm_dual.proofs.LabelLemmas.{dual_least, dual_most}
use Rattle.gm_dual.proofs.RuleLemmas.{added_dual, has_word_dual, step_dual}

-- ---- names

module _ (n : ℕ) (rule : Rule) where
  before_dual : (x : ℕ) → added_before (dual_rule n rule) x ≡ added_before rule x
  before_dual zero = refl
  before_dual (suc x) = ap₂ (λ k b. k + (if b then 1 else 0)) (before_dual x) (added_dual n rule x)

  pub added_nodes_dual : added_nodes (dual_rule n rule) ≡ added_nodes rule
  added_nodes_dual = ap (added_before (dual_rule n rule)) (length-map rule.nodes (dual_node n)) ∙ before_dual (length rule.nodes)

  pub name_dual : (m : Map) (place : Placement) (x p : ℕ) → name_in (dual_map m) (dual_rule n rule) place x p ≡ name_in m rule place x p
  name_dual m place x p = ap₂ (λ b k. if b then m.next + k * place.positions + p else place.dart_of x p) (added_dual n rule x) (before_dual x)

-- ---- the scene

-- the scene with the labels in each other's place
abbrev pub dual_scene : Scene → Scene
dual_scene s = record {
  dimension = s.dimension;
  live = s.live;
  alpha = λ i. s.alpha (dual_label s.dimension i);
  next = s.next;
  positions = s.positions;
  turn = s.turn;
  is_left = s.is_left;
  is_right = s.is_right;
  left = λ x i. s.left x (dual_label s.dimension i);
  right = λ x i. s.right x (dual_label s.dimension i);
  added = s.added;
  dart_of = s.dart_of;
  name_of = s.name_of;
}

pub scene_dual : (m : Map) (rule : Rule) (place : Placement) → scene_of (dual_map m) (dual_rule m.schema.dim rule) place ≡ dual_scene (scene_of m rule place)
scene_dual m rule place =
    let n = m.schema.dim in
    let is_left : has_word (dual_rule m.schema.dim rule) Left ≡ has_word rule Left = fun_ext (has_word_dual m.schema.dim rule Left) in
    let is_right : has_word (dual_rule m.schema.dim rule) Right ≡ has_word rule Right = fun_ext (has_word_dual m.schema.dim rule Right) in
    let left : step (dual_rule m.schema.dim rule) Left ≡ (λ x i. step rule Left x (dual_label m.schema.dim i)) = fun_ext (λ x. fun_ext (λ i. step_dual m.schema.dim rule Left x i)) in
    let right : step (dual_rule m.schema.dim rule) Right ≡ (λ x i. step rule Right x (dual_label m.schema.dim i)) = fun_ext (λ x. fun_ext (λ i. step_dual m.schema.dim rule Right x i)) in
    let names : name_in (dual_map m) (dual_rule m.schema.dim rule) place ≡ name_in m rule place = fun_ext (λ x. fun_ext (λ p. name_dual m.schema.dim rule m place x p)) in
    λ k. record {
      dimension = m.schema.dim;
      live = m.live;
      alpha = λ i. m.alpha (dual_label m.schema.dim i);
      next = m.next;
      positions = place.positions;
      turn = place.turn;
      is_left = is_left k;
      is_right = is_right k;
      left = left k;
      right = right k;
      added = added_nodes_dual m.schema.dim rule k;
      dart_of = place.dart_of;
      name_of = names k;
    }

module _ (s : Scene) where
  kept_to : (d i e : ℕ) → IsKeptArc s d (dual_label s.dimension i) e → IsKeptArc (dual_scene s) d i e
  kept_to d i e a = record { live = a.live; label = dual_least s.dimension i a.label; leads = a.leads; uncut = a.uncut; uncut_there = a.uncut_there }

  kept_from : (d i e : ℕ) → IsKeptArc (dual_scene s) d i e → IsKeptArc s d (dual_label s.dimension i) e
  kept_from d i e a = record { live = a.live; label = dual_most s.dimension i a.label; leads = a.leads; uncut = a.uncut; uncut_there = a.uncut_there }

  made_to : (d i e : ℕ) → IsMadeArc s d (dual_label s.dimension i) e → IsMadeArc (dual_scene s) d i e
  made_to d i e a = record { node = a.node; position = a.position; right = a.right; within = a.within; label = dual_least s.dimension i a.label; from = a.from; leads = same (s.right a.node (dual_label s.dimension i)) a.leads }
    where
      same : (t : Step) → LeadsBy s a.node a.position t e → LeadsBy (dual_scene s) a.node a.position t e
      same Absent h = h
      same (Exp y) h = h
      same (Imp m) h = h

  made_from : (d i e : ℕ) → IsMadeArc (dual_scene s) d i e → IsMadeArc s d (dual_label s.dimension i) e
  made_from d i e a = record { node = a.node; position = a.position; right = a.right; within = a.within; label = dual_most s.dimension i a.label; from = a.from; leads = same (s.right a.node (dual_label s.dimension i)) a.leads }
    where
      same : (t : Step) → LeadsBy (dual_scene s) a.node a.position t e → LeadsBy s a.node a.position t e
      same Absent h = h
      same (Exp y) h = h
      same (Imp m) h = h

  arc_to : (d i e : ℕ) → IsArcAfter s d (dual_label s.dimension i) e → IsArcAfter (dual_scene s) d i e
  arc_to d i e (inl a) = inl (kept_to d i e a)
  arc_to d i e (inr a) = inr (made_to d i e a)

  arc_from : (d i e : ℕ) → IsArcAfter (dual_scene s) d i e → IsArcAfter s d (dual_label s.dimension i) e
  arc_from d i e (inl a) = inl (kept_from d i e a)
  arc_from d i e (inr a) = inr (made_from d i e a)

  pub unfolding_dual : (IsLive : ℕ → Type 0) (alpha : ℕ → ℕ → ℕ) (next : ℕ) → IsUnfolding s IsLive alpha next → IsUnfolding (dual_scene s) IsLive (λ i. alpha (dual_label s.dimension i)) next
  unfolding_dual IsLive alpha next u = record {
    darts = u.darts;
    arcs = λ d i e low. (let old = u.arcs d (dual_label s.dimension i) e (dual_most s.dimension i low) in ((λ h. arc_to d i e (old.0 h)), (λ a. old.1 (arc_from d i e a))));
    next_is = u.next_is;
  }

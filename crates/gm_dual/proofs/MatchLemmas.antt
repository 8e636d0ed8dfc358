-- A match of a rule is one of its dual in the dual map, with the same positions, turns and darts.
use Rattle.std.proofs.Common.{◌≡◌, ℕ, ◌<◌, List, take, length, get_or, sym, ap, subst, ◌∙◌}
use Rattle.std.specs.List.{Contains}
use Rattle.gm_model.specs.declared.rule.Side.TheVariants.{Left}
use Rattle.gm_model.specs.declared.step.Step.{Step}
use Rattle.gm_model.specs.declared.step.Step.TheVariants.{Absent, Exp, Imp}
use Rattle.gm_model.specs.Maps.{Map}
use Rattle.gm_model.specs.Matches.{ArePositions, IsEmbedding, IsInstance, IsMatch, IsStepMet, Placement, along_hook}
use Rattle.gm_model.specs.Matches.ArePositions.{Created, Walked}
use Rattle.gm_model.specs.Orbits.{IsLeastStep, IsWalk, IsWalkTo}
use Rattle.gm_model.specs.Rules.{Rule, hook_label, step, width}
use Rattle.gm_model.specs.Structure.{HasIncidence, IsInRange}
use Rattle.gm_dual.specs.Duals.{dual_label, dual_map, dual_rule}
use Rattle.gm_dual.proofs.LabelLemmas.{dual_most, dual_twice}
use Rattle.gm_dual.proofs.RuleLemmas.{has_word_dual, step_dual, width_dual}
use Rattle.gm_dual.proofs.SquareLemmas.{hook_label_dual}

-- ---- walks

-- a walk goes by the neighbours at places below the width alone
module _ (next other : ℕ → ℕ → ℕ) (width : ℕ) (same : (d l : ℕ) → l < width → other d l ≡ next d l) where
  least_alike : (walk : List ℕ) (p q l : ℕ) → IsLeastStep next width walk p q l → IsLeastStep other width walk p q l
  least_alike walk p q l s = record {
    earlier = s.earlier;
    place = s.place;
    leads = s.leads ∙ sym (same (get_or walk q 0) l s.place);
    least = λ q' l' before low. subst (Contains (take p walk)) (sym (same (get_or walk q' 0) l' low)) (s.least q' l' before low);
  }

  pub walk_alike : (d q l : ℕ) (walk : List ℕ) → IsWalkTo next width d q l walk → IsWalkTo other width d q l walk
  walk_alike d q l walk w = record {
    starts = w.starts;
    distinct = w.distinct;
    closed = λ q' l' before within low. subst (Contains walk) (sym (same (get_or walk q' 0) l' low)) (w.closed q' l' before within low);
    least = λ p some within. (let s = w.least p some within in (s.0, s.1, least_alike walk p s.0 s.1 s.2));
  }

-- ---- matches

met_dual : (n : ℕ) (alpha : ℕ → ℕ → ℕ) (place : Placement) (x p i : ℕ) (s : Step) → IsStepMet alpha place x p (dual_label n i) s → IsStepMet (λ i. alpha (dual_label n i)) place x p i s
met_dual n alpha place x p i Absent h = h
met_dual n alpha place x p i (Exp y) h = h
met_dual n alpha place x p i (Imp m) h = h

module _ (map : Map) (rule : Rule) (in_range : IsInRange map.schema rule) (incidence : HasIncidence map.schema.dim rule) where
  -- the neighbour along the hook's word is the same
  along_dual : (d m : ℕ) → m < width rule → along_hook (dual_map map) (dual_rule map.schema.dim rule) d m ≡ along_hook map rule d m
  along_dual d m low =
      let label = hook_label_dual map.schema rule in_range incidence m low in
      ap (λ i. map.alpha i d) (ap (dual_label map.schema.dim) label.0 ∙ dual_twice map.schema.dim (hook_label rule m))

  pub positions_dual : (place : Placement) (hooks walk : List ℕ) → ArePositions map rule place hooks walk → ArePositions (dual_map map) (dual_rule map.schema.dim rule) place hooks walk
  positions_dual place hooks walk (Created none one) = Created none one
  positions_dual place hooks walk (Walked d others _ live is count turns) = Walked d others walk live
      (subst (λ k. IsWalk (along_hook (dual_map map) (dual_rule map.schema.dim rule)) k d walk) (sym (width_dual map.schema.dim rule)) (walk_alike (along_hook map rule) (along_hook (dual_map map) (dual_rule map.schema.dim rule)) (width rule) along_dual d (length walk) 0 walk is))
      count
      (λ p m within low. let below = subst (λ k. m < k) (width_dual map.schema.dim rule) low in let t = turns p m within below in (t.0, t.1 ∙ sym (along_dual (get_or walk p 0) m below)))

  instance_from : (place : Placement) (x p : ℕ) → IsInstance (dual_rule map.schema.dim rule) place x p → IsInstance rule place x p
  instance_from place x p (h, low) = (sym (has_word_dual map.schema.dim rule Left x) ∙ h, low)

  embedding_dual : (place : Placement) → IsEmbedding map rule place → IsEmbedding (dual_map map) (dual_rule map.schema.dim rule) place
  embedding_dual place e = record {
    live = λ x p i. e.live x p (instance_from place x p i);
    injective = λ x p y q i j same. e.injective x p y q (instance_from place x p i) (instance_from place y q j) same;
    steps = λ x p i inst low. subst (IsStepMet (dual_map map).alpha place x p i) (sym (step_dual map.schema.dim rule Left x i)) (met_dual map.schema.dim map.alpha place x p i (step rule Left x (dual_label map.schema.dim i)) (e.steps x p (dual_label map.schema.dim i) (instance_from place x p inst) (dual_most map.schema.dim i low)));
  }

  pub match_dual : (hooks : List ℕ) (place : Placement) → IsMatch map rule hooks place → IsMatch (dual_map map) (dual_rule map.schema.dim rule) hooks place
  match_dual hooks place m = record {
    count = m.count;
    walk = m.walk;
    positions = positions_dual place hooks m.walk m.positions;
    hooked = m.hooked;
    at_darts = m.at_darts;
    embedded = embedding_dual place m.embedded;
  }

-- An unfolding is one of each scene that is like: over maps and at places that are.
use Rattle.std.proofs.Common.{◌≡◌, ℕ, ◌+◌, ◌*◌, ◌<◌, ◌≤◌, ◌↔◌, inl, inr, Bool, true, false, not, IsTrue, refl, sym, ap, ap₂, subst, ◌∙◌}
use Rattle.gm_model.specs.declared.rule.Side.TheVariants.{Left, Right}
use Rattle.gm_model.specs.declared.schema.Schema.{Schema}
use Rattle.gm_model.specs.declared.step.Step.{Step}
use Rattle.gm_model.specs.declared.step.Step.TheVariants.{Absent, Exp, Imp}
use Rattle.gm_model.specs.Maps.{Map, dimension}
use Rattle.gm_model.specs.Matches.{Placement}
use Rattle.gm_model.specs.Rules.{Rule, has_word, step}
use Rattle.gm_model.specs.Unfolding.{Scene, scene_of, name_in, added_before, added_nodes, IsGone, IsAdded, IsCutAt, IsDartAfter, IsMadeArc, IsArcAfter, LeadsBy, IsUnfolding, next_after}
use Rattle.gm_theory.proofs.RuleSteps.{step_back, step_within}
use Rattle.gm_theory.proofs.Tests.{both_true}
use Rattle.gm_apply.proofs.LikeApplications.{gone_there}
use Rattle.gm_apply.proofs.LikePlaces.{AreLikeAt, places_back}

-- ---- scenes that are like

-- the same labels, darts and arcs, the same darts that go, come and are cut, and the same arcs that are made
pub record AreLikeScenes (s t : Scene) : Type 0 where
  pub dimension : s.dimension ≡ t.dimension
  pub live : (d : ℕ) → IsTrue (s.live d) ↔ IsTrue (t.live d)
  pub arcs : (d i : ℕ) → IsTrue (s.live d) → i ≤ s.dimension → s.alpha i d ≡ t.alpha i d
  pub gone : (d : ℕ) → IsGone s d ↔ IsGone t d
  pub added : (d : ℕ) → IsAdded s d ↔ IsAdded t d
  pub cut : (d i : ℕ) → IsCutAt s d i ↔ IsCutAt t d i
  pub made : (d i e : ℕ) → IsMadeArc s d i e ↔ IsMadeArc t d i e
  pub next : next_after s ≡ next_after t

scenes_back : (s t : Scene) → AreLikeScenes s t → AreLikeScenes t s
scenes_back s t like = record {
  dimension = sym like.dimension;
  live = λ d. ((like.live d).1, (like.live d).0);
  arcs = λ d i live h. sym (like.arcs d i ((like.live d).1 live) (subst (λ n. i ≤ n) (sym like.dimension) h));
  gone = λ d. ((like.gone d).1, (like.gone d).0);
  added = λ d. ((like.added d).1, (like.added d).0);
  cut = λ d i. ((like.cut d i).1, (like.cut d i).0);
  made = λ d i e. ((like.made d i e).1, (like.made d i e).0);
  next = sym like.next;
}

dart_on : (s t : Scene) → AreLikeScenes s t → (d : ℕ) → IsDartAfter s d → IsDartAfter t d
dart_on s t like d (inl (live, stays)) = inl ((like.live d).0 live, λ g. stays ((like.gone d).1 g))
dart_on s t like d (inr new) = inr ((like.added d).0 new)

arc_on : (s t : Scene) → AreLikeScenes s t → (d i e : ℕ) → IsArcAfter s d i e → IsArcAfter t d i e
arc_on s t like d i e (inl kept) = inl record {
  live = (like.live d).0 kept.live;
  label = subst (λ n. i ≤ n) like.dimension kept.label;
  leads = sym (like.arcs d i kept.live kept.label) ∙ kept.leads;
  uncut = λ c. kept.uncut ((like.cut d i).1 c);
  uncut_there = λ c. kept.uncut_there ((like.cut e i).1 c);
}
arc_on s t like d i e (inr made) = inr ((like.made d i e).0 made)

unfolding_on : (s t : Scene) → AreLikeScenes s t → (IsLive : ℕ → Type 0) (alpha : ℕ → ℕ → ℕ) (next : ℕ) → IsUnfolding s IsLive alpha next → IsUnfolding t IsLive alpha next
unfolding_on s t like IsLive alpha next u = record {
  darts = λ d. (λ live. dart_on s t like d ((u.darts d).0 live), λ after. (u.darts d).1 (dart_on t s (scenes_back s t like) d after));
  arcs = λ d i e h.
      let low : i ≤ s.dimension = subst (λ n. i ≤ n) (sym like.dimension) h in
      (λ there. arc_on s t like d i e ((u.arcs d i e low).0 there), λ arc. (u.arcs d i e low).1 (arc_on t s (scenes_back s t like) d i e arc));
  next_is = u.next_is ∙ like.next;
}

-- ---- over maps and at places that are like

module _ (rule : Rule) (a b : Map) (place other : Placement) (like : AreLikeAt rule a b place other) where
  within_there : (p : ℕ) → p < place.positions → p < other.positions
  within_there p h = subst (λ n. p < n) like.like.positions h

  -- a right node is added, or lies at the same dart
  pub name_there : (x p : ℕ) → IsTrue (has_word rule Right x) → p < place.positions → name_in a rule place x p ≡ name_in b rule other x p
  name_there x p right within = go (has_word rule Left x) refl
    where
      go : (is_left : Bool) → has_word rule Left x ≡ is_left → name_in a rule place x p ≡ name_in b rule other x p
      go true e = rw e (like.like.darts x p (e, within))
      go false e = rw (e, right) (ap₂ (λ n k. n + added_before rule x * k + p) like.next like.like.positions)

  added_there : (d : ℕ) → IsAdded (scene_of a rule place) d → IsAdded (scene_of b rule other) d
  added_there d (x, p, added, within, is) = (x, p, added, within_there p within, is ∙ name_there x p (both_true (not (has_word rule Left x)) (has_word rule Right x) added).1 within)

  cut_there : (d i : ℕ) → IsCutAt (scene_of a rule place) d i → IsCutAt (scene_of b rule other) d i
  cut_there d i (x, p, left, within, some, is) = (x, p, left, within_there p within, some, is ∙ like.like.darts x p (left, within))

  leads_there : (x p i e : ℕ) → IsTrue (has_word rule Right x) → p < place.positions → i ≤ dimension a → (s : Step) → step rule Right x i ≡ s → LeadsBy (scene_of a rule place) x p s e → LeadsBy (scene_of b rule other) x p s e
  leads_there x p i e right within label Absent f h = h
  leads_there x p i e right within label (Exp y) f h = h ∙ name_there y p (step_back a.schema rule like.accepted.in_range like.accepted.incidence Right x i y label f).0 within
  leads_there x p i e right within label (Imp m) f h =
      let turn = like.like.turns p m within (step_within a.schema rule like.accepted.in_range like.accepted.incidence Right x i m right f) in
      h ∙ name_there x (place.turn p m) right turn.1 ∙ ap (name_in b rule other x) turn.0

  made_there : (d i e : ℕ) → IsMadeArc (scene_of a rule place) d i e → IsMadeArc (scene_of b rule other) d i e
  made_there d i e made = record {
    node = made.node;
    position = made.position;
    right = made.right;
    within = within_there made.position made.within;
    label = subst (λ (s : Schema). i ≤ s.dim) like.schema made.label;
    from = made.from ∙ name_there made.node made.position made.right made.within;
    leads = leads_there made.node made.position i e made.right made.within made.label (step rule Right made.node i) refl made.leads;
  }

scenes_like : (rule : Rule) (a b : Map) (place other : Placement) → AreLikeAt rule a b place other → AreLikeScenes (scene_of a rule place) (scene_of b rule other)
scenes_like rule a b place other like =
    let back = places_back rule a b place other like in
    record {
      dimension = ap (λ (s : Schema). s.dim) like.schema;
      live = like.darts;
      arcs = like.arcs;
      gone = λ d. (gone_there rule a b place other like d, gone_there rule b a other place back d);
      added = λ d. (added_there rule a b place other like d, added_there rule b a other place back d);
      cut = λ d i. (cut_there rule a b place other like d i, cut_there rule b a other place back d i);
      made = λ d i e. (made_there rule a b place other like d i e, made_there rule b a other place back d i e);
      next = ap₂ (λ n k. n + k * added_nodes rule) like.next like.like.positions;
    }

pub unfolding_there : (rule : Rule) (a b : Map) (place other : Placement) → AreLikeAt rule a b place other
    → (IsLive : ℕ → Type 0) (alpha : ℕ → ℕ → ℕ) (next : ℕ) → IsUnfolding (scene_of a rule place) IsLive alpha next → IsUnfolding (scene_of b rule other) IsLive alpha next
unfolding_there rule a b place other like = unfolding_on (scene_of a rule place) (scene_of b rule other) (scenes_like rule a b place other like)

-- The arcs of steady steps are there already: where no right step at a label makes an arc that isn't there, an old dart of the result has its old neighbour.
use Rattle.std.proofs.Common.{◌≡◌, ℕ, ◌<◌, ◌≤◌, not, false, length, IsTrue, refl, sym, ap, ◌∙◌, subst, inl, inr}
use Rattle.gm_model.specs.declared.rule.Side.TheVariants.{Left, Right}
use Rattle.gm_model.specs.declared.step.Step.{Step}
use Rattle.gm_model.specs.declared.step.Step.TheVariants.{Absent, Exp, Imp}
use Rattle.gm_model.specs.Rules.{has_word, step}
use Rattle.gm_model.specs.Unfolding.{IsMadeArc, IsArcAfter}
use Rattle.gm_arena.specs.inner.ArenaMap.{IsAt, IsLiveSlot, name_at, alpha}
use Rattle.gm_arena.proofs.InsideLemmas.{is_some_at}
use Rattle.gm_arena.proofs.MapLemmas.{name_at-is}
use Rattle.gm_plan.specs.inner.Changes.{is_same, is_steady, made_step}
use Rattle.gm_plan.specs.inner.Placed.{turn_at}
use Rattle.gm_theory.proofs.Arcs.{arc_to, kept_name}
use Rattle.gm_theory.proofs.Tests.{and_true, both_true, true_not, true_or_false}
use Rattle.gm_walk.specs.declared.at.At.TheVariants.{Old}
use Rattle.gm_pending.specs.inner.Results.{PendingOf, IsPrepared, rule_in, scene_in, IsResultDart}
use Rattle.gm_pending.proofs.on_pending.ResultDarts.{old_result, result_dart}
use Rattle.gm_pending.proofs.on_pending.PreparedIsLawful.{law}
use Rattle.gm_pending.proofs.on_pending.MadeArcs.{exists_arc}
use Rattle.gm_pending.proofs.on_pending.SameSteps.{same_step}

module _ (app : PendingOf) (prepared : IsPrepared app) where
  -- the arc of a steady step is there already
  pub steady_there : (d i e : ℕ) → (made : IsMadeArc (scene_in app) d i e) → IsTrue (is_steady (rule_in app) made.node i) → IsTrue ((scene_in app).live d) × (alpha app.map i d ≡ e)
  steady_there d i e made steady = (subst (λ c. IsTrue ((scene_in app).live c)) (sym here) ((law app prepared).darts.live made.node made.position (l, made.within)), by (step (rule_in app) Right made.node i) refl)
    where
      sides : IsTrue (has_word (rule_in app) Left made.node) × IsTrue (is_same (step (rule_in app) Left made.node i) (step (rule_in app) Right made.node i))
      sides = both_true (has_word (rule_in app) Left made.node) (is_same (step (rule_in app) Left made.node i) (step (rule_in app) Right made.node i)) steady

      l : IsTrue (has_word (rule_in app) Left made.node)
      l = sides.0

      same : step (rule_in app) Left made.node i ≡ step (rule_in app) Right made.node i
      same = same_step _ _ sides.1

      name : (y t : ℕ) → IsTrue (has_word (rule_in app) Left y) → (scene_in app).name_of y t ≡ (scene_in app).dart_of y t
      name y t ly = kept_name (scene_in app) _ _ _ (law app prepared) y t ly

      here : d ≡ (scene_in app).dart_of made.node made.position
      here = made.from ∙ name made.node made.position l

      by : (t : Step) → step (rule_in app) Right made.node i ≡ t → alpha app.map i d ≡ e
      by Absent f = absurd (rw f at made.leads)
      by (Exp y) f =
          let leads : e ≡ (scene_in app).name_of y made.position = rw f at made.leads in
          let other : IsTrue (has_word (rule_in app) Left y) = ((law app prepared).steps.left_back made.node i y l made.label (same ∙ f)).0 in
          ap (alpha app.map i) here ∙ (law app prepared).darts.links made.node made.position i y (l, made.within) made.label (same ∙ f) ∙ sym (name y made.position other) ∙ sym leads
      by (Imp m) f =
          let leads : e ≡ (scene_in app).name_of made.node (turn_at app.placed made.position m) = rw f at made.leads in
          ap (alpha app.map i) here ∙ (law app prepared).darts.letters made.node made.position i m (l, made.within) made.label (same ∙ f) ∙ sym (name made.node (turn_at app.placed made.position m) l) ∙ sym leads

module _ (app : PendingOf) (prepared : IsPrepared app) (i : ℕ) (h : i ≤ app.map.schema.dim) (none : (x : ℕ) → x < length (rule_in app).nodes → made_step (rule_in app) x i ≡ Absent) where
  steady : (d e : ℕ) (made : IsMadeArc (scene_in app) d i e) → IsTrue (is_steady (rule_in app) made.node i)
  steady d e made = elim (true_or_false (is_steady (rule_in app) made.node i)) [ inl s ↦ s | inr moves ↦ absurd (gone moves) ]
    where
      absent : is_steady (rule_in app) made.node i ≡ false → step (rule_in app) Right made.node i ≡ Absent
      absent moves =
          rw (and_true (has_word (rule_in app) Right made.node) (not (is_steady (rule_in app) made.node i)) made.right (true_not (is_steady (rule_in app) made.node i) moves))
          at (none made.node ((law app prepared).steps.right_below made.node made.right))

      gone : is_steady (rule_in app) made.node i ≡ false → ⊥
      gone moves = rw (absent moves) at made.leads

  same : (d e : ℕ) → IsArcAfter (scene_in app) d i e → e ≡ alpha app.map i d
  same d e (inl kept) = sym kept.leads
  same d e (inr made) = sym (steady_there app prepared d i e made (steady d e made)).1

  pub kept_neighbour : (slot to : ℕ) → IsResultDart app (Old (record { at = slot })) → IsAt app.map to (alpha app.map i (name_at app.map slot)) →
      IsArcAfter (scene_in app) (name_at app.map slot) i (name_at app.map to) × IsResultDart app (Old (record { at = to }))
  kept_neighbour slot to dart at =
      let d = name_at app.map slot in
      let there = exists_arc (scene_in app) _ _ _ (law app prepared) d i h (result_dart app prepared (Old (record { at = slot })) dart) in
      let name : name_at app.map to ≡ alpha app.map i d = name_at-is app.map to _ at in
      let arc : IsArcAfter (scene_in app) d i (name_at app.map to) = subst (IsArcAfter (scene_in app) d i) (same d there.0 there.1 ∙ sym name) there.1 in
      let live : IsLiveSlot app.map to = is_some_at _ _ at in
      (arc, (live, old_result app prepared to live (arc_to (scene_in app) _ _ _ (law app prepared) _ i _ arc)))

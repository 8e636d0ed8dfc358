-- The arcs that are told of a step, by its kind.
use Rattle.std.proofs.Common.{◌≡◌, ◌≢◌, ℕ, ◌+◌, ◌<◌, List, [], ◌∷◌, length, refl, sym, ap, ap₂, ◌∙◌, subst}
use Rattle.std.specs.List.{Contains}
use Rattle.gm_model.specs.declared.step.Step.{Step}
use Rattle.gm_model.specs.declared.step.Step.TheVariants.{Absent, Exp, Imp}
use Rattle.gm_arena.specs.declared.slot.Slot.{Slot}
use Rattle.gm_arena.specs.inner.ArenaMap.{ArenaMap}
use Rattle.gm_plan.specs.inner.Placed.{turn_at}
use Rattle.gm_commit.specs.inner.Arcs.{Arc}
use Rattle.gm_commit.specs.declared.rewrite.Arcs.{Arcs}
use Rattle.gm_commit.specs.declared.rewrite.Arcs.TheVariants.{Freed, Made}
use Rattle.gm_commit.specs.inner.InstanceEdits.{RewriteOf, as_list, concat_below, written_step, arc_between, arcs_to, arc_by, arcs_at}
use Rattle.gm_commit.specs.inner.WrittenMap.{IsWritable, end_at, with_arcs}
use Rattle.gm_commit.proofs.on_rewrite.JoinedLists.{contains_concat}
use Rattle.gm_commit.proofs.ListMembers.{contains_first}
use Rattle.gm_commit.proofs.on_commit.WrittenSoFar.{AreWritten}

module _ (rewrite : RewriteOf) (x i : ℕ) where
  -- the list is told by the step alone
  by_step : (arcs : Arcs) (step : Step) → step ≡ written_step rewrite arcs x i → arcs_at rewrite arcs x i ≡ concat_below (λ p. as_list (arc_by rewrite arcs x p i step)) rewrite.placed.positions
  by_step arcs step e = ap (λ s. concat_below (λ p. as_list (arc_by rewrite arcs x p i s)) rewrite.placed.positions) (sym e)

  pub freed_arcs : (arcs : Arcs) (step : Step) → arcs ≡ Freed → step ≢ Absent → step ≡ written_step rewrite arcs x i → arcs_at rewrite arcs x i ≡ arcs_to rewrite x i (λ p. (x, p))
  freed_arcs arcs Absent freed some e = absurd (some refl)
  freed_arcs arcs (Exp y) freed some e = by_step arcs (Exp y) e ∙ ap (λ a. concat_below (λ p. as_list (arc_by rewrite a x p i (Exp y))) rewrite.placed.positions) freed
  freed_arcs arcs (Imp m) freed some e = by_step arcs (Imp m) e ∙ ap (λ a. concat_below (λ p. as_list (arc_by rewrite a x p i (Imp m))) rewrite.placed.positions) freed

  made_arcs : (arcs : Arcs) (step told : Step) → arcs ≡ Made → step ≡ told → step ≡ written_step rewrite arcs x i → arcs_at rewrite arcs x i ≡ concat_below (λ p. as_list (arc_by rewrite Made x p i told)) rewrite.placed.positions
  made_arcs arcs step told made is e = by_step arcs step e ∙ ap₂ (λ a s. concat_below (λ p. as_list (arc_by rewrite a x p i s)) rewrite.placed.positions) made is

  pub linked_arcs : (arcs : Arcs) (step : Step) (y : ℕ) → arcs ≡ Made → step ≡ Exp y → step ≡ written_step rewrite arcs x i → arcs_at rewrite arcs x i ≡ arcs_to rewrite x i (λ p. (y, p))
  linked_arcs arcs step y = made_arcs arcs step (Exp y)

  pub turned_arcs : (arcs : Arcs) (step : Step) (m : ℕ) → arcs ≡ Made → step ≡ Imp m → step ≡ written_step rewrite arcs x i → arcs_at rewrite arcs x i ≡ arcs_to rewrite x i (λ p. (x, turn_at rewrite.placed p m))
  turned_arcs arcs step m = made_arcs arcs step (Imp m)

  -- what holds of each arc of the list and of all of them, where they are those to these instances
  module _ (m : ArenaMap) (made : List Slot) (arcs : List Arc) (to : ℕ → ℕ × ℕ) (same : arcs ≡ arcs_to rewrite x i to) where
    pub writable_at : ((arc : Arc) → Contains arcs arc → IsWritable m made arc) → (p : ℕ) → p < rewrite.placed.positions → IsWritable m made (arc_between rewrite x p i (to p))
    writable_at fit p h = fit (arc_between rewrite x p i (to p)) (subst (λ list. Contains list (arc_between rewrite x p i (to p))) (sym same) (contains_concat (λ q. arc_between rewrite x q i (to q) ∷ []) rewrite.placed.positions p (arc_between rewrite x p i (to p)) h (contains_first (arc_between rewrite x p i (to p)) [])))

    pub all_written : (now : ArenaMap) (begun steps : ℕ) → now ≡ with_arcs (end_at m made) m (arcs_to rewrite x i to) → steps ≡ begun + length (arcs_to rewrite x i to) → AreWritten m made begun arcs now steps
    all_written now begun steps map cost = record { map = map ∙ ap (with_arcs (end_at m made) m) (sym same); cost = cost ∙ ap (λ list. begun + length list) (sym same) }

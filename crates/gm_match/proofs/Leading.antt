-- Whether a label leads from one instance to another.
use Rattle.std.proofs.Common.{◌≡◌, ℕ, ◌≤◌, ◌↔◌, Bool, false, IsTrue, Some, sym, ap, subst, ◌∙◌}
use Rattle.std.proofs.lemmas.Bool.{false≢true}
use Rattle.gm_model.specs.declared.step.Step.TheVariants.{Exp, Imp}
use Rattle.gm_model.specs.Maps.{IsGeneralised}
use Rattle.gm_model.specs.Matches.{IsStepMet}
use Rattle.gm_arena.specs.declared.slot.Slot.{Slot}
use Rattle.gm_arena.specs.inner.ArenaAsMap.{as_map}
use Rattle.gm_arena.specs.inner.ArenaMap.{ArenaMap, IsLiveName, IsLiveSlot, alpha, name_at}
use Rattle.gm_arena.specs.inner.Lawful.{IsLawful}
use Rattle.gm_arena.proofs.MapLemmas.{IsLiveName-name_at}
use Rattle.gm_plan.specs.inner.Placed.{Placed, slot_at, turn_at}
use Rattle.gm_plan.specs.inner.InArena.{placement_in}
use Rattle.gm_match.specs.inner.Outcome.{name_of}
use Rattle.gm_match.proofs.InArena.{named_slot}

module _ (m : ArenaMap) (found : Placed) (x p i : ℕ) (from to : Slot) (at : slot_at found x p ≡ Some from) where
  abbrev lies : ℕ → ℕ → ℕ
  lies = (placement_in m found).dart_of

  start : alpha m i (lies x p) ≡ alpha m i (name_at m from.at)
  start = ap (alpha m i) (sym (named_slot m found x p) ∙ ap (name_of m) at)

  end : (y q : ℕ) → slot_at found y q ≡ Some to → lies y q ≡ name_at m to.at
  end y q there = sym (named_slot m found y q) ∙ ap (name_of m) there

  pub linked : IsGeneralised (as_map m) → IsLawful m → IsLiveSlot m from.at → i ≤ m.schema.dim → (y : ℕ) → slot_at found y p ≡ Some to → alpha m i (name_at m from.at) ≡ name_at m to.at → IsStepMet (alpha m) (placement_in m found) x p i (Exp y)
  linked generalised lawful live low y there leads =
      let forth = start ∙ leads ∙ sym (end y p there) in
      let lives = subst (IsLiveName m) (sym (sym (named_slot m found x p) ∙ ap (name_of m) at)) (IsLiveName-name_at m from.at lawful live) in
      (forth, ap (alpha m i) (sym forth) ∙ generalised.back (lies x p) i lives low)

  pub turned : (k q : ℕ) → q ≡ turn_at found p k → slot_at found x q ≡ Some to → alpha m i (name_at m from.at) ≡ name_at m to.at → IsStepMet (alpha m) (placement_in m found) x p i (Imp k)
  turned k q is there leads = start ∙ leads ∙ sym (end x (turn_at found p k) (subst (λ r. slot_at found x r ≡ Some to) is there))

  module _ (answer : Bool) (tells : IsTrue answer ↔ (alpha m i (name_at m from.at) ≡ name_at m to.at)) (is_false : answer ≡ false) where
    pub unlinked : (y : ℕ) → slot_at found y p ≡ Some to → IsStepMet (alpha m) (placement_in m found) x p i (Exp y) → ⊥
    unlinked y there met = false≢true (sym is_false ∙ tells.1 (sym start ∙ met.0 ∙ end y p there))

    pub unturned : (k q : ℕ) → q ≡ turn_at found p k → slot_at found x q ≡ Some to → IsStepMet (alpha m) (placement_in m found) x p i (Imp k) → ⊥
    unturned k q is there met = false≢true (sym is_false ∙ tells.1 (sym start ∙ met ∙ end x (turn_at found p k) (subst (λ r. slot_at found x r ≡ Some to) is there)))

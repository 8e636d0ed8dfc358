use Rattle.std.proofs.Common.{◌≡◌, ℕ, ◌+◌, ◌*◌, ◌≤◌, Fits, w64, length, subst, arith}
use Rattle.gm_model.specs.Limits.{most_darts}
use Rattle.gm_model.proofs.Exits.{unless_ok}
use Rattle.gm_arena.specs.inner.Inside.{no_slot}
use Rattle.gm_arena.proofs.arena.grown.Goals as goal

room_word : (len held more : ℕ) → len ≡ held → held + more ≤ most_darts → Fits w64 (len + more)
room_word len held more same few = omega (arith, same, few)

twice_word : (room capacity : ℕ) → room ≡ capacity → capacity ≤ no_slot → Fits w64 (2 * room)
twice_word room capacity same few = omega (arith, same, few)

no_greater : (room capacity most : ℕ) → room ≡ capacity → room ≤ most → capacity ≤ most
no_greater room capacity most same few = omega (arith, same, few)

pub overflow_add-len : goal.overflow_add-len
overflow_add-len c = room_word _ _ c.args.more c.len.ensures c.requires.few

pub overflow_mul-capacity : goal.overflow_mul-capacity
overflow_mul-capacity c = twice_word _ _ c.capacity.ensures.value c.requires.fits

pub returns-clause-fits : goal.returns-clause-fits
returns-clause-fits c = no_greater _ _ _ c.capacity-2.ensures.value c.if-capacity.false

pub returns-clause-within : goal.returns-clause-within
returns-clause-within c = subst (λ (n : ℕ). length c.reserve_exact.new.self.slots ≤ n) c.capacity-2.ensures.value c.capacity-2.ensures.slots

pub returns-in_err-grown : goal.returns-in_err-grown
returns-in_err-grown c = record {
  room = unless_ok _ c.from_residual.result c.from_residual.ensures.0;
  fits = unless_ok _ c.from_residual.result c.from_residual.ensures.0;
  slots = unless_ok _ c.from_residual.result c.from_residual.ensures.0;
  within = unless_ok _ c.from_residual.result c.from_residual.ensures.0;
}

pub returns-in_err-reserve_exact : goal.returns-in_err-reserve_exact
returns-in_err-reserve_exact c = record {
  room = unless_ok _ c.from_residual-in_err-reserve_exact.result c.from_residual-in_err-reserve_exact.ensures.0;
  fits = unless_ok _ c.from_residual-in_err-reserve_exact.result c.from_residual-in_err-reserve_exact.ensures.0;
  slots = unless_ok _ c.from_residual-in_err-reserve_exact.result c.from_residual-in_err-reserve_exact.ensures.0;
  within = unless_ok _ c.from_residual-in_err-reserve_exact.result c.from_residual-in_err-reserve_exact.ensures.0;
}

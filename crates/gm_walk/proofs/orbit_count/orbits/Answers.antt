use Rattle.std.proofs.Common.{◌≡◌, ◌<◌, Bool, false, not, Option, None, is_some, sym, ap, subst, ◌∙◌, arith}
use Rattle.std.proofs.lemmas.Bool.{false≢true}
use Rattle.gm_model.proofs.Exits.{unless_ok}
use Rattle.gm_walk.specs.inner.Room.{Fits}
use Rattle.gm_walk.proofs.WordLemmas.{set_within}
use Rattle.gm_walk.proofs.orbit_count.orbits.Goals as goal
use Rattle.gm_walk.proofs.orbit_count.orbits.Goals.{then-is_none+in_ok-fit, else-is_none}

-- there is a pair where the test found no lack of one
is_pair : {A : Type 0} (pair : Option A) (lacks : Bool) → is_some pair ≡ not lacks → lacks ≡ false → pair ≡ None → ⊥
is_pair pair lacks is found none = false≢true (ap is_some (sym none) ∙ (is ∙ ap not found))

pub count_darts-requires-clause-mask : goal.count_darts-requires-clause-mask
count_darts-requires-clause-mask g c =
    let few : c.args.mask.bits < 256 = omega arith in
    set_within c.args.arena.now.schema.dim c.args.mask few c.requires.mask

pub returns-in_err-fit-clause-orbits : goal.returns-in_err-fit-clause-orbits
returns-in_err-fit-clause-orbits g c = unless_ok _ c.from_residual.result c.from_residual.ensures.0

pub returns-in_err-seen-clause-orbits : goal.returns-in_err-seen-clause-orbits
returns-in_err-seen-clause-orbits g c = unless_ok _ c.from_residual-in_err-seen.result c.from_residual-in_err-seen.ensures.0

pub count_darts-requires-clause-pair : goal.count_darts-requires-clause-pair
count_darts-requires-clause-pair g c = rw c.word_of.ensures at c.pair_of-pair.ensures

pub count_darts-requires-clause-seen : goal.count_darts-requires-clause-seen
count_darts-requires-clause-seen g c = rw (sym c.bound.ensures.bound) (c.deref_mut.ensures.value ∙ c.in_ok-seen.ensures)

pub count_darts-requires-clause-fits : goal.count_darts-requires-clause-fits
count_darts-requires-clause-fits g c = λ none. elim c.if-is_none.branch [
  | then-is_none+in_ok-fit w ↦ subst (λ room. Fits room c.args.arena.now) (sym w.scratch-is) w.in_ok-fit.ensures.fits
  | else-is_none w ↦ absurd (is_pair c.pair_of-pair.result c.is_none.result c.is_none.ensures w.if-is_none.false none)
]

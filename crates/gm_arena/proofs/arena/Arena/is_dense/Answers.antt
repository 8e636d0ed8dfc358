use Rattle.std.proofs.Common.{◌≡◌, ℕ, ◌<◌, sym, subst, ◌∙◌}
use Rattle.std.proofs.lemmas.Bool.{eqb-true}
use Rattle.gm_arena.specs.inner.ArenaMap.{ArenaMap, IsLiveSlot}
use Rattle.gm_arena.proofs.DenseLemmas.{all_taken}
use Rattle.gm_arena.proofs.InsideLemmas.{live_at, some_of}
use Rattle.gm_arena.proofs.arena.Arena.is_dense.Goals as goal

pub returns-clause-live : goal.returns-clause-live
returns-clause-live c = λ yes.
    let a = c.self.inside in
    subst (λ (m : ArenaMap). (at : ℕ) → at < m.bound → IsLiveSlot m at) c.self.view_is (λ at below.
    live_at a.places at (all_taken a.places.slots a.bound (λ key h. let place = some_of _ h in (c.self.invariant.0.placed key place.0 place.1).below_bound) (sym c.len.ensures ∙ eqb-true c.len.result a.bound yes) at below))

pub returns-clause-count : goal.returns-clause-count
returns-clause-count c = λ yes. subst (λ (m : ArenaMap). m.bound ≡ m.count) c.self.view_is (sym (eqb-true c.len.result c.self.inside.bound yes) ∙ c.len.ensures)

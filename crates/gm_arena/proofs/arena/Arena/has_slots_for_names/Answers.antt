use Rattle.std.proofs.Common.{◌≡◌, ℕ, ◌<◌, ◌≤◌, None, sym, subst, ◌∙◌}
use Rattle.std.specs.FinMap.{get}
use Rattle.std.proofs.lemmas.Bool.{and_parts, eqb-true}
use Rattle.gm_arena.specs.inner.ArenaMap.{ArenaMap, IsAt}
use Rattle.gm_arena.proofs.SlotNameLemmas.{named_below, none_above}
use Rattle.gm_arena.proofs.arena.Arena.has_slots_for_names.Goals as goal

pub returns-clause-at : goal.returns-clause-at
returns-clause-at c = λ told.
    let a = c.self.inside in
    let both = and_parts a.names_are_slots _ told in
    subst (λ (m : ArenaMap). (name : ℕ) → name < m.bound → IsAt m name name) c.self.view_is
    (named_below _ _ _ _ _ _ _ _ _ _ c.self.invariant.0 (c.self.invariant.2 both.0) (sym c.len.ensures ∙ eqb-true c.len.result a.bound both.1))

pub returns-clause-none : goal.returns-clause-none
returns-clause-none c = λ told.
    let both = and_parts c.self.inside.names_are_slots _ told in
    subst (λ (m : ArenaMap). (name : ℕ) → m.bound ≤ name → get m.darts name ≡ None) c.self.view_is
    (none_above _ _ _ _ _ _ _ _ _ _ c.self.invariant.0 (c.self.invariant.2 both.0))

pub returns-clause-count : goal.returns-clause-count
returns-clause-count c = λ told.
    let both = and_parts c.self.inside.names_are_slots _ told in
    subst (λ (m : ArenaMap). m.bound ≡ m.count) c.self.view_is (sym (eqb-true c.len.result c.self.inside.bound both.1) ∙ c.len.ensures)

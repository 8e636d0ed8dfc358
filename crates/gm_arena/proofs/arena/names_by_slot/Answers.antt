use Rattle.std.proofs.Common.{ℕ, ◌++◌, ◌∷◌, [], map, sym, ap, ◌∙◌}
use Rattle.std.proofs.lemmas.List.{append_assoc, append-nil}
use Rattle.gm_arena.specs.declared.arena.Place.{Place}
use Rattle.gm_arena.proofs.arena.names_by_slot.Goals as goal

abbrev named : ℕ × Place → ℕ
named e = e.1.name

pub loop-slot-init : goal.loop-slot-init
loop-slot-init c = ap (λ xs. xs ++ map named c.into_iter-slot-iterator.result) c.in_ok-names.ensures.items ∙ ap (map named) c.into_iter-slot-iterator.ensures.into_iter_gives

pub loop-slot-preserved : goal.loop-slot-preserved
loop-slot-preserved c =
    ap (λ xs. xs ++ map named c.next.new.self) c.in_ok-push.ensures.items
    ∙ (append_assoc c.loop-slot.names.items (c.in-Some.place.now.name ∷ []) (map named c.next.new.self)
    ∙ (ap (λ left. c.loop-slot.names.items ++ map named left) (sym c.in-Some.ensures.steps)
    ∙ c.loop-slot.invariant))

pub returns : goal.returns
returns c = sym (append-nil c.loop-slot.names.items) ∙ (ap (λ left. c.loop-slot.names.items ++ map named left) (sym c.in-None.ensures.steps.0) ∙ c.loop-slot.invariant)

use Rattle.std.proofs.Common.{refl, ap, ◌∙◌, arith}
use Rattle.gm_commit.specs.declared.rewrite.Arcs.TheVariants.{Freed}
use Rattle.gm_commit.specs.inner.InstanceEdits.{all_arcs, all_removed, told_by}
use Rattle.gm_commit.specs.inner.WrittenMap.{end_at, with_arcs, without_darts}
use Rattle.gm_commit.proofs.on_rewrite.SlotTable.{left_alone}
use Rattle.gm_commit.proofs.on_rewrite.NothingRemoved.{nothing_freed, nothing_removed}
use Rattle.gm_commit.proofs.rewrite.Rewrite.clear.Goals as goal

pub write-requires : goal.write-requires
write-requires g c =
    record {
      slots = (left_alone (told_by c.args.self.now) c.args.slots.now c.requires.slots).1;
      arcs = rw (left_alone (told_by c.args.self.now) c.args.slots.now c.requires.slots).0 c.requires.freed;
    }

pub remove-requires : goal.remove-requires
remove-requires g c = rw (c.write.ensures.map, (left_alone (told_by c.args.self.now) c.args.slots.now c.requires.slots).0) c.requires.removed

pub returns : goal.returns
returns g c =
    record {
      map = c.remove.ensures.map
          ∙ ap (λ m. without_darts m (all_removed (told_by c.args.self.now))) (c.write.ensures.map ∙ ap (λ made. with_arcs (end_at c.args.arena.now made) c.args.arena.now (all_arcs (told_by c.args.self.now) Freed)) (left_alone (told_by c.args.self.now) c.args.slots.now c.requires.slots).0);
      cost = omega (arith, c.write.ensures.cost, c.remove.ensures.cost);
    }

pub returns-then-not-self : goal.returns-then-not-self
returns-then-not-self g c =
    record {
      map = rw (← c.self.view_is) (rw (nothing_freed _ c.self.invariant c.if-not-self.true, nothing_removed _ c.self.invariant c.if-not-self.true) refl);
      cost = rw (← c.self.view_is) (rw (nothing_freed _ c.self.invariant c.if-not-self.true, nothing_removed _ c.self.invariant c.if-not-self.true) (omega arith));
    }

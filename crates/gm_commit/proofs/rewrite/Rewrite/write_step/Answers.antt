use Rattle.std.proofs.Common.{◌≡◌, ◌≢◌, rules, refl, arith}
use Rattle.gm_model.specs.declared.step.Step.TheVariants.{Absent}
use Rattle.gm_plan.specs.inner.Placed.{turn_at}
use Rattle.gm_commit.specs.declared.rewrite.Arcs.TheVariants.{Freed}
use Rattle.gm_commit.specs.inner.InstanceEdits.{told_by, arcs_at, made_in}
use Rattle.gm_commit.proofs.on_rewrite.EndsOfInstances.{no_arcs}
use Rattle.gm_commit.proofs.on_commit.ArcsOfStep.{freed_arcs, linked_arcs, turned_arcs, writable_at, all_written}
use Rattle.gm_commit.proofs.rewrite.Rewrite.write_step.Goals as goal

pub link_nodes-requires-in-Freed-default : goal.link_nodes-requires-in-Freed-default
link_nodes-requires-in-Freed-default g c =
    record {
      slots = c.requires.slots;
      arcs = let freed : c.args.arcs ≡ Freed = search rules in
          let some : c.written_step.result ≢ Absent = search rules in
          writable_at (told_by c.args.self.now) c.args.node c.args.label c.args.arena.now (made_in (told_by c.args.self.now) c.args.slots.now) _ (λ p. (c.args.node, p)) (freed_arcs (told_by c.args.self.now) c.args.node c.args.label c.args.arcs c.written_step.result freed some c.written_step.ensures) c.requires.arcs;
    }

pub link_nodes-requires : goal.link_nodes-requires
link_nodes-requires g c =
    record {
      slots = c.requires.slots;
      arcs = writable_at (told_by c.args.self.now) c.args.node c.args.label c.args.arena.now (made_in (told_by c.args.self.now) c.args.slots.now) _ (λ p. (c.in-Made-Exp.other, p)) (linked_arcs (told_by c.args.self.now) c.args.node c.args.label c.args.arcs c.written_step.result c.in-Made-Exp.other c.in-Made-Exp.is-0 c.in-Made-Exp.is-1 c.written_step.ensures) c.requires.arcs;
    }

pub link_turns-requires-clause-arcs : goal.link_turns-requires-clause-arcs
link_turns-requires-clause-arcs g c = writable_at (told_by c.args.self.now) c.args.node c.args.label c.args.arena.now (made_in (told_by c.args.self.now) c.args.slots.now) _ (λ p. (c.args.node, turn_at c.args.self.now.placed p c.in-Made-Imp.place)) (turned_arcs (told_by c.args.self.now) c.args.node c.args.label c.args.arcs c.written_step.result c.in-Made-Imp.place c.in-Made-Imp.is-0 c.in-Made-Imp.is-1 c.written_step.ensures) c.requires.arcs

pub returns-in_default-Absent : goal.returns-in_default-Absent
returns-in_default-Absent g c =
    record {
      map = rw (no_arcs (told_by c.args.self.now) c.args.arcs c.args.node c.args.label c.written_step.result c.written_step.ensures c.in_default-Absent.is-1) refl;
      cost = rw (no_arcs (told_by c.args.self.now) c.args.arcs c.args.node c.args.label c.written_step.result c.written_step.ensures c.in_default-Absent.is-1) (omega arith);
    }

pub returns-in-Made-Exp : goal.returns-in-Made-Exp
returns-in-Made-Exp g c =
    let written = all_written (told_by c.args.self.now) c.args.node c.args.label c.args.arena.now (made_in (told_by c.args.self.now) c.args.slots.now) (arcs_at (told_by c.args.self.now) c.args.arcs c.args.node c.args.label) (λ p. (c.in-Made-Exp.other, p)) (linked_arcs (told_by c.args.self.now) c.args.node c.args.label c.args.arcs c.written_step.result c.in-Made-Exp.other c.in-Made-Exp.is-0 c.in-Made-Exp.is-1 c.written_step.ensures) c.link_nodes.new.arena c.args.steps.now c.link_nodes.new.steps c.link_nodes.ensures.map c.link_nodes.ensures.cost in
    record { map = written.map; cost = written.cost }

pub returns-in-Made-Imp : goal.returns-in-Made-Imp
returns-in-Made-Imp g c =
    let written = all_written (told_by c.args.self.now) c.args.node c.args.label c.args.arena.now (made_in (told_by c.args.self.now) c.args.slots.now) (arcs_at (told_by c.args.self.now) c.args.arcs c.args.node c.args.label) (λ p. (c.args.node, turn_at c.args.self.now.placed p c.in-Made-Imp.place)) (turned_arcs (told_by c.args.self.now) c.args.node c.args.label c.args.arcs c.written_step.result c.in-Made-Imp.place c.in-Made-Imp.is-0 c.in-Made-Imp.is-1 c.written_step.ensures) c.link_turns.new.arena c.args.steps.now c.link_turns.new.steps c.link_turns.ensures.map c.link_turns.ensures.cost in
    record { map = written.map; cost = written.cost }

pub returns-in-Freed-default : goal.returns-in-Freed-default
returns-in-Freed-default g c =
    let freed : c.args.arcs ≡ Freed = search rules in
    let some : c.written_step.result ≢ Absent = search rules in
    let written = all_written (told_by c.args.self.now) c.args.node c.args.label c.args.arena.now (made_in (told_by c.args.self.now) c.args.slots.now) (arcs_at (told_by c.args.self.now) c.args.arcs c.args.node c.args.label) (λ p. (c.args.node, p)) (freed_arcs (told_by c.args.self.now) c.args.node c.args.label c.args.arcs c.written_step.result freed some c.written_step.ensures) c.link_nodes-in-Freed-default.new.arena c.args.steps.now c.link_nodes-in-Freed-default.new.steps c.link_nodes-in-Freed-default.ensures.map c.link_nodes-in-Freed-default.ensures.cost in
    record { map = written.map; cost = written.cost }

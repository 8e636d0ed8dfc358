use Rattle.std.proofs.Common.{length, sym, ◌∙◌, subst, arith}
use Rattle.gm_pending.specs.inner.ReachedDarts.{IsSpreadTo}
use Rattle.gm_pending.specs.inner.Results.{name_of}
use Rattle.gm_walk.specs.inner.Keys.{key_of}
use Rattle.gm_pending.proofs.on_deciding.DecidersFound.{assigned_right, decided_reached, instance_decides, instance_passed, key_absent, key_there, on_ok, some_grown}
use Rattle.gm_model.proofs.Exits.{never_ok}
use Rattle.gm_pending.proofs.pending.Pending.decide_instance.Goals as goal

pub place-at-requires : goal.place-at-requires
place-at-requires g c = (assigned_right c.args.self.now c.requires.prepared c.args.embed c.args.declared.now c.requires.embed c.args.node c.requires.assigned, c.requires.position)

pub returns-then-is_some : goal.returns-then-is_some
returns-then-is_some g c =
    record {
      decided = instance_passed c.args.self.now c.requires.prepared c.args.embed c.args.declared.now c.requires.embed c.args.orbits.now.instances.items c.args.orbits.now.marks c.args.node c.args.position c.place-at.result
          c.requires.earlier (c.requires.assigned, c.requires.position) c.place-at.ensures.dart c.place-at.ensures.name
          (key_there c.args.orbits.now.marks (key_of c.place-at.result) c.decided_by.result c.decided_by.ensures.instance (sym c.is_some.ensures ∙ c.if-is_some.true));
      darts = c.requires.earlier.darts;
      reached = decided_reached c.args.self.now c.requires.prepared c.args.embed c.args.declared.now c.requires.embed c.args.orbits.now.instances.items c.args.orbits.now.marks c.args.node c.args.position c.requires.earlier;
      cost = omega arith;
      least = omega arith;
    }

pub returns-in_err-index : goal.returns-in_err-index
returns-in_err-index g c =
    record {
      decided = never_ok _ c.from_residual.result c.from_residual.ensures.0;
      darts = c.requires.earlier.darts;
      reached = decided_reached c.args.self.now c.requires.prepared c.args.embed c.args.declared.now c.requires.embed c.args.orbits.now.instances.items c.args.orbits.now.marks c.args.node c.args.position c.requires.earlier;
      cost = omega arith;
      least = omega arith;
    }

pub returns : goal.returns
returns g c =
    record {
      decided = let app = c.args.self.now in
          let marks = c.args.orbits.now.marks in
          let instances = c.args.orbits.now.instances.items in
          on_ok c.reach.result c.reach.ensures.spread (λ spread. rw c.in_ok-index.ensures.added
          (instance_decides app c.requires.prepared c.args.embed c.args.declared.now c.requires.embed instances marks c.args.node c.args.position c.place-at.result
          c.requires.earlier (c.requires.assigned, c.requires.position) c.place-at.ensures.dart c.place-at.ensures.name c.reach.new.marks
          (key_absent marks (key_of c.place-at.result) c.decided_by.result c.decided_by.ensures.instance (sym c.is_some.ensures ∙ c.if-is_some.false))
          c.reach.ensures.darts c.in_ok-index.ensures.few
          (λ result unfolded. subst (λ k. IsSpreadTo app c.args.declared.now result marks c.reach.new.marks k (name_of app c.place-at.result) (length c.reach.new.marks) 0) c.in_ok-index.ensures.index (spread result unfolded (c.requires.earlier.walked result unfolded).closed))));
      darts = c.reach.ensures.darts;
      reached = let app = c.args.self.now in
          some_grown app c.requires.prepared c.args.embed c.args.declared.now c.requires.embed c.args.orbits.now.marks c.reach.new.marks c.in_ok-index.index c.args.node c.args.position c.place-at.result
          (c.requires.assigned, c.requires.position) c.place-at.ensures.dart c.place-at.ensures.name c.reach.ensures.darts
          (decided_reached app c.requires.prepared c.args.embed c.args.declared.now c.requires.embed c.args.orbits.now.instances.items c.args.orbits.now.marks c.args.node c.args.position c.requires.earlier)
          (λ result unfolded. c.reach.ensures.grown result unfolded (c.requires.earlier.walked result unfolded).closed);
      cost = c.reach.ensures.cost;
      least = c.reach.ensures.least;
    }

pub reach-requires : goal.reach-requires
reach-requires g c =
    record {
      prepared = c.requires.prepared;
      embed = c.requires.embed;
      dart = c.place-at.ensures.dart;
      darts = c.requires.earlier.darts;
      absent = key_absent c.args.orbits.now.marks (key_of c.place-at.result) c.decided_by.result c.decided_by.ensures.instance (sym c.is_some.ensures ∙ c.if-is_some.false);
      closed = λ unfolded is. (c.requires.earlier.walked unfolded is).closed;
    }

use Rattle.std.proofs.Common.{refl}
use Rattle.gm_model.specs.Statements.{stat_of}
use Rattle.gm_run.proofs.Advancing.{never_more}
use Rattle.gm_run.proofs.Settled.{settled, settled_enough, settled_needs}
use Rattle.gm_run.specs.declared.standing.Keeping.{Keeping}
use Rattle.gm_run.specs.declared.standing.Standing.{Standing}
use Rattle.gm_run.proofs.standing.Standing.settle.Goals as goal

pub prove-unreachable-requires : goal.prove-unreachable-requires
prove-unreachable-requires c = never_more c.args.arena.now c.count.result c.count.ensures.lawful c.count.ensures.count c.if-prove.true

pub returns-then-needed : goal.returns-then-needed
returns-then-needed c =
    record {
      stands = λ state entries stands. stands;
      enough = c.requires.enough;
      needs = λ needs allowed within. c.may_go_back-needed.ensures.kept c.if-needed.true c.requires.enough;
      reach = refl;
      group = refl;
    }

pub returns : goal.returns
returns c =
    let none = c.may_go_back-needed.ensures.none c.if-needed.false in
    let new : Standing = record { keeps = record { on = c.begins_group-self.result; reach = c.args.self.now.keeps.reach }; history = c.new.result; group = c.args.self.now.group; scratch = c.args.self.now.scratch } in
    record {
      stands = λ state entries stands. settled c.args.self.now new c.args.arena.now none.0 none.1 refl refl state entries stands (c.new.ensures.history c.args.arena.now c.count.ensures.lawful c.requires.sound) (c.new.ensures.entries c.args.arena.now.schema.dim);
      enough = settled_enough c.args.self.now new c.args.arena.now none.0 none.1 refl refl;
      needs = λ needs allowed within. settled_needs c.args.self.now new c.args.arena.now none.0 none.1 refl refl (stat_of c.args.stat) c.begins_group-self.result c.begins_group-self.ensures needs allowed within;
      reach = refl;
      group = refl;
    }

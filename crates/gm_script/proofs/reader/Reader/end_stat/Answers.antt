use Rattle.std.proofs.Common.{◌≡◌, map, OnOk, subst}
use Rattle.gm_model.specs.Rules.{rule_of}
use Rattle.gm_script.specs.inner.Reading.{Held, ended_by, taken_at}
use Rattle.gm_script.specs.inner.SoFar.{Adds}
use Rattle.gm_script.proofs.Loop.{adds_same, adds_one, ended_same}
use Rattle.gm_script.proofs.reader.Reader.end_stat.Goals as goal

pub returns-then-ends_stat-clause-added : goal.returns-then-ends_stat-clause-added
returns-then-ends_stat-clause-added c =
    let rules = map rule_of c.args.rules.now in
    let stat = c.self.inside.stat in
    subst (λ (held : Held). OnOk c.add.result (Adds c.args.bytes.now rules (ended_by held.spot c.args.sight held.stat) c.args.compared.now c.add.new.self)) c.self.view_is
    (adds_one c.args.bytes.now rules c.add.result (ended_by c.self.inside.spot c.args.sight stat) stat c.args.compared.now c.add.new.self (rw c.if-ends_stat.true at (c.ends_stat.ensures stat)) c.add.ensures.ok)

pub returns-then-ends_stat-clause-next : goal.returns-then-ends_stat-clause-next
returns-then-ends_stat-clause-next c = λ n token.
    let is = c.self.inside in
    let old : Held = record { spot = is.spot; begun = is.begun; within = is.within; stat = is.stat; x = is.x; y = is.y; z = is.z } in
    subst (λ (held : Held). taken_at n c.args.sight token (record old { stat = c.add.new.draft }) ≡ taken_at n c.args.sight token held) c.self.view_is
    (ended_same n c.args.sight token old c.add.new.draft (rw c.if-ends_stat.true at (c.ends_stat.ensures c.add.new.draft)))

pub returns-then-ends_stat-clause-err : goal.returns-then-ends_stat-clause-err
returns-then-ends_stat-clause-err c = c.add.ensures.err

pub returns-clause-added : goal.returns-clause-added
returns-clause-added c =
    let rules = map rule_of c.args.rules.now in
    let stat = c.self.inside.stat in
    subst (λ (held : Held). Adds c.args.bytes.now rules (ended_by held.spot c.args.sight held.stat) c.args.compared.now c.args.compared.now) c.self.view_is
    (adds_same c.args.bytes.now rules (ended_by c.self.inside.spot c.args.sight stat) c.args.compared.now (rw c.if-ends_stat.false at (c.ends_stat.ensures stat)))

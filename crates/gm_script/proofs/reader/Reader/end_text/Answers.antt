use Rattle.std.proofs.Common.{List, [], ◌∷◌, ◌++◌, length, map, None, OnOk, subst}
use Rattle.std.proofs.lemmas.Result.{err_from_is_err_and}
use Rattle.gm_model.specs.Rules.{rule_of}
use Rattle.gm_script.specs.inner.Reading.{Held, HeldStat}
use Rattle.gm_script.specs.inner.SoFar.{Holds}
use Rattle.gm_script.proofs.Loop.{end_fails, adds_none, ends, ends_with, memory_fails}
use Rattle.gm_script.proofs.reader.Reader.end_text.Goals as goal

pub returns-in_err-has_last-clause-fault : goal.returns-in_err-has_last-clause-fault
returns-in_err-has_last-clause-fault c =
    let p = err_from_is_err_and c.from_residual.result c.from_residual.ensures.1 in
    rw (p.1, p.2) (end_fails c.args.bytes.now (map rule_of c.args.rules.now) c.args.dim c.args.self.now (length c.args.bytes.now) c.args.compared.now c.requires.so_far c.in_err-has_last.field-0.0 c.in_err-has_last.ensures)

pub returns-then-branch-clause-all : goal.returns-then-branch-clause-all
returns-then-branch-clause-all c =
    ends_with c.args.bytes.now (map rule_of c.args.rules.now) c.args.dim c.add.result c.args.self.now (length c.args.bytes.now) c.args.compared.now c.add.new.self
    c.requires.so_far (rw c.if-branch.true at c.in_ok-has_last.ensures)
    (subst (λ (held : Held). (helds : List HeldStat) → Holds c.args.bytes.now (map rule_of c.args.rules.now) c.args.compared.now helds → OnOk c.add.result (Holds c.args.bytes.now (map rule_of c.args.rules.now) c.add.new.self (helds ++ held.stat ∷ []))) c.self.view_is c.add.ensures.ok)

pub returns-then-branch-clause-fault : goal.returns-then-branch-clause-fault
returns-then-branch-clause-fault c = memory_fails c.args.bytes.now (map rule_of c.args.rules.now) c.args.dim c.add.result c.add.ensures.err

pub returns-clause-all : goal.returns-clause-all
returns-clause-all c =
    ends c.args.bytes.now (map rule_of c.args.rules.now) c.args.dim c.args.self.now (length c.args.bytes.now) None c.args.compared.now c.args.compared.now
    c.requires.so_far (rw c.if-branch.false at c.in_ok-has_last.ensures) (adds_none c.args.bytes.now (map rule_of c.args.rules.now) c.args.dim c.args.compared.now)

use Rattle.std.proofs.Common.{◌≡◌, ℕ, ◌+◌, ◌<◌, ◌≤◌, ap, arith, refl}
use Rattle.gm_run.specs.declared.standing.Keeping.{Keeping}
use Rattle.std.proofs.Math.Nat.{le_refl}
use Rattle.gm_run.proofs.running.stat_outcome.Goals as goal

some_reach : (reach : ℕ) → 1 ≤ reach → 0 < reach
some_reach reach within = omega (arith, within)

-- what goes nowhere leaves as much to come
same_reach : (new old : ℕ) → new ≡ old → new + 0 ≡ old
same_reach new old same = omega (arith, same)

-- ---- a line

-- ---- an each

-- ---- undo

-- ---- redo

-- ---- group

-- ---- end

pub run_line-requires : goal.run_line-requires
run_line-requires g c =
    record {
      sound = c.requires.sound;
      plans = c.requires.plans;
      good = rw c.in-Apply.is at c.requires.good;
      stands = c.requires.stands;
    }

pub undo-requires : goal.undo-requires
undo-requires g c =
    record {
      keeps = (rw c.in-Undo.is at c.requires.needs) tt;
      reach = some_reach _ (rw c.in-Undo.is at c.requires.reach);
      stands = c.requires.stands;
      outside = rw c.in-Undo.is at c.requires.allowed;
    }

pub redo-requires : goal.redo-requires
redo-requires g c =
    record {
      keeps = (rw c.in-Redo.is at c.requires.needs) tt;
      reach = some_reach _ (rw c.in-Redo.is at c.requires.reach);
      stands = c.requires.stands;
      outside = rw c.in-Redo.is at c.requires.allowed;
    }

pub begin-requires : goal.begin-requires
begin-requires g c =
    record {
      keeps = (rw c.in-Group.is at c.requires.needs) tt;
      stands = c.requires.stands;
      outside = rw c.in-Group.is at c.requires.allowed;
    }

pub end-requires : goal.end-requires
end-requires g c =
    record {
      keeps = (rw c.in-End.is at c.requires.needs) tt;
      stands = c.requires.stands;
      inside = rw c.in-End.is at c.requires.allowed;
    }

pub run_each-requires : goal.run_each-requires
run_each-requires g c =
    record {
      sound = c.requires.sound;
      plans = c.requires.plans;
      good = rw c.in-Each.is at c.requires.good;
      stands = c.requires.stands;
      outside = rw c.in-Each.is at c.requires.allowed;
    }

pub returns-in-Apply : goal.returns-in-Apply
returns-in-Apply g c =
    record {
      step = rw c.in-Apply.is c.run_line.ensures.step;
      keeps = ap (λ (k : Keeping). k.on) c.run_line.ensures.keeps;
      reach = rw c.in-Apply.is (same_reach _ _ (ap (λ (k : Keeping). k.reach) c.run_line.ensures.keeps));
      suited = rw c.in-Apply.is (rw c.in-Apply.is at c.requires.good, c.run_line.ensures.rule);
      sound = c.run_line.ensures.sound;
      schema = c.run_line.ensures.schema;
      spare_stays = c.run_line.ensures.spare_stays;
      reserved_stays = c.run_line.ensures.reserved_stays;
    }

pub returns-in-Undo : goal.returns-in-Undo
returns-in-Undo g c =
    record {
      step = rw c.in-Undo.is (λ state entries stands. c.undo.ensures.step _ state entries stands);
      keeps = c.undo.ensures.keeps;
      reach = rw c.in-Undo.is c.undo.ensures.reach;
      suited = rw c.in-Undo.is tt;
      sound = c.undo.ensures.sound c.requires.sound;
      schema = c.undo.ensures.schema;
      spare_stays = c.undo.ensures.spare_stays;
      reserved_stays = c.undo.ensures.reserved_stays;
    }

pub returns-in-Redo : goal.returns-in-Redo
returns-in-Redo g c =
    record {
      step = rw c.in-Redo.is (λ state entries stands. c.redo.ensures.step _ state entries stands);
      keeps = c.redo.ensures.keeps;
      reach = rw c.in-Redo.is c.redo.ensures.reach;
      suited = rw c.in-Redo.is tt;
      sound = c.redo.ensures.sound c.requires.sound;
      schema = c.redo.ensures.schema;
      spare_stays = c.redo.ensures.spare_stays;
      reserved_stays = c.redo.ensures.reserved_stays;
    }

pub returns-in-Group : goal.returns-in-Group
returns-in-Group g c =
    record {
      step = rw c.in-Group.is (λ state entries stands. c.begin.ensures.step _ state entries c.args.steps.now stands);
      keeps = ap (λ (k : Keeping). k.on) c.begin.ensures.keeps;
      reach = rw c.in-Group.is (same_reach _ _ (ap (λ (k : Keeping). k.reach) c.begin.ensures.keeps));
      suited = rw c.in-Group.is tt;
      sound = c.requires.sound;
      schema = refl;
      spare_stays = le_refl _;
      reserved_stays = le_refl _;
    }

pub returns-in-End : goal.returns-in-End
returns-in-End g c =
    record {
      step = rw c.in-End.is (λ state entries stands. c.end.ensures.step _ state entries stands);
      keeps = ap (λ (k : Keeping). k.on) c.end.ensures.keeps;
      reach = rw c.in-End.is (same_reach _ _ (ap (λ (k : Keeping). k.reach) c.end.ensures.keeps));
      suited = rw c.in-End.is tt;
      sound = c.end.ensures.sound c.requires.sound;
      schema = c.end.ensures.schema;
      spare_stays = c.end.ensures.spare_stays;
      reserved_stays = c.end.ensures.reserved_stays;
    }

pub returns-in-Each : goal.returns-in-Each
returns-in-Each g c =
    record {
      step = rw c.in-Each.is c.run_each.ensures.step;
      keeps = ap (λ (k : Keeping). k.on) c.run_each.ensures.keeps;
      reach = rw c.in-Each.is (same_reach _ _ (ap (λ (k : Keeping). k.reach) c.run_each.ensures.keeps));
      suited = rw c.in-Each.is (rw c.in-Each.is at c.requires.good, c.run_each.ensures.rule);
      sound = c.run_each.ensures.sound;
      schema = c.run_each.ensures.schema;
      spare_stays = c.run_each.ensures.spare_stays;
      reserved_stays = c.run_each.ensures.reserved_stays;
    }

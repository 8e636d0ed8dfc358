use Rattle.gm_mapfile.proofs.values.read_value.Goals as goal

pub returns-in-Int-clause-takes : goal.returns-in-Int-clause-takes
returns-in-Int-clause-takes c = rw c.in-Int.is c.read_int.ensures.takes

pub returns-in-Int-clause-kind : goal.returns-in-Int-clause-kind
returns-in-Int-clause-kind c = rw c.in-Int.is c.read_int.ensures.kind

pub returns-in-Int-clause-misses : goal.returns-in-Int-clause-misses
returns-in-Int-clause-misses c = rw c.in-Int.is c.read_int.ensures.misses

pub returns-in-Bool-clause-takes : goal.returns-in-Bool-clause-takes
returns-in-Bool-clause-takes c = rw c.in-Bool.is c.read_truth.ensures.takes

pub returns-in-Bool-clause-kind : goal.returns-in-Bool-clause-kind
returns-in-Bool-clause-kind c = rw c.in-Bool.is c.read_truth.ensures.kind

pub returns-in-Bool-clause-misses : goal.returns-in-Bool-clause-misses
returns-in-Bool-clause-misses c = rw c.in-Bool.is c.read_truth.ensures.misses

pub returns-in-Vec2-clause-takes : goal.returns-in-Vec2-clause-takes
returns-in-Vec2-clause-takes c = rw c.in-Vec2.is c.read_pair.ensures.takes

pub returns-in-Vec2-clause-kind : goal.returns-in-Vec2-clause-kind
returns-in-Vec2-clause-kind c = rw c.in-Vec2.is c.read_pair.ensures.kind

pub returns-in-Vec2-clause-misses : goal.returns-in-Vec2-clause-misses
returns-in-Vec2-clause-misses c = rw c.in-Vec2.is c.read_pair.ensures.misses

pub returns-in-Vec3-clause-takes : goal.returns-in-Vec3-clause-takes
returns-in-Vec3-clause-takes c = rw c.in-Vec3.is c.read_triple.ensures.takes

pub returns-in-Vec3-clause-kind : goal.returns-in-Vec3-clause-kind
returns-in-Vec3-clause-kind c = rw c.in-Vec3.is c.read_triple.ensures.kind

pub returns-in-Vec3-clause-misses : goal.returns-in-Vec3-clause-misses
returns-in-Vec3-clause-misses c = rw c.in-Vec3.is c.read_triple.ensures.misses

pub returns-in-Rgb-clause-takes : goal.returns-in-Rgb-clause-takes
returns-in-Rgb-clause-takes c = rw c.in-Rgb.is c.read_triple-in-Rgb.ensures.takes

pub returns-in-Rgb-clause-kind : goal.returns-in-Rgb-clause-kind
returns-in-Rgb-clause-kind c = rw c.in-Rgb.is c.read_triple-in-Rgb.ensures.kind

pub returns-in-Rgb-clause-misses : goal.returns-in-Rgb-clause-misses
returns-in-Rgb-clause-misses c = rw c.in-Rgb.is c.read_triple-in-Rgb.ensures.misses

use Rattle.std.proofs.Common.{rules, ◌≡◌, append_assoc, to_z, of_z, arith}
use Rattle.std.specs.Int.{w64}
use Rattle.gm_mapfile.proofs.printing.write_value.Goals as goal

pub write_signed-requires : goal.write_signed-requires
write_signed-requires c = record { room = omega (arith, c.requires.room); within = c.requires.within }

pub write_truth-requires : goal.write_truth-requires
write_truth-requires c = record { room = omega (arith, c.requires.room); within = c.requires.within }

pub write_pair-requires : goal.write_pair-requires
write_pair-requires c = record { room = omega (arith, c.requires.room); within = c.requires.within }

pub write_triple-requires : goal.write_triple-requires
write_triple-requires c = record { room = c.requires.room; within = c.requires.within }

pub write_triple-requires-in-Rgb : goal.write_triple-requires-in-Rgb
write_triple-requires-in-Rgb c = record { room = c.requires.room; within = c.requires.within }

pub returns-in-Int : goal.returns-in-Int
returns-in-Int c =
    let back-x : to_z w64 (of_z w64 c.in-Int.x) ≡ c.in-Int.x = search rules in
    record { few = omega (arith, c.write_signed.ensures.few); before = c.write_signed.ensures.before; written = rw c.in-Int.is (rw back-x at c.write_signed.ensures.written) }

pub returns-in-Vec2 : goal.returns-in-Vec2
returns-in-Vec2 c =
    let back-x : to_z w64 (of_z w64 c.in-Vec2.x) ≡ c.in-Vec2.x = search rules in
    let back-y : to_z w64 (of_z w64 c.in-Vec2.y) ≡ c.in-Vec2.y = search rules in
    record { few = omega (arith, c.write_pair.ensures.few); before = c.write_pair.ensures.before; written = rw c.in-Vec2.is (simp append_assoc (rw (back-x, back-y) at c.write_pair.ensures.written)) }

pub returns-in-Vec3 : goal.returns-in-Vec3
returns-in-Vec3 c =
    let back-x : to_z w64 (of_z w64 c.in-Vec3.x) ≡ c.in-Vec3.x = search rules in
    let back-y : to_z w64 (of_z w64 c.in-Vec3.y) ≡ c.in-Vec3.y = search rules in
    let back-z : to_z w64 (of_z w64 c.in-Vec3.z) ≡ c.in-Vec3.z = search rules in
    record { few = omega (arith, c.write_triple.ensures.few); before = c.write_triple.ensures.before; written = rw c.in-Vec3.is (simp append_assoc (rw (back-x, back-y, back-z) at c.write_triple.ensures.written)) }

pub returns-in-Bool : goal.returns-in-Bool
returns-in-Bool c = record { few = omega (arith, c.write_truth.ensures.few); before = c.write_truth.ensures.before; written = rw c.in-Bool.is c.write_truth.ensures.written }

pub returns-in-Rgb-clause-few : goal.returns-in-Rgb-clause-few
returns-in-Rgb-clause-few c = c.write_triple-in-Rgb.ensures.few

pub returns-in-Rgb-clause-before : goal.returns-in-Rgb-clause-before
returns-in-Rgb-clause-before c = c.write_triple-in-Rgb.ensures.before

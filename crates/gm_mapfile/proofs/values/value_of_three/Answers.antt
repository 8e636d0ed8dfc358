use Rattle.std.proofs.Common.{◌≡◌, ℕ, ◌<◌, IsTrue, ℤ, pos, negsuc, FitsSigned, Fits, w8, w64, to_z, of_z, refl, arith}
use Rattle.std.proofs.lemmas.Int.{to_z-of_z}
use Rattle.std.proofs.lemmas.Bool.{false≢true}
use Rattle.gm_text.specs.ValueText.{is_channel}
use Rattle.gm_mapfile.proofs.MapWithin.{channel_low}
use Rattle.gm_mapfile.proofs.values.value_of_three.Goals as goal

-- a channel of a colour is a number below 256, whose bits are its own
record IsByte (x : ℤ) : Type 0 where
  n : ℕ
  is : to_z w64 (of_z w64 x) ≡ pos n
  same : pos n ≡ x
  low : Fits w8 n

byte_fits : (n : ℕ) → n < 256 → Fits w8 n
byte_fits n low = omega (arith, low)

is_byte : (x : ℤ) → FitsSigned w64 x → IsTrue (is_channel x) → IsByte x
is_byte (pos n) fits channel = record { n = n; is = to_z-of_z w64 (pos n) fits; same = refl; low = byte_fits n (channel_low n channel) }
is_byte (negsuc n) fits channel = absurd (false≢true channel)

pub overflow_cast-result : goal.overflow_cast-result
overflow_cast-result c =
    let x = is_byte c.args.x c.ranges.x (c.requires c.if-colour.true).0 in
    rw x.is (tt, x.low)

pub overflow_cast-result-then-colour : goal.overflow_cast-result-then-colour
overflow_cast-result-then-colour c =
    let y = is_byte c.args.y c.ranges.y (c.requires c.if-colour.true).1 in
    rw y.is (tt, y.low)

pub overflow_cast-result-then-colour-2 : goal.overflow_cast-result-then-colour-2
overflow_cast-result-then-colour-2 c =
    let z = is_byte c.args.z c.ranges.z (c.requires c.if-colour.true).2 in
    rw z.is (tt, z.low)

pub returns-then-colour : goal.returns-then-colour
returns-then-colour c =
    let x = is_byte c.args.x c.ranges.x (c.requires c.if-colour.true).0 in
    let y = is_byte c.args.y c.ranges.y (c.requires c.if-colour.true).1 in
    let z = is_byte c.args.z c.ranges.z (c.requires c.if-colour.true).2 in
    record {
      components = rw (x.is, y.is, z.is, x.same, y.same, z.same) refl;
      kind = rw c.if-colour.true refl;
    }

pub returns-else-colour : goal.returns-else-colour
returns-else-colour c = record {
  components = rw (to_z-of_z w64 c.args.x c.ranges.x, to_z-of_z w64 c.args.y c.ranges.y, to_z-of_z w64 c.args.z c.ranges.z) refl;
  kind = rw c.if-colour.false refl;
}

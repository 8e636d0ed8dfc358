-- The colour of three components, as they are passed and read back.
use Rattle.std.proofs.Common.{◌≡◌, ℤ, true, false, Some, None, nat_abs, w8, Fits, rules, refl, sym}
use Rattle.std.specs.Prelude.{T}
use Rattle.std.specs.Int.Signed.{non_neg}
use Rattle.gm_model.specs.declared.value.Value.TheVariants as values
use Rattle.gm_text.specs.ValueText.{is_channel}
use Rattle.gm_script.specs.ScriptText.{colour}

pub channel_fits : (n : ℤ) → is_channel n ≡ true → T (non_neg n) × Fits w8 (nat_abs n)
channel_fits n is = search rules

module _ (r g b r1 g1 b1 : ℤ) (r_same : r1 ≡ r) (g_same : g1 ≡ g) (b_same : b1 ≡ b) where
  pub colour_is : is_channel r1 ≡ true → is_channel g1 ≡ true → is_channel b1 ≡ true → Some (values.Rgb (nat_abs r1) (nat_abs g1) (nat_abs b1)) ≡ colour r g b
  colour_is red green blue = rw (sym r_same, sym g_same, sym b_same, red, green, blue) refl

  pub no_red : is_channel r1 ≡ false → None ≡ colour r g b
  no_red other = rw (sym r_same, other) refl

  pub no_green : is_channel r1 ≡ true → is_channel g1 ≡ false → None ≡ colour r g b
  no_green red other = rw (sym r_same, sym g_same, red, other) refl

  pub no_blue : is_channel r1 ≡ true → is_channel g1 ≡ true → is_channel b1 ≡ false → None ≡ colour r g b
  no_blue red green other = rw (sym r_same, sym g_same, sym b_same, red, green, other) refl

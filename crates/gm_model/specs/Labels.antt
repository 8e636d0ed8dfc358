-- Which labels a mask has.
use Rattle.std.specs.Prelude.{ℕ, ◌/◌, ◌%◌, ◌^◌, Bool, ◌==◌}
use Rattle.gm_model.specs.declared.word.Mask.{Mask}

-- bit `label` of the mask is set
abbrev pub has : Mask → ℕ → Bool
has mask label = (mask.bits / 2 ^ label % 2) == 1

-- Worked schemas: the canonical text that the format's own examples show.
use Rattle.std.proofs.Common.{◌≡◌, [], ◌∷◌, refl, codes, arith}
use Rattle.std.proofs.lemmas.Fmt.{decimal_digit}
use Rattle.gm_model.specs.declared.schema.Embed.{Embed}
use Rattle.gm_model.specs.declared.value.Kind.TheVariants as kinds
use Rattle.gm_text.specs.SchemaText.{labels_in, canonical}

abbrev points : Embed
points = record { name = codes "pos"; mask = record { bits = 6 }; kind = kinds.Vec3 }

abbrev marks : Embed
marks = record { name = codes "mark"; mask = record { bits = 0 }; kind = kinds.Int }

with_points : canonical (record { dim = 2; embeds = points ∷ marks ∷ [] }) ≡ codes "dim 2\nembed pos <1 2> vec3\nembed mark <> int\n"
unfolding labels_in
with_points = rw (decimal_digit 1 (omega arith), decimal_digit 2 (omega arith)) refl

bare : canonical (record { dim = 7; embeds = [] }) ≡ codes "dim 7\n"
bare = rw (decimal_digit 7 (omega arith)) refl

-- A worked text, by computation: a map of one dart with a value is printed as the format says, in both versions.
use Rattle.std.proofs.Common.{◌≡◌, pos, negsuc, [], ◌∷◌, refl, codes, arith}
use Rattle.std.proofs.lemmas.Fmt.{decimal_digit}
use Rattle.gm_model.specs.declared.schema.Embed.{Embed}
use Rattle.gm_model.specs.declared.schema.Schema.{Schema}
use Rattle.gm_model.specs.declared.value.Kind.TheVariants as kinds
use Rattle.gm_model.specs.declared.value.Value.TheVariants.{Vec3}
use Rattle.gm_text.specs.SchemaText.{labels_in}
use Rattle.gm_mapfile.specs.MapText.{DartRow, ListedMap, canonical}
use Rattle.gm_mapfile.specs.declared.version.MapVersion.TheVariants as versions

-- an embedding over the labels 1 and 2
abbrev pub positions : Embed
positions = record { name = codes "pos"; mask = record { bits = 6 }; kind = kinds.Vec3 }

abbrev pub schema : Schema
schema = record { dim = 2; embeds = positions ∷ [] }

abbrev pub corner : DartRow
corner = record { name = 0; alphas = 0 ∷ 0 ∷ 0 ∷ []; values = Vec3 (pos 4) (negsuc 0) (pos 0) ∷ [] }

abbrev pub sample : ListedMap
sample = record { schema = schema; darts = corner ∷ []; next = 5 }

pub in_first : canonical versions.One sample ≡ codes "gmap 1\ndim 2\nembed pos <1 2> vec3\ndarts 1\n0 0 0 0 (4 -1 0)\n"
unfolding labels_in
in_first = rw (decimal_digit 2 (omega arith), decimal_digit 1 (omega arith), decimal_digit 0 (omega arith), decimal_digit 4 (omega arith)) refl

pub in_second : canonical versions.Two sample ≡ codes "gmap 2\ndim 2\nembed pos <1 2> vec3\nnext 5\ndarts 1\n0 0 0 0 (4 -1 0)\n"
unfolding labels_in
in_second = rw (decimal_digit 2 (omega arith), decimal_digit 1 (omega arith), decimal_digit 5 (omega arith), decimal_digit 0 (omega arith), decimal_digit 4 (omega arith)) refl

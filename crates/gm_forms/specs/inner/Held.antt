-- Which names a table holds.
use Rattle.std.specs.Prelude.{ℕ, List, map}
use Rattle.std.specs.HashSet.{HashSet}
use Rattle.gm_forms.specs.declared.key.NameKey.{NameKey}

abbrev pub names_at : List NameKey → List (List ℕ)
names_at keys = map (λ (key : NameKey). key.bytes.now) keys

-- in the order in which they were taken in
abbrev pub names_held : {S : Type 0} → HashSet NameKey S → List (List ℕ)
names_held table = names_at table.keys

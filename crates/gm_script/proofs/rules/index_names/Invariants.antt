use Rattle.std.proofs.Common.{◌≡◌, ℕ, List, take}
use Rattle.std.specs.HashMap as map
use Rattle.std.specs.List.{position}
use Rattle.std.specs.Str.{bytes_eq}
use Rattle.gm_script.proofs.rules.index_names.Given as goal

abbrev pub invariant-loop-index : goal.invariant-loop-index
invariant-loop-index l = (name : List ℕ) → map.get_by (λ k. bytes_eq name k.now) l.indices ≡ position (λ rule. bytes_eq name rule.name) (take l.index l.rules)

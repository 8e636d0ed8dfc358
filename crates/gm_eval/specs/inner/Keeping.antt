-- What is kept of collectors: values that hold at each position of an application.
use Rattle.std.specs.Prelude.{◌≡◌, ℕ, ◌<◌, List, [], All, Option, Some, IsSome, MatchOption}
use Rattle.gm_model.specs.declared.expr.DartTerm.{DartTerm}
use Rattle.gm_model.specs.declared.value.Value.{Value}
use Rattle.gm_model.specs.declared.word.Mask.{Mask}
use Rattle.gm_model.specs.Expressions.{HasValue, HasNoValue}
use Rattle.gm_model.specs.Maps.{IsGeneralised}
use Rattle.gm_model.specs.Trees.{Tree, Count, Sum, Least, Greatest}
use Rattle.gm_arena.specs.inner.ArenaAsMap.{as_map}
use Rattle.gm_arena.specs.inner.ArenaMap.{ArenaMap}
use Rattle.gm_plan.specs.inner.Placed.{Placed}
use Rattle.gm_eval.specs.declared.kept.Collector.{Collector}
use Rattle.gm_eval.specs.declared.kept.Entry.{Entry}
use Rattle.gm_eval.specs.declared.kept.Form.{Form}
use Rattle.gm_eval.specs.declared.kept.Form.TheVariants as forms
use Rattle.gm_eval.specs.inner.Places.{reading_in}

-- what is kept: values of collectors, or none where nothing is ever kept, and the node whose expression was read last
pub record KeptOf : Type 0 where
  pub entries : Option (List Entry)
  pub reader : Option ℕ

-- a collector over the orbit of the term's dart; a count has no embedding
abbrev pub collector_at : Form → Mask → DartTerm → ℕ → Tree
collector_at forms.Count mask term e = Count mask term
collector_at forms.Sum mask term e = Sum mask term e
collector_at forms.Least mask term e = Least mask term e
collector_at forms.Greatest mask term e = Greatest mask term e

-- a node's own dart
abbrev pub own_term : ℕ → DartTerm
own_term x = record { node = x; path = [] }

-- the collector as an expression
abbrev pub tree_of_collector : Collector → Tree
tree_of_collector c = collector_at c.form c.mask (own_term c.node) c.embed

-- the answer is the value at every position, or none where there is none
abbrev pub IsEverywhere : ArenaMap → Placed → List Value → Tree → Option Value → Type 0
IsEverywhere m placed params tree answer =
    (p : ℕ) → p < placed.positions → let reading = reading_in m placed p params in MatchOption answer (HasNoValue reading tree) (HasValue reading tree)

-- values are kept of a generalised map alone, and hold at every position
pub record AreKept (m : ArenaMap) (placed : Placed) (params : List Value) (kept : Option (List Entry)) : Type 0 where
  pub generalised : IsSome kept → IsGeneralised (as_map m)
  pub right : (entries : List Entry) → kept ≡ Some entries → All (λ entry. IsEverywhere m placed params (tree_of_collector entry.collector) entry.value) entries

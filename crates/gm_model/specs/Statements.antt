-- The statements of a script, each by itself, as contracts speak of them, and what a script lends in their place.
use Rattle.std.specs.Prelude.{ℕ, List}
use Rattle.gm_model.specs.declared.script.LineRef.{LineRef}
use Rattle.gm_model.specs.declared.script.StatRef.{StatRef}
use Rattle.gm_model.specs.declared.script.StatRef.TheVariants as lent
use Rattle.gm_model.specs.declared.value.Value.{Value}
use Rattle.gm_model.specs.declared.word.Mask.{Mask}

-- an application that a script asks for: of the rule with this index in the book, at darts by name, one for each hook,
-- with a value for each parameter
pub record Line : Type 0 where
  pub rule : ℕ
  pub hooks : List ℕ
  pub params : List Value

-- a statement of a script: each is one line of the report
pub data Stat : Type 0 where
  Apply : Line → Stat
  -- goes back to the map before the last application, group or `Each` that was done
  Undo : Stat
  -- goes forth again to the map that the last `Undo` went back from
  Redo : Stat
  -- begins a group: up to its end the applications are done all, or none of them is
  Group : Stat
  End : Stat
  -- applies the rule, which has one hook, once for each orbit over the labels of the mask: at the least dart of each, as
  -- they stand before the first application
  Each : Mask → ℕ → List Value → Stat

-- a script: its statements, in order
pub record Statements : Type 0 where
  pub stats : List Stat

-- ---- what a script lends

abbrev pub line_of : LineRef → Line
line_of line = record { rule = line.rule; hooks = line.hooks.now; params = line.params.now }

abbrev pub stat_of : StatRef → Stat
stat_of (lent.Apply line) = Apply (line_of line)
stat_of lent.Undo = Undo
stat_of lent.Redo = Redo
stat_of lent.Group = Group
stat_of lent.End = End
stat_of (lent.Each mask rule params) = Each mask rule params.now

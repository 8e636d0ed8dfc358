-- What was read of a text so far, and the statements that were compared.
use Rattle.std.specs.Prelude.{◌≡◌, ◌-◌, ◌<◌, ◌≤◌, ℕ, Bool, true, false, List, [], ◌∷◌, ◌++◌, length, take, drop, Option, Some, Result, Ok, Err}
use Rattle.gm_model.specs.Statements.{Stat}
use Rattle.gm_model.specs.Rules.{Rule}
use Rattle.gm_model.specs.Tokens.{Item, EndAt}
use Rattle.gm_text.specs.inner.Cursor.{Cursor}
use Rattle.gm_text.specs.inner.Lexing.{rest_of}
use Rattle.gm_script.specs.inner.Comparing.{stats_for}
use Rattle.gm_script.specs.inner.Faults.{Compares, IsFaultOf}
use Rattle.gm_script.specs.inner.Reading.{HeldStat, Held, Stop, put_first, read_from, stats_of, IsInText, IsNameLead}
use Rattle.gm_script.specs.ScriptText.{index_of}
use Rattle.gm_script.specs.declared.near.NameLead.{NameLead}
use Rattle.gm_script.specs.declared.fault.ScriptFault.{ScriptFault}

-- what all come to, where these have ended before
abbrev pub behind : List HeldStat → Result (List HeldStat) Stop → Result (List HeldStat) Stop
behind before (Ok others) = Ok (before ++ others)
behind before (Err stop) = Err stop

-- what was compared is what the statements that are held come to
abbrev pub Holds : List ℕ → List Rule → Result (List Stat) ScriptFault → List HeldStat → Type 0
Holds text rules compared helds = Compares (λ (stats : List Stat). stats) compared (stats_for text rules helds)

-- a further statement is compared, if there is one
abbrev pub Adds : List ℕ → List Rule → Option HeldStat → Result (List Stat) ScriptFault → Result (List Stat) ScriptFault → Type 0
Adds text rules stat old new = (helds : List HeldStat) → Holds text rules old helds → Holds text rules new (helds ++ put_first stat [])

-- these statements have ended before what is held, and are compared
pub record IsSoFar (n : ℕ) (text : List ℕ) (rules : List Rule) (held : Held) (items : List Item) (compared : Result (List Stat) ScriptFault) : Type 0 where
  -- labels go up to a number that is not great
  pub low : n ≤ 7
  pub before : List HeldStat
  pub read : behind before (read_from n text held items) ≡ stats_of n text
  pub holds : Holds text rules compared before
  pub named : IsInText text held.stat.name

-- one token or more were read on from the old place, and this is held and compared so far
pub record IsOneOn (n : ℕ) (bytes : List ℕ) (rules : List Rule) (old : Cursor) (held : Held) (new : Cursor) (compared : Result (List Stat) ScriptFault) : Type 0 where
  pub text : new.text ≡ old.text
  pub inside : old.place < length old.text
  pub moved : old.place < new.place
  pub so_far : IsSoFar n bytes rules held (rest_of new) compared

-- what reading the beginning of a line comes to, where `true` says that one was read
abbrev pub BeginsLine : ℕ → List ℕ → List Rule → Cursor → Held → Cursor → Result (List Stat) ScriptFault → Result Bool ScriptFault → Type 0
BeginsLine n text rules old held new compared (Ok true) = IsOneOn n text rules old held new compared
BeginsLine n text rules old held new compared (Ok false) = (new ≡ old) × IsSoFar n text rules held (rest_of new) compared
BeginsLine n text rules old held new compared (Err fault) = IsFaultOf text n rules fault

-- what reading what stands next comes to, where `false` says that the text has ended
abbrev pub ReadsNext : ℕ → List ℕ → List Rule → Cursor → Held → Cursor → Result (List Stat) ScriptFault → Result Bool ScriptFault → Type 0
ReadsNext n text rules old held new compared (Ok true) = IsOneOn n text rules old held new compared
ReadsNext n text rules old held new compared (Ok false) = IsSoFar n text rules held (EndAt (length text) ∷ []) compared
ReadsNext n text rules old held new compared (Err fault) = IsFaultOf text n rules fault

-- all statements of the text are compared
pub record IsCompared (n : ℕ) (text : List ℕ) (rules : List Rule) (compared : Result (List Stat) ScriptFault) : Type 0 where
  pub low : n ≤ 7
  pub helds : List HeldStat
  pub read : stats_of n text ≡ Ok helds
  pub holds : Holds text rules compared helds

-- a name between two blanks that is one of the rules' names, with that rule's index
pub record IsKnown (rules : List Rule) (lead : NameLead) : Type 0 where
  pub lead_is : IsNameLead lead
  pub index_is : index_of rules (take (lead.size - 2) (drop 1 (take lead.size lead.bytes))) ≡ Some lead.index

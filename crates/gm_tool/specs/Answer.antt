-- What a command on one file answers: the status, and the text printed.
use Rattle.std.specs.Prelude.{◌≡◌, ℕ, ◌<◌, ◌≤◌, List, [], ◌∷◌, ◌++◌, length, Option, Some, None, codes}
use Rattle.gm_cells.specs.declared.counts.Counts.{Counts}
use Rattle.gm_cells.specs.declared.orientation.Orientation.{Orientation}
use Rattle.gm_cells.specs.Cells.{AreCounts}
use Rattle.gm_cells.specs.CellsText.{counts_text, orientation_text}
use Rattle.gm_cells.specs.Colours.{IsOrientation}
use Rattle.gm_model.specs.declared.schema.Schema.{Schema}
use Rattle.gm_forms.specs.BookText.{BookText}
use Rattle.gm_book.specs.Canonical as books
use Rattle.gm_model.specs.Maps.{Map}
use Rattle.gm_mapfile.specs.MapText.{ListedMap, MapText, map_of, canonical}
use Rattle.gm_mapfile.specs.declared.version.MapVersion.{MapVersion}
use Rattle.gm_model.specs.Rules.{Rule}
use Rattle.gm_lines.specs.Refusing.{Role, TheMap, TheBook, role_word, refusal, IsBad}
use Rattle.gm_lines.specs.Checking.{AreLines, counts_line, check_status}

-- the most bytes of a file that is read or of a text that is printed
abbrev pub most_bytes : ℕ
most_bytes = 268435456

-- the files that are held, by name
abbrev pub Files : Type 0
Files = List ℕ → Option (List ℕ)

-- what is saved, and under which name
pub record Saved : Type 0 where
  pub name : List ℕ
  pub bytes : List ℕ

pub record Answer : Type 0 where
  pub status : ℕ
  pub text : List ℕ
  pub saved : Option Saved

-- an answer that saves nothing
abbrev pub answers : ℕ → List ℕ → Answer
answers status text = record { status = status; text = text; saved = None }

-- ---- commands

-- the commands on one file
pub data Command : Type 0 where
  Show : Command
  Book : Command
  Check : Command
  Cells : Command

abbrev pub command_word : Command → List ℕ
command_word Show = codes "show"
command_word Book = codes "book"
command_word Check = codes "check"
command_word Cells = codes "cells"

-- the one file that a command reads
abbrev pub role_of : Command → Role
role_of Show = TheMap
role_of Book = TheBook
role_of Check = TheBook
role_of Cells = TheMap

-- the words are this command on this file
abbrev pub Asks : List (List ℕ) → Command → List ℕ → Type 0
Asks words command name = words ≡ command_word command ∷ name ∷ []

-- ---- what is printed

-- the text is that of the map's numbers of cells, and of its orientation
pub record TellsCells (map : Map) (text : List ℕ) : Type 0 where
  pub counts : Counts
  pub counts_are : AreCounts map counts
  pub orientation : Orientation
  pub orientation_is : IsOrientation map orientation
  pub is : text ≡ counts_text counts ++ orientation_text orientation

-- the command on these bytes has this status and prints this text, however long
pub data IsOutput (bytes : List ℕ) : Command → ℕ → List ℕ → Type 0 where
  -- the canonical text of the map, in the version that it is read in
  Shown : (version : MapVersion) (map : ListedMap) → MapText bytes version map → IsOutput bytes Show 0 (canonical version map)
  -- the canonical text of the book in its version, whether its rules are accepted or not
  Printed : (version : ℕ) (schema : Schema) (rules : List Rule) → BookText bytes version schema rules → IsOutput bytes Book 0 (books.canonical version schema rules)
  -- a line for each rule of the book, and a last one that counts
  Checked : (version : ℕ) (schema : Schema) (rules : List Rule) (refused : ℕ) (lines : List ℕ) → BookText bytes version schema rules → AreLines schema rules refused lines
      → IsOutput bytes Check (check_status refused) (lines ++ counts_line (length rules) refused)
  -- the numbers and the orientation of the map
  Counted : (version : MapVersion) (map : ListedMap) (text : List ℕ) → MapText bytes version map → TellsCells (map_of map) text → IsOutput bytes Cells 0 text

-- the file of a name is held with these bytes, and not too long
abbrev pub HasFile : Files → List ℕ → List ℕ → Type 0
HasFile files name bytes = (files name ≡ Some bytes) × (length bytes ≤ most_bytes)

-- What the command on the file of this name answers. One rule for each case; no two of them fit the same files.
pub data IsFileAnswer (files : Files) (command : Command) (name : List ℕ) (answer : Answer) : Type 0 where
  NoFile : files name ≡ None → answer ≡ answers 3 (refusal (codes "load " ++ role_word (role_of command))) → IsFileAnswer files command name answer
  LongFile : (bytes : List ℕ) → files name ≡ Some bytes → most_bytes < length bytes
      → answer ≡ answers 8 (refusal (codes "size " ++ role_word (role_of command))) → IsFileAnswer files command name answer
  BadFile : (bytes why : List ℕ) → HasFile files name bytes → IsBad bytes (role_of command) why
      → answer ≡ answers 4 (refusal (role_word (role_of command) ++ codes " " ++ why)) → IsFileAnswer files command name answer
  LongOutput : (bytes : List ℕ) (status : ℕ) (text : List ℕ) → HasFile files name bytes
      → IsOutput bytes command status text → most_bytes < length text → answer ≡ answers 8 (refusal (codes "size output")) → IsFileAnswer files command name answer
  Done : (bytes : List ℕ) (status : ℕ) (text : List ℕ) → HasFile files name bytes
      → IsOutput bytes command status text → length text ≤ most_bytes → answer ≡ answers status text → IsFileAnswer files command name answer

-- The lines that refuse: what a file is for, and why its text stands for nothing.
use Rattle.std.specs.Prelude.{◌≡◌, ℕ, List, ◌++◌, codes}
use Rattle.gm_mapfile.specs.MapFaults.{TextFault, IsFirstFault, fault_words}
use Rattle.gm_lines.specs.BookFaults.{BookTextFault, IsFirstBookFault, book_fault_words}

-- what a file is for
pub data Role : Type 0 where
  TheMap : Role
  TheBook : Role
  TheScript : Role

abbrev pub role_word : Role → List ℕ
role_word TheMap = codes "MAP"
role_word TheBook = codes "BOOK"
role_word TheScript = codes "SCRIPT"

-- a line that refuses
abbrev pub refusal : List ℕ → List ℕ
refusal words = codes "refused " ++ words ++ codes "\n"

-- the bytes stand for nothing in the role, and these words say why
pub data IsBad (bytes : List ℕ) : Role → List ℕ → Type 0 where
  BadMap : (fault : TextFault) → IsFirstFault bytes fault → IsBad bytes TheMap (fault_words fault)
  BadBook : (fault : BookTextFault) → IsFirstBookFault bytes fault → IsBad bytes TheBook (book_fault_words fault)

-- the line that says why
abbrev pub IsBadLine : List ℕ → Role → List ℕ → Type 0
IsBadLine bytes role line = (why : List ℕ) × IsBad bytes role why × (line ≡ refusal (role_word role ++ codes " " ++ why))

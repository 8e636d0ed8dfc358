-- The words that refuse a text in its role are determined, and no text that stands for something is refused.
use Rattle.std.proofs.Common.{◌≡◌, ℕ, List, ◌++◌, length, All, refl, sym, ap, subst, ◌∙◌}
use Rattle.std.proofs.Math.Path.{ap₂}
use Rattle.gm_model.specs.declared.schema.Schema.{Schema}
use Rattle.gm_model.specs.Statements.{Stat}
use Rattle.gm_model.specs.Acceptance.{IsAccepted}
use Rattle.gm_forms.specs.BookText.{BookText}
use Rattle.gm_book.specs.Canonical as books
use Rattle.gm_model.specs.Maps.{IsGeneralised}
use Rattle.gm_mapfile.specs.MapFaults.{fault_words}
use Rattle.gm_mapfile.specs.MapText.{ListedMap, MapText, map_of, canonical}
use Rattle.gm_mapfile.specs.declared.version.MapVersion.{MapVersion}
use Rattle.gm_model.specs.Rules.{Rule}
use Rattle.gm_book.proofs.OneBook.{one_book}
use Rattle.gm_mapfile.proofs.OneFault.{one_fault, no_map_at_fault}
use Rattle.gm_mapfile.proofs.OneMap.{one_map}
use Rattle.gm_script.specs.ScriptText.{ScriptText}
use Rattle.gm_tool.specs.Answer.{Command, role_of, IsOutput, TellsCells, Shown, Printed, Checked, Counted}
use Rattle.gm_lines.specs.Refusing.{Role, TheMap, TheBook, IsBad, BadMap, BadBook}
use Rattle.gm_lines.specs.BookFaults.{book_fault_words}
use Rattle.gm_lines.specs.Checking.{AreLines, check_status, counts_line}
use Rattle.gm_tool.specs.RunAnswer.{IsFirstRefused, IsBadBook, Unread, RuleRefused, IsBadScript}
use Rattle.gm_lines.specs.ScriptFaults.{script_fault_words}
use Rattle.gm_tool.proofs.OneCells.{one_telling}
use Rattle.gm_tool.proofs.OneText.{one_book_fault, no_book_at, one_script_fault, no_script_at}
use Rattle.gm_tool.proofs.OneVerdict.{one_lines, one_refused, none_refused}

-- ---- for a command on one file

pub one_bad : (bytes : List ℕ) (role : Role) (why other : List ℕ) → IsBad bytes role why → IsBad bytes role other → why ≡ other
one_bad bytes _ _ _ (BadMap fault a) (BadMap other b) = ap fault_words (one_fault bytes fault other a b)
one_bad bytes _ _ _ (BadBook fault a) (BadBook other b) = ap book_fault_words (one_book_fault bytes fault other a b)

pub no_bad_map : (bytes why : List ℕ) (version : MapVersion) (listed : ListedMap) → IsBad bytes TheMap why → MapText bytes version listed → ⊥
no_bad_map bytes _ version listed (BadMap fault is) stands = no_map_at_fault bytes fault is version listed stands

pub no_bad_book : (bytes why : List ℕ) (version : ℕ) (schema : Schema) (rules : List Rule) → IsBad bytes TheBook why → BookText bytes version schema rules → ⊥
no_bad_book bytes _ version schema rules (BadBook fault is) stands = no_book_at bytes fault is version schema rules stands

pub no_bad_output : (bytes why : List ℕ) (command : Command) (status : ℕ) (text : List ℕ) → IsBad bytes (role_of command) why → IsOutput bytes command status text → ⊥
no_bad_output bytes why _ _ _ bad (Shown version listed stands) = no_bad_map bytes why version listed bad stands
no_bad_output bytes why _ _ _ bad (Printed version schema rules stands) = no_bad_book bytes why version schema rules bad stands
no_bad_output bytes why _ _ _ bad (Checked version schema rules refused lines stands are) = no_bad_book bytes why version schema rules bad stands
no_bad_output bytes why _ _ _ bad (Counted version listed _ stands tells) = no_bad_map bytes why version listed bad stands

-- ---- and what it puts

same_check : (schema schema' : Schema) (rules rules' : List Rule) (refused refused' : ℕ) (lines lines' : List ℕ) → (schema ≡ schema') × (rules ≡ rules') → AreLines schema rules refused lines → AreLines schema' rules' refused' lines'
    → (check_status refused ≡ check_status refused') × (lines ++ counts_line (length rules) refused ≡ lines' ++ counts_line (length rules') refused')
same_check schema schema' rules rules' refused refused' lines lines' (schemas, books) are are' =
    let there : AreLines schema rules refused' lines' = subst (λ s. AreLines s rules refused' lines') (sym schemas) (subst (λ rs. AreLines schema' rs refused' lines') (sym books) are') in
    let same = one_lines schema rules refused refused' lines lines' are there in (
      ap check_status same.0,
      ap₂ (λ (t : List ℕ) (k : ℕ). t ++ counts_line (length rules) k) same.1 same.0 ∙ ap (λ (rs : List Rule). lines' ++ counts_line (length rs) refused') books,
    )

same_cells : (listed other : ListedMap) (text text' : List ℕ) → listed ≡ other → IsGeneralised (map_of listed) → TellsCells (map_of listed) text → TellsCells (map_of other) text' → text ≡ text'
same_cells listed other text text' same lawful tells tells' = one_telling (map_of listed) lawful text text' tells (subst (λ (l : ListedMap). TellsCells (map_of l) text') (sym same) tells')

pub one_output : (bytes : List ℕ) (command : Command) (status other : ℕ) (text others : List ℕ) → IsOutput bytes command status text → IsOutput bytes command other others → (status ≡ other) × (text ≡ others)
one_output bytes _ _ _ _ _ (Shown version listed a) (Shown version' listed' b) = let same = one_map bytes version version' listed listed' a b in (refl, ap₂ (λ (v : MapVersion) (l : ListedMap). canonical v l) same.0 same.1)
one_output bytes _ _ _ _ _ (Printed version schema rules a) (Printed version' schema' rules' b) =
    let same = one_book bytes version version' schema schema' rules rules' a b in (refl, ap₂ (λ (s : Schema) (rs : List Rule). books.canonical version s rs) same.1 same.2 ∙ ap (λ (v : ℕ). books.canonical v schema' rules') same.0)
one_output bytes _ _ _ _ _ (Checked version schema rules refused lines a are) (Checked version' schema' rules' refused' lines' b are') =
    let same = one_book bytes version version' schema schema' rules rules' a b in same_check schema schema' rules rules' refused refused' lines lines' (same.1, same.2) are are'
one_output bytes _ _ _ _ _ (Counted version listed text a tells) (Counted version' listed' text' b tells') =
    (refl, same_cells listed listed' text text' (one_map bytes version version' listed listed' a b).1 a.sound.generalised tells tells')

-- ---- for a run

pub one_bad_book : (bytes why other : List ℕ) → IsBadBook bytes why → IsBadBook bytes other → why ≡ other
one_bad_book bytes why other (Unread a) (Unread b) = one_bad bytes TheBook why other a b
one_bad_book bytes why other (Unread a) (RuleRefused version schema rules b first) = absurd (no_bad_book bytes why version schema rules a b)
one_bad_book bytes why other (RuleRefused version schema rules a first) (Unread b) = absurd (no_bad_book bytes other version schema rules b a)
one_bad_book bytes why other (RuleRefused version schema rules a first) (RuleRefused version' schema' rules' b first') =
    let same = one_book bytes version version' schema schema' rules rules' a b in
    one_refused schema rules why other first (subst (λ s. IsFirstRefused s rules other) (sym same.1) (subst (λ rs. IsFirstRefused schema' rs other) (sym same.2) first'))

pub no_bad_good_book : (bytes why : List ℕ) (version : ℕ) (schema : Schema) (rules : List Rule) → IsBadBook bytes why → BookText bytes version schema rules → All (IsAccepted schema) rules → ⊥
no_bad_good_book bytes why version schema rules (Unread a) stands accepted = no_bad_book bytes why version schema rules a stands
no_bad_good_book bytes why version schema rules (RuleRefused version' schema' rules' a first) stands accepted =
    let same = one_book bytes version version' schema schema' rules rules' stands a in
    none_refused schema rules why accepted (subst (λ s. IsFirstRefused s rules why) (sym same.1) (subst (λ rs. IsFirstRefused schema' rs why) (sym same.2) first))

module _ (n : ℕ) (rules : List Rule) where
  pub one_bad_script : (bytes why other : List ℕ) → IsBadScript n rules bytes why → IsBadScript n rules bytes other → why ≡ other
  one_bad_script bytes why other (fault, a, e) (fault', b, f) = e ∙ ap script_fault_words (one_script_fault bytes n rules fault fault' a b) ∙ sym f

  pub no_bad_script : (bytes why : List ℕ) (stats : List Stat) → IsBadScript n rules bytes why → ScriptText bytes n rules stats → ⊥
  no_bad_script bytes why stats (fault, a, e) stands = no_script_at bytes n rules fault a stats stands

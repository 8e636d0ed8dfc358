-- The tokens of a value mean one tree and have one first fault of names, though more than one good form may spell them.
use Rattle.std.proofs.Common.{◌≡◌, ◌≤◌, ℕ, ◌+◌, List, [], ◌∷◌, map, ap, subst}
use Rattle.std.specs.List.{AllByRecursion, Contains}
use Rattle.std.specs.Prelude.{None}
use Rattle.gm_model.specs.Reading.{Part}
use Rattle.gm_model.specs.Symbols.{Mark}
use Rattle.gm_parse.specs.Forms.{Form}
use Rattle.gm_parse.specs.Meaning.{Names, NameFault, faults_in, tree_in, IsFirstFault, IsNotAfter}
use Rattle.gm_parse.specs.Spelling.{Role, Counted, limit_in, counted_from, spell, IsPlacedAt}
use Rattle.gm_tree.proofs.Meant.{Fits}
use Rattle.gm_tree.proofs.OneMeaning.{IsWithinLimits, one_meaning, no_fault_noted, first_noted}
use Rattle.gm_tree.specs.inner.Building.{noted}
use Rattle.gm_forms.specs.BookText.{ExprToken, IsTokenPlaced, IsValue, part_of}

-- no token passes a limit
abbrev pub AreWithin : List ExprToken → Type 0
AreWithin tokens = AllByRecursion (λ token. limit_in token.role token.symbol ≡ None) tokens

abbrev mark_of : ExprToken → Mark
mark_of token = record { symbol = token.symbol; place = token.place }

fits_tokens : (k : ℕ) (tokens : List ExprToken) (parts : List (Part Role)) → map part_of tokens ≡ counted_from k parts → AllByRecursion IsTokenPlaced tokens → Fits (map mark_of tokens) parts
fits_tokens k [] [] e placed = tt
fits_tokens k [] (part ∷ parts) e placed = absurd cc
fits_tokens k (token ∷ tokens) [] e placed = absurd cc
fits_tokens k (token ∷ tokens) (part ∷ parts) e placed =
    let head : part_of token ≡ record { symbol = part.symbol; role = record { ordinal = k + 1; role = part.role } } = cc in
    let tail : map part_of tokens ≡ counted_from (k + 1) parts = cc in
    (ap (λ (p : Part Counted). p.symbol) head, subst (IsPlacedAt token.place) (ap (λ (p : Part Counted). p.role.role) head) placed.0, fits_tokens (k + 1) tokens parts tail placed.1)

within_parts : (tokens : List ExprToken) → AreWithin tokens → AllByRecursion (λ (part : Part Counted). limit_in part.role part.symbol ≡ None) (map part_of tokens)
within_parts [] within = tt
within_parts (token ∷ tokens) within = (within.0, within_parts tokens within.1)

module _ (n : ℕ) (names : Names) (top : n ≤ 7) (tokens : List ExprToken) (within : AreWithin tokens) where
  within_form : (form : Form) → IsValue n tokens form → IsWithinLimits n form
  within_form form value = subst (AllByRecursion (λ (part : Part Counted). limit_in part.role part.symbol ≡ None)) value.spelled (within_parts tokens within)

  fits_form : (form : Form) → IsValue n tokens form → Fits (map mark_of tokens) (spell n form [])
  fits_form form value = fits_tokens 0 tokens (spell n form []) value.spelled value.placed

  one_value : (one other : Form) → IsValue n tokens one → IsValue n tokens other → (tree_in names one ≡ tree_in names other) × (noted None (faults_in names one) ≡ noted None (faults_in names other))
  one_value one other first second =
      one_meaning n names top one other (map mark_of tokens) first.good second.good (within_form one first) (within_form other second) (fits_form one first) (fits_form other second)

  pub one_tree : (one other : Form) → IsValue n tokens one → IsValue n tokens other → tree_in names one ≡ tree_in names other
  one_tree one other first second = (one_value one other first second).0

  pub no_fault_of_other : (one other : Form) → IsValue n tokens one → IsValue n tokens other → faults_in names one ≡ [] → faults_in names other ≡ []
  no_fault_of_other one other first second none = no_fault_noted names one other (one_value one other first second).1 none

  pub first_of_other : (one other : Form) → IsValue n tokens one → IsValue n tokens other → (fault found : NameFault) → IsFirstFault names one fault → Contains (faults_in names other) found → IsNotAfter fault found
  first_of_other one other first second fault found is there = (first_noted names one other (one_value one other first second).1 fault is).least found there

-- Marks mean one tree and have one first fault of names, though more than one good form may spell them.
use Rattle.std.proofs.Common.{◌≡◌, ◌≤◌, ℕ, List, [], ◌∷◌, Some, None, refl, sym, ap, ◌∙◌, arith}
use Rattle.std.specs.List.{AllByRecursion, Contains}
use Rattle.gm_model.specs.Symbols.{Mark}
use Rattle.gm_parse.specs.Forms.{Form, IsGood}
use Rattle.gm_parse.specs.Meaning.{Names, NameFault, faults_in, tree_in, IsFirstFault}
use Rattle.gm_parse.specs.Spelling.{limit_in, parts_of, spell}
use Rattle.gm_parse.proofs.FaultOrder.{same_in_order}
use Rattle.gm_tree.specs.inner.Building.{Value, Work, work, noted}
use Rattle.gm_tree.proofs.Meant.{Fits, pending, last_tree, settled_pending}
use Rattle.gm_tree.proofs.ReadForms.{within_small, built_spelling, held_tree, noted_none, noted_some, first_fault}

-- no part of the spelling passes a limit
abbrev pub IsWithinLimits : ℕ → Form → Type 0
IsWithinLimits n form = AllByRecursion (λ part. limit_in part.role part.symbol ≡ None) (parts_of n form)

pub one_meaning : (n : ℕ) (names : Names) → n ≤ 7 → (one other : Form) (marks : List Mark) → IsGood one → IsGood other → IsWithinLimits n one → IsWithinLimits n other → Fits marks (spell n one []) → Fits marks (spell n other [])
    → (tree_in names one ≡ tree_in names other) × (noted None (faults_in names one) ≡ noted None (faults_in names other))
one_meaning n names top one other marks good fine within below fits same =
    let first = built_spelling n names top one marks good (within_small n one within) fits in
    let second = built_spelling n names top other marks fine (within_small n other below) same in
    let both : work (pending names one []) (noted None (faults_in names one)) (Value (last_tree names one)) ≡ work (pending names other []) (noted None (faults_in names other)) (Value (last_tree names other)) = sym first ∙ second in
    let trees = held_tree (pending names one []) (pending names other []) (last_tree names one) (last_tree names other) (ap (λ (w : Work). w.frames) both) (ap (λ (w : Work). w.part) both) in
    (sym (ap (λ h. h.tree) (settled_pending names one [])) ∙ trees ∙ ap (λ h. h.tree) (settled_pending names other []), ap (λ (w : Work). w.fault) both)

-- ---- first faults

-- where there is a fault, one counts first
pub some_first : (names : Names) (form : Form) (found : NameFault) → Contains (faults_in names form) found → (fault : NameFault) × (noted None (faults_in names form) ≡ Some fault) × IsFirstFault names form fault
some_first names form found there = go (faults_in names form) there refl
  where
    go : (faults : List NameFault) → Contains faults found → faults_in names form ≡ faults → (fault : NameFault) × (noted None (faults_in names form) ≡ Some fault) × IsFirstFault names form fault
    go [] (k, low, at) e = absurd (omega (arith, low))
    go (x ∷ xs) there e =
        let (fault, is) = noted_some xs (Some x) x refl in
        let noted_is : noted None (faults_in names form) ≡ Some fault = ap (noted None) e ∙ is in
        (fault, noted_is, first_fault names form fault noted_is)

pub first_is_noted : (names : Names) (form : Form) (fault : NameFault) → IsFirstFault names form fault → noted None (faults_in names form) ≡ Some fault
first_is_noted names form fault first =
    let (least, is, other) = some_first names form fault first.there in
    is ∙ ap Some (same_in_order least fault (other.least fault first.there) (first.least least other.there))

-- of a form in which the same is noted
module _ (names : Names) (one other : Form) (same : noted None (faults_in names one) ≡ noted None (faults_in names other)) where
  pub no_fault_noted : faults_in names one ≡ [] → faults_in names other ≡ []
  no_fault_noted none = noted_none (faults_in names other) (sym same ∙ ap (noted None) none)

  pub first_noted : (fault : NameFault) → IsFirstFault names one fault → IsFirstFault names other fault
  first_noted fault first = first_fault names other fault (sym same ∙ first_is_noted names one fault first)

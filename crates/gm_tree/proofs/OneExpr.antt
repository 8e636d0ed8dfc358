-- One tree at most is read at a place, the marks have one first fault at most, and none where a tree is read.
use Rattle.std.proofs.Common.{◌≡◌, ◌≤◌, ℕ, List, [], Some, None, sym, ap, subst, ◌∙◌}
use Rattle.gm_model.specs.Symbols.{Mark, symbols}
use Rattle.gm_model.specs.Trees.{Tree}
use Rattle.gm_model.specs.Reading.{ArePlaced}
use Rattle.gm_text.specs.inner.Cursor.{Cursor}
use Rattle.gm_text.specs.inner.SchemaAnswers.{marks_left}
use Rattle.gm_parse.specs.declared.fault.SyntaxFault.{SyntaxFault}
use Rattle.gm_parse.specs.inner.Answers.{IsExprRead, HasFirstFault, IsSyntaxFault}
use Rattle.gm_parse.specs.Forms.{Form}
use Rattle.gm_parse.specs.Meaning.{Names, NameFault, faults_in, tree_in}
use Rattle.gm_parse.specs.Spelling.{spell, Stands, IsPlacedAt}
use Rattle.gm_parse.proofs.OneReading.{one_stands, no_syntax_fault}
use Rattle.gm_tree.specs.inner.Building.{noted}
use Rattle.gm_tree.proofs.OneMeaning.{one_meaning, first_is_noted}
use Rattle.gm_tree.proofs.ReadForms.{fits_of}

module _ (n : ℕ) (names : Names) where
  same_meaning : n ≤ 7 → (form other : Form) (marks rest end : List Mark) → Stands n form marks rest → Stands n other marks end → (tree_in names form ≡ tree_in names other) × (noted None (faults_in names form) ≡ noted None (faults_in names other))
  same_meaning top form other marks rest end one two =
      let same = (one_stands n form other marks rest end one two).0 in
      one_meaning n names top form other one.before one.good two.good one.within two.within (fits_of one.before (spell n form []) one.spelled one.placed)
      (fits_of one.before (spell n other []) (ap symbols same ∙ two.spelled) (subst (λ (ms : List Mark). ArePlaced IsPlacedAt ms (spell n other [])) (sym same) two.placed))

  pub one_expr : (old new other : Cursor) (tree second : Tree) → n ≤ 7 → IsExprRead n names old new tree → IsExprRead n names old other second → (tree ≡ second) × (marks_left new ≡ marks_left other)
  one_expr old new other tree second top one two = (
    one.means ∙ (same_meaning top one.form two.form (marks_left old) (marks_left new) (marks_left other) one.stands two.stands).0 ∙ sym two.means,
    (one_stands n one.form two.form (marks_left old) (marks_left new) (marks_left other) one.stands two.stands).1,
  )

  pub one_name_fault : (marks : List Mark) (fault other : NameFault) → n ≤ 7 → HasFirstFault n names marks fault → HasFirstFault n names marks other → fault ≡ other
  one_name_fault marks fault other top one two =
      let both : Some fault ≡ Some other =
      sym (first_is_noted names one.form fault one.first) ∙ (same_meaning top one.form two.form marks one.rest two.rest one.stands two.stands).1 ∙ first_is_noted names two.form other two.first in
      cc both

  pub no_name_fault : (old new : Cursor) (tree : Tree) (fault : NameFault) → n ≤ 7 → IsExprRead n names old new tree → HasFirstFault n names (marks_left old) fault → ⊥
  no_name_fault old new tree fault top read first =
      let none : noted None (faults_in names read.form) ≡ None = ap (noted None) read.known in
      let some : noted None (faults_in names read.form) ≡ Some fault =
      (same_meaning top read.form first.form (marks_left old) (marks_left new) first.rest read.stands first.stands).1 ∙ first_is_noted names first.form fault first.first in
      let no_way : None ≡ Some fault = sym none ∙ some in
      absurd cc

  pub no_grammar_fault : (old new : Cursor) (tree : Tree) (fault : SyntaxFault) → IsExprRead n names old new tree → IsSyntaxFault n (marks_left old) fault → ⊥
  no_grammar_fault old new tree fault read is = no_syntax_fault n read.form (marks_left old) (marks_left new) fault read.stands is

  pub one_or_other : (marks : List Mark) (fault : NameFault) (other : SyntaxFault) → HasFirstFault n names marks fault → IsSyntaxFault n marks other → ⊥
  one_or_other marks fault other first is = no_syntax_fault n first.form marks first.rest other first.stands is

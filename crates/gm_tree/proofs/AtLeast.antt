-- A tree is read at each place of a text, or there is a first fault by the grammar or by names.
use Rattle.std.proofs.Common.{◌≡◌, ◌⊎◌, ℕ, Option, Some, None, inl, inr, refl}
use Rattle.gm_model.specs.Trees.{Tree}
use Rattle.gm_text.specs.inner.Cursor.{Cursor}
use Rattle.gm_text.specs.inner.SchemaAnswers.{marks_left}
use Rattle.gm_parse.specs.declared.fault.SyntaxFault.{SyntaxFault}
use Rattle.gm_parse.specs.inner.Answers.{IsExprSkipped, IsExprRead, IsSyntaxFault, HasFirstFault}
use Rattle.gm_parse.specs.Meaning.{Names, NameFault, faults_in, tree_in}
use Rattle.gm_parse.proofs.AtLeast.{skipped_or_fault}
use Rattle.gm_tree.specs.inner.Building.{noted}
use Rattle.gm_tree.proofs.ReadForms.{noted_none, first_fault}

module _ (n : ℕ) (names : Names) (old : Cursor) where
  abbrev IsRead : Type 0
  IsRead = (new : Cursor) × (tree : Tree) × IsExprRead n names old new tree

  abbrev IsAtFault : Type 0
  IsAtFault = ((fault : SyntaxFault) × IsSyntaxFault n (marks_left old) fault) ⊎ ((fault : NameFault) × HasFirstFault n names (marks_left old) fault)

  of_names : (new : Cursor) (skipped : IsExprSkipped n old new) (least : Option NameFault) → noted None (faults_in names skipped.form) ≡ least → IsRead ⊎ IsAtFault
  of_names new skipped None e = inl (new, tree_in names skipped.form, record { form = skipped.form; stands = skipped.stands; known = noted_none (faults_in names skipped.form) e; means = refl })
  of_names new skipped (Some fault) e = inr (inr (fault, record { form = skipped.form; rest = marks_left new; stands = skipped.stands; first = first_fault names skipped.form fault e }))

  pub read_or_fault : IsRead ⊎ IsAtFault
  read_or_fault =
      elim (skipped_or_fault n old) [
        | inl is ↦ of_names is.0 is.1 (noted None (faults_in names is.1.form)) refl
        | inr fault ↦ inr (inl fault)
      ]

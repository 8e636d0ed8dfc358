-- What reading an expression of a rule answers.
use Rattle.std.specs.Prelude.{◌≡◌, ℕ, List, [], Option, Some, None}
use Rattle.gm_model.specs.declared.rule.Param.{Param}
use Rattle.gm_model.specs.declared.schema.Embed.{Embed}
use Rattle.gm_model.specs.declared.value.Kind.{Kind}
use Rattle.gm_model.specs.Kinds.{tree_kind, param_kinds}
use Rattle.gm_model.specs.Trees.{Tree}
use Rattle.gm_parse.specs.declared.fault.ExprFault.{ExprFault}
use Rattle.gm_parse.specs.declared.fault.ExprFault.TheVariants as faults
use Rattle.gm_parse.specs.Forms.{Form}
use Rattle.gm_parse.specs.Meaning as meaning
use Rattle.gm_parse.specs.Meaning.{Names, UnknownAt, TwiceAt, faults_in, tree_in, IsFirstFault}
use Rattle.gm_forms.specs.BookText.{ExprToken, IsValue}

-- the tree has the kind, where one is needed
abbrev pub HasKind : List Embed → List Param → Option Kind → Tree → Type 0
HasKind embeds params None tree = Unit {0}
HasKind embeds params (Some needed) tree = tree_kind embeds (param_kinds params) tree ≡ Some needed

-- the tokens spell an expression whose names are known, and it means the tree
pub record IsValueRead (n : ℕ) (names : Names) (tokens : List ExprToken) (tree : Tree) : Type 0 where
  pub form : Form
  pub value : IsValue n tokens form
  pub known : faults_in names form ≡ []
  pub means : tree ≡ tree_in names form

-- the tokens spell an expression with this first fault of names
pub record HasFirstFault (n : ℕ) (names : Names) (tokens : List ExprToken) (fault : meaning.NameFault) : Type 0 where
  pub form : Form
  pub value : IsValue n tokens form
  pub first : IsFirstFault names form fault

-- the fault is the first of the names, or memory ran out
abbrev pub IsReadFault : ℕ → Names → List ExprToken → ExprFault → Type 0
IsReadFault n names tokens (faults.Unknown place) = HasFirstFault n names tokens (UnknownAt place)
IsReadFault n names tokens (faults.Twice place) = HasFirstFault n names tokens (TwiceAt place)
IsReadFault n names tokens faults.OutOfMemory = Unit {0}

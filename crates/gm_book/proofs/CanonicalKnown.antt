-- The names that the expressions of a canonical form can use: those of the schema and the rule, each with its number.
use Rattle.std.proofs.Common.{◌≡◌, ℕ, ◌<◌, Bool, true, ltb, List, [], ◌∷◌, length, map, Some, refl, sym, ap, ◌∙◌, arith}
use Rattle.std.specs.Prelude.{slice_get}
use Rattle.std.specs.List.{position, position_or_len}
use Rattle.std.specs.Str.{bytes_eq}
use Rattle.std.proofs.lemmas.Bool.{lt-ltb}
use Rattle.std.proofs.lemmas.Option.{slice_get_within}
use Rattle.gm_model.specs.declared.rule.Param.{Param}
use Rattle.gm_model.specs.declared.schema.Schema.{Schema}
use Rattle.gm_model.specs.Rules.{Rule, Assignment}
use Rattle.gm_model.specs.Symbols.{Mark}
use Rattle.gm_parse.specs.Meaning.{Names}
use Rattle.gm_expr.proofs.Canonical.{behind}
use Rattle.gm_expr.specs.inner.Writable.{left_name_of}
use Rattle.gm_forms.specs.BookText.{ParamForm, RuleForm, nodes_of, node_in, name_if_left, names_for}
use Rattle.gm_book.proofs.CanonicalForm.{AreNew, param_names, params_at, behind_param, form_at, IsWritable}
use Rattle.gm_book.proofs.CanonicalRule.{assigned, nodes_again}
use Rattle.gm_book.proofs.DifferentNames.{number_there}

-- ---- numbers of names that differ

found_within : {A : Type 0} (test : A → Bool) (xs : List A) (k : ℕ) → position_or_len test xs ≡ k → k < length xs → position test xs ≡ Some k
found_within test xs k is low = let less : ltb (position_or_len test xs) (length xs) ≡ true = lt-ltb (position_or_len test xs) (length xs) (omega (arith, is, low)) in rw less (ap Some is)

pub names_numbered : (names : List (List ℕ)) → AreNew [] names → (k : ℕ) (name : List ℕ) → slice_get names k ≡ Some name → position (bytes_eq name) names ≡ Some k
names_numbered names new k name here = found_within (bytes_eq name) names k (number_there names k name new here) (slice_get_within names k name here)

-- ---- the names of the form

params_named : (params : List Param) (marks : List Mark) → map (λ (param : ParamForm). param.name.name) (params_at marks params) ≡ param_names params
params_named [] marks = refl
params_named (param ∷ params) marks = ap (λ names. param.name ∷ names) (params_named params (behind_param marks))

pub left_names : (form : RuleForm) (sets : List ℕ → List Assignment) (names : List (List ℕ)) → map left_name_of (map (node_in form sets) names) ≡ map (name_if_left form) names
left_names form sets [] = refl
left_names form sets (name ∷ names) = ap (λ others. name_if_left form name ∷ others) (left_names form sets names)

module _ (schema : Schema) (rule : Rule) (ok : IsWritable schema.dim rule) (marks : List Mark) where
  abbrev pub known : Names
  known = names_for schema.embeds (form_at schema marks rule)

  pub params_known : known.params ≡ map (λ (param : Param). param.name) rule.params
  params_known = params_named rule.params (behind (behind marks))

  pub nodes_known : known.nodes ≡ map left_name_of rule.nodes
  nodes_known =
      let form = form_at schema marks rule in
      sym (left_names form (assigned rule.nodes) (nodes_of form)) ∙ ap (map left_name_of) (nodes_again schema rule ok marks)

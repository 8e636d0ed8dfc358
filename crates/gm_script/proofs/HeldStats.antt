-- Which statements of a text a reader of the code holds.
use Rattle.std.specs.Prelude.{◌≡◌, ℕ, List, [], ◌∷◌, map}
use Rattle.gm_model.specs.declared.value.Value.{Value}
use Rattle.gm_model.specs.declared.value.Value.TheVariants as values
use Rattle.gm_model.specs.Tokens.{bytes_of}
use Rattle.gm_text.specs.SchemaText.{no_labels}
use Rattle.gm_text.specs.ValueText.{integer}
use Rattle.gm_script.specs.ScriptText.{ValueForm, Plain, Truth, Pair, Triple, StatForm, IsWritten, mask_of}
use Rattle.gm_script.specs.inner.Reading.{HeldStat, IsInText}
use Rattle.gm_script.proofs.Drafts.{DraftStat, form_of}

-- the value as it is held before its kind is known: three numbers as a vector
abbrev pub value_held : ValueForm → Value
value_held (Plain x) = values.Int (integer x)
value_held (Truth b) = values.Bool b
value_held (Pair x y) = values.Vec2 (integer x) (integer y)
value_held (Triple x y z) = values.Vec3 (integer x) (integer y) (integer z)

pub record IsHeldStat (text : List ℕ) (held : HeldStat) (stat : DraftStat) : Type 0 where
  pub place : held.place ≡ stat.place
  pub head : held.head ≡ stat.head
  pub name : bytes_of text held.name ≡ stat.rule.name
  pub name_place : held.name.start ≡ stat.rule.place
  pub in_text : IsInText text held.name
  pub hooks : held.hooks ≡ stat.hooks
  pub labels : held.labels ≡ mask_of stat.labels no_labels
  pub values : held.values ≡ map value_held stat.values

-- it is held, and written so
pub record IsHeldForm (text : List ℕ) (held : HeldStat) (form : StatForm) : Type 0 where
  pub stat : DraftStat
  pub is : IsHeldStat text held stat
  pub form_is : form ≡ form_of stat

abbrev pub AreHeld : List ℕ → List HeldStat → List StatForm → Type 0
AreHeld text [] [] = Unit {0}
AreHeld text (held ∷ others) (form ∷ forms) = IsHeldForm text held form × AreHeld text others forms
AreHeld text _ _ = ⊥

-- the statements that are written in the text are held
abbrev pub AreOfText : ℕ → List ℕ → List HeldStat → Type 0
AreOfText n text held = (forms : List StatForm) × IsWritten n text forms × AreHeld text held forms

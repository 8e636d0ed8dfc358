-- A form is spelled before other parts as it is by itself.
use Rattle.std.proofs.Common.{◌≡◌, ℕ, List, [], ◌∷◌, ◌++◌, codes, refl, ap, ◌∙◌}
use Rattle.gm_model.specs.Reading.{Part, word, number, sign}
use Rattle.gm_text.specs.SchemaText.{LabelForm}
use Rattle.gm_parse.specs.Forms.{TermForm, Form, NumberForm, TruthForm, ParamForm, FieldForm, SameForm, CountForm, CollectForm, CallForm, ParenForm, MinusForm, NotForm, BinaryForm, IfForm, Arguments, First, Further}
use Rattle.gm_parse.specs.Spelling.{Role, Fixed, LabelAt, StepAt, name, collector_word, operator, spell, spell_arguments, spell_orbit, spell_term}
use Rattle.gm_parse.proofs.SpelledParts.{spell_labels, spell_path}

abbrev Parts : Type 0
Parts = List (Part Role)

module _ (n : ℕ) where
  labels_before : (orbit : List LabelForm) (front rest : Parts) → spell_labels n orbit (front ++ rest) ≡ spell_labels n orbit front ++ rest
  labels_before [] front rest = refl
  labels_before (form ∷ orbit) front rest = ap (λ (parts : Parts). number (LabelAt n form.place) form.label ∷ parts) (labels_before orbit front rest)

  orbit_before : (orbit : List LabelForm) (front rest : Parts) → spell_orbit n orbit (front ++ rest) ≡ spell_orbit n orbit front ++ rest
  orbit_before orbit front rest = ap (λ (parts : Parts). sign Fixed (codes "<") ∷ parts) (labels_before orbit (sign Fixed (codes ">") ∷ front) rest)

  path_before : (path : List ℕ) (front rest : Parts) → spell_path n path (front ++ rest) ≡ spell_path n path front ++ rest
  path_before [] front rest = refl
  path_before (label ∷ path) front rest = ap (λ (parts : Parts). sign Fixed (codes "@") ∷ number (StepAt n) label ∷ parts) (path_before path front rest)

  term_before : (term : TermForm) (front rest : Parts) → spell_term n term (front ++ rest) ≡ spell_term n term front ++ rest
  term_before term front rest = ap (λ (parts : Parts). name term.node ∷ parts) (path_before term.path front rest)

  mutual
    pub spell_before : (form : Form) (front rest : Parts) → spell n form (front ++ rest) ≡ spell n form front ++ rest
    spell_before (NumberForm value) front rest = refl
    spell_before (TruthForm b) front rest = refl
    spell_before (ParamForm param) front rest = refl
    spell_before (FieldForm term embed) front rest = term_before term (sign Fixed (codes ".") ∷ name embed ∷ front) rest
    spell_before (SameForm left right) front rest =
        let last : Parts = sign Fixed (codes ")") ∷ front in
        ap (λ (parts : Parts). word Fixed (codes "same") ∷ sign Fixed (codes "(") ∷ spell_term n left (sign Fixed (codes ",") ∷ parts)) (term_before right last rest)
        ∙ ap (λ (parts : Parts). word Fixed (codes "same") ∷ sign Fixed (codes "(") ∷ parts) (term_before left (sign Fixed (codes ",") ∷ spell_term n right last) rest)
    spell_before (CountForm orbit term) front rest =
        let last : Parts = sign Fixed (codes ")") ∷ front in
        ap (λ (parts : Parts). word Fixed (codes "count") ∷ spell_orbit n orbit (sign Fixed (codes "(") ∷ parts)) (term_before term last rest)
        ∙ ap (λ (parts : Parts). word Fixed (codes "count") ∷ parts) (orbit_before orbit (sign Fixed (codes "(") ∷ spell_term n term last) rest)
    spell_before (CollectForm collector orbit term embed) front rest =
        let last : Parts = sign Fixed (codes ".") ∷ name embed ∷ sign Fixed (codes ")") ∷ front in
        ap (λ (parts : Parts). word Fixed (collector_word collector) ∷ spell_orbit n orbit (sign Fixed (codes "(") ∷ parts)) (term_before term last rest)
        ∙ ap (λ (parts : Parts). word Fixed (collector_word collector) ∷ parts) (orbit_before orbit (sign Fixed (codes "(") ∷ spell_term n term last) rest)
    spell_before (CallForm function arguments) front rest = ap (λ (parts : Parts). name function ∷ sign Fixed (codes "(") ∷ parts) (arguments_before arguments (sign Fixed (codes ")") ∷ front) rest)
    spell_before (ParenForm part) front rest = ap (λ (parts : Parts). sign Fixed (codes "(") ∷ parts) (spell_before part (sign Fixed (codes ")") ∷ front) rest)
    spell_before (MinusForm part) front rest = ap (λ (parts : Parts). sign Fixed (codes "-") ∷ parts) (spell_before part front rest)
    spell_before (NotForm part) front rest = ap (λ (parts : Parts). word Fixed (codes "not") ∷ parts) (spell_before part front rest)
    spell_before (BinaryForm op left right) front rest = ap (λ (parts : Parts). spell n left (operator op ∷ parts)) (spell_before right front rest) ∙ spell_before left (operator op ∷ spell n right front) rest
    spell_before (IfForm c a b) front rest =
        let last : Parts = word Fixed (codes "else") ∷ spell n b front in
        let middle : Parts = word Fixed (codes "then") ∷ spell n a last in
        ap (λ (parts : Parts). word Fixed (codes "if") ∷ spell n c (word Fixed (codes "then") ∷ spell n a (word Fixed (codes "else") ∷ parts))) (spell_before b front rest)
        ∙ ap (λ (parts : Parts). word Fixed (codes "if") ∷ spell n c (word Fixed (codes "then") ∷ parts)) (spell_before a last rest)
        ∙ ap (λ (parts : Parts). word Fixed (codes "if") ∷ parts) (spell_before c middle rest)

    arguments_before : (arguments : Arguments) (front rest : Parts) → spell_arguments n arguments (front ++ rest) ≡ spell_arguments n arguments front ++ rest
    arguments_before (First form) front rest = spell_before form front rest
    arguments_before (Further arguments form) front rest =
        ap (λ (parts : Parts). spell_arguments n arguments (sign Fixed (codes ",") ∷ parts)) (spell_before form front rest) ∙ arguments_before arguments (sign Fixed (codes ",") ∷ spell n form front) rest

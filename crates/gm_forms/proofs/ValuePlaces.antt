-- The faults of an expression's names stand at places of its tokens, and it has a first token.
use Rattle.std.proofs.Common.{◌≡◌, ℕ, ◌+◌, Bool, true, false, if◌then◌else◌, ◌⊎◌, inl, inr, List, [], ◌∷◌, ◌++◌, map, Option, Some, None, refl, sym, ap, subst, ◌∙◌}
use Rattle.std.specs.List.{AllByRecursion, Contains}
use Rattle.std.specs.Prelude.{IsTrue}
use Rattle.gm_model.specs.declared.word.Mask.{Mask}
use Rattle.gm_model.specs.Labels.{has}
use Rattle.gm_model.specs.Names.{Mention}
use Rattle.gm_model.specs.Reading.{Part}
use Rattle.gm_text.specs.SchemaText.{LabelForm, with_label, no_labels}
use Rattle.gm_parse.specs.Forms.{TermForm, Form, NumberForm, TruthForm, ParamForm, FieldForm, SameForm, CountForm, CollectForm, CallForm, ParenForm, MinusForm, NotForm, BinaryForm, IfForm, Arguments, First, Further, count_of}
use Rattle.gm_parse.specs.Meaning.{Names, NameFault, UnknownAt, TwiceAt, fault_place, unknown, again_in, faults_in, argument_faults, node_number, embed_number, param_number, function_of, term_faults}
use Rattle.gm_parse.specs.inner.Reading as exprs
use Rattle.gm_parse.specs.inner.Reading.{first_spot, is_whole_spot}
use Rattle.gm_parse.specs.Spelling.{Role, NameAt, LabelAt, Counted, counted_from, spell, spell_arguments, spell_orbit, spell_term, spell_field, IsPlacedAt}
use Rattle.gm_parse.proofs.SpelledParts.{spell_labels, spell_path}
use Rattle.gm_parse.proofs.Counted.{LedSpot, spot_behind, form_leads, form_whole}
use Rattle.gm_forms.specs.BookText.{ExprToken, IsValue, IsTokenPlaced, part_of, first_place, fault_in_value, place_of}
use Rattle.gm_forms.proofs.Contained.{contains_cases, contains_none, contains_either}

abbrev pub IsPlace : ℕ → List ℕ → Type 0
IsPlace place [] = ⊥
IsPlace place (first ∷ places) = (first ≡ place) ⊎ IsPlace place places

-- the places of tokens, and then these
abbrev pub places_in_value : List ExprToken → List ℕ → List ℕ
places_in_value [] rest = rest
places_in_value (token ∷ tokens) rest = token.place ∷ places_in_value tokens rest

-- ---- in a spelling

abbrev IsAt : ℕ → Role → Type 0
IsAt place (NameAt at) = at ≡ place
IsAt place (LabelAt n at) = at ≡ place
IsAt place _ = ⊥

abbrev Among : ℕ → List (Part Role) → Type 0
Among place [] = ⊥
Among place (part ∷ parts) = IsAt place part.role ⊎ Among place parts

module _ (n place : ℕ) where
  behind_labels : (orbit : List LabelForm) (rest : List (Part Role)) → Among place rest → Among place (spell_labels n orbit rest)
  behind_labels [] rest among = among
  behind_labels (label ∷ orbit) rest among = inr (behind_labels orbit rest among)

  behind_orbit : (orbit : List LabelForm) (rest : List (Part Role)) → Among place rest → Among place (spell_orbit n orbit rest)
  behind_orbit orbit rest among = inr (behind_labels orbit _ (inr among))

  behind_path : (path : List ℕ) (rest : List (Part Role)) → Among place rest → Among place (spell_path n path rest)
  behind_path [] rest among = among
  behind_path (label ∷ path) rest among = inr (inr (behind_path path rest among))

  behind_term : (term : TermForm) (rest : List (Part Role)) → Among place rest → Among place (spell_term n term rest)
  behind_term term rest among = inr (behind_path term.path rest among)

  behind_field : (term : TermForm) (embed : Mention) (rest : List (Part Role)) → Among place rest → Among place (spell_field n term embed rest)
  behind_field term embed rest among = behind_term term _ (inr (inr among))

  mutual
    behind_form : (form : Form) (rest : List (Part Role)) → Among place rest → Among place (spell n form rest)
    behind_form (NumberForm value) rest among = inr among
    behind_form (TruthForm b) rest among = inr among
    behind_form (ParamForm param) rest among = inr among
    behind_form (FieldForm term embed) rest among = behind_field term embed rest among
    behind_form (SameForm left right) rest among = inr (inr (behind_term left _ (inr (behind_term right _ (inr among)))))
    behind_form (CountForm orbit term) rest among = inr (behind_orbit orbit _ (inr (behind_term term _ (inr among))))
    behind_form (CollectForm collector orbit term embed) rest among = inr (behind_orbit orbit _ (inr (behind_field term embed _ (inr among))))
    behind_form (CallForm name arguments) rest among = inr (inr (behind_arguments arguments _ (inr among)))
    behind_form (ParenForm part) rest among = inr (behind_form part _ (inr among))
    behind_form (MinusForm part) rest among = inr (behind_form part rest among)
    behind_form (NotForm part) rest among = inr (behind_form part rest among)
    behind_form (BinaryForm op left right) rest among = behind_form left _ (inr (behind_form right rest among))
    behind_form (IfForm c a b) rest among = inr (behind_form c _ (inr (behind_form a _ (inr (behind_form b rest among)))))

    behind_arguments : (arguments : Arguments) (rest : List (Part Role)) → Among place rest → Among place (spell_arguments n arguments rest)
    behind_arguments (First form) rest among = behind_form form rest among
    behind_arguments (Further arguments form) rest among = behind_arguments arguments _ (inr (behind_form form rest among))

module _ (n : ℕ) (names : Names) (fault : NameFault) where
  abbrev place : ℕ
  place = fault_place fault

  of_mention : {A : Type 0} (mention : Mention) (found : Option A) → Contains (unknown mention found) fault → mention.place ≡ place
  of_mention mention (Some found) there = absurd (contains_none fault there)
  of_mention mention None there = elim (contains_cases (UnknownAt mention.place) [] fault there) [
    | inl e ↦ ap fault_place e
    | inr none ↦ absurd (contains_none fault none)
  ]

  label_case : (label : LabelForm) (orbit : List LabelForm) (rest : List (Part Role)) (others : List NameFault) → (Contains others fault → Among place (spell_labels n orbit rest)) → (b : Bool)
      → Contains ((if b then TwiceAt label.place ∷ [] else []) ++ others) fault → Among place (spell_labels n (label ∷ orbit) rest)
  label_case label orbit rest others later false there = inr (later there)
  label_case label orbit rest others later true there = elim (contains_cases (TwiceAt label.place) others fault there) [
    | inl e ↦ inl (ap fault_place e)
    | inr behind ↦ inr (later behind)
  ]

  of_labels : (mask : Mask) (orbit : List LabelForm) (rest : List (Part Role)) → Contains (again_in mask orbit) fault → Among place (spell_labels n orbit rest)
  of_labels mask [] rest there = absurd (contains_none fault there)
  of_labels mask (label ∷ orbit) rest there = label_case label orbit rest (again_in (with_label mask label.label) orbit) (λ later. of_labels (with_label mask label.label) orbit rest later) (has mask label.label) there

  of_orbit : (orbit : List LabelForm) (rest : List (Part Role)) → Contains (again_in no_labels orbit) fault → Among place (spell_orbit n orbit rest)
  of_orbit orbit rest there = inr (of_labels no_labels orbit _ there)

  of_term : (term : TermForm) (rest : List (Part Role)) → Contains (term_faults names term) fault → Among place (spell_term n term rest)
  of_term term rest there = inl (of_mention term.node (node_number names term.node) there)

  of_field : (term : TermForm) (embed : Mention) (rest : List (Part Role)) → Contains (term_faults names term ++ unknown embed (embed_number names embed)) fault → Among place (spell_field n term embed rest)
  of_field term embed rest there = elim (contains_either (term_faults names term) (unknown embed (embed_number names embed)) fault there) [
    | inl first ↦ of_term term _ first
    | inr second ↦ behind_term n place term _ (inr (inl (of_mention embed (embed_number names embed) second)))
  ]

  mutual
    of_form : (form : Form) (rest : List (Part Role)) → Contains (faults_in names form) fault → Among place (spell n form rest)
    of_form (NumberForm value) rest there = absurd (contains_none fault there)
    of_form (TruthForm b) rest there = absurd (contains_none fault there)
    of_form (ParamForm param) rest there = inl (of_mention param (param_number names param) there)
    of_form (FieldForm term embed) rest there = of_field term embed rest there
    of_form (SameForm left right) rest there = elim (contains_either (term_faults names left) (term_faults names right) fault there) [
      | inl first ↦ inr (inr (of_term left _ first))
      | inr second ↦ inr (inr (behind_term n place left _ (inr (of_term right _ second))))
    ]
    of_form (CountForm orbit term) rest there = elim (contains_either (again_in no_labels orbit) (term_faults names term) fault there) [
      | inl first ↦ inr (of_orbit orbit _ first)
      | inr second ↦ inr (behind_orbit n place orbit _ (inr (of_term term _ second)))
    ]
    of_form (CollectForm collector orbit term embed) rest there = elim (contains_either (again_in no_labels orbit) (term_faults names term ++ unknown embed (embed_number names embed)) fault there) [
      | inl first ↦ inr (of_orbit orbit _ first)
      | inr second ↦ inr (behind_orbit n place orbit _ (inr (of_field term embed _ second)))
    ]
    of_form (CallForm name arguments) rest there = elim (contains_either (argument_faults names arguments) (unknown name (function_of name.name (count_of arguments))) fault there) [
      | inl first ↦ inr (inr (of_arguments arguments _ first))
      | inr second ↦ inl (of_mention name (function_of name.name (count_of arguments)) second)
    ]
    of_form (ParenForm part) rest there = inr (of_form part _ there)
    of_form (MinusForm part) rest there = inr (of_form part rest there)
    of_form (NotForm part) rest there = inr (of_form part rest there)
    of_form (BinaryForm op left right) rest there = elim (contains_either (faults_in names left) (faults_in names right) fault there) [
      | inl first ↦ of_form left _ first
      | inr second ↦ behind_form n place left _ (inr (of_form right rest second))
    ]
    of_form (IfForm c a b) rest there = elim (contains_either (faults_in names c ++ faults_in names a) (faults_in names b) fault there) [
      | inl others ↦ elim (contains_either (faults_in names c) (faults_in names a) fault others) [
        | inl first ↦ inr (of_form c _ first)
        | inr second ↦ inr (behind_form n place c _ (inr (of_form a _ second)))
      ]
      | inr third ↦ inr (behind_form n place c _ (inr (behind_form n place a _ (inr (of_form b rest third)))))
    ]

    of_arguments : (arguments : Arguments) (rest : List (Part Role)) → Contains (argument_faults names arguments) fault → Among place (spell_arguments n arguments rest)
    of_arguments (First form) rest there = of_form form rest there
    of_arguments (Further arguments form) rest there = elim (contains_either (argument_faults names arguments) (faults_in names form) fault there) [
      | inl first ↦ of_arguments arguments _ first
      | inr second ↦ behind_arguments n place arguments _ (inr (of_form form rest second))
    ]

-- ---- among the tokens

among_tokens : (place k : ℕ) (parts : List (Part Role)) (tokens : List ExprToken) (rest : List ℕ) → map part_of tokens ≡ counted_from k parts → AllByRecursion IsTokenPlaced tokens → Among place parts → IsPlace place (places_in_value tokens rest)
among_tokens place k [] tokens rest same placed among = absurd among
among_tokens place k (part ∷ parts) [] rest same placed among = absurd cc
among_tokens place k (part ∷ parts) (token ∷ tokens) rest same placed (inr behind) = inr (among_tokens place (k + 1) parts tokens rest (let tail : map part_of tokens ≡ counted_from (k + 1) parts = cc same in tail) placed.1 behind)
among_tokens place k (part ∷ parts) (token ∷ tokens) rest same placed (inl here) =
    let head : part_of token ≡ record { symbol = part.symbol; role = record { ordinal = k + 1; role = part.role } } = cc same in
    let role : token.role.role ≡ part.role = ap (λ (p : Part Counted). p.role.role) head in
    inl (go part.role (subst (λ (r : Role). IsPlacedAt token.place r) role placed.0) here)
  where
    go : (role : Role) → IsPlacedAt token.place role → IsAt place role → token.place ≡ place
    go (NameAt at) one other = sym one ∙ other
    go (LabelAt n at) one other = sym one ∙ other
    go role one other = absurd other

pub value_place : (n : ℕ) (names : Names) (tokens : List ExprToken) (form : Form) (fault : NameFault) → IsValue n tokens form → Contains (faults_in names form) fault → (rest : List ℕ) → IsPlace (place_of (fault_in_value fault)) (places_in_value tokens rest)
value_place n names tokens form fault value there rest =
    subst (λ (p : ℕ). IsPlace p (places_in_value tokens rest)) (same fault) (among_tokens (fault_place fault) 0 (spell n form []) tokens rest value.spelled value.placed (of_form n names fault form [] there))
  where
    same : (fault : NameFault) → fault_place fault ≡ place_of (fault_in_value fault)
    same (UnknownAt at) = refl
    same (TwiceAt at) = refl

-- an expression isn't empty
pub first_there : (n : ℕ) (tokens : List ExprToken) (form : Form) → IsValue n tokens form → (rest : List ℕ) → IsPlace (first_place tokens) (places_in_value tokens rest)
first_there n (token ∷ tokens) form value rest = inl refl
first_there n [] form value rest =
    let leads : LedSpot n first_spot [] (spot_behind n form) = subst (λ (ps : List (Part Counted)). LedSpot n first_spot ps (spot_behind n form)) (sym value.spelled) (form_leads n form value.good) in
    let at : first_spot ≡ spot_behind n form = leads in
    let whole : IsTrue (is_whole_spot first_spot) = subst (λ (s : exprs.Spot). IsTrue (is_whole_spot s)) (sym at) (form_whole n form) in
    absurd (let e : false ≡ true = whole in cc)

-- A version, a schema and rules that stand behind one another in a text are a book that is written in it.
use Rattle.std.proofs.Common.{◌≡◌, ℕ, List, [], ◌∷◌, ◌++◌, map, Option, None, refl, sym, ap, subst, ◌∙◌, codes}
use Rattle.std.proofs.lemmas.List.{map-append}
use Rattle.std.specs.List.{AllByRecursion}
use Rattle.gm_model.specs.Symbols.{Symbol, Word, Numeral, Mark, symbols, marks_of}
use Rattle.gm_model.specs.Reading.{Part, IsWithin, symbols_in, the_end, in_role, ArePlaced}
use Rattle.gm_text.specs.SchemaText as schemas
use Rattle.gm_text.specs.SchemaText.{SchemaForm, spell}
use Rattle.gm_text.specs.inner.SchemaReading.{Stands}
use Rattle.gm_forms.specs.BookText.{RuleForm, BookForm, Role, Fixed, InSchema, limit_of, spell_rules, spelling, IsRule, IsForm, IsSentence, IsWritten, IsPlacedAt}
use Rattle.gm_forms.specs.inner.Standing.{IsHeaded}
use Rattle.gm_forms.proofs.Header.{version_known}

abbrev Parts : Type 0
Parts = List (Part Role)

abbrev pub IsIn : Parts → Type 0
IsIn parts = IsWithin IsSentence limit_of parts

in_symbols : (parts : List (Part schemas.Role)) (rest : Parts) → symbols_in (map (in_role InSchema) parts ++ rest) ≡ symbols_in parts ++ symbols_in rest
in_symbols [] rest = refl
in_symbols (part ∷ parts) rest = ap (λ (ss : List Symbol). part.symbol ∷ ss) (in_symbols parts rest)

in_within : (parts : List (Part schemas.Role)) (rest : Parts) → IsWithin schemas.IsSentence schemas.limit_of parts → IsIn rest → IsIn (map (in_role InSchema) parts ++ rest)
in_within [] rest within later = later
in_within (part ∷ parts) rest within later = (within.0, in_within parts rest within.1 later)

in_placed : (marks after : List Mark) (parts : List (Part schemas.Role)) (rest : Parts) → symbols marks ≡ symbols_in parts → ArePlaced schemas.IsPlacedAt marks parts → ArePlaced IsPlacedAt after rest → ArePlaced IsPlacedAt (marks ++ after) (map (in_role InSchema) parts ++ rest)
in_placed [] after [] rest same placed later = later
in_placed [] after (part ∷ parts) rest same placed later = absurd cc
in_placed (mark ∷ marks) after [] rest same placed later = absurd cc
in_placed (mark ∷ marks) after (part ∷ parts) rest same placed later = let tail : symbols marks ≡ symbols_in parts = cc same in (placed.0, in_placed marks after parts rest tail placed.1 later)

-- what passes nothing passes no limit
pub all_free : {What : Type 0} (passed : schemas.Role → Symbol → Option What) → ((role : schemas.Role) (symbol : Symbol) → passed role symbol ≡ None → schemas.limit_of role symbol ≡ None) → (parts : List (Part schemas.Role))
    → IsWithin schemas.IsSentence passed parts → IsWithin schemas.IsSentence schemas.limit_of parts
all_free passed free [] within = tt
all_free passed free (part ∷ parts) within = (free part.role part.symbol within.0, all_free passed free parts within.1)

-- rules that stand where marks are
pub record AreThere (version n : ℕ) (rules : List RuleForm) (marks : List Mark) : Type 0 where
  pub good : AllByRecursion (IsRule version n) rules
  pub spelled : symbols marks ≡ symbols_in (spell_rules n 0 rules (the_end Fixed ∷ []))
  pub within : IsIn (spell_rules n 0 rules (the_end Fixed ∷ []))
  pub placed : ArePlaced IsPlacedAt marks (spell_rules n 0 rules (the_end Fixed ∷ []))

module _ {What : Type 0} (passed : schemas.Role → Symbol → Option What) (free : (role : schemas.Role) (symbol : Symbol) → passed role symbol ≡ None → schemas.limit_of role symbol ≡ None) where
  pub written_from : (text : List ℕ) (version : ℕ) (form : SchemaForm) (rules : List RuleForm) (marks after : List Mark) → IsHeaded (marks_of text) version marks → Stands passed form marks after → AreThere version form.dim rules after
      → IsWritten text (record { version = version; schema = form; rules = rules })
  written_from text version form rules marks after headed stands there =
      let book : BookForm = record { version = version; schema = form; rules = rules } in
      let rest = spell_rules form.dim 0 rules (the_end Fixed ∷ []) in
      let good : IsForm book = (version_known version headed.known, stands.good, there.good) in
      let behind : symbols marks ≡ symbols_in (map (in_role InSchema) (spell form []) ++ rest) =
      ap symbols stands.split ∙ map-append (λ (mark : Mark). mark.symbol) stands.before after ∙ ap (λ (ss : List Symbol). ss ++ symbols after) stands.spelled
      ∙ ap (λ (ss : List Symbol). symbols_in (spell form []) ++ ss) there.spelled ∙ sym (in_symbols (spell form []) rest) in
      let placed : ArePlaced IsPlacedAt marks (map (in_role InSchema) (spell form []) ++ rest) =
      subst (λ (ms : List Mark). ArePlaced IsPlacedAt ms (map (in_role InSchema) (spell form []) ++ rest)) (sym stands.split) (in_placed stands.before after (spell form []) rest stands.spelled stands.placed there.placed) in
      record {
        form = good;
        read = record {
          spelled = ap symbols headed.split ∙ ap (λ (ss : List Symbol). Word (codes "book") ∷ Numeral version ∷ ss) behind;
          sentence = (book, good, refl);
          within = (refl, (refl, in_within (spell form []) rest (all_free passed free (spell form []) stands.within) there.within));
        };
        placed = subst (λ (ms : List Mark). ArePlaced IsPlacedAt ms (spelling book)) (sym headed.split) (tt, (tt, placed));
      }

-- A schema before anything else: the states read it as its grammar says, and what reading answers is its form, or the first fault.
use Rattle.std.proofs.Common.{◌≡◌, ◌≢◌, ℕ, Bool, true, false, cond, List, [], ◌∷◌, ◌++◌, map, Option, Some, None, Result, Ok, Err, refl, sym, ap, subst, ◌∙◌, codes}
use Rattle.std.proofs.lemmas.Slice.Eq.{bytes_eq-Decides}
use Rattle.std.specs.Prelude.{IsTrue}
use Rattle.std.specs.Str.{bytes_eq}
use Rattle.gm_model.specs.declared.schema.Embed.{Embed}
use Rattle.gm_model.specs.declared.schema.Schema.{Schema}
use Rattle.gm_model.specs.declared.word.Mask.{Mask}
use Rattle.gm_model.specs.Symbols.{Symbol, Word, Numeral, Sign, Gone, Stray, End, Mark}
use Rattle.gm_model.specs.Reading.{Part, in_role, IsWithin, TextEndsAt, LimitStandsAt, ArePlaced}
use Rattle.gm_text.specs.inner.Machine.{Stop, Ends, Passes, Leads, IsGrammar, run}
use Rattle.gm_text.specs.inner.Nested.{Nested, Outside, Inside, IsApart, HasPieces, IsNestedSentence, LeadsNested}
use Rattle.gm_text.specs.inner.Nested as nested
use Rattle.gm_text.specs.SchemaText.{SchemaForm, Role, Fixed, NameAt, LabelAt, limit_of, passed_of, embed_of, schema_of, spell, IsForm, beyond, IsSentence, IsPlacedAt}
use Rattle.gm_text.specs.inner.SchemaReading.{State, AtDim, AtTop, AtEmbeds, AtName, AtOrbit, AtLabel, AtKind, role_at, label_role, move, is_whole, Around, AtNext, AtRest, around_move, standing, never, Stands}
use Rattle.gm_text.proofs.Machine.{Along, run_reads, run_ends, run_passes, along_leads, along_spelled, ended_is, passing_is}
use Rattle.gm_text.proofs.Nested.{nested_grammar, run_inside_ends, run_inside_passes}
use Rattle.gm_text.proofs.SchemaGrammar.{spell_before, led_form, form_is, goes_on}

-- where a name or a label stands has no part in what it passes
pub record IsPlaceless {What : Type 0} (passed : Role → Symbol → Option What) : Type 0 where
  pub name : (names : List (List ℕ)) (symbol : Symbol) (place other : ℕ) → passed (NameAt names place) symbol ≡ passed (NameAt names other) symbol
  pub label : (n : ℕ) (mask : Mask) (symbol : Symbol) (place other : ℕ) → passed (LabelAt n mask place) symbol ≡ passed (LabelAt n mask other) symbol

pub limit_placeless : IsPlaceless limit_of
limit_placeless = record { name = name; label = label }
  where
    name : (names : List (List ℕ)) (symbol : Symbol) (place other : ℕ) → limit_of (NameAt names place) symbol ≡ limit_of (NameAt names other) symbol
    name names (Word w) place other = refl
    name names (Numeral n) place other = refl
    name names (Sign s) place other = refl
    name names Gone place other = refl
    name names Stray place other = refl
    name names End place other = refl

    label : (n : ℕ) (mask : Mask) (symbol : Symbol) (place other : ℕ) → limit_of (LabelAt n mask place) symbol ≡ limit_of (LabelAt n mask other) symbol
    label n mask (Word w) place other = refl
    label n mask (Numeral i) place other = refl
    label n mask (Sign s) place other = refl
    label n mask Gone place other = refl
    label n mask Stray place other = refl
    label n mask End place other = refl

pub passed_placeless : IsPlaceless passed_of
passed_placeless = record { name = name; label = label }
  where
    name : (names : List (List ℕ)) (symbol : Symbol) (place other : ℕ) → passed_of (NameAt names place) symbol ≡ passed_of (NameAt names other) symbol
    name names (Word w) place other = refl
    name names (Numeral n) place other = refl
    name names (Sign s) place other = refl
    name names Gone place other = refl
    name names Stray place other = refl
    name names End place other = refl

    label : (n : ℕ) (mask : Mask) (symbol : Symbol) (place other : ℕ) → passed_of (LabelAt n mask place) symbol ≡ passed_of (LabelAt n mask other) symbol
    label n mask (Word w) place other = refl
    label n mask (Numeral i) place other = refl
    label n mask (Sign s) place other = refl
    label n mask Gone place other = refl
    label n mask Stray place other = refl
    label n mask End place other = refl

-- ---- what stands behind

abbrev IsFront : List (Part Role) → State → Type 0
IsFront parts inner = (parts ≡ []) × (inner ≡ AtDim)

abbrev IsInner : State → List (Part Role) → State → Type 0
IsInner inner parts last = (inner ≡ AtDim) × (form : SchemaForm) × IsForm form × (parts ≡ spell form []) × (last ≡ AtEmbeds form.dim (map embed_of form.embeds))

abbrev IsBack : Around → List (Part Role) → Type 0
IsBack AtNext parts = (next : Symbol) × (others : List Symbol) × (next ≢ Word (codes "embed")) × (parts ≡ map beyond (next ∷ others))
IsBack AtRest parts = (others : List Symbol) × (parts ≡ map beyond others)

-- what begins no embedding can stand next
next_moves : (symbol : Symbol) → symbol ≢ Word (codes "embed") → around_move AtNext symbol ≡ Some (Outside AtRest)
next_moves (Word w) other = go (bytes_eq w (codes "embed")) refl
  where
    go : (b : Bool) → bytes_eq w (codes "embed") ≡ b → around_move AtNext (Word w) ≡ Some (Outside AtRest)
    go true e = absurd (other (ap Word ((bytes_eq-Decides w (codes "embed")).0 e)))
    go false e = rw e refl
next_moves (Numeral n) other = refl
next_moves (Sign s) other = refl
next_moves Gone other = refl
next_moves Stray other = refl
next_moves End other = refl

next_moved : (symbol : Symbol) (next : Nested Around State) → around_move AtNext symbol ≡ Some next → (symbol ≢ Word (codes "embed")) × (next ≡ Outside AtRest)
next_moved (Word w) next moves = go (bytes_eq w (codes "embed")) refl moves
  where
    go : (b : Bool) → bytes_eq w (codes "embed") ≡ b → cond b None (Some (Outside AtRest)) ≡ Some next → (Word w ≢ Word (codes "embed")) × (next ≡ Outside AtRest)
    go true e is = absurd cc
    go false e is =
        (λ same. let w_is : w ≡ codes "embed" = cc same in let both : true ≡ false = sym ((bytes_eq-Decides w (codes "embed")).1 w_is) ∙ e in absurd cc, sym (cc is))
next_moved (Numeral n) next moves = (λ e. absurd cc, sym (cc moves))
next_moved (Sign s) next moves = (λ e. absurd cc, sym (cc moves))
next_moved Gone next moves = (λ e. absurd cc, sym (cc moves))
next_moved Stray next moves = (λ e. absurd cc, sym (cc moves))
next_moved End next moves = (λ e. absurd cc, sym (cc moves))

whole_is : (state : State) → IsTrue (is_whole state) → (n : ℕ) × (declared : List Embed) × (state ≡ AtEmbeds n declared)
whole_is AtDim whole = absurd cc
whole_is AtTop whole = absurd cc
whole_is (AtEmbeds n declared) whole = (n, declared, refl)
whole_is (AtName n declared) whole = absurd cc
whole_is (AtOrbit n declared name) whole = absurd cc
whole_is (AtLabel n declared name mask) whole = absurd cc
whole_is (AtKind n declared name mask) whole = absurd cc

no_embedding : (n : ℕ) (declared : List Embed) (symbol : Symbol) → symbol ≢ Word (codes "embed") → move (AtEmbeds n declared) symbol ≡ None
no_embedding n declared (Word w) other = go (bytes_eq w (codes "embed")) refl
  where
    go : (b : Bool) → bytes_eq w (codes "embed") ≡ b → move (AtEmbeds n declared) (Word w) ≡ None
    go true e = absurd (other (ap Word ((bytes_eq-Decides w (codes "embed")).0 e)))
    go false e = rw e refl
no_embedding n declared (Numeral m) other = refl
no_embedding n declared (Sign s) other = refl
no_embedding n declared Gone other = refl
no_embedding n declared Stray other = refl
no_embedding n declared End other = refl

pub is_apart : IsApart standing
is_apart state symbol next whole moves =
    let (n, declared, at) = whole_is state whole in
    ap (λ (s : State). move s symbol) at ∙ no_embedding n declared symbol (next_moved symbol next moves).0

all_wrapped : (parts : List (Part Role)) → map (in_role standing.wrap) parts ≡ parts
all_wrapped [] = refl
all_wrapped (part ∷ parts) = ap (λ (ps : List (Part Role)). part ∷ ps) (all_wrapped parts)

-- ---- the grammar, whatever a symbol passes

module _ {What : Type 0} (passed : Role → Symbol → Option What) (placeless : IsPlaceless passed) where
  abbrev LedNested : Nested Around State → List (Part Role) → Nested Around State → Type 0
  LedNested state parts last = LeadsNested standing passed never state parts last

  rest_leads : (others : List Symbol) → LedNested (Outside AtRest) (map beyond others) (Outside AtRest)
  rest_leads [] = refl
  rest_leads (symbol ∷ others) = (0, Outside AtRest, refl, refl, rest_leads others)

  back_leads : (around : Around) (parts : List (Part Role)) → IsBack around parts → LedNested (Outside around) parts (Outside AtRest)
  back_leads AtNext parts (next, others, other, spelled) = rw spelled (0, Outside AtRest, refl, next_moves next other, rest_leads others)
  back_leads AtRest parts (others, spelled) = rw spelled (rest_leads others)

  beyond_is : (part : Part Role) → part.role ≡ Fixed → part ≡ beyond part.symbol
  beyond_is part is = ap (λ (r : Role). let p : Part Role = record { symbol = part.symbol; role = r } in p) is

  led_rest : (parts : List (Part Role)) → LedNested (Outside AtRest) parts (Outside AtRest) → (others : List Symbol) × (parts ≡ map beyond others)
  led_rest [] led = ([], refl)
  led_rest (part ∷ parts) (place, next, is, moves, led) =
      let at : Outside AtRest ≡ next = cc moves in
      let (others, spelled) = led_rest parts (subst (λ (s : Nested Around State). LedNested s parts (Outside AtRest)) (sym at) led) in
      (part.symbol ∷ others, ap (λ (p : Part Role). p ∷ parts) (beyond_is part is) ∙ ap (λ (ps : List (Part Role)). beyond part.symbol ∷ ps) spelled)

  back : (around : Around) (parts : List (Part Role)) → LedNested (Outside around) parts (Outside AtRest) → IsBack around parts
  back AtNext [] led = let e : Outside AtNext ≡ Outside AtRest = led in absurd cc
  back AtNext (part ∷ parts) (place, next, is, moves, led) =
      let at = next_moved part.symbol next moves in
      let (others, spelled) = led_rest parts (subst (λ (s : Nested Around State). LedNested s parts (Outside AtRest)) at.1 led) in
      (part.symbol, others, at.0, ap (λ (p : Part Role). p ∷ parts) (beyond_is part is) ∙ ap (λ (ps : List (Part Role)). beyond part.symbol ∷ ps) spelled)
  back AtRest parts led = led_rest parts led

  outer_goes_on : (around : Around) → (rest : List (Part Role)) × LedNested (Outside around) rest (Outside AtRest)
  outer_goes_on AtNext = (beyond End ∷ [], (0, Outside AtRest, refl, refl, refl))
  outer_goes_on AtRest = ([], refl)

  label_limit : (n : ℕ) (mask : Mask) (symbol : Symbol) (place other : ℕ) → passed (label_role n mask symbol place) symbol ≡ passed (label_role n mask symbol other) symbol
  label_limit n mask (Numeral label) place other = placeless.label n mask (Numeral label) place other
  label_limit n mask (Word w) place other = refl
  label_limit n mask (Sign s) place other = refl
  label_limit n mask Gone place other = refl
  label_limit n mask Stray place other = refl
  label_limit n mask End place other = refl

  pub inner_limit : (state : State) (symbol : Symbol) (place other : ℕ) → passed (role_at state symbol place) symbol ≡ passed (role_at state symbol other) symbol
  inner_limit AtDim symbol place other = refl
  inner_limit AtTop symbol place other = refl
  inner_limit (AtEmbeds n declared) symbol place other = refl
  inner_limit (AtName n declared) symbol place other = placeless.name _ symbol place other
  inner_limit (AtOrbit n declared name) symbol place other = refl
  inner_limit (AtLabel n declared name mask) symbol place other = label_limit n mask symbol place other
  inner_limit (AtKind n declared name mask) symbol place other = refl

  pieces : HasPieces standing passed never IsFront IsInner IsBack (Inside AtDim) AtRest
  pieces = record {
    front_leads = λ parts inner front. rw front.0 (ap Inside (sym front.1));
    front = λ parts led. ([], parts, AtDim, (refl, refl), refl, led);
    inner_leads = λ inner last parts is. (subst (λ (s : State). Leads passed never role_at move inner parts s) (sym is.4) (subst (λ (ps : List (Part Role)). Leads passed never role_at move inner ps (AtEmbeds is.1.dim (map embed_of is.1.embeds))) (sym is.3) (subst (λ (s : State). Leads passed never role_at move s (spell is.1 []) (AtEmbeds is.1.dim (map embed_of is.1.embeds))) (sym is.0) (led_form passed is.1 is.2))), subst (λ (s : State). IsTrue (is_whole s)) (sym is.4) refl);
    inner = λ front inner last parts at led whole.
        let is = form_is passed parts last (subst (λ (s : State). Leads passed never role_at move s parts last) at.1 led) whole in
        (at.1, is.form, is.good, is.spelled, is.end);
    back_leads = back_leads;
    back = back;
    more = λ inner e. absurd cc;
    inner_goes_on = goes_on passed;
    outer_goes_on = outer_goes_on;
    outer_limit = λ around symbol place other. refl;
    inner_limit = inner_limit;
    outer_before = λ around symbol place other. refl;
    inner_before = λ state symbol place other. refl;
  }

  abbrev AreNested : List (Part Role) → Type 0
  AreNested parts = IsNestedSentence standing passed never IsFront IsInner IsBack parts

  to_nested : (parts : List (Part Role)) → IsSentence parts → AreNested parts
  to_nested parts sentence = record {
    front = [];
    entry = AtDim;
    inner = spell sentence.form [];
    last = AtEmbeds sentence.form.dim (map embed_of sentence.form.embeds);
    back = map beyond (sentence.next ∷ sentence.others);
    is_front = (refl, refl);
    is_inner = (refl, sentence.form, sentence.good, refl, refl);
    is_back = (sentence.next, sentence.others, sentence.ends, refl);
    spelled = sentence.spelled ∙ sym (spell_before sentence.form (map beyond (sentence.next ∷ sentence.others))) ∙ ap (λ (ps : List (Part Role)). ps ++ map beyond (sentence.next ∷ sentence.others)) (sym (all_wrapped (spell sentence.form [])));
  }

  of_nested : (parts : List (Part Role)) → AreNested parts → IsSentence parts
  of_nested parts sentence =
      let (entry, form, good, inner, last) = sentence.is_inner in
      let (next, others, ends, spelled) = sentence.is_back in
      record {
        form = form;
        good = good;
        next = next;
        others = others;
        ends = ends;
        spelled = sentence.spelled ∙ ap (λ (ps : List (Part Role)). ps ++ (map (in_role standing.wrap) sentence.inner ++ sentence.back)) sentence.is_front.0
            ∙ ap (λ (ps : List (Part Role)). ps ++ sentence.back) (all_wrapped sentence.inner ∙ inner)
            ∙ ap (λ (ps : List (Part Role)). spell form [] ++ ps) spelled ∙ spell_before form (map beyond (next ∷ others));
      }

  pub standing_grammar : IsGrammar passed never (nested.role_at standing) (nested.move standing) IsSentence (Inside AtDim) (Outside AtRest)
  standing_grammar =
      let grammar = nested_grammar standing passed never IsFront IsInner IsBack (Inside AtDim) AtRest is_apart pieces in
      record {
        leads = λ parts sentence. grammar.leads parts (to_nested parts sentence);
        sentence = λ parts led. of_nested parts (grammar.sentence parts led);
        goes_on = grammar.goes_on;
        limit = grammar.limit;
        before = grammar.before;
      }

  -- ---- what reading answers

  abbrev Run : State → ℕ → List Mark → Result State (Stop State What)
  Run state last marks = run passed never role_at move state last marks

  pub ends_stand : (marks : List Mark) (stop : State) (mark : Mark) → Run AtDim 0 marks ≡ Err (Ends stop mark) → is_whole stop ≡ false → TextEndsAt IsSentence passed marks mark.place
  ends_stand marks stop mark e part =
      ended_is passed never (nested.role_at standing) (nested.move standing) IsSentence (Inside AtDim) (Outside AtRest) standing_grammar (Inside stop) marks mark
      (run_ends passed never (nested.role_at standing) (nested.move standing) (Inside AtDim) (Inside stop) 0 marks mark (run_inside_ends standing passed never AtDim stop 0 marks mark e part))

  pub passes_stand : (marks : List Mark) (what : What) (place : ℕ) → Run AtDim 0 marks ≡ Err (Passes what place) → LimitStandsAt IsSentence passed never marks what place
  passes_stand marks what place e =
      passing_is passed never (nested.role_at standing) (nested.move standing) IsSentence (Inside AtDim) (Outside AtRest) standing_grammar marks what place
      (run_passes passed never (nested.role_at standing) (nested.move standing) (Inside AtDim) 0 marks what place (run_inside_passes standing passed never AtDim 0 marks what place e))

  placed_label : (n : ℕ) (mask : Mask) (symbol : Symbol) (place : ℕ) → IsPlacedAt place (label_role n mask symbol place)
  placed_label n mask (Numeral label) place = refl
  placed_label n mask (Word w) place = tt
  placed_label n mask (Sign s) place = tt
  placed_label n mask Gone place = tt
  placed_label n mask Stray place = tt
  placed_label n mask End place = tt

  pub placed_role : (state : State) (symbol : Symbol) (place : ℕ) → IsPlacedAt place (role_at state symbol place)
  placed_role AtDim symbol place = tt
  placed_role AtTop symbol place = tt
  placed_role (AtEmbeds n declared) symbol place = tt
  placed_role (AtName n declared) symbol place = refl
  placed_role (AtOrbit n declared name) symbol place = tt
  placed_role (AtLabel n declared name mask) symbol place = placed_label n mask symbol place
  placed_role (AtKind n declared name mask) symbol place = tt

  pub placed_along : (state last : State) (marks : List Mark) (parts : List (Part Role)) → Along passed never role_at move state marks parts last → ArePlaced IsPlacedAt marks parts
  placed_along state last [] parts along = tt
  placed_along state last (mark ∷ marks) [] along = tt
  placed_along state last (mark ∷ marks) (part ∷ parts) (next, is, moves, along) = rw is (placed_role state mark.symbol mark.place, placed_along next last marks parts along)

  -- the form that was read before other marks, and the schema that it is
  pub record IsStanding (marks rest : List Mark) (schema : Schema) : Type 0 where
    pub form : SchemaForm
    pub stands : Stands passed form marks rest
    pub means : schema ≡ schema_of form

  pub form_stands : (marks before rest : List Mark) (next : Mark) (others : List Mark) (n : ℕ) (embeds : List Embed) → Run AtDim 0 before ≡ Ok (AtEmbeds n embeds) → marks ≡ before ++ rest
      → rest ≡ next ∷ others → next.symbol ≢ Word (codes "embed") → IsStanding marks rest (record { dim = n; embeds = embeds })
  form_stands marks before rest next others n embeds e split behind ends =
      let read = run_reads passed never role_at move AtDim (AtEmbeds n embeds) 0 before e in
      let is = form_is passed read.parts (AtEmbeds n embeds) (along_leads passed never role_at move AtDim (AtEmbeds n embeds) before read.parts read.along) refl in
      let same : AtEmbeds n embeds ≡ AtEmbeds is.form.dim (map embed_of is.form.embeds) = is.end in
      let dim : n ≡ is.form.dim = cc same in
      let all : embeds ≡ map embed_of is.form.embeds = cc same in
      let placed = placed_along AtDim (AtEmbeds n embeds) before read.parts read.along in
      record {
        form = is.form;
        stands = record {
          before = before;
          split = split;
          good = is.good;
          spelled = along_spelled passed never role_at move AtDim (AtEmbeds n embeds) before read.parts read.along ∙ ap (λ (ps : List (Part Role)). map (λ part. part.symbol) ps) is.spelled;
          within = subst (λ (ps : List (Part Role)). IsWithin IsSentence passed ps) is.spelled read.within;
          placed = subst (λ (ps : List (Part Role)). ArePlaced IsPlacedAt before ps) is.spelled placed;
          next = next;
          others = others;
          behind = behind;
          ends = ends;
        };
        means = ap (λ (d : ℕ). let s : Schema = record { dim = d; embeds = embeds } in s) dim ∙ ap (λ (es : List Embed). let s : Schema = record { dim = is.form.dim; embeds = es } in s) all;
      }

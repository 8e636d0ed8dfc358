-- One expression at most stands at a place, the marks have one first fault by the grammar at most, and none where an expression stands.
use Rattle.std.proofs.Common.{◌≡◌, ℕ, List, [], ◌∷◌, ◌++◌, map, Result, Ok, Err, refl, sym, ap, ◌∙◌}
use Rattle.std.proofs.lemmas.List.{map-append}
use Rattle.gm_model.specs.declared.limit.LimitKind.{LimitKind}
use Rattle.gm_model.specs.Reading.{Part, IsWithin, IsReadAs, TextEndsAt, LimitStandsAt, symbols_in}
use Rattle.gm_model.specs.Symbols.{Symbol, Mark, symbols}
use Rattle.gm_text.specs.inner.Machine.{Stop, Ends, Passes, run}
use Rattle.gm_text.specs.inner.Nested.{Nested, Outside, Inside}
use Rattle.gm_text.specs.inner.Nested as nested
use Rattle.gm_text.proofs.Machine.{reading_runs, ends_run, passes_run}
use Rattle.gm_parse.specs.declared.fault.SyntaxFault.{SyntaxFault}
use Rattle.gm_parse.specs.declared.fault.SyntaxFault.TheVariants as faults
use Rattle.gm_parse.specs.Forms.{Form, IsGood}
use Rattle.gm_parse.specs.Spelling.{Counted, limit_in, symbols_of, parts_of, GoesOn, beyond, IsSentence, Stands}
use Rattle.gm_parse.specs.inner.Reading.{Spot, first_spot, never, Around, AtRest, standing}
use Rattle.gm_parse.specs.inner.Answers.{IsSyntaxFault}
use Rattle.gm_parse.proofs.Counted.{parts_symbols}
use Rattle.gm_parse.proofs.Standing.{standing_grammar}

-- ---- one expression

-- two beginnings of one list are the same, or one goes on behind the other
data Beside {A : Type 0} (xs rest ys end : List A) : Type 0 where
  Same : xs ≡ ys → rest ≡ end → Beside xs rest ys end
  Longer : (x : A) (more : List A) → ys ≡ xs ++ x ∷ more → rest ≡ x ∷ (more ++ end) → Beside xs rest ys end
  Shorter : (x : A) (more : List A) → xs ≡ ys ++ x ∷ more → end ≡ x ∷ (more ++ rest) → Beside xs rest ys end

beside : {A : Type 0} (xs rest ys end : List A) → xs ++ rest ≡ ys ++ end → Beside xs rest ys end
beside [] rest [] end same = Same refl same
beside [] rest (y ∷ ys) end same = Longer y ys refl same
beside (x ∷ xs) rest [] end same = Shorter x xs refl (sym same)
beside {A} (x ∷ xs) rest (y ∷ ys) end same =
    let head : x ≡ y = cc same in
    let tail : xs ++ rest ≡ ys ++ end = cc same in
    elim (beside xs rest ys end tail) [
      | Same e f ↦ Same (ap (λ (z : A). z ∷ xs) head ∙ ap (λ (zs : List A). y ∷ zs) e) f
      | Longer z more e f ↦ Longer z more (ap (λ (zs : List A). y ∷ zs) e ∙ ap (λ (w : A). w ∷ (xs ++ z ∷ more)) (sym head)) f
      | Shorter z more e f ↦ Shorter z more (ap (λ (zs : List A). x ∷ zs) e ∙ ap (λ (w : A). w ∷ (ys ++ z ∷ more)) head) f
    ]

module _ (n : ℕ) where
  goes_on : (form longer : Form) (before later : List Mark) (mark next : Mark) (more : List Mark) → IsGood longer → symbols before ≡ symbols_of n form → symbols later ≡ symbols_of n longer → later ≡ before ++ mark ∷ more → mark ≡ next → GoesOn n form next.symbol
  goes_on form longer before later mark next more good spelled goes at here = (
    longer,
    good,
    symbols more,
    sym goes ∙ ap symbols at ∙ map-append (λ (m : Mark). m.symbol) before (mark ∷ more) ∙ ap (λ (ss : List Symbol). ss ++ mark.symbol ∷ symbols more) spelled ∙ ap (λ (m : Mark). symbols_of n form ++ m.symbol ∷ symbols more) here,
  )

  -- the longest one is one
  pub one_stands : (form other : Form) (marks rest end : List Mark) (one : Stands n form marks rest) (two : Stands n other marks end) → (one.before ≡ two.before) × (rest ≡ end)
  one_stands form other marks rest end one two = elim (beside one.before rest two.before end (sym one.split ∙ two.split)) [
    | Same e f ↦ (e, f)
    | Longer mark more e f ↦
        let here : mark ≡ one.next = cc (sym f ∙ one.behind) in
        absurd (one.ends (goes_on form other one.before two.before mark one.next more two.good one.spelled two.spelled e here))
    | Shorter mark more e f ↦
        let here : mark ≡ two.next = cc (sym f ∙ two.behind) in
        absurd (two.ends (goes_on other form two.before one.before mark two.next more one.good two.spelled one.spelled e here))
  ]

  -- ---- one first fault

  abbrev Run : List Mark → Result (Nested Around Spot) (Stop (Nested Around Spot) LimitKind)
  Run marks = run limit_in never (nested.role_at (standing n)) (nested.move (standing n)) (Inside first_spot) 0 marks

  abbrev AreWithin : List (Part Counted) → Type 0
  AreWithin parts = IsWithin (IsSentence n) limit_in parts

  beyond_within : (others : List Symbol) → AreWithin (map beyond others)
  beyond_within [] = tt
  beyond_within (symbol ∷ others) = (refl, beyond_within others)

  within_append : (parts more : List (Part Counted)) → AreWithin parts → AreWithin more → AreWithin (parts ++ more)
  within_append [] more one two = two
  within_append (part ∷ parts) more one two = (one.0, within_append parts more one.1 two)

  beyond_symbols : (others : List Symbol) → symbols_in (map beyond others) ≡ others
  beyond_symbols [] = refl
  beyond_symbols (symbol ∷ others) = ap (λ (ss : List Symbol). symbol ∷ ss) (beyond_symbols others)

  standing_runs : (form : Form) (marks rest : List Mark) → Stands n form marks rest → Run marks ≡ Ok (Outside AtRest)
  standing_runs form marks rest stands =
      let more = map beyond (stands.next.symbol ∷ symbols stands.others) in
      let behind : symbols rest ≡ symbols_in more = ap symbols stands.behind ∙ sym (beyond_symbols (stands.next.symbol ∷ symbols stands.others)) in
      let read : IsReadAs (IsSentence n) limit_in marks (parts_of n form ++ more) = record {
        spelled = ap symbols stands.split ∙ map-append (λ (mark : Mark). mark.symbol) stands.before rest ∙ ap (λ (ss : List Symbol). ss ++ symbols rest) (stands.spelled ∙ sym (parts_symbols n form)) ∙ ap (λ (ss : List Symbol). symbols_in (parts_of n form) ++ ss) behind
            ∙ sym (map-append (λ (part : Part Counted). part.symbol) (parts_of n form) more);
        sentence = record { form = form; good = stands.good; next = stands.next.symbol; others = symbols stands.others; ends = stands.ends; spelled = refl };
        within = within_append (parts_of n form) more stands.within (beyond_within (stands.next.symbol ∷ symbols stands.others));
      } in
      reading_runs limit_in never (nested.role_at (standing n)) (nested.move (standing n)) (IsSentence n) (Inside first_spot) (Outside AtRest) (standing_grammar n) marks (parts_of n form ++ more) read

  text_run : (marks : List Mark) (place : ℕ) → TextEndsAt (IsSentence n) limit_in marks place → (stop : Nested Around Spot) × (mark : Mark) × (mark.place ≡ place) × (Run marks ≡ Err (Ends stop mark))
  text_run marks place ends = ends_run limit_in never (nested.role_at (standing n)) (nested.move (standing n)) (IsSentence n) (Inside first_spot) (Outside AtRest) (standing_grammar n) marks place ends

  limit_run : (marks : List Mark) (what : LimitKind) (place : ℕ) → LimitStandsAt (IsSentence n) limit_in never marks what place → Run marks ≡ Err (Passes what place)
  limit_run marks what place stands = passes_run limit_in never (nested.role_at (standing n)) (nested.move (standing n)) (IsSentence n) (Inside first_spot) (Outside AtRest) (standing_grammar n) marks what place stands

  pub no_syntax_fault : (form : Form) (marks rest : List Mark) (fault : SyntaxFault) → Stands n form marks rest → IsSyntaxFault n marks fault → ⊥
  no_syntax_fault form marks rest (faults.Text place) stands ends = let (stop, mark, at, is) = text_run marks place ends in let no_way : Ok (Outside AtRest) ≡ Err (Ends stop mark) = sym (standing_runs form marks rest stands) ∙ is in absurd cc
  no_syntax_fault form marks rest (faults.Limit what place) stands passes = let no_way : Ok (Outside AtRest) ≡ Err (Passes what place) = sym (standing_runs form marks rest stands) ∙ limit_run marks what place passes in absurd cc

  pub one_syntax_fault : (marks : List Mark) (fault other : SyntaxFault) → IsSyntaxFault n marks fault → IsSyntaxFault n marks other → fault ≡ other
  one_syntax_fault marks (faults.Text place) (faults.Text other) one two =
      let (stop, mark, at, is) = text_run marks place one in
      let (stop', mark', at', is') = text_run marks other two in
      let same : Err (Ends stop mark) ≡ Err (Ends stop' mark') = sym is ∙ is' in
      let there : mark ≡ mark' = cc same in
      ap (λ (p : ℕ). faults.Text p) (sym at ∙ ap (λ (m : Mark). m.place) there ∙ at')
  one_syntax_fault marks (faults.Text place) (faults.Limit what other) one two =
      let (stop, mark, at, is) = text_run marks place one in
      let no_way : Err (Ends stop mark) ≡ Err (Passes what other) = sym is ∙ limit_run marks what other two in
      absurd cc
  one_syntax_fault marks (faults.Limit what place) (faults.Text other) one two =
      let (stop, mark, at, is) = text_run marks other two in
      let no_way : Err (Ends stop mark) ≡ Err (Passes what place) = sym is ∙ limit_run marks what place one in
      absurd cc
  one_syntax_fault marks (faults.Limit what place) (faults.Limit thing other) one two =
      let same : Err (Passes what place) ≡ Err (Passes thing other) = sym (limit_run marks what place one) ∙ limit_run marks thing other two in
      let kind : what ≡ thing = cc same in
      let at : place ≡ other = cc same in
      ap (λ (l : LimitKind). faults.Limit l place) kind ∙ ap (λ (p : ℕ). faults.Limit thing p) at

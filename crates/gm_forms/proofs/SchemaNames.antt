-- A schema that passes no limit is read up to its first name or label that is there again, or to its end.
use Rattle.std.proofs.Common.{◌≡◌, ◌≢◌, ℕ, Bool, true, false, List, [], ◌∷◌, ◌++◌, map, None, Result, Err, refl, sym, ap, subst, ◌∙◌, codes}
use Rattle.std.proofs.lemmas.Bool.{false≢true}
use Rattle.std.proofs.lemmas.Slice.Eq.{bytes_eq-Decides}
use Rattle.std.specs.Str.{bytes_eq}
use Rattle.gm_model.specs.declared.limit.LimitKind.{LimitKind}
use Rattle.gm_model.specs.declared.schema.Embed.{Embed}
use Rattle.gm_model.specs.declared.word.Mask.{Mask}
use Rattle.gm_model.specs.Symbols.{Symbol, Word, Numeral, Sign, Gone, Stray, End, Mark, symbols}
use Rattle.gm_model.specs.Reading.{Part, IsWithin, symbols_in, ArePlaced}
use Rattle.gm_text.specs.inner.Cursor.{Cursor}
use Rattle.gm_text.specs.inner.Machine.{Stop, Ends, Passes, Leads}
use Rattle.gm_text.specs.SchemaText.{SchemaForm, Role, NameAt, LabelAt, Passed, LimitOf, Again, limit_of, is_again, embed_of, names_in, spell, IsSentence, IsPlacedAt}
use Rattle.gm_text.specs.inner.SchemaReading.{State, AtDim, AtTop, AtEmbeds, AtName, AtOrbit, AtLabel, AtKind, role_at, label_role, move, is_whole, never, Stands}
use Rattle.gm_text.specs.inner.SchemaAnswers.{marks_left, run_in, StopsOrLost}
use Rattle.gm_text.specs.declared.schema_fault.SchemaFault.{SchemaFault}
use Rattle.gm_text.specs.declared.schema_fault.SchemaFault.TheVariants as faults
use Rattle.gm_text.proofs.Machine.{Along, part_at}
use Rattle.gm_text.proofs.SchemaGrammar.{led_form}
use Rattle.gm_text.proofs.SchemaStanding.{placed_role, limit_placeless}
use Rattle.gm_forms.proofs.NamePlaces.{FirstAgain, Here, There}

-- ---- the marks of a form are its parts along the states

moved_label : (n : ℕ) (mask : Mask) (symbol : Symbol) (place other : ℕ) → IsPlacedAt other (label_role n mask symbol place) → label_role n mask symbol place ≡ label_role n mask symbol other
moved_label n mask (Numeral label) place other at = ap (LabelAt n mask) at
moved_label n mask (Word w) place other at = refl
moved_label n mask (Sign s) place other at = refl
moved_label n mask Gone place other at = refl
moved_label n mask Stray place other at = refl
moved_label n mask End place other at = refl

-- where a role says a place, it is the place of the mark
pub moved_role : (state : State) (symbol : Symbol) (place other : ℕ) → IsPlacedAt other (role_at state symbol place) → role_at state symbol place ≡ role_at state symbol other
moved_role AtDim symbol place other at = refl
moved_role AtTop symbol place other at = refl
moved_role (AtEmbeds n declared) symbol place other at = refl
moved_role (AtName n declared) symbol place other at = ap (NameAt (names_in declared)) at
moved_role (AtOrbit n declared name) symbol place other at = refl
moved_role (AtLabel n declared name mask) symbol place other at = moved_label n mask symbol place other at
moved_role (AtKind n declared name mask) symbol place other at = refl

abbrev AreAlong : State → List Mark → List (Part Role) → State → Type 0
AreAlong state marks parts last = Along limit_of never role_at move state marks parts last

led_along : (state last : State) (marks : List Mark) (parts : List (Part Role)) → Leads limit_of never role_at move state parts last → symbols marks ≡ symbols_in parts → ArePlaced IsPlacedAt marks parts → AreAlong state marks parts last
led_along state last [] [] e same placed = e
led_along state last [] (part ∷ parts) led same placed = absurd cc
led_along state last (mark ∷ marks) [] led same placed = absurd cc
led_along state last (mark ∷ marks) (part ∷ parts) (place, next, is, moves, led) same (here, placed) =
    let head : mark.symbol ≡ part.symbol = cc same in
    let tail : symbols marks ≡ symbols_in parts = cc same in
    let role : part.role ≡ role_at state part.symbol mark.place = is ∙ moved_role state part.symbol place mark.place (subst (IsPlacedAt mark.place) is here) in
    let part_is : part ≡ part_at limit_of never role_at move state mark =
    ap (λ (r : Role). let p : Part Role = record { symbol = part.symbol; role = r } in p) role
    ∙ ap (λ (s : Symbol). let p : Part Role = record { symbol = s; role = role_at state s mark.place } in p) (sym head) in
    (next, part_is, ap (move state) head ∙ moves, led_along next last marks parts led tail placed)

-- ---- reading with names judged

data Judged (last : State) (rest : List Mark) (parts : List (Part Role)) (answer : Result State (Stop State Passed)) : Type 0 where
  Stopped : (place : ℕ) → FirstAgain place parts → answer ≡ Err (Passes Again place) → Judged last rest parts answer
  Through : (k : ℕ) → answer ≡ run_in true last k rest → Judged last rest parts answer

judged : (state last : State) (start : ℕ) (before rest : List Mark) (parts : List (Part Role)) → AreAlong state before parts last → IsWithin IsSentence limit_of parts → Judged last rest parts (run_in true state start (before ++ rest))
judged state last start [] rest [] e within = Through start (ap (λ (s : State). run_in true s start rest) e)
judged state last start [] rest (part ∷ parts) e within = absurd e
judged state last start (mark ∷ before) rest [] e within = absurd e
judged state last start (mark ∷ before) rest (part ∷ parts) (next, is, moves, along) within =
    let symbol : part.symbol ≡ mark.symbol = ap (λ (p : Part Role). p.symbol) is in
    let role : part.role ≡ role_at state mark.symbol mark.place = ap (λ (p : Part Role). p.role) is in
    let limit : limit_of (role_at state mark.symbol mark.place) mark.symbol ≡ None = sym (ap (λ (p : Part Role). limit_of p.role p.symbol) is) ∙ within.0 in
    let here : IsPlacedAt mark.place part.role = subst (IsPlacedAt mark.place) (sym role) (placed_role limit_of limit_placeless state mark.symbol mark.place) in
    go (is_again part.role part.symbol) refl limit (ap (λ (p : Part Role). is_again p.role p.symbol) is) here (judged next last mark.place before rest parts along within.1)
  where
    go : (b : Bool) → is_again part.role part.symbol ≡ b → limit_of (role_at state mark.symbol mark.place) mark.symbol ≡ None → is_again part.role part.symbol ≡ is_again (role_at state mark.symbol mark.place) mark.symbol → IsPlacedAt mark.place part.role
        → Judged last rest parts (run_in true next mark.place (before ++ rest)) → Judged last rest (part ∷ parts) (run_in true state start (mark ∷ before ++ rest))
    go true e limit same here behind = let again : is_again (role_at state mark.symbol mark.place) mark.symbol ≡ true = sym same ∙ e in Stopped mark.place (Here part parts e here) (rw (moves, limit, again) refl)
    go false e limit same here (Stopped place first stops) =
        let new : is_again (role_at state mark.symbol mark.place) mark.symbol ≡ false = sym same ∙ e in
        Stopped place (There part parts e first) (rw (moves, limit, new) stops)
    go false e limit same here (Through k goes) =
        let new : is_again (role_at state mark.symbol mark.place) mark.symbol ≡ false = sym same ∙ e in
        Through k (rw (moves, limit, new) goes)

pub no_embed : (n : ℕ) (declared : List Embed) (symbol : Symbol) → symbol ≢ Word (codes "embed") → move (AtEmbeds n declared) symbol ≡ None
no_embed n declared (Word w) other = go (bytes_eq w (codes "embed")) refl
  where
    go : (b : Bool) → bytes_eq w (codes "embed") ≡ b → move (AtEmbeds n declared) (Word w) ≡ None
    go true e = absurd (other (ap Word ((bytes_eq-Decides w (codes "embed")).0 e)))
    go false e = rw e refl
no_embed n declared (Numeral m) other = refl
no_embed n declared (Sign s) other = refl
no_embed n declared Gone other = refl
no_embed n declared Stray other = refl
no_embed n declared End other = refl

-- behind the form reading with names judged stops where no embedding begins, and there a schema can end
at_end : (n : ℕ) (declared : List Embed) (k : ℕ) (next : Mark) (others : List Mark) → next.symbol ≢ Word (codes "embed") → run_in true (AtEmbeds n declared) k (next ∷ others) ≡ Err (Ends (AtEmbeds n declared) next)
at_end n declared k next others other = rw (no_embed n declared next.symbol other) refl

module _ (form : SchemaForm) (marks rest : List Mark) (stands : Stands limit_of form marks rest) where
  answered : Judged (AtEmbeds form.dim (map embed_of form.embeds)) rest (spell form []) (run_in true AtDim 0 marks)
  answered =
      let last = AtEmbeds form.dim (map embed_of form.embeds) in
      let along = led_along AtDim last stands.before (spell form []) (led_form limit_of form stands.good) stands.spelled stands.placed in
      subst (λ (ms : List Mark). Judged last rest (spell form []) (run_in true AtDim 0 ms)) (sym stands.split) (judged AtDim last 0 stands.before rest (spell form []) along stands.within)

  ends_behind : (k : ℕ) → run_in true (AtEmbeds form.dim (map embed_of form.embeds)) k rest ≡ Err (Ends (AtEmbeds form.dim (map embed_of form.embeds)) stands.next)
  ends_behind k = ap (run_in true (AtEmbeds form.dim (map embed_of form.embeds)) k) stands.behind ∙ at_end form.dim (map embed_of form.embeds) k stands.next stands.others stands.ends

  -- so the fault of a schema that passes no limit is its first name or label that is there again
  abbrev pub IsFaultOfSchema : SchemaFault → Type 0
  IsFaultOfSchema (faults.Text place) = ⊥
  IsFaultOfSchema (faults.Limit what place) = ⊥
  IsFaultOfSchema (faults.Twice place) = FirstAgain place (spell form [])
  IsFaultOfSchema faults.OutOfMemory = Unit {0}

  no_text : (stop : State) (mark : Mark) → run_in true AtDim 0 marks ≡ Err (Ends stop mark) → is_whole stop ≡ false → ⊥
  no_text stop mark ends part = elim answered [
    | Stopped place first stops ↦ (let both : Err (Passes Again place) ≡ Err (Ends stop mark) = sym stops ∙ ends in absurd cc)
    | Through k goes ↦ (let both : Err (Ends (AtEmbeds form.dim (map embed_of form.embeds)) stands.next) ≡ Err (Ends stop mark) = sym (ends_behind k) ∙ sym goes ∙ ends in
        let one : AtEmbeds form.dim (map embed_of form.embeds) ≡ stop = cc both in
        absurd (false≢true (sym part ∙ sym (ap is_whole one))))
  ]

  no_limit : (what : LimitKind) (place : ℕ) → run_in true AtDim 0 marks ≡ Err (Passes (LimitOf what) place) → ⊥
  no_limit what place passes = elim answered [
    | Stopped at first stops ↦ (let both : Err (Passes Again at) ≡ Err (Passes (LimitOf what) place) = sym stops ∙ passes in absurd cc)
    | Through k goes ↦ (let both : Err (Ends (AtEmbeds form.dim (map embed_of form.embeds)) stands.next) ≡ Err (Passes (LimitOf what) place) = sym (ends_behind k) ∙ sym goes ∙ passes in absurd cc)
  ]

  first_twice : (place : ℕ) → run_in true AtDim 0 marks ≡ Err (Passes Again place) → FirstAgain place (spell form [])
  first_twice place passes = elim answered [
    | Stopped at first stops ↦ (let both : Err (Passes Again at) ≡ Err (Passes Again place) = sym stops ∙ passes in
        let same : at ≡ place = cc both in subst (λ (p : ℕ). FirstAgain p (spell form [])) same first)
    | Through k goes ↦ (let both : Err (Ends (AtEmbeds form.dim (map embed_of form.embeds)) stands.next) ≡ Err (Passes Again place) = sym (ends_behind k) ∙ sym goes ∙ passes in absurd cc)
  ]

  pub schema_fault : (old : Cursor) (fault : SchemaFault) → marks_left old ≡ marks → StopsOrLost true AtDim old fault → IsFaultOfSchema fault
  schema_fault old (faults.Text place) at stops = no_text stops.stop stops.mark (ap (run_in true AtDim 0) (sym at) ∙ stops.ends 0) stops.part
  schema_fault old (faults.Limit what place) at stops = no_limit what place (ap (run_in true AtDim 0) (sym at) ∙ stops 0)
  schema_fault old (faults.Twice place) at stops = first_twice place (ap (run_in true AtDim 0) (sym at) ∙ stops 0)
  schema_fault old faults.OutOfMemory at stops = tt

-- A text has its statements written in one way at most.
use Rattle.std.proofs.Common.{◌≡◌, ◌≢◌, ℕ, ◌+◌, Bool, true, false, if◌then◌else◌, List, [], ◌∷◌, ◌++◌, map, Some, refl, sym, ap, subst, ◌∙◌, codes}
use Rattle.std.proofs.lemmas.Slice.Eq.{bytes_eq-Decides}
use Rattle.std.specs.Str.{bytes_eq}
use Rattle.gm_model.specs.Symbols.{Symbol, Word, Numeral, Sign, Stray, End, Mark, symbols, marks_of}
use Rattle.gm_model.specs.Reading.{Part, symbols_in, word, number, sign, the_end, ArePlaced}
use Rattle.gm_model.specs.declared.word.Mask.{Mask}
use Rattle.gm_text.specs.SchemaText.{no_labels, with_label}
use Rattle.gm_script.specs.ScriptText.{ValueForm, Plain, Truth, Pair, Triple, LineForm, EachForm, StatForm, Applies, GoesOver, Says, Bare, Undo, Redo, Group, Close, Role, Fixed, StatAt, RuleAt, Hook, LabelBehind, Size, bare_word, spell_signed, spell_value, spell_values, spell_params, spell_labels, spell_stats, spelling, IsPlacedAt, IsWritten}
use Rattle.gm_text.specs.ValueText.{Signed}
use Rattle.gm_script.specs.inner.Reading.{Been, State, At, Ended, first_state, move, sight_of, role_in, role_at}
use Rattle.gm_script.specs.declared.sight.Sight.{Sight}
use Rattle.gm_script.specs.declared.sight.Sight.TheVariants as sights
use Rattle.gm_script.specs.declared.spot.Spot.{Spot}
use Rattle.gm_script.specs.declared.spot.Spot.TheVariants as spots
use Rattle.gm_script.proofs.Leads.{Led, sentence_leads}

-- ---- the parts are the same

module _ (n : ℕ) where
  role_here : (spot : Spot) (been : Been) (sight : Sight) (place here : ℕ) → IsPlacedAt here (role_in n spot been sight place) → role_in n spot been sight place ≡ role_in n spot been sight here
  role_here spots.Apply been sight place here is = ap RuleAt is
  role_here spots.Over been sight place here is = ap RuleAt is
  role_here spots.Rule been (sights.Number m) place here is = refl
  role_here spots.Orbit been (sights.Number m) place here is = refl
  role_here _ been (sights.Begins head) place here is = ap (StatAt (been.begun + 1)) is
  role_here _ been _ place here is = refl

  state_role_here : (state : State) (symbol : Symbol) (place here : ℕ) → IsPlacedAt here (role_at n state symbol place) → role_at n state symbol place ≡ role_at n state symbol here
  state_role_here Ended symbol place here is = refl
  state_role_here (At spot been) symbol place here is = role_here spot been (sight_of symbol) place here is

  part_here : (state : State) (mark : Mark) (part : Part Role) (place : ℕ) → mark.symbol ≡ part.symbol → part.role ≡ role_at n state part.symbol place → IsPlacedAt mark.place part.role
      → part ≡ record { symbol = mark.symbol; role = role_at n state mark.symbol mark.place }
  part_here state mark part place same role is =
      let here : part.role ≡ role_at n state part.symbol mark.place = role ∙ state_role_here state part.symbol place mark.place (subst (IsPlacedAt mark.place) role is) in
      let at : part.role ≡ role_at n state mark.symbol mark.place = here ∙ ap (λ (s : Symbol). role_at n state s mark.place) (sym same) in
      ap (λ (s : Symbol). let p : Part Role = record { symbol = s; role = part.role } in p) (sym same) ∙ ap (λ (r : Role). let p : Part Role = record { symbol = mark.symbol; role = r } in p) at

  same_parts : (state : State) (marks : List Mark) (ones others : List (Part Role)) → Led n state ones → Led n state others → symbols marks ≡ symbols_in ones → symbols marks ≡ symbols_in others
      → ArePlaced IsPlacedAt marks ones → ArePlaced IsPlacedAt marks others → ones ≡ others
  same_parts state [] [] [] led led' e f placed placed' = refl
  same_parts state [] (part ∷ ones) others led led' e f placed placed' = absurd cc
  same_parts state [] [] (part ∷ others) led led' e f placed placed' = absurd cc
  same_parts state (mark ∷ marks) [] others led led' e f placed placed' = absurd cc
  same_parts state (mark ∷ marks) (one ∷ ones) [] led led' e f placed placed' = absurd cc
  same_parts state (mark ∷ marks) (one ∷ ones) (other ∷ others) (place, next, is, moves, led) (place', next', is', moves', led') e f placed placed' =
      let head : mark.symbol ≡ one.symbol = cc e in
      let head' : mark.symbol ≡ other.symbol = cc f in
      let tail : symbols marks ≡ symbols_in ones = cc e in
      let tail' : symbols marks ≡ symbols_in others = cc f in
      let to : Some next' ≡ Some next = sym moves' ∙ ap (move state) (sym head') ∙ ap (move state) head ∙ moves in
      let same_next : next' ≡ next = cc to in
      let first : one ≡ other = part_here state mark one place head is placed.0 ∙ sym (part_here state mark other place' head' is' placed'.0) in
      let rest : ones ≡ others = same_parts next marks ones others led (subst (λ s. Led n s others) same_next led') tail tail' placed.1 placed'.1 in
      ap (λ (p : Part Role). p ∷ ones) first ∙ ap (λ (ps : List (Part Role)). other ∷ ps) rest

  pub written_parts : (text : List ℕ) (ones others : List StatForm) → IsWritten n text ones → IsWritten n text others → spelling n ones ≡ spelling n others
  written_parts text ones others one other =
      same_parts first_state (marks_of text) (spelling n ones) (spelling n others) (sentence_leads n (spelling n ones) (ones, one.form, refl)) (sentence_leads n (spelling n others) (others, other.form, refl))
      one.read.spelled other.read.spelled one.placed other.placed

-- ---- and so are the statements

abbrev tail_of : List (Part Role) → List (Part Role)
tail_of [] = []
tail_of (p ∷ ps) = ps

abbrev head_symbol : List (Part Role) → Symbol
head_symbol [] = Stray
head_symbol (p ∷ ps) = p.symbol

abbrev head_place : List (Part Role) → ℕ
head_place [] = 0
head_place (p ∷ ps) = place_of p.role
  where
    place_of : Role → ℕ
    place_of (StatAt k place) = place
    place_of (RuleAt place) = place
    place_of _ = 0

-- the bytes of a word or a sign
abbrev bytes_in : Symbol → List ℕ
bytes_in (Word bytes) = bytes
bytes_in (Sign bytes) = bytes
bytes_in _ = []

abbrev size_in : Symbol → ℕ
size_in (Numeral n) = n
size_in _ = 0

signed_of : (b c : Bool) (m n : ℕ) (r s : List (Part Role))
    → (if b then sign Fixed (codes "-") ∷ number (Size true) m ∷ r else number (Size false) m ∷ r) ≡ (if c then sign Fixed (codes "-") ∷ number (Size true) n ∷ s else number (Size false) n ∷ s)
    → (b ≡ c) × (m ≡ n) × (r ≡ s)
signed_of true true m n r s e = (refl, ap (λ (ps : List (Part Role)). size_in (head_symbol (tail_of ps))) e, ap (λ (ps : List (Part Role)). tail_of (tail_of ps)) e)
signed_of false false m n r s e = (refl, ap (λ (ps : List (Part Role)). size_in (head_symbol ps)) e, ap tail_of e)
signed_of true false m n r s e = let heads : Sign (codes "-") ≡ Numeral n = ap head_symbol e in absurd cc
signed_of false true m n r s e = let heads : Numeral m ≡ Sign (codes "-") = ap head_symbol e in absurd cc

signed_same : (x y : Signed) (r s : List (Part Role)) → spell_signed x r ≡ spell_signed y s → (x ≡ y) × (r ≡ s)
signed_same x y r s e =
    let same = signed_of x.minus y.minus x.size y.size r s e in
    (ap (λ (b : Bool). let v : Signed = record { minus = b; size = x.size } in v) same.0 ∙ ap (λ (n : ℕ). let v : Signed = record { minus = y.minus; size = n } in v) same.1, same.2)

-- a number begins with a minus or with itself
apart : (b : Bool) (n : ℕ) (r : List (Part Role)) (p : Part Role) (s : List (Part Role)) → (p ≡ sign Fixed (codes "-") → ⊥) → ((m : ℕ) → p ≡ number (Size false) m → ⊥)
    → (if b then sign Fixed (codes "-") ∷ number (Size true) n ∷ r else number (Size false) n ∷ r) ≡ p ∷ s → ⊥
apart true n r p s minus size e = minus (cc e)
apart false n r p s minus size e = size n (cc e)

no_sign_number : (b : Bool) (n : ℕ) (r : List (Part Role)) (bytes : List ℕ) (s : List (Part Role)) → bytes ≢ codes "-" → (if b then sign Fixed (codes "-") ∷ number (Size true) n ∷ r else number (Size false) n ∷ r) ≡ sign Fixed bytes ∷ s → ⊥
no_sign_number b n r bytes s other =
    apart b n r (sign Fixed bytes) s (λ e. other (ap (λ (p : Part Role). bytes_in p.symbol) e)) (λ m e. let symbols_are : Sign bytes ≡ Numeral m = ap (λ (p : Part Role). p.symbol) e in absurd cc)

no_word_number : (b : Bool) (n : ℕ) (r : List (Part Role)) (bytes : List ℕ) (s : List (Part Role)) → (if b then sign Fixed (codes "-") ∷ number (Size true) n ∷ r else number (Size false) n ∷ r) ≡ word Fixed bytes ∷ s → ⊥
no_word_number b n r bytes s =
    apart b n r (word Fixed bytes) s (λ e. let symbols_are : Word bytes ≡ Sign (codes "-") = ap (λ (p : Part Role). p.symbol) e in absurd cc) (λ m e. let symbols_are : Word bytes ≡ Numeral m = ap (λ (p : Part Role). p.symbol) e in absurd cc)

plain_same_plain : (x y : Signed) (r s : List (Part Role)) → spell_value (Plain x) r ≡ spell_value (Plain y) s → (Plain x ≡ Plain y) × (r ≡ s)
plain_same_plain x y r s e = let same = signed_same x y r s e in (ap Plain same.0, same.1)

plain_same_truth_true : (x : Signed) (r s : List (Part Role)) → spell_value (Plain x) r ≡ spell_value (Truth true) s → (Plain x ≡ Truth true) × (r ≡ s)
plain_same_truth_true x r s e = absurd (no_word_number x.minus x.size r (codes "true") s e)

plain_same_truth_false : (x : Signed) (r s : List (Part Role)) → spell_value (Plain x) r ≡ spell_value (Truth false) s → (Plain x ≡ Truth false) × (r ≡ s)
plain_same_truth_false x r s e = absurd (no_word_number x.minus x.size r (codes "false") s e)

plain_same_pair : (x y z : Signed) (r s : List (Part Role)) → spell_value (Plain x) r ≡ spell_value (Pair y z) s → (Plain x ≡ Pair y z) × (r ≡ s)
plain_same_pair x y z r s e = absurd (no_sign_number x.minus x.size r (codes "(") (spell_signed y (spell_signed z (sign Fixed (codes ")") ∷ s))) (λ f. absurd (cc f)) e)

plain_same_triple : (x y z u : Signed) (r s : List (Part Role)) → spell_value (Plain x) r ≡ spell_value (Triple y z u) s → (Plain x ≡ Triple y z u) × (r ≡ s)
plain_same_triple x y z u r s e = absurd (no_sign_number x.minus x.size r (codes "(") (spell_signed y (spell_signed z (spell_signed u (sign Fixed (codes ")") ∷ s)))) (λ f. absurd (cc f)) e)

plain_same : (x : Signed) (w : ValueForm) (r s : List (Part Role)) → spell_value (Plain x) r ≡ spell_value w s → (Plain x ≡ w) × (r ≡ s)
plain_same x (Plain y) r s e = plain_same_plain x y r s e
plain_same x (Truth true) r s e = plain_same_truth_true x r s e
plain_same x (Truth false) r s e = plain_same_truth_false x r s e
plain_same x (Pair y z) r s e = plain_same_pair x y z r s e
plain_same x (Triple y z u) r s e = plain_same_triple x y z u r s e

true_same_plain : (y : Signed) (r s : List (Part Role)) → spell_value (Truth true) r ≡ spell_value (Plain y) s → (Truth true ≡ Plain y) × (r ≡ s)
true_same_plain y r s e = absurd (no_word_number y.minus y.size s (codes "true") r (sym e))

true_same_truth_true : (r s : List (Part Role)) → spell_value (Truth true) r ≡ spell_value (Truth true) s → (Truth true ≡ Truth true) × (r ≡ s)
true_same_truth_true r s e = (refl, ap tail_of e)

true_same_truth_false : (r s : List (Part Role)) → spell_value (Truth true) r ≡ spell_value (Truth false) s → (Truth true ≡ Truth false) × (r ≡ s)
true_same_truth_false r s e = let heads : Word (codes "true") ≡ Word (codes "false") = ap head_symbol e in absurd cc

true_same_pair : (y z : Signed) (r s : List (Part Role)) → spell_value (Truth true) r ≡ spell_value (Pair y z) s → (Truth true ≡ Pair y z) × (r ≡ s)
true_same_pair y z r s e = let heads : Word (codes "true") ≡ Sign (codes "(") = ap head_symbol e in absurd cc

true_same_triple : (y z u : Signed) (r s : List (Part Role)) → spell_value (Truth true) r ≡ spell_value (Triple y z u) s → (Truth true ≡ Triple y z u) × (r ≡ s)
true_same_triple y z u r s e = let heads : Word (codes "true") ≡ Sign (codes "(") = ap head_symbol e in absurd cc

true_same : (w : ValueForm) (r s : List (Part Role)) → spell_value (Truth true) r ≡ spell_value w s → (Truth true ≡ w) × (r ≡ s)
true_same (Plain y) r s e = true_same_plain y r s e
true_same (Truth true) r s e = true_same_truth_true r s e
true_same (Truth false) r s e = true_same_truth_false r s e
true_same (Pair y z) r s e = true_same_pair y z r s e
true_same (Triple y z u) r s e = true_same_triple y z u r s e

false_same_plain : (y : Signed) (r s : List (Part Role)) → spell_value (Truth false) r ≡ spell_value (Plain y) s → (Truth false ≡ Plain y) × (r ≡ s)
false_same_plain y r s e = absurd (no_word_number y.minus y.size s (codes "false") r (sym e))

false_same_truth_true : (r s : List (Part Role)) → spell_value (Truth false) r ≡ spell_value (Truth true) s → (Truth false ≡ Truth true) × (r ≡ s)
false_same_truth_true r s e = let heads : Word (codes "false") ≡ Word (codes "true") = ap head_symbol e in absurd cc

false_same_truth_false : (r s : List (Part Role)) → spell_value (Truth false) r ≡ spell_value (Truth false) s → (Truth false ≡ Truth false) × (r ≡ s)
false_same_truth_false r s e = (refl, ap tail_of e)

false_same_pair : (y z : Signed) (r s : List (Part Role)) → spell_value (Truth false) r ≡ spell_value (Pair y z) s → (Truth false ≡ Pair y z) × (r ≡ s)
false_same_pair y z r s e = let heads : Word (codes "false") ≡ Sign (codes "(") = ap head_symbol e in absurd cc

false_same_triple : (y z u : Signed) (r s : List (Part Role)) → spell_value (Truth false) r ≡ spell_value (Triple y z u) s → (Truth false ≡ Triple y z u) × (r ≡ s)
false_same_triple y z u r s e = let heads : Word (codes "false") ≡ Sign (codes "(") = ap head_symbol e in absurd cc

false_same : (w : ValueForm) (r s : List (Part Role)) → spell_value (Truth false) r ≡ spell_value w s → (Truth false ≡ w) × (r ≡ s)
false_same (Plain y) r s e = false_same_plain y r s e
false_same (Truth true) r s e = false_same_truth_true r s e
false_same (Truth false) r s e = false_same_truth_false r s e
false_same (Pair y z) r s e = false_same_pair y z r s e
false_same (Triple y z u) r s e = false_same_triple y z u r s e

pair_same_plain : (x y z : Signed) (r s : List (Part Role)) → spell_value (Pair x y) r ≡ spell_value (Plain z) s → (Pair x y ≡ Plain z) × (r ≡ s)
pair_same_plain x y z r s e = absurd (no_sign_number z.minus z.size s (codes "(") (spell_signed x (spell_signed y (sign Fixed (codes ")") ∷ r))) (λ f. absurd (cc f)) (sym e))

pair_same_truth_true : (x y : Signed) (r s : List (Part Role)) → spell_value (Pair x y) r ≡ spell_value (Truth true) s → (Pair x y ≡ Truth true) × (r ≡ s)
pair_same_truth_true x y r s e = let heads : Sign (codes "(") ≡ Word (codes "true") = ap head_symbol e in absurd cc

pair_same_truth_false : (x y : Signed) (r s : List (Part Role)) → spell_value (Pair x y) r ≡ spell_value (Truth false) s → (Pair x y ≡ Truth false) × (r ≡ s)
pair_same_truth_false x y r s e = let heads : Sign (codes "(") ≡ Word (codes "false") = ap head_symbol e in absurd cc

pair_same_pair : (x y x' y' : Signed) (r s : List (Part Role)) → spell_value (Pair x y) r ≡ spell_value (Pair x' y') s → (Pair x y ≡ Pair x' y') × (r ≡ s)
pair_same_pair x y x' y' r s e =
    let one = signed_same x x' (spell_signed y (sign Fixed (codes ")") ∷ r)) (spell_signed y' (sign Fixed (codes ")") ∷ s)) (ap tail_of e) in
    let two = signed_same y y' (sign Fixed (codes ")") ∷ r) (sign Fixed (codes ")") ∷ s) one.1 in
    (ap (λ (u : Signed). Pair u y) one.0 ∙ ap (Pair x') two.0, ap tail_of two.1)

pair_same_triple : (x y x' y' z' : Signed) (r s : List (Part Role)) → spell_value (Pair x y) r ≡ spell_value (Triple x' y' z') s → (Pair x y ≡ Triple x' y' z') × (r ≡ s)
pair_same_triple x y x' y' z' r s e =
    let one = signed_same x x' (spell_signed y (sign Fixed (codes ")") ∷ r)) (spell_signed y' (spell_signed z' (sign Fixed (codes ")") ∷ s))) (ap tail_of e) in
    let two = signed_same y y' (sign Fixed (codes ")") ∷ r) (spell_signed z' (sign Fixed (codes ")") ∷ s)) one.1 in
    absurd (no_sign_number z'.minus z'.size (sign Fixed (codes ")") ∷ s) (codes ")") r (λ f. absurd (cc f)) (sym two.1))

pair_same : (x y : Signed) (w : ValueForm) (r s : List (Part Role)) → spell_value (Pair x y) r ≡ spell_value w s → (Pair x y ≡ w) × (r ≡ s)
pair_same x y (Plain z) r s e = pair_same_plain x y z r s e
pair_same x y (Truth true) r s e = pair_same_truth_true x y r s e
pair_same x y (Truth false) r s e = pair_same_truth_false x y r s e
pair_same x y (Pair x' y') r s e = pair_same_pair x y x' y' r s e
pair_same x y (Triple x' y' z') r s e = pair_same_triple x y x' y' z' r s e

triple_same_plain : (x y z u : Signed) (r s : List (Part Role)) → spell_value (Triple x y z) r ≡ spell_value (Plain u) s → (Triple x y z ≡ Plain u) × (r ≡ s)
triple_same_plain x y z u r s e = absurd (no_sign_number u.minus u.size s (codes "(") (spell_signed x (spell_signed y (spell_signed z (sign Fixed (codes ")") ∷ r)))) (λ f. absurd (cc f)) (sym e))

triple_same_truth_true : (x y z : Signed) (r s : List (Part Role)) → spell_value (Triple x y z) r ≡ spell_value (Truth true) s → (Triple x y z ≡ Truth true) × (r ≡ s)
triple_same_truth_true x y z r s e = let heads : Sign (codes "(") ≡ Word (codes "true") = ap head_symbol e in absurd cc

triple_same_truth_false : (x y z : Signed) (r s : List (Part Role)) → spell_value (Triple x y z) r ≡ spell_value (Truth false) s → (Triple x y z ≡ Truth false) × (r ≡ s)
triple_same_truth_false x y z r s e = let heads : Sign (codes "(") ≡ Word (codes "false") = ap head_symbol e in absurd cc

triple_same_pair : (x y z x' y' : Signed) (r s : List (Part Role)) → spell_value (Triple x y z) r ≡ spell_value (Pair x' y') s → (Triple x y z ≡ Pair x' y') × (r ≡ s)
triple_same_pair x y z x' y' r s e =
    let one = signed_same x x' (spell_signed y (spell_signed z (sign Fixed (codes ")") ∷ r))) (spell_signed y' (sign Fixed (codes ")") ∷ s)) (ap tail_of e) in
    let two = signed_same y y' (spell_signed z (sign Fixed (codes ")") ∷ r)) (sign Fixed (codes ")") ∷ s) one.1 in
    absurd (no_sign_number z.minus z.size (sign Fixed (codes ")") ∷ r) (codes ")") s (λ f. absurd (cc f)) two.1)

triple_same_triple : (x y z x' y' z' : Signed) (r s : List (Part Role)) → spell_value (Triple x y z) r ≡ spell_value (Triple x' y' z') s → (Triple x y z ≡ Triple x' y' z') × (r ≡ s)
triple_same_triple x y z x' y' z' r s e =
    let one = signed_same x x' (spell_signed y (spell_signed z (sign Fixed (codes ")") ∷ r))) (spell_signed y' (spell_signed z' (sign Fixed (codes ")") ∷ s))) (ap tail_of e) in
    let two = signed_same y y' (spell_signed z (sign Fixed (codes ")") ∷ r)) (spell_signed z' (sign Fixed (codes ")") ∷ s)) one.1 in
    let three = signed_same z z' (sign Fixed (codes ")") ∷ r) (sign Fixed (codes ")") ∷ s) two.1 in
    ((λ i. Triple (one.0 i) (two.0 i) (three.0 i)), ap tail_of three.1)

triple_same : (x y z : Signed) (w : ValueForm) (r s : List (Part Role)) → spell_value (Triple x y z) r ≡ spell_value w s → (Triple x y z ≡ w) × (r ≡ s)
triple_same x y z (Plain u) r s e = triple_same_plain x y z u r s e
triple_same x y z (Truth true) r s e = triple_same_truth_true x y z r s e
triple_same x y z (Truth false) r s e = triple_same_truth_false x y z r s e
triple_same x y z (Pair x' y') r s e = triple_same_pair x y z x' y' r s e
triple_same x y z (Triple x' y' z') r s e = triple_same_triple x y z x' y' z' r s e

value_same : (v w : ValueForm) (r s : List (Part Role)) → spell_value v r ≡ spell_value w s → (v ≡ w) × (r ≡ s)
value_same (Plain x) w r s e = plain_same x w r s e
value_same (Truth true) w r s e = true_same w r s e
value_same (Truth false) w r s e = false_same w r s e
value_same (Pair x y) w r s e = pair_same x y w r s e
value_same (Triple x y z) w r s e = triple_same x y z w r s e

-- ---- what stands behind a statement

abbrev stop_part : Symbol → Role → Bool
stop_part End Fixed = true
stop_part (Word bytes) (StatAt k place) = true
stop_part _ _ = false

-- a statement or the end stands there
abbrev stops : List (Part Role) → Bool
stops [] = false
stops (p ∷ ps) = stop_part p.symbol p.role

value_goes_on : (v : ValueForm) (r : List (Part Role)) → stops (spell_value v r) ≡ false
value_goes_on (Plain x) r =
    by x.minus
  where
    by : (b : Bool) → stops (if b then sign Fixed (codes "-") ∷ number (Size true) x.size ∷ r else number (Size false) x.size ∷ r) ≡ false
    by true = refl
    by false = refl
value_goes_on (Truth true) r = refl
value_goes_on (Truth false) r = refl
value_goes_on (Pair x y) r = refl
value_goes_on (Triple x y z) r = refl

never_both : (r s : List (Part Role)) → stops r ≡ true → stops s ≡ false → r ≡ s → ⊥
never_both r s one other e = let both : true ≡ false = sym one ∙ ap stops e ∙ other in absurd cc

values_same : (vs ws : List ValueForm) (r s : List (Part Role)) → stops r ≡ true → stops s ≡ true → spell_values vs r ≡ spell_values ws s → (vs ≡ ws) × (r ≡ s)
values_same [] [] r s one other e = (refl, e)
values_same [] (w ∷ ws) r s one other e = absurd (never_both r (spell_value w (spell_values ws s)) one (value_goes_on w (spell_values ws s)) e)
values_same (v ∷ vs) [] r s one other e = absurd (never_both s (spell_value v (spell_values vs r)) other (value_goes_on v (spell_values vs r)) (sym e))
values_same (v ∷ vs) (w ∷ ws) r s one other e =
    let first = value_same v w (spell_values vs r) (spell_values ws s) e in
    let rest = values_same vs ws r s one other first.1 in
    ((λ i. first.0 i ∷ rest.0 i), rest.1)

params_same : (vs ws : List ValueForm) (r s : List (Part Role)) → stops r ≡ true → stops s ≡ true → spell_params vs r ≡ spell_params ws s → (vs ≡ ws) × (r ≡ s)
params_same [] [] r s one other e = (refl, e)
params_same [] (w ∷ ws) r s one other e = absurd (never_both r (spell_params (w ∷ ws) s) one refl e)
params_same (v ∷ vs) [] r s one other e = absurd (never_both s (spell_params (v ∷ vs) r) other refl (sym e))
params_same (v ∷ vs) (w ∷ ws) r s one other e = values_same (v ∷ vs) (w ∷ ws) r s one other (ap tail_of e)

abbrev is_hook : Role → Bool
is_hook Hook = true
is_hook _ = false

abbrev hook_first : List (Part Role) → Bool
hook_first [] = false
hook_first (p ∷ ps) = is_hook p.role

no_hook_stops : (symbol : Symbol) (role : Role) → stop_part symbol role ≡ true → is_hook role ≡ false
no_hook_stops symbol Hook e = absurd (by symbol e)
  where
    by : (symbol : Symbol) → stop_part symbol Hook ≡ true → ⊥
    by (Word bytes) e = absurd cc
    by End e = absurd cc
    by _ e = absurd cc
no_hook_stops symbol _ e = refl

no_hook : (vs : List ValueForm) (r : List (Part Role)) → stops r ≡ true → hook_first (spell_params vs r) ≡ false
no_hook [] [] one = absurd cc
no_hook [] (p ∷ r) one = no_hook_stops p.symbol p.role one
no_hook (v ∷ vs) r one = refl

hooks_same : (hooks others : List ℕ) (r s : List (Part Role)) → hook_first r ≡ false → hook_first s ≡ false → map (number Hook) hooks ++ r ≡ map (number Hook) others ++ s → (hooks ≡ others) × (r ≡ s)
hooks_same [] [] r s one other e = (refl, e)
hooks_same [] (n ∷ others) r s one other e = let both : false ≡ true = sym one ∙ ap hook_first e in absurd cc
hooks_same (n ∷ hooks) [] r s one other e = let both : true ≡ false = ap hook_first e ∙ other in absurd cc
hooks_same (n ∷ hooks) (m ∷ others) r s one other e =
    let head : n ≡ m = ap (λ (ps : List (Part Role)). size_in (head_symbol ps)) e in
    let rest = hooks_same hooks others r s one other (ap tail_of e) in
    ((λ i. head i ∷ rest.0 i), rest.1)

-- ---- labels

abbrev is_label : Role → Bool
is_label (LabelBehind n mask) = true
is_label _ = false

abbrev label_first : List (Part Role) → Bool
label_first [] = false
label_first (p ∷ ps) = is_label p.role

labels_same : (n : ℕ) (mask : Mask) (labels others : List ℕ) (r s : List (Part Role)) → label_first r ≡ false → label_first s ≡ false → spell_labels n mask labels r ≡ spell_labels n mask others s → (labels ≡ others) × (r ≡ s)
labels_same n mask [] [] r s one other e = (refl, e)
labels_same n mask [] (m ∷ others) r s one other e = let both : false ≡ true = sym one ∙ ap label_first e in absurd cc
labels_same n mask (m ∷ labels) [] r s one other e = let both : true ≡ false = ap label_first e ∙ other in absurd cc
labels_same n mask (l ∷ labels) (m ∷ others) r s one other e =
    let head : l ≡ m = ap (λ (ps : List (Part Role)). size_in (head_symbol ps)) e in
    let behind : spell_labels n (with_label mask l) labels r ≡ spell_labels n (with_label mask l) others s = ap tail_of e ∙ ap (λ (k : ℕ). spell_labels n (with_label mask k) others s) (sym head) in
    let rest = labels_same n (with_label mask l) labels others r s one other behind in
    ((λ i. head i ∷ rest.0 i), rest.1)

-- ---- statements

stats_stop : (n k : ℕ) (forms : List StatForm) → stops (spell_stats n k forms (the_end Fixed ∷ [])) ≡ true
stats_stop n k [] = refl
stats_stop n k (Applies line ∷ forms) = refl
stats_stop n k (GoesOver form ∷ forms) = refl
stats_stop n k (Says bare place ∷ forms) = refl

differ : (one other : List ℕ) → bytes_eq one other ≡ false → one ≡ other → ⊥
differ one other apart e = let both : true ≡ false = sym ((bytes_eq-Decides one other).1 e) ∙ apart in absurd cc

not_apply : (bare : Bare) → bare_word bare ≡ codes "apply" → ⊥
not_apply Undo e = differ (codes "undo") (codes "apply") refl e
not_apply Redo e = differ (codes "redo") (codes "apply") refl e
not_apply Group e = differ (codes "group") (codes "apply") refl e
not_apply Close e = differ (codes "end") (codes "apply") refl e

not_each : (bare : Bare) → bare_word bare ≡ codes "each" → ⊥
not_each Undo e = differ (codes "undo") (codes "each") refl e
not_each Redo e = differ (codes "redo") (codes "each") refl e
not_each Group e = differ (codes "group") (codes "each") refl e
not_each Close e = differ (codes "end") (codes "each") refl e

same_bare : (one other : Bare) → bare_word one ≡ bare_word other → one ≡ other
same_bare Undo Undo e = refl
same_bare Undo Redo e = absurd (differ (codes "undo") (codes "redo") refl e)
same_bare Undo Group e = absurd (differ (codes "undo") (codes "group") refl e)
same_bare Undo Close e = absurd (differ (codes "undo") (codes "end") refl e)
same_bare Redo Undo e = absurd (differ (codes "redo") (codes "undo") refl e)
same_bare Redo Redo e = refl
same_bare Redo Group e = absurd (differ (codes "redo") (codes "group") refl e)
same_bare Redo Close e = absurd (differ (codes "redo") (codes "end") refl e)
same_bare Group Undo e = absurd (differ (codes "group") (codes "undo") refl e)
same_bare Group Redo e = absurd (differ (codes "group") (codes "redo") refl e)
same_bare Group Group e = refl
same_bare Group Close e = absurd (differ (codes "group") (codes "end") refl e)
same_bare Close Undo e = absurd (differ (codes "end") (codes "undo") refl e)
same_bare Close Redo e = absurd (differ (codes "end") (codes "redo") refl e)
same_bare Close Group e = absurd (differ (codes "end") (codes "group") refl e)
same_bare Close Close e = refl

-- the word that a statement begins with
abbrev first_word : StatForm → List ℕ
first_word (Applies line) = codes "apply"
first_word (GoesOver form) = codes "each"
first_word (Says bare place) = bare_word bare

first_is : (n k : ℕ) (form : StatForm) (forms : List StatForm) (rest : List (Part Role)) → bytes_in (head_symbol (spell_stats n k (form ∷ forms) rest)) ≡ first_word form
first_is n k (Applies line) forms rest = refl
first_is n k (GoesOver form) forms rest = refl
first_is n k (Says bare place) forms rest = refl

no_more : (n k : ℕ) (form : StatForm) (forms : List StatForm) → the_end Fixed ∷ [] ≡ spell_stats n k (form ∷ forms) (the_end Fixed ∷ []) → ⊥
no_more n k (Applies line) forms e = let heads : End ≡ Word (codes "apply") = ap head_symbol e in absurd cc
no_more n k (GoesOver form) forms e = let heads : End ≡ Word (codes "each") = ap head_symbol e in absurd cc
no_more n k (Says bare place) forms e = let heads : End ≡ Word (bare_word bare) = ap head_symbol e in absurd cc

line_same : (k : ℕ) (one other : LineForm) (r s : List (Part Role)) → stops r ≡ true → stops s ≡ true
    → word (StatAt k one.place) (codes "apply") ∷ word (RuleAt one.rule.place) one.rule.name ∷ (map (number Hook) one.hooks ++ spell_params one.values r)
    ≡ word (StatAt k other.place) (codes "apply") ∷ word (RuleAt other.rule.place) other.rule.name ∷ (map (number Hook) other.hooks ++ spell_params other.values s) → (one ≡ other) × (r ≡ s)
line_same k one other r s r_stops s_stops e =
    let place : one.place ≡ other.place = ap head_place e in
    let name : one.rule.name ≡ other.rule.name = ap (λ (ps : List (Part Role)). bytes_in (head_symbol (tail_of ps))) e in
    let name_place : one.rule.place ≡ other.rule.place = ap (λ (ps : List (Part Role)). head_place (tail_of ps)) e in
    let hooks = hooks_same one.hooks other.hooks (spell_params one.values r) (spell_params other.values s) (no_hook one.values r r_stops) (no_hook other.values s s_stops) (ap tail_of (ap tail_of e)) in
    let values = params_same one.values other.values r s r_stops s_stops hooks.1 in
    ((λ i. record { place = place i; rule = record { name = name i; place = name_place i }; hooks = hooks.0 i; values = values.0 i }), values.1)

each_same : (n k : ℕ) (one other : EachForm) (r s : List (Part Role)) → stops r ≡ true → stops s ≡ true
    → word (StatAt k one.place) (codes "each") ∷ sign Fixed (codes "<") ∷ spell_labels n no_labels one.labels (sign Fixed (codes ">") ∷ word (RuleAt one.rule.place) one.rule.name ∷ spell_params one.values r)
    ≡ word (StatAt k other.place) (codes "each") ∷ sign Fixed (codes "<") ∷ spell_labels n no_labels other.labels (sign Fixed (codes ">") ∷ word (RuleAt other.rule.place) other.rule.name ∷ spell_params other.values s) → (one ≡ other) × (r ≡ s)
each_same n k one other r s r_stops s_stops e =
    let place : one.place ≡ other.place = ap head_place e in
    let labels = labels_same n no_labels one.labels other.labels (sign Fixed (codes ">") ∷ word (RuleAt one.rule.place) one.rule.name ∷ spell_params one.values r) (sign Fixed (codes ">") ∷ word (RuleAt other.rule.place) other.rule.name ∷ spell_params other.values s) refl refl (ap tail_of (ap tail_of e)) in
    let named = ap tail_of labels.1 in
    let name : one.rule.name ≡ other.rule.name = ap (λ (ps : List (Part Role)). bytes_in (head_symbol ps)) named in
    let name_place : one.rule.place ≡ other.rule.place = ap head_place named in
    let values = params_same one.values other.values r s r_stops s_stops (ap tail_of named) in
    ((λ i. record { place = place i; labels = labels.0 i; rule = record { name = name i; place = name_place i }; values = values.0 i }), values.1)

stats_same : (n k : ℕ) (ones others : List StatForm) → spell_stats n k ones (the_end Fixed ∷ []) ≡ spell_stats n k others (the_end Fixed ∷ []) → ones ≡ others
stats_same n k [] [] e = refl
stats_same n k [] (other ∷ others) e = absurd (no_more n k other others e)
stats_same n k (one ∷ ones) [] e = absurd (no_more n k one ones (sym e))
stats_same n k (one ∷ ones) (other ∷ others) e =
    by (stats_same n (k + 1) ones others) one other refl refl
  where
    r : List (Part Role)
    r = spell_stats n (k + 1) ones (the_end Fixed ∷ [])

    s : List (Part Role)
    s = spell_stats n (k + 1) others (the_end Fixed ∷ [])

    -- both begin with the same word
    firsts : first_word one ≡ first_word other
    firsts = sym (first_is n k one ones (the_end Fixed ∷ [])) ∙ ap (λ (ps : List (Part Role)). bytes_in (head_symbol ps)) e ∙ first_is n k other others (the_end Fixed ∷ [])

    joined : (x y : StatForm) → x ≡ y → ones ≡ others → x ∷ ones ≡ y ∷ others
    joined x y p q = λ i. p i ∷ q i

    by : (r ≡ s → ones ≡ others) → (x y : StatForm) → one ≡ x → other ≡ y → x ∷ ones ≡ y ∷ others
    by behind (Applies line) (Applies other_line) f g =
        let same = line_same (k + 1) line other_line r s (stats_stop n (k + 1) ones) (stats_stop n (k + 1) others) (rw (f, g) at e) in
        joined (Applies line) (Applies other_line) (ap Applies same.0) (behind same.1)
    by behind (GoesOver form) (GoesOver other_form) f g =
        let same = each_same n (k + 1) form other_form r s (stats_stop n (k + 1) ones) (stats_stop n (k + 1) others) (rw (f, g) at e) in
        joined (GoesOver form) (GoesOver other_form) (ap GoesOver same.0) (behind same.1)
    by behind (Says bare place) (Says other_bare other_place) f g =
        let both : word (StatAt (k + 1) place) (bare_word bare) ∷ r ≡ word (StatAt (k + 1) other_place) (bare_word other_bare) ∷ s = rw (f, g) at e in
        let words : bare ≡ other_bare = same_bare bare other_bare (ap (λ (ps : List (Part Role)). bytes_in (head_symbol ps)) both) in
        let places : place ≡ other_place = ap head_place both in
        joined (Says bare place) (Says other_bare other_place) (λ i. Says (words i) (places i)) (behind (ap tail_of both))
    by behind (Applies line) (GoesOver form) f g = absurd (differ (codes "apply") (codes "each") refl (rw (f, g) at firsts))
    by behind (Applies line) (Says bare place) f g = let same : codes "apply" ≡ bare_word bare = rw (f, g) at firsts in absurd (not_apply bare (sym same))
    by behind (GoesOver form) (Applies line) f g = absurd (differ (codes "each") (codes "apply") refl (rw (f, g) at firsts))
    by behind (GoesOver form) (Says bare place) f g = let same : codes "each" ≡ bare_word bare = rw (f, g) at firsts in absurd (not_each bare (sym same))
    by behind (Says bare place) (Applies line) f g = let same : bare_word bare ≡ codes "apply" = rw (f, g) at firsts in absurd (not_apply bare same)
    by behind (Says bare place) (GoesOver form) f g = let same : bare_word bare ≡ codes "each" = rw (f, g) at firsts in absurd (not_each bare same)

pub one_form : (n : ℕ) (text : List ℕ) (ones others : List StatForm) → IsWritten n text ones → IsWritten n text others → ones ≡ others
one_form n text ones others one other = stats_same n 0 ones others (written_parts n text ones others one other)

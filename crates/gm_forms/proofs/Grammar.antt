-- Where a symbol stands in the rules has no part in what it passes, and a name has the place of its mark.
use Rattle.std.proofs.Common.{◌≡◌, ℕ, ◌+◌, Bool, true, false, cond, List, [], ◌∷◌, refl, sym, ap, ◌∙◌, codes}
use Rattle.std.specs.Str.{bytes_eq}
use Rattle.gm_model.specs.declared.rule.Side.{Side}
use Rattle.gm_model.specs.declared.rule.Side.TheVariants.{Left, Right}
use Rattle.gm_model.specs.Symbols.{Symbol, Word, Numeral, Sign, Gone, Stray, End, Mark}
use Rattle.gm_model.specs.Reading.{Part, ArePlaced}
use Rattle.std.specs.Prelude.{is_some}
use Rattle.gm_parse.specs.inner.Reading.{spot_move}
use Rattle.gm_forms.proofs.Apart.{expr_limit}
use Rattle.gm_forms.proofs.Values.{item_before, behind_before, expr_before}
use Rattle.gm_forms.specs.BookText.{Role, Fixed, NameAt, ParamName, limit_of, stands_before, IsPlacedAt}
use Rattle.gm_text.proofs.Machine.{Along}
use Rattle.gm_forms.specs.inner.Reading.{Spot, State, AtRules, AtName, AtLeft, AtParam, AtColon, AtKind, AtComma, AtBody, AtItem, AtSign, AtLetter, AtBehind, AtSet, AtEqual, AtExpr, AtRuleEnd, AtLabel, AtDash, AtTo, AtEnd, Slot, SetSlot, PreSlot, behind_slot, dim_of, on_right, closing, closing_role, is_hook, is_pre_on, is_with_on, item_role, behind_role, end_role, plain_role, role_at, move}
use Rattle.gm_forms.proofs.Leading.{Led}

-- ---- where a symbol stands

same_item_limit : (spot : Spot) (symbol : Symbol) (place other : ℕ) → limit_of (item_role spot symbol place) symbol ≡ limit_of (item_role spot symbol other) symbol
same_item_limit spot (Word w) place other = go (bytes_eq w (closing spot.side)) refl
  where
    pre : (c : Bool) → limit_of (cond c Fixed (NameAt place)) (Word w) ≡ limit_of (cond c Fixed (NameAt other)) (Word w)
    pre true = refl
    pre false = refl

    go : (b : Bool) → bytes_eq w (closing spot.side) ≡ b → limit_of (item_role spot (Word w) place) (Word w) ≡ limit_of (item_role spot (Word w) other) (Word w)
    go true e = rw e refl
    go false e = rw e (pre (is_pre_on spot.side w))
same_item_limit spot (Numeral n) place other = refl
same_item_limit spot (Sign s) place other = refl
same_item_limit spot Gone place other = refl
same_item_limit spot Stray place other = refl
same_item_limit spot End place other = refl

same_name_limit : (symbol : Symbol) (place other : ℕ) → limit_of (NameAt place) symbol ≡ limit_of (NameAt other) symbol
same_name_limit (Word w) place other = refl
same_name_limit (Numeral n) place other = refl
same_name_limit (Sign s) place other = refl
same_name_limit Gone place other = refl
same_name_limit Stray place other = refl
same_name_limit End place other = refl

same_param_limit : (k : ℕ) (symbol : Symbol) (place other : ℕ) → limit_of (ParamName k place) symbol ≡ limit_of (ParamName k other) symbol
same_param_limit k (Word w) place other = refl
same_param_limit k (Numeral n) place other = refl
same_param_limit k (Sign s) place other = refl
same_param_limit k Gone place other = refl
same_param_limit k Stray place other = refl
same_param_limit k End place other = refl

same_behind_limit : (spot : Spot) (symbol : Symbol) (place other : ℕ) → limit_of (role_at (AtBehind spot) symbol place) symbol ≡ limit_of (role_at (AtBehind spot) symbol other) symbol
same_behind_limit spot (Word w) place other = go (is_hook spot w) refl
  where
    set : (c : Bool) → limit_of (cond c Fixed (item_role spot (Word w) place)) (Word w) ≡ limit_of (cond c Fixed (item_role spot (Word w) other)) (Word w)
    set true = refl
    set false = same_item_limit spot (Word w) place other

    go : (b : Bool) → is_hook spot w ≡ b → limit_of (role_at (AtBehind spot) (Word w) place) (Word w) ≡ limit_of (role_at (AtBehind spot) (Word w) other) (Word w)
    go true e = rw e refl
    go false e = rw e (set (is_with_on spot.side w))
same_behind_limit spot (Numeral n) place other = refl
same_behind_limit spot (Sign s) place other = refl
same_behind_limit spot Gone place other = refl
same_behind_limit spot Stray place other = refl
same_behind_limit spot End place other = refl

slot_limit : (slot : Slot) (symbol : Symbol) (place other : ℕ) → limit_of (plain_role (behind_slot slot) symbol place) symbol ≡ limit_of (plain_role (behind_slot slot) symbol other) symbol
slot_limit (SetSlot spot) symbol place other = same_behind_limit (on_right spot) symbol place other
slot_limit (PreSlot heading k) symbol place other = refl

pub same_limit : (state : State) (symbol : Symbol) (place other : ℕ) → limit_of (role_at state symbol place) symbol ≡ limit_of (role_at state symbol other) symbol
same_limit (AtRules n) symbol place other = refl
same_limit (AtName n k) symbol place other = same_name_limit symbol place other
same_limit (AtLeft n k) symbol place other = refl
same_limit (AtParam n k count) symbol place other = same_param_limit (count + 1) symbol place other
same_limit (AtColon n k count) symbol place other = refl
same_limit (AtKind n k count) symbol place other = refl
same_limit (AtComma n k count) symbol place other = refl
same_limit (AtBody n k) symbol place other = refl
same_limit (AtItem spot) symbol place other = same_item_limit spot symbol place other
same_limit (AtSign spot name) symbol place other = refl
same_limit (AtLetter spot k) symbol place other = refl
same_limit (AtBehind spot) symbol place other = same_behind_limit spot symbol place other
same_limit (AtSet spot) symbol place other = same_name_limit symbol place other
same_limit (AtEqual spot) symbol place other = refl
same_limit (AtExpr slot spot) symbol place other = go (is_some (spot_move spot symbol)) refl
  where
    go : (b : Bool) → is_some (spot_move spot symbol) ≡ b → limit_of (role_at (AtExpr slot spot) symbol place) symbol ≡ limit_of (role_at (AtExpr slot spot) symbol other) symbol
    go true e = rw e (expr_limit (dim_of slot) spot symbol place other)
    go false e = rw e (slot_limit slot symbol place other)
same_limit (AtRuleEnd n k) symbol place other = refl
same_limit (AtLabel spot) symbol place other = refl
same_limit (AtDash spot) symbol place other = refl
same_limit (AtTo spot) symbol place other = same_name_limit symbol place other
same_limit AtEnd symbol place other = refl

pub same_before : (state : State) (symbol : Symbol) (place other : ℕ) → stands_before (role_at state symbol place) ≡ stands_before (role_at state symbol other)
same_before (AtRules n) symbol place other = refl
same_before (AtName n k) symbol place other = refl
same_before (AtLeft n k) symbol place other = refl
same_before (AtParam n k count) symbol place other = refl
same_before (AtColon n k count) symbol place other = refl
same_before (AtKind n k count) symbol place other = refl
same_before (AtComma n k count) symbol place other = refl
same_before (AtBody n k) symbol place other = refl
same_before (AtItem spot) symbol place other = item_before spot symbol place ∙ sym (item_before spot symbol other)
same_before (AtSign spot name) symbol place other = refl
same_before (AtLetter spot k) symbol place other = refl
same_before (AtBehind spot) symbol place other = behind_before spot symbol place ∙ sym (behind_before spot symbol other)
same_before (AtSet spot) symbol place other = refl
same_before (AtEqual spot) symbol place other = refl
same_before (AtExpr slot spot) symbol place other = expr_before slot spot symbol place ∙ sym (expr_before slot spot symbol other)
same_before (AtRuleEnd n k) symbol place other = refl
same_before (AtLabel spot) symbol place other = refl
same_before (AtDash spot) symbol place other = refl
same_before (AtTo spot) symbol place other = refl
same_before AtEnd symbol place other = refl

placed_closing : (side : Side) (k place : ℕ) → IsPlacedAt place (closing_role side k)
placed_closing Left k place = tt
placed_closing Right k place = tt

placed_item : (spot : Spot) (symbol : Symbol) (place : ℕ) → IsPlacedAt place (item_role spot symbol place)
placed_item spot (Word w) place = go (bytes_eq w (closing spot.side)) refl
  where
    pre : (c : Bool) → IsPlacedAt place (cond c Fixed (NameAt place))
    pre true = tt
    pre false = refl

    go : (b : Bool) → bytes_eq w (closing spot.side) ≡ b → IsPlacedAt place (item_role spot (Word w) place)
    go true e = rw e (placed_closing spot.side spot.rules place)
    go false e = rw e (pre (is_pre_on spot.side w))
placed_item spot (Numeral n) place = tt
placed_item spot (Sign s) place = tt
placed_item spot Gone place = tt
placed_item spot Stray place = tt
placed_item spot End place = tt

placed_behind : (spot : Spot) (symbol : Symbol) (place : ℕ) → IsPlacedAt place (behind_role spot symbol place)
placed_behind spot (Word w) place = go (is_hook spot w) refl
  where
    set : (c : Bool) → IsPlacedAt place (cond c Fixed (item_role spot (Word w) place))
    set true = tt
    set false = placed_item spot (Word w) place

    go : (b : Bool) → is_hook spot w ≡ b → IsPlacedAt place (behind_role spot (Word w) place)
    go true e = rw e tt
    go false e = rw e (set (is_with_on spot.side w))
placed_behind spot (Numeral n) place = tt
placed_behind spot (Sign s) place = tt
placed_behind spot Gone place = tt
placed_behind spot Stray place = tt
placed_behind spot End place = tt

placed_end : (k : ℕ) (symbol : Symbol) (place : ℕ) → IsPlacedAt place (end_role k symbol)
placed_end k (Word w) place = tt
placed_end k (Numeral n) place = tt
placed_end k (Sign s) place = tt
placed_end k Gone place = tt
placed_end k Stray place = tt
placed_end k End place = tt

placed_slot : (slot : Slot) (symbol : Symbol) (place : ℕ) → IsPlacedAt place (plain_role (behind_slot slot) symbol place)
placed_slot (SetSlot spot) symbol place = placed_behind (on_right spot) symbol place
placed_slot (PreSlot heading k) symbol place = placed_end k symbol place

-- a name has the place of its mark
pub placed_role : (state : State) (symbol : Symbol) (place : ℕ) → IsPlacedAt place (role_at state symbol place)
placed_role (AtRules n) (Word w) place = tt
placed_role (AtRules n) (Numeral m) place = tt
placed_role (AtRules n) (Sign s) place = tt
placed_role (AtRules n) Gone place = tt
placed_role (AtRules n) Stray place = tt
placed_role (AtRules n) End place = tt
placed_role (AtName n k) symbol place = refl
placed_role (AtLeft n k) symbol place = tt
placed_role (AtParam n k count) symbol place = refl
placed_role (AtColon n k count) symbol place = tt
placed_role (AtKind n k count) symbol place = tt
placed_role (AtComma n k count) symbol place = tt
placed_role (AtBody n k) symbol place = tt
placed_role (AtItem spot) symbol place = placed_item spot symbol place
placed_role (AtSign spot name) (Sign s) place = go (bytes_eq s (codes "<")) refl
  where
    go : (b : Bool) → bytes_eq s (codes "<") ≡ b → IsPlacedAt place (role_at (AtSign spot name) (Sign s) place)
    go true e = rw e tt
    go false e = rw e tt
placed_role (AtSign spot name) (Word w) place = tt
placed_role (AtSign spot name) (Numeral m) place = tt
placed_role (AtSign spot name) Gone place = tt
placed_role (AtSign spot name) Stray place = tt
placed_role (AtSign spot name) End place = tt
placed_role (AtLetter spot k) (Sign s) place = tt
placed_role (AtLetter spot k) (Word w) place = tt
placed_role (AtLetter spot k) (Numeral m) place = tt
placed_role (AtLetter spot k) Gone place = tt
placed_role (AtLetter spot k) Stray place = tt
placed_role (AtLetter spot k) End place = tt
placed_role (AtBehind spot) symbol place = placed_behind spot symbol place
placed_role (AtSet spot) symbol place = refl
placed_role (AtEqual spot) symbol place = tt
placed_role (AtExpr slot spot) symbol place = go (is_some (spot_move spot symbol)) refl
  where
    go : (b : Bool) → is_some (spot_move spot symbol) ≡ b → IsPlacedAt place (role_at (AtExpr slot spot) symbol place)
    go true e = rw e refl
    go false e = rw e (placed_slot slot symbol place)
placed_role (AtRuleEnd n k) symbol place = placed_end k symbol place
placed_role (AtLabel spot) symbol place = tt
placed_role (AtDash spot) symbol place = tt
placed_role (AtTo spot) symbol place = refl
placed_role AtEnd symbol place = tt

pub placed_along : (state last : State) (marks : List Mark) (parts : List (Part Role)) → Along limit_of stands_before role_at move state marks parts last → ArePlaced IsPlacedAt marks parts
placed_along state last [] parts along = tt
placed_along state last (mark ∷ marks) [] along = tt
placed_along state last (mark ∷ marks) (part ∷ parts) (next, is, moves, along) = rw is (placed_role state mark.symbol mark.place, placed_along next last marks parts along)

-- marks at the places that the parts lead by
pub record HasMarks (state : State) (parts : List (Part Role)) : Type 0 where
  pub marks : List Mark
  pub along : Along limit_of stands_before role_at move state marks parts AtEnd

pub has_marks : (state : State) (parts : List (Part Role)) → Led state parts → HasMarks state parts
has_marks state [] e = record { marks = []; along = e }
has_marks state (part ∷ parts) (place, next, is, moves, led) =
    let rest = has_marks next parts led in
    let mark : Mark = record { symbol = part.symbol; place = place } in
    let same : part ≡ record { symbol = part.symbol; role = role_at state part.symbol place } = ap (λ (r : Role). let p : Part Role = record { symbol = part.symbol; role = r } in p) is in
    record { marks = mark ∷ rest.marks; along = (next, same, moves, rest.along) }

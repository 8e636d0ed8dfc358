-- A script that a text stands for is in an order that scripts have, and each statement agrees with the book.
use Rattle.std.proofs.Common.{◌≡◌, ℕ, zero, suc, ◌+◌, ◌<◌, ◌≤◌, Bool, true, false, cond, ℤ, pos, negsuc, FitsSigned, w64, List, [], ◌∷◌, ◌++◌, length, map, Some, None, refl, sym, ap, subst, ◌∙◌, arith, codes}
use Rattle.std.specs.Prelude.{IsTrue, ◌&&◌, nat_lt, nat_abs, int_le}
use Rattle.std.specs.List.{AllByRecursion, AllZip}
use Rattle.std.proofs.lemmas.Bool.Decides.{nat_tests}
use Rattle.std.proofs.lemmas.Bool.{and_parts}
use Rattle.std.proofs.lemmas.Option.{none-some, same_Some}
use Rattle.gm_model.specs.declared.limit.LimitKind.TheVariants as limits
use Rattle.gm_model.specs.declared.rule.Param.{Param}
use Rattle.gm_model.specs.Statements.{Stat}
use Rattle.gm_model.specs.Statements as statements
use Rattle.gm_model.specs.declared.value.Kind.{Kind}
use Rattle.gm_model.specs.declared.value.Kind.TheVariants as kinds
use Rattle.gm_model.specs.declared.value.Value.{Value}
use Rattle.gm_model.specs.declared.value.Value.TheVariants as values
use Rattle.gm_model.specs.declared.word.Mask.{Mask}
use Rattle.gm_model.specs.Kinds.{param_kinds}
use Rattle.gm_model.specs.Labels.{has}
use Rattle.gm_model.specs.Reading.{Part, word, number, sign, the_end}
use Rattle.gm_model.specs.Rules.{Rule}
use Rattle.gm_model.specs.Runs.{AreInOrder}
use Rattle.gm_model.specs.Symbols.{Numeral}
use Rattle.gm_model.specs.Values.{IsValueOf}
use Rattle.gm_text.specs.SchemaText.{no_labels, with_label, passed_by}
use Rattle.gm_text.specs.ValueText.{Signed, integer, greatest, is_channel}
use Rattle.gm_text.proofs.SchemaSound.{IsLow, low_none, low_more, nothing_passed}
use Rattle.gm_script.specs.inner.Agreement.{Agrees}
use Rattle.gm_script.specs.ScriptText.{ValueForm, Plain, Truth, Pair, Triple, StatForm, Applies, GoesOver, Says, Undo, Redo, Group, Close, Role, Fixed, RuleAt, Hook, LabelBehind, Size, limit_of, passed_of, spell_signed, spell_value, spell_values, spell_params, spell_labels, spell_stats, value_as, colour, mask_of, AreParams, IsStat, AreNested, ScriptText}
use Rattle.gm_script.proofs.Zipped.{AreStats}

abbrev AreWithin : List (Part Role) → Type 0
AreWithin parts = AllByRecursion (λ (part : Part Role). passed_of part.role part.symbol ≡ None) parts

-- ---- numbers

abbrev IsInRange : Signed → Type 0
IsInRange x = FitsSigned w64 (integer x)

fits : (minus : Bool) (n : ℕ) → n ≤ greatest minus → IsInRange (record { minus = minus; size = n })
fits true zero small = record { sfits = omega arith }
fits true (suc n) small = record { sfits = omega (arith, small) }
fits false n small = record { sfits = omega (arith, small) }

size_fits : (minus : Bool) (n : ℕ) → passed_of (Size minus) (Numeral n) ≡ None → IsInRange (record { minus = minus; size = n })
size_fits minus n e = go (nat_lt (greatest minus) n) refl e
  where
    go : (b : Bool) → nat_lt (greatest minus) n ≡ b → passed_by (cond b (Some limits.Integer) None) false ≡ None → IsInRange (record { minus = minus; size = n })
    go true f e = absurd (none-some _ (sym e))
    go false f e = let small : n ≤ greatest minus = grind (arith, nat_tests, f) in fits minus n small

signed_within : (minus : Bool) (n : ℕ) (rest : List (Part Role)) → AreWithin (spell_signed (record { minus = minus; size = n }) rest) → IsInRange (record { minus = minus; size = n }) × AreWithin rest
signed_within true n rest within = (size_fits true n within.1.0, within.1.1)
signed_within false n rest within = (size_fits false n within.0, within.1)

-- ---- values

-- each number of the value is in range
abbrev IsGoodForm : ValueForm → Type 0
IsGoodForm (Plain x) = IsInRange x
IsGoodForm (Truth b) = Unit {0}
IsGoodForm (Pair x y) = IsInRange x × IsInRange y
IsGoodForm (Triple x y z) = IsInRange x × IsInRange y × IsInRange z

value_within : (form : ValueForm) (rest : List (Part Role)) → AreWithin (spell_value form rest) → IsGoodForm form × AreWithin rest
value_within (Plain x) rest within = signed_within x.minus x.size rest within
value_within (Truth true) rest within = (tt, within.1)
value_within (Truth false) rest within = (tt, within.1)
value_within (Pair x y) rest within =
    let last = sign Fixed (codes ")") ∷ rest in
    let first = signed_within x.minus x.size (spell_signed y last) within.1 in
    let second = signed_within y.minus y.size last first.1 in
    ((first.0, second.0), second.1.1)
value_within (Triple x y z) rest within =
    let last = sign Fixed (codes ")") ∷ rest in
    let first = signed_within x.minus x.size (spell_signed y (spell_signed z last)) within.1 in
    let second = signed_within y.minus y.size (spell_signed z last) first.1 in
    let third = signed_within z.minus z.size last second.1 in
    ((first.0, second.0, third.0), third.1.1)

values_within : (forms : List ValueForm) (rest : List (Part Role)) → AreWithin (spell_values forms rest) → AllByRecursion IsGoodForm forms × AreWithin rest
values_within [] rest within = (tt, within)
values_within (form ∷ forms) rest within =
    let first = value_within form (spell_values forms rest) within in
    let others = values_within forms rest first.1 in
    ((first.0, others.0), others.1)

params_within : (forms : List ValueForm) (rest : List (Part Role)) → AreWithin (spell_params forms rest) → AllByRecursion IsGoodForm forms × AreWithin rest
params_within [] rest within = (tt, within)
params_within (form ∷ forms) rest within = values_within (form ∷ forms) rest within.1

hooks_within : (hooks : List ℕ) (rest : List (Part Role)) → AreWithin (map (number Hook) hooks ++ rest) → AreWithin rest
hooks_within [] rest within = within
hooks_within (hook ∷ hooks) rest within = hooks_within hooks rest within.1

-- labels that pass nothing are at most the number
label_low : (n label : ℕ) (mask : Mask) → passed_of (LabelBehind n mask) (Numeral label) ≡ None → label ≤ n
label_low n label mask e = go (nat_lt n label) refl (nothing_passed (limit_of (LabelBehind n mask) (Numeral label)) (has mask label) e).0
  where
    go : (b : Bool) → nat_lt n label ≡ b → cond b (Some limits.Label) None ≡ None → label ≤ n
    go true f e = absurd (none-some _ (sym e))
    go false f e = grind (arith, nat_tests, f)

labels_within : (n : ℕ) (mask : Mask) (labels : List ℕ) (rest : List (Part Role)) → IsLow n mask → AreWithin (spell_labels n mask labels rest) → IsLow n (mask_of labels mask) × AreWithin rest
labels_within n mask [] rest low within = (low, within)
labels_within n mask (label ∷ labels) rest low within =
    labels_within n (with_label mask label) labels rest (low_more n label mask low (label_low n label mask within.0)) within.1

-- what a statement that passes nothing has
abbrev HasGoodForms : ℕ → StatForm → Type 0
HasGoodForms n (Applies line) = AllByRecursion IsGoodForm line.values
HasGoodForms n (GoesOver form) = IsLow n (mask_of form.labels no_labels) × AllByRecursion IsGoodForm form.values
HasGoodForms n (Says bare place) = Unit {0}

forms_within : (n k : ℕ) (forms : List StatForm) (rest : List (Part Role)) → AreWithin (spell_stats n k forms rest) → AllByRecursion (HasGoodForms n) forms
forms_within n k [] rest within = tt
forms_within n k (Applies line ∷ forms) rest within =
    let behind = spell_stats n (k + 1) forms rest in
    let here = params_within line.values behind (hooks_within line.hooks (spell_params line.values behind) within.1.1) in
    (here.0, forms_within n (k + 1) forms rest here.1)
forms_within n k (GoesOver form ∷ forms) rest within =
    let behind = spell_stats n (k + 1) forms rest in
    let labels = labels_within n no_labels form.labels (sign Fixed (codes ">") ∷ word (RuleAt form.rule.place) form.rule.name ∷ spell_params form.values behind) (low_none n) within.1.1 in
    let here = params_within form.values behind labels.1.1.1 in
    ((labels.0, here.0), forms_within n (k + 1) forms rest here.1)
forms_within n k (Says bare place ∷ forms) rest within = (tt, forms_within n (k + 1) forms rest within.1)

-- ---- values of a kind

channel_low : (x : ℤ) → IsTrue (is_channel x) → nat_abs x < 256
channel_low (pos n) is = grind (arith, nat_tests, and_parts (int_le (pos 0) (pos n)) (int_le (pos n) (pos 255)) is)
channel_low (negsuc n) is = absurd cc

colour_of_kind : (r g b : ℤ) (v : Value) → colour r g b ≡ Some v → IsValueOf kinds.Rgb v
colour_of_kind r g b v e = go (is_channel r) (is_channel g) (is_channel b) refl refl refl e
  where
    made : Value
    made = values.Rgb (nat_abs r) (nat_abs g) (nat_abs b)

    go : (p q s : Bool) → is_channel r ≡ p → is_channel g ≡ q → is_channel b ≡ s → cond (p && q && s) (Some made) None ≡ Some v → IsValueOf kinds.Rgb v
    go true true true f g' h e = subst (IsValueOf kinds.Rgb) (same_Some made v e) (record { kind_is = refl; range = (channel_low r f, channel_low g g', channel_low b h) })
    go true true false f g' h e = absurd (none-some v e)
    go true false s f g' h e = absurd (none-some v e)
    go false q s f g' h e = absurd (none-some v e)

value_of_kind : (kind : Kind) (form : ValueForm) (v : Value) → IsGoodForm form → value_as kind form ≡ Some v → IsValueOf kind v
value_of_kind kinds.Int (Plain x) v good e = subst (IsValueOf kinds.Int) (same_Some _ v e) (record { kind_is = refl; range = good })
value_of_kind kinds.Bool (Truth b) v good e = subst (IsValueOf kinds.Bool) (same_Some _ v e) (record { kind_is = refl; range = tt })
value_of_kind kinds.Vec2 (Pair x y) v good e = subst (IsValueOf kinds.Vec2) (same_Some _ v e) (record { kind_is = refl; range = good })
value_of_kind kinds.Vec3 (Triple x y z) v good e = subst (IsValueOf kinds.Vec3) (same_Some _ v e) (record { kind_is = refl; range = good })
value_of_kind kinds.Rgb (Triple x y z) v good e = colour_of_kind (integer x) (integer y) (integer z) v e
value_of_kind kind form v good e = absurd (none-some v e)

good_params : (params : List Param) (forms : List ValueForm) (vs : List Value) → AllByRecursion IsGoodForm forms → AreParams params forms vs → AllZip IsValueOf (param_kinds params) vs
good_params [] [] [] good are = tt
good_params [] [] (v ∷ vs) good are = absurd are
good_params [] (form ∷ forms) vs good are = absurd are
good_params (param ∷ params) [] vs good are = absurd are
good_params (param ∷ params) (form ∷ forms) [] good are = absurd are
good_params (param ∷ params) (form ∷ forms) (v ∷ vs) good are = (value_of_kind param.kind form v good.0 are.0, good_params params forms vs good.1 are.1)

-- ---- statements

module _ (n : ℕ) (rules : List Rule) where
  stat_agrees : (form : StatForm) (stat : Stat) → HasGoodForms n form → IsStat rules form stat → Agrees n rules stat
  stat_agrees (Applies form) (statements.Apply line) good is = record {
    rule = is.rule;
    rule_is = is.named.there;
    hooks_are = ap length is.hooks ∙ is.count;
    params_are = good_params is.rule.params form.values line.params good is.params;
  }
  stat_agrees (GoesOver form) (statements.Each mask k params) good is = (
    (λ label there. good.0 label (subst (λ (m : Mask). IsTrue (has m label)) is.mask_is there)),
    record { rule = is.rule; rule_is = is.named.there; hooks_are = is.count; params_are = good_params is.rule.params form.values params good.1 is.params_are },
  )
  stat_agrees (Says Undo place) statements.Undo good is = tt
  stat_agrees (Says Redo place) statements.Redo good is = tt
  stat_agrees (Says Group place) statements.Group good is = tt
  stat_agrees (Says Close place) statements.End good is = tt
  stat_agrees _ _ good is = absurd is

  stats_agree : (forms : List StatForm) (stats : List Stat) → AllByRecursion (HasGoodForms n) forms → AreStats rules forms stats → AllByRecursion (Agrees n rules) stats
  stats_agree [] [] good are = tt
  stats_agree [] (stat ∷ stats) good are = absurd are
  stats_agree (form ∷ forms) [] good are = absurd are
  stats_agree (form ∷ forms) (stat ∷ stats) good are = (stat_agrees form stat good.0 are.0, stats_agree forms stats good.1 are.1)

  -- the statements stand in the order in which they are written
  in_order : (within : Bool) (forms : List StatForm) (stats : List Stat) → AreNested within forms → AreStats rules forms stats → AreInOrder within stats
  in_order within [] [] nested are = nested
  in_order within [] (stat ∷ stats) nested are = absurd are
  in_order within (form ∷ forms) [] nested are = absurd are
  in_order within (Applies form ∷ forms) (statements.Apply line ∷ stats) nested are = in_order within forms stats nested are.1
  in_order within (GoesOver form ∷ forms) (statements.Each mask k params ∷ stats) nested are = (nested.0, in_order within forms stats nested.1 are.1)
  in_order within (Says Undo place ∷ forms) (statements.Undo ∷ stats) nested are = (nested.0, in_order within forms stats nested.1 are.1)
  in_order within (Says Redo place ∷ forms) (statements.Redo ∷ stats) nested are = (nested.0, in_order within forms stats nested.1 are.1)
  in_order within (Says Group place ∷ forms) (statements.Group ∷ stats) nested are = (nested.0, in_order true forms stats nested.1 are.1)
  in_order within (Says Close place ∷ forms) (statements.End ∷ stats) nested are = (nested.0, in_order false forms stats nested.1 are.1)
  in_order within (_ ∷ forms) (_ ∷ stats) nested are = absurd are.0

  pub script_agrees : (text : List ℕ) (stats : List Stat) → ScriptText text n rules stats → AllByRecursion (Agrees n rules) stats
  script_agrees text stats script = stats_agree script.forms stats (forms_within n 0 script.forms (the_end Fixed ∷ []) script.written.read.within) script.same

  pub script_in_order : (text : List ℕ) (stats : List Stat) → ScriptText text n rules stats → AreInOrder false stats
  script_in_order text stats script = in_order false script.forms stats script.written.form.1 script.same

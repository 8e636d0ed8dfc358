-- What a text holds is in the limits, its expressions included, and its names are tokens.
use Rattle.std.proofs.Common.{◌≡◌, ℕ, ◌+◌, ◌<◌, ◌≤◌, Bool, true, false, cond, eqb, ltb, ◌||◌, List, [], ◌∷◌, ◌++◌, length, map, Option, Some, None, inl, inr, refl, sym, ap, subst, ◌∙◌, arith}
use Rattle.std.specs.List.{AllByRecursion}
use Rattle.std.proofs.lemmas.Bool.{ltb-false, or_parts, eqb-false, cases_lt}
use Rattle.gm_model.specs.declared.limit.LimitKind.{LimitKind}
use Rattle.gm_model.specs.declared.limit.LimitKind.TheVariants as limits
use Rattle.gm_model.specs.declared.token.TokenKind.TheVariants as kinds
use Rattle.gm_model.specs.declared.word.Letter.{Letter}
use Rattle.gm_model.specs.declared.word.Letter.TheVariants as letters
use Rattle.gm_model.specs.declared.rule.Side.{Side}
use Rattle.gm_model.specs.declared.rule.Side.TheVariants.{Left, Right}
use Rattle.gm_model.specs.Tokens.{IsLexeme}
use Rattle.gm_model.specs.Symbols.{symbols_of}
use Rattle.gm_model.specs.Reading.{Part, symbols_in, IsWithin, the_end, in_role}
use Rattle.gm_model.specs.Names.{reserved, is_among}
use Rattle.gm_text.specs.SchemaText as schemas
use Rattle.gm_text.specs.SchemaText.{spell}
use Rattle.gm_text.proofs.Lexemes.{IsSound, words_are_lexemes}
use Rattle.gm_forms.specs.BookText.{ExprToken, SetForm, NodeItem, LinkItem, ParamForm, RuleForm, BookForm, Role, Fixed, InSchema, Count, no_count, count_after, count_across, counted, with_name, limit_of, spell_letters, spell_hook, spell_value, spell_sets, spell_item, spell_items, spell_pre, spell_more_params, spell_params, spell_rule, spell_rules, spelling, nodes_of, IsSet, IsItem, IsParam, IsRule, IsForm, IsSentence}
use Rattle.gm_forms.specs.BookText as text
use Rattle.gm_book.proofs.CanonicalForm.{IsGoodName, IsGoodLetter, IsGoodWord}
use Rattle.gm_book.proofs.CanonicalLimits.{AreFew}
use Rattle.gm_book.proofs.CanonicalRule.{counted_seen}
use Rattle.gm_book.proofs.OneValue.{AreWithin}
use Rattle.gm_book.specs.inner.Fitting.{IsLowItem, IsFitting, HasExprs}
use Rattle.gm_model.specs.Structure.{HasLabelsUpTo}

-- ---- parts that are sound, and pass no limit

pub record IsFit (part : Part Role) : Type 0 where
  pub sound : IsSound part.symbol
  pub within : limit_of part.role part.symbol ≡ None

abbrev pub AreFit : List (Part Role) → Type 0
AreFit parts = AllByRecursion IsFit parts

pub both_fit : (parts : List (Part Role)) → AllByRecursion IsSound (symbols_in parts) → IsWithin IsSentence limit_of parts → AreFit parts
both_fit [] sound within = tt
both_fit (part ∷ parts) sound within = (record { sound = sound.0; within = within.0 }, both_fit parts sound.1 within.1)

pub read_fit : (whole : List ℕ) (parts : List (Part Role)) → symbols_of whole ≡ symbols_in parts → IsWithin IsSentence limit_of parts → AreFit parts
read_fit whole parts spelled within = both_fit parts (subst (AllByRecursion IsSound) spelled (words_are_lexemes whole 0)) within

not_passed : {A : Type 0} (b : Bool) (what : A) (other : Option A) → cond b (Some what) other ≡ None → (b ≡ false) × (other ≡ None)
not_passed true what other e = absurd cc
not_passed false what other e = (refl, e)

-- ---- good items

abbrev pub IsGoodSet : SetForm → Type 0
IsGoodSet set = IsGoodName set.embed.name × AreWithin set.value

abbrev pub IsGoodItem : ℕ → text.Item → Type 0
IsGoodItem n (NodeItem node word hook sets) = IsGoodName node.name × IsGoodWord n word × AllByRecursion IsGoodSet sets
IsGoodItem n (LinkItem from label to) = IsGoodName from.name × (label ≤ n) × IsGoodName to.name

abbrev IsFreeSet : SetForm → Type 0
IsFreeSet set = is_among reserved set.embed.name ≡ false

abbrev IsFreeItem : text.Item → Type 0
IsFreeItem (NodeItem node word hook sets) = (is_among reserved node.name ≡ false) × AllByRecursion IsFreeSet sets
IsFreeItem (LinkItem from label to) = (is_among reserved from.name ≡ false) × (is_among reserved to.name ≡ false)

free_sets : (n : ℕ) (sets : List SetForm) → AllByRecursion (IsSet n) sets → AllByRecursion IsFreeSet sets
free_sets n [] are = tt
free_sets n (set ∷ sets) are = (are.0.0, free_sets n sets are.1)

free_item : (n : ℕ) (side : Side) (item : text.Item) → IsItem n side item → IsFreeItem item
free_item n Left (NodeItem node word hook sets) is = (is.0, subst (AllByRecursion IsFreeSet) (sym is.1) tt)
free_item n Right (NodeItem node word hook sets) is = (is.0, free_sets n sets is.2)
free_item n Left (LinkItem from label to) is = is
free_item n Right (LinkItem from label to) is = is

good_name : (name : List ℕ) (what : LimitKind) → is_among reserved name ≡ false → IsLexeme kinds.Name name → cond (ltb 32 (length name)) (Some what) None ≡ None → IsGoodName name
good_name name what free token within = ((ltb-false 32 (length name) (not_passed _ what None within).0, token), free)

-- ---- expressions

value_good : (tokens : List ExprToken) (parts : List (Part Role)) → AreFit (spell_value tokens parts) → AreWithin tokens × AreFit parts
value_good [] parts fit = (tt, fit)
value_good (token ∷ tokens) parts fit = let later = value_good tokens parts fit.1 in ((fit.0.within, later.0), later.1)

sets_good : (sets : List SetForm) (parts : List (Part Role)) → AllByRecursion IsFreeSet sets → AreFit (spell_sets sets parts) → AllByRecursion IsGoodSet sets × AreFit parts
sets_good [] parts free fit = (tt, fit)
sets_good (set ∷ sets) parts free fit =
    let value = value_good set.value (spell_sets sets parts) fit.1.1.1 in
    let later = sets_good sets parts free.1 value.1 in
    (((good_name set.embed.name _ free.0 fit.1.0.sound fit.1.0.within, value.0), later.0), later.1)

abbrev pub IsGoodPre : Option (List ExprToken) → Type 0
IsGoodPre None = Unit {0}
IsGoodPre (Some tokens) = AreWithin tokens

pre_good : (pre : Option (List ExprToken)) (parts : List (Part Role)) → AreFit (spell_pre pre parts) → IsGoodPre pre × AreFit parts
pre_good None parts fit = (tt, fit)
pre_good (Some tokens) parts fit = value_good tokens parts fit.1

-- ---- letters and items

module _ (n : ℕ) where
  letters_good : (k : ℕ) (word : List Letter) (parts : List (Part Role)) → k ≤ 8 → AreFit (spell_letters n k word parts) → (k + length word ≤ 8) × AllByRecursion (IsGoodLetter n) word × AreFit parts
  letters_good k [] parts short fit = (omega (arith, short), tt, fit)
  letters_good k (letters.At i ∷ word) parts short fit =
      let passed = not_passed (ltb n i) _ _ fit.0.within in
      let room = not_passed (ltb 8 (k + 1)) _ _ passed.1 in
      let later = letters_good (k + 1) word parts (ltb-false 8 (k + 1) room.0) fit.1 in
      (omega (arith, later.0), (ltb-false n i passed.0, later.1), later.2)
  letters_good k (letters.Gone ∷ word) parts short fit =
      let room = not_passed (ltb 8 (k + 1)) _ _ fit.0.within in
      let later = letters_good (k + 1) word parts (ltb-false 8 (k + 1) room.0) fit.1 in
      (omega (arith, later.0), (tt, later.1), later.2)

  behind_hook_fit : (hook : Bool) (parts : List (Part Role)) → AreFit (spell_hook hook parts) → AreFit parts
  behind_hook_fit true parts fit = fit.1
  behind_hook_fit false parts fit = fit

  item_good : (item : text.Item) (count : Count) (parts : List (Part Role)) → IsFreeItem item → AreFew count → AreFit (spell_item n count item parts) → IsGoodItem n item × AreFew (count_after count item) × AreFit parts
  item_good (NodeItem node word hook sets) count parts free few fit =
      let room = not_passed (ltb 32 (length (with_name count.nodes node.name))) _ _ fit.1.0.within in
      let within = letters_good 0 word _ (omega arith) fit.1.1 in
      let assigned = sets_good sets parts free.1 (behind_hook_fit hook (spell_sets sets parts) within.2.1) in (
        (good_name node.name _ free.0 fit.0.sound fit.0.within, (omega (arith, within.0), within.1), assigned.0),
        record { nodes = ltb-false 32 (length (with_name count.nodes node.name)) room.0; links = few.links },
        assigned.1,
      )
  item_good (LinkItem from label to) count parts free few fit =
      let room = not_passed (ltb 256 (count.links + 1)) _ _ fit.1.0.within in
      let low = not_passed (ltb n label) _ _ fit.1.1.0.within in (
        (good_name from.name _ free.0 fit.0.sound fit.0.within, ltb-false n label low.0, good_name to.name _ free.1 fit.1.1.1.1.0.sound fit.1.1.1.1.0.within),
        record { nodes = few.nodes; links = ltb-false 256 (count.links + 1) room.0 },
        fit.1.1.1.1.1,
      )

  items_good : (side : Side) (items : List text.Item) (count : Count) (parts : List (Part Role)) → AllByRecursion (IsItem n side) items → AreFew count → AreFit (spell_items n count items parts)
      → AllByRecursion (IsGoodItem n) items × AreFew (counted count items) × AreFit parts
  items_good side [] count parts are few fit = (tt, few, fit)
  items_good side (item ∷ items) count parts are few fit =
      let first = item_good item count _ (free_item n side item are.0) few fit in
      let later = items_good side items (count_after count item) parts are.1 first.1 first.2 in
      ((first.0, later.0), later.1, later.2)

-- ---- good parameters

abbrev pub IsGoodParamForm : ParamForm → Type 0
IsGoodParamForm param = IsGoodName param.name.name

-- a parameter's name behind so many
name_good : (k : ℕ) (param : ParamForm) → IsParam param → IsLexeme kinds.Name param.name.name → cond (ltb 32 (length param.name.name)) (Some limits.Name) (cond (ltb 8 k) (Some limits.Parameters) None) ≡ None → IsGoodParamForm param × (k ≤ 8)
name_good k param free token within =
    let short = not_passed (ltb 32 (length param.name.name)) _ _ within in
    let room = not_passed (ltb 8 k) _ _ short.1 in
    (((ltb-false 32 (length param.name.name) short.0, token), free), ltb-false 8 k room.0)

more_params_good : (k : ℕ) (params : List ParamForm) (parts : List (Part Role)) → k ≤ 8 → AllByRecursion IsParam params → AreFit (spell_more_params k params parts) → AllByRecursion IsGoodParamForm params × (k + length params ≤ 8) × AreFit parts
more_params_good k [] parts few are fit = (tt, omega (arith, few), fit.1)
more_params_good k (param ∷ params) parts few are fit =
    let first = name_good (k + 1) param are.0 fit.1.0.sound fit.1.0.within in
    let later = more_params_good (k + 1) params parts first.1 are.1 fit.1.1.1.1 in
    ((first.0, later.0), omega (arith, later.1), later.2)

params_good : (params : List ParamForm) (parts : List (Part Role)) → AllByRecursion IsParam params → AreFit (spell_params params parts) → AllByRecursion IsGoodParamForm params × (length params ≤ 8) × AreFit parts
params_good [] parts are fit = (tt, omega arith, fit)
params_good (param ∷ params) parts are fit =
    let first = name_good 1 param are.0 fit.1.0.sound fit.1.0.within in
    let later = more_params_good 1 params parts first.1 are.1 fit.1.1.1.1 in
    ((first.0, later.0), omega (arith, later.1), later.2)

-- ---- good rules

pub record IsReadable (n : ℕ) (form : RuleForm) : Type 0 where
  pub name : IsGoodName form.name.name
  pub params : AllByRecursion IsGoodParamForm form.params
  pub few_params : length form.params ≤ 8
  pub left : AllByRecursion (IsGoodItem n) form.left
  pub right : AllByRecursion (IsGoodItem n) form.right
  pub left_few : AreFew (counted no_count form.left)
  pub right_few : AreFew (counted (count_across (counted no_count form.left)) form.right)
  pub pre : IsGoodPre form.pre

module _ (n : ℕ) where
  form_good : (version k : ℕ) (form : RuleForm) (parts : List (Part Role)) → IsRule version n form → AreFit (spell_rule n k form parts) → IsReadable n form × (k ≤ 256) × AreFit parts
  form_good version k form parts is fit =
      let room = not_passed (ltb 256 k) _ _ fit.0.within in
      let params = params_good form.params _ is.params fit.1.1 in
      let left = items_good n Left form.left no_count _ is.left (record { nodes = omega arith; links = omega arith }) params.2.1 in
      let right = items_good n Right form.right (count_across (counted no_count form.left)) (spell_pre form.pre parts) is.right (record { nodes = left.1.nodes; links = omega arith }) left.2.1 in
      let pre = pre_good form.pre parts right.2 in (
        record {
          name = good_name form.name.name _ is.name fit.1.0.sound fit.1.0.within;
          params = params.0;
          few_params = params.1;
          left = left.0;
          right = right.0;
          left_few = left.1;
          right_few = right.1;
          pre = pre.0;
        },
        ltb-false 256 k room.0,
        pre.1,
      )

  forms_good : (version k : ℕ) (forms : List RuleForm) → k ≤ 256 → AllByRecursion (IsRule version n) forms → AreFit (spell_rules n k forms (the_end Fixed ∷ [])) → AllByRecursion (IsReadable n) forms × (k + length forms ≤ 256)
  forms_good version k [] few are fit = (tt, omega (arith, few))
  forms_good version k (form ∷ forms) few are fit =
      let first = form_good version (k + 1) form _ are.0 fit in
      let later = forms_good version (k + 1) forms first.1 are.1 first.2 in
      ((first.0, later.0), omega (arith, later.1))

-- ---- what the passes over the names ask for

pub low_letters : (n : ℕ) (word : List Letter) → AllByRecursion (IsGoodLetter n) word → HasLabelsUpTo n word
low_letters n [] good = tt
low_letters n (x ∷ word) good = (λ i is. subst (IsGoodLetter n) is good.0, low_letters n word good.1)

low_items : (n : ℕ) (items : List text.Item) → AllByRecursion (IsGoodItem n) items → AllByRecursion (IsLowItem n) items
low_items n [] good = tt
low_items n (NodeItem node word hook sets ∷ items) good = (low_letters n word good.0.1.1, low_items n items good.1)
low_items n (LinkItem from label to ∷ items) good = (good.0.1, low_items n items good.1)

-- the count of links takes no notice of the nodes
same_links : (items : List text.Item) (one other : Count) → one.links ≡ other.links → (counted one items).links ≡ (counted other items).links
same_links [] one other e = e
same_links (NodeItem node word hook sets ∷ items) one other e = same_links items (count_after one (NodeItem node word hook sets)) (count_after other (NodeItem node word hook sets)) e
same_links (LinkItem from label to ∷ items) one other e = same_links items (count_after one (LinkItem from label to)) (count_after other (LinkItem from label to)) (ap (λ k. k + 1) e)

pub few_names : (n : ℕ) (form : RuleForm) → IsReadable n form → length (nodes_of form) ≤ 32
few_names n form ok =
    let across = count_across (counted no_count form.left) in
    let same : (counted across form.right).nodes ≡ nodes_of form = counted_seen across form.right ∙ sym (counted_seen (counted no_count form.left) form.right) in
    subst (λ names. length names ≤ 32) same ok.right_few.nodes

fits : (n : ℕ) (form : RuleForm) → IsReadable n form → IsFitting n form
fits n form ok = record {
  nodes = few_names n form ok;
  params = ok.few_params;
  left_links = ok.left_few.links;
  right_links = subst (λ k. k ≤ 256) (same_links form.right (count_across (counted no_count form.left)) no_count refl) ok.right_few.links;
  left = low_items n form.left ok.left;
  right = low_items n form.right ok.right;
}

all_fit : (n : ℕ) (forms : List RuleForm) → AllByRecursion (IsReadable n) forms → AllByRecursion (IsFitting n) forms
all_fit n [] ok = tt
all_fit n (form ∷ forms) ok = (fits n form ok.0, all_fit n forms ok.1)

pub all_exprs : (version n : ℕ) (forms : List RuleForm) → AllByRecursion (IsRule version n) forms → AllByRecursion (HasExprs n) forms
all_exprs version n [] are = tt
all_exprs version n (form ∷ forms) are = (record { sets = are.0.right; pre = are.0.pre }, all_exprs version n forms are.1)

pub all_fitting : (version n : ℕ) (forms : List RuleForm) → AllByRecursion (IsRule version n) forms → AreFit (spell_rules n 0 forms (the_end Fixed ∷ [])) → AllByRecursion (IsFitting n) forms
all_fitting version n forms are fit = all_fit n forms (forms_good n version 0 forms (omega arith) are fit).0

-- ---- a book

-- the parts of the schema, and of the rules behind it
parts_behind : (parts : List (Part schemas.Role)) (rest : List (Part Role)) → AreFit (map (in_role InSchema) parts ++ rest) → AllByRecursion IsSound (symbols_in parts) × IsWithin schemas.IsSentence schemas.limit_of parts × AreFit rest
parts_behind [] rest fit = (tt, tt, fit)
parts_behind (part ∷ parts) rest fit = let behind = parts_behind parts rest fit.1 in ((fit.0.sound, behind.0), (fit.0.within, behind.1), behind.2)

pub record IsReadableBook (book : BookForm) : Type 0 where
  pub sound : AllByRecursion IsSound (symbols_in (spell book.schema []))
  pub within : IsWithin schemas.IsSentence schemas.limit_of (spell book.schema [])
  pub some : 0 < book.schema.dim
  pub low : book.schema.dim ≤ 7
  pub few : length book.rules ≤ 256
  pub each : AllByRecursion (IsReadable book.schema.dim) book.rules

pub book_good : (book : BookForm) → IsForm book → AreFit (spelling book) → IsReadableBook book
book_good book is fit =
    let n = book.schema.dim in
    let behind = parts_behind (spell book.schema []) (spell_rules n 0 book.rules (the_end Fixed ∷ [])) fit.1.1 in
    let top = or_parts (eqb n 0) (ltb 7 n) (not_passed (eqb n 0 || ltb 7 n) _ _ behind.1.1.0).0 in
    let rules = forms_good n book.version 0 book.rules (omega arith) is.2 behind.2 in
    record {
      sound = behind.0;
      within = behind.1;
      some = elim (cases_lt 0 n) [ inl lt ↦ lt | inr le ↦ absurd (eqb-false n 0 top.0 (omega arith)) ];
      low = ltb-false 7 n top.1;
      few = omega (arith, rules.1);
      each = rules.0;
    }

-- What leads through the states to the end are rules, and these are what is held.
use Rattle.std.proofs.Common.{◌≡◌, ℕ, ◌+◌, Bool, true, false, cond, Option, List, [], ◌∷◌, ◌++◌, map, length, Some, None, refl, sym, ap, subst, ◌∙◌, codes, append_assoc}
use Rattle.std.proofs.lemmas.Option.{none-some}
use Rattle.std.proofs.lemmas.Bool.{and_parts}
use Rattle.std.proofs.lemmas.List.{append-nil}
use Rattle.std.proofs.lemmas.Slice.Eq.{bytes_eq-Decides}
use Rattle.std.specs.List.{AllByRecursion}
use Rattle.std.specs.Str.{bytes_eq}
use Rattle.gm_model.specs.declared.rule.Side.{Side}
use Rattle.gm_model.specs.declared.rule.Side.TheVariants.{Left, Right}
use Rattle.gm_model.specs.declared.value.Kind.{Kind}
use Rattle.gm_model.specs.declared.value.Kind.TheVariants as kinds
use Rattle.gm_model.specs.declared.word.Letter.{Letter}
use Rattle.gm_model.specs.declared.word.Letter.TheVariants as letters
use Rattle.gm_model.specs.Names.{Mention, IsFree}
use Rattle.gm_model.specs.Symbols.{Symbol, Word, Numeral, Sign, Gone, End, Stray, Mark}
use Rattle.gm_model.specs.Reading as reading
use Rattle.gm_model.specs.Reading.{word, number, sign}
use Rattle.gm_forms.specs.BookText.{Item, NodeItem, LinkItem, ParamForm, ExprToken, SetForm, RuleForm, Count, with_name, Role, Fixed, RuleWord, NameAt, ParamName, LetterAt, NodeSign, LinkSign, LabelAt, limit_of, stands_before, named, part_of, in_expr, spell_sets, spell_hook, IsExpr, IsSet, IsItem, IsRule}
use Rattle.std.specs.Option.{option_map}
use Rattle.gm_text.specs.SchemaText.{kind_word}
use Rattle.gm_text.specs.inner.SchemaReading.{kind_named}
use Rattle.gm_text.proofs.SchemaGrammar.{kind_spelled}
use Rattle.std.specs.Prelude.{IsTrue}
use Rattle.gm_parse.specs.inner.Reading as exprs
use Rattle.gm_parse.specs.inner.Reading.{first_spot, spot_move, spot_role, is_whole_spot}
use Rattle.gm_parse.proofs.Counted.{path_form}
use Rattle.gm_forms.proofs.Apart.{expr_placed}
use Rattle.gm_text.proofs.Machine.{Along}
use Rattle.gm_forms.specs.declared.state.Heading.{Heading}
use Rattle.gm_forms.specs.inner.Reading.{Spot, State, AtRules, AtName, AtLeft, AtParam, AtColon, AtKind, AtComma, AtBody, AtItem, AtSign, AtLetter, AtBehind, AtSet, AtEqual, AtExpr, AtRuleEnd, AtLabel, AtDash, AtTo, AtEnd, SetSlot, PreSlot, on_right, left_spot, right_spot, with_node, with_link, closing, takes_hook, is_hook, is_pre_on, is_with_on, role_at, expect, item_move, behind_move, plain_move, unless_reserved, end_move, closed, comma_move, param_kind, expr_move, move, Nothing, Assigned, Required, assign_last, require, Held, mention_at, with_param, hook_last, held_behind}
use Rattle.gm_forms.proofs.Leading.{spot_at, taken_left}
use Rattle.gm_forms.proofs.Spelling.{Parts, within, behind, either, grown, Items, ItemsAt, spelled, hooked_at, all, put, assign_all, finish, AreOn, AfterHeader, Rest, After, expected, free_word, mark_at, part_in, add, spelled_add, all_put, finish_put, all_behind, declared_none, declared_more}

-- ---- one mark

either_none : (pre : Option (List ExprToken)) → either pre None ≡ pre
either_none None = refl
either_none (Some tokens) = refl

abbrev named_rule : List RuleForm → Mention → List ParamForm → List Item → List Item → Option (List ExprToken) → List RuleForm → Held
named_rule before name params left right pre rules = let r : RuleForm = record { name = name; params = params; left = left; right = right; pre = pre } in behind (before ++ r ∷ rules)

first_rule : (h : Heading) (w : List ℕ) (place : ℕ) (marks : List Mark) (parts : Parts) (next : State) → expect (codes "rule") w (AtName h 1) ≡ Some next → After next marks parts → After (AtRules h) (mark_at (Word w) place ∷ marks) (part_in (AtRules h) (Word w) place ∷ parts)
first_rule h w place marks parts next moves rest =
    let e = expected (codes "rule") w (AtName h 1) next moves in
    let behind : After (AtName h 1) marks parts = subst (λ s. After s marks parts) (sym e.1) rest in
    rw e.0 (record { rules = behind.rule ∷ behind.rules; rules_good = (behind.rule_good, behind.rules_good); same = behind.same; held = behind.held [] })

no_rules : (h : Heading) (place : ℕ) (marks : List Mark) (parts : Parts) (next : State) → Some AtEnd ≡ Some next → After next marks parts → After (AtRules h) (mark_at End place ∷ marks) (part_in (AtRules h) End place ∷ parts)
no_rules h place marks parts next moves rest =
    let e : AtEnd ≡ next = cc moves in
    let behind : After AtEnd marks parts = subst (λ s. After s marks parts) (sym e) rest in
    rw (behind.0, behind.1) (record { rules = []; rules_good = tt; same = refl; held = refl })

rule_name : (h : Heading) (k : ℕ) (w : List ℕ) (place : ℕ) (marks : List Mark) (parts : Parts) (next : State) → unless_reserved w (AtLeft h k) ≡ Some next → After next marks parts → After (AtName h k) (mark_at (Word w) place ∷ marks) (part_in (AtName h k) (Word w) place ∷ parts)
rule_name h k w place marks parts next moves rest =
    let e = free_word w (AtLeft h k) next moves in
    let behind : After (AtLeft h k) marks parts = subst (λ s. After s marks parts) (sym e.1) rest in
    let name = mention_at w place in
    let rule : RuleForm = record { name = name; params = behind.params; left = behind.items.left; right = behind.items.right; pre = behind.items.pre } in
    record {
      rule = rule;
      rules = behind.items.rules;
      rule_good = record {
        name = e.0;
        params = behind.good;
        left = behind.items.left_good;
        right = behind.items.right_good;
        pre = behind.items.pre_good;
        few_hooks = taken_left h.version behind.items.left behind.items.taken;
      };
      rules_good = behind.items.rules_good;
      same = ap (λ (ps : Parts). word (RuleWord k) (codes "rule") ∷ named name ∷ ps) behind.same;
      held = λ before. rw e.0 (behind.held before (record { name = name; params = []; left = []; right = []; pre = None }) Nothing ∙ ap (λ (pre : Option (List ExprToken)). named_rule before name behind.params behind.items.left behind.items.right pre behind.items.rules) (either_none behind.items.pre));
    }

left_word : (h : Heading) (k : ℕ) (w : List ℕ) (place : ℕ) (marks : List Mark) (parts : Parts) (next : State) → expect (codes "left") w (AtItem (left_spot h k)) ≡ Some next → After next marks parts → After (AtLeft h k) (mark_at (Word w) place ∷ marks) (part_in (AtLeft h k) (Word w) place ∷ parts)
left_word h k w place marks parts next moves rest =
    let e = expected (codes "left") w (AtItem (left_spot h k)) next moves in
    let behind : After (AtItem (left_spot h k)) marks parts = subst (λ s. After s marks parts) (sym e.1) rest in
    rw e.0 (record {
      params = [];
      good = tt;
      items = behind.items;
      same = ap (λ (ps : Parts). word Fixed (codes "left") ∷ ps) behind.same;
      held = λ before rule part. behind.held before rule part ∙ ap (λ (r : RuleForm). all_behind before r behind.items) (sym (declared_none rule));
    })

body_word : (h : Heading) (k : ℕ) (w : List ℕ) (place : ℕ) (marks : List Mark) (parts : Parts) (next : State) → expect (codes "left") w (AtItem (left_spot h k)) ≡ Some next → After next marks parts → After (AtBody h k) (mark_at (Word w) place ∷ marks) (part_in (AtBody h k) (Word w) place ∷ parts)
body_word h k w place marks parts next moves rest =
    let e = expected (codes "left") w (AtItem (left_spot h k)) next moves in
    let behind : After (AtItem (left_spot h k)) marks parts = subst (λ s. After s marks parts) (sym e.1) rest in
    rw e.0 (record { items = behind.items; same = ap (λ (ps : Parts). word Fixed (codes "left") ∷ ps) behind.same; held = behind.held })

-- ---- parameters

open_sign : (h : Heading) (k : ℕ) (s : List ℕ) (place : ℕ) (marks : List Mark) (parts : Parts) (next : State) → expect (codes "(") s (AtParam h k 0) ≡ Some next → After next marks parts
    → After (AtLeft h k) (mark_at (Sign s) place ∷ marks) (part_in (AtLeft h k) (Sign s) place ∷ parts)
open_sign h k s place marks parts next moves rest =
    let e = expected (codes "(") s (AtParam h k 0) next moves in
    let behind : After (AtParam h k 0) marks parts = subst (λ s. After s marks parts) (sym e.1) rest in
    rw e.0 (record {
      params = behind.param ∷ behind.params;
      good = (behind.free, behind.good);
      items = behind.items;
      same = ap (λ (ps : Parts). sign Fixed (codes "(") ∷ ps) behind.same;
      held = behind.held;
    })

param_name : (h : Heading) (k count : ℕ) (w : List ℕ) (place : ℕ) (marks : List Mark) (parts : Parts) (next : State) → unless_reserved w (AtColon h k (count + 1)) ≡ Some next → After next marks parts
    → After (AtParam h k count) (mark_at (Word w) place ∷ marks) (part_in (AtParam h k count) (Word w) place ∷ parts)
param_name h k count w place marks parts next moves rest =
    let e = free_word w (AtColon h k (count + 1)) next moves in
    let behind : After (AtColon h k (count + 1)) marks parts = subst (λ s. After s marks parts) (sym e.1) rest in
    record {
      param = record { name = mention_at w place; kind = behind.kind };
      free = e.0;
      params = behind.params;
      good = behind.good;
      items = behind.items;
      same = ap (λ (ps : Parts). word (ParamName (count + 1) place) w ∷ ps) behind.same;
      held = λ before rule part. rw e.0 (behind.held before rule (mention_at w place));
    }

colon_sign : (h : Heading) (k count : ℕ) (s : List ℕ) (place : ℕ) (marks : List Mark) (parts : Parts) (next : State) → expect (codes ":") s (AtKind h k count) ≡ Some next → After next marks parts
    → After (AtColon h k count) (mark_at (Sign s) place ∷ marks) (part_in (AtColon h k count) (Sign s) place ∷ parts)
colon_sign h k count s place marks parts next moves rest =
    let e = expected (codes ":") s (AtKind h k count) next moves in
    let behind : After (AtKind h k count) marks parts = subst (λ s. After s marks parts) (sym e.1) rest in
    rw e.0 (record {
      kind = behind.kind;
      params = behind.params;
      good = behind.good;
      items = behind.items;
      same = ap (λ (ps : Parts). sign Fixed (codes ":") ∷ ps) behind.same;
      held = behind.held;
    })

kind_is : (w : List ℕ) (kind : Kind) → param_kind w ≡ Some kind → w ≡ kind_word kind
kind_is w kind named = go (bytes_eq w (codes "bool")) refl
  where
    go : (b : Bool) → bytes_eq w (codes "bool") ≡ b → w ≡ kind_word kind
    go true is =
        let one : Some kinds.Bool ≡ Some kind = rw is at named in
        let same : kinds.Bool ≡ kind = cc one in
        (bytes_eq-Decides w (codes "bool")).0 is ∙ ap kind_word same
    go false is = let other : kind_named w ≡ Some kind = rw is at named in (kind_spelled w kind other).0

kind_read : (h : Heading) (k count : ℕ) (w : List ℕ) (place : ℕ) (marks : List Mark) (parts : Parts) (next : State) → option_map (λ (kind : Kind). AtComma h k count) (param_kind w) ≡ Some next → After next marks parts
    → After (AtKind h k count) (mark_at (Word w) place ∷ marks) (part_in (AtKind h k count) (Word w) place ∷ parts)
kind_read h k count w place marks parts next moves rest = go (param_kind w) refl
  where
    go : (found : Option Kind) → param_kind w ≡ found → After (AtKind h k count) (mark_at (Word w) place ∷ marks) (part_in (AtKind h k count) (Word w) place ∷ parts)
    go None is = absurd (none-some next (rw is at moves))
    go (Some kind) is =
        let one : Some (AtComma h k count) ≡ Some next = rw is at moves in
        let e : AtComma h k count ≡ next = cc one in
        let behind : After (AtComma h k count) marks parts = subst (λ s. After s marks parts) (sym e) rest in
        record {
          kind = kind;
          params = behind.params;
          good = behind.good;
          items = behind.items;
          same = ap (λ (v : List ℕ). word Fixed v ∷ parts) (kind_is w kind is) ∙ ap (λ (ps : Parts). word Fixed (kind_word kind) ∷ ps) behind.same;
          held = λ before rule name. rw (is) (behind.held before (with_param (record { name = name; kind = kind }) rule) Nothing
              ∙ ap (λ (r : RuleForm). all_behind before r behind.items) (declared_more (record { name = name; kind = kind }) behind.params rule));
        }

comma_sign : (h : Heading) (k count : ℕ) (s : List ℕ) (place : ℕ) (marks : List Mark) (parts : Parts) (next : State) → comma_move h k count s ≡ Some next → After next marks parts
    → After (AtComma h k count) (mark_at (Sign s) place ∷ marks) (part_in (AtComma h k count) (Sign s) place ∷ parts)
comma_sign h k count s place marks parts next moves rest = go (bytes_eq s (codes ",")) refl
  where
    go : (b : Bool) → bytes_eq s (codes ",") ≡ b → After (AtComma h k count) (mark_at (Sign s) place ∷ marks) (part_in (AtComma h k count) (Sign s) place ∷ parts)
    go true is =
        let one : Some (AtParam h k count) ≡ Some next = rw is at moves in
        let e : AtParam h k count ≡ next = cc one in
        let behind : After (AtParam h k count) marks parts = subst (λ s. After s marks parts) (sym e) rest in
        rw ((bytes_eq-Decides s (codes ",")).0 is) (record {
          params = behind.param ∷ behind.params;
          good = (behind.free, behind.good);
          items = behind.items;
          same = ap (λ (ps : Parts). sign Fixed (codes ",") ∷ ps) behind.same;
          held = behind.held;
        })
    go false is =
        let ends : expect (codes ")") s (AtBody h k) ≡ Some next = rw is at moves in
        let e = expected (codes ")") s (AtBody h k) next ends in
        let behind : After (AtBody h k) marks parts = subst (λ s. After s marks parts) (sym e.1) rest in
        rw e.0 (record {
          params = [];
          good = tt;
          items = behind.items;
          same = ap (λ (ps : Parts). sign Fixed (codes ")") ∷ ps) behind.same;
          held = λ before rule part. behind.held before rule part ∙ ap (λ (r : RuleForm). all_behind before r behind.items) (sym (declared_none rule));
        })

-- ---- items

-- the items of the left side end
right_word : (h : Heading) (k : ℕ) (count : Count) (hook_before : Bool) (w : List ℕ) (place : ℕ) (marks : List Mark) (parts : Parts) → w ≡ codes "right" → After (AtItem (right_spot (spot_at h k Left count hook_before))) marks parts
    → After (AtItem (spot_at h k Left count hook_before)) (mark_at (Word w) place ∷ marks) (part_in (AtItem (spot_at h k Left count hook_before)) (Word w) place ∷ parts)
right_word h k count hook_before w place marks parts e behind =
    let items : Items h.version h.dim hook_before Left = record { left = []; right = behind.items.right; pre = behind.items.pre; rules = behind.items.rules; on = tt; left_good = tt; taken = tt; right_good = behind.items.right_good; pre_good = behind.items.pre_good; rules_good = behind.items.rules_good } in
    rw e (record {
      items = items;
      same = ap (λ (ps : Parts). word Fixed (codes "right") ∷ ps) behind.same;
      held = λ before rule part. behind.held before rule part
          ∙ ap (λ (left : List Item). let r : RuleForm = record { name = rule.name; params = rule.params; left = rule.left ++ left; right = rule.right ++ behind.items.right; pre = either behind.items.pre rule.pre } in let h : Held = record { rules = before ++ r ∷ behind.items.rules; current = None; part = Nothing } in h) behind.items.on;
    })

-- nothing more stands on either side
pub grown_nothing : (rule : RuleForm) → rule ≡ grown rule [] [] None
grown_nothing rule =
    ap (λ (left : List Item). let r : RuleForm = record { name = rule.name; params = rule.params; left = left; right = rule.right; pre = rule.pre } in r) (sym (append-nil rule.left))
    ∙ ap (λ (right : List Item). let r : RuleForm = record { name = rule.name; params = rule.params; left = rule.left ++ []; right = right; pre = rule.pre } in r) (sym (append-nil rule.right))

abbrev nothing_more : (version n : ℕ) (hook_before : Bool) (rules : List RuleForm) → AllByRecursion (IsRule version n) rules → Items version n hook_before Right
nothing_more version n hook_before rules good = record { left = []; right = []; pre = None; rules = rules; on = refl; left_good = tt; taken = tt; right_good = tt; pre_good = tt; rules_good = good }

next_rule : (h : Heading) (k : ℕ) (count : Count) (hook_before : Bool) (w : List ℕ) (place : ℕ) (marks : List Mark) (parts : Parts) → w ≡ codes "rule" → After (AtName h (k + 1)) marks parts
    → After (AtItem (spot_at h k Right count hook_before)) (mark_at (Word w) place ∷ marks) (part_in (AtItem (spot_at h k Right count hook_before)) (Word w) place ∷ parts)
next_rule h k count hook_before w place marks parts e behind =
    rw e (record {
      items = nothing_more h.version h.dim hook_before (behind.rule ∷ behind.rules) (behind.rule_good, behind.rules_good);
      same = behind.same;
      held = λ before rule part. behind.held (before ++ rule ∷ [])
          ∙ ap (λ (rules : List RuleForm). let h : Held = record { rules = rules; current = None; part = Nothing } in h)
          (append_assoc before (rule ∷ []) (behind.rule ∷ behind.rules) ∙ ap (λ (r : RuleForm). before ++ r ∷ behind.rule ∷ behind.rules) (grown_nothing rule));
    })

-- nothing but a precondition is added
required : (tokens : List ExprToken) (rule : RuleForm) → require tokens rule ≡ grown rule [] [] (Some tokens)
required tokens rule =
    ap (λ (left : List Item). let r : RuleForm = record { name = rule.name; params = rule.params; left = left; right = rule.right; pre = Some tokens } in r) (sym (append-nil rule.left))
    ∙ ap (λ (right : List Item). let r : RuleForm = record { name = rule.name; params = rule.params; left = rule.left ++ []; right = right; pre = Some tokens } in r) (sym (append-nil rule.right))

-- what leads from the first spot to where an expression is whole is one
value_is : (n : ℕ) (rest : Rest n first_spot) → IsExpr n rest.tokens
value_is n rest =
    let is = path_form n (map part_of rest.tokens) rest.last rest.leads rest.whole in
    (is.form, record { good = is.good; spelled = is.spelled; placed = rest.placed })

item_end : (h : Heading) (k : ℕ) (side : Side) (count : Count) (hook_before : Bool) (place : ℕ) (marks : List Mark) (parts : Parts) (next : State) → end_move side ≡ Some next → After next marks parts
    → After (AtItem (spot_at h k side count hook_before)) (mark_at End place ∷ marks) (part_in (AtItem (spot_at h k side count hook_before)) End place ∷ parts)
item_end h k Left count hook_before place marks parts next moves rest = absurd (none-some next moves)
item_end h k Right count hook_before place marks parts next moves rest =
    let e : AtEnd ≡ next = cc moves in
    let behind : After AtEnd marks parts = subst (λ s. After s marks parts) (sym e) rest in
    rw (behind.0, behind.1) (record {
      items = nothing_more h.version h.dim hook_before [] tt;
      same = refl;
      held = λ before rule part. ap (λ (r : RuleForm). let h : Held = record { rules = before ++ r ∷ []; current = None; part = Nothing } in h) (grown_nothing rule);
    })

item_name : (h : Heading) (k : ℕ) (side : Side) (count : Count) (hook_before : Bool) (w : List ℕ) (place : ℕ) (marks : List Mark) (parts : Parts) (next : State) → bytes_eq w (closing side) ≡ false → is_pre_on side w ≡ false → unless_reserved w (AtSign (spot_at h k side count hook_before) w) ≡ Some next → After next marks parts
    → After (AtItem (spot_at h k side count hook_before)) (mark_at (Word w) place ∷ marks) (part_in (AtItem (spot_at h k side count hook_before)) (Word w) place ∷ parts)
item_name h k side count hook_before w place marks parts next other plain moves rest =
    let spot = spot_at h k side count hook_before in
    let e = free_word w (AtSign spot w) next moves in
    let behind : After (AtSign spot w) marks parts = subst (λ s. After s marks parts) (sym e.1) rest in
    let name = mention_at w place in
    let item = behind.item name in
    let good = behind.good name refl e.0 in
    let taken = behind.taken name in
    let items = behind.items name in
    rw (other, plain) (record {
      items = add h.version h.dim hook_before side item good taken items;
      same = behind.same name refl ∙ sym (spelled_add h k side count hook_before item good taken items);
      held = λ before rule part. rw (other, plain, e.0) (behind.held before rule name ∙ ap (λ (rules : List RuleForm). let h : Held = record { rules = before ++ rules; current = None; part = Nothing } in h) (all_put h.version h.dim hook_before side item good taken rule items));
    })

-- a precondition begins
pre_word : (h : Heading) (k : ℕ) (side : Side) (count : Count) (hook_before : Bool) (w : List ℕ) (place : ℕ) (marks : List Mark) (parts : Parts) → bytes_eq w (closing side) ≡ false → is_pre_on side w ≡ true → After (AtExpr (PreSlot h k) first_spot) marks parts
    → After (AtItem (spot_at h k side count hook_before)) (mark_at (Word w) place ∷ marks) (part_in (AtItem (spot_at h k side count hook_before)) (Word w) place ∷ parts)
pre_word h k Left count hook_before w place marks parts other pre behind = absurd cc
pre_word h k Right count hook_before w place marks parts other pre behind =
    let is : w ≡ codes "pre" = (bytes_eq-Decides w (codes "pre")).0 pre in
    rw is (record {
      items = record { left = []; right = []; pre = Some behind.value.tokens; rules = behind.rules; on = refl; left_good = tt; taken = tt; right_good = tt; pre_good = value_is h.dim behind.value; rules_good = behind.rules_good };
      same = ap (λ (ps : Parts). word Fixed (codes "pre") ∷ ps) behind.same;
      held = λ before rule part. behind.held before rule [] ∙ ap (λ (r : RuleForm). let h : Held = record { rules = before ++ r ∷ behind.rules; current = None; part = Nothing } in h) (required behind.value.tokens rule);
    })

item_word : (h : Heading) (k : ℕ) (side : Side) (count : Count) (hook_before : Bool) (w : List ℕ) (place : ℕ) (marks : List Mark) (parts : Parts) (next : State) → item_move (spot_at h k side count hook_before) w ≡ Some next → After next marks parts
    → After (AtItem (spot_at h k side count hook_before)) (mark_at (Word w) place ∷ marks) (part_in (AtItem (spot_at h k side count hook_before)) (Word w) place ∷ parts)
item_word h k side count hook_before w place marks parts next moves rest = go side refl (bytes_eq w (closing side)) refl
  where
    go : (s : Side) → side ≡ s → (b : Bool) → bytes_eq w (closing side) ≡ b → After (AtItem (spot_at h k side count hook_before)) (mark_at (Word w) place ∷ marks) (part_in (AtItem (spot_at h k side count hook_before)) (Word w) place ∷ parts)
    go s f false is = plain (is_pre_on side w) refl
      where
        plain : (c : Bool) → is_pre_on side w ≡ c → After (AtItem (spot_at h k side count hook_before)) (mark_at (Word w) place ∷ marks) (part_in (AtItem (spot_at h k side count hook_before)) (Word w) place ∷ parts)
        plain false no_pre = item_name h k side count hook_before w place marks parts next is no_pre (rw (is, no_pre) at moves) rest
        plain true pre =
            let one : Some (AtExpr (PreSlot h k) first_spot) ≡ Some next = rw (is, pre) at moves in
            let e : AtExpr (PreSlot h k) first_spot ≡ next = cc one in
            pre_word h k side count hook_before w place marks parts is pre (subst (λ s. After s marks parts) (sym e) rest)
    go Left f true is =
        let one : Some (closed (spot_at h k side count hook_before) side) ≡ Some next = rw is at moves in
        let e : closed (spot_at h k side count hook_before) side ≡ next = cc one in
        let to : AtItem (right_spot (spot_at h k Left count hook_before)) ≡ next = rw f at e in
        let closes : w ≡ codes "right" = (bytes_eq-Decides w (codes "right")).0 (rw f at is) in
        rw f (right_word h k count hook_before w place marks parts closes (subst (λ s. After s marks parts) (sym to) rest))
    go Right f true is =
        let one : Some (closed (spot_at h k side count hook_before) side) ≡ Some next = rw is at moves in
        let e : closed (spot_at h k side count hook_before) side ≡ next = cc one in
        let to : AtName h (k + 1) ≡ next = rw f at e in
        let closes : w ≡ codes "rule" = (bytes_eq-Decides w (codes "rule")).0 (rw f at is) in
        rw f (next_rule h k count hook_before w place marks parts closes (subst (λ s. After s marks parts) (sym to) rest))

-- ---- within an item

node_good : (n : ℕ) (side : Side) (node : Mention) (word : List Letter) (hook : Bool) (sets : List SetForm) → (hook ≡ true → side ≡ Left) → AreOn side sets → AllByRecursion (IsSet n) sets → IsFree node → IsItem n side (NodeItem node word hook sets)
node_good n Left node word hook sets on alone good free = (free, alone)
node_good n Right node word false sets on alone good free = (free, refl, good)
node_good n Right node word true sets on alone good free = let other : Right ≡ Left = on refl in absurd cc

link_good : (n : ℕ) (side : Side) (from to : Mention) (label : ℕ) → IsFree from → IsFree to → IsItem n side (LinkItem from label to)
link_good n Left from to label one other = (one, other)
link_good n Right from to label one other = (one, other)

node_sign : (spot : Spot) (name : List ℕ) (place : ℕ) (marks : List Mark) (parts : Parts) → After (AtLetter (with_node spot name) 0) marks parts → After (AtSign spot name) (mark_at (Sign (codes "<")) place ∷ marks) (part_in (AtSign spot name) (Sign (codes "<")) place ∷ parts)
node_sign spot name place marks parts behind = record {
  item = λ from. NodeItem from behind.letters behind.hook behind.sets;
  good = λ from e free. node_good spot.heading.dim spot.side from behind.letters behind.hook behind.sets behind.hook_on behind.sets_on behind.sets_good free;
  taken = λ from. behind.taken;
  items = λ from. behind.items;
  same = λ from e. rw e (ap (λ (ps : Parts). word (NameAt from.place) name ∷ sign (NodeSign (length (with_name spot.count.nodes name))) (codes "<") ∷ ps) behind.same);
  held = λ before rule from. behind.held before rule from [];
}

link_sign : (spot : Spot) (name : List ℕ) (place : ℕ) (marks : List Mark) (parts : Parts) → After (AtLabel (with_link spot)) marks parts → After (AtSign spot name) (mark_at (Sign (codes "-")) place ∷ marks) (part_in (AtSign spot name) (Sign (codes "-")) place ∷ parts)
link_sign spot name place marks parts behind = record {
  item = λ from. LinkItem from behind.label behind.to;
  good = λ from e free. link_good spot.heading.dim spot.side from behind.to behind.label free behind.free;
  taken = λ from. tt;
  items = λ from. behind.items;
  same = λ from e. ap (λ (ps : Parts). named from ∷ sign (LinkSign (spot.count.links + 1)) (codes "-") ∷ ps) behind.same;
  held = λ before rule from. behind.held before rule from;
}

item_sign : (spot : Spot) (name s : List ℕ) (place : ℕ) (marks : List Mark) (parts : Parts) (next : State) → move (AtSign spot name) (Sign s) ≡ Some next → After next marks parts
    → After (AtSign spot name) (mark_at (Sign s) place ∷ marks) (part_in (AtSign spot name) (Sign s) place ∷ parts)
item_sign spot name s place marks parts next moves rest = go (bytes_eq s (codes "<")) refl (bytes_eq s (codes "-")) refl
  where
    go : (b : Bool) → bytes_eq s (codes "<") ≡ b → (c : Bool) → bytes_eq s (codes "-") ≡ c → After (AtSign spot name) (mark_at (Sign s) place ∷ marks) (part_in (AtSign spot name) (Sign s) place ∷ parts)
    go true is c f =
        let one : Some (AtLetter (with_node spot name) 0) ≡ Some next = rw is at moves in
        let e : AtLetter (with_node spot name) 0 ≡ next = cc one in
        rw ((bytes_eq-Decides s (codes "<")).0 is) (node_sign spot name place marks parts (subst (λ s. After s marks parts) (sym e) rest))
    go false is true f =
        let one : Some (AtLabel (with_link spot)) ≡ Some next = rw (is, f) at moves in
        let e : AtLabel (with_link spot) ≡ next = cc one in
        rw ((bytes_eq-Decides s (codes "-")).0 f) (link_sign spot name place marks parts (subst (λ s. After s marks parts) (sym e) rest))
    go false is false f = absurd (none-some next (rw (is, f) at moves))

abbrev behind' : {version n : ℕ} {hook_before : Bool} → List RuleForm → (side : Side) → Item → RuleForm → Items version n hook_before side → Held
behind' before side item rule items = behind (before ++ all side (put side item rule) items)

-- the node with a word that goes on with these letters
letters_append : (side : Side) (name : Mention) (front behind : List Letter) (x : Letter) (hook : Bool) (sets : List SetForm) (before : List RuleForm) (rule : RuleForm) {version n : ℕ} {hook_before : Bool} (items : Items version n hook_before side)
    → behind' before side (NodeItem name ((front ++ x ∷ []) ++ behind) hook sets) rule items ≡ behind' before side (NodeItem name (front ++ x ∷ behind) hook sets) rule items
letters_append side name front behind x hook sets before rule items =
    ap (λ (word : List Letter). behind' before side (NodeItem name word hook sets) rule items) (append_assoc front (x ∷ []) behind)

numbered : (spot : Spot) (k i place : ℕ) (marks : List Mark) (parts : Parts) → After (AtLetter spot (k + 1)) marks parts
    → After (AtLetter spot k) (mark_at (Numeral i) place ∷ marks) (part_in (AtLetter spot k) (Numeral i) place ∷ parts)
numbered spot k i place marks parts behind =
    record {
      letters = letters.At i ∷ behind.letters;
      hook = behind.hook;
      hook_on = behind.hook_on;
      taken = behind.taken;
      sets = behind.sets;
      sets_on = behind.sets_on;
      sets_good = behind.sets_good;
      items = behind.items;
      same = ap (λ (ps : Parts). number (LetterAt spot.heading.dim (k + 1)) i ∷ ps) behind.same;
      held = λ before rule name word. behind.held before rule name (word ++ letters.At i ∷ []) ∙ letters_append spot.side name word behind.letters (letters.At i) behind.hook behind.sets before rule behind.items;
    }

unused : (spot : Spot) (k place : ℕ) (marks : List Mark) (parts : Parts) → After (AtLetter spot (k + 1)) marks parts
    → After (AtLetter spot k) (mark_at Gone place ∷ marks) (part_in (AtLetter spot k) Gone place ∷ parts)
unused spot k place marks parts behind =
    record {
      letters = letters.Gone ∷ behind.letters;
      hook = behind.hook;
      hook_on = behind.hook_on;
      taken = behind.taken;
      sets = behind.sets;
      sets_on = behind.sets_on;
      sets_good = behind.sets_good;
      items = behind.items;
      same = ap (λ (ps : Parts). let p : reading.Part Role = record { symbol = Gone; role = LetterAt spot.heading.dim (k + 1) } in p ∷ ps) behind.same;
      held = λ before rule name word. behind.held before rule name (word ++ letters.Gone ∷ []) ∙ letters_append spot.side name word behind.letters letters.Gone behind.hook behind.sets before rule behind.items;
    }

word_end : (spot : Spot) (k : ℕ) (s : List ℕ) (place : ℕ) (marks : List Mark) (parts : Parts) (next : State) → expect (codes ">") s (AtBehind spot) ≡ Some next → After next marks parts
    → After (AtLetter spot k) (mark_at (Sign s) place ∷ marks) (part_in (AtLetter spot k) (Sign s) place ∷ parts)
word_end spot k s place marks parts next moves rest =
    let e = expected (codes ">") s (AtBehind spot) next moves in
    let behind : After (AtBehind spot) marks parts = subst (λ s. After s marks parts) (sym e.1) rest in
    rw e.0 (record {
      letters = [];
      hook = behind.hook;
      hook_on = behind.hook_on;
      taken = behind.taken;
      sets = behind.sets;
      sets_on = behind.sets_on;
      sets_good = behind.sets_good;
      items = behind.items;
      same = ap (λ (ps : Parts). sign Fixed (codes ">") ∷ ps) behind.same;
      held = λ before rule name word. behind.held before (put spot.side (NodeItem name word false []) rule) Nothing
          ∙ ap (λ (r : RuleForm). let h : Held = record { rules = before ++ all spot.side r behind.items; current = None; part = Nothing } in h)
          (finish_put spot.side name word behind.hook behind.sets rule behind.hook_on behind.sets_on ∙ ap (λ (w : List Letter). put spot.side (NodeItem name w behind.hook behind.sets) rule) (sym (append-nil word)));
    })

hook_word : (h : Heading) (k : ℕ) (count : Count) (hook_before : Bool) (w : List ℕ) (place : ℕ) (marks : List Mark) (parts : Parts) → w ≡ codes "hook" → takes_hook h.version hook_before ≡ true → After (AtItem (spot_at h k Left count true)) marks parts
    → After (AtBehind (spot_at h k Left count hook_before)) (mark_at (Word w) place ∷ marks) (part_in (AtBehind (spot_at h k Left count hook_before)) (Word w) place ∷ parts)
hook_word h k count hook_before w place marks parts e takes behind =
    rw (e, takes) (record {
      hook = true;
      hook_on = λ is. refl;
      taken = λ is. takes;
      sets = [];
      sets_on = refl;
      sets_good = tt;
      items = behind.items;
      same = ap (λ (ps : Parts). word Fixed (codes "hook") ∷ ps) behind.same;
      held = λ before rule part. rw takes (behind.held before (hook_last rule) part);
    })

-- nothing stands between the word and an item
no_sets : (side : Side) → AreOn side []
no_sets Left = refl
no_sets Right = tt

-- an assignment begins
set_word : (h : Heading) (k : ℕ) (side : Side) (count : Count) (hook_before : Bool) (w : List ℕ) (place : ℕ) (marks : List Mark) (parts : Parts) → is_hook (spot_at h k side count hook_before) w ≡ false → is_with_on side w ≡ true
    → After (AtSet (spot_at h k side count hook_before)) marks parts
    → After (AtBehind (spot_at h k side count hook_before)) (mark_at (Word w) place ∷ marks) (part_in (AtBehind (spot_at h k side count hook_before)) (Word w) place ∷ parts)
set_word h k Left count hook_before w place marks parts plain set behind = absurd cc
set_word h k Right count hook_before w place marks parts plain set behind =
    let is : w ≡ codes "with" = (bytes_eq-Decides w (codes "with")).0 set in
    rw is (record {
      hook = false;
      hook_on = λ set. absurd cc;
      taken = λ set. absurd cc;
      sets = behind.set ∷ behind.sets;
      sets_on = tt;
      sets_good = (behind.good, behind.sets_good);
      items = behind.items;
      same = ap (λ (ps : Parts). word Fixed (codes "with") ∷ ps) behind.same;
      held = λ before rule part. behind.held before rule part;
    })

-- nothing more of the node stands there
plain_word : (h : Heading) (k : ℕ) (side : Side) (count : Count) (hook_before : Bool) (w : List ℕ) (place : ℕ) (marks : List Mark) (parts : Parts) → is_hook (spot_at h k side count hook_before) w ≡ false → is_with_on side w ≡ false
    → After (AtItem (spot_at h k side count hook_before)) (mark_at (Word w) place ∷ marks) (part_in (AtItem (spot_at h k side count hook_before)) (Word w) place ∷ parts)
    → After (AtBehind (spot_at h k side count hook_before)) (mark_at (Word w) place ∷ marks) (part_in (AtBehind (spot_at h k side count hook_before)) (Word w) place ∷ parts)
plain_word h k side count hook_before w place marks parts plain no_with item =
    rw (plain, no_with) (record {
      hook = false;
      hook_on = λ set. absurd cc;
      taken = λ set. absurd cc;
      sets = [];
      sets_on = no_sets side;
      sets_good = tt;
      items = item.items;
      same = item.same;
      held = λ before rule part. rw (plain, no_with) (item.held before rule part);
    })

behind_word : (h : Heading) (k : ℕ) (side : Side) (count : Count) (hook_before : Bool) (w : List ℕ) (place : ℕ) (marks : List Mark) (parts : Parts) (next : State) → behind_move (spot_at h k side count hook_before) w ≡ Some next → After next marks parts
    → After (AtBehind (spot_at h k side count hook_before)) (mark_at (Word w) place ∷ marks) (part_in (AtBehind (spot_at h k side count hook_before)) (Word w) place ∷ parts)
behind_word h k side count hook_before w place marks parts next moves rest = go side refl (is_hook (spot_at h k side count hook_before) w) refl
  where
    plain : is_hook (spot_at h k side count hook_before) w ≡ false → (c : Bool) → is_with_on side w ≡ c → After (AtBehind (spot_at h k side count hook_before)) (mark_at (Word w) place ∷ marks) (part_in (AtBehind (spot_at h k side count hook_before)) (Word w) place ∷ parts)
    plain is false no_with = plain_word h k side count hook_before w place marks parts is no_with (item_word h k side count hook_before w place marks parts next (rw (is, no_with) at moves) rest)
    plain is true with_word =
        let one : Some (AtSet (spot_at h k side count hook_before)) ≡ Some next = rw (is, with_word) at moves in
        let e : AtSet (spot_at h k side count hook_before) ≡ next = cc one in
        set_word h k side count hook_before w place marks parts is with_word (subst (λ s. After s marks parts) (sym e) rest)

    go : (s : Side) → side ≡ s → (b : Bool) → is_hook (spot_at h k side count hook_before) w ≡ b → After (AtBehind (spot_at h k side count hook_before)) (mark_at (Word w) place ∷ marks) (part_in (AtBehind (spot_at h k side count hook_before)) (Word w) place ∷ parts)
    go s f false is = plain is (is_with_on side w) refl
    go Left f true is =
        let one : Some (AtItem (spot_at h k side count true)) ≡ Some next = rw is at moves in
        let e : AtItem (spot_at h k side count true) ≡ next = cc one in
        let to : AtItem (spot_at h k Left count true) ≡ next = rw f at e in
        let both = and_parts (bytes_eq w (codes "hook")) (takes_hook h.version hook_before) (rw f at is) in
        let hooks : w ≡ codes "hook" = (bytes_eq-Decides w (codes "hook")).0 both.0 in
        rw f (hook_word h k count hook_before w place marks parts hooks both.1 (subst (λ s. After s marks parts) (sym to) rest))
    go Right f true is = let other : false ≡ true = rw f at is in absurd cc

behind_end : (h : Heading) (k : ℕ) (side : Side) (count : Count) (hook_before : Bool) (place : ℕ) (marks : List Mark) (parts : Parts) (next : State) → end_move side ≡ Some next → After next marks parts
    → After (AtBehind (spot_at h k side count hook_before)) (mark_at End place ∷ marks) (part_in (AtBehind (spot_at h k side count hook_before)) End place ∷ parts)
behind_end h k side count hook_before place marks parts next moves rest =
    let item : After (AtItem (spot_at h k side count hook_before)) (mark_at End place ∷ marks) (part_in (AtItem (spot_at h k side count hook_before)) End place ∷ parts) = item_end h k side count hook_before place marks parts next moves rest in
    record { hook = false; hook_on = λ set. absurd cc; taken = λ set. absurd cc; sets = []; sets_on = no_sets side; sets_good = tt; items = item.items; same = item.same; held = item.held }

-- ---- within an assignment

set_name : (spot : Spot) (w : List ℕ) (place : ℕ) (marks : List Mark) (parts : Parts) (next : State) → unless_reserved w (AtEqual spot) ≡ Some next → After next marks parts
    → After (AtSet spot) (mark_at (Word w) place ∷ marks) (part_in (AtSet spot) (Word w) place ∷ parts)
set_name spot w place marks parts next moves rest =
    let e = free_word w (AtEqual spot) next moves in
    let behind : After (AtEqual spot) marks parts = subst (λ s. After s marks parts) (sym e.1) rest in
    record {
      set = record { embed = mention_at w place; value = behind.value };
      good = (e.0, behind.good);
      sets = behind.sets;
      sets_good = behind.sets_good;
      items = behind.items;
      same = ap (λ (ps : Parts). named (mention_at w place) ∷ ps) behind.same;
      held = λ before rule part. rw e.0 (behind.held before rule (mention_at w place));
    }

equal_sign : (spot : Spot) (s : List ℕ) (place : ℕ) (marks : List Mark) (parts : Parts) (next : State) → expect (codes "=") s (AtExpr (SetSlot spot) first_spot) ≡ Some next → After next marks parts
    → After (AtEqual spot) (mark_at (Sign s) place ∷ marks) (part_in (AtEqual spot) (Sign s) place ∷ parts)
equal_sign spot s place marks parts next moves rest =
    let e = expected (codes "=") s (AtExpr (SetSlot spot) first_spot) next moves in
    let behind : After (AtExpr (SetSlot spot) first_spot) marks parts = subst (λ s. After s marks parts) (sym e.1) rest in
    rw e.0 (record {
      value = behind.value.tokens;
      good = value_is spot.heading.dim behind.value;
      sets = behind.sets;
      sets_good = behind.sets_good;
      items = behind.items;
      same = ap (λ (ps : Parts). sign Fixed (codes "=") ∷ ps) behind.same;
      held = λ before rule embed. behind.held before rule embed [];
    })

abbrev behind_sets : {version n : ℕ} {hook_before : Bool} → List RuleForm → List SetForm → RuleForm → Items version n hook_before Right → Held
behind_sets before sets rule items = behind (before ++ all Right (assign_all sets rule) items)

-- one token more
more_rest : (n : ℕ) (at next : exprs.Spot) (symbol : Symbol) (place : ℕ) → spot_move at symbol ≡ Some next → Rest n next → Rest n at
more_rest n at next symbol place moves rest = record {
  tokens = record { symbol = symbol; place = place; role = spot_role n at symbol place } ∷ rest.tokens;
  last = rest.last;
  leads = (place, next, refl, moves, rest.leads);
  whole = rest.whole;
  placed = (expr_placed n at symbol place, rest.placed);
}

no_rest : (n : ℕ) (at : exprs.Spot) → IsTrue (is_whole_spot at) → Rest n at
no_rest n at whole = record { tokens = []; last = at; leads = refl; whole = whole; placed = tt }

value_token : (spot : Spot) (at next : exprs.Spot) (symbol : Symbol) (place : ℕ) (marks : List Mark) (parts : Parts) → spot_move at symbol ≡ Some next → After (AtExpr (SetSlot spot) next) marks parts
    → After (AtExpr (SetSlot spot) at) (mark_at symbol place ∷ marks) (part_in (AtExpr (SetSlot spot) at) symbol place ∷ parts)
unfolding more_rest
value_token spot at next symbol place marks parts moves after =
    let token : ExprToken = record { symbol = symbol; place = place; role = spot_role spot.heading.dim at symbol place } in
    rw moves (record {
      value = more_rest spot.heading.dim at next symbol place moves after.value;
      sets = after.sets;
      sets_good = after.sets_good;
      items = after.items;
      same = ap (λ (ps : Parts). in_expr token ∷ ps) after.same;
      held = λ before rule embed front. rw moves (after.held before rule embed (front ++ token ∷ [])
          ∙ ap (λ (value : List ExprToken). behind_sets before (record { embed = embed; value = value } ∷ after.sets) rule after.items) (append_assoc front (token ∷ []) after.value.tokens));
    })

pre_token : (h : Heading) (k : ℕ) (at next : exprs.Spot) (symbol : Symbol) (place : ℕ) (marks : List Mark) (parts : Parts) → spot_move at symbol ≡ Some next → After (AtExpr (PreSlot h k) next) marks parts
    → After (AtExpr (PreSlot h k) at) (mark_at symbol place ∷ marks) (part_in (AtExpr (PreSlot h k) at) symbol place ∷ parts)
unfolding more_rest
pre_token h k at next symbol place marks parts moves after =
    let token : ExprToken = record { symbol = symbol; place = place; role = spot_role h.dim at symbol place } in
    rw moves (record {
      value = more_rest h.dim at next symbol place moves after.value;
      rules = after.rules;
      rules_good = after.rules_good;
      same = ap (λ (ps : Parts). in_expr token ∷ ps) after.same;
      held = λ before rule front. rw moves (after.held before rule (front ++ token ∷ [])
          ∙ ap (λ (value : List ExprToken). let hold : Held = behind (before ++ require value rule ∷ after.rules) in hold) (append_assoc front (token ∷ []) after.value.tokens));
    })

-- behind the expression
module _ (spot : Spot) (at : exprs.Spot) (symbol : Symbol) (place : ℕ) (marks : List Mark) (parts : Parts) (next : State) (none : spot_move at symbol ≡ None) (whole : IsTrue (is_whole_spot at)) (moves : plain_move (AtBehind (on_right spot)) symbol ≡ Some next) where
  value_ended : (hook : Bool) → (hook ≡ true → Right ≡ Left) → (sets : List SetForm) → AllByRecursion (IsSet spot.heading.dim) sets → (items : ItemsAt (hooked_at hook (on_right spot)))
      → part_in (AtBehind (on_right spot)) symbol place ∷ parts ≡ spell_hook hook (spell_sets sets (spelled (hooked_at hook (on_right spot)) items))
      → ((before : List RuleForm) (rule : RuleForm) → held_behind (AtBehind (on_right spot)) (mark_at symbol place ∷ marks) (within before rule Nothing) ≡ behind (before ++ all Right (finish hook sets rule) items))
      → After (AtExpr (SetSlot spot) at) (mark_at symbol place ∷ marks) (part_in (AtExpr (SetSlot spot) at) symbol place ∷ parts)
  unfolding no_rest
  value_ended true on sets good items same held = let other : Right ≡ Left = on refl in absurd cc
  value_ended false on sets good items same held =
      rw none (record {
        value = no_rest spot.heading.dim at whole;
        sets = sets;
        sets_good = good;
        items = items;
        same = same;
        held = λ before rule embed front.
            let set : SetForm = record { embed = embed; value = front } in
            let here : held_behind (AtExpr (SetSlot spot) at) (mark_at symbol place ∷ marks) (within before rule (Assigned embed front)) ≡ held_behind (AtBehind (on_right spot)) (mark_at symbol place ∷ marks) (within before (assign_last set rule) Nothing) = rw (none, whole, moves) refl in
            here ∙ held before (assign_last set rule) ∙ ap (λ (value : List ExprToken). behind_sets before (record { embed = embed; value = value } ∷ sets) rule items) (sym (append-nil front));
      })

  value_end : After (AtBehind (on_right spot)) (mark_at symbol place ∷ marks) (part_in (AtBehind (on_right spot)) symbol place ∷ parts)
      → After (AtExpr (SetSlot spot) at) (mark_at symbol place ∷ marks) (part_in (AtExpr (SetSlot spot) at) symbol place ∷ parts)
  value_end after = value_ended after.hook after.hook_on after.sets after.sets_good after.items after.same (λ before rule. after.held before rule Nothing)

module _ (h : Heading) (k : ℕ) (at : exprs.Spot) (symbol : Symbol) (place : ℕ) (marks : List Mark) (parts : Parts) (next : State) (none : spot_move at symbol ≡ None) (whole : IsTrue (is_whole_spot at)) (moves : plain_move (AtRuleEnd h k) symbol ≡ Some next) where
  pre_end : After (AtRuleEnd h k) (mark_at symbol place ∷ marks) (part_in (AtRuleEnd h k) symbol place ∷ parts)
      → After (AtExpr (PreSlot h k) at) (mark_at symbol place ∷ marks) (part_in (AtExpr (PreSlot h k) at) symbol place ∷ parts)
  unfolding no_rest
  pre_end after =
      rw none (record {
        value = no_rest h.dim at whole;
        rules = after.rules;
        rules_good = after.rules_good;
        same = after.same;
        held = λ before rule front.
            let here : held_behind (AtExpr (PreSlot h k) at) (mark_at symbol place ∷ marks) (within before rule (Required front)) ≡ held_behind (AtRuleEnd h k) (mark_at symbol place ∷ marks) (within before (require front rule) Nothing) = rw (none, whole, moves) refl in
            here ∙ after.held before (require front rule) Nothing ∙ ap (λ (value : List ExprToken). let hold : Held = behind (before ++ require value rule ∷ after.rules) in hold) (sym (append-nil front));
      })

rule_end_word : (h : Heading) (k : ℕ) (w : List ℕ) (place : ℕ) (marks : List Mark) (parts : Parts) (next : State) → expect (codes "rule") w (AtName h (k + 1)) ≡ Some next → After next marks parts
    → After (AtRuleEnd h k) (mark_at (Word w) place ∷ marks) (part_in (AtRuleEnd h k) (Word w) place ∷ parts)
rule_end_word h k w place marks parts next moves rest =
    let e = expected (codes "rule") w (AtName h (k + 1)) next moves in
    let behind : After (AtName h (k + 1)) marks parts = subst (λ s. After s marks parts) (sym e.1) rest in
    rw e.0 (record {
      rules = behind.rule ∷ behind.rules;
      rules_good = (behind.rule_good, behind.rules_good);
      same = behind.same;
      held = λ before rule part. behind.held (before ++ rule ∷ [])
          ∙ ap (λ (rules : List RuleForm). let h : Held = record { rules = rules; current = None; part = Nothing } in h) (append_assoc before (rule ∷ []) (behind.rule ∷ behind.rules));
    })

rule_end_end : (h : Heading) (k place : ℕ) (marks : List Mark) (parts : Parts) (next : State) → Some AtEnd ≡ Some next → After next marks parts → After (AtRuleEnd h k) (mark_at End place ∷ marks) (part_in (AtRuleEnd h k) End place ∷ parts)
rule_end_end h k place marks parts next moves rest =
    let e : AtEnd ≡ next = cc moves in
    let behind : After AtEnd marks parts = subst (λ s. After s marks parts) (sym e) rest in
    rw (behind.0, behind.1) (record { rules = []; rules_good = tt; same = refl; held = λ before rule part. refl })

link_label : (spot : Spot) (i place : ℕ) (marks : List Mark) (parts : Parts) (next : State) → Some (AtDash spot) ≡ Some next → After next marks parts
    → After (AtLabel spot) (mark_at (Numeral i) place ∷ marks) (part_in (AtLabel spot) (Numeral i) place ∷ parts)
link_label spot i place marks parts next moves rest =
    let e : AtDash spot ≡ next = cc moves in
    let behind : After (AtDash spot) marks parts = subst (λ s. After s marks parts) (sym e) rest in
    record { label = i; to = behind.to; free = behind.free; items = behind.items; same = ap (λ (ps : Parts). number (LabelAt spot.heading.dim) i ∷ ps) behind.same; held = λ before rule from. behind.held before rule from i }

link_dash : (spot : Spot) (s : List ℕ) (place : ℕ) (marks : List Mark) (parts : Parts) (next : State) → expect (codes "-") s (AtTo spot) ≡ Some next → After next marks parts
    → After (AtDash spot) (mark_at (Sign s) place ∷ marks) (part_in (AtDash spot) (Sign s) place ∷ parts)
link_dash spot s place marks parts next moves rest =
    let e = expected (codes "-") s (AtTo spot) next moves in
    let behind : After (AtTo spot) marks parts = subst (λ s. After s marks parts) (sym e.1) rest in
    rw e.0 (record { to = behind.to; free = behind.free; items = behind.items; same = ap (λ (ps : Parts). sign Fixed (codes "-") ∷ ps) behind.same; held = behind.held })

link_to : (spot : Spot) (w : List ℕ) (place : ℕ) (marks : List Mark) (parts : Parts) (next : State) → unless_reserved w (AtItem spot) ≡ Some next → After next marks parts
    → After (AtTo spot) (mark_at (Word w) place ∷ marks) (part_in (AtTo spot) (Word w) place ∷ parts)
link_to spot w place marks parts next moves rest =
    let e = free_word w (AtItem spot) next moves in
    let behind : After (AtItem spot) marks parts = subst (λ s. After s marks parts) (sym e.1) rest in
    record {
      to = mention_at w place;
      free = e.0;
      items = behind.items;
      same = ap (λ (ps : Parts). named (mention_at w place) ∷ ps) behind.same;
      held = λ before rule from label. rw e.0 (behind.held before (put spot.side (LinkItem from label (mention_at w place)) rule) Nothing);
    }

-- ---- all marks

moved_to : (state next : State) (marks : List Mark) (parts : Parts) → Some state ≡ Some next → After next marks parts → After state marks parts
moved_to state next marks parts moves rest = let e : state ≡ next = cc moves in subst (λ s. After s marks parts) (sym e) rest

-- a mark in an expression, or behind it
value_step : (spot : Spot) (at : exprs.Spot) (symbol : Symbol) (place : ℕ) (marks : List Mark) (parts : Parts) (next : State) → (to : Option exprs.Spot) → spot_move at symbol ≡ to → expr_move (SetSlot spot) at symbol to ≡ Some next → After next marks parts
    → After (AtExpr (SetSlot spot) at) (mark_at symbol place ∷ marks) (part_in (AtExpr (SetSlot spot) at) symbol place ∷ parts)
value_step spot at symbol place marks parts next (Some to) e moves rest =
    value_token spot at to symbol place marks parts e (let same : AtExpr (SetSlot spot) to ≡ next = cc moves in subst (λ s. After s marks parts) (sym same) rest)
value_step spot at symbol place marks parts next None e moves rest = go (is_whole_spot at) refl symbol e moves
  where
    go : (b : Bool) → is_whole_spot at ≡ b → (symbol : Symbol) → spot_move at symbol ≡ None → cond b (plain_move (AtBehind (on_right spot)) symbol) None ≡ Some next
        → After (AtExpr (SetSlot spot) at) (mark_at symbol place ∷ marks) (part_in (AtExpr (SetSlot spot) at) symbol place ∷ parts)
    go false whole symbol e moves = absurd (none-some next moves)
    go true whole (Word w) e moves = value_end spot at (Word w) place marks parts next e whole moves (behind_word spot.heading spot.rules Right spot.count spot.hooked w place marks parts next moves rest)
    go true whole End e moves = value_end spot at End place marks parts next e whole moves (behind_end spot.heading spot.rules Right spot.count spot.hooked place marks parts next moves rest)
    go true whole (Numeral n) e moves = absurd (none-some next moves)
    go true whole (Sign s) e moves = absurd (none-some next moves)
    go true whole Gone e moves = absurd (none-some next moves)
    go true whole Stray e moves = absurd (none-some next moves)

pre_step : (h : Heading) (k : ℕ) (at : exprs.Spot) (symbol : Symbol) (place : ℕ) (marks : List Mark) (parts : Parts) (next : State) → (to : Option exprs.Spot) → spot_move at symbol ≡ to → expr_move (PreSlot h k) at symbol to ≡ Some next → After next marks parts
    → After (AtExpr (PreSlot h k) at) (mark_at symbol place ∷ marks) (part_in (AtExpr (PreSlot h k) at) symbol place ∷ parts)
pre_step h k at symbol place marks parts next (Some to) e moves rest =
    pre_token h k at to symbol place marks parts e (let same : AtExpr (PreSlot h k) to ≡ next = cc moves in subst (λ s. After s marks parts) (sym same) rest)
pre_step h k at symbol place marks parts next None e moves rest = go (is_whole_spot at) refl symbol e moves
  where
    go : (b : Bool) → is_whole_spot at ≡ b → (symbol : Symbol) → spot_move at symbol ≡ None → cond b (plain_move (AtRuleEnd h k) symbol) None ≡ Some next
        → After (AtExpr (PreSlot h k) at) (mark_at symbol place ∷ marks) (part_in (AtExpr (PreSlot h k) at) symbol place ∷ parts)
    go false whole symbol e moves = absurd (none-some next moves)
    go true whole (Word w) e moves = pre_end h k at (Word w) place marks parts next e whole moves (rule_end_word h k w place marks parts next moves rest)
    go true whole End e moves = pre_end h k at End place marks parts next e whole moves (rule_end_end h k place marks parts next moves rest)
    go true whole (Numeral n) e moves = absurd (none-some next moves)
    go true whole (Sign s) e moves = absurd (none-some next moves)
    go true whole Gone e moves = absurd (none-some next moves)
    go true whole Stray e moves = absurd (none-some next moves)

step_is : (state : State) (symbol : Symbol) (place : ℕ) (marks : List Mark) (parts : Parts) (next : State) → move state symbol ≡ Some next → After next marks parts → After state (mark_at symbol place ∷ marks) (part_in state symbol place ∷ parts)
step_is (AtRules h) (Word w) place marks parts next moves rest = first_rule h w place marks parts next moves rest
step_is (AtRules h) End place marks parts next moves rest = no_rules h place marks parts next moves rest
step_is (AtName h k) (Word w) place marks parts next moves rest = rule_name h k w place marks parts next moves rest
step_is (AtLeft h k) (Word w) place marks parts next moves rest = left_word h k w place marks parts next moves rest
step_is (AtLeft h k) (Sign s) place marks parts next moves rest = open_sign h k s place marks parts next moves rest
step_is (AtParam h k count) (Word w) place marks parts next moves rest = param_name h k count w place marks parts next moves rest
step_is (AtColon h k count) (Sign s) place marks parts next moves rest = colon_sign h k count s place marks parts next moves rest
step_is (AtKind h k count) (Word w) place marks parts next moves rest = kind_read h k count w place marks parts next moves rest
step_is (AtComma h k count) (Sign s) place marks parts next moves rest = comma_sign h k count s place marks parts next moves rest
step_is (AtBody h k) (Word w) place marks parts next moves rest = body_word h k w place marks parts next moves rest
step_is (AtItem spot) (Word w) place marks parts next moves rest = item_word spot.heading spot.rules spot.side spot.count spot.hooked w place marks parts next moves rest
step_is (AtItem spot) End place marks parts next moves rest = item_end spot.heading spot.rules spot.side spot.count spot.hooked place marks parts next moves rest
step_is (AtSign spot name) (Sign s) place marks parts next moves rest = item_sign spot name s place marks parts next moves rest
step_is (AtLetter spot k) (Numeral i) place marks parts next moves rest = numbered spot k i place marks parts (moved_to (AtLetter spot (k + 1)) next marks parts moves rest)
step_is (AtLetter spot k) Gone place marks parts next moves rest = unused spot k place marks parts (moved_to (AtLetter spot (k + 1)) next marks parts moves rest)
step_is (AtLetter spot k) (Sign s) place marks parts next moves rest = word_end spot k s place marks parts next moves rest
step_is (AtBehind spot) (Word w) place marks parts next moves rest = behind_word spot.heading spot.rules spot.side spot.count spot.hooked w place marks parts next moves rest
step_is (AtBehind spot) End place marks parts next moves rest = behind_end spot.heading spot.rules spot.side spot.count spot.hooked place marks parts next moves rest
step_is (AtSet spot) (Word w) place marks parts next moves rest = set_name spot w place marks parts next moves rest
step_is (AtEqual spot) (Sign s) place marks parts next moves rest = equal_sign spot s place marks parts next moves rest
step_is (AtExpr (SetSlot spot) at) symbol place marks parts next moves rest = value_step spot at symbol place marks parts next (spot_move at symbol) refl moves rest
step_is (AtExpr (PreSlot h k) at) symbol place marks parts next moves rest = pre_step h k at symbol place marks parts next (spot_move at symbol) refl moves rest
step_is (AtRuleEnd h k) (Word w) place marks parts next moves rest = rule_end_word h k w place marks parts next moves rest
step_is (AtRuleEnd h k) End place marks parts next moves rest = rule_end_end h k place marks parts next moves rest
step_is (AtLabel spot) (Numeral i) place marks parts next moves rest = link_label spot i place marks parts next moves rest
step_is (AtDash spot) (Sign s) place marks parts next moves rest = link_dash spot s place marks parts next moves rest
step_is (AtTo spot) (Word w) place marks parts next moves rest = link_to spot w place marks parts next moves rest
step_is state symbol place marks parts next moves rest = absurd (none-some next moves)

after_is : (state : State) (marks : List Mark) (parts : Parts) → Along limit_of stands_before role_at move state marks parts AtEnd → After state marks parts
after_is state [] [] e = rw e (refl, refl)
after_is state [] (part ∷ parts) e = absurd e
after_is state (mark ∷ marks) [] e = absurd e
after_is state (mark ∷ marks) (part ∷ parts) (next, is, moves, along) = rw is (step_is state mark.symbol mark.place marks parts next moves (after_is next marks parts along))

-- the rules that the marks are
pub along_rules : (h : Heading) (marks : List Mark) (parts : Parts) → Along limit_of stands_before role_at move (AtRules h) marks parts AtEnd → AfterHeader h marks parts
along_rules h marks parts along = after_is (AtRules h) marks parts along

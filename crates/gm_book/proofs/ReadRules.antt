-- The rules that a text stands for can be written.
use Rattle.std.proofs.Common.{◌≡◌, ℕ, suc, ◌+◌, ◌<◌, ◌≤◌, Bool, true, false, ◌&&◌, eqb, List, [], ◌∷◌, ◌++◌, length, get_or, map, All, Option, Some, None, is_some, inl, inr, refl, sym, ap, subst, ◌∙◌, append_assoc, arith}
use Rattle.std.specs.Prelude.{slice_get}
use Rattle.std.specs.Str.{bytes_eq}
use Rattle.std.specs.List.{list_any, position_or_len, AllByRecursion, AllZip, Contains}
use Rattle.std.proofs.lemmas.Bool.{cases_Bool, ne_eqb, eq-eqb}
use Rattle.std.proofs.lemmas.List.{append-nil, map-append, length-append, length-map}
use Rattle.std.proofs.lemmas.List.Elements.{All-from_recursion, recursion_from_All}
use Rattle.std.proofs.lemmas.Option.{slice_get-map, slice_get-get_or, get_or_from_slice_get}
use Rattle.std.proofs.lemmas.Slice.Eq.{bytes_eq-Decides}
use Rattle.gm_model.specs.declared.rule.Side.{Side}
use Rattle.gm_model.specs.declared.rule.Side.TheVariants.{Left, Right}
use Rattle.gm_model.specs.declared.schema.Schema.{Schema}
use Rattle.gm_model.specs.declared.schema.Embed.{Embed}
use Rattle.gm_model.specs.Maps.{IsSchema}
use Rattle.gm_model.specs.Rules.{Rule, RuleNode, Assignment, has_word, word_on, links_on}
use Rattle.gm_model.specs.Trees.{Tree}
use Rattle.gm_model.specs.Names.{Mention, is_among}
use Rattle.gm_model.specs.Reading.{Part, IsWithin}
use Rattle.gm_model.specs.Symbols.{Symbol}
use Rattle.gm_text.specs.SchemaText as schemas
use Rattle.gm_text.specs.SchemaText.{schema_of, spell, is_again, passed_of}
use Rattle.gm_text.proofs.SchemaSound.{form_sound}
use Rattle.gm_forms.specs.BookText.{Item, NodeItem, LinkItem, ParamForm, RuleForm, BookForm, Count, no_count, count_after, count_across, counted, with_name, names_of, nodes_in, ends_in, items_on, nodes_of, word_in, number_of, links_in, hooks_in, node_in, params_in, param_of, rule_in, IsAgain, IsStranger, TwiceAt, UnknownAt, RuleTwice, ParamTwice, NodeTwice, NodeUnknown, SchemaTwice, RulesFault, IsRule, BookText, MeansRule, spelling}
use Rattle.gm_book.proofs.CanonicalForm.{AreNew, number_if, numbers_where, node_names, hook_on, IsGoodName, IsGoodWordIfAny, IsGoodNode, IsGoodLink, IsWritable, IsGoodParam, param_names}
use Rattle.gm_book.proofs.CanonicalLimits.{HasFewHooks, as_many_hooks}
use Rattle.gm_book.proofs.CanonicalText.{each}
use Rattle.gm_book.proofs.CanonicalRule.{seen_after, counted_seen, seen_new}
use Rattle.gm_book.proofs.CanonicalNames.{rule_names}
use Rattle.gm_book.proofs.CanonicalBook.{AreWritable}
use Rattle.gm_book.specs.inner.Building.{HasNoFaultInRules}
use Rattle.gm_book.proofs.Built.{sound_alone}
use Rattle.gm_forms.proofs.Contained.{contains_here, contains_behind}
use Rattle.gm_book.proofs.DifferentNames.{among_front, among_last, among_neither, new_append, number_behind, new_mentions}
use Rattle.gm_book.proofs.ReadLimits.{IsGoodItem, IsReadable, IsReadableBook, few_names, read_fit, book_good}

-- ---- names

-- what is added to the names seen
record Added (seen names : List (List ℕ)) : Type 0 where
  more : List (List ℕ)
  is : seen_after seen names ≡ seen ++ more
  new : AreNew seen more
  among : AllByRecursion (λ name. is_among names name ≡ true) more

among_more : (name other : List ℕ) (names : List (List ℕ)) → is_among names other ≡ true → is_among (name ∷ names) other ≡ true
among_more name other names is = elim (cases_Bool (bytes_eq other name)) [
  | inl same ↦ rw same refl
  | inr differ ↦ rw differ is
]

added : (seen names : List (List ℕ)) → Added seen names
added seen [] = record { more = []; is = sym (append-nil seen); new = tt; among = tt }
added seen (name ∷ names) = go (is_among seen name) refl (added seen names) (added (seen ++ name ∷ []) names)
  where
    go : (known : Bool) → is_among seen name ≡ known → Added seen names → Added (seen ++ name ∷ []) names → Added seen (name ∷ names)
    go true is here there = record { more = here.more; is = rw is here.is; new = here.new; among = each _ _ (λ other. among_more name other names) here.more here.among }
    go false is here there = record {
      more = name ∷ there.more;
      is = rw is (there.is ∙ append_assoc seen (name ∷ []) there.more);
      new = (is, there.new);
      among = (among_last [] names name, each _ _ (λ other. among_more name other names) there.more there.among);
    }

all_among : (front names : List (List ℕ)) → AllByRecursion (λ name. is_among (front ++ names) name ≡ true) names
all_among front [] = tt
all_among front (name ∷ names) = (among_last front names name, subst (λ all. AllByRecursion (λ other. is_among all other ≡ true) names) (append_assoc front (name ∷ []) names) (all_among (front ++ name ∷ []) names))

new_absent : (front seen names : List (List ℕ)) → AreNew (seen ++ front) names → AllByRecursion (λ name. is_among seen name ≡ false) names
new_absent front seen [] new = tt
new_absent front seen (name ∷ names) new =
    ((among_neither seen front name new.0).0, new_absent (front ++ name ∷ []) seen names (subst (λ all. AreNew all names) (append_assoc seen front (name ∷ [])) new.1))

good_with : (P : List ℕ → Type 0) (seen : List (List ℕ)) (name : List ℕ) → AllByRecursion P seen → P name → AllByRecursion P (with_name seen name)
good_with P seen name all one = elim (cases_Bool (is_among seen name)) [
  | inl is ↦ rw is all
  | inr none ↦ rw none (behind seen all)
]
  where
    behind : (seen : List (List ℕ)) → AllByRecursion P seen → AllByRecursion P (seen ++ name ∷ [])
    behind [] all = (one, tt)
    behind (other ∷ seen) all = (all.0, behind seen all.1)

good_after : (P : List ℕ → Type 0) (seen names : List (List ℕ)) → AllByRecursion P seen → AllByRecursion P names → AllByRecursion P (seen_after seen names)
good_after P seen [] all more = all
good_after P seen (name ∷ names) all more = good_after P (with_name seen name) names (good_with P seen name all more.0) more.1

-- a name seen before, or among the names, is seen then
known_with : (seen : List (List ℕ)) (name other : List ℕ) → is_among seen other ≡ true → is_among (with_name seen name) other ≡ true
known_with seen name other is = elim (cases_Bool (is_among seen name)) [
  | inl known ↦ rw known is
  | inr new ↦ rw new (among_front seen (name ∷ []) other is)
]

known_first : (seen names : List (List ℕ)) (name : List ℕ) → is_among seen name ≡ true → is_among (seen_after seen names) name ≡ true
known_first seen [] name is = is
known_first seen (other ∷ names) name is = known_first (with_name seen other) names name (known_with seen other name is)

with_itself : (seen : List (List ℕ)) (name : List ℕ) → is_among (with_name seen name) name ≡ true
with_itself seen name = elim (cases_Bool (is_among seen name)) [
  | inl known ↦ rw known known
  | inr new ↦ rw new (among_last seen [] name)
]

known_later : (seen names : List (List ℕ)) (name : List ℕ) → is_among names name ≡ true → is_among (seen_after seen names) name ≡ true
known_later seen [] name is = absurd cc
known_later seen (other ∷ names) name is = elim (cases_Bool (bytes_eq name other)) [
  | inl same ↦ (let e : name ≡ other = (bytes_eq-Decides name other).0 same in known_first (with_name seen other) names name (ap (is_among (with_name seen other)) e ∙ with_itself seen other))
  | inr differ ↦ known_later (with_name seen other) names name (let rest : is_among (other ∷ names) name ≡ is_among names name = rw differ refl in sym rest ∙ is)
]

-- a name among others stands at its number
stands_at : (names : List (List ℕ)) (name : List ℕ) → is_among names name ≡ true → slice_get names (position_or_len (bytes_eq name) names) ≡ Some name
stands_at [] name is = absurd cc
stands_at (other ∷ names) name is = elim (cases_Bool (bytes_eq name other)) [
  | inl same ↦ (let e : name ≡ other = (bytes_eq-Decides name other).0 same in rw same (ap Some (sym e)))
  | inr differ ↦ (let rest : is_among (other ∷ names) name ≡ is_among names name = rw differ refl in
      rw differ (ap (slice_get (other ∷ names)) (one_more (position_or_len (bytes_eq name) names)) ∙ stands_at names name (sym rest ∙ is)))
]
  where
    one_more : (k : ℕ) → 1 + k ≡ suc k
    one_more k = omega arith

-- ---- words

some_word : (items : List Item) (name : List ℕ) → is_some (word_in items name) ≡ is_among (names_of (nodes_in items)) name
some_word [] name = refl
some_word (NodeItem node word hook sets ∷ items) name = elim (cases_Bool (bytes_eq name node.name)) [
  | inl same ↦ rw same refl
  | inr differ ↦ rw differ (some_word items name)
]
some_word (LinkItem from label to ∷ items) name = some_word items name

good_word : (n : ℕ) (items : List Item) (name : List ℕ) → AllByRecursion (IsGoodItem n) items → IsGoodWordIfAny n (word_in items name)
good_word n [] name good = tt
good_word n (NodeItem node word hook sets ∷ items) name good = elim (cases_Bool (bytes_eq name node.name)) [
  | inl same ↦ rw same good.0.1
  | inr differ ↦ rw differ (good_word n items name good.1)
]
good_word n (LinkItem from label to ∷ items) name good = good_word n items name good.1

good_names : (n : ℕ) (items : List Item) → AllByRecursion (IsGoodItem n) items → AllByRecursion IsGoodName (names_of (nodes_in items))
good_names n [] good = tt
good_names n (NodeItem node word hook sets ∷ items) good = (good.0.0, good_names n items good.1)
good_names n (LinkItem from label to ∷ items) good = good_names n items good.1

-- ---- hooks

abbrev hook_flags : List Item → List Bool
hook_flags [] = []
hook_flags (NodeItem node word hook sets ∷ items) = hook ∷ hook_flags items
hook_flags (LinkItem from label to ∷ items) = hook_flags items

-- the numbers of the flags that are set
abbrev flagged : ℕ → List Bool → List ℕ
flagged x [] = []
flagged x (flag ∷ flags) = number_if flag x (flagged (x + 1) flags)

hooks_flagged : (names front more : List (List ℕ)) (items : List Item) → names ≡ front ++ (names_of (nodes_in items) ++ more) → AreNew front (names_of (nodes_in items)) → hooks_in names items ≡ flagged (length front) (hook_flags items)
hooks_flagged names front more [] split new = refl
hooks_flagged names front more (LinkItem from label to ∷ items) split new = hooks_flagged names front more items split new
hooks_flagged names front more (NodeItem node word hook sets ∷ items) split new =
    let here : number_of names node ≡ length front = ap (position_or_len (bytes_eq node.name)) split ∙ number_behind front (names_of (nodes_in items) ++ more) node.name new.0 in
    let longer : length (front ++ node.name ∷ []) ≡ length front + 1 = length-append front (node.name ∷ []) in
    let later : hooks_in names items ≡ flagged (length front + 1) (hook_flags items) =
    hooks_flagged names (front ++ node.name ∷ []) more items (split ∙ sym (append_assoc front (node.name ∷ []) (names_of (nodes_in items) ++ more))) new.1 ∙ ap (λ x. flagged x (hook_flags items)) longer in
    go hook here later
  where
    go : (hook : Bool) → number_of names node ≡ length front → hooks_in names items ≡ flagged (length front + 1) (hook_flags items)
        → hooks_in names (NodeItem node word hook sets ∷ items) ≡ number_if hook (length front) (flagged (length front + 1) (hook_flags items))
    go true here later = rw (here, later) refl
    go false here later = later

none_below : (y x : ℕ) (flags : List Bool) → y < x → list_any (eqb y) (flagged x flags) ≡ false
none_below y x [] below = refl
none_below y x (true ∷ flags) below = rw (ne_eqb y x (λ e. omega (arith, e, below)), none_below y (x + 1) flags (omega (arith, below))) refl
none_below y x (false ∷ flags) below = none_below y (x + 1) flags (omega (arith, below))

-- a test that is true at the flags alone
where_flagged : (test : ℕ → Bool) (x : ℕ) (nodes : List RuleNode) (flags : List Bool) → AllByRecursion (λ (node : RuleNode). is_some node.left ≡ true) nodes → length nodes ≡ length flags
    → ((y : ℕ) → x ≤ y → test y ≡ list_any (eqb y) (flagged x flags)) → numbers_where test x nodes ≡ flagged x flags
where_flagged test x [] [] left long agree = refl
where_flagged test x [] (flag ∷ flags) left long agree = absurd (omega (arith, long))
where_flagged test x (node ∷ nodes) [] left long agree = absurd (omega (arith, long))
where_flagged test x (node ∷ nodes) (true ∷ flags) left long agree =
    let here : test x ≡ true = agree x (omega arith) ∙ rw (eq-eqb x x refl) refl in
    rw (left.0, here) (ap (λ xs. x ∷ xs) (where_flagged test (x + 1) nodes flags left.1 (omega (arith, long)) (λ y above. agree y (omega (arith, above)) ∙ rw (ne_eqb y x (λ e. omega (arith, e, above))) refl)))
where_flagged test x (node ∷ nodes) (false ∷ flags) left long agree =
    let here : test x ≡ false = agree x (omega arith) ∙ none_below x (x + 1) flags (omega arith) in
    rw (left.0, here) (where_flagged test (x + 1) nodes flags left.1 (omega (arith, long)) (λ y above. agree y (omega (arith, above))))

where_none : (test : ℕ → Bool) (x : ℕ) (nodes : List RuleNode) → AllByRecursion (λ (node : RuleNode). is_some node.left ≡ false) nodes → numbers_where test x nodes ≡ []
where_none test x [] none = refl
where_none test x (node ∷ nodes) none = rw none.0 (where_none test (x + 1) nodes none.1)

where_front : (test : ℕ → Bool) (x : ℕ) (front behind : List RuleNode) → AllByRecursion (λ (node : RuleNode). is_some node.left ≡ false) behind → numbers_where test x (front ++ behind) ≡ numbers_where test x front
where_front test x [] behind none = where_none test x behind none
where_front test x (node ∷ front) behind none = ap (number_if (is_some node.left && test x) x) (where_front test (x + 1) front behind none)

flags_long : (items : List Item) → length (hook_flags items) ≡ length (names_of (nodes_in items))
flags_long [] = refl
flags_long (NodeItem node word hook sets ∷ items) = ap suc (flags_long items)
flags_long (LinkItem from label to ∷ items) = flags_long items

-- ---- links

ends_known : (items : List Item) → ((place : ℕ) → IsStranger items place → ⊥) → AllByRecursion (λ (m : Mention). is_among (names_of (nodes_in items)) m.name ≡ true) (ends_in items)
ends_known items never = recursion_from_All (λ (m : Mention). is_among (names_of (nodes_in items)) m.name ≡ true) (ends_in items) (λ k d inside.
    let mention = get_or (ends_in items) k d in
    elim (cases_Bool (is_among (names_of (nodes_in items)) mention.name)) [
      | inl is ↦ is
      | inr stranger ↦ absurd (never mention.place (record {
        mention = mention;
        among = (k, inside, get_or_from_slice_get (ends_in items) k mention mention (slice_get-get_or (ends_in items) k d inside));
        here = refl;
        stranger = stranger;
      }))
    ])

links_long : (names : List (List ℕ)) (items : List Item) (count : Count) → (counted count items).links ≡ count.links + length (links_in names items)
links_long names [] count = omega arith
links_long names (NodeItem node word hook sets ∷ items) count = links_long names items (count_after count (NodeItem node word hook sets))
links_long names (LinkItem from label to ∷ items) count = omega (arith, links_long names items (count_after count (LinkItem from label to)))

-- ---- a rule

each_mapped : {X Y : Type 0} (P : Y → Type 0) (f : X → Y) (xs : List X) → AllByRecursion (λ x. P (f x)) xs → AllByRecursion P (map f xs)
each_mapped P f [] all = tt
each_mapped P f (x ∷ xs) all = (all.0, each_mapped P f xs all.1)

both : {X : Type 0} (P Q : X → Type 0) (xs : List X) → AllByRecursion P xs → AllByRecursion Q xs → AllByRecursion (λ x. P x × Q x) xs
both P Q [] first second = tt
both P Q (x ∷ xs) first second = ((first.0, second.0), both P Q xs first.1 second.1)

params_named : (params : List ParamForm) → param_names (map param_of params) ≡ names_of (map (λ (param : ParamForm). param.name) params)
params_named [] = refl
params_named (param ∷ params) = ap (λ others. param.name.name ∷ others) (params_named params)

module _ (n : ℕ) (embeds : List Embed) (form : RuleForm) (ok : IsReadable n form) (sound : HasNoFaultInRules n embeds (form ∷ [])) (sets : List ℕ → List Assignment) (pre : Option Tree) where
  abbrev made : Rule
  made = rule_in sets pre form

  abbrev node_named : List ℕ → RuleNode
  node_named name = node_in form sets name

  node_once : (side : Side) (place : ℕ) → IsAgain (nodes_in (items_on form side)) place → ⊥
  node_once side place again = sound (TwiceAt place) (NodeTwice form side place (contains_here form []) again)

  no_stranger : (side : Side) (place : ℕ) → IsStranger (items_on form side) place → ⊥
  no_stranger side place found = sound (UnknownAt place) (NodeUnknown form side place (contains_here form []) found)

  param_once : (place : ℕ) → IsAgain (params_in form) place → ⊥
  param_once place again = sound (TwiceAt place) (ParamTwice form place (contains_here form []) again)

  abbrev names_in : Side → List (List ℕ)
  names_in side = names_of (nodes_in (items_on form side))

  left_new : AreNew [] (names_in Left)
  left_new = new_mentions [] (nodes_in form.left) (node_once Left)

  more : Added (names_in Left) (names_in Right)
  more = added (names_in Left) (names_in Right)

  names_seen : nodes_of form ≡ seen_after (names_in Left) (names_in Right)
  names_seen = counted_seen (counted no_count form.left) form.right ∙ ap (λ seen. seen_after seen (names_in Right)) (counted_seen no_count form.left ∙ seen_new [] (names_in Left) left_new)

  names_are : nodes_of form ≡ names_in Left ++ more.more
  names_are = names_seen ∙ more.is

  all_good : AllByRecursion IsGoodName (nodes_of form)
  all_good = subst (AllByRecursion IsGoodName) (sym names_seen) (good_after IsGoodName (names_in Left) (names_in Right) (good_names n form.left ok.left) (good_names n form.right ok.right))

  left_nodes_have : AllByRecursion (λ (node : RuleNode). is_some node.left ≡ true) (map node_named (names_in Left))
  left_nodes_have = each_mapped _ node_named (names_in Left) (each _ _ (λ name among. some_word form.left name ∙ among) (names_in Left) (all_among [] (names_in Left)))

  added_nodes_have : AllByRecursion (λ (node : RuleNode). (is_some node.left ≡ false) × (is_some node.right ≡ true)) (map node_named more.more)
  added_nodes_have = each_mapped _ node_named more.more (both _ _ more.more
      (each _ _ (λ name absent. some_word form.left name ∙ absent) more.more (new_absent [] (names_in Left) more.more (subst (λ seen. AreNew seen more.more) (sym (append-nil (names_in Left))) more.new)))
      (each _ _ (λ name among. some_word form.right name ∙ among) more.more more.among))

  nodes_split : map node_named (nodes_of form) ≡ map node_named (names_in Left) ++ map node_named more.more
  nodes_split = ap (map node_named) names_are ∙ map-append node_named (names_in Left) more.more

  -- a name of the side is a node with a word there
  has_at : (side : Side) (name : List ℕ) → is_among (names_in side) name ≡ true → has_word made side (position_or_len (bytes_eq name) (nodes_of form)) ≡ true
  has_at side name among =
      let known : is_among (nodes_of form) name ≡ true = ap (λ names. is_among names name) names_seen ∙ known_on side among in
      let here : slice_get (map node_named (nodes_of form)) (position_or_len (bytes_eq name) (nodes_of form)) ≡ Some (node_named name) =
      slice_get-map node_named (nodes_of form) (position_or_len (bytes_eq name) (nodes_of form)) ∙ rw (stands_at (nodes_of form) name known) refl in
      rw here (word_of side among)
    where
      known_on : (side : Side) → is_among (names_in side) name ≡ true → is_among (seen_after (names_in Left) (names_in Right)) name ≡ true
      known_on Left is = known_first (names_in Left) (names_in Right) name is
      known_on Right is = known_later (names_in Left) (names_in Right) name is

      word_of : (side : Side) → is_among (names_in side) name ≡ true → is_some (word_on side (node_named name)) ≡ true
      word_of Left is = some_word form.left name ∙ is
      word_of Right is = some_word form.right name ∙ is

  links_good : (side : Side) (items : List Item) → AllByRecursion (IsGoodItem n) items → AllByRecursion (λ (m : Mention). is_among (names_in side) m.name ≡ true) (ends_in items) → AllByRecursion (IsGoodLink n made side) (links_in (nodes_of form) items)
  links_good side [] good known = tt
  links_good side (NodeItem node word hook sets ∷ items) good known = links_good side items good.1 known
  links_good side (LinkItem from label to ∷ items) good known =
      (record { label = good.0.1; from = has_at side from.name known.0; to = has_at side to.name known.1.0 }, links_good side items good.1 known.1.1)

  links_on_side : (side : Side) → AllByRecursion (IsGoodLink n made side) (links_on made side)
  links_on_side Left = links_good Left form.left ok.left (ends_known form.left (no_stranger Left))
  links_on_side Right = links_good Right form.right ok.right (ends_known form.right (no_stranger Right))

  few_on_side : (side : Side) → length (links_on made side) ≤ 256
  few_on_side Left = omega (arith, links_long (nodes_of form) form.left no_count, ok.left_few.links)
  few_on_side Right = omega (arith, links_long (nodes_of form) form.right (count_across (counted no_count form.left)), ok.right_few.links)

  hooks_kept : numbers_where (hook_on made Left) 0 made.nodes ≡ made.hooks
  hooks_kept =
      let test = hook_on made Left in
      let same : hooks_in (nodes_of form) form.left ≡ flagged 0 (hook_flags form.left) = hooks_flagged (nodes_of form) [] more.more form.left names_are left_new in
      ap (numbers_where test 0) nodes_split
      ∙ where_front test 0 (map node_named (names_in Left)) (map node_named more.more) (each _ _ (λ node two. two.0) (map node_named more.more) added_nodes_have)
      ∙ where_flagged test 0 (map node_named (names_in Left)) (hook_flags form.left) left_nodes_have (length-map (names_in Left) node_named ∙ sym (flags_long form.left)) (λ y above. ap (list_any (eqb y)) same)
      ∙ sym same

  names_mapped : (names : List (List ℕ)) → node_names (map node_named names) ≡ names
  names_mapped [] = refl
  names_mapped (name ∷ names) = ap (λ others. name ∷ others) (names_mapped names)

  form_writable : IsWritable n made
  form_writable = record {
    name = ok.name;
    nodes = each_mapped (IsGoodNode n) node_named (nodes_of form) (each _ _ (λ name good. record { name = good; left = good_word n form.left name ok.left; right = good_word n form.right name ok.right }) (nodes_of form) all_good);
    differ = subst (AreNew []) (sym (names_mapped (nodes_of form) ∙ names_are)) (new_append [] (names_in Left) more.more left_new more.new);
    few_nodes = omega (arith, length-map (nodes_of form) node_named, few_names n form ok);
    left_nodes = map node_named (names_in Left);
    added_nodes = map node_named more.more;
    left_first = nodes_split;
    left = left_nodes_have;
    added = added_nodes_have;
    links = links_on_side;
    few_links = few_on_side;
    hooks = hooks_kept;
    params = each_mapped IsGoodParam param_of form.params ok.params;
    params_differ = subst (AreNew []) (sym (params_named form.params)) (new_mentions [] (params_in form) param_once);
    few_params = omega (arith, length-map form.params param_of, ok.few_params);
  }

pub rule_writable : (n : ℕ) (embeds : List Embed) (form : RuleForm) (rule : Rule) → MeansRule n embeds form rule → IsReadable n form → HasNoFaultInRules n embeds (form ∷ []) → IsWritable n rule
rule_writable n embeds form rule means ok sound = subst (IsWritable n) (sym means.same) (form_writable n embeds form ok sound means.sets means.pre)

-- ---- a book

module _ (n : ℕ) (embeds : List Embed) where
  -- what follows from meaning a readable rule without faults
  pub each_rule : (P : Rule → Type 0) → ((form : RuleForm) (rule : Rule) → MeansRule n embeds form rule → IsReadable n form → HasNoFaultInRules n embeds (form ∷ []) → P rule) → (forms : List RuleForm) (rules : List Rule)
      → AllZip (MeansRule n embeds) forms rules → AllByRecursion (IsReadable n) forms → ((form : RuleForm) → Contains forms form → HasNoFaultInRules n embeds (form ∷ [])) → AllByRecursion P rules
  each_rule P gives [] [] mean ok sound = tt
  each_rule P gives [] (rule ∷ rules) mean ok sound = absurd mean
  each_rule P gives (form ∷ forms) [] mean ok sound = absurd mean
  each_rule P gives (form ∷ forms) (rule ∷ rules) mean ok sound =
      (gives form rule mean.0 ok.0 (sound form (contains_here form forms)), each_rule P gives forms rules mean.1 ok.1 (λ other there. sound other (contains_behind form forms other there)))

  names_of_rules : (forms : List RuleForm) (rules : List Rule) → AllZip (MeansRule n embeds) forms rules → rule_names rules ≡ names_of (map (λ (form : RuleForm). form.name) forms)
  names_of_rules [] [] mean = refl
  names_of_rules [] (rule ∷ rules) mean = absurd mean
  names_of_rules (form ∷ forms) [] mean = absurd mean
  names_of_rules (form ∷ forms) (rule ∷ rules) mean =
      ap (λ name. name ∷ rule_names rules) (ap (λ (r : Rule). r.name) mean.0.same) ∙ ap (λ names. form.name.name ∷ names) (names_of_rules forms rules mean.1)

  as_many : (forms : List RuleForm) (rules : List Rule) → AllZip (MeansRule n embeds) forms rules → length rules ≡ length forms
  as_many [] [] mean = refl
  as_many [] (rule ∷ rules) mean = absurd mean
  as_many (form ∷ forms) [] mean = absurd mean
  as_many (form ∷ forms) (rule ∷ rules) mean = ap suc (as_many forms rules mean.1)

  few_hooks : (version : ℕ) (forms : List RuleForm) (rules : List Rule) → AllZip (MeansRule n embeds) forms rules → AllByRecursion (IsRule version n) forms → AllByRecursion (HasFewHooks version) rules
  few_hooks version [] [] mean are = tt
  few_hooks version [] (rule ∷ rules) mean are = absurd mean
  few_hooks version (form ∷ forms) [] mean are = absurd mean
  few_hooks version (form ∷ forms) (rule ∷ rules) mean are =
      (λ one. omega (arith, are.0.few_hooks one, as_many_hooks form, ap (λ (r : Rule). length r.hooks) mean.0.same), few_hooks version forms rules mean.1 are.1)

-- a schema without a fault of its names passes nothing
passes_nothing : (parts : List (Part schemas.Role)) → IsWithin schemas.IsSentence schemas.limit_of parts → ((part : Part schemas.Role) → Contains parts part → is_again part.role part.symbol ≡ true → ⊥) → IsWithin schemas.IsSentence passed_of parts
passes_nothing [] within never = tt
passes_nothing (part ∷ parts) within never = (go (is_again part.role part.symbol) refl, passes_nothing parts within.1 (λ other among. never other (contains_behind part parts other among)))
  where
    go : (b : Bool) → is_again part.role part.symbol ≡ b → passed_of part.role part.symbol ≡ None
    go true e = absurd (never part (contains_here part parts) e)
    go false e = rw (within.0, e) refl

-- each part that is there again is at some place
again_placed : (role : schemas.Role) (symbol : Symbol) → is_again role symbol ≡ true → (place : ℕ) × schemas.IsPlacedAt place role
again_placed (schemas.NameAt names at) symbol again = (at, refl)
again_placed (schemas.LabelAt n mask at) symbol again = (at, refl)
again_placed role symbol again = absurd cc

module _ (whole : List ℕ) (version : ℕ) (schema : Schema) (rules : List Rule) (stands : BookText whole version schema rules) where
  abbrev book : BookForm
  book = stands.book

  abbrev told : Schema
  told = schema_of book.schema

  pub book_read : IsReadableBook book
  book_read = book_good book stands.written.form (read_fit whole (spelling book) stands.written.read.spelled stands.written.read.within)

  -- its schema passes nothing
  pub schema_passes : IsWithin schemas.IsSentence passed_of (spell book.schema [])
  schema_passes = passes_nothing (spell book.schema []) book_read.within (λ part among again.
      let (place, here) = again_placed part.role part.symbol again in stands.sound (TwiceAt place) (SchemaTwice place part among again here))

  schema_told : IsSchema told
  schema_told = form_sound book.schema stands.written.form.1 schema_passes

  rule_sound : (form : RuleForm) → Contains book.rules form → HasNoFaultInRules told.dim told.embeds (form ∷ [])
  rule_sound form there = sound_alone told.dim told.embeds book.rules form there (λ fault found. stands.sound fault (RulesFault fault found))

  -- what follows, over a schema, from meaning a readable rule without faults
  pub each_of_text : (Q : Schema → Rule → Type 0) → ((s : Schema) (form : RuleForm) (rule : Rule) → IsSchema s → s.dim ≤ 7 → MeansRule s.dim s.embeds form rule → IsReadable s.dim form → HasNoFaultInRules s.dim s.embeds (form ∷ []) → Q s rule) → AllByRecursion (Q schema) rules
  each_of_text Q gives = subst (λ (s : Schema). AllByRecursion (Q s) rules) (sym stands.means)
      (each_rule told.dim told.embeds (Q told) (λ form rule means ok sound. gives told form rule schema_told book_read.low means ok sound) book.rules rules stands.same book_read.each rule_sound)

  writable : AreWritable book.version told.dim rules
  writable = record {
    known = stands.written.form.0;
    hooks = few_hooks told.dim told.embeds book.version book.rules rules stands.same stands.written.form.2;
    some = book_read.some;
    low = book_read.low;
    few = omega (arith, as_many told.dim told.embeds book.rules rules stands.same, book_read.few);
    each = each_rule told.dim told.embeds (IsWritable told.dim) (rule_writable told.dim told.embeds) book.rules rules stands.same book_read.each rule_sound;
    differ = subst (AreNew []) (sym (names_of_rules told.dim told.embeds book.rules rules stands.same)) (new_mentions [] (map (λ (form : RuleForm). form.name) book.rules)
        (λ place again. stands.sound (TwiceAt place) (RulesFault (TwiceAt place) (RuleTwice place again))));
  }

  pub writable_from_text : AreWritable version schema.dim rules
  writable_from_text = subst (λ n. AreWritable version n rules) (sym (ap (λ (s : Schema). s.dim) stands.means)) (subst (λ v. AreWritable v told.dim rules) (sym stands.versions) writable)

pub few_at_most : (whole : List ℕ) (version : ℕ) (schema : Schema) (rules : List Rule) → BookText whole version schema rules → length rules ≤ 256
few_at_most whole version schema rules stands = (writable_from_text whole version schema rules stands).few

pub one_hook_at_most : (whole : List ℕ) (schema : Schema) (rules : List Rule) → BookText whole 1 schema rules → All (λ (rule : Rule). length rule.hooks ≤ 1) rules
one_hook_at_most whole schema rules stands =
    All-from_recursion (λ (rule : Rule). length rule.hooks ≤ 1) rules (each (HasFewHooks 1) (λ rule. length rule.hooks ≤ 1) (λ rule few. few refl) rules (writable_from_text whole 1 schema rules stands).hooks)

-- Names and expressions stand in a text one behind the other, and those of the schema before those of the rules.
use Rattle.std.proofs.Common.{◌≡◌, ℕ, zero, suc, ◌+◌, ◌≤◌, Bool, true, false, ◌⊎◌, inl, inr, Option, Some, None, List, [], ◌∷◌, ◌++◌, map, refl, sym, ap, subst, ◌∙◌, arith}
use Rattle.std.specs.List.{Contains}
use Rattle.gm_model.specs.declared.rule.Side.{Side}
use Rattle.gm_model.specs.declared.rule.Side.TheVariants.{Left, Right}
use Rattle.gm_model.specs.declared.word.Letter.{Letter}
use Rattle.gm_model.specs.declared.word.Letter.TheVariants as letters
use Rattle.gm_model.specs.Tokens.{Front, Gap, Lexeme, Stray, front_of, item_before, items_from}
use Rattle.gm_model.specs.Symbols.{Symbol, Mark, mark_of, marks_of, symbols}
use Rattle.gm_model.specs.Reading.{Part, symbols_in, the_end, in_role, ArePlaced}
use Rattle.gm_model.specs.Names.{Mention}
use Rattle.gm_text.specs.SchemaText as schemas
use Rattle.gm_text.specs.SchemaText.{spell, schema_of, is_again}
use Rattle.gm_forms.specs.BookText.{ExprToken, SetForm, Item, NodeItem, LinkItem, ParamForm, RuleForm, BookForm, Count, no_count, count_after, count_across, counted, Role, Fixed, InSchema, NameAt, ParamName, InExpr, spell_letters, spell_hook, spell_value, spell_sets, spell_items, spell_pre, spell_more_params, spell_params, spell_rules, params_in, nodes_in, ends_in, embeds_in, sets_of, assignments_in, items_on, first_place, IsPlacedAt, IsWritten, IsAgain, IsStranger, IsValueIn, SetValue, PreValue, names_for, fault_in_value, NameFault, TwiceAt, place_of, IsNotAfter, IsFaultInRules, RuleTwice, ParamTwice, NodeTwice, NodeUnknown, SetTwice, SetUnknown, ValueFault, SetKind, PreKind, IsNameFault, SchemaTwice, RulesFault, spelling}
use Rattle.gm_model.specs.declared.schema.Embed.{Embed}
use Rattle.std.proofs.lemmas.Bool.{cases_lt}
use Rattle.gm_forms.proofs.Contained.{contains_cases, contains_here, contains_behind, contains_none, contains_either}
use Rattle.gm_forms.proofs.ValuePlaces.{IsPlace, places_in_value, value_place, first_there}

-- ---- the marks of a text rise

-- each stands behind the one before it, and the first at or behind the place
abbrev pub MarksRise : ℕ → List Mark → Type 0
MarksRise low [] = Unit {0}
MarksRise low (mark ∷ marks) = (low ≤ mark.place) × MarksRise (suc mark.place) marks

marks_from_less : (low high : ℕ) (marks : List Mark) → low ≤ high → MarksRise high marks → MarksRise low marks
marks_from_less low high [] less rise = tt
marks_from_less low high (mark ∷ marks) less rise = (omega (arith, less, rise.0), rise.1)

pub items_rise : (text : List ℕ) (place taken : ℕ) (bytes : List ℕ) → MarksRise place (map (mark_of text) (items_from place taken bytes))
items_rise text place taken [] = (omega arith, tt)
items_rise text place (suc taken) (b ∷ bytes) = marks_from_less place (suc place) _ (omega arith) (items_rise text (suc place) taken bytes)
items_rise text place zero (b ∷ bytes) = before (front_of b bytes) _ (λ taken. items_rise text (suc place) taken bytes)
  where
    before : (front : Front) (taken : ℕ) → ((t : ℕ) → MarksRise (suc place) (map (mark_of text) (items_from (suc place) t bytes))) → MarksRise place (map (mark_of text) (item_before place front (items_from (suc place) taken bytes)))
    before (Gap size) taken rise = marks_from_less place (suc place) _ (omega arith) (rise taken)
    before (Lexeme kind size) taken rise = (omega arith, rise taken)
    before Stray taken rise = (omega arith, tt)

-- ---- and so do the names of its form

-- a name, or a label of an orbit, stands at or behind the place, and behind it the rest; any other part leaves the place as it is
abbrev behind_in_schema : schemas.Role → ℕ → (ℕ → Type 0) → Type 0
behind_in_schema (schemas.NameAt names place) low Later = (low ≤ place) × Later (suc place)
behind_in_schema (schemas.LabelAt n mask place) low Later = (low ≤ place) × Later (suc place)
behind_in_schema role low Later = Later low

abbrev behind_part : Role → ℕ → (ℕ → Type 0) → Type 0
behind_part (NameAt place) low Later = (low ≤ place) × Later (suc place)
behind_part (ParamName k place) low Later = (low ≤ place) × Later (suc place)
behind_part (InExpr place role) low Later = (low ≤ place) × Later (suc place)
behind_part (InSchema role) low Later = behind_in_schema role low Later
behind_part role low Later = Later low

abbrev NamesRise : ℕ → List (Part Role) → Type 0
NamesRise low [] = Unit {0}
NamesRise low (part ∷ parts) = behind_part part.role low (λ next. NamesRise next parts)

part_placed : (role : Role) (low place : ℕ) (Later : ℕ → Type 0) → ((less more : ℕ) → less ≤ more → Later more → Later less) → IsPlacedAt place role → low ≤ place → Later (suc place) → behind_part role low Later
part_placed (InSchema (schemas.NameAt names at)) low place Later lower here up later = (omega (arith, here, up), subst (λ p. Later (suc p)) (sym here) later)
part_placed (InSchema (schemas.LabelAt n mask at)) low place Later lower here up later = (omega (arith, here, up), subst (λ p. Later (suc p)) (sym here) later)
part_placed (NameAt named) low place Later lower here up later = (omega (arith, here, up), subst (λ p. Later (suc p)) (sym here) later)
part_placed (ParamName k named) low place Later lower here up later = (omega (arith, here, up), subst (λ p. Later (suc p)) (sym here) later)
part_placed (InExpr named role) low place Later lower here up later = (omega (arith, here, up), subst (λ p. Later (suc p)) (sym here) later)
part_placed role low place Later lower here up later = lower low (suc place) (omega (arith, up)) later

names_from_less : (parts : List (Part Role)) (less more : ℕ) → less ≤ more → NamesRise more parts → NamesRise less parts
names_from_less [] less more up rise = tt
names_from_less (part ∷ parts) less more up rise = go part.role (names_from_less parts less more up) rise
  where
    go : (role : Role) → (NamesRise more parts → NamesRise less parts) → behind_part role more (λ next. NamesRise next parts) → behind_part role less (λ next. NamesRise next parts)
    go (NameAt place) lower (here, later) = (omega (arith, up, here), later)
    go (ParamName k place) lower (here, later) = (omega (arith, up, here), later)
    go (InExpr place role) lower (here, later) = (omega (arith, up, here), later)
    go (InSchema (schemas.NameAt names place)) lower (here, later) = (omega (arith, up, here), later)
    go (InSchema (schemas.LabelAt n mask place)) lower (here, later) = (omega (arith, up, here), later)
    go role lower later = lower later

placed_rise : (low : ℕ) (marks : List Mark) (parts : List (Part Role)) → symbols marks ≡ symbols_in parts → MarksRise low marks → ArePlaced IsPlacedAt marks parts → NamesRise low parts
placed_rise low marks [] same rise placed = tt
placed_rise low [] (part ∷ parts) same rise placed = absurd cc
placed_rise low (mark ∷ marks) (part ∷ parts) same (up, rise) (here, placed) =
    let tail : symbols marks ≡ symbols_in parts = cc same in
    part_placed part.role low mark.place (λ next. NamesRise next parts) (names_from_less parts) here up (placed_rise (suc mark.place) marks parts tail rise placed)

written_rises : (text : List ℕ) (book : BookForm) → IsWritten text book → NamesRise 0 (spelling book)
written_rises text book written = placed_rise 0 (marks_of text) (spelling book) written.read.spelled (items_rise text 0 0 text) written.placed

-- ---- where the names and expressions of a form stand

-- each takes what stands behind it
abbrev places_in_sets : List SetForm → List ℕ → List ℕ
places_in_sets [] rest = rest
places_in_sets (set ∷ sets) rest = set.embed.place ∷ places_in_value set.value (places_in_sets sets rest)

abbrev places_in : List Item → List ℕ → List ℕ
places_in [] rest = rest
places_in (NodeItem node word hook sets ∷ items) rest = node.place ∷ places_in_sets sets (places_in items rest)
places_in (LinkItem from label to ∷ items) rest = from.place ∷ to.place ∷ places_in items rest

abbrev places_in_params : List ParamForm → List ℕ → List ℕ
places_in_params [] rest = rest
places_in_params (param ∷ params) rest = param.name.place ∷ places_in_params params rest

abbrev places_in_pre : Option (List ExprToken) → List ℕ → List ℕ
places_in_pre None rest = rest
places_in_pre (Some tokens) rest = places_in_value tokens rest

-- behind the rule's name
abbrev places_in_rule : RuleForm → List ℕ → List ℕ
places_in_rule rule rest = places_in_params rule.params (places_in rule.left (places_in rule.right (places_in_pre rule.pre rest)))

abbrev places_of : List RuleForm → List ℕ
places_of [] = []
places_of (rule ∷ rules) = rule.name.place ∷ places_in_rule rule (places_of rules)

abbrev placed_as : schemas.Role → List ℕ → List ℕ
placed_as (schemas.NameAt names place) rest = place ∷ rest
placed_as (schemas.LabelAt n mask place) rest = place ∷ rest
placed_as role rest = rest

abbrev places_in_schema : List (Part schemas.Role) → List ℕ → List ℕ
places_in_schema [] rest = rest
places_in_schema (part ∷ parts) rest = placed_as part.role (places_in_schema parts rest)

abbrev places_in_book : BookForm → List ℕ
places_in_book book = places_in_schema (spell book.schema []) (places_of book.rules)

abbrev Rise : ℕ → List ℕ → Type 0
Rise low [] = Unit {0}
Rise low (place ∷ places) = (low ≤ place) × Rise (suc place) places

-- as far as the places behind them do
abbrev Follows : List (Part Role) → List ℕ → Type 0
Follows parts places = (low : ℕ) → NamesRise low parts → Rise low places

value_follows : (tokens : List ExprToken) (rest : List (Part Role)) (places : List ℕ) → Follows rest places → Follows (spell_value tokens rest) (places_in_value tokens places)
value_follows [] rest places later low rise = later low rise
value_follows (token ∷ tokens) rest places later low (here, rise) = (here, value_follows tokens rest places later (suc token.place) rise)

sets_follow : (sets : List SetForm) (rest : List (Part Role)) (places : List ℕ) → Follows rest places → Follows (spell_sets sets rest) (places_in_sets sets places)
sets_follow [] rest places later low rise = later low rise
sets_follow (set ∷ sets) rest places later low (here, rise) = (here, value_follows set.value _ _ (sets_follow sets rest places later) (suc set.embed.place) rise)

pre_follows : (pre : Option (List ExprToken)) (rest : List (Part Role)) (places : List ℕ) → Follows rest places → Follows (spell_pre pre rest) (places_in_pre pre places)
pre_follows None rest places later low rise = later low rise
pre_follows (Some tokens) rest places later low rise = value_follows tokens rest places later low rise

module _ (n : ℕ) where
  letters_follow : (k : ℕ) (word : List Letter) (rest : List (Part Role)) (places : List ℕ) → Follows rest places → Follows (spell_letters n k word rest) places
  letters_follow k [] rest places later low rise = later low rise
  letters_follow k (letters.At i ∷ word) rest places later low rise = letters_follow (k + 1) word rest places later low rise
  letters_follow k (letters.Gone ∷ word) rest places later low rise = letters_follow (k + 1) word rest places later low rise

  hook_follows : (hook : Bool) (rest : List (Part Role)) (places : List ℕ) → Follows rest places → Follows (spell_hook hook rest) places
  hook_follows true rest places later low rise = later low rise
  hook_follows false rest places later low rise = later low rise

  items_follow : (count : Count) (items : List Item) (rest : List (Part Role)) (places : List ℕ) → Follows rest places → Follows (spell_items n count items rest) (places_in items places)
  items_follow count [] rest places later low rise = later low rise
  items_follow count (NodeItem node word hook sets ∷ items) rest places later low (here, rise) = (
    here,
    letters_follow 0 word _ (places_in_sets sets (places_in items places)) (hook_follows hook _ (places_in_sets sets (places_in items places))
        (sets_follow sets _ (places_in items places) (items_follow (count_after count (NodeItem node word hook sets)) items rest places later))) (suc node.place) rise,
  )
  items_follow count (LinkItem from label to ∷ items) rest places later low (here, (there, rise)) =
      (here, (there, items_follow (count_after count (LinkItem from label to)) items rest places later (suc to.place) rise))

  more_params_follow : (count : ℕ) (params : List ParamForm) (rest : List (Part Role)) (places : List ℕ) → Follows rest places → Follows (spell_more_params count params rest) (places_in_params params places)
  more_params_follow count [] rest places later low rise = later low rise
  more_params_follow count (param ∷ params) rest places later low (here, rise) = (here, more_params_follow (count + 1) params rest places later (suc param.name.place) rise)

  params_follow : (params : List ParamForm) (rest : List (Part Role)) (places : List ℕ) → Follows rest places → Follows (spell_params params rest) (places_in_params params places)
  params_follow [] rest places later low rise = later low rise
  params_follow (param ∷ params) rest places later low (here, rise) = (here, more_params_follow 1 params rest places later (suc param.name.place) rise)

  rules_follow : (k : ℕ) (rules : List RuleForm) → Follows (spell_rules n k rules (the_end Fixed ∷ [])) (places_of rules)
  rules_follow k [] low rise = tt
  rules_follow k (rule ∷ rules) low (here, rise) = (
    here,
    params_follow rule.params _ _
        (items_follow no_count rule.left _ _ (items_follow (count_across (counted no_count rule.left)) rule.right _ _ (pre_follows rule.pre _ _ (rules_follow (k + 1) rules)))) (suc rule.name.place) rise,
  )

schema_follows : (parts : List (Part schemas.Role)) (rest : List (Part Role)) (places : List ℕ) → Follows rest places → Follows (map (in_role InSchema) parts ++ rest) (places_in_schema parts places)
schema_follows [] rest places later low rise = later low rise
schema_follows (part ∷ parts) rest places later low rise = go part.role (λ next. schema_follows parts rest places later next) rise
  where
    go : (role : schemas.Role) → Follows (map (in_role InSchema) parts ++ rest) (places_in_schema parts places) → behind_in_schema role low (λ next. NamesRise next (map (in_role InSchema) parts ++ rest)) → Rise low (placed_as role (places_in_schema parts places))
    go (schemas.NameAt names place) behind (here, others) = (here, behind (suc place) others)
    go (schemas.LabelAt n mask place) behind (here, others) = (here, behind (suc place) others)
    go schemas.Fixed behind others = behind low others
    go schemas.Dimension behind others = behind low others
    go (schemas.EmbedWord k) behind others = behind low others

places_rise : (text : List ℕ) (book : BookForm) → IsWritten text book → Rise 0 (places_in_book book)
places_rise text book written =
    let n = book.schema.dim in
    schema_follows (spell book.schema []) (spell_rules n 0 book.rules (the_end Fixed ∷ [])) (places_of book.rules) (rules_follow n 0 book.rules) 0 (written_rises text book written)

-- ---- the faults of names stand at such places

place_above : (low place : ℕ) (places : List ℕ) → Rise low places → IsPlace place places → low ≤ place
place_above low place [] rise used = absurd used
place_above low place (first ∷ places) rise (inl here) = omega (arith, rise.0, here)
place_above low place (first ∷ places) rise (inr behind) = omega (arith, rise.0, place_above (suc first) place places rise.1 behind)

abbrev IsMentioned : ℕ → List Mention → Type 0
IsMentioned place [] = ⊥
IsMentioned place (mention ∷ mentions) = (mention.place ≡ place) ⊎ IsMentioned place mentions

again_mentioned : (mentions : List Mention) (place : ℕ) → IsAgain mentions place → IsMentioned place mentions
again_mentioned mentions place again = subst (IsMentioned place) (sym again.split) (go again.front)
  where
    go : (front : List Mention) → IsMentioned place (front ++ again.mention ∷ again.behind)
    go [] = inl again.here
    go (first ∷ front) = inr (go front)

stranger_mentioned : (items : List Item) (place : ℕ) → IsStranger items place → IsMentioned place (ends_in items)
stranger_mentioned items place stranger = go (ends_in items) stranger.among
  where
    go : (mentions : List Mention) → Contains mentions stranger.mention → IsMentioned place mentions
    go [] among = absurd (contains_none stranger.mention among)
    go (first ∷ mentions) among = elim (contains_cases first mentions stranger.mention among) [
      | inl e ↦ inl (ap (λ (m : Mention). m.place) e ∙ stranger.here)
      | inr behind ↦ inr (go mentions behind)
    ]

-- ---- behind other places

module _ (place : ℕ) where
  behind_value : (tokens : List ExprToken) (rest : List ℕ) → IsPlace place rest → IsPlace place (places_in_value tokens rest)
  behind_value [] rest used = used
  behind_value (token ∷ tokens) rest used = inr (behind_value tokens rest used)

  behind_sets : (sets : List SetForm) (rest : List ℕ) → IsPlace place rest → IsPlace place (places_in_sets sets rest)
  behind_sets [] rest used = used
  behind_sets (set ∷ sets) rest used = inr (behind_value set.value (places_in_sets sets rest) (behind_sets sets rest used))

  behind_items : (items : List Item) (rest : List ℕ) → IsPlace place rest → IsPlace place (places_in items rest)
  behind_items [] rest used = used
  behind_items (NodeItem node word hook sets ∷ items) rest used = inr (behind_sets sets (places_in items rest) (behind_items items rest used))
  behind_items (LinkItem from label to ∷ items) rest used = inr (inr (behind_items items rest used))

  behind_params : (params : List ParamForm) (rest : List ℕ) → IsPlace place rest → IsPlace place (places_in_params params rest)
  behind_params [] rest used = used
  behind_params (param ∷ params) rest used = inr (behind_params params rest used)

  behind_pre : (pre : Option (List ExprToken)) (rest : List ℕ) → IsPlace place rest → IsPlace place (places_in_pre pre rest)
  behind_pre None rest used = used
  behind_pre (Some tokens) rest used = behind_value tokens rest used

  behind_rule : (rule : RuleForm) (rest : List ℕ) → IsPlace place rest → IsPlace place (places_in_rule rule rest)
  behind_rule rule rest used = behind_params rule.params _ (behind_items rule.left _ (behind_items rule.right _ (behind_pre rule.pre rest used)))

  -- ---- in a form

  in_params : (params : List ParamForm) (rest : List ℕ) → IsMentioned place (map (λ (param : ParamForm). param.name) params) → IsPlace place (places_in_params params rest)
  in_params [] rest mentioned = absurd mentioned
  in_params (param ∷ params) rest (inl here) = inl here
  in_params (param ∷ params) rest (inr behind) = inr (in_params params rest behind)

  in_nodes : (items : List Item) (rest : List ℕ) → IsMentioned place (nodes_in items) → IsPlace place (places_in items rest)
  in_nodes [] rest mentioned = absurd mentioned
  in_nodes (NodeItem node word hook sets ∷ items) rest (inl here) = inl here
  in_nodes (NodeItem node word hook sets ∷ items) rest (inr behind) = inr (behind_sets sets (places_in items rest) (in_nodes items rest behind))
  in_nodes (LinkItem from label to ∷ items) rest mentioned = inr (inr (in_nodes items rest mentioned))

  in_ends : (items : List Item) (rest : List ℕ) → IsMentioned place (ends_in items) → IsPlace place (places_in items rest)
  in_ends [] rest mentioned = absurd mentioned
  in_ends (NodeItem node word hook sets ∷ items) rest mentioned = inr (behind_sets sets (places_in items rest) (in_ends items rest mentioned))
  in_ends (LinkItem from label to ∷ items) rest (inl here) = inl here
  in_ends (LinkItem from label to ∷ items) rest (inr (inl here)) = inr (inl here)
  in_ends (LinkItem from label to ∷ items) rest (inr (inr behind)) = inr (inr (in_ends items rest behind))

  in_embeds : (sets : List SetForm) (rest : List ℕ) → IsMentioned place (embeds_in sets) → IsPlace place (places_in_sets sets rest)
  in_embeds [] rest mentioned = absurd mentioned
  in_embeds (set ∷ sets) rest (inl here) = inl here
  in_embeds (set ∷ sets) rest (inr behind) = inr (behind_value set.value (places_in_sets sets rest) (in_embeds sets rest behind))

  -- an assignment that stands among these
  in_set : (sets : List SetForm) (set : SetForm) (rest : List ℕ) → Contains sets set → ((rest : List ℕ) → IsPlace place (set.embed.place ∷ places_in_value set.value rest)) → IsPlace place (places_in_sets sets rest)
  in_set [] set rest among used = absurd (contains_none set among)
  in_set (first ∷ sets) set rest among used = elim (contains_cases first sets set among) [
    | inl e ↦ subst (λ (s : SetForm). IsPlace place (s.embed.place ∷ places_in_value s.value (places_in_sets sets rest))) (sym e) (used (places_in_sets sets rest))
    | inr behind ↦ inr (behind_value first.value (places_in_sets sets rest) (in_set sets set rest behind used))
  ]

  -- in the assignments of one of the nodes
  in_node_sets : (items : List Item) (sets : List SetForm) (rest : List ℕ) → Contains (sets_of items) sets → ((rest : List ℕ) → IsPlace place (places_in_sets sets rest)) → IsPlace place (places_in items rest)
  in_node_sets [] sets rest among used = absurd (contains_none sets among)
  in_node_sets (NodeItem node word hook first ∷ items) sets rest among used = elim (contains_cases first (sets_of items) sets among) [
    | inl e ↦ inr (subst (λ (ss : List SetForm). IsPlace place (places_in_sets ss (places_in items rest))) (sym e) (used (places_in items rest)))
    | inr behind ↦ inr (behind_sets first (places_in items rest) (in_node_sets items sets rest behind used))
  ]
  in_node_sets (LinkItem from label to ∷ items) sets rest among used = inr (inr (in_node_sets items sets rest among used))

  in_assignment : (items : List Item) (set : SetForm) (rest : List ℕ) → Contains (assignments_in items) set → ((rest : List ℕ) → IsPlace place (set.embed.place ∷ places_in_value set.value rest)) → IsPlace place (places_in items rest)
  in_assignment [] set rest among used = absurd (contains_none set among)
  in_assignment (NodeItem node word hook sets ∷ items) set rest among used = elim (contains_either sets (assignments_in items) set among) [
    | inl here ↦ inr (in_set sets set (places_in items rest) here used)
    | inr behind ↦ inr (behind_sets sets (places_in items rest) (in_assignment items set rest behind used))
  ]
  in_assignment (LinkItem from label to ∷ items) set rest among used = inr (inr (in_assignment items set rest among used))

  in_name : (rules : List RuleForm) → IsMentioned place (map (λ (rule : RuleForm). rule.name) rules) → IsPlace place (places_of rules)
  in_name [] mentioned = absurd mentioned
  in_name (rule ∷ rules) (inl here) = inl here
  in_name (rule ∷ rules) (inr behind) = inr (behind_rule rule (places_of rules) (in_name rules behind))

  in_rule : (rules : List RuleForm) (rule : RuleForm) → Contains rules rule → ((rest : List ℕ) → IsPlace place (places_in_rule rule rest)) → IsPlace place (places_of rules)
  in_rule [] rule among used = absurd (contains_none rule among)
  in_rule (first ∷ rules) rule among used = elim (contains_cases first rules rule among) [
    | inl e ↦ inr (subst (λ (r : RuleForm). IsPlace place (places_in_rule r (places_of rules))) (sym e) (used (places_of rules)))
    | inr behind ↦ inr (behind_rule first (places_of rules) (in_rule rules rule behind used))
  ]

  in_side : (rule : RuleForm) (side : Side) (rest : List ℕ) → ((rest : List ℕ) → IsPlace place (places_in (items_on rule side) rest)) → IsPlace place (places_in_rule rule rest)
  in_side rule Left rest used = behind_params rule.params _ (used _)
  in_side rule Right rest used = behind_params rule.params _ (behind_items rule.left _ (used _))

  -- an expression of the rule
  in_value : (rule : RuleForm) (tokens : List ExprToken) (rest : List ℕ) → IsValueIn rule tokens → ((rest : List ℕ) → IsPlace place (places_in_value tokens rest)) → IsPlace place (places_in_rule rule rest)
  in_value rule tokens rest (SetValue set among same) used =
      in_side rule Right rest (λ rest. in_assignment rule.right set rest among (λ rest. inr (subst (λ (ts : List ExprToken). IsPlace place (places_in_value ts rest)) (sym same) (used rest))))
  in_value rule tokens rest (PreValue same) used = behind_params rule.params _ (behind_items rule.left _ (behind_items rule.right _ (subst (λ (pre : Option (List ExprToken)). IsPlace place (places_in_pre pre rest)) (sym same) (used rest))))

-- ---- what a fault uses

rules_used : (n : ℕ) (embeds : List Embed) (rules : List RuleForm) (fault : NameFault) → IsFaultInRules n embeds rules fault → IsPlace (place_of fault) (places_of rules)
rules_used n embeds rules _ (RuleTwice place again) = in_name place rules (again_mentioned _ place again)
rules_used n embeds rules _ (ParamTwice rule place among again) = in_rule place rules rule among (λ rest. in_params place rule.params _ (again_mentioned (params_in rule) place again))
rules_used n embeds rules _ (NodeTwice rule side place among again) =
    in_rule place rules rule among (λ rest. in_side place rule side rest (λ rest. in_nodes place (items_on rule side) rest (again_mentioned (nodes_in (items_on rule side)) place again)))
rules_used n embeds rules _ (NodeUnknown rule side place among stranger) =
    in_rule place rules rule among (λ rest. in_side place rule side rest (λ rest. in_ends place (items_on rule side) rest (stranger_mentioned (items_on rule side) place stranger)))
rules_used n embeds rules _ (SetTwice rule sets place among there again) =
    in_rule place rules rule among (λ rest. in_side place rule Right rest (λ rest. in_node_sets place rule.right sets rest there (λ rest. in_embeds place sets rest (again_mentioned (embeds_in sets) place again))))
rules_used n embeds rules _ (SetUnknown rule set among there unknown) =
    in_rule set.embed.place rules rule among (λ rest. in_side set.embed.place rule Right rest (λ rest. in_assignment set.embed.place rule.right set rest there (λ rest. inl refl)))
rules_used n embeds rules _ (ValueFault rule tokens form fault among there value found) =
    let place = place_of (fault_in_value fault) in
    in_rule place rules rule among (λ rest. in_value place rule tokens rest there (λ rest. value_place n (names_for embeds rule) tokens form fault value found rest))
rules_used n embeds rules _ (SetKind rule set kind among there known other) =
    let place = first_place set.value in
    in_rule place rules rule among (λ rest. in_side place rule Right rest (λ rest. in_assignment place rule.right set rest there (λ rest. inr (first_there n set.value other.form other.value rest))))
rules_used n embeds rules _ (PreKind rule tokens among there other) =
    let place = first_place tokens in
    in_rule place rules rule among (λ rest. in_value place rule tokens rest (PreValue there) (λ rest. first_there n tokens other.form other.value rest))

-- ---- in the schema

behind_part_places : (place : ℕ) (role : schemas.Role) (rest : List ℕ) → IsPlace place rest → IsPlace place (placed_as role rest)
behind_part_places place (schemas.NameAt names at) rest used = inr used
behind_part_places place (schemas.LabelAt n mask at) rest used = inr used
behind_part_places place schemas.Fixed rest used = used
behind_part_places place schemas.Dimension rest used = used
behind_part_places place (schemas.EmbedWord k) rest used = used

behind_schema : (place : ℕ) (parts : List (Part schemas.Role)) (rest : List ℕ) → IsPlace place rest → IsPlace place (places_in_schema parts rest)
behind_schema place [] rest used = used
behind_schema place (part ∷ parts) rest used = behind_part_places place part.role (places_in_schema parts rest) (behind_schema place parts rest used)

-- what is there again is a name or a label
again_placed_in : (role : schemas.Role) (symbol : Symbol) (place : ℕ) (rest : List ℕ) → is_again role symbol ≡ true → schemas.IsPlacedAt place role → IsPlace place (placed_as role rest)
again_placed_in (schemas.NameAt names at) symbol place rest again here = inl here
again_placed_in (schemas.LabelAt n mask at) symbol place rest again here = inl here
again_placed_in schemas.Fixed symbol place rest again here = absurd cc
again_placed_in schemas.Dimension symbol place rest again here = absurd cc
again_placed_in (schemas.EmbedWord k) symbol place rest again here = absurd cc

in_schema_places : (place : ℕ) (parts : List (Part schemas.Role)) (part : Part schemas.Role) (rest : List ℕ) → Contains parts part → is_again part.role part.symbol ≡ true → schemas.IsPlacedAt place part.role → IsPlace place (places_in_schema parts rest)
in_schema_places place [] part rest among again here = absurd (contains_none part among)
in_schema_places place (first ∷ parts) part rest among again here = elim (contains_cases first parts part among) [
  | inl e ↦ subst (λ (p : Part schemas.Role). IsPlace place (placed_as p.role (places_in_schema parts rest))) (sym e) (again_placed_in part.role part.symbol place (places_in_schema parts rest) again here)
  | inr behind ↦ behind_part_places place first.role (places_in_schema parts rest) (in_schema_places place parts part rest behind again here)
]

-- ---- the first of the schema stands before all others

-- the first part that is there again, with its place
pub data FirstAgain (place : ℕ) : List (Part schemas.Role) → Type 0 where
  Here : (part : Part schemas.Role) (parts : List (Part schemas.Role)) → is_again part.role part.symbol ≡ true → schemas.IsPlacedAt place part.role → FirstAgain place (part ∷ parts)
  There : (part : Part schemas.Role) (parts : List (Part schemas.Role)) → is_again part.role part.symbol ≡ false → FirstAgain place parts → FirstAgain place (part ∷ parts)

-- its place and what rises behind it
placed_first : (role : schemas.Role) (symbol : Symbol) (low place : ℕ) (rest : List ℕ) → is_again role symbol ≡ true → schemas.IsPlacedAt place role → Rise low (placed_as role rest) → Rise (suc place) rest
placed_first (schemas.NameAt names at) symbol low place rest again here rise = subst (λ (p : ℕ). Rise (suc p) rest) here rise.1
placed_first (schemas.LabelAt n mask at) symbol low place rest again here rise = subst (λ (p : ℕ). Rise (suc p) rest) here rise.1
placed_first schemas.Fixed symbol low place rest again here rise = absurd cc
placed_first schemas.Dimension symbol low place rest again here rise = absurd cc
placed_first (schemas.EmbedWord k) symbol low place rest again here rise = absurd cc

behind_any : (role : schemas.Role) (low : ℕ) (rest : List ℕ) → Rise low (placed_as role rest) → (more : ℕ) × Rise more rest
behind_any (schemas.NameAt names at) low rest rise = (suc at, rise.1)
behind_any (schemas.LabelAt n mask at) low rest rise = (suc at, rise.1)
behind_any schemas.Fixed low rest rise = (low, rise)
behind_any schemas.Dimension low rest rise = (low, rise)
behind_any (schemas.EmbedWord k) low rest rise = (low, rise)

before_rules : (place other low : ℕ) (parts : List (Part schemas.Role)) (rest : List ℕ) → Rise low (places_in_schema parts rest) → FirstAgain place parts → IsPlace other rest → suc place ≤ other
before_rules place other low _ rest rise (Here part parts again here) used =
    let behind = placed_first part.role part.symbol low place (places_in_schema parts rest) again here rise in
    place_above (suc place) other (places_in_schema parts rest) behind (behind_schema other parts rest used)
before_rules place other low _ rest rise (There part parts new first) used =
    let (more, behind) = behind_any part.role low (places_in_schema parts rest) rise in
    before_rules place other more parts rest behind first used

-- two places of one part
one_place : (role : schemas.Role) (symbol : Symbol) (place other : ℕ) → is_again role symbol ≡ true → schemas.IsPlacedAt place role → schemas.IsPlacedAt other role → place ≡ other
one_place (schemas.NameAt names at) symbol place other again here there = sym here ∙ there
one_place (schemas.LabelAt n mask at) symbol place other again here there = sym here ∙ there
one_place schemas.Fixed symbol place other again here there = absurd cc
one_place schemas.Dimension symbol place other again here there = absurd cc
one_place (schemas.EmbedWord k) symbol place other again here there = absurd cc

before_again : (place other : ℕ) (rest : List ℕ) (found : Part schemas.Role) (low : ℕ) (parts : List (Part schemas.Role)) → Rise low (places_in_schema parts rest) → FirstAgain place parts
    → Contains parts found → is_again found.role found.symbol ≡ true → schemas.IsPlacedAt other found.role → place ≤ other
before_again place other rest found low _ rise (Here part parts again here) among is there = elim (contains_cases part parts found among) [
  | inl e ↦ (let same : place ≡ other = one_place part.role part.symbol place other again here (subst (λ (p : Part schemas.Role). schemas.IsPlacedAt other p.role) (sym e) there) in omega (arith, same))
  | inr behind ↦ (let later = placed_first part.role part.symbol low place (places_in_schema parts rest) again here rise in
      let above = place_above (suc place) other (places_in_schema parts rest) later (in_schema_places other parts found rest behind is there) in omega (arith, above))
]
before_again place other rest found low _ rise (There part parts new first) among is there = elim (contains_cases part parts found among) [
  | inl e ↦ (let both : true ≡ false = sym is ∙ ap (λ (p : Part schemas.Role). is_again p.role p.symbol) (sym e) ∙ new in absurd cc)
  | inr behind ↦ (let (more, later) = behind_any part.role low (places_in_schema parts rest) rise in before_again place other rest found more parts later first behind is there)
]

-- the first name or label of the schema that is there again stands before every other fault
pub schema_is_first : (text : List ℕ) (book : BookForm) (place : ℕ) → IsWritten text book → FirstAgain place (spell book.schema []) → (other : NameFault) → IsNameFault book other → IsNotAfter (TwiceAt place) other
schema_is_first text book place written first _ (SchemaTwice other part among again there) =
    let before : place ≤ other = before_again place other (places_of book.rules) part 0 (spell book.schema []) (places_rise text book written) first among again there in
    elim (cases_lt place other) [ inl lt ↦ inl lt | inr le ↦ inr (omega (arith, before, le), omega arith) ]
schema_is_first text book place written first other (RulesFault _ fault) =
    inl (before_rules place (place_of other) 0 (spell book.schema []) (places_of book.rules) (places_rise text book written) first (rules_used book.schema.dim (schema_of book.schema).embeds book.rules other fault))

-- a part that is there again
record IsThereAgain (parts : List (Part schemas.Role)) (place : ℕ) : Type 0 where
  part : Part schemas.Role
  among : Contains parts part
  again : is_again part.role part.symbol ≡ true
  here : schemas.IsPlacedAt place part.role

found_first : (place : ℕ) (parts : List (Part schemas.Role)) → FirstAgain place parts → IsThereAgain parts place
found_first place _ (Here part parts again here) = record { part = part; among = contains_here part parts; again = again; here = here }
found_first place _ (There part parts new first) =
    let behind = found_first place parts first in
    record { part = behind.part; among = contains_behind part parts behind.part behind.among; again = behind.again; here = behind.here }

pub first_is_fault : (book : BookForm) (place : ℕ) → FirstAgain place (spell book.schema []) → IsNameFault book (TwiceAt place)
first_is_fault book place first = let found = found_first place (spell book.schema []) first in SchemaTwice place found.part found.among found.again found.here

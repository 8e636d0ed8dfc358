-- Behind a node's word a symbol does what it does where an item can begin with the node listed, but for the word `hook`.
use Rattle.std.proofs.Common.{◌≡◌, ℕ, true, false, List, [], ◌∷◌, ◌++◌, length, nat_lt, Option, Some, None, Result, Ok, Err, IfOk, codes, refl, sym, ap, ◌∙◌, subst}
use Rattle.std.specs.Option.{option_map}
use Rattle.std.specs.Str.{bytes_eq}
use Rattle.gm_model.specs.declared.limit.LimitKind.{LimitKind}
use Rattle.gm_model.specs.declared.rule.Side.{Side}
use Rattle.gm_model.specs.declared.rule.Side.TheVariants.{Left, Right}
use Rattle.gm_model.specs.declared.token.Token.{Token}
use Rattle.gm_model.specs.declared.word.Letter.{Letter}
use Rattle.gm_model.specs.Names.{reserved, Mention, is_among}
use Rattle.gm_model.specs.Tokens.{bytes_of}
use Rattle.gm_model.specs.Symbols.{Word, End, Mark}
use Rattle.gm_forms.specs.BookText.{Item, NodeItem, LinkItem, RuleForm, limit_of, stands_before}
use Rattle.gm_text.specs.inner.Machine as machine
use Rattle.gm_forms.specs.declared.draft.Draft.{Draft}
use Rattle.gm_forms.specs.declared.form_fault.FormFault.{FormFault}
use Rattle.gm_forms.specs.declared.state.Spot.{Spot as CodeSpot}
use Rattle.gm_forms.specs.declared.state.State.{State as CodeState}
use Rattle.gm_forms.specs.declared.state.State.TheVariants as code
use Rattle.gm_forms.specs.inner.Forms.{mention_of}
use Rattle.gm_forms.specs.declared.state.Heading.{Heading}
use Rattle.gm_forms.specs.inner.Reading.{State, role_at, move, AtItem, AtBehind, listed, takes_hook, is_hook_on, is_hook, is_with_on, Spot, with_item, hooked, hook_last}
use Rattle.gm_forms.specs.inner.Standing.{StaysIn, KeepsIn, IsStateIn, IsDraftIn, Leads, Moves, MovesFrom, EndsFrom, Gives, end_stand, stand_of, stepped, settled, stand_in, spot_of, rules_of, current_of}

pub leads_at : (text : List ℕ) (mark : Mark) (result : Result CodeState FormFault) {state known : CodeState} → state ≡ known → Leads text known mark result → Leads text state mark result
leads_at text mark result is leads = subst (λ (s : CodeState). Leads text s mark result) (sym is) leads

pub moves_from : (last : ℕ) (text : List ℕ) (nodes : List (List ℕ)) (draft : Draft) (mark : Mark) (result : Result CodeState FormFault) (new_nodes : List (List ℕ)) (new_draft : Draft) {state known : CodeState}
    → state ≡ known → MovesFrom last text nodes draft known mark result new_nodes new_draft → MovesFrom last text nodes draft state mark result new_nodes new_draft
moves_from last text nodes draft mark result new_nodes new_draft is moves = subst (λ (s : CodeState). MovesFrom last text nodes draft s mark result new_nodes new_draft) (sym is) moves

pub moves_at : (text : List ℕ) (nodes : List (List ℕ)) (draft : Draft) (mark : Mark) (result : Result CodeState FormFault) (new_nodes : List (List ℕ)) (new_draft : Draft) {state known : CodeState}
    → state ≡ known → Moves text nodes draft known mark result new_nodes new_draft → Moves text nodes draft state mark result new_nodes new_draft
moves_at text nodes draft mark result new_nodes new_draft is moves last = moves_from last text nodes draft mark result new_nodes new_draft is (moves last)

-- where the mark changes nothing beside the state
pub stays_at : (text : List ℕ) (nodes : List (List ℕ)) (draft : Draft) (mark : Mark) (result : Result CodeState FormFault) {state known : CodeState}
    → state ≡ known → Leads text known mark result → Moves text nodes draft state mark result nodes draft
stays_at text nodes draft mark result is leads last = leads_at text mark result is leads nodes (rules_of text draft) (current_of text draft) last

pub stays_in_at : (text : List ℕ) (result : Result CodeState FormFault) {state known : CodeState} → state ≡ known → StaysIn text known result → StaysIn text state result
stays_in_at text result is stays = subst (λ (s : CodeState). StaysIn text s result) (sym is) stays

pub keeps_in_at : (text : List ℕ) (draft : Draft) (result : Result CodeState FormFault) (new : Draft) {state known : CodeState} → state ≡ known → KeepsIn text draft known result new → KeepsIn text draft state result new
keeps_in_at text draft result new is keeps = subst (λ (s : CodeState). KeepsIn text draft s result new) (sym is) keeps

pub also_in : (text : List ℕ) (draft : Draft) (result : Result CodeState FormFault) → IfOk result (λ next. IsStateIn text next) → IsDraftIn text draft → IfOk result (λ next. IsStateIn text next × IsDraftIn text draft)
also_in text draft (Ok next) state_in draft_in = (state_in, draft_in)
also_in text draft (Err fault) state_in draft_in = tt

pub stays_keeps_at : (text : List ℕ) (draft : Draft) (result : Result CodeState FormFault) {state known : CodeState} → state ≡ known → StaysIn text known result → KeepsIn text draft state result draft
stays_keeps_at text draft result is stays state_in draft_in = also_in text draft result (stays_in_at text result is stays state_in) draft_in

behind_is_item : (text : List ℕ) (nodes : List (List ℕ)) (rules : List RuleForm) (current : Option RuleForm) (spot : CodeSpot) (name : Token) (word : List Letter) (last : ℕ) (found : List ℕ) (place : ℕ)
    → is_hook (spot_of nodes spot) found ≡ false → is_with_on spot.side found ≡ false
    → stepped (stand_in text nodes rules current (code.Behind spot name word) last) (record { symbol = Word found; place = place })
    ≡ stepped (stand_in text nodes rules (option_map (with_item spot.side (NodeItem (mention_of text name) word false [])) current) (code.Item spot) last) (record { symbol = Word found; place = place })
unfolding stepped
behind_is_item text nodes rules current spot name word last found place plain no_set = rw (plain, no_set) (go _ _ _)
  where
    mark : Mark
    mark = record { symbol = Word found; place = place }

    taken : State → ℕ → Option State → Option LimitKind → Result State (machine.Stop State LimitKind)
    taken state where_passed next limit = machine.taken limit_of stands_before role_at move state mark where_passed next limit

    go : (next : Option State) (limit : Option LimitKind) (where_passed : ℕ)
        → settled (stand_in text nodes rules current (code.Behind spot name word) last) mark (taken (AtBehind (spot_of nodes spot)) where_passed next limit)
        ≡ settled (stand_in text nodes rules (option_map (with_item spot.side (NodeItem (mention_of text name) word false [])) current) (code.Item spot) last) mark (taken (AtItem (spot_of nodes spot)) where_passed next limit)
    go None limit where_passed = refl
    go (Some next) (Some what) where_passed = refl
    go (Some next) None where_passed = rw (plain, no_set) refl

hooked_put : (items : List Item) (node : Mention) (word : List Letter) → hooked (items ++ NodeItem node word false [] ∷ []) ≡ items ++ NodeItem node word true [] ∷ []
hooked_put [] node word = refl
hooked_put (NodeItem first letters hook sets ∷ []) node word = refl
hooked_put (NodeItem first letters hook sets ∷ item ∷ items) node word = ap (λ xs. NodeItem first letters hook sets ∷ xs) (hooked_put (item ∷ items) node word)
hooked_put (LinkItem from label to ∷ items) node word = ap (λ xs. LinkItem from label to ∷ xs) (hooked_put items node word)

pub hook_is_put : (current : Option RuleForm) (node : Mention) (word : List Letter)
    → option_map hook_last (option_map (with_item Left (NodeItem node word false [])) current) ≡ option_map (with_item Left (NodeItem node word true [])) current
hook_is_put None node word = refl
hook_is_put (Some rule) node word = rw (hooked_put rule.left node word) refl

module _ (text : List ℕ) (nodes : List (List ℕ)) (old put : Draft) (spot : CodeSpot) (name : Token) (word : List Letter) (found : List ℕ) (place : ℕ) where
  pub behind_moves : (result : Result CodeState FormFault) (new_nodes : List (List ℕ)) (new : Draft)
      → rules_of text put ≡ rules_of text old → current_of text put ≡ option_map (with_item spot.side (NodeItem (mention_of text name) word false [])) (current_of text old)
      → is_hook (spot_of nodes spot) found ≡ false → is_with_on spot.side found ≡ false
      → Moves text nodes put (code.Item spot) (record { symbol = Word found; place = place }) result new_nodes new
      → Moves text nodes old (code.Behind spot name word) (record { symbol = Word found; place = place }) result new_nodes new
  behind_moves result new_nodes new rules current plain no_set moves last =
      let same = behind_is_item text nodes (rules_of text old) (current_of text old) spot name word last found place plain no_set in
      let there = ap (λ (rs : List RuleForm). stepped (stand_in text nodes rs (current_of text put) (code.Item spot) last) (record { symbol = Word found; place = place })) rules in
      let here = ap (λ (c : Option RuleForm). stepped (stand_in text nodes (rules_of text old) c (code.Item spot) last) (record { symbol = Word found; place = place })) current in
      subst (λ step. Gives (λ next. stand_of text new_nodes new next place) result step) (there ∙ here ∙ sym same) (moves last)

  pub hook_moves : rules_of text put ≡ rules_of text old → current_of text put ≡ option_map (with_item Left (NodeItem (mention_of text name) word true [])) (current_of text old)
      → spot.side ≡ Left → bytes_eq found (codes "hook") ≡ true → takes_hook spot.heading.version spot.hooked ≡ true
      → Moves text nodes old (code.Behind spot name word) (record { symbol = Word found; place = place }) (Ok (code.Item (record spot { hooked = true }))) nodes put
  unfolding stepped
  hook_moves rules current side hook takes last =
      let here : option_map hook_last (option_map (with_item Left (NodeItem (mention_of text name) word false [])) (current_of text old)) ≡ current_of text put =
      hook_is_put (current_of text old) (mention_of text name) word ∙ sym current in
      let is : is_hook_on Left (takes_hook spot.heading.version spot.hooked) found ≡ true = rw (hook, takes) refl in
      rw (side, is, here, rules, is) refl

  -- an assignment begins
  pub with_moves : rules_of text put ≡ rules_of text old → current_of text put ≡ option_map (with_item spot.side (NodeItem (mention_of text name) word false [])) (current_of text old)
      → spot.side ≡ Right → bytes_eq found (codes "with") ≡ true
      → Moves text nodes old (code.Behind spot name word) (record { symbol = Word found; place = place }) (Ok (code.Set spot)) nodes put
  unfolding stepped
  with_moves rules current right set last = rw (right, set, current, rules, right, set) refl

-- behind a whole assignment a word does what it does where a right item can begin, but for `with`
pub assigned_moves : (text : List ℕ) (nodes : List (List ℕ)) (draft : Draft) (spot right : CodeSpot) (found : List ℕ) (place : ℕ) (result : Result CodeState FormFault) (new_nodes : List (List ℕ)) (new : Draft)
    → right ≡ record spot { side = Right } → bytes_eq found (codes "with") ≡ false
    → Moves text nodes draft (code.Item right) (record { symbol = Word found; place = place }) result new_nodes new
    → Moves text nodes draft (code.Assigned spot) (record { symbol = Word found; place = place }) result new_nodes new
unfolding stepped
assigned_moves text nodes draft spot right found place result new_nodes new is other moves last =
    subst (λ step. Gives (λ next. stand_of text new_nodes new next place) result step) (ap (λ (s : CodeSpot). stepped (stand_of text nodes draft (code.Item s) last) (record { symbol = Word found; place = place })) is ∙ sym same) (moves last)
  where
    same : stepped (stand_of text nodes draft (code.Assigned spot) last) (record { symbol = Word found; place = place })
        ≡ stepped (stand_of text nodes draft (code.Item (record spot { side = Right })) last) (record { symbol = Word found; place = place })
    same = rw other (go _ _ _)
      where
        mark : Mark
        mark = record { symbol = Word found; place = place }

        at : Spot
        at = spot_of nodes (record spot { side = Right })

        go : (next : Option State) (limit : Option LimitKind) (where_passed : ℕ)
            → settled (stand_of text nodes draft (code.Assigned spot) last) mark (machine.taken limit_of stands_before role_at move (AtBehind at) mark where_passed next limit)
            ≡ settled (stand_of text nodes draft (code.Item (record spot { side = Right })) last) mark (machine.taken limit_of stands_before role_at move (AtItem at) mark where_passed next limit)
        go None limit where_passed = refl
        go (Some next) (Some what) where_passed = refl
        go (Some next) None where_passed = rw other refl

pub assigned_ends : {X : Type 0} (text : List ℕ) (nodes : List (List ℕ)) (draft : Draft) (spot right : CodeSpot) (place : ℕ) (result : Result X FormFault) (new : Draft)
    → right ≡ record spot { side = Right } → EndsFrom text nodes draft (code.Item right) place result new → EndsFrom text nodes draft (code.Assigned spot) place result new
unfolding stepped
assigned_ends {X} text nodes draft spot right place result new is ends last =
    let same : stepped (stand_of text nodes draft (code.Assigned spot) last) (record { symbol = End; place = place }) ≡ stepped (stand_of text nodes draft (code.Item (record spot { side = Right })) last) (record { symbol = End; place = place }) = refl in
    subst (λ step. Gives (λ (x : X). end_stand text new place) result step) (ap (λ (s : CodeSpot). stepped (stand_of text nodes draft (code.Item s) last) (record { symbol = End; place = place })) is ∙ sym same) (ends last)

pub to_moves : (text : List ℕ) (nodes : List (List ℕ)) (old put : Draft) (spot : CodeSpot) (from : Token) (label : ℕ) (to : Token)
    → is_among reserved (bytes_of text to) ≡ false → nat_lt 32 (length (bytes_of text to)) ≡ false
    → rules_of text put ≡ rules_of text old → current_of text put ≡ option_map (with_item spot.side (LinkItem (mention_of text from) label (mention_of text to))) (current_of text old)
    → Moves text nodes old (code.To spot from label) (record { symbol = Word (bytes_of text to); place = to.start }) (Ok (code.Item spot)) nodes put
unfolding stepped
to_moves text nodes old put spot from label to free short rules current last = rw (free, short, rules, current) refl

-- ---- at the end

pub ends_at : {X : Type 0} (text : List ℕ) (nodes : List (List ℕ)) (draft : Draft) (place : ℕ) (result : Result X FormFault) (new : Draft) {state known : CodeState}
    → state ≡ known → EndsFrom text nodes draft known place result new → EndsFrom text nodes draft state place result new
ends_at text nodes draft place result new is ends = subst (λ (s : CodeState). EndsFrom text nodes draft s place result new) (sym is) ends

-- behind a precondition
pub rule_ends : {X : Type 0} (text : List ℕ) (nodes : List (List ℕ)) (old new : Draft) (heading : Heading) (so_far place : ℕ) (x : X) → rules_of text new ≡ rules_of text old ++ listed (current_of text old) → new.current ≡ None
    → EndsFrom text nodes old (code.RuleEnd heading so_far) place (Ok x) new
unfolding stepped
rule_ends text nodes old new heading so_far place x rules none last = rw (rules, none) refl

end_is_item : (text : List ℕ) (nodes : List (List ℕ)) (rules : List RuleForm) (current : Option RuleForm) (spot : CodeSpot) (name : Token) (word : List Letter) (last place : ℕ) (side : Side) → spot.side ≡ side
    → stepped (stand_in text nodes rules current (code.Behind spot name word) last) (record { symbol = End; place = place })
    ≡ stepped (stand_in text nodes rules (option_map (with_item spot.side (NodeItem (mention_of text name) word false [])) current) (code.Item spot) last) (record { symbol = End; place = place })
unfolding stepped
end_is_item text nodes rules current spot name word last place Left is = rw is refl
end_is_item text nodes rules current spot name word last place Right is = rw is refl

pub behind_ends : {X : Type 0} (text : List ℕ) (nodes : List (List ℕ)) (old put : Draft) (spot : CodeSpot) (name : Token) (word : List Letter) (place : ℕ) (result : Result X FormFault) (new : Draft)
    → rules_of text put ≡ rules_of text old → current_of text put ≡ option_map (with_item spot.side (NodeItem (mention_of text name) word false [])) (current_of text old)
    → EndsFrom text nodes put (code.Item spot) place result new → EndsFrom text nodes old (code.Behind spot name word) place result new
behind_ends {X} text nodes old put spot name word place result new rules current ends last =
    let same = end_is_item text nodes (rules_of text old) (current_of text old) spot name word last place spot.side refl in
    let there = ap (λ (rs : List RuleForm). stepped (stand_in text nodes rs (current_of text put) (code.Item spot) last) (record { symbol = End; place = place })) rules in
    let here = ap (λ (c : Option RuleForm). stepped (stand_in text nodes (rules_of text old) c (code.Item spot) last) (record { symbol = End; place = place })) current in
    subst (λ step. Gives (λ (x : X). end_stand text new place) result step) (there ∙ here ∙ sym same) (ends last)

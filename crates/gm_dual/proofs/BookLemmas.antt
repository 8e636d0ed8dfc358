-- What holds of the dual of a book whose rules are in range and typed.
use Rattle.std.proofs.Common.{◌≡◌, ℕ, ◌≤◌, List, [], ◌∷◌, map, length, Some, Result, Ok, Err, IfOk, slice_get, refl, sym, ap, ap₂, subst, ◌∙◌}
use Rattle.std.specs.List.{AllByRecursion}
use Rattle.std.specs.Option.{option_map}
use Rattle.std.proofs.lemmas.List.Elements.{All-from_recursion}
use Rattle.std.proofs.lemmas.Option.{get_or_from_slice_get, slice_get-map, slice_get_within}
use Rattle.gm_model.specs.declared.rule.Book.{Book}
use Rattle.gm_model.specs.declared.rule.RuleTable.{RuleTable}
use Rattle.gm_model.specs.declared.schema.Schema.{Schema}
use Rattle.gm_model.specs.Acceptance.{IsAccepted}
use Rattle.gm_model.specs.Applications.{Application, Cause, IsDone, IsRefused}
use Rattle.gm_model.specs.Kinds.{AreGoodParams, IsTyped}
use Rattle.gm_model.specs.Maps.{IsSchema, Map}
use Rattle.gm_model.specs.Rules.{Rule, rule_of}
use Rattle.gm_model.specs.Runs.{IsOutcome, Outcome}
use Rattle.gm_model.specs.Runs.Outcome.{Begun, Done, Dropped, Each, Kept, NothingToRedo, NothingToUndo, Redone, Refused, Skipped, Undone}
use Rattle.gm_model.specs.Structure.{IsInRange}
use Rattle.gm_theory.proofs.OutcomesFound.{applications_have_outcomes}
use Rattle.gm_dual.specs.Duals.{AreAcceptedAlike, AreAppliedAlike, AreRefusedAlike, IsDualBook, LeadsTo, application_of, dual_application, dual_map, dual_rule, dual_schema}
use Rattle.gm_dual.proofs.AcceptLemmas.{range_dual, typed_dual}
use Rattle.gm_dual.proofs.ConditionLemmas.{incidence_dual, sources_dual}
use Rattle.gm_dual.proofs.DoneLemmas.{done_dual}
use Rattle.gm_dual.proofs.SoundLemmas.{schema_dual, sound_dual}
use Rattle.gm_dual.proofs.SquareLemmas.{squares_dual}
use Rattle.gm_dual.proofs.TwiceLemmas.{map_is_twice, rule_twice, schema_twice}

pub ok_too : {A E : Type 0} (P Q : A → Type 0) (r : Result A E) → ((x : A) → P x → Q x) → IfOk r P → IfOk r Q
ok_too P Q (Ok x) more h = more x h
ok_too P Q (Err e) more h = h

module _ (schema : Schema) (rule : Rule) (most : schema.dim ≤ 7) (lawful : IsSchema schema) where
  pub accepted_dual : IsAccepted schema rule → IsAccepted (dual_schema schema) (dual_rule schema.dim rule)
  accepted_dual a = record {
    in_range = range_dual schema rule most a.in_range;
    typed = typed_dual schema rule most a.typed;
    incidence = incidence_dual schema.dim rule a.incidence;
    squares = squares_dual schema rule a.in_range a.incidence a.squares;
    sources = sources_dual schema rule most lawful a.sources;
  }

pub accepted_back : (schema : Schema) (rule : Rule) → schema.dim ≤ 7 → IsSchema schema → IsInRange schema rule → IsTyped schema rule → IsAccepted (dual_schema schema) (dual_rule schema.dim rule) → IsAccepted schema rule
accepted_back schema rule most lawful in_range typed a =
    let again = accepted_dual (dual_schema schema) (dual_rule schema.dim rule) most (schema_dual schema most lawful) a in
    let same_rule = subst (λ r. IsAccepted (dual_schema (dual_schema schema)) r) (rule_twice schema rule most in_range typed) again in
    subst (λ s. IsAccepted s rule) (schema_twice schema most lawful) same_rule

-- ---- rules of a book

all_viewed : (P Q : Rule → Type 0) (f : Rule → Rule) → ((rule : Rule) → P rule → Q (f rule)) → (tables : List RuleTable) (rules : List Rule) → rules ≡ map f (map rule_of tables) → AllByRecursion (λ table. P (rule_of table)) tables → AllByRecursion Q rules
all_viewed P Q f one [] rules is h = subst (AllByRecursion Q) (sym is) tt
all_viewed P Q f one (table ∷ tables) rules is h = subst (AllByRecursion Q) (sym is) (one (rule_of table) h.0, all_viewed P Q f one tables (map f (map rule_of tables)) refl h.1)

all_back : (Q : Rule → Type 0) (tables : List RuleTable) → AllByRecursion Q (map rule_of tables) → AllByRecursion (λ table. Q (rule_of table)) tables
all_back Q [] h = tt
all_back Q (table ∷ tables) h = (h.0, all_back Q tables h.1)

module _ (book dual : Book) (most : book.schema.dim ≤ 7) (lawful : IsSchema book.schema) (is : IsDualBook book dual) where
  pub schema_is_dual : IsSchema dual.schema
  schema_is_dual = subst IsSchema (sym is.schema) (schema_dual book.schema most lawful)

  pub all_in_range : AllByRecursion (λ rule. IsInRange book.schema (rule_of rule)) book.rules → AllByRecursion (λ rule. IsInRange dual.schema (rule_of rule)) dual.rules
  all_in_range h = subst (λ s. AllByRecursion (λ rule. IsInRange s (rule_of rule)) dual.rules) (sym is.schema) (all_back (IsInRange (dual_schema book.schema)) dual.rules
      (all_viewed (IsInRange book.schema) (IsInRange (dual_schema book.schema)) (dual_rule book.schema.dim) (λ rule r. range_dual book.schema rule most r) book.rules (map rule_of dual.rules) is.rules h))

  pub all_typed : AllByRecursion (λ rule. IsTyped book.schema (rule_of rule)) book.rules → AllByRecursion (λ rule. IsTyped dual.schema (rule_of rule)) dual.rules
  all_typed h = subst (λ s. AllByRecursion (λ rule. IsTyped s (rule_of rule)) dual.rules) (sym is.schema) (all_back (IsTyped (dual_schema book.schema)) dual.rules
      (all_viewed (IsTyped book.schema) (IsTyped (dual_schema book.schema)) (dual_rule book.schema.dim) (λ rule r. typed_dual book.schema rule most r) book.rules (map rule_of dual.rules) is.rules h))

  -- the rule at a place of the dual is the dual of the rule there
  pub rule_at : (r : ℕ) (rule other : RuleTable) → slice_get book.rules r ≡ Some rule → slice_get dual.rules r ≡ Some other → rule_of other ≡ dual_rule book.schema.dim (rule_of rule)
  rule_at r rule other here there =
      let viewed : slice_get (map rule_of dual.rules) r ≡ Some (rule_of other) = slice_get-map rule_of dual.rules r ∙ ap (option_map rule_of) there in
      let made : slice_get (map (dual_rule book.schema.dim) (map rule_of book.rules)) r ≡ Some (dual_rule book.schema.dim (rule_of rule)) =
      slice_get-map (dual_rule book.schema.dim) (map rule_of book.rules) r ∙ ap (option_map (dual_rule book.schema.dim)) (slice_get-map rule_of book.rules r ∙ ap (option_map rule_of) here) in
      same (rule_of other) (dual_rule book.schema.dim (rule_of rule)) (sym viewed ∙ (ap (λ rules. slice_get rules r) is.rules ∙ made))
    where
      same : (a b : Rule) → Some a ≡ Some b → a ≡ b
      same a b e = cc

  rules_twice : (tables : List RuleTable) → AllByRecursion (λ rule. IsInRange book.schema (rule_of rule)) tables → AllByRecursion (λ rule. IsTyped book.schema (rule_of rule)) tables → map (dual_rule book.schema.dim) (map (dual_rule book.schema.dim) (map rule_of tables)) ≡ map rule_of tables
  rules_twice [] ranges typed = refl
  rules_twice (table ∷ tables) ranges typed = ap₂ (λ x xs. x ∷ xs) (rule_twice book.schema (rule_of table) most ranges.0 typed.0) (rules_twice tables ranges.1 typed.1)

  -- the dual of the dual is the book
  pub book_twice : AllByRecursion (λ rule. IsInRange book.schema (rule_of rule)) book.rules → AllByRecursion (λ rule. IsTyped book.schema (rule_of rule)) book.rules → IsDualBook dual book
  book_twice ranges typed = record {
    version = sym is.version;
    schema = sym (schema_twice book.schema most lawful) ∙ ap dual_schema (sym is.schema);
    rules = sym (rules_twice book.rules ranges typed) ∙ (ap (map (dual_rule book.schema.dim)) (sym is.rules) ∙ ap (λ (s : Schema). map (dual_rule s.dim) (map rule_of dual.rules)) (sym is.schema));
  }

  pub accepted_alike : AllByRecursion (λ rule. IsInRange book.schema (rule_of rule)) book.rules → AllByRecursion (λ rule. IsTyped book.schema (rule_of rule)) book.rules → AreAcceptedAlike book dual
  accepted_alike ranges typed r rule other here there =
      let same = rule_at r rule other here there in
      let within = slice_get_within book.rules r rule here in
      let at = get_or_from_slice_get book.rules r rule rule here in
      let in_range = subst (λ (t : RuleTable). IsInRange book.schema (rule_of t)) at (All-from_recursion (λ (t : RuleTable). IsInRange book.schema (rule_of t)) book.rules ranges r rule within) in
      let kinds = subst (λ (t : RuleTable). IsTyped book.schema (rule_of t)) at (All-from_recursion (λ (t : RuleTable). IsTyped book.schema (rule_of t)) book.rules typed r rule within) in
      let to : IsAccepted dual.schema (rule_of other) ≡ IsAccepted (dual_schema book.schema) (dual_rule book.schema.dim (rule_of rule)) = (λ k. IsAccepted (is.schema k) (same k)) in (
        (λ a. subst (λ (A : Type 0). A) (sym to) (accepted_dual book.schema (rule_of rule) most lawful a)),
        (λ a. accepted_back book.schema (rule_of rule) most lawful in_range kinds (subst (λ (A : Type 0). A) to a)),
      )

-- ---- applications

-- the dual of the dual of an application of a rule in range is the application itself
pub application_twice : (app : Application) → app.map.schema.dim ≤ 7 → IsSchema app.map.schema → IsInRange app.map.schema app.rule → IsTyped app.map.schema app.rule → dual_application (dual_application app) ≡ app
application_twice app most lawful in_range typed =
    let before = map_is_twice app.map most lawful in
    let rule = rule_twice app.map.schema app.rule most in_range typed in
    λ k. record { map = before k; rule = rule k; hooks = app.hooks; params = app.params }

pub applied_to : (app : Application) → app.map.schema.dim ≤ 7 → IsSchema app.map.schema → IsAccepted app.map.schema app.rule → LeadsTo app (dual_application app)
applied_to app most lawful accepted = done_dual app most lawful accepted

pub applied_from : (app : Application) → app.map.schema.dim ≤ 7 → IsSchema app.map.schema → IsAccepted app.map.schema app.rule → LeadsTo (dual_application app) app
applied_from app most lawful accepted result added removed done =
    subst (λ a. IsDone a (dual_map result) added removed) (application_twice app most lawful accepted.in_range accepted.typed)
    (done_dual (dual_application app) most (schema_dual app.map.schema most lawful) (accepted_dual app.map.schema app.rule most lawful accepted) result added removed done)

module _ (book dual : Book) (most : book.schema.dim ≤ 7) (lawful : IsSchema book.schema) (is : IsDualBook book dual) where
  pub applied_alike : AreAppliedAlike book dual
  applied_alike r rule other before hooks params here there accepted of =
      let app : Application = application_of before rule hooks params in
      let low : before.schema.dim ≤ 7 = subst (λ (s : Schema). s.dim ≤ 7) (sym of) most in
      let good = subst IsSchema (sym of) lawful in
      let fine = subst (λ s. IsAccepted s (rule_of rule)) (sym of) accepted in
      let same : application_of (dual_map before) other hooks params ≡ dual_application app =
      (let rules : rule_of other ≡ dual_rule before.schema.dim (rule_of rule) = rule_at book dual most lawful is r rule other here there ∙ ap (λ (s : Schema). dual_rule s.dim (rule_of rule)) (sym of) in
      λ k. record { map = dual_map before; rule = rules k; hooks = hooks; params = params }) in (
        subst (λ a. LeadsTo app a) (sym same) (applied_to app low good fine),
        subst (λ a. LeadsTo a app) (sym same) (applied_from app low good fine),
      )

  -- each application has an outcome, so where that of the rule is not done, that of the dual is not done either but refused
  pub refused_alike : AreRefusedAlike book dual
  refused_alike r rule other before hooks params here there accepted of sound count good never =
      let low : before.schema.dim ≤ 7 = subst (λ (s : Schema). s.dim ≤ 7) (sym of) most in
      let lawful_before = subst IsSchema (sym of) lawful in
      let same : rule_of other ≡ dual_rule before.schema.dim (rule_of rule) = rule_at book dual most lawful is r rule other here there ∙ ap (λ (s : Schema). dual_rule s.dim (rule_of rule)) (sym of) in
      let fine = subst (λ s. IsAccepted s (rule_of rule)) (sym of) accepted in
      let fine_dual = subst (λ x. IsAccepted (dual_schema before.schema) x) (sym same) (accepted_dual before.schema (rule_of rule) low lawful_before fine) in
      let long = count ∙ ap (λ (x : Rule). length x.hooks) (sym same) in
      let values = subst (λ (x : Rule). AreGoodParams x params) (sym same) good in
      let found = applications_have_outcomes (application_of (dual_map before) other hooks params) (schema_dual before.schema low lawful_before) (sound_dual before low lawful_before sound) fine_dual long values in
      go found.0 found.1 found.2
    where
      back : LeadsTo (application_of (dual_map before) other hooks params) (application_of before rule hooks params)
      back = (applied_alike r rule other before hooks params here there accepted of).1

      go : (outcome : Outcome) (after : Map) → IsOutcome (application_of (dual_map before) other hooks params) outcome after → (cause : Cause) × IsRefused (application_of (dual_map before) other hooks params) cause
      go (Done added removed) after done = absurd (never (dual_map after) added removed (back after added removed done))
      go (Refused cause) after h = (cause, h.0)
      go Skipped after h = absurd h
      go Undone after h = absurd h
      go Redone after h = absurd h
      go NothingToUndo after h = absurd h
      go NothingToRedo after h = absurd h
      go Begun after h = absurd h
      go Kept after h = absurd h
      go Dropped after h = absurd h
      go (Each done refused passed) after h = absurd h

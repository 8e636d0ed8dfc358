-- What comparing the held statements with a book comes to: the script that the text stands for, or the first disagreement.
use Rattle.std.proofs.Common.{◌≡◌, ℕ, zero, suc, ◌<◌, Bool, true, false, cond, eqb, List, [], ◌∷◌, ◌++◌, length, map, slice_get, Option, Some, None, Result, Ok, Err, refl, sym, ap, subst, ◌∙◌, arith}
use Rattle.std.proofs.lemmas.Bool.{eqb-true, eqb-false}
use Rattle.std.specs.Option.{option_map, option_and_then}
use Rattle.gm_model.specs.declared.rule.Param.{Param}
use Rattle.gm_model.specs.Statements.{Stat}
use Rattle.gm_model.specs.declared.value.Kind.{Kind}
use Rattle.gm_model.specs.declared.value.Kind.TheVariants as kinds
use Rattle.gm_model.specs.declared.value.Value.{Value}
use Rattle.gm_model.specs.Rules.{Rule}
use Rattle.gm_script.specs.ScriptText.{ValueForm, Plain, Truth, Pair, Triple, StatForm, value_as, index_of, AreParams, IsOfRule, IsStat, Disagreement, HookCountAt, DisagreesAt, Disagrees, UnknownRule, HookCount, Params}
use Rattle.gm_script.proofs.Zipped.{AreStats}
use Rattle.gm_script.specs.inner.Comparing.{value_for, params_for, hooks_by, hooks_in, stat_of, stat_with, stat_of_rule, stat_at, named_stat, stat_by, stat_for, stats_for, ◌>>=◌}
use Rattle.gm_script.specs.inner.Reading.{HeldStat}
use Rattle.gm_script.specs.declared.sight.Head.{Head}
use Rattle.gm_script.specs.declared.sight.Head.TheVariants as heads
use Rattle.gm_script.proofs.Drafts.{DraftStat, form_by, form_of}
use Rattle.gm_script.proofs.HeldStats.{value_held, IsHeldStat, IsHeldForm, AreHeld}
use Rattle.gm_script.proofs.Indices.{index_below}

-- ---- values

value_for_is : (kind : Kind) (form : ValueForm) → value_for kind (value_held form) ≡ value_as kind form
value_for_is kinds.Int (Plain x) = refl
value_for_is kinds.Bool (Truth b) = refl
value_for_is kinds.Vec2 (Pair x y) = refl
value_for_is kinds.Vec3 (Triple x y z) = refl
value_for_is kinds.Rgb (Triple r g b) = refl
value_for_is _ _ = refl

abbrev both : Option Value → Option (List Value) → Option (List Value)
both first others = option_and_then (λ v. option_map (λ vs. v ∷ vs) others) first

params_step : (kind : Kind) (form : ValueForm) (value : Value) (values : List Value) (first : Option Value) (others : Option (List Value)) → both first others ≡ Some (value ∷ values) → (first ≡ Some value) × (others ≡ Some values)
params_step kind form value values None others e = absurd cc
params_step kind form value values (Some v) None e = absurd cc
params_step kind form value values (Some v) (Some vs) e = (cc, cc)

never_empty : (first : Option Value) (others : Option (List Value)) → both first others ≡ Some [] → ⊥
never_empty None others e = absurd cc
never_empty (Some v) None e = absurd cc
never_empty (Some v) (Some vs) e = absurd cc

pub params_are : (params : List Param) (forms : List ValueForm) (values : List Value) → params_for params (map value_held forms) ≡ Some values → AreParams params forms values
params_are [] [] [] e = tt
params_are [] [] (value ∷ values) e = absurd cc
params_are [] (form ∷ forms) values e = absurd cc
params_are (param ∷ params) [] values e = absurd cc
params_are (param ∷ params) (form ∷ forms) [] e = absurd (never_empty (value_for param.kind (value_held form)) (params_for params (map value_held forms)) e)
params_are (param ∷ params) (form ∷ forms) (value ∷ values) e =
    let step = params_step param.kind form value values (value_for param.kind (value_held form)) (params_for params (map value_held forms)) e in
    (sym (value_for_is param.kind form) ∙ step.0, params_are params forms values step.1)

pub params_only : (params : List Param) (forms : List ValueForm) (values : List Value) → AreParams params forms values → params_for params (map value_held forms) ≡ Some values
params_only [] [] [] are = refl
params_only [] [] (value ∷ values) are = absurd are
params_only [] (form ∷ forms) values are = absurd are
params_only (param ∷ params) [] values are = absurd are
params_only (param ∷ params) (form ∷ forms) [] are = absurd are
params_only (param ∷ params) (form ∷ forms) (value ∷ values) are =
    let first : value_for param.kind (value_held form) ≡ Some value = value_for_is param.kind form ∙ are.0 in
    let others : params_for params (map value_held forms) ≡ Some values = params_only params forms values are.1 in
    rw (first, others) refl

-- ---- a statement

pub there_is : {X : Type 0} (xs : List X) (k : ℕ) → k < length xs → slice_get xs k ≡ None → ⊥
there_is [] k inside e = absurd (omega arith)
there_is (x ∷ xs) zero inside e = absurd cc
there_is (x ∷ xs) (suc k) inside e = there_is xs k (omega arith) e

module _ (text : List ℕ) (rules : List Rule) where
  -- what an answer says of a statement
  abbrev pub Agrees : StatForm → Result Stat Disagreement → Type 0
  Agrees form (Ok stat) = IsStat rules form stat
  Agrees form (Err fault) = Disagrees rules form fault

  module _ (held : HeldStat) (stat : DraftStat) (is : IsHeldStat text held stat) where
    -- it names a rule, and gives so many hooks at a time
    record Names (form : StatForm) (hooks : ℕ) : Type 0 where
      hooks_are : hooks_in held ≡ hooks
      agrees : (k : ℕ) (rule : Rule) (params : List Value) → IsOfRule rules stat.rule.name k rule → hooks ≡ length rule.hooks → AreParams rule.params stat.values params → Agrees form (Ok (stat_of held.head held k params))
      disagrees : (fault : Disagreement) → DisagreesAt rules stat.place stat.rule hooks stat.values fault → Disagrees rules form fault

    module _ (form : StatForm) (hooks : ℕ) (names : Names form hooks) where
      with_values : (k : ℕ) (rule : Rule) → IsOfRule rules stat.rule.name k rule → hooks ≡ length rule.hooks → (params : Option (List Value)) → params_for rule.params held.values ≡ params → Agrees form (stat_with held k params)
      with_values k rule of count None e =
          rw is.place (names.disagrees _ (Params k rule of count (λ values are.
          let some : params_for rule.params held.values ≡ Some values = ap (params_for rule.params) is.values ∙ params_only rule.params stat.values values are in
          let none : None ≡ Some values = sym e ∙ some in absurd cc)))
      with_values k rule of count (Some params) e = names.agrees k rule params of count (params_are rule.params stat.values params (ap (params_for rule.params) (sym is.values) ∙ e))

      of_rule : (k : ℕ) (rule : Rule) → IsOfRule rules stat.rule.name k rule → Agrees form (stat_of_rule held k (Some rule))
      of_rule k rule of =
          by (eqb (hooks_in held) (length rule.hooks)) refl
        where
          by : (b : Bool) → eqb (hooks_in held) (length rule.hooks) ≡ b → Agrees form (cond b (stat_with held k (params_for rule.params held.values)) (Err (HookCountAt held.place)))
          by true e = with_values k rule of (sym names.hooks_are ∙ eqb-true (hooks_in held) (length rule.hooks) e) (params_for rule.params held.values) refl
          by false e = rw is.place (names.disagrees _ (HookCount k rule of (λ same. eqb-false (hooks_in held) (length rule.hooks) e (names.hooks_are ∙ same))))

      at_index : (o : Option ℕ) → index_of rules stat.rule.name ≡ o → Agrees form (stat_at rules held o)
      at_index None e = rw is.name_place (names.disagrees _ (UnknownRule e))
      at_index (Some k) e =
          by (slice_get rules k) refl
        where
          by : (r : Option Rule) → slice_get rules k ≡ r → Agrees form (stat_of_rule held k r)
          by None there = absurd (there_is rules k (index_below rules stat.rule.name k e) there)
          by (Some rule) there = of_rule k rule (record { index = e; there = there })

      named_agrees : Agrees form (named_stat text rules held)
      named_agrees = rw is.name (at_index (index_of rules stat.rule.name) refl)

    by_head : (head : Head) → held.head ≡ head → Agrees (form_by head stat) (stat_by head text rules held)
    by_head heads.Undo e = tt
    by_head heads.Redo e = tt
    by_head heads.Group e = tt
    by_head heads.End e = tt
    by_head heads.Apply e =
        named_agrees (form_by heads.Apply stat) (length stat.hooks) (record {
          hooks_are = ap (λ (h : Head). hooks_by h held) e ∙ ap length is.hooks;
          agrees = λ k rule params of count are. rw e (record { rule = rule; named = of; hooks = is.hooks; count = count; params = are });
          disagrees = λ fault found. found;
        })
    by_head heads.Each e =
        named_agrees (form_by heads.Each stat) 1 (record {
          hooks_are = ap (λ (h : Head). hooks_by h held) e;
          agrees = λ k rule params of count are. rw e (record { rule = rule; named = of; mask_is = is.labels; count = count; params_are = are });
          disagrees = λ fault found. found;
        })

    held_agrees : Agrees (form_of stat) (stat_for text rules held)
    held_agrees = subst (λ (h : Head). Agrees (form_by h stat) (stat_for text rules held)) is.head (by_head held.head refl)

  pub stat_agrees : (held : HeldStat) (form : StatForm) → IsHeldForm text held form → Agrees form (stat_for text rules held)
  stat_agrees held form is = rw is.form_is (held_agrees held is.stat is.is)

  -- ---- all statements

  pub record IsFirstOf (forms : List StatForm) (fault : Disagreement) : Type 0 where
    pub before : List StatForm
    pub form : StatForm
    pub after : List StatForm
    pub split : forms ≡ before ++ form ∷ after
    pub agree : (stats : List Stat) × AreStats rules before stats
    pub found : Disagrees rules form fault

  abbrev pub AllAgree : List StatForm → Result (List Stat) Disagreement → Type 0
  AllAgree forms (Ok stats) = AreStats rules forms stats
  AllAgree forms (Err fault) = IsFirstOf forms fault

  behind : (form : StatForm) (forms : List StatForm) (stat : Stat) (answer : Result (List Stat) Disagreement) → IsStat rules form stat → AllAgree forms answer → AllAgree (form ∷ forms) (answer >>= λ stats. Ok (stat ∷ stats))
  behind form forms stat (Ok stats) is all = (is, all)
  behind form forms stat (Err fault) is all = record {
    before = form ∷ all.before;
    form = all.form;
    after = all.after;
    split = ap (λ (fs : List StatForm). form ∷ fs) all.split;
    agree = (stat ∷ all.agree.0, (is, all.agree.1));
    found = all.found;
  }

  pub at_front : (form : StatForm) (forms : List StatForm) (answer : Result Stat Disagreement) (others : Result (List Stat) Disagreement) → Agrees form answer → AllAgree forms others → AllAgree (form ∷ forms) (answer >>= λ stat. others >>= λ stats. Ok (stat ∷ stats))
  at_front form forms (Ok stat) others is all = behind form forms stat others is all
  at_front form forms (Err fault) others is all = record { before = []; form = form; after = forms; split = refl; agree = ([], tt); found = is }

  pub stats_agree : (helds : List HeldStat) (forms : List StatForm) → AreHeld text helds forms → AllAgree forms (stats_for text rules helds)
  stats_agree [] [] are = tt
  stats_agree [] (form ∷ forms) are = absurd are
  stats_agree (held ∷ helds) [] are = absurd are
  stats_agree (held ∷ helds) (form ∷ forms) are =
      at_front form forms (stat_for text rules held) (stats_for text rules helds) (stat_agrees held form are.0) (stats_agree helds forms are.1)

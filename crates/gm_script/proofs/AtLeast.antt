-- A text stands for a script under a book's rules, or has a first fault.
use Rattle.std.proofs.Common.{◌≡◌, ◌≢◌, ◌⊎◌, ℕ, Bool, true, false, cond, List, [], ◌∷◌, length, slice_get, Option, Some, None, Result, Ok, Err, inl, inr, refl, sym, ap, subst, ◌∙◌}
use Rattle.std.proofs.lemmas.Bool.{cases_eq}
use Rattle.gm_model.specs.declared.rule.Param.{Param}
use Rattle.gm_model.specs.Statements.{Stat}
use Rattle.gm_model.specs.Statements as statements
use Rattle.gm_model.specs.declared.value.Value.{Value}
use Rattle.gm_model.specs.Names.{Mention}
use Rattle.gm_model.specs.Reading.{Part, ArePlaced, IsReadAs, IsWithin, symbols_in}
use Rattle.gm_model.specs.Rules.{Rule}
use Rattle.gm_model.specs.Symbols.{Symbol, Mark, marks_of}
use Rattle.gm_text.specs.inner.SchemaAnswers.{IsNoToken, AtStray, AtEnd}
use Rattle.gm_text.specs.SchemaText.{LimitOf, Again, no_labels}
use Rattle.gm_text.proofs.AtLeast.{IsAnswered, Read, Ended as EndedAt, Passed as PassedAt, answered}
use Rattle.gm_text.proofs.Machine.{Along, IsRead}
use Rattle.gm_text.proofs.TextMarks.{text_end}
use Rattle.gm_script.specs.inner.Comparing.{◌>>=◌}
use Rattle.gm_script.specs.inner.Faults.{IsFaultOf}
use Rattle.gm_script.specs.inner.Reading.{Been, State, At, Ended, first_state, can_end, move, sight_of, role_in, role_at, never}
use Rattle.gm_script.specs.ScriptText.{ValueForm, StatForm, Applies, GoesOver, Says, Undo, Redo, Group, Close, Role, passed_of, IsSentence, IsPlacedAt, IsWritten, index_of, value_as, mask_of, AreParams, IsOfRule, ScriptText, Disagreement, UnknownRuleAt, HookCountAt, ParamsAt, DisagreesAt, UnknownRule, HookCount, Params, IsFirstDisagreement}
use Rattle.gm_script.specs.declared.fault.ScriptFault.{ScriptFault}
use Rattle.gm_script.specs.declared.fault.ScriptFault.TheVariants as faults
use Rattle.gm_script.specs.declared.sight.Sight.{Sight}
use Rattle.gm_script.specs.declared.sight.Sight.TheVariants as sights
use Rattle.gm_script.specs.declared.spot.Spot.{Spot}
use Rattle.gm_script.specs.declared.spot.Spot.TheVariants as spots
use Rattle.gm_script.proofs.Compared.{Agrees, AllAgree, there_is, at_front}
use Rattle.gm_script.proofs.Grammar.{grammar}
use Rattle.gm_script.proofs.Indices.{index_below}
use Rattle.gm_script.proofs.Steps.{none_other}

-- ---- what is written

module _ (n : ℕ) where
  -- what is no token ends a script
  behind_end : (state next : State) (symbol : Symbol) → IsNoToken symbol → move state symbol ≡ Some next → next ≡ Ended
  behind_end Ended next symbol none e = absurd cc
  behind_end (At spot been) next symbol AtStray e = absurd (no_way (rw (none_other n been.within spot) at e))
    where
      no_way : None ≡ Some next → ⊥
      no_way f = absurd cc
  behind_end (At spot been) next symbol AtEnd e = go (can_end been.within spot) e
    where
      go : (can : Bool) → (cond can (Some Ended) None) ≡ Some next → next ≡ Ended
      go true f = sym (cc f)
      go false f = absurd cc

  placed_at : (spot : Spot) (been : Been) (sight : Sight) (place : ℕ) → IsPlacedAt place (role_in n spot been sight place)
  placed_at spots.Apply been sight place = refl
  placed_at spots.Over been sight place = refl
  placed_at spots.Rule been (sights.Number m) place = tt
  placed_at spots.Orbit been (sights.Number m) place = tt
  placed_at _ been (sights.Begins head) place = refl
  placed_at _ been _ place = tt

  placed_role : (state : State) (symbol : Symbol) (place : ℕ) → IsPlacedAt place (role_at n state symbol place)
  placed_role Ended symbol place = tt
  placed_role (At spot been) symbol place = placed_at spot been (sight_of symbol) place

  placed_along : (state last : State) (marks : List Mark) (parts : List (Part Role)) → Along passed_of never (role_at n) move state marks parts last → ArePlaced IsPlacedAt marks parts
  placed_along state last [] parts along = tt
  placed_along state last (mark ∷ marks) [] along = tt
  placed_along state last (mark ∷ marks) (part ∷ parts) (next, is, moves, along) =
      (subst (λ (p : Part Role). IsPlacedAt mark.place p.role) (sym is) (placed_role state mark.symbol mark.place), placed_along next last marks parts along)

  written : (text : List ℕ) (read : IsRead passed_of never (role_at n) move first_state Ended (marks_of text)) → IsReadAs (IsSentence n) passed_of (marks_of text) read.parts → (forms : List StatForm) × IsWritten n text forms
  written text read is =
      let (forms, form, same) = is.sentence in (
        forms,
        record {
          form = form;
          read = record { spelled = is.spelled ∙ ap symbols_in same; sentence = (forms, form, refl); within = subst (IsWithin (IsSentence n) passed_of) same is.within };
          placed = subst (ArePlaced IsPlacedAt (marks_of text)) same (placed_along first_state Ended (marks_of text) read.parts read.along);
        },
      )

-- ---- what it comes to under the rules

params_or_none : (params : List Param) (forms : List ValueForm) → ((values : List Value) × AreParams params forms values) ⊎ ((values : List Value) → AreParams params forms values → ⊥)
params_or_none [] [] = inl ([], tt)
params_or_none [] (form ∷ forms) = inr (λ values are. are)
params_or_none (param ∷ params) [] = inr (λ values are. are)
params_or_none (param ∷ params) (form ∷ forms) = go (value_as param.kind form) refl (params_or_none params forms)
  where
    go : (first : Option Value) → value_as param.kind form ≡ first → ((values : List Value) × AreParams params forms values) ⊎ ((values : List Value) → AreParams params forms values → ⊥)
        → ((values : List Value) × AreParams (param ∷ params) (form ∷ forms) values) ⊎ ((values : List Value) → AreParams (param ∷ params) (form ∷ forms) values → ⊥)
    go None e rest = inr none
      where
        none : (values : List Value) → AreParams (param ∷ params) (form ∷ forms) values → ⊥
        none [] are = are
        none (value ∷ values) are = let both : None ≡ Some value = sym e ∙ are.0 in absurd cc
    go (Some value) e (inl (values, are)) = inl (value ∷ values, (e, are))
    go (Some value) e (inr unfit) = inr none
      where
        none : (values : List Value) → AreParams (param ∷ params) (form ∷ forms) values → ⊥
        none [] are = are
        none (other ∷ values) are = unfit values are.1

module _ (text : List ℕ) (rules : List Rule) where
  -- the rule that a statement names takes so many hooks and these values
  record Fits (name : Mention) (hooks : ℕ) (forms : List ValueForm) : Type 0 where
    k : ℕ
    rule : Rule
    params : List Value
    named : IsOfRule rules name.name k rule
    count : hooks ≡ length rule.hooks
    are : AreParams rule.params forms params

  module _ (place : ℕ) (name : Mention) (hooks : ℕ) (forms : List ValueForm) where
    abbrev IsDecided : Type 0
    IsDecided = Fits name hooks forms ⊎ ((fault : Disagreement) × DisagreesAt rules place name hooks forms fault)

    of_values : (k : ℕ) (rule : Rule) → IsOfRule rules name.name k rule → hooks ≡ length rule.hooks → IsDecided
    of_values k rule of count =
        elim (params_or_none rule.params forms) [
          | inl fit ↦ inl (record { k = k; rule = rule; params = fit.0; named = of; count = count; are = fit.1 })
          | inr unfit ↦ inr (ParamsAt place, Params k rule of count unfit)
        ]

    of_rule : (k : ℕ) (rule : Rule) → IsOfRule rules name.name k rule → IsDecided
    of_rule k rule of =
        elim (cases_eq hooks (length rule.hooks)) [
          | inl same ↦ of_values k rule of same
          | inr other ↦ inr (HookCountAt place, HookCount k rule of other)
        ]

    fits_or_not : IsDecided
    fits_or_not = go (index_of rules name.name) refl
      where
        at : (k : ℕ) → index_of rules name.name ≡ Some k → (found : Option Rule) → slice_get rules k ≡ found → IsDecided
        at k e None there = absurd (there_is rules k (index_below rules name.name k e) there)
        at k e (Some rule) there = of_rule k rule (record { index = e; there = there })

        go : (index : Option ℕ) → index_of rules name.name ≡ index → IsDecided
        go None e = inr (UnknownRuleAt name.place, UnknownRule e)
        go (Some k) e = at k e (slice_get rules k) refl

  stat_or_fault : (form : StatForm) → (answer : Result Stat Disagreement) × Agrees text rules form answer
  stat_or_fault (Applies form) =
      elim (fits_or_not form.place form.rule (length form.hooks) form.values) [
        | inl fit ↦ (Ok (statements.Apply (record { rule = fit.k; hooks = form.hooks; params = fit.params })), record { rule = fit.rule; named = fit.named; hooks = refl; count = fit.count; params = fit.are })
        | inr fault ↦ (Err fault.0, fault.1)
      ]
  stat_or_fault (GoesOver form) =
      elim (fits_or_not form.place form.rule 1 form.values) [
        | inl fit ↦ (Ok (statements.Each (mask_of form.labels no_labels) fit.k fit.params), record { rule = fit.rule; named = fit.named; mask_is = refl; count = fit.count; params_are = fit.are })
        | inr fault ↦ (Err fault.0, fault.1)
      ]
  stat_or_fault (Says Undo place) = (Ok statements.Undo, tt)
  stat_or_fault (Says Redo place) = (Ok statements.Redo, tt)
  stat_or_fault (Says Group place) = (Ok statements.Group, tt)
  stat_or_fault (Says Close place) = (Ok statements.End, tt)

  stats_or_fault : (forms : List StatForm) → (answer : Result (List Stat) Disagreement) × AllAgree text rules forms answer
  stats_or_fault [] = (Ok [], tt)
  stats_or_fault (form ∷ forms) =
      let (first, is) = stat_or_fault form in
      let (others, are) = stats_or_fault forms in
      (first >>= λ stat. others >>= λ stats. Ok (stat ∷ stats), at_front text rules form forms first others is are)

-- ---- the whole

module _ (text : List ℕ) (n : ℕ) (rules : List Rule) where
  abbrev Stands : Type 0
  Stands = (stats : List Stat) × ScriptText text n rules stats

  abbrev IsAtFault : Type 0
  IsAtFault = (fault : ScriptFault) × (fault ≢ faults.OutOfMemory) × IsFaultOf text n rules fault

  disagrees : (fault : Disagreement) → IsFirstDisagreement text n rules fault → IsAtFault
  disagrees (UnknownRuleAt place) first = (faults.UnknownRule place, (λ e. absurd cc), first)
  disagrees (HookCountAt place) first = (faults.HookCount place, (λ e. absurd cc), first)
  disagrees (ParamsAt place) first = (faults.Params place, (λ e. absurd cc), first)

  of_forms : (forms : List StatForm) → IsWritten n text forms → (answer : Result (List Stat) Disagreement) → AllAgree text rules forms answer → Stands ⊎ IsAtFault
  of_forms forms written (Ok stats) are = inl (stats, record { forms = forms; written = written; same = are })
  of_forms forms written (Err fault) first =
      inr (disagrees fault (record { before = first.before; form = first.form; after = first.after; written = subst (IsWritten n text) first.split written; agree = first.agree; found = first.found }))

  pub stands_or_fault : Stands ⊎ IsAtFault
  stands_or_fault = go (answered passed_of never (role_at n) move (IsSentence n) first_state Ended (grammar n) (behind_end n) (marks_of text) (text_end text))
    where
      go : IsAnswered passed_of never (role_at n) move (IsSentence n) first_state Ended (grammar n) (marks_of text) → Stands ⊎ IsAtFault
      go (Read read is) =
          let (forms, are) = written n text read is in
          let (answer, agreed) = stats_or_fault text rules forms in
          of_forms forms are answer agreed
      go (EndedAt place ends) = inr (faults.Text place, (λ e. absurd cc), ends)
      go (PassedAt (LimitOf what) place passes) = inr (faults.Limit what place, (λ e. absurd cc), passes)
      go (PassedAt Again place passes) = inr (faults.Twice place, (λ e. absurd cc), passes)

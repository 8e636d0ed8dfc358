-- A text stands for one script at most under a book, and has one first disagreement at most with it.
use Rattle.std.proofs.Common.{◌≡◌, ℕ, List, [], ◌∷◌, ◌++◌, length, slice_get, Some, None, refl, sym, ap, subst, ◌∙◌}
use Rattle.std.proofs.lemmas.Option.{same_Some}
use Rattle.gm_model.specs.declared.rule.Param.{Param}
use Rattle.gm_model.specs.Statements.{Line, Stat}
use Rattle.gm_model.specs.Statements as statements
use Rattle.gm_model.specs.declared.value.Value.{Value}
use Rattle.gm_model.specs.Names.{Mention}
use Rattle.gm_model.specs.Rules.{Rule}
use Rattle.gm_script.specs.ScriptText.{ValueForm, StatForm, Applies, GoesOver, Says, Undo, Redo, Group, Close, index_of, AreParams, IsOfRule, IsStat, Disagreement, DisagreesAt, Disagrees, UnknownRule, HookCount, Params, ScriptText, StandsForNoScript, IsFirstDisagreement}
use Rattle.gm_script.proofs.Zipped.{AreStats}
use Rattle.gm_script.proofs.OneForm.{one_form}

-- ---- one statement

one_params : (params : List Param) (forms : List ValueForm) (values others : List Value) → AreParams params forms values → AreParams params forms others → values ≡ others
one_params [] [] [] [] one two = refl
one_params [] [] [] (w ∷ others) one two = absurd two
one_params [] [] (v ∷ values) others one two = absurd one
one_params [] (form ∷ forms) values others one two = absurd one
one_params (param ∷ params) [] values others one two = absurd one
one_params (param ∷ params) (form ∷ forms) [] others one two = absurd one
one_params (param ∷ params) (form ∷ forms) (v ∷ values) [] one two = absurd two
one_params (param ∷ params) (form ∷ forms) (v ∷ values) (w ∷ others) one two =
    let first : v ≡ w = same_Some v w (sym one.0 ∙ two.0) in
    let rest : values ≡ others = one_params params forms values others one.1 two.1 in
    λ i. first i ∷ rest i

module _ (rules : List Rule) where
  one_index : (name : List ℕ) (k l : ℕ) (rule other : Rule) → IsOfRule rules name k rule → IsOfRule rules name l other → (k ≡ l) × (rule ≡ other)
  one_index name k l rule other one two =
      let index : k ≡ l = same_Some k l (sym one.index ∙ two.index) in
      (index, same_Some rule other (sym one.there ∙ ap (slice_get rules) index ∙ two.there))

  one_line : (form : StatForm) (a b : Stat) → IsStat rules form a → IsStat rules form b → a ≡ b
  one_line (Applies form) (statements.Apply a) (statements.Apply b) one two =
      let same = one_index form.rule.name a.rule b.rule one.rule two.rule one.named two.named in
      let hooks : a.hooks ≡ b.hooks = one.hooks ∙ sym two.hooks in
      let params : a.params ≡ b.params = one_params one.rule.params form.values a.params b.params one.params (subst (λ (r : Rule). AreParams r.params form.values b.params) (sym same.1) two.params) in
      ap statements.Apply (λ i. record { rule = same.0 i; hooks = hooks i; params = params i })
  one_line (GoesOver form) (statements.Each mask k params) (statements.Each other l others) one two =
      let same = one_index form.rule.name k l one.rule two.rule one.named two.named in
      let masks : mask ≡ other = one.mask_is ∙ sym two.mask_is in
      let values : params ≡ others = one_params one.rule.params form.values params others one.params_are (subst (λ (r : Rule). AreParams r.params form.values others) (sym same.1) two.params_are) in
      λ i. statements.Each (masks i) (same.0 i) (values i)
  one_line (Says Undo place) statements.Undo statements.Undo one two = refl
  one_line (Says Redo place) statements.Redo statements.Redo one two = refl
  one_line (Says Group place) statements.Group statements.Group one two = refl
  one_line (Says Close place) statements.End statements.End one two = refl
  one_line (Applies form) (statements.Apply a) _ one two = absurd two
  one_line (GoesOver form) (statements.Each mask k params) _ one two = absurd two
  one_line (Says Undo place) statements.Undo _ one two = absurd two
  one_line (Says Redo place) statements.Redo _ one two = absurd two
  one_line (Says Group place) statements.Group _ one two = absurd two
  one_line (Says Close place) statements.End _ one two = absurd two
  one_line _ _ b one two = absurd one

  -- ---- one fault of a statement

  named_or_unknown : (name : List ℕ) (k : ℕ) (rule : Rule) → IsOfRule rules name k rule → index_of rules name ≡ None → ⊥
  named_or_unknown name k rule of none = let same : Some k ≡ None = sym of.index ∙ none in absurd cc

  module _ (place : ℕ) (name : Mention) (hooks : ℕ) (forms : List ValueForm) where
    one_fault_at : (f g : Disagreement) → DisagreesAt rules place name hooks forms f → DisagreesAt rules place name hooks forms g → f ≡ g
    one_fault_at f g (UnknownRule e) (UnknownRule d) = refl
    one_fault_at f g (UnknownRule e) (HookCount k rule of other) = absurd (named_or_unknown name.name k rule of e)
    one_fault_at f g (UnknownRule e) (Params k rule of count unfit) = absurd (named_or_unknown name.name k rule of e)
    one_fault_at f g (HookCount k rule of other) (UnknownRule e) = absurd (named_or_unknown name.name k rule of e)
    one_fault_at f g (HookCount k rule of other) (HookCount l second of' other') = refl
    one_fault_at f g (HookCount k rule of other) (Params l second of' count unfit) =
        let same = one_index name.name k l rule second of of' in absurd (other (count ∙ ap (λ (r : Rule). length r.hooks) (sym same.1)))
    one_fault_at f g (Params k rule of count unfit) (UnknownRule e) = absurd (named_or_unknown name.name k rule of e)
    one_fault_at f g (Params k rule of count unfit) (HookCount l second of' other) =
        let same = one_index name.name k l rule second of of' in absurd (other (count ∙ ap (λ (r : Rule). length r.hooks) same.1))
    one_fault_at f g (Params k rule of count unfit) (Params l second of' count' unfit') = refl

    -- a statement that agrees has none
    no_fault_at : (fault : Disagreement) (k : ℕ) (rule : Rule) (params : List Value) → IsOfRule rules name.name k rule → hooks ≡ length rule.hooks → AreParams rule.params forms params → DisagreesAt rules place name hooks forms fault → ⊥
    no_fault_at fault k rule params of count are (UnknownRule e) = named_or_unknown name.name k rule of e
    no_fault_at fault k rule params of count are (HookCount l second of' other) =
        let same = one_index name.name k l rule second of of' in other (count ∙ ap (λ (r : Rule). length r.hooks) same.1)
    no_fault_at fault k rule params of count are (Params l second of' count' unfit) =
        let same = one_index name.name k l rule second of of' in unfit params (subst (λ (r : Rule). AreParams r.params forms params) same.1 are)

  one_fault : (form : StatForm) (f g : Disagreement) → Disagrees rules form f → Disagrees rules form g → f ≡ g
  one_fault (Applies form) f g one two = one_fault_at form.place form.rule (length form.hooks) form.values f g one two
  one_fault (GoesOver form) f g one two = one_fault_at form.place form.rule 1 form.values f g one two
  one_fault (Says bare place) f g one two = absurd one

  no_fault : (form : StatForm) (stat : Stat) (fault : Disagreement) → IsStat rules form stat → Disagrees rules form fault → ⊥
  no_fault (Applies form) (statements.Apply line) fault is found = no_fault_at form.place form.rule (length form.hooks) form.values fault line.rule is.rule line.params is.named is.count is.params found
  no_fault (GoesOver form) (statements.Each mask k params) fault is found = no_fault_at form.place form.rule 1 form.values fault k is.rule params is.named is.count is.params_are found
  no_fault (Says bare place) stat fault is found = absurd found
  no_fault _ _ fault is found = absurd is

  -- ---- all statements

  stats_one : (forms : List StatForm) (stats others : List Stat) → AreStats rules forms stats → AreStats rules forms others → stats ≡ others
  stats_one [] [] [] one two = refl
  stats_one [] [] (b ∷ others) one two = absurd two
  stats_one [] (a ∷ stats) others one two = absurd one
  stats_one (form ∷ forms) [] others one two = absurd one
  stats_one (form ∷ forms) (a ∷ stats) [] one two = absurd two
  stats_one (form ∷ forms) (a ∷ stats) (b ∷ others) one two =
      let first = one_line form a b one.0 two.0 in
      let rest = stats_one forms stats others one.1 two.1 in
      λ i. first i ∷ rest i

  -- the first that disagrees, where those before it agree
  firsts_one : (before before' : List StatForm) (form form' : StatForm) (after after' : List StatForm) (stats stats' : List Stat) (f g : Disagreement)
      → before ++ form ∷ after ≡ before' ++ form' ∷ after' → AreStats rules before stats → AreStats rules before' stats' → Disagrees rules form f → Disagrees rules form' g → f ≡ g
  firsts_one [] [] form form' after after' stats stats' f g e one two found found' =
      let same : form ≡ form' = cc e in one_fault form' f g (subst (λ (x : StatForm). Disagrees rules x f) same found) found'
  firsts_one [] (first ∷ before') form form' after after' stats [] f g e one two found found' = absurd two
  firsts_one [] (first ∷ before') form form' after after' stats (b ∷ stats') f g e one two found found' =
      let same : form ≡ first = cc e in absurd (no_fault first b f two.0 (subst (λ (x : StatForm). Disagrees rules x f) same found))
  firsts_one (first ∷ before) [] form form' after after' [] stats' f g e one two found found' = absurd one
  firsts_one (first ∷ before) [] form form' after after' (a ∷ stats) stats' f g e one two found found' =
      let same : first ≡ form' = cc e in absurd (no_fault first a g one.0 (subst (λ (x : StatForm). Disagrees rules x g) (sym same) found'))
  firsts_one (first ∷ before) (other ∷ before') form form' after after' [] stats' f g e one two found found' = absurd one
  firsts_one (first ∷ before) (other ∷ before') form form' after after' (a ∷ stats) [] f g e one two found found' = absurd two
  firsts_one (first ∷ before) (other ∷ before') form form' after after' (a ∷ stats) (b ∷ stats') f g e one two found found' =
      let rest : before ++ form ∷ after ≡ before' ++ form' ∷ after' = cc e in
      firsts_one before before' form form' after after' stats stats' f g rest one.1 two.1 found found'

  -- where all agree none disagrees
  never_first : (before : List StatForm) (form : StatForm) (after : List StatForm) (stats : List Stat) (fault : Disagreement) → AreStats rules (before ++ form ∷ after) stats → Disagrees rules form fault → ⊥
  never_first [] form after [] fault are found = absurd are
  never_first [] form after (stat ∷ stats) fault are found = no_fault form stat fault are.0 found
  never_first (first ∷ before) form after [] fault are found = absurd are
  never_first (first ∷ before) form after (stat ∷ stats) fault are found = never_first before form after stats fault are.1 found

module _ (text : List ℕ) (n : ℕ) (rules : List Rule) where
  pub one_script : (stats others : List Stat) → ScriptText text n rules stats → ScriptText text n rules others → stats ≡ others
  one_script stats others one two =
      let forms = one_form n text one.forms two.forms one.written two.written in
      stats_one rules one.forms stats others one.same (subst (λ (fs : List StatForm). AreStats rules fs others) (sym forms) two.same)

  pub one_disagreement : (fault other : Disagreement) → IsFirstDisagreement text n rules fault → IsFirstDisagreement text n rules other → fault ≡ other
  one_disagreement fault other one two =
      let forms = one_form n text (one.before ++ one.form ∷ one.after) (two.before ++ two.form ∷ two.after) one.written two.written in
      firsts_one rules one.before two.before one.form two.form one.after two.after one.agree.0 two.agree.0 fault other forms one.agree.1 two.agree.1 one.found two.found

  pub no_script_at_disagreement : (fault : Disagreement) → IsFirstDisagreement text n rules fault → StandsForNoScript text n rules
  no_script_at_disagreement fault one stats two =
      let forms = one_form n text (one.before ++ one.form ∷ one.after) two.forms one.written two.written in
      never_first rules one.before one.form one.after stats fault (subst (λ (fs : List StatForm). AreStats rules fs stats) (sym forms) two.same) one.found

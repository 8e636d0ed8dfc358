-- How the statements that a text lists are compared with a book, one after another: the statements that they are, or the first disagreement.
use Rattle.std.specs.Prelude.{ℕ, ◌==◌, if◌then◌else◌, List, [], ◌∷◌, length, Option, Some, None, Result, Ok, Err, slice_get}
use Rattle.std.specs.Option.{option_map, option_and_then}
use Rattle.gm_model.specs.declared.rule.Param.{Param}
use Rattle.gm_model.specs.Statements.{Stat}
use Rattle.gm_model.specs.Statements as statements
use Rattle.gm_model.specs.declared.value.Kind.{Kind}
use Rattle.gm_model.specs.declared.value.Kind.TheVariants as kinds
use Rattle.gm_model.specs.declared.value.Value.{Value}
use Rattle.gm_model.specs.declared.value.Value.TheVariants as values
use Rattle.gm_model.specs.Tokens.{bytes_of}
use Rattle.gm_model.specs.Rules.{Rule}
use Rattle.gm_script.specs.ScriptText.{colour, index_of, Disagreement, UnknownRuleAt, HookCountAt, ParamsAt}
use Rattle.gm_script.specs.inner.Reading.{HeldStat}
use Rattle.gm_script.specs.declared.sight.Head.{Head}
use Rattle.gm_script.specs.declared.sight.Head.TheVariants as heads

-- the value of the kind, where it was held before its kind was known
abbrev pub value_for : Kind → Value → Option Value
value_for kinds.Int (values.Int n) = Some (values.Int n)
value_for kinds.Bool (values.Bool b) = Some (values.Bool b)
value_for kinds.Vec2 (values.Vec2 x y) = Some (values.Vec2 x y)
value_for kinds.Vec3 (values.Vec3 x y z) = Some (values.Vec3 x y z)
value_for kinds.Rgb (values.Vec3 r g b) = colour r g b
value_for _ _ = None

-- one value for each parameter
abbrev pub params_for : List Param → List Value → Option (List Value)
params_for [] [] = Some []
params_for (param ∷ params) (value ∷ values) = option_and_then (λ v. option_map (λ vs. v ∷ vs) (params_for params values)) (value_for param.kind value)
params_for _ _ = None

-- how many hooks the statement gives at a time
abbrev pub hooks_by : Head → HeldStat → ℕ
hooks_by heads.Each held = 1
hooks_by _ held = length held.hooks

abbrev pub hooks_in : HeldStat → ℕ
hooks_in held = hooks_by held.head held

-- what a statement is, where this is the index of its rule and these are its values: one word alone has neither
abbrev pub stat_of : Head → HeldStat → ℕ → List Value → Stat
stat_of heads.Apply held k params = statements.Apply (record { rule = k; hooks = held.hooks; params = params })
stat_of heads.Each held k params = statements.Each held.labels k params
stat_of heads.Undo held k params = statements.Undo
stat_of heads.Redo held k params = statements.Redo
stat_of heads.Group held k params = statements.Group
stat_of heads.End held k params = statements.End

-- what a statement of the rule is, where its values fit
abbrev pub stat_with : HeldStat → ℕ → Option (List Value) → Result Stat Disagreement
stat_with held k None = Err (ParamsAt held.place)
stat_with held k (Some params) = Ok (stat_of held.head held k params)

-- a rule that a book lacks is one that a statement can't name
abbrev pub stat_of_rule : HeldStat → ℕ → Option Rule → Result Stat Disagreement
stat_of_rule held k None = Err (UnknownRuleAt held.name.start)
stat_of_rule held k (Some rule) =
    if hooks_in held == length rule.hooks then stat_with held k (params_for rule.params held.values) else Err (HookCountAt held.place)

abbrev pub stat_at : List Rule → HeldStat → Option ℕ → Result Stat Disagreement
stat_at rules held None = Err (UnknownRuleAt held.name.start)
stat_at rules held (Some k) = stat_of_rule held k (slice_get rules k)

abbrev pub named_stat : List ℕ → List Rule → HeldStat → Result Stat Disagreement
named_stat text rules held = stat_at rules held (index_of rules (bytes_of text held.name))

-- one word alone needs no book
abbrev pub stat_by : Head → List ℕ → List Rule → HeldStat → Result Stat Disagreement
stat_by heads.Undo text rules held = Ok statements.Undo
stat_by heads.Redo text rules held = Ok statements.Redo
stat_by heads.Group text rules held = Ok statements.Group
stat_by heads.End text rules held = Ok statements.End
stat_by _ text rules held = named_stat text rules held

abbrev pub stat_for : List ℕ → List Rule → HeldStat → Result Stat Disagreement
stat_for text rules held = stat_by held.head text rules held

infixl 10 ◌>>=◌
abbrev pub ◌>>=◌ : {A B : Type 0} → Result A Disagreement → (A → Result B Disagreement) → Result B Disagreement
(Ok x) >>= f = f x
(Err fault) >>= f = Err fault

abbrev pub stats_for : List ℕ → List Rule → List HeldStat → Result (List Stat) Disagreement
stats_for text rules [] = Ok []
stats_for text rules (held ∷ others) = stat_for text rules held >>= λ stat. stats_for text rules others >>= λ stats. Ok (stat ∷ stats)

-- What is written in a script so far, and how a symbol that can stand next is written behind it.
use Rattle.std.proofs.Common.{◌≡◌, ℕ, ◌+◌, Bool, true, false, List, [], ◌∷◌, ◌++◌, length, map, Option, Some, None, refl, sym, ap, ◌∙◌, arith, codes}
use Rattle.std.specs.List.{AllByRecursion}
use Rattle.gm_model.specs.Names.{Mention, IsFree}
use Rattle.gm_model.specs.Reading.{Part, word, number, sign}
use Rattle.gm_script.specs.ScriptText.{ValueForm, Plain, Pair, Triple, StatForm, Applies, GoesOver, Says, Undo, Redo, Group, Close, Role, Fixed, StatAt, RuleAt, Hook, mask_of, spell_signed, spell_values, spell_labels, spell_stats, spell_stat, IsStatForm, AreNested}
use Rattle.gm_text.specs.SchemaText.{no_labels}
use Rattle.gm_text.specs.ValueText.{Signed}
use Rattle.gm_script.specs.inner.Reading.{Been, head_word, is_minus}
use Rattle.gm_script.specs.declared.sight.Head.{Head}
use Rattle.gm_script.specs.declared.sight.Head.TheVariants as heads
use Rattle.gm_script.specs.declared.spot.Spot.{Spot}
use Rattle.gm_script.specs.declared.spot.Spot.TheVariants as spots
use Rattle.gm_script.proofs.Spelling.{stats_more}

-- a statement that is being read
pub record DraftStat : Type 0 where
  pub place : ℕ
  pub head : Head
  pub rule : Mention
  pub hooks : List ℕ
  pub labels : List ℕ
  pub values : List ValueForm

-- the whole statements, the one that is being read, and the numbers of its vector
pub record Draft : Type 0 where
  pub stats : List StatForm
  pub stat : DraftStat
  pub x : Signed
  pub y : Signed
  pub z : Signed

abbrev pub form_by : Head → DraftStat → StatForm
form_by heads.Apply stat = Applies (record { place = stat.place; rule = stat.rule; hooks = stat.hooks; values = stat.values })
form_by heads.Each stat = GoesOver (record { place = stat.place; labels = stat.labels; rule = stat.rule; values = stat.values })
form_by heads.Undo stat = Says Undo stat.place
form_by heads.Redo stat = Says Redo stat.place
form_by heads.Group stat = Says Group stat.place
form_by heads.End stat = Says Close stat.place

abbrev pub form_of : DraftStat → StatForm
form_of stat = form_by stat.head stat

-- ---- groups

-- whether a group is open behind a statement that begins so, where one was or not; none where it can't stand
abbrev pub nest : Bool → Head → Option Bool
nest within heads.Apply = Some within
nest false heads.Group = Some true
nest true heads.End = Some false
nest false heads.End = None
nest true head = None
nest false head = Some false

abbrev pub head_of : StatForm → Head
head_of (Applies line) = heads.Apply
head_of (GoesOver form) = heads.Each
head_of (Says Undo place) = heads.Undo
head_of (Says Redo place) = heads.Redo
head_of (Says Group place) = heads.Group
head_of (Says Close place) = heads.End

-- the statements lead from one to the other
abbrev pub NestsTo : Bool → List StatForm → Bool → Type 0
NestsTo within [] last = within ≡ last
NestsTo within (form ∷ forms) last = (next : Bool) × (nest within (head_of form) ≡ Some next) × NestsTo next forms last

-- ---- what a symbol adds

-- a statement whose first word stands at the place, until its rule's name is read
abbrev pub new_stat : Head → ℕ → DraftStat
new_stat head place = record { place = place; head = head; rule = record { name = head_word head; place = place }; hooks = []; labels = []; values = [] }

abbrev pub begun : Head → ℕ → Draft → Draft
begun head place draft = record draft { stat = new_stat head place }

abbrev pub closed : Draft → Draft
closed draft = record draft { stats = draft.stats ++ form_of draft.stat ∷ [] }

abbrev pub named : List ℕ → ℕ → Draft → Draft
named name place draft = record draft { stat = record draft.stat { rule = record { name = name; place = place } } }

abbrev pub with_value : ValueForm → Draft → Draft
with_value value draft = record draft { stat = record draft.stat { values = draft.stat.values ++ value ∷ [] } }

abbrev pub signed : Bool → ℕ → Signed
signed minus size = record { minus = minus; size = size }

abbrev pub add_head : Spot → Head → ℕ → Draft → Draft
add_head spots.Apply head place draft = named (head_word head) place draft
add_head spots.Over head place draft = named (head_word head) place draft
add_head spots.Start head place draft = begun head place draft
add_head _ head place draft = begun head place (closed draft)

abbrev pub add_number : Spot → ℕ → Draft → Draft
add_number spots.Rule n draft = record draft { stat = record draft.stat { hooks = draft.stat.hooks ++ n ∷ [] } }
add_number spots.Orbit n draft = record draft { stat = record draft.stat { labels = draft.stat.labels ++ n ∷ [] } }
add_number spots.Open n draft = record draft { x = signed false n }
add_number spots.OpenMinus n draft = record draft { x = signed true n }
add_number spots.First n draft = record draft { y = signed false n }
add_number spots.FirstMinus n draft = record draft { y = signed true n }
add_number spots.Second n draft = record draft { z = signed false n }
add_number spots.SecondMinus n draft = record draft { z = signed true n }
add_number spot n draft = with_value (Plain (signed (is_minus spot) n)) draft

abbrev pub add_vector : Spot → Draft → Draft
add_vector spots.Second draft = with_value (Pair draft.x draft.y) draft
add_vector _ draft = with_value (Triple draft.x draft.y draft.z) draft

-- ---- what is written so far

module _ (n : ℕ) where
  -- the statement that is being read up to its labels
  abbrev pub spell_orbit : ℕ → DraftStat → List (Part Role) → List (Part Role)
  spell_orbit k stat rest = word (StatAt k stat.place) (codes "each") ∷ sign Fixed (codes "<") ∷ spell_labels n no_labels stat.labels rest

  -- and up to its rule and hooks
  abbrev pub spell_named : ℕ → Head → DraftStat → List (Part Role) → List (Part Role)
  spell_named k heads.Apply stat rest = word (StatAt k stat.place) (codes "apply") ∷ word (RuleAt stat.rule.place) stat.rule.name ∷ (map (number Hook) stat.hooks ++ rest)
  spell_named k heads.Each stat rest = spell_orbit k stat (sign Fixed (codes ">") ∷ word (RuleAt stat.rule.place) stat.rule.name ∷ rest)
  spell_named k head stat rest = rest

  -- with its values, and what stands behind it
  abbrev pub in_stat : ℕ → Draft → List (Part Role) → List (Part Role)
  in_stat k draft rest = spell_stats n 0 draft.stats (spell_named k draft.stat.head draft.stat (word Fixed (codes "with") ∷ spell_values draft.stat.values rest))

  abbrev pub so_far : Spot → ℕ → Draft → List (Part Role) → List (Part Role)
  so_far spots.Start k draft rest = spell_stats n 0 draft.stats rest
  so_far spots.Bare k draft rest = spell_stats n 0 draft.stats (word (StatAt k draft.stat.place) (head_word draft.stat.head) ∷ rest)
  so_far spots.Apply k draft rest = spell_stats n 0 draft.stats (word (StatAt k draft.stat.place) (codes "apply") ∷ rest)
  so_far spots.Rule k draft rest = spell_stats n 0 draft.stats (spell_named k heads.Apply draft.stat rest)
  so_far spots.Each k draft rest = spell_stats n 0 draft.stats (word (StatAt k draft.stat.place) (codes "each") ∷ rest)
  so_far spots.Orbit k draft rest = spell_stats n 0 draft.stats (spell_orbit k draft.stat rest)
  so_far spots.Over k draft rest = spell_stats n 0 draft.stats (spell_orbit k draft.stat (sign Fixed (codes ">") ∷ rest))
  so_far spots.Named k draft rest = spell_stats n 0 draft.stats (spell_named k heads.Each draft.stat rest)
  so_far spots.With k draft rest = in_stat k draft rest
  so_far spots.Value k draft rest = in_stat k draft rest
  so_far spots.Minus k draft rest = in_stat k draft (sign Fixed (codes "-") ∷ rest)
  so_far spots.Open k draft rest = in_stat k draft (sign Fixed (codes "(") ∷ rest)
  so_far spots.OpenMinus k draft rest = in_stat k draft (sign Fixed (codes "(") ∷ sign Fixed (codes "-") ∷ rest)
  so_far spots.First k draft rest = in_stat k draft (sign Fixed (codes "(") ∷ spell_signed draft.x rest)
  so_far spots.FirstMinus k draft rest = in_stat k draft (sign Fixed (codes "(") ∷ spell_signed draft.x (sign Fixed (codes "-") ∷ rest))
  so_far spots.Second k draft rest = in_stat k draft (sign Fixed (codes "(") ∷ spell_signed draft.x (spell_signed draft.y rest))
  so_far spots.SecondMinus k draft rest = in_stat k draft (sign Fixed (codes "(") ∷ spell_signed draft.x (spell_signed draft.y (sign Fixed (codes "-") ∷ rest)))
  so_far spots.Third k draft rest = in_stat k draft (sign Fixed (codes "(") ∷ spell_signed draft.x (spell_signed draft.y (spell_signed draft.z rest)))

-- the statement is one word
abbrev pub IsBare : Head → Type 0
IsBare heads.Apply = ⊥
IsBare heads.Each = ⊥
IsBare _ = Unit {0}

-- the statement names a rule
abbrev pub IsNaming : Head → Type 0
IsNaming heads.Apply = Unit {0}
IsNaming heads.Each = Unit {0}
IsNaming _ = ⊥

-- the statement that is being read has what it has to have by then
abbrev pub IsStatAt : Spot → DraftStat → Type 0
IsStatAt spots.Start stat = Unit {0}
IsStatAt spots.Bare stat = IsBare stat.head
IsStatAt spots.Apply stat = (stat.head ≡ heads.Apply) × (stat.hooks ≡ []) × (stat.values ≡ [])
IsStatAt spots.Rule stat = (stat.head ≡ heads.Apply) × IsFree stat.rule × (stat.values ≡ [])
IsStatAt spots.Each stat = (stat.head ≡ heads.Each) × (stat.labels ≡ []) × (stat.values ≡ [])
IsStatAt spots.Orbit stat = (stat.head ≡ heads.Each) × (stat.values ≡ [])
IsStatAt spots.Over stat = (stat.head ≡ heads.Each) × (stat.values ≡ [])
IsStatAt spots.Named stat = (stat.head ≡ heads.Each) × IsFree stat.rule × (stat.values ≡ [])
IsStatAt spots.Value stat = IsNaming stat.head × IsFree stat.rule × ((value : ValueForm) × (values : List ValueForm) × (stat.values ≡ value ∷ values))
IsStatAt _ stat = IsNaming stat.head × IsFree stat.rule

-- so many statements have begun
abbrev pub IsCountAt : Spot → ℕ → ℕ → Type 0
IsCountAt spots.Start k stats = k ≡ stats
IsCountAt _ k stats = k ≡ stats + 1

-- and a group is open or not
abbrev pub IsNestedAt : Spot → Bool → Draft → Type 0
IsNestedAt spots.Start within draft = NestsTo false draft.stats within
IsNestedAt _ within draft = (before : Bool) × NestsTo false draft.stats before × (nest before draft.stat.head ≡ Some within)

pub record IsDraft (spot : Spot) (been : Been) (draft : Draft) : Type 0 where
  pub form : AllByRecursion IsStatForm draft.stats
  pub stat : IsStatAt spot draft.stat
  pub count : IsCountAt spot been.begun (length draft.stats)
  pub nested : IsNestedAt spot been.within draft
  pub labels : been.labels ≡ mask_of draft.stat.labels no_labels

-- the next draft is the first with the part behind it
pub record IsMore (n : ℕ) (spot : Spot) (been : Been) (draft : Draft) (part : Part Role) (next : Spot) (more : Draft) (behind : Been) : Type 0 where
  pub good : IsDraft next behind more
  pub written : (rest : List (Part Role)) → so_far n next behind.begun more rest ≡ so_far n spot been.begun draft (part ∷ rest)

abbrev pub Goes : ℕ → Spot → Been → Draft → Part Role → Draft → Been → Option Spot → Type 0
Goes n spot been draft part more behind None = Unit {0}
Goes n spot been draft part more behind (Some next) = IsMore n spot been draft part next more behind

-- ---- whole statements

form_more : (forms : List StatForm) (form : StatForm) → AllByRecursion IsStatForm forms → IsStatForm form → AllByRecursion IsStatForm (forms ++ form ∷ [])
form_more [] form all good = (good, tt)
form_more (first ∷ forms) form all good = (all.0, form_more forms form all.1 good)

length_more : {A : Type 0} (xs : List A) (x : A) → length (xs ++ x ∷ []) ≡ length xs + 1
length_more [] x = refl
length_more (first ∷ xs) x = let e : length (xs ++ x ∷ []) ≡ length xs + 1 = length_more xs x in omega (arith, e)

nests_more : (within before last : Bool) (forms : List StatForm) (form : StatForm) → NestsTo within forms before → nest before (head_of form) ≡ Some last → NestsTo within (forms ++ form ∷ []) last
nests_more within before last [] form e f = (last, ap (λ (b : Bool). nest b (head_of form)) e ∙ f, refl)
nests_more within before last (first ∷ forms) form (next, e, to) f = (next, e, nests_more next before last forms form to f)

head_is : (head : Head) (stat : DraftStat) → head_of (form_by head stat) ≡ head
head_is heads.Apply stat = refl
head_is heads.Each stat = refl
head_is heads.Undo stat = refl
head_is heads.Redo stat = refl
head_is heads.Group stat = refl
head_is heads.End stat = refl

pub nests_nested : (within : Bool) (forms : List StatForm) → NestsTo within forms false → AreNested within forms
nests_nested within [] e = e
nests_nested within (Applies line ∷ forms) (next, e, to) = let same : within ≡ next = cc e in rw same (nests_nested next forms to)
nests_nested true (GoesOver form ∷ forms) (next, e, to) = absurd cc
nests_nested false (GoesOver form ∷ forms) (next, e, to) = let same : false ≡ next = cc e in (refl, rw same (nests_nested next forms to))
nests_nested true (Says Undo place ∷ forms) (next, e, to) = absurd cc
nests_nested false (Says Undo place ∷ forms) (next, e, to) = let same : false ≡ next = cc e in (refl, rw same (nests_nested next forms to))
nests_nested true (Says Redo place ∷ forms) (next, e, to) = absurd cc
nests_nested false (Says Redo place ∷ forms) (next, e, to) = let same : false ≡ next = cc e in (refl, rw same (nests_nested next forms to))
nests_nested true (Says Group place ∷ forms) (next, e, to) = absurd cc
nests_nested false (Says Group place ∷ forms) (next, e, to) = let same : true ≡ next = cc e in (refl, rw same (nests_nested next forms to))
nests_nested true (Says Close place ∷ forms) (next, e, to) = let same : false ≡ next = cc e in (refl, rw same (nests_nested next forms to))
nests_nested false (Says Close place ∷ forms) (next, e, to) = absurd cc

pub record IsClosed (n : ℕ) (spot : Spot) (been : Been) (draft : Draft) : Type 0 where
  pub form : AllByRecursion IsStatForm (closed draft).stats
  pub count : length (closed draft).stats ≡ been.begun
  pub nested : NestsTo false (closed draft).stats been.within
  pub written : (rest : List (Part Role)) → spell_stats n 0 (closed draft).stats rest ≡ so_far n spot been.begun draft rest

bare_form : (head : Head) (stat : DraftStat) → IsBare head → IsStatForm (form_by head stat)
bare_form heads.Apply stat is = absurd is
bare_form heads.Each stat is = absurd is
bare_form heads.Undo stat is = tt
bare_form heads.Redo stat is = tt
bare_form heads.Group stat is = tt
bare_form heads.End stat is = tt

naming_form : (head : Head) (stat : DraftStat) → IsNaming head → IsFree stat.rule → IsStatForm (form_by head stat)
naming_form heads.Apply stat is free = free
naming_form heads.Each stat is free = free
naming_form heads.Undo stat is free = absurd is
naming_form heads.Redo stat is free = absurd is
naming_form heads.Group stat is free = absurd is
naming_form heads.End stat is free = absurd is

-- ---- how a whole statement is spelled

module _ (n : ℕ) where
  bare_spelled : (k : ℕ) (head : Head) (stat : DraftStat) (rest : List (Part Role)) → IsBare head → spell_stat n k (form_by head stat) rest ≡ word (StatAt k stat.place) (head_word head) ∷ rest
  bare_spelled k heads.Apply stat rest is = absurd is
  bare_spelled k heads.Each stat rest is = absurd is
  bare_spelled k heads.Undo stat rest is = refl
  bare_spelled k heads.Redo stat rest is = refl
  bare_spelled k heads.Group stat rest is = refl
  bare_spelled k heads.End stat rest is = refl

  named_spelled : (k : ℕ) (head : Head) (stat : DraftStat) (rest : List (Part Role)) → IsNaming head → stat.values ≡ [] → spell_stat n k (form_by head stat) rest ≡ spell_named n k head stat rest
  named_spelled k heads.Apply stat rest is none = rw none refl
  named_spelled k heads.Each stat rest is none = rw none refl
  named_spelled k heads.Undo stat rest is none = absurd is
  named_spelled k heads.Redo stat rest is none = absurd is
  named_spelled k heads.Group stat rest is none = absurd is
  named_spelled k heads.End stat rest is none = absurd is

  valued_spelled : (k : ℕ) (head : Head) (stat : DraftStat) (rest : List (Part Role)) (value : ValueForm) (values : List ValueForm) → IsNaming head → stat.values ≡ value ∷ values
      → spell_stat n k (form_by head stat) rest ≡ spell_named n k head stat (word Fixed (codes "with") ∷ spell_values stat.values rest)
  valued_spelled k heads.Apply stat rest value values is e = rw e refl
  valued_spelled k heads.Each stat rest value values is e = rw e refl
  valued_spelled k heads.Undo stat rest value values is e = absurd is
  valued_spelled k heads.Redo stat rest value values is e = absurd is
  valued_spelled k heads.Group stat rest value values is e = absurd is
  valued_spelled k heads.End stat rest value values is e = absurd is

  -- a statement that is whole, where it is spelled so
  closing : (spot : Spot) (been : Been) (draft : Draft) → AllByRecursion IsStatForm draft.stats → IsStatForm (form_of draft.stat) → been.begun ≡ length draft.stats + 1
      → (before : Bool) → NestsTo false draft.stats before → nest before draft.stat.head ≡ Some been.within
      → ((rest : List (Part Role)) → spell_stats n 0 draft.stats (spell_stat n been.begun (form_of draft.stat) rest) ≡ so_far n spot been.begun draft rest) → IsClosed n spot been draft
  closing spot been draft form good count before to opens spelled = record {
    form = form_more draft.stats (form_of draft.stat) form good;
    count = length_more draft.stats (form_of draft.stat) ∙ sym count;
    nested = nests_more false before been.within draft.stats (form_of draft.stat) to (ap (nest before) (head_is draft.stat.head draft.stat) ∙ opens);
    written = λ rest.
        stats_more n 0 draft.stats (form_of draft.stat) rest
        ∙ ap (λ (k : ℕ). spell_stats n 0 draft.stats (spell_stat n k (form_of draft.stat) rest)) (let e : 0 + length draft.stats + 1 ≡ length draft.stats + 1 = omega arith in e ∙ sym count)
        ∙ spelled rest;
  }

  pub closed_at_bare : (been : Been) (draft : Draft) → IsDraft spots.Bare been draft → IsClosed n spots.Bare been draft
  closed_at_bare been draft good =
      closing spots.Bare been draft good.form (bare_form draft.stat.head draft.stat good.stat) good.count good.nested.0 good.nested.1 good.nested.2
      (λ rest. ap (spell_stats n 0 draft.stats) (bare_spelled been.begun draft.stat.head draft.stat rest good.stat))

  naming_apply : (head : Head) → head ≡ heads.Apply → IsNaming head
  naming_apply head e = rw e tt

  naming_each : (head : Head) → head ≡ heads.Each → IsNaming head
  naming_each head e = rw e tt

  pub closed_at_rule : (been : Been) (draft : Draft) → IsDraft spots.Rule been draft → IsClosed n spots.Rule been draft
  closed_at_rule been draft good =
      let naming = naming_apply draft.stat.head good.stat.0 in
      closing spots.Rule been draft good.form (naming_form draft.stat.head draft.stat naming good.stat.1) good.count good.nested.0 good.nested.1 good.nested.2
      (λ rest. ap (spell_stats n 0 draft.stats) (named_spelled been.begun draft.stat.head draft.stat rest naming good.stat.2 ∙ ap (λ (h : Head). spell_named n been.begun h draft.stat rest) good.stat.0))

  pub closed_at_named : (been : Been) (draft : Draft) → IsDraft spots.Named been draft → IsClosed n spots.Named been draft
  closed_at_named been draft good =
      let naming = naming_each draft.stat.head good.stat.0 in
      closing spots.Named been draft good.form (naming_form draft.stat.head draft.stat naming good.stat.1) good.count good.nested.0 good.nested.1 good.nested.2
      (λ rest. ap (spell_stats n 0 draft.stats) (named_spelled been.begun draft.stat.head draft.stat rest naming good.stat.2 ∙ ap (λ (h : Head). spell_named n been.begun h draft.stat rest) good.stat.0))

  pub closed_at_value : (been : Been) (draft : Draft) → IsDraft spots.Value been draft → IsClosed n spots.Value been draft
  closed_at_value been draft good =
      closing spots.Value been draft good.form (naming_form draft.stat.head draft.stat good.stat.0 good.stat.1) good.count good.nested.0 good.nested.1 good.nested.2
      (λ rest. ap (spell_stats n 0 draft.stats) (valued_spelled been.begun draft.stat.head draft.stat rest good.stat.2.0 good.stat.2.1 good.stat.0 good.stat.2.2))

-- The steps of a run of the program stay within its most, and reach its least.
use Rattle.std.proofs.Common.{◌≡◌, ℕ, zero, suc, ◌+◌, ◌*◌, ◌<◌, ◌≤◌, true, List, [], ◌∷◌, inl, inr, Some, None, Result, Ok, Err, is_some, length, map, All, refl, sym, ap, subst, ◌∙◌, eqb, arith}
use Rattle.std.specs.Prelude.{slice_index, IfOk, IfSome}
use Rattle.std.specs.List.{Contains}
use Rattle.std.specs.List.Sorted.{IsStrictlyIncreasing}
use Rattle.std.proofs.Math.Nat.{mul_assoc}
use Rattle.std.proofs.lemmas.Bool.{eqb-true, eq-eqb, cases_Bool}
use Rattle.std.proofs.lemmas.Nat.{mul-le}
use Rattle.std.proofs.lemmas.List.{length-map}
use Rattle.std.proofs.lemmas.List.Kept.{AllPairs-from_increasing}
use Rattle.gm_arena.proofs.Keys.{darts_counted}
use Rattle.gm_arena.specs.inner.ArenaAsMap.{as_map}
use Rattle.gm_arena.specs.inner.ArenaMap.{ArenaMap}
use Rattle.gm_arena.specs.inner.Lawful.{IsLawful}
use Rattle.gm_host.specs.Store.{Contents, IsHeld}
use Rattle.gm_mapfile.proofs.Printed as printed_darts
use Rattle.gm_mapfile.specs.declared.reading.MapRead.{MapRead}
use Rattle.gm_model.specs.declared.rule.Book.{Book}
use Rattle.gm_model.specs.declared.schema.Schema.{Schema}
use Rattle.gm_model.specs.declared.script.Script.{Script}
use Rattle.gm_model.specs.Acceptance.{IsAccepted}
use Rattle.gm_model.specs.Budgets.{Bounds, no_entries, IsRunWithin}
use Rattle.gm_model.specs.Maps.{IsDart}
use Rattle.gm_mapfile.specs.MapText.{DartRow, map_of, names, rows_of}
use Rattle.gm_mapfile.specs.declared.version.MapVersion.{MapVersion}
use Rattle.gm_model.specs.GMap.{row_of}
use Rattle.gm_model.specs.Orbits.{HasCount}
use Rattle.gm_model.specs.Rules.{rule_of}
use Rattle.gm_model.specs.Runs.{Outcome, State, start_of, IsRun}
use Rattle.gm_plan.specs.inner.Plans.{PlanOf}
use Rattle.gm_run.specs.declared.outcome.Outcome as report
use Rattle.gm_run.specs.inner.Alike.{AreAlike}
use Rattle.gm_run.specs.inner.Lines.{Tells}
use Rattle.gm_run.specs.inner.Progress.{rules_of}
use Rattle.gm_theory.proofs.ValuesUnique.{one_count}
use Rattle.gm_tool.specs.Answer.{Files}
use Rattle.gm_lines.specs.Refusing.{TheMap, TheBook, TheScript}
use Rattle.gm_tool.specs.MadeRuns.{CanRun, inputs_of}
use Rattle.gm_tool.specs.RunAnswer.{RunNames, Inputs, Ran, IsRan, IsGoodRun, HasMap, HasBook, HasScript, IsBadMap, IsBadBook, IsBadScript}
use Rattle.gm_tool.specs.StepBounds.{HasBounds, IsMost, MostOf, IsLeast, LeastOf, WithinMost, AtLeast, BytesReadWithin, ReadsWithin, RunsWithin, RunsAtLeast, dim_of, darts_read, darts_left, printing}
use Rattle.gm_tool.specs.inner.Stops.{IsReadMap, IsReadBook, IsReadScript, IsFrom}
use Rattle.gm_mapfile.proofs.SoundRows.{same_map}
use Rattle.gm_tool.proofs.Lines.{same_rules}
use Rattle.gm_tool.proofs.OneRunAnswer.{same_inputs}
use Rattle.gm_tool.proofs.RunsMade.{least_made, most_made}

-- ---- how many darts rows have

row_named : (rows : List DartRow) (d : ℕ) → Contains (names rows) d → is_some (row_of (rows_of rows) d) ≡ true
row_named [] d (k, within, is) = absurd (omega arith)
row_named (row ∷ rows) d (zero, within, is) = let here : eqb row.name d ≡ true = eq-eqb row.name d is in rw here refl
row_named (row ∷ rows) d (suc k, within, is) =
    let rest = row_named rows d (k, omega arith, is) in
    elim (cases_Bool (eqb row.name d)) [
      | inl here ↦ rw here refl
      | inr other ↦ rw other rest
    ]

name_held : (rows : List DartRow) (d : ℕ) → is_some (row_of (rows_of rows) d) ≡ true → Contains (names rows) d
name_held [] d live = absurd cc
name_held (row ∷ rows) d live =
    elim (cases_Bool (eqb row.name d)) [
      | inl here ↦ (0, omega arith, eqb-true row.name d here)
      | inr other ↦ let rest : is_some (row_of (rows_of rows) d) ≡ true = rw other at live in let at = name_held rows d rest in let within : suc at.0 < suc (length (names rows)) = omega (arith, at.1) in (suc at.0, within, at.2)
    ]

-- rows in ascending order are as many darts
rows_counted : (rows : List DartRow) → IsStrictlyIncreasing (names rows) → HasCount (λ d. is_some (row_of (rows_of rows) d) ≡ true) (length rows)
rows_counted rows up = (names rows, record { distinct = distinct; same = λ d. (row_named rows d, name_held rows d) }, length-map rows (λ (row : DartRow). row.name))
  where
    distinct : (p q : ℕ) → p < q → q < length (names rows) → slice_index (names rows) p ≡ slice_index (names rows) q → ⊥
    distinct p q before within e = let l = AllPairs-from_increasing (names rows) up p q 0 before within in omega (arith, l, e)

-- ---- what was read is what a good run is of

module _ (files : Files) (named : RunNames) (version : MapVersion) (m : ArenaMap) (book : Book) (script : Script) (the_map : HasMap files named (inputs_of version m book script)) (the_book : HasBook files named (inputs_of version m book script))
    (the_script : HasScript files named (inputs_of version m book script)) where
  of_read : (inputs : Inputs) (ran : Ran) → IsGoodRun files named inputs ran → inputs ≡ inputs_of version m book script
  of_read inputs ran good = same_inputs files named inputs (inputs_of version m book script) good.the_map the_map good.the_book the_book good.the_script the_script

-- ---- the lines

module _ (version : MapVersion) (m after : ArenaMap) (book : Book) (script : Script) (plans : List PlanOf) (can : CanRun m book script plans) (lawful : IsLawful m) where
  abbrev inputs : Inputs
  inputs = inputs_of version m book script

  -- bounds of the inputs are bounds of what is run
  bounds_here : (ran : Ran) (behind : State) (bounds : Bounds) → IsRunWithin inputs.rules (start_of (map_of inputs.map)) no_entries script.stats ran.outcomes behind bounds
      → IsRunWithin (rules_of plans) (start_of (as_map m)) no_entries script.stats ran.outcomes behind bounds
  bounds_here ran behind bounds within =
      subst (λ rules. IsRunWithin rules (start_of (as_map m)) no_entries script.stats ran.outcomes behind bounds) (sym (same_rules m book script plans can))
      (subst (λ x. IsRunWithin (map rule_of book.rules) (start_of x) no_entries script.stats ran.outcomes behind bounds) (sym (same_map m)) within)

  -- what holds of each pair of bounds of what is run
  abbrev pub Bounded : (Bounds → Type 0) → Type 0
  Bounded Holds = (outcomes : List Outcome) (end : State) (bounds : Bounds) → IsRunWithin (rules_of plans) (start_of (as_map m)) no_entries script.stats outcomes end bounds → Holds bounds

  stats_within : (Holds : Bounds → Type 0) → Bounded Holds → (ran : Ran) (bounds : Bounds) → HasBounds inputs ran bounds → Holds bounds
  stats_within Holds holds ran bounds (behind, within) = holds ran.outcomes behind bounds (bounds_here ran behind bounds within)

  module _ (lawful_after : IsLawful after) (lines : List report.Outcome)
      (only : (outcomes : List Outcome) (end : State) → IsRun (rules_of plans) (start_of (as_map m)) script.stats outcomes end → Tells lines outcomes × AreAlike end.map (as_map after)) where
    left_alike : (ran : Ran) → IsRan inputs ran → AreAlike (map_of ran.map) (as_map after)
    left_alike ran is =
        subst (λ x. AreAlike x (as_map after)) is.map_is
        (only ran.outcomes is.behind
        (subst (λ rules. IsRun rules (start_of (as_map m)) script.stats ran.outcomes is.behind) (sym (same_rules m book script plans can))
        (subst (λ x. IsRun (map rule_of book.rules) (start_of x) script.stats ran.outcomes is.behind) (sym (same_map m)) is.run))).1

    -- the map that is left has as many darts
    left_counted : (ran : Ran) → IsRan inputs ran → darts_left ran ≡ after.count
    left_counted ran is =
        let darts = (left_alike ran is).same.darts in
        let own = rows_counted ran.map.darts is.ascending in
        one_count (IsDart (as_map after)) (darts_left ran) after.count
        (own.0, record { distinct = own.1.distinct; same = λ d. (λ c. (darts d).0 ((own.1.same d).0 c), λ live. (own.1.same d).1 ((darts d).1 live)) }, own.2) (darts_counted after lawful_after)

    pub printed_within : (start middle steps : ℕ) → Bounded (λ bounds. middle ≤ start + bounds.most)
        → after.schema ≡ m.schema → steps ≤ middle + printing after.schema.dim after.count → RunsWithin inputs start steps
    printed_within start middle steps within same printed ran bounds is has =
        let first = stats_within (λ bounds. middle ≤ start + bounds.most) within ran bounds has in
        let dims = ap (λ (schema : Schema). schema.dim) same in
        let last : steps ≤ middle + printing m.schema.dim (darts_left ran) = rw (left_counted ran is) (subst (λ n. steps ≤ middle + printing n after.count) dims printed) in
        omega (arith, first, last)

    pub printed_least : (start middle steps : ℕ) → Bounded (λ bounds. start + bounds.least ≤ middle) → middle + after.count ≤ steps → RunsAtLeast inputs start steps
    printed_least start middle steps least printed ran bounds is has =
        let first = stats_within (λ bounds. start + bounds.least ≤ middle) least ran bounds has in
        let count = left_counted ran is in
        omega (arith, printed, first, count)

  -- a run that stops for want of memory prints nothing
  pub unprinted_within : (start steps : ℕ) → Bounded (λ bounds. steps ≤ start + bounds.most) → RunsWithin inputs start steps
  unprinted_within start steps within ran bounds is has = let first = stats_within (λ bounds. steps ≤ start + bounds.most) within ran bounds has in omega (arith, first)

-- ---- the files

reading_below : (s darts left sum before after : ℕ) → after ≤ before + 32 * s * (darts + 1) → after ≤ before + (sum + 64 * s * (darts + left + 1))
reading_below s darts left sum before after h =
    let low : s * (darts + 1) ≤ s * (darts + left + 1) = mul-le s (darts + 1) s (darts + left + 1) (omega arith) (omega arith) in
    let one : 32 * s * (darts + 1) ≡ 32 * (s * (darts + 1)) = mul_assoc 32 s (darts + 1) in
    let two : 64 * s * (darts + left + 1) ≡ 64 * (s * (darts + left + 1)) = mul_assoc 64 s (darts + left + 1) in
    omega (arith, h, low, one, two)

handled : (s darts left sum start read after : ℕ) → read ≤ start + 32 * s * (darts + 1) → after ≤ read + sum + 8 * s * (left + 1) → after ≤ start + (sum + 64 * s * (darts + left + 1))
handled s darts left sum start read after h k =
    let low : s * (darts + 1) ≤ s * (darts + left + 1) = mul-le s (darts + 1) s (darts + left + 1) (omega arith) (omega arith) in
    let high : s * (left + 1) ≤ s * (darts + left + 1) = mul-le s (left + 1) s (darts + left + 1) (omega arith) (omega arith) in
    let one : 32 * s * (darts + 1) ≡ 32 * (s * (darts + 1)) = mul_assoc 32 s (darts + 1) in
    let two : 64 * s * (darts + left + 1) ≡ 64 * (s * (darts + left + 1)) = mul_assoc 64 s (darts + left + 1) in
    let three : 8 * s * (left + 1) ≡ 8 * (s * (left + 1)) = mul_assoc 8 s (left + 1) in
    omega (arith, h, k, low, high, one, two, three)

-- what was loaded is what is read
pub loaded_within : (contents : Contents) (name bytes : List ℕ) (before after : ℕ) → IsHeld contents name bytes → BytesReadWithin bytes before after → ReadsWithin contents name before after
loaded_within None name bytes before after held within = tt
loaded_within (Some files) name bytes before after held within = λ other there.
    let same : Some other ≡ Some bytes = sym there.0 ∙ held in
    let bytes_same : other ≡ bytes = cc same in
    subst (λ b. BytesReadWithin b before after) (sym bytes_same) within

pub unread_within : (contents : Contents) (name : List ℕ) (before after : ℕ) → after ≡ before → ReadsWithin contents name before after
unread_within None name before after same = tt
unread_within (Some files) name before after same = λ other there version listed stands. omega (arith, same)

-- what is within each most is within the one that there is, and so for the least
module _ (files : Files) (named : RunNames) (before after : ℕ) where
  within_the_most : ((most : ℕ) → IsMost files named most → after ≤ before + most) → WithinMost files named before after
  within_the_most each inputs ran good = let found = most_made files named inputs ran good in (found.0, found.1, each found.0 found.1)

  at_the_least : ((least : ℕ) → IsLeast files named least → before + least ≤ after) → AtLeast files named before after
  at_the_least each inputs ran good = let found = least_made files named inputs ran good in (found.0, found.1, each found.0 found.1)

module _ (named : RunNames) where
  -- a run that stops before its lines takes no more than reading its map
  pub stopped_within : (contents : Contents) (before after last : ℕ) → last ≡ after → ReadsWithin contents named.map before after → IfSome contents (λ files. WithinMost files named before last)
  stopped_within None before after last same within = tt
  stopped_within (Some files) before after last same within = within_the_most files named before last each
    where
      each : (most : ℕ) → IsMost files named most → last ≤ before + most
      each _ (MostOf inputs ran bounds good budget) =
          let read = within good.the_map.0 good.the_map.1 inputs.version inputs.map good.the_map.2 in
          reading_below ((dim_of inputs + 1) * (dim_of inputs + 1)) (darts_read inputs) (darts_left ran) bounds.most before last (omega (arith, same, read))

  module _ (read : MapRead) (book : Book) (script : Script) (one two three : Type 0) (accepted : All (IsAccepted book.schema) (map rule_of book.rules)) where
    abbrev read_inputs : Inputs
    read_inputs = inputs_of read.version read.arena book script

    -- the files are those that were read
    abbrev pub AreRead : Contents → Type 0
    AreRead contents = IfSome contents (λ files. HasMap files named read_inputs × HasBook files named read_inputs × HasScript files named read_inputs)

    pub are_read : (contents : Contents) → IsFrom contents TheMap named.map IsReadMap IsBadMap one (Ok read) → IsFrom contents TheBook named.book IsReadBook IsBadBook two (Ok book)
        → IsFrom contents TheScript named.script (IsReadScript book.schema.dim (map rule_of book.rules)) (IsBadScript book.schema.dim (map rule_of book.rules)) three (Ok script) → AreRead contents
    are_read None a b c = tt
    are_read (Some files) (bytes, held, is) (text, there, book_is) script_read = ((bytes, held, is.stands), (text, book.version, there, book_is, accepted), script_read)

    pub ended_within : (contents : Contents) (start middle after : ℕ) → AreRead contents → ReadsWithin contents named.map start middle → RunsWithin read_inputs middle after → IfSome contents (λ files. WithinMost files named start after)
    ended_within None start middle after are reads runs = tt
    ended_within (Some files) start middle after (the_map, the_book, the_script) reads runs = within_the_most files named start after each
      where
        each : (most : ℕ) → IsMost files named most → after ≤ start + most
        each _ (MostOf others ran bounds good budget) =
            let same = of_read files named read.version read.arena book script the_map the_book the_script others ran good in
            let low = reads good.the_map.0 good.the_map.1 others.version others.map good.the_map.2 in
            let high : after ≤ middle + bounds.most + printing (dim_of others) (darts_left ran) = subst (λ x. RunsWithin x middle after) (sym same) runs ran bounds good.is_ran budget in
            handled ((dim_of others + 1) * (dim_of others + 1)) (darts_read others) (darts_left ran) bounds.most start middle after low high

    pub ended_least : (contents : Contents) (start middle after : ℕ) → IsLawful read.arena → AreRead contents → start + read.arena.count ≤ middle → RunsAtLeast read_inputs middle after → IfSome contents (λ files. AtLeast files named start after)
    ended_least None start middle after lawful are reads runs = tt
    ended_least (Some files) start middle after lawful (the_map, the_book, the_script) reads runs = at_the_least files named start after each
      where
        each : (least : ℕ) → IsLeast files named least → start + least ≤ after
        each _ (LeastOf others ran bounds good budget) =
            let same = of_read files named read.version read.arena book script the_map the_book the_script others ran good in
            let low = subst (λ x. RunsAtLeast x middle after) (sym same) runs ran bounds good.is_ran budget in
            let count = ap darts_read same ∙ printed_darts.darts_counted read.arena lawful in
            omega (arith, low, reads, count)

pub if_done : {A E P Q : Type 0} → (P → Q) → (result : Result A E) → IfOk result (λ _. P) → IfOk result (λ _. Q)
if_done f (Ok value) h = f h
if_done f (Err e) h = tt

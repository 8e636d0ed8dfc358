-- What is left of a run, read off what is left of any call.
use Rattle.std.proofs.Common.{◌≡◌, ◌⊎◌, ℕ, ◌+◌, ◌≤◌, List, ◌++◌, inl, inr, Option, Some, None, refl, sym, ap, subst, ◌∙◌}
use Rattle.std.proofs.lemmas.Bool.{eqb-false}
use Rattle.gm_host.specs.Store.{Contents}
use Rattle.gm_model.specs.Budgets.{Bounds}
use Rattle.gm_lines.specs.Refusing.{Role}
use Rattle.gm_tool.specs.Answer.{Files, Answer, answers}
use Rattle.gm_tool.specs.Endings.{IsStored, Whole, LoadFailed, SaveFailed}
use Rattle.gm_tool.specs.Headline.{RunsAsStated, IsWithinSize, IsKept, HeadlineHolds}
use Rattle.gm_tool.specs.Headline as stated_as
use Rattle.gm_tool.specs.MadeRuns.{IsRunStatus}
use Rattle.gm_tool.specs.Program.{IsAnswer, Usage, OfFile, OfRun, OfMigrate, OfDual, OfGrid}
use Rattle.gm_tool.specs.RunAnswer.{RunNames, AsksRun, Inputs, Ran, IsGoodRun, IsRunAnswer, IsFailing, Missing, Long, Bad, MapFails, BookFails, ScriptFails, Disagree, LongOutput, Done, run_status}
use Rattle.gm_tool.specs.StepBounds.{HasBounds, WithinMost, AtLeast, KeepsSteps, MostOf, LeastOf, handling, dim_of, darts_read, darts_left}
use Rattle.gm_tool.specs.Tool.{IsLoadFailure, Ends, Leaves, Put, PutFailed, Unput, NoMemory, LeavesWhereTold}
use Rattle.gm_tool.specs.Tool as tool
use Rattle.gm_tool.proofs.Asking.{file_is_no_run, run_is_no_dual, run_is_no_migrate, run_is_no_grid, same_named}
use Rattle.gm_tool.proofs.OneAnswer.{one_answer}
use Rattle.gm_tool.proofs.Putting.{six_is_no_run, seven_is_no_run}
use Rattle.gm_tool.proofs.RunsMade.{bounds_of, one_least, one_most, sound_of}

-- ---- statuses that no run is done with

not_done : (status k : ℕ) → (k ≡ 0 → ⊥) → (k ≡ 1 → ⊥) → status ≡ k → IsRunStatus status → ⊥
not_done status k zero one e (inl run) = zero (sym e ∙ run)
not_done status k zero one e (inr run) = one (sym e ∙ run)

three : (status : ℕ) → status ≡ 3 → IsRunStatus status → ⊥
three status = not_done status 3 (eqb-false 3 0 refl) (eqb-false 3 1 refl)

four : (status : ℕ) → status ≡ 4 → IsRunStatus status → ⊥
four status = not_done status 4 (eqb-false 4 0 refl) (eqb-false 4 1 refl)

five : (status : ℕ) → status ≡ 5 → IsRunStatus status → ⊥
five status = not_done status 5 (eqb-false 5 0 refl) (eqb-false 5 1 refl)

eight : (status : ℕ) → status ≡ 8 → IsRunStatus status → ⊥
eight status = not_done status 8 (eqb-false 8 0 refl) (eqb-false 8 1 refl)

abbrev status_of : Answer → ℕ
status_of given = given.status

failing : (files : Files) (role : Role) (name : List ℕ) (IsBadText : List ℕ → List ℕ → Type 0) (given : Answer) → IsFailing files role name IsBadText given → IsRunStatus given.status → ⊥
failing files role name IsBadText given (Missing lacks e) = three given.status (ap status_of e)
failing files role name IsBadText given (Long bytes held long e) = eight given.status (ap status_of e)
failing files role name IsBadText given (Bad bytes why held bad e) = four given.status (ap status_of e)

-- the answer for a load that failed
load_failing : (words : List (List ℕ)) (files : Files) (load_fails : ℕ → Type 0) (given : Answer) → IsLoadFailure words files load_fails given → IsRunStatus given.status → ⊥
load_failing words files load_fails given (tool.OfFile command name asks h) = three given.status (ap status_of h.1)
load_failing words files load_fails given (tool.OfRun named asks (role, fails, passes, e)) = three given.status (ap status_of e)
load_failing words files load_fails given (tool.OfMigrate named asks h) = three given.status (ap status_of h.1)
load_failing words files load_fails given (tool.OfDual named asks (role, fails, passes, e)) = three given.status (ap status_of e)

-- ---- the run

module _ (files : Files) (named : RunNames) (status : ℕ) (before written text : List ℕ) (after : Contents) (steps later : ℕ) (run : IsRunStatus status) (put : written ≡ before ++ text)
    (most : WithinMost files named steps later) (least : AtLeast files named steps later) where
  -- the most and the least that there are, are those of these bounds
  module _ (inputs : Inputs) (ran : Ran) (bounds : Bounds) (good : IsGoodRun files named inputs ran) (has : HasBounds inputs ran bounds) where
    stays_within : later ≤ steps + (bounds.most + handling (dim_of inputs) (darts_read inputs) (darts_left ran))
    stays_within = let found = most inputs ran good in subst (λ n. later ≤ steps + n) (one_most files named found.0 _ found.1 (MostOf inputs ran bounds good has)) found.2

    takes_least : steps + (bounds.least + darts_read inputs + darts_left ran) ≤ later
    takes_least = let found = least inputs ran good in subst (λ n. steps + n ≤ later) (one_least files named found.0 _ found.1 (LeastOf inputs ran bounds good has)) found.2

  stated : (given : Answer) → IsRunAnswer files named given → status ≡ given.status → text ≡ given.text → IsStored files given.saved after → RunsAsStated files named status before written after steps later
  stated given (MapFails h) s t stored = absurd (failing files _ _ _ given h (subst IsRunStatus s run))
  stated given (BookFails inputs the_map h) s t stored = absurd (failing files _ _ _ given h (subst IsRunStatus s run))
  stated given (ScriptFails inputs the_map the_book h) s t stored = absurd (failing files _ _ _ given h (subst IsRunStatus s run))
  stated given (Disagree inputs the_map the_book the_script never e) s t stored = absurd (four given.status (ap status_of e) (subst IsRunStatus s run))
  stated given (LongOutput inputs ran good long e) s t stored = absurd (eight given.status (ap status_of e) (subst IsRunStatus s run))
  stated given (Done inputs ran good fits fits_too e) s t stored =
      let has = bounds_of files named inputs ran good in
      record {
        inputs = inputs;
        ran = ran;
        good = good;
        status_is = s ∙ ap status_of e;
        report = put ∙ ap (λ x. before ++ x) (t ∙ ap (λ (a : Answer). a.text) e);
        saved = subst (λ (a : Answer). IsStored files a.saved after) e stored;
        sound = sound_of files named inputs ran good;
        bounds = has.0;
        bounds_are = has.1;
        most = stays_within inputs ran has.0 good has.1;
        least = takes_least inputs ran has.0 good has.1;
      }

  answered : (words : List (List ℕ)) → AsksRun words named → (given : Answer) → IsAnswer words files given → status ≡ given.status → text ≡ given.text → IsStored files given.saved after → RunsAsStated files named status before written after steps later
  answered words asks given (Usage none e) s t stored = absurd (none (inr (inl (inl (named, asks)))))
  answered words asks given (OfFile command name other h) s t stored = absurd (file_is_no_run words command name named other asks)
  answered words asks given (OfRun other runs h) s t stored = stated given (subst (λ (n : RunNames). IsRunAnswer files n given) (same_named words other named runs asks) h) s t stored
  answered words asks given (OfMigrate other migrates h) s t stored = absurd (run_is_no_migrate words named other asks migrates)
  answered words asks given (OfDual other duals h) s t stored = absurd (run_is_no_dual words named other asks duals)
  answered words asks given (OfGrid m grid h) s t stored = absurd (run_is_no_grid words named m asks grid)

  pub ended : (words : List (List ℕ)) → AsksRun words named → (load_fails : ℕ → Type 0) (save_fails : Type 0) → Ends words files load_fails save_fails status text after → RunsAsStated files named status before written after steps later
  ended words asks load_fails save_fails (Whole given is s t stored) = answered words asks given is s t stored
  ended words asks load_fails save_fails (LoadFailed h same) = absurd (load_failing words files load_fails _ h run)
  ended words asks load_fails save_fails (SaveFailed fails given saved is e s t kept) = absurd (five status s run)

-- ---- every good run

module _ (words : List (List ℕ)) (files : Files) (named : RunNames) (asks : AsksRun words named) (load_fails : ℕ → Type 0) (fails save_fails put_fails : Type 0) (rises : (k : ℕ) → load_fails k → fails)
    (inputs : Inputs) (ran : Ran) (good : IsGoodRun files named inputs ran) (fits : IsWithinSize inputs ran) where
  abbrev Keeps : ℕ → Type 0
  Keeps status = (status ≡ run_status ran.outcomes) ⊎ IsKept fails save_fails put_fails status

  unloaded : (status : ℕ) (text : List ℕ) → IsLoadFailure words files load_fails (answers status text) → Keeps status
  unloaded status text (tool.OfFile command name other h) = inr (stated_as.LoadFailed (rises 1 h.0) (ap status_of h.1))
  unloaded status text (tool.OfRun other runs (role, failed, passes, e)) = inr (stated_as.LoadFailed (rises _ failed) (ap status_of e))
  unloaded status text (tool.OfMigrate other migrates h) = inr (stated_as.LoadFailed (rises 1 h.0) (ap status_of h.1))
  unloaded status text (tool.OfDual other duals (role, failed, passes, e)) = inr (stated_as.LoadFailed (rises _ failed) (ap status_of e))

  ends_so : (status : ℕ) (text : List ℕ) (after : Contents) → Ends words files load_fails save_fails status text after → Keeps status
  ends_so status text after (Whole given is s t stored) = inl (s ∙ ap status_of (one_answer words files given _ is (OfRun named asks (Done inputs ran good fits.0 fits.1 refl))))
  ends_so status text after (LoadFailed h same) = unloaded status text h
  ends_so status text after (SaveFailed failed given saved is e s t kept) = inr (stated_as.SaveFailed failed s)

  pub every_run : (before written : List ℕ) (status : ℕ) (after : Contents) → Leaves words files load_fails save_fails put_fails before status written after → Keeps status
  every_run before written status after (Put text ends e) = ends_so status text after ends
  every_run before written status after (PutFailed failed given text kept ends e same) = inr (stated_as.PutFailed failed e)
  every_run before written status after (Unput given text ends e same) = inr (stated_as.NoMemory e)
  every_run before written status after (NoMemory e same held) = inr (stated_as.NoMemory e)

pub headline : (words : List (List ℕ)) (contents after : Contents) (load_fails : ℕ → Type 0) (fails save_fails put_fails : Type 0) (before written : Option (List ℕ)) (status steps later : ℕ)
    → LeavesWhereTold words contents after load_fails save_fails put_fails before status written → ((k : ℕ) → load_fails k → fails) → KeepsSteps words contents status steps later
    → HeadlineHolds words contents after fails save_fails put_fails before status written steps later
headline words None after load_fails fails save_fails put_fails before written status steps later left rises keeps = tt
headline words (Some files) after load_fails fails save_fails put_fails None written status steps later left rises keeps = tt
headline words (Some files) after load_fails fails save_fails put_fails (Some before) written status steps later (put, is, left) rises keeps = λ named asks. record {
  every = λ inputs ran good fits. every_run words files named asks load_fails fails save_fails put_fails rises inputs ran good fits before put status after left;
  done = λ run. (put, is, of named asks run left);
}
  where
    of : (named : RunNames) → AsksRun words named → IsRunStatus status → Leaves words files load_fails save_fails put_fails before status put after → RunsAsStated files named status before put after steps later
    of named asks run (Put text ends e) = ended files named status before put text after steps later run e (keeps.most named asks) (keeps.least named asks run) words asks load_fails save_fails ends
    of named asks run (PutFailed failed given text kept ends e same) = absurd (six_is_no_run (subst IsRunStatus e run))
    of named asks run (Unput given text ends e same) = absurd (seven_is_no_run (subst IsRunStatus e run))
    of named asks run (NoMemory e same held) = absurd (seven_is_no_run (subst IsRunStatus e run))

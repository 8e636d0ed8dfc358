-- What the end of a call says of the words, the loads and the save, command by command; and what a put makes of it.
use Rattle.std.proofs.Common.{◌≡◌, ◌⊎◌, ◌∷◌, ◌++◌, [], ℕ, List, inl, inr, Option, Result, refl, sym, subst}
use Rattle.std.proofs.lemmas.Bool.{eqb-false}
use Rattle.std.specs.Prelude.{IfOk, IfSome}
use Rattle.gm_host.specs.Count.{counted, Rises}
use Rattle.gm_host.specs.Store.{Contents, Lacks}
use Rattle.gm_tool.specs.Answer as answer
use Rattle.gm_tool.specs.Answer.{Asks}
use Rattle.gm_tool.specs.DualAnswer.{DualNames, AsksDual, DualLoadsInOrder, IsDualUnloaded, DualStopsInTime}
use Rattle.gm_tool.specs.Endings.{status_given}
use Rattle.gm_tool.specs.GridAnswer.{AsksGrid, IsGridReply}
use Rattle.gm_tool.specs.Loads.{FailsAt, LoadsInOrder, IsUnloaded, CountsSaves, StopsInTime, UnlessNoMemory}
use Rattle.gm_tool.specs.MadeRuns.{IsSoundReply, HoldsMap, IsRunStatus}
use Rattle.gm_tool.specs.Migrating.{MigrateNames, AsksMigrate}
use Rattle.gm_tool.specs.OwnFiles.{LoadsFirst, NoFile, OfFile, OfMigrate, OfDual, OfRun, dual_files, run_files}
use Rattle.gm_tool.specs.inner.Replies.{IsPlainStatus}
use Rattle.gm_tool.specs.Program.{IsCommand, IsSavingCommand}
use Rattle.gm_tool.specs.RunAnswer.{RunNames, AsksRun}
use Rattle.gm_tool.specs.Seen.{Seen}
use Rattle.gm_tool.specs.StepBounds.{WithinMost, AtLeast, TakesLeast, FileShowsWithin, FileDualsWithin, WithinGridMost, AtLeastOfGrid, GridTakesLeast, KeepsSteps}
use Rattle.gm_tool.specs.Tool.{IsPut, IsReplyStatus, EndsAs, ForFile, ForRun, ForMigrate, ForDual}
use Rattle.gm_tool.specs.declared.refusal.NoText.{NoText}
use Rattle.gm_tool.specs.declared.reply.Reply.{Reply}
use Rattle.gm_tool.proofs.Asking.{file_is_no_run, file_is_no_migrate, file_is_no_dual, file_is_no_grid, run_is_no_migrate, run_is_no_dual, run_is_no_grid, migrate_is_no_dual, migrate_is_no_grid, dual_is_no_grid, grid_reads_none, grid_reads_no_one, reads_some, run_reads_no_one, dual_reads_no_one, same_named, same_dual, sound_no_usage, file_refused, plain_refused, plain_status, run_holds, migrate_holds, none_holds, grid_status, grid_refused, grid_is_sound}
use Rattle.gm_tool.proofs.LoadCounts.{counts_of, no_counts, dual_counts_of, no_dual_counts}
use Rattle.gm_tool.proofs.Duals.{twice_at_most}
use Rattle.gm_tool.proofs.OwnFiles.{none_of, first_of}
use Rattle.gm_tool.proofs.Putting.{given_is, given_one, given_two, given_three, given_five, given_run, given_done, given_least, unless_seven, six, seven, six_is_no_run, seven_is_no_run, run_put}
use Rattle.gm_tool.proofs.RunStops.{thrice_at_most}
use Rattle.gm_tool.proofs.SaveCounts.{six_saves_none, seven_saves_none, six_is_unsaved, seven_is_unsaved}
use Rattle.gm_tool.proofs.StepWords.{within_of, least_of, within_none, least_none, file_shown, none_shown, migrated_within, none_migrated, dual_within, none_dual, grid_within, none_gridded, grid_least, no_grid_least, least_put, least_refused, grid_least_put}

-- ---- a command that saves nothing

saves_none : (words : List (List ℕ)) → (IsSavingCommand words → ⊥) → (status before after : ℕ) → IsSavingCommand words → CountsSaves status before after
saves_none words none status before after saving = absurd (none saving)

module _ (words : List (List ℕ)) (command : answer.Command) (name : List ℕ) (asks : Asks words command name) where
  file_saves_none : IsSavingCommand words → ⊥
  file_saves_none (inl (named, runs)) = file_is_no_run words command name named asks runs
  file_saves_none (inr (named, migrates)) = file_is_no_migrate words command name named asks migrates

  pub file_ends : (before after : Seen) (reply : Result Reply NoText) → IfOk reply (λ r. IsReplyStatus r.status) → IfOk reply (λ r. r.status ≡ 1 → command ≡ answer.Check)
      → IsSoundReply reply (λ _. FailsAt before.load_faults after.load_faults before.loads after.loads 1 ⊎ Lacks before.holds name) (Rises before.save_faults after.save_faults)
      → after.holds ≡ before.holds → after.saves ≡ before.saves → after.save_faults ≡ before.save_faults → after.loads ≡ counted before.loads → after.loaded ≡ before.loaded ++ name ∷ []
      → EndsAs words before after (status_given reply)
  file_ends before after reply statuses check sound held no_save no_fault once own = record {
    statuses = given_is reply statuses;
    usage = λ two. absurd (sound_no_usage reply _ _ sound (given_two reply statuses two));
    no_command = λ none. absurd (none (inl (command, name, asks)));
    refused = given_one _ reply (file_refused words command name _ asks reply check);
    own_files = (name ∷ [], OfFile command name asks refl, first_of name [] before.loaded after.loaded own);
    loads = inr (inl once);
    no_load = λ none. absurd (reads_some words (inl (command, name, asks)) none);
    one_load = λ _. once;
    loads_in_order = λ named runs. absurd (file_is_no_run words command name named asks runs);
    dual_loads_in_order = λ named duals. absurd (file_is_no_dual words command name named asks duals);
    counted_loads = λ _. no_counts words _ _ _ (λ named runs. file_is_no_run words command name named asks runs) before.holds;
    counted_dual_loads = λ _. no_dual_counts words _ _ _ (λ named duals. file_is_no_dual words command name named asks duals) before.holds;
    load_failed = λ three. ForFile command name asks (given_three reply _ _ statuses sound three).1;
    held = λ _. held;
    no_save_fault = λ _. no_fault;
    no_save = λ _. no_save;
    one_save = inl no_save;
    saves = saves_none words file_saves_none (status_given reply) before.saves after.saves;
    save_failed = given_five reply _ _ statuses sound;
    no_save_failed = λ _. no_fault;
    stands = λ _. none_holds _ words after.holds file_saves_none;
  }

  pub file_steps : (contents : Contents) (status before after : ℕ) → (command ≡ answer.Show → FileShowsWithin contents name before after) → KeepsSteps words contents status before after
  file_steps contents status before after shown = record {
    most = within_none words (λ named runs. file_is_no_run words command name named asks runs) before after contents;
    least = least_none words (λ named runs. file_is_no_run words command name named asks runs) before after contents status;
    show_most = file_shown words contents command name before after asks shown;
    migrate_most = none_migrated words contents before after (λ named migrates. file_is_no_migrate words command name named asks migrates);
    dual_most = none_dual words contents before after (λ named duals. file_is_no_dual words command name named asks duals);
    grid_most = none_gridded words before after (λ m grid. file_is_no_grid words command name m asks grid);
    grid_least = no_grid_least words status before after (λ m grid. file_is_no_grid words command name m asks grid);
  }

-- ---- a grid, which has no store to do with

module _ (words : List (List ℕ)) (m : ℕ) (asks : AsksGrid words m) where
  grid_saves_none : IsSavingCommand words → ⊥
  grid_saves_none saving = grid_reads_none words m asks (inr (inl saving))

  pub grid_ends : (before : Seen) (reply : Result Reply NoText) → IsGridReply m reply → EndsAs words before before (status_given reply)
  grid_ends before reply is = record {
    statuses = given_is reply (grid_status m reply is);
    usage = λ two. absurd (sound_no_usage reply (λ _. ⊥) ⊥ (grid_is_sound m _ _ reply is) (given_two reply (grid_status m reply is) two));
    no_command = λ none. absurd (none (inr (inr (inr (m, asks)))));
    refused = given_one _ reply (grid_refused m _ reply is);
    own_files = ([], NoFile (inr (m, asks)) refl, none_of before.loaded);
    loads = inl refl;
    no_load = λ _. refl;
    one_load = λ one. absurd (grid_reads_no_one words m asks one);
    loads_in_order = λ named runs. absurd (run_is_no_grid words named m runs asks);
    dual_loads_in_order = λ named duals. absurd (dual_is_no_grid words named m duals asks);
    counted_loads = λ _. no_counts words _ _ _ (λ named runs. run_is_no_grid words named m runs asks) before.holds;
    counted_dual_loads = λ _. no_dual_counts words _ _ _ (λ named duals. dual_is_no_grid words named m duals asks) before.holds;
    load_failed = λ three. absurd (given_three reply (λ _. ⊥) ⊥ (grid_status m reply is) (grid_is_sound m _ _ reply is) three).1;
    held = λ _. refl;
    no_save_fault = λ _. refl;
    no_save = λ _. refl;
    one_save = inl refl;
    saves = saves_none words grid_saves_none (status_given reply) before.saves before.saves;
    save_failed = λ five. absurd (given_five reply (λ _. ⊥) ⊥ (grid_status m reply is) (grid_is_sound m _ _ reply is) five);
    no_save_failed = λ _. refl;
    stands = λ _. none_holds _ words before.holds grid_saves_none;
  }

  pub grid_steps : (contents : Contents) (reply : Result Reply NoText) (before after : ℕ) → WithinGridMost m before after → IfOk reply (λ _. AtLeastOfGrid m before after) → KeepsSteps words contents (status_given reply) before after
  grid_steps contents reply before after most least = record {
    most = within_none words (λ named runs. run_is_no_grid words named m runs asks) before after contents;
    least = least_none words (λ named runs. run_is_no_grid words named m runs asks) before after contents (status_given reply);
    show_most = none_shown words contents before after (λ command name shows. file_is_no_grid words command name m shows asks);
    migrate_most = none_migrated words contents before after (λ named migrates. migrate_is_no_grid words named m migrates asks);
    dual_most = none_dual words contents before after (λ named duals. dual_is_no_grid words named m duals asks);
    grid_most = grid_within words m before after asks most;
    grid_least = given_least (λ status. GridTakesLeast words status before after) (λ status none other asks_too run. absurd (none run)) reply (grid_least words m before after asks reply least);
  }

-- ---- words that are no command

module _ (words : List (List ℕ)) (none : IsCommand words → ⊥) where
  pub usage_ends : (before : Seen) → EndsAs words before before 2
  usage_ends before = record {
    statuses = inr (inl refl);
    usage = λ _. none;
    no_command = λ _. inl refl;
    refused = λ e. absurd (eqb-false 2 1 refl e);
    own_files = ([], NoFile (inl none) refl, none_of before.loaded);
    loads = inl refl;
    no_load = λ _. refl;
    one_load = λ one. absurd (elim one [ inl file ↦ none (inl file) | inr migrate ↦ none (inr (inl (inr migrate))) ]);
    loads_in_order = λ named runs. absurd (none (inr (inl (inl (named, runs)))));
    dual_loads_in_order = λ named duals. absurd (none (inr (inr (inl (named, duals)))));
    counted_loads = λ _. no_counts words _ _ _ (λ named runs. none (inr (inl (inl (named, runs))))) before.holds;
    counted_dual_loads = λ _. no_dual_counts words _ _ _ (λ named duals. none (inr (inr (inl (named, duals))))) before.holds;
    load_failed = λ e. absurd (eqb-false 2 3 refl e);
    held = λ _. refl;
    no_save_fault = λ _. refl;
    no_save = λ _. refl;
    one_save = inl refl;
    saves = saves_none words (λ saving. none (inr (inl saving))) 2 before.saves before.saves;
    save_failed = λ e. absurd (eqb-false 2 5 refl e);
    no_save_failed = λ _. refl;
    stands = λ _. none_holds _ words before.holds (λ saving. none (inr (inl saving)));
  }

  pub usage_steps : (contents : Contents) (status steps : ℕ) → KeepsSteps words contents status steps steps
  usage_steps contents status steps = record {
    most = within_none words (λ named runs. none (inr (inl (inl (named, runs))))) steps steps contents;
    least = least_none words (λ named runs. none (inr (inl (inl (named, runs))))) steps steps contents status;
    show_most = none_shown words contents steps steps (λ command name asks. none (inl (command, name, asks)));
    migrate_most = none_migrated words contents steps steps (λ named migrates. none (inr (inl (inr (named, migrates)))));
    dual_most = none_dual words contents steps steps (λ named duals. none (inr (inr (inl (named, duals)))));
    grid_most = none_gridded words steps steps (λ m grid. none (inr (inr (inr (m, grid)))));
    grid_least = no_grid_least words status steps steps (λ m grid. none (inr (inr (inr (m, grid)))));
  }

-- ---- a run

module _ (words : List (List ℕ)) (named : RunNames) (asks : AsksRun words named) where
  pub run_ends : (before after : Seen) (reply : Result Reply NoText) → IfOk reply (λ r. IsReplyStatus r.status)
      → IsSoundReply reply (IsUnloaded before.holds named (FailsAt before.load_faults after.load_faults before.loads after.loads)) (Rises before.save_faults after.save_faults)
      → LoadsInOrder before.holds named before.loads after.loads → LoadsFirst (run_files named) before.loaded after.loaded
      → IfSome before.holds (λ files. UnlessNoMemory reply (StopsInTime files named (Rises before.load_faults after.load_faults) before.loads after.loads))
      → CountsSaves (status_given reply) before.saves after.saves → IfOk reply (λ _. after.save_faults ≡ before.save_faults) → IfOk reply (λ r. IsRunStatus r.status → HoldsMap after.holds named.out)
      → EndsAs words before after (status_given reply)
  run_ends before after reply statuses sound in_order own stops saves no_fault holds = record {
    statuses = given_is reply statuses;
    usage = λ two. absurd (sound_no_usage reply _ _ sound (given_two reply statuses two));
    no_command = λ none. absurd (none (inr (inl (inl (named, asks)))));
    refused = λ _. inr (named, asks);
    own_files = (run_files named, OfRun named asks refl, own);
    loads = thrice_at_most before.holds named before.loads after.loads in_order;
    no_load = λ none. absurd (reads_some words (inr (inl (inl (named, asks)))) none);
    one_load = λ one. absurd (run_reads_no_one words named asks one);
    loads_in_order = λ other runs. subst (λ n. LoadsInOrder before.holds n before.loads after.loads) (same_named words named other asks runs) in_order;
    dual_loads_in_order = λ other duals. absurd (run_is_no_dual words named other asks duals);
    counted_loads = unless_seven _ reply (counts_of words (Rises before.load_faults after.load_faults) before.loads after.loads named asks before.holds reply stops);
    counted_dual_loads = λ _. no_dual_counts words _ _ _ (λ other duals. run_is_no_dual words named other asks duals) before.holds;
    load_failed = λ three. let why = given_three reply _ _ statuses sound three in ForRun named asks why.0 why.1;
    held = λ none. absurd (none (inl (named, asks)));
    no_save_fault = λ none. absurd (none (inl (named, asks)));
    no_save = λ none. absurd (none (inl (named, asks)));
    one_save = saves.one_at_most;
    saves = λ _. saves;
    save_failed = given_five reply _ _ statuses sound;
    no_save_failed = given_done _ reply no_fault;
    stands = λ run. run_holds words named after.holds asks (given_run _ reply holds run);
  }

  pub run_steps : (contents : Contents) (reply : Result Reply NoText) (before after : ℕ) → IfSome contents (λ files. WithinMost files named before after)
      → IfOk reply (λ r. IfSome contents (λ files. IsRunStatus r.status → AtLeast files named before after)) → KeepsSteps words contents (status_given reply) before after
  run_steps contents reply before after most least = record {
    most = within_of words named asks before after contents most;
    least = given_least (λ status. TakesLeast words contents status before after) (λ status none. least_refused words contents status before after none) reply (least_of words named asks before after contents reply least);
    show_most = none_shown words contents before after (λ command name shows. file_is_no_run words command name named shows asks);
    migrate_most = none_migrated words contents before after (λ other migrates. run_is_no_migrate words named other asks migrates);
    dual_most = none_dual words contents before after (λ other duals. run_is_no_dual words named other asks duals);
    grid_most = none_gridded words before after (λ m grid. run_is_no_grid words named m asks grid);
    grid_least = no_grid_least words (status_given reply) before after (λ m grid. run_is_no_grid words named m asks grid);
  }

-- ---- a migration

module _ (words : List (List ℕ)) (named : MigrateNames) (asks : AsksMigrate words named) where
  pub migrate_ends : (before after : Seen) (reply : Result Reply NoText) → IfOk reply (λ r. IsPlainStatus r.status)
      → IsSoundReply reply (λ _. FailsAt before.load_faults after.load_faults before.loads after.loads 1 ⊎ Lacks before.holds named.map) (Rises before.save_faults after.save_faults)
      → after.loads ≡ counted before.loads → after.loaded ≡ before.loaded ++ named.map ∷ []
      → CountsSaves (status_given reply) before.saves after.saves → IfOk reply (λ _. after.save_faults ≡ before.save_faults) → IfOk reply (λ r. IsRunStatus r.status → HoldsMap after.holds named.out)
      → EndsAs words before after (status_given reply)
  migrate_ends before after reply statuses sound once own saves no_fault holds = record {
    statuses = given_is reply (plain_status reply statuses);
    usage = λ two. absurd (sound_no_usage reply _ _ sound (given_two reply (plain_status reply statuses) two));
    no_command = λ none. absurd (none (inr (inl (inr (named, asks)))));
    own_files = (named.map ∷ [], OfMigrate named asks refl, first_of named.map [] before.loaded after.loaded own);
    refused = given_one _ reply (plain_refused _ reply statuses);
    loads = inr (inl once);
    no_load = λ none. absurd (reads_some words (inr (inl (inr (named, asks)))) none);
    one_load = λ _. once;
    loads_in_order = λ other runs. absurd (run_is_no_migrate words other named runs asks);
    dual_loads_in_order = λ other duals. absurd (migrate_is_no_dual words named other asks duals);
    counted_loads = λ _. no_counts words _ _ _ (λ other runs. run_is_no_migrate words other named runs asks) before.holds;
    counted_dual_loads = λ _. no_dual_counts words _ _ _ (λ other duals. migrate_is_no_dual words named other asks duals) before.holds;
    load_failed = λ three. ForMigrate named asks (given_three reply _ _ (plain_status reply statuses) sound three).1;
    held = λ none. absurd (none (inr (named, asks)));
    no_save_fault = λ none. absurd (none (inr (named, asks)));
    no_save = λ none. absurd (none (inr (named, asks)));
    one_save = saves.one_at_most;
    saves = λ _. saves;
    save_failed = given_five reply _ _ (plain_status reply statuses) sound;
    no_save_failed = given_done _ reply no_fault;
    stands = λ run. migrate_holds words named after.holds asks (given_run _ reply holds run);
  }

  pub migrate_steps : (contents : Contents) (status before after : ℕ) → FileShowsWithin contents named.map before after → KeepsSteps words contents status before after
  migrate_steps contents status before after most = record {
    most = within_none words (λ other runs. run_is_no_migrate words other named runs asks) before after contents;
    least = least_none words (λ other runs. run_is_no_migrate words other named runs asks) before after contents status;
    show_most = none_shown words contents before after (λ command name shows. file_is_no_migrate words command name named shows asks);
    migrate_most = migrated_within words named contents before after asks most;
    dual_most = none_dual words contents before after (λ other duals. migrate_is_no_dual words named other asks duals);
    grid_most = none_gridded words before after (λ m grid. migrate_is_no_grid words named m asks grid);
    grid_least = no_grid_least words status before after (λ m grid. migrate_is_no_grid words named m asks grid);
  }

-- ---- the duals of a map and a book

module _ (words : List (List ℕ)) (named : DualNames) (asks : AsksDual words named) where
  dual_saves_none : IsSavingCommand words → ⊥
  dual_saves_none (inl (other, runs)) = run_is_no_dual words other named runs asks
  dual_saves_none (inr (other, migrates)) = migrate_is_no_dual words other named migrates asks

  pub dual_ends : (before after : Seen) (reply : Result Reply NoText) → IfOk reply (λ r. IsPlainStatus r.status)
      → IsSoundReply reply (IsDualUnloaded before.holds named (FailsAt before.load_faults after.load_faults before.loads after.loads)) (Rises before.save_faults after.save_faults)
      → after.holds ≡ before.holds → after.saves ≡ before.saves → after.save_faults ≡ before.save_faults → DualLoadsInOrder before.holds named before.loads after.loads
      → LoadsFirst (dual_files named) before.loaded after.loaded
      → IfSome before.holds (λ files. UnlessNoMemory reply (DualStopsInTime files named (Rises before.load_faults after.load_faults) before.loads after.loads))
      → EndsAs words before after (status_given reply)
  dual_ends before after reply statuses sound held no_save no_fault in_order own stops = record {
    statuses = given_is reply (plain_status reply statuses);
    usage = λ two. absurd (sound_no_usage reply _ _ sound (given_two reply (plain_status reply statuses) two));
    no_command = λ none. absurd (none (inr (inr (inl (named, asks)))));
    own_files = (dual_files named, OfDual named asks refl, own);
    refused = given_one _ reply (plain_refused _ reply statuses);
    loads = twice_at_most before.holds named before.loads after.loads in_order;
    no_load = λ none. absurd (reads_some words (inr (inr (named, asks))) none);
    one_load = λ one. absurd (dual_reads_no_one words named asks one);
    loads_in_order = λ other runs. absurd (run_is_no_dual words other named runs asks);
    dual_loads_in_order = λ other duals. subst (λ n. DualLoadsInOrder before.holds n before.loads after.loads) (same_dual words named other asks duals) in_order;
    counted_loads = λ _. no_counts words _ _ _ (λ other runs. run_is_no_dual words other named runs asks) before.holds;
    counted_dual_loads = unless_seven _ reply (dual_counts_of words (Rises before.load_faults after.load_faults) before.loads after.loads named asks before.holds reply stops);
    load_failed = λ three. let why = given_three reply _ _ (plain_status reply statuses) sound three in ForDual named asks why.0 why.1;
    held = λ _. held;
    no_save_fault = λ _. no_fault;
    no_save = λ _. no_save;
    one_save = inl no_save;
    saves = saves_none words dual_saves_none (status_given reply) before.saves after.saves;
    save_failed = given_five reply _ _ (plain_status reply statuses) sound;
    no_save_failed = λ _. no_fault;
    stands = λ _. none_holds _ words after.holds dual_saves_none;
  }

  pub dual_steps : (contents : Contents) (status before after : ℕ) → FileDualsWithin contents named.map before after → KeepsSteps words contents status before after
  dual_steps contents status before after most = record {
    most = within_none words (λ other runs. run_is_no_dual words other named runs asks) before after contents;
    least = least_none words (λ other runs. run_is_no_dual words other named runs asks) before after contents status;
    show_most = none_shown words contents before after (λ command name shows. file_is_no_dual words command name named shows asks);
    migrate_most = none_migrated words contents before after (λ other migrates. migrate_is_no_dual words other named migrates asks);
    dual_most = dual_within words named contents before after asks most;
    grid_most = none_gridded words before after (λ m grid. dual_is_no_grid words named m asks grid);
    grid_least = no_grid_least words status before after (λ m grid. dual_is_no_grid words named m asks grid);
  }

-- ---- the put

module _ (words : List (List ℕ)) (before after : Seen) (given : ℕ) (ends : EndsAs words before after given) (not_seven : given ≡ 7 → ⊥) where
  -- a put that failed leaves all but the status
  failed : EndsAs words before after 6
  failed = record {
    statuses = six;
    usage = λ e. absurd (eqb-false 6 2 refl e);
    no_command = λ _. inr (inl refl);
    refused = λ e. absurd (eqb-false 6 1 refl e);
    own_files = ends.own_files;
    loads = ends.loads;
    no_load = ends.no_load;
    one_load = ends.one_load;
    loads_in_order = ends.loads_in_order;
    dual_loads_in_order = ends.dual_loads_in_order;
    counted_loads = λ _. ends.counted_loads not_seven;
    counted_dual_loads = λ _. ends.counted_dual_loads not_seven;
    load_failed = λ e. absurd (eqb-false 6 3 refl e);
    held = ends.held;
    no_save_fault = ends.no_save_fault;
    no_save = ends.no_save;
    one_save = ends.one_save;
    saves = λ _. record { one_at_most = ends.one_save; one = λ is. absurd (six_saves_none is); none = λ is. absurd (six_is_unsaved is) };
    save_failed = λ e. absurd (eqb-false 6 5 refl e);
    no_save_failed = λ run. absurd (six_is_no_run run);
    stands = λ run. absurd (six_is_no_run run);
  }

  -- and so does one for which memory was wanting
  unmade : EndsAs words before after 7
  unmade = record {
    statuses = seven;
    usage = λ e. absurd (eqb-false 7 2 refl e);
    no_command = λ _. inr (inr refl);
    refused = λ e. absurd (eqb-false 7 1 refl e);
    own_files = ends.own_files;
    loads = ends.loads;
    no_load = ends.no_load;
    one_load = ends.one_load;
    loads_in_order = ends.loads_in_order;
    dual_loads_in_order = ends.dual_loads_in_order;
    counted_loads = λ not. absurd (not refl);
    counted_dual_loads = λ not. absurd (not refl);
    load_failed = λ e. absurd (eqb-false 7 3 refl e);
    held = ends.held;
    no_save_fault = ends.no_save_fault;
    no_save = ends.no_save;
    one_save = ends.one_save;
    saves = λ _. record { one_at_most = ends.one_save; one = λ is. absurd (seven_saves_none is); none = λ is. absurd (seven_is_unsaved is) };
    save_failed = λ e. absurd (eqb-false 7 5 refl e);
    no_save_failed = λ run. absurd (seven_is_no_run run);
    stands = λ run. absurd (seven_is_no_run run);
  }

  pub put_ends : (written later : Option (List ℕ)) (fails : Type 0) (bytes : List ℕ) (status : ℕ) → IsPut written later fails bytes given status → EndsAs words before after status
  put_ends written later fails bytes status (inl put) = subst (EndsAs words before after) (sym put.0) ends
  put_ends written later fails bytes status (inr (inl put)) = subst (EndsAs words before after) (sym put.0) failed
  put_ends written later fails bytes status (inr (inr put)) = subst (EndsAs words before after) (sym put.0) unmade

pub put_steps : (words : List (List ℕ)) (contents : Contents) (given steps later : ℕ) → KeepsSteps words contents given steps later
    → (before after : Option (List ℕ)) (fails : Type 0) (bytes : List ℕ) (status : ℕ) → IsPut before after fails bytes given status → KeepsSteps words contents status steps later
put_steps words contents given steps later keeps before after fails bytes status put = record {
  most = keeps.most;
  least = least_put words contents given status steps later (run_put before after fails bytes status given put) keeps.least;
  show_most = keeps.show_most;
  migrate_most = keeps.migrate_most;
  dual_most = keeps.dual_most;
  grid_most = keeps.grid_most;
  grid_least = grid_least_put words given status steps later (run_put before after fails bytes status given put) keeps.grid_least;
}

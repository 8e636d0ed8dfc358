use Rattle.std.proofs.Common.{Err, inl, inr, rules, refl, map, ap, ◌∙◌}
use Rattle.std.proofs.lemmas.Result.{err_from_is_err_and}
use Rattle.gm_host.specs.Count.{counted, Rises}
use Rattle.gm_model.specs.Rules.{rule_of}
use Rattle.gm_lines.specs.Refusing.{TheBook, TheScript}
use Rattle.gm_tool.specs.Loads.{FailsAt}
use Rattle.gm_tool.specs.MadeRuns.{names_of}
use Rattle.gm_tool.specs.RunAnswer.{IsFirstRefused}
use Rattle.gm_tool.specs.declared.refusal.NoText.TheVariants as nothing
use Rattle.gm_tool.specs.declared.refusal.Refusal.TheVariants as refusals
use Rattle.gm_tool.specs.declared.refusal.Stop.TheVariants as stops
use Rattle.gm_tool.proofs.Agreeing.{can_run}
use Rattle.gm_tool.proofs.Lines.{run_is_sound, run_is_done}
use Rattle.gm_tool.proofs.LoadCounts.{behind_rules, behind_script}
use Rattle.gm_tool.proofs.ReadBooks.{checkable_rules}
use Rattle.gm_tool.proofs.RunStops.{rises_later, passes_book, passes_script, unloaded, at_rules, at_script, at_agreement, at_end}
use Rattle.gm_tool.proofs.StepBounds.{stopped_within, are_read, ended_within, ended_least, if_done}
use Rattle.gm_tool.proofs.Stopping.{sound_to, bad_is_sound}
use Rattle.gm_tool.proofs.running.prepared_behind.Goals as goal

pub plans_of-requires : goal.plans_of-requires
plans_of-requires g c = checkable_rules c.requires.book.0 c.args.book.now c.requires.book.1 c.requires.declared

pub load_script-requires : goal.load_script-requires
load_script-requires g c = c.requires.book

pub applied-requires : goal.applied-requires
applied-requires g c =
    can_run c.args.loaded.map c.args.book.now c.in_ok-script.script c.as_slice.result.now c.requires.read c.requires.book c.in_ok-script.ensures.read (rw c.as_slice.ensures.value c.in_ok-plans.ensures.plans)
    (search rules)

-- ---- a rule isn't accepted

pub returns-in_err-plans : goal.returns-in_err-plans
returns-in_err-plans g c =
    let p = err_from_is_err_and c.from_residual.result c.from_residual.ensures.1 in
    record {
      held = search rules;
      no_save = search rules;
      no_save_fault = search rules;
      script = inl refl;
      in_order = λ start begun. (TheBook, passes_book (g.S.Store.holds c.args.store.now) (names_of c.args.files) c.args.loaded.map (Unit {0}) begun.the_map, begun.twice);
      counted_loads = λ start begun. rw (p.1, p.2) (behind_rules (names_of c.args.files) (Rises start.faults (g.S.Store.load_faults c.args.store.now)) start.loads (g.S.Store.loads c.args.store.now) (g.S.Store.holds c.args.store.now) c.args.loaded.map c.args.book.now (Unit {0}) (Unit {0}) c.in_err-plans.field-0.0 begun.twice begun.the_map begun.the_book c.in_err-plans.ensures.stop);
      made = λ start begun. rw (p.1, p.2) (at_rules (names_of c.args.files) (FailsAt start.faults (g.S.Store.load_faults c.args.store.now) start.loads (g.S.Store.loads c.args.store.now)) (g.S.Store.holds c.args.store.now) c.args.loaded.map c.args.book.now (Unit {0}) (Unit {0}) c.in_err-plans.field-0.0 begun.the_map begun.the_book c.in_err-plans.ensures.stop);
      map = rw (err_from_is_err_and c.from_residual.result c.from_residual.ensures.1).1 tt;
      status = rw (err_from_is_err_and c.from_residual.result c.from_residual.ensures.1).1 tt;
      most = λ start begun. stopped_within (names_of c.args.files) (g.S.Store.holds c.args.store.now) _ _ _ refl begun.most;
      least = λ start begun. rw (err_from_is_err_and c.from_residual.result c.from_residual.ensures.1).1 tt;
      sound = λ start begun. rw (p.1, p.2) (bad_is_sound TheBook (IsFirstRefused c.args.book.now.schema (map rule_of c.args.book.now.rules)) _ c.in_err-plans.field-0.0 c.in_err-plans.ensures.stop);
    }

-- ---- the script fails

pub returns-in_err-script : goal.returns-in_err-script
returns-in_err-script g c =
    let p = err_from_is_err_and c.from_residual-in_err-script.result c.from_residual-in_err-script.ensures.1 in
    record {
      held = search rules;
      no_save = search rules;
      no_save_fault = search rules;
      script = inr c.load_script.ensures.named;
      in_order = λ start begun. (TheScript, passes_script (g.S.Store.holds c.args.store.now) (names_of c.args.files) c.args.loaded.map c.args.book.now (Unit {0}) (Unit {0}) begun.the_map begun.the_book c.in_ok-plans.ensures.accepted, c.load_script.ensures.once ∙ ap counted begun.twice);
      counted_loads = λ start begun. rw (p.1, p.2)
          (behind_script (names_of c.args.files) (Rises start.faults (g.S.Store.load_faults c.load_script.new.store)) start.loads (g.S.Store.loads c.load_script.new.store) (g.S.Store.holds c.args.store.now) c.args.loaded.map c.args.book.now (Unit {0}) (Unit {0}) (Err c.in_err-script.field-0.0) (c.load_script.ensures.once ∙ ap counted begun.twice) begun.the_map begun.the_book c.in_ok-plans.ensures.accepted);
      made = λ start begun. rw (p.1, p.2)
          (at_script (names_of c.args.files) (FailsAt start.faults (g.S.Store.load_faults c.load_script.new.store) start.loads (g.S.Store.loads c.load_script.new.store)) (g.S.Store.holds c.args.store.now) c.args.loaded.map c.args.book.now (Unit {0}) (Unit {0}) _ c.in_err-script.field-0.0
          (λ rises. (rises_later _ _ _ begun.faults_never_fall rises, c.load_script.ensures.once ∙ ap counted begun.twice)) begun.the_map begun.the_book c.in_ok-plans.ensures.accepted c.in_err-script.ensures.from);
      map = rw (err_from_is_err_and c.from_residual-in_err-script.result c.from_residual-in_err-script.ensures.1).1 tt;
      status = rw (err_from_is_err_and c.from_residual-in_err-script.result c.from_residual-in_err-script.ensures.1).1 tt;
      most = λ start begun. stopped_within (names_of c.args.files) (g.S.Store.holds c.args.store.now) _ _ _ refl begun.most;
      least = λ start begun. rw (err_from_is_err_and c.from_residual-in_err-script.result c.from_residual-in_err-script.ensures.1).1 tt;
      sound = λ start begun. rw (p.1, p.2)
          (sound_to _ _ (unloaded (g.S.Store.holds c.args.store.now) (names_of c.args.files) (FailsAt start.faults (g.S.Store.load_faults c.load_script.new.store) start.loads (g.S.Store.loads c.load_script.new.store)) TheScript _
          (passes_script (g.S.Store.holds c.args.store.now) (names_of c.args.files) c.args.loaded.map c.args.book.now (Unit {0}) (Unit {0}) begun.the_map begun.the_book c.in_ok-plans.ensures.accepted) (λ rises. (rises_later _ _ _ begun.faults_never_fall rises, c.load_script.ensures.once ∙ ap counted begun.twice))) c.in_err-script.field-0.0 c.in_err-script.ensures.from.1);
    }

-- ---- map and book don't agree

pub returns-then-not-agree : goal.returns-then-not-agree
returns-then-not-agree g c =
    record {
      held = search rules;
      no_save = search rules;
      no_save_fault = search rules;
      script = inr c.load_script.ensures.named;
      in_order = λ start begun. (TheScript, passes_script (g.S.Store.holds c.args.store.now) (names_of c.args.files) c.args.loaded.map c.args.book.now (Unit {0}) (Unit {0}) begun.the_map begun.the_book c.in_ok-plans.ensures.accepted, c.load_script.ensures.once ∙ ap counted begun.twice);
      counted_loads = λ start begun. behind_script (names_of c.args.files) (Rises start.faults (g.S.Store.load_faults c.load_script.new.store)) start.loads (g.S.Store.loads c.load_script.new.store) (g.S.Store.holds c.args.store.now) c.args.loaded.map c.args.book.now (Unit {0}) (Unit {0}) (Err (stops.NoText (nothing.Refused refusals.Agree))) (c.load_script.ensures.once ∙ ap counted begun.twice) begun.the_map begun.the_book c.in_ok-plans.ensures.accepted;
      made = λ start begun. at_agreement (names_of c.args.files) (FailsAt start.faults (g.S.Store.load_faults c.load_script.new.store) start.loads (g.S.Store.loads c.load_script.new.store)) (g.S.Store.holds c.args.store.now) c.args.loaded.map c.args.book.now c.in_ok-script.script (Unit {0}) (Unit {0}) (Unit {0}) begun.the_map begun.the_book c.in_ok-plans.ensures.accepted c.in_ok-script.ensures.from
          (search rules);
      map = search rules;
      status = search rules;
      most = λ start begun. stopped_within (names_of c.args.files) (g.S.Store.holds c.args.store.now) _ _ _ refl begun.most;
      least = search rules;
      sound = λ start begun. tt;
    }

-- ---- the lines are applied

pub returns : goal.returns
returns g c =
    record {
      held = search rules;
      no_save = search rules;
      no_save_fault = search rules;
      script = inr c.load_script.ensures.named;
      in_order = λ start begun. (TheScript, passes_script (g.S.Store.holds c.args.store.now) (names_of c.args.files) c.args.loaded.map c.args.book.now (Unit {0}) (Unit {0}) begun.the_map begun.the_book c.in_ok-plans.ensures.accepted, c.load_script.ensures.once ∙ ap counted begun.twice);
      counted_loads = λ start begun. behind_script (names_of c.args.files) (Rises start.faults (g.S.Store.load_faults c.load_script.new.store)) start.loads (g.S.Store.loads c.load_script.new.store) (g.S.Store.holds c.args.store.now) c.args.loaded.map c.args.book.now (Unit {0}) (Unit {0}) c.applied.result (c.load_script.ensures.once ∙ ap counted begun.twice) begun.the_map begun.the_book c.in_ok-plans.ensures.accepted;
      made = λ start begun. at_end (names_of c.args.files) (FailsAt start.faults (g.S.Store.load_faults c.load_script.new.store) start.loads (g.S.Store.loads c.load_script.new.store)) (g.S.Store.holds c.args.store.now) c.args.loaded.map c.args.book.now c.in_ok-script.script (Unit {0}) (Unit {0}) (Unit {0}) begun.the_map begun.the_book c.in_ok-plans.ensures.accepted c.in_ok-script.ensures.from
          (search rules) c.applied.result c.applied.ensures.run;
      map = search rules;
      status = run_is_done _ c.applied.result c.applied.ensures.run;
      most = λ start begun. ended_within (names_of c.args.files) c.args.loaded.map c.args.book.now c.in_ok-script.script (Unit {0}) (Unit {0}) (Unit {0}) c.in_ok-plans.ensures.accepted (g.S.Store.holds c.args.store.now) _ _ _
          (are_read (names_of c.args.files) c.args.loaded.map c.args.book.now c.in_ok-script.script (Unit {0}) (Unit {0}) (Unit {0}) c.in_ok-plans.ensures.accepted (g.S.Store.holds c.args.store.now) begun.the_map begun.the_book c.in_ok-script.ensures.from) begun.most c.applied.ensures.most;
      least = λ start begun. if_done
          (ended_least (names_of c.args.files) c.args.loaded.map c.args.book.now c.in_ok-script.script (Unit {0}) (Unit {0}) (Unit {0}) c.in_ok-plans.ensures.accepted (g.S.Store.holds c.args.store.now) _ _ _ c.applied.ensures.lawful
          (are_read (names_of c.args.files) c.args.loaded.map c.args.book.now c.in_ok-script.script (Unit {0}) (Unit {0}) (Unit {0}) c.in_ok-plans.ensures.accepted (g.S.Store.holds c.args.store.now) begun.the_map begun.the_book c.in_ok-script.ensures.from) begun.least) c.applied.result c.applied.ensures.least;
      sound = λ start begun. run_is_sound _ c.applied.result _ c.applied.ensures.run;
    }

use Rattle.std.proofs.Common.{◌∷◌, ◌++◌, [], sym, ap, ◌∙◌, refl, arith, rules}
use Rattle.std.proofs.lemmas.Bool.{false≢true}
use Rattle.gm_host.specs.Count.{counted}
use Rattle.gm_host.specs.inner.FileStore.{Counts}
use Rattle.gm_host.specs.Store.{IsFailed}
use Rattle.gm_host.proofs.Told.{rises, on_ok, not_ok, unless_absent, on_failed, unless_failing, held_untold, cut_untold}
use Rattle.gm_host.proofs.file_store.FileStoreStore.load.Goals as goal

pub saturating_add-self-inside-requires : goal.saturating_add-self-inside-requires
saturating_add-self-inside-requires g c = tt

pub returns-then-is_failed : goal.returns-then-is_failed
returns-then-is_failed g c =
    let counts = c.saturating_add-self-inside-then-is_failed.ensures ∙ ap (λ (state : Counts). counted state.load_faults) c.self.view_is in
    record {
      held = refl;
      each_load_counts = c.saturating_add-self-inside.ensures ∙ ap (λ (state : Counts). counted state.loads) c.self.view_is;
      each_name_kept = c.and-self-inside.ensures ∙ ap (λ (state : Counts). state.loaded ++ c.args.name.now ∷ []) c.self.view_is;
      no_save = ap (λ (state : Counts). state.saves) c.self.view_is;
      faults_never_fall = search rules;
      no_save_fault = ap (λ (state : Counts). state.save_faults) c.self.view_is;
      within_limit = c.read_opened-answer.ensures.within_limit;
      bytes_held = held_untold c.read_opened-answer.result c.args.name.now;
      absent = unless_absent _ c.read_opened-answer.result c.read_opened-answer.ensures.never_absent;
      lacking = λ none. absurd none;
      failed = on_failed c.read_opened-answer.result (rises c.args.self.now.load_faults c.saturating_add-self-inside-then-is_failed.result counts);
      seen_length = c.read_opened-answer.ensures.seen_length;
      seen_held = cut_untold c.read_opened-answer.result c.args.name.now c.args.limit;
      longer = λ none. absurd none;
      ok_no_fault = not_ok _ c.read_opened-answer.result (c.is_failed.ensures.0 c.if-is_failed.true);
      no_fault = λ other. absurd (other (c.is_failed.ensures.0 c.if-is_failed.true));
      each_fault_counts = on_failed c.read_opened-answer.result counts;
    }

pub returns-else-is_failed : goal.returns-else-is_failed
returns-else-is_failed g c =
    let other : IsFailed c.read_opened-answer.result → ⊥ = λ f. false≢true (sym c.if-is_failed.false ∙ c.is_failed.ensures.1 f) in
    record {
      held = refl;
      each_load_counts = c.saturating_add-self-inside.ensures ∙ ap (λ (state : Counts). counted state.loads) c.self.view_is;
      each_name_kept = c.and-self-inside.ensures ∙ ap (λ (state : Counts). state.loaded ++ c.args.name.now ∷ []) c.self.view_is;
      no_save = ap (λ (state : Counts). state.saves) c.self.view_is;
      faults_never_fall = omega (arith, ap (λ (state : Counts). state.load_faults) c.self.view_is);
      no_save_fault = ap (λ (state : Counts). state.save_faults) c.self.view_is;
      within_limit = c.read_opened-answer.ensures.within_limit;
      bytes_held = held_untold c.read_opened-answer.result c.args.name.now;
      absent = unless_absent _ c.read_opened-answer.result c.read_opened-answer.ensures.never_absent;
      lacking = λ none. absurd none;
      failed = unless_failing _ c.read_opened-answer.result other;
      seen_length = c.read_opened-answer.ensures.seen_length;
      seen_held = cut_untold c.read_opened-answer.result c.args.name.now c.args.limit;
      longer = λ none. absurd none;
      ok_no_fault = on_ok c.read_opened-answer.result (ap (λ (state : Counts). state.load_faults) c.self.view_is);
      no_fault = λ _. ap (λ (state : Counts). state.load_faults) c.self.view_is;
      each_fault_counts = unless_failing _ c.read_opened-answer.result other;
    }

use Rattle.std.proofs.Common.{inl, refl, sym, ap, ◌∙◌, arith, rules}
use Rattle.std.specs.Prelude.{if◌then◌else◌}
use Rattle.gm_host.specs.Count.{counted}
use Rattle.gm_host.specs.inner.FileStore.{Counts}
use Rattle.gm_host.proofs.Told.{rises, on_ok, unless_err, on_failed_save, unless_failed_save, unless_unmade}
use Rattle.gm_host.proofs.file_store.FileStoreStore.save.Goals as goal

pub saturating_add-self-inside-requires : goal.saturating_add-self-inside-requires
saturating_add-self-inside-requires g c = tt

pub returns-then-is_err : goal.returns-then-is_err
returns-then-is_err g c =
    let counts = c.saturating_add-self-inside-then-is_err.ensures ∙ ap (λ (state : Counts). counted state.save_faults) c.self.view_is in
    let faults = c.args.self.now.save_faults in
    record {
      each_save_counts = c.saturating_add-self-inside.ensures ∙ ap (λ (state : Counts). counted state.saves) c.self.view_is;
      no_load = ap (λ (state : Counts). state.loads) c.self.view_is;
      no_name = ap (λ (state : Counts). state.loaded) c.self.view_is;
      no_load_fault = ap (λ (state : Counts). state.load_faults) c.self.view_is;
      faults_never_fall = search rules;
      ok = on_ok c.write_file-answer.result refl;
      failed = on_failed_save c.write_file-answer.result (rises c.args.self.now.save_faults c.saturating_add-self-inside-then-is_err.result counts);
      kept = on_failed_save c.write_file-answer.result (inl refl);
      out_of_memory = unless_unmade _ c.write_file-answer.result c.write_file-answer.ensures;
      no_fault = unless_unmade _ c.write_file-answer.result c.write_file-answer.ensures;
      ok_no_fault = unless_err _ c.write_file-answer.result (sym c.is_err.ensures.value ∙ c.if-is_err.true);
      enough_memory = c.write_file-answer.ensures;
      each_fault_counts = counts ∙ ap (λ b. if b then counted faults else faults) (sym c.if-is_err.true ∙ c.is_err.ensures.value);
    }

pub returns-else-is_err : goal.returns-else-is_err
returns-else-is_err g c =
    let faults = c.args.self.now.save_faults in
    record {
      each_save_counts = c.saturating_add-self-inside.ensures ∙ ap (λ (state : Counts). counted state.saves) c.self.view_is;
      no_load = ap (λ (state : Counts). state.loads) c.self.view_is;
      no_name = ap (λ (state : Counts). state.loaded) c.self.view_is;
      no_load_fault = ap (λ (state : Counts). state.load_faults) c.self.view_is;
      faults_never_fall = omega (arith, ap (λ (state : Counts). state.save_faults) c.self.view_is);
      ok = on_ok c.write_file-answer.result refl;
      failed = unless_failed_save _ c.write_file-answer.result (sym c.is_err.ensures.value ∙ c.if-is_err.false);
      kept = on_failed_save c.write_file-answer.result (inl refl);
      out_of_memory = unless_unmade _ c.write_file-answer.result c.write_file-answer.ensures;
      no_fault = unless_unmade _ c.write_file-answer.result c.write_file-answer.ensures;
      ok_no_fault = on_ok c.write_file-answer.result (ap (λ (state : Counts). state.save_faults) c.self.view_is);
      enough_memory = c.write_file-answer.ensures;
      each_fault_counts = ap (λ (state : Counts). state.save_faults) c.self.view_is ∙ ap (λ b. if b then counted faults else faults) (sym c.if-is_err.false ∙ c.is_err.ensures.value);
    }

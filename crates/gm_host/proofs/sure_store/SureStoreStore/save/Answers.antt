use Rattle.std.proofs.Common.{refl, ap, ◌∙◌, arith, rules}
use Rattle.std.proofs.lemmas.Result.{err_from_is_err_and}
use Rattle.gm_host.specs.Count.{counted}
use Rattle.gm_host.specs.inner.Files.{told}
use Rattle.gm_host.specs.inner.SureStore.{StoreState}
use Rattle.gm_host.proofs.Saving.{saved-insert}
use Rattle.gm_host.proofs.sure_store.SureStoreStore.save.Goals as goal

pub returns-in_err-hold : goal.returns-in_err-hold
returns-in_err-hold c =
    let p = err_from_is_err_and c.from_residual.result c.from_residual.ensures.1 in
    rw (p.1, p.2)
    (record {
      each_save_counts = c.saturating_add-self-inside.ensures ∙ ap (λ (state : StoreState). counted state.saves) c.self.view_is;
      no_load = ap (λ (state : StoreState). state.loads) c.self.view_is;
      no_name = ap (λ (state : StoreState). state.loaded) c.self.view_is;
      no_load_fault = refl;
      faults_never_fall = omega arith;
      ok = tt;
      failed = tt;
      kept = tt;
      out_of_memory = ap told (c.in_err-hold.ensures.err ∙ ap (λ (state : StoreState). state.files) c.self.view_is);
      no_fault = refl;
      ok_no_fault = tt;
      never_fails = λ failed. failed;
      after = tt;
      unmade = ap (λ files. record { files = files; loads = c.self.inside.loads; loaded = c.self.inside.loaded.items; saves = c.saturating_add-self-inside.result }) c.in_err-hold.ensures.err
          ∙ ap (λ saves. record { files = c.self.inside.files; loads = c.self.inside.loads; loaded = c.self.inside.loaded.items; saves = saves }) c.saturating_add-self-inside.ensures
          ∙ ap (λ (state : StoreState). record { files = state.files; loads = state.loads; loaded = state.loaded; saves = counted state.saves }) c.self.view_is;
    })

pub returns : goal.returns
returns c =
    record {
      each_save_counts = search rules;
      no_load = search rules;
      no_name = search rules;
      no_load_fault = search rules;
      faults_never_fall = search rules;
      ok = rw (c.in_ok-hold.ensures.ok, ← c.self.view_is) (saved-insert c.self.inside.files c.args.name.now c.args.bytes.now);
      failed = search rules;
      kept = search rules;
      out_of_memory = search rules;
      no_fault = search rules;
      ok_no_fault = search rules;
      never_fails = search rules;
      after = search rules;
      unmade = search rules;
    }

use Rattle.std.proofs.Common.{refl, ap, subst, rules}
use Rattle.std.specs.Prelude.{IfOk}
use Rattle.gm_host.specs.inner.Files.{Files, told}
use Rattle.gm_host.specs.Store.{Lacks, IsHeld, IsCutFromHeld, HoldsLongerFile, OnAbsent, IfTooLong, IsAbsentUnlessFailing, IsTooLongUnlessFailing}
use Rattle.gm_host.specs.inner.SureStore.{StoreState}
use Rattle.gm_host.proofs.Told.{on_ok, unless_failing}
use Rattle.gm_host.proofs.sure_store.SureStoreStore.load.Goals as goal

pub returns : goal.returns
returns c =
    let files = ap (λ (state : StoreState). state.files) c.self.view_is in
    record {
      held = search rules;
      each_load_counts = search rules;
      each_name_kept = search rules;
      no_save = search rules;
      faults_never_fall = search rules;
      no_save_fault = search rules;
      within_limit = search rules;
      bytes_held = subst (λ (held : Files). IfOk c.load.result (λ bytes. IsHeld (told held) c.args.name.now bytes.items)) files c.load.ensures.bytes_held;
      absent = subst (λ (held : Files). OnAbsent c.load.result (Lacks (told held) c.args.name.now)) files c.load.ensures.absent;
      lacking = subst (λ (held : Files). Lacks (told held) c.args.name.now → IsAbsentUnlessFailing c.load.result) files c.load.ensures.lacking;
      failed = unless_failing _ c.load.result c.load.ensures.failed;
      seen_length = search rules;
      seen_held = subst (λ (held : Files). IfTooLong c.load.result (IsCutFromHeld (told held) c.args.name.now c.args.limit)) files c.load.ensures.seen_held;
      longer = subst (λ (held : Files). HoldsLongerFile (told held) c.args.name.now c.args.limit → IsTooLongUnlessFailing c.load.result) files c.load.ensures.longer;
      ok_no_fault = on_ok c.load.result refl;
      no_fault = λ _. refl;
      never_fails = search rules;
      after = search rules;
    }

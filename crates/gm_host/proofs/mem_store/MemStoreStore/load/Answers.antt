use Rattle.std.proofs.Common.{◌∷◌, ◌++◌, [], ap, subst, ◌∙◌, arith, rules}
use Rattle.std.specs.Prelude.{IfOk}
use Rattle.gm_host.specs.Count.{counted}
use Rattle.gm_host.specs.inner.Files.{Files, told}
use Rattle.gm_host.specs.inner.MemStore.{StoreState}
use Rattle.gm_host.specs.Store.{Lacks, IsHeld, IsCutFromHeld, HoldsLongerFile, OnAbsent, IfTooLong, IsAbsentUnlessFailing, IsTooLongUnlessFailing}
use Rattle.gm_host.proofs.Told.{rises, on_ok, unless_failing}
use Rattle.gm_host.proofs.mem_store.MemStoreStore.load.Goals as goal

pub saturating_add-self-inside-requires : goal.saturating_add-self-inside-requires
saturating_add-self-inside-requires c = tt

pub load-requires : goal.load-requires
load-requires c = tt

pub returns-then-contains : goal.returns-then-contains
returns-then-contains c =
    let counts = c.saturating_add-self-inside-then-contains.ensures ∙ ap (λ (state : StoreState). counted state.load_faults) c.self.view_is in
    record {
      held = ap (λ (state : StoreState). told state.files) c.self.view_is;
      each_load_counts = c.saturating_add-self-inside.ensures ∙ ap (λ (state : StoreState). counted state.loads) c.self.view_is;
      each_name_kept = c.and-self-inside.ensures ∙ ap (λ (state : StoreState). state.loaded ++ c.args.name.now ∷ []) c.self.view_is;
      no_save = ap (λ (state : StoreState). state.saves) c.self.view_is;
      faults_never_fall = search rules;
      no_save_fault = ap (λ (state : StoreState). state.save_faults) c.self.view_is;
      within_limit = tt;
      bytes_held = tt;
      absent = tt;
      lacking = λ _. tt;
      failed = rises c.args.self.now.load_faults c.saturating_add-self-inside-then-contains.result counts;
      seen_length = tt;
      seen_held = tt;
      longer = λ _. tt;
      ok_no_fault = tt;
      no_fault = λ other. absurd (other tt);
      fails_exactly = search rules;
      after = search rules;
    }

pub returns : goal.returns
returns c =
    let files = ap (λ (state : StoreState). state.files) c.self.view_is in
    record {
      held = ap (λ (state : StoreState). told state.files) c.self.view_is;
      each_load_counts = c.saturating_add-self-inside.ensures ∙ ap (λ (state : StoreState). counted state.loads) c.self.view_is;
      each_name_kept = c.and-self-inside.ensures ∙ ap (λ (state : StoreState). state.loaded ++ c.args.name.now ∷ []) c.self.view_is;
      no_save = ap (λ (state : StoreState). state.saves) c.self.view_is;
      faults_never_fall = omega (arith, ap (λ (state : StoreState). state.load_faults) c.self.view_is);
      no_save_fault = ap (λ (state : StoreState). state.save_faults) c.self.view_is;
      within_limit = c.load.ensures.within_limit;
      bytes_held = subst (λ (held : Files). IfOk c.load.result (λ bytes. IsHeld (told held) c.args.name.now bytes.items)) files c.load.ensures.bytes_held;
      absent = subst (λ (held : Files). OnAbsent c.load.result (Lacks (told held) c.args.name.now)) files c.load.ensures.absent;
      lacking = subst (λ (held : Files). Lacks (told held) c.args.name.now → IsAbsentUnlessFailing c.load.result) files c.load.ensures.lacking;
      failed = unless_failing _ c.load.result c.load.ensures.failed;
      seen_length = c.load.ensures.seen_length;
      seen_held = subst (λ (held : Files). IfTooLong c.load.result (IsCutFromHeld (told held) c.args.name.now c.args.limit)) files c.load.ensures.seen_held;
      longer = subst (λ (held : Files). HoldsLongerFile (told held) c.args.name.now c.args.limit → IsTooLongUnlessFailing c.load.result) files c.load.ensures.longer;
      ok_no_fault = on_ok c.load.result (ap (λ (state : StoreState). state.load_faults) c.self.view_is);
      no_fault = λ _. ap (λ (state : StoreState). state.load_faults) c.self.view_is;
      fails_exactly = (λ f. absurd (c.load.ensures.failed f), λ t. absurd (grind arith));
      after = search rules;
    }

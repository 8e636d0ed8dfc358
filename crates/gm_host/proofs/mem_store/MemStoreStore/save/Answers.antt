use Rattle.std.proofs.Common.{sym, ap, subst, ◌∙◌, ◌≡◌, Some, None, arith, rules}
use Rattle.std.proofs.lemmas.Result.{err_from_is_err_and}
use Rattle.std.specs.FinMap.{get}
use Rattle.gm_host.specs.Count.{counted}
use Rattle.gm_host.specs.inner.Files.{Files, told}
use Rattle.gm_host.specs.inner.MemStore.{StoreState}
use Rattle.gm_host.specs.Saves.{IsSaved, IsSavedInPart}
use Rattle.gm_host.proofs.Lookups.{get-from_tree}
use Rattle.gm_host.proofs.Saving.{saved-insert, saved_in_part, planned_save, planned_fault, unmade_save}
use Rattle.gm_host.proofs.mem_store.MemStoreStore.save.Goals as goal

pub returns-in_err-hold-in-None : goal.returns-in_err-hold-in-None
returns-in_err-hold-in-None c =
    let p = err_from_is_err_and c.from_residual-in_err-hold-in-None.result c.from_residual-in_err-hold-in-None.ensures.1 in
    let now = c.args.self.now in
    let faults = ap (λ (state : StoreState). state.save_faults) c.self.view_is in
    rw (p.1, p.2)
    (record {
      each_save_counts = c.saturating_add-self-inside.ensures ∙ ap (λ (state : StoreState). counted state.saves) c.self.view_is;
      no_load = ap (λ (state : StoreState). state.loads) c.self.view_is;
      no_name = ap (λ (state : StoreState). state.loaded) c.self.view_is;
      no_load_fault = ap (λ (state : StoreState). state.load_faults) c.self.view_is;
      faults_never_fall = omega (arith, faults);
      ok = tt;
      failed = tt;
      kept = tt;
      out_of_memory = ap told (c.in_err-hold-in-None.ensures.err ∙ ap (λ (state : StoreState). state.files) c.self.view_is);
      no_fault = faults;
      ok_no_fault = tt;
      as_planned = unmade_save c.self.view_is c.args.name.now c.args.bytes.now c.hold.new.self c.saturating_add-self-inside.result c.saturating_add-self-inside.ensures (get now.failing_saves now.saves) c.in_err-hold-in-None.ensures.err;
    })

pub returns-in_err-hold_part-in-Some : goal.returns-in_err-hold_part-in-Some
returns-in_err-hold_part-in-Some c =
    let p = err_from_is_err_and c.from_residual.result c.from_residual.ensures.1 in
    let now = c.args.self.now in
    let faults = ap (λ (state : StoreState). state.save_faults) c.self.view_is in
    rw (p.1, p.2)
    (record {
      each_save_counts = c.saturating_add-self-inside.ensures ∙ ap (λ (state : StoreState). counted state.saves) c.self.view_is;
      no_load = ap (λ (state : StoreState). state.loads) c.self.view_is;
      no_name = ap (λ (state : StoreState). state.loaded) c.self.view_is;
      no_load_fault = ap (λ (state : StoreState). state.load_faults) c.self.view_is;
      faults_never_fall = omega (arith, faults);
      ok = tt;
      failed = tt;
      kept = tt;
      out_of_memory = ap told (c.in_err-hold_part-in-Some.ensures.err ∙ ap (λ (state : StoreState). state.files) c.self.view_is);
      no_fault = faults;
      ok_no_fault = tt;
      as_planned = unmade_save c.self.view_is c.args.name.now c.args.bytes.now c.hold_part.new.self c.saturating_add-self-inside.result c.saturating_add-self-inside.ensures (get now.failing_saves now.saves) c.in_err-hold_part-in-Some.ensures.err;
    })

pub returns-in_ok-hold_part-in-Some : goal.returns-in_ok-hold_part-in-Some
returns-in_ok-hold_part-in-Some c =
    let name = c.args.name.now in
    let bytes = c.args.bytes.now in
    let part = subst (λ (later : Files). IsSavedInPart (told c.self.inside.files) name bytes (told later)) (sym c.in_ok-hold_part-in-Some.ensures.ok) (saved_in_part c.self.inside.files name bytes c.in-Some.kept) in
    let now = c.args.self.now in
    let plan = get now.failing_saves now.saves in
    let planned : plan ≡ Some c.in-Some.kept = ap (λ (state : StoreState). get state.failing_saves state.saves) (sym c.self.view_is) ∙ get-from_tree _ c.self.inside.failing_saves ∙ sym c.get.ensures.value ∙ sym c.in-Some.ensures in
    record {
      each_save_counts = search rules;
      no_load = search rules;
      no_name = search rules;
      no_load_fault = search rules;
      faults_never_fall = search rules;
      ok = search rules;
      failed = search rules;
      kept = subst (λ (state : StoreState). IsSavedInPart (told state.files) name bytes (told c.hold_part.new.self)) c.self.view_is part;
      out_of_memory = search rules;
      no_fault = search rules;
      ok_no_fault = search rules;
      as_planned = planned_fault c.self.view_is c.args.name.now c.args.bytes.now c.hold_part.new.self c.saturating_add-self-inside.result c.saturating_add-self-inside.ensures plan c.in-Some.kept c.saturating_add-self-inside-in-Some.result planned c.in_ok-hold_part-in-Some.ensures.ok
          c.saturating_add-self-inside-in-Some.ensures;
    }

pub returns-in_ok-hold-in-None : goal.returns-in_ok-hold-in-None
returns-in_ok-hold-in-None c =
    let name = c.args.name.now in
    let bytes = c.args.bytes.now in
    let held = subst (λ (later : Files). IsSaved (told c.self.inside.files) name bytes (told later)) (sym c.in_ok-hold-in-None.ensures.ok) (saved-insert c.self.inside.files name bytes) in
    let now = c.args.self.now in
    let plan = get now.failing_saves now.saves in
    let planned : plan ≡ None = ap (λ (state : StoreState). get state.failing_saves state.saves) (sym c.self.view_is) ∙ get-from_tree _ c.self.inside.failing_saves ∙ sym c.get.ensures.value ∙ sym c.in-None.ensures in
    record {
      each_save_counts = search rules;
      no_load = search rules;
      no_name = search rules;
      no_load_fault = search rules;
      faults_never_fall = search rules;
      ok = subst (λ (state : StoreState). IsSaved (told state.files) name bytes (told c.hold.new.self)) c.self.view_is held;
      failed = search rules;
      kept = search rules;
      out_of_memory = search rules;
      no_fault = search rules;
      ok_no_fault = search rules;
      as_planned = planned_save c.self.view_is c.args.name.now c.args.bytes.now c.hold.new.self c.saturating_add-self-inside.result c.saturating_add-self-inside.ensures plan planned c.in_ok-hold-in-None.ensures.ok;
    }

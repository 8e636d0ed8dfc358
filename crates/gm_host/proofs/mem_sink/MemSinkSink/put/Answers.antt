use Rattle.std.proofs.Common.{sym, ap, ◌∙◌, ◌≡◌, Some, None, arith, rules}
use Rattle.std.proofs.lemmas.Bool.{false≢true}
use Rattle.std.proofs.lemmas.Result.{err_from_is_err_and}
use Rattle.std.specs.FinMap.{get, from_entries}
use Rattle.std.specs.Ordering.{nat_cmp}
use Rattle.gm_host.specs.Count.{counted}
use Rattle.gm_host.specs.inner.MemSink.{SinkState}
use Rattle.gm_host.proofs.Lookups.{get-from_tree}
use Rattle.gm_host.proofs.Saving.{unmade_put}
use Rattle.gm_host.proofs.mem_sink.MemSinkSink.put.Goals as goal

pub returns-in_err-extend_from_slice-in-None : goal.returns-in_err-extend_from_slice-in-None
returns-in_err-extend_from_slice-in-None c =
    let p = err_from_is_err_and c.from_residual-in_err-extend_from_slice-in-None.result c.from_residual-in_err-extend_from_slice-in-None.ensures.1 in
    let now = c.args.self.now in
    let plan = get now.planned now.puts in
    rw (p.1, p.2)
    (record {
      each_put_counts = c.saturating_add-self-inside.ensures ∙ ap (λ (state : SinkState). counted state.puts) c.self.view_is;
      faults_never_fall = omega (arith, ap (λ (state : SinkState). state.faults) c.self.view_is);
      ok = tt;
      failed = tt;
      kept = tt;
      out_of_memory = ap Some (c.in_err-extend_from_slice-in-None.ensures.items ∙ ap (λ (state : SinkState). state.written) c.self.view_is);
      no_fault = ap (λ (state : SinkState). state.faults) c.self.view_is;
      enough_memory = λ never. absurd (false≢true never);
      ok_no_fault = tt;
      as_planned = unmade_put c.self.view_is c.args.bytes.now c.extend_from_slice-in-None.new.self.items c.saturating_add-self-inside.result c.saturating_add-self-inside.ensures plan c.in_err-extend_from_slice-in-None.ensures.items;
    })

pub returns-in_err-extend_from_slice-in-Some : goal.returns-in_err-extend_from_slice-in-Some
returns-in_err-extend_from_slice-in-Some c =
    let p = err_from_is_err_and c.from_residual.result c.from_residual.ensures.1 in
    let now = c.args.self.now in
    let plan = get now.planned now.puts in
    rw (p.1, p.2)
    (record {
      each_put_counts = c.saturating_add-self-inside.ensures ∙ ap (λ (state : SinkState). counted state.puts) c.self.view_is;
      faults_never_fall = omega (arith, ap (λ (state : SinkState). state.faults) c.self.view_is);
      ok = tt;
      failed = tt;
      kept = tt;
      out_of_memory = ap Some (c.in_err-extend_from_slice-in-Some.ensures.items ∙ ap (λ (state : SinkState). state.written) c.self.view_is);
      no_fault = ap (λ (state : SinkState). state.faults) c.self.view_is;
      enough_memory = λ never. absurd (false≢true never);
      ok_no_fault = tt;
      as_planned = unmade_put c.self.view_is c.args.bytes.now c.extend_from_slice.new.self.items c.saturating_add-self-inside.result c.saturating_add-self-inside.ensures plan c.in_err-extend_from_slice-in-Some.ensures.items;
    })

pub returns-in_ok-extend_from_slice-in-Some : goal.returns-in_ok-extend_from_slice-in-Some
returns-in_ok-extend_from_slice-in-Some c =
    record {
      each_put_counts = search rules;
      faults_never_fall = search rules;
      ok = search rules;
      failed = search rules;
      kept = search rules;
      out_of_memory = search rules;
      no_fault = search rules;
      enough_memory = search rules;
      ok_no_fault = search rules;
      as_planned = let planned : get (from_entries {R = nat_cmp} c.self.inside.planned.entries) c.self.inside.puts ≡ Some c.in-Some.kept =
          get-from_tree _ c.self.inside.planned ∙ sym c.get.ensures.value ∙ sym c.in-Some.ensures in
          rw (← c.self.view_is, planned, c.in_ok-extend_from_slice-in-Some.ensures.items, c.first.ensures, c.saturating_add-self-inside.ensures, c.saturating_add-self-inside-in-Some.ensures);
    }

pub returns-in_ok-extend_from_slice-in-None : goal.returns-in_ok-extend_from_slice-in-None
returns-in_ok-extend_from_slice-in-None c =
    record {
      each_put_counts = search rules;
      faults_never_fall = search rules;
      ok = search rules;
      failed = search rules;
      kept = search rules;
      out_of_memory = search rules;
      no_fault = search rules;
      enough_memory = search rules;
      ok_no_fault = search rules;
      as_planned = let planned : get (from_entries {R = nat_cmp} c.self.inside.planned.entries) c.self.inside.puts ≡ None =
          get-from_tree _ c.self.inside.planned ∙ sym c.get.ensures.value ∙ sym c.in-None.ensures in
          rw (← c.self.view_is, planned, c.in_ok-extend_from_slice-in-None.ensures.items, c.saturating_add-self-inside.ensures);
    }

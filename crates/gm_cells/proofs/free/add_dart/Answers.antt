use Rattle.std.proofs.Common.{◌≡◌, ◌≢◌, ℕ, ◌+◌, ◌<◌, length, get_or, set, sym, ap, subst, ◌∙◌, inl, inr, arith}
use Rattle.std.proofs.lemmas.Bool.{cases_lt}
use Rattle.std.proofs.lemmas.List.{get_or-set_same, get_or-set_other, length-set}
use Rattle.gm_cells.specs.inner.Painted.{queued_at}
use Rattle.gm_cells.proofs.free.add_dart.Goals as goal
use Rattle.gm_cells.proofs.free.add_dart.Goals.{then-to-slot, else-to-slot}

pub loop-label-preserved : goal.loop-label-preserved
loop-label-preserved c =
    let i = c.loop-label.invariant in
    let free = c.loop-label.free in
    let label = c.loop-label.label in
    let alphas = c.args.alphas.now in
    let old = c.args.free.now in
    let within : label < length free = omega (arith, i.long, c.requires.long, c.loop-label-test.true) in
    let here : get_or free label 0 ≡ get_or old label 0 = i.rest label (omega arith) in
    elim c.if-to-slot.branch [
      | then-to-slot w ↦
          let same = get_or-set_same free label (get_or free label 0 + 1) 0 within in
          let others : (k : ℕ) → k ≢ label → get_or (set free label (get_or free label 0 + 1)) k 0 ≡ get_or free k 0 = λ k apart. get_or-set_other free label k (get_or free label 0 + 1) 0 apart in
          record {
            long = rw w.free-is (length-set free label (get_or free label 0 + 1) ∙ i.long);
            own = λ k less own. rw w.free-is (elim (cases_lt k label) [
              | inl l ↦ others k (λ e. omega (arith, e, l)) ∙ i.own k l own
              | inr l ↦ (let e : label ≡ k = omega (arith, l, less) in subst (λ x. get_or (set free label (get_or free label 0 + 1)) x 0 ≡ get_or old x 0 + 1) e (same ∙ ap (λ n. n + 1) here))
            ]);
            other = λ k less apart. rw w.free-is (elim (cases_lt k label) [
              | inl l ↦ others k (λ e. omega (arith, e, l)) ∙ i.other k l apart
              | inr l ↦ absurd (let e : label ≡ k = omega (arith, l, less) in apart (subst (λ x. queued_at alphas x ≡ c.args.slot.at) e w.if-to-slot.true))
            ]);
            rest = λ k past. rw w.free-is (others k (λ e. omega (arith, e, past)) ∙ i.rest k (omega (arith, past)));
          }
      | else-to-slot w ↦ record {
        long = rw w.free-is i.long;
        own = λ k less own. rw w.free-is (elim (cases_lt k label) [
          | inl l ↦ i.own k l own
          | inr l ↦ absurd (let e : label ≡ k = omega (arith, l, less) in w.if-to-slot.false (subst (λ x. queued_at alphas x ≡ c.args.slot.at) (sym e) own))
        ]);
        other = λ k less apart. rw w.free-is (elim (cases_lt k label) [
          | inl l ↦ i.other k l apart
          | inr l ↦ (let e : label ≡ k = omega (arith, l, less) in subst (λ x. get_or free x 0 ≡ get_or old x 0) e here)
        ]);
        rest = λ k past. rw w.free-is (i.rest k (omega (arith, past)));
      }
    ]

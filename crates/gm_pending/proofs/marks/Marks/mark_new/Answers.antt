use Rattle.std.proofs.Common.{◌≡◌, ℕ, List, [], ◌∷◌, ◌++◌, Option, inl, inr, subst, arith}
use Rattle.std.specs.Prelude.{OnOk, OnErr}
use Rattle.gm_model.proofs.Exits.{never_ok, on_err}
use Rattle.gm_walk.specs.declared.at.At.{At}
use Rattle.gm_walk.specs.declared.mark.Mark.{Mark}
use Rattle.gm_pending.specs.inner.Marks.{HasKey, IsMarkedMore, reached_by}
use Rattle.gm_plan.specs.inner.Indices.{index_at}
use Rattle.gm_walk.specs.inner.Keys.{key_of}
use Rattle.gm_pending.proofs.on_marks.IndexRoom.{bit_below}
use Rattle.gm_pending.proofs.on_marks.OneMoreMark.{marked_few}
use Rattle.gm_pending.proofs.marks.Marks.mark_new.Goals as goal

pub invariant_of-self : goal.invariant_of-self
invariant_of-self c =
    let reached = c.self.inside.reached.items in
    let absent : HasKey reached (key_of c.args.at) → ⊥ = rw c.self.view_is c.requires.absent in
    let mark : Mark = record { at = c.args.at; instance = c.args.instance; over = c.args.over } in
    (rw (c.bit.ensures, c.key.ensures) (marked_few (λ b. index_at b.value) reached c.push.new.entries.items c.self.inside.index c.self.inside.bits mark c.push.result c.if-is_none.ensures c.self.invariant.0 absent c.push.ensures.ok c.push.ensures.err), (omega (arith, c.self.invariant.1.0, c.push.ensures.capacity), c.self.invariant.1.1))

-- a dart that wasn't marked is the last one
marked_last : (before after : List Mark) (at : At) (k : ℕ) (over : Option ℕ) → IsMarkedMore before after at k over → (HasKey before (key_of at) → ⊥) → after ≡ before ++ reached_by at k over ∷ []
marked_last before after at k over (inl there) absent = absurd (absent there.0)
marked_last before after at k over (inr more) absent = more.1

pub overflow_shl-self : goal.overflow_shl-self
overflow_shl-self c = bit_below c.bit.result c.key.result c.bit.ensures

pub returns-in_err-put : goal.returns-in_err-put
returns-in_err-put c = record {
  ok = never_ok _ c.from_residual.result c.from_residual.ensures.0;
  err = on_err c.from_residual.result c.in_err-put.ensures.err;
}

pub returns-in_ok-put : goal.returns-in_ok-put
returns-in_ok-put c = record { ok = marked_last c.args.self.now c.put.new.self c.args.at c.args.instance c.args.over c.in_ok-put.ensures.ok c.requires.absent; err = tt }

pub returns-then-is_none : goal.returns-then-is_none
returns-then-is_none c = record {
  ok = subst (λ reached. OnOk c.push.result (c.push.new.entries.items ≡ reached ++ reached_by c.args.at c.args.instance c.args.over ∷ [])) c.self.view_is c.push.ensures.ok;
  err = subst (λ reached. OnErr c.push.result (c.push.new.entries.items ≡ reached)) c.self.view_is c.push.ensures.err;
}

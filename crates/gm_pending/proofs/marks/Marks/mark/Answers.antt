use Rattle.std.proofs.Common.{◌≡◌, ◌<◌, Ok, [], ◌∷◌, ◌++◌, false, refl, ap, sym, ◌∙◌, inl, inr}
use Rattle.std.specs.Option.{is_some}
use Rattle.std.proofs.lemmas.Bool.{false≢true}
use Rattle.gm_walk.specs.declared.mark.Mark.{Mark}
use Rattle.gm_pending.specs.inner.Marks.{HasKey, reached_by}
use Rattle.gm_plan.specs.inner.Indices.{index_at}
use Rattle.gm_walk.specs.inner.Keys.{key_of}
use Rattle.gm_pending.proofs.on_marks.IndexRoom.{bit_below, found_marked, some_below}
use Rattle.gm_pending.proofs.on_marks.OneMoreMark.{marked_few, unmarked}
use Rattle.gm_pending.proofs.marks.Marks.mark.Goals as goal

pub invariant_of-self : goal.invariant_of-self
invariant_of-self c =
    let reached = c.self.inside.reached.items in
    let mark : Mark = record { at = c.args.at; instance = c.args.instance; over = c.args.over } in
    let few : 0 < c.self.inside.quick = some_below c.len.result c.self.inside.quick c.if-len-self.false in
    let absent : HasKey reached (key_of c.args.at) → ⊥ = rw c.self.view_is (unmarked c.args.self.now (key_of c.args.at) c.decided_by.result (sym c.is_some.ensures ∙ c.if-is_some.false) c.decided_by.ensures.instance) in
    let none : is_some c.self.inside.index ≡ false = ap is_some (c.self.invariant.1.1 few) in
    (rw (c.bit.ensures, c.key.ensures) (marked_few {E = Unit {0}} (λ b. index_at b.value) reached c.push_reserved.new.self.items c.self.inside.index c.self.inside.bits mark (Ok tt) none c.self.invariant.0 absent c.push_reserved.ensures.items tt), (rw c.push_reserved.ensures.capacity c.self.invariant.1.0, c.self.invariant.1.1))

pub returns-then-len-self : goal.returns-then-len-self
returns-then-len-self c = record {
  ok = c.mark_slowly.ensures.ok;
  new = c.mark_slowly.ensures.new;
  err = c.mark_slowly.ensures.err;
  distinct = c.mark_slowly.ensures.distinct;
}

pub returns-then-is_some : goal.returns-then-is_some
returns-then-is_some c =
    let there = found_marked c.args.self.now (key_of c.args.at) c.decided_by.result (sym c.is_some.ensures ∙ c.if-is_some.true) c.decided_by.ensures.instance in
    record {
      ok = inl (there, refl);
      new = (λ t. absurd (false≢true t), λ absent. absurd (absent there));
      err = tt;
      distinct = c.decided_by.ensures.distinct;
    }

pub overflow_shl-self : goal.overflow_shl-self
overflow_shl-self c = bit_below c.bit.result c.key.result c.bit.ensures

pub returns : goal.returns
returns c =
    let absent = unmarked c.args.self.now (key_of c.args.at) c.decided_by.result (sym c.is_some.ensures ∙ c.if-is_some.false) c.decided_by.ensures.instance in
    record {
      ok = inr (absent, c.push_reserved.ensures.items ∙ ap (λ reached. reached ++ reached_by c.args.at c.args.instance c.args.over ∷ []) c.self.view_is);
      new = (λ t. absent, λ none. refl);
      err = tt;
      distinct = c.decided_by.ensures.distinct;
    }

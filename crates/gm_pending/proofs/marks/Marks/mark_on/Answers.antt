use Rattle.std.proofs.Common.{◌≡◌, ◌<◌, ◌⊎◌, Ok, None, List, [], ◌∷◌, ◌++◌, false, refl, sym, ◌∙◌, ap, subst, inl, inr, le_of_suc-le-suc, not-le_of_lt}
use Rattle.std.specs.Option.{is_some}
use Rattle.std.proofs.lemmas.Bool.{false≢true}
use Rattle.gm_walk.specs.declared.at.At.{At}
use Rattle.gm_walk.specs.declared.mark.Mark.{Mark}
use Rattle.gm_pending.specs.inner.Marks.{HasKey, reached_by}
use Rattle.gm_plan.specs.inner.Indices.{index_at}
use Rattle.gm_walk.specs.inner.Keys.{key_of}
use Rattle.gm_pending.proofs.on_marks.IndexRoom.{bit_below, some_below}
use Rattle.gm_pending.proofs.on_marks.OneMoreMark.{marked_few}
use Rattle.gm_pending.proofs.marks.Marks.mark_on.Goals as goal
use Rattle.gm_pending.proofs.marks.Marks.mark_on.Goals.{then-key-via-then-key, then-key-via-else-key+then-key-2}

-- a dart that is neither of the two isn't marked
unmarked_end : (reached : List Mark) (at from start : At) → (HasKey reached (key_of at) → (key_of at ≡ key_of from) ⊎ (key_of at ≡ key_of start)) → (key_of at ≡ key_of from → ⊥) → (key_of at ≡ key_of start → ⊥) → HasKey reached (key_of at) → ⊥
unmarked_end reached at from start ends apart away there = elim (ends there) [
  | inl same ↦ apart same
  | inr same ↦ away same
]

pub invariant_of-self : goal.invariant_of-self
invariant_of-self c =
    let reached = c.self.inside.reached.items in
    let mark : Mark = record { at = c.args.at; instance = c.args.instance; over = None } in
    let few : 0 < c.self.inside.quick = some_below c.len-2.result c.self.inside.quick c.if-len-self.false in
    let absent : HasKey reached (key_of c.args.at) → ⊥ = rw c.self.view_is (unmarked_end c.args.self.now c.args.at c.args.from c.args.start c.requires.ends
    (λ same. c.if-key.false (c.key.ensures ∙ same ∙ sym c.key-2.ensures)) (λ same. c.if-key-2.false (c.key-else-key.ensures ∙ same ∙ sym c.key-else-key-2.ensures))) in
    let none : is_some c.self.inside.index ≡ false = ap is_some (c.self.invariant.1.1 few) in
    (rw (c.bit.ensures, c.key-3.ensures) (marked_few {E = Unit {0}} (λ b. index_at b.value) reached c.push_reserved.new.self.items c.self.inside.index c.self.inside.bits mark (Ok tt) none c.self.invariant.0 absent c.push_reserved.ensures.items tt), (rw c.push_reserved.ensures.capacity c.self.invariant.1.0, c.self.invariant.1.1))

pub returns-then-len-self : goal.returns-then-len-self
returns-then-len-self c = record {
  ok = c.mark_slowly.ensures.ok;
  new = c.mark_slowly.ensures.new;
  err = c.mark_slowly.ensures.err;
  distinct = c.mark_slowly.ensures.distinct;
}

pub returns-then-key : goal.returns-then-key
returns-then-key c =
    let there : HasKey c.args.self.now (key_of c.args.at) = elim c.then-key.branch [
      | then-key-via-then-key w ↦ subst (HasKey c.args.self.now) (sym c.key-2.ensures ∙ sym w.if-key.true ∙ c.key.ensures) c.requires.from
      | then-key-via-else-key+then-key-2 w ↦ subst (HasKey c.args.self.now) (sym w.key-else-key-2.ensures ∙ sym w.if-key-2.true ∙ w.key-else-key.ensures) c.requires.start
    ] in
    record {
      ok = inl (there, refl);
      new = (λ t. absurd (false≢true t), λ absent. absurd (absent there));
      err = tt;
      distinct = c.len.ensures.distinct;
    }

pub returns : goal.returns
returns c =
    let absent = unmarked_end c.args.self.now c.args.at c.args.from c.args.start c.requires.ends
    (λ same. c.if-key.false (c.key.ensures ∙ same ∙ sym c.key-2.ensures)) (λ same. c.if-key-2.false (c.key-else-key.ensures ∙ same ∙ sym c.key-else-key-2.ensures)) in
    record {
      ok = inr (absent, c.push_reserved.ensures.items ∙ ap (λ reached. reached ++ reached_by c.args.at c.args.instance None ∷ []) c.self.view_is);
      new = (λ t. absent, λ none. refl);
      err = tt;
      distinct = c.len.ensures.distinct;
    }

pub prove-unreachable-requires : goal.prove-unreachable-requires
prove-unreachable-requires c = absurd (not-le_of_lt c.if-prove.true (le_of_suc-le-suc c.len.type_inv))

pub overflow_shl-self : goal.overflow_shl-self
overflow_shl-self c = bit_below c.bit.result c.key-3.result c.bit.ensures

use Rattle.std.proofs.Common.{◌≡◌, ℕ, Bool, false, IfSome, IsTrue, List, sym, ◌∙◌, ap, subst}
use Rattle.std.specs.Int.{bit_at}
use Rattle.std.specs.Option.{option_map}
use Rattle.std.proofs.lemmas.Bool.{false≢true}
use Rattle.gm_walk.specs.declared.mark.Mark.{Mark}
use Rattle.gm_plan.specs.declared.index.Index.{Index}
use Rattle.gm_plan.specs.inner.Indices.{index_at}
use Rattle.gm_pending.specs.inner.Marks.{bit_of, AreSeen, HasDistinctKeys, HasKey, IsIndex}
use Rattle.gm_pending.proofs.on_marks.OneMoreMark.{indexed_at}
use Rattle.gm_pending.proofs.marks.Marks.decided_by.Goals as goal

-- a dart whose bit isn't set isn't marked
unseen : (reached : List Mark) (bits key : ℕ) (set : Bool) → AreSeen reached bits → (bit_at bits (bit_of key) ≡ 1 → IsTrue set) → set ≡ false → HasKey reached key → ⊥
unseen reached bits key set seen told unset (entry, among, same) = false≢true (sym unset ∙ told (subst (λ k. bit_at bits (bit_of k) ≡ 1) same (seen entry among)))

pub returns-then-not-is_set : goal.returns-then-not-is_set
returns-then-not-is_set c = record {
  instance = rw (← c.self.view_is, ← c.key-wanted.ensures) (unseen c.self.inside.reached.items c.self.inside.bits c.key-wanted.result c.is_set.result c.self.invariant.0.seen c.is_set.ensures.1 c.if-not-is_set.true);
  distinct = subst HasDistinctKeys c.self.view_is c.self.invariant.0.distinct;
}

pub returns-in-Some : goal.returns-in-Some
returns-in-Some c =
    let reached = c.self.inside.reached.items in
    let index : IsIndex reached (index_at c.in-Some.index.value) = subst (λ o. IfSome (option_map (λ b. index_at b.value) o) (IsIndex reached)) c.in-Some.is c.self.invariant.0.indexed in
    record {
      instance = rw (← c.self.view_is, ← c.key-wanted.ensures) (indexed_at reached (index_at c.in-Some.index.value) index c.key-wanted.result c.find.result (c.find.ensures ∙ ap (λ (m : Index). index_at m c.key-wanted.result) c.deref.ensures));
      distinct = subst HasDistinctKeys c.self.view_is c.self.invariant.0.distinct;
    }

pub returns-in-None : goal.returns-in-None
returns-in-None c = record {
  instance = rw (← c.self.view_is, ← c.key-wanted.ensures, ← c.deref-in-None.ensures.value) c.instance_among.ensures;
  distinct = subst HasDistinctKeys c.self.view_is c.self.invariant.0.distinct;
}

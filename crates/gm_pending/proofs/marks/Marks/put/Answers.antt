use Rattle.std.proofs.Common.{◌≡◌, ℕ, true, false, List, [], ◌∷◌, ◌++◌, Option, None, Some, IfSome, MatchOption, refl, sym, ◌∙◌, ap, subst, inl, inr, arith}
use Rattle.std.specs.Option.{is_some, option_map}
use Rattle.std.proofs.lemmas.Bool.{false≢true}
use Rattle.gm_plan.specs.declared.index.Index.{Index}
use Rattle.gm_walk.specs.declared.mark.Mark.{Mark}
use Rattle.gm_pending.specs.inner.Marks.{ByKey, AreMarked, AreSeen, HasDistinctKeys, HasKey, IsIndex}
use Rattle.gm_plan.specs.inner.Indices.{AreTheSame, IsOneMore, index_at}
use Rattle.gm_walk.specs.inner.Keys.{key_of}
use Rattle.gm_pending.proofs.on_marks.IndexRoom.{bit_below, not_quick}
use Rattle.gm_pending.proofs.on_marks.OneMoreMark.{distinct_more, put_again, put_new, seen_more}
use Rattle.gm_model.proofs.Exits.{never_ok, on_err, unless_ok}
use Rattle.gm_pending.proofs.marks.Marks.put.Goals as goal

-- the index that there is has the darts
index_kept : {B : Type 0} (by_key : B → ByKey) (index : Option B) (reached : List Mark) → IfSome (option_map by_key index) (IsIndex reached) → IfSome index (λ b. IsIndex reached (by_key b))
index_kept by_key None reached kept = tt
index_kept by_key (Some b) reached kept = kept

-- the marks stay as they were, but for the index
marks_kept : (before after : List Mark) (by_key : Option ByKey) (bits : ℕ) → after ≡ before → HasDistinctKeys before → IfSome by_key (IsIndex before) → AreSeen before bits → AreMarked after by_key bits
marks_kept before after by_key bits same distinct indexed seen = rw same (record { distinct = distinct; indexed = indexed; seen = seen })

-- an index that was taken has nothing to answer for
none_kept : {B : Type 0} (by_key : B → ByKey) (index : Option B) (reached : List Mark) → index ≡ None → IfSome (option_map by_key index) (IsIndex reached)
none_kept by_key index reached none = rw none tt

-- what it tells that the dart was put into the index that was made of the marks
module _ (reached lent : List Mark) (made held after : Index) (mark : Mark) (key : ℕ) (had : Option ℕ) (same : lent ≡ reached) (is : held ≡ made) (own : key ≡ key_of mark.at) (indexed : IsIndex lent (index_at made)) (found : had ≡ index_at held key) (was : MatchOption had (IsOneMore (index_at held) (index_at after) key mark.instance) (λ k. AreTheSame (index_at held) (index_at after))) where
  indexed_there : IsIndex reached (index_at held)
  indexed_there = subst (λ (i : Index). IsIndex reached (index_at i)) (sym is) (subst (λ marks. IsIndex marks (index_at made)) same indexed)

  again : is_some had ≡ true → HasKey reached (key_of mark.at) × IsIndex reached (index_at after)
  again some = put_again reached (index_at held) (index_at after) indexed_there mark had some (rw own at found) (rw own at was)

  fresh : is_some had ≡ false → (HasKey reached (key_of mark.at) → ⊥) × IsIndex (reached ++ mark ∷ []) (index_at after)
  fresh none = put_new reached (index_at held) (index_at after) indexed_there mark had none (rw own at found) (rw own at was)

pub invariant_of-self-then-is_some : goal.invariant_of-self-then-is_some
invariant_of-self-then-is_some c =
    let reached = c.self.inside.reached.items in
    let mark : Mark = record { at = c.args.at; instance = c.args.instance; over = c.args.over } in
    let put = again reached c.deref.result.now c.in_ok-index.index.value c.deref_mut.result.now c.put.new.self mark c.key.result c.in_ok-had.had (c.deref.ensures.value ∙ c.reserve.ensures.items) c.deref_mut.ensures.value c.key.ensures c.in_ok-index.ensures c.in_ok-had.ensures.had c.in_ok-had.ensures.put (sym c.is_some.ensures ∙ c.if-is_some.true) in
    (marks_kept reached _ _ _ c.reserve.ensures.items c.self.invariant.0.distinct put.1 c.self.invariant.0.seen, not_quick _ _)

pub invariant_of-self-2 : goal.invariant_of-self-2
invariant_of-self-2 c =
    let reached = c.self.inside.reached.items in
    let mark : Mark = record { at = c.args.at; instance = c.args.instance; over = c.args.over } in
    let put = fresh reached c.deref.result.now c.in_ok-index.index.value c.deref_mut.result.now c.put.new.self mark c.key.result c.in_ok-had.had (c.deref.ensures.value ∙ c.reserve.ensures.items) c.deref_mut.ensures.value c.key.ensures c.in_ok-index.ensures c.in_ok-had.ensures.had c.in_ok-had.ensures.put (sym c.is_some.ensures ∙ c.if-is_some.false) in
    let behind = c.push_reserved.ensures.items ∙ ap (λ (r : List Mark). r ++ mark ∷ []) c.reserve.ensures.items in (
      rw c.bit.ensures (marks_kept (reached ++ mark ∷ []) _ _ _ behind (distinct_more reached c.self.invariant.0.distinct mark put.0) put.1 (seen_more c.self.inside.bits c.key-2.result reached mark c.key-2.ensures c.self.invariant.0.seen)),
      not_quick _ _,
    )

pub invariant_of-self : goal.invariant_of-self
invariant_of-self c = (marks_kept c.self.inside.reached.items _ _ _ c.reserve.ensures.items c.self.invariant.0.distinct c.self.invariant.0.indexed c.self.invariant.0.seen, not_quick _ _)

pub index-requires : goal.index-requires
index-requires c =
    let same = c.deref.ensures.value ∙ c.reserve.ensures.items in
    record {
      distinct = subst HasDistinctKeys (sym same) c.self.invariant.0.distinct;
      index = rw (c.take.ensures.value, same) (index_kept (λ b. index_at b.value) c.self.inside.index c.self.inside.reached.items c.self.invariant.0.indexed);
    }

pub invariant_of-self-in_err-index : goal.invariant_of-self-in_err-index
invariant_of-self-in_err-index c = (marks_kept c.self.inside.reached.items _ _ _ c.reserve.ensures.items c.self.invariant.0.distinct (none_kept _ _ _ c.take.ensures.after) c.self.invariant.0.seen, not_quick _ _)

pub invariant_of-self-in_err-had : goal.invariant_of-self-in_err-had
invariant_of-self-in_err-had c = (marks_kept c.self.inside.reached.items _ _ _ c.reserve.ensures.items c.self.invariant.0.distinct (none_kept _ _ _ c.take.ensures.after) c.self.invariant.0.seen, not_quick _ _)

pub overflow_shl-self : goal.overflow_shl-self
overflow_shl-self c = bit_below c.bit.result c.key-2.result c.bit.ensures

pub push_reserved-requires : goal.push_reserved-requires
push_reserved-requires c = omega (arith, c.in_ok-reserve.ensures.ok, c.reserve.ensures.len)

pub returns-in_err-reserve : goal.returns-in_err-reserve
returns-in_err-reserve c = record {
  ok = never_ok _ c.from_residual.result c.from_residual.ensures.0;
  new = unless_ok _ c.from_residual.result c.from_residual.ensures.0;
  err = on_err c.from_residual.result (c.reserve.ensures.items ∙ c.self.view_is);
  distinct = subst HasDistinctKeys c.self.view_is c.self.invariant.0.distinct;
}

pub returns-in_err-index : goal.returns-in_err-index
returns-in_err-index c = record {
  ok = never_ok _ c.from_residual-in_err-index.result c.from_residual-in_err-index.ensures.0;
  new = unless_ok _ c.from_residual-in_err-index.result c.from_residual-in_err-index.ensures.0;
  err = on_err c.from_residual-in_err-index.result (c.reserve.ensures.items ∙ c.self.view_is);
  distinct = subst HasDistinctKeys c.self.view_is c.self.invariant.0.distinct;
}

pub returns-in_err-had : goal.returns-in_err-had
returns-in_err-had c = record {
  ok = never_ok _ c.from_residual-in_err-had.result c.from_residual-in_err-had.ensures.0;
  new = unless_ok _ c.from_residual-in_err-had.result c.from_residual-in_err-had.ensures.0;
  err = on_err c.from_residual-in_err-had.result (c.reserve.ensures.items ∙ c.self.view_is);
  distinct = subst HasDistinctKeys c.self.view_is c.self.invariant.0.distinct;
}

pub returns-then-is_some : goal.returns-then-is_some
returns-then-is_some c =
    let reached = c.self.inside.reached.items in
    let mark : Mark = record { at = c.args.at; instance = c.args.instance; over = c.args.over } in
    let put = again reached c.deref.result.now c.in_ok-index.index.value c.deref_mut.result.now c.put.new.self mark c.key.result c.in_ok-had.had (c.deref.ensures.value ∙ c.reserve.ensures.items) c.deref_mut.ensures.value c.key.ensures c.in_ok-index.ensures c.in_ok-had.ensures.had c.in_ok-had.ensures.put (sym c.is_some.ensures ∙ c.if-is_some.true) in
    let there = subst (λ (r : List Mark). HasKey r (key_of c.args.at)) c.self.view_is put.0 in
    record {
      ok = inl (there, c.reserve.ensures.items ∙ c.self.view_is);
      new = (λ t. absurd (false≢true t), λ absent. absurd (absent there));
      err = tt;
      distinct = subst HasDistinctKeys c.self.view_is c.self.invariant.0.distinct;
    }

pub returns : goal.returns
returns c =
    let reached = c.self.inside.reached.items in
    let mark : Mark = record { at = c.args.at; instance = c.args.instance; over = c.args.over } in
    let put = fresh reached c.deref.result.now c.in_ok-index.index.value c.deref_mut.result.now c.put.new.self mark c.key.result c.in_ok-had.had (c.deref.ensures.value ∙ c.reserve.ensures.items) c.deref_mut.ensures.value c.key.ensures c.in_ok-index.ensures c.in_ok-had.ensures.had c.in_ok-had.ensures.put (sym c.is_some.ensures ∙ c.if-is_some.false) in
    let absent = λ (there : HasKey c.args.self.now (key_of c.args.at)). put.0 (subst (λ (r : List Mark). HasKey r (key_of c.args.at)) (sym c.self.view_is) there) in
    record {
      ok = inr (absent, c.push_reserved.ensures.items ∙ ap (λ (r : List Mark). r ++ mark ∷ []) (c.reserve.ensures.items ∙ c.self.view_is));
      new = (λ t. absent, λ none. refl);
      err = tt;
      distinct = subst HasDistinctKeys c.self.view_is c.self.invariant.0.distinct;
    }

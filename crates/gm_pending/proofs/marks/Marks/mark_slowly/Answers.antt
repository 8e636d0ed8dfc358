use Rattle.std.proofs.Common.{refl, sym, ◌∙◌, inl, inr}
use Rattle.std.proofs.lemmas.Bool.{false≢true}
use Rattle.gm_walk.specs.inner.Keys.{key_of}
use Rattle.gm_model.proofs.Exits.{never_ok, on_err, unless_ok}
use Rattle.gm_pending.proofs.on_marks.IndexRoom.{found_marked}
use Rattle.gm_pending.proofs.on_marks.OneMoreMark.{unmarked}
use Rattle.gm_pending.proofs.marks.Marks.mark_slowly.Goals as goal

pub returns-then-is_some : goal.returns-then-is_some
returns-then-is_some c = record {
  ok = c.put.ensures.ok;
  new = c.put.ensures.new;
  err = c.put.ensures.err;
  distinct = c.put.ensures.distinct;
}

pub returns-then-is_some-2 : goal.returns-then-is_some-2
returns-then-is_some-2 c =
    let there = found_marked c.args.self.now (key_of c.args.at) c.decided_by.result (sym c.is_some-2.ensures ∙ c.if-is_some-2.true) c.decided_by.ensures.instance in
    record {
      ok = inl (there, refl);
      new = (λ t. absurd (false≢true t), λ absent. absurd (absent there));
      err = tt;
      distinct = c.decided_by.ensures.distinct;
    }

pub mark_new-requires : goal.mark_new-requires
mark_new-requires c = record { absent = unmarked c.args.self.now (key_of c.args.at) c.decided_by.result (sym c.is_some-2.ensures ∙ c.if-is_some-2.false) c.decided_by.ensures.instance }

pub returns-in_err-mark_new : goal.returns-in_err-mark_new
returns-in_err-mark_new c = record {
  ok = never_ok _ c.from_residual.result c.from_residual.ensures.0;
  new = unless_ok _ c.from_residual.result c.from_residual.ensures.0;
  err = on_err c.from_residual.result c.in_err-mark_new.ensures.err;
  distinct = c.decided_by.ensures.distinct;
}

pub returns : goal.returns
returns c =
    let absent = unmarked c.args.self.now (key_of c.args.at) c.decided_by.result (sym c.is_some-2.ensures ∙ c.if-is_some-2.false) c.decided_by.ensures.instance in
    record {
      ok = inr (absent, c.quicken.ensures ∙ c.in_ok-mark_new.ensures.ok);
      new = (λ t. absent, λ none. refl);
      err = tt;
      distinct = c.decided_by.ensures.distinct;
    }

use Rattle.std.proofs.Common.{◌<◌, refl, subst}
use Rattle.gm_model.proofs.Exits.{never_ok, on_err, unless_ok}
use Rattle.gm_pending.proofs.deciding.add_instance.Goals as goal

pub returns-then-len : goal.returns-then-len
returns-then-len c = record { added = tt; index = tt; few = tt; err = refl }

pub returns-in_err-push : goal.returns-in_err-push
returns-in_err-push c = record {
  added = never_ok _ c.from_residual.result c.from_residual.ensures.0;
  index = unless_ok _ c.from_residual.result c.from_residual.ensures.0;
  few = never_ok _ c.from_residual.result c.from_residual.ensures.0;
  err = on_err c.from_residual.result (rw c.in_err-push.ensures.err);
}

pub returns : goal.returns
returns c = record {
  added = c.in_ok-push.ensures.ok;
  index = c.len-index.ensures.value;
  few = subst (λ n. n < 4294967295) c.len.ensures.value c.if-len.false;
  err = tt;
}

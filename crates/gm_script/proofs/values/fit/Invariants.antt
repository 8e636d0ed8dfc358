use Rattle.std.proofs.Common.{◌≡◌, ◌++◌, length, take, drop}
use Rattle.std.specs.Option.{option_map}
use Rattle.gm_script.specs.inner.Comparing.{params_for}
use Rattle.gm_script.proofs.values.fit.Given as goal

abbrev pub invariant-loop-index : goal.invariant-loop-index
invariant-loop-index l = record {
  same : length l.values ≡ length l.params;
  rest : params_for l.params l.fn.values ≡ option_map (λ rest. take l.index l.values ++ rest) (params_for (drop l.index l.params) (drop l.index l.values));
}

use Rattle.std.proofs.Common.{List, ℕ, sym, subst}
use Rattle.gm_mapfile.specs.MapText.{MapText}
use Rattle.gm_mapfile.specs.inner.Printing.{renumbered}
use Rattle.gm_mapfile.proofs.Again.{printed}
use Rattle.gm_mapfile.proofs.laws.a_canonical_text_stands_for_its_map.Goals as goal

pub returns : goal.returns
returns c version map bytes printable text = subst (λ (b : List ℕ). MapText b version (renumbered version map)) (sym text.is) (printed version map printable)

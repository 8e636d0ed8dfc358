use Rattle.gm_text.proofs.Behind.{one_place}
use Rattle.gm_text.proofs.laws.one_place_behind_tokens.Goals as goal

pub returns : goal.returns
returns c = one_place

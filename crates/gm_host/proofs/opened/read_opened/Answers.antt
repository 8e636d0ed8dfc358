use Rattle.gm_host.proofs.Reading.{all_of_read, front_of_read}
use Rattle.gm_host.proofs.opened.read_opened.Goals as goal

pub returns-clause-all_bytes : goal.returns-clause-all_bytes
returns-clause-all_bytes g c = rw c.in-Ok.is (all_of_read _ _ _ c.read_within.ensures.all_bytes c.read_within.ensures.to_the_end)

pub returns-clause-first_bytes : goal.returns-clause-first_bytes
returns-clause-first_bytes g c = rw c.in-Ok.is (front_of_read _ _ _ c.read_within.ensures.first_bytes)

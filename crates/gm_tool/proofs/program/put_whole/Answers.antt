use Rattle.std.proofs.Common.{◌≡◌, ℕ, refl}
use Rattle.gm_tool.proofs.program.put_whole.Goals as goal

pub returns-in-Err-Failed-clause-no_fault : goal.returns-in-Err-Failed-clause-no_fault
returns-in-Err-Failed-clause-no_fault g c other = absurd (other refl)

pub returns-in-Err-OutOfMemory-clause-no_fault : goal.returns-in-Err-OutOfMemory-clause-no_fault
returns-in-Err-OutOfMemory-clause-no_fault g c other = rw c.in-Err-OutOfMemory.field-0-is at c.in-Err-OutOfMemory.ensures.no_fault

pub returns-in-Err-Failed-clause-enough_memory : goal.returns-in-Err-Failed-clause-enough_memory
returns-in-Err-Failed-clause-enough_memory g c never seven = absurd (let f : ◌≡◌ {A = ℕ} 6 7 = seven in cc)

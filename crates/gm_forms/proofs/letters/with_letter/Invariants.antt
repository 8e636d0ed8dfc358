use Rattle.std.proofs.Common.{◌≡◌, length, take}
use Rattle.gm_forms.proofs.letters.with_letter.Given as goal

abbrev pub invariant-loop-place : goal.invariant-loop-place
invariant-loop-place l = (length l.letters ≡ 9) × (take l.place l.letters ≡ take l.place l.word)

use Rattle.std.proofs.Common.{ℕ, ◌≡◌, ◌≢◌, ◌<◌, Some}
use Rattle.std.specs.List.{slice_get}
use Rattle.gm_model.specs.declared.word.Letter.TheVariants.{At, Gone}
use Rattle.gm_incident.proofs.structure.is_plain.Given as goal

abbrev pub invariant-loop-place : goal.invariant-loop-place
invariant-loop-place l = record {
  labels : (m : ℕ) → m < l.place → slice_get l.word m ≢ Some Gone;
  distinct : (m m' i : ℕ) → m < l.place → m' < l.place → slice_get l.word m ≡ Some (At i) → slice_get l.word m' ≡ Some (At i) → m ≡ m';
}

-- A list that was copied to the front of an array of fillers.
use Rattle.std.proofs.Common.{◌≡◌, ℕ, ◌-◌, ◌≤◌, List, ◌++◌, length, take, drop, replicate, arith, length-append}
use Rattle.std.proofs.lemmas.List.{length-replicate, drop-replicate}
use Rattle.std.proofs.Math.Seq.{drop-append_seam, take-append_seam}
use Rattle.gm_model.specs.inner.Padded.{IsPadded}

pub copied-padded : {A : Type 0} (size : ℕ) (filler : A) (items front : List A) → front ≡ items → length items ≤ size →
    IsPadded size filler (length items) (front ++ drop (length items) (replicate size filler))
copied-padded size filler items front e h =
    let spare : drop (length items) (replicate size filler) ≡ replicate (size - length items) filler = drop-replicate (length items) size filler in
    rw (e, spare) record {
      whole = rw (length-append, length-replicate) (omega arith);
      within = h;
      behind = drop-append_seam items (replicate (size - length items) filler);
    }

pub take-copied : {A : Type 0} (items front spare : List A) → front ≡ items → take (length items) (front ++ spare) ≡ items
take-copied items front spare e = rw e (take-append_seam items spare)

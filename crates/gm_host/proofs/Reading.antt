-- Bytes that a reader gave, one part after the other.
use Rattle.std.proofs.Common.{◌≡◌, ℕ, ◌+◌, ◌≤◌, List, ◌++◌, length, take, Option, Some, None, Vec, IfOk, OnOk, sym, ap, ◌∙◌, append_assoc, append-nil}
use Rattle.std.proofs.Math.Seq.{take-append-add}
use Rattle.std.proofs.lemmas.List.{take-append-le}
use Rattle.std.specs.Io.KnownBytes.{Consumes, IsAtEnd}
use Rattle.std.specs.Prelude.{Result, Ok, Err}
use Rattle.gm_host.specs.declared.fault.LoadFault.{LoadFault}
use Rattle.gm_host.specs.declared.fault.LoadFault.TheVariants.{Absent, Failed, TooLong, OutOfMemory}
use Rattle.gm_host.specs.Store.{IfTooLong}
use Rattle.gm_host.specs.inner.FileStore.{IsAllOf, IsFrontOf}

pub Consumes-append : (before between after : Option (List ℕ)) (xs ys : List ℕ)
    → Consumes before between xs → Consumes between after ys → Consumes before after (xs ++ ys)
Consumes-append None between after xs ys p q = tt
Consumes-append (Some bs) None after xs ys p q = absurd p
Consumes-append (Some bs) (Some cs) None xs ys p q = absurd q
Consumes-append (Some bs) (Some cs) (Some ds) xs ys p q = p ∙ ap (λ rest. xs ++ rest) q ∙ sym (append_assoc xs ys ds)

-- what a read put behind the front is appended to it, as far as it goes
pub read_behind : (front now part rest : List ℕ) (held count : ℕ) → length front ≡ held → take held now ≡ front → count ≤ length part
    → take (held + count) (take held now ++ (part ++ rest)) ≡ front ++ take count part
read_behind front now part rest held count long same fits =
    ap (λ xs. take (held + count) (xs ++ (part ++ rest))) same ∙ ap (λ k. take (k + count) (front ++ (part ++ rest))) (sym long)
    ∙ take-append-add front (part ++ rest) count ∙ ap (λ xs. front ++ xs) (take-append-le count part rest fits)

consumed_to_the_end : (before after : Option (List ℕ)) (bytes : List ℕ)
    → Consumes before after bytes → IsAtEnd after → IsAllOf before bytes
consumed_to_the_end None after bytes p q = tt
consumed_to_the_end (Some bs) None bytes p q = absurd p
consumed_to_the_end (Some bs) (Some cs) bytes p q = sym (p ∙ ap (λ rest. bytes ++ rest) q ∙ append-nil bytes)

consumed_at_the_front : (before after : Option (List ℕ)) (bytes : List ℕ) → Consumes before after bytes → IsFrontOf before bytes
consumed_at_the_front None after bytes p = tt
consumed_at_the_front (Some bs) None bytes p = absurd p
consumed_at_the_front (Some bs) (Some cs) bytes p = (cs, p)

module _ {E A : Type 0} where
  -- what a read to the end gave is all that was left
  pub all_of_read : (answer : Result (Vec ℕ A) E) (before after : Option (List ℕ))
      → IfOk answer (λ bytes. Consumes before after bytes.items) → OnOk answer (IsAtEnd after) → IfOk answer (λ bytes. IsAllOf before bytes.items)
  all_of_read (Ok bytes) before after p q = consumed_to_the_end before after bytes.items p q
  all_of_read (Err e) before after p q = tt

-- what was seen of a file that is too long stands at the front of what was left
pub front_of_read : {T : Type 0} (answer : Result T LoadFault) (before after : Option (List ℕ))
    → IfTooLong answer (λ seen. Consumes before after seen) → IfTooLong answer (λ seen. IsFrontOf before seen)
front_of_read (Err (TooLong seen)) before after p = consumed_at_the_front before after seen p
front_of_read (Err Absent) before after p = tt
front_of_read (Err Failed) before after p = tt
front_of_read (Err OutOfMemory) before after p = tt
front_of_read (Ok bytes) before after p = tt

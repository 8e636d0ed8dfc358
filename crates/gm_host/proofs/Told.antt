-- What is said of an answer, by what kind of answer it is.
use Rattle.std.proofs.Common.{◌≡◌, ℕ, inl, inr, true, false, List, Vec, sym, arith}
use Rattle.std.specs.Prelude.{Result, Ok, Err, OnOk, IfOk, is_err}
use Rattle.std.proofs.lemmas.Bool.{cases_lt, false≢true}
use Rattle.gm_host.specs.Count.{counted, Rises}
use Rattle.gm_host.specs.Saves as saves
use Rattle.gm_host.specs.Store.{untold, IsHeld, IsCutFromHeld, IsAbsent, IsFailed, OnAbsent, OnFailed, IfTooLong}
use Rattle.gm_host.specs.declared.fault.LoadFault.{LoadFault}
use Rattle.gm_host.specs.declared.fault.LoadFault.TheVariants.{Absent, Failed, TooLong, OutOfMemory}
use Rattle.gm_host.specs.declared.fault.SaveFault.{SaveFault}
use Rattle.gm_host.specs.declared.fault.SaveFault.TheVariants as faults

pub rises : (before after : ℕ) → after ≡ counted before → Rises before after
rises before after is = elim (cases_lt before after) [
  | inl more ↦ inl more
  | inr last ↦ inr (omega (arith, is, last))
]

-- ---- any answer

module _ {T E : Type 0} where
  pub on_ok : {P : Type 0} (answer : Result T E) → P → OnOk answer P
  on_ok (Ok x) p = p
  on_ok (Err e) p = tt

  pub unless_err : (P : Type 0) (answer : Result T E) → is_err answer ≡ true → OnOk answer P
  unless_err P (Ok x) is = absurd (false≢true is)
  unless_err P (Err e) is = tt

-- ---- loads

module _ {T : Type 0} where
  pub unless_absent : (P : Type 0) (answer : Result T LoadFault) → (IsAbsent answer → ⊥) → OnAbsent answer P
  unless_absent P (Ok x) never = tt
  unless_absent P (Err Absent) never = absurd (never tt)
  unless_absent P (Err Failed) never = tt
  unless_absent P (Err (TooLong seen)) never = tt
  unless_absent P (Err OutOfMemory) never = tt

  pub on_failed : {P : Type 0} (answer : Result T LoadFault) → P → OnFailed answer P
  on_failed (Ok x) p = tt
  on_failed (Err Absent) p = tt
  on_failed (Err Failed) p = p
  on_failed (Err (TooLong seen)) p = tt
  on_failed (Err OutOfMemory) p = tt

  pub not_ok : (P : Type 0) (answer : Result T LoadFault) → IsFailed answer → OnOk answer P
  not_ok P (Ok x) failed = absurd failed
  not_ok P (Err e) failed = tt

  pub unless_failing : (P : Type 0) (answer : Result T LoadFault) → (IsFailed answer → ⊥) → OnFailed answer P
  unless_failing P (Ok x) never = tt
  unless_failing P (Err Absent) never = tt
  unless_failing P (Err Failed) never = absurd (never tt)
  unless_failing P (Err (TooLong seen)) never = tt
  unless_failing P (Err OutOfMemory) never = tt

pub held_untold : {A : Type 0} (answer : Result (Vec ℕ A) LoadFault) (name : List ℕ) → IfOk answer (λ bytes. IsHeld untold name bytes.items)
held_untold (Ok bytes) name = tt
held_untold (Err e) name = tt

pub cut_untold : {T : Type 0} (answer : Result T LoadFault) (name : List ℕ) (limit : ℕ) → IfTooLong answer (IsCutFromHeld untold name limit)
cut_untold (Ok x) name limit = tt
cut_untold (Err Absent) name limit = tt
cut_untold (Err Failed) name limit = tt
cut_untold (Err (TooLong seen)) name limit = tt
cut_untold (Err OutOfMemory) name limit = tt

-- ---- saves

module _ {T : Type 0} where
  pub on_failed_save : {P : Type 0} (answer : Result T SaveFault) → P → saves.OnFailed answer P
  on_failed_save (Ok x) p = tt
  on_failed_save (Err faults.Failed) p = p
  on_failed_save (Err faults.OutOfMemory) p = tt

  pub unless_failed_save : (P : Type 0) (answer : Result T SaveFault) → is_err answer ≡ false → saves.OnFailed answer P
  unless_failed_save P (Ok x) is = tt
  unless_failed_save P (Err e) is = absurd (false≢true (sym is))

  pub unless_unmade : (P : Type 0) (answer : Result T SaveFault) → (saves.IsOutOfMemory answer → ⊥) → saves.OnOutOfMemory answer P
  unless_unmade P (Ok x) never = tt
  unless_unmade P (Err faults.Failed) never = tt
  unless_unmade P (Err faults.OutOfMemory) never = absurd (never tt)

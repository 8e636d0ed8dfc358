-- A test that agrees with another below a count has the same first fault.
use Rattle.std.proofs.Common.{ℕ, ◌<◌, arith}
use Rattle.gm_model.specs.declared.rule.RuleFault.{RuleFault}
use Rattle.gm_model.specs.Structure.{AreGood}
use Rattle.gm_incident.specs.inner.Faults.{IsFirstFault}

module _ (P Q : ℕ → Type 0) (count : ℕ) (to : (i : ℕ) → i < count → P i → Q i) where
  pub good_moved : AreGood P count → AreGood Q count
  good_moved h = λ i b. to i b (h i b)

  pub fault_moved : (from : (i : ℕ) → i < count → Q i → P i) (made : ℕ → RuleFault) (fault : RuleFault) → IsFirstFault P count made fault → IsFirstFault Q count made fault
  fault_moved from made fault h = record {
    bad = h.bad;
    first = record {
      within = h.first.within;
      fails = λ q. h.first.fails (from h.bad h.first.within q);
      before = λ i b. let within : i < count = omega (arith, h.first.within) in to i within (h.first.before i b);
    };
    is = h.is;
  }

use Rattle.std.proofs.Common.{◌≡◌, ℕ, ◌-◌, ◌≤◌, ◌++◌, Bool, false, List, sym, ap, ◌∙◌, arith, length, replicate, vec_capacity}
use Rattle.std.proofs.lemmas.Bool.{false≢true}
use Rattle.std.proofs.lemmas.List.{append-nil, length-append, length-replicate}
use Rattle.gm_arena.specs.inner.Inside.{no_slot}
use Rattle.gm_arena.specs.inner.Listing.{even, listing}
use Rattle.gm_arena.proofs.ListingLemmas.{even_padded, length-listing}
use Rattle.gm_model.proofs.Exits.{never_ok, on_err}
use Rattle.gm_arena.proofs.table.Table.pad.Goals as goal
use Rattle.gm_arena.proofs.table.Table.pad.Goals.{then-self+in_ok-pad_slots, else-self+in_ok-reserve}

-- what the table has, where it lists no slot
unlisted : (listed : Bool) (slots : List ℕ) (taken len : ℕ) (seen : List ℕ) → listing listed slots taken len ≡ seen → listed ≡ false → seen ≡ even taken len
unlisted listed slots taken len seen view none = sym view ∙ ap (λ b. listing b slots taken len) none

nothing : (names : ℕ) (seen : List ℕ) → names ≤ length seen → seen ≡ seen ++ replicate (names - length seen) no_slot
nothing names seen below = sym (ap (λ n. seen ++ replicate n no_slot) (none names (length seen) below) ∙ append-nil seen)
  where
    none : (names long : ℕ) → names ≤ long → names - long ≡ 0
    none names long below = omega (arith, below)

pub returns-then-names-self-clause-ok : goal.returns-then-names-self-clause-ok
returns-then-names-self-clause-ok c = nothing c.args.names c.args.self.now (omega (arith, c.if-names-self.true, ap length c.self.view_is, length-listing c.self.inside.is_listed c.self.inside.slots.items (vec_capacity c.self.inside.slots) c.self.inside.taken c.self.inside.len c.self.invariant))

pub returns-then-names-self-clause-len : goal.returns-then-names-self-clause-len
returns-then-names-self-clause-len c = omega (arith, c.if-names-self.true, ap length c.self.view_is, length-listing c.self.inside.is_listed c.self.inside.slots.items (vec_capacity c.self.inside.slots) c.self.inside.taken c.self.inside.len c.self.invariant)

pub returns-clause-ok : goal.returns-clause-ok
returns-clause-ok c =
    let s = c.self.inside in
    let names = c.args.names in
    let long = sym (ap length c.self.view_is) ∙ length-listing s.is_listed s.slots.items (vec_capacity s.slots) s.taken s.len c.self.invariant in
    elim c.if-self.branch [
      | then-self+in_ok-pad_slots w ↦
          ap (λ t. listing t.is_listed t.slots.items t.taken names) w.self-inside-is
          ∙ (ap (λ b. listing b w.pad_slots.new.slots.items s.taken names) w.if-self.true
          ∙ (w.in_ok-pad_slots.ensures.ok
          ∙ ap (λ xs. xs ++ replicate (names - length xs) no_slot) (sym (ap (λ b. listing b s.slots.items s.taken s.len) w.if-self.true) ∙ c.self.view_is)))
      | else-self+in_ok-reserve w ↦
          ap (λ t. listing t.is_listed t.slots.items t.taken names) w.self-inside-is
          ∙ (ap (λ b. listing b w.reserve.new.self.items s.taken names) w.if-self.false
          ∙ (even_padded s.taken s.len names (c.self.invariant.few w.if-self.false) (omega (arith, c.if-names-self.false))
          ∙ (ap (λ xs. xs ++ replicate (names - s.len) no_slot) (sym (unlisted s.is_listed s.slots.items s.taken s.len c.args.self.now c.self.view_is w.if-self.false))
          ∙ ap (λ n. c.args.self.now ++ replicate (names - n) no_slot) (sym long))))
    ]

pub returns-clause-len : goal.returns-clause-len
returns-clause-len c = ap length (returns-clause-ok c) ∙ omega (arith, length-append c.args.self.now (replicate (c.args.names - length c.args.self.now) no_slot), length-replicate (c.args.names - length c.args.self.now) no_slot)

pub returns-then-names-self-clause-err : goal.returns-then-names-self-clause-err
returns-then-names-self-clause-err c = tt

pub returns-in_err-pad_slots-clause-ok : goal.returns-in_err-pad_slots-clause-ok
returns-in_err-pad_slots-clause-ok c = never_ok _ c.from_residual.result c.from_residual.ensures.0

pub returns-in_err-pad_slots-clause-len : goal.returns-in_err-pad_slots-clause-len
returns-in_err-pad_slots-clause-len c = never_ok _ c.from_residual.result c.from_residual.ensures.0

pub returns-in_err-reserve-clause-ok : goal.returns-in_err-reserve-clause-ok
returns-in_err-reserve-clause-ok c = never_ok _ c.from_residual-in_err-reserve.result c.from_residual-in_err-reserve.ensures.0

pub returns-in_err-reserve-clause-len : goal.returns-in_err-reserve-clause-len
returns-in_err-reserve-clause-len c = never_ok _ c.from_residual-in_err-reserve.result c.from_residual-in_err-reserve.ensures.0

pub returns-clause-err : goal.returns-clause-err
returns-clause-err c = tt

pub invariant_of-self : goal.invariant_of-self
invariant_of-self c =
    let same = c.in_err-pad_slots.ensures.err in
    record {
      long = λ e. ap length same ∙ c.self.invariant.long e;
      none = λ e. absurd (false≢true (sym e ∙ c.if-self.true));
      few = c.self.invariant.few;
      room = λ e. absurd (false≢true (sym e ∙ c.if-self.true));
    }

pub invariant_of-self-in_err-reserve : goal.invariant_of-self-in_err-reserve
invariant_of-self-in_err-reserve c =
    let kept = c.in_err-reserve.ensures in
    record {
      long = λ e. ap length kept.items ∙ c.self.invariant.long e;
      none = λ e. kept.items ∙ c.self.invariant.none e;
      few = c.self.invariant.few;
      room = λ e. omega (arith, kept.err, c.self.invariant.room e);
    }

pub invariant_of-self-2 : goal.invariant_of-self-2
invariant_of-self-2 c =
    elim c.if-self.branch [
      | then-self+in_ok-pad_slots w ↦ rw w.self-inside-is (record {
        long = λ e.
            let old = c.self.inside.slots.items in
            let more = replicate (c.args.names - length old) no_slot in
            omega (arith, ap length w.in_ok-pad_slots.ensures.ok, length-append old more, length-replicate (c.args.names - length old) no_slot, c.self.invariant.long e, c.if-names-self.false);
        none = λ e. absurd (false≢true (sym e ∙ w.if-self.true));
        few = λ e. absurd (false≢true (sym e ∙ w.if-self.true));
        room = λ e. absurd (false≢true (sym e ∙ w.if-self.true));
      })
      | else-self+in_ok-reserve w ↦ rw w.self-inside-is (record {
        long = λ e. absurd (false≢true (sym w.if-self.false ∙ e));
        none = λ e. w.in_ok-reserve.ensures.items ∙ c.self.invariant.none e;
        few = λ e. omega (arith, c.self.invariant.few e, c.if-names-self.false);
        room = λ e. omega (arith, w.in_ok-reserve.ensures.ok);
      })
    ]

pub returns-in_err-pad_slots-clause-err : goal.returns-in_err-pad_slots-clause-err
returns-in_err-pad_slots-clause-err c = on_err c.from_residual.result (rw c.in_err-pad_slots.ensures.err c.self.view_is)

pub returns-in_err-reserve-clause-err : goal.returns-in_err-reserve-clause-err
returns-in_err-reserve-clause-err c = on_err c.from_residual-in_err-reserve.result (rw c.in_err-reserve.ensures.items c.self.view_is)

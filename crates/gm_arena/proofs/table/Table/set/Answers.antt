use Rattle.std.proofs.Common.{◌≡◌, ℕ, ◌+◌, ◌<◌, Bool, false, List, sym, ap, ◌∙◌, arith, length}
use Rattle.std.specs.Prelude.{slice_set}
use Rattle.std.proofs.lemmas.List.{length-set}
use Rattle.std.proofs.lemmas.Bool.{and_parts, eqb-true, false≢true}
use Rattle.gm_arena.specs.inner.Listing.{listing}
use Rattle.gm_arena.proofs.ListingLemmas.{even_more, is_listed, length-even, length-listing}
use Rattle.gm_arena.proofs.table.Table.set.Goals as goal
use Rattle.gm_arena.proofs.table.Table.set.Goals.{then-not-self+else-slot-name, else-not-self}

-- the next name, with the slot of its own number
next : (listed : Bool) (slots : List ℕ) (taken len : ℕ) (seen : List ℕ) (name slot : ℕ) → listing listed slots taken len ≡ seen → listed ≡ false → slot ≡ name → name ≡ taken → taken < len
    → listing listed slots (taken + 1) len ≡ slice_set seen name slot
next listed slots taken len seen name slot view none own last below =
    let at : slot ≡ taken = own ∙ last in
    ap (λ b. listing b slots (taken + 1) len) none
    ∙ (sym (even_more taken len below)
    ∙ (ap (λ xs. slice_set xs taken taken) (sym (ap (λ b. listing b slots taken len) none) ∙ view)
    ∙ (ap (λ n. slice_set seen n taken) (sym last) ∙ ap (λ v. slice_set seen name v) (sym at))))

pub invariant_of-self : goal.invariant_of-self
invariant_of-self c =
    let long = length-listing _ _ _ _ _ c.self.invariant in
    record {
      long = λ told. absurd (false≢true (sym c.if-not-self.true ∙ told));
      none = c.self.invariant.none;
      few = λ none. omega (arith, eqb-true c.args.name c.self.inside.taken (and_parts _ _ c.if-slot-name.true).1, c.requires.reserved, ap length c.self.view_is, long);
      room = c.self.invariant.room;
    }

pub returns-then-slot-name : goal.returns-then-slot-name
returns-then-slot-name c =
    let s = c.self.inside in
    let same = and_parts _ _ c.if-slot-name.true in
    let long = length-listing _ _ _ _ _ c.self.invariant in
    next s.is_listed s.slots.items s.taken s.len c.args.self.now c.args.name c.args.slot c.self.view_is c.if-not-self.true (eqb-true _ _ same.0) (eqb-true _ _ same.1)
    (omega (arith, eqb-true c.args.name s.taken same.1, c.requires.reserved, ap length c.self.view_is, long))

pub invariant_of-self-2 : goal.invariant_of-self-2
invariant_of-self-2 c =
    elim c.if-not-self.branch [
      | then-not-self+else-slot-name w ↦
          is_listed _ _ _ _ _ (ap (λ s. s.is_listed) w.self-inside-is)
          (length-set _ c.args.name c.args.slot
          ∙ (ap (λ s. length s.slots.items) w.self-inside-is
          ∙ (ap length w.list_slots.ensures
          ∙ (length-even c.self.inside.taken c.self.inside.len (c.self.invariant.few w.if-not-self.true)
          ∙ sym (ap (λ s. s.len) w.self-inside-is)))))
      | else-not-self w ↦
          is_listed _ _ _ _ _ (ap (λ s. s.is_listed) w.self-inside-is ∙ w.if-not-self.false)
          (length-set _ c.args.name c.args.slot
          ∙ (ap (λ s. length s.slots.items) w.self-inside-is
          ∙ (c.self.invariant.long w.if-not-self.false
          ∙ sym (ap (λ s. s.len) w.self-inside-is))))
    ]

use Rattle.std.proofs.Common.{◌≡◌, ℕ, Bool, false, List, sym, ap, ◌∙◌}
use Rattle.gm_arena.specs.inner.Inside.{slot_in}
use Rattle.gm_arena.specs.inner.Listing.{even, listing}
use Rattle.gm_arena.proofs.ListingLemmas.{slot_taken, slot_free}
use Rattle.gm_arena.proofs.table.Table.slot.Goals as goal

unlisted : (listed : Bool) (slots : List ℕ) (taken len name : ℕ) (seen : List ℕ) → listing listed slots taken len ≡ seen → listed ≡ false → slot_in seen name ≡ slot_in (even taken len) name
unlisted listed slots taken len name seen view none = ap (λ xs. slot_in xs name) (sym view ∙ ap (λ b. listing b slots taken len) none)

pub returns-then-name-self : goal.returns-then-name-self
returns-then-name-self c =
    let s = c.self.inside in
    sym (unlisted s.is_listed s.slots.items s.taken s.len c.args.name c.args.self.now c.self.view_is c.if-self.false ∙ slot_taken s.taken s.len c.args.name c.if-name-self.true)

pub returns-else-name-self : goal.returns-else-name-self
returns-else-name-self c =
    let s = c.self.inside in
    sym (unlisted s.is_listed s.slots.items s.taken s.len c.args.name c.args.self.now c.self.view_is c.if-self.false ∙ slot_free s.taken s.len c.args.name c.if-name-self.false)

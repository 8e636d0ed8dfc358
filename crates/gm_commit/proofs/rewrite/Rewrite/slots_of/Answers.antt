use Rattle.std.proofs.Common.{◌≡◌, ℕ, ◌+◌, ◌*◌, ◌<◌, ◌≤◌, ap, ◌∙◌, le-add_right, arith}
use Rattle.std.proofs.lemmas.Nat.{mul-le}
use Rattle.gm_commit.specs.inner.InstanceEdits.{RewriteRows, told_by}
use Rattle.gm_commit.proofs.on_rewrite.SlotTable.{part_within, part_at}
use Rattle.gm_commit.proofs.rewrite.Rewrite.slots_of.Goals as goal

pub slice_bounds-result-end : goal.slice_bounds-result-end
slice_bounds-result-end c =
    let is : c.positions-positions.result ≡ c.args.self.now.placed.positions = c.positions-positions.ensures.value ∙ ap (λ (r : RewriteRows). r.placed.positions) c.self.view_is in
    part_within (told_by c.args.self.now) c.args.slots.now c.requires.slots c.args.node c.positions-positions.result is c.requires.made (omega (arith, c.positions-positions.ensures.some, c.positions-positions.ensures.value))

pub returns-clause-slots : goal.returns-clause-slots
returns-clause-slots c =
    let is : c.positions-positions.result ≡ c.args.self.now.placed.positions = c.positions-positions.ensures.value ∙ ap (λ (r : RewriteRows). r.placed.positions) c.self.view_is in
    part_at (told_by c.args.self.now) c.args.slots.now c.requires.slots c.args.node c.positions-positions.result is c.requires.made

-- the slots of a node begin and end within all numbers
few_slots : (node positions : ℕ) → node < 256 → positions < 4294967296 → node * positions + positions < 1099511627776
few_slots node positions few most =
    let less : (node + 1) * positions ≤ 256 * 4294967295 = mul-le (node + 1) positions 256 4294967295 (omega arith) (omega arith) in
    let one : (node + 1) * positions ≡ node * positions + positions = grind arith in
    omega (arith, less, one)

starts_within : (node positions : ℕ) → node * positions + positions < 1099511627776 → node * positions < 18446744073709551616
starts_within node positions few = omega arith

ends_within : (node positions : ℕ) → node * positions + positions < 1099511627776 → node * positions + positions < 18446744073709551616
ends_within node positions few = omega arith

pub overflow_mul-start : goal.overflow_mul-start
overflow_mul-start c = record { fits = starts_within _ _ (few_slots c.args.node c.positions-positions.result c.ranges.node.fits c.positions-positions.type_inv) }

pub overflow_add-result : goal.overflow_add-result
overflow_add-result c = record { fits = ends_within _ _ (few_slots c.args.node c.positions-positions.result c.ranges.node.fits c.positions-positions.type_inv) }

pub slice_bounds-result-count : goal.slice_bounds-result-count
slice_bounds-result-count c = le-add_right _ _

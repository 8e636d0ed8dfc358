-- The edits of an application, node by node, label by label and position by position: they are told by what its rule changes and its instances alone. No public clause cites this module.
use Rattle.std.specs.Prelude.{◌≡◌, ℕ, zero, suc, ◌+◌, ◌-◌, ◌*◌, ◌<◌, ◌≤◌, if◌then◌else◌, nat_lt, Bool, false, IsTrue, slice_get, List, [], ◌∷◌, ◌++◌, drop, length, Option, Some, None, slice_index_or}
use Rattle.std.specs.Option.{option_map}
use Rattle.gm_model.specs.declared.step.Step.{Step}
use Rattle.gm_model.specs.declared.step.Step.TheVariants.{Absent, Exp, Imp}
use Rattle.gm_model.specs.Rules.{is_removed}
use Rattle.gm_arena.specs.declared.slot.Slot.{Slot}
use Rattle.gm_plan.specs.inner.Changes as changes
use Rattle.gm_plan.specs.inner.Placed.{Placed, turn_at}
use Rattle.gm_plan.specs.inner.Searches.{row_step}
use Rattle.gm_commit.specs.inner.Arcs.{Arc}
use Rattle.gm_commit.specs.inner.Arcs.{End}
use Rattle.gm_commit.specs.inner.Arcs.End.{Old, New}
use Rattle.gm_commit.specs.declared.rewrite.Arcs.{Arcs}
use Rattle.gm_commit.specs.declared.rewrite.Arcs.TheVariants.{Freed, Made}
use Rattle.gm_pending.specs.inner.Results.{PendingOf, rule_in}

module _ {A : Type 0} where
  abbrev pub as_list : Option A → List A
  as_list None = []
  as_list (Some x) = x ∷ []

  -- the lists of 0 up to the bound, one after another
  abbrev pub concat_below : (ℕ → List A) → ℕ → List A
  concat_below f zero = []
  concat_below f (suc n) = concat_below f n ++ f n

abbrev pub slot_in : Placed → ℕ → ℕ → Slot
slot_in placed x p = slice_index_or placed.slots (p * placed.nodes + x) (record { at = 0 })

-- ---- what the edits are told by

-- what a rule changes, at its instances, in a map of this dimension
pub record RewriteOf : Type 0 where
  pub dim : ℕ
  -- how many nodes the rule has
  pub nodes : ℕ
  -- which of them are removed
  pub goes : ℕ → Bool
  -- a left step, where it leads to darts that are removed
  pub freed_step : ℕ → ℕ → Step
  -- a right step, unless it is the same on the left
  pub made_step : ℕ → ℕ → Step
  pub placed : Placed

abbrev pub rewrite_of : PendingOf → RewriteOf
rewrite_of app = record {
  dim = app.map.schema.dim;
  nodes = length (rule_in app).nodes;
  goes = is_removed (rule_in app);
  freed_step = changes.freed_step (rule_in app);
  made_step = changes.made_step (rule_in app);
  placed = app.placed;
}

-- the same in rows, with a row of steps for each node
pub record RewriteRows : Type 0 where
  pub dim : ℕ
  -- whether some node is removed
  pub removes : Bool
  -- bit x stands for node x
  pub goes : ℕ
  pub freed : List (List Step)
  pub made : List (List Step)
  pub placed : Placed

abbrev pub rows_at : ℕ → Bool → ℕ → List (List Step) → List (List Step) → Placed → RewriteRows
rows_at dim removes goes freed made placed = record { dim = dim; removes = removes; goes = goes; freed = freed; made = made; placed = placed }

abbrev pub told_by : RewriteRows → RewriteOf
told_by rows = record {
  dim = rows.dim;
  nodes = length rows.made;
  goes = changes.has_bit rows.goes;
  freed_step = row_step rows.freed;
  made_step = row_step rows.made;
  placed = rows.placed;
}

-- what tells the same of each node at each label, at the same instances
pub record AreAlike (a b : RewriteOf) : Type 0 where
  pub dim : a.dim ≡ b.dim
  pub nodes : a.nodes ≡ b.nodes
  pub placed : a.placed ≡ b.placed
  pub goes : (x : ℕ) → x < a.nodes → a.goes x ≡ b.goes x
  pub freed : (x i : ℕ) → x < a.nodes → i ≤ a.dim → a.freed_step x i ≡ b.freed_step x i
  pub made : (x i : ℕ) → x < a.nodes → i ≤ a.dim → a.made_step x i ≡ b.made_step x i

-- there are rows for all nodes, and what they tell lies at the instances
pub record IsFitted (rows : RewriteRows) : Type 0 where
  pub few : rows.dim ≤ 7
  pub few_nodes : length rows.made ≤ 32
  pub freed_long : length rows.freed ≡ length rows.made
  pub freed_rows : (x : ℕ) (row : List Step) → slice_get rows.freed x ≡ Some row → length row ≡ 8
  pub made_rows : (x : ℕ) (row : List Step) → slice_get rows.made x ≡ Some row → length row ≡ 8
  -- the nodes that are removed have slots, and steps turn at places
  pub left : (x : ℕ) → x < length rows.made → IsTrue (changes.has_bit rows.goes x) → x < rows.placed.nodes
  pub places : (x i m : ℕ) → x < length rows.made → i ≤ rows.dim → row_step rows.made x i ≡ Imp m → m < rows.placed.places
  -- where no node is removed, nothing is freed
  pub none_goes : rows.removes ≡ false → (x : ℕ) → x < length rows.made → changes.has_bit rows.goes x ≡ false
  pub none_freed : rows.removes ≡ false → (x i : ℕ) → x < length rows.made → i ≤ rows.dim → row_step rows.freed x i ≡ Absent

-- ---- the edits

module _ (rewrite : RewriteOf) where
  -- the end of node x at position p: the left nodes come first, and the others are added
  abbrev pub end_of : ℕ → ℕ → End
  end_of x p = if nat_lt x rewrite.placed.nodes then Old (slot_in rewrite.placed x p) else New ((x - rewrite.placed.nodes) * rewrite.placed.positions + p)

  -- the step whose arcs are written
  abbrev pub written_step : Arcs → ℕ → ℕ → Step
  written_step Freed x i = rewrite.freed_step x i
  written_step Made x i = rewrite.made_step x i

  -- the instance to which the arc of such a step of node x leads at position p
  abbrev pub leads_to : Arcs → ℕ → ℕ → Step → Option (ℕ × ℕ)
  leads_to Freed x p Absent = None
  leads_to Freed x p (Exp y) = Some (x, p)
  leads_to Freed x p (Imp m) = Some (x, p)
  leads_to Made x p Absent = None
  leads_to Made x p (Exp y) = Some (y, p)
  leads_to Made x p (Imp m) = Some (x, turn_at rewrite.placed p m)

  -- the arc from an instance to another
  abbrev pub arc_between : ℕ → ℕ → ℕ → ℕ × ℕ → Arc
  arc_between x p i to = record { from = end_of x p; label = i; to = end_of to.0 to.1 }

  -- the arcs from node x, at each position to this instance
  abbrev pub arcs_to : ℕ → ℕ → (ℕ → ℕ × ℕ) → List Arc
  arcs_to x i to = concat_below (λ p. arc_between x p i (to p) ∷ []) rewrite.placed.positions

  abbrev pub arc_by : Arcs → ℕ → ℕ → ℕ → Step → Option Arc
  arc_by arcs x p i s = option_map (arc_between x p i) (leads_to arcs x p s)

  abbrev pub arc_at : Arcs → ℕ → ℕ → ℕ → Option Arc
  arc_at arcs x i p = arc_by arcs x p i (written_step arcs x i)

  abbrev pub removed_at : ℕ → ℕ → Option Slot
  removed_at x p = if rewrite.goes x then Some (slot_in rewrite.placed x p) else None

  abbrev pub labels : ℕ
  labels = rewrite.dim + 1

  -- of one node at one label
  abbrev pub arcs_at : Arcs → ℕ → ℕ → List Arc
  arcs_at arcs x i = concat_below (λ p. as_list (arc_at arcs x i p)) rewrite.placed.positions

  abbrev pub removed_of : ℕ → ℕ → List Slot
  removed_of x p = as_list (removed_at x p)

  -- of one node
  abbrev pub arcs_in : Arcs → ℕ → List Arc
  arcs_in arcs x = concat_below (arcs_at arcs x) labels

  abbrev pub removed_in : ℕ → List Slot
  removed_in x = concat_below (removed_of x) rewrite.placed.positions

  -- of all nodes
  abbrev pub all_arcs : Arcs → List Arc
  all_arcs arcs = concat_below (arcs_in arcs) rewrite.nodes

  abbrev pub all_removed : List Slot
  all_removed = concat_below removed_in rewrite.nodes

  -- ---- the table of slots: those of the left nodes, by node and then by position, and after them those of the new darts by their number

  abbrev pub left_slots_of : ℕ → List Slot
  left_slots_of x = concat_below (λ p. slot_in rewrite.placed x p ∷ []) rewrite.placed.positions

  abbrev pub left_slots : List Slot
  left_slots = concat_below left_slots_of rewrite.placed.nodes

  -- the slots of the new darts in the table
  abbrev pub made_in : List Slot → List Slot
  made_in slots = drop (length left_slots) slots

  abbrev pub AreSlots : List Slot → Type 0
  AreSlots slots = slots ≡ left_slots ++ made_in slots

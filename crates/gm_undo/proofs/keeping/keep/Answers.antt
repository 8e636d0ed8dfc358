use Rattle.std.proofs.Common.{◌≡◌, ℕ, ◌+◌, ◌<◌, ◌≤◌, List, length}
use Rattle.gm_arena.specs.inner.ArenaMap.{IsLiveName}
use Rattle.gm_model.specs.declared.schema.Schema.{Schema}
use Rattle.gm_arena.specs.declared.slot.Slot.{Slot}
use Rattle.gm_undo.specs.inner.Keeping.{AreAddedKept, AreBehindKept, AreTouchedKept}
use Rattle.gm_undo.specs.inner.Standing.{rows_in}
use Rattle.std.specs.List.{Contains}
use Rattle.std.proofs.Common.{◌≢◌, sym, ap, subst, ◌∙◌}
use Rattle.gm_arena.specs.inner.ArenaMap.{ArenaMap, name_at}
use Rattle.std.specs.FinMap.{get}
use Rattle.gm_undo.specs.inner.Flat.{row_in}
use Rattle.gm_commit.specs.inner.EditLists.{IsResultOf, cost_of}
use Rattle.gm_undo.proofs.Leads.{added_live, added_only, front_kept, sides}
use Rattle.gm_undo.proofs.Ranges.{sides_of}
use Rattle.std.proofs.Math.Nat.{le_refl, le_trans}
use Rattle.std.proofs.Common.{refl, ◌*◌, ◌-◌}
use Rattle.gm_undo.proofs.Sums.{at_least, behind_rows, darts_stay, kept_cost, kept_least, less_in, no_less, room_behind, room_first, room_last, rows_few}
use Rattle.gm_undo.proofs.keeping.keep.Goals as goal

pub keep_touched-requires-clause-live : goal.keep_touched-requires-clause-live
keep_touched-requires-clause-live g c slot among = c.requires.ready.1.touched.live slot (subst (λ (l : List Slot). Contains l slot) c.touched.ensures among)

pub keep_added-requires-clause-live : goal.keep_added-requires-clause-live
keep_added-requires-clause-live g c number h =
    let here = c.requires.ready.1.here in
    let app = here.0 in
    let next : app.map.next ≡ c.args.arena.now.next = sym (ap (λ (m : ArenaMap). m.next) here.1) in
    let result : IsResultOf app c.commit.new.arena = c.commit.ensures.unfolded app here.1 here.2 in
    let added : c.applied-added.result.added ≡ c.args.edits.lists.added = c.applied-added.ensures.added in
    let live = added_live app c.args.edits.lists here.2 c.commit.new.arena result number (subst (λ n. number < n) added h) in
    subst (λ n. IsLiveName c.commit.new.arena (n + number)) (next ∙ sym c.next-next_before.ensures.next) live

pub returns-clause-rows : goal.returns-clause-rows
returns-clause-rows g c =
    let here = c.requires.ready.1.here in
    let app = here.0 in
    let next : app.map.next ≡ c.args.arena.now.next = sym (ap (λ (m : ArenaMap). m.next) here.1) in
    let result : IsResultOf app c.commit.new.arena = c.commit.ensures.unfolded app here.1 here.2 in
    let added : c.applied-added.result.added ≡ c.args.edits.lists.added = c.applied-added.ensures.added in
    let m = c.args.arena.now in
    let touched = c.args.edits.touched in
    let old = c.args.rows.now in
    let kt : AreTouchedKept m touched old c.keep_touched.new.rows = rw c.touched.ensures at c.keep_touched.ensures.kept in
    let kb : AreBehindKept c.commit.new.arena (length old.rows) (length c.keep_touched.new.rows.rows) c.keep_touched.new.rows c.keep_staying.new.rows = rw (c.len-first.ensures, c.len-middle.ensures) at c.keep_staying.ensures.kept in
    let ka : AreAddedKept c.commit.new.arena m.next c.args.edits.lists.added c.keep_staying.new.rows c.keep_added.new.rows = rw (c.next-next_before.ensures.next, added) at c.keep_added.ensures.kept in
    let long : length old.rows ≤ length c.keep_added.new.rows.rows = le_trans kt.more.long (le_trans kb.more.long ka.more.long) in
    let same : (k : ℕ) → k < length old.rows → row_in c.keep_added.new.rows.rows k ≡ row_in old.rows k = λ k h. ka.before k (less_in _ _ _ _ h kt.more.long kb.more.long) ∙ kb.before k h ∙ kt.before k h in
    let rows = front_kept old.rows c.keep_added.new.rows.rows long same in
    let labels = ka.more.labels ∙ kb.more.labels ∙ kt.more.labels in
    let width = ka.more.width ∙ kb.more.width ∙ kt.more.width in
    let room = ka.more.room ∙ kb.more.room ∙ kt.more.room in
    λ i. record { labels = labels i; width = width i; room = room i; rows = rows i }

pub returns-clause-leads : goal.returns-clause-leads
returns-clause-leads g c =
    let here = c.requires.ready.1.here in
    let app = here.0 in
    let next : app.map.next ≡ c.args.arena.now.next = sym (ap (λ (m : ArenaMap). m.next) here.1) in
    let result : IsResultOf app c.commit.new.arena = c.commit.ensures.unfolded app here.1 here.2 in
    let added : c.applied-added.result.added ≡ c.args.edits.lists.added = c.applied-added.ensures.added in
    let m = c.args.arena.now in
    let touched = c.args.edits.touched in
    let old = c.args.rows.now in
    let kt : AreTouchedKept m touched old c.keep_touched.new.rows = rw c.touched.ensures at c.keep_touched.ensures.kept in
    let kb : AreBehindKept c.commit.new.arena (length old.rows) (length c.keep_touched.new.rows.rows) c.keep_touched.new.rows c.keep_staying.new.rows = rw (c.len-first.ensures, c.len-middle.ensures) at c.keep_staying.ensures.kept in
    let ka : AreAddedKept c.commit.new.arena m.next c.args.edits.lists.added c.keep_staying.new.rows c.keep_added.new.rows = rw (c.next-next_before.ensures.next, added) at c.keep_added.ensures.kept in
    let ready = c.requires.ready.1 in
    let only : (d : ℕ) → IsLiveName c.commit.new.arena d → m.next ≤ d → (number : ℕ) × (number < c.args.edits.lists.added) × (d ≡ m.next + number) =
    λ d live high. let n = added_only app c.args.edits.lists here.2 c.commit.new.arena result d live (subst (λ n. n ≤ d) (sym next) high) in (n.0, n.1, n.2 ∙ ap (λ k. k + n.0) next) in
    let others : (d : ℕ) → d < m.next → ((slot : Slot) → Contains touched slot → name_at m slot.at ≢ d) → get c.commit.new.arena.darts d ≡ get m.darts d =
    λ d low apart. c.commit.ensures.elsewhere d low (λ slot is. apart slot (ready.touched.all slot is)) in
    let all = sides m c.commit.new.arena touched c.args.edits.lists.added old c.keep_touched.new.rows c.keep_staying.new.rows c.keep_added.new.rows kt kb ka c.next-next_before.ensures.lawful ready.touched.live ready.touched.distinct only others in
    let end_at : length c.keep_touched.new.rows.rows ≤ length c.keep_added.new.rows.rows = le_trans kb.more.long ka.more.long in
    record {
      sides = rw (c.len-first.ensures, c.len-middle.ensures, c.len.ensures) (sides_of c.keep_added.new.rows.rows (length old.rows) (length c.keep_touched.new.rows.rows) (length c.keep_touched.new.rows.rows) (length c.keep_added.new.rows.rows) kt.more.long end_at end_at (le_refl _) (rows_in m) (rows_in c.commit.new.arena) all);
      next_before = c.next-next_before.ensures.next;
      next_after = c.next.ensures.next;
    }

pub returns-clause-done : goal.returns-clause-done
returns-clause-done g c app ready = ready.done c.commit.new.arena c.commit.ensures.unfolded

pub returns-clause-sound : goal.returns-clause-sound
returns-clause-sound g c = c.requires.ready.1.sound c.commit.new.arena c.commit.ensures.unfolded

-- ---- what the calls are owed

pub keep_touched-requires-clause-labels : goal.keep_touched-requires-clause-labels
keep_touched-requires-clause-labels g c = c.requires.labels

pub keep_touched-requires-clause-width : goal.keep_touched-requires-clause-width
keep_touched-requires-clause-width g c = c.requires.width

pub keep_touched-requires-clause-room : goal.keep_touched-requires-clause-room
keep_touched-requires-clause-room g c = subst (λ (l : List Slot). length c.args.rows.now.rows + length l ≤ c.args.rows.now.room) (sym c.touched.ensures) (room_first (length c.args.rows.now.rows) (length c.args.edits.touched) c.args.edits.lists.added c.args.rows.now.room c.requires.room)

pub commit-requires-clause-edits : goal.commit-requires-clause-edits
commit-requires-clause-edits g c = c.requires.ready.1.here

pub commit-requires-clause-names : goal.commit-requires-clause-names
commit-requires-clause-names g c = c.requires.ready.1.names

pub commit-requires-clause-room : goal.commit-requires-clause-room
commit-requires-clause-room g c = c.requires.ready.1.room

pub keep_staying-requires-clause-labels : goal.keep_staying-requires-clause-labels
keep_staying-requires-clause-labels g c = c.keep_touched.ensures.kept.more.labels ∙ c.requires.labels ∙ sym (ap (λ (s : Schema). s.dim + 1) c.commit.ensures.schema)

pub keep_staying-requires-clause-width : goal.keep_staying-requires-clause-width
keep_staying-requires-clause-width g c = c.keep_touched.ensures.kept.more.width ∙ c.requires.width ∙ sym (ap (λ (s : Schema). length s.embeds) c.commit.ensures.schema)

pub keep_staying-requires-clause-first : goal.keep_staying-requires-clause-first
keep_staying-requires-clause-first g c = at_least c.len-first.result c.len-middle.result _ _ c.len-first.ensures c.len-middle.ensures c.keep_touched.ensures.kept.more.long

pub keep_staying-requires-clause-end : goal.keep_staying-requires-clause-end
keep_staying-requires-clause-end g c = c.len-middle.ensures

pub keep_staying-requires-clause-room : goal.keep_staying-requires-clause-room
keep_staying-requires-clause-room g c = subst (λ n. c.len-middle.result + (c.len-middle.result - c.len-first.result) ≤ n) (sym c.keep_touched.ensures.kept.more.room) (room_behind (length c.args.rows.now.rows) (length c.args.edits.touched) c.args.edits.lists.added c.args.rows.now.room c.len-first.result c.len-middle.result c.requires.room c.len-first.ensures (c.len-middle.ensures ∙ c.keep_touched.ensures.kept.count ∙ ap (λ (l : List Slot). length c.args.rows.now.rows + length l) c.touched.ensures))

pub keep_added-requires-clause-labels : goal.keep_added-requires-clause-labels
keep_added-requires-clause-labels g c = c.keep_staying.ensures.kept.more.labels ∙ c.keep_touched.ensures.kept.more.labels ∙ c.requires.labels ∙ sym (ap (λ (s : Schema). s.dim + 1) c.commit.ensures.schema)

pub keep_added-requires-clause-width : goal.keep_added-requires-clause-width
keep_added-requires-clause-width g c = c.keep_staying.ensures.kept.more.width ∙ c.keep_touched.ensures.kept.more.width ∙ c.requires.width ∙ sym (ap (λ (s : Schema). length s.embeds) c.commit.ensures.schema)

pub keep_added-requires-clause-room : goal.keep_added-requires-clause-room
keep_added-requires-clause-room g c =
    let rows = length c.keep_staying.new.rows.rows in
    let last = room_last (length c.args.rows.now.rows) (length c.args.edits.touched) c.args.edits.lists.added c.args.rows.now.room c.len-first.result c.len-middle.result rows c.requires.room c.len-first.ensures (c.len-middle.ensures ∙ c.keep_touched.ensures.kept.count ∙ ap (λ (l : List Slot). length c.args.rows.now.rows + length l) c.touched.ensures) c.keep_staying.ensures.kept.few in
    let added : rows + c.applied-added.result.added ≤ c.args.rows.now.room = subst (λ n. rows + n ≤ c.args.rows.now.room) (sym c.applied-added.ensures.added) last in
    subst (λ n. rows + c.applied-added.result.added ≤ n) (sym (c.keep_staying.ensures.kept.more.room ∙ c.keep_touched.ensures.kept.more.room)) added

-- ---- what is told of the change

pub returns-clause-first : goal.returns-clause-first
returns-clause-first g c = c.len-first.ensures

pub returns-clause-middle : goal.returns-clause-middle
returns-clause-middle g c = at_least c.len-first.result c.len-middle.result _ _ c.len-first.ensures c.len-middle.ensures c.keep_touched.ensures.kept.more.long

pub returns-clause-end : goal.returns-clause-end
returns-clause-end g c = at_least c.len-middle.result c.len.result _ _ c.len-middle.ensures c.len.ensures (le_trans c.keep_staying.ensures.kept.more.long c.keep_added.ensures.kept.more.long)

pub returns-clause-ends : goal.returns-clause-ends
returns-clause-ends g c = c.len.ensures

pub returns-clause-few : goal.returns-clause-few
returns-clause-few g c =
    let added = c.keep_added.ensures.kept.count ∙ ap (λ n. length c.keep_staying.new.rows.rows + n) c.applied-added.ensures.added in
    rows_few (length c.args.rows.now.rows) (length c.args.edits.touched) c.args.edits.lists.added c.len-first.result c.len-middle.result (length c.keep_staying.new.rows.rows) c.len.result c.len-first.ensures (c.len-middle.ensures ∙ c.keep_touched.ensures.kept.count ∙ ap (λ (l : List Slot). length c.args.rows.now.rows + length l) c.touched.ensures) c.keep_staying.ensures.kept.few (c.len.ensures ∙ added)

pub returns-clause-begins : goal.returns-clause-begins
returns-clause-begins g c = refl

pub returns-clause-lawful : goal.returns-clause-lawful
returns-clause-lawful g c = c.next.ensures.lawful

pub returns-clause-schema : goal.returns-clause-schema
returns-clause-schema g c = c.commit.ensures.schema

pub returns-clause-total : goal.returns-clause-total
returns-clause-total g c = darts_stay c.args.arena.now.count c.args.arena.now.spare c.args.edits.lists.added (length c.args.edits.lists.removed) c.commit.new.arena.count c.commit.new.arena.spare c.commit.ensures.count c.commit.ensures.spare

pub returns-clause-spare : goal.returns-clause-spare
returns-clause-spare g c = c.commit.ensures.spare

pub returns-clause-reserved : goal.returns-clause-reserved
returns-clause-reserved g c = c.commit.ensures.reserved

pub returns-clause-cost : goal.returns-clause-cost
returns-clause-cost g c =
    let dim = c.args.arena.now.schema.dim in
    let edits = c.args.edits in
    let same = ap (λ (s : Schema). s.dim + 3) c.commit.ensures.schema in
    let first : c.keep_touched.new.steps ≡ c.args.steps.now + (dim + 2) * length edits.touched = c.keep_touched.ensures.cost ∙ ap (λ (l : List Slot). c.args.steps.now + (dim + 2) * length l) c.touched.ensures in
    let third = subst (λ n. c.keep_staying.new.steps ≤ c.commit.new.steps + n * (c.len-middle.result - c.len-first.result)) same c.keep_staying.ensures.cost in
    let last : c.keep_added.new.steps ≡ c.keep_staying.new.steps + (dim + 3) * edits.lists.added = c.keep_added.ensures.cost ∙ ap (λ n. c.keep_staying.new.steps + n * c.applied-added.result.added) same ∙ ap (λ n. c.keep_staying.new.steps + (dim + 3) * n) c.applied-added.ensures.added in
    kept_cost dim (length edits.touched) edits.lists.added (cost_of edits.lists) c.args.steps.now c.keep_touched.new.steps c.commit.new.steps c.keep_staying.new.steps c.keep_added.new.steps (c.len-middle.result - c.len-first.result)
    c.next-next_before.ensures.lawful.dim.0 first c.commit.ensures.cost third (behind_rows (length c.args.rows.now.rows) (length edits.touched) c.len-first.result c.len-middle.result c.len-first.ensures (c.len-middle.ensures ∙ c.keep_touched.ensures.kept.count ∙ ap (λ (l : List Slot). length c.args.rows.now.rows + length l) c.touched.ensures)) last

pub returns-clause-least : goal.returns-clause-least
returns-clause-least g c =
    let lists = c.args.edits.lists in
    kept_least (length lists.freed) (length lists.removed) lists.added (length lists.arcs) (length lists.values) c.args.steps.now c.keep_touched.new.steps c.commit.new.steps c.keep_staying.new.steps c.keep_added.new.steps
    (no_less c.args.steps.now _ c.keep_touched.new.steps c.keep_touched.ensures.cost) c.commit.ensures.cost c.keep_staying.ensures.rises (no_less c.keep_staying.new.steps _ c.keep_added.new.steps c.keep_added.ensures.cost)

use Rattle.std.proofs.Common.{◌≡◌, ◌+◌, ◌*◌, ◌≤◌, length, take, refl, sym, ap, ◌∙◌}
use Rattle.std.proofs.lemmas.Result.{err_from_is_err_and}
use Rattle.gm_apply.proofs.Applying.{sound_again}
use Rattle.std.proofs.Math.Nat.{le_refl, le_trans}
use Rattle.gm_apply.proofs.Sums.{spare_stays, spare_then, still_above}
use Rattle.gm_model.proofs.Exits.{unless_ok}
use Rattle.std.proofs.lemmas.List.{length-take-le}
use Rattle.gm_undo.proofs.Sums.{change_few, counted_steps, least_rises, room_left}
use Rattle.std.proofs.Common.{subst, List}
use Rattle.gm_undo.specs.declared.keeping.Made.{Made}
use Rattle.std.proofs.lemmas.Nat.{mul-le}
use Rattle.gm_apply.specs.inner.Prepared as prepared
use Rattle.gm_undo.specs.inner.Costs.{rows_of}
use Rattle.gm_undo.proofs.Ranges.{range_long}
use Rattle.gm_undo.specs.inner.Layout.{changes_in, change_in, end_of}
use Rattle.gm_arena.specs.inner.ArenaMap.{ArenaMap}
use Rattle.gm_arena.specs.inner.ArenaAsMap.{as_map}
use Rattle.gm_arena.specs.inner.Lawful.{IsLawful}
use Rattle.gm_model.specs.declared.schema.Schema.{Schema}
use Rattle.gm_undo.proofs.Entering.{changes_one, laid_one, some_changes, end_low, entered_costs, entered_history, next_begins, stands_grown}
use Rattle.gm_undo.proofs.Tellings.{sound_held}
use Rattle.gm_undo.proofs.history.History.apply.Goals as goal
use Rattle.gm_undo.proofs.history.History.apply.Goals.{in-Some, in-None}

pub prepare-requires-clause-sound : goal.prepare-requires-clause-sound
prepare-requires-clause-sound g c = sound_held _ c.args.arena.now c.requires.stands.0 c.requires.stands.1

pub returns-in_err-edits-clause-history : goal.returns-in_err-edits-clause-history
returns-in_err-edits-clause-history g c told s =
    let p = err_from_is_err_and c.from_residual.result c.from_residual.ensures.1 in
    rw p.1 (stands_grown _ c.args.arena.now c.prepare.new.arena told c.in_err-edits.ensures.rows c.in_err-edits.ensures.spare_stays c.in_err-edits.ensures.reserved_stays s)

pub returns-in_err-edits-clause-sound : goal.returns-in_err-edits-clause-sound
returns-in_err-edits-clause-sound g c = sound_again c.args.arena.now c.prepare.new.arena c.in_err-edits.ensures.rows (sound_held _ c.args.arena.now c.requires.stands.0 c.requires.stands.1)

pub make_room-requires-clause-kept : goal.make_room-requires-clause-kept
make_room-requires-clause-kept g c = subst (λ n. n ≤ length c.self.inside.rows.rows) (sym (rw c.deref.ensures.value at c.kept_end-kept.ensures)) (end_low c.self.inside.rows.rows c.self.inside.changes.items c.self.inside.made c.self.inside.group c.self.invariant c.self.inside.made c.self.invariant.within)

pub make_room-requires-clause-labels : goal.make_room-requires-clause-labels
make_room-requires-clause-labels g c some =
    let stands = rw (← c.self.view_is) at c.requires.stands in
    (stands.1.held.shape (some_changes _ _ _ _ c.self.invariant some)).0 ∙ ap (λ (m : ArenaMap). m.schema.dim + 1) (sym c.in_ok-edits.ensures.rows)

pub make_room-requires-clause-width : goal.make_room-requires-clause-width
make_room-requires-clause-width g c some =
    let stands = rw (← c.self.view_is) at c.requires.stands in
    (stands.1.held.shape (some_changes _ _ _ _ c.self.invariant some)).1 ∙ ap (λ (m : ArenaMap). length m.schema.embeds) (sym c.in_ok-edits.ensures.rows)

pub returns-in_err-make_room-clause-history : goal.returns-in_err-make_room-clause-history
returns-in_err-make_room-clause-history g c told s =
    let p = err_from_is_err_and c.from_residual-in_err-make_room.result c.from_residual-in_err-make_room.ensures.1 in
    rw (p.1, c.in_err-make_room.ensures.stays, c.in_err-make_room.ensures.changes) (stands_grown _ c.args.arena.now c.prepare.new.arena told c.in_ok-edits.ensures.rows c.in_ok-edits.ensures.spare_stays c.in_ok-edits.ensures.reserved_stays (rw (← c.self.view_is) at s))

pub returns-in_err-make_room-clause-sound : goal.returns-in_err-make_room-clause-sound
returns-in_err-make_room-clause-sound g c = sound_again c.args.arena.now c.prepare.new.arena c.in_ok-edits.ensures.rows (sound_held _ c.args.arena.now c.requires.stands.0 c.requires.stands.1)

pub truncate-requires : goal.truncate-requires
truncate-requires g c = rw (ap (λ r. r.rows) c.in_ok-make_room.ensures.rows) (subst (λ n. n ≤ length c.self.inside.rows.rows) (sym (rw c.deref.ensures.value at c.kept_end-kept.ensures)) (end_low c.self.inside.rows.rows c.self.inside.changes.items c.self.inside.made c.self.inside.group c.self.invariant c.self.inside.made c.self.invariant.within))

pub invariant_of-self-2 : goal.invariant_of-self-2
invariant_of-self-2 g c =
    let kept : c.kept_end-kept.result ≡ end_of c.self.inside.changes.items c.self.inside.made = rw c.deref.ensures.value at c.kept_end-kept.ensures in
    let cut : c.truncate.new.self.rows ≡ take (end_of c.self.inside.changes.items c.self.inside.made) c.self.inside.rows.rows =
    ap (λ r. r.rows) c.truncate.ensures ∙ ap (λ n. take n c.make_room.new.rows.rows) kept ∙ ap (take (end_of c.self.inside.changes.items c.self.inside.made)) (ap (λ r. r.rows) c.in_ok-make_room.ensures.rows) in
    let is = ap (λ r. r.rows) c.keep-change.ensures.rows in
    rw (c.push_reserved.ensures.items, c.truncate-2.ensures.items, c.in_ok-make_room.ensures.changes, is, cut)
    (laid_one c.self.inside.rows.rows _ c.self.inside.changes.items c.self.inside.made c.self.inside.group c.self.invariant c.keep-change.result (c.keep-change.ensures.first ∙ ap length cut) c.keep-change.ensures.middle c.keep-change.ensures.end (c.keep-change.ensures.ends ∙ ap length (rw cut at is)))

pub returns-clause-outcome : goal.returns-clause-outcome
returns-clause-outcome g c = rw (c.applied-applied.ensures.added, c.applied-applied.ensures.removed) (c.keep-change.ensures.done _ c.in_ok-edits.ensures.outcome)

pub returns-clause-history : goal.returns-clause-history
returns-clause-history g c told s =
    let kept : c.kept_end-kept.result ≡ end_of c.self.inside.changes.items c.self.inside.made = rw c.deref.ensures.value at c.kept_end-kept.ensures in
    let cut : c.truncate.new.self.rows ≡ take (end_of c.self.inside.changes.items c.self.inside.made) c.self.inside.rows.rows =
    ap (λ r. r.rows) c.truncate.ensures ∙ ap (λ n. take n c.make_room.new.rows.rows) kept ∙ ap (take (end_of c.self.inside.changes.items c.self.inside.made)) (ap (λ r. r.rows) c.in_ok-make_room.ensures.rows) in
    let is = ap (λ r. r.rows) c.keep-change.ensures.rows in
    let same = c.in_ok-edits.ensures.rows in
    let stands = stands_grown _ c.args.arena.now c.prepare.new.arena told same c.in_ok-edits.ensures.spare_stays c.in_ok-edits.ensures.reserved_stays (rw (← c.self.view_is) at s) in
    let labels = ap (λ r. r.labels) c.keep-change.ensures.rows ∙ ap (λ r. r.labels) c.truncate.ensures ∙ ap (λ r. r.labels) c.in_ok-make_room.ensures.rows ∙ ap (λ (s : Schema). s.dim + 1) (sym c.keep-change.ensures.schema) in
    let width = ap (λ r. r.width) c.keep-change.ensures.rows ∙ ap (λ r. r.width) c.truncate.ensures ∙ ap (λ r. r.width) c.in_ok-make_room.ensures.rows ∙ ap (λ (s : Schema). length s.embeds) (sym c.keep-change.ensures.schema) in
    let begins : c.keep-change.result.begins ≡ next_begins c.self.inside.group c.self.inside.made = c.keep-change.ensures.begins ∙ (elim c.match-self.branch [
      | in-Some w ↦ rw w.in-Some.is w.begins-is
      | in-None w ↦ rw w.in-None.is w.begins-is
    ]) in
    let lawful : IsLawful c.keep-change.new.arena = c.keep-change.ensures.lawful in
    rw (← ap as_map same, c.push_reserved.ensures.items, c.truncate-2.ensures.items, c.in_ok-make_room.ensures.changes, is, cut, changes_one c.self.inside.rows.rows _ c.self.inside.changes.items c.self.inside.made c.self.inside.group c.self.invariant c.keep-change.result stands.held.within)
    (entered_history c.self.inside.rows.labels c.self.inside.rows.width _ _ (changes_in c.self.inside.rows.rows c.self.inside.changes.items) c.self.inside.made _ stands.held.within c.prepare.new.arena c.keep-change.new.arena c.keep-change.ensures.schema c.self.inside.group told stands begins c.keep-change.ensures.total (subst (λ n. c.prepare.new.arena.reserved ≤ n) (sym c.keep-change.ensures.reserved) (le_refl c.prepare.new.arena.reserved)) (rw (is, cut) at c.keep-change.ensures.leads) lawful c.keep-change.ensures.sound (labels, width))

pub returns-clause-entries : goal.returns-clause-entries
returns-clause-entries g c told entries most s may budget =
    let kept : c.kept_end-kept.result ≡ end_of c.self.inside.changes.items c.self.inside.made = rw c.deref.ensures.value at c.kept_end-kept.ensures in
    let cut : c.truncate.new.self.rows ≡ take (end_of c.self.inside.changes.items c.self.inside.made) c.self.inside.rows.rows =
    ap (λ r. r.rows) c.truncate.ensures ∙ ap (λ n. take n c.make_room.new.rows.rows) kept ∙ ap (take (end_of c.self.inside.changes.items c.self.inside.made)) (ap (λ r. r.rows) c.in_ok-make_room.ensures.rows) in
    let is = ap (λ r. r.rows) c.keep-change.ensures.rows in
    let stands = rw (← c.self.view_is) at s in
    let schema = c.keep-change.ensures.schema ∙ ap (λ (m : ArenaMap). m.schema) c.in_ok-edits.ensures.rows in
    let begins : c.keep-change.result.begins ≡ next_begins c.self.inside.group c.self.inside.made = c.keep-change.ensures.begins ∙ (elim c.match-self.branch [
      | in-Some w ↦ rw w.in-Some.is w.begins-is
      | in-None w ↦ rw w.in-None.is w.begins-is
    ]) in
    let few : 7 * (c.args.arena.now.schema.dim + 1) * rows_of (change_in c.keep-change.new.rows.rows c.keep-change.result) ≤ most =
    let ends = c.keep-change.ensures.ends in
    let middle = c.keep-change.ensures.middle in
    let end = c.keep-change.ensures.end in
    let long = length c.keep-change.new.rows.rows in
    let all : c.keep-change.result.end ≤ long = subst (λ n. c.keep-change.result.end ≤ n) ends (le_refl c.keep-change.result.end) in
    let before = range_long c.keep-change.new.rows.rows c.keep-change.result.first c.keep-change.result.middle middle (le_trans end all) in
    let after = range_long c.keep-change.new.rows.rows c.keep-change.result.middle c.keep-change.result.end end all in
    let few : rows_of (change_in c.keep-change.new.rows.rows c.keep-change.result) ≤ prepared.rows_of c.in_ok-edits.edits = change_few c.keep-change.result.first c.keep-change.result.middle c.keep-change.result.end long _ _ _ before after middle end c.keep-change.ensures.few in
    le_trans (mul-le (7 * (c.args.arena.now.schema.dim + 1)) (rows_of (change_in c.keep-change.new.rows.rows c.keep-change.result)) (7 * (c.args.arena.now.schema.dim + 1)) (prepared.rows_of c.in_ok-edits.edits) (le_refl (7 * (c.args.arena.now.schema.dim + 1))) few) (c.in_ok-edits.ensures.few most budget) in
    rw (schema, c.push_reserved.ensures.items, c.truncate-2.ensures.items, c.in_ok-make_room.ensures.changes, is, cut, changes_one c.self.inside.rows.rows _ c.self.inside.changes.items c.self.inside.made c.self.inside.group c.self.invariant c.keep-change.result stands.held.within)
    (entered_costs c.self.inside.rows.labels c.self.inside.rows.width _ _ (changes_in c.self.inside.rows.rows c.self.inside.changes.items) c.self.inside.made _ stands.held.within c.args.arena.now c.keep-change.new.arena schema c.self.inside.group told c.args.arena.now.schema.dim most entries stands begins (rw (is, cut) at few) (rw (← c.self.view_is) at may))

pub returns-clause-most : goal.returns-clause-most
returns-clause-most g c most budget =
    let cost = rw (ap (λ (m : ArenaMap). m.schema) c.in_ok-edits.ensures.rows) at c.keep-change.ensures.cost in
    le_trans cost (c.in_ok-edits.ensures.left most budget)

pub returns-in_err-edits-clause-no_more : goal.returns-in_err-edits-clause-no_more
returns-in_err-edits-clause-no_more g c =
    let p = err_from_is_err_and c.from_residual.result c.from_residual.ensures.1 in
    rw p.1 c.in_err-edits.ensures.no_more

pub returns-in_err-make_room-clause-no_more : goal.returns-in_err-make_room-clause-no_more
returns-in_err-make_room-clause-no_more g c =
    let p = err_from_is_err_and c.from_residual-in_err-make_room.result c.from_residual-in_err-make_room.ensures.1 in
    rw p.1 c.in_ok-edits.ensures.no_more

pub returns-clause-spare : goal.returns-clause-spare
returns-clause-spare g c = rw (c.applied-applied.ensures.added, c.applied-applied.ensures.removed) (spare_then c.args.arena.now.spare _ _ _ _ _ _ refl refl c.in_ok-edits.ensures.spare c.keep-change.ensures.spare)

pub returns-clause-reserved : goal.returns-clause-reserved
returns-clause-reserved g c = rw c.applied-applied.ensures.added (c.keep-change.ensures.reserved ∙ c.in_ok-edits.ensures.reserved)

-- ---- where memory is wanting, or the application is refused

pub returns-in_err-edits-clause-outcome : goal.returns-in_err-edits-clause-outcome
returns-in_err-edits-clause-outcome g c =
    let p = err_from_is_err_and c.from_residual.result c.from_residual.ensures.1 in
    rw (p.1, p.2) (c.in_err-edits.ensures.outcome, c.in_err-edits.ensures.rows)

pub returns-in_err-edits-clause-stays : goal.returns-in_err-edits-clause-stays
returns-in_err-edits-clause-stays g c =
    let p = err_from_is_err_and c.from_residual.result c.from_residual.ensures.1 in
    rw p.1 refl

pub returns-in_err-edits-clause-entries : goal.returns-in_err-edits-clause-entries
returns-in_err-edits-clause-entries g c told entries most s may budget = unless_ok _ c.from_residual.result c.from_residual.ensures.0

pub returns-in_err-edits-clause-schema : goal.returns-in_err-edits-clause-schema
returns-in_err-edits-clause-schema g c = ap (λ (m : ArenaMap). m.schema) c.in_err-edits.ensures.rows

pub returns-in_err-edits-clause-most : goal.returns-in_err-edits-clause-most
returns-in_err-edits-clause-most g c = c.in_err-edits.ensures.most

pub returns-in_err-edits-clause-least : goal.returns-in_err-edits-clause-least
returns-in_err-edits-clause-least g c = unless_ok _ c.from_residual.result c.from_residual.ensures.0

pub returns-in_err-edits-clause-rises : goal.returns-in_err-edits-clause-rises
returns-in_err-edits-clause-rises g c = c.in_err-edits.ensures.rises

pub returns-in_err-edits-clause-room : goal.returns-in_err-edits-clause-room
returns-in_err-edits-clause-room g c = c.in_err-edits.ensures.room

pub returns-in_err-edits-clause-untouched : goal.returns-in_err-edits-clause-untouched
returns-in_err-edits-clause-untouched g c =
    let p = err_from_is_err_and c.from_residual.result c.from_residual.ensures.1 in
    rw (p.1, p.2) c.in_err-edits.ensures.untouched

pub returns-in_err-edits-clause-spare : goal.returns-in_err-edits-clause-spare
returns-in_err-edits-clause-spare g c = unless_ok _ c.from_residual.result c.from_residual.ensures.0

pub returns-in_err-edits-clause-reserved : goal.returns-in_err-edits-clause-reserved
returns-in_err-edits-clause-reserved g c = unless_ok _ c.from_residual.result c.from_residual.ensures.0

pub returns-in_err-edits-clause-spare_stays : goal.returns-in_err-edits-clause-spare_stays
returns-in_err-edits-clause-spare_stays g c = spare_stays c.args.arena.now.count c.args.arena.now.spare _ _ (ap (λ (m : ArenaMap). m.count) c.in_err-edits.ensures.rows) c.in_err-edits.ensures.spare_stays

pub returns-in_err-edits-clause-reserved_stays : goal.returns-in_err-edits-clause-reserved_stays
returns-in_err-edits-clause-reserved_stays g c = c.in_err-edits.ensures.reserved_stays

pub returns-in_err-make_room-clause-outcome : goal.returns-in_err-make_room-clause-outcome
returns-in_err-make_room-clause-outcome g c =
    let p = err_from_is_err_and c.from_residual-in_err-make_room.result c.from_residual-in_err-make_room.ensures.1 in
    rw (p.1, p.2) (tt, c.in_ok-edits.ensures.rows)

pub returns-in_err-make_room-clause-stays : goal.returns-in_err-make_room-clause-stays
returns-in_err-make_room-clause-stays g c =
    let p = err_from_is_err_and c.from_residual-in_err-make_room.result c.from_residual-in_err-make_room.ensures.1 in
    rw (p.1, c.in_err-make_room.ensures.stays, c.in_err-make_room.ensures.changes) c.self.view_is

pub returns-in_err-make_room-clause-entries : goal.returns-in_err-make_room-clause-entries
returns-in_err-make_room-clause-entries g c told entries most s may budget = unless_ok _ c.from_residual-in_err-make_room.result c.from_residual-in_err-make_room.ensures.0

pub returns-in_err-make_room-clause-schema : goal.returns-in_err-make_room-clause-schema
returns-in_err-make_room-clause-schema g c = ap (λ (m : ArenaMap). m.schema) c.in_ok-edits.ensures.rows

pub returns-in_err-make_room-clause-most : goal.returns-in_err-make_room-clause-most
returns-in_err-make_room-clause-most g c = c.in_ok-edits.ensures.most

pub returns-in_err-make_room-clause-least : goal.returns-in_err-make_room-clause-least
returns-in_err-make_room-clause-least g c = unless_ok _ c.from_residual-in_err-make_room.result c.from_residual-in_err-make_room.ensures.0

pub returns-in_err-make_room-clause-rises : goal.returns-in_err-make_room-clause-rises
returns-in_err-make_room-clause-rises g c = c.in_ok-edits.ensures.rises

pub returns-in_err-make_room-clause-room : goal.returns-in_err-make_room-clause-room
returns-in_err-make_room-clause-room g c = c.in_ok-edits.ensures.room

pub returns-in_err-make_room-clause-untouched : goal.returns-in_err-make_room-clause-untouched
returns-in_err-make_room-clause-untouched g c =
    let p = err_from_is_err_and c.from_residual-in_err-make_room.result c.from_residual-in_err-make_room.ensures.1 in
    rw p.1 (λ apart. absurd (apart p.2))

pub returns-in_err-make_room-clause-spare : goal.returns-in_err-make_room-clause-spare
returns-in_err-make_room-clause-spare g c = unless_ok _ c.from_residual-in_err-make_room.result c.from_residual-in_err-make_room.ensures.0

pub returns-in_err-make_room-clause-reserved : goal.returns-in_err-make_room-clause-reserved
returns-in_err-make_room-clause-reserved g c = unless_ok _ c.from_residual-in_err-make_room.result c.from_residual-in_err-make_room.ensures.0

pub returns-in_err-make_room-clause-spare_stays : goal.returns-in_err-make_room-clause-spare_stays
returns-in_err-make_room-clause-spare_stays g c = spare_stays c.args.arena.now.count c.args.arena.now.spare _ _ (ap (λ (m : ArenaMap). m.count) c.in_ok-edits.ensures.rows) c.in_ok-edits.ensures.spare_stays

pub returns-in_err-make_room-clause-reserved_stays : goal.returns-in_err-make_room-clause-reserved_stays
returns-in_err-make_room-clause-reserved_stays g c = c.in_ok-edits.ensures.reserved_stays

-- ---- what the calls are owed

pub prepare-requires-clause-schema : goal.prepare-requires-clause-schema
prepare-requires-clause-schema g c = c.requires.schema

pub prepare-requires-clause-hooks : goal.prepare-requires-clause-hooks
prepare-requires-clause-hooks g c = c.requires.hooks

pub prepare-requires-clause-params : goal.prepare-requires-clause-params
prepare-requires-clause-params g c = c.requires.params

pub kept_end-kept-requires : goal.kept_end-kept-requires
kept_end-kept-requires g c = subst (λ (l : List Made). c.self.inside.made ≤ length l) (sym c.deref.ensures.value) c.self.invariant.within

pub keep-change-requires-clause-labels : goal.keep-change-requires-clause-labels
keep-change-requires-clause-labels g c = ap (λ r. r.labels) c.truncate.ensures ∙ ap (λ r. r.labels) c.in_ok-make_room.ensures.rows

pub keep-change-requires-clause-width : goal.keep-change-requires-clause-width
keep-change-requires-clause-width g c = ap (λ r. r.width) c.truncate.ensures ∙ ap (λ r. r.width) c.in_ok-make_room.ensures.rows

pub keep-change-requires-clause-room : goal.keep-change-requires-clause-room
keep-change-requires-clause-room g c =
    let low : c.kept_end-kept.result ≤ length c.make_room.new.rows.rows = rw (ap (λ r. r.rows) c.in_ok-make_room.ensures.rows) (subst (λ n. n ≤ length c.self.inside.rows.rows) (sym (rw c.deref.ensures.value at c.kept_end-kept.ensures)) (end_low c.self.inside.rows.rows c.self.inside.changes.items c.self.inside.made c.self.inside.group c.self.invariant c.self.inside.made c.self.invariant.within)) in
    room_left (length c.truncate.new.self.rows) c.kept_end-kept.result (prepared.rows_of c.in_ok-edits.edits) c.make_room.new.rows.room c.truncate.new.self.room (ap (λ r. length r.rows) c.truncate.ensures ∙ length-take-le c.kept_end-kept.result c.make_room.new.rows.rows low) c.in_ok-make_room.ensures.room (ap (λ r. r.room) c.truncate.ensures)

pub keep-change-requires-clause-ready : goal.keep-change-requires-clause-ready
keep-change-requires-clause-ready g c = (_, c.in_ok-edits.ensures.outcome)

-- ---- where it is done

pub returns-clause-stays : goal.returns-clause-stays
returns-clause-stays g c = tt

pub returns-clause-untouched : goal.returns-clause-untouched
returns-clause-untouched g c = tt

pub returns-clause-no_more : goal.returns-clause-no_more
returns-clause-no_more g c = tt

pub returns-clause-sound : goal.returns-clause-sound
returns-clause-sound g c = c.keep-change.ensures.sound

pub returns-clause-schema : goal.returns-clause-schema
returns-clause-schema g c = c.keep-change.ensures.schema ∙ ap (λ (m : ArenaMap). m.schema) c.in_ok-edits.ensures.rows

pub returns-clause-least : goal.returns-clause-least
returns-clause-least g c = counted_steps c.args.steps.now c.prepare.new.steps _ _ _ _ c.keep-change.new.steps c.in_ok-edits.ensures.rises c.keep-change.ensures.least c.applied-applied.ensures.added c.applied-applied.ensures.removed

pub returns-clause-rises : goal.returns-clause-rises
returns-clause-rises g c = le_trans c.in_ok-edits.ensures.rises (least_rises _ _ _ _ c.keep-change.ensures.least)

pub returns-clause-room : goal.returns-clause-room
returns-clause-room g c = c.in_ok-edits.ensures.room

pub returns-clause-spare_stays : goal.returns-clause-spare_stays
returns-clause-spare_stays g c = le_trans (spare_stays c.args.arena.now.count c.args.arena.now.spare _ _ (ap (λ (m : ArenaMap). m.count) c.in_ok-edits.ensures.rows) c.in_ok-edits.ensures.spare_stays) c.keep-change.ensures.total

pub returns-clause-reserved_stays : goal.returns-clause-reserved_stays
returns-clause-reserved_stays g c = still_above _ _ _ c.in_ok-edits.ensures.reserved_stays c.keep-change.ensures.reserved

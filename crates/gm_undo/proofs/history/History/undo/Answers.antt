use Rattle.std.proofs.Common.{◌≡◌, ℕ, ◌≤◌, is_some, length, refl, sym, ap, ◌∙◌}
use Rattle.std.proofs.lemmas.Bool.{false≢true}
use Rattle.gm_undo.specs.inner.Layout.{changes_in}
use Rattle.gm_undo.specs.inner.Standing.{IsEntry}
use Rattle.std.proofs.Math.Nat.{le_trans}
use Rattle.gm_undo.proofs.Sums.{starts_low}
use Rattle.gm_undo.proofs.Tellings.{back_takes, last_of, none_back, not_open, sound_held, sound_here, undone}
use Rattle.gm_undo.proofs.history.History.undo.Goals as goal

pub returns-then-self-eq0-clause-history : goal.returns-then-self-eq0-clause-history
returns-then-self-eq0-clause-history g c told s =
    let outside = not_open _ c.args.arena.now (rw (← c.self.view_is) at c.requires.stands) in
    (none_back _ _ _ c.args.arena.now c.self.inside.made c.if-self-eq0.true c.self.inside.group outside told (rw (← c.self.view_is) at s), refl, refl)

pub returns-then-self-eq0-clause-sound : goal.returns-then-self-eq0-clause-sound
returns-then-self-eq0-clause-sound g c = sound_held _ c.args.arena.now c.requires.stands.0 c.requires.stands.1

pub entry_before-start-requires : goal.entry_before-start-requires
entry_before-start-requires g c =
    let stands = rw (← c.self.view_is) at c.requires.stands in
    let entry = last_of _ _ _ c.args.arena.now c.self.inside.made c.if-self-eq0.false c.self.inside.group (not_open _ c.args.arena.now stands) stands.0 stands.1 in
    (c.self.inside.rows.rows, entry.0, rw c.deref.ensures.value entry.1)

pub go_back-requires-clause-start : goal.go_back-requires-clause-start
go_back-requires-clause-start g c =
    let stands = rw (← c.self.view_is) at c.requires.stands in
    let entry = last_of _ _ _ c.args.arena.now c.self.inside.made c.if-self-eq0.false c.self.inside.group (not_open _ c.args.arena.now stands) stands.0 stands.1 in
    starts_low c.entry_before-start.result entry.0 c.self.inside.made entry.1.some (c.entry_before-start.ensures c.self.inside.rows.rows entry.0 (rw c.deref.ensures.value entry.1))

pub go_back-requires-clause-chained : goal.go_back-requires-clause-chained
go_back-requires-clause-chained g c =
    let stands = rw (← c.self.view_is) at c.requires.stands in
    (stands.1.rows, rw c.deref-2.ensures.value stands.1.held.chained)

pub invariant_of-self : goal.invariant_of-self
invariant_of-self g c =
    let laid = c.self.invariant in
    let stands = rw (← c.self.view_is) at c.requires.stands in
    let outside = not_open _ c.args.arena.now stands in
    let entry = last_of _ _ _ c.args.arena.now c.self.inside.made c.if-self-eq0.false c.self.inside.group outside stands.0 stands.1 in
    let low : c.entry_before-start.result ≤ c.self.inside.made = starts_low c.entry_before-start.result entry.0 c.self.inside.made entry.1.some (c.entry_before-start.ensures c.self.inside.rows.rows entry.0 (rw c.deref.ensures.value entry.1)) in
    record {
      first = laid.first;
      middle = laid.middle;
      end = laid.end;
      ends = laid.ends;
      within = le_trans low laid.within;
      group_within = λ start e. absurd (false≢true (ap is_some (sym outside ∙ e)));
    }

pub returns-clause-history : goal.returns-clause-history
returns-clause-history g c told s =
    let outside = not_open _ c.args.arena.now (rw (← c.self.view_is) at c.requires.stands) in
    let is : (start : ℕ) → IsEntry (changes_in c.self.inside.rows.rows c.self.inside.changes.items) start c.self.inside.made → c.entry_before-start.result ≡ start = λ start entry. c.entry_before-start.ensures c.self.inside.rows.rows start (rw c.deref.ensures.value entry) in
    undone _ _ _ c.args.arena.now c.go_back.new.arena c.self.inside.made c.entry_before-start.result c.go_back.ensures.room
    (rw c.deref-2.ensures.value at c.go_back.ensures.chained)
    c.self.inside.group outside is c.if-self-eq0.false told (rw (← c.self.view_is) at s)

pub returns-clause-most : goal.returns-clause-most
returns-clause-most g c entries may =
    let outside = not_open _ c.args.arena.now (rw (← c.self.view_is) at c.requires.stands) in
    let is : (start : ℕ) → IsEntry (changes_in c.self.inside.rows.rows c.self.inside.changes.items) start c.self.inside.made → c.entry_before-start.result ≡ start = λ start entry. c.entry_before-start.ensures c.self.inside.rows.rows start (rw c.deref.ensures.value entry) in
    rw c.go_back.ensures.room.schema (back_takes _ _ _ c.args.arena.now.schema.dim c.self.inside.made c.entry_before-start.result c.args.steps.now c.go_back.new.steps
    c.self.inside.group outside is c.if-self-eq0.false (rw c.deref-2.ensures.value at c.go_back.ensures.cost) entries (rw (← c.self.view_is) at may))

pub returns-clause-sound : goal.returns-clause-sound
returns-clause-sound g c =
    let stands = rw (← c.self.view_is) at c.requires.stands in
    let chained = (rw c.deref-2.ensures.value at c.go_back.ensures.chained) stands.1.rows stands.1.held.chained in
    let entry = last_of _ _ _ c.args.arena.now c.self.inside.made c.if-self-eq0.false c.self.inside.group (not_open _ c.args.arena.now stands) stands.0 stands.1 in
    let low : c.entry_before-start.result ≤ length (changes_in c.self.inside.rows.rows c.self.inside.changes.items) = le_trans (starts_low c.entry_before-start.result entry.0 c.self.inside.made entry.1.some (c.entry_before-start.ensures c.self.inside.rows.rows entry.0 (rw c.deref.ensures.value entry.1))) stands.1.held.within in
    sound_here _ c.go_back.new.arena stands.1.rows c.entry_before-start.result chained low

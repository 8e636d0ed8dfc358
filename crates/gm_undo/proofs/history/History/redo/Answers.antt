use Rattle.std.proofs.Common.{◌≡◌, ◌≢◌, ℕ, ◌≤◌, is_some, length, refl, sym, ap, subst, ◌∙◌}
use Rattle.std.proofs.lemmas.Bool.{false≢true}
use Rattle.gm_undo.specs.inner.Layout.{changes_in}
use Rattle.gm_undo.specs.inner.Standing.{IsEntry}
use Rattle.gm_undo.proofs.Spans.{changes_long}
use Rattle.gm_undo.proofs.Sums.{ends_high, ends_low}
use Rattle.gm_undo.proofs.Tellings.{next_of, none_on, not_open, on_takes, redone, sound_held, sound_here}
use Rattle.gm_undo.proofs.history.History.redo.Goals as goal

pub returns-then-self-len-clause-history : goal.returns-then-self-len-clause-history
returns-then-self-len-clause-history g c told s =
    let all : c.self.inside.made ≡ length (changes_in c.self.inside.rows.rows c.self.inside.changes.items) = c.if-self-len.true ∙ c.len.ensures ∙ c.self.inside.changes.ok.0 ∙ sym (changes_long c.self.inside.rows.rows c.self.inside.changes.items) in
    (none_on _ _ _ c.args.arena.now c.self.inside.made all c.self.inside.group told (rw (← c.self.view_is) at s), refl, refl)

pub returns-then-self-len-clause-sound : goal.returns-then-self-len-clause-sound
returns-then-self-len-clause-sound g c = sound_held _ c.args.arena.now c.requires.stands.0 c.requires.stands.1

pub entry_behind-end-requires : goal.entry_behind-end-requires
entry_behind-end-requires g c =
    let stands = rw (← c.self.view_is) at c.requires.stands in
    let some : c.self.inside.made ≢ length (changes_in c.self.inside.rows.rows c.self.inside.changes.items) = λ e. c.if-self-len.false (e ∙ changes_long c.self.inside.rows.rows c.self.inside.changes.items ∙ sym c.self.inside.changes.ok.0 ∙ sym c.len.ensures) in
    let entry = next_of _ _ _ c.args.arena.now c.self.inside.made some c.self.inside.group stands.0 stands.1 in
    (c.self.inside.rows.rows, entry.0, rw c.deref.ensures.value entry.1)

pub go_on-requires-clause-laid_out : goal.go_on-requires-clause-laid_out
go_on-requires-clause-laid_out g c =
    let laid = c.self.invariant in
    let stands = rw (← c.self.view_is) at c.requires.stands in
    let some : c.self.inside.made ≢ length (changes_in c.self.inside.rows.rows c.self.inside.changes.items) = λ e. c.if-self-len.false (e ∙ changes_long c.self.inside.rows.rows c.self.inside.changes.items ∙ sym c.self.inside.changes.ok.0 ∙ sym c.len.ensures) in
    let entry = next_of _ _ _ c.args.arena.now c.self.inside.made some c.self.inside.group stands.0 stands.1 in
    let at_end = c.entry_behind-end.ensures c.self.inside.rows.rows entry.0 (rw c.deref.ensures.value entry.1) in
    rw c.deref-2.ensures.value (record {
      first = laid.first;
      middle = laid.middle;
      end = laid.end;
      ends = laid.ends;
      within = subst (λ n. c.entry_behind-end.result ≤ n) (changes_long c.self.inside.rows.rows c.self.inside.changes.items) (ends_low c.entry_behind-end.result entry.0 (length (changes_in c.self.inside.rows.rows c.self.inside.changes.items)) entry.1.ends.within at_end);
      group_within = λ start e. absurd (false≢true (ap is_some e));
    })

pub go_on-requires-clause-start : goal.go_on-requires-clause-start
go_on-requires-clause-start g c =
    let stands = rw (← c.self.view_is) at c.requires.stands in
    let some : c.self.inside.made ≢ length (changes_in c.self.inside.rows.rows c.self.inside.changes.items) = λ e. c.if-self-len.false (e ∙ changes_long c.self.inside.rows.rows c.self.inside.changes.items ∙ sym c.self.inside.changes.ok.0 ∙ sym c.len.ensures) in
    let entry = next_of _ _ _ c.args.arena.now c.self.inside.made some c.self.inside.group stands.0 stands.1 in
    ends_high c.self.inside.made entry.0 c.entry_behind-end.result entry.1.some (c.entry_behind-end.ensures c.self.inside.rows.rows entry.0 (rw c.deref.ensures.value entry.1))

pub go_on-requires-clause-chained : goal.go_on-requires-clause-chained
go_on-requires-clause-chained g c =
    let stands = rw (← c.self.view_is) at c.requires.stands in
    (stands.1.rows, rw c.deref-2.ensures.value stands.1.held.chained)

pub invariant_of-self : goal.invariant_of-self
invariant_of-self g c =
    let laid = c.self.invariant in
    let stands = rw (← c.self.view_is) at c.requires.stands in
    let outside = not_open _ c.args.arena.now stands in
    let some : c.self.inside.made ≢ length (changes_in c.self.inside.rows.rows c.self.inside.changes.items) = λ e. c.if-self-len.false (e ∙ changes_long c.self.inside.rows.rows c.self.inside.changes.items ∙ sym c.self.inside.changes.ok.0 ∙ sym c.len.ensures) in
    let entry = next_of _ _ _ c.args.arena.now c.self.inside.made some c.self.inside.group stands.0 stands.1 in
    let at_end = c.entry_behind-end.ensures c.self.inside.rows.rows entry.0 (rw c.deref.ensures.value entry.1) in
    record {
      first = laid.first;
      middle = laid.middle;
      end = laid.end;
      ends = laid.ends;
      within = subst (λ n. c.entry_behind-end.result ≤ n) (changes_long c.self.inside.rows.rows c.self.inside.changes.items) (ends_low c.entry_behind-end.result entry.0 (length (changes_in c.self.inside.rows.rows c.self.inside.changes.items)) entry.1.ends.within at_end);
      group_within = λ start e. absurd (false≢true (ap is_some (sym outside ∙ e)));
    }

pub returns-clause-history : goal.returns-clause-history
returns-clause-history g c told s =
    let outside = not_open _ c.args.arena.now (rw (← c.self.view_is) at c.requires.stands) in
    let some : c.self.inside.made ≢ length (changes_in c.self.inside.rows.rows c.self.inside.changes.items) = λ e. c.if-self-len.false (e ∙ changes_long c.self.inside.rows.rows c.self.inside.changes.items ∙ sym c.self.inside.changes.ok.0 ∙ sym c.len.ensures) in
    let is : (end : ℕ) → IsEntry (changes_in c.self.inside.rows.rows c.self.inside.changes.items) c.self.inside.made end → c.entry_behind-end.result ≡ end = λ end entry. c.entry_behind-end.ensures c.self.inside.rows.rows end (rw c.deref.ensures.value entry) in
    redone _ _ _ c.args.arena.now c.go_on.new.arena c.self.inside.made c.entry_behind-end.result c.go_on.ensures.room
    (rw c.deref-2.ensures.value at c.go_on.ensures.chained)
    c.self.inside.group outside is some told (rw (← c.self.view_is) at s)

pub returns-clause-most : goal.returns-clause-most
returns-clause-most g c entries may =
    let outside = not_open _ c.args.arena.now (rw (← c.self.view_is) at c.requires.stands) in
    let some : c.self.inside.made ≢ length (changes_in c.self.inside.rows.rows c.self.inside.changes.items) = λ e. c.if-self-len.false (e ∙ changes_long c.self.inside.rows.rows c.self.inside.changes.items ∙ sym c.self.inside.changes.ok.0 ∙ sym c.len.ensures) in
    let is : (end : ℕ) → IsEntry (changes_in c.self.inside.rows.rows c.self.inside.changes.items) c.self.inside.made end → c.entry_behind-end.result ≡ end = λ end entry. c.entry_behind-end.ensures c.self.inside.rows.rows end (rw c.deref.ensures.value entry) in
    rw c.go_on.ensures.room.schema (on_takes _ _ _ c.args.arena.now.schema.dim c.self.inside.made c.entry_behind-end.result c.args.steps.now c.go_on.new.steps
    c.self.inside.group outside is some (rw c.deref-2.ensures.value at c.go_on.ensures.cost) entries (rw (← c.self.view_is) at may))

pub returns-clause-sound : goal.returns-clause-sound
returns-clause-sound g c =
    let stands = rw (← c.self.view_is) at c.requires.stands in
    let some : c.self.inside.made ≢ length (changes_in c.self.inside.rows.rows c.self.inside.changes.items) = λ e. c.if-self-len.false (e ∙ changes_long c.self.inside.rows.rows c.self.inside.changes.items ∙ sym c.self.inside.changes.ok.0 ∙ sym c.len.ensures) in
    let chained = (rw c.deref-2.ensures.value at c.go_on.ensures.chained) stands.1.rows stands.1.held.chained in
    let entry = next_of _ _ _ c.args.arena.now c.self.inside.made some c.self.inside.group stands.0 stands.1 in
    let at_end = c.entry_behind-end.ensures c.self.inside.rows.rows entry.0 (rw c.deref.ensures.value entry.1) in
    let low : c.entry_behind-end.result ≤ length (changes_in c.self.inside.rows.rows c.self.inside.changes.items) = ends_low c.entry_behind-end.result entry.0 (length (changes_in c.self.inside.rows.rows c.self.inside.changes.items)) entry.1.ends.within at_end in
    sound_here _ c.go_on.new.arena stands.1.rows c.entry_behind-end.result chained low

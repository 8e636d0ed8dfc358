use Rattle.std.proofs.Common.{◌≡◌, ℕ, ◌≤◌, None, Some, is_some, length, sym, ap, subst, ◌∙◌}
use Rattle.std.proofs.lemmas.Bool.{false≢true}
use Rattle.gm_undo.specs.inner.Layout.{end_of}
use Rattle.gm_undo.specs.inner.Standing.{map_of}
use Rattle.gm_undo.proofs.Entering.{changes_cut, dropped_costs, dropped_cut, dropped_same, dropped_same_costs, end_low, group_low, group_map, laid_cut, take_less}
use Rattle.std.proofs.Math.Nat.{le_refl}
use Rattle.gm_undo.proofs.Sums.{low_in, same_start}
use Rattle.gm_undo.proofs.Tellings.{sound_here, sound_held}
use Rattle.gm_undo.proofs.history.History.take_back.Goals as goal
use Rattle.gm_undo.proofs.history.History.take_back.Goals.{then-start-self, else-start-self}

pub go_back-requires-clause-chained : goal.go_back-requires-clause-chained
go_back-requires-clause-chained g c =
    let stands = rw (← c.self.view_is) at c.requires.stands in
    (stands.2.rows, rw c.deref.ensures.value stands.2.held.chained)

pub truncate-requires : goal.truncate-requires
truncate-requires g c =
    subst (λ n. n ≤ length c.self.inside.rows.rows) (sym (rw c.deref-then-start-self.ensures.value at c.kept_end-kept.ensures)) (end_low c.self.inside.rows.rows c.self.inside.changes.items c.self.inside.made c.self.inside.group c.self.invariant c.in-Some.start (low_in c.in-Some.start c.self.inside.made (length c.self.inside.changes.items) c.if-start-self.true c.self.invariant.within))

none_some : {A : Type 0} (start : ℕ) → None ≡ Some start → A
none_some start e = absurd (false≢true (ap is_some e))

pub invariant_of-self : goal.invariant_of-self
invariant_of-self g c = elim c.if-start-self.branch [
  | then-start-self w ↦
      let low : c.in-Some.start ≤ length c.self.inside.changes.items = low_in c.in-Some.start c.self.inside.made (length c.self.inside.changes.items) w.if-start-self.true c.self.invariant.within in
      rw (w.self-inside-is, w.truncate.ensures, w.truncate-then-start-self.ensures.items, w.kept_end-kept.ensures, w.deref-then-start-self.ensures.value)
      (laid_cut c.self.inside.rows.rows c.self.inside.changes.items c.self.inside.made c.self.inside.group c.self.invariant c.in-Some.start low)
  | else-start-self w ↦
      rw w.self-inside-is (record {
        first = c.self.invariant.first;
        middle = c.self.invariant.middle;
        end = c.self.invariant.end;
        ends = c.self.invariant.ends;
        within = c.self.invariant.within;
        group_within = λ start e. none_some start e;
      })
]

pub returns-clause-map : goal.returns-clause-map
returns-clause-map g c told group s e =
    let stands = rw (← c.self.view_is, c.in-Some.is) at s in
    elim c.if-start-self.branch [
      | then-start-self w ↦
          let chained = (rw w.deref.ensures.value at w.go_back.ensures.chained) stands.rows stands.held.chained in
          rw (w.arena-is) (ap (map_of w.go_back.new.arena.schema) (sym chained.here) ∙ ap (λ x. map_of x (stands.rows c.in-Some.start)) w.go_back.ensures.room.schema ∙ sym (group_map _ _ _ c.args.arena.now c.self.inside.made c.in-Some.start told stands group e))
      | else-start-self w ↦
          let is : c.in-Some.start ≡ c.self.inside.made = same_start c.in-Some.start c.self.inside.made w.if-start-self.false (group_low _ _ _ c.args.arena.now c.self.inside.made c.in-Some.start told stands) in
          rw (w.arena-is) (ap (map_of c.args.arena.now.schema) (sym stands.held.chained.here ∙ ap stands.rows (sym is)) ∙ sym (group_map _ _ _ c.args.arena.now c.self.inside.made c.in-Some.start told stands group e))
    ]

pub returns-clause-history : goal.returns-clause-history
returns-clause-history g c told s =
    let stands = rw (← c.self.view_is, c.in-Some.is) at s in
    elim c.if-start-self.branch [
      | then-start-self w ↦
          let chained = (rw w.deref.ensures.value at w.go_back.ensures.chained) stands.rows stands.held.chained in
          let low : c.in-Some.start ≤ length c.self.inside.changes.items = low_in c.in-Some.start c.self.inside.made (length c.self.inside.changes.items) w.if-start-self.true c.self.invariant.within in
          rw (
            w.self-inside-is,
            w.arena-is,
            w.truncate.ensures,
            w.truncate-then-start-self.ensures.items,
            w.kept_end-kept.ensures,
            w.deref-then-start-self.ensures.value,
            changes_cut c.self.inside.rows.rows _ c.self.inside.changes.items c.self.inside.made c.self.inside.group c.self.invariant c.in-Some.start low (take_less (end_of c.self.inside.changes.items c.in-Some.start) (end_of c.self.inside.changes.items c.in-Some.start) c.self.inside.rows.rows (le_refl _)),
          )
          (dropped_cut c.self.inside.rows.labels c.self.inside.rows.width _ c.args.arena.now c.self.inside.made c.in-Some.start told stands w.go_back.new.arena w.if-start-self.true w.go_back.ensures.room.schema chained)
      | else-start-self w ↦
          let is : c.in-Some.start ≡ c.self.inside.made = same_start c.in-Some.start c.self.inside.made w.if-start-self.false (group_low _ _ _ c.args.arena.now c.self.inside.made c.in-Some.start told stands) in
          rw (w.self-inside-is, w.arena-is) (dropped_same _ _ _ c.args.arena.now c.self.inside.made c.in-Some.start told stands is)
    ]

pub returns-clause-entries : goal.returns-clause-entries
returns-clause-entries g c entries may' =
    let may = rw (← c.self.view_is, c.in-Some.is) at may' in
    let held = rw (← c.self.view_is, c.in-Some.is) at c.requires.stands in
    let told = held.0 in
    let stands = held.2 in
    elim c.if-start-self.branch [
      | then-start-self w ↦
          let low : c.in-Some.start ≤ length c.self.inside.changes.items = low_in c.in-Some.start c.self.inside.made (length c.self.inside.changes.items) w.if-start-self.true c.self.invariant.within in
          rw (
            w.self-inside-is,
            w.arena-is,
            w.go_back.ensures.room.schema,
            w.truncate.ensures,
            w.truncate-then-start-self.ensures.items,
            w.kept_end-kept.ensures,
            w.deref-then-start-self.ensures.value,
            changes_cut c.self.inside.rows.rows _ c.self.inside.changes.items c.self.inside.made c.self.inside.group c.self.invariant c.in-Some.start low (take_less (end_of c.self.inside.changes.items c.in-Some.start) (end_of c.self.inside.changes.items c.in-Some.start) c.self.inside.rows.rows (le_refl _)),
          )
          (dropped_costs c.self.inside.rows.labels c.self.inside.rows.width _ c.args.arena.now c.self.inside.made c.in-Some.start told stands c.args.arena.now.schema.dim entries w.if-start-self.true may)
      | else-start-self w ↦
          let is : c.in-Some.start ≡ c.self.inside.made = same_start c.in-Some.start c.self.inside.made w.if-start-self.false (group_low _ _ _ c.args.arena.now c.self.inside.made c.in-Some.start told stands) in
          rw (w.self-inside-is, w.arena-is) (dropped_same_costs _ _ _ c.args.arena.now c.self.inside.made c.in-Some.start told stands c.args.arena.now.schema.dim entries is may)
    ]

pub returns-clause-sound : goal.returns-clause-sound
returns-clause-sound g c =
    let held = rw (← c.self.view_is, c.in-Some.is) at c.requires.stands in
    let stands = held.2 in
    elim c.if-start-self.branch [
      | then-start-self w ↦
          let chained = (rw w.deref.ensures.value at w.go_back.ensures.chained) stands.rows stands.held.chained in
          rw w.arena-is (sound_here _ w.go_back.new.arena stands.rows c.in-Some.start chained (low_in c.in-Some.start c.self.inside.made _ w.if-start-self.true stands.held.within))
      | else-start-self w ↦ rw w.arena-is (sound_held _ c.args.arena.now held.0 stands)
    ]

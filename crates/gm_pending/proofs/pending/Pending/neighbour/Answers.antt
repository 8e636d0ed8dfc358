use Rattle.std.proofs.Common.{◌≤◌, IsSome, subst, sym}
use Rattle.std.specs.FinMap.{get}
use Rattle.gm_arena.specs.inner.ArenaMap.{IsAt, name_at, alpha}
use Rattle.gm_pending.specs.inner.Results.{PendingOf, IsPrepared}
use Rattle.gm_pending.proofs.on_pending.ResultDarts.{old_kept, unmade_old}
use Rattle.gm_pending.proofs.on_pending.SteadyArcs.{kept_neighbour}
use Rattle.gm_pending.proofs.pending.Pending.neighbour.Goals as goal

pub returns-then-is_old-clause-arc : goal.returns-then-is_old-clause-arc
returns-then-is_old-clause-arc g c =
    let app = c.args.self.now in
    let prepared : IsPrepared app = subst IsPrepared c.self.view_is c.self.invariant.0 in
    let at = subst (λ (a : PendingOf). IsAt a.map c.alpha.result.at (alpha a.map c.args.label (name_at a.map c.slot.result.at))) c.self.view_is c.alpha.ensures.neighbour in
    rw (c.slot.ensures, c.old.ensures) ((kept_neighbour app prepared c.args.label c.requires.label (c.requires.kept c.if-not-made.true) c.slot.result.at c.alpha.result.at (rw c.slot.ensures at c.requires.dart) at).0)

pub returns-then-is_old-clause-dart : goal.returns-then-is_old-clause-dart
returns-then-is_old-clause-dart g c =
    let app = c.args.self.now in
    let prepared : IsPrepared app = subst IsPrepared c.self.view_is c.self.invariant.0 in
    let at = subst (λ (a : PendingOf). IsAt a.map c.alpha.result.at (alpha a.map c.args.label (name_at a.map c.slot.result.at))) c.self.view_is c.alpha.ensures.neighbour in
    rw c.old.ensures ((kept_neighbour app prepared c.args.label c.requires.label (c.requires.kept c.if-not-made.true) c.slot.result.at c.alpha.result.at (rw c.slot.ensures at c.requires.dart) at).1)

pub slot-requires-2 : goal.slot-requires-2
slot-requires-2 g c =
    let app = c.args.self.now in
    let prepared : IsPrepared app = subst IsPrepared c.self.view_is c.self.invariant.0 in
    unmade_old app prepared c.args.at c.args.label c.requires.dart c.requires.label c.in_default.ensures

pub returns-clause-arc : goal.returns-clause-arc
returns-clause-arc g c =
    let app = c.args.self.now in
    let prepared : IsPrepared app = subst IsPrepared c.self.view_is c.self.invariant.0 in
    let at = subst (λ (a : PendingOf). IsAt a.map c.alpha-2.result.at (alpha a.map c.args.label (name_at a.map c.slot-2.result.at))) c.self.view_is c.alpha-2.ensures.neighbour in
    rw (c.slot-2.ensures, c.old-2.ensures) ((old_kept app prepared c.slot-2.result.at c.alpha-2.result.at c.args.label (rw c.slot-2.ensures at c.requires.dart) c.requires.label (rw c.slot-2.ensures at c.in_default.ensures) at).0)

pub returns-clause-dart : goal.returns-clause-dart
returns-clause-dart g c =
    let app = c.args.self.now in
    let prepared : IsPrepared app = subst IsPrepared c.self.view_is c.self.invariant.0 in
    let at = subst (λ (a : PendingOf). IsAt a.map c.alpha-2.result.at (alpha a.map c.args.label (name_at a.map c.slot-2.result.at))) c.self.view_is c.alpha-2.ensures.neighbour in
    rw c.old-2.ensures ((old_kept app prepared c.slot-2.result.at c.alpha-2.result.at c.args.label (rw c.slot-2.ensures at c.requires.dart) c.requires.label (rw c.slot-2.ensures at c.in_default.ensures) at).1)

pub alpha-requires : goal.alpha-requires
alpha-requires g c =
    let dart = rw c.slot.ensures at c.requires.dart in
    record {
      live = subst (λ (a : PendingOf). IsSome (get a.map.slots c.slot.result.at)) (sym c.self.view_is) dart.0;
      label = subst (λ (a : PendingOf). c.args.label ≤ a.map.schema.dim) (sym c.self.view_is) c.requires.label;
    }

pub alpha-requires-2 : goal.alpha-requires-2
alpha-requires-2 g c =
    let dart = rw c.slot-2.ensures at c.requires.dart in
    record {
      live = subst (λ (a : PendingOf). IsSome (get a.map.slots c.slot-2.result.at)) (sym c.self.view_is) dart.0;
      label = subst (λ (a : PendingOf). c.args.label ≤ a.map.schema.dim) (sym c.self.view_is) c.requires.label;
    }

use Rattle.std.proofs.Common.{◌≡◌, ℕ, ◌+◌, ◌-◌, ◌<◌, ◌≤◌, length, max, min, refl, sym, ap, ◌∙◌, le_of_eq, le_of_lt, le_refl, le_trans, arith}
use Rattle.std.proofs.lemmas.List.{take_all}
use Rattle.gm_model.proofs.Exits.{never_ok}
use Rattle.gm_walk.specs.inner.Room.{Room}
use Rattle.gm_walk.proofs.MarkLemmas.{more_marks, queue_short, still_kept}
use Rattle.gm_walk.proofs.scratch.Scratch.widen.Goals as goal

-- ---- the numbers of places

below_room : (len items marks old bound room : ℕ) → len ≡ items → items ≤ marks → marks ≡ old → old < bound → room ≡ max bound 1048576 → len ≤ room
below_room len items marks old bound room e few same more most = omega arith

enough : (items len made room bound : ℕ) → len ≡ items → len ≡ made → made ≡ min room (bound + 1024) → room ≡ max bound 1048576 → bound ≤ items
enough items len made room bound e f is most = omega arith

all_queued : (items len made room bound held queued capacity : ℕ) → len ≡ items → len ≡ made → made ≡ min room (bound + 1024) → held ≡ queued → queued + (room - held) ≤ capacity → items ≤ capacity
all_queued items len made room bound held queued capacity e f is same fits = omega arith

not_many : (items len made room bound : ℕ) → len ≡ items → len ≡ made → made ≡ min room (bound + 1024) → room ≡ max bound 1048576 → bound ≤ 4294967295 → items ≤ 4294967295
not_many items len made room bound e f is most low = omega arith

-- ---- the goals

pub overflow_sub-room : goal.overflow_sub-room
overflow_sub-room c =
    let queue = c.self.inside.queue in
    below_room c.len.result (length queue.items) (length c.self.inside.marks.items) c.args.self.now.bound c.args.bound c.max-room.result (c.len.ensures ∙ queue.ok.0)
    (queue_short queue.items _ _ c.self.invariant) (ap (λ (r : Room). r.bound) c.self.view_is) c.requires.more c.max-room.ensures

pub overflow_sub-room-2 : goal.overflow_sub-room-2
overflow_sub-room-2 c =
    let marks = c.self.inside.marks in
    below_room c.len-2.result (length marks.items) (length marks.items) c.args.self.now.bound c.args.bound c.max-room.result (c.len-2.ensures ∙ marks.ok.0)
    (le_refl _) (ap (λ (r : Room). r.bound) c.self.view_is) c.requires.more c.max-room.ensures

pub overflow_add-bound : goal.overflow_add-bound
overflow_add-bound c = omega (arith, c.if-bound.false)

-- the queue has more room, and the marks are as they were

pub invariant_of-self : goal.invariant_of-self
invariant_of-self c = still_kept _ _ _ _ _ _ c.reserve_exact.ensures.items refl c.reserve_exact.ensures.capacity c.self.invariant

pub invariant_of-self-in_err-reserve_exact-2 : goal.invariant_of-self-in_err-reserve_exact-2
invariant_of-self-in_err-reserve_exact-2 c = still_kept _ _ _ _ _ _ c.reserve_exact.ensures.items c.reserve_exact-2.ensures.items c.reserve_exact.ensures.capacity c.self.invariant

pub invariant_of-self-in_err-resize : goal.invariant_of-self-in_err-resize
invariant_of-self-in_err-resize c = still_kept _ _ _ _ _ _ c.reserve_exact.ensures.items (c.in_err-resize.ensures.items ∙ c.reserve_exact-2.ensures.items) c.reserve_exact.ensures.capacity c.self.invariant

pub returns-in_err-reserve_exact : goal.returns-in_err-reserve_exact
returns-in_err-reserve_exact c = record {
  fits = never_ok _ c.from_residual.result c.from_residual.ensures.0;
  kept = le_of_eq (sym (ap (λ (r : Room). r.bound) c.self.view_is));
  walked = c.reserve_exact.ensures.items ∙ ap (λ (r : Room). r.walked) c.self.view_is;
}

pub returns-in_err-resize : goal.returns-in_err-resize
returns-in_err-resize c = record {
  fits = never_ok _ c.from_residual-in_err-resize.result c.from_residual-in_err-resize.ensures.0;
  kept = le_of_eq (sym (ap length (c.in_err-resize.ensures.items ∙ c.reserve_exact-2.ensures.items) ∙ ap (λ (r : Room). r.bound) c.self.view_is));
  walked = c.reserve_exact.ensures.items ∙ ap (λ (r : Room). r.walked) c.self.view_is;
}

-- there are more marks

pub invariant_of-self-2 : goal.invariant_of-self-2
invariant_of-self-2 c =
    let marks = c.self.inside.marks in
    let made = c.min-made.result in
    let new = c.resize.new.self in
    let many = enough (length new.items) new.len made c.max-room.result c.args.bound new.ok.0 c.in_ok-resize.ensures.len c.min-made.ensures c.max-room.ensures in
    let all : length marks.items ≤ made = le_trans (le_of_eq (ap (λ (r : Room). r.bound) c.self.view_is)) (le_trans (le_of_lt c.requires.more) (le_trans many (le_of_eq (sym new.ok.0 ∙ c.in_ok-resize.ensures.len)))) in
    record {
      marked = rw (c.reserve_exact.ensures.items, c.in_ok-resize.ensures.items, c.reserve_exact-2.ensures.items, take_all made marks.items all) (more_marks _ _ _ c.self.invariant.marked);
      room = all_queued (length new.items) new.len made c.max-room.result c.args.bound c.len.result _ _ new.ok.0 c.in_ok-resize.ensures.len c.min-made.ensures (c.len.ensures ∙ sym c.reserve_exact.ensures.len) c.in_ok-reserve_exact.ensures.ok;
      few = not_many (length new.items) new.len made c.max-room.result c.args.bound new.ok.0 c.in_ok-resize.ensures.len c.min-made.ensures c.max-room.ensures c.if-bound.false;
    }

pub returns : goal.returns
returns c =
    let new = c.resize.new.self in
    let many = enough (length new.items) new.len c.min-made.result c.max-room.result c.args.bound new.ok.0 c.in_ok-resize.ensures.len c.min-made.ensures c.max-room.ensures in
    record {
      fits = many;
      kept = le_trans (le_of_lt c.requires.more) many;
      walked = c.reserve_exact.ensures.items ∙ ap (λ (r : Room). r.walked) c.self.view_is;
    }

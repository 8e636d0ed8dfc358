use Rattle.std.proofs.Common.{◌≡◌, ◌+◌, ◌<◌, List, length, get_or, None, sym, ap, ◌∙◌, subst, arith, ◌*◌, ◌≤◌, ℕ, ◌-◌, le_refl, le_of_eq}
use Rattle.std.proofs.lemmas.Option.{slice_get_read}
use Rattle.gm_walk.specs.declared.mark.Mark.{Mark}
use Rattle.gm_pending.specs.inner.ReachedDarts.{IsSpreadTo}
use Rattle.gm_pending.specs.inner.Results.{name_of}
use Rattle.gm_pending.proofs.on_deciding.ArcsFollowed.{stays_longer, walked_cost, walked_on, walked_some}
use Rattle.gm_pending.proofs.on_deciding.DecidersFound.{on_ok}
use Rattle.gm_pending.proofs.on_deciding.TwoLabelOrbits.{follow_other, follow_spreads, follow_starts, one_longer, pair_cost, pair_turned, pair_wide}
use Rattle.gm_pending.proofs.on_marks.OneMoreMark.{key_marked}
use Rattle.gm_pending.proofs.on_deciding.OrbitsWalked.{marked_kept, marked_darts, nothing_grown, spread_starts}
use Rattle.gm_theory.proofs.Lists.{get_contained}
use Rattle.gm_model.proofs.Exits.{never_ok}
use Rattle.gm_pending.proofs.pending.Pending.reach.Goals as goal

-- ---- what is counted

below_long : (next marks long : ℕ) → next < marks → marks ≡ long → next < long
below_long next marks long below is = rw (← is) below

behind : (next marks more : ℕ) → next < marks → marks ≤ more → next + 1 ≤ more
behind next marks more below longer = omega arith

one_later : (start next : ℕ) → start ≤ next → start ≤ next + 1
one_later start next late = omega arith

no_less : (start steps end : ℕ) → start ≤ steps → steps ≤ end → start ≤ end
no_less start steps end a b = omega arith

at_end : (next marks long : ℕ) → next ≤ long → marks ≤ next → marks ≡ long → next ≡ long
at_end next marks long within past is = omega arith

one_fits : (next marks : ℕ) → next < marks → marks < 18446744073709551616 → next + 1 < 18446744073709551616
one_fits next marks below few = omega arith

nearer : (next marks : ℕ) → next < marks → marks < 18446744073709551616 → 18446744073709551616 - (next + 1) < 18446744073709551616 - next
nearer next marks below few = omega arith

pub returns-in_err-mark_first : goal.returns-in_err-mark_first
returns-in_err-mark_first g c =
    record {
      darts = rw c.in_err-mark_first.ensures.err c.requires.darts;
      spread = never_ok _ c.from_residual.result c.from_residual.ensures.0;
      grown = λ result unfolded closed. rw c.in_err-mark_first.ensures.err
          (nothing_grown c.args.self.now c.requires.prepared c.args.embed c.args.declared.now c.requires.embed result unfolded c.args.marks.now c.args.index (name_of c.args.self.now c.args.at));
      cost = rw c.in_err-mark_first.ensures.err (le_refl _);
      least = le_refl _;
    }

pub loop-next-init : goal.loop-next-init
loop-next-init g c =
    let app = c.args.self.now in
    let prepared = c.requires.prepared in
    let more = c.in_ok-mark_first.ensures.ok in
    let start : c.len-next.result ≡ length c.args.marks.now = c.len-next.ensures.len in
    record {
      darts = marked_darts app prepared c.args.marks.now c.mark_first.new.self c.args.at c.args.index None more c.requires.dart c.requires.darts;
      late = le_of_eq (sym start);
      within = subst (λ n. n ≤ length c.mark_first.new.self) (sym start) (stays_longer c.args.marks.now c.mark_first.new.self (marked_kept app prepared c.args.marks.now c.mark_first.new.self c.args.at c.args.index None more));
      spread = λ result unfolded closed. subst (λ n. IsSpreadTo app c.args.declared.now result c.args.marks.now c.mark_first.new.self c.args.index (name_of app c.args.at) n 0) (sym start)
          (spread_starts app prepared c.args.embed c.args.declared.now c.requires.embed result unfolded c.args.marks.now c.mark_first.new.self c.args.at c.args.index closed c.requires.absent more);
      cost = rw start (le_refl _);
      least = le_refl _;
    }

pub returns-in_err-spread : goal.returns-in_err-spread
returns-in_err-spread g c =
    record {
      darts = c.spread.ensures.darts;
      spread = never_ok _ c.from_residual-in_err-spread.result c.from_residual-in_err-spread.ensures.0;
      grown = let l = c.loop-next in
          λ result unfolded closed. walked_some c.args.self.now c.requires.prepared c.args.embed c.args.declared.now c.requires.embed c.args.marks.now l.marks c.spread.new.marks c.args.index (name_of c.args.self.now c.args.at) l.next
          _ l.invariant.late (slice_get_read l.marks _ l.next c.index-as_slice-next.result c.len.ensures.len c.loop-next-test.true (c.index-as_slice-next.is ∙ ap (λ (marks : List Mark). get_or marks l.next c.index-as_slice-next.result) c.as_slice.ensures.reached)) result unfolded (l.invariant.spread result unfolded closed) c.spread.ensures.grown;
      cost = let within : c.loop-next.next < length c.loop-next.marks = below_long _ _ _ c.loop-next-test.true c.len.ensures.len in
          walked_cost c.args.self.now.map.schema.dim c.loop-next.next (length c.spread.new.marks) (length c.args.marks.now) c.args.steps.now c.loop-next.steps c.spread.new.steps (behind _ _ _ within c.spread.ensures.longer) c.loop-next.invariant.cost c.spread.ensures.cost;
      least = no_less _ _ _ c.loop-next.invariant.least c.spread.ensures.least;
    }

pub loop-next-preserved : goal.loop-next-preserved
loop-next-preserved g c =
    let l = c.loop-next in
    let within : l.next < length l.marks = below_long _ _ _ c.loop-next-test.true c.len.ensures.len in
    record {
      darts = c.spread.ensures.darts;
      late = one_later _ _ l.invariant.late;
      within = behind _ _ _ within c.spread.ensures.longer;
      spread = λ result unfolded closed. walked_on c.args.self.now c.requires.prepared c.args.embed c.args.declared.now c.requires.embed c.args.marks.now l.marks c.spread.new.marks c.args.index (name_of c.args.self.now c.args.at) l.next
          _ l.invariant.late (slice_get_read l.marks _ l.next c.index-as_slice-next.result c.len.ensures.len c.loop-next-test.true (c.index-as_slice-next.is ∙ ap (λ (marks : List Mark). get_or marks l.next c.index-as_slice-next.result) c.as_slice.ensures.reached)) result unfolded (l.invariant.spread result unfolded closed) c.in_ok-spread.ensures.followed;
      cost = walked_cost c.args.self.now.map.schema.dim l.next (l.next + 1) (length c.args.marks.now) c.args.steps.now l.steps c.spread.new.steps (le_refl _) l.invariant.cost c.spread.ensures.cost;
      least = no_less _ _ _ l.invariant.least c.spread.ensures.least;
    }

pub returns : goal.returns
returns g c =
    record {
      darts = c.loop-next.invariant.darts;
      spread = let l = c.loop-next in
          let end : l.next ≡ length l.marks = at_end _ _ _ l.invariant.within c.loop-next-test.false c.len.ensures.len in
          λ result unfolded closed. subst (λ n. IsSpreadTo c.args.self.now c.args.declared.now result c.args.marks.now l.marks c.args.index (name_of c.args.self.now c.args.at) n 0) end (l.invariant.spread result unfolded closed);
      grown = λ result unfolded closed. (c.loop-next.invariant.spread result unfolded closed).grown;
      cost = let l = c.loop-next in
          let end : l.next ≡ length l.marks = at_end _ _ _ l.invariant.within c.loop-next-test.false c.len.ensures.len in
          subst (λ n. l.steps + (c.args.self.now.map.schema.dim + 1) * length c.args.marks.now ≤ c.args.steps.now + (c.args.self.now.map.schema.dim + 1) * n) end l.invariant.cost;
      least = c.loop-next.invariant.least;
    }

pub spread-requires : goal.spread-requires
spread-requires g c =
    record {
      prepared = c.requires.prepared;
      embed = c.requires.embed;
      darts = c.loop-next.invariant.darts;
      from = let l = c.loop-next in
          get_contained l.marks l.next _ (slice_get_read l.marks _ l.next c.index-as_slice-next.result c.len.ensures.len c.loop-next-test.true (c.index-as_slice-next.is ∙ ap (λ (marks : List Mark). get_or marks l.next c.index-as_slice-next.result) c.as_slice.ensures.reached));
    }

pub overflow_add-next : goal.overflow_add-next
overflow_add-next g c = record { fits = one_fits _ _ c.loop-next-test.true c.len.type_inv }

pub loop-next-smaller : goal.loop-next-smaller
loop-next-smaller g c = nearer _ _ c.loop-next-test.true c.len.type_inv

pub follow-requires : goal.follow-requires
follow-requires g c =
    record {
      prepared = c.requires.prepared;
      embed = c.requires.embed;
      pair = c.in-Some.ensures;
      from = c.requires.dart;
      darts = marked_darts c.args.self.now c.requires.prepared c.args.marks.now c.mark_first.new.self c.args.at c.args.index None c.in_ok-mark_first.ensures.ok c.requires.dart c.requires.darts;
      here = key_marked c.args.marks.now c.mark_first.new.self c.args.at c.args.index None c.in_ok-mark_first.ensures.ok;
      begun = λ unfolded is. (c.args.marks.now, c.in-Some.other, follow_starts c.args.self.now c.requires.prepared c.args.embed c.args.declared.now c.requires.embed unfolded is c.args.marks.now c.mark_first.new.self c.args.at c.args.index c.in-Some.one c.in-Some.other c.in-Some.ensures (c.requires.closed unfolded is) c.requires.absent c.in_ok-mark_first.ensures.ok);
    }

pub returns-in_err-follow : goal.returns-in_err-follow
returns-in_err-follow g c =
    record {
      darts = c.follow.ensures.darts;
      spread = never_ok _ c.from_residual-in_err-follow.result c.from_residual-in_err-follow.ensures.0;
      grown = λ result unfolded closed. c.follow.ensures.grown result c.args.marks.now c.in-Some.other unfolded
          (follow_starts c.args.self.now c.requires.prepared c.args.embed c.args.declared.now c.requires.embed result unfolded c.args.marks.now c.mark_first.new.self c.args.at c.args.index c.in-Some.one c.in-Some.other c.in-Some.ensures closed c.requires.absent c.in_ok-mark_first.ensures.ok);
      cost = let app = c.args.self.now in
          let labels = c.requires.prepared.lawful.schema.labels in
          let pair = c.in-Some.ensures in
          let wide : 1 ≤ app.map.schema.dim = pair_wide app.map.schema.dim c.in-Some.one c.in-Some.other pair.apart (labels c.args.embed c.in-Some.one c.args.declared.now c.requires.embed pair.has_one) (labels c.args.embed c.in-Some.other c.args.declared.now c.requires.embed pair.has_other) in
          let long : length c.mark_first.new.self ≡ length c.args.marks.now + 1 = one_longer c.args.marks.now c.mark_first.new.self c.args.at c.args.index None c.in_ok-mark_first.ensures.ok c.requires.absent in
          pair_cost app.map.schema.dim (length c.args.marks.now) (length c.follow.new.marks) c.args.steps.now c.follow.new.steps wide (omega (arith, long, c.follow.ensures.longer)) (omega (arith, long, c.follow.ensures.cost));
      least = c.follow.ensures.least;
    }

pub returns-in-Some : goal.returns-in-Some
returns-in-Some g c =
    record {
      darts = c.follow-in-Some.ensures.darts;
      spread = let app = c.args.self.now in
          let prepared = c.requires.prepared in
          let dim = app.map.schema.dim in
          let d = name_of app c.args.at in
          let one = c.in-Some.one in
          let other = c.in-Some.other in
          on_ok c.follow-in-Some.result c.follow-in-Some.ensures.followed (λ followed result unfolded closed.
          let first = c.in_ok-follow.ensures.followed result c.args.marks.now other unfolded (follow_starts app prepared c.args.embed c.args.declared.now c.requires.embed result unfolded c.args.marks.now c.mark_first.new.self c.args.at c.args.index one other c.in-Some.ensures closed c.requires.absent c.in_ok-mark_first.ensures.ok) in
          let second = followed result c.args.marks.now (dim + 1) unfolded (follow_other app prepared c.args.embed c.args.declared.now c.requires.embed result unfolded c.args.marks.now c.follow.new.marks c.args.index d other (dim + 1) first) in
          follow_spreads app prepared c.args.embed c.args.declared.now c.requires.embed result unfolded c.args.marks.now c.follow-in-Some.new.marks c.args.index d second);
      grown = λ result unfolded closed.
          let app = c.args.self.now in
          let prepared = c.requires.prepared in
          let dim = app.map.schema.dim in
          let other = c.in-Some.other in
          let first = c.in_ok-follow.ensures.followed result c.args.marks.now other unfolded (follow_starts app prepared c.args.embed c.args.declared.now c.requires.embed result unfolded c.args.marks.now c.mark_first.new.self c.args.at c.args.index c.in-Some.one other c.in-Some.ensures closed c.requires.absent c.in_ok-mark_first.ensures.ok) in
          c.follow-in-Some.ensures.grown result c.args.marks.now (dim + 1) unfolded (follow_other app prepared c.args.embed c.args.declared.now c.requires.embed result unfolded c.args.marks.now c.follow.new.marks c.args.index (name_of app c.args.at) other (dim + 1) first);
      cost = let app = c.args.self.now in
          let labels = c.requires.prepared.lawful.schema.labels in
          let pair = c.in-Some.ensures in
          let wide : 1 ≤ app.map.schema.dim = pair_wide app.map.schema.dim c.in-Some.one c.in-Some.other pair.apart (labels c.args.embed c.in-Some.one c.args.declared.now c.requires.embed pair.has_one) (labels c.args.embed c.in-Some.other c.args.declared.now c.requires.embed pair.has_other) in
          let long : length c.mark_first.new.self ≡ length c.args.marks.now + 1 = one_longer c.args.marks.now c.mark_first.new.self c.args.at c.args.index None c.in_ok-mark_first.ensures.ok c.requires.absent in
          pair_cost app.map.schema.dim (length c.args.marks.now) (length c.follow-in-Some.new.marks) c.args.steps.now c.follow-in-Some.new.steps wide
          (omega (arith, long, c.follow.ensures.longer, c.follow-in-Some.ensures.longer)) (omega (arith, long, c.follow.ensures.cost, c.follow-in-Some.ensures.cost));
      least = no_less _ _ _ c.follow.ensures.least c.follow-in-Some.ensures.least;
    }

pub follow-requires-in-Some : goal.follow-requires-in-Some
follow-requires-in-Some g c =
    record {
      prepared = c.requires.prepared;
      embed = c.requires.embed;
      pair = pair_turned c.args.declared.now.mask c.in-Some.one c.in-Some.other c.in-Some.ensures;
      from = c.requires.dart;
      darts = c.follow.ensures.darts;
      here = c.in_ok-follow.ensures.here;
      begun = λ unfolded is.
          let app = c.args.self.now in
          let prepared = c.requires.prepared in
          let dim = app.map.schema.dim in
          let other = c.in-Some.other in
          let first = c.in_ok-follow.ensures.followed unfolded c.args.marks.now other is (follow_starts app prepared c.args.embed c.args.declared.now c.requires.embed unfolded is c.args.marks.now c.mark_first.new.self c.args.at c.args.index c.in-Some.one other c.in-Some.ensures (c.requires.closed unfolded is) c.requires.absent c.in_ok-mark_first.ensures.ok) in
          (c.args.marks.now, dim + 1, follow_other app prepared c.args.embed c.args.declared.now c.requires.embed unfolded is c.args.marks.now c.follow.new.marks c.args.index (name_of app c.args.at) other (dim + 1) first);
    }

pub bounds-as_slice-next : goal.bounds-as_slice-next
bounds-as_slice-next g c = below_long _ _ _ (below_long _ _ _ c.loop-next-test.true c.len.ensures.len) (sym (ap (λ (ms : List Mark). length ms) c.as_slice.ensures.reached))

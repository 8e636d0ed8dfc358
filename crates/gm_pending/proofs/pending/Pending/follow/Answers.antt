use Rattle.std.proofs.Common.{◌≡◌, ℕ, ◌+◌, ◌-◌, ◌<◌, ◌≤◌, Bool, false, None, List, length, sym, ◌∙◌, subst, arith}
use Rattle.std.proofs.lemmas.Bool.{false≢true}
use Rattle.gm_model.specs.declared.schema.Embed.{Embed}
use Rattle.gm_model.specs.Maps.{IsEmbedAt}
use Rattle.gm_theory.specs.inner.Theorem.{Unfolded}
use Rattle.gm_walk.specs.declared.at.At.{At}
use Rattle.gm_walk.specs.declared.mark.Mark.{Mark}
use Rattle.gm_pending.specs.inner.Marks.{HasKey}
use Rattle.gm_walk.specs.inner.Keys.{key_of}
use Rattle.gm_pending.specs.inner.LabelPairs.{IsPair}
use Rattle.gm_pending.specs.inner.ReachedDarts.{IsFollowedAlong, IsFollowedBut, IsFollowedOut, IsGoneOn, IsGrownAlong, LeadsBackOnly}
use Rattle.gm_pending.specs.inner.Results.{PendingOf, IsUnfoldedIn, name_of}
use Rattle.gm_pending.proofs.on_pending.PreparedIsLawful.{some_unfolding}
use Rattle.gm_pending.proofs.on_deciding.TwoLabelOrbits.{by_keys, follow_ends, follow_goes_on, no_shorter, one_longer, only_ends, pair_turned}
use Rattle.gm_pending.proofs.on_marks.OneMoreMark.{key_kept, key_marked}
use Rattle.gm_pending.proofs.on_deciding.OrbitsWalked.{marked_darts}
use Rattle.gm_model.proofs.Exits.{never_ok}
use Rattle.gm_pending.proofs.pending.Pending.follow.Goals as goal

-- ---- what is counted

is_label : (label dim : ℕ) → label ≤ dim → dim ≤ 7 → label < 8
is_label label dim within few = omega arith

-- one step at most was taken before the walk, and a mark may be more
cost_begun : (start old next more : ℕ) → next ≤ start + 1 → old ≤ more → next + old ≤ start + 1 + more
cost_begun start old next more step longer = omega arith

-- or for a mark that is more
cost_first : (start old next more : ℕ) → next ≤ start + 1 → more ≡ old + 1 → next + old ≤ start + more
cost_first start old next more step one = omega arith

-- and so one step later
cost_end : (start old now marks next more : ℕ) → now + old ≤ start + marks → next ≤ now + 1 → marks ≤ more → next + old ≤ start + 1 + more
cost_end start old now marks next more before step longer = omega arith

cost_on : (start old now marks next more : ℕ) → now + old ≤ start + marks → next ≤ now + 1 → more ≡ marks + 1 → next + old ≤ start + more
cost_on start old now marks next more before step one = omega arith

longer_on : (old marks more : ℕ) → old ≤ marks → marks ≤ more → old ≤ more
longer_on old marks more a b = omega arith

one_on : (old marks more : ℕ) → old ≤ marks → more ≡ marks + 1 → old ≤ more
one_on old marks more a b = omega arith

same_long : (before after : List Mark) → after ≡ before → length before ≤ length after
same_long before after same = rw same (omega arith)

-- two marks more are fewer that can be
nearer : (marks more most : ℕ) → more ≡ marks + 1 → most ≡ more + 1 → most ≤ 18446744073709551615 → 18446744073709551616 - most < 18446744073709551616 - marks
nearer marks more most a b few = omega arith

-- ---- one half of the loop, whichever label leads on

module _ (app : PendingOf) (declared : Embed) (index : ℕ) (from : At) (first e : ℕ) (at_embed : IsEmbedAt app.map.schema e declared) (begun : List Mark) where
  -- the walk has come so far
  abbrev IsSoFar : List Mark → At → ℕ → Type 0
  IsSoFar marks at label = (result : Unfolded) (before : List Mark) (m : ℕ) → IsUnfoldedIn app result → IsFollowedBut app declared result before begun index (name_of app from) (name_of app from) first m → IsFollowedBut app declared result before marks index (name_of app from) (name_of app at) label m

  grown_so_far : (marks : List Mark) (at : At) (label : ℕ) → IsSoFar marks at label → IsGrownAlong app declared index (name_of app from) first begun marks
  grown_so_far marks at label so_far result before m unfolded start = (so_far result before m unfolded start).grown

  module _ (at to : At) (label other : ℕ) (pair : IsPair declared.mask label other) (old new : List Mark) where
    ended : IsFollowedOut app index from at label old new → IsSoFar old at label → IsFollowedAlong app declared index (name_of app from) first begun new
    ended out so_far result before m unfolded start = out e other m declared result before at_embed pair unfolded (so_far result before m unfolded start)

    module _ (gone : IsGoneOn app index from at label old to new) (so_far : IsSoFar old at label) where
      gone_to : IsSoFar new to other
      gone_to result before m unfolded start = (gone.walked e other m declared result before at_embed pair unfolded (so_far result before m unfolded start)).0

      back_only : (result : Unfolded) → IsUnfoldedIn app result → (start : (before : List Mark) × (m : ℕ) × IsFollowedBut app declared result before begun index (name_of app from) (name_of app from) first m) → LeadsBackOnly app new from to other
      back_only result unfolded start = (gone.walked e other start.1 declared result start.0 at_embed pair unfolded (so_far result start.0 start.1 unfolded start.2)).1

grown_along : (app : PendingOf) (declared : Embed) (index : ℕ) (from : At) (first : ℕ) (begun marks : List Mark) → IsFollowedAlong app declared index (name_of app from) first begun marks → IsGrownAlong app declared index (name_of app from) first begun marks
grown_along app declared index from first begun marks followed result before m unfolded start = (followed result before m unfolded start).grown

-- ---- the first step

pub neighbour-at-requires : goal.neighbour-at-requires
neighbour-at-requires g c =
    let label = c.requires.prepared.lawful.schema.labels c.args.embed c.args.first c.args.declared.now c.requires.embed c.requires.pair.has_one in
    record {
      dart = c.requires.from;
      label = label;
      kept = λ none. (c.made_labels-made.ensures c.args.first (is_label c.args.first c.args.self.now.map.schema.dim (label) c.requires.prepared.lawful.dim.1)).0 (subst (λ (b : Bool). b ≡ false) c.has-makes_first.ensures none);
    }

pub mark_beside-requires : goal.mark_beside-requires
mark_beside-requires g c = record { from = c.requires.here }

pub returns-in_err-mark_beside : goal.returns-in_err-mark_beside
returns-in_err-mark_beside g c =
    let longer = same_long c.args.marks.now c.mark_beside.new.self c.in_err-mark_beside.ensures.err in
    record {
      darts = rw c.in_err-mark_beside.ensures.err c.requires.darts;
      here = never_ok _ c.from_residual.result c.from_residual.ensures.0;
      followed = never_ok _ c.from_residual.result c.from_residual.ensures.0;
      grown = λ result before m unfolded start. rw c.in_err-mark_beside.ensures.err start.grown;
      cost = cost_begun _ _ _ _ c.neighbour-at.ensures.cost longer;
      longer = longer;
      least = c.neighbour-at.ensures.least;
    }

pub returns-then-not-branch : goal.returns-then-not-branch
returns-then-not-branch g c =
    let marked = c.in_ok-mark_beside.ensures.ok in
    let followed : IsFollowedAlong c.args.self.now c.args.declared.now c.args.index (name_of c.args.self.now c.args.from) c.args.first c.args.marks.now c.mark_beside.new.self =
    λ result before m unfolded start.
    follow_ends c.args.self.now c.requires.prepared c.args.embed c.args.declared.now c.requires.embed result unfolded before c.args.marks.now c.mark_beside.new.self c.args.index _ c.args.first c.args.second m c.args.from c.neighbour-at.result
    start c.requires.pair c.requires.darts c.requires.from c.neighbour-at.ensures.arc marked c.in_ok-mark_beside.ensures.distinct c.neighbour-at.ensures.dart
    (λ absent. false≢true (sym c.if-not-branch.true ∙ c.in_ok-mark_beside.ensures.new.1 absent)) in
    let longer = no_shorter c.args.marks.now c.mark_beside.new.self c.neighbour-at.result c.args.index None marked in
    record {
      darts = marked_darts c.args.self.now c.requires.prepared c.args.marks.now c.mark_beside.new.self c.neighbour-at.result c.args.index None marked c.neighbour-at.ensures.dart c.requires.darts;
      here = key_kept c.args.marks.now c.mark_beside.new.self c.neighbour-at.result c.args.index None (key_of c.args.from) marked c.requires.here;
      followed = followed;
      grown = grown_along c.args.self.now c.args.declared.now c.args.index c.args.from c.args.first c.args.marks.now c.mark_beside.new.self followed;
      cost = cost_begun _ _ _ _ c.neighbour-at.ensures.cost longer;
      longer = longer;
      least = c.neighbour-at.ensures.least;
    }

pub loop-to-init : goal.loop-to-init
loop-to-init g c =
    let app = c.args.self.now in
    let prepared = c.requires.prepared in
    let old = c.args.marks.now in
    let new = c.mark_beside.new.self in
    let to = c.neighbour-at in
    let more = c.in_ok-mark_beside.ensures.ok in
    let absent : HasKey old (key_of to.result) → ⊥ = c.in_ok-mark_beside.ensures.new.0 c.if-not-branch.false in
    let long : length new ≡ length old + 1 = one_longer old new to.result c.args.index None more absent in
    record {
      darts = marked_darts app prepared old new to.result c.args.index None more to.ensures.dart c.requires.darts;
      dart = to.ensures.dart;
      here = key_marked old new to.result c.args.index None more;
      begun = key_kept old new to.result c.args.index None (key_of c.args.from) more c.requires.here;
      followed = λ result before m unfolded start.
          follow_goes_on app prepared c.args.embed c.args.declared.now c.requires.embed result unfolded before old new c.args.index _ c.args.first c.args.second m c.args.from to.result
          start c.requires.pair c.requires.darts c.requires.from to.ensures.arc more absent;
      ends = λ next dart on key.
          let some = some_unfolding app prepared in
          let begun = c.requires.begun some.0 some.1 in
          by_keys app prepared next c.args.from to.result dart c.requires.from
          (only_ends app prepared c.args.embed c.args.declared.now c.requires.embed some.0 some.1 begun.0 old new c.args.index _ c.args.first c.args.second begun.1 c.args.from to.result
          begun.2 c.requires.pair c.requires.darts c.requires.from to.ensures.arc more absent to.ensures.dart next dart on key);
      cost = cost_first _ _ _ _ to.ensures.cost long;
      longer = no_shorter old new to.result c.args.index None more;
      least = to.ensures.least;
    }

-- ---- where the second label leads from there, and then the first

pub go_on-requires : goal.go_on-requires
go_on-requires g c =
    let label = c.requires.prepared.lawful.schema.labels c.args.embed c.args.second c.args.declared.now c.requires.embed c.requires.pair.has_other in
    record {
      prepared = c.requires.prepared;
      label = label;
      kept = λ none. (c.made_labels-made.ensures c.args.second (is_label c.args.second c.args.self.now.map.schema.dim (label) c.requires.prepared.lawful.dim.1)).0 (subst (λ (b : Bool). b ≡ false) c.has-makes_second.ensures none);
      from = c.requires.from;
      dart = c.loop-to.invariant.dart;
      darts = c.loop-to.invariant.darts;
      here = c.loop-to.invariant.here;
      begun = c.loop-to.invariant.begun;
      ends = c.loop-to.invariant.ends;
    }

pub go_on-requires-in-loop-to : goal.go_on-requires-in-loop-to
go_on-requires-in-loop-to g c =
    let gone : IsGoneOn c.args.self.now c.args.index c.args.from c.loop-to.at c.args.second c.loop-to.marks c.in-Some.to c.go_on.new.marks = rw c.in-Some.is at c.in_ok-to.ensures.on in
    let label = c.requires.prepared.lawful.schema.labels c.args.embed c.args.first c.args.declared.now c.requires.embed c.requires.pair.has_one in
    let some = some_unfolding c.args.self.now c.requires.prepared in
    record {
      prepared = c.requires.prepared;
      label = label;
      kept = λ none. (c.made_labels-made.ensures c.args.first (is_label c.args.first c.args.self.now.map.schema.dim (label) c.requires.prepared.lawful.dim.1)).0 (subst (λ (b : Bool). b ≡ false) c.has-makes_first.ensures none);
      from = c.requires.from;
      dart = gone.dart;
      darts = c.go_on.ensures.darts;
      here = gone.here;
      begun = c.go_on.ensures.begun;
      ends = back_only c.args.self.now c.args.declared.now c.args.index c.args.from c.args.first c.args.embed c.requires.embed c.args.marks.now c.loop-to.at c.in-Some.to c.args.second c.args.first (pair_turned c.args.declared.now.mask c.args.first c.args.second c.requires.pair) c.loop-to.marks c.go_on.new.marks gone c.loop-to.invariant.followed some.0 some.1 (c.requires.begun some.0 some.1);
    }

pub returns-in_err-to : goal.returns-in_err-to
returns-in_err-to g c =
    record {
      darts = c.go_on.ensures.darts;
      here = never_ok _ c.from_residual-in_err-to.result c.from_residual-in_err-to.ensures.0;
      followed = never_ok _ c.from_residual-in_err-to.result c.from_residual-in_err-to.ensures.0;
      grown = rw c.in_err-to.ensures.err (grown_so_far c.args.self.now c.args.declared.now c.args.index c.args.from c.args.first c.args.embed c.requires.embed c.args.marks.now c.loop-to.marks c.loop-to.at c.args.second c.loop-to.invariant.followed);
      cost = cost_end _ _ _ _ _ _ c.loop-to.invariant.cost c.go_on.ensures.cost c.go_on.ensures.longer;
      longer = longer_on _ _ _ c.loop-to.invariant.longer c.go_on.ensures.longer;
      least = longer_on _ _ _ c.loop-to.invariant.least c.go_on.ensures.least;
    }

pub returns-in_default : goal.returns-in_default
returns-in_default g c =
    let out : IsFollowedOut c.args.self.now c.args.index c.args.from c.loop-to.at c.args.second c.loop-to.marks c.go_on.new.marks = rw c.in_default.is at c.in_ok-to.ensures.on in
    let followed = ended c.args.self.now c.args.declared.now c.args.index c.args.from c.args.first c.args.embed c.requires.embed c.args.marks.now c.loop-to.at c.loop-to.at c.args.second c.args.first (pair_turned c.args.declared.now.mask c.args.first c.args.second c.requires.pair) c.loop-to.marks c.go_on.new.marks out c.loop-to.invariant.followed in
    record {
      darts = c.go_on.ensures.darts;
      here = c.go_on.ensures.begun;
      followed = followed;
      grown = grown_along c.args.self.now c.args.declared.now c.args.index c.args.from c.args.first c.args.marks.now c.go_on.new.marks followed;
      cost = cost_end _ _ _ _ _ _ c.loop-to.invariant.cost c.go_on.ensures.cost c.go_on.ensures.longer;
      longer = longer_on _ _ _ c.loop-to.invariant.longer c.go_on.ensures.longer;
      least = longer_on _ _ _ c.loop-to.invariant.least c.go_on.ensures.least;
    }

pub returns-in_err-next : goal.returns-in_err-next
returns-in_err-next g c =
    let gone : IsGoneOn c.args.self.now c.args.index c.args.from c.loop-to.at c.args.second c.loop-to.marks c.in-Some.to c.go_on.new.marks = rw c.in-Some.is at c.in_ok-to.ensures.on in
    record {
      darts = c.go_on-in-loop-to.ensures.darts;
      here = never_ok _ c.from_residual-in_err-next.result c.from_residual-in_err-next.ensures.0;
      followed = never_ok _ c.from_residual-in_err-next.result c.from_residual-in_err-next.ensures.0;
      grown = rw c.in_err-next.ensures.err (grown_so_far c.args.self.now c.args.declared.now c.args.index c.args.from c.args.first c.args.embed c.requires.embed c.args.marks.now c.go_on.new.marks c.in-Some.to c.args.first (gone_to c.args.self.now c.args.declared.now c.args.index c.args.from c.args.first c.args.embed c.requires.embed c.args.marks.now c.loop-to.at c.in-Some.to c.args.second c.args.first (pair_turned c.args.declared.now.mask c.args.first c.args.second c.requires.pair) c.loop-to.marks c.go_on.new.marks gone c.loop-to.invariant.followed));
      cost = cost_end _ _ _ _ _ _ (cost_on _ _ _ _ _ _ c.loop-to.invariant.cost c.go_on.ensures.cost gone.longer) c.go_on-in-loop-to.ensures.cost c.go_on-in-loop-to.ensures.longer;
      longer = longer_on _ _ _ (longer_on _ _ _ c.loop-to.invariant.longer c.go_on.ensures.longer) c.go_on-in-loop-to.ensures.longer;
      least = longer_on _ _ _ (longer_on _ _ _ c.loop-to.invariant.least c.go_on.ensures.least) c.go_on-in-loop-to.ensures.least;
    }

pub returns-in_default-2 : goal.returns-in_default-2
returns-in_default-2 g c =
    let gone : IsGoneOn c.args.self.now c.args.index c.args.from c.loop-to.at c.args.second c.loop-to.marks c.in-Some.to c.go_on.new.marks = rw c.in-Some.is at c.in_ok-to.ensures.on in
    let out : IsFollowedOut c.args.self.now c.args.index c.args.from c.in-Some.to c.args.first c.go_on.new.marks c.go_on-in-loop-to.new.marks = rw c.in_default-2.is at c.in_ok-next.ensures.on in
    let followed = ended c.args.self.now c.args.declared.now c.args.index c.args.from c.args.first c.args.embed c.requires.embed c.args.marks.now c.in-Some.to c.in-Some.to c.args.first c.args.second c.requires.pair c.go_on.new.marks c.go_on-in-loop-to.new.marks out (gone_to c.args.self.now c.args.declared.now c.args.index c.args.from c.args.first c.args.embed c.requires.embed c.args.marks.now c.loop-to.at c.in-Some.to c.args.second c.args.first (pair_turned c.args.declared.now.mask c.args.first c.args.second c.requires.pair) c.loop-to.marks c.go_on.new.marks gone c.loop-to.invariant.followed) in
    record {
      darts = c.go_on-in-loop-to.ensures.darts;
      here = c.go_on-in-loop-to.ensures.begun;
      followed = followed;
      grown = grown_along c.args.self.now c.args.declared.now c.args.index c.args.from c.args.first c.args.marks.now c.go_on-in-loop-to.new.marks followed;
      cost = cost_end _ _ _ _ _ _ (cost_on _ _ _ _ _ _ c.loop-to.invariant.cost c.go_on.ensures.cost gone.longer) c.go_on-in-loop-to.ensures.cost c.go_on-in-loop-to.ensures.longer;
      longer = longer_on _ _ _ (longer_on _ _ _ c.loop-to.invariant.longer c.go_on.ensures.longer) c.go_on-in-loop-to.ensures.longer;
      least = longer_on _ _ _ (longer_on _ _ _ c.loop-to.invariant.least c.go_on.ensures.least) c.go_on-in-loop-to.ensures.least;
    }

-- ---- on from both

pub loop-to-smaller : goal.loop-to-smaller
loop-to-smaller g c =
    let gone : IsGoneOn c.args.self.now c.args.index c.args.from c.loop-to.at c.args.second c.loop-to.marks c.in-Some.to c.go_on.new.marks = rw c.in-Some.is at c.in_ok-to.ensures.on in
    let next : IsGoneOn c.args.self.now c.args.index c.args.from c.in-Some.to c.args.first c.go_on.new.marks c.in-Some-2.next c.go_on-in-loop-to.new.marks = rw c.in-Some-2.is at c.in_ok-next.ensures.on in
    nearer (length c.loop-to.marks) (length c.go_on.new.marks) (length c.go_on-in-loop-to.new.marks) gone.longer next.longer c.in_ok-next.ensures.few

pub loop-to-preserved : goal.loop-to-preserved
loop-to-preserved g c =
    let gone : IsGoneOn c.args.self.now c.args.index c.args.from c.loop-to.at c.args.second c.loop-to.marks c.in-Some.to c.go_on.new.marks = rw c.in-Some.is at c.in_ok-to.ensures.on in
    let next : IsGoneOn c.args.self.now c.args.index c.args.from c.in-Some.to c.args.first c.go_on.new.marks c.in-Some-2.next c.go_on-in-loop-to.new.marks = rw c.in-Some-2.is at c.in_ok-next.ensures.on in
    let some = some_unfolding c.args.self.now c.requires.prepared in
    let so_far = gone_to c.args.self.now c.args.declared.now c.args.index c.args.from c.args.first c.args.embed c.requires.embed c.args.marks.now c.loop-to.at c.in-Some.to c.args.second c.args.first (pair_turned c.args.declared.now.mask c.args.first c.args.second c.requires.pair) c.loop-to.marks c.go_on.new.marks gone c.loop-to.invariant.followed in
    record {
      darts = c.go_on-in-loop-to.ensures.darts;
      dart = next.dart;
      here = next.here;
      begun = c.go_on-in-loop-to.ensures.begun;
      followed = gone_to c.args.self.now c.args.declared.now c.args.index c.args.from c.args.first c.args.embed c.requires.embed c.args.marks.now c.in-Some.to c.in-Some-2.next c.args.first c.args.second c.requires.pair c.go_on.new.marks c.go_on-in-loop-to.new.marks next so_far;
      ends = back_only c.args.self.now c.args.declared.now c.args.index c.args.from c.args.first c.args.embed c.requires.embed c.args.marks.now c.in-Some.to c.in-Some-2.next c.args.first c.args.second c.requires.pair c.go_on.new.marks c.go_on-in-loop-to.new.marks next so_far some.0 some.1 (c.requires.begun some.0 some.1);
      cost = cost_on _ _ _ _ _ _ (cost_on _ _ _ _ _ _ c.loop-to.invariant.cost c.go_on.ensures.cost gone.longer) c.go_on-in-loop-to.ensures.cost next.longer;
      longer = one_on _ _ _ (one_on _ _ _ c.loop-to.invariant.longer gone.longer) next.longer;
      least = longer_on _ _ _ (longer_on _ _ _ c.loop-to.invariant.least c.go_on.ensures.least) c.go_on-in-loop-to.ensures.least;
    }

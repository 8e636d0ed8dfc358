use Rattle.std.proofs.Common.{◌≡◌, Some, ap, ◌∙◌}
use Rattle.gm_arena.proofs.InsideLemmas.{some_of}
use Rattle.gm_pending.specs.inner.Results.{instances_of}
use Rattle.gm_pending.specs.inner.ValueSources.{given_of}
use Rattle.gm_pending.proofs.on_values.ValuesOfDarts.{value_decided, has_given}
use Rattle.gm_pending.proofs.pending.Pending.decided_value.Goals as goal

pub returns-clause-value : goal.returns-clause-value
returns-clause-value c = λ kept at.
    let app = c.args.self.now in
    let marks = c.orbits-orbits.result.now.marks in
    let reached = c.orbits-orbits.ensures.reached kept at in
    let marked = rw c.pack.ensures at c.in_ok-index.ensures.instance in
    let there = has_given app c.orbits-orbits.ensures.prepared c.args.embed kept at marks reached c.args.at c.requires.dart c.in_ok-index.index marked c.requires.given in
    let v = some_of (given_of (instances_of app c.args.embed) c.in_ok-index.index) there in
    let is : c.given.result ≡ Some v.0 = c.given.ensures ∙ ap (λ ds. given_of ds c.in_ok-index.index) (c.deref.ensures ∙ c.orbits-orbits.ensures.deciders) ∙ v.1 in
    rw is (value_decided app c.orbits-orbits.ensures.prepared c.args.embed kept at marks reached c.args.at c.requires.dart c.in_ok-index.index marked v.0 v.1)

pub orbits-orbits-requires : goal.orbits-orbits-requires
orbits-orbits-requires c = c.requires.given.0

pub returns-in_err-index-clause-value : goal.returns-in_err-index-clause-value
returns-in_err-index-clause-value c = λ kept at. rw c.from_residual.ensures (c.orbits-orbits.result.now.marks, c.orbits-orbits.ensures.reached kept at, rw c.pack.ensures at c.in_err-index.ensures.instance)

pub returns-in_err-index-clause-embed : goal.returns-in_err-index-clause-embed
returns-in_err-index-clause-embed c = c.orbits-orbits.ensures.embed

pub returns-in_err-index-clause-prepared : goal.returns-in_err-index-clause-prepared
returns-in_err-index-clause-prepared c = c.orbits-orbits.ensures.prepared

pub returns-clause-embed : goal.returns-clause-embed
returns-clause-embed c = c.orbits-orbits.ensures.embed

pub returns-clause-prepared : goal.returns-clause-prepared
returns-clause-prepared c = c.orbits-orbits.ensures.prepared

use Rattle.std.proofs.Common.{arith, rules, ◌≡◌, ◌+◌, ◌++◌, length, take, sym, ap, ◌∙◌}
use Rattle.std.proofs.lemmas.List.{with_items_is, places}
use Rattle.gm_host.proofs.Reading.{Consumes-append, read_behind}
use Rattle.gm_host.proofs.opened.read_within.Goals as goal

pub loop-bytes-preserved : goal.loop-bytes-preserved
loop-bytes-preserved g c =
    let before = c.loop-bytes.bytes.items in
    let held = c.len-held.result in
    let count = c.in-Ok.count in
    let long : length before ≡ held = search (rules, places) in
    let same : take held c.deref_mut.result.now ≡ before =
    ap (take held) c.deref_mut.ensures.value ∙ ap (λ k. take k c.lengthen.new.bytes.items) (sym long) ∙ c.in_ok-lengthen.ensures.kept in
    let is : c.truncate.new.self.items ≡ before ++ take count c.read_again.new.room =
    c.truncate.ensures.items ∙ ap (take (held + count)) (with_items_is c.lengthen.new.bytes _ (search (rules, places)))
    ∙ read_behind before _ c.read_again.new.room _ held count long same c.in-Ok.ensures.bound.0 in
    record {
      within = omega (arith, c.in-Ok.ensures.bound.0, c.in-Ok.ensures.bound.1, c.truncate.ensures.len, c.in_ok-lengthen.ensures.fits);
      read = rw is (Consumes-append _ _ _ _ _ c.loop-bytes.invariant.read c.in-Ok.ensures.bytes.0);
    }

use Rattle.std.proofs.Common.{◌≡◌, ◌+◌, ◌++◌, [], drop, get_or, sym, ap, ap₂, ◌∙◌, append_assoc}
use Rattle.std.proofs.lemmas.List.{append-nil, at_drop_all}
use Rattle.gm_commit.specs.inner.OldDartValues.{told_from, told_in, told_of}
use Rattle.gm_commit.proofs.on_old_darts.ValuesOfOrbits.{told_next}
use Rattle.gm_commit.proofs.edits.new_values.Goals as goal
use Rattle.gm_commit.proofs.edits.new_values.Goals.{in-Some+in_ok-put_new_values, in_default}

pub loop-embed-init : goal.loop-embed-init
loop-embed-init c = ap (λ list. list ++ told_from 0 c.args.by_embed.now) c.new-values.ensures.items

pub loop-embed-preserved : goal.loop-embed-preserved
loop-embed-preserved c =
    let orbits = c.args.by_embed.now in
    let e = c.loop-embed.embed in
    let here = get_or orbits e c.index-by_embed-embed.result in
    let later = told_from (e + 1) (drop (e + 1) orbits) in
    let next = told_next orbits e c.index-by_embed-embed.result c.loop-embed-test.true in
    let so_far = c.loop-embed.values.items in
    elim c.match-by_embed-embed.branch [
      | in-Some+in_ok-put_new_values w ↦
          let told : told_of e w.deref.result.now w.as_slice.result.now ≡ told_in e here = ap₂ (told_of e) w.deref.ensures w.as_slice.ensures.reached ∙ ap (told_in e) (sym w.in-Some.is ∙ c.index-by_embed-embed.is) in
          rw (w.values-is, w.in_ok-put_new_values.ensures) (append_assoc so_far (told_of e w.deref.result.now w.as_slice.result.now) later ∙ ap (λ list. so_far ++ (list ++ later)) told ∙ ap (λ list. so_far ++ list) (sym next) ∙ c.loop-embed.invariant)
      | in_default w ↦
          let none : [] ≡ told_in e here = ap (told_in e) (sym w.in_default.is ∙ c.index-by_embed-embed.is) in
          rw w.values-is (ap (λ list. so_far ++ (list ++ later)) none ∙ ap (λ list. so_far ++ list) (sym next) ∙ c.loop-embed.invariant)
    ]

pub returns : goal.returns
returns c = sym (at_drop_all (λ orbits. c.loop-embed.values.items ++ told_from c.loop-embed.embed orbits) c.args.by_embed.now c.loop-embed.embed c.loop-embed-test.false ∙ append-nil c.loop-embed.values.items) ∙ c.loop-embed.invariant

use Rattle.std.proofs.Common.{◌≡◌, ◌+◌, ◌-◌, ◌*◌, ◌/◌, ◌++◌, map, take, drop, length, sym, ap, ◌∙◌, arith}
use Rattle.std.proofs.Math.Seq.{take-length}
use Rattle.std.proofs.lemmas.List.{append_assoc, append-nil, length-append, length-drop, length-map}
use Rattle.std.specs.Slice.Iter.{chunks_exact_rest}
use Rattle.gm_arena.specs.inner.Inside.{slot_numbered, links_in}
use Rattle.gm_arena.proofs.LinesLemmas.{links_more, links_none, lines_more}
use Rattle.gm_arena.proofs.arena.put_each_line.Goals as goal

pub loop-line-preserved : goal.loop-line-preserved
loop-line-preserved c =
    let labels = c.args.labels in
    let before = c.loop-line.invariant in
    let steps = c.in-Some.ensures.steps in
    let line = c.in-Some.line.now in
    let rest = chunks_exact_rest c.next.new.self in
    let held = c.loop-line.neighbours.items in
    let long : length line ≡ labels + 1 = steps.1.1 ∙ before.size in
    let behind : take (length line - 1) (drop 1 line) ≡ drop 1 line = ap (λ k. take k (drop 1 line)) (sym (length-drop 1 line)) ∙ take-length (drop 1 line) in
    let put : c.put_slots.new.slots.items ≡ held ++ map slot_numbered (drop 1 line) = c.put_slots.ensures.items ∙ ap (λ xs. held ++ map slot_numbered xs) behind in
    let wide : length (map slot_numbered (drop 1 line)) ≡ labels = omega (arith, length-map (drop 1 line) slot_numbered, length-drop 1 line, long) in
    let left = ap (λ xs. length xs / (labels + 1) * labels) steps.1.0 ∙ lines_more labels line rest long in
    record {
      size = steps.0 ∙ before.size;
      items =
          ap (λ xs. xs ++ links_in labels (length rest / (labels + 1)) rest) put
          ∙ (append_assoc held (map slot_numbered (drop 1 line)) (links_in labels (length rest / (labels + 1)) rest)
          ∙ (ap (λ xs. held ++ xs) (sym (links_more labels line rest long) ∙ ap (λ xs. links_in labels (length xs / (labels + 1)) xs) (sym steps.1.0))
          ∙ before.items));
      room = omega (arith, before.room, left, ap length put, length-append held (map slot_numbered (drop 1 line)), wide, c.put_slots.ensures.capacity);
      capacity = omega (arith, before.capacity, c.put_slots.ensures.capacity);
    }

pub returns-clause-items : goal.returns-clause-items
returns-clause-items c =
    let before = c.loop-line.invariant in
    let steps = c.in-None.ensures.steps in
    let rest = chunks_exact_rest c.loop-line.line-iterator in
    let held = c.loop-line.neighbours.items in
    sym (append-nil held) ∙ (ap (λ xs. held ++ xs) (sym (links_none c.args.labels rest (omega (arith, steps.1.0, before.size)))) ∙ before.items)

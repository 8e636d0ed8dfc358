use Rattle.std.proofs.Common.{ℕ, ◌+◌, List, refl, subst, sym, arith}
use Rattle.gm_mapfile.specs.MapReading.{ReadsNames}
use Rattle.gm_mapfile.proofs.DartReads.{names_more}
use Rattle.gm_mapfile.proofs.reading.read_small_dart_names.Goals as goal

pub loop-done-preserved : goal.loop-done-preserved
loop-done-preserved c =
    let l = c.loop-done in
    let before = l.invariant in
    record {
      reads = subst (λ (names : List ℕ). ReadsNames (l.done + 1) c.args.lexer.now c.small_dart_name.new.lexer c.args.names.now.items names) (sym c.push_reserved.ensures.items)
          (names_more l.done c.args.lexer.now l.ahead c.small_dart_name.new.lexer c.args.names.now.items l.names.items c.in-Some.name before.reads c.in-Some.ensures.takes);
      few = omega (arith, c.loop-done-test.true);
      blank = refl;
      room = omega (arith, before.room, c.loop-done-test.true, c.push_reserved.ensures.len, c.push_reserved.ensures.capacity);
    }

pub returns-then-capacity-len-clause-few : goal.returns-then-capacity-len-clause-few
returns-then-capacity-len-clause-few c = omega arith

pub loop-done-smaller : goal.loop-done-smaller
loop-done-smaller c = omega (arith, c.loop-done-test.true)

pub returns-after-loop-done-clause-reads : goal.returns-after-loop-done-clause-reads
returns-after-loop-done-clause-reads c = c.loop-done.invariant.reads

pub returns-after-loop-done-clause-few : goal.returns-after-loop-done-clause-few
returns-after-loop-done-clause-few c = c.loop-done.invariant.few

pub returns-in_default-clause-few : goal.returns-in_default-clause-few
returns-in_default-clause-few c = c.loop-done.invariant.few

pub returns-in_default-clause-reads : goal.returns-in_default-clause-reads
returns-in_default-clause-reads c =
    subst (λ ahead. ReadsNames c.loop-done.done c.args.lexer.now ahead c.args.names.now.items c.loop-done.names.items) (sym c.in_default.ensures.none) c.loop-done.invariant.reads

use Rattle.std.proofs.Common.{◌≡◌, ℕ, ◌^◌, ◌<◌, Ok, length, ap, arith, rules}
use Rattle.gm_text.specs.inner.Lexing.{IsNumberRead}
use Rattle.gm_script.specs.inner.Reading.{taken_at}
use Rattle.gm_script.specs.declared.sight.Sight.TheVariants as sights
use Rattle.gm_script.proofs.Hooks.{reads_none, number_goes_on, hook_read}
use Rattle.gm_script.proofs.SmallParts.{number_at}
use Rattle.gm_script.proofs.reading.read_hooks.Goals as goal

pub loop-number-init : goal.loop-number-init
loop-number-init c = record { spot = search rules; on = reads_none c.args.reader.now c.args.lexer.now }

pub loop-number-smaller : goal.loop-number-smaller
loop-number-smaller c =
    let small : c.in-Some.number.value < 2 ^ 32 = omega arith in
    let is : IsNumberRead c.in-Some.number.value c.in-Some.number.place c.loop-number.lexer c.small_number.new.self = c.in-Some.ensures.number in
    let on = number_goes_on c.in-Some.number.value c.in-Some.number.place c.loop-number.reader c.loop-number.lexer c.small_number.new.self small is in
    let long : length c.small_number.new.self.text ≡ length c.loop-number.lexer.text = ap length is.text in
    omega (arith, on, c.place.ensures.within, c.place.ensures.value, long)

pub loop-number-preserved : goal.loop-number-preserved
loop-number-preserved c =
    let small : c.in-Some.number.value < 2 ^ 32 = omega arith in
    let is : IsNumberRead c.in-Some.number.value c.in-Some.number.place c.loop-number.lexer c.small_number.new.self = c.in-Some.ensures.number in
    let taken : (n : ℕ) → taken_at n (sights.Number c.in-Some.number.value) (number_at c.in-Some.number.place c.small_number.new.self) c.loop-number.reader ≡ Ok c.take_hook.new.self = λ n. rw c.place.ensures.value at c.in_ok-take_hook.ensures.taken n in
    record {
      spot = rw c.in_ok-take_hook.ensures.ok c.loop-number.invariant.spot;
      on = hook_read c.in-Some.number.value c.in-Some.number.place c.loop-number.reader c.loop-number.lexer c.small_number.new.self small is c.args.reader.now c.args.lexer.now c.loop-number.invariant.on c.take_hook.new.self c.in_ok-take_hook.ensures.ok taken;
    }

-- Words that say why bytes stand for no map, put behind a text.
use Rattle.std.proofs.Common.{◌≡◌, ℕ, List, ◌++◌, Result, Ok, Err, sym, ap, append_assoc, ◌∙◌}
use Rattle.std.specs.Prelude.{OnOk}
use Rattle.std.proofs.lemmas.Result.{on_ok_weaker}
use Rattle.gm_mapfile.specs.MapFaults.{TextFault, IsFirstFault, fault_words}
use Rattle.gm_lines.specs.inner.FaultLines.{PutsMapFault}
use Rattle.gm_lines.specs.Refusing.{BadMap}

-- words, and then more of them
pub onward : {T E : Type 0} (result : Result T E) (start words more whole first after : List ℕ) → first ≡ start ++ words → words ++ more ≡ whole → OnOk result (after ≡ first ++ more) → OnOk result (after ≡ start ++ whole)
onward result start words more whole first after begun is h = on_ok_weaker result (λ last. last ∙ ap (λ bytes. bytes ++ more) begun ∙ append_assoc start words more ∙ ap (λ bytes. start ++ bytes) is) h

pub four_more : (words a b c d : List ℕ) → words ++ (a ++ b ++ c ++ d) ≡ words ++ a ++ b ++ c ++ d
four_more words a b c d = sym (append_assoc words (a ++ b ++ c) d) ∙ ap (λ bytes. bytes ++ d) (sym (append_assoc words (a ++ b) c) ∙ ap (λ bytes. bytes ++ c) (sym (append_assoc words a b)))

-- the words of a fault, whatever text has it first
pub puts : {T E : Type 0} (result : Result T E) (old new : List ℕ) (fault : TextFault) → OnOk result (new ≡ old ++ fault_words fault) → OnOk result ((bytes : List ℕ) → IsFirstFault bytes fault → PutsMapFault bytes old new)
puts (Ok x) old new fault is = λ bytes first. (fault_words fault, BadMap fault first, is)
puts (Err e) old new fault is = tt

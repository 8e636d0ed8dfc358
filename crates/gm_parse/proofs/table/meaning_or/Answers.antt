use Rattle.std.proofs.Common.{◌≡◌, ℕ, ◌+◌, ◌<◌, Bool, true, false, cond, List, length, drop, get_or, bytes_eq, sym, ap, ◌∙◌}
use Rattle.std.proofs.lemmas.List.{at_drop_all, drop_more}
use Rattle.gm_parse.specs.inner.Tables.{meaning_of_first}
use Rattle.gm_parse.proofs.table.meaning_or.Goals as goal

module _ {Entry Meaning : Type 0} (is : Entry → Bool) (of : Entry → Meaning) (other : Meaning) (table : List Entry) (at : ℕ) (entry : Entry) (inside : at < length table) (same : entry ≡ get_or table at entry) where
  -- what the entry at the place says, or those behind it
  here : meaning_of_first is of other (drop at table) ≡ cond (is entry) (of entry) (meaning_of_first is of other (drop (at + 1) table))
  here = ap (meaning_of_first is of other) (drop_more table at entry inside) ∙ ap (λ x. cond (is x) (of x) (meaning_of_first is of other (drop (at + 1) table))) (sym same)

  found : is entry ≡ true → meaning_of_first is of other (drop at table) ≡ of entry
  found told = here ∙ ap (λ b. cond b (of entry) (meaning_of_first is of other (drop (at + 1) table))) told

  passed : is entry ≡ false → meaning_of_first is of other (drop at table) ≡ meaning_of_first is of other (drop (at + 1) table)
  passed told = here ∙ ap (λ b. cond b (of entry) (meaning_of_first is of other (drop (at + 1) table))) told

pub returns-then-eq : goal.returns-then-eq
returns-then-eq g c =
    sym (c.loop-name.invariant ∙ found (λ entry. bytes_eq c.args.word.now entry.0.now) (λ entry. entry.1) c.args.other c.args.table.now c.loop-name.name-index c.loop-name-item.result c.loop-name-test.true c.loop-name-item.is (sym c.eq.ensures ∙ c.if-eq.true))

pub loop-name-preserved : goal.loop-name-preserved
loop-name-preserved g c =
    c.loop-name.invariant ∙ passed (λ entry. bytes_eq c.args.word.now entry.0.now) (λ entry. entry.1) c.args.other c.args.table.now c.loop-name.name-index c.loop-name-item.result c.loop-name-test.true c.loop-name-item.is (sym c.eq.ensures ∙ c.if-eq.false)

pub returns : goal.returns
returns g c = sym (c.loop-name.invariant ∙ at_drop_all (meaning_of_first (λ entry. bytes_eq c.args.word.now entry.0.now) (λ entry. entry.1) c.args.other) c.args.table.now c.loop-name.name-index c.loop-name-test.false)

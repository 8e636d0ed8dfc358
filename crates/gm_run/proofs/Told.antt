-- A report that is told line by line, and its counts.
use Rattle.std.proofs.Common.{◌≡◌, ℕ, ◌+◌, ◌<◌, Bool, true, false, cond, List, map, sum, [], ◌∷◌, ◌++◌, length, take, drop, get_or, Some, Result, IsSomeAnd, refl, sym, ap, ap₂, subst, ◌∙◌, append_assoc, codes, arith}
use Rattle.std.specs.Prelude.{decimal, slice_get}
use Rattle.std.specs.List.{count_by}
use Rattle.std.specs.Option.{option_map, unwrap_or}
use Rattle.std.specs.Prelude.{OnOk}
use Rattle.std.proofs.lemmas.List.{map-append}
use Rattle.std.proofs.lemmas.List.Sums.{count_by_more_yes, count_by_more_no, sum_by-append}
use Rattle.std.proofs.lemmas.Option.{get_or_from_slice_get, slice_get-get_or, slice_get-map, slice_get_within}
use Rattle.std.proofs.lemmas.Result.{on_ok_weaker}
use Rattle.gm_model.specs.declared.schema.Schema.{Schema}
use Rattle.gm_model.specs.Statements.{Stat}
use Rattle.gm_model.specs.declared.rule.RuleTable.{RuleTable}
use Rattle.gm_model.specs.Reports.{rule_name, outcome_words, outcome_line, outcome_lines, counts_line, nodes_of, stat_words, done_in, refused_in}
use Rattle.gm_model.specs.Rules.{Rule, rule_of}
use Rattle.gm_model.specs.Runs as runs
use Rattle.gm_run.specs.declared.outcome.Outcome.{Outcome}
use Rattle.gm_run.specs.inner.Lines.{outcome_of, Tells}
use Rattle.gm_run.specs.inner.Printing.{CanBePrinted, IsSayable, SpeaksOf, line_text}
use Rattle.gm_run.proofs.Telling.{IsToldAt, told_at, behind, last_taken}

-- words, and then more of them
onto : (start words more whole first after : List ℕ) → first ≡ start ++ words → words ++ more ≡ whole → after ≡ first ++ more → after ≡ start ++ whole
onto start words more whole first after begun is last = last ∙ ap (λ bytes. bytes ++ more) begun ∙ append_assoc start words more ∙ ap (λ bytes. start ++ bytes) is

pub onward : {T E : Type 0} (result : Result T E) (start words more whole first after : List ℕ) → first ≡ start ++ words → words ++ more ≡ whole → OnOk result (after ≡ first ++ more) → OnOk result (after ≡ start ++ whole)
onward result start words more whole first after begun is h = on_ok_weaker result (onto start words more whole first after begun is) h

-- the name of a rule of a book, as the code reads it
pub named_at : (rules : List RuleTable) (k : ℕ) (table : RuleTable) → k < length rules → table ≡ get_or rules k table → table.name ≡ rule_name (map rule_of rules) k
named_at rules k table within is =
    sym (ap (λ o. unwrap_or (option_map (λ (r : Rule). r.name) o) []) (slice_get-map rule_of rules k ∙ ap (option_map rule_of) (slice_get-get_or rules k table within ∙ ap Some (sym is))))

-- six pieces, one put behind another
pub line_put : {T E : Type 0} (result : Result T E) (a b c d e f start first second third fourth fifth last : List ℕ)
    → first ≡ start ++ a → second ≡ first ++ b → third ≡ second ++ c → fourth ≡ third ++ d → fifth ≡ fourth ++ e → OnOk result (last ≡ fifth ++ f) → OnOk result (last ≡ start ++ (a ++ b ++ c ++ d ++ e ++ f))
line_put result a b c d e f start first second third fourth fifth last one two three four five h =
    onward result start (a ++ b ++ c ++ d ++ e) f (a ++ b ++ c ++ d ++ e ++ f) fifth last
    (more (a ++ b ++ c ++ d) e fourth fifth (more (a ++ b ++ c) d third fourth (more (a ++ b) c second third (more a b first second one two) three) four) five) refl h
  where
    more : (words piece now then : List ℕ) → now ≡ start ++ words → then ≡ now ++ piece → then ≡ start ++ (words ++ piece)
    more words piece now then begun is = onto start words piece (words ++ piece) now then begun refl is

-- ---- lines

module _ (schema : Schema) (rules : List Rule) (stats : List Stat) (report : List Outcome) (can : CanBePrinted schema rules stats report) where
  -- what a line of the report tells, and that it can be said of its statement
  pub record IsSaid (stat : Stat) (outcome : Outcome) : Type 0 where
    pub told : runs.Outcome
    pub is : outcome_of outcome ≡ Some told
    pub sayable : IsSayable schema rules stat told

  pub said_at : (k : ℕ) (stat : Stat) (outcome d : Outcome) → k < length report → slice_get stats k ≡ Some stat → outcome ≡ get_or report k d → IsSaid stat outcome
  said_at k stat outcome d within stat_is outcome_is =
      let here : IsToldAt report can.outcomes can.tells k outcome = told_at report can.outcomes can.tells k outcome d within outcome_is in
      record {
        told = here.outcome;
        is = here.is;
        sayable = can.sayable k stat here.outcome stat_is here.at;
      }

  pub said_of : (stat : Stat) (outcome : Outcome) → IsSaid stat outcome → IsSomeAnd (outcome_of outcome) (SpeaksOf (length (nodes_of rules stat)) (length schema.embeds))
  said_of stat outcome said = subst (λ told. IsSomeAnd told (SpeaksOf (length (nodes_of rules stat)) (length schema.embeds))) (sym said.is) said.sayable.speaks

  line_told : (k : ℕ) (stat : Stat) (outcome : Outcome) (told : runs.Outcome) → outcome_of outcome ≡ Some told → outcome_line schema rules k stat told ≡ line_text schema rules k stat outcome
  line_told k stat outcome told is = ap (λ o. decimal k ++ codes " " ++ stat_words rules stat ++ codes " " ++ unwrap_or (option_map (outcome_words schema (nodes_of rules stat)) o) [] ++ codes "\n") (sym is)

  -- one line more
  pub lines_more : (told : List runs.Outcome) → Tells report told → (k : ℕ) (stat : Stat) (outcome d : Outcome) (start text after : List ℕ) → k < length report → slice_get stats k ≡ Some stat → outcome ≡ get_or report k d
      → text ++ outcome_lines schema rules k (drop k stats) (drop k told) ≡ start → after ≡ text ++ line_text schema rules (k + 1) stat outcome
      → after ++ outcome_lines schema rules (k + 1) (drop (k + 1) stats) (drop (k + 1) told) ≡ start
  lines_more told tells k stat outcome d start text after within stat_is outcome_is before last =
      let here : IsToldAt report told tells k outcome = told_at report told tells k outcome d within outcome_is in
      let first : drop k stats ≡ stat ∷ drop (k + 1) stats = behind stats k stat stat_is in
      let rest = outcome_lines schema rules (k + 1) (drop (k + 1) stats) (drop (k + 1) told) in
      let one : outcome_lines schema rules k (drop k stats) (drop k told) ≡ line_text schema rules (k + 1) stat outcome ++ rest =
      ap₂ (outcome_lines schema rules k) first (behind told k here.outcome here.at) ∙ ap (λ bytes. bytes ++ rest) (line_told (k + 1) stat outcome here.outcome here.is) in
      ap (λ bytes. bytes ++ rest) last ∙ append_assoc text (line_text schema rules (k + 1) stat outcome) rest ∙ ap (λ bytes. text ++ bytes) (sym one) ∙ before

-- ---- counts

sum_on : (xs : List ℕ) (x : ℕ) → sum (xs ++ x ∷ []) ≡ sum xs + x
sum_on xs x = let last : 0 + x ≡ x = omega arith in sum_by-append (λ (n : ℕ). n) xs (x ∷ []) ∙ ap (λ n. sum xs + n) last

-- one line more of a sum over what is told
pub sum_more : (told : List runs.Outcome) (f : runs.Outcome → ℕ) (k : ℕ) (outcome : runs.Outcome) → slice_get told k ≡ Some outcome → sum (map f (take (k + 1) told)) ≡ sum (map f (take k told)) + f outcome
sum_more told f k outcome at =
    ap (λ os. sum (map f os)) (last_taken told k outcome at)
    ∙ ap sum (map-append f (take k told) (outcome ∷ [])) ∙ sum_on (map f (take k told)) (f outcome)

-- so many of the first lines are done
pub done_more : (report : List Outcome) (told : List runs.Outcome) → Tells report told → (k : ℕ) (line d : Outcome) (done one : ℕ) → k < length report → line ≡ get_or report k d
    → ((outcome : runs.Outcome) → outcome_of line ≡ Some outcome → one ≡ cond (runs.is_done outcome) 1 0) → done ≡ count_by runs.is_done (take k told) → done + one ≡ count_by runs.is_done (take (k + 1) told)
done_more report told tells k line d done one within line_is one_is before = by (runs.is_done here.outcome) refl
  where
    here : IsToldAt report told tells k line
    here = told_at report told tells k line d within line_is

    long : k < length told
    long = slice_get_within told k here.outcome here.at

    same : get_or told k here.outcome ≡ here.outcome
    same = get_or_from_slice_get told k here.outcome here.outcome here.at

    by : (b : Bool) → runs.is_done here.outcome ≡ b → done + one ≡ count_by runs.is_done (take (k + 1) told)
    by true e =
        let counted = count_by_more_yes runs.is_done told k here.outcome long (ap runs.is_done same ∙ e) in
        let is : one ≡ 1 = one_is here.outcome here.is ∙ ap (λ b. cond b 1 0) e in
        omega (arith, counted, is, before)
    by false e =
        let counted = count_by_more_no runs.is_done told k here.outcome long (ap runs.is_done same ∙ e) in
        let is : one ≡ 0 = one_is here.outcome here.is ∙ ap (λ b. cond b 1 0) e in
        omega (arith, counted, is, before)

-- the counts of the lines in words, one after another
pub counts_told : {T E : Type 0} (result : Result T E) (told : List runs.Outcome) (done refused darts next : ℕ) (start first second third fourth last : List ℕ)
    → done ≡ sum (map done_in told) → refused ≡ sum (map refused_in told)
    → first ≡ start ++ (codes "applied " ++ decimal done) → second ≡ first ++ (codes " refused " ++ decimal refused) → third ≡ second ++ (codes " darts " ++ decimal darts) → fourth ≡ third ++ (codes " next " ++ decimal next)
    → OnOk result (last ≡ fourth ++ codes "\n") → OnOk result (last ≡ start ++ counts_line told darts next)
counts_told result told done refused darts next start first second third fourth last done_is refused_is one two three four h =
    rw (sym done_is, sym refused_is)
    (onward result start through_next (codes "\n") (through_next ++ codes "\n") fourth last
    (more through_darts (codes " next ") (decimal next) third fourth
    (more through_refused (codes " darts ") (decimal darts) second third
    (more (codes "applied " ++ decimal done) (codes " refused ") (decimal refused) first second one two) three) four) refl h)
  where
    through_refused : List ℕ
    through_refused = codes "applied " ++ decimal done ++ codes " refused " ++ decimal refused

    through_darts : List ℕ
    through_darts = through_refused ++ codes " darts " ++ decimal darts

    through_next : List ℕ
    through_next = through_darts ++ codes " next " ++ decimal next

    more : (words name number now then : List ℕ) → now ≡ start ++ words → then ≡ now ++ (name ++ number) → then ≡ start ++ (words ++ name ++ number)
    more words name number now then begun is = onto start words (name ++ number) (words ++ name ++ number) now then begun (sym (append_assoc words name number)) is

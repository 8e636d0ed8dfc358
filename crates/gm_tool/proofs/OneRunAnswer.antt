-- A run of a script has one answer at most to its files.
use Rattle.std.proofs.Common.{◌≡◌, ◌⊎◌, ℕ, ◌<◌, ◌≤◌, List, inl, inr, Some, length, codes, sym, subst, ◌∙◌, arith}
use Rattle.gm_forms.specs.BookText.{BookText}
use Rattle.gm_mapfile.specs.MapText.{MapText}
use Rattle.gm_model.specs.declared.schema.Schema.{Schema}
use Rattle.gm_model.specs.Rules.{Rule}
use Rattle.gm_book.proofs.OneBook.{one_book}
use Rattle.gm_mapfile.proofs.OneMap.{one_map}
use Rattle.gm_script.specs.ScriptText.{ScriptText}
use Rattle.gm_script.proofs.OneScript.{one_script}
use Rattle.gm_tool.specs.Answer.{most_bytes, Files, Answer, answers}
use Rattle.gm_lines.specs.Refusing.{TheMap, TheBook, TheScript, refusal}
use Rattle.gm_tool.specs.RunAnswer.{RunNames, Inputs, Ran, HasMap, HasBook, HasScript, Agree, IsFailing, IsBadMap, IsBadBook, IsBadScript, IsRan, IsRunAnswer, MapFails, BookFails, ScriptFails, Disagree, LongOutput, Done, report_of, saved_of, run_status}
use Rattle.gm_tool.proofs.OneBad.{one_bad, no_bad_map, one_bad_book, no_bad_good_book, one_bad_script, no_bad_script}
use Rattle.gm_tool.proofs.OneFile.{same_bytes, one_failing, no_failing_good}
use Rattle.gm_tool.proofs.OneRan.{one_ran}

module _ (files : Files) (named : RunNames) where
  -- ---- the files say what is run

  same_map : (a b : Inputs) → HasMap files named a → HasMap files named b → (a.version ≡ b.version) × (a.map ≡ b.map)
  same_map a b (bytes, held, stands) (other, there, stands') =
      one_map bytes a.version b.version a.map b.map stands (subst (λ t. MapText t b.version b.map) (same_bytes files named.map other bytes there.0 held.0) stands')

  same_book : (a b : Inputs) → HasBook files named a → HasBook files named b → (a.schema ≡ b.schema) × (a.rules ≡ b.rules)
  same_book a b (bytes, version, held, stands, accepted) (other, version', there, stands', accepted') =
      let same = one_book bytes version version' a.schema b.schema a.rules b.rules stands (subst (λ t. BookText t version' b.schema b.rules) (same_bytes files named.book other bytes there.0 held.0) stands') in
      (same.1, same.2)

  -- what holds under one book holds under the other
  like : (a b : Inputs) (P : ℕ → List Rule → Type 0) → (a.schema ≡ b.schema) × (a.rules ≡ b.rules) → P b.schema.dim b.rules → P a.schema.dim a.rules
  like a b P same h = subst (λ (schema : Schema). P schema.dim a.rules) (sym same.0) (subst (P b.schema.dim) (sym same.1) h)

  same_script : (a b : Inputs) → (a.schema ≡ b.schema) × (a.rules ≡ b.rules) → HasScript files named a → HasScript files named b → a.stats ≡ b.stats
  same_script a b same (bytes, held, stands) (other, there, stands') =
      one_script bytes a.schema.dim a.rules a.stats b.stats stands
      (like a b (λ n rules. ScriptText bytes n rules b.stats) same (subst (λ t. ScriptText t b.schema.dim b.rules b.stats) (same_bytes files named.script other bytes there.0 held.0) stands'))

  pub same_inputs : (a b : Inputs) → HasMap files named a → HasMap files named b → HasBook files named a → HasBook files named b → HasScript files named a → HasScript files named b → a ≡ b
  same_inputs a b of_map to_map of_book to_book of_script to_script =
      let maps : (a.version ≡ b.version) × (a.map ≡ b.map) = same_map a b of_map to_map in
      let books : (a.schema ≡ b.schema) × (a.rules ≡ b.rules) = same_book a b of_book to_book in
      let stats : a.stats ≡ b.stats = same_script a b books of_script to_script in
      let version : a.version ≡ b.version = maps.0 in
      let listed : a.map ≡ b.map = maps.1 in
      let schema : a.schema ≡ b.schema = books.0 in
      let rules : a.rules ≡ b.rules = books.1 in
      λ k. record { version = version k; map = listed k; schema = schema k; rules = rules k; stats = stats k }

  -- ---- one answer where all files are good

  abbrev IsMade : Inputs → Ran → Answer → Type 0
  IsMade inputs ran answer =
      (((most_bytes < length (report_of inputs ran)) ⊎ (most_bytes < length (saved_of inputs ran))) × (answer ≡ answers 8 (refusal (codes "size output"))))
      ⊎ ((length (report_of inputs ran) ≤ most_bytes) × (length (saved_of inputs ran) ≤ most_bytes) × (answer ≡ record { status = run_status ran.outcomes; text = report_of inputs ran; saved = Some (record { name = named.out; bytes = saved_of inputs ran }) }))

  fits_or_long : (a b : ℕ) → (most_bytes < a) ⊎ (most_bytes < b) → a ≤ most_bytes → b ≤ most_bytes → ⊥
  fits_or_long a b (inl long) first second = omega (arith, long, first)
  fits_or_long a b (inr long) first second = omega (arith, long, second)

  one_made : (inputs : Inputs) (ran : Ran) (one other : Answer) → IsMade inputs ran one → IsMade inputs ran other → one ≡ other
  one_made inputs ran one other (inl (long, e)) (inl (long', f)) = e ∙ sym f
  one_made inputs ran one other (inl (long, e)) (inr (first, second, f)) = absurd (fits_or_long (length (report_of inputs ran)) (length (saved_of inputs ran)) long first second)
  one_made inputs ran one other (inr (first, second, e)) (inl (long, f)) = absurd (fits_or_long (length (report_of inputs ran)) (length (saved_of inputs ran)) long first second)
  one_made inputs ran one other (inr (first, second, e)) (inr (first', second', f)) = e ∙ sym f

  abbrev AtEnd : Inputs → Answer → Type 0
  AtEnd inputs answer = ((Agree inputs → ⊥) × (answer ≡ answers 4 (refusal (codes "agree")))) ⊎ (Agree inputs × ((ran : Ran) × IsRan inputs ran × IsMade inputs ran answer))

  one_at_end : (inputs : Inputs) → HasMap files named inputs → HasBook files named inputs → HasScript files named inputs → (one other : Answer) → AtEnd inputs one → AtEnd inputs other → one ≡ other
  one_at_end inputs the_map the_book the_script one other (inl (never, e)) (inl (never', f)) = e ∙ sym f
  one_at_end inputs the_map the_book the_script one other (inl (never, e)) (inr (agree, rest)) = absurd (never agree)
  one_at_end inputs the_map the_book the_script one other (inr (agree, rest)) (inl (never, f)) = absurd (never agree)
  one_at_end inputs the_map (bytes, version, held, stands, accepted) (script, script_held, lines) one other (inr (agree, (ran, is, made))) (inr (agree', (ran', is', made'))) =
      let same : ran' ≡ ran = one_ran inputs the_map.0 the_map.2 accepted script lines agree ran' ran is' is in
      one_made inputs ran one other made (subst (λ r. IsMade inputs r other) same made')

  -- ---- file by file

  abbrev AtScript : Inputs → Answer → Type 0
  AtScript inputs answer = IsFailing files TheScript named.script (IsBadScript inputs.schema.dim inputs.rules) answer ⊎ (HasScript files named inputs × AtEnd inputs answer)

  abbrev AtBook : Inputs → Answer → Type 0
  AtBook inputs answer = IsFailing files TheBook named.book IsBadBook answer ⊎ (HasBook files named inputs × AtScript inputs answer)

  abbrev AtMap : Answer → Type 0
  AtMap answer = IsFailing files TheMap named.map IsBadMap answer ⊎ ((inputs : Inputs) × HasMap files named inputs × AtBook inputs answer)

  by_file : (answer : Answer) → IsRunAnswer files named answer → AtMap answer
  by_file answer (MapFails fails) = inl fails
  by_file answer (BookFails inputs the_map fails) = inr (inputs, the_map, inl fails)
  by_file answer (ScriptFails inputs the_map the_book fails) = inr (inputs, the_map, inr (the_book, inl fails))
  by_file answer (Disagree inputs the_map the_book the_script never e) = inr (inputs, the_map, inr (the_book, inr (the_script, inl (never, e))))
  by_file answer (LongOutput inputs ran good long e) = inr (inputs, good.the_map, inr (good.the_book, inr (good.the_script, inr (good.agree, (ran, good.is_ran, inl (long, e))))))
  by_file answer (Done inputs ran good first second e) = inr (inputs, good.the_map, inr (good.the_book, inr (good.the_script, inr (good.agree, (ran, good.is_ran, inr (first, second, e))))))

  -- a file that fails isn't good

  map_fails_not : (inputs : Inputs) (answer : Answer) → IsFailing files TheMap named.map IsBadMap answer → HasMap files named inputs → ⊥
  map_fails_not inputs answer fails (bytes, held, stands) =
      no_failing_good files named.map TheMap IsBadMap (λ t. MapText t inputs.version inputs.map) (λ t why bad good. no_bad_map t why inputs.version inputs.map bad good) answer fails bytes held stands

  book_fails_not : (inputs : Inputs) (answer : Answer) → IsFailing files TheBook named.book IsBadBook answer → HasBook files named inputs → ⊥
  book_fails_not inputs answer fails (bytes, version, held, stands, accepted) =
      no_failing_good files named.book TheBook IsBadBook (λ t. BookText t version inputs.schema inputs.rules) (λ t why bad good. no_bad_good_book t why version inputs.schema inputs.rules bad good accepted) answer fails bytes held stands

  script_fails_not : (inputs others : Inputs) (answer : Answer) → (inputs.schema ≡ others.schema) × (inputs.rules ≡ others.rules)
      → IsFailing files TheScript named.script (IsBadScript others.schema.dim others.rules) answer → HasScript files named inputs → ⊥
  script_fails_not inputs others answer same fails (bytes, held, stands) =
      no_failing_good files named.script TheScript (IsBadScript inputs.schema.dim inputs.rules) (λ t. ScriptText t inputs.schema.dim inputs.rules inputs.stats)
      (λ t why bad good. no_bad_script inputs.schema.dim inputs.rules t why inputs.stats bad good) answer
      (like inputs others (λ n rules. IsFailing files TheScript named.script (IsBadScript n rules) answer) same fails) bytes held stands

  module _ (a b : Inputs) (of_map : HasMap files named a) (to_map : HasMap files named b) (one other : Answer) where
    one_at_script : HasBook files named a → HasBook files named b → AtScript a one → AtScript b other → one ≡ other
    one_at_script of_book to_book (inl f) (inl g) =
        one_failing files named.script TheScript (IsBadScript a.schema.dim a.rules) (λ bytes why more bad worse. one_bad_script a.schema.dim a.rules bytes why more bad worse) one other f
        (like a b (λ n rules. IsFailing files TheScript named.script (IsBadScript n rules) other) (same_book a b of_book to_book) g)
    one_at_script of_book to_book (inl f) (inr (to_script, rest)) = absurd (script_fails_not b a one (same_book b a to_book of_book) f to_script)
    one_at_script of_book to_book (inr (of_script, rest)) (inl g) = absurd (script_fails_not a b other (same_book a b of_book to_book) g of_script)
    one_at_script of_book to_book (inr (of_script, rest)) (inr (to_script, rest')) =
        let same : b ≡ a = sym (same_inputs a b of_map to_map of_book to_book of_script to_script) in
        one_at_end a of_map of_book of_script one other rest (subst (λ i. AtEnd i other) same rest')

    one_at_book : AtBook a one → AtBook b other → one ≡ other
    one_at_book (inl f) (inl g) = one_failing files named.book TheBook IsBadBook (λ bytes why more bad worse. one_bad_book bytes why more bad worse) one other f g
    one_at_book (inl f) (inr (to_book, rest)) = absurd (book_fails_not b one f to_book)
    one_at_book (inr (of_book, rest)) (inl g) = absurd (book_fails_not a other g of_book)
    one_at_book (inr (of_book, rest)) (inr (to_book, rest')) = one_at_script of_book to_book rest rest'

  one_at_map : (one other : Answer) → AtMap one → AtMap other → one ≡ other
  one_at_map one other (inl f) (inl g) = one_failing files named.map TheMap IsBadMap (λ bytes why more bad worse. one_bad bytes TheMap why more bad worse) one other f g
  one_at_map one other (inl f) (inr (b, to_map, rest)) = absurd (map_fails_not b one f to_map)
  one_at_map one other (inr (a, of_map, rest)) (inl g) = absurd (map_fails_not a other g of_map)
  one_at_map one other (inr (a, of_map, rest)) (inr (b, to_map, rest')) = one_at_book a b of_map to_map one other rest rest'

  pub one_run_answer : (one other : Answer) → IsRunAnswer files named one → IsRunAnswer files named other → one ≡ other
  one_run_answer one other a b = one_at_map one other (by_file one a) (by_file other b)

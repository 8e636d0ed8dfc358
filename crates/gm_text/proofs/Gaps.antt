-- Blanks and comments between two places of a text: there is no item among them.
use Rattle.std.proofs.Common.{◌≡◌, ℕ, suc, ◌+◌, ◌-◌, ◌<◌, ◌⊎◌, inl, inr, Bool, true, false, not, List, length, drop, get_or, sym, ap, ◌∙◌, arith, length-drop, get_or-drop}
use Rattle.std.specs.List.{take_while, prefix_len}
use Rattle.std.proofs.lemmas.Bool.{cases_lt, eqb-true, not-false}
use Rattle.std.proofs.lemmas.List.Folds.{length-prefix_len}
use Rattle.std.proofs.lemmas.List.Sums.{prefix_len-le-length, prefix_len_passes, prefix_len_stops}
use Rattle.gm_model.specs.Tokens.{is_blank, is_hash, is_line_feed, items_at}
use Rattle.gm_text.specs.inner.Lexing.{IsGap, blank, comment}
use Rattle.gm_text.proofs.Fronts.{front_of-blank, front_of-hash}
use Rattle.gm_text.proofs.Items.{items_at-gap}

-- from one place to the other the lexer meets nothing
pub record IsPassed (text : List ℕ) (from to : ℕ) : Type 0 where
  pub same : items_at text from ≡ items_at text to
  pub gap : (stop : ℕ) → IsGap text to stop → IsGap text from stop

pub IsPassed-then : (text : List ℕ) (a b c : ℕ) → IsPassed text a b → IsPassed text b c → IsPassed text a c
IsPassed-then text a b c p q = record { same = p.same ∙ q.same; gap = λ stop gap. p.gap stop (q.gap stop gap) }

pub IsPassed-blank : (text : List ℕ) (place : ℕ) → place < length text → is_blank (get_or text place 0) ≡ true → IsPassed text place (place + 1)
IsPassed-blank text place inside is_one =
    record {
      same = items_at-gap text place 1 inside (front_of-blank (get_or text place 0) (drop (place + 1) text) is_one);
      gap = λ stop gap. blank place stop inside is_one gap;
    }

abbrev goes_on : ℕ → Bool
goes_on c = not (is_line_feed c)

-- a comment goes up to its line's end
pub IsPassed-comment : (text : List ℕ) (place to : ℕ) → place < length text → is_hash (get_or text place 0) ≡ true
    → to ≡ place + 1 + length (take_while (λ c. not (is_line_feed c)) (drop (place + 1) text)) → IsPassed text place to
IsPassed-comment text place to inside is_one to-is =
    let behind = drop (place + 1) text in
    let size = prefix_len goes_on behind in
    let length-is : length (take_while (λ c. not (is_line_feed c)) behind) ≡ size = length-prefix_len goes_on behind in
    let room = prefix_len-le-length goes_on behind in
    let size-is : place + suc size ≡ to = omega arith in
    let no_line_feed : (k : ℕ) → place < k → k < to → get_or text k 0 ≡ 10 → ⊥ = λ k after before e.
    let at : place + 1 + (k - (place + 1)) ≡ k = omega arith in
    let passes : goes_on (get_or text k 0) ≡ true = ap (λ (p : ℕ). goes_on (get_or text p 0)) (sym at) ∙ ap goes_on (sym (get_or-drop (place + 1) text (k - (place + 1)) 0)) ∙ prefix_len_passes goes_on behind (k - (place + 1)) 0 (omega arith) in
    let fails : goes_on (get_or text k 0) ≡ false = ap goes_on e in
    absurd cc in
    let line_ends : (to ≡ length text) ⊎ ((to < length text) × (get_or text to 0 ≡ 10)) =
    elim (cases_lt to (length text)) [
      | inl more ↦
          let at : place + 1 + size ≡ to = omega arith in
          let stops = prefix_len_stops goes_on behind 0 (omega (arith, length-drop (place + 1) text)) in
          let there : goes_on (get_or text to 0) ≡ false = ap (λ (p : ℕ). goes_on (get_or text p 0)) (sym at) ∙ ap goes_on (sym (get_or-drop (place + 1) text size 0)) ∙ stops in
          inr (more, eqb-true (get_or text to 0) 10 (not-false _ there))
      | inr done ↦ inl (omega (arith, length-drop (place + 1) text))
    ] in
    record {
      same = items_at-gap text place (suc (length (take_while (λ c. not (is_line_feed c)) behind))) inside (front_of-hash (get_or text place 0) behind is_one) ∙ ap (items_at text) (omega arith);
      gap = λ stop gap. comment place to stop inside is_one no_line_feed line_ends gap;
    }

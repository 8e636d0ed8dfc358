-- How far a run of bytes goes that pass a test.
use Rattle.std.proofs.Common.{◌≡◌, ◌≢◌, ℕ, ◌+◌, ◌<◌, ◌≤◌, Bool, true, false, not, List, [], length, get_or, take, drop, refl, ap, arith}
use Rattle.std.specs.List.{prefix_len, take_while}
use Rattle.std.proofs.lemmas.Bool.{eqb-true}
use Rattle.std.proofs.lemmas.List.{length-take}
use Rattle.std.proofs.lemmas.List.Sums.{prefix_len-drop_yes, prefix_len-drop_no, prefix_len-drop_all, prefix_len-le-length}
use Rattle.gm_model.specs.Tokens.{is_line_feed}

module _ (test : ℕ → Bool) (text : List ℕ) (from : ℕ) where
  -- every byte from the one place up to the other passes
  pub record IsRun (at : ℕ) : Type 0 where
    pub inside : at ≤ length text
    pub same : from + prefix_len test (drop from text) ≡ at + prefix_len test (drop at text)

  pub run_begins : from ≤ length text → IsRun from
  run_begins inside = record { inside = inside; same = refl }

  pub run_longer : (at : ℕ) → IsRun at → at < length text → test (get_or text at 0) ≡ true → IsRun (at + 1)
  run_longer at run inside passes = record {
    inside = omega (arith, inside);
    same = omega (arith, run.same, prefix_len-drop_yes test text at 0 inside passes);
  }

  taken : length (take_while test (drop from text)) ≡ prefix_len test (drop from text)
  taken = omega (arith, length-take (prefix_len test (drop from text)) (drop from text), prefix_len-le-length test (drop from text))

  pub run_stops : (at : ℕ) → IsRun at → at < length text → test (get_or text at 0) ≡ false → at ≡ from + length (take_while test (drop from text))
  run_stops at run inside fails = omega (arith, taken, run.same, prefix_len-drop_no test text at 0 inside fails)

  pub run_ends : (at : ℕ) → IsRun at → length text ≤ at → at ≡ from + length (take_while test (drop from text))
  run_ends at run all = omega (arith, taken, run.same, prefix_len-drop_all test text at all)

-- where a run stops, none of it is left
pub none_left : (test : ℕ → Bool) (text : List ℕ) (at : ℕ) → at < length text → test (get_or text at 0) ≡ false → take_while test (drop at text) ≡ []
none_left test text at inside fails = ap (λ (n : ℕ). take n (drop at text)) (prefix_len-drop_no test text at 0 inside fails)

pub all_taken : (test : ℕ → Bool) (text : List ℕ) (at : ℕ) → length text ≤ at → take_while test (drop at text) ≡ []
all_taken test text at all = ap (λ (n : ℕ). take n (drop at text)) (prefix_len-drop_all test text at all)

-- ---- lines

pub in_line : (b : ℕ) → b ≢ 10 → not (is_line_feed b) ≡ true
in_line b other = go (is_line_feed b) refl
  where
    go : (r : Bool) → is_line_feed b ≡ r → not (is_line_feed b) ≡ true
    go true e = absurd (other (eqb-true b 10 e))
    go false e = ap not e

pub at_line_feed : (b : ℕ) → b ≡ 10 → not (is_line_feed b) ≡ false
at_line_feed b is = ap (λ (c : ℕ). not (is_line_feed c)) is

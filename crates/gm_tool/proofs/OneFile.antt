-- A file that fails is refused in one way, and a command on one file has one answer.
use Rattle.std.proofs.Common.{◌≡◌, ◌⊎◌, ℕ, ◌<◌, ◌≤◌, List, ◌++◌, inl, inr, Some, None, length, codes, sym, ap, subst, ◌∙◌, arith}
use Rattle.std.proofs.lemmas.Option.{same_Some}
use Rattle.gm_tool.specs.Answer.{most_bytes, Files, Answer, answers, Command, role_of, IsOutput, HasFile, IsFileAnswer, NoFile, LongFile, BadFile, LongOutput, Done}
use Rattle.gm_lines.specs.Refusing.{Role, role_word, IsBad, refusal}
use Rattle.gm_tool.specs.RunAnswer.{IsFailing, Missing, Long, Bad}
use Rattle.gm_tool.proofs.OneBad.{one_bad, no_bad_output, one_output}

-- ---- a file

module _ (files : Files) (name : List ℕ) where
  not_both : (bytes : List ℕ) → files name ≡ None → files name ≡ Some bytes → ⊥
  not_both bytes none some = let both : None ≡ Some bytes = sym none ∙ some in absurd cc

  pub same_bytes : (bytes other : List ℕ) → files name ≡ Some bytes → files name ≡ Some other → bytes ≡ other
  same_bytes bytes other a b = same_Some bytes other (sym a ∙ b)

  too_long : (bytes other : List ℕ) → files name ≡ Some bytes → most_bytes < length bytes → HasFile files name other → ⊥
  too_long bytes other is long held = let same : length bytes ≡ length other = ap length (same_bytes bytes other is held.0) in let fits : length other ≤ most_bytes = held.1 in absurd (omega (arith, same, long, fits))

  module _ (role : Role) (IsBadText : List ℕ → List ℕ → Type 0) where
    -- a file that fails has one answer
    pub one_failing : ((bytes why other : List ℕ) → IsBadText bytes why → IsBadText bytes other → why ≡ other) → (one other : Answer) → IsFailing files role name IsBadText one → IsFailing files role name IsBadText other → one ≡ other
    one_failing words one other (Missing a e) (Missing b f) = e ∙ sym f
    one_failing words one other (Missing a e) (Long bytes b long f) = absurd (not_both bytes a b)
    one_failing words one other (Missing a e) (Bad bytes why held bad f) = absurd (not_both bytes a held.0)
    one_failing words one other (Long bytes a long e) (Missing b f) = absurd (not_both bytes b a)
    one_failing words one other (Long bytes a long e) (Long bytes' b long' f) = e ∙ sym f
    one_failing words one other (Long bytes a long e) (Bad bytes' why held bad f) = absurd (too_long bytes bytes' a long held)
    one_failing words one other (Bad bytes why held bad e) (Missing b f) = absurd (not_both bytes b held.0)
    one_failing words one other (Bad bytes why held bad e) (Long bytes' b long f) = absurd (too_long bytes' bytes b long held)
    one_failing words one other (Bad bytes why held bad e) (Bad bytes' why' held' bad' f) =
        let there : IsBadText bytes why' = subst (λ b. IsBadText b why') (same_bytes bytes' bytes held'.0 held.0) bad' in
        e ∙ ap (λ (w : List ℕ). answers 4 (refusal (role_word role ++ codes " " ++ w))) (words bytes why why' bad there) ∙ sym f

    -- and is not one whose bytes are good
    pub no_failing_good : (IsGood : List ℕ → Type 0) → ((bytes why : List ℕ) → IsBadText bytes why → IsGood bytes → ⊥) → (answer : Answer) → IsFailing files role name IsBadText answer → (bytes : List ℕ) → HasFile files name bytes → IsGood bytes → ⊥
    no_failing_good IsGood never answer (Missing a e) bytes held good = not_both bytes a held.0
    no_failing_good IsGood never answer (Long other a long e) bytes held good = too_long other bytes a long held
    no_failing_good IsGood never answer (Bad other why there bad e) bytes held good = never bytes why (subst (λ b. IsBadText b why) (same_bytes other bytes there.0 held.0) bad) good

-- ---- a command on it

-- so it is put, or is too long
abbrev IsPutAs : ℕ → List ℕ → Answer → Type 0
IsPutAs status text answer = ((most_bytes < length text) × (answer ≡ answers 8 (refusal (codes "size output")))) ⊎ ((length text ≤ most_bytes) × (answer ≡ answers status text))

one_put : (status : ℕ) (text : List ℕ) (one other : Answer) → IsPutAs status text one → IsPutAs status text other → one ≡ other
one_put status text one other (inl (long, e)) (inl (long', f)) = e ∙ sym f
one_put status text one other (inl (long, e)) (inr (fits, f)) = absurd (omega (arith, long, fits))
one_put status text one other (inr (fits, e)) (inl (long, f)) = absurd (omega (arith, long, fits))
one_put status text one other (inr (fits, e)) (inr (fits', f)) = e ∙ sym f

module _ (files : Files) (command : Command) (name : List ℕ) where
  abbrev IsBadFor : List ℕ → List ℕ → Type 0
  IsBadFor bytes why = IsBad bytes (role_of command) why

  -- the file fails, or there is something to put
  abbrev Comes : Answer → Type 0
  Comes answer = IsFailing files (role_of command) name IsBadFor answer ⊎ ((bytes : List ℕ) × (status : ℕ) × (text : List ℕ) × HasFile files name bytes × IsOutput bytes command status text × IsPutAs status text answer)

  comes : (answer : Answer) → IsFileAnswer files command name answer → Comes answer
  comes answer (NoFile is e) = inl (Missing is e)
  comes answer (LongFile bytes is long e) = inl (Long bytes is long e)
  comes answer (BadFile bytes why held bad e) = inl (Bad bytes why held bad e)
  comes answer (LongOutput bytes status text held output long e) = inr (bytes, status, text, held, output, inl (long, e))
  comes answer (Done bytes status text held output fits e) = inr (bytes, status, text, held, output, inr (fits, e))

  never : (one other : Answer) → IsFailing files (role_of command) name IsBadFor one → (bytes : List ℕ) (status : ℕ) (text : List ℕ) → HasFile files name bytes → IsOutput bytes command status text → one ≡ other
  never one other fails bytes status text held output =
      absurd (no_failing_good files name (role_of command) IsBadFor (λ b. IsOutput b command status text) (λ b why bad good. no_bad_output b why command status text bad good) one fails bytes held output)

  one_coming : (one other : Answer) → Comes one → Comes other → one ≡ other
  one_coming one other (inl a) (inl b) = one_failing files name (role_of command) IsBadFor (λ bytes why more bad worse. one_bad bytes (role_of command) why more bad worse) one other a b
  one_coming one other (inl a) (inr (bytes, status, text, held, output, put)) = never one other a bytes status text held output
  one_coming one other (inr (bytes, status, text, held, output, put)) (inl b) = sym (never other one b bytes status text held output)
  one_coming one other (inr (bytes, status, text, held, output, put)) (inr (bytes', status', text', held', output', put')) =
      let there : IsOutput bytes command status' text' = subst (λ b. IsOutput b command status' text') (same_bytes files name bytes' bytes held'.0 held.0) output' in
      let same : (status ≡ status') × (text ≡ text') = one_output bytes command status status' text text' output there in
      one_put status text one other put (subst (λ k. IsPutAs k text other) (sym same.0) (subst (λ t. IsPutAs status' t other) (sym same.1) put'))

  pub one_file_answer : (one other : Answer) → IsFileAnswer files command name one → IsFileAnswer files command name other → one ≡ other
  one_file_answer one other a b = one_coming one other (comes one a) (comes other b)

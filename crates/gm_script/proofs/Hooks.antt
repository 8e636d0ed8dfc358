-- A name, and hooks that are read as small numbers: the same is read on behind each.
use Rattle.std.proofs.Common.{◌≡◌, ℕ, ◌^◌, ◌<◌, List, Result, Ok, Err, refl, sym, ap, subst, ◌∙◌, arith}
use Rattle.gm_model.specs.Rules.{Rule}
use Rattle.gm_model.specs.Statements.{Stat}
use Rattle.gm_model.specs.declared.token.Token.{Token}
use Rattle.gm_text.specs.inner.Cursor.{Cursor}
use Rattle.gm_text.specs.inner.Lexing.{rest_of, IsNumberRead}
use Rattle.gm_script.specs.inner.Faults.{of_text, IsFaultOf}
use Rattle.gm_script.specs.inner.Reading.{HeldStat, Held, Stop, taken_at, ended_by, put_first, read_from, Fails, ReadsOn, IsInText, IsSeenNext, with_hook, ◌>>=◌}
use Rattle.gm_script.specs.inner.SoFar.{IsSoFar}
use Rattle.gm_script.specs.declared.fault.ScriptFault.{ScriptFault}
use Rattle.gm_script.specs.declared.reader.TextFault.{TextFault}
use Rattle.gm_script.specs.declared.sight.Sight.{Sight}
use Rattle.gm_script.specs.declared.sight.Sight.TheVariants as sights
use Rattle.gm_script.proofs.Loop.{fails, fails_on}
use Rattle.gm_script.proofs.SmallParts.{number_at, number_seen}
use Rattle.gm_script.proofs.Tokens.{token_stands}

-- nothing is read
pub reads_none : (held : Held) (cursor : Cursor) → ReadsOn held held cursor cursor
reads_none held cursor = record { text = refl; goes_on = omega arith; same = λ n. refl; named = λ inside. inside }

and_no_more : (read : Result (List HeldStat) Stop) → (read >>= λ stats. Ok stats) ≡ read
and_no_more (Ok stats) = refl
and_no_more (Err stop) = refl

module _ (value place : ℕ) (now : Held) (old new : Cursor) (small : value < 2 ^ 32) (is : IsNumberRead value place old new) where
  abbrev on : ℕ → List ℕ → Result Held Stop → Result (List HeldStat) Stop
  on n text taken = taken >>= λ next. read_from n text next (rest_of new) >>= λ stats. Ok stats

  reads_number : (n : ℕ) → read_from n old.text now (rest_of old) ≡ on n old.text (taken_at n (sights.Number value) (number_at place new) now)
  reads_number n =
      let by_sight : Sight → Result (List HeldStat) Stop = λ sight. taken_at n sight (number_at place new) now >>= λ next. read_from n old.text next (rest_of new) >>= λ stats. Ok (put_first (ended_by now.spot sight now.stat) stats) in
      rw is.answer (ap by_sight (number_seen value place old new small is))

  pub number_goes_on : old.place < new.place
  number_goes_on = let stands = token_stands old.text old.place (number_at place new) (rest_of new) is.answer in omega (arith, stands.0, stands.1)

  module _ (held : Held) (first : Cursor) (so_far : ReadsOn held now first old) where
    pub hook_read : (next : Held) → next ≡ with_hook value now → ((n : ℕ) → taken_at n (sights.Number value) (number_at place new) now ≡ Ok next) → ReadsOn held next first new
    hook_read next is_hook taken = record {
      text = is.text ∙ so_far.text;
      goes_on = omega (arith, so_far.goes_on, number_goes_on);
      same = λ n.
          let all : read_from n old.text now (rest_of old) ≡ read_from n old.text next (rest_of new) = reads_number n ∙ rw (taken n) (and_no_more (read_from n old.text next (rest_of new))) in
          sym (subst (λ (t : List ℕ). read_from n t now (rest_of old) ≡ read_from n t next (rest_of new)) so_far.text all) ∙ so_far.same n;
      named = rw is_hook so_far.named;
    }

    pub hook_fails : (fault : TextFault) → ((n : ℕ) → Fails fault (taken_at n (sights.Number value) (number_at place new) now)) → (n : ℕ) → Fails fault (read_from n first.text held (rest_of first))
    hook_fails fault e n =
        let taken = taken_at n (sights.Number value) (number_at place new) now in
        let all : read_from n first.text now (rest_of old) ≡ on n first.text taken = subst (λ (t : List ℕ). read_from n t now (rest_of old) ≡ on n t taken) so_far.text (reads_number n) in
        subst (Fails fault) (sym all ∙ so_far.same n) (fails_on fault taken (λ next. read_from n first.text next (rest_of new) >>= λ stats. Ok stats) (e n))

-- ---- a name

module _ (token : Token) (held : Held) (old new : Cursor) (seen : IsSeenNext old sights.Name token new) where
  abbrev behind_name : ℕ → Result Held Stop → Result (List HeldStat) Stop
  behind_name n taken = taken >>= λ next. read_from n old.text next (rest_of new) >>= λ stats. Ok stats

  reads_name : (n : ℕ) → read_from n old.text held (rest_of old) ≡ behind_name n (taken_at n sights.Name token held)
  reads_name n =
      let by_sight : Sight → Result (List HeldStat) Stop = λ sight. taken_at n sight token held >>= λ next. read_from n old.text next (rest_of new) >>= λ stats. Ok (put_first (ended_by held.spot sight held.stat) stats) in
      rw seen.items (ap by_sight (sym seen.seen))

  pub name_read : (next : Held) → next.stat.name ≡ token → ((n : ℕ) → taken_at n sights.Name token held ≡ Ok next) → ReadsOn held next old new
  name_read next is taken = record {
    text = seen.text;
    goes_on = omega (arith, seen.goes_on);
    same = λ n. sym (reads_name n ∙ rw (taken n) (and_no_more (read_from n old.text next (rest_of new))));
    named = λ _. subst (IsInText old.text) (sym is) seen.inside;
  }

  pub name_fails : (fault : TextFault) → ((n : ℕ) → Fails fault (taken_at n sights.Name token held)) → (n : ℕ) → Fails fault (read_from n old.text held (rest_of old))
  name_fails fault e n = subst (Fails fault) (sym (reads_name n)) (fails_on fault (taken_at n sights.Name token held) (λ next. read_from n old.text next (rest_of new) >>= λ stats. Ok stats) (e n))

-- ---- what was read so far

module _ (text : List ℕ) (rules : List Rule) (n : ℕ) (held : Held) (old : Cursor) (text_is : old.text ≡ text) (compared : Result (List Stat) ScriptFault) (so_far : IsSoFar n text rules held (rest_of old) compared) where
  pub reads_on : (next : Held) (new : Cursor) → ReadsOn held next old new → IsSoFar n text rules next (rest_of new) compared
  reads_on next new further =
      let same : read_from n text next (rest_of new) ≡ read_from n text held (rest_of old) = subst (λ (t : List ℕ). read_from n t next (rest_of new) ≡ read_from n t held (rest_of old)) text_is (further.same n) in
      record { low = so_far.low; before = so_far.before; read = rw same so_far.read; holds = so_far.holds; named = subst (λ (t : List ℕ). IsInText t next.stat.name) text_is (further.named (subst (λ (t : List ℕ). IsInText t held.stat.name) (sym text_is) so_far.named)) }

  pub hooks_fail : (fault : TextFault) → ((n : ℕ) → Fails fault (read_from n old.text held (rest_of old))) → IsFaultOf text n rules (of_text fault)
  hooks_fail fault e = fails text rules n held (rest_of old) compared so_far fault (subst (λ (t : List ℕ). Fails fault (read_from n t held (rest_of old))) text_is (e n))

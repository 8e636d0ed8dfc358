-- A run loads no file behind the first that fails.
use Rattle.std.proofs.Common.{◌≡◌, ℕ, List, [], inl, inr, Some, None, Result, Ok, Err, map, All, ap, subst}
use Rattle.std.specs.Prelude.{IfSome, IfOk}
use Rattle.gm_host.specs.Store.{Contents}
use Rattle.gm_mapfile.specs.declared.reading.MapRead.{MapRead}
use Rattle.gm_model.specs.declared.rule.Book.{Book}
use Rattle.gm_model.specs.Acceptance.{IsAccepted}
use Rattle.gm_model.specs.Rules.{rule_of}
use Rattle.gm_tool.specs.Answer.{Files, answers, HasFile}
use Rattle.gm_lines.specs.Refusing.{Role, TheMap, TheBook}
use Rattle.gm_tool.specs.DualAnswer.{DualNames, AsksDual, DualStopsInTime, CountsDualLoads}
use Rattle.gm_tool.specs.Loads.{loads_after, FailsHere, StopsInTime, CountsLoads, UnlessNoMemory, UnlessNoMemoryToMake, BehindMap, BehindBook, BehindScript}
use Rattle.gm_tool.specs.inner.Refusals.{refusal_answer}
use Rattle.gm_tool.specs.RunAnswer.{RunNames, AsksRun, IsBadMap, IsBadBook, IsFirstRefused, RuleRefused, Bad}
use Rattle.gm_tool.specs.inner.Stops.{IsBadFor, IsRoleStop, IsReadMap, IsReadBook, IsFrom, reply_of}
use Rattle.gm_tool.specs.declared.refusal.NoText.{NoText}
use Rattle.gm_tool.specs.declared.refusal.NoText.TheVariants as nothing
use Rattle.gm_tool.specs.declared.refusal.Stop.{Stop}
use Rattle.gm_tool.specs.declared.refusal.Stop.TheVariants as stops
use Rattle.gm_tool.specs.declared.reply.Reply.{Reply}
use Rattle.gm_tool.specs.declared.running.Made.{Made}
use Rattle.gm_tool.proofs.Asking.{same_named, same_dual}
use Rattle.gm_tool.proofs.RunStops.{known}

-- what a file that fails says, unless memory was wanting
pub fails_here : (A : Type 0) (files : Files) (role : Role) (name : List ℕ) (IsBadText : List ℕ → List ℕ → Type 0) (later fails Q : Type 0) → (later → fails) → (FailsHere files role name IsBadText fails → Q)
    → (stop : Stop) → IsRoleStop files role name IsBadText later stop → UnlessNoMemoryToMake {A = A} (Err stop) Q
fails_here A files role name IsBadText later fails Q up f (stops.Bad line) h = f (inr (answers 4 line.items, h))
fails_here A files role name IsBadText later fails Q up f (stops.NoText nothing.OutOfMemory) h = tt
fails_here A files role name IsBadText later fails Q up f (stops.NoText (nothing.Refused why)) (inl h) = f (inr (refusal_answer why, h))
fails_here A files role name IsBadText later fails Q up f (stops.NoText (nothing.Refused why)) (inr h) = f (inl (up h.0))

refused_here : (files : Files) (name bytes : List ℕ) (book : Book) (fails Q : Type 0) → HasFile files name bytes → IsReadBook bytes book → (FailsHere files TheBook name IsBadBook fails → Q)
    → (stop : Stop) → IsBadFor TheBook (IsFirstRefused book.schema (map rule_of book.rules)) stop → UnlessNoMemoryToMake {A = Made} (Err stop) Q
refused_here files name bytes book fails Q held read f (stops.Bad line) (why, first, is) =
    f (inr (answers 4 line.items, Bad bytes why held (RuleRefused book.version book.schema (map rule_of book.rules) read first) (ap (λ text. answers 4 text) is)))
refused_here files name bytes book fails Q held read f (stops.NoText nothing.OutOfMemory) h = tt
refused_here files name bytes book fails Q held read f (stops.NoText (nothing.Refused why)) h = absurd h

pub always_made : {A : Type 0} (result : Result A Stop) (Q : Type 0) → Q → UnlessNoMemoryToMake result Q
always_made (Ok made) Q h = h
always_made (Err (stops.Bad line)) Q h = h
always_made (Err (stops.NoText nothing.OutOfMemory)) Q h = tt
always_made (Err (stops.NoText (nothing.Refused why))) Q h = h

-- what is put of it
pub unless_put : (reply : Result Reply NoText) (Q : Type 0) → Q → UnlessNoMemory reply Q
unless_put (Ok reply) Q h = h
unless_put (Err nothing.OutOfMemory) Q h = tt
unless_put (Err (nothing.Refused why)) Q h = h

pub unless_stopped : (A : Type 0) (stop : Stop) (Q : Type 0) → UnlessNoMemoryToMake {A = A} (Err stop) Q → UnlessNoMemory (reply_of stop) Q
unless_stopped A (stops.Bad line) Q h = h
unless_stopped A (stops.NoText nothing.OutOfMemory) Q h = tt
unless_stopped A (stops.NoText (nothing.Refused why)) Q h = h

module _ (named : RunNames) (fails : Type 0) (before after : ℕ) where
  abbrev pub CountsMade : Contents → Result Made Stop → Type 0
  CountsMade contents result = IfSome contents (λ files. UnlessNoMemoryToMake result (StopsInTime files named fails before after))

  pub behind_map : (contents : Contents) (later : Type 0) (stop : Stop) → (later → fails) → after ≡ loads_after 1 before → IsFrom {A = MapRead} contents TheMap named.map IsReadMap IsBadMap later (Err stop)
      → CountsMade contents (Err stop)
  behind_map None later stop up once h = tt
  behind_map (Some files) later stop up once h = fails_here Made files TheMap named.map IsBadMap later fails (StopsInTime files named fails before after) up (λ here. (1, BehindMap here, once)) stop h.0

  pub behind_book : (contents : Contents) (m : MapRead) (one later : Type 0) (stop : Stop) → (later → fails) → after ≡ loads_after 2 before → IsFrom contents TheMap named.map IsReadMap IsBadMap one (Ok m)
      → IsFrom {A = Book} contents TheBook named.book IsReadBook IsBadBook later (Err stop) → CountsMade contents (Err stop)
  behind_book None m one later stop up twice f h = tt
  behind_book (Some files) m one later stop up twice (bytes, held, read) h =
      fails_here Made files TheBook named.book IsBadBook later fails (StopsInTime files named fails before after) up (λ here. (2, BehindBook (known m m.arena.schema []) (bytes, held, read.stands) here, twice)) stop h.0

  pub behind_rules : (contents : Contents) (m : MapRead) (book : Book) (one two : Type 0) (stop : Stop) → after ≡ loads_after 2 before → IsFrom contents TheMap named.map IsReadMap IsBadMap one (Ok m)
      → IsFrom contents TheBook named.book IsReadBook IsBadBook two (Ok book) → IsBadFor TheBook (IsFirstRefused book.schema (map rule_of book.rules)) stop → CountsMade contents (Err stop)
  behind_rules None m book one two stop twice f h bad = tt
  behind_rules (Some files) m book one two stop twice (bytes, held, read) (text, there, is) bad =
      refused_here files named.book text book fails (StopsInTime files named fails before after) there is (λ here. (2, BehindBook (known m m.arena.schema []) (bytes, held, read.stands) here, twice)) stop bad

  pub behind_script : (contents : Contents) (m : MapRead) (book : Book) (one two : Type 0) (result : Result Made Stop) → after ≡ loads_after 3 before → IsFrom contents TheMap named.map IsReadMap IsBadMap one (Ok m)
      → IsFrom contents TheBook named.book IsReadBook IsBadBook two (Ok book) → All (IsAccepted book.schema) (map rule_of book.rules) → CountsMade contents result
  behind_script None m book one two result thrice f h accepted = tt
  behind_script (Some files) m book one two result thrice (bytes, held, read) (text, there, is) accepted =
      always_made result (StopsInTime files named fails before after) (3, BehindScript (known m book.schema (map rule_of book.rules)) (bytes, held, read.stands) (text, book.version, there, is, accepted), thrice)

  -- ---- the reply

  abbrev pub CountsReply : Contents → Result Reply NoText → Type 0
  CountsReply contents reply = IfSome contents (λ files. UnlessNoMemory reply (StopsInTime files named fails before after))

  pub counts_saved : (contents : Contents) (made : Made) (reply : Result Reply NoText) → CountsMade contents (Ok made) → CountsReply contents reply
  counts_saved None made reply h = tt
  counts_saved (Some files) made reply h = unless_put reply (StopsInTime files named fails before after) h

  pub counts_stopped : (contents : Contents) (stop : Stop) → CountsMade contents (Err stop) → CountsReply contents (reply_of stop)
  counts_stopped None stop h = tt
  counts_stopped (Some files) stop h = unless_stopped Made stop (StopsInTime files named fails before after) h

-- ---- the words

module _ (words : List (List ℕ)) (fails : Type 0) (before after : ℕ) where
  pub counts_of : (named : RunNames) → AsksRun words named → (contents : Contents) (reply : Result Reply NoText) → CountsReply named fails before after contents reply → UnlessNoMemory reply (CountsLoads words contents fails before after)
  counts_of named asks None (Ok reply) h = tt
  counts_of named asks None (Err nothing.OutOfMemory) h = tt
  counts_of named asks None (Err (nothing.Refused why)) h = tt
  counts_of named asks (Some files) (Ok reply) h = λ other asks_too. subst (λ n. StopsInTime files n fails before after) (same_named words named other asks asks_too) h
  counts_of named asks (Some files) (Err nothing.OutOfMemory) h = tt
  counts_of named asks (Some files) (Err (nothing.Refused why)) h = λ other asks_too. subst (λ n. StopsInTime files n fails before after) (same_named words named other asks asks_too) h

  -- words that are no run count none
  pub no_counts : ((named : RunNames) → AsksRun words named → ⊥) → (contents : Contents) → CountsLoads words contents fails before after
  no_counts none None = tt
  no_counts none (Some files) = λ named asks. absurd (none named asks)

  pub dual_counts_of : (named : DualNames) → AsksDual words named → (contents : Contents) (reply : Result Reply NoText) → IfSome contents (λ files. UnlessNoMemory reply (DualStopsInTime files named fails before after))
      → UnlessNoMemory reply (CountsDualLoads words contents fails before after)
  dual_counts_of named asks None reply h = unless_put reply (CountsDualLoads words None fails before after) tt
  dual_counts_of named asks (Some files) (Ok reply) h = λ other asks_too. subst (λ n. DualStopsInTime files n fails before after) (same_dual words named other asks asks_too) h
  dual_counts_of named asks (Some files) (Err nothing.OutOfMemory) h = tt
  dual_counts_of named asks (Some files) (Err (nothing.Refused why)) h = λ other asks_too. subst (λ n. DualStopsInTime files n fails before after) (same_dual words named other asks asks_too) h

  pub no_dual_counts : ((named : DualNames) → AsksDual words named → ⊥) → (contents : Contents) → CountsDualLoads words contents fails before after
  no_dual_counts none None = tt
  no_dual_counts none (Some files) = λ named asks. absurd (none named asks)

-- ---- a fact of each reply

pub always : {A E P : Type 0} → P → (result : Result A E) → IfOk result (λ _. P)
always h (Ok value) = h
always h (Err error) = tt

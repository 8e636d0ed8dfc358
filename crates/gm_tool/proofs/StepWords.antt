-- The bounds on steps, said of the words of the command line and of the status that is left.
use Rattle.std.proofs.Common.{◌≡◌, ℕ, ◌+◌, ◌*◌, ◌≤◌, List, Some, None, Result, Ok, Err, length, sym, subst, ◌∙◌, arith}
use Rattle.std.specs.Prelude.{IfOk, IfSome}
use Rattle.std.proofs.Math.Nat.{mul_assoc}
use Rattle.gm_arena.specs.inner.Lawful.{IsLawful}
use Rattle.gm_host.specs.Store.{Contents, IsHeld}
use Rattle.gm_mapfile.proofs.OneMap.{one_map}
use Rattle.gm_mapfile.proofs.Printed.{darts_counted}
use Rattle.gm_mapfile.specs.MapText.{ListedMap, MapText}
use Rattle.gm_mapfile.specs.inner.Rows.{listed_of}
use Rattle.gm_mapfile.specs.declared.reading.MapRead.{MapRead}
use Rattle.gm_lines.specs.Refusing.{TheMap}
use Rattle.gm_tool.specs.Answer.{Asks}
use Rattle.gm_tool.specs.Answer as answer
use Rattle.gm_tool.specs.DualAnswer.{DualNames, AsksDual}
use Rattle.gm_tool.specs.GridAnswer.{AsksGrid}
use Rattle.gm_tool.specs.MadeRuns.{IsRunStatus}
use Rattle.gm_tool.specs.Migrating.{MigrateNames, AsksMigrate}
use Rattle.gm_tool.specs.RunAnswer.{RunNames, AsksRun, IsBadMap}
use Rattle.gm_tool.specs.StepBounds.{WithinMost, AtLeast, StaysWithin, TakesLeast, ShowsWithin, FileShowsWithin, ShowStaysWithin, MigrateStaysWithin, DualsWithin, FileDualsWithin, DualStaysWithin, WithinGridMost, AtLeastOfGrid, GridStaysWithin, GridTakesLeast, BytesReadWithin, ReadsWithin, printing, turning}
use Rattle.gm_tool.specs.inner.Stops.{IsReadMap, IsFrom, reply_of}
use Rattle.gm_tool.specs.declared.refusal.NoText.{NoText}
use Rattle.gm_tool.specs.declared.refusal.Stop.{Stop}
use Rattle.gm_tool.specs.declared.reply.Reply.{Reply}
use Rattle.gm_tool.proofs.Asking.{same_named, same_migrated, same_dual}
use Rattle.gm_tool.proofs.OneAnswer.{asked_once, same_size}
use Rattle.gm_tool.proofs.OneFile.{same_bytes}
use Rattle.gm_tool.proofs.Saving.{stop_status, four_is_no_run}

read_below : (s darts before after : ℕ) → after ≤ before + 32 * s * (darts + 1) → after ≤ before + 40 * s * (darts + 1)
read_below s darts before after h =
    let one : 32 * s * (darts + 1) ≡ 32 * (s * (darts + 1)) = mul_assoc 32 s (darts + 1) in
    let two : 40 * s * (darts + 1) ≡ 40 * (s * (darts + 1)) = mul_assoc 40 s (darts + 1) in
    omega (arith, h, one, two)

printed_below : (s darts before middle after : ℕ) → middle ≤ before + 32 * s * (darts + 1) → after ≤ middle + 8 * s * (darts + 1) → after ≤ before + 40 * s * (darts + 1)
printed_below s darts before middle after h k =
    let one : 32 * s * (darts + 1) ≡ 32 * (s * (darts + 1)) = mul_assoc 32 s (darts + 1) in
    let two : 40 * s * (darts + 1) ≡ 40 * (s * (darts + 1)) = mul_assoc 40 s (darts + 1) in
    let three : 8 * s * (darts + 1) ≡ 8 * (s * (darts + 1)) = mul_assoc 8 s (darts + 1) in
    omega (arith, h, k, one, two, three)

-- ---- the words

module _ (words : List (List ℕ)) (named : RunNames) (asks : AsksRun words named) (before after : ℕ) where
  pub within_of : (contents : Contents) → IfSome contents (λ files. WithinMost files named before after) → StaysWithin words contents before after
  within_of None h = tt
  within_of (Some files) h = λ other asks_too. subst (λ n. WithinMost files n before after) (same_named words named other asks asks_too) h

  pub least_of : (contents : Contents) (reply : Result Reply NoText) → IfOk reply (λ r. IfSome contents (λ files. IsRunStatus r.status → AtLeast files named before after)) → IfOk reply (λ r. TakesLeast words contents r.status before after)
  least_of None (Ok reply) h = tt
  least_of (Some files) (Ok reply) h = λ other asks_too run. subst (λ n. AtLeast files n before after) (same_named words named other asks asks_too) (h run)
  least_of contents (Err none) h = tt

-- words that are no run have no bounds
module _ (words : List (List ℕ)) (none : (named : RunNames) → AsksRun words named → ⊥) (before after : ℕ) where
  pub within_none : (contents : Contents) → StaysWithin words contents before after
  within_none None = tt
  within_none (Some files) = λ named asks. absurd (none named asks)

  pub least_none : (contents : Contents) (status : ℕ) → TakesLeast words contents status before after
  least_none None status = tt
  least_none (Some files) status = λ named asks run. absurd (none named asks)

-- ---- a map that is shown

pub reads_shown : (bytes : List ℕ) (before after : ℕ) → BytesReadWithin bytes before after → ShowsWithin bytes before after
reads_shown bytes before after reads version listed stands = read_below ((listed.schema.dim + 1) * (listed.schema.dim + 1)) (length listed.darts) before after (reads version listed stands)

pub prints_shown : (bytes : List ℕ) (read : MapRead) (before middle after : ℕ) → IsLawful read.arena → MapText bytes read.version (listed_of read.arena)
    → BytesReadWithin bytes before middle → after ≤ middle + printing read.arena.schema.dim read.arena.count → ShowsWithin bytes before after
prints_shown bytes read before middle after lawful is reads prints version listed stands =
    let same : listed_of read.arena ≡ listed = (one_map bytes read.version version (listed_of read.arena) listed is stands).1 in
    let count : read.arena.count ≡ length (listed_of read.arena).darts = sym (darts_counted read.arena lawful) in
    let printed : after ≤ middle + printing listed.schema.dim (length listed.darts) =
    subst (λ (l : ListedMap). after ≤ middle + printing l.schema.dim (length l.darts)) same (subst (λ k. after ≤ middle + printing read.arena.schema.dim k) count prints) in
    printed_below ((listed.schema.dim + 1) * (listed.schema.dim + 1)) (length listed.darts) before middle after (reads version listed stands) printed

pub unloaded_shown : (contents : Contents) (name : List ℕ) (steps : ℕ) → FileShowsWithin contents name steps steps
unloaded_shown None name steps = tt
unloaded_shown (Some files) name steps = λ bytes held version listed stands. omega arith

pub loaded_shown : (contents : Contents) (name bytes : List ℕ) (before after : ℕ) → IsHeld contents name bytes → ShowsWithin bytes before after → FileShowsWithin contents name before after
loaded_shown None name bytes before after held shown = tt
loaded_shown (Some files) name bytes before after held shown = λ other there.
    let same : Some other ≡ Some bytes = sym there.0 ∙ held in
    let bytes_same : other ≡ bytes = cc same in
    subst (λ b. ShowsWithin b before after) (sym bytes_same) shown

pub file_shown : (words : List (List ℕ)) (contents : Contents) (command : answer.Command) (name : List ℕ) (before after : ℕ) → Asks words command name
    → (command ≡ answer.Show → FileShowsWithin contents name before after) → ShowStaysWithin words contents before after
file_shown words contents command name before after asks shown other asks_too =
    let same : (command ≡ answer.Show) × (name ≡ other) = asked_once words command answer.Show name other asks asks_too in
    subst (λ (n : List ℕ). FileShowsWithin contents n before after) same.1 (shown same.0)

pub none_shown : (words : List (List ℕ)) (contents : Contents) (before after : ℕ) → ((command : answer.Command) (name : List ℕ) → Asks words command name → ⊥) → ShowStaysWithin words contents before after
none_shown words contents before after none name asks = absurd (none answer.Show name asks)

-- ---- a map that is migrated

pub read_shown : (contents : Contents) (name : List ℕ) (before after : ℕ) → ReadsWithin contents name before after → FileShowsWithin contents name before after
read_shown None name before after reads = tt
read_shown (Some files) name before after reads = λ bytes held. reads_shown bytes before after (reads bytes held)

pub printed_shown : (contents : Contents) (name : List ℕ) (fails : Type 0) (read : MapRead) (before middle after : ℕ) → IsLawful read.arena → IsFrom contents TheMap name IsReadMap IsBadMap fails (Ok read)
    → ReadsWithin contents name before middle → after ≤ middle + printing read.arena.schema.dim read.arena.count → FileShowsWithin contents name before after
printed_shown None name fails read before middle after lawful is reads prints = tt
printed_shown (Some files) name fails read before middle after lawful (bytes, held, is) reads prints = λ other there.
    subst (λ b. ShowsWithin b before after) (same_bytes files name bytes other held.0 there.0) (prints_shown bytes read before middle after lawful is.stands (reads bytes held) prints)

pub migrated_within : (words : List (List ℕ)) (named : MigrateNames) (contents : Contents) (before after : ℕ) → AsksMigrate words named → FileShowsWithin contents named.map before after → MigrateStaysWithin words contents before after
migrated_within words named contents before after asks shown other asks_too = subst (λ (n : MigrateNames). FileShowsWithin contents n.map before after) (same_migrated words named other asks asks_too) shown

pub none_migrated : (words : List (List ℕ)) (contents : Contents) (before after : ℕ) → ((named : MigrateNames) → AsksMigrate words named → ⊥) → MigrateStaysWithin words contents before after
none_migrated words contents before after none named asks = absurd (none named asks)

-- ---- a map and its dual

turned_below : (s darts before middle after : ℕ) → middle ≤ before + 32 * s * (darts + 1) → after ≤ middle + 24 * s * (darts + 1) → after ≤ before + 56 * s * (darts + 1)
turned_below s darts before middle after h k =
    let one : 32 * s * (darts + 1) ≡ 32 * (s * (darts + 1)) = mul_assoc 32 s (darts + 1) in
    let two : 24 * s * (darts + 1) ≡ 24 * (s * (darts + 1)) = mul_assoc 24 s (darts + 1) in
    let three : 56 * s * (darts + 1) ≡ 56 * (s * (darts + 1)) = mul_assoc 56 s (darts + 1) in
    omega (arith, h, k, one, two, three)

turns_dual : (bytes : List ℕ) (read : MapRead) (before middle after : ℕ) → IsLawful read.arena → MapText bytes read.version (listed_of read.arena)
    → BytesReadWithin bytes before middle → after ≤ middle + turning read.arena.schema.dim read.arena.count → DualsWithin bytes before after
turns_dual bytes read before middle after lawful is reads turns version listed stands =
    let same : listed_of read.arena ≡ listed = (one_map bytes read.version version (listed_of read.arena) listed is stands).1 in
    let count : read.arena.count ≡ length (listed_of read.arena).darts = sym (darts_counted read.arena lawful) in
    let turned : after ≤ middle + turning listed.schema.dim (length listed.darts) =
    subst (λ (l : ListedMap). after ≤ middle + turning l.schema.dim (length l.darts)) same (subst (λ k. after ≤ middle + turning read.arena.schema.dim k) count turns) in
    turned_below ((listed.schema.dim + 1) * (listed.schema.dim + 1)) (length listed.darts) before middle after (reads version listed stands) turned

pub turned_dual : (contents : Contents) (name : List ℕ) (fails : Type 0) (read : MapRead) (before middle after : ℕ) → IsLawful read.arena → IsFrom contents TheMap name IsReadMap IsBadMap fails (Ok read)
    → ReadsWithin contents name before middle → after ≤ middle + turning read.arena.schema.dim read.arena.count → FileDualsWithin contents name before after
turned_dual None name fails read before middle after lawful is reads turns = tt
turned_dual (Some files) name fails read before middle after lawful (bytes, held, is) reads turns = λ other there.
    subst (λ b. DualsWithin b before after) (same_bytes files name bytes other held.0 there.0) (turns_dual bytes read before middle after lawful is.stands (reads bytes held) turns)

-- a map that was read, and no more
pub read_dual : (contents : Contents) (name : List ℕ) (before after : ℕ) → ReadsWithin contents name before after → FileDualsWithin contents name before after
read_dual None name before after reads = tt
read_dual (Some files) name before after reads = λ bytes held version listed stands.
    turned_below ((listed.schema.dim + 1) * (listed.schema.dim + 1)) (length listed.darts) before after after (reads bytes held version listed stands) (omega arith)

pub dual_within : (words : List (List ℕ)) (named : DualNames) (contents : Contents) (before after : ℕ) → AsksDual words named → FileDualsWithin contents named.map before after → DualStaysWithin words contents before after
dual_within words named contents before after asks within other asks_too = subst (λ (n : DualNames). FileDualsWithin contents n.map before after) (same_dual words named other asks asks_too) within

pub none_dual : (words : List (List ℕ)) (contents : Contents) (before after : ℕ) → ((named : DualNames) → AsksDual words named → ⊥) → DualStaysWithin words contents before after
none_dual words contents before after none named asks = absurd (none named asks)

-- ---- a grid

pub grid_within : (words : List (List ℕ)) (m before after : ℕ) → AsksGrid words m → WithinGridMost m before after → GridStaysWithin words before after
grid_within words m before after asks within other asks_too = subst (λ n. WithinGridMost n before after) (same_size words m other asks asks_too) within

pub none_gridded : (words : List (List ℕ)) (before after : ℕ) → ((m : ℕ) → AsksGrid words m → ⊥) → GridStaysWithin words before after
none_gridded words before after none m asks = absurd (none m asks)

pub grid_least : (words : List (List ℕ)) (m before after : ℕ) → AsksGrid words m → (reply : Result Reply NoText) → IfOk reply (λ _. AtLeastOfGrid m before after) → IfOk reply (λ r. GridTakesLeast words r.status before after)
grid_least words m before after asks (Ok reply) h = λ other asks_too done. subst (λ n. AtLeastOfGrid n before after) (same_size words m other asks asks_too) h
grid_least words m before after asks (Err none) h = tt

pub no_grid_least : (words : List (List ℕ)) (status before after : ℕ) → ((m : ℕ) → AsksGrid words m → ⊥) → GridTakesLeast words status before after
no_grid_least words status before after none m asks = absurd (none m asks)

-- ---- the status

-- of a report that was made and saved
pub least_saved : (contents : Contents) (named : RunNames) (before after : ℕ) (reply : Result Reply NoText) → IfSome contents (λ files. AtLeast files named before after)
    → IfOk reply (λ r. IfSome contents (λ files. IsRunStatus r.status → AtLeast files named before after))
least_saved None named before after (Ok reply) h = tt
least_saved (Some files) named before after (Ok reply) h = λ run. h
least_saved contents named before after (Err none) h = tt

-- of a stop
pub least_stopped : (contents : Contents) (named : RunNames) (before after : ℕ) (stop : Stop) → IfOk (reply_of stop) (λ r. IfSome contents (λ files. IsRunStatus r.status → AtLeast files named before after))
least_stopped contents named before after stop = stop_status (λ status. IfSome contents (λ files. IsRunStatus status → AtLeast files named before after)) (four contents) stop
  where
    four : (c : Contents) → IfSome c (λ files. IsRunStatus 4 → AtLeast files named before after)
    four None = tt
    four (Some files) = λ run. absurd (four_is_no_run run)

-- of what is put
pub least_put : (words : List (List ℕ)) (contents : Contents) (given status before after : ℕ) → (IsRunStatus status → IsRunStatus given) → TakesLeast words contents given before after → TakesLeast words contents status before after
least_put words None given status before after runs h = tt
least_put words (Some files) given status before after runs h = λ named asks run. h named asks (runs run)

-- of a refusal
pub least_refused : (words : List (List ℕ)) (contents : Contents) (status before after : ℕ) → (IsRunStatus status → ⊥) → TakesLeast words contents status before after
least_refused words None status before after none = tt
least_refused words (Some files) status before after none = λ named asks run. absurd (none run)

pub grid_least_put : (words : List (List ℕ)) (given status before after : ℕ) → (IsRunStatus status → IsRunStatus given) → GridTakesLeast words given before after → GridTakesLeast words status before after
grid_least_put words given status before after runs h m asks run = h m asks (runs run)

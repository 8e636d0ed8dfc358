-- What loading a file and judging its bytes answer, before anything is printed.
use Rattle.std.specs.Prelude.{◌≡◌, ◌⊎◌, ℕ, ◌<◌, ◌≤◌, List, ◌++◌, length, Some, None, Result, Ok, Err, codes}
use Rattle.std.specs.Global.{Vec}
use Rattle.gm_host.specs.Store.{Contents, Lacks, IsHeld, HoldsLongerFile}
use Rattle.gm_host.specs.declared.fault.LoadFault.{LoadFault}
use Rattle.gm_host.specs.declared.fault.LoadFault.TheVariants as faults
use Rattle.gm_book.specs.declared.fault.BookFault.{BookFault}
use Rattle.gm_model.specs.declared.schema.Schema.{Schema}
use Rattle.gm_model.specs.Rules.{Rule}
use Rattle.gm_tool.specs.Answer.{most_bytes, role_of, IsOutput}
use Rattle.gm_lines.specs.Refusing.{TheMap, refusal, IsBadLine}
use Rattle.gm_tool.specs.Answer as answer
use Rattle.gm_lines.specs.Checking.{AreLines, counts_line, check_status}
use Rattle.gm_lines.specs.inner.FaultLines.{IsSaidOfBook, book_words}
use Rattle.gm_tool.specs.declared.refusal.NoText.{NoText}
use Rattle.gm_tool.specs.declared.refusal.NoText.TheVariants as nothing
use Rattle.gm_tool.specs.declared.refusal.Refusal.TheVariants.{Usage, Load, Size, SizeOutput, Agree, Save}
use Rattle.gm_tool.specs.declared.refusal.Role.{Role}
use Rattle.gm_tool.specs.declared.reply.Reply.{Reply}

-- ---- loading

-- where the store tells, its file of that name is longer than the limit
abbrev pub IsLong : Contents → List ℕ → Type 0
IsLong None name = Unit {0}
IsLong (Some files) name = HoldsLongerFile (Some files) name most_bytes

-- the file of a name is loaded, or the load failed, or the file is not there or too long
abbrev pub IsLoading : Contents → List ℕ → Role → Type 0 → Result (Vec ℕ) NoText → Type 0
IsLoading contents name role fails (Ok bytes) = (length bytes.items ≤ most_bytes) × IsHeld contents name bytes.items
IsLoading contents name role fails (Err nothing.OutOfMemory) = Unit {0}
IsLoading contents name role fails (Err (nothing.Refused (Load other))) = (other ≡ role) × (fails ⊎ Lacks contents name)
IsLoading contents name role fails (Err (nothing.Refused (Size other))) = (other ≡ role) × IsLong contents name
IsLoading contents name role fails (Err (nothing.Refused Usage)) = ⊥
IsLoading contents name role fails (Err (nothing.Refused SizeOutput)) = ⊥
IsLoading contents name role fails (Err (nothing.Refused Agree)) = ⊥
IsLoading contents name role fails (Err (nothing.Refused Save)) = ⊥

-- the answer to a load that gave no file
abbrev pub no_file_for : Role → LoadFault → NoText
no_file_for role faults.Absent = nothing.Refused (Load role)
no_file_for role faults.Failed = nothing.Refused (Load role)
no_file_for role (faults.TooLong seen) = nothing.Refused (Size role)
no_file_for role faults.OutOfMemory = nothing.OutOfMemory

-- ---- judging

-- what the command prints of the bytes: its output, which is not too long, or the line that refuses them
abbrev pub IsJudged : List ℕ → answer.Command → Result Reply NoText → Type 0
IsJudged bytes command (Ok reply) =
    (IsOutput bytes command reply.status reply.text.items × (length reply.text.items ≤ most_bytes)) ⊎ ((reply.status ≡ 4) × IsBadLine bytes (role_of command) reply.text.items)
IsJudged bytes command (Err nothing.OutOfMemory) = Unit {0}
IsJudged bytes command (Err (nothing.Refused SizeOutput)) = (status : ℕ) × (text : List ℕ) × IsOutput bytes command status text × (most_bytes < length text)
IsJudged bytes command (Err (nothing.Refused Usage)) = ⊥
IsJudged bytes command (Err (nothing.Refused (Load role))) = ⊥
IsJudged bytes command (Err (nothing.Refused (Size role))) = ⊥
IsJudged bytes command (Err (nothing.Refused Agree)) = ⊥
IsJudged bytes command (Err (nothing.Refused Save)) = ⊥

-- the statuses of a reply in which no rule and no line is refused: done, or a text that stands for nothing
abbrev pub IsPlainStatus : ℕ → Type 0
IsPlainStatus status = (status ≡ 0) ⊎ (status ≡ 4)

-- a text that is not too long, with its status; or it is
abbrev pub IsWithinLimit : ℕ → List ℕ → Result Reply NoText → Type 0
IsWithinLimit status text (Ok reply) = (reply.status ≡ status) × (reply.text.items ≡ text) × (length text ≤ most_bytes)
IsWithinLimit status text (Err none) = (none ≡ nothing.Refused SizeOutput) × (most_bytes < length text)

-- the line that refuses, with status 4, where memory suffices
abbrev pub IsRefusal : List ℕ → Result Reply NoText → Type 0
IsRefusal line (Ok reply) = (reply.status ≡ 4) × (reply.text.items ≡ line)
IsRefusal line (Err none) = none ≡ nothing.OutOfMemory

-- the line that says why the bytes stand for no map, with status 4; that memory ran out says nothing of them
abbrev pub IsMapRefusal : List ℕ → Result Reply NoText → Type 0
IsMapRefusal bytes (Ok reply) = (reply.status ≡ 4) × IsBadLine bytes TheMap reply.text.items
IsMapRefusal bytes (Err none) = none ≡ nothing.OutOfMemory

-- the line that refuses the book with this fault; that memory ran out says nothing of the book
abbrev pub IsBookRefusal : BookFault → Result Reply NoText → Type 0
IsBookRefusal fault (Ok reply) = IsSaidOfBook fault × (reply.status ≡ 4) × (reply.text.items ≡ refusal (codes "BOOK" ++ codes " " ++ book_words fault))
IsBookRefusal fault (Err none) = none ≡ nothing.OutOfMemory

-- what a check prints of these rules, where it is not too long
abbrev pub IsChecked : Schema → List Rule → Result Reply NoText → Type 0
IsChecked schema rules (Err nothing.OutOfMemory) = Unit {0}
IsChecked schema rules reply = (refused : ℕ) × (lines : List ℕ) × AreLines schema rules refused lines × IsWithinLimit (check_status refused) (lines ++ counts_line (length rules) refused) reply

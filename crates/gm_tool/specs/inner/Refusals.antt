-- The commands, roles and refusals of the program as the definition of its answer sees them.
use Rattle.std.specs.Prelude.{◌≡◌, ℕ, List, ◌++◌, codes}
use Rattle.gm_tool.specs.Answer.{Answer, answers, command_word}
use Rattle.gm_lines.specs.Refusing.{role_word, refusal}
use Rattle.gm_tool.specs.Answer as answer
use Rattle.gm_lines.specs.Refusing as refusing
use Rattle.gm_tool.specs.declared.command.Command.{Command}
use Rattle.gm_tool.specs.declared.command.Command.TheVariants as commands
use Rattle.gm_tool.specs.declared.refusal.Refusal.{Refusal}
use Rattle.gm_tool.specs.declared.refusal.Refusal.TheVariants.{Usage, Load, Size, SizeOutput, Agree, Save}
use Rattle.gm_tool.specs.declared.refusal.Role.{Role}
use Rattle.gm_tool.specs.declared.refusal.Role.TheVariants as roles

abbrev pub command_in : Command → answer.Command
command_in commands.Show = answer.Show
command_in commands.Book = answer.Book
command_in commands.Check = answer.Check
command_in commands.Cells = answer.Cells

-- the word of no command
abbrev pub IsNoCommandWord : List ℕ → Type 0
IsNoCommandWord word = (command : answer.Command) → word ≡ command_word command → ⊥

abbrev pub role_in : Role → refusing.Role
role_in roles.Map = refusing.TheMap
role_in roles.Book = refusing.TheBook
role_in roles.Script = refusing.TheScript

abbrev pub status_of : Refusal → ℕ
status_of Usage = 2
status_of (Load role) = 3
status_of (Size role) = 8
status_of SizeOutput = 8
status_of Agree = 4
status_of Save = 5

abbrev pub words_for : Refusal → List ℕ
words_for Usage = codes "usage"
words_for (Load role) = codes "load " ++ role_word (role_in role)
words_for (Size role) = codes "size " ++ role_word (role_in role)
words_for SizeOutput = codes "size output"
words_for Agree = codes "agree"
words_for Save = codes "save OUT"

abbrev pub line_of : Refusal → List ℕ
line_of why = refusal (words_for why)

abbrev pub refusal_answer : Refusal → Answer
refusal_answer why = answers (status_of why) (line_of why)

-- the role of the command's file
abbrev pub IsRoleOf : Command → Role → Type 0
IsRoleOf command role = role_in role ≡ answer.role_of (command_in command)

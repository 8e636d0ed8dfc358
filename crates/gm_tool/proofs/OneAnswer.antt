-- The definition of the program's answer gives one answer at most to the words and the files.
use Rattle.std.proofs.Common.{◌≡◌, ℕ, List, [], ◌∷◌, inl, inr, refl, sym, subst, ◌∙◌, codes, arith}
use Rattle.std.specs.Prelude.{decimal}
use Rattle.std.proofs.lemmas.Fmt.{decimal_injective}
use Rattle.gm_tool.specs.Answer.{Files, Answer, Command, Show, Book, Check, Cells, command_word, Asks, IsFileAnswer}
use Rattle.gm_tool.specs.Migrating.{IsMigrateAnswer}
use Rattle.gm_tool.specs.DualAnswer.{IsDualAnswer}
use Rattle.gm_tool.specs.GridAnswer.{AsksGrid, IsGridAnswer}
use Rattle.gm_tool.specs.Program.{IsAnswer, Usage, OfFile, OfRun, OfMigrate, OfDual, OfGrid}
use Rattle.gm_tool.specs.RunAnswer.{IsRunAnswer}
use Rattle.gm_tool.proofs.Asking.{differ, file_is_no_run, file_is_no_migrate, file_is_no_dual, file_is_no_grid, run_is_no_migrate, run_is_no_dual, run_is_no_grid, migrate_is_no_dual, migrate_is_no_grid, dual_is_no_grid, same_named, same_migrated, same_dual}
use Rattle.gm_tool.proofs.OneDual.{one_dual_answer}
use Rattle.gm_tool.proofs.OneFile.{one_file_answer}
use Rattle.gm_tool.proofs.OneGrid.{one_grid_answer}
use Rattle.gm_tool.proofs.OneMigration.{one_migrate_answer}
use Rattle.gm_tool.proofs.OneRunAnswer.{one_run_answer}

-- ---- the words say what is asked

one_word : (command other : Command) → command_word command ≡ command_word other → command ≡ other
one_word Show Show e = refl
one_word Show Book e = absurd (differ (codes "show") (codes "book") refl refl e)
one_word Show Check e = absurd (differ (codes "show") (codes "check") refl refl e)
one_word Show Cells e = absurd (differ (codes "show") (codes "cells") refl refl e)
one_word Book Show e = absurd (differ (codes "book") (codes "show") refl refl e)
one_word Book Book e = refl
one_word Book Check e = absurd (differ (codes "book") (codes "check") refl refl e)
one_word Book Cells e = absurd (differ (codes "book") (codes "cells") refl refl e)
one_word Check Show e = absurd (differ (codes "check") (codes "show") refl refl e)
one_word Check Book e = absurd (differ (codes "check") (codes "book") refl refl e)
one_word Check Check e = refl
one_word Check Cells e = absurd (differ (codes "check") (codes "cells") refl refl e)
one_word Cells Show e = absurd (differ (codes "cells") (codes "show") refl refl e)
one_word Cells Book e = absurd (differ (codes "cells") (codes "book") refl refl e)
one_word Cells Check e = absurd (differ (codes "cells") (codes "check") refl refl e)
one_word Cells Cells e = refl

pub asked_once : (words : List (List ℕ)) (command other : Command) (name named : List ℕ) → Asks words command name → Asks words other named → (command ≡ other) × (name ≡ named)
asked_once words command other name named a b =
    let both : ◌≡◌ {A = List (List ℕ)} (command_word command ∷ name ∷ []) (command_word other ∷ named ∷ []) = sym a ∙ b in
    let word : command_word command ≡ command_word other = cc both in
    let file : name ≡ named = cc both in
    (one_word command other word, file)

-- one text is of one number
pub same_size : (words : List (List ℕ)) (m m' : ℕ) → AsksGrid words m → AsksGrid words m' → m ≡ m'
same_size words m m' a b =
    let both : ◌≡◌ {A = List (List ℕ)} (codes "grid" ∷ decimal m ∷ []) (codes "grid" ∷ decimal m' ∷ []) = sym a.is ∙ b.is in
    let text : decimal m ≡ decimal m' = cc both in
    decimal_injective m m' (omega (arith, a.greatest)) (omega (arith, b.greatest)) text

-- ---- one answer

pub one_answer : (words : List (List ℕ)) (files : Files) (one other : Answer) → IsAnswer words files one → IsAnswer words files other → one ≡ other
one_answer words files one other (Usage never e) (Usage never' f) = e ∙ sym f
one_answer words files one other (Usage never e) (OfFile command name asks is) = absurd (never (inl (command, name, asks)))
one_answer words files one other (Usage never e) (OfRun named asks is) = absurd (never (inr (inl (inl (named, asks)))))
one_answer words files one other (Usage never e) (OfMigrate named asks is) = absurd (never (inr (inl (inr (named, asks)))))
one_answer words files one other (Usage never e) (OfDual named asks is) = absurd (never (inr (inr (inl (named, asks)))))
one_answer words files one other (Usage never e) (OfGrid m asks is) = absurd (never (inr (inr (inr (m, asks)))))
one_answer words files one other (OfFile command name asks is) (Usage never f) = absurd (never (inl (command, name, asks)))
one_answer words files one other (OfFile command name asks is) (OfFile command' name' asks' is') =
    let same = asked_once words command command' name name' asks asks' in
    one_file_answer files command name one other is (subst (λ c. IsFileAnswer files c name other) (sym same.0) (subst (λ n. IsFileAnswer files command' n other) (sym same.1) is'))
one_answer words files one other (OfFile command name asks is) (OfRun named asks' is') = absurd (file_is_no_run words command name named asks asks')
one_answer words files one other (OfFile command name asks is) (OfMigrate named asks' is') = absurd (file_is_no_migrate words command name named asks asks')
one_answer words files one other (OfFile command name asks is) (OfDual named asks' is') = absurd (file_is_no_dual words command name named asks asks')
one_answer words files one other (OfFile command name asks is) (OfGrid m asks' is') = absurd (file_is_no_grid words command name m asks asks')
one_answer words files one other (OfRun named asks is) (Usage never f) = absurd (never (inr (inl (inl (named, asks)))))
one_answer words files one other (OfRun named asks is) (OfFile command name asks' is') = absurd (file_is_no_run words command name named asks' asks)
one_answer words files one other (OfRun named asks is) (OfRun named' asks' is') =
    one_run_answer files named one other is (subst (λ n. IsRunAnswer files n other) (sym (same_named words named named' asks asks')) is')
one_answer words files one other (OfRun named asks is) (OfMigrate named' asks' is') = absurd (run_is_no_migrate words named named' asks asks')
one_answer words files one other (OfRun named asks is) (OfDual named' asks' is') = absurd (run_is_no_dual words named named' asks asks')
one_answer words files one other (OfRun named asks is) (OfGrid m asks' is') = absurd (run_is_no_grid words named m asks asks')
one_answer words files one other (OfMigrate named asks is) (Usage never f) = absurd (never (inr (inl (inr (named, asks)))))
one_answer words files one other (OfMigrate named asks is) (OfFile command name asks' is') = absurd (file_is_no_migrate words command name named asks' asks)
one_answer words files one other (OfMigrate named asks is) (OfRun named' asks' is') = absurd (run_is_no_migrate words named' named asks' asks)
one_answer words files one other (OfMigrate named asks is) (OfMigrate named' asks' is') =
    one_migrate_answer files named one other is (subst (λ n. IsMigrateAnswer files n other) (sym (same_migrated words named named' asks asks')) is')
one_answer words files one other (OfMigrate named asks is) (OfDual named' asks' is') = absurd (migrate_is_no_dual words named named' asks asks')
one_answer words files one other (OfMigrate named asks is) (OfGrid m asks' is') = absurd (migrate_is_no_grid words named m asks asks')
one_answer words files one other (OfDual named asks is) (Usage never f) = absurd (never (inr (inr (inl (named, asks)))))
one_answer words files one other (OfDual named asks is) (OfFile command name asks' is') = absurd (file_is_no_dual words command name named asks' asks)
one_answer words files one other (OfDual named asks is) (OfRun named' asks' is') = absurd (run_is_no_dual words named' named asks' asks)
one_answer words files one other (OfDual named asks is) (OfMigrate named' asks' is') = absurd (migrate_is_no_dual words named' named asks' asks)
one_answer words files one other (OfDual named asks is) (OfDual named' asks' is') =
    one_dual_answer files named one other is (subst (λ n. IsDualAnswer files n other) (sym (same_dual words named named' asks asks')) is')
one_answer words files one other (OfDual named asks is) (OfGrid m asks' is') = absurd (dual_is_no_grid words named m asks asks')
one_answer words files one other (OfGrid m asks is) (Usage never f) = absurd (never (inr (inr (inr (m, asks)))))
one_answer words files one other (OfGrid m asks is) (OfFile command name asks' is') = absurd (file_is_no_grid words command name m asks' asks)
one_answer words files one other (OfGrid m asks is) (OfRun named asks' is') = absurd (run_is_no_grid words named m asks' asks)
one_answer words files one other (OfGrid m asks is) (OfMigrate named asks' is') = absurd (migrate_is_no_grid words named m asks' asks)
one_answer words files one other (OfGrid m asks is) (OfDual named asks' is') = absurd (dual_is_no_grid words named m asks' asks)
one_answer words files one other (OfGrid m asks is) (OfGrid m' asks' is') =
    one_grid_answer m asks.greatest one other is (subst (λ n. IsGridAnswer n other) (sym (same_size words m m' asks asks')) is')

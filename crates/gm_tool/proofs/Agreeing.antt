-- What was read of the three files can be run, where map and book agree.
use Rattle.std.proofs.Common.{◌≡◌, ℕ, ◌+◌, ◌<◌, ◌≤◌, List, length, get_or, map, inl, inr, sym, ◌∙◌, arith}
use Rattle.std.proofs.lemmas.Bool.{cases_eq}
use Rattle.std.proofs.lemmas.List.{same_lists, get_or_default}
use Rattle.gm_mapfile.specs.declared.reading.MapRead.{MapRead}
use Rattle.gm_model.specs.declared.rule.Book.{Book}
use Rattle.gm_model.specs.declared.schema.Embed.{Embed}
use Rattle.gm_model.specs.declared.script.Script.{Script}
use Rattle.gm_model.specs.Rules.{rule_of}
use Rattle.gm_plan.specs.inner.Plans.{PlanOf, plan_of}
use Rattle.gm_tool.specs.MadeRuns.{CanRun}
use Rattle.gm_tool.specs.inner.Stops.{IsReadMap, IsReadBook, IsReadScript}

-- ---- embeddings compared one after another

abbrev SameBelow : List Embed → List Embed → ℕ → Type 0
SameBelow embeds others at = (k : ℕ) (d : Embed) → k < at → get_or embeds k d ≡ get_or others k d

pub same_more : (embeds others : List Embed) (at : ℕ) → SameBelow embeds others at → (embed other : Embed) → embed ≡ get_or embeds at embed → other ≡ get_or others at other → length embeds ≡ length others → at < length embeds → embed ≡ other
    → SameBelow embeds others (at + 1)
same_more embeds others at so_far embed other here there long within same k d lt = elim (cases_eq k at) [
  | inl e ↦
      rw e
      (get_or_default embeds at d embed within ∙ (sym here ∙ (same ∙ (there ∙ get_or_default others at other d (omega (arith, within, long))))))
  | inr apart ↦ so_far k d (omega arith)
]

pub all_same : (embeds others : List Embed) (at : ℕ) → SameBelow embeds others at → length embeds ≡ length others → length embeds ≤ at → embeds ≡ others
all_same embeds others at so_far long end = same_lists embeds others long (λ k d lt. so_far k d (omega (arith, lt, end)))

-- ---- what was read

module _ (read : MapRead) (book : Book) (script : Script) where
  pub can_run : (plans : List PlanOf) (of_map_file : (bytes : List ℕ) × IsReadMap bytes read) (of_book : (bytes : List ℕ) × IsReadBook bytes book) (of_script : (bytes : List ℕ) × IsReadScript book.schema.dim (map rule_of book.rules) bytes script)
      → plans ≡ map (plan_of book.schema) book.rules → read.arena.schema ≡ book.schema → CanRun read.arena book script plans
  can_run plans of_map_file of_book of_script planned same = record {
    sound = of_map_file.1.sound;
    agree = same;
    plans_are = planned;
    text = of_script.0;
    stats = of_script.1;
  }

-- A migration has one answer at most to its file.
use Rattle.std.proofs.Common.{◌≡◌, ◌⊎◌, ◌<◌, ◌≤◌, inl, inr, Some, length, codes, sym, subst, ◌∙◌, arith}
use Rattle.gm_lines.specs.Refusing.{TheMap, refusal}
use Rattle.gm_mapfile.proofs.OneMap.{one_map}
use Rattle.gm_mapfile.specs.MapText.{ListedMap, MapText}
use Rattle.gm_tool.specs.Answer.{most_bytes, Files, Answer, answers}
use Rattle.gm_tool.specs.Migrating.{MigrateNames, HasMigrated, IsMigrateAnswer, MapFails, LongOutput, Done, migrated_line, migrated_text}
use Rattle.gm_tool.specs.RunAnswer.{IsFailing, IsBadMap}
use Rattle.gm_tool.proofs.OneBad.{one_bad, no_bad_map}
use Rattle.gm_tool.proofs.OneFile.{same_bytes, one_failing, no_failing_good}

module _ (files : Files) (named : MigrateNames) where
  same_map : (a b : ListedMap) → HasMigrated files named a → HasMigrated files named b → a ≡ b
  same_map a b (bytes, version, held, stands) (other, version', there, stands') =
      (one_map bytes version version' a b stands (subst (λ t. MapText t version' b) (same_bytes files named.map other bytes there.0 held.0) stands')).1

  -- ---- one answer where the file is good

  abbrev IsMade : ListedMap → Answer → Type 0
  IsMade map answer =
      ((most_bytes < length (migrated_text map)) × (answer ≡ answers 8 (refusal (codes "size output"))))
      ⊎ ((length (migrated_text map) ≤ most_bytes) × (answer ≡ record { status = 0; text = migrated_line map; saved = Some (record { name = named.out; bytes = migrated_text map }) }))

  one_made : (map : ListedMap) (one other : Answer) → IsMade map one → IsMade map other → one ≡ other
  one_made map one other (inl (long, e)) (inl (long', f)) = e ∙ sym f
  one_made map one other (inl (long, e)) (inr (fits, f)) = absurd (omega (arith, long, fits))
  one_made map one other (inr (fits, e)) (inl (long, f)) = absurd (omega (arith, long, fits))
  one_made map one other (inr (fits, e)) (inr (fits', f)) = e ∙ sym f

  -- ---- the file fails, or something is made of it

  abbrev Comes : Answer → Type 0
  Comes answer = IsFailing files TheMap named.map IsBadMap answer ⊎ ((map : ListedMap) × HasMigrated files named map × IsMade map answer)

  comes : (answer : Answer) → IsMigrateAnswer files named answer → Comes answer
  comes answer (MapFails fails) = inl fails
  comes answer (LongOutput map has long e) = inr (map, has, inl (long, e))
  comes answer (Done map has fits e) = inr (map, has, inr (fits, e))

  fails_not : (map : ListedMap) (answer : Answer) → IsFailing files TheMap named.map IsBadMap answer → HasMigrated files named map → ⊥
  fails_not map answer fails (bytes, version, held, stands) =
      no_failing_good files named.map TheMap IsBadMap (λ t. MapText t version map) (λ t why bad good. no_bad_map t why version map bad good) answer fails bytes held stands

  one_coming : (one other : Answer) → Comes one → Comes other → one ≡ other
  one_coming one other (inl f) (inl g) = one_failing files named.map TheMap IsBadMap (λ bytes why more bad worse. one_bad bytes TheMap why more bad worse) one other f g
  one_coming one other (inl f) (inr (map, has, made)) = absurd (fails_not map one f has)
  one_coming one other (inr (map, has, made)) (inl g) = absurd (fails_not map other g has)
  one_coming one other (inr (map, has, made)) (inr (map', has', made')) = one_made map one other made (subst (λ m. IsMade m other) (sym (same_map map map' has has')) made')

  pub one_migrate_answer : (one other : Answer) → IsMigrateAnswer files named one → IsMigrateAnswer files named other → one ≡ other
  one_migrate_answer one other a b = one_coming one other (comes one a) (comes other b)

-- What a migration puts and saves, and why it stops.
use Rattle.std.proofs.Common.{◌≡◌, ◌⊎◌, ℕ, List, inl, inr, Some, None, Result, Ok, Err, ◌++◌, refl, sym, ap, subst, ◌∙◌, append_assoc}
use Rattle.std.specs.Prelude.{IfOk, IfSome}
use Rattle.gm_host.specs.Store.{Contents, Lacks}
use Rattle.gm_lines.specs.Refusing.{Role, TheMap}
use Rattle.gm_mapfile.specs.MapText.{ListedMap}
use Rattle.gm_mapfile.specs.inner.Rows.{listed_of}
use Rattle.gm_mapfile.specs.declared.reading.MapRead.{MapRead}
use Rattle.gm_tool.specs.Answer.{Files, answers}
use Rattle.gm_tool.specs.Endings.{Whole, LoadFailed}
use Rattle.gm_tool.specs.MadeRuns.{IsSaving, IsSoundReply}
use Rattle.gm_tool.specs.Migrating.{MigrateNames, HasMigrated, IsMigrateAnswer, MapFails, LongOutput, Done, IsMigrated, IsMigrateLoadFailure, IsMigrateText, migrated_line, migrated_text}
use Rattle.gm_tool.specs.inner.Replies.{IsPlainStatus}
use Rattle.gm_tool.specs.inner.Refusals.{refusal_answer}
use Rattle.gm_tool.specs.RunAnswer.{IsBadMap}
use Rattle.gm_tool.specs.inner.Stops.{IsReadMap, IsRoleStop, IsSoundStop, IsFrom, reply_of}
use Rattle.gm_tool.specs.declared.refusal.NoText.{NoText}
use Rattle.gm_tool.specs.declared.refusal.NoText.TheVariants as nothing
use Rattle.gm_tool.specs.declared.refusal.Stop.{Stop}
use Rattle.gm_tool.specs.declared.refusal.Stop.TheVariants as stops
use Rattle.gm_tool.specs.declared.reply.Reply.{Reply}
use Rattle.gm_tool.specs.declared.running.Made.{Made}
use Rattle.gm_tool.proofs.Saving.{saved_text}
use Rattle.gm_tool.proofs.Stopping.{sound_to}

module _ (named : MigrateNames) (load_fails : ℕ → Type 0) (fails save_fails : Type 0) (contents : Contents) where
  abbrev Reads : Contents → Result MapRead Stop → Type 0
  Reads c result = IsFrom c TheMap named.map IsReadMap IsBadMap fails result

  abbrev Texts : Contents → Contents → Result Reply NoText → Type 0
  Texts c after reply = IfSome c (λ files. IsMigrateText files named load_fails save_fails after reply)

  -- the file is why nothing is made, or its load failed, or memory was wanting
  pub stopped_migration : (after : Contents) → after ≡ contents → (stop : Stop) → (fails → load_fails 1) → Reads contents (Err stop) → Texts contents after (reply_of stop)
  stopped_migration after same stop up h = go contents same h
    where
      each : (files : Files) → after ≡ Some files → (why : Stop) → IsRoleStop files TheMap named.map IsBadMap fails why → IsMigrateText files named load_fails save_fails after (reply_of why)
      each files e (stops.Bad text) f = Whole (answers 4 text.items) (MapFails f) refl refl e
      each files e (stops.NoText nothing.OutOfMemory) f = e
      each files e (stops.NoText (nothing.Refused why)) (inl f) = Whole (refusal_answer why) (MapFails f) refl refl e
      each files e (stops.NoText (nothing.Refused why)) (inr f) = LoadFailed (up f.0, f.1) e

      go : (c : Contents) → after ≡ c → Reads c (Err stop) → Texts c after (reply_of stop)
      go None e f = tt
      go (Some files) e f = each files e stop f.0

  -- ---- the map was read

  module _ (read : MapRead) where
    abbrev listed : ListedMap
    listed = listed_of read.arena

    -- its text is too long, or memory was wanting
    pub unmade_migration : (after : Contents) → after ≡ contents → (none : NoText) → Reads contents (Ok read) → IsMigrated listed (Err none) → Texts contents after (Err none)
    unmade_migration after same none h is = go contents same h
      where
        stop : (files : Files) → after ≡ Some files → HasMigrated files named listed → (why : NoText) → IsMigrated listed (Err why) → IsMigrateText files named load_fails save_fails after (Err why)
        stop files e has nothing.OutOfMemory f = e
        stop files e has (nothing.Refused why) (size, long) = Whole (refusal_answer why) (LongOutput listed has long (ap refusal_answer size)) refl refl e

        go : (c : Contents) → after ≡ c → Reads c (Ok read) → Texts c after (Err none)
        go None e f = tt
        go (Some files) e (bytes, held, f) = stop files e (bytes, read.version, held, f.stands) none is

    -- it is saved, or not
    pub saved_migration : (after : Contents) (made : Made) (reply : Result Reply NoText) → Reads contents (Ok read) → IsMigrated listed (Ok made) → IsSaving contents named.out made save_fails after reply → Texts contents after reply
    saved_migration after made reply h is saving = go contents h saving
      where
        go : (c : Contents) → Reads c (Ok read) → IsSaving c named.out made save_fails after reply → Texts c after reply
        go None f s = tt
        go (Some files) (bytes, held, f) s =
            saved_text (IsMigrateAnswer files named) (IsMigrateLoadFailure load_fails) save_fails files after made 0 (migrated_line listed) (record { name = named.out; bytes = migrated_text listed })
            (Done listed (bytes, read.version, held, f.stands) is.3 refl) is.0 is.1 is.2 reply s

-- the one load fails, or its file isn't there
pub unread_is_sound : (contents : Contents) (name : List ℕ) (fails later : Type 0) → (fails → later) → (stop : Stop) → IsSoundStop stop (λ other. (other ≡ TheMap) × (fails ⊎ Lacks contents name)) → IsSoundStop stop (λ _. later ⊎ Lacks contents name)
unread_is_sound contents name fails later up stop h =
    sound_to (λ other. (other ≡ TheMap) × (fails ⊎ Lacks contents name)) (λ _. later ⊎ Lacks contents name) (λ role why. elim why.1 [ inl failed ↦ inl (up failed) | inr lacks ↦ inr lacks ]) stop h

-- want of memory and a text that is too long are no faults of the store
pub unmade_is_sound : (map : ListedMap) (none : NoText) (P : Role → Type 0) (Q : Type 0) → IsMigrated map (Err none) → IsSoundReply (Err none) P Q
unmade_is_sound map nothing.OutOfMemory P Q is = tt
unmade_is_sound map (nothing.Refused why) P Q is = subst (λ w. IsSoundReply (Err (nothing.Refused w)) P Q) (sym is.0) tt

pub migrated_status : (contents after : Contents) (out : List ℕ) (fails : Type 0) (map : ListedMap) (made : Made) (reply : Result Reply NoText) → IsMigrated map (Ok made) → IsSaving contents out made fails after reply → IfOk reply (λ r. IsPlainStatus r.status)
migrated_status contents after out fails map made (Ok reply) is saving = inl (saving.0 ∙ is.0)
migrated_status contents after out fails map made (Err none) is saving = tt

-- what is put one after the other is the line
pub joined : (a b c d e : List ℕ) → (a ++ b) ++ (c ++ d) ++ e ≡ a ++ b ++ c ++ d ++ e
joined a b c d e = ap (λ x. x ++ e) (sym (append_assoc (a ++ b) c d))

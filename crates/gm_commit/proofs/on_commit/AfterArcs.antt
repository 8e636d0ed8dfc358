-- What a list of written arcs leaves: the last one that is written at a dart and a label, and the old one where there is none.
use Rattle.std.proofs.Common.{◌≡◌, ◌≢◌, ℕ, ◌≤◌, ◌⊎◌, List, [], ◌∷◌, is_some, refl, sym, ◌∙◌, subst, inl, inr}
use Rattle.std.specs.FinMap.{get}
use Rattle.std.specs.List.{Contains}
use Rattle.std.proofs.lemmas.Bool.{cases_eq}
use Rattle.gm_arena.specs.inner.ArenaMap.{ArenaMap, IsLiveName, alpha}
use Rattle.gm_arena.specs.inner.Edits.{with_alpha}
use Rattle.gm_arena.proofs.MapLemmas.{alpha-with_alpha_other, alpha-with_alpha_label, get-with_alpha_other}
use Rattle.gm_commit.specs.inner.Arcs.{Arc}
use Rattle.gm_commit.specs.inner.Arcs.{End}
use Rattle.gm_commit.specs.inner.WrittenMap.{AreWhole, values_at, with_arcs}
use Rattle.gm_commit.proofs.ListMembers.{contains_first, contains_later, contains_either, contains_none}
use Rattle.gm_commit.proofs.on_commit.WholeDarts.{live_turned, values_turned, whole_turned, alpha_turned}

module _ (name : End → ℕ) where
  -- nothing but the darts is written
  pub arcs_frame : (arcs : List Arc) (m : ArenaMap) → with_arcs name m arcs ≡ record m { darts = (with_arcs name m arcs).darts }
  arcs_frame [] m = refl
  arcs_frame (arc ∷ arcs) m = arcs_frame arcs (with_alpha m (name arc.from) arc.label (name arc.to))

  pub arcs_live : (arcs : List Arc) (m : ArenaMap) (d : ℕ) → is_some (get (with_arcs name m arcs).darts d) ≡ is_some (get m.darts d)
  arcs_live [] m d = refl
  arcs_live (arc ∷ arcs) m d = arcs_live arcs (with_alpha m (name arc.from) arc.label (name arc.to)) d ∙ live_turned m (name arc.from) arc.label (name arc.to) d

  pub arcs_whole : (arcs : List Arc) (m : ArenaMap) → AreWhole m → AreWhole (with_arcs name m arcs)
  arcs_whole [] m whole = whole
  arcs_whole (arc ∷ arcs) m whole = arcs_whole arcs (with_alpha m (name arc.from) arc.label (name arc.to)) (whole_turned m (name arc.from) arc.label (name arc.to) whole)

  pub arcs_values : (arcs : List Arc) (m : ArenaMap) (d : ℕ) → values_at (with_arcs name m arcs) d ≡ values_at m d
  arcs_values [] m d = refl
  arcs_values (arc ∷ arcs) m d = arcs_values arcs (with_alpha m (name arc.from) arc.label (name arc.to)) d ∙ values_turned m (name arc.from) arc.label (name arc.to) d

  -- a dart from which no arc of the list leads stays as it is
  pub arcs_elsewhere : (arcs : List Arc) (m : ArenaMap) (d : ℕ) → ((arc : Arc) → Contains arcs arc → name arc.from ≢ d) → get (with_arcs name m arcs).darts d ≡ get m.darts d
  arcs_elsewhere [] m d apart = refl
  arcs_elsewhere (arc ∷ arcs) m d apart =
      arcs_elsewhere arcs (with_alpha m (name arc.from) arc.label (name arc.to)) d (λ later among. apart later (contains_later arc arcs later among))
      ∙ get-with_alpha_other m (name arc.from) arc.label (name arc.to) d (λ e. apart arc (contains_first arc arcs) (sym e))

  -- an arc of the list begins at d with label i, and leads to e
  pub record IsWrittenAt (arcs : List Arc) (d i e : ℕ) : Type 0 where
    pub arc : Arc
    pub among : Contains arcs arc
    pub from : name arc.from ≡ d
    pub label : arc.label ≡ i
    pub leads : e ≡ name arc.to

  abbrev pub IsUnwritten : List Arc → ℕ → ℕ → Type 0
  IsUnwritten arcs d i = (arc : Arc) → Contains arcs arc → name arc.from ≡ d → arc.label ≡ i → ⊥

  abbrev pub AreWritable : ArenaMap → List Arc → Type 0
  AreWritable m arcs = (arc : Arc) → Contains arcs arc → IsLiveName m (name arc.from) × (arc.label ≤ m.schema.dim)

  abbrev pub IsWrittenOrKept : ArenaMap → List Arc → ℕ → ℕ → ℕ → Type 0
  IsWrittenOrKept m arcs d i e = IsWrittenAt arcs d i e ⊎ (IsUnwritten arcs d i × (e ≡ alpha m i d))

  pub arcs_written : (arcs : List Arc) (m : ArenaMap) → AreWhole m → AreWritable m arcs → (d i : ℕ) → IsWrittenOrKept m arcs d i (alpha (with_arcs name m arcs) i d)
  arcs_written [] m whole fit d i = inr (λ arc among. absurd (contains_none arc among), refl)
  arcs_written (first ∷ arcs) m whole fit d i = go (arcs_written arcs next (whole_turned m from first.label (name first.to) whole) fits d i)
    where
      from : ℕ
      from = name first.from

      next : ArenaMap
      next = with_alpha m (name first.from) first.label (name first.to)

      fits : AreWritable (with_alpha m (name first.from) first.label (name first.to)) arcs
      fits arc among =
          let was = fit arc (contains_later first arcs arc among) in
          (live_turned m (name first.from) first.label (name first.to) (name arc.from) ∙ was.0, was.1)

      new : ℕ
      new = alpha (with_arcs name (with_alpha m (name first.from) first.label (name first.to)) arcs) i d

      none : IsUnwritten arcs d i → (name first.from ≡ d → first.label ≡ i → ⊥) → IsUnwritten (first ∷ arcs) d i
      none rest not_first arc among at label = elim (contains_either first arcs arc among) [
        | inl e ↦ not_first (subst (λ (a : Arc). name a.from ≡ d) (sym e) at) (subst (λ (a : Arc). a.label ≡ i) (sym e) label)
        | inr later ↦ rest arc later at label
      ]

      go : IsWrittenOrKept (with_alpha m (name first.from) first.label (name first.to)) arcs d i (alpha (with_arcs name (with_alpha m (name first.from) first.label (name first.to)) arcs) i d) →
          IsWrittenOrKept m (first ∷ arcs) d i (alpha (with_arcs name (with_alpha m (name first.from) first.label (name first.to)) arcs) i d)
      go (inl w) = inl record { arc = w.arc; among = contains_later first arcs w.arc w.among; from = w.from; label = w.label; leads = w.leads }
      go (inr (rest, same)) = elim (cases_eq d (name first.from)) [
        | inr apart ↦ inr (none rest (λ e l. apart (sym e)), same ∙ alpha-with_alpha_other m (name first.from) first.label (name first.to) i d apart)
        | inl at ↦ elim (cases_eq i first.label) [
          | inr apart ↦ inr (none rest (λ e l. apart (sym l)), same ∙ rw at (alpha-with_alpha_label m (name first.from) first.label (name first.to) i apart))
          | inl label ↦ inl record {
            arc = first;
            among = contains_first first arcs;
            from = sym at;
            label = sym label;
            leads = same ∙ rw (at, label) (let fit_first = fit first (contains_first first arcs) in alpha_turned m (name first.from) first.label (name first.to) whole fit_first.0 fit_first.1);
          }
        ]
      ]

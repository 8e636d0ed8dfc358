-- What the arena holds once all darts are added, its next name is set, and all are linked.
use Rattle.std.proofs.Common.{◌≡◌, ℕ, ◌<◌, ◌≤◌, List, get_or, Option, Some, None, is_some, refl, sym, ap, subst, ◌∙◌}
use Rattle.std.specs.Option.{option_map_or}
use Rattle.std.specs.Ordering.{nat_cmp}
use Rattle.std.specs.FinMap.{get, get-empty}
use Rattle.gm_model.specs.declared.schema.Schema.{Schema}
use Rattle.gm_model.specs.GMap.{Row, row_of, IsLive}
use Rattle.gm_model.specs.GMap as written
use Rattle.gm_model.specs.Breaches.{IsFirstWithoutTarget}
use Rattle.gm_arena.specs.inner.ArenaMap.{ArenaMap, Dart, alpha}
use Rattle.gm_arena.specs.inner.Edits.{empty_map}
use Rattle.gm_mapfile.specs.MapText.{Version, First, Second, DartRow, IsNext, IsLeastAbove, names, rows_of}
use Rattle.gm_mapfile.specs.MapFaults.{AreNamedOnce}
use Rattle.gm_mapfile.specs.inner.Building.{IsFresh, IsNextLeast, IsNextSet, AreAdded, AreValued, AreLive, IsRelinked, AreLinked, IsFirstLack, IsHeld}
use Rattle.gm_mapfile.proofs.Darts.{length_rows_of}
use Rattle.gm_mapfile.proofs.Named.{none_of}
use Rattle.gm_mapfile.proofs.NamesOf.{live_named, named_live}

pub fresh_map : (schema : Schema) (spare reserved : ℕ) (m : ArenaMap) → m ≡ record (empty_map schema) { spare = spare; reserved = reserved } → IsFresh m
fresh_map schema spare reserved m is = subst IsFresh (sym is) (record { none = get-empty nat_cmp; no_slots = get-empty nat_cmp; count = refl; next = refl })

-- room leaves an arena as it was
pub still_fresh : (old m : ArenaMap) (spare reserved : ℕ) → m ≡ record old { spare = spare; reserved = reserved } → IsFresh old → IsFresh m
still_fresh old m spare reserved is fresh = subst IsFresh (sym is) (record { none = fresh.none; no_slots = fresh.no_slots; count = fresh.count; next = fresh.next })

pub first_without : (n : ℕ) (old : ArenaMap) (rows : List Row) (d i : ℕ) → AreLive rows old → IsFirstLack n old rows d i → IsFirstWithoutTarget n (IsLive rows) (written.alpha rows) d i
first_without n old rows d i live lack = record {
  live = lack.live;
  label = lack.label;
  fails = λ there. lack.fails (live _ ∙ there);
  before = λ e j earlier there within. sym (live _) ∙ lack.before e j earlier there within;
}

-- ---- the next name

-- setting it leaves the darts
pub set_frame : (version : Version) (old new : ArenaMap) → IsNextSet version old new → new ≡ record old { next = new.next }
set_frame First old new set = let same : new.next ≡ old.next = ap (λ (x : ArenaMap). x.next) set in set ∙ ap (λ n. record old { next = n }) (sym same)
set_frame (Second next) old new set = let same : new.next ≡ next = ap (λ (x : ArenaMap). x.next) set in set ∙ ap (λ n. record old { next = n }) (sym same)

pub set_added : (n : ℕ) (rows : List Row) (old new : ArenaMap) (found : Option ℕ) → new ≡ record old { next = new.next } → AreAdded n rows old found → AreAdded n rows new found
set_added n rows old new found frame added = subst (λ x. AreAdded n rows x found) (sym frame) (record { live = added.live; slots = added.slots; whole = added.whole; twice = added.twice })

next_set : (version : Version) (darts : List DartRow) (old new : ArenaMap) → AreLive (rows_of darts) old → IsNextLeast old → IsNextSet version old new → IsNext version (names darts) new.next
next_set First darts old new live next set =
    subst (IsLeastAbove (names darts)) (sym (ap (λ (x : ArenaMap). x.next) set)) (record {
      above = named_live (λ name. name < old.next) darts (λ name there. next.above name (live name ∙ there));
      least = λ bound all. next.least bound (λ name there. live_named (λ x. x < bound) darts all name (sym (live name) ∙ there));
    })
next_set (Second next) darts old new live least set = ap (λ (x : ArenaMap). x.next) set

-- ---- all of it

module _ (schema : Schema) (darts : List DartRow) (old new : ArenaMap) (added : AreAdded schema.dim (rows_of darts) old None) (relinked : IsRelinked schema.dim old new) (linked : AreLinked schema.dim old new (rows_of darts)) where
  same_live : AreLive (rows_of darts) new
  same_live d = relinked.live d ∙ added.live d

  same_alpha : (d i : ℕ) → i ≤ schema.dim → alpha new i d ≡ written.alpha (rows_of darts) i d
  same_alpha d i within = go (row_of (rows_of darts) d) refl
    where
      go : (o : Option Row) → row_of (rows_of darts) d ≡ o → alpha new i d ≡ written.alpha (rows_of darts) i d
      go None is =
          let none : get new.darts d ≡ None = none_of _ (same_live d ∙ ap is_some is) in
          ap (λ o. option_map_or (λ (dart : Dart). get_or dart.alphas i d) o d) none ∙ sym (ap (λ o. option_map_or (λ (r : Row). get_or r.alphas i d) o d) is)
      go (Some r) is = (linked d i (ap is_some is) within).0

  held : (version : Version) → old.schema ≡ schema → AreValued darts old → IsNext version (names darts) old.next → IsHeld version schema darts new
  held version same valued next = record {
    schema_is = ap (λ (x : ArenaMap). x.schema) relinked.frame ∙ same;
    count = ap (λ (x : ArenaMap). x.count) relinked.frame ∙ (added.twice.1 ∙ length_rows_of darts);
    next = subst (IsNext version (names darts)) (sym (ap (λ (x : ArenaMap). x.next) relinked.frame)) next;
    whole = relinked.whole;
    live = same_live;
    alphas = same_alpha;
    values = λ d. relinked.values d ∙ valued d;
    distinct = added.twice.0;
    targets = λ d i live within. sym (added.live _) ∙ (linked d i live within).1;
  }

-- ---- the same of an arena whose darts were added, then its next name set

module _ (version : Version) (schema : Schema) (darts : List DartRow) (start old set : ArenaMap) (start_is : start.schema ≡ schema) (old_is : old.schema ≡ start.schema)
    (added : AreAdded start.schema.dim (rows_of darts) old None) (next : IsNextSet version old set) where
  pub set_schema : set.schema ≡ schema
  set_schema = ap (λ (x : ArenaMap). x.schema) (set_frame version old set next) ∙ (old_is ∙ start_is)

  pub set_dim : set.schema.dim ≡ schema.dim
  set_dim = ap (λ (s : Schema). s.dim) set_schema

  added_old : AreAdded schema.dim (rows_of darts) old None
  added_old = subst (λ (s : Schema). AreAdded s.dim (rows_of darts) old None) start_is added

  added_set : AreAdded schema.dim (rows_of darts) set None
  added_set = set_added schema.dim (rows_of darts) old set None (set_frame version old set next) added_old

  pub link_ready : AreAdded set.schema.dim (rows_of darts) set None
  link_ready = subst (λ n. AreAdded n (rows_of darts) set None) (sym set_dim) added_set

  pub held_after : (new : ArenaMap) → AreValued darts old → IsNextLeast old → IsRelinked set.schema.dim set new → AreLinked set.schema.dim set new (rows_of darts) → IsHeld version schema darts new
  held_after new valued least relinked linked =
      let kept : AreValued darts set = subst (AreValued darts) (sym (set_frame version old set next)) valued in
      held schema darts set new added_set (subst (λ n. IsRelinked n set new) set_dim relinked) (subst (λ n. AreLinked n set new (rows_of darts)) set_dim linked) version set_schema kept
      (next_set version darts old set added_old.live least next)

  pub lack_after : (d i : ℕ) → IsFirstLack set.schema.dim set (rows_of darts) d i → AreNamedOnce (rows_of darts) × IsFirstWithoutTarget schema.dim (IsLive (rows_of darts)) (written.alpha (rows_of darts)) d i
  lack_after d i lack = (added_set.twice.0, first_without schema.dim set (rows_of darts) d i added_set.live (subst (λ n. IsFirstLack n set (rows_of darts) d i) set_dim lack))

use Rattle.std.proofs.Common.{[], ◌∷◌, refl, ap, ◌∙◌}
use Rattle.std.proofs.lemmas.Result.{err_from_is_err_and}
use Rattle.gm_host.specs.Count.{counted, Rises}
use Rattle.gm_lines.specs.Refusing.{TheMap, TheBook}
use Rattle.gm_tool.specs.Loads.{FailsAt}
use Rattle.gm_tool.specs.MadeRuns.{names_of}
use Rattle.gm_tool.specs.inner.Stops.{IsReadBook}
use Rattle.gm_tool.proofs.LoadCounts.{behind_map, behind_book}
use Rattle.gm_tool.proofs.OwnFiles.{first_of, second_of, third_of}
use Rattle.gm_tool.proofs.RunStops.{rises_later, passes_map, passes_book, unloaded, at_map, at_book, has_begun}
use Rattle.gm_tool.proofs.StepBounds.{stopped_within}
use Rattle.gm_tool.proofs.Stopping.{sound_to, unread_book}
use Rattle.gm_tool.proofs.running.prepared.Goals as goal

-- ---- the map fails

pub returns-in_err-loaded-clause-made : goal.returns-in_err-loaded-clause-made
returns-in_err-loaded-clause-made g c =
    let p = err_from_is_err_and c.from_residual.result c.from_residual.ensures.1 in
    rw (p.1, p.2) (at_map (names_of c.args.files) (FailsAt (g.S.Store.load_faults c.args.store.now) (g.S.Store.load_faults c.load_map.new.store) (g.S.Store.loads c.args.store.now) (g.S.Store.loads c.load_map.new.store)) (g.S.Store.holds c.args.store.now) _ c.in_err-loaded.field-0.0 (λ rises. (rises, c.load_map.ensures.once)) c.in_err-loaded.ensures.from)

pub returns-in_err-loaded-clause-counted_loads : goal.returns-in_err-loaded-clause-counted_loads
returns-in_err-loaded-clause-counted_loads g c =
    let p = err_from_is_err_and c.from_residual.result c.from_residual.ensures.1 in
    rw (p.1, p.2) (behind_map (names_of c.args.files) (Rises (g.S.Store.load_faults c.args.store.now) (g.S.Store.load_faults c.load_map.new.store)) (g.S.Store.loads c.args.store.now) (g.S.Store.loads c.load_map.new.store) (g.S.Store.holds c.args.store.now) _ c.in_err-loaded.field-0.0 (λ rises. rises) c.load_map.ensures.once c.in_err-loaded.ensures.from)

pub returns-in_err-loaded-clause-most : goal.returns-in_err-loaded-clause-most
returns-in_err-loaded-clause-most g c = stopped_within (names_of c.args.files) (g.S.Store.holds c.args.store.now) _ _ _ refl c.in_err-loaded.ensures.most

pub returns-in_err-loaded-clause-sound : goal.returns-in_err-loaded-clause-sound
returns-in_err-loaded-clause-sound g c =
    let p = err_from_is_err_and c.from_residual.result c.from_residual.ensures.1 in
    rw (p.1, p.2)
    (sound_to _ _ (unloaded (g.S.Store.holds c.args.store.now) (names_of c.args.files) (FailsAt (g.S.Store.load_faults c.args.store.now) (g.S.Store.load_faults c.load_map.new.store) (g.S.Store.loads c.args.store.now) (g.S.Store.loads c.load_map.new.store)) TheMap _ (passes_map (g.S.Store.holds c.args.store.now) (names_of c.args.files)) (λ rises. (rises, c.load_map.ensures.once)))
    c.in_err-loaded.field-0.0 c.in_err-loaded.ensures.from.1)

pub returns-in_err-loaded-clause-in_order : goal.returns-in_err-loaded-clause-in_order
returns-in_err-loaded-clause-in_order g c = (TheMap, passes_map (g.S.Store.holds c.args.store.now) (names_of c.args.files), c.load_map.ensures.once)

pub returns-in_err-loaded-clause-own_files : goal.returns-in_err-loaded-clause-own_files
returns-in_err-loaded-clause-own_files g c = first_of c.args.files.map.now (c.args.files.book.now ∷ c.args.files.script.now ∷ []) _ _ c.load_map.ensures.named

-- ---- the book fails

pub returns-in_err-book-clause-made : goal.returns-in_err-book-clause-made
returns-in_err-book-clause-made g c =
    let p = err_from_is_err_and c.from_residual-in_err-book.result c.from_residual-in_err-book.ensures.1 in
    rw (p.1, p.2)
    (at_book (names_of c.args.files) (FailsAt (g.S.Store.load_faults c.args.store.now) (g.S.Store.load_faults c.load_book.new.store) (g.S.Store.loads c.args.store.now) (g.S.Store.loads c.load_book.new.store)) (g.S.Store.holds c.args.store.now) c.in_ok-loaded.loaded.map (Unit {0}) _ c.in_err-book.field-0.0 (λ rises. (rises_later _ _ _ c.load_map.ensures.faults_never_fall rises, c.load_book.ensures.once ∙ ap counted c.load_map.ensures.once))
    c.in_ok-loaded.ensures.from (unread_book (g.S.Store.holds c.args.store.now) c.args.files.book.now IsReadBook _ c.in_err-book.field-0.0 (rw c.load_map.ensures.held at c.in_err-book.ensures.from)))

pub returns-in_err-book-clause-counted_loads : goal.returns-in_err-book-clause-counted_loads
returns-in_err-book-clause-counted_loads g c =
    let p = err_from_is_err_and c.from_residual-in_err-book.result c.from_residual-in_err-book.ensures.1 in
    rw (p.1, p.2)
    (behind_book (names_of c.args.files) (Rises (g.S.Store.load_faults c.args.store.now) (g.S.Store.load_faults c.load_book.new.store)) (g.S.Store.loads c.args.store.now) (g.S.Store.loads c.load_book.new.store) (g.S.Store.holds c.args.store.now) c.in_ok-loaded.loaded.map (Unit {0}) _ c.in_err-book.field-0.0 (rises_later _ _ _ c.load_map.ensures.faults_never_fall)
    (c.load_book.ensures.once ∙ ap counted c.load_map.ensures.once) c.in_ok-loaded.ensures.from (unread_book (g.S.Store.holds c.args.store.now) c.args.files.book.now IsReadBook _ c.in_err-book.field-0.0 (rw c.load_map.ensures.held at c.in_err-book.ensures.from)))

pub returns-in_err-book-clause-most : goal.returns-in_err-book-clause-most
returns-in_err-book-clause-most g c = stopped_within (names_of c.args.files) (g.S.Store.holds c.args.store.now) _ _ _ refl c.in_ok-loaded.ensures.most

pub returns-in_err-book-clause-sound : goal.returns-in_err-book-clause-sound
returns-in_err-book-clause-sound g c =
    let p = err_from_is_err_and c.from_residual-in_err-book.result c.from_residual-in_err-book.ensures.1 in
    rw (p.1, p.2)
    (sound_to _ _ (unloaded (g.S.Store.holds c.args.store.now) (names_of c.args.files) (FailsAt (g.S.Store.load_faults c.args.store.now) (g.S.Store.load_faults c.load_book.new.store) (g.S.Store.loads c.args.store.now) (g.S.Store.loads c.load_book.new.store)) TheBook _ (passes_book (g.S.Store.holds c.args.store.now) (names_of c.args.files) c.in_ok-loaded.loaded.map (Unit {0}) c.in_ok-loaded.ensures.from) (λ rises. (rises_later _ _ _ c.load_map.ensures.faults_never_fall rises, c.load_book.ensures.once ∙ ap counted c.load_map.ensures.once)))
    c.in_err-book.field-0.0 (rw c.load_map.ensures.held at c.in_err-book.ensures.from.1))

pub returns-in_err-book-clause-in_order : goal.returns-in_err-book-clause-in_order
returns-in_err-book-clause-in_order g c = (TheBook, passes_book (g.S.Store.holds c.args.store.now) (names_of c.args.files) c.in_ok-loaded.loaded.map (Unit {0}) c.in_ok-loaded.ensures.from, c.load_book.ensures.once ∙ ap counted c.load_map.ensures.once)

pub returns-in_err-book-clause-own_files : goal.returns-in_err-book-clause-own_files
returns-in_err-book-clause-own_files g c = second_of c.args.files.map.now c.args.files.book.now (c.args.files.script.now ∷ []) _ _ _ c.load_map.ensures.named c.load_book.ensures.named

-- ---- both are read

pub returns-clause-own_files : goal.returns-clause-own_files
returns-clause-own_files g c = third_of c.args.files.map.now c.args.files.book.now c.args.files.script.now _ _ _ _ c.load_map.ensures.named c.load_book.ensures.named c.prepared_behind.ensures.script

pub returns-clause-made : goal.returns-clause-made
returns-clause-made g c =
    let held = rw (c.load_book.ensures.held, c.load_map.ensures.held) at c.prepared_behind.ensures.made in
    held (record { faults = g.S.Store.load_faults c.args.store.now; loads = g.S.Store.loads c.args.store.now; steps = c.args.steps.now }) (has_begun (g.S.Store.holds c.args.store.now) (names_of c.args.files) c.in_ok-loaded.loaded.map c.in_ok-book.book c.in_ok-loaded.ensures.from (rw c.load_map.ensures.held at c.in_ok-book.ensures.from) (record { faults = g.S.Store.load_faults c.args.store.now; loads = g.S.Store.loads c.args.store.now; steps = c.args.steps.now }) _ _ _ _ _
    c.load_map.ensures.faults_never_fall c.load_book.ensures.faults_never_fall c.load_map.ensures.once c.load_book.ensures.once c.in_ok-loaded.ensures.most c.in_ok-loaded.ensures.least)

pub returns-clause-counted_loads : goal.returns-clause-counted_loads
returns-clause-counted_loads g c =
    let held = rw (c.load_book.ensures.held, c.load_map.ensures.held) at c.prepared_behind.ensures.counted_loads in
    held (record { faults = g.S.Store.load_faults c.args.store.now; loads = g.S.Store.loads c.args.store.now; steps = c.args.steps.now }) (has_begun (g.S.Store.holds c.args.store.now) (names_of c.args.files) c.in_ok-loaded.loaded.map c.in_ok-book.book c.in_ok-loaded.ensures.from (rw c.load_map.ensures.held at c.in_ok-book.ensures.from) (record { faults = g.S.Store.load_faults c.args.store.now; loads = g.S.Store.loads c.args.store.now; steps = c.args.steps.now }) _ _ _ _ _
    c.load_map.ensures.faults_never_fall c.load_book.ensures.faults_never_fall c.load_map.ensures.once c.load_book.ensures.once c.in_ok-loaded.ensures.most c.in_ok-loaded.ensures.least)

pub returns-clause-most : goal.returns-clause-most
returns-clause-most g c =
    let held = rw (c.load_book.ensures.held, c.load_map.ensures.held) at c.prepared_behind.ensures.most in
    held (record { faults = g.S.Store.load_faults c.args.store.now; loads = g.S.Store.loads c.args.store.now; steps = c.args.steps.now }) (has_begun (g.S.Store.holds c.args.store.now) (names_of c.args.files) c.in_ok-loaded.loaded.map c.in_ok-book.book c.in_ok-loaded.ensures.from (rw c.load_map.ensures.held at c.in_ok-book.ensures.from) (record { faults = g.S.Store.load_faults c.args.store.now; loads = g.S.Store.loads c.args.store.now; steps = c.args.steps.now }) _ _ _ _ _
    c.load_map.ensures.faults_never_fall c.load_book.ensures.faults_never_fall c.load_map.ensures.once c.load_book.ensures.once c.in_ok-loaded.ensures.most c.in_ok-loaded.ensures.least)

pub returns-clause-least : goal.returns-clause-least
returns-clause-least g c =
    let held = rw (c.load_book.ensures.held, c.load_map.ensures.held) at c.prepared_behind.ensures.least in
    held (record { faults = g.S.Store.load_faults c.args.store.now; loads = g.S.Store.loads c.args.store.now; steps = c.args.steps.now }) (has_begun (g.S.Store.holds c.args.store.now) (names_of c.args.files) c.in_ok-loaded.loaded.map c.in_ok-book.book c.in_ok-loaded.ensures.from (rw c.load_map.ensures.held at c.in_ok-book.ensures.from) (record { faults = g.S.Store.load_faults c.args.store.now; loads = g.S.Store.loads c.args.store.now; steps = c.args.steps.now }) _ _ _ _ _
    c.load_map.ensures.faults_never_fall c.load_book.ensures.faults_never_fall c.load_map.ensures.once c.load_book.ensures.once c.in_ok-loaded.ensures.most c.in_ok-loaded.ensures.least)

pub returns-clause-in_order : goal.returns-clause-in_order
returns-clause-in_order g c =
    let held = rw (c.load_book.ensures.held, c.load_map.ensures.held) at c.prepared_behind.ensures.in_order in
    held (record { faults = g.S.Store.load_faults c.args.store.now; loads = g.S.Store.loads c.args.store.now; steps = c.args.steps.now }) (has_begun (g.S.Store.holds c.args.store.now) (names_of c.args.files) c.in_ok-loaded.loaded.map c.in_ok-book.book c.in_ok-loaded.ensures.from (rw c.load_map.ensures.held at c.in_ok-book.ensures.from) (record { faults = g.S.Store.load_faults c.args.store.now; loads = g.S.Store.loads c.args.store.now; steps = c.args.steps.now }) _ _ _ _ _
    c.load_map.ensures.faults_never_fall c.load_book.ensures.faults_never_fall c.load_map.ensures.once c.load_book.ensures.once c.in_ok-loaded.ensures.most c.in_ok-loaded.ensures.least)

pub returns-clause-sound : goal.returns-clause-sound
returns-clause-sound g c =
    let held = rw (c.load_book.ensures.held, c.load_map.ensures.held) at c.prepared_behind.ensures.sound in
    held (record { faults = g.S.Store.load_faults c.args.store.now; loads = g.S.Store.loads c.args.store.now; steps = c.args.steps.now }) (has_begun (g.S.Store.holds c.args.store.now) (names_of c.args.files) c.in_ok-loaded.loaded.map c.in_ok-book.book c.in_ok-loaded.ensures.from (rw c.load_map.ensures.held at c.in_ok-book.ensures.from) (record { faults = g.S.Store.load_faults c.args.store.now; loads = g.S.Store.loads c.args.store.now; steps = c.args.steps.now }) _ _ _ _ _
    c.load_map.ensures.faults_never_fall c.load_book.ensures.faults_never_fall c.load_map.ensures.once c.load_book.ensures.once c.in_ok-loaded.ensures.most c.in_ok-loaded.ensures.least)

pub returns-in_err-loaded-clause-map : goal.returns-in_err-loaded-clause-map
returns-in_err-loaded-clause-map g c = rw (err_from_is_err_and c.from_residual.result c.from_residual.ensures.1).1 tt

pub returns-in_err-loaded-clause-status : goal.returns-in_err-loaded-clause-status
returns-in_err-loaded-clause-status g c = rw (err_from_is_err_and c.from_residual.result c.from_residual.ensures.1).1 tt

pub returns-in_err-loaded-clause-least : goal.returns-in_err-loaded-clause-least
returns-in_err-loaded-clause-least g c = rw (err_from_is_err_and c.from_residual.result c.from_residual.ensures.1).1 tt

pub returns-in_err-book-clause-map : goal.returns-in_err-book-clause-map
returns-in_err-book-clause-map g c = rw (err_from_is_err_and c.from_residual-in_err-book.result c.from_residual-in_err-book.ensures.1).1 tt

pub returns-in_err-book-clause-status : goal.returns-in_err-book-clause-status
returns-in_err-book-clause-status g c = rw (err_from_is_err_and c.from_residual-in_err-book.result c.from_residual-in_err-book.ensures.1).1 tt

pub returns-in_err-book-clause-least : goal.returns-in_err-book-clause-least
returns-in_err-book-clause-least g c = rw (err_from_is_err_and c.from_residual-in_err-book.result c.from_residual-in_err-book.ensures.1).1 tt

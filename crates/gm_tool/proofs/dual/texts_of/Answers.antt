use Rattle.std.proofs.Common.{[], ◌∷◌, ap, ◌∙◌}
use Rattle.std.proofs.lemmas.Result.{err_from_is_err_and}
use Rattle.gm_host.specs.Count.{counted, Rises}
use Rattle.gm_lines.specs.Refusing.{TheMap, TheBook}
use Rattle.gm_tool.specs.DualAnswer.{dual_names_of}
use Rattle.gm_tool.specs.Loads.{FailsAt}
use Rattle.gm_tool.proofs.Duals.{passes_map, passes_book, unloaded_dual, at_map, at_book, at_texts, behind_map, behind_book, sound_without_memory}
use Rattle.gm_tool.proofs.OwnFiles.{first_of, second_of}
use Rattle.gm_tool.proofs.RunStops.{rises_later}
use Rattle.gm_tool.proofs.StepWords.{read_dual, turned_dual}
use Rattle.gm_tool.proofs.Stopping.{sound_to}
use Rattle.gm_tool.proofs.dual.texts_of.Goals as goal

pub texts-requires-clause-map : goal.texts-requires-clause-map
texts-requires-clause-map g c = c.in_ok-read.ensures.read

pub texts-requires-clause-book : goal.texts-requires-clause-book
texts-requires-clause-book g c = c.in_ok-book.ensures.read

pub texts-requires-clause-declared : goal.texts-requires-clause-declared
texts-requires-clause-declared g c = c.in_ok-book.ensures.declared

-- ---- the map fails

pub returns-in_err-read-clause-made : goal.returns-in_err-read-clause-made
returns-in_err-read-clause-made g c =
    let p = err_from_is_err_and c.from_residual.result c.from_residual.ensures.1 in
    rw (p.1, p.2) (at_map (dual_names_of c.args.files) (FailsAt (g.S.Store.load_faults c.args.store.now) (g.S.Store.load_faults c.load_map.new.store) (g.S.Store.loads c.args.store.now) (g.S.Store.loads c.load_map.new.store)) (g.S.Store.holds c.args.store.now) _ c.in_err-read.field-0.0 (λ rises. (rises, c.load_map.ensures.once)) c.in_err-read.ensures.from)

pub returns-in_err-read-clause-counted_loads : goal.returns-in_err-read-clause-counted_loads
returns-in_err-read-clause-counted_loads g c =
    let p = err_from_is_err_and c.from_residual.result c.from_residual.ensures.1 in
    rw (p.1, p.2) (behind_map (dual_names_of c.args.files) (Rises (g.S.Store.load_faults c.args.store.now) (g.S.Store.load_faults c.load_map.new.store)) (g.S.Store.loads c.args.store.now) (g.S.Store.loads c.load_map.new.store) (g.S.Store.holds c.args.store.now) _ c.in_err-read.field-0.0 (λ rises. rises) c.load_map.ensures.once c.in_err-read.ensures.from)

pub returns-in_err-read-clause-most : goal.returns-in_err-read-clause-most
returns-in_err-read-clause-most g c = read_dual (g.S.Store.holds c.args.store.now) c.args.files.map.now _ _ c.in_err-read.ensures.most

pub returns-in_err-read-clause-sound : goal.returns-in_err-read-clause-sound
returns-in_err-read-clause-sound g c =
    let p = err_from_is_err_and c.from_residual.result c.from_residual.ensures.1 in
    rw (p.1, p.2)
    (sound_to _ _ (unloaded_dual (g.S.Store.holds c.args.store.now) (dual_names_of c.args.files) (FailsAt (g.S.Store.load_faults c.args.store.now) (g.S.Store.load_faults c.load_map.new.store) (g.S.Store.loads c.args.store.now) (g.S.Store.loads c.load_map.new.store)) TheMap _ (passes_map (g.S.Store.holds c.args.store.now) (dual_names_of c.args.files)) (λ rises. (rises, c.load_map.ensures.once)))
    c.in_err-read.field-0.0 c.in_err-read.ensures.from.1)

pub returns-in_err-read-clause-own_files : goal.returns-in_err-read-clause-own_files
returns-in_err-read-clause-own_files g c = first_of c.args.files.map.now (c.args.files.book.now ∷ []) _ _ c.load_map.ensures.named

pub returns-in_err-read-clause-in_order : goal.returns-in_err-read-clause-in_order
returns-in_err-read-clause-in_order g c = (TheMap, passes_map (g.S.Store.holds c.args.store.now) (dual_names_of c.args.files), c.load_map.ensures.once)

-- ---- the book fails

pub returns-in_err-book-clause-made : goal.returns-in_err-book-clause-made
returns-in_err-book-clause-made g c =
    let p = err_from_is_err_and c.from_residual-in_err-book.result c.from_residual-in_err-book.ensures.1 in
    rw (p.1, p.2)
    (at_book (dual_names_of c.args.files) (FailsAt (g.S.Store.load_faults c.args.store.now) (g.S.Store.load_faults c.load_book.new.store) (g.S.Store.loads c.args.store.now) (g.S.Store.loads c.load_book.new.store)) (g.S.Store.holds c.args.store.now) c.in_ok-read.field-0.map (Unit {0}) _ c.in_err-book.field-0.0 (λ rises. (rises_later _ _ _ c.load_map.ensures.faults_never_fall rises, c.load_book.ensures.once ∙ ap counted c.load_map.ensures.once))
    c.in_ok-read.ensures.from (rw c.load_map.ensures.held at c.in_err-book.ensures.from))

pub returns-in_err-book-clause-counted_loads : goal.returns-in_err-book-clause-counted_loads
returns-in_err-book-clause-counted_loads g c =
    behind_book (dual_names_of c.args.files) (Rises (g.S.Store.load_faults c.args.store.now) (g.S.Store.load_faults c.load_book.new.store)) (g.S.Store.loads c.args.store.now) (g.S.Store.loads c.load_book.new.store) (g.S.Store.holds c.args.store.now) c.in_ok-read.field-0.map (Unit {0}) _ (c.load_book.ensures.once ∙ ap counted c.load_map.ensures.once) c.in_ok-read.ensures.from

pub returns-in_err-book-clause-most : goal.returns-in_err-book-clause-most
returns-in_err-book-clause-most g c = read_dual (g.S.Store.holds c.args.store.now) c.args.files.map.now _ _ c.in_ok-read.ensures.most

pub returns-in_err-book-clause-sound : goal.returns-in_err-book-clause-sound
returns-in_err-book-clause-sound g c =
    let p = err_from_is_err_and c.from_residual-in_err-book.result c.from_residual-in_err-book.ensures.1 in
    rw (p.1, p.2)
    (sound_to _ _ (unloaded_dual (g.S.Store.holds c.args.store.now) (dual_names_of c.args.files) (FailsAt (g.S.Store.load_faults c.args.store.now) (g.S.Store.load_faults c.load_book.new.store) (g.S.Store.loads c.args.store.now) (g.S.Store.loads c.load_book.new.store)) TheBook _ (passes_book (g.S.Store.holds c.args.store.now) (dual_names_of c.args.files) c.in_ok-read.field-0.map (Unit {0}) c.in_ok-read.ensures.from) (λ rises. (rises_later _ _ _ c.load_map.ensures.faults_never_fall rises, c.load_book.ensures.once ∙ ap counted c.load_map.ensures.once)))
    c.in_err-book.field-0.0 (rw c.load_map.ensures.held at c.in_err-book.ensures.from.1))

pub returns-in_err-book-clause-own_files : goal.returns-in_err-book-clause-own_files
returns-in_err-book-clause-own_files g c = second_of c.args.files.map.now c.args.files.book.now [] _ _ _ c.load_map.ensures.named c.load_book.ensures.named

pub returns-in_err-book-clause-in_order : goal.returns-in_err-book-clause-in_order
returns-in_err-book-clause-in_order g c = (TheBook, passes_book (g.S.Store.holds c.args.store.now) (dual_names_of c.args.files) c.in_ok-read.field-0.map (Unit {0}) c.in_ok-read.ensures.from, c.load_book.ensures.once ∙ ap counted c.load_map.ensures.once)

-- ---- the texts, or want of memory

pub returns-clause-made : goal.returns-clause-made
returns-clause-made g c =
    at_texts (dual_names_of c.args.files) (FailsAt (g.S.Store.load_faults c.args.store.now) (g.S.Store.load_faults c.load_book.new.store) (g.S.Store.loads c.args.store.now) (g.S.Store.loads c.load_book.new.store)) (g.S.Store.holds c.args.store.now) c.in_ok-read.field-0.map c.in_ok-book.book (Unit {0}) (Unit {0}) c.texts.result c.in_ok-read.ensures.from (rw c.load_map.ensures.held at c.in_ok-book.ensures.from) c.texts.ensures.no_memory c.texts.ensures.text

pub returns-clause-counted_loads : goal.returns-clause-counted_loads
returns-clause-counted_loads g c =
    behind_book (dual_names_of c.args.files) (Rises (g.S.Store.load_faults c.args.store.now) (g.S.Store.load_faults c.load_book.new.store)) (g.S.Store.loads c.args.store.now) (g.S.Store.loads c.load_book.new.store) (g.S.Store.holds c.args.store.now) c.in_ok-read.field-0.map (Unit {0}) c.texts.result (c.load_book.ensures.once ∙ ap counted c.load_map.ensures.once) c.in_ok-read.ensures.from

pub returns-clause-most : goal.returns-clause-most
returns-clause-most g c = turned_dual (g.S.Store.holds c.args.store.now) c.args.files.map.now (Unit {0}) c.in_ok-read.field-0.map _ _ _ c.texts.ensures.lawful c.in_ok-read.ensures.from c.in_ok-read.ensures.most c.texts.ensures.most

pub returns-clause-own_files : goal.returns-clause-own_files
returns-clause-own_files g c = second_of c.args.files.map.now c.args.files.book.now [] _ _ _ c.load_map.ensures.named c.load_book.ensures.named

pub returns-clause-in_order : goal.returns-clause-in_order
returns-clause-in_order g c = (TheBook, passes_book (g.S.Store.holds c.args.store.now) (dual_names_of c.args.files) c.in_ok-read.field-0.map (Unit {0}) c.in_ok-read.ensures.from, c.load_book.ensures.once ∙ ap counted c.load_map.ensures.once)

pub returns-clause-sound : goal.returns-clause-sound
returns-clause-sound g c = sound_without_memory _ c.texts.result c.texts.ensures.no_memory

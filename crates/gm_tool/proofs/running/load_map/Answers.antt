use Rattle.std.proofs.Common.{Ok, Err, refl}
use Rattle.std.proofs.lemmas.Result.{err_from_is_err_and}
use Rattle.gm_host.specs.Count.{Rises}
use Rattle.gm_lines.specs.Refusing.{TheMap}
use Rattle.gm_tool.specs.RunAnswer.{IsBadMap}
use Rattle.gm_tool.specs.inner.Stops.{IsLoadedMap}
use Rattle.gm_tool.specs.declared.refusal.Role.TheVariants as roles
use Rattle.gm_tool.proofs.StepBounds.{loaded_within, unread_within}
use Rattle.gm_tool.proofs.Stopping.{not_loaded_from, read_from}
use Rattle.gm_tool.proofs.running.load_map.Goals as goal

pub returns-in_err-text-clause-from : goal.returns-in_err-text-clause-from
returns-in_err-text-clause-from g c =
    let p = err_from_is_err_and c.from_residual.result c.from_residual.ensures.1 in
    rw (p.1, p.2)
    (not_loaded_from TheMap c.args.name.now IsLoadedMap IsBadMap _ (g.S.Store.holds c.args.store.now) roles.Map refl c.in_err-text.field-0.0 c.in_err-text.ensures.loading)

pub returns-in_err-text-clause-most : goal.returns-in_err-text-clause-most
returns-in_err-text-clause-most g c = unread_within (g.S.Store.holds c.args.store.now) c.args.name.now _ _ refl

pub returns-in_err-text-clause-read : goal.returns-in_err-text-clause-read
returns-in_err-text-clause-read g c = rw (err_from_is_err_and c.from_residual.result c.from_residual.ensures.1).1 tt

pub returns-in_err-text-clause-least : goal.returns-in_err-text-clause-least
returns-in_err-text-clause-least g c = rw (err_from_is_err_and c.from_residual.result c.from_residual.ensures.1).1 tt

-- ---- the text stands for no map

pub returns-in_err-map-clause-from : goal.returns-in_err-map-clause-from
returns-in_err-map-clause-from g c =
    let p = err_from_is_err_and c.from_residual-in_err-map.result c.from_residual-in_err-map.ensures.1 in
    rw (p.1, p.2)
    (read_from TheMap c.args.name.now IsLoadedMap IsBadMap (Rises (g.S.Store.load_faults c.args.store.now) (g.S.Store.load_faults c.load_file.new.store)) (g.S.Store.holds c.args.store.now) c.in_ok-text.text.items (Err c.in_err-map.field-0.0) c.in_ok-text.ensures.loading
    tt (rw c.as_slice.ensures.value at c.in_err-map.ensures.stop))

pub returns-in_err-map-clause-most : goal.returns-in_err-map-clause-most
returns-in_err-map-clause-most g c = loaded_within (g.S.Store.holds c.args.store.now) c.args.name.now c.in_ok-text.text.items _ _ c.in_ok-text.ensures.loading.1 (rw c.as_slice.ensures.value at c.in_err-map.ensures.most)

pub returns-in_err-map-clause-read : goal.returns-in_err-map-clause-read
returns-in_err-map-clause-read g c = rw (err_from_is_err_and c.from_residual-in_err-map.result c.from_residual-in_err-map.ensures.1).1 tt

pub returns-in_err-map-clause-least : goal.returns-in_err-map-clause-least
returns-in_err-map-clause-least g c = rw (err_from_is_err_and c.from_residual-in_err-map.result c.from_residual-in_err-map.ensures.1).1 tt

-- ---- the map is read

pub returns-clause-read : goal.returns-clause-read
returns-clause-read g c = (c.as_slice.result.now, c.in_ok-map.ensures.map)

pub returns-clause-from : goal.returns-clause-from
returns-clause-from g c =
    read_from TheMap c.args.name.now IsLoadedMap IsBadMap (Rises (g.S.Store.load_faults c.args.store.now) (g.S.Store.load_faults c.load_file.new.store)) (g.S.Store.holds c.args.store.now) c.in_ok-text.text.items (Ok (record { map = c.in_ok-map.map; text = c.in_ok-text.text })) c.in_ok-text.ensures.loading
    (rw c.as_slice.ensures.value at c.in_ok-map.ensures.map) tt

pub returns-clause-most : goal.returns-clause-most
returns-clause-most g c = loaded_within (g.S.Store.holds c.args.store.now) c.args.name.now c.in_ok-text.text.items _ _ c.in_ok-text.ensures.loading.1 (rw c.as_slice.ensures.value at c.in_ok-map.ensures.most)

use Rattle.std.proofs.Common.{List, ℕ, ◌∷◌, ◌++◌, ap, ◌∙◌, arith}
use Rattle.std.specs.Prelude.{decimal, map}
use Rattle.std.specs.List.{flat_map}
use Rattle.std.proofs.lemmas.List.{length-drop, nil_from_length}
use Rattle.gm_arena.specs.inner.ArenaMap.{name_at}
use Rattle.gm_arena.specs.declared.slot.Slot.{Slot}
use Rattle.gm_mapfile.specs.MapText.{value_text}
use Rattle.gm_mapfile.proofs.printing.write_line.Goals as goal

pub returns-clause-line : goal.returns-clause-line
returns-clause-line g c =
    let names = flat_map (λ a. 32 ∷ decimal a) (map (λ (s : Slot). name_at c.args.arena.now s.at) c.args.row.alphas.now) in
    let values = flat_map (λ v. 32 ∷ value_text v) c.args.row.values.now in
    let nothing = nil_from_length _ (omega (arith, length-drop 620 c.args.line.now, c.fits-line)) in
    c.write_names.ensures.written ∙ ap (λ (xs : List ℕ). decimal c.args.row.name ++ (names ++ xs)) (c.write_values-first.ensures.written ∙ ap (λ (xs : List ℕ). values ++ xs) (c.write_word-feed.ensures.written ∙ ap (λ (xs : List ℕ). 10 ∷ xs) nothing))

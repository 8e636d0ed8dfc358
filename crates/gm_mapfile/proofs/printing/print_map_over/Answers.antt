use Rattle.std.proofs.Common.{ℕ, ◌+◌, ◌≤◌, List, ◌++◌, sym, ap, subst, ◌∙◌, arith}
use Rattle.gm_model.proofs.Exits.{unless_ok}
use Rattle.gm_mapfile.proofs.Printed.{printed_within}
use Rattle.gm_mapfile.specs.MapText.{MapText, canonical}
use Rattle.gm_mapfile.specs.inner.Printing.{renumbered}
use Rattle.gm_mapfile.specs.inner.Rows.{listed_of}
use Rattle.gm_mapfile.proofs.ArenaDarts.{darts_ascending}
use Rattle.gm_mapfile.proofs.Printable.{arena_printed}
use Rattle.gm_mapfile.proofs.SoundRows.{as_listed}
use Rattle.gm_mapfile.proofs.printing.print_map_over.Goals as goal

no_less : (old more : ℕ) → old ≤ old + more
no_less old more = omega arith

pub returns-clause-most : goal.returns-clause-most
returns-clause-most g c =
    let m = c.args.arena.now in
    printed_within m.schema.dim m.count c.args.steps.now c.print_text.new.steps c.print_text.ensures.most

pub returns-in_err-text-clause-text : goal.returns-in_err-text-clause-text
returns-in_err-text-clause-text g c = unless_ok _ c.from_residual.result c.from_residual.ensures.0

pub returns-in_err-text-clause-least : goal.returns-in_err-text-clause-least
returns-in_err-text-clause-least g c = unless_ok _ c.from_residual.result c.from_residual.ensures.0

pub returns-in_err-print_text-clause-text : goal.returns-in_err-print_text-clause-text
returns-in_err-print_text-clause-text g c = unless_ok _ c.from_residual-in_err-print_text.result c.from_residual-in_err-print_text.ensures.0

pub returns-in_err-print_text-clause-least : goal.returns-in_err-print_text-clause-least
returns-in_err-print_text-clause-least g c = unless_ok _ c.from_residual-in_err-print_text.result c.from_residual-in_err-print_text.ensures.0

pub returns-in_err-text-clause-canonical : goal.returns-in_err-text-clause-canonical
returns-in_err-text-clause-canonical g c = unless_ok _ c.from_residual.result c.from_residual.ensures.0

pub returns-in_err-text-clause-stands : goal.returns-in_err-text-clause-stands
returns-in_err-text-clause-stands g c = unless_ok _ c.from_residual.result c.from_residual.ensures.0

pub returns-in_err-print_text-clause-canonical : goal.returns-in_err-print_text-clause-canonical
returns-in_err-print_text-clause-canonical g c = unless_ok _ c.from_residual-in_err-print_text.result c.from_residual-in_err-print_text.ensures.0

pub returns-in_err-print_text-clause-stands : goal.returns-in_err-print_text-clause-stands
returns-in_err-print_text-clause-stands g c = unless_ok _ c.from_residual-in_err-print_text.result c.from_residual-in_err-print_text.ensures.0

pub returns-clause-text : goal.returns-clause-text
returns-clause-text g c = c.into_bytes.ensures ∙ c.in_ok-print_text.ensures.text ∙ ap (λ (before : List ℕ). before ++ canonical c.args.version (listed_of c.args.arena.now)) c.in_ok-text.ensures

pub returns-clause-canonical : goal.returns-clause-canonical
returns-clause-canonical g c sound = record {
  is = returns-clause-text g c;
  ascending = darts_ascending c.args.arena.now;
  sound = as_listed c.args.arena.now c.room_for.ensures sound;
}

pub returns-clause-stands : goal.returns-clause-stands
returns-clause-stands g c sound =
    let m = c.args.arena.now in
    let version = c.args.version in
    subst (λ (bytes : List ℕ). MapText bytes version (renumbered version (listed_of m))) (sym (returns-clause-text g c)) (arena_printed version m c.room_for.ensures c.in_ok-print_text.ensures.parts sound)

pub print_text-requires : goal.print_text-requires
print_text-requires g c = c.room_for.ensures

pub returns-in_err-text-clause-most : goal.returns-in_err-text-clause-most
returns-in_err-text-clause-most g c = no_less c.args.steps.now _

pub returns-in_err-print_text-clause-most : goal.returns-in_err-print_text-clause-most
returns-in_err-print_text-clause-most g c =
    let m = c.args.arena.now in
    printed_within m.schema.dim m.count c.args.steps.now c.print_text.new.steps c.print_text.ensures.most

pub returns-clause-least : goal.returns-clause-least
returns-clause-least g c = c.in_ok-print_text.ensures.least

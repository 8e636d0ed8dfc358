use Rattle.gm_model.proofs.Exits.{never_ok}
use Rattle.gm_mapfile.proofs.Joined.{ok_more}
use Rattle.gm_mapfile.proofs.Printed.{text_with}
use Rattle.gm_mapfile.proofs.printing.print_text.Goals as goal

pub returns-clause-text : goal.returns-clause-text
returns-clause-text g c = ok_more c.print_lines.result (text_with c.args.version c.args.arena.now c.args.text.now c.print_header.new.text c.print_lines.new.text c.requires c.in_ok-print_header.ensures.text) c.print_lines.ensures.lines

pub returns-in_err-print_header-clause-text : goal.returns-in_err-print_header-clause-text
returns-in_err-print_header-clause-text g c = never_ok _ c.from_residual.result c.from_residual.ensures.0

pub returns-in_err-print_header-clause-parts : goal.returns-in_err-print_header-clause-parts
returns-in_err-print_header-clause-parts g c = never_ok _ c.from_residual.result c.from_residual.ensures.0

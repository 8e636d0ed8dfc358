use Rattle.gm_model.proofs.Exits.{never_ok}
use Rattle.gm_mapfile.proofs.printing.print_header.Goals as goal

pub returns-in_err-print_version-clause-text : goal.returns-in_err-print_version-clause-text
returns-in_err-print_version-clause-text c = never_ok _ c.from_residual.result c.from_residual.ensures.0

pub returns-in_err-print_version-clause-parts : goal.returns-in_err-print_version-clause-parts
returns-in_err-print_version-clause-parts c = never_ok _ c.from_residual.result c.from_residual.ensures.0

pub returns-in_err-print_schema-clause-text : goal.returns-in_err-print_schema-clause-text
returns-in_err-print_schema-clause-text c = never_ok _ c.from_residual-in_err-print_schema.result c.from_residual-in_err-print_schema.ensures.0

pub returns-in_err-print_schema-clause-parts : goal.returns-in_err-print_schema-clause-parts
returns-in_err-print_schema-clause-parts c = never_ok _ c.from_residual-in_err-print_schema.result c.from_residual-in_err-print_schema.ensures.0

pub returns-in_err-print_next-clause-text : goal.returns-in_err-print_next-clause-text
returns-in_err-print_next-clause-text c = never_ok _ c.from_residual-in_err-print_next.result c.from_residual-in_err-print_next.ensures.0

pub returns-in_err-print_next-clause-parts : goal.returns-in_err-print_next-clause-parts
returns-in_err-print_next-clause-parts c = never_ok _ c.from_residual-in_err-print_next.result c.from_residual-in_err-print_next.ensures.0

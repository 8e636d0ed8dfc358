use Rattle.std.proofs.Common.{◌≡◌, ◌++◌, take}
use Rattle.std.specs.List.{flat_map}
use Rattle.gm_text.specs.SchemaText.{embed_line}
use Rattle.gm_text.proofs.SchemaPrinted.{ArePartsBelow}
use Rattle.gm_text.proofs.schema_printing.print_embeds.Given as goal

abbrev pub invariant-loop-embed : goal.invariant-loop-embed
invariant-loop-embed l = record {
  so_far : l.out ≡ l.fn.out ++ flat_map embed_line (take l.embed-index l.embeds);
  parts : ArePartsBelow l.embeds l.embed-index;
}

-- The faults of the single passes as faults of the whole.
use Rattle.std.specs.Prelude.{ℕ, List, Option, None, slice_get}
use Rattle.std.specs.Option.{option_map}
use Rattle.gm_model.specs.declared.schema.Embed.{Embed}
use Rattle.gm_laws.specs.declared.breach.LawFault.{LawFault}
use Rattle.gm_laws.specs.declared.breach.LawFault.TheVariants as laws
use Rattle.gm_laws.specs.declared.breach.MapBreach.TheVariants as breaches
use Rattle.gm_text.specs.declared.schema_fault.SchemaFault.{SchemaFault}
use Rattle.gm_text.specs.declared.schema_fault.SchemaFault.TheVariants as texts
use Rattle.gm_mapfile.specs.declared.fault.MapFault.{MapFault}
use Rattle.gm_mapfile.specs.declared.fault.MapFault.TheVariants as faults

abbrev pub map_fault_of_text : SchemaFault → MapFault
map_fault_of_text (texts.Text place) = faults.Text place
map_fault_of_text (texts.Limit what place) = faults.Limit what place
map_fault_of_text (texts.Twice place) = faults.Twice place
map_fault_of_text texts.OutOfMemory = faults.OutOfMemory

abbrev pub map_fault_of_laws : LawFault → MapFault
map_fault_of_laws (laws.Breach breach) = faults.Breach breach
map_fault_of_laws laws.OutOfMemory = faults.OutOfMemory

-- the name of the embedding whose values differ, where that is the breach
abbrev pub name_told : List Embed → LawFault → Option (List ℕ)
name_told embeds (laws.Breach (breaches.Embedding e dart other)) = option_map (λ (embed : Embed). embed.name) (slice_get embeds e)
name_told embeds _ = None

use Rattle.std.proofs.Common.{ap, sym, ◌∙◌, ℕ, Some, Vec, Global}
use Rattle.std.specs.FinMap as map
use Rattle.std.specs.Option.{option_map}
use Rattle.gm_host.proofs.Lookups.{get-files_of}
use Rattle.gm_host.proofs.file_table.FileTable.get.Goals as goal

pub returns-in-Some : goal.returns-in-Some
returns-in-Some c =
    ap Some c.as_slice.ensures.value
    ∙ ap (option_map (λ (held : Vec ℕ Global). held.items)) c.in-Some.ensures.value
    ∙ sym (get-files_of c.args.name.now c.self.inside.files)
    ∙ ap (λ files. map.get files c.args.name.now) c.self.view_is

pub returns-in-None : goal.returns-in-None
returns-in-None c =
    ap (option_map (λ (held : Vec ℕ Global). held.items)) c.in-None.ensures.value
    ∙ sym (get-files_of c.args.name.now c.self.inside.files)
    ∙ ap (λ files. map.get files c.args.name.now) c.self.view_is

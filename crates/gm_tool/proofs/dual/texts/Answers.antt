use Rattle.std.proofs.Common.{ap, ◌∙◌, ◌++◌}
use Rattle.gm_tool.proofs.dual.texts.Goals as goal

pub map_text-requires : goal.map_text-requires
map_text-requires g c = c.requires.map.1.sound

pub returns-clause-text : goal.returns-clause-text
returns-clause-text g c = record { of_map = c.in_ok-text.text.items; of_map_is = c.in_ok-text.ensures.text; is = c.in_ok-extend_from_slice.ensures.items ∙ ap (λ more. c.in_ok-text.text.items ++ more) (c.as_slice.ensures.value ∙ c.in_ok-more.ensures) }

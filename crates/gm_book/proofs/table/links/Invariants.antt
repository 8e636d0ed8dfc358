use Rattle.std.proofs.Common.{◌≡◌, ◌++◌, map, drop}
use Rattle.gm_forms.specs.BookText.{links_in}
use Rattle.gm_forms.specs.inner.Forms.{item_of}
use Rattle.gm_forms.specs.inner.Held.{names_held}
use Rattle.gm_book.proofs.table.links.Given as goal

abbrev pub invariant-loop-item : goal.invariant-loop-item
invariant-loop-item l =
    l.links.items ++ links_in (names_held l.names) (map (item_of l.text) (drop l.item-index l.items)) ≡ links_in (names_held l.names) (map (item_of l.text) l.items)

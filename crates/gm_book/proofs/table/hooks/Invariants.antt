use Rattle.std.proofs.Common.{◌≡◌, ◌++◌, map, drop}
use Rattle.gm_forms.specs.BookText.{hooks_in}
use Rattle.gm_forms.specs.inner.Forms.{item_of}
use Rattle.gm_forms.specs.inner.Held.{names_held}
use Rattle.gm_book.proofs.table.hooks.Given as goal

abbrev pub invariant-loop-item : goal.invariant-loop-item
invariant-loop-item l =
    l.hooks.items ++ hooks_in (names_held l.names) (map (item_of l.text) (drop l.item-index l.items)) ≡ hooks_in (names_held l.names) (map (item_of l.text) l.items)

use Rattle.std.proofs.Common.{◌≡◌, map, drop}
use Rattle.gm_forms.specs.BookText.{word_in}
use Rattle.gm_forms.specs.inner.Forms.{item_of}
use Rattle.gm_book.proofs.table.word_of.Given as goal

abbrev pub invariant-loop-item : goal.invariant-loop-item
invariant-loop-item l = word_in (map (item_of l.text) (drop l.item-index l.items)) l.name ≡ word_in (map (item_of l.text) l.items) l.name

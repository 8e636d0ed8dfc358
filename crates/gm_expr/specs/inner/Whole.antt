-- A text that is one expression and nothing else.
use Rattle.std.specs.Prelude.{ℕ, List, length}
use Rattle.gm_model.specs.Trees.{Tree}
use Rattle.gm_text.specs.inner.Cursor.{Cursor}
use Rattle.gm_parse.specs.inner.Answers.{IsExprRead}
use Rattle.gm_parse.specs.Meaning.{Names}

abbrev pub cursor_at : List ℕ → ℕ → Cursor
cursor_at text place = record { text = text; place = place }

-- The text is read as the tree from its beginning to its end, where labels go up to n and these are the names that are known.
abbrev pub IsReadWhole : ℕ → Names → List ℕ → Tree → Type 0
IsReadWhole n names text tree = IsExprRead n names (cursor_at text 0) (cursor_at text (length text)) tree

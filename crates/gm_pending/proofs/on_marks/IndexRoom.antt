-- What marking a dart asks of plain numbers, and what is found of a dart.
use Rattle.std.proofs.Common.{◌≡◌, ℕ, ◌<◌, true, List, Option, None, Some, MatchOption, arith}
use Rattle.std.specs.Option.{is_some}
use Rattle.std.proofs.lemmas.Bool.{false≢true}
use Rattle.gm_walk.specs.declared.mark.Mark.{Mark}
use Rattle.gm_pending.specs.inner.Marks.{bit_of, HasKey, IsMarkedBy, IsQuick}

-- a bit is one of 64
pub bit_below : (bit key : ℕ) → bit ≡ bit_of key → bit < 64
bit_below bit key is = rw is (omega arith)

pub some_below : (marks quick : ℕ) → marks < quick → 0 < quick
some_below marks quick below = omega arith

-- without quickness nothing is asked of the room
pub not_quick : {I : Type 0} (capacity : ℕ) (index : Option I) → IsQuick 0 capacity index
not_quick capacity index = (omega arith, λ some. absurd (omega (arith, some)))

-- a dart with an instance is marked
pub found_marked : (reached : List Mark) (key : ℕ) (found : Option ℕ) → is_some found ≡ true → MatchOption found (HasKey reached key → ⊥) (IsMarkedBy reached key) → HasKey reached key
found_marked reached key (Some k) some m = (m.0, m.1, m.2)
found_marked reached key None some m = absurd (false≢true some)

-- The order in which faults of names count.
use Rattle.std.proofs.Common.{◌≡◌, inl, inr, refl, ap, arith}
use Rattle.gm_parse.specs.Meaning.{NameFault, UnknownAt, TwiceAt, IsNotAfter}

pub not_after_itself : (fault : NameFault) → IsNotAfter fault fault
not_after_itself fault = inr (refl, omega arith)

pub not_after_then : (one two three : NameFault) → IsNotAfter one two → IsNotAfter two three → IsNotAfter one three
not_after_then one two three (inl less) (inl more) = inl (omega (arith, less, more))
not_after_then one two three (inl less) (inr same) = inl (omega (arith, less, same.0))
not_after_then one two three (inr same) (inl more) = inl (omega (arith, same.0, more))
not_after_then one two three (inr same) (inr other) = inr (omega (arith, same.0, other.0), omega (arith, same.1, other.1))

-- two of which neither counts before the other are one
pub same_in_order : (one other : NameFault) → IsNotAfter one other → IsNotAfter other one → one ≡ other
same_in_order one other (inl less) (inl more) = absurd (omega (arith, less, more))
same_in_order one other (inl less) (inr same) = absurd (omega (arith, less, same.0))
same_in_order one other (inr same) (inl more) = absurd (omega (arith, same.0, more))
same_in_order (TwiceAt place) (TwiceAt other) (inr same) (inr back) = ap TwiceAt same.0
same_in_order (UnknownAt place) (UnknownAt other) (inr same) (inr back) = ap UnknownAt same.0
same_in_order (TwiceAt place) (UnknownAt other) (inr same) (inr back) = absurd (omega (arith, back.1))
same_in_order (UnknownAt place) (TwiceAt other) (inr same) (inr back) = absurd (omega (arith, same.1))

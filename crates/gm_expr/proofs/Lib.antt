pub mod Found
pub mod Canonical
pub mod CanonicalLength
pub mod CanonicalMeaning
pub mod CanonicalPlaces
pub mod CanonicalRead
pub mod CanonicalSymbols
pub mod MaskLabels
pub mod NoShorter
pub mod ReadWritable
pub mod Sizes
pub mod SpelledBefore
mod Worked

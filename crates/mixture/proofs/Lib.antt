-- The laws of a mixture's bounds, of an accepted mixture and its sums as they are worked out, and of the call.
pub mod BoundLaws
pub mod SumLaws
pub mod Theorems

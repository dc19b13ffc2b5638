-- What a check says and the law of it; whether totals fit; the greatest bound of a tree; and the best walks of bids.
pub mod Verdicts
pub mod VerdictLaws
pub mod Fits
pub mod Leaves
pub mod Bounds
pub mod Frees
pub mod BestOnWay

-- `ClaimLaws`: lines as claims. `ClaimWalk`: the walk over them.
pub mod ClaimLaws
pub mod ClaimWalk

pub mod Filling
pub mod Fronts
pub mod Pieces
pub mod Tied
pub mod OnErrs
pub mod Gathering
pub mod TiedWatched
pub mod TiedGathered

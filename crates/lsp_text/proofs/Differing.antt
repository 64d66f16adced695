-- Where two texts first differ, and the lines, positions and characters in which places lie.
pub mod Differences
pub mod LineStarts
pub mod LinePlaces
pub mod PlacePositions
pub mod InsideCharacter

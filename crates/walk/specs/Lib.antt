-- What the walk's functions answer, beside what the definitions of crate image say.
pub mod Each
pub mod Passing
pub mod Seeing
pub mod Pouring
pub mod Seen
pub mod SeenBook

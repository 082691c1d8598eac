-- The work area: its layout, what its tables say of a book, and what writing them leaves.
pub mod paper
pub mod Area
pub mod Ground
pub mod Lay
pub mod Links
pub mod Cells

-- What the tests of fields answer, beside what the definitions of crate image say.
pub mod Taking

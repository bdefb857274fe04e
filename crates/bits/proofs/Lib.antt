-- Claims says that the contracts leave no choice. They cite no definition but the language's own on doubles.
pub mod Claims

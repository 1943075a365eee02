pub mod OfBook

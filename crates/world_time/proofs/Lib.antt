pub mod TimelyLaws

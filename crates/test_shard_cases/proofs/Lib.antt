pub mod IntactLaws

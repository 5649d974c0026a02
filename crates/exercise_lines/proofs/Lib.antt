pub mod RepeatLaws

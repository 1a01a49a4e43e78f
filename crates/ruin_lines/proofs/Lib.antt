pub mod RuinLaws

pub mod OneArc

mod NextTurn
pub mod OneByOne

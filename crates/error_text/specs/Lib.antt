pub mod SyntaxText
pub mod RefusalText
pub mod TallyText
pub mod CrossingText

pub mod CommentParts
pub mod ReadAndJudged

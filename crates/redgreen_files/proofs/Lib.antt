pub mod FeedLaws
pub mod FileLaws

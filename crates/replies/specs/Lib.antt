pub mod StateShown
pub mod Replies
pub mod Framed
pub mod Sends

pub mod Feeds
pub mod PairFeeds
pub mod PairTold
pub mod Compiling
pub mod Searches
pub mod Told
pub mod Turns

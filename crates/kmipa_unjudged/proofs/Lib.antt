pub mod StepLemmas
pub mod FollowLemmas
pub mod KnownLemmas
pub mod RankLemmas
pub mod NamingLemmas

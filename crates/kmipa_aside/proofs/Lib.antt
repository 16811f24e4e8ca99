mod BlameLemmas
mod BodyLemmas
mod EverLemmas
mod InSightLemmas
mod LawLemmas
mod ListingLemmas
mod MissedLemmas
mod NamesLemmas
mod NearLemmas
mod PermittedLemmas
mod PlaceLemmas
mod PlainLemmas
mod RebornLemmas
mod RepeatLemmas
mod SeenLemmas
mod SeenNamesLemmas
mod SightLemmas
mod TakenLemmas
mod WithoutLemmas
pub mod ScanLemmas
pub mod SettingLemmas

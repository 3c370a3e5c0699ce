mod Collected
mod Cutting
mod Decided
mod Spelling
mod Zipped

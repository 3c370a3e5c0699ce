mod FirstKeys
mod Keys
mod Prefixes
mod Rounds
mod Writing

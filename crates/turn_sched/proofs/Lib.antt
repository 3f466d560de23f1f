mod Places
mod Rings
mod Rounds

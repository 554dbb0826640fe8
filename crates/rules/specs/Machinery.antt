-- Machinery: programs and what they compute with. Nothing in this folder has to be believed: the demands judge what these programs say
-- by the definitions outside it, and proofs/ shows that they say it.
pub mod Unify
pub mod Run
pub mod Play

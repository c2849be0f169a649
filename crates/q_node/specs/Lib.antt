-- What a node that runs apart says at its console, why it does not begin, and how its run ends; what its lock keeps,
-- keeps true, and what the calls under it do; a node whose cluster's file, socket, door and journal are named by words.
pub mod Console
pub mod Faults
pub mod Journal
pub mod Runs
pub mod Talks
pub mod State
pub mod Own
pub mod Calls
pub mod Files

-- The definitions are of messages.
pub use Rattle.sc_msg.specs.Messages
pub use Rattle.sc_msg.specs.Fault
pub use Rattle.sc_msg.specs.Lengths

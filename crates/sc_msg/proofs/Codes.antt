-- Kinds and their bytes.
use Rattle.std.proofs.Common.{◌≡◌, Some, refl}
use Rattle.sc_msg.specs.declared.kind.MessageKind.{MessageKind}
use Rattle.sc_msg.specs.declared.kind.MessageKind.TheVariants as kinds
use Rattle.sc_msg.specs.Kinds.{code, kind_at}

pub kind_at-code : (k : MessageKind) → kind_at (code k) ≡ Some k
kind_at-code kinds.Enter = refl
kind_at-code kinds.EnterEcho = refl
kind_at-code kinds.Join = refl
kind_at-code kinds.JoinEcho = refl
kind_at-code kinds.Leave = refl
kind_at-code kinds.LeaveEcho = refl
kind_at-code kinds.Store = refl
kind_at-code kinds.StoreAck = refl
kind_at-code kinds.StoreEcho = refl
kind_at-code kinds.CollectQuery = refl
kind_at-code kinds.CollectReply = refl

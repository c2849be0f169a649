-- Operations: which ended before others began, which meet, what a collect returned, and what a view holds.
use Rattle.std.specs.Prelude.{◌≡◌, ℕ, ◌≤◌, ◌<◌, Option, Some, None}
pub use Rattle.forms.specs.Lists.{Among}
use Rattle.sc_view.specs.Views.{ViewMap, number_at}
use Rattle.sc_members.specs.Ids.{Has, IsLeastCommon}
use Rattle.sc_operations.specs.declared.session.OperationKind.{OperationKind}
use Rattle.sc_operations.specs.declared.session.OperationKind.TheVariants as kind
use Rattle.sc_operations.specs.Sessions.{kind_of, stored, repliers, ackers}
use Rattle.sc_world.specs.declared.op.Op.{Op}

-- the first operation ended before the second began
pub record IsBefore (a b : Op) : Type 0 where
  pub place : ℕ
  pub ended : a.end ≡ Some place
  pub earlier : place < b.begin

-- the node acknowledged what the first stored, or stored back, and replied to the second
pub record MeetsAt (a b : Op) (id : ℕ) : Type 0 where
  pub acked : Has (ackers a.session) id
  pub replied : Has (repliers b.session) id

-- some node did
pub record Meets (a b : Op) : Type 0 where
  pub id : ℕ
  pub at : MeetsAt a b id

-- the least such node, or none where there is none
abbrev pub IsMeeting : Op → Op → Option ℕ → Type 0
IsMeeting a b least = IsLeastCommon (ackers a.session) (repliers b.session) least

abbrev pub returned_by : OperationKind → Option ℕ → Option ViewMap → Option ViewMap
returned_by kind.Collect (Some end) view = view
returned_by k end view = None

-- the view that an ended collect returned
abbrev pub returned : Op → Option ViewMap
returned o = returned_by (kind_of o.session) o.end (stored o.session)

-- the view has at least this number of the node
abbrev pub Holds : ViewMap → ℕ → ℕ → Type 0
Holds view node number = number ≤ number_at view node

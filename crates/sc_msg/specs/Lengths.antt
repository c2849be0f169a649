-- The lengths of a message's values.
use Rattle.std.specs.Prelude.{Bool, true, Option, Some, None, IfSome}
use Rattle.sc_view.specs.Values.{Lengths}
use Rattle.sc_view.specs.Views.{ViewMap, HasValuesWithin}
use Rattle.sc_view.specs.Views as view
use Rattle.sc_msg.specs.declared.message.Body.{Body}
use Rattle.sc_msg.specs.declared.message.Body.TheVariants as bodies
use Rattle.sc_msg.specs.declared.message.Message.{Message}
use Rattle.sc_msg.specs.declared.version.Version.{Version}
use Rattle.sc_msg.specs.Values.{value_lengths}

-- the view that a body tells
abbrev pub view_of : Body → Option ViewMap
view_of (bodies.EnterEcho e) = Some e.view
view_of (bodies.Store s) = Some s.view
view_of (bodies.StoreEcho v) = Some v
view_of (bodies.CollectReply r) = Some r.view
view_of b = None

-- each value that a body tells has one of these lengths
abbrev pub BodyHasValuesWithin : Lengths → Body → Type 0
BodyHasValuesWithin l body = IfSome (view_of body) (HasValuesWithin l)

-- each value that the message tells has one of these lengths
abbrev pub MessageHasValuesWithin : Lengths → Message → Type 0
MessageHasValuesWithin l m = BodyHasValuesWithin l m.body

abbrev pub told_values_within : Lengths → Option ViewMap → Bool
told_values_within l None = true
told_values_within l (Some v) = view.has_values_within l v

-- whether each has
abbrev pub has_values_within : Lengths → Message → Bool
has_values_within l m = told_values_within l (view_of m.body)

-- ---- what can be written in a version

abbrev pub BodyFits : Version → Body → Type 0
BodyFits version body = BodyHasValuesWithin (value_lengths version) body

abbrev pub Fits : Version → Message → Type 0
Fits version m = MessageHasValuesWithin (value_lengths version) m

-- whether it can
abbrev pub fits : Version → Message → Bool
fits version m = has_values_within (value_lengths version) m

-- The one table of reasons: by which number and name each is told.
use Rattle.std.specs.Prelude.{ℕ, List, ◌∷◌, ◌++◌, codes}
use Rattle.std.specs.Fmt.{decimal}
use Rattle.reasons.specs.declared.Reason.{Reason}
use Rattle.reasons.specs.declared.Reason.TheVariants as reason

abbrev pub row : Reason → ℕ × List ℕ
row reason.BadLength = (1, codes "BadLength")
row reason.TooLong = (2, codes "TooLong")
row reason.BadOpcode = (3, codes "BadOpcode")
row reason.BadRegister = (4, codes "BadRegister")
row reason.UnusedField = (5, codes "UnusedField")
row reason.BadField = (6, codes "BadField")
row reason.CutWide = (7, codes "CutWide")
row reason.LeftOut = (8, codes "LeftOut")
row reason.Syntax = (9, codes "Syntax")
row reason.Label = (10, codes "Label")
row reason.Backward = (11, codes "Backward")
row reason.OutsideText = (12, codes "OutsideText")
row reason.IntoWide = (13, codes "IntoWide")
row reason.FallsOff = (14, codes "FallsOff")
row reason.WrongCount = (21, codes "WrongCount")
row reason.Entry = (22, codes "Entry")
row reason.UnsetRegister = (23, codes "UnsetRegister")
row reason.WrongKind = (24, codes "WrongKind")
row reason.OutsideFrame = (25, codes "OutsideFrame")
row reason.OutsideRecord = (26, codes "OutsideRecord")
row reason.RecordWritten = (27, codes "RecordWritten")
row reason.FramePointerWritten = (28, codes "FramePointerWritten")
row reason.NotCovered = (29, codes "NotCovered")
row reason.AnswerKind = (30, codes "AnswerKind")
row reason.NoteForm = (31, codes "NoteForm")
row reason.NotJoined = (41, codes "NotJoined")
row reason.Gone = (42, codes "Gone")
row reason.SessionsFull = (43, codes "SessionsFull")
row reason.IdUsed = (44, codes "IdUsed")
row reason.BadFraction = (45, codes "BadFraction")
row reason.ViewFull = (46, codes "ViewFull")
row reason.FactsFull = (47, codes "FactsFull")
row reason.NumbersOut = (48, codes "NumbersOut")
row reason.BadFounders = (49, codes "BadFounders")
row reason.BadValue = (50, codes "BadValue")
row reason.UnknownProgram = (51, codes "UnknownProgram")
row reason.TableFull = (52, codes "TableFull")
row reason.BookFull = (53, codes "BookFull")
row reason.NoSuchQuery = (54, codes "NoSuchQuery")
row reason.Stranger = (55, codes "Stranger")
row reason.AlreadyAnswered = (56, codes "AlreadyAnswered")
row reason.JournalForm = (57, codes "JournalForm")
row reason.JournalMismatch = (58, codes "JournalMismatch")
row reason.WrongBounds = (59, codes "WrongBounds")
row reason.RowFull = (61, codes "RowFull")
row reason.BadCount = (62, codes "BadCount")
row reason.BadHead = (71, codes "BadHead")
row reason.Short = (72, codes "Short")
row reason.LongMessage = (73, codes "TooLong")
row reason.BadKind = (74, codes "BadKind")
row reason.Unsorted = (75, codes "Unsorted")
row reason.Extra = (76, codes "Extra")
row reason.MessageField = (77, codes "BadField")
row reason.NoSuchNode = (81, codes "NoSuchNode")
row reason.NeverSent = (82, codes "NeverSent")
row reason.NoSuchJob = (83, codes "NoSuchJob")
row reason.BadRequest = (84, codes "BadRequest")
row reason.CutRequest = (85, codes "CutRequest")
row reason.TransportFailed = (86, codes "TransportFailed")
row reason.FileFailed = (87, codes "FileFailed")
row reason.ReadUnset = (91, codes "ReadUnset")
row reason.WroteFramePointer = (92, codes "WroteFramePointer")
row reason.OutsideAccess = (93, codes "OutsideAccess")
row reason.WroteRecord = (94, codes "WroteRecord")
row reason.BadPlace = (95, codes "BadPlace")
row reason.StepsOut = (96, codes "StepsOut")
row reason.OutOfMemory = (99, codes "OutOfMemory")

abbrev pub number : Reason → ℕ
number r = (row r).0

abbrev pub name : Reason → List ℕ
name r = (row r).1

-- the number and the name, with a space between
abbrev pub text : Reason → List ℕ
text r = decimal (number r) ++ (32 ∷ name r)
